-- The kernel: its entries by their rule, its symmetry, and its sign. The whole table is told by the forty-five weights that occur, which antt computes
-- with libm's exp: the proof of `kernels::kernel` compares it with them.
use mathlib.Core.Path.{◌≡◌, refl, sym, ap, ◌∙◌}
use mathlib.Core.Bool.{Bool, true, false, ◌&&◌, beq}
use mathlib.Core.List.{List, [], ◌∷◌}
use mathlib.Core.Logic.{⊎_elim}
use Prim.Native.Nat.{ℕ, ◌+◌, ◌*◌, ◌≤◌, ◌<◌, min, max}
use native.Mathlib.Nat.{add_comm, le_of_lt, min-eq_left, min-eq_right, max-eq_left, max-eq_right}
use native.Mathlib.Omega.{arith}
use lib.ListN.{get_or}
use lib.Ieee.{Float, nan, of_bits, to_bits, of_int, to_unsigned, add, sub, mul, div, neg, le, lt, ne, sum, round, units, size, span, climb, odd, of_fields}
use Rattle.numbers.specs.Rounded.{◌⊗◌, bits, pick, one}
use Rattle.numbers.specs.Limits.{similarity_fine}
use Rattle.numbers.specs.Lists.{curve, every}
use Rattle.numbers.proofs.Tabs.{get_or-curve, length-tab, tab_ext}
use Rattle.numbers.proofs.Everys.{every-at}
use Rattle.numbers.proofs.Tests.{lt_or_le, and_left, and_right}
use Rattle.sizes.proofs.Order.{true→T}
use Rattle.floats.specs.Exps.{exp_of, exp_at, exp_sized, folds_of, exp_by, exp_less, exp_near, scale_up, scale_down, times_up, times_down}
use Rattle.kernels.specs.Kernel.{places, away, alike, sign_at, weight_of, kernel_at, kernel_table}
use Rattle.kernels.proofs.Tables.{same_float, float_is}

-- the rule at each entry
pub kernel_entry : (u v : ℕ) → u < 16 → v < 16 → get_or (get_or kernel_table u []) v nan ≡ kernel_at u v
unfolding kernel_table
kernel_entry u v h k =
    ap (λ (r : List Float). get_or r v nan) (get_or-curve (λ u. curve (kernel_at u) places) places u [] h) ∙ get_or-curve (kernel_at u) places v nan k

beq_comm : (a b : Bool) → beq a b ≡ beq b a
beq_comm true true = refl
beq_comm true false = refl
beq_comm false true = refl
beq_comm false false = refl

-- the table is symmetric
pub kernel_symmetric : (u v : ℕ) → kernel_at u v ≡ kernel_at v u
unfolding kernel_at sign_at
kernel_symmetric u v = rw (beq_comm, add_comm (away u * away u) (away v * away v))

-- ---- the weights that occur

-- row b, column a: the bits of the weight of two offsets of sizes a and b, for a up to b and b up to 8
unfoldable pub weight_bits : List (List ℕ)
weight_bits =
    (0x3FF0_0000_0000_0000 ∷ [])
    ∷ (0x3FEF_03F5_6A88_B5D8 ∷ 0x3FEE_0FAB_FBC7_02A4 ∷ [])
    ∷ (0x3FEC_3D6A_24ED_8222 ∷ 0x3FEB_5EFD_29F2_4C26 ∷ 0x3FE8_EBEF_9EAC_820B ∷ [])
    ∷ (0x3FE8_27A5_6188_9716 ∷ 0x3FE7_6965_2DF2_2F7E ∷ 0x3FE5_510C_67CD_2590 ∷ 0x3FE2_3BA9_30C1_568B ∷ [])
    ∷ (0x3FE3_68B2_FC6F_960A ∷ 0x3FE2_CFD4_0F8B_DCAE ∷ 0x3FE1_20DC_9349_93E8 ∷ 0x3FDD_4D24_4CF4_EA9E ∷ 0x3FD7_8B56_362C_EF38 ∷ [])
    ∷ (0x3FDD_4D24_4CF4_EA9E ∷ 0x3FDC_665B_1E1F_1E0D ∷ 0x3FD9_DBBC_01E1_8268 ∷ 0x3FD6_1E28_AD07_8F7F ∷ 0x3FD1_C5AC_27EB_1E31 ∷ 0x3FCA_D48B_C257_71C8 ∷ [])
    ∷ (0x3FD4_C71B_2477_AB20 ∷ 0x3FD4_2374_4F73_7662 ∷ 0x3FD2_5618_372A_584F ∷ 0x3FCF_5E24_CCCC_C19A ∷ 0x3FC9_3466_DA99_EE64 ∷ 0x3FC3_0687_4452_A30B ∷
    0x3FBA_FB71_8E84_57F7 ∷ [])
    ∷ (0x3FCB_AE93_B566_3054 ∷ 0x3FCA_D48B_C257_71C8 ∷ 0x3FC8_6DE1_DA86_59AD ∷ 0x3FC4_E53A_9C9A_B086 ∷ 0x3FC0_CA39_E937_2C68 ∷ 0x3FB9_58F1_56C9_C2AE ∷
    0x3FB1_F959_72C8_7E29 ∷ 0x3FA7_F251_AB1A_F77C ∷ [])
    ∷ (0x3FC1_52AA_A3BF_81CC ∷ 0x3FC0_CA39_E937_2C68 ∷ 0x3FBE_9328_B4C5_0F6C ∷ 0x3FBA_26EC_83A7_2AE4 ∷ 0x3FB5_0385_C094_F425 ∷ 0x3FAF_B95A_6B50_EA89 ∷
    0x3FA6_7EE6_D9FF_847C ∷ 0x3F9D_F882_DFED_7BCA ∷ 0x3F92_C155_B821_3CF4 ∷ [])
    ∷ []

unfoldable pub known : (a b : ℕ) → Float
unfolding weight_bits
known a b = bits (get_or (get_or weight_bits b []) a 0)

-- what antt computes of each: it is the weight by its definition, 1 times it is itself, -1 times it is its negative, and it lies within -1 to 1
unfoldable tested : (b a : ℕ) → Bool
unfolding known
tested b a =
    same_float (weight_of (a * a + b * b)) (known a b)
    && (same_float (one ⊗ known a b) (known a b) && (same_float (neg one ⊗ known a b) (neg (known a b)) && similarity_fine (known a b)))

all_tested : every (λ b. every (tested b) (curve (λ a. a) (b + 1))) (curve (λ b. b) 9) ≡ true
unfolding every tested similarity_fine weight_of exp_of exp_at exp_sized folds_of exp_by exp_less exp_near scale_up scale_down times_up times_down of_bits to_bits
    of_int to_unsigned add sub mul div neg le lt ne sum round units size span climb odd of_fields
all_tested = refl

every-below : (p : ℕ → Bool) (n k : ℕ) → every p (curve (λ i. i) n) ≡ true → k < n → p k ≡ true
every-below p n k e h =
    ap p (sym (get_or-curve (λ i. i) n k 0 h)) ∙ every-at p (curve (λ i. i) n) k 0 e (rw (length-tab (λ i. i) 0 n) h)

-- a weight w, whose bits are those of x
record Known (w x : Float) : Type 0 where
  is : w ≡ x
  once : one ⊗ x ≡ x
  less : neg one ⊗ x ≡ neg x
  fine : similarity_fine x ≡ true

known_at : (a b : ℕ) → a ≤ b → b < 9 → Known (weight_of (a * a + b * b)) (known a b)
unfolding tested
known_at a b h k =
    let t : tested b a ≡ true = every-below (tested b) (b + 1) a (every-below (λ b. every (tested b) (curve (λ a. a) (b + 1))) 9 b all_tested k)
    (omega arith) in
    let x = known a b in
    let w = weight_of (a * a + b * b) in
    let t2 = and_right (same_float w x) _ t in
    let t3 = and_right (same_float (one ⊗ x) x) _ t2 in
    record {
      is = float_is w x (true→T _ (and_left (same_float w x) _ t));
      once = float_is (one ⊗ x) x (true→T _ (and_left (same_float (one ⊗ x) x) _ t2));
      less = float_is (neg one ⊗ x) (neg x) (true→T _ (and_left (same_float (neg one ⊗ x) (neg x)) _ t3));
      fine = and_right (same_float (neg one ⊗ x) (neg x)) _ t3;
    }

-- in either order
abbrev pub known_of : (a b : ℕ) → Float
known_of a b = known (min a b) (max a b)

known_of_lem : (a b : ℕ) → a < 9 → b < 9 → Known (weight_of (a * a + b * b)) (known_of a b)
known_of_lem a b h k =
    ⊎_elim
    (λ (l : a < b). rw (min-eq_left (le_of_lt l), max-eq_right (le_of_lt l)) (known_at a b (le_of_lt l) k))
    (λ (l : b ≤ a). rw (min-eq_right l, max-eq_left l, add_comm (a * a) (b * b)) (known_at b a l h))
    (lt_or_le a b)

module _ (u v : ℕ) (h : u < 16) (k : v < 16) where
  its : Known (weight_of (away u * away u + away v * away v)) (known_of (away u) (away v))
  its = known_of_lem (away u) (away v) (omega arith) (omega arith)

  -- a weight of the table lies within -1 to 1
  pub weight-fine : similarity_fine (weight_of (away u * away u + away v * away v)) ≡ true
  weight-fine = ap similarity_fine its.is ∙ its.fine

  -- an entry from its weight's bits
  entry_known : kernel_at u v ≡ sign_at u v ⊗ known_of (away u) (away v)
  unfolding kernel_at
  entry_known = ap (λ (w : Float). sign_at u v ⊗ w) its.is

  -- the sign: an entry is the weight where the two offsets lie on one side, and else its negative
  pub kernel_signed : let w = weight_of (away u * away u + away v * away v) in kernel_at u v ≡ pick (alike u v) w (neg w)
  unfolding sign_at
  kernel_signed = entry_known ∙ go (alike u v) ∙ ap (λ (w : Float). pick (alike u v) w (neg w)) (sym its.is)
    where
      x : Float
      x = known_of (away u) (away v)

      go : (b : Bool) → pick b one (neg one) ⊗ x ≡ pick b x (neg x)
      go true = its.once
      go false = its.less

-- the table from the weights' bits
abbrev pub known_table : List (List Float)
known_table = curve (λ u. curve (λ v. sign_at u v ⊗ known_of (away u) (away v)) places) places

pub table_known : known_table ≡ kernel_table
unfolding kernel_table
table_known =
    tab_ext (λ u. curve (λ v. sign_at u v ⊗ known_of (away u) (away v)) places) (λ u. curve (kernel_at u) places) 0 places
    (λ u l h. tab_ext (λ v. sign_at u v ⊗ known_of (away u) (away v)) (kernel_at u) 0 places (λ v m k. sym (entry_known u v h k)))
