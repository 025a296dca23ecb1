-- A lent curve with some slots written by a rule: what its first n slots are, and that those behind them stay.
use mathlib.Core.Bool.{Bool}
use mathlib.Core.Path.{◌≡◌, sym, ap, ◌∙◌}
use mathlib.Core.List.{List, ◌++◌, append_assoc}
use Prim.Native.Nat.{ℕ, ◌-◌, ◌≤◌}
use native.Mathlib.Nat.{sub-zero}
use native.Mathlib.Omega.{arith}
use lib.ListN.{length, take, drop, take-append-drop}
use lib.Seq.{take-append-le, drop-append-le, length-take-le, take_at, drop_at}
use Rattle.numbers.proofs.Tabs.{length-tab, length-filled, filled-whole}
use Rattle.numbers.specs.Lists.{tab, curve, filled, every}

module _ {A : Type 0} where
  pub filled-append : (f : ℕ → A) (d e : List A) (a t : ℕ) → a ≤ t → t ≤ length d → filled f (d ++ e) a t ≡ filled f d a t ++ e
  unfolding filled
  filled-append f d e a t h k =
      let g : a ≤ length d = omega arith in
      rw (take-append-le a d e g, drop-append-le t d e k) (sym (append_assoc (take a d ++ tab f a (t - a)) (drop t d) e))

  -- a test of the part that is lent is one of the first n slots
  pub first-slots : (p : A → Bool) (xs : List A) (n : ℕ) (fine : Bool) → fine ≡ every p (take (n - 0) xs) → every p (take n xs) ≡ fine
  first-slots p xs n fine e = ap (λ (k : ℕ). every p (take k xs)) (sym (sub-zero n)) ∙ sym e

  module _ (f : ℕ → A) (d : List A) (n a t : ℕ) (h : a ≤ t) (k : t ≤ n) (l : n ≤ length d) where
    split : filled f d a t ≡ filled f (take n d) a t ++ drop n d
    split =
        ap (λ (r : List A). filled f r a t) (sym (take-append-drop n d))
        ∙ filled-append f (take n d) (drop n d) a t h (omega (arith, length-take-le n d l))

    whole : length (filled f (take n d) a t) ≡ n
    whole = length-filled f (take n d) a t h (omega (arith, length-take-le n d l)) ∙ length-take-le n d l

    -- the first n slots, among which are those written
    pub take-filled : take n (filled f d a t) ≡ filled f (take n d) a t
    take-filled = ap (take n) split ∙ take_at (filled f (take n d) a t) (drop n d) n whole

    -- the slots behind them
    pub drop-filled : drop n (filled f d a t) ≡ drop n d
    drop-filled = ap (drop n) split ∙ drop_at (filled f (take n d) a t) (drop n d) n whole

  -- ---- a curve written from nothing into a lent list

  pub filled-rest : (f : ℕ → A) (d : List A) (n : ℕ) → drop n (filled f d 0 n) ≡ drop n d
  filled-rest f d n = ap (drop n) (filled-whole f d n) ∙ drop_at (curve f n) (drop n d) n (length-tab f 0 n)

  -- a list whose first slots are the rule's and whose others are d's is d so written
  pub filled_by : (f : ℕ → A) (d c : List A) (n : ℕ) → take n c ≡ curve f n → drop n c ≡ drop n d → c ≡ filled f d 0 n
  filled_by f d c n e h =
      sym (take-append-drop n c) ∙ ap (λ (r : List A). r ++ drop n c) e ∙ ap (λ (r : List A). curve f n ++ r) h ∙ sym (filled-whole f d n)
