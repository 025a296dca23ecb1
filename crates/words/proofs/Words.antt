-- Words and their four bytes. Assumes nothing.
use mathlib.Core.Path.{◌≡◌, refl, sym, ap, ◌∙◌}
use mathlib.Core.Bool.{true}
use mathlib.Core.List.{List, [], ◌∷◌, ◌++◌}
use Prim.Native.Nat.{ℕ, suc, ◌+◌, ◌*◌, ◌/◌, ◌%◌, ◌≤◌, ◌<◌}
use native.Mathlib.Omega.{arith}
use lib.ListN.{length, get_or, drop}
use lib.Seq.{drop-cons, drop-drop, get_or-drop}
use borrow.Author.Tests.{ltb-true}
use Rattle.numbers.specs.Lists.{every}
use Rattle.words.specs.Words.{word, word_in, word_at, byte_fine}
use Rattle.numbers.proofs.Everys.{every-at}

pub word-length : (n : ℕ) → length (word n) ≡ 4
unfolding word
word-length n = refl

-- a word within the bytes from a place on
pub word-within : (c : List ℕ) (at k : ℕ) → word_at (drop at c) k ≡ word_at c (at + k)
word-within c at k = ap word_in (drop-drop k at c)

-- the word at a place, byte by byte
pub word_bytes : (c : List ℕ) (at : ℕ) → get_or c at 0 + get_or c (at + 1) 0 * 256 + get_or c (at + 2) 0 * 65536 + get_or c (at + 3) 0 * 16777216 ≡ word_at c at
unfolding word_in
word_bytes c at =
    let e : at + 0 ≡ at = omega arith in
    sym (rw (get_or-drop at c 0 0, get_or-drop at c 1 0, get_or-drop at c 2 0, get_or-drop at c 3 0, e))

-- what four bytes of a word stand for
pub word_back : (n : ℕ) (rest : List ℕ) → n < 4294967296 → word_in (word n ++ rest) ≡ n
unfolding word_in word
word_back n rest h = back n h
  where
    back : (n : ℕ) → n < 4294967296 → n % 256 + n / 256 % 256 * 256 + n / 256 / 256 % 256 * 65536 + n / 256 / 256 / 256 % 256 * 16777216 ≡ n
    back n h =
        let q = n / 256 in
        let r = q / 256 in
        let s : r / 256 % 256 ≡ r / 256 = omega arith in
        let t : r / 256 * 256 + r % 256 ≡ r = omega arith in
        let u : r * 256 + q % 256 ≡ q = omega arith in
        let v : q * 256 + n % 256 ≡ n = omega arith in
        omega (arith, s, t, u, v)

join : (a b c d : ℕ) → a < 256 → b < 256 → c < 256 → d < 256 → word (a + b * 256 + c * 65536 + d * 16777216) ≡ a ∷ b ∷ c ∷ d ∷ []
unfolding word
join a b c d ha hb hc hd =
    let n = a + b * 256 + c * 65536 + d * 16777216 in
    let e1 : n % 256 ≡ a = omega arith in
    let q1 : n / 256 ≡ b + c * 256 + d * 65536 = omega arith in
    let e2 : n / 256 % 256 ≡ b = ap (λ (k : ℕ). k % 256) q1 ∙ (omega arith) in
    let q2 : n / 256 / 256 ≡ c + d * 256 = ap (λ (k : ℕ). k / 256) q1 ∙ (omega arith) in
    let e3 : n / 256 / 256 % 256 ≡ c = ap (λ (k : ℕ). k % 256) q2 ∙ (omega arith) in
    let q3 : n / 256 / 256 / 256 ≡ d = ap (λ (k : ℕ). k / 256) q2 ∙ (omega arith) in
    let e4 : n / 256 / 256 / 256 % 256 ≡ d = ap (λ (k : ℕ). k % 256) q3 ∙ (omega arith) in
    cc

byte_at : (c : List ℕ) (i : ℕ) → every byte_fine c ≡ true → i < length c → get_or c i 0 < 256
byte_at c i e h = ltb-true _ _ (every-at byte_fine c i 0 e h)

-- bytes from a place on are the word there and then the rest
pub word_split : (c : List ℕ) (at : ℕ) → every byte_fine c ≡ true → at + 4 ≤ length c → drop at c ≡ word (word_at c at) ++ drop (at + 4) c
word_split c at e h =
    let a = get_or c at 0 in
    let b = get_or c (at + 1) 0 in
    let x = get_or c (at + 2) 0 in
    let y = get_or c (at + 3) 0 in
    let s1 : suc at ≡ at + 1 = omega arith in
    let s2 : suc (at + 1) ≡ at + 2 = omega arith in
    let s3 : suc (at + 2) ≡ at + 3 = omega arith in
    let s4 : suc (at + 3) ≡ at + 4 = omega arith in
    let d1 : drop at c ≡ a ∷ drop (at + 1) c = drop-cons c at 0 (omega arith) ∙ ap (λ (k : ℕ). a ∷ drop k c) s1 in
    let d2 : drop (at + 1) c ≡ b ∷ drop (at + 2) c = drop-cons c (at + 1) 0 (omega arith) ∙ ap (λ (k : ℕ). b ∷ drop k c) s2 in
    let d3 : drop (at + 2) c ≡ x ∷ drop (at + 3) c = drop-cons c (at + 2) 0 (omega arith) ∙ ap (λ (k : ℕ). x ∷ drop k c) s3 in
    let d4 : drop (at + 3) c ≡ y ∷ drop (at + 4) c = drop-cons c (at + 3) 0 (omega arith) ∙ ap (λ (k : ℕ). y ∷ drop k c) s4 in
    let w : word (word_at c at) ≡ a ∷ b ∷ x ∷ y ∷ []
    = ap word (sym (word_bytes c at))
    ∙ join a b x y (byte_at c at e (omega arith)) (byte_at c (at + 1) e (omega arith)) (byte_at c (at + 2) e (omega arith)) (byte_at c (at + 3) e
    (omega arith)) in
    d1 ∙ ap (λ (r : List ℕ). a ∷ r) (d2 ∙ ap (λ (r : List ℕ). b ∷ r) (d3 ∙ ap (λ (r : List ℕ). x ∷ r) d4))
    ∙ sym (ap (λ (r : List ℕ). r ++ drop (at + 4) c) w)
