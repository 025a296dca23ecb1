-- Pieces of a text that are written one behind the other, each within its bound. Assumes nothing.
use mathlib.Core.Path.{◌≡◌, refl, sym, ap, ◌∙◌}
use mathlib.Core.List.{List, [], ◌∷◌, ◌++◌, append_assoc, append-nil}
use Prim.Native.Nat.{ℕ, zero, suc, ◌+◌, ◌*◌, ◌≤◌, ◌<◌, min}
use native.Mathlib.Numerals.{add-one}
use native.Mathlib.Omega.{arith}
use lib.ListN.{length, get_or, take}
use lib.Seq.{take-suc, take-nil}
use Rattle.texts.specs.Texts.{Put}
use Rattle.texts.specs.Decimals.{decimal}
use Rattle.texts.proofs.Puts as puts
use Rattle.report_text.specs.Text.{PutWithin, spaced, slash, none_text, numbers_text, list_text, share_text}

-- nothing is written yet
pub put-none : (a : List ℕ) (at : ℕ) → at ≤ length a → PutWithin a at [] 0 at a
put-none a at h = record { put = puts.put-none a at h; end_most = omega arith }

-- a piece, within its own length
pub put_whole : {a b p : List ℕ} {at end : ℕ} → Put a at p end b → PutWithin a at p (length p) end b
put_whole {a} {b} {p} {at} {end} f = record { put = f; end_most = omega (arith, f.end_is) }

-- one piece behind another
pub put_then : {a b c p q : List ℕ} {at mid end m k : ℕ} → PutWithin a at p m mid b → PutWithin b mid q k end c → PutWithin a at (p ++ q) (m + k) end c
put_then {a} {b} {c} {p} {q} {at} {mid} {end} {m} {k} f g =
    record { put = puts.put_then f.put g.put; end_most = omega (arith, f.end_most, g.end_most) }

-- the same piece by another name, with as much room or more
pub put_as : {a b p q : List ℕ} {at end m k : ℕ} → p ≡ q → m ≤ k → PutWithin a at p m end b → PutWithin a at q k end b
put_as {a} {b} {p} {q} {at} {end} {m} {k} e h f = record { put = puts.put_named f.put e; end_most = omega (arith, f.end_most) }

-- two outcomes that the promise permits coincide
pub put_unique : {a p b c : List ℕ} {at most m n : ℕ} → PutWithin a at p most m b → PutWithin a at p most n c → (m ≡ n) × (b ≡ c)
put_unique f g = puts.put_unique f.put g.put

-- ---- numbers

take_more : (ws : List ℕ) (i : ℕ) → i < length ws → take i ws ++ (get_or ws i 0 ∷ []) ≡ take (i + 1) ws
take_more ws i h = sym (ap (λ (k : ℕ). take k ws) (add-one i) ∙ take-suc ws i 0 h)

numbers_more : (ns : List ℕ) (n : ℕ) → numbers_text (ns ++ (n ∷ [])) ≡ numbers_text ns ++ spaced n
unfolding numbers_text
numbers_more [] n = append-nil (spaced n)
numbers_more (x ∷ ns) n =
    ap (λ (r : List ℕ). spaced x ++ r) (numbers_more ns n) ∙ sym (append_assoc (spaced x) (numbers_text ns) (spaced n))

-- one number more of a list
pub put-entry : {a b c : List ℕ} {at mid end : ℕ} (ns : List ℕ) (i : ℕ) → i < length ns
    → PutWithin a at (numbers_text (take i ns)) (11 * i) mid b → PutWithin b mid (spaced (get_or ns i 0)) 11 end c
    → PutWithin a at (numbers_text (take (i + 1) ns)) (11 * (i + 1)) end c
put-entry ns i h f g = put_as {k = 11 * (i + 1)} (sym (numbers_more (take i ns) (get_or ns i 0)) ∙ ap numbers_text (take_more ns i h)) (omega arith) (put_then f g)

pub no_numbers : numbers_text [] ≡ []
unfolding numbers_text
no_numbers = refl

-- ---- a list, and a share

pub list_none : (ns : List ℕ) → length ns ≡ 0 → list_text ns ≡ none_text
unfolding list_text
list_none [] h = refl
list_none (n ∷ ns) h = absurd (omega arith)

pub list_some : (ns : List ℕ) → (length ns ≡ 0 → ⊥) → list_text ns ≡ numbers_text ns
unfolding list_text
list_some [] h = absurd (h refl)
list_some (n ∷ ns) h = refl

pub share-none : (agreeing windows : ℕ) → windows ≡ 0 → share_text agreeing windows ≡ none_text
unfolding share_text
share-none agreeing windows e = rw e

pub share-some : (agreeing windows : ℕ) → (windows ≡ 0 → ⊥) → share_text agreeing windows ≡ spaced agreeing ++ (slash ∷ []) ++ decimal windows
unfolding share_text
share-some agreeing zero h = absurd (h refl)
share-some agreeing (suc k) h = refl

-- a list's first entry, if it has one
pub first_entry : (ns : List ℕ) (k : ℕ) → k ≡ min (length ns) 1 → take k ns ≡ take 1 ns
first_entry [] k e = take-nil k ∙ sym (take-nil 1)
first_entry (n ∷ ns) k e =
    let f : k ≡ 1 = omega arith in
    ap (λ (j : ℕ). take j (n ∷ ns)) f
