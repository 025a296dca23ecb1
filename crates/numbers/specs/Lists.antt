-- Document 01, "After an answer, curves hold their definitions, lists hold their entries first, and later slots are unchanged":
-- the vocabulary of lists that every contract is written in.
use Rattle.std.specs.Prelude.{◌≡◌, ℕ, zero, suc, ◌+◌, ◌-◌, ◌*◌, min, Bool, true, false, ◌&&◌, leb, List, [], ◌∷◌, ◌++◌, length, take, drop}
use Rattle.std.proofs.Math.Seq.{paste}

module _ {A : Type 0} where
  -- n entries of a rule, from entry s on
  abbrev pub tab : (ℕ → A) → ℕ → ℕ → List A
  tab f s zero = []
  tab f s (suc n) = f s ∷ tab f (suc s) n

  -- a curve of n slots, by its rule
  abbrev pub curve : (ℕ → A) → ℕ → List A
  curve f n = tab f 0 n

  -- a lent list whose slots from a up to, not including, t are written by the rule; the others are unchanged
  unfoldable pub filled : (ℕ → A) → List A → ℕ → ℕ → List A
  filled f d a t = take a d ++ tab f a (t - a) ++ drop t d

  -- a lent list with these entries first; later slots are unchanged
  unfoldable pub listed : List A → List A → List A
  listed xs d = xs ++ drop (length xs) d

  -- a lent list with src written over it from slot at on
  unfoldable pub over : List A → ℕ → List A → List A
  over d at src = paste d at src (length src)

  -- every entry passes the test
  unfoldable pub every : (A → Bool) → List A → Bool
  every p [] = true
  every p (x ∷ xs) = p x && every p xs

  -- a call whose answers are the test's
  abbrev pub IsTest : (A → Bool → Type 0) → (A → Bool) → Type 0
  IsTest answers p = (x : A) (r : Bool) → answers x r → r ≡ p x

  -- row t of a slab with b entries a row
  unfoldable pub row : List A → ℕ → ℕ → List A
  row s b t = take b (drop (t * b) s)

  -- slots t - w to t + w of a curve, cut at its ends
  unfoldable pub around : ℕ → List A → ℕ → List A
  around w c t = drop (t - w) (take (min (t + w + 1) (length c)) c)

-- 1 where the test holds
abbrev pub one_if : Bool → ℕ
one_if true = 1
one_if false = 0

-- strictly ascending, from `low` on
unfoldable pub ascending : (low : ℕ) → List ℕ → Bool
ascending low [] = true
ascending low (x ∷ xs) = leb low x && ascending (x + 1) xs
