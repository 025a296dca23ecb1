-- Pieces of a text that are written one behind the other. Assumes nothing.
use mathlib.Core.Path.{◌≡◌, refl, sym, ap, ◌∙◌}
use mathlib.Core.List.{List, [], ◌∷◌, ◌++◌}
use Prim.Native.Nat.{ℕ, ◌+◌, ◌/◌, ◌%◌, ◌≤◌, ◌<◌}
use native.Mathlib.Omega.{arith}
use lib.ListN.{length, set, length-append}
use Rattle.numbers.specs.Lists.{over}
use Rattle.numbers.proofs.Overs.{over_none, length_over}
use Rattle.texts.specs.Texts.{Put}
use Rattle.texts.specs.Decimals.{digit_of, decimal}
use Rattle.texts.proofs.Decimals.{decimal-one, decimal-last}
use Rattle.texts.proofs.Overs.{over-one, over_then}

pub put-none : (a : List ℕ) (at : ℕ) → at ≤ length a → Put a at [] at a
put-none a at h = record { end_is = omega arith; fits = h; bytes_are = sym (over_none a at) }

pub put_one : (a : List ℕ) (at x : ℕ) → at < length a → Put a at (x ∷ []) (at + 1) (set a at x)
put_one a at x h = record { end_is = refl; fits = omega arith; bytes_are = over-one a at x h }

module _ {a b p : List ℕ} {at end : ℕ} (f : Put a at p end b) where
  pub put-room : at + length p ≤ length a
  put-room = omega (arith, f.end_is, f.fits)

  pub put-length : length b ≡ length a
  put-length = ap length f.bytes_are ∙ length_over a at p put-room

  -- the same piece by another name
  pub put_named : {q : List ℕ} → p ≡ q → Put a at q end b
  put_named e = rw e at f

-- a piece behind another
pub put_then : {a b c p q : List ℕ} {at mid end : ℕ} → Put a at p mid b → Put b mid q end c → Put a at (p ++ q) end c
put_then {a} {b} {c} {p} {q} {at} {mid} {end} f g =
    record {
      end_is = omega (arith, f.end_is, g.end_is, length-append p q);
      fits = omega (arith, g.fits, put-length f);
      bytes_are = g.bytes_are ∙ ap (λ (r : List ℕ). over r mid q) f.bytes_are ∙ over_then a at mid p q f.end_is (put-room f);
    }

-- two calls that write the same piece at the same place answer the same and leave the same bytes
pub put_unique : {a p b c : List ℕ} {at m n : ℕ} → Put a at p m b → Put a at p n c → (m ≡ n) × (b ≡ c)
put_unique f g = (f.end_is ∙ sym g.end_is, f.bytes_are ∙ sym g.bytes_are)

-- ---- a number

pub put_digit : {a b : List ℕ} {at end n : ℕ} → n < 10 → Put a at (digit_of (n % 10) ∷ []) end b → Put a at (decimal n) end b
put_digit {a} {b} {at} {end} {n} h f = rw (decimal-one n h) f

pub put_last : {a b c : List ℕ} {at mid end n : ℕ} → 10 ≤ n → Put a at (decimal (n / 10)) mid b → Put b mid (digit_of (n % 10) ∷ []) end c
    → Put a at (decimal n) end c
put_last {a} {b} {c} {at} {mid} {end} {n} h f g = rw (decimal-last n h) (put_then f g)
