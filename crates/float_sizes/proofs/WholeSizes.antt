-- How large a rounded value is, in the words of the crate sizes: at most N where x is, and at least N where x is. Assumes nothing.
use Prim.Native.Nat.{ℕ, ◌^◌, ◌≤◌, ◌<◌}
use mathlib.Core.Bool.{true, false}
use native.Mathlib.Omega.{arith}
use lib.Dec.{T}
use lib.Ieee.{Float, nan, inf, fin}
use Rattle.sizes.specs.Sizes.{AtMost, AtLeast, size_up_to, size_from, is_plus, Plus}
use Rattle.floats.specs.Wholes.{round_of, ceil_of}
use Rattle.floats.proofs.WholeNumbers.{round_most, round_least, ceil_most, ceil_least}

round_le : (N : ℕ) (x : Float) → size_up_to N x → round_of x ≤ N
round_le N nan h = absurd h
round_le N (inf s) h = absurd h
round_le N (fin s m e) h = round_most N s m e h

pub round_at_most : {N : ℕ} {x : Float} → AtMost N x → round_of x ≤ N
round_at_most {N} {x} h = round_le N x h.size

ceil_le : (N : ℕ) (x : Float) → size_up_to N x → ceil_of x ≤ N
ceil_le N nan h = absurd h
ceil_le N (inf s) h = absurd h
ceil_le N (fin s m e) h = ceil_most N s m e h

pub ceil_at_most : {N : ℕ} {x : Float} → AtMost N x → ceil_of x ≤ N
ceil_at_most {N} {x} h = ceil_le N x h.size

round_ge : (N : ℕ) (x : Float) → N < 2 ^ 64 → T (is_plus x) → size_from N 1 x → N ≤ round_of x
unfolding is_plus
round_ge N nan l s h = absurd s
round_ge N (inf true) l s h = absurd s
round_ge N (inf false) l s h = unfold round_of in omega arith
round_ge N (fin true m e) l s h = absurd s
round_ge N (fin false m e) l s h = round_least N m e l h

pub round_at_least : {N : ℕ} {x : Float} → N < 2 ^ 64 → Plus x → AtLeast N 1 x → N ≤ round_of x
round_at_least {N} {x} l s h = round_ge N x l s.sign h.size

ceil_ge : (N : ℕ) (x : Float) → N < 2 ^ 64 → T (is_plus x) → size_from N 1 x → N ≤ ceil_of x
unfolding is_plus
ceil_ge N nan l s h = absurd s
ceil_ge N (inf true) l s h = absurd s
ceil_ge N (inf false) l s h = unfold ceil_of in omega arith
ceil_ge N (fin true m e) l s h = absurd s
ceil_ge N (fin false m e) l s h = ceil_least N m e l h

pub ceil_at_least : {N : ℕ} {x : Float} → N < 2 ^ 64 → Plus x → AtLeast N 1 x → N ≤ ceil_of x
ceil_at_least {N} {x} l s h = ceil_ge N x l s.sign h.size
