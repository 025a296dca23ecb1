-- The answers of the reader of ten bytes, test by test. Assumes nothing.
use mathlib.Core.Path.{◌≡◌, sym, ◌∙◌}
use mathlib.Core.Bool.{true, false}
use mathlib.Core.List.{List}
use Prim.Native.Nat.{ℕ, ◌+◌, ◌*◌, ◌≤◌, ◌<◌}
use lib.ListN.{length, get_or}
use borrow.Author.Tests.{le-leb, lt-leb}
use Rattle.numbers.proofs.Tests.{and_both, and-held, and_failed, pick_true, pick-false}
use Rattle.std.specs.Prelude.{Some, None}
use Rattle.texts.specs.Texts.{starts}
use Rattle.report_npy.specs.Header.{magic, preamble_of}

module _ (bytes : List ℕ) where
  pub preamble_malformed : starts magic bytes ≡ false → preamble_of bytes ≡ None
  unfolding preamble_of
  preamble_malformed e = pick-false _ _ _ (sym (and_failed (starts magic bytes) _ e) ∙ e)

  pub preamble_short : starts magic bytes ≡ true → length bytes < 10 → preamble_of bytes ≡ None
  unfolding preamble_of
  preamble_short e h = pick-false _ _ _ (sym (and-held (starts magic bytes) _ e) ∙ lt-leb 10 (length bytes) h)

  pub preamble_length_lem : starts magic bytes ≡ true → 10 ≤ length bytes → preamble_of bytes ≡ Some (get_or bytes 8 0 + get_or bytes 9 0 * 256)
  unfolding preamble_of
  preamble_length_lem e h = pick_true _ _ _ (and_both (starts magic bytes) _ e (le-leb 10 (length bytes) h))
