-- `texts::put_words` meets its contract: the slots that are copied over are those of the words. Assumes nothing.
use mathlib.Core.Path.{refl, ap, ◌∙◌}
use mathlib.Core.List.{List, ◌++◌}
use Prim.Native.Nat.{ℕ, ◌+◌, ◌-◌}
use native.Mathlib.Omega.{arith}
use lib.ListN.{length, take, drop}
use Rattle.texts.proofs.Overs.{over-copied}
use Rattle.texts.proofs.put_words.Goals as goal

pub returns : goal.returns
returns c =
    let out = c.args.out.now in
    let at = c.args.at in
    let words = c.args.words.now in
    let k = at + length words - at in
    record {
      end_is = refl;
      fits = c.requires;
      bytes_are =
          ap (λ (p : List ℕ). take at out ++ (p ++ drop k (drop at out))) c.copy_from_slice.ensures.after
          ∙ over-copied out at k words (omega arith);
    }
