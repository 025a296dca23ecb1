-- An input that is fed in parts: what has come, and the next part behind it. Assumes nothing.
use mathlib.Core.Path.{◌≡◌, sym, ap, ◌∙◌}
use mathlib.Core.List.{List, [], ◌∷◌, ◌++◌, append-nil, append_assoc}
use Prim.Native.Nat.{ℕ}
use native.Mathlib.Omega.{arith}
use lib.Ieee.{Float}
use lib.ListN.{length}
use Rattle.report_head.specs.declared.Feed.{Feed}
use Rattle.report_feed.specs.Feeds.{Fed, Step}

-- what has come of an input, and what is left of it
pub record Part (input left : List ℕ) (feed : Feed) (held : List ℕ) (kept was flux : List Float) : Type 0 where
  pub come : List ℕ
  pub input_is : input ≡ come ++ left
  pub fed : Fed come feed held kept was flux

-- nothing has come
pub part_none : {input left : List ℕ} {feed : Feed} {held : List ℕ} {kept was flux : List Float} → left ≡ input → Fed [] feed held kept was flux
    → Part input left feed held kept was flux
part_none e f = record { come = []; input_is = sym e; fed = f }

-- the next part has come
pub part_more : {input left left' bytes : List ℕ} {feed feed' : Feed} {held held' : List ℕ} {kept kept' was flux flux' : List Float}
    → left ≡ bytes ++ left' → Step bytes feed held kept flux feed' held' kept' flux' → Part input left feed held kept was flux
    → Part input left' feed' held' kept' was flux'
part_more {left' = left'} {bytes = bytes} {was = was} e s p =
    record {
      come = p.come ++ bytes;
      input_is = p.input_is ∙ ap (λ (x : List ℕ). p.come ++ x) e ∙ sym (append_assoc p.come bytes left');
      fed = s.fed p.come was p.fed;
    }

-- nothing is left
pub part_end : {input left : List ℕ} {feed : Feed} {held : List ℕ} {kept was flux : List Float} → length left ≡ 0 → Part input left feed held kept was flux
    → Fed input feed held kept was flux
part_end {left = []} e p = rw (p.input_is, append-nil p.come) p.fed
part_end {left = x ∷ xs} e p = absurd (omega arith)
