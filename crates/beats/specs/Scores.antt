-- Document 01, "Beats and bars": the score and the link of each frame. `flux` is the scaled flux of a frame, whatever it comes from.
use Rattle.std.specs.Prelude.{List, [], ◌∷◌, ◌++◌, ℕ, zero, suc, Float}
use Rattle.numbers.specs.Rounded.{◌⊕◌}
use Rattle.numbers.specs.Lists.{curve}
use Rattle.beat_links.specs.Extensions.{extension}

-- the scores of the first n frames, grown frame by frame: "score = scaled flux plus it, or plus 0"
unfoldable pub scores : (period : ℕ) → (ℕ → Float) → (n : ℕ) → List Float
unfolding extension
scores period flux zero = []
scores period flux (suc t) = let before = scores period flux t in before ++ ((flux t ⊕ (extension period before t).value) ∷ [])

-- the frame that frame t links to, where `known` are the scores of the frames: only those of frames before t matter
unfoldable pub link_of : (period : ℕ) → (known : List Float) → (t : ℕ) → ℕ
unfolding extension
link_of period known t = (extension period known t).at

-- the links of the first n frames
unfoldable pub links : (period : ℕ) → (ℕ → Float) → (n : ℕ) → List ℕ
unfolding link_of scores
links period flux n = curve (link_of period (scores period flux n)) n
