-- The label track of the first frames, and of one more. Assumes nothing.
use mathlib.Core.Path.{◌≡◌, refl, sym, ap, ◌∙◌}
use mathlib.Core.Bool.{true}
use mathlib.Core.List.{List, [], ◌∷◌, ◌++◌, append_assoc, append-nil}
use Prim.Native.Nat.{ℕ, ◌+◌, ◌*◌, ◌/◌, ◌≤◌, ◌<◌}
use native.Mathlib.Numerals.{add-one}
use native.Mathlib.Omega.{arith}
use borrow.Author.Tests.{leb-true}
use lib.Dec.{leb}
use lib.ListN.{length, get_or, take, drop, length-append, take-append-drop}
use lib.Seq.{take-suc, take-length}
use Rattle.numbers.specs.Limits.{rate_fine, most_frame, frame_fine}
use Rattle.numbers.specs.Lists.{every}
use Rattle.numbers.proofs.Tests.{and_left, and_right}
use Rattle.texts.proofs.Decimals.{nine_digits, ten_digits}
use Rattle.times.specs.Micros.{microseconds}
use Rattle.times.proofs.Times.{time_most}
use Rattle.label_seconds.proofs.Seconds.{seconds_length}
use Rattle.label_times.proofs.Frames.{rate_some}
use Rattle.label_lines.specs.Lines.{label_line}
use Rattle.label_lines.proofs.Lines.{line_length_lem}
use Rattle.label_tracks.specs.Tracks.{label_lines, times_for, label_bytes}

labels_join : (rate : ℕ) (xs ys : List ℕ) → label_bytes rate (xs ++ ys) ≡ label_bytes rate xs ++ label_bytes rate ys
unfolding label_bytes label_lines times_for
labels_join rate [] ys = refl
labels_join rate (x ∷ xs) ys =
    ap (λ (r : List ℕ). label_line (microseconds x rate) ++ r) (labels_join rate xs ys)
    ∙ sym (append_assoc (label_line (microseconds x rate)) (label_bytes rate xs) (label_bytes rate ys))

labels_one : (rate t : ℕ) → label_bytes rate (t ∷ []) ≡ label_line (microseconds t rate)
unfolding label_bytes label_lines times_for
labels_one rate t = append-nil (label_line (microseconds t rate))

-- the track of the first i frames
abbrev pub labels_to : ℕ → List ℕ → ℕ → List ℕ
labels_to rate ts i = label_bytes rate (take i ts)

module _ (rate : ℕ) (ts : List ℕ) where
  pub labels_none : labels_to rate ts 0 ≡ []
  unfolding label_bytes label_lines times_for
  labels_none = refl

  pub labels_all : (i : ℕ) → i ≡ length ts → labels_to rate ts i ≡ label_bytes rate ts
  labels_all i e = ap (labels_to rate ts) e ∙ ap (label_bytes rate) (take-length ts)

  pub labels_more : (i : ℕ) → i < length ts → labels_to rate ts (i + 1) ≡ labels_to rate ts i ++ label_line (microseconds (get_or ts i 0) rate)
  labels_more i h =
      ap (labels_to rate ts) (add-one i) ∙ ap (label_bytes rate) (take-suc ts i 0 h)
      ∙ labels_join rate (take i ts) (get_or ts i 0 ∷ [])
      ∙ ap (λ (r : List ℕ). labels_to rate ts i ++ r) (labels_one rate (get_or ts i 0))

  pub labels_part : (i : ℕ) → length (labels_to rate ts i) ≤ length (label_bytes rate ts)
  labels_part i =
      let e = ap length (ap (label_bytes rate) (sym (take-append-drop i ts)) ∙ labels_join rate (take i ts) (drop i ts)) in
      omega (arith, e, length-append (labels_to rate ts i) (label_bytes rate (drop i ts)))

  pub labels_longer : (i : ℕ) → i < length ts
      → length (labels_to rate ts (i + 1)) ≡ length (labels_to rate ts i) + length (label_line (microseconds (get_or ts i 0) rate))
  labels_longer i h = ap length (labels_more i h) ∙ length-append (labels_to rate ts i) (label_line (microseconds (get_or ts i 0) rate))

-- the seconds of any frame whose sample has 32 bits have at most ten digits, so that its line has at most 41 bytes
pub line_most : (rate : ℕ) → rate_fine rate ≡ true → (t : ℕ) → t ≤ 16777213 → length (label_line (microseconds t rate)) ≤ 41
line_most rate good t h =
    let u = microseconds t rate in
    let top = time_most t rate (rate_some rate good) in
    omega (arith, line_length_lem u, seconds_length u, ten_digits (u / 1000000) (omega arith))

-- those of a listed frame at most nine, so that its line has at most 39 bytes
line_listed : (rate : ℕ) → rate_fine rate ≡ true → (t : ℕ) → t ≤ most_frame → length (label_line (microseconds t rate)) ≤ 39
line_listed rate good t h =
    let u = microseconds t rate in
    let top = time_most t rate (rate_some rate good) in
    omega (arith, line_length_lem u, seconds_length u, nine_digits (u / 1000000) (omega arith))

pub labels_most : (rate : ℕ) → rate_fine rate ≡ true → (ts : List ℕ) → every frame_fine ts ≡ true → length (label_bytes rate ts) ≤ 39 * length ts
unfolding label_bytes label_lines times_for every
labels_most rate good [] f = omega arith
labels_most rate good (t ∷ ts) f =
    let here = line_listed rate good t (leb-true t most_frame (and_left (leb t most_frame) _ f)) in
    let rest = labels_most rate good ts (and_right (leb t most_frame) _ f) in
    omega (arith, length-append (label_line (microseconds t rate)) (label_bytes rate ts))
