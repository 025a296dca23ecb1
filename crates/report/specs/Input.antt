-- Document 01, "The reporting program": what is refused, and the flux of what is not. "Too little or too much data is number 2. More than 8,000
-- rows is number 1."
-- Number 5 is "the file header is malformed"; where it is not, the lowest of the others that applies is given, over the whole input.
use Rattle.std.specs.Prelude.{ℕ, ◌*◌, ◌/◌, Bool, true, ◌&&◌, List, [], Option, Some, None, leb, eqb, Float, length, take, drop}
use Rattle.numbers.specs.Rounded.{pick}
use Rattle.numbers.specs.Limits.{most_bins, between, magnitude_fine, slab_of}
use Rattle.numbers.specs.Lists.{curve, every}
use Rattle.numbers.specs.Refusals.{lowest, malformed}
use Rattle.report_npy.specs.declared.Shape.{Shape}
use Rattle.report_npy.specs.Header.{header_of, preamble_of}
use Rattle.report_npy.specs.Values.{single_at}
use Rattle.flux.specs.Flux.{flux_at}

-- "up to 8,000 rows"
abbrev pub most_reported : ℕ
most_reported = 8000

-- the bytes before a header's text: magic, version and the text's length
abbrev pub preamble_length : ℕ
preamble_length = 10

-- the values that data stand for, four bytes each
unfoldable pub values_of : List ℕ → List Float
values_of bytes = curve (single_at bytes) (length bytes / 4)

-- rows 0 to 8,000, bins 1 to 4,096
abbrev pub shape_fine : (rows bins : ℕ) → Bool
shape_fine rows bins = leb rows most_reported && between 1 most_bins bins

-- the number of a shape and the data behind its header. 1: the shape is within the bounds. 2: the data are as long as it says.
-- 4: each value is fine.
unfoldable pub data_number : (rows bins : ℕ) → (body : List ℕ) → ℕ
unfolding values_of
data_number rows bins body =
    lowest (shape_fine rows bins) (eqb (length body) (rows * bins * 4)) true (every magnitude_fine (values_of body))

-- the number of a header and the data behind it
unfoldable pub header_number : Option Shape → (body : List ℕ) → ℕ
unfolding data_number
header_number None body = malformed
header_number (Some shape) body = data_number shape.rows shape.bins body

-- the number of what stands behind the ten bytes, which say how long the header's text is: an input that ends before it is malformed
unfoldable pub preamble_number : Option ℕ → (rest : List ℕ) → ℕ
unfolding header_number
preamble_number None rest = malformed
preamble_number (Some size) rest =
    pick (leb size (length rest)) (header_number (header_of (take size rest)) (drop size rest)) malformed

-- the number of a whole input
unfoldable pub report_number : (input : List ℕ) → ℕ
unfolding preamble_number
report_number input = preamble_number (preamble_of (take preamble_length input)) (drop preamble_length input)

-- ---- the flux of an input that nothing refuses: the curve of the rows that its header says

unfoldable pub header_flux : Option Shape → (body : List ℕ) → List Float
unfolding values_of
header_flux None body = []
header_flux (Some shape) body = curve (flux_at (values_of body) (slab_of shape.rows shape.bins)) shape.rows

unfoldable pub preamble_flux : Option ℕ → (rest : List ℕ) → List Float
unfolding header_flux
preamble_flux None rest = []
preamble_flux (Some size) rest = header_flux (header_of (take size rest)) (drop size rest)

unfoldable pub report_flux : (input : List ℕ) → List Float
unfolding preamble_flux
report_flux input = preamble_flux (preamble_of (take preamble_length input)) (drop preamble_length input)
