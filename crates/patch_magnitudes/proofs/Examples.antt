-- The slots that some patches of 40 rows of 3 bins name, computed.
use mathlib.Core.List.{[]}
use mathlib.Core.Path.{◌≡◌, refl}
use Rattle.numbers.specs.Limits.{slab_of}
use Rattle.numbers.specs.Lists.{curve}
use Rattle.numbers.specs.Rounded.{nought}
use Rattle.patches.specs.Patches.{patch_of, ranges, returned}
use Rattle.patch_magnitudes.specs.Magnitudes.{rows_named}

-- rows 15 and 16
inside : rows_named (slab_of 40 3) (patch_of 15 (curve (λ i. nought) 6)) ≡ ranges 15 18 5 28
inside = refl

-- row 0, and the last row
first : rows_named (slab_of 40 3) (patch_of 0 (curve (λ i. nought) 3)) ≡ ranges 0 2 0 12
first = refl

last : rows_named (slab_of 40 3) (patch_of 39 (curve (λ i. nought) 3)) ≡ ranges 39 40 29 40
last = refl

-- none, and a refusal
none : rows_named (slab_of 40 3) (patch_of 40 []) ≡ ranges 0 0 0 0
none = refl

refused : returned 4 (rows_named (slab_of 40 3) (patch_of 15 (curve (λ i. nought) 6))) ≡ (4, [])
refused = refl
