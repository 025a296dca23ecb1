-- The number and the flux of an input, by its parts, one behind the other. Assumes nothing.
use mathlib.Core.Path.{◌≡◌, refl, sym, ap, ◌∙◌}
use mathlib.Core.Bool.{Bool, true, false, ◌&&◌}
use mathlib.Core.List.{List, ◌++◌}
use Prim.Native.Nat.{ℕ, ◌+◌, ◌*◌, ◌≤◌, ◌<◌}
use native.Mathlib.Omega.{arith}
use lib.Dec.{leb, eqb}
use lib.Ieee.{Float}
use lib.ListN.{length, get_or, take, drop, length-append}
use lib.Seq.{take-append_seam, drop-append_seam, take_at, drop_at, take_all}
use borrow.Author.Tests.{le-leb, lt-leb, leb-true, ne_eqb}
use Rattle.numbers.proofs.Tests.{and_left, and_right, pick_true, pick-false, lowest_1, lowest_2}
use Rattle.numbers.proofs.Tabs.{length-tab, filled-whole}
use Rattle.numbers.specs.Limits.{most_bins, magnitude_fine, value_fine, slab_of}
use Rattle.numbers.specs.Lists.{every, curve}
use Rattle.numbers.specs.Rounded.{pick}
use Rattle.std.specs.Prelude.{Option, Some, None}
use Rattle.report_npy.specs.declared.Shape.{Shape}
use Rattle.texts.specs.Texts.{starts}
use Rattle.report_npy.specs.Header.{magic, header_of, preamble_of, shape_of}
use Rattle.flux.specs.Flux.{flux_at}
use Rattle.flux.proofs.Fluxes.{flux_curve_fine}
use Rattle.report.specs.Input.{
  most_reported,
  preamble_length,
  values_of,
  shape_fine,
  data_number,
  header_number,
  preamble_number,
  report_number,
  header_flux,
  preamble_flux,
  report_flux,
}
use Rattle.report_feed.specs.declared.Reading.{Reading}
use Rattle.report_feed.specs.Feeds.{Told}

-- ---- bounds

module _ (rows bins : ℕ) (e : shape_fine rows bins ≡ true) where
  pub rows_fit : rows ≤ most_reported
  rows_fit = leb-true _ _ (and_left (leb rows most_reported) _ e)

  pub bins-some : 1 ≤ bins
  bins-some = leb-true _ _ (and_left (leb 1 bins) _ (and_right (leb rows most_reported) _ e))

  pub bins_fit : bins ≤ most_bins
  bins_fit = leb-true _ _ (and_right (leb 1 bins) _ (and_right (leb rows most_reported) _ e))

-- ---- the number of an input

short_malformed : (bytes : List ℕ) → length bytes < 10 → preamble_of bytes ≡ None
unfolding preamble_of
short_malformed bytes h = go (starts magic bytes)
  where
    go : (b : Bool) → pick (b && leb 10 (length bytes)) (Some (get_or bytes 8 0 + get_or bytes 9 0 * 256)) None ≡ None
    go true = pick-false _ _ _ (lt-leb 10 (length bytes) h)
    go false = refl

-- fewer than ten bytes are malformed
pub number_short : (input : List ℕ) → length input < 10 → report_number input ≡ 5
unfolding report_number preamble_number
number_short input h =
    ap (λ (x : List ℕ). preamble_number (preamble_of x) (drop preamble_length input)) (take_all preamble_length input (omega arith))
    ∙ ap (λ (p : Option ℕ). preamble_number p (drop preamble_length input)) (short_malformed input h)

module _ (first : List ℕ) (l : length first ≡ preamble_length) where
  -- ten bytes, and the rest behind them
  number-rest : (rest : List ℕ) → report_number (first ++ rest) ≡ preamble_number (preamble_of first) rest
  unfolding report_number
  number-rest rest =
      ap (λ (x : List ℕ). preamble_number (preamble_of x) (drop preamble_length (first ++ rest))) (take_at first rest preamble_length l)
      ∙ ap (preamble_number (preamble_of first)) (drop_at first rest preamble_length l)

  pub number-malformed : preamble_of first ≡ None → (rest : List ℕ) → report_number (first ++ rest) ≡ 5
  unfolding preamble_number
  number-malformed p rest = number-rest rest ∙ ap (λ (x : Option ℕ). preamble_number x rest) p

  -- the input ends within the text
  pub number_text_short : (size : ℕ) → preamble_of first ≡ Some size → (part : List ℕ) → length part < size → report_number (first ++ part) ≡ 5
  unfolding preamble_number
  number_text_short size p part h = number-rest part ∙ ap (λ (x : Option ℕ). preamble_number x part) p ∙ pick-false _ _ _ (lt-leb size (length part) h)

  -- the text is there, and some data behind it
  module _ (text : List ℕ) (p : preamble_of first ≡ Some (length text)) where
    number_header : (head : Option Shape) → header_of text ≡ head → (body : List ℕ) → report_number (first ++ (text ++ body)) ≡ header_number head body
    unfolding preamble_number
    number_header head h body =
        number-rest (text ++ body)
        ∙ ap (λ (x : Option ℕ). preamble_number x (text ++ body)) p
        ∙ pick_true _ _ _ (le-leb (length text) (length (text ++ body)) (omega (arith, length-append text body)))
        ∙ ap (λ (x : List ℕ). header_number (header_of x) (drop (length text) (text ++ body))) (take-append_seam text body)
        ∙ ap (header_number (header_of text)) (drop-append_seam text body)
        ∙ ap (λ (x : Option Shape). header_number x body) h

    pub number_text_malformed : header_of text ≡ None → (body : List ℕ) → report_number (first ++ (text ++ body)) ≡ 5
    unfolding header_number
    number_text_malformed h body = number_header None h body

    module _ (rows bins : ℕ) (h : header_of text ≡ Some (shape_of rows bins)) where
      pub number_data : (body : List ℕ) → report_number (first ++ (text ++ body)) ≡ data_number rows bins body
      unfolding header_number
      number_data body = number_header (Some (shape_of rows bins)) h body

      pub number-shape : shape_fine rows bins ≡ false → (body : List ℕ) → report_number (first ++ (text ++ body)) ≡ 1
      unfolding data_number
      number-shape s body = number_data body ∙ lowest_1 (shape_fine rows bins) (eqb (length body) (rows * bins * 4)) true (every magnitude_fine (values_of body)) s

      -- too little or too much data
      pub number-length : shape_fine rows bins ≡ true → (body : List ℕ) → (length body ≡ rows * bins * 4 → ⊥) → report_number (first ++ (text ++ body)) ≡ 2
      unfolding data_number
      number-length s body n =
          number_data body ∙ lowest_2 (shape_fine rows bins) (eqb (length body) (rows * bins * 4)) true (every magnitude_fine (values_of body)) s (ne_eqb _ _ n)

-- ---- an input that nothing refuses

-- The flux that is left is that of the whole input, and each of its values is one that an analysis takes.
pub record Accepted (input : List ℕ) (rows : ℕ) (flux : List Float) : Type 0 where
  pub rows_fit : rows ≤ most_reported
  pub flux_is : take rows flux ≡ report_flux input
  pub fine_is : every value_fine (take rows flux) ≡ true

flux_of : (first text body : List ℕ) (rows bins : ℕ) → length first ≡ preamble_length → preamble_of first ≡ Some (length text)
    → header_of text ≡ Some (shape_of rows bins)
    → report_flux (first ++ (text ++ body)) ≡ curve (flux_at (values_of body) (slab_of rows bins)) rows
unfolding report_flux
flux_of first text body rows bins l p h =
    let rest = text ++ body in
    ap (λ (x : List ℕ). preamble_flux (preamble_of x) (drop preamble_length (first ++ rest))) (take_at first rest preamble_length l)
    ∙ ap (preamble_flux (preamble_of first)) (drop_at first rest preamble_length l)
    ∙ ap (λ (x : Option ℕ). preamble_flux x rest) p
    ∙ ap (λ (x : List ℕ). header_flux (header_of x) (drop (length text) rest)) (take-append_seam text body)
    ∙ ap (header_flux (header_of text)) (drop-append_seam text body)
    ∙ ap (λ (x : Option Shape). header_flux x body) h

pub accepted : {input : List ℕ} {was flux : List Float} {answer : Reading} → Told input answer was flux → answer.number ≡ 0
    → Accepted input answer.rows flux
accepted {input} {was} {flux} {answer} r z =
    let f = r.found z in
    let rows = answer.rows in
    let rule = flux_at (values_of f.body) (slab_of rows f.bins) in
    let e : take rows flux ≡ curve rule rows = ap (take rows) (f.flux_is ∙ filled-whole rule was rows)
    ∙ take_at (curve rule rows) (drop rows was) rows (length-tab rule 0 rows) in
    record {
      rows_fit = f.rows_fit;
      flux_is = e ∙ sym (flux_of f.first f.text f.body rows f.bins f.first_is f.stated_is f.header_is) ∙ ap report_flux (sym f.input_is);
      fine_is = rw e (flux_curve_fine (values_of f.body) (slab_of rows f.bins) f.fine_is f.bins_fit);
    }
