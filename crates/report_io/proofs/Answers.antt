-- What is read, as what is written. Assumes nothing.
use mathlib.Core.Path.{◌≡◌, refl, sym, ap, ◌∙◌}
use mathlib.Core.Bool.{true}
use mathlib.Core.List.{List}
use Prim.Native.Nat.{ℕ, zero, suc, ◌≤◌}
use native.Mathlib.Omega.{arith}
use lib.ListN.{length, take, length-take}
use lib.Ieee.{Float}
use Rattle.numbers.specs.Limits.{value_fine}
use Rattle.numbers.specs.Lists.{every}
use Rattle.numbers.specs.Refusals.{unless_refused}
use Rattle.numbers.proofs.Tests.{refused_keeps, passed_does}
use Rattle.report.specs.Input.{most_reported, report_flux}
use Rattle.report_feed.specs.declared.Reading.{Reading}
use Rattle.report_feed.proofs.Inputs.{accepted}
use Rattle.report_read.specs.Reads.{InputRead}
use Rattle.report_text.specs.Text.{refusal_text, PutWithin}
use Rattle.report_text.proofs.Puts.{put_as}
use Rattle.report_lines.specs.Lines.{text_room}
use Rattle.report_answer.specs.Reports.{report_of, answer_of}
use Rattle.report_io.specs.Answers.{text_of, Putable, TextAnswered}

-- ---- what is put

-- the part of the flux that an analysis is lent
pub lent_rows : (reading : Reading) (flux : List Float) → Putable reading flux
    → (length (take reading.rows flux) ≤ most_reported) × (every value_fine (take reading.rows flux) ≡ true)
lent_rows reading flux p = (omega (arith, length-take reading.rows flux, p.rows_fit), p.fine)

pub put_refused : (reading : Reading) (flux : List Float) {bytes bytes' : List ℕ} {end : ℕ} → (reading.number ≡ 0 → ⊥)
    → PutWithin bytes 0 (refusal_text reading.number) 19 end bytes' → PutWithin bytes 0 (text_of reading flux) text_room end bytes'
unfolding text_of
put_refused reading flux some p = put_as (sym (refused_keeps reading.number _ _ some)) (omega arith) p

pub put_reported : (reading : Reading) (flux : List Float) {bytes bytes' : List ℕ} {end : ℕ} → reading.number ≡ 0
    → PutWithin bytes 0 (report_of (take reading.rows flux)) text_room end bytes' → PutWithin bytes 0 (text_of reading flux) text_room end bytes'
unfolding text_of
put_reported reading flux z p =
    put_as (sym (passed_does reading.number _ _ z)) (omega arith) p

-- ---- what is read

module _ {was flux : List Float} {reading : Reading} (r : InputRead was reading flux) where
  pub putable : most_reported ≤ length flux → reading.number ≡ 0 → Putable reading flux
  putable h z = let a = accepted r.told z in record { rows_there = omega (arith, a.rows_fit); rows_fit = a.rows_fit; fine = a.fine_is }

  read_text : text_of reading flux ≡ answer_of r.input
  unfolding text_of answer_of
  read_text = by reading.number refl ∙ ap (λ (n : ℕ). unless_refused n (report_of (report_flux r.input)) (refusal_text n)) r.told.number_is
    where
      by : (n : ℕ) → reading.number ≡ n → unless_refused n (report_of (take reading.rows flux)) (refusal_text n) ≡ unless_refused n
          (report_of (report_flux r.input)) (refusal_text n)
      by zero e = ap report_of (accepted r.told e).flux_is
      by (suc k) e = refl

  pub answered : {bytes bytes' : List ℕ} {end : ℕ} → PutWithin bytes 0 (text_of reading flux) text_room end bytes' → TextAnswered bytes end bytes'
  answered p = record { input = r.input; text_is = put_as read_text (omega arith) p }
