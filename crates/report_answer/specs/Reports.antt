-- Document 01, "The reporting program": "rate 48,000, defaults, up to 8,000 rows". What is written of a flux, and of a whole input.
use Rattle.std.specs.Prelude.{ℕ, List, take, Float}
use Rattle.numbers.specs.Refusals.{unless_refused}
use Rattle.options.specs.Options.{default_options}
use Rattle.lags.specs.Lags.{min_lag, max_lag}
use Rattle.tempo.specs.Answers.{EstimateSaid}
use Rattle.stability.specs.declared.Stability.{Stability}
use Rattle.stability.specs.Answers.{share_of, agreeing_in, windows_in}
use Rattle.onsets.specs.Onsets.{onsets_in}
use Rattle.track.specs.Analyses.{estimate_in, period_in, beats_in, downbeats_in}
use Rattle.report.specs.Input.{report_number, report_flux}
use Rattle.report_text.specs.Text.{report_text, refusal_text}
use Rattle.report_lines.specs.Lines.{candidate_lags}

-- samples a second
abbrev pub report_rate : ℕ
report_rate = 48000

-- the lags of the candidates of an estimate, the winner's first
abbrev pub lags_in : EstimateSaid → List ℕ
lags_in e = take e.count (candidate_lags e.candidates)

-- the stability of a flux
abbrev pub stability_in : List Float → Stability
stability_in flux =
    share_of flux report_rate (min_lag report_rate default_options) (max_lag report_rate default_options) (period_in flux report_rate default_options)

-- the six lines of a flux
unfoldable pub report_of : List Float → List ℕ
report_of flux =
    report_text (onsets_in flux report_rate) (lags_in (estimate_in flux report_rate default_options))
    (beats_in flux report_rate default_options) (downbeats_in flux report_rate default_options)
    (agreeing_in (stability_in flux)) (windows_in (stability_in flux))

-- The whole text of an input: "A refusal writes `refused`, a space and the number", and else the report of the flux of its rows.
unfoldable pub answer_of : (input : List ℕ) → List ℕ
answer_of input = unless_refused (report_number input) (report_of (report_flux input)) (refusal_text (report_number input))
