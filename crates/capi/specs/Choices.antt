-- The options of a call, as C hands them over: "min_bpm", "max_bpm", and the meter beside them, in the record's order.
use Rattle.std.specs.Prelude.{ℕ, Float}
use Rattle.options.specs.Options.{options_of, with_meter}
use Rattle.options.specs.declared.TempoOpts.{TempoOpts}

abbrev pub chosen_options : (min_bpm max_bpm : Float) (meter : ℕ) → TempoOpts
chosen_options min_bpm max_bpm meter = with_meter meter (options_of min_bpm max_bpm)
