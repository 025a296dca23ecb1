-- The C interface to the calls that list frames, write the bytes of a file or list what is in one.
use Rattle.std.specs.Prelude.{ℕ, ◌≡◌, List, length, Float}
use Rattle.numbers.specs.Lists.{listed}
use Rattle.numbers.specs.Refusals.{first_of, unless_refused}
use Rattle.onsets.specs.Peaks.{suppressed, suppression_refusal}
use Rattle.onsets.specs.Onsets.{onsets_of, onsets_refusal}
use Rattle.options.specs.Options.{default_options, with_meter}
use Rattle.bars.specs.Downbeats.{downbeat_refusal, downbeats_of}
use Rattle.midi_gaps.specs.Gaps.{gaps_of}
use Rattle.midi_events.specs.File.{file_of}
use Rattle.midi_events.specs.Shapes.{gaps_in}
use Rattle.midi.specs.Tracks.{write_refusal, read_refusal}
use Rattle.cue_points.specs.Chunks.{cue_bytes, chunk_frames}
use Rattle.cues.specs.Calls.{write_cues_number, read_cues_number}
use Rattle.label_tracks.specs.Tracks.{label_bytes, text_frames}
use Rattle.labels.specs.Calls.{frames_rows, write_labels_number, read_labels_number}
use Rattle.label_cues.specs.Calls.{labels_to_cues_number, cues_to_labels_number}
use Rattle.capi_answers.specs.Handed.{Handed}

-- Of the entries that the proved call lists: the lent count is how many they are, and the lent list, which was `was`, has them first, as that call
-- leaves it.
pub record ListHanded (number : ℕ) (entries was : List ℕ) (count₀ answer : ℕ) (after : List ℕ) (count : ℕ) : Type 0 where
  pub handed : Handed number (length entries) count₀ answer count
  pub frames_are : after ≡ unless_refused number (listed entries was) was

-- what `ph_pick_onsets` promises
abbrev pub PhOnsetsPromise : (flux threshold : List Float) (rate : ℕ) (was : List ℕ) (count₀ answer : ℕ) (after : List ℕ) (count : ℕ) → Type 0
PhOnsetsPromise flux threshold rate was = ListHanded (onsets_refusal flux threshold rate (length was)) (onsets_of flux threshold rate) was

-- what `ph_suppress_close_peaks` promises
abbrev pub PhSuppressionPromise : (peaks : List ℕ) (curve : List Float) (gap : ℕ) (was : List ℕ) (count₀ answer : ℕ) (after : List ℕ) (count : ℕ) → Type 0
PhSuppressionPromise peaks curve gap was = ListHanded (suppression_refusal peaks curve (length was)) (suppressed curve gap peaks) was

-- what `ph_downbeats` promises: of the options the meter alone is handed over, since no bound is read
abbrev pub PhDownbeatsPromise : (envelope : List Float) (beats : List ℕ) (meter : ℕ) (was : List ℕ) (count₀ answer : ℕ) (after : List ℕ) (count : ℕ) → Type 0
PhDownbeatsPromise envelope beats meter was =
    ListHanded (downbeat_refusal envelope beats (with_meter meter default_options) (length was)) (downbeats_of envelope beats meter) was

-- what `ph_write_tempo_track` promises: the entries are the bytes of the file
abbrev pub PhTempoTrackPromise : (beats : List ℕ) (rate : ℕ) (was : List ℕ) (count₀ answer : ℕ) (after : List ℕ) (count : ℕ) → Type 0
PhTempoTrackPromise beats rate was = ListHanded (write_refusal beats rate (length was)) (file_of (gaps_of rate beats)) was

-- what `ph_read_tempo_track` promises: the entries are the gaps, in microseconds
abbrev pub PhTempoGapsPromise : (file was : List ℕ) (count₀ answer : ℕ) (after : List ℕ) (count : ℕ) → Type 0
PhTempoGapsPromise file was = ListHanded (read_refusal file (length was)) (gaps_in file) was

-- what `ph_labels_room` promises: the lent count is how many bytes the label track has
abbrev pub PhLabelsRoomPromise : (frames : List ℕ) (rate : ℕ) (count₀ answer count : ℕ) → Type 0
PhLabelsRoomPromise frames rate = Handed (first_of (frames_rows frames rate)) (length (label_bytes rate frames))

-- what `ph_write_labels` promises: the entries are the bytes of the label track
abbrev pub PhWriteLabelsPromise : (frames : List ℕ) (rate : ℕ) (was : List ℕ) (count₀ answer : ℕ) (after : List ℕ) (count : ℕ) → Type 0
PhWriteLabelsPromise frames rate was = ListHanded (write_labels_number frames rate (length was)) (label_bytes rate frames) was

-- what `ph_read_labels` promises
abbrev pub PhReadLabelsPromise : (text : List ℕ) (rate : ℕ) (was : List ℕ) (count₀ answer : ℕ) (after : List ℕ) (count : ℕ) → Type 0
PhReadLabelsPromise text rate was = ListHanded (read_labels_number text rate (length was)) (text_frames rate text) was

-- what `ph_write_cues` promises: the entries are the bytes of the cue chunk
abbrev pub PhWriteCuesPromise : (frames was : List ℕ) (count₀ answer : ℕ) (after : List ℕ) (count : ℕ) → Type 0
PhWriteCuesPromise frames was = ListHanded (write_cues_number frames (length was)) (cue_bytes frames) was

-- what `ph_read_cues` promises
abbrev pub PhReadCuesPromise : (chunk was : List ℕ) (count₀ answer : ℕ) (after : List ℕ) (count : ℕ) → Type 0
PhReadCuesPromise chunk was = ListHanded (read_cues_number chunk (length was)) (chunk_frames chunk) was

-- what `ph_labels_to_cues` promises: the entries are the bytes of the cue chunk
abbrev pub PhLabelsToCuesPromise : (text : List ℕ) (rate : ℕ) (was : List ℕ) (count₀ answer : ℕ) (after : List ℕ) (count : ℕ) → Type 0
PhLabelsToCuesPromise text rate was = ListHanded (labels_to_cues_number text rate (length was)) (cue_bytes (text_frames rate text)) was

-- what `ph_cues_to_labels` promises: the entries are the bytes of the label track
abbrev pub PhCuesToLabelsPromise : (chunk : List ℕ) (rate : ℕ) (was : List ℕ) (count₀ answer : ℕ) (after : List ℕ) (count : ℕ) → Type 0
PhCuesToLabelsPromise chunk rate was = ListHanded (cues_to_labels_number chunk rate (length was)) (label_bytes rate (chunk_frames chunk)) was
