-- Frames to a label track and back, and a label track to frames and back: `labels_read`, `labels_written`; and the frames from a place on. Assumes nothing.
use mathlib.Core.Path.{◌≡◌, refl, sym, ap, ◌∙◌}
use mathlib.Core.Bool.{Bool, true, false, ◌&&◌}
use mathlib.Core.List.{List, [], ◌∷◌, ◌++◌}
use Prim.Native.Nat.{ℕ, suc, ◌+◌, ◌≤◌, ◌<◌}
use native.Mathlib.Numerals.{add-one}
use native.Mathlib.Omega.{arith}
use lib.ListN.{length, get_or, take, drop, set}
use lib.Seq.{drop-cons, take-suc, take-length, length-take-le}
use borrow.Author.Tests.{le-leb, leb-true}
use Rattle.numbers.specs.Limits.{most_frame, rate_fine, frame_fine}
use Rattle.numbers.specs.Lists.{every, listed, ascending}
use Rattle.numbers.specs.Refusals.{first_of}
use Rattle.numbers.proofs.Tests.{and_left, and_right, and_both}
use Rattle.numbers.proofs.Firsts.{first-zero}
use Rattle.numbers.proofs.Tabs.{listed_more, length-listed}
use Rattle.times.specs.Micros.{microseconds}
use Rattle.lists.specs.declared.Reading.{Reading}
use Rattle.lists.specs.Grids.{unread, read_number}
use Rattle.lists.proofs.Grids.{Grid, grid_of_lem}
use Rattle.lists.proofs.Readings.{read_one, read_missed, read_later}
use Rattle.label_times.specs.Frames.{frame_for, time_fine, time_read}
use Rattle.label_times.proofs.Frames.{rate_some, rate_most, time_back, time_listed, time_is, time_frame, time_counts, time_misses}
use Rattle.label_lines.specs.Lines.{line_length, time_of}
use Rattle.label_tracks.specs.Tracks.{label_lines, times_for, label_bytes, text_fine, frames_for, text_times, text_frames, text_rows}
use Rattle.label_tracks.proofs.Tracks.{lines_read, times_read, lines_written, times_from, from_step}

module _ (rate : ℕ) (good : rate_fine rate ≡ true) where
  some : 0 < rate
  some = rate_some rate good

  most : rate ≤ 192000
  most = rate_most rate good

  frames_back : (ts : List ℕ) → frames_for rate (times_for rate ts) ≡ ts
  unfolding frames_for times_for
  frames_back [] = refl
  frames_back (t ∷ ts) =
      ap (λ (s : ℕ). s ∷ frames_for rate (times_for rate ts)) (time_back rate some most t) ∙ ap (λ (r : List ℕ). t ∷ r) (frames_back ts)

  times_listed : (ts : List ℕ) → every frame_fine ts ≡ true → every (time_fine rate) (times_for rate ts) ≡ true
  unfolding every times_for
  times_listed [] e = refl
  times_listed (t ∷ ts) e =
      and_both (time_fine rate (microseconds t rate)) _ (time_listed rate some most t (leb-true t most_frame (and_left (frame_fine t) _ e)))
      (times_listed ts (and_right (frame_fine t) _ e))

  times_long : (ts : List ℕ) → length (times_for rate ts) ≡ length ts
  unfolding times_for
  times_long [] = refl
  times_long (t ∷ ts) = ap suc (times_long ts)

  times_back : (us : List ℕ) → every (time_fine rate) us ≡ true → times_for rate (frames_for rate us) ≡ us
  unfolding every times_for frames_for
  times_back [] e = refl
  times_back (u ∷ us) e =
      ap (λ (s : ℕ). s ∷ times_for rate (frames_for rate us)) (time_is rate some most u (and_left (time_fine rate u) _ e))
      ∙ ap (λ (r : List ℕ). u ∷ r) (times_back us (and_right (time_fine rate u) _ e))

  -- the frames of listed times are listed
  frames_listed : (us : List ℕ) → every (time_fine rate) us ≡ true → every frame_fine (frames_for rate us) ≡ true
  unfolding every frames_for
  frames_listed [] e = refl
  frames_listed (u ∷ us) e =
      and_both (frame_fine (frame_for u rate)) _ (le-leb (frame_for u rate) most_frame (time_frame rate some most u (and_left (time_fine rate u) _ e)))
      (frames_listed us (and_right (time_fine rate u) _ e))

  -- The track of any strictly ascending listed frames is read as they, and nothing refuses it but too little room.
  module _ (ts : List ℕ) (grid : Grid ts) where
    times_own : text_times (label_bytes rate ts) ≡ times_for rate ts
    unfolding label_bytes
    times_own = times_read (times_for rate ts)

    pub label_frames : text_frames rate (label_bytes rate ts) ≡ ts
    label_frames = ap (frames_for rate) times_own ∙ frames_back ts

    pub labels_read : first_of (text_rows rate (label_bytes rate ts)) ≡ 0
    unfolding label_bytes
    labels_read =
        let fine : text_fine (label_bytes rate ts) ≡ true = lines_read (times_for rate ts) in
        let times : every (time_fine rate) (text_times (label_bytes rate ts)) ≡ true = ap (every (time_fine rate)) times_own ∙ times_listed ts grid.listed in
        let up : ascending 0 (text_frames rate (label_bytes rate ts)) ≡ true = ap (ascending 0) label_frames ∙ grid.ascend in
        rw (good, fine, times, up)

-- ---- a text's number, test by test

module _ (rate : ℕ) (text : List ℕ) where
  pub text_rate : rate_fine rate ≡ false → first_of (text_rows rate text) ≡ 1
  text_rate e = rw e

  module _ (r : rate_fine rate ≡ true) where
    pub text_lines : text_fine text ≡ false → first_of (text_rows rate text) ≡ 9
    text_lines e = rw (r, e)

    -- of lines that are all of the form, the times and the frames decide
    pub text_judged : text_fine text ≡ true → first_of (text_rows rate text) ≡ read_number unread (every (time_fine rate) (text_times text)) (text_frames rate text)
    unfolding read_number
    text_judged f = rw (r, f)

  -- what number 0 says
  pub record Readable : Type 0 where
    pub rated : rate_fine rate ≡ true
    pub lines : text_fine text ≡ true
    pub times : every (time_fine rate) (text_times text) ≡ true
    pub grid : Grid (text_frames rate text)

  pub text-told : first_of (text_rows rate text) ≡ 0 → Readable
  unfolding every
  text-told z =
      let all = first-zero (text_rows rate text) refl z in
      let a1 = and_right (rate_fine rate) _ all in
      let a2 = and_right (text_fine text) _ a1 in
      let a3 = and_right (every (time_fine rate) (text_times text)) _ a2 in
      let r = and_left (rate_fine rate) _ all in
      let t = and_left (every (time_fine rate) (text_times text)) _ a2 in
      record {
        rated = r;
        lines = and_left (text_fine text) _ a1;
        times = t;
        grid = grid_of_lem (text_frames rate text) (frames_listed rate r (text_times text) t) (and_left (ascending 0 (text_frames rate text)) _ a3);
      }

-- Whatever bytes are read are the track of the frames that were read.
pub labels_written : (rate : ℕ) (text : List ℕ) → Readable rate text → text ≡ label_bytes rate (text_frames rate text)
unfolding label_bytes
labels_written rate text r =
    lines_written (length text) text r.lines ∙ ap label_lines (sym (times_back rate r.rated (text_times text) r.times))

-- ---- one time more that is read

every_cons : (p : ℕ → Bool) (x : ℕ) (xs : List ℕ) → every p (x ∷ xs) ≡ (p x && every p xs)
unfolding every
every_cons p x xs = refl

pub every-none : (p : ℕ → Bool) → every p [] ≡ true
unfolding every
every-none p = refl

-- the number of what was read and of those times that are left
abbrev pub judged_from : ℕ → Reading → List ℕ → ℕ
judged_from rate j us = read_number j (every (time_fine rate) us) (frames_for rate us)

pub judged_step : (rate : ℕ) (j : Reading) (u : ℕ) (us : List ℕ) → judged_from rate j (u ∷ us) ≡ judged_from rate (time_read rate j u) us
unfolding frames_for
judged_step rate j u us = go (time_fine rate u) refl
  where
    go : (b : Bool) → time_fine rate u ≡ b → judged_from rate j (u ∷ us) ≡ judged_from rate (time_read rate j u) us
    go true e =
        ap (λ (b : Bool). read_number j b (frame_for u rate ∷ frames_for rate us)) (every_cons (time_fine rate) u us
        ∙ ap (λ (b : Bool). b && every (time_fine rate) us) e)
        ∙ sym (read_one j (frame_for u rate) (every (time_fine rate) us) (frames_for rate us))
        ∙ ap (λ (k : Reading). judged_from rate k us) (sym (time_counts rate j u e))
    go false e =
        ap (λ (b : Bool). read_number j b (frame_for u rate ∷ frames_for rate us)) (every_cons (time_fine rate) u us
        ∙ ap (λ (b : Bool). b && every (time_fine rate) us) e)
        ∙ read_later j (frame_for u rate ∷ frames_for rate us)
        ∙ sym (read_missed j (every (time_fine rate) us) (frames_for rate us))
        ∙ ap (λ (k : Reading). judged_from rate k us) (sym (time_misses rate j u e))

pub judged_end : (rate : ℕ) (j : Reading) (us : List ℕ) → us ≡ [] → judged_from rate j us ≡ read_number j true []
unfolding frames_for every
judged_end rate j us e = ap (judged_from rate j) e

-- ---- the frames from a place on

module _ (rate : ℕ) (text : List ℕ) (at end : ℕ) (h : at < length text) (e : end ≡ at + line_length (drop at text)) where
  pub frames_step : frames_for rate (times_from text at) ≡ frame_for (time_of (drop at text)) rate ∷ frames_for rate (times_from text end)
  unfolding frames_for
  frames_step = ap (frames_for rate) (from_step text at h end e).1

  pub times_here : every (time_fine rate) (times_from text at) ≡ true → time_fine rate (time_of (drop at text)) ≡ true
  times_here k =
      and_left (time_fine rate (time_of (drop at text))) _ (sym (ap (every (time_fine rate)) (from_step text at h end e).1 ∙ every_cons (time_fine rate) _ _) ∙ k)

  pub times_rest : every (time_fine rate) (times_from text at) ≡ true → every (time_fine rate) (times_from text end) ≡ true
  times_rest k =
      and_right (time_fine rate (time_of (drop at text))) _ (sym (ap (every (time_fine rate)) (from_step text at h end e).1 ∙ every_cons (time_fine rate) _ _) ∙ k)

pub frames_none : (rate : ℕ) → frames_for rate [] ≡ []
unfolding frames_for
frames_none rate = refl

pub frames_long : (rate : ℕ) (us : List ℕ) → length (frames_for rate us) ≡ length us
unfolding frames_for
frames_long rate [] = refl
frames_long rate (u ∷ us) = ap suc (frames_long rate us)

-- ---- entries that are filled in one by one

module _ (fs d : List ℕ) (n : ℕ) where
  pub fill_length : n ≤ length fs → length fs ≤ length d → length (listed (take n fs) d) ≡ length d
  fill_length h k = length-listed (take n fs) d (omega (arith, length-take-le n fs h))

  pub fill_more : (x : ℕ) (rest : List ℕ) → n < length fs → length fs ≤ length d → drop n fs ≡ x ∷ rest
      → (set (listed (take n fs) d) n x ≡ listed (take (n + 1) fs) d) × (drop (n + 1) fs ≡ rest)
  fill_more x rest h k e =
      let few : length (take n fs) ≡ n = length-take-le n fs (omega arith) in
      let both : get_or fs n 0 ∷ drop (suc n) fs ≡ x ∷ rest = sym (drop-cons fs n 0 h) ∙ e in
      let head : get_or fs n 0 ≡ x = cc in
      let tail : drop (suc n) fs ≡ rest = cc in (
        ap (λ (j : ℕ). set (listed (take n fs) d) j x) (sym few)
            ∙ listed_more (take n fs) d x 0 (omega (arith, few))
            ∙ ap (λ (y : ℕ). listed (take n fs ++ (y ∷ [])) d) (sym head)
            ∙ ap (λ (r : List ℕ). listed r d) (sym (take-suc fs n 0 h))
            ∙ ap (λ (j : ℕ). listed (take j fs) d) (sym (add-one n)),
        ap (λ (j : ℕ). drop j fs) (add-one n) ∙ tail,
      )

  pub fill_all : n ≡ length fs → listed (take n fs) d ≡ listed fs d
  fill_all e = ap (λ (j : ℕ). listed (take j fs) d) e ∙ ap (λ (r : List ℕ). listed r d) (take-length fs)
