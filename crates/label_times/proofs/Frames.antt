-- A frame's time, and back: `time_back`, `time_none`, `time_is`. Assumes nothing.
use mathlib.Core.Path.{◌≡◌, refl, sym, ap, ◌∙◌}
use mathlib.Core.Bool.{Bool, true, false}
use mathlib.Core.Logic.{⊎_elim}
use Prim.Native.Nat.{ℕ, ◌+◌, ◌-◌, ◌*◌, ◌/◌, ◌≤◌, ◌<◌, min}
use native.Mathlib.Nat.{mul-le-mul_right}
use native.Mathlib.Omega.{arith}
use lib.Dec.{leb, eqb}
use borrow.Author.Tests.{le-leb, lt-leb, leb-true, eq-eqb, eqb-true}
use Rattle.numbers.specs.Limits.{most_frame, most_rate, rate_fine}
use Rattle.numbers.proofs.Tests.{and_left, and_right, and_both, true_not_false, lt_or_le}
use Rattle.times.specs.Micros.{sample_of, microseconds}
use Rattle.times.proofs.Times.{half-low, half_high, rising, time_fits}
use Rattle.lists.specs.declared.Reading.{Reading}
use Rattle.lists.specs.Grids.{next_read, missed}
use Rattle.label_times.specs.Frames.{frame_for, time_fine, time_read}

module _ (rate : ℕ) (good : rate_fine rate ≡ true) where
  pub rate_some : 0 < rate
  rate_some = leb-true 1 rate (and_left (leb 1 rate) _ good)

  pub rate_most : rate ≤ 192000
  rate_most = leb-true rate most_rate (and_right (leb 1 rate) _ good)

-- above the time of every frame that document 02 ever lists (No. 11)
abbrev pub past_times : ℕ
past_times = 10000000000000000

module _ (rate : ℕ) (some : 0 < rate) (most : rate ≤ 192000) where
  -- what the rounding says, without a quotient
  time_low : (t : ℕ) → microseconds t rate * (rate * 2) ≤ (t * 256 + 512) * 2000000 + rate
  unfolding microseconds
  time_low t = let h = half-low (sample_of t * 1000000) rate some in omega arith

  time_high : (t : ℕ) → (t * 256 + 512) * 2000000 + rate < microseconds t rate * (rate * 2) + rate * 2
  unfolding microseconds
  time_high t = let h = half_high (sample_of t * 1000000) rate some in omega arith

  pub time_back : (t : ℕ) → frame_for (microseconds t rate) rate ≡ t
  unfolding frame_for
  time_back t =
      let x = microseconds t rate * (rate * 2) in
      let low = time_low t in
      let high = time_high t in
      whole x t low high
    where
      whole : (x t : ℕ) → x ≤ (t * 256 + 512) * 2000000 + rate → (t * 256 + 512) * 2000000 + rate < x + rate * 2
          → (x - (1024000000 + rate) + 511999999) / 512000000 ≡ t
      whole x t low high = omega arith

  -- the time of a listed frame is one
  pub time_listed : (t : ℕ) → t ≤ most_frame → time_fine rate (microseconds t rate) ≡ true
  unfolding time_fine
  time_listed t h =
      and_both (leb (frame_for (microseconds t rate) rate) most_frame) _ (le-leb (frame_for (microseconds t rate) rate) most_frame (omega (arith, time_back t)))
      (eq-eqb _ _ (ap (λ (s : ℕ). microseconds s rate) (time_back t)))

  -- and one that is none is no listed frame's
  pub time_none : (u : ℕ) → time_fine rate u ≡ false → (t : ℕ) → t ≤ most_frame → microseconds t rate ≡ u → ⊥
  time_none u e t h g = true_not_false (time_fine rate u) (ap (time_fine rate) (sym g) ∙ time_listed t h) e

  pub time_is : (u : ℕ) → time_fine rate u ≡ true → microseconds (frame_for u rate) rate ≡ u
  unfolding time_fine
  time_is u e = eqb-true _ _ (and_right (leb (frame_for u rate) most_frame) _ e)

  pub time_frame : (u : ℕ) → time_fine rate u ≡ true → frame_for u rate ≤ most_frame
  unfolding time_fine
  time_frame u e = leb-true _ _ (and_left (leb (frame_for u rate) most_frame) _ e)

  -- past the last listed frame's time there is none
  pub time_past : (u : ℕ) → microseconds most_frame rate < u → time_fine rate u ≡ false
  time_past u h = go (time_fine rate u) refl
    where
      go : (b : Bool) → time_fine rate u ≡ b → b ≡ false
      go false e = refl
      go true e =
          let f = time_frame u e in
          let same = time_is u e in
          ⊎_elim
          (λ (k : frame_for u rate < most_frame). absurd (omega (arith, same, rising rate some most (frame_for u rate) most_frame k)))
          (λ (k : most_frame ≤ frame_for u rate). let z : frame_for u rate ≡ most_frame = omega arith in absurd (omega (
            arith,
            same,
            ap (λ
                (s : ℕ). microseconds s rate) z,
          )))
          (lt_or_le (frame_for u rate) most_frame)

  -- ---- as the code tests it

  pub product_fits : (u : ℕ) → u ≤ microseconds most_frame rate → u * (rate * 2) ≤ 600000000000000
  product_fits u h = omega (arith, mul-le-mul_right (rate * 2) h, time_low most_frame)

  pub time_over : (u : ℕ) → most_frame < frame_for u rate → time_fine rate u ≡ false
  unfolding time_fine
  time_over u h = rw (lt-leb (frame_for u rate) most_frame h)

  pub time_tested : (u : ℕ) → frame_for u rate ≤ most_frame → time_fine rate u ≡ eqb (microseconds (frame_for u rate) rate) u
  unfolding time_fine
  time_tested u h = rw (le-leb (frame_for u rate) most_frame h)

  pub time_small : (t : ℕ) → t ≤ most_frame → microseconds t rate < past_times
  time_small t h = omega (arith, time_fits t rate some (omega arith))

  -- times held to a number above all of them
  pub time_held : (u : ℕ) → time_fine rate (min u past_times) ≡ time_fine rate u
  time_held u =
      ⊎_elim
      (λ (k : u < past_times). let e : min u past_times ≡ u = omega arith in ap (time_fine rate) e)
      (λ (k : past_times ≤ u).
      let top : microseconds most_frame rate < past_times = time_small most_frame (omega arith) in
      let e : min u past_times ≡ past_times = omega arith in
      ap (time_fine rate) e ∙ time_past past_times top ∙ sym (time_past u (omega arith)))
      (lt_or_le u past_times)

  -- a listed frame's time is not past the last one's
  pub time_within : (u : ℕ) → time_fine rate u ≡ true → u ≤ microseconds most_frame rate
  time_within u e =
      ⊎_elim
      (λ (k : microseconds most_frame rate < u). true_not_false (time_fine rate u) e (time_past u k))
      (λ (k : u ≤ microseconds most_frame rate). k)
      (lt_or_le (microseconds most_frame rate) u)

  pub time_unheld : (u : ℕ) → time_fine rate u ≡ true → min u past_times ≡ u
  time_unheld u e = let a = time_within u e in let b = time_small most_frame (omega arith) in omega arith

-- ---- one time more that is read

module _ (rate : ℕ) (j : Reading) (u : ℕ) where
  pub time_counts : time_fine rate u ≡ true → time_read rate j u ≡ next_read j (frame_for u rate)
  unfolding time_read
  time_counts e = rw e

  pub time_misses : time_fine rate u ≡ false → time_read rate j u ≡ missed j
  unfolding time_read
  time_misses e = rw e

-- the same of a time that is held
pub time_read_held : (rate : ℕ) → rate_fine rate ≡ true → (j : Reading) (u : ℕ) → time_read rate j (min u past_times) ≡ time_read rate j u
time_read_held rate good j u = go (time_fine rate u) refl
  where
    some : 0 < rate
    some = rate_some rate good

    most : rate ≤ 192000
    most = rate_most rate good

    go : (b : Bool) → time_fine rate u ≡ b → time_read rate j (min u past_times) ≡ time_read rate j u
    go true e = ap (time_read rate j) (time_unheld rate some most u e)
    go false e = time_misses rate j (min u past_times) (time_held rate some most u ∙ e) ∙ sym (time_misses rate j u e)
