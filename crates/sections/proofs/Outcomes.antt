-- What the calls promise: a refusal, a curve that is too short and an answer each meet it, and any two outcomes that it permits
-- coincide (of `boundary_times` by the law `written_unique` of numbers). Assumes nothing.
use Rattle.std.proofs.Common.{◌≡◌, ℕ, zero, suc, ◌+◌, ◌-◌, ◌<◌, ◌≤◌, min, List, length, take, drop, sym, refl, ap, ◌∙◌, arith, le-ltb, lt-ltb}
use lib.Ieee.{Float}
use Rattle.median.specs.Median.{median_of, mad_of}
use Rattle.numbers.proofs.Tabs.{listed-none, listed-first}
use Rattle.std.specs.Prelude.{Result, Ok, Err, IsErrAnd}
use Rattle.numbers.specs.Refusals as Refusals
use Rattle.numbers.specs.declared.Refusal.{Refusal}
use Rattle.numbers.proofs.Outcomes.{number-not_0, open_same, open_then, open_unique}
use Rattle.sections.specs.declared.Sections.{Sections}
use Rattle.numbers.specs.Outcomes.{Open}
use Rattle.numbers.proofs.Tests.{refused_keeps}
use Rattle.numbers.specs.Lists.{listed}
use Rattle.numbers.specs.Rounded.{◌⊕◌, ◌⊗◌, nought}
use Rattle.onsets.specs.Peaks.{peaks_of, suppressed}
use Rattle.onsets.specs.Steps.{Picked}
use Rattle.section_peaks.specs.Greatest.{kept_greatest}
use Rattle.sections.specs.Boundaries.{section_mad_scale, least_rows, section_gap, section_level, section_peaks, most_boundaries, boundaries_of, sections_of}
use Rattle.sections.specs.Confidence.{confidence_of}
use Rattle.sections.specs.Outcomes.{SectionsSaid, sections_said, worked_in, Found}
use Rattle.section_peaks.specs.Steps.{PickedIn}

module _ (number : ℕ) (novelty : List Float) (bounds rows : List ℕ) (work : List Float) where
  pub found_refused : (answer : SectionsSaid) → answer.number ≡ number → (answer.number ≡ 0 → ⊥) → answer.sections ≡ 0 → answer.count ≡ 0
      → answer.confidence ≡ nought → Found number novelty bounds rows work answer rows work
  found_refused answer e h s n c =
      let no : number ≡ 0 → ⊥ = λ z. h (e ∙ z) in
      record {
        number_is = e;
        sections_are = s ∙ sym (refused_keeps number (sections_of (length novelty) (length bounds)) 0 no);
        count_is = n ∙ sym (refused_keeps number (length bounds) 0 no);
        confidence_is = c ∙ sym (refused_keeps number (confidence_of novelty bounds) nought no);
        rows_are = sym (refused_keeps number (listed bounds rows) rows no);
        works = open_same _ work;
      }

  -- a refusal that `?` hands on: e is what refused
  pub found_on : (r : Result Sections Refusal) (e : Refusal) → IsErrAnd r (λ (x : Refusal). x ≡ e) → Refusals.number e ≡ number
      → Found number novelty bounds rows work (sections_said r) rows work
  found_on (Ok s) e h k = absurd h
  found_on (Err x) e h k = found_refused (sections_said (Err x)) (ap Refusals.number h ∙ k) (number-not_0 x) refl refl refl

  -- any two outcomes coincide, but for the sorting room
  pub found_unique : {a b : SectionsSaid} {x y : List ℕ} {u v : List Float} → Found number novelty bounds rows work a x u
      → Found number novelty bounds rows work b y v
      → (a.number ≡ b.number) × (a.sections ≡ b.sections) × (a.count ≡ b.count) × (a.confidence ≡ b.confidence) × (x ≡ y)
      × (drop (worked_in number (length novelty)) u ≡ drop (worked_in number (length novelty)) v)
  found_unique p q = (
    p.number_is ∙ sym q.number_is,
    p.sections_are ∙ sym q.sections_are,
    p.count_is ∙ sym q.count_is,
    p.confidence_is ∙ sym q.confidence_is,
    p.rows_are ∙ sym q.rows_are,
    (open_unique p.works q.works).1,
  )

-- ---- a curve that is too short

sections_short : (n : ℕ) → min n 1 ≡ sections_of n 0
unfolding sections_of
sections_short zero = refl
sections_short (suc n) = omega arith

pub found_short : (number : ℕ) (novelty : List Float) (samples rate max_sections : ℕ) (rows : List ℕ) (work : List Float) (answer : SectionsSaid)
    → number ≡ 0 → length novelty < least_rows → answer.number ≡ 0 → answer.sections ≡ min (length novelty) 1 → answer.count ≡ 0 → answer.confidence ≡ nought
    → Found number novelty (boundaries_of novelty samples rate max_sections) rows work answer rows work
unfolding boundaries_of confidence_of
found_short number novelty samples rate max_sections rows work answer z h a s n c =
    rw (z, lt-ltb (length novelty) least_rows h)
    (record {
      number_is = a;
      sections_are = s ∙ sections_short (length novelty);
      count_is = n;
      confidence_is = c;
      rows_are = sym (listed-none rows);
      works = open_same _ work;
    })

-- ---- a curve that is long enough

-- what is picked at a level that is the threshold
candidates_at : (novelty : List Float) (gap : ℕ) (med mad : Float) → med ≡ median_of novelty → mad ≡ mad_of novelty med
    → suppressed novelty gap (peaks_of novelty (λ _. med ⊕ section_mad_scale ⊗ mad)) ≡ section_peaks novelty gap
unfolding section_peaks section_level
candidates_at novelty gap med mad e h = rw (h, e)

pub picked-at : (novelty : List Float) (gap most : ℕ) (med mad : Float) → med ≡ median_of novelty → mad ≡ mad_of novelty med
    → {n count : ℕ} {rows rows' : List ℕ} {work work' : List Float}
    → PickedIn n (kept_greatest novelty most (suppressed novelty gap (peaks_of novelty (λ _. med ⊕ section_mad_scale ⊗ mad)))) rows work count rows' work'
    → PickedIn n (kept_greatest novelty most (section_peaks novelty gap)) rows work count rows' work'
picked-at novelty gap most med mad e h p = rw (candidates_at novelty gap med mad e h) at p

-- the part of rows that is listed
pub picked_part : (bounds rows : List ℕ) (count : ℕ) (rows' : List ℕ) → Picked bounds rows count rows' → take (count - 0) rows' ≡ bounds
picked_part bounds rows count rows' p =
    let n : count - 0 ≡ length bounds = omega (arith, p.count_is) in
    rw (p.frames_are, n) (listed-first bounds rows)

sections_long : (n b : ℕ) → 0 < n → b + 1 ≡ sections_of n b
unfolding sections_of
sections_long zero b h = absurd (omega arith)
sections_long (suc n) b h = refl

pub found-picked : (novelty : List Float) (bounds rows : List ℕ) (work : List Float) (answer : SectionsSaid) (rows' : List ℕ) (work₁ work' : List Float)
    → least_rows ≤ length novelty → answer.number ≡ 0 → answer.sections ≡ answer.count + 1 → answer.confidence ≡ confidence_of novelty bounds
    → Open (length novelty) work work₁ → PickedIn (length novelty) bounds rows work₁ answer.count rows' work'
    → Found 0 novelty bounds rows work answer rows' work'
found-picked novelty bounds rows work answer rows' work₁ work' h a s c w p =
    record {
      number_is = a;
      sections_are = s ∙ rw p.picked.count_is (sections_long (length novelty) (length bounds) (omega arith));
      count_is = p.picked.count_is;
      confidence_is = c;
      rows_are = p.picked.frames_are;
      works = rw (le-ltb (length novelty) least_rows h) (open_then _ _ _ _ w p.works);
    }

pub found_long : (number : ℕ) (novelty : List Float) (samples rate max_sections gap most : ℕ) (rows : List ℕ) (work : List Float) (answer : SectionsSaid)
    (rows' : List ℕ) (work' : List Float)
    → number ≡ 0 → least_rows ≤ length novelty → gap ≡ section_gap samples rate → most ≡ most_boundaries max_sections
    → Found 0 novelty (kept_greatest novelty most (section_peaks novelty gap)) rows work answer rows' work'
    → Found number novelty (boundaries_of novelty samples rate max_sections) rows work answer rows' work'
unfolding boundaries_of
found_long number novelty samples rate max_sections gap most rows work answer rows' work' z h g m f =
    rw (z, le-ltb (length novelty) least_rows h) (rw (g, m) at f)
