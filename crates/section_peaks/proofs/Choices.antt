-- The boundaries that are picked: none, all that are kept, or those that a cut takes. Each way meets one contract. Assumes nothing.
use Prim.Native.Nat.{ℕ, ◌-◌, ◌≤◌, ◌<◌}
use mathlib.Core.Path.{◌≡◌, sym, ap, ◌∙◌}
use mathlib.Core.List.{List, [], ◌++◌, map}
use native.Mathlib.Omega.{arith}
use lib.Ieee.{Float}
use lib.ListN.{length, take, drop, length-append, length-drop, length-map}
use lib.Seq.{take_at, drop_at}
use Rattle.floats.specs.TotalOrder.{key}
use Rattle.numbers.proofs.Tabs.{listed-none, length-listed}
use Rattle.numbers.proofs.Outcomes.{open_same, open_wider}
use Rattle.numbers.specs.Lists.{listed}
use Rattle.onsets.proofs.Picks.{peaks_ascend, peaks-length, suppressed-ascends, suppressed-length}
use Rattle.onsets.specs.Peaks.{at, peaks_of, suppressed}
use Rattle.onsets.specs.Steps.{Picked}
use Rattle.section_peaks.specs.Greatest.{kept_greatest}
use Rattle.section_peaks.specs.Steps.{kept_from, CutAt, chosen, Noted, PickedIn}
use Rattle.section_peaks.specs.declared.Cut.{Cut}
use Rattle.section_peaks.proofs.Cuts.{cut_takes, few_stay, none_asked}
use Rattle.section_peaks.proofs.Walks.{kept-all}

module _ (curve : List Float) (level : Float) (gap most : ℕ) (rows : List ℕ) (work : List Float) where
  abbrev kept : List ℕ
  kept = suppressed curve gap (peaks_of curve (λ _. level))

  -- none is asked for
  pub picked_none : most ≡ 0 → PickedIn (length curve) (kept_greatest curve most kept) rows work 0 rows work
  picked_none z =
      let e : kept_greatest curve most kept ≡ [] = rw z (none_asked curve kept) in
      record { picked = record { count_is = rw e; frames_are = rw e (sym (listed-none rows)) }; works = open_same _ work }

  module _ (count : ℕ) (work' : List Float) (noted : Noted (map (at curve) (kept_from curve level gap 1)) work count work') where
    abbrev values : List Float
    values = map (at curve) kept

    noted_count : count ≡ length kept
    noted_count = noted.count_is ∙ length-map (kept_from curve level gap 1) (at curve) ∙ ap length (kept-all curve level gap)

    noted_slots : work' ≡ listed values work
    noted_slots = noted.slots_are ∙ rw (kept-all curve level gap)

    pub count_most : count ≤ length curve
    count_most = omega (arith, noted_count, suppressed-length curve gap (peaks_of curve (λ _. level)), peaks-length curve (λ _. level))

    values-many : length values ≡ count
    values-many = length-map kept (at curve) ∙ sym noted_count

    -- what is lent of the work slice, and what is not
    pub lent_is : take count work' ≡ values
    unfolding listed
    lent_is = rw noted_slots (take_at values (drop (length values) work) count values-many)

    pub lent_many : length (take count work') ≡ count
    lent_many = ap length lent_is ∙ values-many

    rest-is : drop count work' ≡ drop count work
    unfolding listed
    rest-is = rw noted_slots (drop_at values (drop (length values) work) count values-many) ∙ ap (λ (j : ℕ). drop j work) values-many

    work_long : length curve ≤ length work → length work' ≡ length work
    work_long room = ap length noted_slots ∙ length-listed values work (omega (arith, values-many, count_most))

    -- no more are kept than are asked for
    pub picked-few : (r : ℕ) (rows' : List ℕ) → length curve ≤ length work → count ≤ most → Picked kept rows r rows'
        → PickedIn (length curve) (kept_greatest curve most kept) rows work r rows' work'
    picked-few r rows' room h p =
        let e : kept_greatest curve most kept ≡ kept = few_stay curve most kept (omega (arith, noted_count)) in
        record { picked = rw e p; works = open_wider _ _ _ _ count_most (record { same_length = work_long room; kept = rest-is }) }

    -- more are kept, and a cut takes some
    pub picked_cut : (r : ℕ) (rows' : List ℕ) (cut : Cut) (part : List Float) → length curve ≤ length work → most < count
        → CutAt most (take count work') cut → length part ≡ length (take count work')
        → Picked (chosen curve (key cut.level) cut.spare (kept_from curve level gap 1)) rows r rows'
        → PickedIn (length curve) (kept_greatest curve most kept) rows work r rows' (part ++ drop count work')
    picked_cut r rows' cut part room h c l p =
        let k = rw lent_is at c in
        let n : length part ≡ count = l ∙ lent_many in
        let e : chosen curve (key cut.level) cut.spare kept ≡ kept_greatest curve most kept =
        sym (cut_takes curve most (key cut.level) cut.spare 1 kept
        (suppressed-ascends curve gap 1 _ (peaks_ascend curve (λ _. level))) (omega (arith, noted_count)) k.reaches k.stays k.spares) in
        record {
          picked = rw (kept-all curve level gap, e) at p;
          works =
              open_wider _ _ _ _ count_most
              (record {
                same_length = omega (arith, n, length-append part (drop count work'), length-drop count work', work_long room, count_most);
                kept = drop_at part (drop count work') count n ∙ rest-is;
              });
        }
