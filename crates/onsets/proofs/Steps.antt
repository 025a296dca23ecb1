-- The loops that pick and suppress: each step keeps `Going`, which the end of the loop turns into the whole list.
use mathlib.Core.Bool.{Bool, true, false}
use mathlib.Core.List.{List, [], ◌∷◌, ◌++◌, append-nil}
use mathlib.Core.Path.{◌≡◌, refl, sym, ap, ◌∙◌}
use Prim.Native.Nat.{ℕ, suc, ◌+◌, ◌-◌, ◌≤◌, ◌<◌}
use native.Mathlib.Nat.{le_refl}
use native.Mathlib.Numerals.{add-one}
use native.Mathlib.Omega.{arith}
use lib.Ieee.{Float}
use lib.ListN.{length, get_or, drop, set, length-append, length-drop}
use lib.Seq.{append_snoc, drop-cons}
use Rattle.std.specs.Prelude.{Option, Some, None, is_some, unwrap_or}
use Rattle.numbers.proofs.Tabs.{listed-none, listed_more}
use Rattle.numbers.proofs.Tests.{true_not_false}
use Rattle.numbers.specs.Lists.{tab, listed, one_if}
use Rattle.onsets.specs.Peaks.{is_peak, those, peaks_of, joins, better, bests, suppressed}
use Rattle.onsets.specs.Steps.{IsRule, following, Going, Stepped, Closed}
use Rattle.onsets.specs.declared.peaks.Group.{Group}

one-most : (b : Bool) → one_if b ≤ 1
one-most true = le_refl 1
one-most false = omega arith

length_listed_any : (xs d : List ℕ) → length (listed xs d) ≡ length xs + (length d - length xs)
unfolding listed
length_listed_any xs d = simp (length-append, length-drop)

module _ (curve : List Float) (gap : ℕ) where
  -- nothing is listed yet
  pub going_start : (ps was : List ℕ) (g : Group) → g.best ≡ None → g.count ≡ 0 → Going curve gap (suppressed curve gap ps) ps was g was
  unfolding following
  going_start ps was g o n = record { kept = []; all = rw o; many = n; slots = sym (listed-none was) }

  -- ---- a step

  follow_open : (g : Group) (t : ℕ) (ps : List ℕ) → g.best ≡ None
      → following curve gap g.best (t ∷ ps) ≡ following curve gap (Some t) ps
  unfolding following suppressed
  follow_open g t ps o = rw o

  follow_join : (g : Group) (b t : ℕ) (ps : List ℕ) → g.best ≡ Some b → joins gap b t ≡ true
      → following curve gap g.best (t ∷ ps) ≡ following curve gap (Some (better curve b t)) ps
  unfolding following bests
  follow_join g b t ps o j = rw (o, j)

  follow_close : (g : Group) (b t : ℕ) (ps : List ℕ) → g.best ≡ Some b → joins gap b t ≡ false
      → following curve gap g.best (t ∷ ps) ≡ b ∷ following curve gap (Some t) ps
  unfolding following bests
  follow_close g b t ps o j = rw (o, j)

  -- the group that follows a step is open, with this best
  opened_as : (g : Group) (b : ℕ) (ps : List ℕ) → g.best ≡ Some b → following curve gap g.best ps ≡ following curve gap (Some b) ps
  opened_as g b ps = ap (λ (o : Option ℕ). following curve gap o ps)

  -- no group is closed: the best is b
  stepped_same : (g g' : Group) (t b : ℕ) (frames : List ℕ)
      → ((ps : List ℕ) → following curve gap g.best (t ∷ ps) ≡ following curve gap (Some b) ps)
      → b ≤ t → g'.best ≡ Some b → g'.count ≡ g.count → Stepped curve gap t true g frames g' frames
  stepped_same g g' t b frames f h o n =
      record {
        best_at = let a : unwrap_or g'.best 0 ≡ b = rw o in omega arith;
        counted = omega (arith, one-most (is_some g'.best));
        goes = λ whole ps was G. record {
          kept = G.kept;
          all = ap (λ (r : List ℕ). G.kept ++ r) (opened_as g' b ps o ∙ sym (f ps)) ∙ G.all;
          many = n ∙ G.many;
          slots = G.slots;
        };
      }

  -- a peak opens the first group
  pub stepped_open : (g g' : Group) (t : ℕ) (frames : List ℕ) → g.best ≡ None
      → g'.best ≡ Some t → g'.count ≡ g.count → Stepped curve gap t true g frames g' frames
  stepped_open g g' t frames o = stepped_same g g' t t frames (λ ps. follow_open g t ps o) (le_refl t)

  -- a peak joins the open group, whose best was a and is b
  pub stepped_join : (g g' : Group) (a t b : ℕ) (frames : List ℕ) → g.best ≡ Some a → joins gap a t ≡ true
      → better curve a t ≡ b → b ≤ t → g'.best ≡ Some b → g'.count ≡ g.count → Stepped curve gap t true g frames g' frames
  stepped_join g g' a t b frames o j k =
      stepped_same g g' t b frames (λ ps. follow_join g a t ps o j ∙ ap (λ (x : ℕ). following curve gap (Some x) ps) k)

  -- one more entry is listed
  module _ (G-kept was frames : List ℕ) (n best : ℕ) (many : n ≡ length G-kept) (slots : frames ≡ listed G-kept was) (room : n < length frames) where
    more-slots : set frames n best ≡ listed (G-kept ++ (best ∷ [])) was
    more-slots =
        let l : length frames ≡ length G-kept + (length was - length G-kept) = ap length slots ∙ length_listed_any G-kept was in
        ap (λ (r : List ℕ). set r n best) slots ∙ ap (λ (k : ℕ). set (listed G-kept was) k best) many
        ∙ listed_more G-kept was best 0 (omega arith)

    more-many : n + 1 ≡ length (G-kept ++ (best ∷ []))
    more-many = simp length-append (omega arith)

  -- a peak opens the next group, and the best of the one before it is listed
  pub stepped_close : (g g' : Group) (b t : ℕ) (frames : List ℕ) → g.best ≡ Some b → joins gap b t ≡ false → g.count < length frames
      → g'.best ≡ Some t → g'.count ≡ g.count + 1 → Stepped curve gap t true g frames g' (set frames g.count b)
  stepped_close g g' b t frames o j room o' n =
      record {
        best_at = let a : unwrap_or g'.best 0 ≡ t = rw o' in omega arith;
        counted = let a : one_if (is_some g.best) ≡ 1 = rw o in omega (arith, one-most (is_some g'.best));
        goes = λ whole ps was G. record {
          kept = G.kept ++ (b ∷ []);
          all =
              append_snoc G.kept b (following curve gap g'.best ps)
              ∙ ap (λ (r : List ℕ). G.kept ++ r)
              (ap (λ (r : List ℕ). b ∷ r) (opened_as g' t ps o') ∙ sym (follow_close g b t ps o j)) ∙ G.all;
          many = n ∙ more-many G.kept was frames g.count b G.many G.slots room;
          slots = more-slots G.kept was frames g.count b G.many G.slots room;
        };
      }

  -- a slot that is no peak
  pub stepped_past : (g : Group) (t : ℕ) (b : Bool) (frames : List ℕ) → b ≡ false → unwrap_or g.best 0 ≤ t → Stepped curve gap t b g frames g frames
  stepped_past g t true frames e h = true_not_false true refl e
  stepped_past g t false frames e h = record { best_at = h; counted = omega arith; goes = λ whole ps was G. G }

  -- a slot that is a peak
  pub stepped_peak : (g g' : Group) (t : ℕ) (b : Bool) (frames frames' : List ℕ) → b ≡ true
      → Stepped curve gap t true g frames g' frames' → Stepped curve gap t b g frames g' frames'
  stepped_peak g g' t true frames frames' e s = s
  stepped_peak g g' t false frames frames' e s = true_not_false false e refl

-- ---- the end

-- no group was opened
pub closed_none : (g : Group) (frames : List ℕ) → g.best ≡ None → Closed g frames g.count frames
unfolding following suppressed
closed_none g frames o =
    record {
      ends = λ curve gap whole was G.
          let e : G.kept ≡ whole = sym (append-nil G.kept) ∙ rw o at G.all in
          record { count_is = G.many ∙ ap length e; frames_are = G.slots ∙ ap (λ (r : List ℕ). listed r was) e };
    }

-- the last group's best is listed
pub closed_last : (g : Group) (b : ℕ) (frames : List ℕ) → g.best ≡ Some b → g.count < length frames
    → Closed g frames (g.count + 1) (set frames g.count b)
unfolding following bests
closed_last g b frames o room =
    record {
      ends = λ curve gap whole was G.
          let e : G.kept ++ (b ∷ []) ≡ whole = rw o at G.all in
          record {
            count_is = more-many curve gap G.kept was frames g.count b G.many G.slots room ∙ ap length e;
            frames_are =
                more-slots curve gap G.kept was frames g.count b G.many G.slots room ∙ ap (λ (r : List ℕ). listed r was) e;
          };
    }

-- ---- slot by slot

-- The loop over the slots of a curve has come to slot t. What is still to be kept is said for each rule by which the slots' levels are answered.
pub record Picking (curve : List Float) (answers : ℕ → Float → Type 0) (gap t : ℕ) (was : List ℕ) (group : Group) (frames : List ℕ) : Type 0 where
  pub from : 1 ≤ t
  pub past : t ≤ length curve - 2 + 1
  pub best_at : unwrap_or group.best 0 < t
  pub counted : group.count + one_if (is_some group.best) < t
  pub as_long : length frames ≡ length was
  pub going : (rule : ℕ → Float) → IsRule answers rule → Going curve gap (suppressed curve gap (peaks_of curve rule))
      (those (λ t. is_peak curve (rule t) t) (tab (λ t. t) t (length curve - 1 - t))) was group frames

module _ (curve : List Float) (answers : ℕ → Float → Type 0) (gap : ℕ) where
  pub picking_start : (was : List ℕ) (g : Group) → g.best ≡ None → g.count ≡ 0 → Picking curve answers gap 1 was g was
  unfolding peaks_of
  picking_start was g o n =
      let e : length curve - 2 ≡ length curve - 1 - 1 = omega arith in
      record {
        from = le_refl 1;
        past = omega arith;
        best_at = let a : unwrap_or g.best 0 ≡ 0 = rw o in omega arith;
        counted = let a : one_if (is_some g.best) ≡ 0 = rw o in omega arith;
        as_long = refl;
        going = λ rule r. rw (← e) (going_start curve gap (those (λ t. is_peak curve (rule t) t) (tab (λ t. t) 1 (length curve - 2))) was g o n);
      }

  -- the step past slot t, whose level was answered
  pub picking_step : {t : ℕ} {was : List ℕ} {g g' : Group} {frames frames' : List ℕ} (level : Float) → answers t level → t < length curve - 1
      → length frames' ≡ length frames → Stepped curve gap t (is_peak curve level t) g frames g' frames'
      → Picking curve answers gap t was g frames → Picking curve answers gap (t + 1) was g' frames'
  unfolding those
  picking_step {t} {was} {g} {g'} {frames} {frames'} level a h l s p =
      let e : length curve - 1 - t ≡ suc (length curve - 1 - (t + 1)) = omega arith in
      record {
        from = omega arith;
        past = omega (arith, p.past);
        best_at = omega (arith, s.best_at);
        counted = omega (arith, s.counted, p.counted);
        as_long = l ∙ p.as_long;
        going = λ rule r.
            let G = rw e at p.going rule r in
            s.goes _ _ was (rw (r t level a) (rw (← add-one t) at G));
      }

  -- past the last slot that can be a peak
  pub picking_end : {t : ℕ} {was : List ℕ} {g : Group} {frames : List ℕ} → length curve - 1 ≤ t → Picking curve answers gap t was g frames
      → (rule : ℕ → Float) → IsRule answers rule → Going curve gap (suppressed curve gap (peaks_of curve rule)) [] was g frames
  unfolding those
  picking_end {t} h p rule r = let e : length curve - 1 - t ≡ 0 = omega arith in rw e at p.going rule r

-- ---- peak by peak

-- the step past the peak at i of a lent list
pub going_next : (curve : List Float) (gap : ℕ) (peaks : List ℕ) (i : ℕ) {whole was : List ℕ} {g g' : Group} {frames frames' : List ℕ} → i < length peaks
    → Stepped curve gap (get_or peaks i 0) true g frames g' frames' → Going curve gap whole (drop i peaks) was g frames
    → Going curve gap whole (drop (i + 1) peaks) was g' frames'
going_next curve gap peaks i h s G = s.goes _ _ _ (rw (drop-cons peaks i 0, ← add-one i) at G)
