-- What `stability_of` answers and leaves, by whether there is a whole lag and whether there are windows enough. Assumes nothing.
use mathlib.Core.Path.{◌≡◌, sym, ap, ◌∙◌, subst}
use mathlib.Core.Bool.{Bool, true, false, ◌||◌}
use mathlib.Core.List.{List}
use Prim.Native.Nat.{ℕ, ◌+◌, ◌*◌, ◌/◌, ◌≤◌, ◌<◌, min}
use native.Mathlib.Nat.{min-le_right, mul-le-mul_right, div-mul-le_self, le_trans}
use borrow.Author.Tests.{eq-eqb, ne_eqb, lt-ltb, le-ltb}
use lib.Dec.{ltb, eqb}
use lib.ListN.{length}
use lib.Ieee.{Float}
use Rattle.std.specs.Prelude.{Result, Ok, Err, IsErrAnd}
use Rattle.numbers.specs.Rounded.{◌⊘◌, real}
use Rattle.numbers.specs.Refusals as Refusals
use Rattle.numbers.specs.declared.Refusal.{Refusal}
use Rattle.numbers.proofs.Tests.{pick_true, pick-false, refused_keeps, passed_does}
use Rattle.numbers.specs.Outcomes.{Open}
use Rattle.numbers.proofs.Outcomes.{number-not_0, open_same, open_answered}
use Rattle.options.specs.declared.TempoOpts.{TempoOpts}
use Rattle.lags.specs.declared.LagRange.{LagRange}
use Rattle.lags.specs.Lags.{min_lag, max_lag, lag_room}
use Rattle.tempo.proofs.Refusals.{Ranged}
use Rattle.stability.specs.declared.Stability.{Stability}
use Rattle.stability.specs.declared.Stability.TheVariants.{None, Share}
use Rattle.stability.specs.Windows.{windows_of, agreeing_to}
use Rattle.stability.specs.Answers.{steadiness, stability_refusal, left_open, share_of, without_stability, steadiness_of, StabilityPromise}
use Rattle.stability.specs.Inner.{Counted, Shared}

-- so many windows lie in the envelope
pub windows-fit : (n m w : ℕ) → w ≡ min 4 (n / (m + 2)) → w * (m + 2) ≤ n
windows-fit n m w e =
    rw e (le_trans (mul-le-mul_right (m + 2) (min-le_right 4 (n / (m + 2)))) (div-mul-le_self n (m + 2)))

module _ (env : List Float) (rate min_lag max_lag whole : ℕ) (clarity weight work : List Float) where
  -- the share of w windows
  abbrev share_in : ℕ → Stability
  share_in w = let a = agreeing_to env rate min_lag max_lag whole w w in Share (real a ⊘ real w) a w

  share-none : eqb whole 0 || ltb (windows_of (length env) max_lag) 2 ≡ true → share_of env rate min_lag max_lag whole ≡ None
  unfolding share_of
  share-none e = pick_true (eqb whole 0 || ltb (windows_of (length env) max_lag) 2) None (share_in (windows_of (length env) max_lag)) e

  share-some : eqb whole 0 || ltb (windows_of (length env) max_lag) 2 ≡ false → share_of env rate min_lag max_lag whole ≡ share_in (windows_of (length env) max_lag)
  unfolding share_of
  share-some e = pick-false (eqb whole 0 || ltb (windows_of (length env) max_lag) 2) None (share_in (windows_of (length env) max_lag)) e

  open_some : eqb whole 0 || ltb (windows_of (length env) max_lag) 2 ≡ false → lag_room min_lag max_lag ≡ left_open (length env) min_lag max_lag whole
  unfolding left_open
  open_some e = sym (pick-false (eqb whole 0 || ltb (windows_of (length env) max_lag) 2) 0 (lag_room min_lag max_lag) e)

  unsearched : share_of env rate min_lag max_lag whole ≡ None → Shared env rate min_lag max_lag whole clarity weight work None clarity weight work
  unsearched e = record { answered = sym e; clarities = open_same _ clarity; weights = open_same _ weight; works = open_same _ work }

  pub shared_without : whole ≡ 0 → Shared env rate min_lag max_lag whole clarity weight work None clarity weight work
  shared_without z = unsearched (share-none (ap (λ (b : Bool). b || ltb (windows_of (length env) max_lag) 2) (eq-eqb whole 0 z)))

  module _ (some : whole ≡ 0 → ⊥) (w : ℕ) (is-w : w ≡ min 4 (length env / (max_lag + 2))) where
    windows_are : w ≡ windows_of (length env) max_lag
    unfolding windows_of
    windows_are = is-w

    test : (b : Bool) → ltb w 2 ≡ b → eqb whole 0 || ltb (windows_of (length env) max_lag) 2 ≡ b
    test b e =
        ap (λ (x : Bool). x || ltb (windows_of (length env) max_lag) 2) (ne_eqb whole 0 some)
        ∙ ap (λ (k : ℕ). ltb k 2) (sym windows_are) ∙ e

    pub shared_few : w < 2 → Shared env rate min_lag max_lag whole clarity weight work None clarity weight work
    shared_few h = unsearched (share-none (test true (lt-ltb w 2 h)))

    pub shared_counted : (clarity' weight' work' : List Float) (a : ℕ) (top bottom : Float) → 2 ≤ w
        → Counted env rate min_lag max_lag whole w clarity weight work a clarity' weight' work' → top ≡ real a → bottom ≡ real w
        → Shared env rate min_lag max_lag whole clarity weight work (Share (top ⊘ bottom) a w) clarity' weight' work'
    shared_counted clarity' weight' work' a top bottom h c t u =
        let room = open_some (test false (le-ltb w 2 h)) in
        record {
          answered =
              ap (λ (x : Float). Share (x ⊘ bottom) a w) t
              ∙ ap (λ (x : Float). Share (real a ⊘ x) a w) u
              ∙ ap (λ (x : ℕ). Share (real x ⊘ real w) x w) c.count
              ∙ ap share_in windows_are ∙ sym (share-some (test false (le-ltb w 2 h)));
          clarities = subst (λ (k : ℕ). Open k clarity clarity') room c.clarities;
          weights = subst (λ (k : ℕ). Open k weight weight') room c.weights;
          works = subst (λ (k : ℕ). Open k work work') room c.works;
        }

-- ---- every call

module _ (env : List Float) (rate : ℕ) (o : TempoOpts) (whole : ℕ) (clarity weight work : List Float) where
  abbrev number : ℕ
  number = stability_refusal env rate o whole (length clarity) (length weight) (length work)

  -- a refusal that `?` hands on: e is what refused
  pub steadied_refused : (r : Result Stability Refusal) (e : Refusal) → IsErrAnd r (λ (x : Refusal). x ≡ e) → Refusals.number e ≡ number
      → StabilityPromise env rate o whole clarity weight work (steadiness r) clarity weight work
  unfolding steadiness_of
  steadied_refused (Ok s) e h is = absurd h
  steadied_refused (Err x) e h is =
      let same : Refusals.number x ≡ number = ap Refusals.number h ∙ is in
      let left : number ≡ 0 → ⊥ = λ z. number-not_0 x (same ∙ z) in
      record {
        answered = ap without_stability same ∙ sym (refused_keeps number _ _ left);
        clarities = open_same _ clarity;
        weights = open_same _ weight;
        works = open_same _ work;
      }

  pub steadied_shared : (range : LagRange) (s : Stability) (clarity' weight' work' : List Float) → number ≡ 0 → Ranged rate o range
      → Shared env rate range.min_lag range.max_lag whole clarity weight work s clarity' weight' work'
      → StabilityPromise env rate o whole clarity weight work (steadiness (Ok s)) clarity' weight' work'
  unfolding steadiness_of
  steadied_shared range s clarity' weight' work' none a told =
      let t : Shared env rate (min_lag rate o) (max_lag rate o) whole clarity weight work s clarity' weight' work' = rw (a.least, a.greatest) at told in
      record {
        answered = ap (λ (x : Stability). steadiness (Ok x)) t.answered ∙ sym (passed_does number _ _ none);
        clarities = open_answered _ _ clarity clarity' none t.clarities;
        weights = open_answered _ _ weight weight' none t.weights;
        works = open_answered _ _ work work' none t.works;
      }
