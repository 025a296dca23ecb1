-- An input that comes in parts: what is told of it is what is told of the whole, however it is cut. Assumes nothing.
use mathlib.Core.Path.{◌≡◌, refl, sym, ap, ◌∙◌}
use mathlib.Core.Bool.{true}
use mathlib.Core.List.{List, [], ◌++◌, append-nil, append_assoc}
use Prim.Native.Nat.{ℕ, ◌*◌, ◌≤◌}
use lib.Ieee.{Float}
use native.Mathlib.Omega.{arith}
use lib.ListN.{length, take}
use lib.Seq.{length-take-le}
use Rattle.numbers.specs.Limits.{most_bins, magnitude_fine}
use Rattle.numbers.specs.Lists.{every}
use Rattle.report.specs.Input.{most_reported, report_number, report_flux}
use Rattle.report.specs.Stream.{joined}
use Rattle.report_head.specs.declared.Feed.{Feed}
use Rattle.report_feed.specs.declared.Reading.{Reading}
use Rattle.report_feed.specs.Feeds.{held_room, state, bytes_taken, Fed, Begins, Decides, Closes, Told, Run, none, more}
use Rattle.report_feed.proofs.Inputs.{accepted}
use Rattle.report_feed.proofs.Feeds.{taken-append}

run_fed : {feed feed' : Feed} {held held' : List ℕ} {kept kept' was flux flux' : List Float} {parts : List (List ℕ)} (input : List ℕ)
    → Run feed held kept flux parts feed' held' kept' flux' → Fed input feed held kept was flux → Fed (input ++ joined parts) feed' held' kept' was flux'
unfolding joined
run_fed {feed} {feed'} {held} {held'} {kept} {kept'} {was} {flux} {flux'} input none x = rw (append-nil input) x
run_fed {feed} {feed'} {held} {held'} {kept} {kept'} {was} {flux} {flux'} input (more {bytes = bytes} {parts = rest} s rs) x =
    rw (← append_assoc input bytes (joined rest)) (run_fed (input ++ bytes) rs (s.fed input was x))

-- ---- however it is cut, every slot is the same

run_state : {feed feed' : Feed} {held held' : List ℕ} {kept kept' flux flux' : List Float} {parts : List (List ℕ)}
    → Run feed held kept flux parts feed' held' kept' flux' → state feed' held' kept' flux' ≡ bytes_taken (joined parts) (state feed held kept flux)
unfolding joined bytes_taken
run_state none = refl
run_state (more {bytes = bytes} {parts = rest} s rs) = run_state rs ∙ ap (bytes_taken (joined rest)) s.state_is ∙ sym (taken-append bytes (joined rest) _)

pub cuts_same : {feed a b : Feed} {held ha hb : List ℕ} {kept ka kb flux fa fb : List Float} {parts others : List (List ℕ)} → joined parts ≡ joined others
    → Run feed held kept flux parts a ha ka fa → Run feed held kept flux others b hb kb fb → state a ha ka fa ≡ state b hb kb fb
cuts_same {feed} {held = held} {kept = kept} {flux = flux} e p q = run_state p ∙ ap (λ (x : List ℕ). bytes_taken x (state feed held kept flux)) e
    ∙ sym (run_state q)

-- ---- what is told is true of the whole input

-- One run: an input that comes in parts, from nothing to its end, into any room that is there, with rows kept that are fine.
pub record Cut (parts : List (List ℕ)) (answer : Reading) (flux : List Float) : Type 0 where
  pub begun : Feed
  pub ended : Feed
  pub held : List ℕ
  pub held' : List ℕ
  pub kept : List Float
  pub kept' : List Float
  pub was : List Float
  pub held_has_room : held_room ≤ length held
  pub kept_room : 2 * most_bins ≤ length kept
  pub flux_room : most_reported ≤ length was
  pub kept_fine : every magnitude_fine kept ≡ true
  pub begins : Begins begun
  pub run : Run begun held kept was parts ended held' kept' flux
  pub closes : Closes ended answer

-- However an input is cut, its number is that of the whole input, and where that is 0, it has as many rows as the flux of the whole input has slots,
-- and the first slots of the flux are these.
pub record Whole (input : List ℕ) (answer : Reading) (flux : List Float) : Type 0 where
  pub number_is : answer.number ≡ report_number input
  pub rows_is : answer.number ≡ 0 → answer.rows ≡ length (report_flux input)
  pub flux_is : answer.number ≡ 0 → take answer.rows flux ≡ report_flux input

whole_of : {input : List ℕ} {answer : Reading} {was flux : List Float} → most_reported ≤ length flux → Told input answer was flux → Whole input answer flux
whole_of {input} {answer} {was} {flux} room told =
    record {
      number_is = told.number_is;
      rows_is = λ z. let a = accepted told z in sym (length-take-le answer.rows flux (omega (arith, a.rows_fit, room))) ∙ ap length a.flux_is;
      flux_is = λ z. (accepted told z).flux_is;
    }

cut_fed : {parts : List (List ℕ)} {answer : Reading} {flux : List Float} (r : Cut parts answer flux)
    → Fed (joined parts) r.ended r.held' r.kept' r.was flux
cut_fed r = run_fed [] r.run (r.begins.fed r.held r.kept r.was r.held_has_room r.kept_room r.flux_room r.kept_fine)

pub however_cut : {parts : List (List ℕ)} {answer : Reading} {flux : List Float} → Cut parts answer flux → Whole (joined parts) answer flux
however_cut {parts} {answer} {flux} r =
    let come = cut_fed r in
    whole_of come.ready.flux_room (r.closes.tells (joined parts) r.held' r.kept' r.was flux come)

-- two ways to cut one input give one answer
pub record Agree (a b : Reading) (f g : List Float) : Type 0 where
  pub number_is : a.number ≡ b.number
  pub rows_is : a.number ≡ 0 → a.rows ≡ b.rows
  pub flux_is : a.number ≡ 0 → take a.rows f ≡ take b.rows g

agree_of : {input other : List ℕ} {a b : Reading} {f g : List Float} → input ≡ other → Whole input a f → Whole other b g → Agree a b f g
agree_of {input} {other} {a} {b} {f} {g} e x y =
    let n : a.number ≡ b.number = x.number_is ∙ ap report_number e ∙ sym y.number_is in
    record {
      number_is = n;
      rows_is = λ z. x.rows_is z ∙ ap (λ (s : List ℕ). length (report_flux s)) e ∙ sym (y.rows_is (sym n ∙ z));
      flux_is = λ z. x.flux_is z ∙ ap report_flux e ∙ sym (y.flux_is (sym n ∙ z));
    }

pub cuts_agree : {parts others : List (List ℕ)} {a b : Reading} {f g : List Float} → joined parts ≡ joined others → Cut parts a f → Cut others b g
    → Agree a b f g
cuts_agree e p q = agree_of e (however_cut p) (however_cut q)

-- ---- a run that stops where the input is decided

-- What is told there is true of the whole input, whatever stands behind the parts that were taken.
pub stopped_early : {parts : List (List ℕ)} {answer : Reading} {flux : List Float} (r : Cut parts answer flux) → Decides r.ended true
    → (rest : List ℕ) → Whole (joined parts ++ rest) answer flux
stopped_early {parts} {answer} {flux} r d rest =
    let come = cut_fed r in
    whole_of {was = r.was} come.ready.flux_room (rw r.closes.answer_is (d.whatever refl (joined parts) r.held' r.kept' r.was flux come rest))

-- A run that takes the whole input, cut in any way, gives the same answer.
pub stopped_agrees : {parts others : List (List ℕ)} {a b : Reading} {f g : List Float} (p : Cut parts a f) → Decides p.ended true → Cut others b g
    → (rest : List ℕ) → joined parts ++ rest ≡ joined others → Agree a b f g
stopped_agrees p d q rest e = agree_of e (stopped_early p d rest) (however_cut q)
