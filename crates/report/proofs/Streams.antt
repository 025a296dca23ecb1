-- Rows that come one after the other: each keeps the stream's invariant, so that all of them leave the flux of the whole slab. Assumes nothing.
use mathlib.Core.Path.{◌≡◌, refl, sym, ap, ◌∙◌}
use mathlib.Core.Bool.{Bool, true, false}
use mathlib.Core.List.{List, [], ◌++◌, append-nil, append_assoc}
use Prim.Native.Nat.{ℕ, suc, ◌+◌, ◌-◌, ◌*◌, ◌≤◌, ◌<◌}
use native.Mathlib.Nat.{add-mul}
use native.Mathlib.Omega.{arith}
use lib.Ieee.{Float, nan}
use lib.ListN.{length, set, drop, length-drop, length-append, length-set}
use lib.Seq.{drop_at}
use Rattle.numbers.proofs.Everys.{every_append, every_drop}
use Rattle.numbers.proofs.Tabs.{filled_none, filled_more, filled_ext}
use Rattle.numbers.proofs.Tests.{and_left, and_right, pick_true}
use Rattle.numbers.specs.Limits.{magnitude_fine, slab_of}
use Rattle.numbers.specs.Lists.{filled, row, every}
use Rattle.numbers.specs.Rounded.{pick}
use Rattle.flux.specs.Flux.{flux_at}
use Rattle.report.specs.Input.{values_of}
use Rattle.report.specs.Stream.{RowTaken, Streamed, Taken, none, more, joined}
use Rattle.report.proofs.Values.{length-values, values-none, values-append}
use Rattle.report.proofs.Rows.{row-behind, kept-flux, flux-before, every_more}

pick-length : (b : Bool) (x y : List Float) (n : ℕ) → length x ≡ n → length y ≡ n → length (pick b x y) ≡ n
pick-length true x y n e f = e
pick-length false x y n e f = f

-- no row has come yet
pub streamed-none : (bins : ℕ) (kept was : List Float) → length kept ≡ 2 * bins → every magnitude_fine kept ≡ true → Streamed [] bins 0 true kept was was
unfolding every
streamed-none bins kept was e f =
    record {
      rows_are = omega arith;
      kept_length = e;
      last_is = λ h. absurd (omega arith);
      fine_is = sym (ap (every magnitude_fine) values-none);
      kept_fine = λ h. f;
      room_is = refl;
      flux_is = λ h. sym (filled_none _ was 0);
    }

-- one row more
pub streamed-more : {body bytes : List ℕ} {bins t : ℕ} {fine fine' : Bool} {kept kept' was flux flux' : List Float}
    → length bytes ≡ bins * 4 → t < length flux → RowTaken bytes bins t fine kept flux fine' kept' flux' → Streamed body bins t fine kept was flux
    → Streamed (body ++ bytes) bins (t + 1) fine' kept' was flux'
streamed-more {body} {bytes} {bins} {t} {fine} {fine'} {kept} {kept'} {was} {flux} {flux'} e h r s =
    let slab = values_of body in
    let v = values_of bytes in
    let d = drop bins kept in
    let whole : values_of (body ++ bytes) ≡ slab ++ v = values-append body bytes (t * bins) s.rows_are in
    let lv : length v ≡ bins = length-values bytes ∙ omega arith in
    let ls : length slab ≡ t * bins = length-values body ∙ omega (arith, s.rows_are) in
    let ld : length d ≡ bins = simp length-drop (omega (arith, s.kept_length)) in
    let before : fine' ≡ true → fine ≡ true = λ p. and_left fine _ (sym r.fine_is ∙ p) in
    let here : fine' ≡ true → every magnitude_fine v ≡ true = λ p. and_right fine _ (sym r.fine_is ∙ p) in
    record {
      rows_are = length-append body bytes ∙ omega (arith, s.rows_are, more_rows t bins);
      kept_length = ap length r.kept_is ∙ length-append d v ∙ omega arith;
      last_is = λ p. ap (drop bins) r.kept_is ∙ drop_at d v bins ld ∙ sym (last_row slab v bins t ls lv)
          ∙ ap (λ (x : List Float). row x bins (t + 1 - 1)) (sym whole);
      fine_is = r.fine_is ∙ every_more magnitude_fine slab v fine s.fine_is ∙ ap (every magnitude_fine) (sym whole);
      kept_fine = λ p. ap (every magnitude_fine) r.kept_is
          ∙ every_append magnitude_fine d v (every_drop magnitude_fine kept bins (s.kept_fine (before p))) (here p);
      room_is = ap length r.flux_is ∙ pick-length fine' _ flux (length was) (length-set flux t _ ∙ s.room_is) s.room_is;
      flux_is = λ p. r.flux_is ∙ pick_true fine' _ flux p
          ∙ ap (set flux t) (kept-flux slab d v bins t ls ld lv s.last_is)
          ∙ ap (λ (x : List Float). set x t (flux_at (slab ++ v) (slab_of (t + 1) bins) t))
          (s.flux_is (before p) ∙ filled_ext _ _ was 0 t (λ i a b. sym (flux-before slab v bins t ls i b)))
          ∙ filled_more (flux_at (slab ++ v) (slab_of (t + 1) bins)) was 0 t (omega arith) nan (omega (arith, s.room_is))
          ∙ ap (λ (x : List Float). filled (flux_at x (slab_of (t + 1) bins)) was 0 (t + 1)) (sym whole);
    }
  where
    more_rows : (t bins : ℕ) → (t + 1) * bins * 4 ≡ t * bins * 4 + bins * 4
    more_rows t bins = ap (λ (k : ℕ). k * 4) (add-mul t 1 bins) ∙ omega arith

    last_row : (slab v : List Float) (bins t : ℕ) → length slab ≡ t * bins → length v ≡ bins → row (slab ++ v) bins (t + 1 - 1) ≡ v
    last_row slab v bins t e f =
        let k : t + 1 - 1 ≡ t = omega arith in
        ap (row (slab ++ v) bins) k ∙ row-behind slab v bins t e f

-- rows that are taken one after the other
rows-streamed : {bins t : ℕ} {fine fine' : Bool} {kept kept' was flux flux' : List Float} {rows : List (List ℕ)} (body : List ℕ)
    → Taken bins t fine kept flux rows fine' kept' flux' → t + length rows ≤ length was → Streamed body bins t fine kept was flux
    → Streamed (body ++ joined rows) bins (t + length rows) fine' kept' was flux'
unfolding joined
rows-streamed {bins} {t} {fine} {fine'} {kept} {kept'} {was} {flux} {flux'} body none h s =
    let k : t ≡ t + 0 = omega arith in
    rw (append-nil body, ← k) s
rows-streamed {bins} {t} {fine} {fine'} {kept} {kept'} {was} {flux} {flux'} {rows} body (more {bytes = bytes} {rows = rest} e r rs) h s =
    let k : t + 1 + length rest ≡ t + suc (length rest) = omega arith in
    rw (← append_assoc body bytes (joined rest), ← k) (rows-streamed (body ++ bytes) rs (omega arith) (streamed-more e (omega (arith, s.room_is)) r s))

-- Rows that come one after the other, with two of them kept: whether every value is fine is told of the whole slab, and where it is, the flux is
-- demand 2's curve of the whole slab, and later slots are unchanged.
pub record StreamedFlux (body : List ℕ) (bins rows : ℕ) (fine : Bool) (was flux : List Float) : Type 0 where
  pub fine_is : fine ≡ every magnitude_fine (values_of body)
  pub flux_is : fine ≡ true → flux ≡ filled (flux_at (values_of body) (slab_of rows bins)) was 0 rows

pub streamed_is_flux : {bins : ℕ} {fine : Bool} {kept kept' was flux : List Float} {rows : List (List ℕ)} → length kept ≡ 2 * bins
    → every magnitude_fine kept ≡ true → length rows ≤ length was → Taken bins 0 true kept was rows fine kept' flux
    → StreamedFlux (joined rows) bins (length rows) fine was flux
streamed_is_flux {bins} {fine} {kept} {kept'} {was} {flux} {rows} e f h rs =
    let z : 0 + length rows ≡ length rows = omega arith in
    let s = rows-streamed [] rs (omega arith) (streamed-none bins kept was e f) in
    record {
      fine_is = s.fine_is;
      flux_is = λ p. s.flux_is p ∙ ap (λ (n : ℕ). filled (flux_at (values_of (joined rows)) (slab_of n bins)) was 0 n) z;
    }
