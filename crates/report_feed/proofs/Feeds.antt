-- What one byte more does to an input that has come so far, and what is told of it where it ends. Assumes nothing.
use mathlib.Core.Path.{◌≡◌, refl, sym, ap, ◌∙◌}
use mathlib.Core.Bool.{Bool, true, false}
use mathlib.Core.List.{List, [], ◌∷◌, ◌++◌, append-nil, append_assoc}
use Prim.Native.Nat.{ℕ, ◌+◌, ◌*◌, ◌≤◌, ◌<◌, min}
use native.Mathlib.Nat.{mul-le-mul_right, add-mul}
use native.Mathlib.Numerals.{add-one}
use native.Mathlib.Omega.{arith}
use lib.Dec.{ltb, eqb}
use lib.Ieee.{Float}
use lib.ListN.{length, get_or, take, drop, set, length-append, length-set}
use lib.Seq.{take_at, take-suc, take-suc-set, length-take-le}
use borrow.Author.Tests.{ltb-true, ltb-false, eqb-true, eqb-false, eq-eqb, ne_eqb, lt-ltb, le-ltb}
use Rattle.numbers.proofs.Everys.{every_take, every_drop, every_append}
use Rattle.numbers.proofs.Tests.{true_not_false, and_left, and_right, pick_true, pick-false, lowest-zero, lowest_2}
use Rattle.numbers.specs.Limits.{magnitude_fine, slab_of}
use Rattle.numbers.specs.Lists.{every, filled}
use Rattle.numbers.specs.Refusals.{lowest, number}
use Rattle.numbers.specs.declared.Refusal.{Refusal}
use Rattle.numbers.specs.declared.Refusal.TheVariants.{OutOfBounds, WrongLength, Malformed}
use Rattle.numbers.specs.Rounded.{pick}
use Rattle.flux.specs.Flux.{flux_at}
use Rattle.std.specs.Prelude.{Option, Some, None}
use Rattle.report_npy.specs.declared.Shape.{Shape}
use Rattle.texts.specs.Texts.{starts}
use Rattle.report_npy.specs.Header.{header_of, preamble_of, shape_of}
use Rattle.report.specs.Input.{preamble_length, values_of, shape_fine, data_number, report_number}
use Rattle.report.specs.Stream.{RowTaken}
use Rattle.report.proofs.Streams.{streamed-none, streamed-more}
use Rattle.report_head.specs.declared.Feed.{Feed}
use Rattle.report_head.specs.declared.Feed.TheVariants as come
use Rattle.report_head.specs.Heads.{behind_first, behind_text, FirstTaken, TextTaken}
use Rattle.report_feed.specs.Feeds.{
  Fed,
  State,
  state,
  row_taken,
  byte_taken,
  bytes_taken,
  reading_of,
  is_decided,
  RowsWithin,
  PartWithin,
  FeedReady,
  InRows,
  Parts,
  Begins,
  Step,
  InputFound,
  Told,
  Decides,
  Closes,
}
use Rattle.report_feed.proofs.Inputs.{
  rows_fit,
  bins-some,
  bins_fit,
  number_short,
  number-malformed,
  number_text_short,
  number_text_malformed,
  number_data,
  number-shape,
  number-length,
}

-- ---- nothing has come

pub begins : Begins (come.First 0)
unfolding PartWithin Parts
begins =
    record {
      feed_is = refl;
      fed = λ held kept was h k w f.
          record {
            ready = record { held_has_room = h; kept_room = k; flux_room = w; within = (omega arith, f) };
            parts = record { input_is = refl; flux_is = refl };
          };
    }

-- ---- one step

-- one byte more, apart from what the state is
record Moved (byte : ℕ) (feed : Feed) (held : List ℕ) (kept flux : List Float) (feed' : Feed) (held' : List ℕ) (kept' flux' : List Float) : Type 0 where
  ready : FeedReady feed' held' kept' flux'
  fed : (input : List ℕ) (was : List Float) → Fed input feed held kept was flux → Fed (input ++ (byte ∷ [])) feed' held' kept' was flux'

moved_of : {byte : ℕ} {feed feed' : Feed} {held held' : List ℕ} {kept kept' flux flux' : List Float} → FeedReady feed' held' kept' flux'
    → ((input : List ℕ) (was : List Float) → Parts input feed held kept was flux → Parts (input ++ (byte ∷ [])) feed' held' kept' was flux')
    → Moved byte feed held kept flux feed' held' kept' flux'
moved_of r f = record { ready = r; fed = λ input was x. record { ready = r; parts = f input was x.parts } }

step_of : {byte : ℕ} {feed feed' : Feed} {held held' : List ℕ} {kept kept' flux flux' : List Float}
    → state feed' held' kept' flux' ≡ byte_taken byte (state feed held kept flux)
    → Moved byte feed held kept flux feed' held' kept' flux' → Step (byte ∷ []) feed held kept flux feed' held' kept' flux'
unfolding bytes_taken
step_of e m = record { state_is = e; ready = m.ready; fed = m.fed }

ready_as : {feed feed' : Feed} {held held' : List ℕ} {kept flux : List Float} → FeedReady feed held kept flux → length held' ≡ length held
    → PartWithin feed' kept
    → FeedReady feed' held' kept flux
ready_as r e w = record { held_has_room = omega (arith, r.held_has_room); kept_room = r.kept_room; flux_room = r.flux_room; within = w }

-- a byte is held behind those that are
grown : (held held' : List ℕ) (have byte : ℕ) → held' ≡ set held have byte → have < length held → take (have + 1) held' ≡ take have held ++ (byte ∷ [])
grown held held' have byte e h = ap (take (have + 1)) e ∙ ap (λ (k : ℕ). take k (set held have byte)) (add-one have) ∙ take-suc-set held have byte h

-- by what the state is told to be
pub ready_at : {feed feed' : Feed} {held : List ℕ} {kept flux : List Float} → feed ≡ feed' → FeedReady feed held kept flux → FeedReady feed' held kept flux
ready_at e r = rw (← e) r

pub step_at : {bytes : List ℕ} {feed told feed' : Feed} {held held' : List ℕ} {kept kept' flux flux' : List Float} → feed ≡ told
    → Step bytes told held kept flux feed' held' kept' flux' → Step bytes feed held kept flux feed' held' kept' flux'
step_at e s = rw e s

-- nothing is taken, since the input is refused
pub step_refused : {refusal : Refusal} {byte : ℕ} {held : List ℕ} {kept flux : List Float} → FeedReady (come.Refused refusal) held kept flux
    → Step (byte ∷ []) (come.Refused refusal) held kept flux (come.Refused refusal) held kept flux
unfolding Parts byte_taken
step_refused {refusal} {byte} r =
    step_of refl (moved_of r (λ input was p.
    record { some = p.some; whatever = λ more. ap report_number (append_assoc input (byte ∷ []) more) ∙ p.whatever ((byte ∷ []) ++ more) }))

-- ---- the ten bytes

pub first_fits : {have : ℕ} {held : List ℕ} {kept flux : List Float} → FeedReady (come.First have) held kept flux
    → (have < preamble_length) × (preamble_length ≤ length held)
unfolding PartWithin
first_fits r = (r.within.0, omega (arith, r.held_has_room))

pub step_first : {byte have : ℕ} {feed' : Feed} {held held' : List ℕ} {kept flux : List Float} → FeedReady (come.First have) held kept flux
    → FirstTaken byte have held feed' held' → Step (byte ∷ []) (come.First have) held kept flux feed' held' kept flux
unfolding PartWithin Parts behind_first byte_taken header_of starts
step_first {byte} {have} {feed'} {held} {held'} {kept} {flux} r t =
    step_of
    (ap (λ (f : Feed). state f held' kept flux) t.feed_is
    ∙ ap
    (λ (h : List ℕ). state (pick (ltb (have + 1) preamble_length) (come.First (have + 1)) (behind_first (preamble_of (take preamble_length h)))) h kept flux)
    t.held_is)
    (rw t.feed_is (by (ltb (have + 1) preamble_length) refl))
  where
    To : Feed → Type 0
    To f = Moved byte (come.First have) held kept flux f held' kept flux

    same : length held' ≡ length held
    same = ap length t.held_is ∙ simp length-set

    more : take (have + 1) held' ≡ take have held ++ (byte ∷ [])
    more = grown held held' have byte t.held_is (omega (arith, r.within.0, r.held_has_room))

    first : List ℕ
    first = take preamble_length held'

    ten : length first ≡ preamble_length
    ten = length-take-le preamble_length held' (omega (arith, r.held_has_room, same))

    whole : have + 1 ≡ 10 → (input : List ℕ) → input ≡ take have held → input ++ (byte ∷ []) ≡ first
    whole full input e = ap (λ (x : List ℕ). x ++ (byte ∷ [])) e ∙ sym more ∙ ap (λ (k : ℕ). take k held') full

    empty : have + 1 ≡ 10 → (size : ℕ) → preamble_of first ≡ Some size → (b : Bool) → eqb size 0 ≡ b → To (pick b (come.Refused Malformed) (come.Text size 0))
    empty full size s true e =
        let none : preamble_of first ≡ Some 0 = s ∙ ap Some (eqb-true size 0 e) in
        moved_of (ready_as r same tt) (λ input was p.
        record {
          some = λ z. absurd (omega arith);
          whatever = λ rest. ap (λ (x : List ℕ). report_number (x ++ rest)) (whole full input p.input_is) ∙ number_text_malformed first ten [] none refl rest;
        })
    empty full size s false e =
        let some : 0 < size = let n : size ≡ 0 → ⊥ = eqb-false size 0 e in omega arith in
        moved_of (ready_as r same (some, t.size_fits (omega arith) size s, r.within.1)) (λ input was p.
        record { first = first; first_is = ten; stated_is = s; input_is = whole full input p.input_is ∙ sym (append-nil first); flux_is = p.flux_is })

    told : have + 1 ≡ 10 → (x : Option ℕ) → preamble_of first ≡ x → To (behind_first x)
    told full None s =
        moved_of (ready_as r same tt) (λ input was p.
        record {
          some = λ z. absurd (omega arith);
          whatever = λ rest. ap (λ (x : List ℕ). report_number (x ++ rest)) (whole full input p.input_is) ∙ number-malformed first ten s rest;
        })
    told full (Some size) s = empty full size s (eqb size 0) refl

    by : (b : Bool) → ltb (have + 1) preamble_length ≡ b → To (pick b (come.First (have + 1)) (behind_first (preamble_of first)))
    by true e =
        moved_of (ready_as r same (ltb-true _ _ e, r.within.1)) (λ input was p.
        record { input_is = ap (λ (x : List ℕ). x ++ (byte ∷ [])) p.input_is ∙ sym more; flux_is = p.flux_is })
    by false e = let h : preamble_length ≤ have + 1 = ltb-false _ _ e in told (omega (arith, r.within.0)) (preamble_of first) refl

-- ---- a header's text

pub text-fits : {size have : ℕ} {held : List ℕ} {kept flux : List Float} → FeedReady (come.Text size have) held kept flux → (have < size) × (size ≤ length held)
unfolding PartWithin
text-fits r = (r.within.0, omega (arith, r.within.1, r.held_has_room))

pub step_text : {byte size have : ℕ} {feed' : Feed} {held held' : List ℕ} {kept flux : List Float} → FeedReady (come.Text size have) held kept flux
    → TextTaken byte size have held feed' held' → Step (byte ∷ []) (come.Text size have) held kept flux feed' held' kept flux
unfolding PartWithin Parts behind_text byte_taken
step_text {byte} {size} {have} {feed'} {held} {held'} {kept} {flux} r t =
    step_of
    (ap (λ (f : Feed). state f held' kept flux) t.feed_is
    ∙ ap (λ (h : List ℕ). state (pick (ltb (have + 1) size) (come.Text size (have + 1)) (behind_text (header_of (take size h)))) h kept flux) t.held_is)
    (rw t.feed_is (by (ltb (have + 1) size) refl))
  where
    To : Feed → Type 0
    To f = Moved byte (come.Text size have) held kept flux f held' kept flux

    same : length held' ≡ length held
    same = ap length t.held_is ∙ simp length-set

    more : take (have + 1) held' ≡ take have held ++ (byte ∷ [])
    more = grown held held' have byte t.held_is (omega (arith, r.within.0, r.within.1, r.held_has_room))

    behind : (first input : List ℕ) → input ≡ first ++ take have held → input ++ (byte ∷ []) ≡ first ++ take (have + 1) held'
    behind first input e = ap (λ (x : List ℕ). x ++ (byte ∷ [])) e ∙ append_assoc first (take have held) (byte ∷ [])
        ∙ ap (λ (x : List ℕ). first ++ x) (sym more)

    text : List ℕ
    text = take size held'

    size_is : length text ≡ size
    size_is = length-take-le size held' (omega (arith, r.within.1, r.held_has_room, same))

    stated : (first : List ℕ) → preamble_of first ≡ Some size → preamble_of first ≡ Some (length text)
    stated first e = e ∙ ap Some (sym size_is)

    whole : have + 1 ≡ size → (first input : List ℕ) → input ≡ first ++ take have held → input ++ (byte ∷ []) ≡ first ++ text
    whole full first input e = behind first input e ∙ ap (λ (k : ℕ). first ++ take k held') full

    on : have + 1 ≡ size → (first input rest : List ℕ) → input ≡ first ++ take have held
        → report_number ((input ++ (byte ∷ [])) ++ rest) ≡ report_number (first ++ (text ++ rest))
    on full first input rest e = ap (λ (x : List ℕ). report_number (x ++ rest)) (whole full first input e) ∙ ap report_number (append_assoc first text rest)

    shaped : have + 1 ≡ size → (rows bins : ℕ) → header_of text ≡ Some (shape_of rows bins) → (b : Bool) → shape_fine rows bins ≡ b
        → To (pick b (come.Rows rows bins 0 0 true) (come.Refused OutOfBounds))
    shaped full rows bins s true e =
        let room : 2 * bins ≤ length kept = omega (arith, r.kept_room, bins_fit rows bins e) in
        let fine : every magnitude_fine (take (2 * bins) kept) ≡ true = every_take magnitude_fine kept (2 * bins) r.within.2 in
        moved_of
        (ready_as r same (record {
          shape_is = e;
          row_is = omega arith;
          have_is = omega (arith, bins-some rows bins e);
          none_behind = λ z. refl;
          kept_fine = λ z. fine;
        }))
        (λ input was p.
        record {
          first = p.first;
          text = text;
          body = [];
          first_is = p.first_is;
          stated_is = stated p.first p.stated_is;
          header_is = s;
          streamed = rw p.flux_is (streamed-none bins (take (2 * bins) kept) was (length-take-le (2 * bins) kept room) fine);
          input_is = whole full p.first input p.input_is ∙ ap (λ (x : List ℕ). p.first ++ x) (sym (append-nil text));
        })
    shaped full rows bins s false e =
        moved_of (ready_as r same tt) (λ input was p.
        record {
          some = λ z. absurd (omega arith);
          whatever = λ rest. on full p.first input rest p.input_is
              ∙ number-shape p.first p.first_is text (stated p.first p.stated_is) rows bins s e rest;
        })

    told : have + 1 ≡ size → (x : Option Shape) → header_of text ≡ x → To (behind_text x)
    told full None s =
        moved_of (ready_as r same tt) (λ input was p.
        record {
          some = λ z. absurd (omega arith);
          whatever = λ rest. on full p.first input rest p.input_is
              ∙ number_text_malformed p.first p.first_is text (stated p.first p.stated_is) s rest;
        })
    told full (Some shape) s = shaped full shape.rows shape.bins s (shape_fine shape.rows shape.bins) refl

    by : (b : Bool) → ltb (have + 1) size ≡ b → To (pick b (come.Text size (have + 1)) (behind_text (header_of text)))
    by true e =
        moved_of (ready_as r same (ltb-true _ _ e, r.within.1, r.within.2)) (λ input was p.
        record { first = p.first; first_is = p.first_is; stated_is = p.stated_is; input_is = behind p.first input p.input_is; flux_is = p.flux_is })
    by false e = let h : size ≤ have + 1 = ltb-false _ _ e in told (omega (arith, r.within.0)) (header_of text) refl

-- ---- the data

rows-length : (rows bins t : ℕ) → t < rows → t * bins * 4 + bins * 4 ≤ rows * bins * 4
rows-length rows bins t h = omega (arith, add-mul t 1 bins, mul-le-mul_right bins h)

-- the rows kept are fine while all are
pair_fine : {bytes : List ℕ} {bins t : ℕ} {fine still : Bool} {pair pair' flux flux' : List Float} → RowTaken bytes bins t fine pair flux still pair' flux'
    → (fine ≡ true → every magnitude_fine pair ≡ true) → still ≡ true → every magnitude_fine pair' ≡ true
pair_fine {bytes} {bins} {t} {fine} {still} {pair} taken f z =
    let both = sym taken.fine_is ∙ z in
    ap (every magnitude_fine) taken.kept_is
    ∙ every_append magnitude_fine (drop bins pair) (values_of bytes) (every_drop magnitude_fine pair bins (f (and_left fine _ both))) (and_right fine _ both)

module _ {rows bins t have : ℕ} {fine : Bool} {held : List ℕ} {kept flux : List Float} (r : FeedReady (come.Rows rows bins t have fine) held kept flux) where
  pub rows-within : RowsWithin rows bins t have fine kept
  unfolding PartWithin
  rows-within = r.within

  pub have_fits : have < length held
  have_fits = let w = rows-within in omega (arith, w.have_is, bins_fit rows bins w.shape_is, r.held_has_room)

  pub row_fits : t < rows → t < length flux
  row_fits h = omega (arith, r.flux_room, rows_fit rows bins rows-within.shape_is)

  -- the parts of the room that a row is lent
  pub width_fits : bins * 4 ≤ length held
  width_fits = omega (arith, bins_fit rows bins rows-within.shape_is, r.held_has_room)

  pub pair_fits : 2 * bins ≤ length kept
  pair_fits = omega (arith, bins_fit rows bins rows-within.shape_is, r.kept_room)

  -- a byte behind the last row
  pub step_behind : {byte : ℕ} → t ≡ rows → Step (byte ∷ []) (come.Rows rows bins t have fine) held kept flux (come.Refused WrongLength) held kept flux
  unfolding PartWithin Parts byte_taken
  step_behind {byte} e =
      step_of (sym (pick_true _ _ _ (eq-eqb t rows e))) (moved_of (ready_as r refl tt) (λ input was p.
      record {
        some = λ z. absurd (omega arith);
        whatever = λ rest.
            let tail = take have held ++ ((byte ∷ []) ++ rest) in
            let parts : (input ++ (byte ∷ [])) ++ rest ≡ p.first ++ (p.text ++ (p.body ++ tail))
            = ap (λ (x : List ℕ). (x ++ (byte ∷ [])) ++ rest) p.input_is ∙ simp append_assoc in
            ap report_number parts
            ∙ number-length p.first p.first_is p.text p.stated_is rows bins p.header_is rows-within.shape_is (p.body ++ tail) (λ z.
            omega (
              arith,
              z,
              length-append p.body tail,
              length-append (take have held) ((byte ∷ []) ++ rest),
              p.streamed.rows_are
                  ∙ ap (λ (k : ℕ). k * bins * 4) e,
            ));
      }))

  -- a byte within a row
  pub step_part : {byte : ℕ} → t < rows → have + 1 < bins * 4
      → Step (byte ∷ []) (come.Rows rows bins t have fine) held kept flux (come.Rows rows bins t (have + 1) fine) (set held have byte) kept flux
  unfolding PartWithin Parts byte_taken
  step_part {byte} h k =
      let w = rows-within in
      let more = grown held (set held have byte) have byte refl have_fits in
      step_of (sym (pick-false _ _ _ (ne_eqb t rows (λ e. omega arith)) ∙ pick_true _ _ _ (lt-ltb _ _ k))) (moved_of
      (ready_as r (length-set held have byte) (record {
        shape_is = w.shape_is;
        row_is = w.row_is;
        have_is = k;
        none_behind = λ z. absurd
            (omega arith);
        kept_fine = w.kept_fine;
      }))
      (λ input was p.
      record {
        first = p.first;
        text = p.text;
        body = p.body;
        first_is = p.first_is;
        stated_is = p.stated_is;
        header_is = p.header_is;
        streamed = p.streamed;
        input_is = ap (λ (x : List ℕ). x ++ (byte ∷ [])) p.input_is ∙ simp (append_assoc, more);
      }))

  -- the last byte of a row
  pub step_row : {byte : ℕ} {still : Bool} {bytes : List ℕ} {pair pair' kept' flux' : List Float} → t < rows → have + 1 ≡ bins * 4
      → bytes ≡ take (bins * 4) (set held have byte)
      → pair ≡ take (2 * bins) kept → RowTaken bytes bins t fine pair flux still pair' flux' → kept' ≡ pair' ++ drop (2 * bins) kept
      → length pair' ≡ 2 * bins → length kept' ≡ length kept → length flux' ≡ length flux
      → Step (byte ∷ []) (come.Rows rows bins t have fine) held kept flux (come.Rows rows bins (t + 1) 0 still) (set held have byte) kept' flux'
  unfolding PartWithin Parts byte_taken row_taken
  step_row {byte} {still} {bytes} {pair} {pair'} {kept'} {flux'} h k b q taken k' lp lk lf =
      let w = rows-within in
      let q' : take (2 * bins) kept' ≡ pair' = ap (take (2 * bins)) k' ∙ take_at pair' (drop (2 * bins) kept) (2 * bins) lp in
      let now : RowTaken (take (bins * 4) (set held have byte)) bins t fine (take (2 * bins) kept) flux still pair' flux' = rw (← b, ← q) taken in
      let new = values_of (take (bins * 4) (set held have byte)) in
      let pair'' = drop bins (take (2 * bins) kept) ++ new in
      let is : state (come.Rows rows bins (t + 1) 0 still) (set held have byte) kept' flux' ≡ row_taken rows bins t fine (set held have byte) kept flux
      = ap (λ (x : List Float). state (come.Rows rows bins (t + 1) 0 still) (set held have byte) x flux')
      (k' ∙ ap (λ (x : List Float). x ++ drop (2 * bins) kept) now.kept_is)
      ∙ ap (λ (x : List Float). state (come.Rows rows bins (t + 1) 0 still) (set held have byte) (pair'' ++ drop (2 * bins) kept) x) now.flux_is
      ∙ ap
      (λ (y : Bool). state (come.Rows rows bins (t + 1) 0 y) (set held have byte) (pair'' ++ drop (2 * bins) kept)
      (pick y (set flux t (flux_at pair'' (slab_of 2 bins) (min t 1))) flux))
      now.fine_is in
      let lb : length bytes ≡ bins * 4 = ap length b ∙ length-take-le (bins * 4) (set held have byte) (omega (arith, length-set held have byte, have_fits)) in
      let room : t < length flux = omega (arith, r.flux_room, rows_fit rows bins w.shape_is) in
      let more : bytes ≡ take have held ++ (byte ∷ []) = b ∙ ap (λ (n : ℕ). take n (set held have byte)) (sym k)
      ∙ grown held (set held have byte) have byte refl have_fits in
      let ready : FeedReady (come.Rows rows bins (t + 1) 0 still) (set held have byte) kept' flux'
      = record {
        held_has_room = omega (arith, r.held_has_room, length-set held have byte);
        kept_room = omega (arith, r.kept_room);
        flux_room = omega (arith, r.flux_room);
        within = record {
          shape_is = w.shape_is;
          row_is = omega arith;
          have_is = omega arith;
          none_behind = λ z. refl;
          kept_fine = λ z. ap (every magnitude_fine) q' ∙ pair_fine taken (λ f. ap (every magnitude_fine) q ∙ w.kept_fine f) z;
        };
      } in
      step_of (sym (pick-false _ _ _ (ne_eqb t rows (λ e. omega arith)) ∙ pick-false _ _ _ (le-ltb (have + 1) (bins * 4) (omega arith)) ∙ sym is))
      (moved_of ready (λ input was p.
      record {
        first = p.first;
        text = p.text;
        body = p.body ++ bytes;
        first_is = p.first_is;
        stated_is = p.stated_is;
        header_is = p.header_is;
        streamed = rw q' (streamed-more {body = p.body} lb room taken (rw q p.streamed));
        input_is = ap (λ (x : List ℕ). x ++ (byte ∷ [])) p.input_is ∙ simp (append_assoc, more, append-nil);
      }))

-- ---- several bytes

pub taken-append : (a b : List ℕ) (s : State) → bytes_taken (a ++ b) s ≡ bytes_taken b (bytes_taken a s)
unfolding bytes_taken
taken-append [] b s = refl
taken-append (x ∷ a) b s = taken-append a b (byte_taken x s)

pub step_none : {feed : Feed} {held : List ℕ} {kept flux : List Float} → FeedReady feed held kept flux → Step [] feed held kept flux feed held kept flux
unfolding bytes_taken
step_none {feed} {held} {kept} {flux} r = record { state_is = refl; ready = r; fed = λ input was x. rw (append-nil input) x }

pub step_on : {a b : List ℕ} {feed feed' feed'' : Feed} {held held' held'' : List ℕ} {kept kept' kept'' flux flux' flux'' : List Float}
    → Step a feed held kept flux feed' held' kept' flux' → Step b feed' held' kept' flux' feed'' held'' kept'' flux''
    → Step (a ++ b) feed held kept flux feed'' held'' kept'' flux''
step_on {a} {b} s u =
    record {
      state_is = u.state_is ∙ ap (bytes_taken b) s.state_is ∙ sym (taken-append a b _);
      ready = u.ready;
      fed = λ input was x. rw (← append_assoc input a b) (u.fed (input ++ a) was (s.fed input was x));
    }

-- one byte more of those that are lent
pub step_next : (bytes : List ℕ) (i : ℕ) {feed feed' feed'' : Feed} {held held' held'' : List ℕ} {kept kept' kept'' flux flux' flux'' : List Float}
    → i < length bytes
    → Step (take i bytes) feed held kept flux feed' held' kept' flux' → Step (get_or bytes i 0 ∷ []) feed' held' kept' flux' feed'' held'' kept'' flux''
    → Step (take (i + 1) bytes) feed held kept flux feed'' held'' kept'' flux''
step_next bytes i h s u = rw (add-one i, take-suc bytes i 0 h) (step_on s u)

-- ---- the input has ended

refused_found : {input : List ℕ} {rows number : ℕ} {was flux : List Float} → (number ≡ 0 → ⊥) → number ≡ 0 → InputFound input rows was flux
refused_found n z = absurd (n z)

-- ---- an input that is refused is decided, and no other

pub decides_first : {have : ℕ} → Decides (come.First have) false
unfolding is_decided
decides_first = record { answer_is = refl; whatever = λ e. true_not_false false e refl }

pub decides_text : {size have : ℕ} → Decides (come.Text size have) false
unfolding is_decided
decides_text = record { answer_is = refl; whatever = λ e. true_not_false false e refl }

pub decides_rows : {rows bins t have : ℕ} {fine : Bool} → Decides (come.Rows rows bins t have fine) false
unfolding is_decided
decides_rows = record { answer_is = refl; whatever = λ e. true_not_false false e refl }

pub decides_refused : {refusal : Refusal} → Decides (come.Refused refusal) true
unfolding is_decided Parts reading_of
decides_refused {refusal} =
    record {
      answer_is = refl;
      whatever = λ e input held kept was flux x more. record { number_is = sym (x.parts.whatever more); found = refused_found x.parts.some };
    }

-- ---- where the input ends

pub closes_first : {have : ℕ} → Closes (come.First have) (record { number = 5; rows = 0 })
unfolding PartWithin Parts reading_of
closes_first {have} =
    record {
      answer_is = refl;
      tells = λ input held kept was flux x.
          let l : length input ≡ have = ap length x.parts.input_is ∙ length-take-le have held (omega (arith, x.ready.held_has_room, x.ready.within.0)) in
          record { number_is = sym (number_short input (omega (arith, x.ready.within.0))); found = refused_found (λ z. absurd (omega arith)) };
    }

pub closes_text : {size have : ℕ} → Closes (come.Text size have) (record { number = 5; rows = 0 })
unfolding PartWithin Parts reading_of
closes_text {size} {have} =
    record {
      answer_is = refl;
      tells = λ input held kept was flux x.
          let p = x.parts in
          let l : length (take have held) ≡ have = length-take-le have held (omega (arith, x.ready.held_has_room, x.ready.within.0, x.ready.within.1)) in
          record {
            number_is = sym (ap report_number p.input_is ∙ number_text_short p.first p.first_is size p.stated_is (take have held)
                (omega (arith, x.ready.within.0)));
            found = refused_found (λ z. absurd (omega arith));
          };
    }

pub closes_refused : {refusal : Refusal} → Closes (come.Refused refusal) (record { number = number refusal; rows = 0 })
unfolding Parts reading_of
closes_refused {refusal} =
    record {
      answer_is = refl;
      tells = λ input held kept was flux x.
          record { number_is = sym (ap report_number (sym (append-nil input)) ∙ x.parts.whatever []); found = refused_found x.parts.some };
    }

pub closes_rows : {rows bins t have number : ℕ} {fine : Bool} → number ≡ lowest true (eqb t rows) true fine
    → Closes (come.Rows rows bins t have fine) (record { number = number; rows = rows })
unfolding PartWithin Parts reading_of data_number
closes_rows {rows} {bins} {t} {have} {number} {fine} n =
    record {
      answer_is = ap (λ (k : ℕ). record { number = k; rows = rows }) n;
      tells = λ input held kept was flux x. by input held kept was flux x.ready.within x.parts x.ready (eqb t rows) refl;
    }
  where
    by : (input held : List ℕ) (kept was flux : List Float) → RowsWithin rows bins t have fine kept → InRows input rows bins t have fine held kept was flux
        → FeedReady (come.Rows rows bins t have fine) held kept flux → (b : Bool) → eqb t rows ≡ b
        → Told input (record { number = number; rows = rows }) was flux
    by input held kept was flux w p r false e =
        let fewer : t < rows = let d : t ≡ rows → ⊥ = eqb-false t rows e in omega (arith, w.row_is) in
        let l : length (take have held) ≡ have = length-take-le have held (omega (arith, have_fits r)) in
        let two : number ≡ 2 = n ∙ lowest_2 true (eqb t rows) true fine refl e in
        record {
          number_is = two ∙ sym (ap report_number p.input_is
              ∙ number-length p.first p.first_is p.text p.stated_is rows bins p.header_is w.shape_is (p.body ++ take have held) (λ z.
              omega (arith, z, length-append p.body (take have held), p.streamed.rows_are, rows-length rows bins t fewer, w.have_is)));
          found = λ z. absurd (omega (arith, two, z));
        }
    by input held kept was flux w p r true e =
        let all : t ≡ rows = eqb-true t rows e in
        let none : take have held ≡ [] = ap (λ (k : ℕ). take k held) (w.none_behind all) in
        let parts : input ≡ p.first ++ (p.text ++ p.body) =
        p.input_is ∙ ap (λ (x : List ℕ). p.first ++ (p.text ++ x)) (ap (λ (x : List ℕ). p.body ++ x) none ∙ append-nil p.body) in
        let whole : length p.body ≡ rows * bins * 4 = p.streamed.rows_are ∙ ap (λ (k : ℕ). k * bins * 4) all in
        record {
          number_is = n
              ∙ ap (λ (b : Bool). lowest true b true fine) e
              ∙ sym (ap report_number parts
              ∙ number_data p.first p.first_is p.text p.stated_is rows bins p.header_is p.body
              ∙ rw (w.shape_is, eq-eqb _ _ whole, ← p.streamed.fine_is));
          found = λ z.
              let passed : fine ≡ true = (lowest-zero true (eqb t rows) true fine (sym n ∙ z)).values in
              record {
                first = p.first;
                text = p.text;
                body = p.body;
                bins = bins;
                input_is = parts;
                first_is = p.first_is;
                stated_is = p.stated_is;
                header_is = p.header_is;
                rows_fit = rows_fit rows bins w.shape_is;
                bins_fit = bins_fit rows bins w.shape_is;
                length_is = whole;
                fine_is = sym p.streamed.fine_is ∙ passed;
                flux_is = p.streamed.flux_is passed ∙ ap (λ (n : ℕ). filled (flux_at (values_of p.body) (slab_of n bins)) was 0 n) all;
              };
        }
