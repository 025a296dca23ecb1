-- What a call that writes a lent list promises, and one that lists: a refusal and an answer each meet it, and any two outcomes that it permits coincide.
-- Then room that is left open; and what is said of the slots from one on holds of those from a later one on.
use mathlib.Core.List.{List, [], ◌∷◌}
use mathlib.Core.Path.{◌≡◌, refl, sym, ap, ◌∙◌, subst}
use Prim.Native.Nat.{ℕ, ◌+◌, ◌-◌, ◌≤◌, zero-le}
use native.Mathlib.Omega.{arith}
use lib.ListN.{length, drop, get_or}
use lib.Seq.{drop-drop, drop_at}
use Rattle.numbers.specs.Lists.{curve, filled, listed}
use Rattle.std.specs.Prelude.{Result, Ok, Err, IsErrAnd}
use Rattle.numbers.specs.Refusals.{number_of}
use Rattle.numbers.specs.Refusals as Refusals
use Rattle.numbers.specs.declared.Refusal.{Refusal}
use Rattle.numbers.specs.declared.Refusal.TheVariants.{OutOfBounds, WrongLength, TooLittleRoom, WrongValue, Malformed, WrongGrid, GapTooLong, OtherShape}
use Rattle.numbers.specs.declared.Refusal.TheVariants.{NotOfThisForm, NoListedFrame, NotAscending}
use Rattle.numbers.specs.Outcomes.{listing, Listing, Written, ListWritten, Open, OpenUnless}
use Rattle.numbers.proofs.Tests.{refused_keeps, passed_does}
use Rattle.numbers.proofs.Tabs.{length-tab, length-filled, filled-whole}

-- a refusal has a number
pub number-not_0 : (e : Refusal) → Refusals.number e ≡ 0 → ⊥
number-not_0 OutOfBounds h = cc
number-not_0 WrongLength h = cc
number-not_0 TooLittleRoom h = cc
number-not_0 WrongValue h = cc
number-not_0 Malformed h = cc
number-not_0 WrongGrid h = cc
number-not_0 GapTooLong h = cc
number-not_0 OtherShape h = cc
number-not_0 NotOfThisForm h = cc
number-not_0 NoListedFrame h = cc
number-not_0 NotAscending h = cc

-- the refusals by their numbers; none has number 0
refusals : List Refusal
refusals =
    OutOfBounds ∷ OutOfBounds ∷ WrongLength ∷ TooLittleRoom ∷ WrongValue ∷ Malformed ∷ WrongGrid ∷ GapTooLong ∷ OtherShape ∷ NotOfThisForm
    ∷ NoListedFrame ∷ NotAscending ∷ []

refusal-of : ℕ → Refusal
refusal-of k = get_or refusals k NotAscending

refusal-is : (e : Refusal) → refusal-of (Refusals.number e) ≡ e
unfolding refusal-of refusals
refusal-is OutOfBounds = refl
refusal-is WrongLength = refl
refusal-is TooLittleRoom = refl
refusal-is WrongValue = refl
refusal-is Malformed = refl
refusal-is WrongGrid = refl
refusal-is GapTooLong = refl
refusal-is OtherShape = refl
refusal-is NotOfThisForm = refl
refusal-is NoListedFrame = refl
refusal-is NotAscending = refl

-- a number is one refusal's
pub number-one : (a b : Refusal) → Refusals.number a ≡ Refusals.number b → a ≡ b
number-one a b e = sym (refusal-is a) ∙ ap refusal-of e ∙ refusal-is b

-- what `?` hands on has the number of the refusal that it was given
pub handed_on : {A : Type 0} (r : Result A Refusal) (e : Refusal) → IsErrAnd r (λ (x : Refusal). x ≡ e) → number_of r ≡ Refusals.number e
handed_on (Ok a) e h = absurd h
handed_on (Err x) e h = ap Refusals.number h

module _ {A : Type 0} (number : ℕ) (done was : List A) where
  pub written_refused : (answer : ℕ) → answer ≡ number → (answer ≡ 0 → ⊥) → Written number done was answer was
  written_refused answer e h = record { number_is = e; slots_are = sym (refused_keeps number done was (λ z. h (e ∙ z))) }

  -- a refusal that `?` hands on: e is what refused
  pub written_on : {B : Type 0} (r : Result B Refusal) (e : Refusal) → IsErrAnd r (λ (x : Refusal). x ≡ e) → Refusals.number e ≡ number
      → Written number done was (number_of r) was
  written_on r e h n =
      let k : number_of r ≡ Refusals.number e = handed_on r e h in
      written_refused (number_of r) (k ∙ n) (λ z. number-not_0 e (sym k ∙ z))

  pub written-done : (after : List A) → number ≡ 0 → after ≡ done → Written number done was 0 after
  written-done after z e = record { number_is = sym z; slots_are = e ∙ sym (passed_does number done was z) }

  -- any two outcomes coincide
  pub written_unique : {a b : ℕ} {x y : List A} → Written number done was a x → Written number done was b y → (a ≡ b) × (x ≡ y)
  written_unique p q = (p.number_is ∙ sym q.number_is, p.slots_are ∙ sym q.slots_are)

module _ (number : ℕ) (entries was : List ℕ) where
  pub lists_refused : (answer : Listing) → answer.number ≡ number → (answer.number ≡ 0 → ⊥) → answer.count ≡ 0 → ListWritten number entries was answer was
  lists_refused answer e h n =
      let no : number ≡ 0 → ⊥ = λ z. h (e ∙ z) in
      record {
        number_is = e;
        count_is = n ∙ sym (refused_keeps number (length entries) 0 no);
        frames_are = sym (refused_keeps number (listed entries was) was no);
      }

  pub lists_done : (answer : Listing) (after : List ℕ) → number ≡ 0 → answer.number ≡ 0 → answer.count ≡ length entries → after ≡ listed entries was
      → ListWritten number entries was answer after
  lists_done answer after z e c l =
      record {
        number_is = e ∙ sym z;
        count_is = c ∙ sym (passed_does number (length entries) 0 z);
        frames_are = l ∙ sym (passed_does number (listed entries was) was z);
      }

  -- a refusal that `?` hands on: e is what refused
  pub lists_on : (r : Result ℕ Refusal) (e : Refusal) → IsErrAnd r (λ (x : Refusal). x ≡ e) → Refusals.number e ≡ number
      → ListWritten number entries was (listing r) was
  lists_on (Ok n) e h k = absurd h
  lists_on (Err x) e h k =
      lists_refused (listing (Err x)) (ap Refusals.number h ∙ k) (λ z. number-not_0 x z) refl

  -- any two outcomes coincide
  pub lists_unique : {a b : Listing} {x y : List ℕ} → ListWritten number entries was a x → ListWritten number entries was b y
      → (a.number ≡ b.number) × (a.count ≡ b.count) × (x ≡ y)
  lists_unique p q = (p.number_is ∙ sym q.number_is, p.count_is ∙ sym q.count_is, p.frames_are ∙ sym q.frames_are)

module _ {A : Type 0} where
  -- what agrees from slot n on agrees from a later slot on
  pub drop-later : (n m : ℕ) (xs ys : List A) → n ≤ m → drop n xs ≡ drop n ys → drop m xs ≡ drop m ys
  drop-later n m xs ys h e =
      let k : n + (m - n) ≡ m = omega arith in
      ap (λ (j : ℕ). drop j xs) (sym k) ∙ sym (drop-drop (m - n) n xs) ∙ ap (drop (m - n)) e ∙ drop-drop (m - n) n ys ∙ ap (λ (j : ℕ). drop j ys) k

-- ---- room that is left open

module _ {A : Type 0} where
  -- nothing was written
  pub open_same : (slots : ℕ) (xs : List A) → Open slots xs xs
  open_same slots xs = record { same_length = refl; kept = refl }

  -- written twice
  pub open_then : (slots : ℕ) (xs ys zs : List A) → Open slots xs ys → Open slots ys zs → Open slots xs zs
  open_then slots xs ys zs a b = record { same_length = b.same_length ∙ a.same_length; kept = b.kept ∙ a.kept }

  -- the open slots were filled
  pub open_filled : (slots : ℕ) (f : ℕ → A) (xs ys : List A) → slots ≤ length xs → ys ≡ filled f xs 0 slots → Open slots xs ys
  open_filled slots f xs ys h e =
      record {
        same_length = ap length e ∙ length-filled f xs 0 slots zero-le h;
        kept = ap (drop slots) (e ∙ filled-whole f xs slots) ∙ drop_at (curve f slots) (drop slots xs) slots (length-tab f 0 slots);
      }

  -- of a call that answers: what is left open is what the answer leaves open
  module _ (number slots : ℕ) (was after : List A) (answers : number ≡ 0) where
    pub open_answered : Open slots was after → OpenUnless number slots was after
    open_answered o = subst (λ (k : ℕ). Open k was after) (sym (passed_does number slots 0 answers)) o

    pub open_told : OpenUnless number slots was after → Open slots was after
    open_told o = subst (λ (k : ℕ). Open k was after) (passed_does number slots 0 answers) o

  -- any two outcomes have one length, and coincide in each slot that is not left open
  pub open_unique : {slots : ℕ} {was xs ys : List A} → Open slots was xs → Open slots was ys → (length xs ≡ length ys) × (drop slots xs ≡ drop slots ys)
  open_unique p q = (p.same_length ∙ sym q.same_length, p.kept ∙ sym q.kept)

  -- where some slots are left open, so are more of them
  pub open_wider : (n m : ℕ) (xs ys : List A) → n ≤ m → Open n xs ys → Open m xs ys
  open_wider n m xs ys h p = record { same_length = p.same_length; kept = drop-later n m ys xs h p.kept }
