-- Handing an answer over: a refusal and an answer each meet `Handed`, and a part that the call itself keeps at 0 where it refuses is handed over
-- all the same; so are the slots that a patch names. Assumes nothing.
use Prim.Native.Nat.{ℕ, zero, suc}
use mathlib.Core.Path.{◌≡◌, refl, sym, ap, ◌∙◌}
use mathlib.Core.List.{List, [], ◌∷◌}
use lib.Ieee.{Float}
use Rattle.numbers.specs.Lists.{listed}
use Rattle.numbers.specs.Refusals.{unless_refused}
use Rattle.numbers.proofs.Tests.{refused_keeps, passed_does}
use Rattle.patches.specs.Patches.{ranges, ranges_named, returned}
use Rattle.capi_answers.specs.Handed.{Handed}
use Rattle.capi_answers.specs.Repairs.{SlotsHanded}
use Rattle.capi_answers.specs.Tempos.{TempoLent, tempo_lent, ShareLent}
use Rattle.capi_answers.specs.Tracks.{TrackLent}

module _ {A : Type 0} where
  pub handed_refused : (number : ℕ) (parts lent₀ : A) → (number ≡ 0 → ⊥) → Handed number parts lent₀ number lent₀
  handed_refused number parts lent₀ h = record { number_is = refl; parts_are = sym (refused_keeps number parts lent₀ h) }

  pub handed-done : (number : ℕ) (parts lent₀ lent : A) → number ≡ 0 → lent ≡ parts → Handed number parts lent₀ 0 lent
  handed-done number parts lent₀ lent z e = record { number_is = sym z; parts_are = e ∙ sym (passed_does number parts lent₀ z) }

  -- a choice between two values by one number, made twice
  once : (n : ℕ) (v w old : A) → unless_refused n (unless_refused n v w) old ≡ unless_refused n v old
  once zero v w old = refl
  once (suc k) v w old = refl

  -- the call's number is `number`, and its part is v, or w where it refuses
  pub handed-on : (number : ℕ) (v w : A) {own : ℕ} {part lent₀ : A} {answer : ℕ} {lent : A}
      → own ≡ number → part ≡ unless_refused number v w → Handed own part lent₀ answer lent → Handed number v lent₀ answer lent
  handed-on number v w {own} {part} {lent₀} {answer} {lent} e h p =
      record {
        number_is = p.number_is ∙ e;
        parts_are =
            let q : lent ≡ unless_refused number (unless_refused number v w) lent₀ = rw (← h, ← e) p.parts_are in
            q ∙ once number v w lent₀;
      }

-- the lent numbers of an estimate, and of a track, part by part
pub tempo_made : {f f' : ℕ} {b b' c c' : Float} {l l' : List ℕ} {s s' : List Float} (n : ℕ) → f ≡ f' → b ≡ b' → c ≡ c' → l ≡ l' → s ≡ s'
    → tempo_lent f b c l s n ≡ tempo_lent f' b' c' l' s' n
tempo_made n f b c l s = rw (f, b, c, l, s)

pub track_made : {t t' : TempoLent} {s s' : ShareLent} (onsets beats downbeats : ℕ) → t ≡ t' → s ≡ s'
    → ◌≡◌ {A = TrackLent} (record { onsets = onsets; tempo = t; share = s; beats = beats; downbeats = downbeats })
    (record { onsets = onsets; tempo = t'; share = s'; beats = beats; downbeats = downbeats })
track_made onsets beats downbeats t s = rw (t, s)

-- ---- patches

-- the four lent numbers hold what an accepted patch names, be it empty or not, and what they held where it is refused
ranges_stored : (number : ℕ) (new : List Float) (a b c d p q r s : ℕ)
    → listed (unless_refused number (ranges_named new (ranges a b c d)) []) (ranges p q r s)
    ≡ unless_refused number (ranges_named new (ranges a b c d)) (ranges p q r s)
unfolding listed
ranges_stored (suc k) new a b c d p q r s = refl
ranges_stored zero [] a b c d p q r s = refl
ranges_stored zero (x ∷ xs) a b c d p q r s = refl

pub ranges-handed : (number : ℕ) (new : List Float) (a b c d p q r s : ℕ) {said : ℕ × List ℕ} {answer : ℕ} {lent : List ℕ}
    → said ≡ returned number (ranges_named new (ranges a b c d)) → SlotsHanded said (ranges p q r s) answer lent
    → Handed number (ranges_named new (ranges a b c d)) (ranges p q r s) answer lent
ranges-handed number new a b c d p q r s e h =
    record {
      number_is = h.number_is ∙ ap (λ (x : ℕ × List ℕ). x.0) e;
      parts_are = h.slots_are ∙ ap (λ (x : ℕ × List ℕ). listed x.1 (ranges p q r s)) e ∙ ranges_stored number new a b c d p q r s;
    }
