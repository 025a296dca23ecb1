use mathlib.Core.Path.{◌≡◌, refl, sym, ap, ◌∙◌}
use mathlib.Core.Logic.{⊎_elim}
use mathlib.Core.List.{List, [], ◌∷◌, ◌++◌}
use Prim.Native.Nat.{ℕ, zero, suc, ◌-◌, ◌≤◌, ◌<◌}
use native.Mathlib.Omega.{arith}
use lib.ListN.{length, get_or, set, drop, length-append, length-set}
use lib.Seq.{append_snoc}
use Rattle.numbers.specs.Lists.{listed}
use Rattle.beat_links.specs.Extensions.{no_link}
use Rattle.beats.specs.Grids.{link_at, beats_to}
use Rattle.beats.specs.Inner.{Descends}
use Rattle.beats.proofs.Walks.{link_read, ends, beats-after, beats-alone, beats-some, beats-few}
use Rattle.beats.proofs.grids.store_beats.Goals as goal

module _ (back : List ℕ) (end t i : ℕ) (down : Descends (link_at back) end) (in_List : end < length back) (h : t ≤ end)
    (n : i ≡ length (beats_to (link_at back) t)) where
  is : get_or back t 0 ≡ link_at back t
  is = link_read back t (omega arith)

  -- more than one beat: t has a link
  linked : 1 < i → link_at back t ≡ no_link → ⊥
  linked m e = omega (arith, m, n, ap length (beats-alone (link_at back) t e))

  falls : 1 < i → get_or back t 0 < t
  falls m = let d = down t h (linked m) in omega (arith, d, is)

  -- and the beats that end at t are those of its link, and t
  ends_at : 1 < i → beats_to (link_at back) t ≡ beats_to (link_at back) (get_or back t 0) ++ (t ∷ [])
  ends_at m = beats-after (link_at back) end down t h (linked m) ∙ ap (λ (k : ℕ). beats_to (link_at back) k ++ (t ∷ [])) (sym is)

  shorter : 1 < i → i - 1 ≡ length (beats_to (link_at back) (get_or back t 0))
  shorter m = omega (arith, n, ap length (ends_at m) ∙ length-append (beats_to (link_at back) (get_or back t 0)) (t ∷ []))

  -- one beat: it is t
  last : i ≤ 1 → beats_to (link_at back) t ≡ t ∷ []
  last m =
      ⊎_elim (λ e. beats-alone (link_at back) t e)
      (λ e.
      let k = ap length (beats-after (link_at back) end down t h e) ∙ length-append (beats_to (link_at back) (link_at back t)) (t ∷ []) in
      absurd (omega (arith, m, n, k, beats-some (link_at back) (link_at back t))))
      (ends (link_at back) t)

-- a store at slot j, seen from there on
stored : (xs : List ℕ) (j v : ℕ) → j < length xs → drop j (set xs j v) ≡ v ∷ drop (suc j) xs
stored [] j v h = absurd (omega arith)
stored (x ∷ xs) zero v h = refl
stored (x ∷ xs) (suc j) v h = stored xs j v (omega arith)

pub loop-i-init : goal.loop-i-init
unfolding listed
loop-i-init c =
    let a = c.args in
    let link = link_at a.back.now in
    let n = c.requires.4 in (
      omega arith,
      omega (arith, n, beats-some link a.end),
      omega (arith, n, beats-few link a.end c.requires.3 a.end (omega arith)),
      refl,
      n,
      ap (λ (k : ℕ). beats_to link a.end ++ drop k a.beats.now) n,
    )

pub overflow_cast-t : goal.overflow_cast-t
overflow_cast-t c =
    let a = c.args in
    let f = falls a.back.now a.end c.loop-i.t c.loop-i.i c.requires.3 (omega arith) (omega arith) c.loop-i.invariant.4 (omega arith) in
    omega (arith, f)

pub loop-i-preserved : goal.loop-i-preserved
loop-i-preserved c =
    let a = c.args in
    let back = a.back.now in
    let link = link_at back in
    let t = c.loop-i.t in
    let i = c.loop-i.i in
    let down = c.requires.3 in
    let m : 1 < i = omega arith in
    let f = falls back a.end t i down (omega arith) (omega arith) c.loop-i.invariant.4 m in
    let n = shorter back a.end t i down (omega arith) (omega arith) c.loop-i.invariant.4 m in
    let k : suc (i - 1) ≡ i = omega arith in (
      omega (arith, f),
      omega arith,
      omega (arith, n, beats-few link a.end down (get_or back t 0) (omega (arith, f))),
      simp length-set c.loop-i.invariant.3,
      n,
      ap (λ (r : List ℕ). beats_to link (get_or back t 0) ++ r) (stored c.loop-i.beats (i - 1) t (omega arith) ∙ ap (λ (j : ℕ). t ∷ drop j c.loop-i.beats) k)
          ∙ sym (append_snoc (beats_to link (get_or back t 0)) t (drop i c.loop-i.beats))
          ∙ ap (λ (r : List ℕ). r ++ drop i c.loop-i.beats) (sym (ends_at back a.end t i down (omega arith) (omega arith) c.loop-i.invariant.4 m))
          ∙ c.loop-i.invariant.5,
    )

pub returns : goal.returns
returns c =
    let a = c.args in
    let t = c.loop-i.t in
    let one : c.loop-i.i ≡ 1 = omega arith in
    stored c.loop-i.beats 0 t (omega arith)
    ∙ ap (λ (r : List ℕ). r ++ drop 1 c.loop-i.beats)
    (sym (last a.back.now a.end t c.loop-i.i c.requires.3 (omega arith) (omega arith) c.loop-i.invariant.4 (omega arith)))
    ∙ ap (λ (k : ℕ). beats_to (link_at a.back.now) t ++ drop k c.loop-i.beats) (sym one)
    ∙ c.loop-i.invariant.5
