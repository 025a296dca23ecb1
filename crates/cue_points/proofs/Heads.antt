-- The head of a chunk and the fields of a point, as the code tests them. Assumes nothing.
use mathlib.Core.Path.{◌≡◌}
use mathlib.Core.Bool.{true, false}
use mathlib.Core.List.{List}
use Prim.Native.Nat.{ℕ, ◌+◌, ◌*◌, ◌≤◌, ◌<◌}
use lib.Dec.{eqb, leb}
use lib.ListN.{length}
use borrow.Author.Tests.{le-leb, lt-leb, eq-eqb, ne_eqb, eqb-true}
use Rattle.numbers.proofs.Tests.{and_left, and_right}
use Rattle.lists.specs.declared.Reading.{Reading}
use Rattle.lists.specs.Grids.{next_read, missed}
use Rattle.words.specs.Words.{word_at}
use Rattle.cue_points.specs.Chunks.{cue_word, head_fine, count_of, fields_fine, offset_fine, offset_frame, offset_read}

module _ (c : List ℕ) where
  pub head_short : length c < 12 → head_fine c ≡ false
  unfolding head_fine
  head_short h = rw (lt-leb 12 (length c) h)

  module _ (h : 12 ≤ length c) where
    pub head_id : (word_at c 0 ≡ cue_word → ⊥) → head_fine c ≡ false
    unfolding head_fine
    head_id e = rw (le-leb 12 (length c) h, ne_eqb (word_at c 0) cue_word e)

    module _ (id : word_at c 0 ≡ cue_word) where
      pub head_size : (word_at c 4 ≡ 4 + 24 * count_of c → ⊥) → head_fine c ≡ false
      unfolding head_fine
      head_size e = rw (le-leb 12 (length c) h, eq-eqb (word_at c 0) cue_word id, ne_eqb (word_at c 4) (4 + 24 * count_of c) e)

      pub head_length : word_at c 4 ≡ 4 + 24 * count_of c → head_fine c ≡ eqb (length c) (12 + 24 * count_of c)
      unfolding head_fine
      head_length e = rw (le-leb 12 (length c) h, eq-eqb (word_at c 0) cue_word id, eq-eqb (word_at c 4) (4 + 24 * count_of c) e)

  -- what a fine head says
  pub record Head : Type 0 where
    pub id : word_at c 0 ≡ cue_word
    pub size : word_at c 4 ≡ 4 + 24 * count_of c
    pub whole : length c ≡ 12 + 24 * count_of c

  pub head_says : head_fine c ≡ true → Head
  unfolding head_fine
  head_says e =
      let a = and_right (leb 12 (length c)) _ e in
      let b = and_right (eqb (word_at c 0) cue_word) _ a in
      record {
        id = eqb-true _ _ (and_left (eqb (word_at c 0) cue_word) _ a);
        size = eqb-true _ _ (and_left (eqb (word_at c 4) (4 + 24 * count_of c)) _ b);
        whole = eqb-true _ _ (and_right (eqb (word_at c 4) (4 + 24 * count_of c)) _ b);
      }

-- fields that are the same are as fine
pub fields_same : (i : ℕ) {a b c d e f a' b' c' d' e' f' : ℕ} → a ≡ a' → b ≡ b' → c ≡ c' → d ≡ d' → e ≡ e' → f ≡ f'
    → fields_fine i a b c d e f ≡ fields_fine i a' b' c' d' e' f'
fields_same i p q r s t u = cc

-- ---- one offset more that is read

module _ (j : Reading) (o : ℕ) where
  pub offset_counts : offset_fine o ≡ true → offset_read j o ≡ next_read j (offset_frame o)
  unfolding offset_read
  offset_counts e = rw e

  pub offset_misses : offset_fine o ≡ false → offset_read j o ≡ missed j
  unfolding offset_read
  offset_misses e = rw e
