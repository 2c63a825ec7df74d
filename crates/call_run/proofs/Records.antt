-- The records of a session, one more each time.
use Prim.Native.Nat.{ℕ, zero, suc, ◌+◌, ◌*◌}
use mathlib.Core.Path.{◌≡◌, refl, sym, ◌∙◌}
use mathlib.Core.List.{List, [], ◌∷◌, ◌++◌}
use native.Mathlib.Nat.{zero-add}
use native.Mathlib.Omega.{arith}
use lib.ListN.{length, drop, set, length-append}
use Rattle.lists.specs.Bytes.{part}
use Rattle.lists.specs.Over.{overwrite, over_append, over_one, over_none}
use Rattle.model.specs.declared.Card.{Card}
use Rattle.model.specs.declared.Played.{Played}
use Rattle.model.specs.Stored.{area_size}
use Rattle.model.specs.Session.{Run, turn_of, records_in, after, run_from}
use Rattle.theorem_sound.specs.Keeps.{Good}
use Rattle.theorem_sound.proofs.Sessions.{run_keeps}
use Rattle.event_replies.specs.Plays.{Plays}
use Rattle.event_replies.proofs.Records.{records_more}
use Rattle.call_run.specs.Runs.{begun, ran_of, Leaves}

-- two runs of records, the second on what the first left
pub run_append : (xs ys : List (List ℕ)) (w : Run) → run_from w (xs ++ ys) ≡ run_from (run_from w xs) ys
unfolding run_from
run_append [] ys w = refl
run_append (x ∷ xs) ys w = run_append xs ys (after w x)

-- a word each
pub run_words : (n : ℕ) (b : List ℕ) (w : Run) → length (run_from w (records_in n b)).words ≡ length w.words + n
unfolding run_from records_in after
run_words zero b w = omega arith
run_words (suc n) b w = run_words n (drop 260 b) _ ∙ rw length-append (omega arith)

pub ran_none : (c : Card) (a b : List ℕ) → ran_of 0 c a b ≡ begun c a
unfolding run_from records_in
ran_none c a b = refl

pub ran_words : (n : ℕ) (c : Card) (a b : List ℕ) → length (ran_of n c a b).words ≡ n
ran_words n c a b = run_words n b (begun c a) ∙ zero-add n

pub ran_more : (n : ℕ) (c : Card) (a b : List ℕ) → ran_of (n + 1) c a b ≡ after (ran_of n c a b) (part b (n * 260) 260)
unfolding run_from
ran_more n c a b = rw (records_more n b, run_append (records_in n b) (part b (n * 260) 260 ∷ []) (begun c a))

-- what the records so far leave is sound
pub ran_good : (n : ℕ) (c : Card) (a b : List ℕ) → Good area_size c a
    → Good area_size (ran_of n c a b).card (ran_of n c a b).area
ran_good n c a b = run_keeps (records_in n b) (begun c a)

module _ (c₀ : Card) (a₀ b w₀ : List ℕ) where
  -- nothing has been played
  pub leaves_none : Leaves (ran_of 0 c₀ a₀ b) c₀ a₀ w₀ w₀
  leaves_none = rw (ran_none c₀ a₀ b) (record { leaves = refl; keeps = refl; writes = sym (over_none w₀ 0) })

  pub leaves_good : (n : ℕ) {c : Card} {a w : List ℕ} → Good area_size c₀ a₀ → Leaves (ran_of n c₀ a₀ b) c a w₀ w
      → Good area_size c a
  leaves_good n g l = rw (l.leaves, l.keeps) (ran_good n c₀ a₀ b g)

  -- a word more in its place
  words_more : (n : ℕ) (x : ℕ) → set (overwrite w₀ 0 (ran_of n c₀ a₀ b).words) n x
      ≡ overwrite w₀ 0 ((ran_of n c₀ a₀ b).words ++ (x ∷ []))
  words_more n x = rw (over_append, over_one, zero-add, ran_words n c₀ a₀ b)

  -- a record more
  pub leaves_more : (n : ℕ) (c : Card) (a w r : List ℕ) (x : Played) (a' p q : List ℕ)
      → Leaves (ran_of n c₀ a₀ b) c a w₀ w → r ≡ part b (n * 260) 260
      → Plays (turn_of c a r) x a' p q → Leaves (ran_of (n + 1) c₀ a₀ b) x.card a' w₀ (set w n x.word)
  unfolding after
  leaves_more n c a w r x a' p q l e y =
      rw (ran_more n c₀ a₀ b)
      (record {
        leaves = y.leaves ∙ rw (l.leaves, l.keeps, e);
        keeps = y.keeps ∙ rw (l.leaves, l.keeps, e);
        writes = rw (l.writes, y.says, words_more, l.leaves, l.keeps, e);
      })
