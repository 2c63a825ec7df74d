-- A session's checks, and how far its records have been played.
use Prim.Native.Nat.{ℕ, ◌+◌, ◌*◌, ◌/◌, ◌%◌, ◌≤◌, ◌<◌}
use mathlib.Core.Path.{◌≡◌, refl, sym, ◌∙◌}
use mathlib.Core.Bool.{true, false}
use mathlib.Core.List.{List}
use native.Mathlib.Omega.{arith}
use lib.ListN.{length, set}
use borrow.Author.Tests.{eq-eqb, ne_eqb, lt-ltb, le-ltb}
use Rattle.lists.specs.Bytes.{part}
use Rattle.lists.specs.Over.{length_over}
use Rattle.model.specs.declared.Card.{Card}
use Rattle.model.specs.declared.Played.{Played}
use Rattle.model.specs.Stored.{area_size, record_size}
use Rattle.model.specs.Sound.{sound}
use Rattle.model.specs.Session.{run_of, turn_of}
use Rattle.theorem_sound.specs.Keeps.{Good}
use Rattle.event_replies.specs.Plays.{Plays}
use Rattle.call_run.specs.Runs.{ran_of, Leaves, Runs, Checked}
use Rattle.call_run.proofs.Records.{ran_none, ran_words, leaves_none, leaves_good, leaves_more}

module _ (c : Card) (n m k : ℕ) where
  pub checked_1 : (n ≡ area_size → ⊥) → Checked 1 c n m k
  unfolding run_of
  checked_1 h = (λ e. absurd (omega (arith, e)), λ _ a b p q. rw (p, ne_eqb _ _ h))

  pub checked_6 : n ≡ area_size → sound c ≡ false → Checked 6 c n m k
  unfolding run_of
  checked_6 e s = (λ f. absurd (omega (arith, f)), λ _ a b p q. rw (p, eq-eqb _ _ e, s))

  pub checked_3 : n ≡ area_size → sound c ≡ true → (m % record_size ≡ 0 → ⊥) → Checked 3 c n m k
  unfolding run_of
  checked_3 e s h = (λ f. absurd (omega (arith, f)), λ _ a b p q. rw (p, q, eq-eqb _ _ e, s, ne_eqb _ _ h))

  pub checked_11 : n ≡ area_size → sound c ≡ true → m % record_size ≡ 0 → k < m / record_size → Checked 11 c n m k
  unfolding run_of
  checked_11 e s w h =
      (λ f. absurd (omega (arith, f)), λ _ a b p q. rw (p, q, eq-eqb _ _ e, s, eq-eqb _ _ w, lt-ltb _ _ h))

module _ (c₀ : Card) (a₀ b w₀ : List ℕ) where
  -- i of k records have been played, in a session of number n
  pub record Going (n k i : ℕ) (c : Card) (a w answer : List ℕ) : Type 0 where
    pub runs : run_of c₀ a₀ (length w₀) b ≡ record { number = n; run = ran_of k c₀ a₀ b }
    pub good : 0 < k → Good area_size c₀ a₀
    pub bytes : k * record_size ≤ length b
    pub places : k ≤ length w₀
    pub most : i ≤ k
    pub room : length answer ≡ 64
    pub keeps : length a ≡ length a₀
    pub leaves : Leaves (ran_of i c₀ a₀ b) c a w₀ w

  module _ (n k : ℕ) (p : List ℕ) (q : length p ≡ 64) (h : Checked n c₀ (length a₀) (length b) (length w₀)) where
    -- a session that is refused has no records to play
    pub begins_none : (n ≡ 0 → ⊥) → k ≡ 0 → Going n k 0 c₀ a₀ w₀ p
    begins_none f e =
        rw e
        (record {
          runs = h.1 f a₀ b refl refl ∙ rw (ran_none c₀ a₀ b);
          good = λ l. absurd (omega (arith, l));
          bytes = omega arith;
          places = omega arith;
          most = omega arith;
          room = q;
          keeps = refl;
          leaves = leaves_none c₀ a₀ b w₀;
        })

    pub begins : n ≡ 0 → k ≡ length b / record_size → Going n k 0 c₀ a₀ w₀ p
    unfolding run_of
    begins f e =
        let x = h.0 f in
        rw e
        (record {
          runs = rw (f, eq-eqb _ _ x.area, x.sound, eq-eqb _ _ x.whole, le-ltb _ _ x.room);
          good = λ _. record { sound = x.sound; files = x.files; area = x.area };
          bytes = omega arith;
          places = x.room;
          most = omega arith;
          room = q;
          keeps = refl;
          leaves = leaves_none c₀ a₀ b w₀;
        })

  module _ (n k i : ℕ) {c : Card} {a w p : List ℕ} (g : Going n k i c a w p) where
    pub still_good : i < k → Good area_size c a
    still_good h = leaves_good c₀ a₀ b w₀ i (g.good (omega (arith, h))) g.leaves

    -- the bytes of the next one
    pub record_within : i < k → i * 260 + 260 ≤ length b
    record_within h = omega (arith, h, g.bytes)

    pub as_many_words : length w ≡ length w₀
    as_many_words = rw (g.leaves.writes, length_over)

    -- one more
    pub goes_on_lem : (r : List ℕ) (x : Played) (a' q : List ℕ) → i < k → r ≡ part b (i * 260) 260 → length a' ≡ length a
        → length q ≡ length p
        → Plays (turn_of c a r) x a' p q → Going n k (i + 1) x.card a' (set w i x.word) q
    goes_on_lem r x a' q h e l f y =
        record {
          runs = g.runs;
          good = g.good;
          bytes = g.bytes;
          places = g.places;
          most = omega (arith, h);
          room = f ∙ g.room;
          keeps = l ∙ g.keeps;
          leaves = leaves_more c₀ a₀ b w₀ i c a w r x a' p q g.leaves e y;
        }

    -- all of them
    pub all_run : k ≤ i → Runs (run_of c₀ a₀ (length w₀) b) (record { number = n; count = k; card = c }) a w₀ w
    all_run h =
        let e : i ≡ k = omega (arith, h, g.most) in
        let l : Leaves (ran_of k c₀ a₀ b) c a w₀ w = rw (← e) g.leaves in
        rw g.runs
        (record {
          numbers = refl;
          counts = sym (ran_words k c₀ a₀ b);
          leaves = l.leaves;
          keeps = l.keeps;
          writes = l.writes;
        })
