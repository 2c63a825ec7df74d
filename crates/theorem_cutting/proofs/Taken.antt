-- THE CARD TAKES WHATEVER THE WRITER CUTS: the return of demand 2, over `run_of` and `write_of`.
use Prim.Native.Nat.{ℕ, suc, ◌+◌, ◌*◌, ◌%◌, ◌≤◌}
use mathlib.Core.Path.{◌≡◌, refl, sym, ap, ◌∙◌, subst}
use mathlib.Core.Bool.{true, false}
use mathlib.Core.List.{List, [], ◌∷◌, ◌++◌}
use native.Mathlib.Omega.{arith}
use lib.Dec.{lit≤}
use lib.ListN.{length, replicate, length-append, replicate-append-replicate}
use borrow.Author.Tests.{eq-eqb, le-ltb}
use Rattle.lists.specs.Joined.{joined}
use Rattle.model.specs.declared.Chip.{Chip}
use Rattle.model.specs.declared.Card.{Card}
use Rattle.model.specs.Stored.{chip_of, chip_form, fresh_card, record_size, data_room, area_size}
use Rattle.model.specs.Rows.{taken}
use Rattle.model.specs.Table.{table_passes}
use Rattle.model.specs.Loads.{State, with_internal, changed}
use Rattle.model.specs.Command.{ready}
use Rattle.model.specs.Sound.{sound, sound_with, secrets_ok}
use Rattle.model.specs.Session.{Run, run_from, events_in, run_of}
use Rattle.model.specs.Order.{challenged_state, complete, cut_of, stored_all, records_for}
use Rattle.theorem_cutting.specs.Packs.{Sized, none, more}
use Rattle.theorem_cutting.specs.Job.{Front, job_card, uncut, Taken}
use Rattle.theorem_cutting.proofs.Units.{Chain, done, link}
use Rattle.theorem_cutting.proofs.Fronts.{run_at, front_sized}
use Rattle.theorem_cutting.proofs.Stored.{sized_one, joined_length, joined_apart}
use Rattle.theorem_cutting.proofs.Commands.{cut_chain, cut_sized, complete_ready, not_ready}
use Rattle.model.proofs.Laws.{length_stored, length_written}
use Rattle.theorem_cutting.proofs.Played.{loaded, asking, words_more, takes_all, begun_all}
use Rattle.lists.specs.Truth.{never}

-- a session of whole records, that a sound card runs
run_whole_records : (c : Card) (a : List ℕ) (room : ℕ) (rs : List (List ℕ)) → length a ≡ area_size → sound c ≡ true
    → Sized record_size record_size rs → length rs ≤ room
    → run_of c a room (joined rs) ≡ record { number = 0; run = run_from (record { words = []; card = c; area = a }) rs }
unfolding run_of
run_whole_records c a room rs la ok z l =
    let n : length (joined rs) ≡ length rs * record_size = joined_length rs z in
    let even : length (joined rs) % record_size ≡ 0 = omega arith in
    let many : events_in (joined rs) ≡ length rs = omega arith in
    rw (
      eq-eqb (length a) area_size la,
      ok,
      eq-eqb (length (joined rs) % record_size) 0 even,
      le-ltb room (events_in (joined rs)) (omega arith),
      many,
      joined_apart rs z,
    )

fresh_sound : (chip : Chip) → sound (fresh_card chip) ≡ true
unfolding sound_with fresh_card secrets_ok table_passes taken
fresh_sound chip = refl

-- the job's records have 260 bytes each
stored_sized : (cs : List (List ℕ)) → Sized 1 data_room cs → Sized record_size record_size (stored_all cs)
unfolding stored_all
stored_sized [] z = none
stored_sized (c ∷ []) (more l m z) = sized_one _ _ (length_stored 0x80 c m) none
stored_sized (c ∷ d ∷ cs) (more l m z) = sized_one _ _ (length_stored 0x00 c m) (stored_sized (d ∷ cs) z)

job_sized : {name : List ℕ} {front : List (List ℕ)} → Front name front → (order : List ℕ)
    → Sized 1 data_room (cut_of order) → Sized record_size record_size (front ++ records_for order)
unfolding records_for
job_sized f order z = front_sized f _ (sized_one _ _ (length_stored 0x01 asking (lit≤ tt))
    (stored_sized (cut_of order) z))

-- a chain that ends loaded, where it does not begin so, has a command
chain_some : {capacity : ℕ} {s s' : State} {us : List (List ℕ)} → Chain capacity data_room s us s' → ready s ≡ false
    → ready s' ≡ true → 1 ≤ length us
chain_some (done q) f g = absurd (never (sym f ∙ ap ready q ∙ g))
chain_some (link n m l h e c) f g = omega arith

module _ {name : List ℕ} {front : List (List ℕ)} (f : Front name front) (chip : Chip) (order : List ℕ)
    (complete_so : complete chip.capacity order ≡ true) where
  -- the writer's records, played behind a front
  job_played : (a : List ℕ)
      → run_from (record { words = []; card = fresh_card chip; area = a }) (front ++ records_for order)
      ≡ run_at (replicate (length (front ++ records_for order)) 0x9000) chip name (loaded (uncut chip.capacity order))
  unfolding records_for
  job_played a =
      begun_all f chip a (stored_all (cut_of order))
      ∙ takes_all chip name chain (chain_some chain not_ready (complete_ready chip.capacity order complete_so))
      (complete_ready chip.capacity order complete_so) (replicate (length front) 0x9000 ++ (0x9000 ∷ []))
      ∙ ap (λ (ws : List ℕ). run_at ws chip name (loaded (uncut chip.capacity order)))
      (words_more (replicate (length front) 0x9000) (length (cut_of order))
      ∙ replicate-append-replicate (length front) (suc (length (cut_of order))) 0x9000
      ∙ ap (λ (n : ℕ). replicate n 0x9000) (sym many))
    where
      chain : Chain chip.capacity data_room challenged_state (cut_of order) (uncut chip.capacity order)
      chain = cut_chain chip.capacity order complete_so

      many : length (front ++ records_for order) ≡ length front + suc (length (cut_of order))
      many = length-append front (records_for order) ∙ ap (λ (n : ℕ). length front + n) (length_written order)

  -- as a session: the loading part and the file area are those that the uncut walk leaves, with 'A5'
  pub cut_same_end : (a : List ℕ) (room : ℕ) → length a ≡ area_size → length (front ++ records_for order) ≤ room
      → run_of (fresh_card chip) a room (joined (front ++ records_for order))
      ≡ record {
        number = 0;
        run = record {
          words = replicate (length (front ++ records_for order)) 0x9000;
          card = job_card chip name (changed (with_internal 0xA5) (uncut chip.capacity order));
          area = (uncut chip.capacity order).area;
        };
      }
  cut_same_end a room la l =
      run_whole_records (fresh_card chip) a room (front ++ records_for order) la (fresh_sound chip)
      (job_sized f order (cut_sized chip.capacity order complete_so)) l
      ∙ ap (λ (w : Run). record { number = 0; run = w }) (job_played a)

-- THE THEOREM: of a complete order, behind any front, every event answers '9000', and the card ends '07', 'A5'
pub taken_all : {name : List ℕ} {front : List (List ℕ)} → Front name front → (b a order : List ℕ) (room : ℕ)
    → chip_form b ≡ true → complete (chip_of b).capacity order ≡ true → length a ≡ area_size
    → length (front ++ records_for order) ≤ room
    → Taken (length (front ++ records_for order))
    (run_of (fresh_card (chip_of b)) a room (joined (front ++ records_for order)))
taken_all {front} f b a order room form so la l =
    subst (Taken (length (front ++ records_for order))) (sym (cut_same_end f (chip_of b) order so a room la l))
    (record { number = refl; words = refl; gp = refl; internal = refl })
