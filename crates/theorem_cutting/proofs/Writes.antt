-- What the writer accepts, and that the card takes what it writes: demand 2's return over `write_of`, `fresh_of` and
-- `run_of`.
use Prim.Native.Nat.{ℕ, ◌*◌, ◌≤◌}
use mathlib.Core.Path.{◌≡◌, refl, sym, ap, subst}
use mathlib.Core.Bool.{Bool, true, false, cond, not}
use mathlib.Core.List.{List, ◌++◌}
use native.Mathlib.Omega.{arith}
use lib.Dec.{ltb}
use lib.ListN.{length}
use borrow.Author.Tests.{le-ltb, ltb-false}
use Rattle.lists.specs.Joined.{joined}
use Rattle.model.specs.Stored.{chip_of, chip_form, fresh_card, record_size, area_size}
use Rattle.model.specs.Session.{fresh_of, run_of}
use Rattle.model.specs.Order.{order_limit, complete, records_for, Writing, no_writing, write_of}
use Rattle.theorem_cutting.specs.Job.{Front, job_with, Taken, Accepted}
use Rattle.theorem_cutting.proofs.Commands.{records_few}
use Rattle.theorem_cutting.proofs.Taken.{taken_all}

-- the writer's four tests, and what number 0 says of each
abbrev Tests : Bool → Bool → Bool → Bool → Writing → Writing
Tests form long done short w = cond (not form) (no_writing 7)
    (cond long (no_writing 9) (cond (not done) (no_writing 10) (cond short (no_writing 11) w)))

tests_passed : (form long done short : Bool) (w : Writing) → (Tests form long done short w).number ≡ 0
    → (form ≡ true) × (long ≡ false) × (done ≡ true) × (short ≡ false)
tests_passed false long done short w e = absurd (omega arith)
tests_passed true true done short w e = absurd (omega arith)
tests_passed true false false short w e = absurd (omega arith)
tests_passed true false true true w e = absurd (omega arith)
tests_passed true false true false w e = (refl, refl, refl, refl)

module _ (chip order : List ℕ) (room : ℕ) where
  -- number 0 only where all is asked for; so an order that the writer cuts is complete
  pub write_only : (write_of chip order room).number ≡ 0 → Accepted chip order room
  unfolding write_of
  write_only e =
      let q = tests_passed (chip_form chip) (ltb order_limit (length order)) (complete (chip_of chip).capacity order)
      (ltb room (length (records_for order) * record_size)) (record { number = 0; records = records_for order }) e in
      record {
        form = q.0;
        short = ltb-false order_limit (length order)
            q.1;
        complete_so = q.2;
        room_so = ltb-false room (length (records_for order) * record_size) q.3;
      }

  -- and there always, with the records
  pub write_all : Accepted chip order room → write_of chip order room
      ≡ record { number = 0; records = records_for order }
  unfolding write_of
  write_all h =
      rw (
        h.form,
        le-ltb order_limit (length order) h.short,
        h.complete_so,
        le-ltb room (length (records_for order) * record_size) h.room_so,
      )

  -- an order that is not complete is refused by 10, where neither 7 nor 9 refuses
  pub write_incomplete : chip_form chip ≡ true → length order ≤ order_limit
      → complete (chip_of chip).capacity order ≡ false → write_of chip order room ≡ no_writing 10
  unfolding write_of
  write_incomplete form short e = rw (form, le-ltb order_limit (length order) short, e)

  -- 11,700 bytes are room enough for every order
  pub write_roomy : chip_form chip ≡ true → length order ≤ order_limit → complete (chip_of chip).capacity order ≡ true
      → 11700 ≤ room → Accepted chip order room
  write_roomy form short so l =
      let f : length (records_for order) ≤ 45 = records_few (chip_of chip).capacity order so short in
      record { form = form; short = short; complete_so = so; room_so = omega arith }

pub fresh_form : (b : List ℕ) → chip_form b ≡ true → (fresh_of b).card ≡ fresh_card (chip_of b)
unfolding fresh_of
fresh_form b h = rw h

-- what holds of the records of every order that the writer accepts holds of those that it cuts
pub by_writing : (P : List (List ℕ) → Type 0) (chip order : List ℕ) (room : ℕ)
    → (Accepted chip order room → P (records_for order)) → (write_of chip order room).number ≡ 0
    → P (write_of chip order room).records
by_writing P chip order room k e =
    let h : Accepted chip order room = write_only chip order room e in
    subst P (ap (λ (w : Writing). w.records) (sym (write_all chip order room h))) (k h)

-- DEMAND 2, THE RETURN: whatever the writer cuts for a chip record, a fresh card of that record takes, installed and
-- selected by any front, over any file area
pub write_taken : {name : List ℕ} {front : List (List ℕ)} → Front name front → (chip a order : List ℕ)
    (room wordRoom : ℕ) → (write_of chip order room).number ≡ 0 → length a ≡ area_size
    → length (front ++ (write_of chip order room).records) ≤ wordRoom
    → Taken (length (front ++ (write_of chip order room).records))
    (run_of (fresh_of chip).card a wordRoom (joined (front ++ (write_of chip order room).records)))
write_taken {front} f chip a order room wordRoom e la =
    by_writing (λ (rs : List (List ℕ)). length (front ++ rs) ≤ wordRoom
    → Taken (length (front ++ rs)) (run_of (fresh_of chip).card a wordRoom (joined (front ++ rs)))) chip order room
    (λ h l. rw (fresh_form chip h.form) (taken_all f chip a order wordRoom h.form h.complete_so la l)) e

-- such a session has at most 47 events
pub job_few : (capacity : ℕ) (order : List ℕ) → complete capacity order ≡ true → length order ≤ order_limit
    → length (job_with (records_for order)) ≤ 47
unfolding job_with
job_few capacity order so l = let f : length (records_for order) ≤ 45 = records_few capacity order so l in omega arith
