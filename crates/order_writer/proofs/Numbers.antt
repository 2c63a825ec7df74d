-- The writer's numbers, each where its test says so.
use Prim.Native.Nat.{ℕ, ◌*◌, ◌≤◌, ◌<◌}
use mathlib.Core.Path.{◌≡◌, refl, sym}
use mathlib.Core.Bool.{Bool, true, false}
use mathlib.Core.List.{List}
use native.Mathlib.Omega.{arith}
use lib.ListN.{length}
use borrow.Author.Tests.{lt-ltb, le-ltb}
use Rattle.model.specs.declared.Made.{Made}
use Rattle.model.specs.Stored.{chip_form, chip_of, fresh_card, record_size}
use Rattle.model.specs.Session.{fresh_of}
use Rattle.model.specs.Order.{order_limit, complete, records_for, no_writing, write_of}
use Rattle.order_complete.specs.Writes.{cut_for}

module _ (order : List ℕ) (room : ℕ) where
  pub no_room : room < length (records_for order) * record_size → cut_for order room ≡ no_writing 11
  no_room h = rw (lt-ltb room (length (records_for order) * record_size) h)

  pub has_room : length (records_for order) * record_size ≤ room
      → cut_for order room ≡ record { number = 0; records = records_for order }
  has_room h = rw (le-ltb room (length (records_for order) * record_size) h)

-- a chip record, and what the fresh card's call made of it
module _ (chip order : List ℕ) (room : ℕ) (m : Made) (made : m ≡ fresh_of chip) where
  refused_so : (b : Bool) → chip_form chip ≡ b → ((fresh_of chip).number ≡ 0 → ⊥)
      → write_of chip order room ≡ no_writing (fresh_of chip).number
  unfolding write_of fresh_of
  refused_so true e h = absurd (h (rw e refl))
  refused_so false e h = rw e refl

  pub refused : (m.number ≡ 0 → ⊥) → write_of chip order room ≡ no_writing m.number
  refused h = rw made (refused_so (chip_form chip) refl (rw (sym made) h))

  form_so : (b : Bool) → chip_form chip ≡ b → (fresh_of chip).number ≡ 0 → chip_form chip ≡ true
  unfolding fresh_of
  form_so true e z = e
  form_so false e z =
      let s : (fresh_of chip).number ≡ 7 = rw e refl in
      absurd (omega arith)

  form : m.number ≡ 0 → chip_form chip ≡ true
  form z = form_so (chip_form chip) refl (rw (sym made) z)

  capacity : m.number ≡ 0 → m.card.chip.capacity ≡ (chip_of chip).capacity
  unfolding fresh_of fresh_card
  capacity z = rw (made, form z) refl

  pub too_long : m.number ≡ 0 → order_limit < length order → write_of chip order room ≡ no_writing 9
  unfolding write_of
  too_long z h = rw (form z, lt-ltb order_limit (length order) h)

  pub not_complete : m.number ≡ 0 → length order ≤ order_limit → complete m.card.chip.capacity order ≡ false
      → write_of chip order room ≡ no_writing 10
  unfolding write_of
  not_complete z h e = rw (form z, le-ltb order_limit (length order) h, ← capacity z, e)

  pub is_cut : m.number ≡ 0 → length order ≤ order_limit → complete m.card.chip.capacity order ≡ true
      → write_of chip order room ≡ cut_for order room
  unfolding write_of
  is_cut z h e = rw (form z, le-ltb order_limit (length order) h, ← capacity z, e)
