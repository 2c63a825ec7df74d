-- What each of rules a to e leaves for those behind it.
use Prim.Native.Nat.{ℕ, ◌+◌, ◌≤◌}
use mathlib.Core.Path.{◌≡◌, refl, ap, sym, ◌∙◌, subst}
use mathlib.Core.Bool.{Bool, true, false, cond}
use mathlib.Core.List.{List}
use native.Mathlib.Omega.{arith}
use lib.Dec.{eqb}
use borrow.Author.Tests.{eq-eqb, ne_eqb, eqb-true, eqb-false}
use Rattle.model.specs.declared.Loading.{Loading}
use Rattle.model.specs.declared.Running.{Running}
use Rattle.model.specs.declared.Spot.{Spot}
use Rattle.model.specs.declared.Spot.TheVariants.{Nowhere, At}
use Rattle.model.specs.declared.Verdict.TheVariants.{Passes, Refuses}
use Rattle.model.specs.Stored.{area_size}
use Rattle.model.specs.Rows.{row_table, row_at, row_of, due}
use Rattle.model.specs.Loads.{file_list, running_in}
use Rattle.model.specs.Rules.{room_of, due_row}
use Rattle.model.specs.Command.{is_shut}
use Rattle.theorem_sound.proofs.Changes.{begun}
use Rattle.theorem_sound.proofs.Taking.{by_row}
use Rattle.theorem_sound.proofs.Groupings.{Closed, steady_closed, closed_steady}
use Rattle.walk_course.specs.Steps.{on, Within, Stands, Dued, Roomed}
use Rattle.rule_all.specs.Rooms.{room_spot}

-- c. the state becomes '5A', which is as sound
pub stands_personal : (p : Running) (spot : Spot) (tag : ℕ) (l : Loading) (a : List ℕ) → Stands p spot tag l a
    → Stands (running_in 0x5A p) spot tag l a
stands_personal p spot tag l a k =
    let y = steady_closed area_size (on p l a) k.steady (ap is_shut k.shut) in
    let z : Closed area_size (on (running_in 0x5A p) l a) =
    record { inside = begun y.inside; shut = k.shut; area = k.steady.area } in
    record { steady = closed_steady area_size (on (running_in 0x5A p) l a) z; shut = k.shut; place = k.place }

-- d. a row that is due is the tag's
due_its : (a b : Bool) (r n : ℕ) → cond a (Refuses 0x6A88) (cond b (Passes r) (Refuses 0x6985)) ≡ Passes n → n ≡ r
due_its true b r n e = cc
due_its false true r n e = cc
due_its false false r n e = cc

pub row_its : (rows last tag n : ℕ) → due_row rows last tag ≡ Passes n → n ≡ row_of tag
unfolding due_row
row_its rows last tag n e = due_its (eqb (row_of tag) 0) (due rows last (row_of tag) tag) (row_of tag) n e

-- e. the most of a row that is no record's lies within the file area
most_within : (r : ℕ) → 1 ≤ r → r ≤ 11 → (r ≡ 11 → ⊥) → (row_at r).most ≤ area_size
unfolding row_at row_table
most_within =
    by_row (λ (r : ℕ). (r ≡ 11 → ⊥) → (row_at r).most ≤ area_size) (λ n. omega arith) (λ n. omega arith)
    (λ n. omega arith) (λ n. omega arith)
    (λ n. omega arith) (λ n. omega arith) (λ n. omega arith) (λ n. omega arith) (λ n. omega arith) (λ n. omega arith)
    (λ n. absurd (n refl))

module _ (spot : Spot) (row base room : ℕ) (e : room_spot spot row ≡ At base room) where
  pub room_within : 1 ≤ row → row ≤ 11 → Within spot → base + room ≤ area_size
  room_within i j w = go (eqb row 11) refl
    where
      go : (b : Bool) → eqb row 11 ≡ b → base + room ≤ area_size
      go true q = let f : spot ≡ At base room = rw q at e in subst Within f w
      go false q =
          let f : At 0 (row_at row).most ≡ At base room = rw q at e in
          let z : 0 ≡ base = cc in
          let m : (row_at row).most ≡ room = cc in
          omega (arith, most_within row i j (eqb-false row 11 q))

  pub room_most : (row ≡ 11 → ⊥) → room ≡ (row_at row).most
  room_most n = let f : At 0 (row_at row).most ≡ At base room = rw (ne_eqb row 11 n) at e in cc

  pub roomed : (p : Running) (tag : ℕ) (l : Loading) (a : List ℕ) → Dued p spot tag row l a
      → Roomed p tag row base room l a
  unfolding room_of
  roomed p tag l a k = record {
    steady = k.stands.steady;
    shut = k.stands.shut;
    personal = k.personal;
    row_due = k.row_due;
    roomed = go (eqb row 11) refl;
    placed = λ q. sym (k.stands.place (sym k.its ∙ q)) ∙ its q;
  }
    where
      its : row ≡ 11 → spot ≡ At base room
      its q = rw (eq-eqb row 11 q) at e

      go : (b : Bool) → eqb row 11 ≡ b → room_of (file_list l) row tag ≡ Passes room
      go true q =
          let r : row ≡ 11 = eqb-true row 11 q in
          rw (q, ← k.stands.place (sym k.its ∙ r), its r)
      go false q = rw q (ap Passes (sym (room_most (eqb-false row 11 q))))

pub unplaced : (spot : Spot) (row : ℕ) (p : Running) (tag : ℕ) (l : Loading) (a : List ℕ)
    → room_spot spot row ≡ Nowhere → Dued p spot tag row l a
    → room_of (file_list l) row tag ≡ Refuses 0x6A88
unfolding room_of
unplaced spot row p tag l a e k = go (eqb row 11) refl
  where
    go : (b : Bool) → eqb row 11 ≡ b → room_of (file_list l) row tag ≡ Refuses 0x6A88
    go true q =
        let r : row ≡ 11 = eqb-true row 11 q in
        let f : spot ≡ Nowhere = rw q at e in
        rw (q, ← k.stands.place (sym k.its ∙ r), f)
    go false q = let f : At 0 (row_at row).most ≡ Nowhere = rw q at e in cc
