-- What the writer left behind the first two records, and these laid before it, are the session.
use Prim.Native.Nat.{ℕ, ◌+◌, ◌*◌, ◌-◌, ◌≤◌, min}
use mathlib.Core.Path.{◌≡◌, refl, ap, sym, ◌∙◌}
use mathlib.Core.Bool.{not}
use mathlib.Core.List.{List, [], ◌++◌, append_assoc}
use native.Mathlib.Omega.{arith}
use lib.Dec.{ltb}
use lib.ListN.{length, take, drop, length-take, length-drop, length-append}
use lib.Seq.{drop-drop, drop_at, length-take-le}
use borrow.Author.Tests.{eq-eqb, ne_eqb}
use Rattle.lists.specs.Joined.{joined}
use Rattle.lists.specs.Choice.{by_cond}
use Rattle.lists.specs.Over.{overwrite, over_none, over_mid, over_part, over_zero, length_over}
use Rattle.model.specs.declared.Written.{Written}
use Rattle.model.specs.Stored.{chip_of, chip_form, record_size}
use Rattle.model.specs.Order.{order_limit, complete, records_for, Writing, write_of}
use Rattle.theorem_cutting.specs.Job.{install_event, select_event, install_record, select_record, job_with, session_of}
use Rattle.theorem_cutting.specs.Job.{Accepted}
use Rattle.theorem_cutting.proofs.Stored.{record_length}
use Rattle.theorem_cutting.proofs.Commands.{records_few}
use Rattle.theorem_cutting.proofs.Writes.{write_only, write_all}
use Rattle.order_complete.specs.Writes.{Writes}
use Rattle.order_writer.proofs.Returns.{records_length}
use Rattle.job_session.specs.Laid.{front_size, session_writing, session_bytes, Lays}

pub install_length : length install_record ≡ record_size
unfolding install_record
install_length = record_length install_event (omega arith)

pub select_length : length select_record ≡ record_size
unfolding select_record
select_length = record_length select_event (omega arith)

front_length : length (install_record ++ select_record) ≡ front_size
front_length = rw (length-append install_record select_record, install_length, select_length)

-- a refusal has no records
abbrev None : Writing → Type 0
None w = (w.number ≡ 0 → ⊥) → w.records ≡ []

refused_none : (chip order : List ℕ) (room : ℕ) → None (write_of chip order room)
unfolding write_of
refused_none chip order room =
    by_cond None (not (chip_form chip)) (λ e n. refl)
    (λ e. by_cond None (ltb order_limit (length order)) (λ f n. refl)
    (λ f. by_cond None (not (complete (chip_of chip).capacity order)) (λ g n. refl)
    (λ g. by_cond None (ltb room (length (records_for order) * record_size)) (λ h n. refl)
    (λ h n. absurd (n refl)))))

session_joined : (rs : List (List ℕ)) → session_of rs ≡ (install_record ++ select_record) ++ joined rs
unfolding job_with joined
session_joined rs = rw append_assoc

abbrev writing : List ℕ → List ℕ → List ℕ → Writing
writing chip order room = session_writing chip order (length room)

-- the room as it comes back from the writer, to which a part of it was lent
abbrev pub back : ℕ → List ℕ → List ℕ → List ℕ
back f room p = take f room ++ (p ++ drop (length room - f) (drop f room))

-- what lies behind the first two records, whatever was laid over these
pub behind_front : (x y room : List ℕ) (f : ℕ) → length x ≡ f → length y ≤ length room - f → f ≤ length room
    → overwrite (overwrite room f y) 0 x ≡ overwrite room 0 (x ++ y)
behind_front x y room f e h g =
    let d : drop f (overwrite room f y) ≡ y ++ drop (f + length y) room =
    rw (
      over_part room y f,
      drop_at (take f room) (overwrite (drop f room) 0 y) f (length-take-le f room g),
      over_zero y (drop f room) (rw length-drop h),
      drop-drop (length y) f room,
    ) in
    over_zero x (overwrite room f y) (rw length_over (omega arith))
    ∙ rw (e, d, ← append_assoc)
    (sym (over_zero (x ++ y) room (rw length-append (omega arith)) ∙ rw (length-append, e)))

module _ (chip order room : List ℕ) (f : ℕ) (e : f ≡ min front_size (length room)) (r : Written) (p : List ℕ)
    (wrote : Writes (write_of chip order (length (take (length room - f) (drop f room))))
    (take (length room - f) (drop f room)) r p) where
  wrote_so : Writes (writing chip order room) (take (length room - f) (drop f room)) r p
  wrote_so = rw behind_length at wrote
    where
      behind_length : length (take (length room - f) (drop f room)) ≡ length room - front_size
      behind_length = simp (length-take, length-drop) (omega arith)

  back_laid : length (joined (writing chip order room).records) ≤ length room - f
      → back f room p ≡ overwrite room f (joined (writing chip order room).records)
  back_laid h =
      ap (λ (x : List ℕ). back f room x) wrote_so.room
      ∙ over_mid room (joined (writing chip order room).records) f (length room - f) h (omega arith)

  pub refused : (r.number ≡ 0 → ⊥) → Lays (writing chip order room) room r (back f room p)
  unfolding session_bytes joined
  refused n =
      let m : (writing chip order room).number ≡ 0 → ⊥ = λ z. n (wrote_so.number ∙ z) in
      let s : (writing chip order room).records ≡ [] = refused_none chip order (length room - front_size) m in
      let l : length (joined (writing chip order room).records) ≤ length room - f = rw s (omega arith) in
      record {
        number = wrote_so.number;
        count = wrote_so.count;
        room = back_laid l ∙ rw (s, ne_eqb (writing chip order room).number 0 m, over_none room f, over_none room 0);
      }

  pub refused_none_written : (r.number ≡ 0 → ⊥) → r.count ≤ 45
  refused_none_written n =
      let s : (writing chip order room).records ≡ [] =
      refused_none chip order (length room - front_size) (λ z. n (wrote_so.number ∙ z)) in
      rw (wrote_so.count, s) (omega arith)

  module _ (z : r.number ≡ 0) where
    accepted : Accepted chip order (length room - front_size)
    accepted = write_only chip order (length room - front_size) (sym wrote_so.number ∙ z)

    records_so : (writing chip order room).records ≡ records_for order
    records_so = ap (λ (x : Writing). x.records) (write_all chip order (length room - front_size) accepted)

    joined_fits : length (joined (writing chip order room).records) ≤ length room - front_size
    joined_fits =
        let n : length (joined (records_for order)) ≡ length (records_for order) * record_size =
        records_length (chip_of chip).capacity order accepted.complete_so in
        rw (records_so, n) accepted.room_so

    pub passed_few : r.count ≤ 45
    passed_few = rw (wrote_so.count, records_so) (records_few (chip_of chip).capacity order accepted.complete_so
        accepted.short)

    room_fits : front_size ≤ length room
    unfolding records_for
    room_fits = let h = accepted.room_so in omega arith

    pub front_fits : front_size ≤ length (back f room p)
    front_fits = let j = joined_fits in let g = room_fits in rw (back_laid (omega arith), length_over) g

    pub passed : (after : List ℕ) → after ≡ overwrite (back f room p) 0 (install_record ++ select_record)
        → Lays (writing chip order room) room r after
    unfolding session_bytes
    passed after l =
        let j = joined_fits in
        let g = room_fits in
        let n : length (install_record ++ select_record) ≡ f = front_length ∙ omega arith in
        let y = joined (writing chip order room).records in
        let k : length y ≤ length room - f = omega arith in
        let o : (writing chip order room).number ≡ 0 = sym wrote_so.number ∙ z in
        record {
          number = wrote_so.number;
          count = wrote_so.count;
          room =
              l ∙ ap (λ (x : List ℕ). overwrite x 0 (install_record ++ select_record)) (back_laid k)
              ∙ behind_front (install_record ++ select_record) y room f n k (omega arith)
              ∙ rw (eq-eqb (writing chip order room).number 0 o, session_joined (writing chip order room).records);
        }

-- a session that is laid: its length, the room that it had, and that it is short
module _ (chip order : List ℕ) (room : ℕ) (z : (session_writing chip order room).number ≡ 0) where
  writes : Accepted chip order (room - front_size)
  writes = write_only chip order (room - front_size) z

  written_records : (session_writing chip order room).records ≡ records_for order
  written_records = ap (λ (x : Writing). x.records) (write_all chip order (room - front_size) writes)

  pub session_length : length (session_of (session_writing chip order room).records)
      ≡ (2 + length (session_writing chip order room).records) * record_size
  session_length =
      let n : length (joined (records_for order)) ≡ length (records_for order) * record_size =
      records_length (chip_of chip).capacity order writes.complete_so in
      rw (
        written_records,
        session_joined (records_for order),
        length-append (install_record ++ select_record) (joined (records_for order)),
        front_length,
        n,
      ) (omega arith)

  pub session_fits : (2 + length (session_writing chip order room).records) * record_size ≤ room
  unfolding records_for
  session_fits = let h = writes.room_so in rw written_records (omega arith)

  pub session_few : 2 + length (session_writing chip order room).records ≤ 47
  session_few = let f = records_few (chip_of chip).capacity order writes.complete_so writes.short in
      rw written_records (omega arith)
