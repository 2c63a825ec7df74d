-- What stands behind the chip record is the session, and the chip record laid before it makes the job.
use Prim.Native.Nat.{ℕ, ◌+◌, ◌*◌, ◌-◌, ◌≤◌, min}
use mathlib.Core.Path.{◌≡◌, ap, sym, ◌∙◌}
use mathlib.Core.Bool.{true}
use mathlib.Core.List.{List, [], ◌++◌}
use native.Mathlib.Omega.{arith}
use lib.ListN.{length, take, drop, length-take, length-drop, length-append}
use borrow.Author.Tests.{eq-eqb, ne_eqb, eqb-true}
use Rattle.lists.specs.Truth.{and_l}
use Rattle.lists.specs.Over.{overwrite, over_none, over_mid, length_over}
use Rattle.model.specs.declared.Written.{Written}
use Rattle.model.specs.Stored.{chip_size, chip_form, record_size}
use Rattle.model.specs.Order.{Writing}
use Rattle.theorem_cutting.specs.Job.{session_of}
use Rattle.theorem_cutting.proofs.Writes.{write_only}
use Rattle.job_session.specs.Laid.{front_size, session_writing, session_bytes, Lays, job_writing, job_bytes, LaysJob}
use Rattle.job_session.proofs.Sessions.{back, behind_front, session_length, session_fits}

chip_length : (chip : List ℕ) → chip_form chip ≡ true → length chip ≡ chip_size
unfolding chip_form
chip_length chip e = eqb-true (length chip) chip_size (and_l _ _ e)

module _ (chip order room : List ℕ) (f : ℕ) (e : f ≡ min chip_size (length room)) (r : Written) (p : List ℕ)
    (lays : Lays (session_writing chip order (length (take (length room - f) (drop f room))))
    (take (length room - f) (drop f room)) r p) where
  abbrev pub w : Writing
  w = job_writing chip order (length room)

  lays_so : Lays w (take (length room - f) (drop f room)) r p
  lays_so = rw behind_length at lays
    where
      behind_length : length (take (length room - f) (drop f room)) ≡ length room - chip_size
      behind_length = simp (length-take, length-drop) (omega arith)

  back_laid : length (session_bytes w) ≤ length room - f → back f room p ≡ overwrite room f (session_bytes w)
  back_laid h =
      ap (λ (x : List ℕ). back f room x) lays_so.room
      ∙ over_mid room (session_bytes w) f (length room - f) h (omega arith)

  pub job_refused : (r.number ≡ 0 → ⊥) → LaysJob chip w room (record { number = r.number; size = 0 }) (back f room p)
  unfolding session_bytes job_bytes
  job_refused n =
      let m : w.number ≡ 0 → ⊥ = λ z. n (lays_so.number ∙ z) in
      let s : session_bytes w ≡ [] = rw (ne_eqb w.number 0 m) in
      record {
        number = lays_so.number;
        size = rw (ne_eqb w.number 0 m);
        room = back_laid (rw s (omega arith)) ∙ rw (s, ne_eqb w.number 0 m, over_none room f, over_none room 0);
      }

  module _ (z : r.number ≡ 0) where
    told : w.number ≡ 0
    told = sym lays_so.number ∙ z

    session_so : session_bytes w ≡ session_of w.records
    unfolding session_bytes
    session_so = rw (eq-eqb w.number 0 told)

    job_so : job_bytes chip w ≡ chip ++ session_of w.records
    unfolding job_bytes
    job_so = rw (eq-eqb w.number 0 told)

    long : length (session_of w.records) ≡ (2 + r.count) * record_size
    long = session_length chip order (length room - chip_size) told ∙ rw lays_so.count

    fits : (2 + r.count) * record_size ≤ length room - chip_size
    fits = rw lays_so.count (session_fits chip order (length room - chip_size) told)

    pub chip_long : length chip ≡ chip_size
    chip_long = chip_length chip (write_only chip order (length room - chip_size - front_size) told).form

    pub chip_fits : length chip ≤ length (back f room p)
    chip_fits =
        rw (back_laid (rw (session_so, long) (omega (arith, fits))), length_over, chip_long) (omega (arith, fits))

    pub job_passed : (after : List ℕ) → after ≡ overwrite (back f room p) 0 chip
        → LaysJob chip w room (record { number = 0; size = chip_size + front_size + r.count * record_size }) after
        × (chip_size + front_size + r.count * record_size ≤ length after)
    job_passed after l =
        let g = fits in
        let j : length (session_bytes w) ≤ length room - f = rw (session_so, long) (omega arith) in
        let n : length chip ≡ f = chip_long ∙ omega arith in (
          record {
            number = sym told;
            size = rw (job_so, length-append chip (session_of w.records), chip_long, long) (omega arith);
            room = l ∙ ap (λ (x : List ℕ). overwrite x 0 chip) (back_laid j)
                ∙ behind_front chip (session_bytes w) room f n j (omega arith)
                ∙ rw (session_so, job_so);
          },
          rw (l, length_over, back_laid j, length_over) (omega arith),
        )
