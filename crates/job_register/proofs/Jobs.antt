-- A job's numbers, and its register.
use Prim.Native.Nat.{ℕ, ◌+◌, ◌*◌, ◌≤◌}
use mathlib.Core.Path.{◌≡◌, ap, sym, ◌∙◌}
use mathlib.Core.List.{List, [], ◌++◌}
use native.Mathlib.Omega.{arith}
use lib.Dec.{ltb}
use lib.ListN.{length, take, drop, take-append-drop}
use lib.Seq.{take_at, length-take-le}
use borrow.Author.Tests.{eq-eqb, ne_eqb, ltb-false}
use Rattle.lists.specs.Choice.{by_cond}
use Rattle.lists.specs.Over.{overwrite, over_none, over_left, over_zero, length_over}
use Rattle.model.specs.declared.Written.{Written}
use Rattle.model.specs.Stored.{area_size, record_size}
use Rattle.model.specs.Session.{events_in}
use Rattle.model.specs.Order.{Writing}
use Rattle.theorem_cutting.specs.Job.{session_of}
use Rattle.job_session.specs.Laid.{session_writing, session_bytes, Lays}
use Rattle.job_session.proofs.Sessions.{session_length, session_fits, session_few}
use Rattle.job_register.specs.declared.Entry.{Entry}
use Rattle.job_register.specs.Jobs.{line_room, record_room, job_writing, events_of, register_of, refused_as, entry_of}
use Rattle.job_register.specs.Jobs.{text_of, area_of, Registers, Session, Plays, played_of}

-- a refusal leaves all lent memory as it was
refusal : (chip room area out : List ℕ) (w : Writing) (n : ℕ) → n ≡ w.number → (n ≡ 0 → ⊥)
    → Registers chip w room area out (refused_as n) room area out
unfolding entry_of text_of area_of session_bytes
refusal chip room area out w n e h =
    let m : w.number ≡ 0 → ⊥ = λ z. h (e ∙ z) in
    record {
      answers = rw (ne_eqb w.number 0 m, e);
      lays = rw (ne_eqb w.number 0 m, over_none room 0);
      keeps = rw (ne_eqb w.number 0 m);
      prints = rw (ne_eqb w.number 0 m, over_none out 0);
    }

-- the records have room only where the lines have
roomy : (records lines k : ℕ) → (2 + k) * record_size ≤ record_room records lines → line_room ≤ lines
roomy records lines k =
    by_cond (λ n. (2 + k) * record_size ≤ n → line_room ≤ lines) (ltb lines line_room) (λ e h. absurd (omega arith))
    (λ e h. ltb-false lines line_room e)

pub room_within : (records lines : ℕ) → record_room records lines ≤ records
room_within records lines = by_cond (λ n. n ≤ records) (ltb lines line_room) (λ e. omega arith) (λ e. omega arith)

module _ (chip order room area out : List ℕ) where
  -- number 1
  pub no_area : (length area ≡ area_size → ⊥)
      → Registers chip (job_writing chip order (length area) (length room) (length out)) room area out
      (refused_as 1) room area out
  unfolding job_writing
  no_area h = refusal chip room area out _ 1 (rw (ne_eqb (length area) area_size h)) (λ z. omega arith)

  module _ (full : length area ≡ area_size) (n : ℕ) (e : n ≡ record_room (length room) (length out)) (r : Written)
      (p : List ℕ)
      (laid : Lays (session_writing chip order (length (take n room))) (take n room) r p) where
    within : n ≤ length room
    within = rw e (room_within (length room) (length out))

    writing_so : job_writing chip order (length area) (length room) (length out) ≡ session_writing chip order n
    unfolding job_writing
    writing_so = rw (eq-eqb (length area) area_size full, e)

    laid_so : Lays (session_writing chip order n) (take n room) r p
    laid_so = rw (length-take-le n room within) at laid

    back_so : length (session_bytes (session_writing chip order n)) ≤ n
        → p ++ drop n room ≡ overwrite room 0 (session_bytes (session_writing chip order n))
    back_so h =
        let s = session_bytes (session_writing chip order n) in
        ap (λ (x : List ℕ). x ++ drop n room) laid_so.room
        ∙ sym (over_left s (take n room) (drop n room) 0 (rw (length-take-le n room within) (omega arith)))
        ∙ ap (λ (x : List ℕ). overwrite x 0 s) (take-append-drop n room)

    pub refused : (r.number ≡ 0 → ⊥)
        → Registers chip (job_writing chip order (length area) (length room) (length out)) room area out
        (refused_as r.number) (p ++ drop n room) area out
    unfolding session_bytes
    refused h =
        let m : (session_writing chip order n).number ≡ 0 → ⊥ = λ z. h (laid_so.number ∙ z) in
        let none : session_bytes (session_writing chip order n) ≡ [] =
        rw (ne_eqb (session_writing chip order n).number 0 m) in
        let back : p ++ drop n room ≡ room = back_so (rw none (omega arith)) ∙ rw (none, over_none room 0) in
        rw (back, writing_so) (refusal chip room area out (session_writing chip order n) r.number
        laid_so.number h)

    module _ (z : r.number ≡ 0) where
      number_so : (session_writing chip order n).number ≡ 0
      number_so = sym laid_so.number ∙ z

      pub few : r.count + 2 ≤ 47
      few = let k = session_few chip order n number_so in rw laid_so.count (omega arith)

      -- what the room holds is the session
      bytes_so : session_bytes (session_writing chip order n) ≡ session_of (session_writing chip order n).records
      unfolding session_bytes
      bytes_so = rw (eq-eqb (session_writing chip order n).number 0 number_so)

      sized : length (session_of (session_writing chip order n).records) ≡ (r.count + 2) * record_size
      sized = session_length chip order n number_so ∙ rw laid_so.count (omega arith)

      fits_so : (r.count + 2) * record_size ≤ n
      fits_so = let k = session_fits chip order n number_so in rw laid_so.count (omega arith)

      back : p ++ drop n room ≡ overwrite room 0 (session_of (session_writing chip order n).records)
      back = let k = fits_so in let l = sized in back_so (rw bytes_so (omega arith)) ∙ rw bytes_so

      pub fits : (r.count + 2) * record_size ≤ length (p ++ drop n room)
      fits = let k = fits_so in let l = within in rw (back, length_over) (omega arith)

      session_in_lem : take ((r.count + 2) * record_size) (p ++ drop n room)
          ≡ session_of (session_writing chip order n).records
      session_in_lem =
          let k = fits_so in
          let l = within in
          let m = sized in
          rw (back, over_zero (session_of (session_writing chip order n).records) room (omega arith))
          (take_at _ _ _ sized)

      events_so : events_in (session_of (session_writing chip order n).records) ≡ events_of (session_writing chip order n)
      events_so = let s = session_length chip order n number_so in omega arith

      pub playable : Session chip (take ((r.count + 2) * record_size) (p ++ drop n room)) (length area) (length out)
      playable =
          let k : (2 + r.count) * record_size ≤ record_room (length room) (length out) = let f =
          fits_so in omega arith in
          let l = roomy (length room) (length out) r.count k in
          let s = events_so in
          let f = few in
          let c = laid_so.count in
          record { full = full; room = rw session_in_lem (omega arith) }

      pub entered : (x : Entry) (area' out' : List ℕ)
          → Plays chip (take ((r.count + 2) * record_size) (p ++ drop n room)) out x area' out'
          → Registers chip (job_writing chip order (length area) (length room) (length out)) room area out x
          (p ++ drop n room) area' out'
      unfolding entry_of text_of area_of register_of played_of
      entered x area' out' y =
          let q : Plays chip (session_of (session_writing chip order n).records) out x area' out' =
          rw session_in_lem at y in
          rw writing_so
          (record {
            answers = q.answers ∙ rw (eq-eqb (session_writing chip order n).number 0 number_so, events_so);
            lays = back ∙ rw bytes_so;
            keeps = q.keeps ∙ rw (eq-eqb (session_writing chip order n).number 0 number_so, events_so);
            prints = q.prints ∙ rw (eq-eqb (session_writing chip order n).number 0 number_so, events_so);
          })

      pub entered_few : (x : Entry) (area' out' : List ℕ)
          → Plays chip (take ((r.count + 2) * record_size) (p ++ drop n room)) out x area' out' → x.events ≤ 47
      entered_few x area' out' y =
          let f = few in
          let e : x.events ≡ events_in (take ((r.count + 2) * record_size) (p ++ drop n room)) =
          ap (λ (z : Entry). z.events) y.answers in
          let s = events_so in
          let c = laid_so.count in
          rw (e, session_in_lem) (omega arith)
