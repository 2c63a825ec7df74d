-- Two results that the writer's contract allows are equal; and what it leaves in the room, a fresh card takes.
use Prim.Native.Nat.{ℕ, ◌+◌, ◌*◌, ◌≤◌}
use mathlib.Core.Path.{◌≡◌, refl, ap, sym, ◌∙◌, subst}
use mathlib.Core.Bool.{true}
use mathlib.Core.List.{List, [], ◌∷◌, ◌++◌}
use native.Mathlib.Omega.{arith}
use lib.Seq.{take_at}
use lib.ListN.{length, take, drop, length-append}
use Rattle.lists.specs.Joined.{joined}
use Rattle.lists.specs.Over.{overwrite, over_zero}
use Rattle.model.specs.declared.Written.{Written}
use Rattle.model.specs.Stored.{record_size, data_room, area_size, chip_of}
use Rattle.model.specs.Session.{fresh_of, run_of}
use Rattle.model.specs.Order.{complete, cut_of, stored, stored_all, records_for, Writing, write_of}
use Rattle.theorem_cutting.specs.Packs as packs
use Rattle.theorem_cutting.specs.Job.{Front, Taken, Accepted}
use Rattle.theorem_cutting.proofs.Packing.{joined_append}
use Rattle.theorem_cutting.proofs.Commands.{cut_sized}
use Rattle.theorem_cutting.proofs.Stored.{record_length}
use Rattle.theorem_cutting.proofs.Writes.{write_only, write_all, write_taken}
use Rattle.order_complete.specs.Writes.{Writes, session_in}

told_one : (n n' k k' : ℕ) → n ≡ n' → k ≡ k' → ◌≡◌ {A = Written} (record { number = n; count = k })
    (record { number = n'; count = k' })
told_one n n' k k' p q = rw (p, q)

-- number, count and room are determined
pub writes_one : (w : Writing) (before after after' : List ℕ) (r r' : Written) → Writes w before r after
    → Writes w before r' after' → (r ≡ r') × (after ≡ after')
writes_one w before after after' r r' x y = (
  told_one r.number r'.number r.count r'.count (x.number ∙ sym y.number)
      (x.count ∙ sym y.count),
  x.room ∙ sym y.room,
)

-- records are of 260 bytes each
one_length : (p1 : ℕ) (d : List ℕ) (rs : List (List ℕ)) → length d ≤ data_room
    → length (joined rs) ≡ length rs * record_size
    → length (joined (stored p1 d ∷ rs)) ≡ length (stored p1 d ∷ rs) * record_size
unfolding joined
one_length p1 d rs h e =
    let s : length (stored p1 d) ≡ record_size = record_length (record { kind = 2; p1 = p1; bytes = d }) h in
    rw (length-append (stored p1 d) (joined rs)) (omega arith)

all_length : (cs : List (List ℕ)) → packs.Sized 1 data_room cs
    → length (joined (stored_all cs)) ≡ length (stored_all cs) * record_size
unfolding stored_all joined
all_length [] s = refl
all_length (d ∷ []) (packs.more l h s) = one_length 0x80 d [] h refl
all_length (d ∷ e ∷ ds) (packs.more l h s) = one_length 0x00 d (stored_all (e ∷ ds)) h (all_length (e ∷ ds) s)

pub records_length : (capacity : ℕ) (order : List ℕ) → complete capacity order ≡ true
    → length (joined (records_for order)) ≡ length (records_for order) * record_size
unfolding records_for
records_length capacity order e =
    one_length 0x01 (0x94 ∷ 0x84 ∷ 0x00 ∷ []) (stored_all (cut_of order)) (omega arith)
    (all_length (cut_of order) (cut_sized capacity order e))

-- the records' session, read from the front of the room where they were laid
session_front : (front rs : List (List ℕ)) (before after : List ℕ) (k : ℕ) → k ≡ length rs
    → length (joined rs) ≡ length rs * record_size
    → length (joined rs) ≤ length before → after ≡ overwrite before 0 (joined rs)
    → joined (front ++ rs) ≡ session_in front k after
unfolding session_in
session_front front rs before after k e n h f =
    let t : take (k * record_size) after ≡ joined rs =
    rw (f, over_zero (joined rs) before h) (take_at (joined rs) (drop (length (joined rs)) before) (k * record_size)
    (rw e n)) in
    rw (t, joined_append front rs)

-- where the writer says 0, a fresh card of that chip record takes any front and what it left in the room: each word
-- is '9000', and the card ends '07' and 'A5'
pub written_taken : {name : List ℕ} {front : List (List ℕ)} → Front name front
    → (chip a order before after : List ℕ) (r : Written) (wordRoom : ℕ)
    → Writes (write_of chip order (length before)) before r after → r.number ≡ 0 → length a ≡ area_size
    → length front + r.count ≤ wordRoom
    → Taken (length front + r.count) (run_of (fresh_of chip).card a wordRoom (session_in front r.count after))
written_taken {front} g chip a order before after r wordRoom x e la l =
    subst (λ (b : List ℕ). Taken (length front + r.count) (run_of (fresh_of chip).card a wordRoom b))
    (session_front front rs before after r.count x.count n m x.room)
    (subst (λ (k : ℕ). Taken k (run_of (fresh_of chip).card a wordRoom (joined (front ++ rs)))) j
    (write_taken g chip a order (length before) wordRoom (sym x.number ∙ e) la (rw j l)))
  where
    rs : List (List ℕ)
    rs = (write_of chip order (length before)).records

    h : Accepted chip order (length before)
    h = write_only chip order (length before) (sym x.number ∙ e)

    w : rs ≡ records_for order
    w = ap (λ (y : Writing). y.records) (write_all chip order (length before) h)

    n : length (joined rs) ≡ length rs * record_size
    n = rw w (records_length (chip_of chip).capacity order h.complete_so)

    m : length (joined rs) ≤ length before
    m = rw (n, w) h.room_so

    j : length (front ++ rs) ≡ length front + r.count
    j = rw (length-append front rs, x.count)
