-- The search for the first missing row, turn by turn; a descriptor's bytes in an array.
use Prim.Native.Nat.{ℕ, suc, ◌+◌, ◌-◌, ◌*◌, ◌≤◌, ◌<◌}
use mathlib.Core.Path.{◌≡◌, refl, ap, ◌∙◌}
use mathlib.Core.Bool.{Bool, true, false, cond}
use mathlib.Core.List.{List}
use native.Mathlib.Omega.{arith}
use native.Mathlib.Nat.{add-zero}
use lib.Dec.{eqb}
use lib.ListN.{length, take, drop, get_or, length-take, length-drop}
use lib.Seq.{take_all, get_or-drop}
use borrow.Author.Tests.{lt-ltb, le-ltb, le-leb, lt-leb}
use Rattle.lists.specs.Bytes.{zeros, part, word, word_at, padded_full}
use Rattle.lists.specs.Over.{overwrite, over_padded}
use Rattle.model.specs.Rows.{row_table, row_at, missing_from}
use Rattle.model.specs.Rules.{tag_spot, room_in, room_of, length_ok}
use Rattle.walk_course.specs.Lengths.{fits_row}
use Rattle.model.specs.declared.Descriptor.{Descriptor}
use Rattle.model.specs.declared.Head.{Head}
use Rattle.model.specs.declared.Row.{Row}
use Rattle.model.specs.declared.Spot.{Spot}
use Rattle.model.specs.declared.Spot.TheVariants.{At}
use Rattle.model.specs.declared.Verdict.TheVariants.{Passes}
use Rattle.rule_all.specs.Rooms.{room_spot}
use Rattle.table_flaws.specs.declared.Flaw.{Flaw}
use Rattle.reason_stops.specs.declared.Cause.TheVariants as cause
use Rattle.reason_stops.specs.Stops.{missing_row, flaw_at, stop_as, torn_stop, table_stop, value_stop, length_stop}

module _ (rows n : ℕ) (h : n ≤ 11) where
  turn : missing_row (12 - n) rows n ≡ cond (missing_from rows 1 (take n row_table)) n
      (missing_row (12 - (n + 1)) rows (n + 1))
  unfolding missing_row
  turn = let e : 12 - n ≡ suc (12 - (n + 1)) = omega arith in rw e

  pub row_found : missing_from rows 1 (take n row_table) ≡ true → missing_row (12 - n) rows n ≡ n
  row_found e = turn ∙ rw e

  pub row_next : missing_from rows 1 (take n row_table) ≡ false
      → missing_row (12 - n) rows n ≡ missing_row (12 - (n + 1)) rows (n + 1)
  row_next e = turn ∙ rw e

pub row_none : (rows n : ℕ) → 12 ≤ n → missing_row (12 - n) rows n ≡ n
unfolding missing_row
row_none rows n h = let e : 12 - n ≡ 0 = omega arith in rw e

-- a part of 18 bytes, whose length is told as a difference
pub part_laid : (bytes : List ℕ) (start n : ℕ) → n ≡ 18 → start + 18 ≤ length bytes
    → overwrite (zeros 18) 0 (part bytes start n) ≡ part bytes start 18
part_laid bytes start n e h =
    let m : length (part bytes start n) ≡ 18 = simp (length-take, length-drop) (omega arith) in
    over_padded 18 (part bytes start n) (omega arith) ∙ padded_full 18 (part bytes start n) m ∙ ap
    (λ (k : ℕ). part bytes start k) e

-- rule a, by how many bytes are left
module _ (w place at : ℕ) (d : List ℕ) where
  pub no_tag : length d - at < 2 → stop_as place 0 w (cause.HeaderTorn (length d - at)) ≡ torn_stop w place (drop at d)
  no_tag h = rw (length-drop at d, lt-ltb (length d - at) 2 h)

  module _ (tag : ℕ) (e : tag ≡ word_at (drop at d) 0) (g : 2 ≤ length d - at) where
    pub no_length : length d - at < 5 → stop_as place tag w (cause.HeaderTorn (length d - at))
        ≡ torn_stop w place (drop at d)
    no_length h = rw (length-drop at d, le-ltb (length d - at) 2 g, lt-ltb (length d - at) 5 h, e)

    pub all_there : 5 ≤ length d - at → stop_as place tag w cause.LengthFfff ≡ torn_stop w place (drop at d)
    all_there h = rw (length-drop at d, le-ltb (length d - at) 2 g, le-ltb (length d - at) 5 h, e)

pub tag_at : (d : List ℕ) (at : ℕ) → word (get_or d at 0) (get_or d (at + 1) 0) ≡ word_at (drop at d) 0
tag_at d at = rw (get_or-drop at d 0 0, get_or-drop at d 1 0, add-zero at)

-- rule h of '3100'
pub table_so : (files : List Descriptor) (count w : ℕ) (h : Head) (at : ℕ) (d : List ℕ) (flaw : Flaw)
    → flaw ≡ flaw_at files (take (length d - at) (drop at d)) (h.size + count * 18)
    → stop_as (at - 3 + (h.size + count * 18)) h.tag w (cause.Descriptor (count + 1) flaw)
    ≡ table_stop files count w h (at - 3) (drop at d)
unfolding table_stop
table_so files count w h at d flaw e = rw (e, take_all (length d - at) (drop at d) (rw length-drop (omega arith)))

-- rule e, of the place that was found
pub room_so : (files : List Descriptor) (row tag : ℕ) (spot room : Spot) → spot ≡ tag_spot files tag
    → room ≡ room_spot spot row
    → room_of files row tag ≡ room_in room
unfolding room_of
room_so files row tag spot room e f = rw (f, e) (go (eqb row 11))
  where
    go : (b : Bool) → cond b (room_in (tag_spot files tag)) (Passes (row_at row).most)
        ≡ room_in (cond b (tag_spot files tag) (At 0 (row_at row).most))
    go true = refl
    go false = refl

-- rules f and g, by the row's constants
module _ (files : List Descriptor) (count w row room : ℕ) (h : Head) (place at : ℕ) (d : List ℕ) (x : Row)
    (e : x ≡ row_at row) where
  fits_so : (b : Bool) → fits_row x room h.len ≡ b → length_ok row room h.len ≡ b
  fits_so b f = rw e at f

  spans_so : (b : Bool) → x.spans ≡ b → (row_at row).spans ≡ b
  spans_so b f = rw e at f

  pub value_spans : fits_row x room h.len ≡ true → x.spans ≡ true
      → length_stop files count w row room h place (drop at d) ≡ value_stop files count w row h place (drop at d)
  unfolding length_stop
  value_spans f g = rw (fits_so true f, spans_so true g)

  pub value_whole : fits_row x room h.len ≡ true → x.spans ≡ false → h.len ≤ length d - at - h.size
      → length_stop files count w row room h place (drop at d) ≡ value_stop files count w row h place (drop at d)
  unfolding length_stop
  value_whole f g l = rw (
    fits_so true f,
    spans_so false g,
    length-drop at d,
    le-leb h.len (length d - at - h.size) l,
  )

  pub value_short : fits_row x room h.len ≡ true → x.spans ≡ false → length d - at - h.size < h.len
      → length_stop files count w row room h place (drop at d)
      ≡ stop_as place h.tag w (cause.CutShort (h.len - (length d - at - h.size)))
  unfolding length_stop
  value_short f g l = rw (
    fits_so true f,
    spans_so false g,
    length-drop at d,
    lt-leb h.len (length d - at - h.size) l,
  )

  pub value_wrong : fits_row x room h.len ≡ false
      → length_stop files count w row room h place (drop at d) ≡ stop_as place h.tag w (cause.Length h.len room)
  unfolding length_stop
  value_wrong f = rw (fits_so false f)
