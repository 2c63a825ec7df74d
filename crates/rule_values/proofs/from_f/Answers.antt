-- `rule_values::from_f`: one law for each return: the length is refused, the value spans, is whole, or is cut.
-- A length that passes is at most the room, so it lies within the file area (`length_most`).
use Prim.Native.Nat.{◌-◌}
use mathlib.Core.Path.{◌≡◌, sym}
use native.Mathlib.Omega.{arith}
use lib.ListN.{length, drop, length-drop}
use mathlib.Core.Bool.{true, false}
use lib.Seq.{drop-drop}
use borrow.Author.Tests.{le-leb, lt-leb}
use Rattle.model.specs.Rules.{length_ok}
use Rattle.walk_course.specs.Steps.{on}
use Rattle.walk_course.proofs.Chains.{f_refuses, f_spans, f_whole, f_cut}
use Rattle.rule_values.proofs.Sizes.{row_steps, sized_of}
use Rattle.model.proofs.Laws.{length_most}
use Rattle.rule_values.proofs.from_f.Goals as goal

pub fits_row-requires : goal.fits_row-requires
fits_row-requires c =
    rw c.row_at-x.ensures (row_steps c.args.row
    c.requires.0 c.requires.1)

pub spanned_at-requires : goal.spanned_at-requires
spanned_at-requires c =
    let s = c in
    let r = c.row_at-x.ensures in
    let k : length_ok s.args.row s.args.room s.args.h.len ≡ true =
    rw (← r, ← c.fits_row.ensures) c.if-fits_row.true in (
      s.requires.0,
      s.requires.1,
      rw (← r) c.if-x.true,
      omega (arith, length_most s.args.row s.args.room s.args.h.len k),
      s.requires.5,
    )

pub returns-then-x : goal.returns-then-x
returns-then-x c =
    let s = c in
    let r = c.row_at-x.ensures in
    let k : length_ok s.args.row s.args.room s.args.h.len ≡ true =
    rw (← r, ← c.fits_row.ensures) c.if-fits_row.true in
    λ l a q. rw (
      f_spans s.args.capacity s.args.row s.args.room s.args.h
          (drop s.args.at s.args.d.now) (on s.args.p l a) k (rw (← r) c.if-x.true),
      drop-drop s.args.h.size s.args.at s.args.d.now,
    )
    (c.spanned_at.ensures s.args.capacity s.args.at s.args.room l a (omega arith) k q)

pub whole_at-requires : goal.whole_at-requires
whole_at-requires c =
    let s = c in
    let r = c.row_at-x.ensures in
    let k : length_ok s.args.row s.args.room s.args.h.len ≡ true =
    rw (← r, ← c.fits_row.ensures) c.if-fits_row.true in (
      sized_of s.args.room s.args.h.len s.args.row s.requires.0 s.requires.1
          (rw (← r) c.if-x.false) s.requires.3 k,
      s.requires.0,
      omega arith,
    )

pub returns-then-h-d : goal.returns-then-h-d
returns-then-h-d c =
    let s = c in
    let r = c.row_at-x.ensures in
    let k : length_ok s.args.row s.args.room s.args.h.len ≡ true =
    rw (← r, ← c.fits_row.ensures)
    c.if-fits_row.true in
    λ l a q. rw (
      f_whole s.args.capacity s.args.row s.args.room s.args.h (drop s.args.at s.args.d.now)
          (on s.args.p l a) k (rw (← r) c.if-x.false)
          (rw length-drop (le-leb s.args.h.len (length s.args.d.now - s.args.at - s.args.h.size)
          (omega arith))),
      drop-drop s.args.h.size s.args.at s.args.d.now,
    )
    (c.whole_at.ensures s.args.at l a (omega arith))

pub returns-then-fits_row : goal.returns-then-fits_row
returns-then-fits_row c =
    let s = c in
    let r = c.row_at-x.ensures in
    let k : length_ok s.args.row s.args.room s.args.h.len ≡ true =
    rw (← r, ← c.fits_row.ensures)
    c.if-fits_row.true in
    λ l a q. rw c.failed_by.ensures (record {
      comes = sym (f_cut s.args.capacity s.args.row s.args.room s.args.h
          (drop s.args.at s.args.d.now) (on s.args.p l a) k
          (rw (← r) c.if-x.false)
          (rw length-drop (lt-leb s.args.h.len (length s.args.d.now - s.args.at - s.args.h.size)
          (omega arith))));
      ahead = tt;
    })

pub returns : goal.returns
returns c =
    let s = c in
    let r = c.row_at-x.ensures in
    let k : length_ok s.args.row s.args.room s.args.h.len ≡ false =
    rw (← r, ← c.fits_row.ensures) c.if-fits_row.false in
    λ l a q. rw c.failed_by-2.ensures
    (record {
      comes = sym (f_refuses s.args.capacity s.args.row s.args.room s.args.h
          (drop s.args.at s.args.d.now) (on s.args.p l a) k);
      ahead = tt;
    })
