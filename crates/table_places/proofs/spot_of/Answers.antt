-- `table_places::spot_of`: `spot_of` of all is `spot_from` of the files from i on, which begin at `base`; each file
-- has at most 65535 bytes, so `base` stays within i times that.
use Prim.Native.Nat.{◌≤◌}
use mathlib.Core.Path.{sym, ◌∙◌}
use native.Mathlib.Omega.{arith}
use lib.ListN.{length}
use borrow.Author.Rules.{rules}
use Rattle.table_fields.proofs.Laws.{spot_found, spot_more, spot_end}
use Rattle.model.specs.Table.{spot_of}
use borrow.Author.Tests.{eq-eqb, ne_eqb}
use Rattle.table_places.proofs.spot_of.Goals as goal

pub returns-then-sfi-eq0 : goal.returns-then-sfi-eq0
unfolding spot_of
returns-then-sfi-eq0 c = rw (eq-eqb c.args.sfi 0 (omega arith))

pub loop-i-init : goal.loop-i-init
unfolding spot_of
loop-i-init c = (omega arith, omega arith, rw (ne_eqb c.args.sfi 0 c.if-sfi-eq0.false))

pub returns-then-d-sfi : goal.returns-then-d-sfi
returns-then-d-sfi c =
    let l = c.loop-i in
    let a = c.args in
    let fits : a.count ≤ length a.files = search rules in
    spot_found a.files a.count fits l.i l.base a.sfi a.nn (omega arith) c.if-d-sfi.true
    c.spot_in.ensures l.invariant.2

pub loop-i-preserved : goal.loop-i-preserved
loop-i-preserved c =
    let l = c.loop-i in
    let a = c.args in
    let fits : a.count ≤ length a.files = search rules in (
      omega arith,
      omega arith,
      spot_more a.files a.count fits l.i l.base a.sfi a.nn c.size_of-base.result (omega arith)
          c.size_of-base.ensures.0 c.if-d-sfi.false l.invariant.2,
    )

pub returns : goal.returns
returns c =
    let l = c.loop-i in
    let a = c.args in
    let fits : a.count ≤ length a.files = search rules in
    sym (l.invariant.2 ∙ spot_end a.files a.count fits l.i l.base a.sfi a.nn c.loop-i-test.false)
