-- `header::header_at`: a law for each return: `torn_short` for the first two, then `short_form`, `torn_long`,
-- `long_ffff` and `long_form_lem`, which read the header by its place in the whole slice.
use mathlib.Core.Path.{sym}
use native.Mathlib.Omega.{arith}
use Rattle.header.proofs.Places.{torn_short, short_form, torn_long, long_ffff, long_form_lem}
use Rattle.header.proofs.header_at.Goals as goal

pub returns-then-s-at : goal.returns-then-s-at
returns-then-s-at c =
    let a = c.args in
    sym (torn_short a.s.now a.at (omega arith))

pub returns-then-left-lt-SHORT_SIZE : goal.returns-then-left-lt-SHORT_SIZE
returns-then-left-lt-SHORT_SIZE c =
    let a = c.args in
    sym (torn_short a.s.now a.at (omega arith))

pub returns-then-short-ne255 : goal.returns-then-short-ne255
returns-then-short-ne255 c =
    let a = c.args in
    let w = c.wide-short.ensures.0 in
    rw (c.word_at-tag.ensures, w)
    (sym (short_form a.s.now a.at (omega arith) (rw w at c.if-short-ne255.true)))

pub returns-then-left-lt-LONG_SIZE : goal.returns-then-left-lt-LONG_SIZE
returns-then-left-lt-LONG_SIZE c =
    let a = c.args in
    let w = c.wide-short.ensures.0 in
    sym (torn_long a.s.now a.at (omega arith) (rw w at c.if-short-ne255.false) (omega arith))

pub returns-then-long : goal.returns-then-long
returns-then-long c =
    let if3 = c.if-short-ne255 in
    let wide = c.wide-short in
    let a = c.args in
    let w = wide.ensures.0 in
    sym (long_ffff a.s.now a.at (omega arith) (rw w at if3.false)
    (rw c.word_at-long.ensures at c.if-long.true))

pub returns : goal.returns
returns c =
    let if3 = c.if-short-ne255 in
    let wide = c.wide-short in
    let word_at = c.word_at-tag in
    let a = c.args in
    let w = wide.ensures.0 in
    let l = c.word_at-long.ensures in
    rw (word_at.ensures, l)
    (sym (long_form_lem a.s.now a.at (omega arith) (rw w at if3.false) (rw l at c.if-long.false)))
