-- `register_whole::reads`: the first i characters agree, so the whole is the same if what is behind them is;
-- `read_step` adds one, `read_stop` finds one that differs, `read_end` has none left.
use mathlib.Core.Path.{sym, ◌∙◌}
use Rattle.register_whole.proofs.Places.{read_step, read_stop, read_end}
use borrow.Author.Rules.{rules}
use Rattle.register_whole.proofs.reads.Goals as goal

pub returns-then-s-at : goal.returns-then-s-at
returns-then-s-at c =
    let loop = c.loop-i in
    let args = c.args in
    sym (loop.invariant.1 ∙ read_stop args.s.now args.text.now args.at c.requires loop.i
    (search rules) c.if-s-at.true)

pub loop-i-preserved : goal.loop-i-preserved
loop-i-preserved c =
    let loop = c.loop-i in
    let s = c.args.s.now in
    let text = c.args.text.now in (
      search rules,
      loop.invariant.1 ∙ read_step s text c.args.at c.requires loop.i (search rules)
          c.if-s-at.false,
    )

pub returns : goal.returns
returns c =
    let loop = c.loop-i in
    let args = c.args in
    sym (loop.invariant.1 ∙ read_end args.s.now args.text.now args.at c.requires loop.i
    c.loop-i-test.false)
