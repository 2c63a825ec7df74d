-- `life_names::same_bytes`: after i turns the whole lists are the same exactly where what is left of both is.
-- Lists of different lengths never are (`same_length`).
use mathlib.Core.Path.{sym, ◌∙◌}
use Rattle.lists.specs.Bytes.{same_step, same_stop, same_end, same_length}
use borrow.Author.Rules.{rules}
use Rattle.life_names.proofs.same_bytes.Goals as goal

pub returns-then-a-b : goal.returns-then-a-b
returns-then-a-b c = sym (same_length c.args.a.now c.args.b.now c.if-a-b.true)

pub returns-then-a-i : goal.returns-then-a-i
returns-then-a-i c =
    let loop = c.loop-i in
    let args = c.args in
    sym (loop.invariant.1 ∙ same_stop args.a.now args.b.now loop.i (search rules) (search rules)
    c.if-a-i.true)

pub loop-i-preserved : goal.loop-i-preserved
loop-i-preserved c =
    let loop = c.loop-i in
    let args = c.args in (
      search rules,
      loop.invariant.1 ∙ same_step args.a.now args.b.now loop.i (search rules) (search rules)
          c.if-a-i.false,
    )

pub returns : goal.returns
returns c = sym (c.loop-i.invariant.1 ∙ same_end _ _ _ c.if-a-b.false c.loop-i-test.false)
