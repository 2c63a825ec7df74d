-- `answers::lay_answer`: a return for each answer of `answer_to`, by the tag; the reference has 4 bytes, so that
-- the challenge at 4 stands right behind it (`reference_laid`).
use mathlib.Core.Path.{◌≡◌, refl, sym}
use native.Mathlib.Omega.{arith}
use lib.ListN.{length, length-append}
use borrow.Author.Rules.{rules}
use Rattle.answers.proofs.Asked.{asks_reference, asks_traceability, asks_states, reference_laid}
use Rattle.answers.proofs.lay_answer.Goals.{Start}
use Rattle.answers.proofs.lay_answer.Goals as goal

-- the chip's arrays have their lengths
reference-long : (s : Start) → length s.args.c.chip.reference ≡ 4
reference-long s = search rules

challenge-long : (s : Start) → length s.args.c.chip.challenge ≡ 16
challenge-long s = search rules

traceability-long : (s : Start) → length s.args.c.chip.traceability ≡ 16
traceability-long s = search rules

pub put_bytes-requires : goal.put_bytes-requires
put_bytes-requires c = omega (arith, reference-long (goal.at.put_bytes-requires c).Start)

pub put_bytes-requires-then-tag-eq38020 : goal.put_bytes-requires-then-tag-eq38020
put_bytes-requires-then-tag-eq38020 c =
    let first = c in
    omega (arith, challenge-long (goal.at.put_bytes-requires-then-tag-eq38020 c).Start)

pub returns-then-tag-eq38020 : goal.returns-then-tag-eq38020
returns-then-tag-eq38020 c =
    let second = c in
    let first = second in
    let tested = first in
    let s = tested in
    rw (asks_reference s.args.c s.args.tag tested.if-tag-eq38020.true) (
      rw length-append (omega (arith, reference-long (goal.at.returns-then-tag-eq38020 c).Start, challenge-long (goal.at.returns-then-tag-eq38020 c).Start)),
      reference_laid s.args.answer.now _ _ (reference-long (goal.at.returns-then-tag-eq38020 c).Start) first.put_bytes.ensures
          second.put_bytes-then-tag-eq38020.ensures,
    )

pub put_bytes-requires-then-tag-eq33157 : goal.put_bytes-requires-then-tag-eq33157
put_bytes-requires-then-tag-eq33157 c =
    omega (arith, traceability-long (goal.at.put_bytes-requires-then-tag-eq33157 c).Start)

pub returns-then-tag-eq33157 : goal.returns-then-tag-eq33157
returns-then-tag-eq33157 c =
    let laid = c in
    let second = laid in
    let first = second in
    let s = first in
    rw (asks_traceability s.args.c s.args.tag first.if-tag-eq38020.false second.if-tag-eq33157.true)
    (sym (traceability-long (goal.at.returns-then-tag-eq33157 c).Start), laid.put_bytes-then-tag-eq33157.ensures)

pub returns : goal.returns
returns c =
    let tested = c in
    let s = tested in
    rw (asks_states s.args.c s.args.tag tested.if-tag-eq38020.false tested.if-tag-eq33157.false)
    (refl, c.put_bytes-2.ensures)
