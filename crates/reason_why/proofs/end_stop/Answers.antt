-- `reason_why::end_stop`: each of the three ways puts its own form of `pending` into `open_stop`.
use mathlib.Core.Path.{ap, sym}
use Rattle.model.specs.declared.Open.{Open}
use Rattle.reason_why.specs.Reasons.{open_stop}
use Rattle.reason_why.proofs.end_stop.Goals as goal

pub returns-in-Shut : goal.returns-in-Shut
returns-in-Shut c =
    let s = c.args in
    λ a. sym (ap (λ (o : Open). open_stop o s.size s.place s.l.running.rows) c.in-Shut.is)

pub returns-in-Table : goal.returns-in-Table
returns-in-Table c =
    let s = c.args in
    λ a. sym (ap (λ (o : Open). open_stop o s.size s.place s.l.running.rows) c.in-Table.is)

pub returns-in-Record : goal.returns-in-Record
returns-in-Record c =
    let s = c.args in
    λ a. sym (ap (λ (o : Open). open_stop o s.size s.place s.l.running.rows)
    c.in-Record.is)
