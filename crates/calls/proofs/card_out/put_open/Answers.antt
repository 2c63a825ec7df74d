-- `calls::put_open`: the three cases of `open_bytes`.
use Rattle.std.proofs.Common.{sym, ap}
use Rattle.calls.specs.Stores.{open_bytes}
use Rattle.calls.proofs.Runs.{puts_as}
use Rattle.calls.proofs.card_out.put_open.Goals as goal

pub returns-in-Shut : goal.returns-in-Shut
returns-in-Shut c = puts_as c.put_span.ensures (ap open_bytes (sym c.in-Shut.is))

pub returns-in-Table : goal.returns-in-Table
returns-in-Table c = puts_as c.put_span-in-Table.ensures (ap open_bytes (sym c.in-Table.is))

pub returns-in-Record : goal.returns-in-Record
returns-in-Record c = puts_as c.put_span-in-Record.ensures (ap open_bytes (sym c.in-Record.is))
