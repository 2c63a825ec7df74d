-- `table_rules::data_ref_ok`: the returns are the cases of `data_ref_ok`; only `counter_among` is a call.
use Rattle.lists.specs.Choice.{cases}
use Rattle.table_rules.proofs.data_ref_ok.Goals as goal

pub returns-then-d-eq-SIMULATED : goal.returns-then-d-eq-SIMULATED
returns-then-d-eq-SIMULATED c = rw c.counter_among.ensures (search cases)
