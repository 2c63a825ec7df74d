-- `table_rules::admits`: the two variants of `admit`'s verdict are the two cases of `passed`.
use Rattle.table_rules.proofs.admits.Goals as goal

pub returns-in-Passes : goal.returns-in-Passes
returns-in-Passes c = rw (← c.admit-v.ensures, c.in-Passes.is)

pub returns-in-Refuses : goal.returns-in-Refuses
returns-in-Refuses c = rw (← c.admit-v.ensures, c.in-Refuses.is)
