-- `register_whole::events_in`: one law for each return: too short, too many, torn, not loaded, another end;
-- `told` alone gives the number of lines.
use mathlib.Core.Path.{sym, ◌∙◌}
use native.Mathlib.Omega.{arith}
use borrow.Author.Rules.{rules}
use Rattle.register_whole.proofs.Counts.{too_short, too_many, torn, other_end, not_loaded, told}
use Rattle.register_whole.proofs.events_in.Goals as goal

pub returns-then-register-lt-LEAST_SIZE : goal.returns-then-register-lt-LEAST_SIZE
returns-then-register-lt-LEAST_SIZE c = too_short c.args.register.now (search rules)

pub returns-then-n-gt-MOST_EVENTS : goal.returns-then-n-gt-MOST_EVENTS
returns-then-n-gt-MOST_EVENTS c = too_many c.args.register.now (search rules) (search rules)

pub returns-then-register-n : goal.returns-then-register-n
returns-then-register-n c =
    torn c.args.register.now (search rules) (search rules)
    (λ e. omega (arith, c.if-register-n.true))

pub returns-then-last_loaded : goal.returns-then-last_loaded
returns-then-last_loaded c =
    told c.args.register.now (search rules) (search rules) (search rules)
    (sym c.ends_as.ensures ∙ c.if-ends_as.true)
    (sym c.last_loaded.ensures ∙ c.if-last_loaded.true)

pub returns-else-last_loaded : goal.returns-else-last_loaded
returns-else-last_loaded c =
    not_loaded c.args.register.now (search rules) (search rules) (search rules)
    (sym c.ends_as.ensures ∙ c.if-ends_as.true)
    (sym c.last_loaded.ensures ∙ c.if-last_loaded.false)

pub returns-else-ends_as : goal.returns-else-ends_as
returns-else-ends_as c =
    other_end c.args.register.now (search rules) (search rules) (search rules)
    (sym c.ends_as.ensures ∙ c.if-ends_as.false)
