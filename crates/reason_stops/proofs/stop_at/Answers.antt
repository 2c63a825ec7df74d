-- `reason_stops::stop_at`: a header is whole or torn; a whole one lies within the data (`header_within`),
-- as `head_stop` asks.
use mathlib.Core.Path.{sym, ◌∙◌}
use native.Mathlib.Omega.{arith}
use Rattle.walk_course.proofs.Chains.{header_within}
use Rattle.reason_stops.specs.Stops.{stop_of}
use Rattle.reason_stops.proofs.stop_at.Goals as goal

pub head_stop-requires : goal.head_stop-requires
head_stop-requires c =
    let s = c in
    let e = sym c.header_at-header.ensures ∙ c.in-Whole.is in
    (s.requires.0, s.requires.1, header_within s.args.d.now s.args.at _ (omega arith) e, s.requires.3)

pub returns-in-Whole : goal.returns-in-Whole
unfolding stop_of
returns-in-Whole c =
    let e = sym c.header_at-header.ensures ∙ c.in-Whole.is in
    c.head_stop.ensures ∙ rw e

pub returns-in-Torn : goal.returns-in-Torn
unfolding stop_of
returns-in-Torn c =
    let e = sym c.header_at-header.ensures ∙ c.in-Torn.is in
    c.torn_stop.ensures ∙ rw e
