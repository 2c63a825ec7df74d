-- `order_writer::refused_by`: no records end to end are no bytes, and these change no room (`over_none`).
use mathlib.Core.Path.{refl, sym}
use Rattle.lists.specs.Joined.{joined}
use Rattle.lists.specs.Over.{over_none}
use Rattle.order_writer.proofs.refused_by.Goals as goal

pub returns : goal.returns
unfolding joined
returns c = λ room. record { number = refl; count = refl; room = sym (over_none room 0) }
