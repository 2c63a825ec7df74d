-- The answer of a command, by how its walk ended.
use Rattle.std.specs.Prelude.{ℕ, List, []}
use Rattle.model.specs.declared.Card.{Card}
use Rattle.model.specs.Events.{answer_to}
use Rattle.walk_command.specs.declared.End.{End}
use Rattle.walk_command.specs.declared.End.TheVariants.{Done, Asked, Failed}

abbrev pub end_answer : End → Card → List ℕ
end_answer Done c = []
end_answer (Asked tag) c = answer_to tag c
end_answer (Failed w) c = []
