-- `io_playing::play_block`: where the read failed, no byte of the block was played.
use Rattle.std.proofs.Common.{refl, arith}
use Rattle.model.specs.Session.{records_in}
use Rattle.register_entries.specs.Entries.{entries}
use Rattle.io_playing.proofs.play_block.Goals as goal

pub returns-in_err-n-clause-plays : goal.returns-in_err-n-clause-plays
unfolding entries records_in
returns-in_err-n-clause-plays c =
    record { n = 0; within = omega arith; played = record { leaves = refl; keeps = refl; counts = refl } }
