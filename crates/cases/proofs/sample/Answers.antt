-- `cases::sample` meets its contract: the bytes are the definition's.
-- Assumes nothing.
use Rattle.std.proofs.Common.{refl}
use Rattle.trace.specs.Sample.{over}
use Rattle.cases.specs.Room.{sample_room}
use Rattle.cases.proofs.sample.Goals as goal

pub returns : goal.returns
unfolding over sample_room
returns c = refl
