-- `walk::State::take` meets its contract: one event more of all that the state holds.
-- Assumes nothing.
use Rattle.walk.proofs.States.{before_more}
use Rattle.walk.proofs.State.take.Goals as goal

pub returns : goal.returns
returns c =
    let a = c.args in
    before_more a.file.now a.e a.self.now c.requires.before c.requires.in_range c.use_event.ensures c.see_event.ensures c.keep.ensures
