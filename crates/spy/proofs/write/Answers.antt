-- `spy::write` meets its contract: before the first event the starting knowledge is known.
-- Assumes nothing.
use Rattle.closure.proofs.Folds.{known_start}
use Rattle.spy.proofs.write.Goals as goal

pub loop-e-init : goal.loop-e-init
loop-e-init c = known_start c.args.file.now c.see_start.ensures.keys_after c.see_start.ensures.rows_after
