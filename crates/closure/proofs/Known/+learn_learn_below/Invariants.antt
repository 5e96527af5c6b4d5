-- The proof of the cycle of calls {learn, learn_below}. The measure is the row: a call of `learn_below` keeps it, and its call of
-- `learn` is at a lower one. Assumes nothing.
use Prim.Native.Nat.{◌+◌, ◌*◌}
use Rattle.closure.proofs.Known.+learn_learn_below.Given as goal

abbrev pub decreases-learn : goal.decreases-learn
decreases-learn l = 2 * l.row + 1

abbrev pub decreases-learn_below : goal.decreases-learn_below
decreases-learn_below l = 2 * l.row
