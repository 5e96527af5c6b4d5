-- The proof of the cycle of calls {mark_used, mark_below}. The measure is the row: a call of `mark_below` keeps it, and its call of
-- `mark_used` is at a lower one. Assumes nothing.
use Prim.Native.Nat.{◌+◌, ◌*◌}
use Rattle.used.proofs.+mark_below_mark_used.Given as goal

abbrev pub decreases-mark_below : goal.decreases-mark_below
decreases-mark_below l = 2 * l.row

abbrev pub decreases-mark_used : goal.decreases-mark_used
decreases-mark_used l = 2 * l.row + 1
