-- The proof of the cycle of calls {make, make_below}. The measure is the row: a call of `make_below` keeps it, and its call of `make` is
-- at a lower one. Assumes nothing.
use Prim.Native.Nat.{◌+◌, ◌*◌}
use Rattle.rules.proofs.synth.+make_make_below.Given as goal

abbrev pub decreases-make : goal.decreases-make
decreases-make l = 2 * l.row + 1

abbrev pub decreases-make_below : goal.decreases-make_below
decreases-make_below l = 2 * l.row
