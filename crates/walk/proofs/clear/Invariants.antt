-- `walk::clear` meets its contract: one turn more is one byte more of `cleared`.
-- Assumes nothing.
use mathlib.Core.Path.{◌≡◌}
use Rattle.walk.specs.Walk.{cleared}
use Rattle.walk.proofs.clear.Given as goal

abbrev pub invariant-loop-i : goal.invariant-loop-i
invariant-loop-i l = l.rules ≡ cleared l.i l.initial.rules
