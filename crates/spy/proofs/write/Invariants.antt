-- `spy::write` meets its contract: one turn more is one event more of `known_after`.
-- Assumes nothing.
use Rattle.std.proofs.Common.{◌≡◌}
use Rattle.closure.specs.Closure.{known_after}
use Rattle.spy.proofs.write.Given as goal

abbrev pub invariant-loop-e : goal.invariant-loop-e
invariant-loop-e l = l.known ≡ known_after l.file l.e
