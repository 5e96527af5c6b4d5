-- `walk::walk_events` meets its contract: what is left of the walk from event i stays the same.
-- Assumes nothing.
use Prim.Native.Nat.{◌≤◌, ◌-◌}
use Rattle.walk.specs.Walk.{walk}
use Rattle.walk.specs.Lowest.{rule_of, exchange_of}
use Rattle.walk.specs.Pace.{Before}
use Rattle.walk.proofs.Paces.{Rest}
use Rattle.walk.proofs.walk_events.Given as goal

abbrev pub invariant-loop-i : goal.invariant-loop-i
invariant-loop-i l = record {
  within : l.i ≤ l.events;
  before : Before l.file l.i l.state;
  rest : Rest (rule_of l.file) (exchange_of l.file) l.events (walk (rule_of l.file) (exchange_of l.file) l.events l.events 0 l.initial.rules) l.i l.rules;
}

abbrev pub decreases-loop-i : goal.decreases-loop-i
decreases-loop-i l = l.events - l.i
