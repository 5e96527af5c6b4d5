-- `judge::illegal_span` meets its contract: the walk's length is that of the longest accepted beginning.
-- Assumes nothing.
use native.Mathlib.Omega.{arith}
use Rattle.judge.proofs.Faults.{fault_event, fault_none}
use Rattle.judge.proofs.illegal_span.Goals as goal

pub returns-then-n-event_count : goal.returns-then-n-event_count
returns-then-n-event_count c =
    let s = c.before in
    fault_event s.args.file.now s.requires _ (omega arith) c.event_count.ensures
    c.walk_events-n.ensures.value c.if-n-event_count.true c.event_span.ensures

pub returns : goal.returns
returns c =
    let s = c.before in
    fault_none s.args.file.now s.requires _ (omega arith) c.event_count.ensures
    c.walk_events-n.ensures.value c.if-n-event_count.false c.no_span.ensures
