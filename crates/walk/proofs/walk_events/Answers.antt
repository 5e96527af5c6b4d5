-- `walk::walk_events` meets its contract: what is left of the walk from event i stays the same.
-- Assumes nothing.
use mathlib.Core.Path.{refl, sym, ◌∙◌}
use native.Mathlib.Omega.{arith}
use Rattle.walk.specs.Lowest.{rule_of, exchange_of}
use Rattle.walk.proofs.Paces.{rest_whole, rest_end, rest_stop, rest_more, paced_same, pace_within, taken_some, taken_none, walk_ends}
use Rattle.walk.proofs.States.{before_first}
use Rattle.walk.proofs.walk_events.Goals as goal

pub loop-i-init : goal.loop-i-init
loop-i-init c =
    let f = c.args.file.now in record {
      within = omega arith;
      before = before_first f c.see_start.ensures.keys_after c.see_start.ensures.rows_after;
      rest = rest_whole (rule_of f) (exchange_of f) c.walkable-events.result _;
    }

pub returns-in_default : goal.returns-in_default
returns-in_default c =
    let f = c.args.file.now in
    let N = c.walkable-events.result in
    let l = c.loop-i in
    let z = taken_none _ (sym c.advance.ensures.value ∙ c.in_default.is) in
    let g =
    walk_ends f c.args.rules.now N l.i l.rules _ c.walkable-events.ensures.0
    (rest_stop (rule_of f) (exchange_of f) N _ l.i _ l.rules c.loop-i-test.true refl z l.invariant.rest)
    (c.advance.ensures.rules_after ∙ paced_same (rule_of f) (exchange_of f) N l.i l.rules z)
    in record {
      value = g.0;
      rules_after = g.1;
    }

pub loop-i-preserved : goal.loop-i-preserved
loop-i-preserved c =
    let f = c.args.file.now in
    let N = c.walkable-events.result in
    let l = c.loop-i in
    let v = c.advance.ensures in
    let t = taken_some _ _ (sym v.value ∙ c.in-Some.is) in record {
      within = pace_within (rule_of f) (exchange_of f) N l.i c.in-Some.taken c.loop-i-test.true t.0;
      before = rw t.0 v.after;
      rest = rest_more (rule_of f) (exchange_of f) N _ l.i c.in-Some.taken l.rules _ c.loop-i-test.true t.0 (λ z. omega arith)
          v.rules_after l.invariant.rest;
    }

pub returns : goal.returns
returns c =
    let f = c.args.file.now in
    let N = c.walkable-events.result in
    let l = c.loop-i in
    let g =
    walk_ends f c.args.rules.now N l.i l.rules _ c.walkable-events.ensures.0
    (rest_end (rule_of f) (exchange_of f) N _ l.i l.rules c.loop-i-test.false l.invariant.rest) refl
    in record {
      value = g.0;
      rules_after = g.1;
    }
