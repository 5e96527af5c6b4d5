-- `closure::Known::start_keys` meets its contract: one turn more is one agent more of `start_keys`.
-- Assumes nothing.
use Rattle.std.proofs.Common.{arith, ◌≡◌}
use Rattle.trace.specs.File.{agent_limit}
use Rattle.closure.proofs.Folds.{keys_more}
use Rattle.closure.proofs.Known.start_keys.Goals.{then-compromised, else-compromised}
use Rattle.closure.proofs.Known.start_keys.Goals as goal

pub loop-agent-preserved : goal.loop-agent-preserved
loop-agent-preserved c =
    let l = c.loop-agent in
    elim c.if-compromised.branch [
      | then-compromised w ↦ rw w.self-is (keys_more _ l.agent _ l.self.keys _ l.invariant.0 (rw (← c.compromised.ensures, w.if-compromised.true, ← w.from.ensures) w.put.ensures), l.invariant.1)
      | else-compromised w ↦ rw w.self-is (keys_more _ l.agent _ l.self.keys _ l.invariant.0 (rw (← c.compromised.ensures, w.if-compromised.false)), l.invariant.1)
    ]

pub returns-clause-keys_after : goal.returns-clause-keys_after
returns-clause-keys_after c =
    let l = c.loop-agent in
    let e : l.agent ≡ agent_limit = omega arith in
    rw (← e) l.invariant.0
