-- `closure::Known::start_keys` meets its contract: one turn more is one agent more of `start_keys`.
-- Assumes nothing.
use Rattle.std.proofs.Common.{◌≡◌}
use Rattle.closure.specs.Closure.{start_keys}
use Rattle.closure.proofs.Known.start_keys.Given as goal

abbrev pub invariant-loop-agent : goal.invariant-loop-agent
invariant-loop-agent l = (l.self.keys ≡ start_keys l.file l.agent l.initial.self.keys) × (l.self.rows ≡ l.initial.self.rows)
