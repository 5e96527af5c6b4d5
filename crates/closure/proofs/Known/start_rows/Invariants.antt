-- `closure::Known::start_rows` meets its contract: one turn more is one row more of `start_rows`.
-- Assumes nothing.
use Rattle.std.proofs.Common.{◌≡◌}
use Rattle.closure.specs.Closure.{start_rows}
use Rattle.closure.proofs.Known.start_rows.Given as goal

abbrev pub invariant-loop-r : goal.invariant-loop-r
invariant-loop-r l = (l.self.rows ≡ start_rows l.file l.initial.self.keys l.r l.initial.self.rows) × (l.self.keys ≡ l.initial.self.keys)
