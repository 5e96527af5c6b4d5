-- `closure::Known::pass_down` meets its contract: one turn more leaves one row less of `down_rows`.
-- Assumes nothing.
use Rattle.std.proofs.Common.{◌≡◌}
use Rattle.closure.specs.Closure.{down_rows}
use Rattle.closure.proofs.Known.pass_down.Given as goal

abbrev pub invariant-loop-r : goal.invariant-loop-r
invariant-loop-r l = down_rows l.file l.r l.self.rows l.self.keys ≡ down_rows l.file l.n l.initial.self.rows l.initial.self.keys
