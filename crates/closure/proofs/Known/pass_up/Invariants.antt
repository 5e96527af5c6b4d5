-- `closure::Known::pass_up` meets its contract: one turn more is one row more of `up_rows`.
-- Assumes nothing.
use Rattle.std.proofs.Common.{◌≡◌}
use Rattle.closure.specs.Closure.{state_of, up_rows}
use Rattle.closure.proofs.Known.pass_up.Given as goal

abbrev pub invariant-loop-r : goal.invariant-loop-r
invariant-loop-r l = state_of l.self.rows l.self.keys l.fresh ≡ up_rows l.file l.r l.initial.self.rows l.initial.self.keys
