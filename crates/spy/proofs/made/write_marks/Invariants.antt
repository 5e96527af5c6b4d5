-- `spy::made::write_marks` meets its contract: one turn more is one row more of `write_marks`.
-- Assumes nothing.
use Rattle.std.proofs.Common.{◌≡◌}
use Rattle.spy.specs.Made.{write_marks}
use Rattle.spy.proofs.made.write_marks.Given as goal

abbrev pub invariant-loop-r : goal.invariant-loop-r
invariant-loop-r l = l.marks ≡ write_marks l.file l.rows l.r l.initial.marks
