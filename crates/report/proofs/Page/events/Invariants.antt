-- `report::Page::events` meets its contract: one turn more is one line more of `event_lines`.
-- Assumes nothing.
use Rattle.report.specs.Written.{Writes}
use Rattle.report.specs.Text.{event_lines}
use Rattle.report.proofs.Page.events.Given as goal

abbrev pub invariant-loop-e : goal.invariant-loop-e
invariant-loop-e l = Writes l.initial.self (event_lines l.rules l.e) l.self
