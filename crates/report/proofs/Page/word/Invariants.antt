-- `report::Page::word` meets its contract: one turn more is one byte more of the word.
-- Assumes nothing.
use Rattle.std.proofs.Common.{take}
use Rattle.report.specs.Written.{Writes}
use Rattle.report.proofs.Page.word.Given as goal

abbrev pub invariant-loop-b : goal.invariant-loop-b
invariant-loop-b l = Writes l.initial.self (take l.b-index l.word) l.self
