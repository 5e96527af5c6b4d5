-- `cases::with_edits` meets its contract: the changes left, made to the file so far, give what all of them give.
-- Assumes nothing.
use Rattle.std.proofs.Common.{◌≡◌, drop}
use Rattle.cases.specs.Room.{edited}
use Rattle.cases.proofs.with_edits.Given as goal

abbrev pub invariant-loop-at : goal.invariant-loop-at
invariant-loop-at l = edited l.changed (drop l.at-index l.edits) ≡ edited l.initial.changed l.edits
