-- `repeats::first_repeat` meets its contract: the rows below r are chained, and none of them is repeated.
-- Assumes nothing.
use Rattle.std.proofs.Common.{◌≡◌, ◌<◌, ℕ, false}
use Rattle.trace.specs.Tests.{repeated_row}
use Rattle.repeats.specs.Chain.{Chained}
use Rattle.repeats.proofs.first_repeat.Given as goal

abbrev pub invariant-loop-r : goal.invariant-loop-r
invariant-loop-r l =
    record {
      chained : Chained l.file l.chains l.r;
      none : (k : ℕ) → k < l.r → repeated_row l.file k ≡ false;
    }
