-- `repeats::Chains::add` meets its contract: a row of the chain that has the fields of row r is still ahead.
-- Links fall, so the loop ends. Assumes nothing.
use Rattle.std.proofs.Common.{◌≡◌, ◌≤◌, ℕ, get_or}
use Rattle.trace.specs.Rows.{fields_at}
use Rattle.repeats.specs.Chain.{Reach}
use Rattle.repeats.proofs.Chains.add.Given as goal

abbrev pub invariant-loop-row : goal.invariant-loop-row
invariant-loop-row l =
    record {
      low : l.link ≤ l.r;
      ahead : (s : ℕ) → Reach l.self.links (get_or l.self.heads l.h 0) s → fields_at l.file s ≡ l.f → Reach l.self.links l.link s;
    }

abbrev pub decreases-loop-row : goal.decreases-loop-row
decreases-loop-row l = l.link
