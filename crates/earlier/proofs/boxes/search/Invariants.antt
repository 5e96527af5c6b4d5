-- `earlier::boxes::search` meets its contract: what is left of the chain has one where the whole of it has. Links fall, so
-- the loop ends. Assumes nothing.
use mathlib.Core.Path.{◌≡◌}
use Rattle.earlier.specs.Boxes.{chain_from, fits_at, some}
use Rattle.earlier.proofs.boxes.search.Given as goal

abbrev pub invariant-loop-e : goal.invariant-loop-e
invariant-loop-e l =
    some (fits_at l.file l.boxes l.wanted) (chain_from l.boxes l.link) ≡ some (fits_at l.file l.boxes l.wanted) (chain_from l.boxes l.head)

abbrev pub decreases-loop-e : goal.decreases-loop-e
decreases-loop-e l = l.link
