-- `accepts::mark_told` meets its contract: what is left of the chain is marked as the whole of it would be.
-- Assumes nothing.
use mathlib.Core.Path.{◌≡◌}
use Rattle.forms.specs.Kinds.{server_in}
use Rattle.earlier.specs.Boxes.{latest_to, chain_from, rest_of}
use Rattle.accepts.specs.Hashes.{mark_all}
use Rattle.accepts.proofs.mark_told.Given as goal

abbrev pub invariant-loop-j : goal.invariant-loop-j
invariant-loop-j l =
    mark_all l.file l.boxes (server_in l.role) l.to (rest_of l.j-iterator) l.marks ≡ mark_all l.file l.boxes (server_in l.role) l.to (chain_from l.boxes (latest_to l.boxes l.to)) l.initial.marks
