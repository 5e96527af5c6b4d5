-- `closure::Known::reopen` meets its contract: a marked Crypt whose body is marked, or that does not open, changes nothing.
-- Assumes nothing.
use mathlib.Core.Path.{sym, ◌∙◌}
use Rattle.closure.proofs.Marks.{mark_is}
use Rattle.closure.proofs.Depth.{reopen_opened, reopen_closed}
use Rattle.closure.proofs.Known.reopen.Goals.{then-row_marked-via-then-row_marked, then-row_marked-via-else-row_marked+then-not-opens_with}
use Rattle.closure.proofs.Known.reopen.Goals as goal

pub returns-then-row_marked : goal.returns-then-row_marked
returns-then-row_marked c =
    let a = c.args in
    let s = a.self.now in
    let m = mark_is s.rows a.r c.requires (rw c.from.ensures at c.if-self-from-ne1.false) in
    let w = c.in-Crypt in
    elim c.then-row_marked.branch [
      | then-row_marked-via-then-row_marked v ↦
          reopen_opened a.file.now s.rows s.keys a.r m w.k w.body w.ensures (sym c.row_marked.ensures ∙ v.if-row_marked.true)
      | then-row_marked-via-else-row_marked+then-not-opens_with v ↦
          reopen_closed a.file.now s.rows s.keys a.r m w.k w.body w.ensures (sym v.opens_with.ensures ∙ v.if-not-opens_with.true)
    ]
