-- `closure::Known::pass` meets its contract: it is the way up, and the way down after it if a key became known, over the rows that open.
-- Assumes nothing.
use mathlib.Core.Path.{◌∙◌}
use Rattle.closure.proofs.Folds.{pass_found, pass_ended}
use Rattle.closure.proofs.Known.pass.Goals as goal

pub returns-then-found : goal.returns-then-found
returns-then-found c =
    let k = c.args.self.now in
    rw c.if-found.true
    (pass_found _ _ _ _ _ _ _ _ c.pass_up-found.ensures c.if-found.true c.pass_down.ensures ∙ c.reach-n.ensures.reaches k.rows k.keys)

pub returns-else-found : goal.returns-else-found
returns-else-found c =
    let k = c.args.self.now in
    rw c.if-found.false
    (pass_ended _ _ _ _ _ _ c.pass_up-found.ensures c.if-found.false ∙ c.reach-n.ensures.reaches k.rows k.keys)
