-- `closure::Known::see` meets its contract: what is left to settle stays the same, and nothing is left where no key is fresh.
-- Assumes nothing.
use Rattle.std.proofs.Common.{arith, ap}
use Rattle.closure.specs.Closure.{known_in}
use Rattle.closure.proofs.Folds.{see_end, see_last, see_more}
use Rattle.closure.proofs.Known.see.Goals as goal

pub loop-preserved : goal.loop-preserved
loop-preserved c =
    let l = c.loop in
    see_more c.args.file.now l.counter l.self.rows l.self.keys _ _ (omega arith) c.if-not-fresh.false l.invariant c.pass-fresh.ensures

pub returns-then-not-fresh : goal.returns-then-not-fresh
returns-then-not-fresh c =
    let l = c.loop in
    ap known_in (see_end c.args.file.now _ l.self.rows l.self.keys c.learn-fresh.ensures l.invariant c.if-not-fresh.true)

pub returns-after-loop : goal.returns-after-loop
returns-after-loop c =
    let l = c.loop in
    ap known_in (see_last c.args.file.now l.counter l.self.rows l.self.keys c.learn-fresh.ensures (omega arith) l.invariant)
