-- `repeats::first_repeat` meets its contract: it stops at the first row that is repeated, or at the end.
-- Assumes nothing.
use Rattle.std.proofs.Common.{sym, ◌∙◌, arith}
use borrow.Author.Count.{below_none, below_more}
use Rattle.laws.proofs.First.{found_some, found_none}
use Rattle.repeats.proofs.Chain.{chained_none}
use Rattle.repeats.proofs.first_repeat.Goals as goal

pub loop-r-init : goal.loop-r-init
loop-r-init c = record { chained = chained_none _; none = below_none _ }

pub loop-r-preserved : goal.loop-r-preserved
loop-r-preserved c =
    let l = c.loop-r in
    record {
      chained = c.add.ensures.chained c.if-add.false;
      none = below_more _ _ l.invariant.none (sym c.add.ensures.repeated ∙ c.if-add.false);
    }

pub returns-then-add : goal.returns-then-add
returns-then-add c =
    let l = c.loop-r in
    sym (found_some _ c.args.rows l.r (omega arith) l.invariant.none (sym c.add.ensures.repeated ∙ c.if-add.true))

pub returns : goal.returns
returns c = sym (found_none _ c.args.rows (λ k l. c.loop-r.invariant.none k (omega arith)))
