-- `closure::Known::start_rows` meets its contract: one turn more is one row more of `start_rows`.
-- Assumes nothing.
use Rattle.closure.proofs.Folds.{rows_more}
use Rattle.closure.proofs.Known.start_rows.Goals.{then-key_known, else-key_known}
use Rattle.closure.proofs.Known.start_rows.Goals as goal

pub loop-r-preserved : goal.loop-r-preserved
loop-r-preserved c =
    let l = c.loop-r in
    elim c.if-key_known.branch [
      | then-key_known w ↦ rw w.self-is (rows_more _ _ l.r _ l.self.rows _ l.invariant.0 (rw (← l.invariant.1, ← c.row_at.ensures, ← c.key_known.ensures, w.if-key_known.true, ← w.from.ensures) w.put.ensures), l.invariant.1)
      | else-key_known w ↦ rw w.self-is (rows_more _ _ l.r _ l.self.rows _ l.invariant.0 (rw (← l.invariant.1, ← c.row_at.ensures, ← c.key_known.ensures, w.if-key_known.false)), l.invariant.1)
    ]
