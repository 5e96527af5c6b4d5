-- The proof of the cycle of calls {mark_used, mark_below}. Each return is a case of `use_row` or of `used_below`. Assumes nothing.
use mathlib.Core.Path.{sym, ◌∙◌}
use Rattle.used.proofs.Deep.{use_known, use_past, use_pair, use_crypt, use_leaf, below_taken}
use Rattle.used.proofs.+mark_below_mark_used.Goals.{mark_used-then-row_marked-via-then-row_marked, mark_used-then-row_marked-via-else-row_marked+then-row-ge-ROWS, mark_used-in-Pair, mark_used-in-Crypt, mark_used-in_default}
use Rattle.used.proofs.+mark_below_mark_used.Goals as goal

pub mark_below-returns-then-x-row : goal.mark_below-returns-then-x-row
mark_below-returns-then-x-row t c =
    let a = c.args in
    c.mark_used.ensures ∙ below_taken a.file.now a.rows.now a.row a.x c.if-x-row.true

pub mark_used-returns-then-row_marked : goal.mark_used-returns-then-row_marked
mark_used-returns-then-row_marked t c =
    let a = c.args in
    elim c.then-row_marked.branch [
      | mark_used-then-row_marked-via-then-row_marked w ↦ use_known a.file.now a.rows.now a.row (sym c.row_marked.ensures ∙ w.if-row_marked.true)
      | mark_used-then-row_marked-via-else-row_marked+then-row-ge-ROWS w ↦ use_past a.file.now a.rows.now a.row w.if-row-ge-ROWS.true
    ]

pub mark_used-returns : goal.mark_used-returns
mark_used-returns t c =
    let a = c.args in
    let u = sym c.row_marked.ensures ∙ c.if-row_marked.false in
    let l = c.if-row-ge-ROWS.false in
    rw c.from.ensures
    (elim c.match-row_at.branch [
      | mark_used-in-Pair w ↦
          rw w.rows-is (use_pair a.file.now a.rows.now a.row u l w.in-Pair.x w.in-Pair.y w.in-Pair.ensures _ w.mark_below.ensures _ w.mark_below-in-Pair.ensures)
      | mark_used-in-Crypt w ↦
          rw w.rows-is (use_crypt a.file.now a.rows.now a.row u l _ w.in-Crypt.body w.in-Crypt.ensures _ w.mark_below-in-Crypt.ensures)
      | mark_used-in_default w ↦
          rw w.rows-is (use_leaf a.file.now a.rows.now a.row u l _ c.row_at.ensures w.in_default.not-Pair w.in_default.not-Crypt)
    ])
