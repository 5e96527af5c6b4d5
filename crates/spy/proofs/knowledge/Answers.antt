-- `spy::knowledge` meets its contract: what reading the file told is the table's answer, and the rest is `answer_readable`'s.
-- Assumes nothing.
use mathlib.Core.Path.{sym}
use Rattle.std.proofs.lemmas.Result.{err_from_is_err_and}
use Rattle.spy.proofs.Knows.{knows_refused, knows_readable}
use Rattle.spy.proofs.knowledge.Goals as goal

pub returns-in_err-read : goal.returns-in_err-read
returns-in_err-read c =
    let p = err_from_is_err_and c.from_residual.result c.from_residual.ensures.1 in
    rw (p.1, p.2) (knows_refused _ _ _ (sym c.in_err-read.ensures))

pub returns : goal.returns
returns c =
    rw (c.answer_readable.ensures.value, c.answer_readable.ensures.buffer_after) (knows_readable _ _ _ (sym c.in_ok-read.ensures))
