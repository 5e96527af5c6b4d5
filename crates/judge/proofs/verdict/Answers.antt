-- `judge::verdict` meets its contract: what reading the file told is the table's answer, and the rest is `verdict_readable`'s.
-- Assumes nothing.
use mathlib.Core.Path.{sym}
use Rattle.std.proofs.lemmas.Result.{err_from_is_err_and}
use Rattle.judge.proofs.Judges.{judged_refused, judged_readable}
use Rattle.judge.proofs.verdict.Goals as goal

pub returns-in_err-read : goal.returns-in_err-read
returns-in_err-read c =
    let p = err_from_is_err_and c.from_residual.result c.from_residual.ensures.1 in
    rw (p.1, p.2) (judged_refused _ _ (sym c.in_err-read.ensures))

pub returns : goal.returns
returns c =
    rw (c.verdict_readable.ensures.value, c.verdict_readable.ensures.rules_after) (judged_readable _ _ (sym c.in_ok-read.ensures))
