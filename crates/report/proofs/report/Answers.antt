-- `report::report` meets its contract: the text of a judged file has room in the buffer.
-- Assumes nothing.
use mathlib.Core.Path.{◌≡◌}
use lib.ListN.{length}
use borrow.Author.Rules.{rules}
use Rattle.report.proofs.Fits.{reported}
use Rattle.report.proofs.report.Goals as goal

pub returns : goal.returns
returns c =
    let a = c.args in
    let g : length a.out.now ≡ 4096 = search rules in
    reported a.file.now a.out.now _ _ _ _ g c.verdict-verdict.ensures c.text.ensures.put
