-- `report::Page::word` meets its contract: one turn more is one byte more of the word.
-- Assumes nothing.
use Rattle.std.proofs.Common.{◌∙◌}
use Rattle.report.proofs.Pages.{put_next}
use Rattle.report.proofs.Page.word.Goals as goal

pub loop-b-preserved : goal.loop-b-preserved
loop-b-preserved c =
    let l = c.loop-b in record {
      same = c.byte.ensures.same ∙ l.invariant.same;
      put = put_next c.args.word.now l.b-index c.loop-b-test.true l.invariant.put c.byte.ensures.put;
    }
