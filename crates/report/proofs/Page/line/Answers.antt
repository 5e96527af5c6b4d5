-- `report::Page::line` meets its contract: the parts of the line, one after the other.
-- Assumes nothing.
use Rattle.report.proofs.Lines.{put_line}
use Rattle.report.proofs.Page.line.Goals as goal

pub returns : goal.returns
returns c = record { same = cc; put = put_line c.args.word.now c.args.n c.word.ensures.put c.number.ensures.put c.byte.ensures.put }
