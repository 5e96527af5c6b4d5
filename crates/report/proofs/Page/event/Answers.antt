-- `report::Page::event` meets its contract: the parts of the line, one after the other.
-- Assumes nothing.
use Rattle.report.proofs.Lines.{put_event}
use Rattle.report.proofs.Page.event.Goals as goal

pub returns : goal.returns
returns c = record { same = cc; put = put_event c.args.e c.args.rule c.number.ensures.put c.byte.ensures.put (rw c.from.ensures at c.number-2.ensures.put) c.byte-2.ensures.put }
