-- `report::Page::text` meets its contract: the lines of the events, then the last line.
-- Assumes nothing.
use Rattle.report.proofs.Pages.{put_then}
use Rattle.report.proofs.Page.text.Goals as goal

pub returns : goal.returns
returns c = record { same = cc; put = put_then (rw c.accepted.ensures at c.events.ensures.put) c.last_line.ensures.put }
