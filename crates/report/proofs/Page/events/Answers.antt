-- `report::Page::events` meets its contract: one turn more is one line more of `event_lines`.
-- Assumes nothing.
use Rattle.std.proofs.Common.{◌≡◌, ◌∙◌, get_or, rules}
use Rattle.report.proofs.Lines.{put_more_events}
use Rattle.report.proofs.Page.events.Goals as goal

pub loop-e-preserved : goal.loop-e-preserved
loop-e-preserved c =
    let l = c.loop-e in
    let r : c.unwrap_or-rule.result ≡ get_or c.args.rules.now l.e 0 = search rules in record {
      same = c.event.ensures.same ∙ l.invariant.same;
      put = put_more_events c.args.rules.now l.e _ r l.invariant.put c.event.ensures.put;
    }
