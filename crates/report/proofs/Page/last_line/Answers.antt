-- `report::Page::last_line` meets its contract: the parts of the line, one after the other.
-- Assumes nothing.
use Rattle.std.proofs.Common.{◌≡◌}
use Rattle.judge.specs.declared.reply.Verdict.TheVariants.{Illegal, Accepted}
use Rattle.report.proofs.Lines.{put_refusal, line_illegal, line_accepted}
use Rattle.report.proofs.Page.last_line.Goals as goal

pub returns-in-Err : goal.returns-in-Err
returns-in-Err c = record {
  same = cc;
  put = rw c.in-Err.is
      (put_refusal c.in-Err.cause _ _ c.number.ensures c.place.ensures c.word.ensures.put c.number-in-Err.ensures.put c.byte.ensures.put
      c.number-in-Err-2.ensures.put c.byte-in-Err.ensures.put);
}

pub returns-in-Ok-Illegal : goal.returns-in-Ok-Illegal
returns-in-Ok-Illegal c =
    let v = c.in-Ok-Illegal in
    let e : v.field-0 ≡ Illegal v.n = rw v.is at v.field-0-is in
    record { same = cc; put = rw (v.is, e) (line_illegal v.n c.line.ensures.put) }

pub returns-in-Ok-Accepted : goal.returns-in-Ok-Accepted
returns-in-Ok-Accepted c =
    let v = c.in-Ok-Accepted in
    let e : v.field-0 ≡ Accepted v.n = rw v.is at v.field-0-is in
    record { same = cc; put = rw (v.is, e) (line_accepted v.n c.line-in-Ok-Accepted.ensures.put) }
