-- The third question: document 01, "Questions and their replies". Which part of the file is at fault.
use Rattle.std.specs.Prelude.{ℕ, ◌<◌, List, Ok, Err}
use Rattle.std.specs.Borrow.{Bor}
use Rattle.trace.specs.File.{events_of}
use Rattle.trace.specs.Refusal.{number_of, Told}
use Rattle.trace.specs.Part.{nothing, row_part, event_part, Part}
use Rattle.trace.specs.declared.RowNo.{RowNo}
use Rattle.trace.specs.declared.EventNo.{EventNo}
use Rattle.trace.specs.declared.Span.{Span}
use Rattle.trace.specs.declared.Cause.{Cause}
use Rattle.trace.specs.declared.Cause.TheVariants.{BadRow, RepeatedRow, BadEvent}
use Rattle.judge.specs.Judged.{AcceptedTo, Longest}

-- the row or event of refusals 5 to 7, or the event after the longest accepted beginning; else the empty part that starts at byte 0
pub data Faulted (file : List ℕ) : Span → Type 0 where
  row : {r : RowNo} → Told file (Err (BadRow r)) → Faulted file (row_part r.0)
  repeated : {r : RowNo} → Told file (Err (RepeatedRow r)) → Faulted file (row_part r.0)
  event : {e : EventNo} → Told file (Err (BadEvent e)) → Faulted file (event_part file e.0)
  refused : {c : Cause} → Told file (Err c) → number_of c < 5 → Faulted file nothing
  illegal : {n : ℕ} → Told file (Ok tt) → Longest file n → n < events_of file → Faulted file (event_part file n)
  accepted : Told file (Ok tt) → AcceptedTo file (events_of file) → Faulted file nothing

-- the part that is lent back: where it stands and what it holds
pub record FaultPart (file : Bor (List ℕ)) (part : Bor (List ℕ)) : Type 0 where
  pub span : Span
  pub faulted : Faulted file.now span
  pub is : Part file span part
