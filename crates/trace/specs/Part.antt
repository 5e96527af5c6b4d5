-- A part of the lent file: where it starts and how long it is, and what is lent back. Document 01, the third question.
use Rattle.std.specs.Prelude.{ℕ, ◌+◌, ◌*◌, List, ◌≡◌, take, drop}
use Rattle.std.specs.Borrow.{Bor}
use Rattle.trace.specs.File.{rows_from, events_from}
use Rattle.trace.specs.declared.Span.{Span}

abbrev pub nothing : Span
nothing = record { start = 0; size = 0 }

abbrev pub row_part : ℕ → Span
row_part r = record { start = rows_from + 8 * r; size = 8 }

abbrev pub event_part : List ℕ → ℕ → Span
event_part file e = record { start = events_from file + 8 * e; size = 8 }

-- what it holds, and where it stands
pub record Part (file : Bor (List ℕ)) (span : Span) (part : Bor (List ℕ)) : Type 0 where
  pub holds : part.now ≡ take span.size (drop span.start file.now)
  pub stands : part.ref_ptr ≡ (file.ref_ptr.0, span.start + file.ref_ptr.1)
