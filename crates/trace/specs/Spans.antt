-- Where the part at fault lies, computed for every file: nothing where the file ends before the part does.
-- No promise has to be believed because of this page: of a refusal that is told, the part is there (`FaultsInside`, `FaultsFit`).
use Rattle.std.specs.Prelude.{ℕ, ◌+◌, ◌*◌, ◌≤◌, List, ◌≡◌, leb, length, Err}
use Rattle.trace.specs.File.{rows_from, row_limit, event_limit, events_from}
use Rattle.laws.specs.Choose.{choose}
use Rattle.trace.specs.Part.{nothing}
use Rattle.trace.specs.Refusal.{number_of, Told}
use Rattle.trace.specs.declared.Span.{Span}
use Rattle.trace.specs.declared.Cause.{Cause}
use Rattle.trace.specs.declared.Cause.TheVariants.{TooShort, WrongVersion, WrongSet, WrongContents, BadRow, RepeatedRow, BadEvent, ShortBuffer, TooManyEvents}

abbrev pub eight_at : List ℕ → ℕ → Span
eight_at file at = choose (leb (at + 8) (length file)) (record { start = at; size = 8 }) nothing

abbrev pub row_span : List ℕ → ℕ → Span
row_span file r = eight_at file (rows_from + 8 * r)

abbrev pub event_span : List ℕ → ℕ → Span
event_span file e = eight_at file (events_from file + 8 * e)

abbrev pub fault_of : List ℕ → Cause → Span
fault_of file TooShort = nothing
fault_of file WrongVersion = nothing
fault_of file WrongSet = nothing
fault_of file WrongContents = nothing
fault_of file (BadRow r) = row_span file r.0
fault_of file (RepeatedRow r) = row_span file r.0
fault_of file (BadEvent e) = event_span file e.0
fault_of file ShortBuffer = nothing
fault_of file TooManyEvents = nothing

-- the span, if the file is long enough for it
abbrev pub within : List ℕ → Span → Span
within file span = choose (leb (span.start + span.size) (length file)) span nothing

-- a span that the file has, below the end of the longest file that is read
abbrev pub longest_file : ℕ
longest_file = rows_from + 8 * row_limit + 8 * event_limit

pub record Inside (file : List ℕ) (span : Span) : Type 0 where
  pub there : span.start + span.size ≤ length file
  pub low : span.start + span.size ≤ longest_file

-- every refusal's span is one
abbrev pub FaultsInside : Type 0
FaultsInside = (file : List ℕ) (c : Cause) → Told file (Err c) → Inside file (fault_of file c)

-- refusals 5 to 7 name eight bytes of the file
abbrev pub FaultsFit : Type 0
FaultsFit = (file : List ℕ) (c : Cause) → Told file (Err c) → 5 ≤ number_of c → (fault_of file c).size ≡ 8
