-- Refusals 5 to 7 name eight bytes of the file: its contents part is right by then, so the row or event that they name is there.
-- So no refusal's span leaves the file.
-- Assumes nothing.
use Prim.Native.Nat.{ℕ, ◌+◌, ◌*◌, ◌-◌, ◌<◌, ◌≤◌}
use mathlib.Core.List.{List}
use mathlib.Core.Path.{◌≡◌, refl, sym, ◌∙◌}
use native.Mathlib.Omega.{arith}
use native.Mathlib.Decide.{dec_le}
use lib.Dec.{leb}
use lib.ListN.{length}
use borrow.Author.Tests.{le-leb, lt-leb}
use Rattle.std.specs.Prelude.{Err}
use Rattle.trace.specs.File.{rows_from, rows_of, events_of, events_from}
use Rattle.trace.specs.Refusal as table
use Rattle.trace.specs.Refusal.{number_of, Wrong, Told, refused}
use Rattle.trace.specs.Part.{nothing, row_part, event_part}
use Rattle.trace.specs.Spans.{eight_at, row_span, event_span, fault_of, within, Inside, FaultsInside, FaultsFit}
use Rattle.trace.specs.declared.RowNo.{RowNo}
use Rattle.trace.specs.declared.EventNo.{EventNo}
use Rattle.trace.specs.declared.Span.{Span}
use Rattle.trace.specs.declared.Cause.{Cause}
use Rattle.trace.specs.declared.Cause.TheVariants.{TooShort, WrongVersion, WrongSet, WrongContents, BadRow, RepeatedRow, BadEvent}
use Rattle.trace.proofs.Told.{whole_length, few_rows, few_events}

-- the test of a length without a sum
pub room_left : (start size len : ℕ) → start ≤ len → leb size (len - start) ≡ leb (start + size) len
room_left start size len l = go (dec_le (start + size) len)
  where
    go : Dec (start + size ≤ len) → leb size (len - start) ≡ leb (start + size) len
    go (yes h) = le-leb size (len - start) (omega arith) ∙ sym (le-leb (start + size) len h)
    go (no h) = lt-leb size (len - start) (omega arith) ∙ sym (lt-leb (start + size) len (omega arith))

-- a span that the file has is what is lent back
pub inside_within : (file : List ℕ) (span : Span) → Inside file span → within file span ≡ span
inside_within file span i = rw (le-leb (span.start + span.size) (length file) i.there) refl

pub nothing_inside : (file : List ℕ) → Inside file nothing
nothing_inside file = record { there = omega arith; low = omega arith }

-- eight bytes of a file whose contents part is right
module _ (file : List ℕ) (right : ¬ Wrong file WrongContents) (at : ℕ) (l : at + 8 ≤ length file) where
  pub item_inside : Inside file (record { start = at; size = 8 })
  item_inside = record { there = l; low = omega (arith, few_rows file right, few_events file right, whole_length file right) }

  item_eight : eight_at file at ≡ record { start = at; size = 8 }
  item_eight = rw (le-leb (at + 8) (length file) l) refl

-- the row or event of a refusal from 5 on is there
module _ (file : List ℕ) (right : ¬ Wrong file WrongContents) where
  row_there : (r : ℕ) → r < rows_of file → rows_from + 8 * r + 8 ≤ length file
  row_there r l = omega (arith, whole_length file right)

  pub event_there : (e : ℕ) → e < events_of file → events_from file + 8 * e + 8 ≤ length file
  event_there e l = omega (arith, whole_length file right)

  pub row_eight : (r : ℕ) → r < rows_of file → row_span file r ≡ row_part r
  row_eight r l = item_eight file right (rows_from + 8 * r) (row_there r l)

  pub event_eight : (e : ℕ) → e < events_of file → event_span file e ≡ event_part file e
  event_eight e l = item_eight file right (events_from file + 8 * e) (event_there e l)

  pub row_inside : (r : ℕ) → r < rows_of file → Inside file (row_part r)
  row_inside r l = item_inside file right (rows_from + 8 * r) (row_there r l)

  pub event_inside : (e : ℕ) → e < events_of file → Inside file (event_part file e)
  event_inside e l = item_inside file right (events_from file + 8 * e) (event_there e l)

-- what a refusal names
pub data Fault (file : List ℕ) : Cause → Type 0 where
  none : {c : Cause} → number_of c < 5 → fault_of file c ≡ nothing → Fault file c
  row : {r : RowNo} → row_span file r.0 ≡ row_part r.0 → Inside file (row_part r.0) → Fault file (BadRow r)
  repeated : {r : RowNo} → row_span file r.0 ≡ row_part r.0 → Inside file (row_part r.0) → Fault file (RepeatedRow r)
  event : {e : EventNo} → event_span file e.0 ≡ event_part file e.0 → Inside file (event_part file e.0) → Fault file (BadEvent e)

pub told_fault : (file : List ℕ) (c : Cause) → Told file (Err c) → Fault file c
told_fault file c (refused w less) = go w (λ l. less WrongContents l)
  where
    go : {c : Cause} → Wrong file c → (4 < number_of c → ¬ Wrong file WrongContents) → Fault file c
    go (table.short l) n = none {c = TooShort} (omega arith) refl
    go (table.version h) n = none {c = WrongVersion} (omega arith) refl
    go (table.reserved h) n = none {c = WrongVersion} (omega arith) refl
    go (table.spy h) n = none {c = WrongSet} (omega arith) refl
    go (table.authority h) n = none {c = WrongSet} (omega arith) refl
    go (table.rows h) n = none {c = WrongContents} (omega arith) refl
    go (table.events h) n = none {c = WrongContents} (omega arith) refl
    go (table.rows_offset h) n = none {c = WrongContents} (omega arith) refl
    go (table.events_offset h) n = none {c = WrongContents} (omega arith) refl
    go (table.size h) n = none {c = WrongContents} (omega arith) refl
    go (table.row {r = r} l) n = row (row_eight file (n (omega arith)) r l.below) (row_inside file (n (omega arith)) r l.below)
    go (table.repeated {r = r} l) n = repeated (row_eight file (n (omega arith)) r l.below) (row_inside file (n (omega arith)) r l.below)
    go (table.event {e = e} l) n = event (event_eight file (n (omega arith)) e l.below) (event_inside file (n (omega arith)) e l.below)

fault_inside : (file : List ℕ) {c : Cause} → Fault file c → Inside file (fault_of file c)
fault_inside file (none l e) = rw e (nothing_inside file)
fault_inside file (row e i) = rw e i
fault_inside file (repeated e i) = rw e i
fault_inside file (event e i) = rw e i

fault_fits : (file : List ℕ) {c : Cause} → Fault file c → 5 ≤ number_of c → (fault_of file c).size ≡ 8
fault_fits file (none l e) n = absurd (omega arith)
fault_fits file (row e i) n = rw e refl
fault_fits file (repeated e i) n = rw e refl
fault_fits file (event e i) n = rw e refl

pub faults_inside : FaultsInside
faults_inside file c t = fault_inside file (told_fault file c t)

pub faults_fit : FaultsFit
faults_fit file c t n = fault_fits file (told_fault file c t) n
