-- Refusals 1 to 7: the table of document 01, "Questions and their replies", line by line.
use Rattle.std.specs.Prelude.{ℕ, ◌+◌, ◌*◌, ◌<◌, List, ◌≡◌, length, Result, Ok, Err, ⊤}
use Rattle.paper.specs.Message.{Spy, Authority}
use Rattle.trace.specs.File.{word, row_limit, event_limit, rows_from, rows_of, events_of, events_from}
use Rattle.trace.specs.Rows.{KeepsLine, SameBytes}
use Rattle.trace.specs.Events.{KeepsEventLine}
use Rattle.trace.specs.Meaning.{bad}
use Rattle.trace.specs.declared.Cause.{Cause}
use Rattle.trace.specs.declared.Cause.TheVariants.{TooShort, WrongVersion, WrongSet, WrongContents, BadRow, RepeatedRow, BadEvent, ShortBuffer, TooManyEvents}

-- the number and the place of each cause
abbrev pub refusal_of : Cause → ℕ × ℕ
refusal_of TooShort = (1, 0)
refusal_of WrongVersion = (2, 0)
refusal_of WrongSet = (3, 0)
refusal_of WrongContents = (4, 0)
refusal_of (BadRow r) = (5, r.0)
refusal_of (RepeatedRow r) = (6, r.0)
refusal_of (BadEvent e) = (7, e.0)
refusal_of ShortBuffer = (8, 0)
refusal_of TooManyEvents = (9, 0)

abbrev pub number_of : Cause → ℕ
number_of c = (refusal_of c).0

abbrev pub place_of : Cause → ℕ
place_of c = (refusal_of c).1

-- of the numbers below n, k is the lowest of which P holds
pub record Lowest (P : ℕ → Type 0) (n k : ℕ) : Type 0 where
  pub below : k < n
  pub holds : P k
  pub lowest : (j : ℕ) → j < k → ¬ P j

abbrev pub Repeated : List ℕ → ℕ → Type 0
Repeated file r = (s : ℕ) × (s < r) × SameBytes file s r

-- a cause is given exactly when ..
pub data Wrong (file : List ℕ) : Cause → Type 0 where
  -- 1: fewer than 20 bytes
  short : length file < rows_from → Wrong file TooShort
  -- 2: version not 1, or bytes 2-3 not zero
  version : ¬ (word file 0 ≡ 1) → Wrong file WrongVersion
  reserved : ¬ (word file 2 ≡ 0) → Wrong file WrongVersion
  -- 3: Spy not compromised, or authority compromised
  spy : ¬ bad file Spy → Wrong file WrongSet
  authority : bad file Authority → Wrong file WrongSet
  -- 4: a count over its limit, a wrong offset, or a length that does not fit
  rows : row_limit < rows_of file → Wrong file WrongContents
  events : event_limit < events_of file → Wrong file WrongContents
  rows_offset : ¬ (word file 12 ≡ rows_from) → Wrong file WrongContents
  events_offset : ¬ (word file 16 ≡ events_from file) → Wrong file WrongContents
  size : ¬ (length file ≡ events_from file + 8 * events_of file) → Wrong file WrongContents
  -- 5: a row breaks its kind's line
  row : {r : ℕ} → Lowest (λ s. ¬ KeepsLine file s) (rows_of file) r → Wrong file (BadRow (record { 0 = r }))
  -- 6: a row equals an earlier one
  repeated : {r : ℕ} → Lowest (Repeated file) (rows_of file) r → Wrong file (RepeatedRow (record { 0 = r }))
  -- 7: an event breaks its line
  event : {e : ℕ} → Lowest (λ d. ¬ KeepsEventLine file d) (events_of file) e → Wrong file (BadEvent (record { 0 = e }))

-- .. and the lowest number applies
pub data Told (file : List ℕ) : Result ⊤ Cause → Type 0 where
  refused : {c : Cause} → Wrong file c → ((d : Cause) → number_of d < number_of c → ¬ Wrong file d) → Told file (Err c)
  readable : ((c : Cause) → ¬ Wrong file c) → Told file (Ok tt)
