-- What the code replies to a readable file. Nobody has to believe this page: `Knows` does not mention it.
use Rattle.std.specs.Prelude.{ℕ, true, false, List, ltb, length, Result, Ok, Err, ⊤}
use Rattle.trace.specs.File.{rows_of, events_of}
use Rattle.laws.specs.Choose.{choose}
use Rattle.trace.specs.declared.Cause.{Cause}
use Rattle.trace.specs.declared.Cause.TheVariants.{ShortBuffer, TooManyEvents}
use Rattle.closure.specs.Closure.{known_after}
use Rattle.spy.specs.Made.{write_marks}

-- a mark for each row after the first n events, at the start of the buffer
abbrev pub marks_after : List ℕ → ℕ → List ℕ → List ℕ
marks_after file n buffer = write_marks file (known_after file n).rows (rows_of file) buffer

abbrev pub answer_readable : List ℕ → ℕ → List ℕ → Result ⊤ Cause
answer_readable file n buffer =
    choose (ltb (length buffer) (rows_of file)) (Err ShortBuffer)
    (choose (ltb (events_of file) n) (Err TooManyEvents)
    (Ok tt))

abbrev pub bytes_readable : List ℕ → ℕ → List ℕ → List ℕ
bytes_readable file n buffer =
    elim (ltb (length buffer) (rows_of file)) [
      | true ↦ buffer
      | false ↦ elim (ltb (events_of file) n) [ true ↦ buffer | false ↦ marks_after file n buffer ]
    ]
