-- The reading of a file, computed: the tests in the order of the table. `Refusals` says that it is the table's.
use Rattle.std.specs.Prelude.{ℕ, List, ltb, length, Result, Ok, Err, ⊤}
use Rattle.trace.specs.File.{rows_from, rows_of, events_of}
use Rattle.laws.specs.Choose.{choose}
use Rattle.laws.specs.First.{first}
use Rattle.trace.specs.Tests.{header_of, wrong_version, wrong_set, wrong_contents, bad_row, repeated_row, bad_event}
use Rattle.trace.specs.declared.Cause.{Cause}
use Rattle.trace.specs.declared.Cause.TheVariants.{TooShort, WrongVersion, WrongSet, WrongContents, BadRow, RepeatedRow, BadEvent}

unfoldable pub read_items : List ℕ → (rows events : ℕ) → Result ⊤ Cause
read_items file rows events =
    let bad = first (bad_row file) rows in
    let repeat = first (repeated_row file) rows in
    let odd = first (bad_event file rows) events in
    choose (ltb bad rows) (Err (BadRow (record { 0 = bad })))
    (choose (ltb repeat rows) (Err (RepeatedRow (record { 0 = repeat })))
    (choose (ltb odd events) (Err (BadEvent (record { 0 = odd })))
    (Ok tt)))

unfoldable pub reading : List ℕ → Result ⊤ Cause
reading file =
    choose (ltb (length file) rows_from) (Err TooShort)
    (choose (wrong_version (header_of file)) (Err WrongVersion)
    (choose (wrong_set file) (Err WrongSet)
    (choose (wrong_contents (header_of file) (length file)) (Err WrongContents)
    (read_items file (rows_of file) (events_of file)))))
