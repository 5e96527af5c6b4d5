-- `reading`, case by case: the tests before one fail, and it passes.
-- Assumes nothing.
use Prim.Native.Nat.{ℕ, ◌<◌, ◌≤◌}
use mathlib.Core.Bool.{true, false}
use mathlib.Core.List.{List}
use mathlib.Core.Path.{◌≡◌}
use lib.ListN.{length}
use borrow.Author.Tests.{lt-ltb, le-ltb}
use Rattle.std.specs.Prelude.{Ok, Err}
use Rattle.trace.specs.File.{rows_from, rows_of, events_of}
use Rattle.trace.specs.Tests.{header_of, wrong_version, wrong_set, wrong_contents, bad_row, repeated_row, bad_event}
use Rattle.trace.specs.Reading.{read_items, reading}
use Rattle.laws.specs.First.{first}
use Rattle.trace.specs.declared.Cause.TheVariants.{TooShort, WrongVersion, WrongSet, WrongContents, BadRow, RepeatedRow, BadEvent}

module _ (file : List ℕ) where
  pub reading_short : length file < rows_from → reading file ≡ Err TooShort
  unfolding reading
  reading_short l = simp (lt-ltb (length file) rows_from l)

  module _ (long : rows_from ≤ length file) where
    pub reading_version : wrong_version (header_of file) ≡ true → reading file ≡ Err WrongVersion
    unfolding reading
    reading_version v = simp (le-ltb (length file) rows_from long, v)

    module _ (v : wrong_version (header_of file) ≡ false) where
      pub reading_set : wrong_set file ≡ true → reading file ≡ Err WrongSet
      unfolding reading
      reading_set s = simp (le-ltb (length file) rows_from long, v, s)

      module _ (s : wrong_set file ≡ false) where
        pub reading_contents : wrong_contents (header_of file) (length file) ≡ true → reading file ≡ Err WrongContents
        unfolding reading
        reading_contents w = simp (le-ltb (length file) rows_from long, v, s, w)

        pub reading_items : wrong_contents (header_of file) (length file) ≡ false →
            reading file ≡ read_items file (rows_of file) (events_of file)
        unfolding reading
        reading_items w = simp (le-ltb (length file) rows_from long, v, s, w)

  module _ (rows events bad : ℕ) (is_bad : bad ≡ first (bad_row file) rows) where
    pub items_row : bad < rows → read_items file rows events ≡ Err (BadRow (record { 0 = bad }))
    unfolding read_items
    items_row l = simp (← is_bad, lt-ltb bad rows l)

    module _ (repeat : ℕ) (fine : rows ≤ bad) (is_repeat : repeat ≡ first (repeated_row file) rows) where
      pub items_repeat : repeat < rows → read_items file rows events ≡ Err (RepeatedRow (record { 0 = repeat }))
      unfolding read_items
      items_repeat l = simp (← is_bad, ← is_repeat, le-ltb bad rows fine, lt-ltb repeat rows l)

      module _ (odd : ℕ) (apart : rows ≤ repeat) (is_odd : odd ≡ first (bad_event file rows) events) where
        pub items_event : odd < events → read_items file rows events ≡ Err (BadEvent (record { 0 = odd }))
        unfolding read_items
        items_event l = simp (← is_bad, ← is_repeat, ← is_odd, le-ltb bad rows fine, le-ltb repeat rows apart, lt-ltb odd events l)

        pub items_readable : events ≤ odd → read_items file rows events ≡ Ok tt
        unfolding read_items
        items_readable l = simp (← is_bad, ← is_repeat, ← is_odd, le-ltb bad rows fine, le-ltb repeat rows apart, le-ltb odd events l)
