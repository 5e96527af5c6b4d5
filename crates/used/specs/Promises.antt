-- What a mark says: after the first n events, legal or not, a row is marked exactly when its message is used. Document 01, "What the spy sees".
use Rattle.std.specs.Prelude.{ℕ, ◌<◌, ◌≤◌, true, List, ◌≡◌, Ok}
use Rattle.paper.specs.Used.{Used}
use Rattle.trace.specs.File.{rows_of, events_of}
use Rattle.trace.specs.Reading.{reading}
use Rattle.trace.specs.Meaning.{message, beginning}
use Rattle.closure.specs.Closure.{row_marked}
use Rattle.used.specs.Marking.{used_after}

abbrev pub UsedExactly : Type 0
UsedExactly =
    (file : List ℕ) → reading file ≡ Ok tt → (n : ℕ) → n ≤ events_of file → (x : ℕ) → x < rows_of file →
    (row_marked (used_after file n) x ≡ true → Used (message file x) (beginning file n)) ×
    (Used (message file x) (beginning file n) → row_marked (used_after file n) x ≡ true)
