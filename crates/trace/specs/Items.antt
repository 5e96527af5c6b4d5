-- The eight bytes of a row or an event, as the code reads them at once. Nobody has to believe this page: what the fields of a row and the
-- parts of an event are is said byte by byte in `Rows` and `Events`.
use Rattle.std.specs.Prelude.{ℕ, ◌+◌, ◌<◌, List, ◌≡◌, get_or}
use Rattle.trace.specs.File.{byte, word}
use Rattle.trace.specs.declared.rows.Fields.{Fields}
use Rattle.trace.specs.declared.events.Parts.{Parts}

-- above every place of a row or an event, and far below where the next place could wrap
abbrev pub far : ℕ
far = 2000000

-- the item that begins there
abbrev pub ItemAt : List ℕ → ℕ → List ℕ → Type 0
ItemAt file at item = (k : ℕ) → k < 8 → get_or item k 0 ≡ byte file (at + k)

-- the five numbers of a row
abbrev pub fields_of : List ℕ → Fields
fields_of item = record { kind = byte item 0; role = byte item 1; first = word item 2; second = word item 4; third = word item 6 }

-- the six numbers of an event
abbrev pub parts_of : List ℕ → Parts
parts_of item =
    record {
      kind = byte item 0;
      sender = byte item 1;
      receiver = byte item 2;
      zero = byte item 3;
      row = word item 4;
      rest = word item 6;
    }
