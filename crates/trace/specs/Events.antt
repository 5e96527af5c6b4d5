-- Events: document 01, "The trace file".
use Rattle.std.specs.Prelude.{ℕ, ◌+◌, ◌*◌, ◌<◌, List, eqb}
use Rattle.trace.specs.File.{byte, word, rows_of, events_from, agent_limit}
use Rattle.laws.specs.Choose.{choose}
use Rattle.trace.specs.declared.events.Parts.{Parts}
use Rattle.trace.specs.declared.Event.{Event}
use Rattle.trace.specs.declared.Event.TheVariants.{Says, Notes}

abbrev pub parts_at : List ℕ → ℕ → Parts
parts_at file e =
    record {
      kind = byte file (events_from file + 8 * e);
      sender = byte file (events_from file + 8 * e + 1);
      receiver = byte file (events_from file + 8 * e + 2);
      zero = byte file (events_from file + 8 * e + 3);
      row = word file (events_from file + 8 * e + 4);
      rest = word file (events_from file + 8 * e + 6);
    }

-- the line of each kind, by byte 0, byte 1, byte 2, byte 3, bytes 4-5 and bytes 6-7; the receiver is zero in a note
pub data EventLine (file : List ℕ) : (kind sender receiver zero row rest : ℕ) → Type 0 where
  says : {A B row : ℕ} → A < agent_limit → B < agent_limit → row < rows_of file → EventLine file 0 A B 0 row 0
  notes : {A row : ℕ} → A < agent_limit → row < rows_of file → EventLine file 1 A 0 0 row 0

abbrev pub KeepsEventLine : List ℕ → ℕ → Type 0
KeepsEventLine file e =
    let p = parts_at file e in
    EventLine file p.kind p.sender p.receiver p.zero p.row p.rest

-- what an event is
abbrev pub event_of : Parts → Event
event_of p =
    choose (eqb p.kind 0)
    (Says (record { 0 = p.sender }) (record { 0 = p.receiver }) (record { 0 = p.row }))
    (Notes (record { 0 = p.sender }) (record { 0 = p.row }))

abbrev pub event_at : List ℕ → ℕ → Event
event_at file e = event_of (parts_at file e)
