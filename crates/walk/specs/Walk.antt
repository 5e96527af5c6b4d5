-- The walk over the events, as the code does it: the lowest rule that fits, else rule 6 on two events, else the end.
use Rattle.std.specs.Prelude.{ℕ, zero, suc, Bool, true, false, ◌&&◌, List, ltb, set}
use Rattle.trace.specs.File.{event_limit, events_of}
use Rattle.laws.specs.Choose.{choose}
use Rattle.walk.specs.Lowest.{rule_of, exchange_of}

-- the events that were accepted, and the bytes
pub record Walked : Type 0 where
  pub length : ℕ
  pub bytes : List ℕ

abbrev pub walked_to : ℕ → List ℕ → Walked
walked_to n bytes = record { length = n; bytes = bytes }

-- `rule i` is the lowest that fits event i, 0 for none; `exchange i` whether rule 6 fits events i and i + 1. The first number bounds
-- the steps: any that is not below the events serves
unfoldable pub walk : (ℕ → ℕ) → (ℕ → Bool) → (events : ℕ) → ℕ → ℕ → List ℕ → Walked
walk rule exchange events zero i bytes = walked_to i bytes
walk rule exchange events (suc d) i bytes =
    elim (ltb i events) [
      | true ↦
          elim (ltb 0 (rule i)) [
            | true ↦ walk rule exchange events d (suc i) (set bytes i (rule i))
            | false ↦
                elim (ltb (suc i) events && exchange i) [
                  | true ↦ walk rule exchange events d (suc (suc i)) (set (set bytes i 6) (suc i) 6)
                  | false ↦ walked_to i bytes
                ]
          ]
      | false ↦ walked_to i bytes
    ]

-- over the events of a file
-- no file that is readable has more than 512 events
abbrev pub walkable : List ℕ → ℕ
walkable file = choose (ltb event_limit (events_of file)) event_limit (events_of file)

abbrev pub walk_file : List ℕ → List ℕ → Walked
walk_file file bytes = walk (rule_of file) (exchange_of file) (walkable file) (walkable file) 0 bytes

-- the first n bytes are 0
unfoldable pub cleared : ℕ → List ℕ → List ℕ
cleared zero bytes = bytes
cleared (suc n) bytes = set (cleared n bytes) n 0
