-- The trace file as a list of bytes: document 01, "The trace file". Numbers are little-endian.
-- Any list of numbers counts as a file: each number modulo 256, and a byte past the end is 0.
use Rattle.std.specs.Prelude.{ℕ, ◌+◌, ◌*◌, ◌/◌, ◌%◌, ◌^◌, Bool, ◌&&◌, List, eqb, ltb, get_or}

abbrev pub byte : List ℕ → ℕ → ℕ
byte file at = get_or file at 0 % 256

unfoldable pub word : List ℕ → ℕ → ℕ
word file at = byte file at + 256 * byte file (at + 1)

-- the limits, each named once
abbrev pub row_limit : ℕ
row_limit = 1024

abbrev pub event_limit : ℕ
event_limit = 512

abbrev pub agent_limit : ℕ
agent_limit = 64

abbrev pub rows_from : ℕ
rows_from = 20

abbrev pub rows_of : List ℕ → ℕ
rows_of file = word file 14

abbrev pub events_of : List ℕ → ℕ
events_of file = word file 18

abbrev pub events_from : List ℕ → ℕ
events_from file = rows_from + 8 * rows_of file

-- bit i of bytes 4 to 11 is for agent i
abbrev pub compromised_in : List ℕ → ℕ → Bool
compromised_in file a = ltb a agent_limit && eqb (byte file (4 + a / 8) / 2 ^ (a % 8) % 2) 1
