-- Marking the used rows, as the code does it: document 01, "What the spy sees". A mark is 1.
use Rattle.std.specs.Prelude.{ℕ, zero, suc, true, false, ◌||◌, List, ltb, leb, set}
use Rattle.trace.specs.File.{row_limit}
use Rattle.trace.specs.Events.{event_at}
use Rattle.trace.specs.Kinds.{row_at}
use Rattle.trace.specs.declared.Event.{Event}
use Rattle.trace.specs.declared.Event.TheVariants.{Says, Notes}
use Rattle.trace.specs.declared.Row.{Row}
use Rattle.trace.specs.declared.Row.TheVariants.{Agent, Number, Nonce, Prf, PublicKey, PrivateKey, SessionKey, Hash, Crypt, Pair}
use Rattle.closure.specs.Closure.{row_marked, zeros}

-- a row that is below is used. The number after the file bounds how deep that goes: any above the row serves
abbrev pub used_below : (List ℕ → ℕ → List ℕ) → (marks : List ℕ) → (row x : ℕ) → List ℕ
used_below go marks row x = elim (ltb x row) [ true ↦ go marks x | false ↦ marks ]

-- what a row goes into is used before the row is marked: both sides of a Pair, and the body of a Crypt
abbrev pub use_parts : (List ℕ → ℕ → List ℕ) → (marks : List ℕ) → ℕ → Row → List ℕ
use_parts go marks row (Agent a) = marks
use_parts go marks row (Number n) = marks
use_parts go marks row (Nonce n) = marks
use_parts go marks row (Prf s x y) = marks
use_parts go marks row (PublicKey a) = marks
use_parts go marks row (PrivateKey a) = marks
use_parts go marks row (SessionKey o x y z) = marks
use_parts go marks row (Hash x) = marks
use_parts go marks row (Crypt k x) = used_below go marks row x.0
use_parts go marks row (Pair x y) = used_below go (used_below go marks row x.0) row y.0

unfoldable pub use_row : List ℕ → ℕ → (marks : List ℕ) → ℕ → List ℕ
use_row file zero marks row = marks
use_row file (suc d) marks row =
    elim (row_marked marks row || leb row_limit row) [
      | true ↦ marks
      | false ↦ set (use_parts (λ ms x. use_row file d ms x) marks row (row_at file row)) row 1
    ]

-- every event counts, a note of an honest agent too
abbrev pub use_event : List ℕ → (marks : List ℕ) → Event → List ℕ
use_event file marks (Says a b r) = use_row file (suc r.0) marks r.0
use_event file marks (Notes a r) = use_row file (suc r.0) marks r.0

-- the rows that are used after the first n events
unfoldable pub used_after : List ℕ → ℕ → List ℕ
used_after file zero = zeros row_limit
used_after file (suc n) = use_event file (used_after file n) (event_at file n)
