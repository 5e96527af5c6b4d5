-- Closing, as the code does it: document 01, "What the spy sees". Marks are 1; public keys stand at 0 to 63, private ones at 64 to 127.
use Rattle.std.specs.Prelude.{ℕ, zero, suc, ◌+◌, ◌*◌, Bool, true, false, ◌&&◌, ◌||◌, List, eqb, ltb, leb, get_or, set, replicate, ◌≡◌}
use Rattle.trace.specs.File.{row_limit, agent_limit, rows_of, compromised_in}
use Rattle.laws.specs.Choose.{choose}
use Rattle.trace.specs.Events.{event_at}
use Rattle.trace.specs.Kinds.{row_at}
use Rattle.trace.specs.declared.Event.{Event}
use Rattle.trace.specs.declared.Event.TheVariants.{Says, Notes}
use Rattle.closure.specs.declared.Known.{Known}
use Rattle.trace.specs.declared.Row.{Row}
use Rattle.trace.specs.declared.Row.TheVariants.{Agent, Number, Nonce, Prf, PublicKey, PrivateKey, SessionKey, Hash, Crypt, Pair}

-- the rows and the keys that are known, and whether a step made a key known
pub record State : Type 0 where
  pub rows : List ℕ
  pub keys : List ℕ
  pub fresh : Bool

abbrev pub state_of : (rows keys : List ℕ) → Bool → State
state_of rows keys fresh = record { rows = rows; keys = keys; fresh = fresh }

-- a public key and a private one for each agent
abbrev pub key_room : ℕ
key_room = 2 * agent_limit

-- a mark where there is room for so many: nothing is marked past them
abbrev pub marked : (room : ℕ) → List ℕ → ℕ → Bool
marked room marks i = ltb i room && eqb (get_or marks i 0) 1

abbrev pub row_marked : List ℕ → ℕ → Bool
row_marked = marked row_limit

abbrev pub key_marked : List ℕ → ℕ → Bool
key_marked = marked key_room

-- past the end nothing changes
abbrev pub know : List ℕ → ℕ → List ℕ
know keys i = set keys i 1

-- the inverse of the key in row k is known
abbrev pub opens_row : (rows keys : List ℕ) → ℕ → Row → Bool
opens_row rows keys k (Agent a) = false
opens_row rows keys k (Number n) = false
opens_row rows keys k (Nonce n) = false
opens_row rows keys k (Prf s x y) = false
opens_row rows keys k (PublicKey a) = key_marked keys (agent_limit + a.0)
opens_row rows keys k (PrivateKey a) = key_marked keys a.0
opens_row rows keys k (SessionKey o x y z) = row_marked rows k
opens_row rows keys k (Hash x) = false
opens_row rows keys k (Crypt l x) = false
opens_row rows keys k (Pair x y) = false

abbrev pub opens : List ℕ → (rows keys : List ℕ) → ℕ → Bool
opens file rows keys k = opens_row rows keys k (row_at file k)

-- a public or a private key that is learnt becomes known
abbrev pub know_row : List ℕ → Row → List ℕ
know_row keys (Agent a) = keys
know_row keys (Number n) = keys
know_row keys (Nonce n) = keys
know_row keys (Prf s x y) = keys
know_row keys (PublicKey a) = know keys a.0
know_row keys (PrivateKey a) = know keys (agent_limit + a.0)
know_row keys (SessionKey o x y z) = keys
know_row keys (Hash x) = keys
know_row keys (Crypt k x) = keys
know_row keys (Pair x y) = keys

-- what a row opens into with the keys that are known, and whether it is a key: a side that is not below the row is none
pub record Sides : Type 0 where
  pub left : ℕ
  pub right : ℕ
  pub key : Bool

abbrev pub no_sides : ℕ → Bool → Sides
no_sides row key = record { left = row; right = row; key = key }

abbrev pub sides_of : List ℕ → (rows keys : List ℕ) → ℕ → Row → Sides
sides_of file rows keys row (Agent a) = no_sides row false
sides_of file rows keys row (Number n) = no_sides row false
sides_of file rows keys row (Nonce n) = no_sides row false
sides_of file rows keys row (Prf s x y) = no_sides row false
sides_of file rows keys row (PublicKey a) = no_sides row true
sides_of file rows keys row (PrivateKey a) = no_sides row true
sides_of file rows keys row (SessionKey o x y z) = no_sides row true
sides_of file rows keys row (Hash x) = no_sides row false
sides_of file rows keys row (Crypt k x) =
    choose (opens file rows keys k.0) (record { left = x.0; right = row; key = false }) (no_sides row false)
sides_of file rows keys row (Pair x y) = record { left = x.0; right = y.0; key = false }

-- both sides are learnt before the row is marked. The number after the file bounds how deep that goes: any above the row serves
abbrev pub below : (List ℕ → List ℕ → ℕ → State) → (rows keys : List ℕ) → (row x : ℕ) → State
below go rows keys row x = elim (ltb x row) [ true ↦ go rows keys x | false ↦ state_of rows keys false ]

abbrev pub both_sides : (List ℕ → List ℕ → ℕ → State) → (rows keys : List ℕ) → ℕ → Sides → State
both_sides go rows keys row sides =
    let l = below go rows keys row sides.left in
    let r = below go l.rows l.keys row sides.right in
    state_of r.rows r.keys (l.fresh || r.fresh)

abbrev pub learn_with : (List ℕ → List ℕ → ℕ → State) → (rows keys : List ℕ) → ℕ → Sides → Row → State
learn_with go rows keys row sides kind =
    let s = both_sides go rows keys row sides in
    state_of (set s.rows row 1) (know_row s.keys kind) (s.fresh || sides.key)

unfoldable pub learn_row : List ℕ → ℕ → (rows keys : List ℕ) → ℕ → State
learn_row file zero rows keys row = state_of rows keys false
learn_row file (suc d) rows keys row =
    elim (row_marked rows row || leb row_limit row) [
      | true ↦ state_of rows keys false
      | false ↦
          learn_with (λ rs ks x. learn_row file d rs ks x) rows keys row (sides_of file rows keys row (row_at file row)) (row_at file row)
    ]

-- a marked Crypt is opened again, with the keys that are known by now; all else was open when it was marked
abbrev pub is_crypt : Row → Bool
is_crypt (Agent a) = false
is_crypt (Number n) = false
is_crypt (Nonce n) = false
is_crypt (Prf s x y) = false
is_crypt (PublicKey a) = false
is_crypt (PrivateKey a) = false
is_crypt (SessionKey o x y z) = false
is_crypt (Hash x) = false
is_crypt (Crypt k x) = true
is_crypt (Pair x y) = false

abbrev pub reopens : (file rows : List ℕ) → ℕ → Bool
reopens file rows r = row_marked rows r && is_crypt (row_at file r)

abbrev pub reopen_row : List ℕ → (rows keys : List ℕ) → ℕ → State
reopen_row file rows keys r =
    elim (reopens file rows r) [
      | true ↦ both_sides (learn_row file r) rows keys r (sides_of file rows keys r (row_at file r))
      | false ↦ state_of rows keys false
    ]

-- over the first n rows: from the lowest up, and from the highest down, which a key that became known has led to
unfoldable pub up_rows : List ℕ → ℕ → (rows keys : List ℕ) → State
up_rows file zero rows keys = state_of rows keys false
up_rows file (suc n) rows keys =
    let s = up_rows file n rows keys in
    let t = reopen_row file s.rows s.keys n in
    state_of t.rows t.keys (s.fresh || t.fresh)

unfoldable pub down_rows : List ℕ → ℕ → (rows keys : List ℕ) → State
down_rows file zero rows keys = state_of rows keys true
down_rows file (suc n) rows keys = let s = reopen_row file rows keys n in down_rows file n s.rows s.keys

-- one pass is up, and down if that found a key, so that a chain of keys opens at once in either order
unfoldable pub pass_rows : List ℕ → ℕ → (rows keys : List ℕ) → State
pass_rows file n rows keys =
    let s = up_rows file n rows keys in
    elim s.fresh [ true ↦ down_rows file n s.rows s.keys | false ↦ s ]

-- a pass over n rows does what one over all does
abbrev pub Reaches : List ℕ → ℕ → Type 0
Reaches file n = (rows keys : List ℕ) → pass_rows file n rows keys ≡ pass_rows file (rows_of file) rows keys

-- passes over all rows, as long as a key became known in the last one
unfoldable pub settle : List ℕ → ℕ → State → State
settle file zero s = s
settle file (suc d) s = elim s.fresh [ true ↦ settle file d (pass_rows file (rows_of file) s.rows s.keys) | false ↦ s ]

-- a row is seen: it is learnt, and the state is closed again
abbrev pub known_in : State → Known
known_in s = record { rows = s.rows; keys = s.keys }

abbrev pub see_row : List ℕ → (rows keys : List ℕ) → ℕ → Known
see_row file rows keys row = known_in (settle file row_limit (learn_row file (suc row) rows keys row))

abbrev pub see_event : List ℕ → (rows keys : List ℕ) → Event → Known
see_event file rows keys (Says a b r) = see_row file rows keys r.0
see_event file rows keys (Notes a r) =
    elim (compromised_in file a.0) [ true ↦ see_row file rows keys r.0 | false ↦ record { rows = rows; keys = keys } ]

-- the starting knowledge: keys first, then the rows that hold them
unfoldable pub start_keys : List ℕ → ℕ → List ℕ → List ℕ
start_keys file zero keys = keys
start_keys file (suc a) keys = choose (compromised_in file a) (know (start_keys file a keys) (agent_limit + a)) (start_keys file a keys)

abbrev pub key_known : List ℕ → Row → Bool
key_known keys (Agent a) = false
key_known keys (Number n) = false
key_known keys (Nonce n) = false
key_known keys (Prf s x y) = false
key_known keys (PublicKey a) = key_marked keys a.0
key_known keys (PrivateKey a) = key_marked keys (agent_limit + a.0)
key_known keys (SessionKey o x y z) = false
key_known keys (Hash x) = false
key_known keys (Crypt k x) = false
key_known keys (Pair x y) = false

abbrev pub mark_row : List ℕ → ℕ → List ℕ
mark_row rows r = set rows r 1

unfoldable pub start_rows : List ℕ → List ℕ → ℕ → List ℕ → List ℕ
start_rows file keys zero rows = rows
start_rows file keys (suc r) rows =
    choose (key_known keys (row_at file r)) (mark_row (start_rows file keys r rows) r) (start_rows file keys r rows)

abbrev pub zeros : ℕ → List ℕ
zeros n = replicate n 0

-- what is known after the first n events
unfoldable pub known_after : List ℕ → ℕ → Known
known_after file zero =
    let keys = start_keys file agent_limit (zeros key_room) in
    record { rows = start_rows file keys (rows_of file) (zeros row_limit); keys = keys }
known_after file (suc n) = let s = known_after file n in see_event file s.rows s.keys (event_at file n)
