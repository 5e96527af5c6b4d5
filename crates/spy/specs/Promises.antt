-- What the knowledge question promises beside its relation: document 01, "What the spy sees" and "Questions and their replies".
use Rattle.std.specs.Prelude.{ℕ, zero, suc, ◌<◌, ◌≤◌, Bool, false, not, List, [], ◌∷◌, ◌↔◌, ◌≡◌, length, get_or, Result, Ok, Err, ⊤}
use Rattle.trace.specs.File.{rows_of, events_of, compromised_in}
use Rattle.laws.specs.Choose.{choose}
use Rattle.trace.specs.Rows.{fields_at}
use Rattle.trace.specs.Events.{event_at}
use Rattle.trace.specs.Refusal.{number_of, place_of, Told}
use Rattle.trace.specs.declared.Cause.{Cause}
use Rattle.trace.specs.declared.Event.{Event}
use Rattle.trace.specs.declared.Event.TheVariants.{Says, Notes}
use Rattle.spy.specs.Knowledge.{Knows, answer_number, answer_place}

-- one answer only: the reply and every lent byte
abbrev pub OneAnswer : Type 0
OneAnswer =
    (file : List ℕ) (n : ℕ) (before : List ℕ) (a b : Result ⊤ Cause) (after after' : List ℕ) →
    Knows file n before a after → Knows file n before b after' → (a ≡ b) × (after ≡ after')

-- the lines of the table for this question, by number and place: refusals 1 to 7 of the file, then 8, then 9
pub data Line (file : List ℕ) (n : ℕ) (before : List ℕ) : (number place : ℕ) → Type 0 where
  told : {c : Cause} → Told file (Err c) → Line file n before (number_of c) (place_of c)
  eight : Told file (Ok tt) → length before < rows_of file → Line file n before 8 0
  nine : Told file (Ok tt) → rows_of file ≤ length before → events_of file < n → Line file n before 9 0

-- a refused call changes no lent byte, and a number is given, with its place, exactly when its line says so
pub record Refusing (file : List ℕ) (n : ℕ) (before : List ℕ) (a : Result ⊤ Cause) (after : List ℕ) : Type 0 where
  pub unwritten : 0 < answer_number a → after ≡ before
  pub exactly : (k p : ℕ) → 0 < k → ((answer_number a ≡ k) × (answer_place a ≡ p)) ↔ Line file n before k p

abbrev pub Refuses : Type 0
Refuses =
    (file : List ℕ) (n : ℕ) (before : List ℕ) (a : Result ⊤ Cause) (after : List ℕ) → Knows file n before a after → Refusing file n before a after

-- knowledge only grows with the number of events
abbrev pub OnlyGrows : Type 0
OnlyGrows =
    (file : List ℕ) (n m : ℕ) (before before' after after' : List ℕ) → n ≤ m →
    Knows file n before (Ok tt) after → Knows file m before' (Ok tt) after' →
    (r : ℕ) → r < rows_of file → get_or after r 0 ≤ get_or after' r 0

-- the first n events, newest first, once the notes of uncompromised agents are struck out
abbrev pub struck_out : List ℕ → Event → Bool
struck_out file (Says a b r) = false
struck_out file (Notes a r) = not (compromised_in file a.0)

unfoldable pub events_left : List ℕ → ℕ → List Event
events_left file zero = []
events_left file (suc n) = choose (struck_out file (event_at file n)) (events_left file n) (event_at file n ∷ events_left file n)

pub record SameRows (file other : List ℕ) : Type 0 where
  pub count : rows_of file ≡ rows_of other
  pub each : (r : ℕ) → r < rows_of file → fields_at file r ≡ fields_at other r
  pub compromised : (A : ℕ) → compromised_in file A ≡ compromised_in other A

-- what the spy sees decides what it knows: document 01's paragraph
abbrev pub SeenDecides : Type 0
SeenDecides =
    (file other : List ℕ) (n m : ℕ) (before before' after after' : List ℕ) → SameRows file other → events_left file n ≡ events_left other m →
    Knows file n before (Ok tt) after → Knows other m before' (Ok tt) after' →
    (r : ℕ) → r < rows_of file → get_or after r 0 ≡ get_or after' r 0
