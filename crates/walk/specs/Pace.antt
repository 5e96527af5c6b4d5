-- One step of the walk, as the code does it: how many events are taken, what is written, and what the state holds before an event.
use Rattle.std.specs.Prelude.{ℕ, suc, Bool, ◌&&◌, List, ◌≡◌, ltb, set}
use Rattle.laws.specs.Choose.{choose}
use Rattle.closure.specs.Closure.{known_after}
use Rattle.earlier.specs.Kept.{Boxed}
use Rattle.used.specs.Marking.{used_after}
use Rattle.rules.specs.Making.{SoundMarks}
use Rattle.walk.specs.declared.State.{State}

-- one event by a rule of one event, two by rule 6, or none
abbrev pub pace : (ℕ → ℕ) → (ℕ → Bool) → (events : ℕ) → ℕ → ℕ
pace rule exchange events i = choose (ltb 0 (rule i)) 1 (choose (ltb (suc i) events && exchange i) 2 0)

abbrev pub paced : (ℕ → ℕ) → (ℕ → Bool) → (events : ℕ) → ℕ → List ℕ → List ℕ
paced rule exchange events i bytes =
    choose (ltb 0 (rule i)) (set bytes i (rule i))
    (choose (ltb (suc i) events && exchange i) (set (set bytes i 6) (suc i) 6) bytes)

-- the state holds what is used and what is known before event i, the events before it in their boxes, and marks of rows that can be made
pub record Before (file : List ℕ) (i : ℕ) (s : State) : Type 0 where
  pub uses : s.used ≡ used_after file i
  pub sees : s.known ≡ known_after file i
  pub kept : Boxed file s.boxes i
  pub makes : SoundMarks file s.known.rows s.made
