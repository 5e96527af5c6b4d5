-- Whether the spy can make a row, as the code asks it: down the row's parts, and a row that can be made is marked, so that it is asked once
-- in all events together. A mark is 1.
use Rattle.std.specs.Prelude.{ℕ, zero, suc, Bool, true, false, ◌&&◌, ◌||◌, List, ◌≡◌, eqb, ltb, leb, set}
use Rattle.trace.specs.File.{row_limit}
use Rattle.laws.specs.Choose.{choose}
use Rattle.trace.specs.Kinds.{row_at}
use Rattle.trace.specs.declared.Row.{Row}
use Rattle.trace.specs.declared.Row.TheVariants.{Agent, Number, Hash, Crypt, Pair}
use Rattle.closure.specs.Closure.{row_marked}
use Rattle.earlier.specs.Heard.{Heard}
use Rattle.rules.specs.declared.synth.Parts.{Parts}
use Rattle.rules.specs.declared.synth.Parts.TheVariants.{Leaf, Two}
use Rattle.rules.specs.Tests.{can_make}

-- the marks after a question, and its answer
pub record Made : Type 0 where
  pub marks : List ℕ
  pub is : Bool

abbrev pub told : List ℕ → Bool → Made
told marks is = record { marks = marks; is = is }

-- what a row that is not known is made from: two lower rows, or nothing, where its kind tells
abbrev pub parts_of : (known : List ℕ) → Row → Parts
parts_of known (Agent a) = Leaf true
parts_of known (Number n) = Leaf true
parts_of known (Hash x) = Two x.0 x.0
parts_of known (Crypt k x) = choose (row_marked known k.0) (Two x.0 x.0) (Leaf false)
parts_of known (Pair x y) = Two x.0 y.0
parts_of known _ = Leaf false

-- a side that is not below the row is not made
abbrev pub made_below : (List ℕ → ℕ → Made) → (marks : List ℕ) → (row x : ℕ) → Made
made_below go marks row x = elim (ltb x row) [ true ↦ go marks x | false ↦ told marks false ]

abbrev pub made_last : ℕ → Made → Made
made_last row r = elim r.is [ true ↦ told (set r.marks row 1) true | false ↦ told r.marks false ]

-- after the first side, the other one y
abbrev pub make_then : (List ℕ → ℕ → Made) → (row y : ℕ) → Made → Made
make_then go row y l = elim l.is [ true ↦ made_last row (made_below go l.marks row y) | false ↦ told l.marks false ]

abbrev pub make_both : (List ℕ → ℕ → Made) → (marks : List ℕ) → (row x y : ℕ) → Made
make_both go marks row x y = make_then go row y (made_below go marks row x)

abbrev pub make_with : (List ℕ → ℕ → Made) → (marks : List ℕ) → ℕ → Parts → Made
make_with go marks row (Leaf can) = told marks can
make_with go marks row (Two x y) = make_both go marks row x y

-- the number after `known` bounds how deep it goes: any above the row serves
unfoldable pub make_row : List ℕ → (known : List ℕ) → ℕ → (marks : List ℕ) → ℕ → Made
make_row file known zero marks row = told marks false
make_row file known (suc d) marks row =
    elim (row_marked known row || row_marked marks row) [
      | true ↦ told marks true
      | false ↦
          elim (leb row_limit row) [
            | true ↦ told marks false
            | false ↦ make_with (λ ms x. make_row file known d ms x) marks row (parts_of known (row_at file row))
          ]
    ]

-- rule 1, asked with the marks
unfoldable pub try_fake : List ℕ → (known marks : List ℕ) → Heard → Made
try_fake file known marks h =
    elim (h.says && eqb h.from 0) [ true ↦ make_row file known (suc h.row) marks h.row | false ↦ told marks false ]

-- each marked row can be made
abbrev pub SoundMarks : List ℕ → (known marks : List ℕ) → Type 0
SoundMarks file known marks = (x : ℕ) → row_marked marks x ≡ true → can_make file known x ≡ true

-- no mark is lost
abbrev pub Kept : List ℕ → List ℕ → Type 0
Kept rows rows' = (x : ℕ) → row_marked rows x ≡ true → row_marked rows' x ≡ true
