-- The five idle judges of document 01, "Strength of the contracts": none of them meets the relations.
use Rattle.std.specs.Prelude.{ℕ, ◌<◌, ◌≤◌, List, ◌⊎◌, ◌≡◌, length, Result, Ok, Err, ⊤}
use Rattle.trace.specs.File.{rows_of, events_of}
use Rattle.trace.specs.Refusal.{Told}
use Rattle.trace.specs.declared.Cause.{Cause}
use Rattle.spy.specs.Knowledge.{Knows}
use Rattle.judge.specs.declared.reply.Verdict.{Verdict}
use Rattle.judge.specs.declared.reply.Verdict.TheVariants.{Illegal, Accepted}
use Rattle.judge.specs.Judged.{Fits, Longest, Judged}

-- a judge: what it replies to the two questions, and what it leaves in the buffers
pub record Judge : Type 0 where
  pub verdict : (file before : List ℕ) → Result Verdict Cause
  pub rules : (file before : List ℕ) → List ℕ
  pub knowledge : (file : List ℕ) (n : ℕ) (before : List ℕ) → Result ⊤ Cause
  pub marks : (file : List ℕ) (n : ℕ) (before : List ℕ) → List ℕ

pub record Meets (J : Judge) : Type 0 where
  pub judged : (file before : List ℕ) → Judged file before (J.verdict file before) (J.rules file before)
  pub knows : (file : List ℕ) (n : ℕ) (before : List ℕ) → Knows file n before (J.knowledge file n before) (J.marks file n before)

-- a file that is not refused, with room in the buffer: for a verdict, and for knowledge after n events
abbrev pub Asked : (file before : List ℕ) → Type 0
Asked file before = Told file (Ok tt) × (events_of file ≤ length before)

abbrev pub AskedAfter : (file : List ℕ) (n : ℕ) (before : List ℕ) → Type 0
AskedAfter file n before = Told file (Ok tt) × (rows_of file ≤ length before) × (n ≤ events_of file)

-- one refusing every file, whichever question is asked
abbrev pub RefusesAll : Judge → Type 0
RefusesAll J =
    ((file before : List ℕ) → Asked file before → (c : Cause) × (J.verdict file before ≡ Err c)) ⊎
    ((file : List ℕ) (n : ℕ) (before : List ℕ) → AskedAfter file n before → (c : Cause) × (J.knowledge file n before ≡ Err c))

-- one accepting every trace
abbrev pub AcceptsAll : Judge → Type 0
AcceptsAll J = (file before : List ℕ) → Asked file before → (n : ℕ) × (J.verdict file before ≡ Ok (Accepted n))

-- one that writes nothing in the buffers, or in one of them
abbrev pub WritesNothing : Judge → Type 0
WritesNothing J =
    ((file before : List ℕ) → Asked file before → J.rules file before ≡ before) ⊎
    ((file : List ℕ) (n : ℕ) (before : List ℕ) → AskedAfter file n before → J.marks file n before ≡ before)

-- one that judges the first event and waves the rest through
abbrev pub FirstOnly : Judge → Type 0
FirstOnly J =
    (file before : List ℕ) → Asked file before → 0 < events_of file → (k : ℕ) → Fits file 0 k →
    (n : ℕ) × (J.verdict file before ≡ Ok (Accepted n))

-- one that invents the length of the accepted beginning
abbrev pub InventsLength : Judge → Type 0
InventsLength J =
    (file : List ℕ) × (before : List ℕ) × (n : ℕ) × Asked file before × (J.verdict file before ≡ Ok (Illegal n)) × ¬ Longest file n

pub data Idle (J : Judge) : Type 0 where
  refuses : RefusesAll J → Idle J
  accepts : AcceptsAll J → Idle J
  silent : WritesNothing J → Idle J
  first : FirstOnly J → Idle J
  invents : InventsLength J → Idle J

abbrev pub IdleShutOut : Type 0
IdleShutOut = (J : Judge) → Idle J → ¬ Meets J
