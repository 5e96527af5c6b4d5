-- The knowledge question: document 01, "Questions and their replies", over the paper's closures.
use Rattle.std.specs.Prelude.{ℕ, ◌<◌, ◌≤◌, List, ◌≡◌, length, get_or, Result, Ok, Err, ⊤}
use Rattle.paper.specs.Message.{msg}
use Rattle.paper.specs.Spy.{Spies, Analz, Synth}
use Rattle.trace.specs.File.{rows_of, events_of}
use Rattle.trace.specs.Refusal.{number_of, place_of, Told}
use Rattle.trace.specs.Meaning.{message, beginning, bad}
use Rattle.trace.specs.declared.Cause.{Cause}
use Rattle.trace.specs.declared.Cause.TheVariants.{ShortBuffer, TooManyEvents}

-- what the spy starts with and sees in the first n events, legal or not
abbrev pub SeenIn : List ℕ → ℕ → msg → Type 0
SeenIn file n = Spies (bad file) (beginning file n)

-- 2 if analysed, else 1 if it can be made, else 0
pub data Mark (H : msg → Type 0) (X : msg) : ℕ → Type 0 where
  analysed : Analz H X → Mark H X 2
  made : ¬ Analz H X → Synth (Analz H) X → Mark H X 1
  neither : ¬ Synth (Analz H) X → Mark H X 0

-- one byte a row, and later bytes keep their content
pub record Marks (file : List ℕ) (n : ℕ) (before after : List ℕ) : Type 0 where
  pub size : length after ≡ length before
  pub rows : (r : ℕ) → r < rows_of file → Mark (SeenIn file n) (message file r) (get_or after r 0)
  pub rest : (i : ℕ) → rows_of file ≤ i → get_or after i 0 ≡ get_or before i 0

-- the question: refusals 1 to 7, then 8, then 9, each with the buffer unwritten; or the marks
pub data Knows (file : List ℕ) (n : ℕ) (before : List ℕ) : Result ⊤ Cause → List ℕ → Type 0 where
  refused : {c : Cause} → Told file (Err c) → Knows file n before (Err c) before
  short : Told file (Ok tt) → length before < rows_of file → Knows file n before (Err ShortBuffer) before
  many : Told file (Ok tt) → rows_of file ≤ length before → events_of file < n →
      Knows file n before (Err TooManyEvents) before
  written : {after : List ℕ} → Told file (Ok tt) → rows_of file ≤ length before → n ≤ events_of file →
      Marks file n before after → Knows file n before (Ok tt) after

-- document 01's number and place of an answer; 0 where nothing is refused
abbrev pub answer_number : Result ⊤ Cause → ℕ
answer_number a = elim a [ Err c ↦ number_of c | Ok _ ↦ 0 ]

abbrev pub answer_place : Result ⊤ Cause → ℕ
answer_place a = elim a [ Err c ↦ place_of c | Ok _ ↦ 0 ]
