-- What the small program prints: document 01, "The bench's small program".
use Rattle.std.specs.Prelude.{ℕ, zero, suc, ◌+◌, ◌/◌, ◌%◌, true, false, List, [], ◌∷◌, ◌++◌, ◌≡◌, ltb, length, get_or, drop, replicate, Result, Ok, Err}
use Rattle.trace.specs.File.{event_limit}
use Rattle.trace.specs.Refusal.{number_of, place_of}
use Rattle.trace.specs.declared.Cause.{Cause}
use Rattle.judge.specs.Judged.{Judged, verdict_length}
use Rattle.judge.specs.declared.reply.Verdict.{Verdict}
use Rattle.judge.specs.declared.reply.Verdict.TheVariants.{Illegal, Accepted}

-- a number in decimal; the first number bounds the digits, and any above the second serves
unfoldable pub digits_within : ℕ → ℕ → List ℕ
digits_within zero n = []
digits_within (suc f) n = elim (ltb n 10) [ true ↦ (48 + n) ∷ [] | false ↦ digits_within f (n / 10) ++ ((48 + n % 10) ∷ []) ]

abbrev pub digits : ℕ → List ℕ
digits n = digits_within (suc n) n

abbrev pub space : List ℕ
space = 32 ∷ []

abbrev pub newline : List ℕ
newline = 10 ∷ []

-- the words with the space after them, in ASCII
abbrev pub refused_word : List ℕ
refused_word = 114 ∷ 101 ∷ 102 ∷ 117 ∷ 115 ∷ 101 ∷ 100 ∷ 32 ∷ []

abbrev pub illegal_word : List ℕ
illegal_word = 105 ∷ 108 ∷ 108 ∷ 101 ∷ 103 ∷ 97 ∷ 108 ∷ 32 ∷ []

abbrev pub accepted_word : List ℕ
accepted_word = 97 ∷ 99 ∷ 99 ∷ 101 ∷ 112 ∷ 116 ∷ 101 ∷ 100 ∷ 32 ∷ []

-- the line of an event, and those of the first n events
unfoldable pub event_line : (e rule : ℕ) → List ℕ
event_line e rule = digits e ++ (space ++ (digits rule ++ newline))

unfoldable pub event_lines : (rules : List ℕ) → ℕ → List ℕ
event_lines rules zero = []
event_lines rules (suc n) = event_lines rules n ++ event_line n (get_or rules n 0)

-- the last line
unfoldable pub last_line : Result Verdict Cause → List ℕ
last_line (Err c) = refused_word ++ (digits (number_of c) ++ (space ++ (digits (place_of c) ++ newline)))
last_line (Ok (Illegal n)) = illegal_word ++ (digits n ++ newline)
last_line (Ok (Accepted n)) = accepted_word ++ (digits n ++ newline)

abbrev pub text_of : Result Verdict Cause → (rules : List ℕ) → List ℕ
text_of v rules = event_lines rules (verdict_length v) ++ last_line v

-- the text of the verdict stands at the start of the buffer, and later bytes keep their content
pub record Reported (file before : List ℕ) (n : ℕ) (after : List ℕ) : Type 0 where
  pub verdict : Result Verdict Cause
  pub rules : List ℕ
  pub judged : Judged file (replicate event_limit 0) verdict rules
  pub size : n ≡ length (text_of verdict rules)
  pub text : after ≡ text_of verdict rules ++ drop n before
