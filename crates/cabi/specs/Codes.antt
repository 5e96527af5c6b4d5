-- The replies as one number each. A refusal, an illegal trace and an accepted one lie apart, and no place or length reaches 65,536.
use Rattle.std.specs.Prelude.{ℕ, ◌+◌, ◌*◌, ◌<◌, ◌≡◌, Result, Ok, Err, ⊤}
use Rattle.trace.specs.Refusal.{number_of, place_of}
use Rattle.trace.specs.declared.Span.{Span}
use Rattle.trace.specs.declared.Cause.{Cause}
use Rattle.judge.specs.declared.reply.Verdict.{Verdict}
use Rattle.judge.specs.declared.reply.Verdict.TheVariants.{Illegal, Accepted}

abbrev pub half : ℕ
half = 65536

abbrev pub refusal_code : Cause → ℕ
refusal_code c = 536870912 + half * number_of c + place_of c

abbrev pub verdict_code : Result Verdict Cause → ℕ
verdict_code (Err c) = refusal_code c
verdict_code (Ok (Illegal n)) = 268435456 + n
verdict_code (Ok (Accepted n)) = n

abbrev pub answer_code : Result ⊤ Cause → ℕ
answer_code (Err c) = refusal_code c
answer_code (Ok _) = 0

abbrev pub span_code : Span → ℕ
span_code s = s.start + half * s.size

-- places and lengths that fit a half
abbrev pub SmallVerdict : Result Verdict Cause → Type 0
SmallVerdict (Err c) = place_of c < half
SmallVerdict (Ok (Illegal n)) = n < half
SmallVerdict (Ok (Accepted n)) = n < half

abbrev pub SmallAnswer : Result ⊤ Cause → Type 0
SmallAnswer (Err c) = place_of c < half
SmallAnswer (Ok _) = 0 < half

-- nothing is lost: the number tells the reply
pub record CodesTell : Type 0 where
  pub verdict : (v w : Result Verdict Cause) → SmallVerdict v → SmallVerdict w → verdict_code v ≡ verdict_code w → v ≡ w
  pub answer : (a b : Result ⊤ Cause) → SmallAnswer a → SmallAnswer b → answer_code a ≡ answer_code b → a ≡ b
  pub span : (s t : Span) → s.start < half → t.start < half → span_code s ≡ span_code t → s ≡ t
