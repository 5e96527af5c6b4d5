-- The three questions over C's numbers: each is the library's question, and its number is the reply's.
use Rattle.std.specs.Prelude.{ℕ, ◌<◌, List, ◌≡◌, Result, ⊤}
use Rattle.trace.specs.declared.Span.{Span}
use Rattle.trace.specs.declared.Cause.{Cause}
use Rattle.spy.specs.Knowledge.{Knows}
use Rattle.judge.specs.declared.reply.Verdict.{Verdict}
use Rattle.judge.specs.Judged.{Judged}
use Rattle.judge.specs.Faulted.{Faulted}
use Rattle.cabi.specs.Codes.{half, verdict_code, answer_code, span_code, SmallVerdict, SmallAnswer}

pub record VerdictCoded (file before : List ℕ) (code : ℕ) (after : List ℕ) : Type 0 where
  pub verdict : Result Verdict Cause
  pub judged : Judged file before verdict after
  pub coded : code ≡ verdict_code verdict

pub record AnswerCoded (file : List ℕ) (n : ℕ) (before : List ℕ) (code : ℕ) (after : List ℕ) : Type 0 where
  pub answer : Result ⊤ Cause
  pub knows : Knows file n before answer after
  pub coded : code ≡ answer_code answer

pub record FaultCoded (file : List ℕ) (code : ℕ) : Type 0 where
  pub span : Span
  pub faulted : Faulted file span
  pub coded : code ≡ span_code span

-- one number only, and one content of the lent bytes
pub record OneCode : Type 0 where
  pub verdict : (file before : List ℕ) (n m : ℕ) (after after' : List ℕ) →
      VerdictCoded file before n after → VerdictCoded file before m after' → (n ≡ m) × (after ≡ after')
  pub answer : (file : List ℕ) (k : ℕ) (before : List ℕ) (n m : ℕ) (after after' : List ℕ) →
      AnswerCoded file k before n after → AnswerCoded file k before m after' → (n ≡ m) × (after ≡ after')
  pub fault : (file : List ℕ) (n m : ℕ) → FaultCoded file n → FaultCoded file m → n ≡ m

-- the replies to files are small enough for their numbers to tell them
pub record RepliesSmall : Type 0 where
  pub verdict : (file before : List ℕ) (v : Result Verdict Cause) (after : List ℕ) → Judged file before v after → SmallVerdict v
  pub answer : (file : List ℕ) (n : ℕ) (before : List ℕ) (a : Result ⊤ Cause) (after : List ℕ) → Knows file n before a after → SmallAnswer a
  pub fault : (file : List ℕ) (s : Span) → Faulted file s → s.start < half

-- so a returned number tells its reply, whatever was asked
pub record NothingLost : Type 0 where
  pub verdict : {file file' before before' after after' : List ℕ} {n : ℕ} (a : VerdictCoded file before n after) (b : VerdictCoded file' before' n after') →
      a.verdict ≡ b.verdict
  pub answer : {file file' before before' after after' : List ℕ} {k k' n : ℕ} (a : AnswerCoded file k before n after) (b : AnswerCoded file' k' before' n after') →
      a.answer ≡ b.answer
  pub fault : {file file' : List ℕ} {n : ℕ} (a : FaultCoded file n) (b : FaultCoded file' n) → a.span ≡ b.span
