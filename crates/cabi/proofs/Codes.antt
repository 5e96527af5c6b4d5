-- The numbers tell the replies: a cause is told by its number and its place, and the three kinds of verdict lie apart.
-- Assumes nothing.
use Prim.Native.Nat.{ℕ, ◌<◌}
use mathlib.Core.Path.{◌≡◌, refl, ◌∙◌, ap}
use native.Mathlib.Omega.{arith}
use Rattle.std.specs.Prelude.{Result, Ok, Err, ⊤}
use Rattle.trace.specs.Refusal.{place_of}
use Rattle.trace.specs.declared.Span.{Span}
use Rattle.trace.specs.declared.Cause.{Cause}
use Rattle.trace.proofs.Causes.{one_cause}
use Rattle.judge.specs.declared.reply.Verdict.{Verdict}
use Rattle.judge.specs.declared.reply.Verdict.TheVariants.{Illegal, Accepted}
use Rattle.cabi.specs.Codes.{half, refusal_code, verdict_code, answer_code, span_code, SmallVerdict, SmallAnswer, CodesTell}

refusal_tells : (c d : Cause) → place_of c < half → place_of d < half → refusal_code c ≡ refusal_code d → c ≡ d
refusal_tells c d l m e = one_cause c d (omega arith) (omega arith)

verdict_tells : (v w : Result Verdict Cause) → SmallVerdict v → SmallVerdict w → verdict_code v ≡ verdict_code w → v ≡ w
verdict_tells (Err c) (Err d) l m e = ap Err (refusal_tells c d l m e)
verdict_tells (Err c) (Ok (Illegal n)) l m e = absurd (omega arith)
verdict_tells (Err c) (Ok (Accepted n)) l m e = absurd (omega arith)
verdict_tells (Ok (Illegal n)) (Err c) l m e = absurd (omega arith)
verdict_tells (Ok (Illegal n)) (Ok (Illegal k)) l m e = ap (λ k. Ok (Illegal k)) (omega arith)
verdict_tells (Ok (Illegal n)) (Ok (Accepted k)) l m e = absurd (omega arith)
verdict_tells (Ok (Accepted n)) (Err c) l m e = absurd (omega arith)
verdict_tells (Ok (Accepted n)) (Ok (Illegal k)) l m e = absurd (omega arith)
verdict_tells (Ok (Accepted n)) (Ok (Accepted k)) l m e = ap (λ k. Ok (Accepted k)) (omega arith)

answer_tells : (a b : Result ⊤ Cause) → SmallAnswer a → SmallAnswer b → answer_code a ≡ answer_code b → a ≡ b
answer_tells (Err c) (Err d) l m e = ap Err (refusal_tells c d l m e)
answer_tells (Err c) (Ok _) l m e = absurd (omega arith)
answer_tells (Ok _) (Err c) l m e = absurd (omega arith)
answer_tells (Ok _) (Ok _) l m e = refl

span_tells : (s t : Span) → s.start < half → t.start < half → span_code s ≡ span_code t → s ≡ t
span_tells s t l m e =
    let a : s.start ≡ t.start = omega arith in
    let b : s.size ≡ t.size = omega arith in
    ap (λ (k : ℕ). record { start = k; size = s.size }) a ∙ ap (λ (k : ℕ). record { start = t.start; size = k }) b

pub codes_tell : CodesTell
codes_tell = record { verdict = verdict_tells; answer = answer_tells; span = span_tells }
