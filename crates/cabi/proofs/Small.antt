-- The replies to files are small: a file with more than 1,024 rows or 512 events is refused without a place.
-- Assumes nothing.
use Prim.Native.Nat.{ℕ, ◌<◌, ◌≤◌}
use mathlib.Core.List.{List}
use native.Mathlib.Omega.{arith}
use Rattle.std.specs.Prelude.{Result, Ok, Err, ⊤}
use Rattle.trace.specs.File.{event_limit, events_of}
use Rattle.trace.specs.Refusal.{place_of, Told}
use Rattle.trace.specs.declared.Cause.{Cause}
use Rattle.trace.proofs.Told.{told_place}
use Rattle.trace.proofs.Promised.{promises}
use Rattle.spy.specs.Knowledge as spy
use Rattle.judge.specs.declared.reply.Verdict.{Verdict}
use Rattle.judge.specs.Judged as judge
use Rattle.judge.proofs.Faults.{faulted_inside}
use Rattle.cabi.specs.Codes.{half, SmallVerdict, SmallAnswer}
use Rattle.cabi.specs.Coded.{RepliesSmall}

place_small : (file : List ℕ) (c : Cause) → Told file (Err c) → place_of c < half
place_small file c t = omega (arith, told_place file c t)

events_few : (file : List ℕ) → Told file (Ok tt) → events_of file ≤ event_limit
events_few file t = (promises file t).few_events

verdict_small : (file before : List ℕ) (v : Result Verdict Cause) (after : List ℕ) → judge.Judged file before v after → SmallVerdict v
verdict_small file before v after (judge.refused {c = c} t) = place_small file c t
verdict_small file before v after (judge.short t l) = omega arith
verdict_small file before v after (judge.illegal t room g l b) = omega (arith, events_few file t)
verdict_small file before v after (judge.accepted t room g e b) = omega (arith, events_few file t)

answer_small : (file : List ℕ) (n : ℕ) (before : List ℕ) (a : Result ⊤ Cause) (after : List ℕ) → spy.Knows file n before a after → SmallAnswer a
answer_small file n before a after (spy.refused {c = c} t) = place_small file c t
answer_small file n before a after (spy.short t l) = omega arith
answer_small file n before a after (spy.many t room l) = omega arith
answer_small file n before a after (spy.written t room l m) = omega arith

pub replies_small : RepliesSmall
replies_small =
    record {
      verdict = verdict_small;
      answer = answer_small;
      fault = λ file s f. omega (arith, (faulted_inside file f).low);
    }
