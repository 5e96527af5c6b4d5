-- The five idle judges are shut out: four by the cases that document 01 names, P1, P3, P8 and P5, and the one that invents a length, of which
-- P6 is an instance, by the relation itself.
-- Assumes nothing.
use Prim.Native.Nat.{ℕ, ◌<◌}
use native.Mathlib.Omega.{arith}
use mathlib.Core.List.{List}
use mathlib.Core.Logic.{inl, inr}
use mathlib.Core.Path.{◌≡◌, refl, sym, ◌∙◌, ap}
use lib.ListN.{get_or}
use Rattle.std.specs.Prelude.{Result, Ok, Err}
use Rattle.trace.specs.File.{events_of}
use Rattle.trace.proofs.Causes.{number_range}
use Rattle.trace.specs.declared.Cause.{Cause}
use Rattle.spy.specs.Knowledge.{Knows, written, answer_number}
use Rattle.spy.proofs.Knows.{one_answer}
use Rattle.judge.specs.declared.reply.Verdict.{Verdict}
use Rattle.judge.specs.declared.reply.Verdict.TheVariants.{Illegal, Accepted}
use Rattle.judge.specs.Judged.{Fits, RuleAt, lowest, note, message, Longest, Judged, illegal, verdict_number}
use Rattle.judge.specs.Cases.{Holds, P1, P3, P5, P8, All, also, marked_cases}
use Rattle.judge.specs.Idle.{Asked, AskedAfter, Judge, Meets, Idle, refuses, accepts, silent, first, invents, IdleShutOut}
use Rattle.judge.proofs.One.{one_verdict}
use Rattle.judge.proofs.Views.{view}
use Rattle.judge.proofs.Cases.{marked_cases_lem}

-- the case at a place of the list
p1 : All Holds marked_cases → Holds P1
p1 (also h _) = h

p3 : All Holds marked_cases → Holds P3
p3 (also _ (also _ (also h _))) = h

p5 : All Holds marked_cases → Holds P5
p5 (also _ (also _ (also _ (also _ (also h _))))) = h

p8 : All Holds marked_cases → Holds P8
p8 (also _ (also _ (also _ (also _ (also _ (also _ (also _ (also _ (also h _))))))))) = h

-- a file that is not refused is asked about, and a first event below 6 has its own rule
asked : {file before after : List ℕ} {v : Result Verdict Cause} → Judged file before v after → verdict_number v ≡ 0 → Asked file before
asked j e = let w = view j e in (w.told, w.room)

asked_after : {file before after : List ℕ} {n : ℕ} → Knows file n before (Ok tt) after → AskedAfter file n before
asked_after (written t room l m) = (t, room, l)

fits_alone : {file : List ℕ} {i k : ℕ} → RuleAt file i k → i ≡ 0 → k < 6 → Fits file i k
fits_alone (lowest f _ _) z l = f
fits_alone (note x) z l = absurd (omega arith)
fits_alone (message x) z l = absurd (omega arith)

first_fits : {file before after : List ℕ} {n : ℕ} → Judged file before (Ok (Illegal n)) after → 0 < n → get_or after 0 0 < 6 →
    Fits file 0 (get_or after 0 0)
first_fits (illegal _ _ _ _ b) p l = fits_alone (b.rules 0 p) refl l

-- an illegal file has an event at fault
has_events : {file before after : List ℕ} {n : ℕ} → Judged file before (Ok (Illegal n)) after → 0 < events_of file
has_events (illegal _ _ _ l _) = omega arith

longest : {file before after : List ℕ} {n : ℕ} → Judged file before (Ok (Illegal n)) after → Longest file n
longest (illegal _ _ g _ _) = g

abbrev size : Result Verdict Cause → ℕ
size (Err c) = 0
size (Ok (Illegal n)) = 1
size (Ok (Accepted n)) = 2

-- two verdicts of one file are one
module _ (J : Judge) (m : Meets J) where
  same : (file before : List ℕ) {v : Result Verdict Cause} {after : List ℕ} → Judged file before v after → J.verdict file before ≡ v
  same file before j = (one_verdict file before _ _ _ _ (m.judged file before) j).0

  shut_out : Idle J → ⊥
  shut_out (refuses (inl r)) =
      let j = p1 marked_cases_lem in
      let q = r _ _ (asked j refl) in
      omega (arith, ap size (sym q.1 ∙ same _ _ j))
  shut_out (refuses (inr r)) =
      let k = p8 marked_cases_lem in
      let q = r _ _ _ (asked_after k) in
      let e = (one_answer _ _ _ _ _ _ _ (m.knows _ _ _) k).0 in
      omega (arith, ap answer_number (sym q.1 ∙ e), (number_range q.0).0)
  shut_out (accepts a) =
      let j = p3 marked_cases_lem in
      let q = a _ _ (asked j refl) in
      omega (arith, ap size (sym (same _ _ j) ∙ q.1))
  shut_out (silent (inl s)) =
      let j = p3 marked_cases_lem in
      let q = (one_verdict _ _ _ _ _ _ (m.judged _ _) j).1 in
      omega (arith, ap (λ bytes. get_or bytes 0 0) (sym q ∙ s _ _ (asked j refl)))
  shut_out (silent (inr s)) =
      let k = p8 marked_cases_lem in
      let q = (one_answer _ _ _ _ _ _ _ (m.knows _ _ _) k).1 in
      omega (arith, ap (λ bytes. get_or bytes 0 0) (sym q ∙ s _ _ _ (asked_after k)))
  shut_out (first f) =
      let j = p5 marked_cases_lem in
      let q = f _ _ (asked j refl) (has_events j) 3 (first_fits j (omega arith) (omega arith)) in
      omega (arith, ap size (sym (same _ _ j) ∙ q.1))
  shut_out (invents (file, before, n, a, q, other)) = other (longest (rw q at (m.judged file before)))

pub idle_shut_out : IdleShutOut
idle_shut_out J i m = shut_out J m i
