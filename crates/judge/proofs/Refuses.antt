-- Refusals of a verdict are the table's: a line of it is a verdict, and so the only one.
-- Assumes nothing.
use Prim.Native.Nat.{ℕ, ◌<◌}
use mathlib.Core.List.{List}
use mathlib.Core.Path.{◌≡◌, refl, ◌∙◌, ap}
use native.Mathlib.Omega.{arith}
use Rattle.std.specs.Prelude.{Result, Err}
use Rattle.trace.specs.Refusal.{number_of, place_of}
use Rattle.trace.specs.declared.Cause.{Cause}
use Rattle.trace.specs.declared.Cause.TheVariants.{ShortBuffer}
use Rattle.judge.specs.Judged.{Judged, refused, short, illegal, accepted, verdict_number, verdict_place}
use Rattle.judge.specs.Promises.{Line, told, eight, Refuses}
use Rattle.judge.specs.declared.reply.Verdict.{Verdict}
use Rattle.judge.proofs.One.{one_verdict}
use Rattle.judge.proofs.Views.{view}

line_judged : {file before : List ℕ} {k p : ℕ} → Line file before k p →
    (c : Cause) × Judged file before (Err c) before × (number_of c ≡ k) × (place_of c ≡ p)
line_judged (told {c = c} t) = (c, refused t, refl, refl)
line_judged (eight t l) = (ShortBuffer, short t l, refl, refl)

judged_line : {file before : List ℕ} {v : Result Verdict Cause} {after : List ℕ} → Judged file before v after → 0 < verdict_number v →
    Line file before (verdict_number v) (verdict_place v)
judged_line (refused t) l = told t
judged_line (short t s) l = eight t s
judged_line (illegal t room g k b) l = absurd (omega arith)
judged_line (accepted t room g e b) l = absurd (omega arith)

judged_unwritten : {file before : List ℕ} {v : Result Verdict Cause} {after : List ℕ} → Judged file before v after → 0 < verdict_number v → after ≡ before
judged_unwritten (refused t) l = refl
judged_unwritten (short t s) l = refl
judged_unwritten (illegal t room g k b) l = absurd (omega arith)
judged_unwritten (accepted t room g e b) l = absurd (omega arith)

pub refuses : Refuses
refuses file before v after judged =
    record {
      unwritten = judged_unwritten judged;
      exactly = λ k p l. (
        λ (e, q). rw (← e, ← q) (judged_line judged (omega arith)),
        λ line.
            let h = line_judged line in
            let same = (one_verdict file before v (Err h.0) after before judged h.1).0 in
            (ap verdict_number same ∙ h.2, ap verdict_place same ∙ h.3),
      );
      longest = λ e. (view judged e).longest;
    }
