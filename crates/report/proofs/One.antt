-- A file has one text: the verdict and the rules are fixed by the file, and the text by them.
-- Assumes nothing.
use Prim.Native.Nat.{ℕ}
use mathlib.Core.List.{List, ◌++◌}
use mathlib.Core.Path.{◌≡◌, sym, ap, ◌∙◌}
use lib.ListN.{length, drop, replicate}
use Rattle.std.specs.Prelude.{Result}
use Rattle.trace.specs.File.{event_limit}
use Rattle.trace.specs.declared.Cause.{Cause}
use Rattle.judge.specs.declared.reply.Verdict.{Verdict}
use Rattle.judge.proofs.One.{one_verdict}
use Rattle.report.specs.Text.{text_of}
use Rattle.report.specs.Promises.{OneText}

same_text : {v w : Result Verdict Cause} {rules rules' : List ℕ} → (v ≡ w) × (rules ≡ rules') → text_of v rules ≡ text_of w rules'
same_text {v} {w} {rules} {rules'} e = ap (λ (x : Result Verdict Cause). text_of x rules) e.0 ∙ ap (λ (x : List ℕ). text_of w x) e.1

pub one_text : OneText
one_text file before n m after after' r s =
    let e = same_text (one_verdict file (replicate event_limit 0) _ _ _ _ r.judged s.judged) in
    let l : n ≡ m = r.size ∙ ap length e ∙ sym s.size in
    (l, r.text ∙ ap (λ (t : List ℕ). t ++ drop n before) e ∙ ap (λ (k : ℕ). text_of s.verdict s.rules ++ drop k before) l ∙ sym s.text)
