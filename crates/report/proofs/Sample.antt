-- The sample's text: its verdict is P2's, whatever the buffer, and the lines are computed from that.
-- Assumes nothing.
use Prim.Native.Nat.{ℕ, zero, suc, ◌<◌}
use mathlib.Core.List.{List, [], ◌∷◌, ◌++◌}
use mathlib.Core.Path.{◌≡◌, refl, sym, ◌∙◌, ap}
use native.Mathlib.Omega.{arith}
use lib.ListN.{length, get_or, drop, replicate, length-replicate}
use Rattle.std.specs.Prelude.{Result, Ok}
use Rattle.trace.specs.File.{word, event_limit, events_of}
use Rattle.trace.specs.Sample.{over, sample}
use Rattle.trace.specs.declared.Cause.{Cause}
use Rattle.judge.specs.Judged.{Judged}
use Rattle.judge.specs.Cases.{Holds, P2, marked_cases, All, also}
use Rattle.judge.specs.declared.reply.Verdict.{Verdict}
use Rattle.judge.specs.declared.reply.Verdict.TheVariants.{Accepted}
use Rattle.judge.proofs.Cases.{marked_cases_lem}
use Rattle.judge.proofs.Views.{view, readable_view, same_verdict, same_rules}
use Rattle.report.specs.Text.{digits_within, event_line, event_lines, last_line, text_of}
use Rattle.report.specs.Promises.{sample_text, SampleText}

-- the lines are fixed by the rule numbers of the events
lines_same : (rules others : List ℕ) (n : ℕ) → ((i : ℕ) → i < n → get_or rules i 0 ≡ get_or others i 0) → event_lines rules n ≡ event_lines others n
unfolding event_lines
lines_same rules others zero h = refl
lines_same rules others (suc n) h = rw (lines_same rules others n (λ i l. h i (omega arith)), h n (omega arith)) refl

abbrev found : List ℕ
found = 3 ∷ 4 ∷ 5 ∷ 6 ∷ 6 ∷ 1 ∷ 255 ∷ []

text_computed : text_of (Ok (Accepted 6)) found ≡ sample_text
unfolding digits_within event_line event_lines last_line
text_computed = refl

p2 : All Holds marked_cases → Holds P2
p2 (also _ (also h _)) = h

events : events_of sample ≡ 6
unfolding over word
events = refl

module _ (v : Result Verdict Cause) (rules : List ℕ) (j : Judged sample (replicate event_limit 0) v rules) where
  text_same : text_of v rules ≡ sample_text
  text_same =
      let a = view (p2 marked_cases_lem) refl in
      let b = readable_view j a.told (omega (arith, events, length-replicate {A = ℕ} event_limit 0)) in
      rw (← same_verdict a b)
      (ap (λ (xs : List ℕ). xs ++ last_line (Ok (Accepted 6))) (sym (lines_same found rules 6 (same_rules a b))) ∙ text_computed)

pub sample_text_lem : SampleText
sample_text_lem before n after r =
    let e = text_same r.verdict r.rules r.judged in
    (r.size ∙ ap length e, r.text ∙ ap (λ (t : List ℕ). t ++ drop n before) e)
