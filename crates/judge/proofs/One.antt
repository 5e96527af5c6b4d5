-- The verdict's relation has one answer: a rule number is fixed by its event, a longest beginning by its length.
-- Assumes nothing.
use Prim.Native.Nat.{ℕ, ◌<◌, ◌≤◌}
use mathlib.Core.List.{List}
use mathlib.Core.Path.{◌≡◌, refl, sym, ◌∙◌, ap}
use native.Mathlib.Omega.{arith}
use native.Mathlib.Decide.{dec_lt}
use lib.ListN.{get_or}
use lib.Seq.{ext_get_or}
use Rattle.std.specs.Prelude.{Ok, Err}
use Rattle.paper.specs.Event.{event, trace}
use Rattle.paper.specs.Message.{agent}
use Rattle.paper.specs.Rules.{Step, Exchange, ClientKeyExch}
use Rattle.paper.proofs.Steps.{no_step}
use Rattle.trace.specs.File.{events_of}
use Rattle.trace.proofs.Told.{told_readable, same_cause}
use Rattle.judge.specs.Judged.{RuleAt, lowest, note, message, RuleBytes, Longest, refused, short, illegal, accepted}
use Rattle.judge.specs.Promises.{OneVerdict}
use Rattle.judge.specs.declared.reply.Verdict.TheVariants.{Illegal, Accepted}

-- no rule of one event fits a note of rule 6
pub not_both : {bad : agent → Type 0} {evs : trace} {d e : event} {k : ℕ} → Exchange bad evs d e → ¬ Step bad evs d k
not_both (ClientKeyExch fresh i) s = no_step s

module _ (file : List ℕ) where
  pub rule_one : {i j k m : ℕ} → i ≡ j → RuleAt file i k → RuleAt file j m → k ≡ m
  rule_one e (lowest {k = k} f l n) (lowest {k = m} g h o) =
      let a : k ≤ m = l m (rw e g) in
      let b : m ≤ k = h k (rw e at f) in
      omega arith
  rule_one e (lowest f l n) (note x) = absurd (not_both x (rw e at f))
  rule_one e (lowest f l n) (message x) = absurd (n _ e x)
  rule_one e (note x) (lowest f l n) = absurd (not_both x (rw (sym e) at f))
  rule_one e (note x) (note y) = refl
  rule_one e (note x) (message y) = refl
  rule_one e (message x) (lowest f l n) = absurd (n _ (sym e) x)
  rule_one e (message x) (note y) = refl
  rule_one e (message x) (message y) = refl

  bytes_one : (n : ℕ) (before after after' : List ℕ) → RuleBytes file n before after → RuleBytes file n before after' → after ≡ after'
  bytes_one n before after after' a b =
      ext_get_or 0 after after' (a.size ∙ sym b.size) (λ i l. go i (dec_lt i n) (dec_lt i (events_of file)))
    where
      go : (i : ℕ) → Dec (i < n) → Dec (i < events_of file) → get_or after i 0 ≡ get_or after' i 0
      go i (yes l) d = rule_one refl (a.rules i l) (b.rules i l)
      go i (no l) (yes m) = a.zeros i (omega arith) m ∙ sym (b.zeros i (omega arith) m)
      go i (no l) (no m) = a.rest i (omega arith) ∙ sym (b.rest i (omega arith))

  pub longest_one : (n m : ℕ) → Longest file n → Longest file m → n ≡ m
  longest_one n m a b =
      let p : ¬ (n < m) = λ l. a.longest m l b.within b.accepted in
      let q : ¬ (m < n) = λ l. b.longest n l a.within a.accepted in
      omega arith

pub one_verdict : OneVerdict
one_verdict file before v w after after' (refused t) (refused u) = (ap Err (same_cause file t u), refl)
one_verdict file before v w after after' (refused t) (short u s) = absurd (told_readable file t u)
one_verdict file before v w after after' (refused t) (illegal u r l k b) = absurd (told_readable file t u)
one_verdict file before v w after after' (refused t) (accepted u r g e b) = absurd (told_readable file t u)
one_verdict file before v w after after' (short t s) (refused u) = absurd (told_readable file u t)
one_verdict file before v w after after' (short t s) (short u r) = (refl, refl)
one_verdict file before v w after after' (short t s) (illegal u r l k b) = absurd (omega arith)
one_verdict file before v w after after' (short t s) (accepted u r g e b) = absurd (omega arith)
one_verdict file before v w after after' (illegal t r l k b) (refused u) = absurd (told_readable file u t)
one_verdict file before v w after after' (illegal t r l k b) (short u s) = absurd (omega arith)
one_verdict file before v w after after' (illegal {n = n} t r l k b) (illegal {n = m} u s j i c) =
    let e = longest_one file n m l j in
    (ap (λ k. Ok (Illegal k)) e, bytes_one file m before after after' (rw e at b) c)
one_verdict file before v w after after' (illegal {n = n} t r l k b) (accepted {n = m} u s g e c) =
    absurd (l.longest m (omega arith) (omega arith) g)
one_verdict file before v w after after' (accepted t r g e b) (refused u) = absurd (told_readable file u t)
one_verdict file before v w after after' (accepted t r g e b) (short u s) = absurd (omega arith)
one_verdict file before v w after after' (accepted {n = n} t r g e b) (illegal {n = m} u s l k c) =
    absurd (l.longest n (omega arith) (omega arith) g)
one_verdict file before v w after after' (accepted {n = n} t r g e b) (accepted {n = m} u s h f c) =
    let q : n ≡ m = e ∙ sym f in
    (ap (λ k. Ok (Accepted k)) q, bytes_one file m before after after' (rw q at b) c)
