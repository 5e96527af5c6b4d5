-- Demand 3 on files: the longest accepted beginning is generated, its note is in it, and what demand 3 forbids is not analysed. A mark of 2
-- is analysed. Assumes nothing.
use Prim.Native.Nat.{ℕ, ◌<◌, ◌≤◌}
use mathlib.Core.List.{List}
use mathlib.Core.Path.{◌≡◌, refl}
use native.Mathlib.Omega.{arith}
use Rattle.std.specs.Prelude.{Result}
use Rattle.paper.specs.Message.{nonce, plain, PRF, key, msg, Nonce}
use Rattle.paper.specs.Event.{In, Notes}
use Rattle.paper.specs.Spy.{Analz}
use Rattle.paper.specs.Rules.{secret_note}
use Rattle.paper.specs.Secret.{Besides, before}
use Rattle.paper.proofs.Closures.{analz_mono}
use Rattle.paper.proofs.Secret.{secret}
use Rattle.trace.specs.Meaning.{message, beginning, bad}
use Rattle.trace.specs.Promises.{Promised}
use Rattle.trace.proofs.Promised.{promises}
use Rattle.trace.specs.declared.Cause.{Cause}
use Rattle.spy.specs.Knowledge as question
use Rattle.spy.specs.Knowledge.{Mark, analysed, SeenIn}
use Rattle.earlier.proofs.Meant.{in_beginning}
use Rattle.spy.proofs.Seen.{begins, told_file}
use Rattle.judge.specs.Judged.{AcceptedTo, Judged, refused, short, illegal, accepted, verdict_length}
use Rattle.judge.specs.Promises.{Noted, MadeFrom, itself, master, SecretOnFiles, SecretUnmarked}
use Rattle.judge.specs.declared.reply.Verdict.{Verdict}
use Rattle.judge.proofs.Views.{View, view}

two_analysed : {H : msg → Type 0} {X : msg} {m : ℕ} → Mark H X m → m ≡ 2 → Analz H X
two_analysed (analysed a) e = a
two_analysed (question.made n s) e = absurd (omega arith)
two_analysed (question.neither n) e = absurd (omega arith)

-- a verdict with a length refuses nothing
long_view : {file before : List ℕ} {v : Result Verdict Cause} {after : List ℕ} → Judged file before v after → 0 < verdict_length v → View file before v after
long_view (refused t) l = absurd (omega arith)
long_view (short t s) l = absurd (omega arith)
long_view (illegal t room g k b) l = view (illegal t room g k b) refl
long_view (accepted t room g e b) l = view (accepted t room g e b) refl

module _ (file : List ℕ) (P : Promised file) (k PMS : ℕ) (N : Noted file k PMS) (g : AcceptedTo file k) where
  noted_in : In (Notes N.A (secret_note N.B (plain PMS))) (beginning file k)
  noted_in = rw N.notes at (in_beginning file N.event k N.among)

  kept : (n : ℕ) → n ≤ k → (handed : key → Type 0) →
      (¬ Analz (Besides handed (SeenIn file n)) (Nonce (plain PMS))) ×
      ((x y : nonce) → ¬ Analz (Besides handed (SeenIn file n)) (Nonce (PRF (plain PMS) x y)))
  kept n l handed =
      secret (bad file) P.authority_good (beginning file k) g N.A N.B PMS N.A_honest N.B_honest noted_in (beginning file n)
      (begins file n k l) handed

  unknown : (n : ℕ) → n ≤ k → (handed : key → Type 0) {X : msg} → MadeFrom PMS X → ¬ Analz (Besides handed (SeenIn file n)) X
  unknown n l handed itself = (kept n l handed).0
  unknown n l handed (master {x} {y}) = (kept n l handed).1 x y

pub secret_on_files : SecretOnFiles
secret_on_files file lent after v judged PMS N n l handed X made =
    let w = long_view judged (omega (arith, N.among)) in
    unknown file (promises file w.told) (verdict_length v) PMS N w.longest.accepted n l handed made

pub secret_unmarked : SecretUnmarked
secret_unmarked file lent after v judged PMS N n l lent' marks knows r lr made two =
    secret_on_files file lent after v judged PMS N n l (λ _. ⊥) (message file r) made
    (analz_mono (λ X. before) (two_analysed ((told_file knows).2.rows r lr) two))
