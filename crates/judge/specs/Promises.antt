-- What the verdict and the part at fault promise beside their relations: one answer, refusals as the table has them, and demand 3 on files.
use Rattle.std.specs.Prelude.{ℕ, ◌<◌, ◌≤◌, List, ◌↔◌, ◌≡◌, length, get_or, Result, Ok, Err}
use Rattle.std.specs.Borrow.{Bor}
use Rattle.paper.specs.Message.{agent, nonce, plain, PRF, key, msg, Nonce}
use Rattle.paper.specs.Event.{Notes}
use Rattle.paper.specs.Spy.{Analz}
use Rattle.paper.specs.Rules.{secret_note}
use Rattle.paper.specs.Secret.{Besides}
use Rattle.trace.specs.File.{rows_of, events_of}
use Rattle.trace.specs.Meaning.{message, bad}
use Rattle.trace.specs.Refusal.{number_of, place_of, Told}
use Rattle.trace.specs.declared.Span.{Span}
use Rattle.trace.specs.declared.Cause.{Cause}
use Rattle.spy.specs.Knowledge.{Knows, SeenIn}
use Rattle.judge.specs.Judged.{event_in, Longest, Judged, verdict_number, verdict_place, verdict_length}
use Rattle.judge.specs.Faulted.{Faulted, FaultPart}
use Rattle.judge.specs.declared.reply.Verdict.{Verdict}

-- one answer only: the reply and every lent byte
abbrev pub OneVerdict : Type 0
OneVerdict =
    (file before : List ℕ) (v w : Result Verdict Cause) (after after' : List ℕ) →
    Judged file before v after → Judged file before w after' → (v ≡ w) × (after ≡ after')

-- one span at fault, and one part: two parts hold the same, and stand in the same place
abbrev pub OneFault : Type 0
OneFault = (file : List ℕ) (s t : Span) → Faulted file s → Faulted file t → s ≡ t

abbrev pub OnePart : Type 0
OnePart = (file p q : Bor (List ℕ)) → FaultPart file p → FaultPart file q → (p.now ≡ q.now) × (p.ref_ptr ≡ q.ref_ptr)

-- the lines of the table for this question, by number and place: refusals 1 to 7 of the file, then 8
pub data Line (file before : List ℕ) : (number place : ℕ) → Type 0 where
  told : {c : Cause} → Told file (Err c) → Line file before (number_of c) (place_of c)
  eight : Told file (Ok tt) → length before < events_of file → Line file before 8 0

-- a refused call changes no lent byte; a number is given, with its place, exactly when its line says so; else the length is the longest
pub record Refusing (file before : List ℕ) (v : Result Verdict Cause) (after : List ℕ) : Type 0 where
  pub unwritten : 0 < verdict_number v → after ≡ before
  pub exactly : (k p : ℕ) → 0 < k → ((verdict_number v ≡ k) × (verdict_place v ≡ p)) ↔ Line file before k p
  pub longest : verdict_number v ≡ 0 → Longest file (verdict_length v)

abbrev pub Refuses : Type 0
Refuses = (file before : List ℕ) (v : Result Verdict Cause) (after : List ℕ) → Judged file before v after → Refusing file before v after

-- among the first n events A noted the pre-master secret for B, neither compromised
pub record Noted (file : List ℕ) (n PMS : ℕ) : Type 0 where
  pub event : ℕ
  pub A : agent
  pub B : agent
  pub among : event < n
  pub notes : event_in file event ≡ Notes A (secret_note B (plain PMS))
  pub A_honest : ¬ bad file A
  pub B_honest : ¬ bad file B

-- the secret, or a master secret made from it with any two nonces
pub data MadeFrom (PMS : ℕ) : msg → Type 0 where
  itself : MadeFrom PMS (Nonce (plain PMS))
  master : {x y : nonce} → MadeFrom PMS (Nonce (PRF (plain PMS) x y))

-- demand 3 on files: after each event of the longest accepted beginning, whatever session keys are handed to the spy besides
abbrev pub SecretOnFiles : Type 1
SecretOnFiles =
    (file before after : List ℕ) (v : Result Verdict Cause) → Judged file before v after →
    (PMS : ℕ) → Noted file (verdict_length v) PMS →
    (n : ℕ) → n ≤ verdict_length v → (handed : key → Type 0) →
    (X : msg) → MadeFrom PMS X → ¬ Analz (Besides handed (SeenIn file n)) X

-- so the knowledge question does not write 2 there
abbrev pub SecretUnmarked : Type 0
SecretUnmarked =
    (file before after : List ℕ) (v : Result Verdict Cause) → Judged file before v after →
    (PMS : ℕ) → Noted file (verdict_length v) PMS →
    (n : ℕ) → n ≤ verdict_length v → (lent marks : List ℕ) → Knows file n lent (Ok tt) marks →
    (r : ℕ) → r < rows_of file → MadeFrom PMS (message file r) → ¬ (get_or marks r 0 ≡ 2)
