-- The verdict: document 01, "Questions and their replies" and "The fourteen steps", over the paper's generated traces.
use Rattle.std.specs.Prelude.{ℕ, suc, ◌<◌, ◌≤◌, List, ◌≡◌, length, get_or, Result, Ok, Err}
use Rattle.paper.specs.Event.{event}
use Rattle.paper.specs.Rules.{Step, Exchange}
use Rattle.paper.specs.Generated.{Generated}
use Rattle.trace.specs.File.{events_of}
use Rattle.trace.specs.Events.{event_at}
use Rattle.trace.specs.Refusal.{number_of, place_of, Told}
use Rattle.trace.specs.Meaning.{event_meant, beginning, bad}
use Rattle.trace.specs.declared.Cause.{Cause}
use Rattle.trace.specs.declared.Cause.TheVariants.{ShortBuffer}
use Rattle.judge.specs.declared.reply.Verdict.{Verdict}
use Rattle.judge.specs.declared.reply.Verdict.TheVariants.{Illegal, Accepted}

-- the rules generate the first n events
abbrev pub AcceptedTo : List ℕ → ℕ → Type 0
AcceptedTo file n = Generated (bad file) (beginning file n)

abbrev pub event_in : List ℕ → ℕ → event
event_in file i = event_meant file (event_at file i)

-- rule k puts event i on those before it; event i and the next are rule 6's
abbrev pub Fits : List ℕ → ℕ → ℕ → Type 0
Fits file i k = Step (bad file) (beginning file i) (event_in file i) k

abbrev pub Exchanged : List ℕ → ℕ → Type 0
Exchanged file i = Exchange (bad file) (beginning file i) (event_in file i) (event_in file (suc i))

-- the rule number of event i: the lowest that fits, but 6 for both events of rule 6, also where another fits the second
pub data RuleAt (file : List ℕ) : ℕ → ℕ → Type 0 where
  lowest : {i k : ℕ} → Fits file i k → ((j : ℕ) → Fits file i j → k ≤ j) → ((j : ℕ) → i ≡ suc j → ¬ Exchanged file j) → RuleAt file i k
  note : {i : ℕ} → Exchanged file i → RuleAt file i 6
  message : {i : ℕ} → Exchanged file i → RuleAt file (suc i) 6

-- the bytes: rule numbers of the accepted beginning, 0 for the events after it, and later bytes keep their content
pub record RuleBytes (file : List ℕ) (n : ℕ) (before after : List ℕ) : Type 0 where
  pub size : length after ≡ length before
  pub rules : (i : ℕ) → i < n → RuleAt file i (get_or after i 0)
  pub zeros : (i : ℕ) → n ≤ i → i < events_of file → get_or after i 0 ≡ 0
  pub rest : (i : ℕ) → events_of file ≤ i → get_or after i 0 ≡ get_or before i 0

-- the longest accepted beginning
pub record Longest (file : List ℕ) (n : ℕ) : Type 0 where
  pub within : n ≤ events_of file
  pub accepted : AcceptedTo file n
  pub longest : (m : ℕ) → n < m → m ≤ events_of file → ¬ AcceptedTo file m

-- the question: refusals 1 to 7, then 8, each with the buffer unwritten; or illegal; or accepted
pub data Judged (file before : List ℕ) : Result Verdict Cause → List ℕ → Type 0 where
  refused : {c : Cause} → Told file (Err c) → Judged file before (Err c) before
  short : Told file (Ok tt) → length before < events_of file → Judged file before (Err ShortBuffer) before
  illegal : {n : ℕ} {after : List ℕ} → Told file (Ok tt) → events_of file ≤ length before →
      Longest file n → n < events_of file → RuleBytes file n before after → Judged file before (Ok (Illegal n)) after
  accepted : {n : ℕ} {after : List ℕ} → Told file (Ok tt) → events_of file ≤ length before →
      AcceptedTo file n → n ≡ events_of file → RuleBytes file n before after → Judged file before (Ok (Accepted n)) after

-- document 01's number and place of a refusal, 0 for none; and the length of the longest accepted beginning
abbrev pub verdict_number : Result Verdict Cause → ℕ
verdict_number v = elim v [ Err c ↦ number_of c | Ok _ ↦ 0 ]

abbrev pub verdict_place : Result Verdict Cause → ℕ
verdict_place v = elim v [ Err c ↦ place_of c | Ok _ ↦ 0 ]

abbrev pub verdict_length : Result Verdict Cause → ℕ
verdict_length v = elim v [ Err c ↦ 0 | Ok w ↦ elim w [ Illegal n ↦ n | Accepted n ↦ n ] ]
