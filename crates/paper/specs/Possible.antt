-- Not empty: the paper's possibility properties (§5.1), as traces that are generated for any distinct fresh values.
use Rattle.std.specs.Prelude.{ℕ, ◌≡◌, List, [], ◌∷◌}
use Rattle.paper.specs.Message.{agent, Spy, ClientRole, ServerRole, nonce, plain, PRF, key, pub_k, pri_k, session_k, Agent, Nonce, Key, Hash, Crypt, Pair}
use Rattle.paper.specs.Event.{trace, Says, Notes}
use Rattle.paper.specs.Spy.{Spies, Analz}
use Rattle.paper.specs.Used.{Used}
use Rattle.paper.specs.Rules.{CH, SH, cert, secret_note, carried, Finished, session_note}
use Rattle.paper.specs.Generated.{Generated}
use Rattle.paper.specs.Secret.{Besides}

-- the values are unused in the trace, and no two of them are equal
abbrev pub Apart : ℕ → List ℕ → Type 0
Apart n [] = Unit {0}
Apart n (m ∷ ms) = (¬ (m ≡ n)) × Apart n ms

abbrev pub Fresh : trace → List ℕ → Type 0
Fresh evs [] = Unit {0}
Fresh evs (n ∷ ns) = (¬ Used (Nonce (plain n)) evs) × Apart n ns × Fresh evs ns

module _ (A B : agent) (SID Pa Pb : ℕ) where
  -- both hellos, on top of any trace
  abbrev pub hellos : (Na Nb : ℕ) → trace → trace
  hellos Na Nb evs = Says B A (SH (plain Nb) SID Pb) ∷ Says A B (CH A (plain Na) SID Pa) ∷ evs

  abbrev pub finished : nonce → (Na Nb : ℕ) → trace → trace
  finished M Na Nb evs =
      Says B A (Finished ServerRole SID M (plain Na) Pa A (plain Nb) Pb B) ∷
      Says A B (Finished ClientRole SID M (plain Na) Pa A (plain Nb) Pb B) ∷ evs

  module _ (Na Nb PMS : ℕ) where
    abbrev pub M : nonce
    M = PRF (plain PMS) (plain Na) (plain Nb)

    -- a full handshake
    abbrev pub handshake : trace → trace
    handshake evs =
        finished M Na Nb
        (Says A B (Crypt (pub_k B) (carried A (plain PMS))) ∷
        Notes A (secret_note B (plain PMS)) ∷
        Says B A (cert B (pub_k B)) ∷ hellos Na Nb evs)

    abbrev pub verified : trace → trace
    verified evs = Says A B (Crypt (pri_k A) (Hash (Pair (Nonce (plain Nb)) (Pair (Agent B) (Nonce (plain PMS)))))) ∷ handshake evs

    abbrev pub accepted : trace → trace
    accepted evs = Notes B (session_note SID A B M) ∷ Notes A (session_note SID A B M) ∷ handshake evs

    -- new nonces, and the M of old
    abbrev pub resumed : (Na' Nb' : ℕ) → trace → trace
    resumed Na' Nb' evs = finished M Na' Nb' (hellos Na' Nb' (accepted evs))

    -- the resumed session's client key is lost
    abbrev pub lost : (Na' Nb' : ℕ) → trace → trace
    lost Na' Nb' evs = Says A Spy (Key (session_k ClientRole (plain Na') (plain Nb') M)) ∷ resumed Na' Nb' evs

    pub record Runs (bad : agent → Type 0) (evs : trace) : Type 0 where
      pub handshakes : Generated bad (handshake evs)
      pub verifies : Generated bad (verified evs)
      pub accepts : ¬ (A ≡ B) → Generated bad (accepted evs)
      pub resumes : (Na' Nb' : ℕ) → ¬ (A ≡ B) → Fresh (accepted evs) (Na' ∷ Nb' ∷ []) → Generated bad (resumed Na' Nb' evs)
      pub loses : (Na' Nb' : ℕ) → ¬ (A ≡ B) → Fresh (accepted evs) (Na' ∷ Nb' ∷ []) → Generated bad (lost Na' Nb' evs)

abbrev pub Possible : Type 1
Possible =
    (bad : agent → Type 0) (evs : trace) → Generated bad evs →
    (A B : agent) (SID Pa Pb Na Nb PMS : ℕ) →
    Fresh evs (Na ∷ Nb ∷ PMS ∷ []) → Runs A B SID Pa Pb Na Nb PMS bad evs

-- Demand 3 at work: agents 2 and 3 shake hands, resume and lose a key, the Spy alone is compromised, and both secrets are kept.
abbrev pub sample : trace
sample = lost 2 3 7 1 1 10 11 12 100 101 []

abbrev pub OnlySpy : agent → Type 0
OnlySpy A = A ≡ Spy

pub record Sample : Type 1 where
  pub generated : Generated OnlySpy sample
  pub PMS_kept : (handed : key → Type 0) → ¬ Analz (Besides handed (Spies OnlySpy sample)) (Nonce (plain 12))
  pub M_kept : (handed : key → Type 0) →
      ¬ Analz (Besides handed (Spies OnlySpy sample)) (Nonce (PRF (plain 12) (plain 10) (plain 11)))
