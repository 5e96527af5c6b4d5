-- Demand 3, the paper's secrecy goals (§5.2) with its session key compromise theorem: session keys do not help the spy.
use Rattle.std.specs.Prelude.{ℕ}
use Rattle.paper.specs.Message.{agent, Authority, nonce, plain, PRF, key, session_k, role, msg, Nonce, Key}
use Rattle.paper.specs.Event.{trace, In, Notes, Beginning}
use Rattle.paper.specs.Spy.{Spies, Analz}
use Rattle.paper.specs.Rules.{secret_note}
use Rattle.paper.specs.Generated.{Generated}

-- H, and any set of session keys that is handed to the spy besides
pub data Besides (handed : key → Type 0) (H : msg → Type 0) : msg → Type 0 where
  before : {X : msg} → H X → Besides handed H X
  besides : {r : role} {Na Nb M : nonce} → handed (session_k r Na Nb M) → Besides handed H (Key (session_k r Na Nb M))

abbrev pub Secret : Type 1
Secret =
    (bad : agent → Type 0) → ¬ bad Authority →
    (evs : trace) → Generated bad evs →
    (A B : agent) (PMS : ℕ) → ¬ bad A → ¬ bad B →
    In (Notes A (secret_note B (plain PMS))) evs →
    (evs₀ : trace) → Beginning evs₀ evs →
    (handed : key → Type 0) →
    (¬ Analz (Besides handed (Spies bad evs₀)) (Nonce (plain PMS))) ×
    ((x y : nonce) → ¬ Analz (Besides handed (Spies bad evs₀)) (Nonce (PRF (plain PMS) x y)))
