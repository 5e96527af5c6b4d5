-- The spy: the paper's `spies` (§3.2), `analz` and `synth` (§3.1). A set of messages is a predicate on them.
use Rattle.paper.specs.Message.{agent, key, msg, pri_k, inv_key, Agent, Number, Key, Hash, Crypt, Pair}
use Rattle.std.specs.Prelude.{ℕ}
use Rattle.paper.specs.Event.{trace, In, Says, Notes}

-- What the spy starts with. Document 01 differs from the theory below the paper, which adds all public keys.
pub data Starts (bad : agent → Type 0) : msg → Type 0 where
  own : {A : agent} → bad A → Starts bad (Key (pri_k A))

-- what it sees, and what it starts with; `bad` is the compromised set
pub data Spies (bad : agent → Type 0) (evs : trace) : msg → Type 0 where
  start : {X : msg} → Starts bad X → Spies bad evs X
  said : {A B : agent} {X : msg} → In (Says A B X) evs → Spies bad evs X
  noted : {A : agent} {X : msg} → bad A → In (Notes A X) evs → Spies bad evs X

-- analysed: what can be taken apart out of H
pub data Analz (H : msg → Type 0) : msg → Type 0 where
  inj : {X : msg} → H X → Analz H X
  fst : {X Y : msg} → Analz H (Pair X Y) → Analz H X
  snd : {X Y : msg} → Analz H (Pair X Y) → Analz H Y
  decrypt : {K : key} {X : msg} → Analz H (Crypt K X) → Analz H (Key (inv_key K)) → Analz H X

-- made: what can be built from H; the key of a Crypt has to be in H itself
pub data Synth (H : msg → Type 0) : msg → Type 0 where
  known : {X : msg} → H X → Synth H X
  guess_agent : {A : agent} → Synth H (Agent A)
  guess_number : {n : ℕ} → Synth H (Number n)
  hash : {X : msg} → Synth H X → Synth H (Hash X)
  pair : {X Y : msg} → Synth H X → Synth H Y → Synth H (Pair X Y)
  crypt : {K : key} {X : msg} → H (Key K) → Synth H X → Synth H (Crypt K X)
