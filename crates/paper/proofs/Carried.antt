-- All that the proofs know of what a key exchange carries: it is Safe exactly where the pre-master secret is, and no
-- certificate is made of it. A second version of `carried` is held to these three.
-- Assumes nothing.
use Prim.Native.Nat.{ℕ}
use mathlib.Core.Bool.{true≢false}
use Rattle.paper.specs.Message.{agent, nonce, key}
use Rattle.paper.specs.Rules.{carried}
use Rattle.paper.proofs.Safe.{Safe, SafeNonce, Valid}

pub carried_valid : (K : key) (A : agent) (N : nonce) → Valid K (carried A N)
carried_valid K A N C k q = absurd (true≢false (cc))

module _ (bad : agent → Type 0) (B : agent) (p : ℕ) where
  pub carried_safe : (A : agent) (N : nonce) → SafeNonce bad B p N → Safe bad B p (carried A N)
  carried_safe A N s = s

  pub safe_carried : (A : agent) (N : nonce) → Safe bad B p (carried A N) → SafeNonce bad B p N
  safe_carried A N s = s
