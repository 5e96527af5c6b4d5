-- Safe: a set of messages without the secret p, closed under taking apart and making, which every seen message is in.
-- p is noted for B, who is not compromised: what stands under B's public key may hold anything.
-- Assumes nothing.
use Prim.Native.Nat.{ℕ}
use mathlib.Core.Path.{◌≡◌, subst}
use mathlib.Core.Logic.{◌⊎◌, inl, inr}
use Rattle.paper.specs.Message.{agent, Authority, nonce, plain, PRF, key, pub_k, pri_k, session_k, inv_key, msg, Agent, Number, Nonce, Key, Hash, Crypt, Pair}
use Rattle.paper.specs.Spy.{Analz, inj, fst, snd, decrypt, Synth, known, guess_agent, guess_number, hash, pair, crypt}
use Rattle.paper.specs.Rules.{cert}

-- a certificate names the key of its agent
abbrev pub Valid : key → msg → Type 0
Valid K X = (C : agent) (k : key) → Crypt K X ≡ cert C k → k ≡ pub_k C

module _ (bad : agent → Type 0) (B : agent) (p : ℕ) where
  abbrev pub SafeNonce : nonce → Type 0
  SafeNonce (plain n) = ¬ (n ≡ p)
  SafeNonce (PRF S x y) = ¬ (S ≡ plain p)

  abbrev pub SafeKey : key → Type 0
  SafeKey (pub_k A) = Unit {0}
  SafeKey (pri_k A) = bad A
  SafeKey (session_k r Na Nb M) = Unit {0}

  abbrev pub Safe : msg → Type 0
  Safe (Agent A) = Unit {0}
  Safe (Number n) = Unit {0}
  Safe (Nonce N) = SafeNonce N
  Safe (Key K) = SafeKey K
  Safe (Hash X) = Unit {0}
  Safe (Crypt K X) = (Safe X ⊎ (K ≡ pub_k B)) × Valid K X
  Safe (Pair X Y) = Safe X × Safe Y

  module _ (honest : ¬ bad B) (H : msg → Type 0) (safe : (X : msg) → H X → Safe X) where
    opened : (K : key) (X : msg) → Safe X ⊎ (K ≡ pub_k B) → SafeKey (inv_key K) → Safe X
    unfolding inv_key
    opened K X (inl s) k = s
    opened K X (inr e) k = absurd (honest (subst (λ (K : key). SafeKey (inv_key K)) e k))

    pub analz_safe : {X : msg} → Analz H X → Safe X
    analz_safe {X} (inj h) = safe X h
    analz_safe (fst a) = (analz_safe a).0
    analz_safe (snd a) = (analz_safe a).1
    analz_safe (decrypt {K = K} {X = X} a k) = opened K X (analz_safe a).0 (analz_safe k)

    module _ (trusted : ¬ bad Authority) where
      signed : (K : key) (X : msg) → SafeKey K → Valid K X
      signed K X k C k' e =
          let e' : K ≡ pri_k Authority = cc in
          absurd (trusted (subst (λ (K : key). SafeKey K) e' k))

      pub synth_safe : {X : msg} → Synth (Analz H) X → Safe X
      synth_safe (known a) = analz_safe a
      synth_safe guess_agent = tt
      synth_safe guess_number = tt
      synth_safe (hash s) = tt
      synth_safe (pair s t) = (synth_safe s, synth_safe t)
      synth_safe (crypt {K = K} {X = X} k s) = (inl (synth_safe s), signed K X (analz_safe k))
