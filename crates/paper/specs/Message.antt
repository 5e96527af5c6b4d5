-- Messages: the paper's §3.1, with the keys and the pseudo-random function of §4.1. Unbounded trees over natural numbers.
use Rattle.std.specs.Prelude.{ℕ}

abbrev pub agent : Type 0
agent = ℕ

abbrev pub Spy : agent
Spy = 0

-- the paper's Server, which signs certificates
abbrev pub Authority : agent
Authority = 1

pub data role : Type 0 where
  ClientRole ServerRole : role

-- PRF is injective because it is a constructor; no plain nonce is in its range
pub data nonce : Type 0 where
  plain : ℕ → nonce
  PRF : (S Na Nb : nonce) → nonce

pub data key : Type 0 where
  pub_k pri_k : agent → key
  session_k : role → (Na Nb M : nonce) → key

-- a Number is guessable and a Nonce is not: one value under both names is two messages
pub data msg : Type 0 where
  Agent : agent → msg
  Number : ℕ → msg
  Nonce : nonce → msg
  Key : key → msg
  Hash : msg → msg
  Crypt : key → msg → msg
  Pair : msg → msg → msg

-- the key that opens what another closed
unfoldable pub inv_key : key → key
inv_key (pub_k A) = pri_k A
inv_key (pri_k A) = pub_k A
inv_key (session_k r Na Nb M) = session_k r Na Nb M
