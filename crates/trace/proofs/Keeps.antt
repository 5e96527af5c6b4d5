-- A row that keeps its kind's line, as its row says it: references are rows of the right kind, and all else that its bytes hold is zero.
-- Assumes nothing.
use Prim.Native.Nat.{ℕ, ◌≤◌}
use mathlib.Core.List.{List}
use mathlib.Core.Path.{◌≡◌, refl, ap}
use native.Mathlib.Omega.{arith}
use native.Mathlib.Decide.{ℕ_discrete}
use Rattle.trace.specs.Rows as table
use Rattle.trace.specs.Rows.{fields_at, KeepsLine, Refers, Line}
use Rattle.trace.specs.Kinds.{role_of, row_of, row_at}
use Rattle.trace.specs.Promises.{NonceRow, plain, prf, KeyRow, public, private, session, NonceBelow, KeyBelow, Keeps, agent, number, nonce, public_key, private_key, session_key, hash, crypt, pair}
use Rattle.trace.specs.declared.rows.Fields.{Fields}
use Rattle.trace.specs.declared.Role.{Role}
use Rattle.trace.specs.declared.Role.TheVariants.{Client, Server}
use Rattle.trace.specs.declared.Row.{Row}
use Rattle.trace.specs.declared.Row.TheVariants.{Agent, Number, Nonce, Prf, PublicKey, PrivateKey, SessionKey, Hash, Crypt, Pair}
use Rattle.trace.proofs.Fits.{five}

-- the fields that a row shows
abbrev role_number : Role → ℕ
role_number Client = 0
role_number Server = 1

abbrev pub fields_of : Row → Fields
fields_of (Agent a) = record { kind = 0; role = 0; first = a.0; second = 0; third = 0 }
fields_of (Number n) = record { kind = 1; role = 0; first = n.0; second = 0; third = 0 }
fields_of (Nonce n) = record { kind = 2; role = 0; first = n.0; second = 0; third = 0 }
fields_of (Prf s x y) = record { kind = 3; role = 0; first = s.0; second = x.0; third = y.0 }
fields_of (PublicKey a) = record { kind = 4; role = 0; first = a.0; second = 0; third = 0 }
fields_of (PrivateKey a) = record { kind = 5; role = 0; first = a.0; second = 0; third = 0 }
fields_of (SessionKey r x y z) = record { kind = 6; role = role_number r; first = x.0; second = y.0; third = z.0 }
fields_of (Hash x) = record { kind = 7; role = 0; first = x.0; second = 0; third = 0 }
fields_of (Crypt k x) = record { kind = 8; role = 0; first = k.0; second = x.0; third = 0 }
fields_of (Pair x y) = record { kind = 9; role = 0; first = x.0; second = y.0; third = 0 }

nonce_at : (f : Fields) → Dec (f.kind ≡ 2) → 2 ≤ f.kind → f.kind ≤ 3 → NonceRow (row_of f)
unfolding row_of
nonce_at f (yes e) lo hi = rw e plain
nonce_at f (no n) lo hi = let e : f.kind ≡ 3 = omega arith in rw e prf

key_at : (f : Fields) → Dec (f.kind ≡ 4) → Dec (f.kind ≡ 5) → 4 ≤ f.kind → f.kind ≤ 6 → KeyRow (row_of f)
unfolding row_of
key_at f (yes e) d lo hi = rw e public
key_at f (no n) (yes e) lo hi = rw e private
key_at f (no n) (no m) lo hi = let e : f.kind ≡ 6 = omega arith in rw e session

role_shown : (n : ℕ) → Dec (n ≡ 0) → n ≤ 1 → n ≡ role_number (role_of n)
role_shown n (yes e) l = rw e
role_shown n (no d) l = let e : n ≡ 1 = omega arith in rw e

module _ (file : List ℕ) (r : ℕ) where
  nonce_kept : {x : ℕ} → Refers file r 2 3 x → NonceBelow file r (record { 0 = x })
  nonce_kept {x} h = record { below = h.below; kind = nonce_at (fields_at file x) (ℕ_discrete _ 2) h.from h.to }

  key_kept : {x : ℕ} → Refers file r 4 6 x → KeyBelow file r (record { 0 = x })
  key_kept {x} h = record { below = h.below; kind = key_at (fields_at file x) (ℕ_discrete _ 4) (ℕ_discrete _ 5) h.from h.to }

  keeps : {k o a b c : ℕ} → Line file r k o a b c → Keeps file r (row_of (five k o a b c))
  unfolding row_of
  keeps (table.agent l) = agent l
  keeps table.number = number
  keeps table.nonce = nonce
  keeps (table.prf a b c) = prf (nonce_kept a) (nonce_kept b) (nonce_kept c)
  keeps (table.public l) = public_key l
  keeps (table.private l) = private_key l
  keeps (table.session l a b c) = session_key (nonce_kept a) (nonce_kept b) (nonce_kept c)
  keeps (table.hash l) = hash l
  keeps (table.crypt k l) = crypt (key_kept k) l
  keeps (table.pair l m) = pair l m

  -- the fields of a row that keeps its line are those that its row shows, and zeros
  shows : {k o a b c : ℕ} → Line file r k o a b c → five k o a b c ≡ fields_of (row_of (five k o a b c))
  unfolding row_of
  shows (table.agent l) = refl
  shows table.number = refl
  shows table.nonce = refl
  shows (table.prf a b c) = refl
  shows (table.public l) = refl
  shows (table.private l) = refl
  shows (table.session {role = o} {Na = x} {Nb = y} {M = z} l a b c) =
      ap (λ (n : ℕ). five 6 n x y z) (role_shown o (ℕ_discrete _ 0) l)
  shows (table.hash l) = refl
  shows (table.crypt k l) = refl
  shows (table.pair l m) = refl

pub row_keeps : (file : List ℕ) (r : ℕ) → KeepsLine file r → Keeps file r (row_at file r)
row_keeps file r l = keeps file r l

pub row_shows : (file : List ℕ) (r : ℕ) → KeepsLine file r → fields_at file r ≡ fields_of (row_at file r)
row_shows file r l = shows file r l
