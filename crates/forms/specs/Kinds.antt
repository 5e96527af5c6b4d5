-- One row by its kind: its parts, or none if it is of another.
use Rattle.std.specs.Prelude.{ℕ, Bool, true, false, List, Option, Some, None}
use Rattle.trace.specs.Kinds.{row_at}
use Rattle.trace.specs.declared.Role.{Role}
use Rattle.trace.specs.declared.Role.TheVariants.{Client, Server}
use Rattle.trace.specs.declared.Row.{Row}
use Rattle.trace.specs.declared.Row.TheVariants as row
use Rattle.forms.specs.declared.leaves.Crypt.{Crypt}
use Rattle.forms.specs.declared.leaves.Prf.{Prf}
use Rattle.forms.specs.declared.leaves.Session.{Session}

abbrev pub server_in : Role → Bool
server_in Client = false
server_in Server = true

-- An agent's number.
abbrev pub agent_in : Row → Option ℕ
agent_in (row.Agent a) = Some a.0
agent_in _ = None

unfoldable pub agent_of : List ℕ → ℕ → Option ℕ
agent_of file r = agent_in (row_at file r)

-- The agent of a public key.
abbrev pub public_in : Row → Option ℕ
public_in (row.PublicKey a) = Some a.0
public_in _ = None

unfoldable pub public_of : List ℕ → ℕ → Option ℕ
public_of file r = public_in (row_at file r)

-- The agent of a private key.
abbrev pub private_in : Row → Option ℕ
private_in (row.PrivateKey a) = Some a.0
private_in _ = None

unfoldable pub private_of : List ℕ → ℕ → Option ℕ
private_of file r = private_in (row_at file r)

-- The row that is hashed.
abbrev pub hash_in : Row → Option ℕ
hash_in (row.Hash x) = Some x.0
hash_in _ = None

unfoldable pub hash_of : List ℕ → ℕ → Option ℕ
hash_of file r = hash_in (row_at file r)

-- Both sides of a pair.
abbrev pub pair_in : Row → Option (ℕ × ℕ)
pair_in (row.Pair x y) = Some (x.0, y.0)
pair_in _ = None

unfoldable pub pair_of : List ℕ → ℕ → Option (ℕ × ℕ)
pair_of file r = pair_in (row_at file r)

abbrev pub crypt_in : Row → Option Crypt
crypt_in (row.Crypt k x) = Some (record { key = k.0; body = x.0 })
crypt_in _ = None

unfoldable pub crypt_of : List ℕ → ℕ → Option Crypt
crypt_of file r = crypt_in (row_at file r)

abbrev pub prf_in : Row → Option Prf
prf_in (row.Prf s x y) = Some (record { secret = s.0; na = x.0; nb = y.0 })
prf_in _ = None

unfoldable pub prf_of : List ℕ → ℕ → Option Prf
prf_of file r = prf_in (row_at file r)

abbrev pub session_in : Row → Option Session
session_in (row.SessionKey o x y z) = Some (record { role = o; na = x.0; nb = y.0; m = z.0 })
session_in _ = None

unfoldable pub session_of : List ℕ → ℕ → Option Session
session_of file r = session_in (row_at file r)

-- A number, which anyone can guess.
abbrev pub is_number_row : Row → Bool
is_number_row (row.Number _) = true
is_number_row _ = false

unfoldable pub is_number : List ℕ → ℕ → Bool
is_number file r = is_number_row (row_at file r)

-- Plain, or of the pseudo-random function.
abbrev pub is_nonce_row : Row → Bool
is_nonce_row (row.Nonce _) = true
is_nonce_row (row.Prf _ _ _) = true
is_nonce_row _ = false

unfoldable pub is_nonce : List ℕ → ℕ → Bool
is_nonce file r = is_nonce_row (row_at file r)

-- A plain nonce.
abbrev pub is_plain_row : Row → Bool
is_plain_row (row.Nonce _) = true
is_plain_row _ = false

unfoldable pub is_plain : List ℕ → ℕ → Bool
is_plain file r = is_plain_row (row_at file r)

-- Public, private, or of a session.
abbrev pub is_key_row : Row → Bool
is_key_row (row.PublicKey _) = true
is_key_row (row.PrivateKey _) = true
is_key_row (row.SessionKey _ _ _ _) = true
is_key_row _ = false

unfoldable pub is_key : List ℕ → ℕ → Bool
is_key file r = is_key_row (row_at file r)
