-- The shapes that the rules name, read from rows: their parts, or none.
use Rattle.std.specs.Prelude.{ℕ, Bool, not, ◌&&◌, List, Option, Some, eqb}
use Rattle.std.specs.Bool.{then_some}
use Rattle.laws.specs.Choose.{choose}
use Rattle.laws.specs.Options.{and_then, is_some_and}
use Rattle.paper.specs.Message.{Authority}
use Rattle.forms.specs.Kinds.{server_in, agent_of, private_of, hash_of, pair_of, crypt_of, prf_of, session_of, is_number, is_nonce, is_key}
use Rattle.forms.specs.declared.leaves.Prf.{Prf}
use Rattle.forms.specs.declared.Hello.{Hello}
use Rattle.forms.specs.declared.Reply.{Reply}
use Rattle.forms.specs.declared.Kept.{Kept}
use Rattle.forms.specs.declared.Signed.{Signed}
use Rattle.forms.specs.declared.Remembered.{Remembered}
use Rattle.forms.specs.declared.Agreed.{Agreed}
use Rattle.forms.specs.declared.Sealed.{Sealed}
use Rattle.forms.specs.declared.Verified.{Verified}

-- Pair X (Pair Y Z).
unfoldable pub three_of : List ℕ → ℕ → Option (ℕ × ℕ × ℕ)
three_of file r =
    and_then (pair_of file r) (λ p.
    and_then (pair_of file p.1) (λ q.
    Some (p.0, q.0, q.1)))

-- Pair W (Pair X (Pair Y Z)).
unfoldable pub four_of : List ℕ → ℕ → Option (ℕ × ℕ × ℕ × ℕ)
four_of file r =
    and_then (pair_of file r) (λ p.
    and_then (three_of file p.1) (λ t.
    Some (p.0, t.0, t.1, t.2)))

-- {Agent A, Na, SID, Pa}: the agent by its number, and else rows.
unfoldable pub hello_of : List ℕ → ℕ → Option Hello
hello_of file r =
    and_then (four_of file r) (λ f.
    and_then (agent_of file f.0) (λ a.
    then_some (is_nonce file f.1 && is_number file f.2 && is_number file f.3)
    (record { agent = a; na = f.1; sid = f.2; pa = f.3 })))

-- {Nb, SID, Pb}, by rows.
unfoldable pub reply_of : List ℕ → ℕ → Option Reply
reply_of file r =
    and_then (three_of file r) (λ t.
    then_some (is_nonce file t.0 && is_number file t.1 && is_number file t.2)
    (record { nb = t.0; sid = t.1; pb = t.2 }))

-- {Agent B, PMS}: the agent by its number, the secret by its row.
unfoldable pub kept_of : List ℕ → ℕ → Option Kept
kept_of file r =
    and_then (pair_of file r) (λ p.
    and_then (agent_of file p.0) (λ a.
    then_some (is_nonce file p.1)
    (record { agent = a; secret = p.1 })))

-- {Agent B, K} under the authority's private key: the agent by its number, the key by its row.
unfoldable pub signed_of : List ℕ → ℕ → Option Signed
signed_of file r =
    and_then (crypt_of file r) (λ c.
    and_then (private_of file c.key) (λ signer.
    and_then (pair_of file c.body) (λ p.
    and_then (agent_of file p.0) (λ a.
    then_some (eqb signer Authority && is_key file p.1)
    (record { agent = a; key = p.1 })))))

-- {SID, Agent A, Agent B, M}: the agents by their numbers, and else rows.
unfoldable pub remembered_of : List ℕ → ℕ → Option Remembered
remembered_of file r =
    and_then (four_of file r) (λ f.
    and_then (agent_of file f.1) (λ a.
    and_then (agent_of file f.2) (λ b.
    then_some (is_number file f.0 && is_nonce file f.3)
    (record { sid = f.0; a = a; b = b; m = f.3 }))))

-- Hash {SID, M, Na, Pa, Agent A, Nb, Pb, Agent B}: the agents by their numbers, and else rows.
unfoldable pub agreement_of : List ℕ → ℕ → Option Agreed
agreement_of file r =
    and_then (hash_of file r) (λ h.
    and_then (four_of file h) (λ f.
    and_then (pair_of file f.3) (λ p.
    and_then (four_of file p.1) (λ g.
    and_then (agent_of file g.0) (λ a.
    and_then (agent_of file g.3) (λ b.
    then_some (is_number file f.0 && is_nonce file f.1 && is_nonce file f.2 && is_number file p.0 && is_nonce file g.1 && is_number file g.2)
    (record { sid = f.0; m = f.1; na = f.2; pa = p.0; a = a; nb = g.1; pb = g.2; b = b })))))))

-- That hash under a session key of the same Na, Nb and M; `hash` is its row.
unfoldable pub sealed_of : List ℕ → ℕ → Option Sealed
sealed_of file r =
    and_then (crypt_of file r) (λ c.
    and_then (session_of file c.key) (λ s.
    and_then (agreement_of file c.body) (λ g.
    then_some (eqb s.na g.na && eqb s.nb g.nb && eqb s.m g.m)
    (record { role = s.role; hash = c.body; sid = g.sid; m = g.m; na = g.na; pa = g.pa; a = g.a; nb = g.nb; pb = g.pb; b = g.b }))))

-- row r is a Crypt under a session key of that side
abbrev pub under_key : List ℕ → ℕ → Bool → Bool
under_key file r server =
    is_some_and (crypt_of file r) (λ c.
    is_some_and (session_of file c.key) (λ s.
    choose server (server_in s.role) (not (server_in s.role))))

-- {PRF(M, Na, Nb), a session key of the same Na, Nb and M}, of either role.
unfoldable pub derived_of : List ℕ → ℕ → Option Prf
derived_of file r =
    and_then (pair_of file r) (λ p.
    and_then (prf_of file p.0) (λ f.
    and_then (session_of file p.1) (λ s.
    then_some (eqb f.secret s.m && eqb f.na s.na && eqb f.nb s.nb) f)))

-- Hash {Nb, Agent B, PMS} under a private key: signer and agent by their numbers, and else rows.
unfoldable pub verified_of : List ℕ → ℕ → Option Verified
verified_of file r =
    and_then (crypt_of file r) (λ c.
    and_then (private_of file c.key) (λ signer.
    and_then (hash_of file c.body) (λ h.
    and_then (three_of file h) (λ t.
    and_then (agent_of file t.1) (λ a.
    then_some (is_nonce file t.0 && is_nonce file t.2)
    (record { signer = signer; nb = t.0; agent = a; secret = t.2 }))))))
