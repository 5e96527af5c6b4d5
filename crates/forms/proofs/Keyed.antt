-- A Finished is a Crypt under a session key of its side.
-- Assumes nothing.
use Prim.Native.Nat.{ℕ}
use mathlib.Core.Bool.{Bool, true, false, not, true≢false}
use mathlib.Core.List.{List}
use mathlib.Core.Path.{◌≡◌, refl, sym, ap}
use Rattle.std.specs.Prelude.{Some}
use Rattle.paper.specs.Message as paper
use Rattle.trace.specs.Promises.{role_meant}
use Rattle.trace.specs.declared.Role.{Role}
use Rattle.trace.specs.declared.Role.TheVariants.{Client, Server}
use Rattle.laws.specs.Choose.{choose}
use Rattle.laws.proofs.Options.{and_then_some, then_some_true}
use Rattle.forms.specs.Kinds.{server_in, crypt_of, session_of}
use Rattle.forms.specs.Forms.{agreement_of, sealed_of, under_key}
use Rattle.forms.specs.declared.leaves.Crypt.{Crypt}
use Rattle.forms.specs.declared.leaves.Session.{Session}
use Rattle.forms.specs.declared.Sealed.{Sealed}

-- the Crypt and the session key of a Finished
pub sealed_key : (file : List ℕ) (r : ℕ) {x : Sealed} → sealed_of file r ≡ Some x →
    (c : Crypt) × (s : Session) × (crypt_of file r ≡ Some c) × (session_of file c.key ≡ Some s) × (c.body ≡ x.hash) × (s.role ≡ x.role)
unfolding sealed_of
sealed_key file r h =
    let (c, ec, hc) = and_then_some h in
    let (s, es, hs) = and_then_some hc in
    let (g, eg, hg) = and_then_some {o = agreement_of file c.body} hs in
    let e = (then_some_true hg).1 in
    (c, s, ec, es, ap (λ x. x.hash) e, ap (λ x. x.role) e)

pub key_of : (file : List ℕ) (r : ℕ) (server : Bool) {x : Sealed} → sealed_of file r ≡ Some x →
    choose server (server_in x.role) (not (server_in x.role)) ≡ true → under_key file r server ≡ true
key_of file r server h t =
    let (c, s, ec, es, _, role) = sealed_key file r h in
    rw (ec, es, role) t

-- a role by its side
abbrev pub role_named : Bool → paper.role
role_named true = paper.ServerRole
role_named false = paper.ClientRole

pub role_named_lem : (o : Role) → role_named (server_in o) ≡ role_meant o
role_named_lem Client = refl
role_named_lem Server = refl

is_server : paper.role → Bool
is_server paper.ClientRole = false
is_server paper.ServerRole = true

pub role_client : (o : Role) → role_meant o ≡ paper.ClientRole → not (server_in o) ≡ true
unfolding is_server
role_client Client q = refl
role_client Server q = absurd (true≢false (ap is_server q))

pub role_server : (o : Role) → role_meant o ≡ paper.ServerRole → server_in o ≡ true
unfolding is_server
role_server Client q = absurd (true≢false (sym (ap is_server q)))
role_server Server q = refl
