-- The two rules that accept a session, over rows, as the code tests them: document 01, "The fourteen steps", 10 and 11.
use Rattle.std.specs.Prelude.{ℕ, Bool, ◌&&◌, not, List, Option, Some, eqb}
use Rattle.laws.specs.First.{any}
use Rattle.laws.specs.Choose.{choose}
use Rattle.laws.specs.Options.{and_then, is_some_and}
use Rattle.trace.specs.declared.Role.{Role}
use Rattle.trace.specs.declared.Role.TheVariants.{Client, Server}
use Rattle.forms.specs.Kinds.{server_in, prf_of}
use Rattle.forms.specs.Forms.{remembered_of, sealed_of}
use Rattle.forms.specs.declared.leaves.Prf.{Prf}
use Rattle.forms.specs.declared.Remembered.{Remembered}
use Rattle.earlier.specs.Heard.{Heard}
use Rattle.earlier.specs.declared.Wanted.{Wanted}
use Rattle.earlier.specs.declared.Wanted.TheVariants.{Said, Noted}
use Rattle.earlier.specs.declared.Who.TheVariants.{To}
use Rattle.earlier.specs.declared.What.TheVariants as what
use Rattle.earlier.specs.declared.Note.TheVariants as note
use Rattle.earlier.specs.Earlier.{heard_at, said_by, said_to}
use Rattle.accepts.specs.declared.Session.{Session}
use Rattle.accepts.specs.declared.Side.{Side}

-- one side said its Finished to the other, and was told the other's, with the same hash
abbrev pub said_finished : List ℕ → Heard → Side → Session → Bool
said_finished file h by s =
    let server = server_in by.role in
    said_by h by.from by.to && is_some_and (sealed_of file h.row) (λ f.
    eqb f.sid s.sid && eqb f.a s.a && eqb f.b s.b && eqb f.m s.m && eqb f.na s.na && eqb f.nb s.nb &&
    choose server (server_in f.role) (not (server_in f.role)))

abbrev pub told_finished : List ℕ → Heard → Bool → (to hash : ℕ) → Bool
told_finished file h server to hash =
    said_to h to && is_some_and (sealed_of file h.row) (λ f.
    eqb f.hash hash && choose server (server_in f.role) (not (server_in f.role)))

unfoldable pub both_finished : List ℕ → ℕ → Side → Session → Bool
both_finished file e by s =
    any
    (λ i.
    said_finished file (heard_at file i) by s &&
    is_some_and (sealed_of file (heard_at file i).row) (λ f.
    any (λ j. told_finished file (heard_at file j) (not (server_in by.role)) by.from f.hash) e))
    e

abbrev pub side_of : Role → (from to : ℕ) → Side
side_of role from to = record { role = role; from = from; to = to }

-- the session of a note, with the Na and Nb of its M
abbrev pub session_noted : Remembered → Prf → Session
session_noted n p = record { sid = n.sid; a = n.a; b = n.b; m = n.m; na = p.na; nb = p.nb }

-- the session that a row remembers, whose M is a PRF, and the secret of that M
abbrev pub remembers : List ℕ → ℕ → Option (Session × ℕ)
remembers file r =
    and_then (remembered_of file r) (λ n.
    and_then (prf_of file n.m) (λ p.
    Some (session_noted n p, p.secret)))

unfoldable pub client_accepts : List ℕ → (Wanted → Bool) → (Side → Session → Bool) → Heard → Bool
client_accepts file find both h =
    not h.says && is_some_and (remembered_of file h.row) (λ n.
    is_some_and (prf_of file n.m) (λ p.
    eqb n.a h.from && find (Noted h.from (note.Secret n.b p.secret)) &&
    both (side_of Client n.a n.b) (session_noted n p)))

unfoldable pub server_accepts : List ℕ → (Wanted → Bool) → (Side → Session → Bool) → Heard → Bool
server_accepts file find both h =
    not h.says && is_some_and (remembered_of file h.row) (λ n.
    is_some_and (prf_of file n.m) (λ p.
    eqb n.b h.from && not (eqb n.a n.b) && find (Said (To h.from) (what.Sent h.from p.secret)) &&
    both (side_of Server n.b n.a) (session_noted n p)))
