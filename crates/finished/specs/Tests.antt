-- The four Finished over rows, as the code tests them: document 01, "The fourteen steps", 8, 9, 12 and 13.
use Rattle.std.specs.Prelude.{ℕ, Bool, ◌&&◌, not, List, eqb, Option, None}
use Rattle.std.specs.Bool.{then_some}
use Rattle.laws.specs.Choose.{choose}
use Rattle.laws.specs.Options.{and_then, is_some_and}
use Rattle.trace.specs.declared.Role.{Role}
use Rattle.trace.specs.declared.Role.TheVariants.{Client, Server}
use Rattle.forms.specs.declared.Sealed.{Sealed}
use Rattle.forms.specs.Kinds.{server_in, prf_of}
use Rattle.forms.specs.Forms.{sealed_of}
use Rattle.earlier.specs.Heard.{Heard}
use Rattle.earlier.specs.declared.Wanted.{Wanted}
use Rattle.earlier.specs.declared.What.{What}
use Rattle.earlier.specs.declared.Note.{Note}
use Rattle.earlier.specs.declared.Wanted.TheVariants.{Said, Noted}
use Rattle.earlier.specs.declared.Who.TheVariants.{To, By}
use Rattle.earlier.specs.declared.What.TheVariants as what
use Rattle.earlier.specs.declared.Note.TheVariants as note

-- a Finished of that role, from its side to the other: the client's from A to B, the server's from B to A
abbrev pub is_own : Role → Heard → Sealed → Bool
is_own Client h m = not (server_in m.role) && eqb m.a h.from && eqb m.b h.to
is_own Server h m = server_in m.role && eqb m.b h.from && eqb m.a h.to

-- the Finished of that role, said by its own side
abbrev pub own_finished : List ℕ → Heard → Role → Option Sealed
own_finished file h role = choose h.says (and_then (sealed_of file h.row) (λ m. then_some (is_own role h m) m)) None

-- the secret of a Finished whose M is the PRF of it and the same Na and Nb
abbrev pub secret_of : List ℕ → Sealed → Option ℕ
secret_of file m = and_then (prf_of file m.m) (λ p. then_some (eqb p.na m.na && eqb p.nb m.nb) p.secret)

-- the hello, the reply and the session that a Finished holds
abbrev pub hello_in : Sealed → What
hello_in m = what.Hello (record { agent = m.a; na = m.na; sid = m.sid; pa = m.pa })

abbrev pub reply_in : Sealed → What
reply_in m = what.Reply (record { nb = m.nb; sid = m.sid; pb = m.pb })

abbrev pub session_in : Sealed → Note
session_in m = note.Session (record { sid = m.sid; a = m.a; b = m.b; m = m.m })

-- the hello and the reply of a Finished: A said CH and was told SH, B was told CH and said SH
abbrev pub greeted : (Wanted → Bool) → Sealed → Bool
greeted find m =
    elim m.role [
      | Client ↦ find (Said (By m.a m.b) (hello_in m)) && find (Said (To m.a) (reply_in m))
      | Server ↦ find (Said (To m.b) (hello_in m)) && find (Said (By m.b m.a) (reply_in m))
    ]

unfoldable pub client_finished : List ℕ → (Wanted → Bool) → Heard → Bool
client_finished file find h =
    is_some_and (own_finished file h Client) (λ m.
    is_some_and (secret_of file m) (λ secret.
    greeted find m && find (Noted m.a (note.Secret m.b secret))))

unfoldable pub server_finished : List ℕ → (Wanted → Bool) → Heard → Bool
server_finished file find h =
    is_some_and (own_finished file h Server) (λ m.
    is_some_and (secret_of file m) (λ secret.
    greeted find m && find (Said (To m.b) (what.Sent m.b secret))))

unfoldable pub client_resume : List ℕ → (Wanted → Bool) → Heard → Bool
client_resume file find h =
    is_some_and (own_finished file h Client) (λ m.
    greeted find m && find (Noted m.a (session_in m)))

unfoldable pub server_resume : List ℕ → (Wanted → Bool) → Heard → Bool
server_resume file find h =
    is_some_and (own_finished file h Server) (λ m.
    greeted find m && find (Noted m.b (session_in m)))
