-- What a rule looks for among earlier events, as the code tests it: whole events, each with exactly that message.
use Rattle.std.specs.Prelude.{ℕ, Bool, true, false, ◌&&◌, ◌||◌, not, List, eqb}
use Rattle.laws.specs.First.{any}
use Rattle.laws.specs.Options.{is_some_and}
use Rattle.trace.specs.Events.{event_at}
use Rattle.trace.specs.declared.Event.{Event}
use Rattle.trace.specs.declared.Event.TheVariants.{Says, Notes}
use Rattle.forms.specs.Kinds.{crypt_of, public_of}
use Rattle.forms.specs.Forms.{hello_of, reply_of, kept_of, signed_of, remembered_of}
use Rattle.earlier.specs.Heard.{Heard}
use Rattle.earlier.specs.declared.Wanted.{Wanted}
use Rattle.earlier.specs.declared.Who.{Who}
use Rattle.earlier.specs.declared.What.{What}
use Rattle.earlier.specs.declared.Note.{Note}
use Rattle.earlier.specs.declared.Wanted.TheVariants.{Said, Noted}
use Rattle.earlier.specs.declared.Who.TheVariants.{To, By, From}
use Rattle.earlier.specs.declared.What.TheVariants as what
use Rattle.earlier.specs.declared.Note.TheVariants as note

-- an event, flat
abbrev pub heard_in : Event → Heard
heard_in (Says a b r) = record { says = true; from = a.0; to = b.0; row = r.0 }
heard_in (Notes a r) = record { says = false; from = a.0; to = 0; row = r.0 }

abbrev pub heard_at : List ℕ → ℕ → Heard
heard_at file e = heard_in (event_at file e)

abbrev pub said_to : Heard → ℕ → Bool
said_to h to = h.says && eqb h.to to

abbrev pub said_by : Heard → (from to : ℕ) → Bool
said_by h from to = h.says && eqb h.from from && eqb h.to to

abbrev pub noted_by : Heard → ℕ → Bool
noted_by h from = not h.says && eqb h.from from

-- row r is CH with these parts; SH; and so on
abbrev pub is_hello : List ℕ → ℕ → (agent na sid pa : ℕ) → Bool
is_hello file r agent na sid pa = is_some_and (hello_of file r) (λ m. eqb m.agent agent && eqb m.na na && eqb m.sid sid && eqb m.pa pa)

abbrev pub is_hello_for : List ℕ → ℕ → (agent sid : ℕ) → Bool
is_hello_for file r agent sid = is_some_and (hello_of file r) (λ m. eqb m.agent agent && eqb m.sid sid)

abbrev pub is_reply : List ℕ → ℕ → (nb sid pb : ℕ) → Bool
is_reply file r nb sid pb = is_some_and (reply_of file r) (λ m. eqb m.nb nb && eqb m.sid sid && eqb m.pb pb)

abbrev pub is_reply_with : List ℕ → ℕ → ℕ → Bool
is_reply_with file r nb = is_some_and (reply_of file r) (λ m. eqb m.nb nb)

abbrev pub same_heard : Heard → Heard → Bool
same_heard h g =
    ((h.says && g.says) || (not h.says && not g.says)) && eqb h.from g.from && eqb h.to g.to && eqb h.row g.row

-- what is asked of who said it
abbrev pub said_as : Heard → Who → Bool
said_as h (To to) = said_to h to
said_as h (By from to) = said_by h from to
said_as h (From from) = h.says && eqb h.from from

-- of the message that was said, and of the one that was noted
abbrev pub holds : List ℕ → ℕ → What → Bool
holds file r (what.Hello m) = is_hello file r m.agent m.na m.sid m.pa
holds file r (what.HelloFor agent sid) = is_hello_for file r agent sid
holds file r (what.Reply m) = is_reply file r m.nb m.sid m.pb
holds file r (what.ReplyWith nb) = is_reply_with file r nb
holds file r (what.Certificate agent key) = is_some_and (signed_of file r) (λ m. eqb m.agent agent && eqb m.key key)
holds file r (what.Sent to secret) =
    is_some_and (crypt_of file r) (λ c. is_some_and (public_of file c.key) (λ agent. eqb agent to && eqb c.body secret))
holds file r (what.Under key) = is_some_and (crypt_of file r) (λ c. eqb c.key key)

abbrev pub keeps : List ℕ → ℕ → Note → Bool
keeps file r (note.Secret agent secret) = is_some_and (kept_of file r) (λ m. eqb m.agent agent && eqb m.secret secret)
keeps file r (note.Session n) =
    is_some_and (remembered_of file r) (λ m. eqb m.sid n.sid && eqb m.a n.a && eqb m.b n.b && eqb m.m n.m)

abbrev pub fits_in : List ℕ → Wanted → Heard → Bool
fits_in file (Said who w) h = said_as h who && holds file h.row w
fits_in file (Noted from n) h = noted_by h from && keeps file h.row n

-- some event before e fits
unfoldable pub earlier : List ℕ → Wanted → ℕ → Bool
earlier file wanted e = any (λ j. fits_in file wanted (heard_at file j)) e

abbrev pub past : List ℕ → ℕ → Wanted → Bool
past file e wanted = earlier file wanted e
