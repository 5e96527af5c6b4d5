-- The card of an event: what its message is, as the searches compare it. No promise cites this file.
use Rattle.std.specs.Prelude.{ℕ, Bool, false, ◌&&◌, List, Option, Some, None, eqb}
use Rattle.laws.specs.Choose.{choose}
use Rattle.forms.specs.Kinds.{crypt_of, public_of}
use Rattle.forms.specs.Forms.{hello_of, reply_of, kept_of, signed_of, remembered_of}
use Rattle.forms.specs.declared.leaves.Crypt.{Crypt}
use Rattle.forms.specs.declared.Hello.{Hello}
use Rattle.forms.specs.declared.Reply.{Reply}
use Rattle.forms.specs.declared.Kept.{Kept}
use Rattle.forms.specs.declared.Signed.{Signed}
use Rattle.forms.specs.declared.Remembered.{Remembered}
use Rattle.earlier.specs.Heard.{Heard}
use Rattle.earlier.specs.declared.Wanted.{Wanted}
use Rattle.earlier.specs.declared.What.{What}
use Rattle.earlier.specs.declared.Note.{Note}
use Rattle.earlier.specs.declared.Wanted.TheVariants.{Said, Noted}
use Rattle.earlier.specs.declared.What.TheVariants as what
use Rattle.earlier.specs.declared.Note.TheVariants as note
use Rattle.earlier.specs.declared.cards.Card.{Card}
use Rattle.earlier.specs.declared.cards.Card.TheVariants as card
use Rattle.earlier.specs.Earlier.{said_as, noted_by}

-- a Crypt: a certificate, a secret under a public key, or any other; each with the row of its key
abbrev pub crypt_card : Crypt → Option Signed → Option ℕ → Card
crypt_card c (Some m) k = card.Certificate c.key m
crypt_card c None (Some agent) = card.Sent c.key agent c.body
crypt_card c None None = card.Crypt c.key

-- what is said in the clear: CH, SH, or none that is looked for
abbrev pub clear_card : Option Hello → Option Reply → Card
clear_card (Some m) n = card.Hello m
clear_card None (Some n) = card.Reply n
clear_card None None = card.Other

abbrev pub said_card : List ℕ → ℕ → Card
said_card file r =
    elim (crypt_of file r) [
      | Some c ↦ crypt_card c (signed_of file r) (public_of file c.key)
      | None ↦ clear_card (hello_of file r) (reply_of file r)
    ]

-- what is noted: {Agent B, PMS}, a session, or none
abbrev pub noted_with : Option Kept → Option Remembered → Card
noted_with (Some m) n = card.Secret m
noted_with None (Some n) = card.Session n
noted_with None None = card.Other

abbrev pub card_of : List ℕ → Heard → Card
card_of file h = choose h.says (said_card file h.row) (noted_with (kept_of file h.row) (remembered_of file h.row))

-- what is asked of the message
abbrev pub fits_said : What → Card → Bool
fits_said (what.Hello w) (card.Hello m) = eqb m.agent w.agent && eqb m.na w.na && eqb m.sid w.sid && eqb m.pa w.pa
fits_said (what.HelloFor agent sid) (card.Hello m) = eqb m.agent agent && eqb m.sid sid
fits_said (what.Reply w) (card.Reply m) = eqb m.nb w.nb && eqb m.sid w.sid && eqb m.pb w.pb
fits_said (what.ReplyWith nb) (card.Reply m) = eqb m.nb nb
fits_said (what.Certificate agent key) (card.Certificate under m) = eqb m.agent agent && eqb m.key key
fits_said (what.Sent to secret) (card.Sent under agent body) = eqb agent to && eqb body secret
fits_said (what.Under key) (card.Certificate under m) = eqb under key
fits_said (what.Under key) (card.Sent under agent body) = eqb under key
fits_said (what.Under key) (card.Crypt under) = eqb under key
fits_said _ _ = false

abbrev pub fits_noted : Note → Card → Bool
fits_noted (note.Secret agent secret) (card.Secret m) = eqb m.agent agent && eqb m.secret secret
fits_noted (note.Session n) (card.Session m) = eqb m.sid n.sid && eqb m.a n.a && eqb m.b n.b && eqb m.m n.m
fits_noted _ _ = false

abbrev pub fits_card : Wanted → Card → Bool
fits_card (Said who w) c = fits_said w c
fits_card (Noted from n) c = fits_noted n c

-- and of who said or noted it
abbrev pub fits_agents : Wanted → Heard → Bool
fits_agents (Said who w) h = said_as h who
fits_agents (Noted from n) h = noted_by h from
