-- The rules of one message over rows, as the code tests them: document 01, "The fourteen steps", 1 to 7 and 14. `used` and `known` are
-- the marks of the rows that are used and analysed before event e.
use Rattle.std.specs.Prelude.{ℕ, suc, Bool, ◌&&◌, not, List, eqb}
use Rattle.laws.specs.Options.{is_some_and}
use Rattle.trace.specs.File.{row_limit}
use Rattle.closure.specs.Closure.{row_marked, zeros}
use Rattle.spy.specs.Made.{made, write_marks}
use Rattle.forms.specs.Kinds.{crypt_of, public_of, session_of, is_plain}
use Rattle.forms.specs.Forms.{hello_of, reply_of, kept_of, signed_of, derived_of, verified_of}
use Rattle.earlier.specs.Heard.{Heard}
use Rattle.earlier.specs.declared.Wanted.{Wanted}
use Rattle.earlier.specs.declared.Wanted.TheVariants.{Said, Noted}
use Rattle.earlier.specs.declared.Who.TheVariants.{To, From}
use Rattle.earlier.specs.declared.What.TheVariants as what
use Rattle.earlier.specs.declared.Note.TheVariants as note
use Rattle.earlier.specs.Earlier.{said_by, noted_by}

-- a plain nonce that is not used
abbrev pub fresh : List ℕ → (used : List ℕ) → ℕ → Bool
fresh file used r = is_plain file r && not (row_marked used r)

-- the spy can make row r
abbrev pub can_make : List ℕ → (known : List ℕ) → ℕ → Bool
can_make file known r = made (write_marks file known (suc r) (zeros row_limit)) r

unfoldable pub fake : List ℕ → (known : List ℕ) → Heard → Bool
fake file known h = h.says && eqb h.from 0 && can_make file known h.row

unfoldable pub spy_keys : List ℕ → (known : List ℕ) → Heard → Bool
spy_keys file known h =
    noted_by h 0 &&
    is_some_and (derived_of file h.row) (λ f. row_marked known f.secret && row_marked known f.na && row_marked known f.nb)

unfoldable pub client_hello : List ℕ → (used : List ℕ) → Heard → Bool
client_hello file used h = h.says && is_some_and (hello_of file h.row) (λ m. eqb m.agent h.from && fresh file used m.na)

unfoldable pub server_hello : List ℕ → (used : List ℕ) → (Wanted → Bool) → Heard → Bool
server_hello file used find h =
    h.says && is_some_and (reply_of file h.row) (λ m. fresh file used m.nb && find (Said (To h.from) (what.HelloFor h.to m.sid)))

unfoldable pub certificate : List ℕ → Heard → Bool
certificate file h =
    h.says &&
    is_some_and (signed_of file h.row) (λ m. eqb m.agent h.from && is_some_and (public_of file m.key) (λ agent. eqb agent h.from))

-- rule 6: this event and the next
unfoldable pub key_exchange : List ℕ → (used : List ℕ) → (Wanted → Bool) → (note said : Heard) → Bool
key_exchange file used find note said =
    not note.says && is_some_and (kept_of file note.row) (λ k.
    fresh file used k.secret && said_by said note.from k.agent && is_some_and (crypt_of file said.row) (λ c.
    eqb c.body k.secret && find (Said (To note.from) (what.Certificate k.agent c.key))))

unfoldable pub cert_verify : List ℕ → (Wanted → Bool) → Heard → Bool
cert_verify file find h =
    h.says && is_some_and (verified_of file h.row) (λ m.
    eqb m.signer h.from && eqb m.agent h.to && find (Said (To h.from) (what.ReplyWith m.nb)) && find (Noted h.from (note.Secret h.to m.secret)))

unfoldable pub oops : List ℕ → (Wanted → Bool) → Heard → Bool
oops file find h = h.says && eqb h.to 0 && is_some_and (session_of file h.row) (λ key. find (Said (From h.from) (what.Under h.row)))
