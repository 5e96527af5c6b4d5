-- A row by its kind, as the code hands it out. Nobody has to believe this page: a row's message is read from its fields (`Meaning`).
use Rattle.std.specs.Prelude.{ℕ, ◌<◌, List, ◌≡◌, eqb, Result, MatchResult}
use Rattle.laws.specs.Choose.{choose}
use Rattle.trace.specs.Rows.{fields_at}
use Rattle.trace.specs.declared.rows.Fields.{Fields}
use Rattle.trace.specs.declared.rows.Kind.{Kind}
use Rattle.trace.specs.declared.rows.Kind.TheVariants as kind
use Rattle.trace.specs.declared.rows.UnknownKind.{UnknownKind}
use Rattle.trace.specs.declared.Role.{Role}
use Rattle.trace.specs.declared.Role.TheVariants.{Client, Server}
use Rattle.trace.specs.declared.Row.{Row}
use Rattle.trace.specs.declared.Row.TheVariants.{Agent, Number, Nonce, Prf, PublicKey, PrivateKey, SessionKey, Hash, Crypt, Pair}

-- the number of each kind in document 01's table
abbrev pub kind_number : Kind → ℕ
kind_number kind.Agent = 0
kind_number kind.Number = 1
kind_number kind.Nonce = 2
kind_number kind.Prf = 3
kind_number kind.PublicKey = 4
kind_number kind.PrivateKey = 5
kind_number kind.SessionKey = 6
kind_number kind.Hash = 7
kind_number kind.Crypt = 8
kind_number kind.Pair = 9

-- the kind of this number, or an error where the number is that of no kind
abbrev pub Decodes : ℕ → Result Kind UnknownKind → Type 0
Decodes n r = MatchResult r (λ k. kind_number k ≡ n) (λ e. (e.0 ≡ n) × (9 < n))

-- a kind above 9 reads as a Pair, and its row is refused
abbrev pub role_of : ℕ → Role
role_of n = choose (eqb n 0) Client Server

unfoldable pub row_of : Fields → Row
row_of f =
    choose (eqb f.kind 0) (Agent (record { 0 = f.first }))
    (choose (eqb f.kind 1) (Number (record { 0 = f.first }))
    (choose (eqb f.kind 2) (Nonce (record { 0 = f.first }))
    (choose (eqb f.kind 3) (Prf (record { 0 = f.first }) (record { 0 = f.second }) (record { 0 = f.third }))
    (choose (eqb f.kind 4) (PublicKey (record { 0 = f.first }))
    (choose (eqb f.kind 5) (PrivateKey (record { 0 = f.first }))
    (choose (eqb f.kind 6) (SessionKey (role_of f.role) (record { 0 = f.first }) (record { 0 = f.second }) (record { 0 = f.third }))
    (choose (eqb f.kind 7) (Hash (record { 0 = f.first }))
    (choose (eqb f.kind 8) (Crypt (record { 0 = f.first }) (record { 0 = f.second }))
    (Pair (record { 0 = f.first }) (record { 0 = f.second }))))))))))

abbrev pub row_at : List ℕ → ℕ → Row
row_at file r = row_of (fields_at file r)
