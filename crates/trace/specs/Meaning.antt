-- The message of each row, over the paper's messages, and the trace of the first n events: document 01, "The trace file".
use Rattle.std.specs.Prelude.{ℕ, zero, suc, true, List, [], ◌∷◌, ◌++◌, ◌≡◌, eqb, get_or}
use Rattle.paper.specs.Message.{agent, role, ClientRole, ServerRole, nonce, plain, PRF, key, pub_k, pri_k, session_k, msg, Agent, Number, Nonce, Key, Hash, Crypt, Pair}
use Rattle.paper.specs.Event as paper
use Rattle.trace.specs.File.{compromised_in}
use Rattle.laws.specs.Choose.{choose}
use Rattle.trace.specs.Rows.{fields_at}
use Rattle.trace.specs.Events.{event_at}
use Rattle.trace.specs.declared.rows.Fields.{Fields}
use Rattle.trace.specs.declared.Event.{Event}
use Rattle.trace.specs.declared.Event.TheVariants.{Says, Notes}

-- the nonce or the key that a message is; a row that names something else is refused
abbrev pub as_nonce : msg → nonce
as_nonce (Agent A) = plain 0
as_nonce (Number n) = plain 0
as_nonce (Nonce N) = N
as_nonce (Key K) = plain 0
as_nonce (Hash X) = plain 0
as_nonce (Crypt K X) = plain 0
as_nonce (Pair X Y) = plain 0

abbrev pub as_key : msg → key
as_key (Agent A) = pub_k 0
as_key (Number n) = pub_k 0
as_key (Nonce N) = pub_k 0
as_key (Key K) = K
as_key (Hash X) = pub_k 0
as_key (Crypt K X) = pub_k 0
as_key (Pair X Y) = pub_k 0

abbrev pub role_said : ℕ → role
role_said n = choose (eqb n 0) ClientRole ServerRole

-- a row's message by its kind, from the messages of the rows that it names; a kind above 9 reads as a Pair, and its row is refused
unfoldable pub meant : (ℕ → msg) → Fields → msg
meant m f =
    choose (eqb f.kind 0) (Agent f.first)
    (choose (eqb f.kind 1) (Number f.first)
    (choose (eqb f.kind 2) (Nonce (plain f.first))
    (choose (eqb f.kind 3) (Nonce (PRF (as_nonce (m f.first)) (as_nonce (m f.second)) (as_nonce (m f.third))))
    (choose (eqb f.kind 4) (Key (pub_k f.first))
    (choose (eqb f.kind 5) (Key (pri_k f.first))
    (choose (eqb f.kind 6) (Key (session_k (role_said f.role) (as_nonce (m f.first)) (as_nonce (m f.second)) (as_nonce (m f.third))))
    (choose (eqb f.kind 7) (Hash (m f.first))
    (choose (eqb f.kind 8) (Crypt (as_key (m f.first)) (m f.second))
    (Pair (m f.first) (m f.second))))))))))

-- rows decode from the lowest up
abbrev pub among : List msg → ℕ → msg
among ms x = get_or ms x (Number 0)

unfoldable pub messages : List ℕ → ℕ → List msg
messages file zero = []
messages file (suc n) = messages file n ++ (meant (among (messages file n)) (fields_at file n) ∷ [])

unfoldable pub message : List ℕ → ℕ → msg
message file r = meant (among (messages file r)) (fields_at file r)

-- the first n events, newest first, as the paper's
abbrev pub event_meant : List ℕ → Event → paper.event
event_meant file (Says a b r) = paper.Says a.0 b.0 (message file r.0)
event_meant file (Notes a r) = paper.Notes a.0 (message file r.0)

unfoldable pub beginning : List ℕ → ℕ → paper.trace
beginning file zero = []
beginning file (suc n) = event_meant file (event_at file n) ∷ beginning file n

-- the compromised set
abbrev pub bad : List ℕ → agent → Type 0
bad file A = compromised_in file A ≡ true
