-- What `trace` promises: the table has one answer, which is computed, and a file that is not refused has rows whose references lie below
-- and are of the right kind, whose messages unfold by their kinds, and of which equal messages have equal numbers. Document 01, "The trace file".
use Rattle.std.specs.Prelude.{ℕ, ◌<◌, ◌≤◌, true, List, ◌↔◌, ◌≡◌, length, Result, Ok, ⊤}
use Rattle.paper.specs.Message as paper
use Rattle.trace.specs.File.{row_limit, event_limit, agent_limit, rows_of, events_of}
use Rattle.trace.specs.Rows.{fields_at, KeepsLine, SameBytes}
use Rattle.trace.specs.Events.{event_at, KeepsEventLine, parts_at}
use Rattle.trace.specs.Refusal.{Wrong, Told}
use Rattle.trace.specs.Kinds.{row_at}
use Rattle.trace.specs.Tests.{header_of, wrong_version, wrong_set, wrong_contents, row_fits, event_fits, same_fields}
use Rattle.trace.specs.Reading.{reading}
use Rattle.trace.specs.Meaning.{message, bad}
use Rattle.trace.specs.declared.AgentNo.{AgentNo}
use Rattle.trace.specs.declared.RowNo.{RowNo}
use Rattle.trace.specs.declared.NumberValue.{NumberValue}
use Rattle.trace.specs.declared.NonceValue.{NonceValue}
use Rattle.trace.specs.declared.Role.{Role}
use Rattle.trace.specs.declared.Role.TheVariants.{Client, Server}
use Rattle.trace.specs.declared.Row.{Row}
use Rattle.trace.specs.declared.Row.TheVariants.{Agent, Number, Nonce, Prf, PublicKey, PrivateKey, SessionKey, Hash, Crypt, Pair}
use Rattle.trace.specs.declared.Event.{Event}
use Rattle.trace.specs.declared.Event.TheVariants.{Says, Notes}
use Rattle.trace.specs.declared.Cause.{Cause}
use Rattle.trace.specs.declared.Cause.TheVariants.{WrongVersion, WrongSet, WrongContents}

-- one answer, and only one
pub record Refusals : Type 0 where
  pub told : (file : List ℕ) → Told file (reading file)
  pub one : (file : List ℕ) (r s : Result ⊤ Cause) → Told file r → Told file s → r ≡ s

-- the tests are exact, and rows are equal in their eight bytes exactly when their five numbers are
pub record Tested : Type 0 where
  pub version : (file : List ℕ) → (wrong_version (header_of file) ≡ true) ↔ Wrong file WrongVersion
  pub set : (file : List ℕ) → (wrong_set file ≡ true) ↔ Wrong file WrongSet
  pub contents : (file : List ℕ) → (wrong_contents (header_of file) (length file) ≡ true) ↔ Wrong file WrongContents
  pub line : (file : List ℕ) (r : ℕ) → (row_fits file r ≡ true) ↔ KeepsLine file r
  pub event : (file : List ℕ) (e : ℕ) → (event_fits (parts_at file e) (rows_of file) ≡ true) ↔ KeepsEventLine file e
  pub bytes : (file : List ℕ) (r s : ℕ) → (fields_at file r ≡ fields_at file s) ↔ SameBytes file r s
  pub same : (file : List ℕ) (r s : ℕ) → (same_fields (fields_at file r) (fields_at file s) ≡ true) ↔ SameBytes file r s

pub data NonceRow : Row → Type 0 where
  plain : {n : NonceValue} → NonceRow (Nonce n)
  prf : {s x y : RowNo} → NonceRow (Prf s x y)

pub data KeyRow : Row → Type 0 where
  public : {a : AgentNo} → KeyRow (PublicKey a)
  private : {a : AgentNo} → KeyRow (PrivateKey a)
  session : {r : Role} {x y z : RowNo} → KeyRow (SessionKey r x y z)

-- a reference of row r
pub record NonceBelow (file : List ℕ) (r : ℕ) (x : RowNo) : Type 0 where
  pub below : x.0 < r
  pub kind : NonceRow (row_at file x.0)

pub record KeyBelow (file : List ℕ) (r : ℕ) (x : RowNo) : Type 0 where
  pub below : x.0 < r
  pub kind : KeyRow (row_at file x.0)

-- row r keeps its kind's line
pub data Keeps (file : List ℕ) (r : ℕ) : Row → Type 0 where
  agent : {a : AgentNo} → a.0 < agent_limit → Keeps file r (Agent a)
  number : {n : NumberValue} → Keeps file r (Number n)
  nonce : {n : NonceValue} → Keeps file r (Nonce n)
  prf : {s x y : RowNo} → NonceBelow file r s → NonceBelow file r x → NonceBelow file r y → Keeps file r (Prf s x y)
  public_key : {a : AgentNo} → a.0 < agent_limit → Keeps file r (PublicKey a)
  private_key : {a : AgentNo} → a.0 < agent_limit → Keeps file r (PrivateKey a)
  session_key : {role : Role} {x y z : RowNo} →
      NonceBelow file r x → NonceBelow file r y → NonceBelow file r z → Keeps file r (SessionKey role x y z)
  hash : {x : RowNo} → x.0 < r → Keeps file r (Hash x)
  crypt : {k x : RowNo} → KeyBelow file r k → x.0 < r → Keeps file r (Crypt k x)
  pair : {x y : RowNo} → x.0 < r → y.0 < r → Keeps file r (Pair x y)

abbrev pub role_meant : Role → paper.role
role_meant Client = paper.ClientRole
role_meant Server = paper.ServerRole

-- how a row's message unfolds by its kind, where m gives the messages of the rows that it names
pub data Unfolds (m : ℕ → paper.msg) : Row → paper.msg → Type 0 where
  as_agent : {a : AgentNo} {A : paper.agent} → a.0 ≡ A → Unfolds m (Agent a) (paper.Agent A)
  as_number : {v : NumberValue} {n : ℕ} → v.0 ≡ n → Unfolds m (Number v) (paper.Number n)
  as_nonce : {v : NonceValue} {n : ℕ} → v.0 ≡ n → Unfolds m (Nonce v) (paper.Nonce (paper.plain n))
  as_prf : {s x y : RowNo} {S X Y : paper.nonce} →
      m s.0 ≡ paper.Nonce S → m x.0 ≡ paper.Nonce X → m y.0 ≡ paper.Nonce Y →
      Unfolds m (Prf s x y) (paper.Nonce (paper.PRF S X Y))
  as_public : {a : AgentNo} {A : paper.agent} → a.0 ≡ A → Unfolds m (PublicKey a) (paper.Key (paper.pub_k A))
  as_private : {a : AgentNo} {A : paper.agent} → a.0 ≡ A → Unfolds m (PrivateKey a) (paper.Key (paper.pri_k A))
  as_session : {r : Role} {x y z : RowNo} {R : paper.role} {X Y Z : paper.nonce} →
      role_meant r ≡ R → m x.0 ≡ paper.Nonce X → m y.0 ≡ paper.Nonce Y → m z.0 ≡ paper.Nonce Z →
      Unfolds m (SessionKey r x y z) (paper.Key (paper.session_k R X Y Z))
  as_hash : {x : RowNo} {X : paper.msg} → m x.0 ≡ X → Unfolds m (Hash x) (paper.Hash X)
  as_crypt : {k x : RowNo} {K : paper.key} {X : paper.msg} →
      m k.0 ≡ paper.Key K → m x.0 ≡ X → Unfolds m (Crypt k x) (paper.Crypt K X)
  as_pair : {x y : RowNo} {X Y : paper.msg} → m x.0 ≡ X → m y.0 ≡ Y → Unfolds m (Pair x y) (paper.Pair X Y)

-- an event's agents and its row exist
pub data Exists (file : List ℕ) : Event → Type 0 where
  says : {a b : AgentNo} {r : RowNo} → a.0 < agent_limit → b.0 < agent_limit → r.0 < rows_of file → Exists file (Says a b r)
  notes : {a : AgentNo} {r : RowNo} → a.0 < agent_limit → r.0 < rows_of file → Exists file (Notes a r)

pub record Promised (file : List ℕ) : Type 0 where
  pub few_rows : rows_of file ≤ row_limit
  pub few_events : events_of file ≤ event_limit
  pub spy_bad : bad file paper.Spy
  pub authority_good : ¬ bad file paper.Authority
  pub keeps : (r : ℕ) → r < rows_of file → Keeps file r (row_at file r)
  pub exists : (e : ℕ) → e < events_of file → Exists file (event_at file e)
  pub unfolds : (r : ℕ) → r < rows_of file → Unfolds (message file) (row_at file r) (message file r)
  pub apart : (r s : ℕ) → r < rows_of file → s < rows_of file → message file r ≡ message file s → r ≡ s

abbrev pub Promises : Type 0
Promises = (file : List ℕ) → Told file (Ok tt) → Promised file

-- a Number and a Nonce of one value never match
abbrev pub KeptApart : Type 0
KeptApart = (n : ℕ) → ¬ (paper.Number n ≡ paper.Nonce (paper.plain n))
