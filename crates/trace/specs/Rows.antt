-- Rows: the table of kinds in document 01, "The trace file".
use Rattle.std.specs.Prelude.{ℕ, ◌+◌, ◌*◌, ◌<◌, ◌≤◌, List, ◌≡◌}
use Rattle.trace.specs.File.{byte, word, rows_from, agent_limit}
use Rattle.trace.specs.declared.rows.Fields.{Fields}

abbrev pub fields_at : List ℕ → ℕ → Fields
fields_at file r =
    record {
      kind = byte file (rows_from + 8 * r);
      role = byte file (rows_from + 8 * r + 1);
      first = word file (rows_from + 8 * r + 2);
      second = word file (rows_from + 8 * r + 4);
      third = word file (rows_from + 8 * r + 6);
    }

abbrev pub kind_at : List ℕ → ℕ → ℕ
kind_at file r = (fields_at file r).kind

-- row r refers to x: below it, and of a kind from one number to another
pub record Refers (file : List ℕ) (r lowest highest x : ℕ) : Type 0 where
  pub below : x < r
  pub from : lowest ≤ kind_at file x
  pub to : kind_at file x ≤ highest

-- the line of each kind, by kind, role, first, second and third field; fields not named, role too, are zero
pub data Line (file : List ℕ) (r : ℕ) : (kind role first second third : ℕ) → Type 0 where
  agent : {a : ℕ} → a < agent_limit → Line file r 0 0 a 0 0
  number : {v : ℕ} → Line file r 1 0 v 0 0
  nonce : {v : ℕ} → Line file r 2 0 v 0 0
  prf : {S Na Nb : ℕ} → Refers file r 2 3 S → Refers file r 2 3 Na → Refers file r 2 3 Nb → Line file r 3 0 S Na Nb
  public : {a : ℕ} → a < agent_limit → Line file r 4 0 a 0 0
  private : {a : ℕ} → a < agent_limit → Line file r 5 0 a 0 0
  session : {role Na Nb M : ℕ} → role ≤ 1 → Refers file r 2 3 Na → Refers file r 2 3 Nb → Refers file r 2 3 M → Line file r 6 role Na Nb M
  hash : {X : ℕ} → X < r → Line file r 7 0 X 0 0
  crypt : {K X : ℕ} → Refers file r 4 6 K → X < r → Line file r 8 0 K X 0
  pair : {X Y : ℕ} → X < r → Y < r → Line file r 9 0 X Y 0

abbrev pub KeepsLine : List ℕ → ℕ → Type 0
KeepsLine file r =
    let f = fields_at file r in
    Line file r f.kind f.role f.first f.second f.third

-- equal rows are equal in all eight bytes
abbrev pub SameBytes : List ℕ → (r s : ℕ) → Type 0
SameBytes file r s = (i : ℕ) → i < 8 → byte file (rows_from + 8 * r + i) ≡ byte file (rows_from + 8 * s + i)
