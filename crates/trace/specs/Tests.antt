-- The tests of refusals 2 to 7, as the code makes them. No promise has to be believed because of this page: `Tested` says what they test.
use Rattle.std.specs.Prelude.{ℕ, ◌+◌, ◌*◌, Bool, false, ◌&&◌, ◌||◌, not, List, eqb, ltb, leb}
use Rattle.trace.specs.File.{word, row_limit, event_limit, agent_limit, rows_from, compromised_in}
use Rattle.laws.specs.Choose.{choose}
use Rattle.trace.specs.Rows.{fields_at, kind_at}
use Rattle.trace.specs.Events.{parts_at}
use Rattle.laws.specs.First.{any}
use Rattle.trace.specs.declared.header.Header.{Header}
use Rattle.trace.specs.declared.rows.Fields.{Fields}
use Rattle.trace.specs.declared.events.Parts.{Parts}

-- the contents part
abbrev pub header_of : List ℕ → Header
header_of file =
    record {
      version = word file 0;
      reserved = word file 2;
      rows_at = word file 12;
      rows = word file 14;
      events_at = word file 16;
      events = word file 18;
    }

abbrev pub wrong_version : Header → Bool
wrong_version h = not (eqb h.version 1) || not (eqb h.reserved 0)

abbrev pub wrong_set : List ℕ → Bool
wrong_set file = not (compromised_in file 0) || compromised_in file 1

abbrev pub wrong_contents : Header → ℕ → Bool
wrong_contents h len =
    ltb row_limit h.rows ||
    ltb event_limit h.events ||
    not (eqb h.rows_at rows_from) ||
    not (eqb h.events_at (rows_from + 8 * h.rows)) ||
    not (eqb len (rows_from + 8 * h.rows + 8 * h.events))

-- a reference: below the row, and of the right kind
abbrev pub nonce_below : List ℕ → ℕ → ℕ → Bool
nonce_below file r x = ltb x r && leb 2 (kind_at file x) && leb (kind_at file x) 3

abbrev pub key_below : List ℕ → ℕ → ℕ → Bool
key_below file r x = ltb x r && leb 4 (kind_at file x) && leb (kind_at file x) 6

abbrev pub three_nonces : List ℕ → ℕ → Fields → Bool
three_nonces file r f = nonce_below file r f.first && nonce_below file r f.second && nonce_below file r f.third

-- the line of each kind
abbrev pub agent_line : Fields → Bool
agent_line f = eqb f.role 0 && ltb f.first agent_limit && eqb f.second 0 && eqb f.third 0

abbrev pub value_line : Fields → Bool
value_line f = eqb f.role 0 && eqb f.second 0 && eqb f.third 0

abbrev pub prf_line : List ℕ → ℕ → Fields → Bool
prf_line file r f = eqb f.role 0 && three_nonces file r f

abbrev pub session_line : List ℕ → ℕ → Fields → Bool
session_line file r f = leb f.role 1 && three_nonces file r f

abbrev pub hash_line : ℕ → Fields → Bool
hash_line r f = eqb f.role 0 && ltb f.first r && eqb f.second 0 && eqb f.third 0

abbrev pub crypt_line : List ℕ → ℕ → Fields → Bool
crypt_line file r f = eqb f.role 0 && key_below file r f.first && ltb f.second r && eqb f.third 0

abbrev pub pair_line : ℕ → Fields → Bool
pair_line r f = eqb f.role 0 && ltb f.first r && ltb f.second r && eqb f.third 0

unfoldable pub line_of : List ℕ → ℕ → Fields → Bool
line_of file r f =
    choose (eqb f.kind 0) (agent_line f)
    (choose (eqb f.kind 1) (value_line f)
    (choose (eqb f.kind 2) (value_line f)
    (choose (eqb f.kind 3) (prf_line file r f)
    (choose (eqb f.kind 4) (agent_line f)
    (choose (eqb f.kind 5) (agent_line f)
    (choose (eqb f.kind 6) (session_line file r f)
    (choose (eqb f.kind 7) (hash_line r f)
    (choose (eqb f.kind 8) (crypt_line file r f)
    (choose (eqb f.kind 9) (pair_line r f)
    false)))))))))

abbrev pub row_fits : List ℕ → ℕ → Bool
row_fits file r = line_of file r (fields_at file r)

abbrev pub event_fits : Parts → ℕ → Bool
event_fits p rows =
    leb p.kind 1 &&
    ltb p.sender agent_limit &&
    ltb p.receiver agent_limit &&
    (eqb p.kind 0 || eqb p.receiver 0) &&
    eqb p.zero 0 &&
    ltb p.row rows &&
    eqb p.rest 0

-- rows by their five numbers
abbrev pub same_fields : Fields → Fields → Bool
same_fields f g =
    eqb f.kind g.kind &&
    eqb f.role g.role &&
    eqb f.first g.first &&
    eqb f.second g.second &&
    eqb f.third g.third

abbrev pub bad_row : List ℕ → ℕ → Bool
bad_row file r = not (row_fits file r)

abbrev pub repeated_row : List ℕ → ℕ → Bool
repeated_row file r = any (λ s. same_fields (fields_at file s) (fields_at file r)) r

abbrev pub bad_event : List ℕ → ℕ → ℕ → Bool
bad_event file rows e = not (event_fits (parts_at file e) rows)
