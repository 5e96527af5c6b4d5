-- The inside of the search for repeated rows: rows with one bucket are chained, and a link is one more than a row's number, or 0.
-- No promise cites this file.
use Rattle.std.specs.Prelude.{ℕ, ◌+◌, ◌-◌, ◌*◌, ◌%◌, ◌<◌, ◌≤◌, List, ◌≡◌, ltb, get_or, length}
use Rattle.trace.specs.File.{row_limit}
use Rattle.laws.specs.Choose.{choose}
use Rattle.trace.specs.Rows.{fields_at}
use Rattle.trace.specs.declared.rows.Fields.{Fields}
use Rattle.repeats.specs.declared.Chains.{Chains}
use Rattle.repeats.specs.declared.Link.{Link}

abbrev pub buckets : ℕ
buckets = 1024

abbrev pub bucket_of : Fields → ℕ
bucket_of f = (f.kind * 97 + f.role * 31 + f.first * 7 + f.second * 61 + f.third * 523) % buckets

-- rows whose tags differ are different, and the tag of a row is kept beside its link
abbrev pub tag_of : Fields → ℕ
tag_of f = f.first + 65536 * f.second

-- at the end of a chain
abbrev pub unlinked : Link
unlinked = record { next = 0; tag = 0 }

abbrev pub next_of : List Link → ℕ → ℕ
next_of links row = (get_or links row unlinked).next

-- the tags of the rows below n are right
abbrev pub Tagged : List ℕ → List Link → ℕ → Type 0
Tagged file links n = (j : ℕ) → j < n → (get_or links j unlinked).tag ≡ tag_of (fields_at file j)

-- links lead to lower rows
abbrev pub Down : List Link → Type 0
Down links = (j : ℕ) → next_of links j ≤ j

-- row s is on the chain that begins at the link
pub data Reach (links : List Link) : ℕ → ℕ → Type 0 where
  here : {link s : ℕ} → link ≡ s + 1 → Reach links link s
  further : {link s : ℕ} → 0 < link → Reach links (next_of links (link - 1)) s → Reach links link s

-- the rows below r are chained by bucket, and have their tags
pub record Chained (file : List ℕ) (c : Chains) (r : ℕ) : Type 0 where
  pub heads_room : length c.heads ≡ buckets
  pub links_room : length c.links ≡ row_limit
  pub down : Down c.links
  pub low : (h : ℕ) → get_or c.heads h 0 ≤ r
  pub linked : (s : ℕ) → s < r → Reach c.links (get_or c.heads (bucket_of (fields_at file s)) 0) s
  pub tagged : Tagged file c.links r

-- of more rows than a file can have, the first count
abbrev pub few_rows : ℕ → ℕ
few_rows rows = choose (ltb row_limit rows) row_limit rows
