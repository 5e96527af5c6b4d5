-- The hashes of the Finished that were told to an agent, as the code marks them by their rows.
use Rattle.std.specs.Prelude.{ℕ, Bool, ◌&&◌, not, List, [], ◌∷◌, Some, None, ltb}
use Rattle.std.specs.Option.{is_some}
use Rattle.trace.specs.File.{row_limit}
use Rattle.laws.specs.First.{any}
use Rattle.laws.specs.Choose.{choose}
use Rattle.laws.specs.Options.{is_some_and}
use Rattle.forms.specs.Kinds.{server_in, crypt_of}
use Rattle.closure.specs.Closure.{row_marked, mark_row, zeros}
use Rattle.earlier.specs.declared.boxes.Boxes.{Boxes}
use Rattle.earlier.specs.Earlier.{heard_at, said_to, said_by}
use Rattle.earlier.specs.Boxes.{latest_to, chain_from, some}
use Rattle.earlier.specs.Kept.{sealed_at}
use Rattle.accepts.specs.declared.Session.{Session}
use Rattle.accepts.specs.declared.Side.{Side}
use Rattle.accepts.specs.Tests.{said_finished, told_finished}

abbrev pub mark_event : List ℕ → Boxes → Bool → (to j : ℕ) → List ℕ → List ℕ
mark_event file boxes server to j marks =
    elim (sealed_at boxes server j) [
      | Some hash ↦ choose (said_to (heard_at file j) to) (mark_row marks hash) marks
      | None ↦ marks
    ]

unfoldable pub mark_all : List ℕ → Boxes → Bool → ℕ → (events marks : List ℕ) → List ℕ
mark_all file boxes server to [] marks = marks
mark_all file boxes server to (j ∷ js) marks = mark_all file boxes server to js (mark_event file boxes server to j marks)

-- a hash past the marks is searched for
abbrev pub answered_in : (file marks : List ℕ) → ℕ → Bool → (to hash : ℕ) → Bool
answered_in file marks e server to hash =
    choose (ltb hash row_limit) (row_marked marks hash) (any (λ j. told_finished file (heard_at file j) server to hash) e)

-- one side's Finished, whose hash the other side told
abbrev pub agreed_in : List ℕ → Boxes → (marks : List ℕ) → ℕ → Side → Session → ℕ → Bool
agreed_in file boxes marks e by s i =
    let h = heard_at file i in
    let server = server_in by.role in
    said_by h by.from by.to && is_some (sealed_at boxes server i) &&
    is_some_and (crypt_of file h.row) (λ c. answered_in file marks e (not server) by.from c.body) && said_finished file h by s

-- the two passes over the boxes
unfoldable pub both_in : List ℕ → Boxes → ℕ → Side → Session → Bool
both_in file boxes e by s =
    let marks = mark_all file boxes (not (server_in by.role)) by.from (chain_from boxes (latest_to boxes by.from)) (zeros row_limit) in
    some (agreed_in file boxes marks e by s) (chain_from boxes (latest_to boxes by.to))
