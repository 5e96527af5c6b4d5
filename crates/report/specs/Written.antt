-- What a method of the page does: it puts bytes, one after the other, into the same buffer.
use Rattle.std.specs.Prelude.{ℕ, List, ◌≡◌}
use Rattle.report.specs.Page.{Put}
use Rattle.report.specs.declared.Page.{Page}

abbrev pub Writes : (old : Page) → List ℕ → (new : Page) → Type 0
Writes old bs new = record {
  same : new.out.ghost_name ≡ old.out.ghost_name;
  put : Put old.out.now old.at bs new.out.now new.at;
}
