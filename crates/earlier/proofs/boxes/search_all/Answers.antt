-- `earlier::boxes::search_all` meets its contract: `any` searches the boxes of the range.
-- Assumes nothing.
use Rattle.std.proofs.Common.{rules, ◌∙◌, refl}
use Rattle.std.proofs.lemmas.Iterator.{YieldsList-from_range}
use Rattle.std.proofs.lemmas.Iterator.Search.{any_from_yields_List}
use borrow.Author.Tests.{tests}
use Rattle.trace.specs.File.{agent_limit}
use Rattle.laws.proofs.First.{any_range}
use Rattle.earlier.specs.Boxes.{found_in}
use Rattle.earlier.proofs.boxes.search_all.Goals as goal

pub returns : goal.returns
returns c =
    let a = c.args in
    any_from_yields_List (found_in a.file.now a.boxes.now a.wanted) _ _ _ c.any.ensures.ran
    (YieldsList-from_range 0 agent_limit agent_limit refl refl) (λ x b q k. search (rules, tests)) ∙
    any_range (found_in a.file.now a.boxes.now a.wanted) agent_limit
