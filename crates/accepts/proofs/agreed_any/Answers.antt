-- `accepts::agreed_any` meets its contract: `any` tests the events of the box.
-- Assumes nothing.
use Rattle.std.proofs.Common.{rules}
use Rattle.std.proofs.lemmas.Iterator.Search.{any_from_yields_List}
use Rattle.std.proofs.lemmas.Iterator.Consumers.{YieldsList-from_first}
use borrow.Author.Tests.{tests}
use Rattle.earlier.specs.Boxes.{rest_of}
use Rattle.accepts.specs.Hashes.{agreed_in}
use Rattle.accepts.proofs.agreed_any.Goals as goal

pub returns : goal.returns
returns c =
    let a = c.args in
    any_from_yields_List (agreed_in a.file.now a.boxes.now a.marks.now a.e a.by a.s) c.any.new.self _ _ c.any.ensures.ran
    (YieldsList-from_first (λ x. x) rest_of _ c.events_to.ensures)
    (λ x b q k. search (rules, tests))
