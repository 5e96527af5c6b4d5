-- `event_lines::first_bad_event` meets its contract: `find` stops at the first number that passes, and the closure tests each.
-- Assumes nothing.
use Rattle.std.proofs.Common.{ℕ, Bool, true, false, ◌≡◌, rules}
use Rattle.std.proofs.lemmas.Iterator.{first_from_Range}
use Rattle.trace.specs.Tests.{bad_event}
use Rattle.laws.proofs.First.{found_is}
use Rattle.event_lines.proofs.first_bad_event.Goals as goal

pub returns : goal.returns
returns c =
    let bad : ℕ → Bool = bad_event c.args.file.now c.args.rows in
    found_is bad c.args.events _
    (first_from_Range _ _ _ _ (λ k. bad k ≡ true) (λ k. bad k ≡ false) c.find.ensures.ran
    (λ k q h. search rules) (λ k q h. (search rules, search rules)))
