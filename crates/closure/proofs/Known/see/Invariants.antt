-- `closure::Known::see` meets its contract: what is left to settle stays the same.
-- Assumes nothing.
use Rattle.std.proofs.Common.{◌≡◌, ◌-◌}
use Rattle.trace.specs.File.{row_limit}
use Rattle.closure.specs.Closure.{state_of, settle}
use Rattle.closure.proofs.Known.see.Given as goal

abbrev pub invariant-loop : goal.invariant-loop
invariant-loop l =
    let i = l.initial in
    settle l.file (row_limit - l.counter) (state_of l.self.rows l.self.keys l.fresh) ≡ settle l.file row_limit (state_of i.self.rows i.self.keys i.fresh)
