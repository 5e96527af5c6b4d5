-- `trace::bytes::padded` meets its contract: the bytes below k are copied.
-- Assumes nothing.
use Rattle.std.proofs.Common.{◌≡◌, ℕ, ◌+◌, ◌<◌, get_or}
use Rattle.trace.specs.File.{byte}
use Rattle.trace.proofs.bytes.padded.Given as goal

abbrev pub invariant-loop-k : goal.invariant-loop-k
invariant-loop-k l = (j : ℕ) → j < l.k → get_or l.b-items j 0 ≡ byte l.file (l.at + j)
