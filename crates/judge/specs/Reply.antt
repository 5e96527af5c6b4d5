-- What the code replies to a readable file: the walk over its events, in a buffer whose first bytes are cleared.
use Rattle.std.specs.Prelude.{ℕ, true, false, List, ltb, length, Result, Ok, Err}
use Rattle.trace.specs.File.{events_of}
use Rattle.laws.specs.Choose.{choose}
use Rattle.trace.specs.declared.Cause.{Cause}
use Rattle.trace.specs.declared.Cause.TheVariants.{ShortBuffer}
use Rattle.walk.specs.Walk.{cleared, walk_file}
use Rattle.judge.specs.declared.reply.Verdict.{Verdict}
use Rattle.judge.specs.declared.reply.Verdict.TheVariants.{Illegal, Accepted}

-- by the length of the longest accepted beginning
abbrev pub verdict_at : (events n : ℕ) → Result Verdict Cause
verdict_at events n = choose (ltb n events) (Ok (Illegal n)) (Ok (Accepted n))

abbrev pub verdict_readable : List ℕ → List ℕ → Result Verdict Cause
verdict_readable file before =
    choose (ltb (length before) (events_of file)) (Err ShortBuffer)
    (verdict_at (events_of file) (walk_file file (cleared (events_of file) before)).length)

abbrev pub rules_readable : List ℕ → List ℕ → List ℕ
rules_readable file before =
    elim (ltb (length before) (events_of file)) [ true ↦ before | false ↦ (walk_file file (cleared (events_of file) before)).bytes ]
