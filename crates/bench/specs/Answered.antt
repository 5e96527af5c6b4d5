-- What the small program prints of its input.
use Rattle.std.specs.Prelude.{ℕ, ◌+◌, List, ◌≡◌, take, Option, None, Some, ⊤}
use Rattle.std.specs.Io.KnownBytes.{Appends}
use Rattle.trace.specs.Spans.{longest_file}
use Rattle.report.specs.Text.{Reported}

-- the text of the verdict on the file, from a buffer of `report`
pub record Answered (file text : List ℕ) : Type 0 where
  pub before : List ℕ
  pub size : ℕ
  pub after : List ℕ
  pub reported : Reported file before size after
  pub is : text ≡ take size after

-- where the input's bytes are known, the output grows by the text for the first of them, one more than the longest file has
abbrev pub Answers : (input before after : Option (List ℕ)) → Type 0
Answers None before after = ⊤
Answers (Some bytes) before after = (text : List ℕ) × Answered (take (longest_file + 1) bytes) text × Appends before after text
