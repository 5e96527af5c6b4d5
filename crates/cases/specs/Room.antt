-- The sample with room behind it, as the test programs hold it: 204 bytes, and zeros up to 256.
use Rattle.std.specs.Prelude.{ℕ, ◌%◌, List, [], ◌∷◌, ◌++◌, replicate, set}
use Rattle.trace.specs.Sample.{sample}

unfoldable pub sample_room : List ℕ
sample_room = sample ++ replicate 52 0

-- a file after changes, each a place and its new byte
unfoldable pub edited : List ℕ → List (ℕ × ℕ) → List ℕ
edited file [] = file
edited file (e ∷ es) = edited (set file e.0 (e.1 % 256)) es
