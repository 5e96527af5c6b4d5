-- What the text promises: its numbers are decimal, a file has one text, and that is short.
use Rattle.std.specs.Prelude.{ℕ, ◌+◌, ◌*◌, ◌-◌, ◌<◌, ◌≤◌, List, [], ◌∷◌, ◌++◌, ◌≡◌, length, get_or, drop, Result}
use Rattle.trace.specs.Sample.{sample}
use Rattle.trace.specs.declared.Cause.{Cause}
use Rattle.judge.specs.Judged.{Judged}
use Rattle.judge.specs.declared.reply.Verdict.{Verdict}
use Rattle.report.specs.Text.{digits, text_of, Reported}

-- the number that digits say, the first digit first
unfoldable pub read_from : ℕ → List ℕ → ℕ
read_from v [] = v
read_from v (d ∷ ds) = read_from (10 * v + (d - 48)) ds

pub data DigitsOnly : List ℕ → Type 0 where
  none : DigitsOnly []
  also : {d : ℕ} {ds : List ℕ} → 48 ≤ d → d ≤ 57 → DigitsOnly ds → DigitsOnly (d ∷ ds)

-- for every number: read back it is the number, only digits, and no zero in front
pub record Decimal (n : ℕ) : Type 0 where
  pub reads : read_from 0 (digits n) ≡ n
  pub only : DigitsOnly (digits n)
  pub leading : 0 < n → 48 < get_or (digits n) 0 0
  pub zero : n ≡ 0 → digits n ≡ 48 ∷ []

abbrev pub AllDecimal : Type 0
AllDecimal = (n : ℕ) → Decimal n

-- one text: its length, and every byte of the buffer
abbrev pub OneText : Type 0
OneText =
    (file before : List ℕ) (n m : ℕ) (after after' : List ℕ) →
    Reported file before n after → Reported file before m after' → (n ≡ m) × (after ≡ after')

-- the text of a judged file has at most 3,600 bytes
abbrev pub ShortText : Type 0
ShortText = (file before : List ℕ) (v : Result Verdict Cause) (rules : List ℕ) → Judged file before v rules → length (text_of v rules) ≤ 3600

-- what document 01 prints for the sample, P2
abbrev pub sample_text : List ℕ
sample_text =
    48 ∷ 32 ∷ 51 ∷ 10 ∷ 49 ∷ 32 ∷ 52 ∷ 10 ∷ 50 ∷ 32 ∷ 53 ∷ 10 ∷ 51 ∷ 32 ∷ 54 ∷ 10 ∷ 52 ∷ 32 ∷ 54 ∷ 10 ∷ 53 ∷ 32 ∷ 49 ∷ 10 ∷
    97 ∷ 99 ∷ 99 ∷ 101 ∷ 112 ∷ 116 ∷ 101 ∷ 100 ∷ 32 ∷ 54 ∷ 10 ∷ []

-- and that is the text of the sample
abbrev pub SampleText : Type 0
SampleText =
    (before : List ℕ) (n : ℕ) (after : List ℕ) → Reported sample before n after →
    (n ≡ length sample_text) × (after ≡ sample_text ++ drop n before)
