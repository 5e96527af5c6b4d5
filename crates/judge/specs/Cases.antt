-- The marked cases of document 01, "The sample, and cases beside it": one list, and one claim over it.
use Rattle.std.specs.Prelude.{ℕ, suc, List, [], ◌∷◌, replicate, Ok}
use Rattle.trace.specs.File.{rows_of, events_of}
use Rattle.trace.specs.Sample.{over, says, hello, reply, signed, noted, sent, replayed, sample, empty}
use Rattle.spy.specs.Knowledge.{Knows}
use Rattle.judge.specs.declared.reply.Verdict.{Verdict}
use Rattle.judge.specs.declared.reply.Verdict.TheVariants.{Illegal, Accepted}
use Rattle.judge.specs.Judged.{Judged}

-- a question about a file, and its answer
pub data Case : Type 0 where
  verdict : (file : List ℕ) → Verdict → (rules : List ℕ) → Case
  knowledge : (file : List ℕ) (n : ℕ) (marks : List ℕ) → Case

-- the buffer has one byte more than the answer, which keeps its content
abbrev pub buffer : ℕ → List ℕ
buffer n = replicate (suc n) 255

abbrev pub Holds : Case → Type 0
Holds (verdict file v rules) = Judged file (buffer (events_of file)) (Ok v) rules
Holds (knowledge file n marks) = Knows file n (buffer (rows_of file)) (Ok tt) marks

abbrev pub P1 : Case
P1 = verdict empty (Accepted 0) (255 ∷ [])

abbrev pub P2 : Case
P2 = verdict sample (Accepted 6) (3 ∷ 4 ∷ 5 ∷ 6 ∷ 6 ∷ 1 ∷ 255 ∷ [])

abbrev pub P3 : Case
P3 = verdict (over 1 4 (hello (reply (signed (noted []))))) (Illegal 3) (3 ∷ 4 ∷ 5 ∷ 0 ∷ 255 ∷ [])

abbrev pub P4 : Case
P4 = verdict (over 1 6 (hello (reply (signed (sent (noted (replayed []))))))) (Illegal 3) (3 ∷ 4 ∷ 5 ∷ 0 ∷ 0 ∷ 0 ∷ 255 ∷ [])

abbrev pub P5 : Case
P5 =
    verdict (over 1 7 (hello (reply (signed (noted (sent (replayed (hello [])))))))) (Illegal 6)
    (3 ∷ 4 ∷ 5 ∷ 6 ∷ 6 ∷ 1 ∷ 0 ∷ 255 ∷ [])

abbrev pub P6 : Case
P6 = verdict (over 1 5 (hello (reply (noted (sent (replayed [])))))) (Illegal 2) (3 ∷ 4 ∷ 0 ∷ 0 ∷ 0 ∷ 255 ∷ [])

-- event 5 says row 14
abbrev pub P7 : Case
P7 = verdict (over 1 6 (hello (reply (signed (noted (sent (says 0 3 14 []))))))) (Illegal 5) (3 ∷ 4 ∷ 5 ∷ 6 ∷ 6 ∷ 0 ∷ 255 ∷ [])

abbrev pub P7_set_9 : Case
P7_set_9 = verdict (over 9 6 (hello (reply (signed (noted (sent (says 0 3 14 []))))))) (Accepted 6) (3 ∷ 4 ∷ 5 ∷ 6 ∷ 6 ∷ 1 ∷ 255 ∷ [])

abbrev pub P8 : Case
P8 = knowledge sample 6 (2 ∷ 2 ∷ 2 ∷ 2 ∷ 2 ∷ 2 ∷ 2 ∷ 2 ∷ 2 ∷ 1 ∷ 0 ∷ 0 ∷ 0 ∷ 2 ∷ 0 ∷ 0 ∷ 2 ∷ 255 ∷ [])

abbrev pub P9 : Case
P9 =
    knowledge (over 9 6 (hello (reply (signed (noted (sent (replayed []))))))) 6
    (2 ∷ 2 ∷ 2 ∷ 2 ∷ 2 ∷ 2 ∷ 2 ∷ 2 ∷ 2 ∷ 1 ∷ 0 ∷ 0 ∷ 0 ∷ 2 ∷ 2 ∷ 1 ∷ 2 ∷ 255 ∷ [])

-- agent 2 greets itself
abbrev pub P10 : Case
P10 = verdict (over 1 1 (says 2 2 6 [])) (Accepted 1) (3 ∷ 255 ∷ [])

abbrev pub marked_cases : List Case
marked_cases = P1 ∷ P2 ∷ P3 ∷ P4 ∷ P5 ∷ P6 ∷ P7 ∷ P7_set_9 ∷ P8 ∷ P9 ∷ P10 ∷ []

pub data All (Q : Case → Type 0) : List Case → Type 0 where
  none : All Q []
  also : {c : Case} {cs : List Case} → Q c → All Q cs → All Q (c ∷ cs)

abbrev pub MarkedCases : Type 0
MarkedCases = All Holds marked_cases
