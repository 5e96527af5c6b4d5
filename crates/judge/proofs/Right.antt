-- After the first e events of a readable file the marks of used rows and of known rows are the paper's, and so is what the spy can make.
-- Assumes nothing.
use Prim.Native.Nat.{ℕ, suc, ◌≤◌}
use mathlib.Core.Bool.{true, true≢false}
use mathlib.Core.List.{List}
use mathlib.Core.Path.{◌≡◌, refl, sym}
use native.Mathlib.Omega.{arith}
use lib.Dec.{ltb}
use lib.ListN.{length, length-replicate}
use Rattle.std.specs.Prelude.{Ok}
use Rattle.paper.specs.Message.{msg}
use Rattle.paper.specs.Spy.{Analz, Synth, known}
use Rattle.trace.specs.File.{row_limit, events_of}
use Rattle.trace.specs.Reading.{reading}
use Rattle.trace.specs.Meaning.{beginning}
use Rattle.trace.proofs.Promised.{promises_read}
use Rattle.closure.specs.Closure.{zeros, known_after}
use Rattle.spy.specs.Knowledge as question
use Rattle.spy.specs.Knowledge.{Mark, analysed, neither, SeenIn}
use Rattle.closure.proofs.Exact.{marks_analysed}
use Rattle.closure.proofs.Starting.{good_after}
use Rattle.spy.proofs.Makes.{marks_right}
use Rattle.used.specs.Marking.{used_after}
use Rattle.used.proofs.Exactly.{used_exactly}
use Rattle.rules.proofs.Steps.{Rights}

-- a mark tells whether its message can be made
mark_made : {H : msg → Type 0} {X : msg} {m : ℕ} → Mark H X m →
    (ltb 0 m ≡ true → Synth (Analz H) X) × (Synth (Analz H) X → ltb 0 m ≡ true)
mark_made (analysed a) = (λ _. known a, λ _. refl)
mark_made (question.made n s) = (λ _. s, λ _. refl)
mark_made (neither n) = (λ t. absurd (true≢false (sym t)), λ s. absurd (n s))

zeros_room : length (zeros row_limit) ≡ row_limit
zeros_room = length-replicate {A = ℕ} row_limit 0

pub rights : (file : List ℕ) → reading file ≡ Ok tt → (e : ℕ) → e ≤ events_of file →
    Rights file (used_after file e) (known_after file e).rows e
rights file r e l =
    let P = promises_read file r in
    let s = known_after file e in
    let g = good_after file P e l in
    let analysed = marks_analysed file P (beginning file e) s.rows s.keys g in
    record {
      used_right = used_exactly file r e l;
      known_right = λ x h. (g.sound.rows x h, analysed x h);
      made_right = λ x h.
          mark_made
          (marks_right file P (SeenIn file e) s.rows g.sound.rows analysed (suc x) (zeros row_limit) (omega arith)
          (omega (arith, P.few_rows, zeros_room)) x (omega arith));
    }
