-- `bench::answer` meets its contract: what was read is the input, or as much of it as the buffer holds.
-- Assumes nothing.
use Rattle.std.proofs.Common.{rules, append-nil, ◌≡◌, ℕ, ◌+◌, ◌<◌, ◌≤◌, Bool, true, false, List, [], ◌++◌, length, take, refl, arith}
use Rattle.std.specs.Prelude.{Option, None, Some, Result, Ok, Err, OnOk}
use Rattle.std.specs.Io.KnownBytes.{Consumes, IsAtEnd, Appends}
use Rattle.std.proofs.lemmas.List.{take_all, take_at, length-take-le}
use lib.Dec.{ltb}
use borrow.Author.Tests.{ltb-true, ltb-false}
use Rattle.trace.specs.Spans.{longest_file}
use Rattle.report.specs.Text.{Reported}
use Rattle.bench.specs.Answered.{Answers}
use Rattle.bench.proofs.answer.Goals as goal

-- the first n bytes, where no more than these were read, and the rest is empty or they are n
first : (n size : ℕ) (xs buffer rest : List ℕ) → length buffer ≡ n → size ≤ n → xs ≡ take size buffer ++ rest → (size < n → rest ≡ []) → take n xs ≡ take size buffer
first n size xs buffer rest l f e ended = rw e (go (ltb size n) refl)
  where
    read : length (take size buffer) ≡ size
    read = length-take-le size buffer (omega arith)

    go : (b : Bool) → ltb size n ≡ b → take n (take size buffer ++ rest) ≡ take size buffer
    go true t =
        let h = ltb-true size n t in rw (ended h) (simp append-nil (take_all n (take size buffer) (omega (arith, read, h))))
    go false t = let h = ltb-false size n t in take_at (take size buffer) rest n (omega (arith, read, f, h))

answers : (known left before after : Option (List ℕ)) (size n : ℕ) (buffer lent out : List ℕ) →
    length buffer ≡ longest_file + 1 → size ≤ length buffer → Consumes known left (take size buffer) → (size < length buffer → IsAtEnd left) →
    Reported (take size buffer) lent n out → Appends before after (take n out) → Answers known before after
answers None left before after size n buffer lent out l f c e r a = tt
answers (Some xs) None before after size n buffer lent out l f c e r a = absurd c
answers (Some xs) (Some rest) before after size n buffer lent out l f c e r a =
    let same = first (longest_file + 1) size xs buffer rest l (omega arith) c (λ h. e (omega arith)) in
    (take n out, record { before = lent; size = n; after = out; reported = rw same r; is = refl }, a)

on_ok : {T E P Q : Type 0} (r : Result T E) → (P → Q) → OnOk r P → OnOk r Q
on_ok (Ok x) f p = f p
on_ok (Err e) f p = tt

pub returns : goal.returns
returns g c =
    let read = c.in_ok-size.ensures in
    let l : length c.read_full.new.buffer ≡ longest_file + 1 = search rules in
    on_ok c.write_all.result (answers _ _ _ _ _ _ _ _ _ l read.within read.read read.ended c.report-n.ensures) c.write_all.ensures.bytes
