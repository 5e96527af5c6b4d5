-- `bench::read_full` meets its contract: what a turn reads follows what was read before it.
-- Assumes nothing.
use Rattle.std.proofs.Common.{◌≡◌, ℕ, ◌+◌, ◌≤◌, List, ◌++◌, length, take, drop, ap, sym, ◌∙◌, subst, arith, le_refl, drop_at, length-take-le, take-add}
use Rattle.std.specs.Io.KnownBytes.{Consumes}
use Rattle.std.proofs.KnownBytes.{Consumes-trans}
use Rattle.std.proofs.lemmas.List.{take-append-le}
use Rattle.std.proofs.lemmas.Slice.{take-put_mid_below}
use borrow.Rule.Slice.PartMut.{put_mid, post_of}
use Rattle.bench.proofs.read_full.Goals as goal

-- where n bytes of ys were put at a, the first a + n are those before a, then these n
put_more : (a k n : ℕ) (xs ys : List ℕ) → a ≤ length xs → n ≤ length ys → take a xs ++ take n ys ≡ take (a + n) (put_mid a k xs ys)
put_more a k n xs ys within fits =
    let after = post_of a k xs in
    let later : drop a (put_mid a k xs ys) ≡ ys ++ after = drop_at (take a xs) (ys ++ after) a (length-take-le a xs within) in
    let front = take-put_mid_below a k xs ys a (le_refl a) within in
    sym (take-add a n (put_mid a k xs ys) ∙ ap (λ l. l ++ take n (drop a (put_mid a k xs ys))) front ∙ ap (λ l. take a xs ++ take n l) later ∙ ap (λ l. take a xs ++ l) (take-append-le n ys after fits))

pub loop-size-preserved : goal.loop-size-preserved
loop-size-preserved g c =
    let read = c.in_ok-n.ensures in
    let before = c.loop-size.invariant in
    (omega arith, subst (Consumes _ _) (put_more _ _ _ _ _ before.0 read.bound.0) (Consumes-trans _ _ _ _ _ before.1 read.bytes.0))
