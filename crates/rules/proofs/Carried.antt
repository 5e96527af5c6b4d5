-- The question with marks: where each marked row can be made, the answer is the definition's, and each marked row can be made again.
-- Assumes nothing.
use Prim.Native.Nat.{ℕ, zero, suc, ◌<◌}
use mathlib.Core.Bool.{Bool, true, ◌&&◌}
use mathlib.Core.List.{List}
use mathlib.Core.Path.{◌≡◌, refl, sym, ◌∙◌, ap, subst}
use native.Mathlib.Omega.{arith}
use lib.ListN.{set}
use Rattle.std.proofs.lemmas.Grind.{common_steps}
use Rattle.std.proofs.lemmas.Bool.Decides.{nat_tests}
use Rattle.trace.specs.File.{row_limit}
use Rattle.trace.specs.Kinds.{row_at}
use Rattle.earlier.specs.Heard.{Heard}
use Rattle.closure.specs.Closure.{zeros}
use Rattle.closure.proofs.Marks.{none_marked}
use Rattle.rules.specs.declared.synth.Parts.{Parts}
use Rattle.rules.specs.declared.synth.Parts.TheVariants.{Leaf, Two}
use Rattle.rules.specs.Tests.{can_make, fake}
use Rattle.rules.specs.Making.{Made, told, parts_of, made_below, made_last, make_both, make_with, make_row, try_fake, SoundMarks}
use Rattle.rules.proofs.Making.{can_below, can_of, known_made, far_not_made, parts_made}

module _ (file known : List ℕ) where
  -- the answer is b, and the marks are sound
  abbrev pub Right : Made → Bool → Type 0
  Right t b = (t.is ≡ b) × SoundMarks file known t.marks

  pub none_sound : SoundMarks file known (zeros row_limit)
  none_sound x m = absurd (none_marked row_limit x m)

  set_sound : (ms : List ℕ) (r : ℕ) → can_make file known r ≡ true → SoundMarks file known ms → SoundMarks file known (set ms r 1)
  set_sound ms r c s x m = grind (arith, common_steps, nat_tests, s x)

  module _ (row : ℕ) (go : List ℕ → ℕ → Made)
      (right : (ms : List ℕ) (x : ℕ) → x < row → SoundMarks file known ms → Right (go ms x) (can_make file known x)) where
    below_right : (ms : List ℕ) (x : ℕ) → SoundMarks file known ms → Right (made_below go ms row x) (can_below file known row x)
    below_right ms x s = grind (arith, nat_tests, right ms x)

    last_right : (r : Made) (b : Bool) → (b ≡ true → can_make file known row ≡ true) → Right r b → Right (made_last row r) b
    last_right r b c q = grind (arith, set_sound r.marks row)

    both_right : (ms : List ℕ) (x y : ℕ) → (can_below file known row x && can_below file known row y ≡ true → can_make file known row ≡ true) →
        SoundMarks file known ms → Right (make_both go ms row x y) (can_below file known row x && can_below file known row y)
    both_right ms x y c s =
        let l = made_below go ms row x in
        let q = below_right ms x s in
        let r = below_right l.marks y q.1 in
        grind (arith, last_right (made_below go l.marks row y) (can_below file known row y))

    with_right : (ms : List ℕ) (p : Parts) → can_make file known row ≡ can_of file known row p → SoundMarks file known ms →
        Right (make_with go ms row p) (can_of file known row p)
    with_right ms (Leaf can) e s = (refl, s)
    with_right ms (Two x y) e s = both_right ms x y (λ t. e ∙ t) s

  pub make_right : (d : ℕ) (ms : List ℕ) (row : ℕ) → row < d → SoundMarks file known ms →
      Right (make_row file known d ms row) (can_make file known row)
  unfolding make_row
  make_right zero ms row l s = absurd (omega arith)
  make_right (suc d) ms row l s =
      grind (
        arith,
        nat_tests,
        with_right row (λ ms x. make_row file known d ms x) (λ ms' x h s'. make_right d ms' x (omega arith) s') ms (parts_of known (row_at file row)),
        known_made file known row,
        s row,
        far_not_made file known (suc row) row,
        parts_made file known row,
      )

  -- rule 1
  pub fake_right : (ms : List ℕ) (h : Heard) → SoundMarks file known ms → Right (try_fake file known ms h) (fake file known h)
  unfolding try_fake fake
  fake_right ms h s = grind (arith, make_right (suc h.row) ms h.row)

  -- of an equation as the contract has it
  pub tried : (ms : List ℕ) (h : Heard) {ms' : List ℕ} {b : Bool} → SoundMarks file known ms → told ms' b ≡ try_fake file known ms h →
      (b ≡ fake file known h) × SoundMarks file known ms'
  tried ms h s e =
      let q = fake_right ms h s in
      (ap (λ (t : Made). t.is) e ∙ q.0, subst (λ (t : Made). SoundMarks file known t.marks) (sym e) q.1)
