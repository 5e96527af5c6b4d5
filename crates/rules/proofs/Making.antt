-- What the sweep says of a row without being run: a row that is known is made, one past the marks is not, and any other where its parts
-- below it are.
-- Assumes nothing.
use Prim.Native.Nat.{ℕ, zero, suc, ◌<◌, ◌≤◌}
use mathlib.Core.Bool.{Bool, true, false, ◌&&◌}
use mathlib.Core.List.{List}
use mathlib.Core.Path.{◌≡◌, refl, sym, ◌∙◌}
use native.Mathlib.Omega.{arith}
use lib.Dec.{eqb, ltb}
use lib.ListN.{length, get_or, length-replicate, get_or-replicate, get_or-eq_default}
use lib.Seq.{get_or-set_same, get_or-set_other}
use borrow.Author.Tests.{ltb-true}
use Rattle.std.proofs.Math.Bool.{and_self}
use Rattle.std.proofs.lemmas.Grind.{common_steps}
use Rattle.std.proofs.lemmas.Bool.Decides.{nat_tests}
use Rattle.trace.specs.File.{row_limit}
use Rattle.laws.specs.Choose.{choose}
use Rattle.trace.specs.Kinds.{row_at}
use Rattle.trace.specs.declared.Row.{Row}
use Rattle.trace.specs.declared.Row.TheVariants.{Hash, Crypt, Pair}
use Rattle.laws.proofs.Both.{both}
use Rattle.closure.specs.Closure.{row_marked, zeros}
use Rattle.spy.specs.Made.{made, makes, mark_of, write_marks}
use Rattle.spy.proofs.Makes.{marks_length}
use Rattle.rules.specs.declared.synth.Parts.{Parts}
use Rattle.rules.specs.declared.synth.Parts.TheVariants.{Leaf, Two}
use Rattle.rules.specs.Tests.{can_make}
use Rattle.rules.specs.Making.{parts_of}

mark_is : (k b : Bool) → ltb 0 (choose {A = ℕ} k 2 (choose {A = ℕ} b 1 0)) ≡ choose k true b
mark_is true b = refl
mark_is false true = refl
mark_is false false = refl

zero_not_made : (n x : ℕ) → made (zeros n) x ≡ false
zero_not_made n x = grind (arith, common_steps, nat_tests, get_or-replicate {A = ℕ} n x 0 0)

module _ (file known : List ℕ) where
  abbrev pub swept : ℕ → List ℕ
  swept n = write_marks file known n (zeros row_limit)

  swept_length : (n : ℕ) → length (swept n) ≡ row_limit
  swept_length n = marks_length file known n (zeros row_limit) ∙ length-replicate {A = ℕ} row_limit 0

  -- row n, after the sweep's step there
  pub swept_here : (n : ℕ) → n < row_limit → made (swept (suc n)) n ≡ choose (row_marked known n) true (makes known (swept n) (row_at file n))
  unfolding write_marks
  swept_here n l =
      rw (get_or-set_same (swept n) n (mark_of file known (swept n) n) 0 (omega (arith, swept_length n)))
      (mark_is (row_marked known n) (makes known (swept n) (row_at file n)))

  pub swept_other : (n x : ℕ) → ¬ (x ≡ n) → made (swept (suc n)) x ≡ made (swept n) x
  unfolding write_marks
  swept_other n x d = rw (get_or-set_other (swept n) n x (mark_of file known (swept n) n) 0 d)

  pub far_not_made : (n x : ℕ) → row_limit ≤ x → made (swept n) x ≡ false
  far_not_made n x l = rw (get_or-eq_default (swept n) 0 {n = x} (omega (arith, swept_length n)))

  pub known_made : (r : ℕ) → row_marked known r ≡ true → can_make file known r ≡ true
  known_made r t =
      let l = ltb-true r row_limit (both (ltb r row_limit) (eqb (get_or known r 0) 1) t).0 in
      swept_here r l ∙ rw t refl

  -- the sweep changes a row at its own step only
  later_same : (n x : ℕ) → x < n → made (swept n) x ≡ can_make file known x
  later_same zero x l = absurd (omega arith)
  later_same (suc n) x l = grind (arith, swept_other n x, later_same n x)

  not_yet : (n x : ℕ) → n ≤ x → made (swept n) x ≡ false
  unfolding write_marks
  not_yet zero x l = zero_not_made row_limit x
  not_yet (suc n) x l = swept_other n x (λ e. omega arith) ∙ not_yet n x (omega arith)

  -- a row below another can be made
  abbrev pub can_below : (row x : ℕ) → Bool
  can_below row x = ltb x row && can_make file known x

  below_is : (row x : ℕ) → made (swept row) x ≡ can_below row x
  below_is row x = grind (arith, nat_tests, later_same row x, not_yet row x)

  -- by what the row is made from
  abbrev pub can_of : ℕ → Parts → Bool
  can_of row (Leaf can) = can
  can_of row (Two x y) = can_below row x && can_below row y

  -- a Crypt, by whether its key is known
  crypt_is : (row x : ℕ) (k : Bool) → (k && made (swept row) x) ≡ can_of row (choose k (Two x x) (Leaf false))
  crypt_is row x true = below_is row x ∙ sym (and_self (can_below row x))
  crypt_is row x false = refl

  parts_is : (row : ℕ) (R : Row) → makes known (swept row) R ≡ can_of row (parts_of known R)
  parts_is row (Hash x) = below_is row x.0 ∙ sym (and_self (can_below row x.0))
  parts_is row (Crypt k x) = crypt_is row x.0 (row_marked known k.0)
  parts_is row (Pair x y) = rw (below_is row x.0, below_is row y.0) refl
  parts_is row _ = refl

  pub parts_made : (row : ℕ) → row < row_limit → row_marked known row ≡ false → can_make file known row ≡ can_of row (parts_of known (row_at file row))
  parts_made row l u = swept_here row l ∙ rw u (parts_is row (row_at file row))
