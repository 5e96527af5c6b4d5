-- Any depth above the row serves, since a row's parts lie below it.
-- Assumes nothing.
use Prim.Native.Nat.{ℕ, zero, suc, ◌<◌}
use mathlib.Core.Bool.{true, false, ◌||◌}
use mathlib.Core.List.{List}
use mathlib.Core.Path.{◌≡◌, refl, ◌∙◌, ap}
use native.Mathlib.Omega.{arith}
use lib.Dec.{leb}
use Rattle.std.proofs.lemmas.Bool.Decides.{nat_tests}
use Rattle.trace.specs.File.{row_limit}
use Rattle.trace.specs.Kinds.{row_at}
use Rattle.closure.specs.Closure.{row_marked}
use Rattle.rules.specs.declared.synth.Parts.{Parts}
use Rattle.rules.specs.declared.synth.Parts.TheVariants.{Leaf, Two}
use Rattle.rules.specs.Making.{Made, told, parts_of, made_below, made_last, make_then, make_with, make_row}

module _ (go go' : List ℕ → ℕ → Made) (row : ℕ) (same : (ms : List ℕ) (x : ℕ) → x < row → go ms x ≡ go' ms x) where
  below_same : (ms : List ℕ) (x : ℕ) → made_below go ms row x ≡ made_below go' ms row x
  below_same ms x = grind (arith, nat_tests, same ms x)

  with_same : (ms : List ℕ) (parts : Parts) → make_with go ms row parts ≡ make_with go' ms row parts
  with_same ms (Leaf can) = refl
  with_same ms (Two x y) =
      let l = made_below go' ms row x in
      ap (make_then go row y) (below_same ms x) ∙
      ap (λ (t : Made). elim l.is as (λ _. Made) [ true ↦ made_last row t | false ↦ told l.marks false ]) (below_same l.marks y)

module _ (file known : List ℕ) where
  depths_same : (d d' : ℕ) (ms : List ℕ) (row : ℕ) → row < d → row < d' → make_row file known d ms row ≡ make_row file known d' ms row
  unfolding make_row
  depths_same zero d' ms row l l' = absurd (omega arith)
  depths_same (suc d) zero ms row l l' = absurd (omega arith)
  depths_same (suc d) (suc d') ms row l l' =
      ap
      (λ (t : Made). elim (row_marked known row || row_marked ms row) as (λ _. Made) [
        | true ↦ told ms true
        | false ↦ elim (leb row_limit row) as (λ _. Made) [ true ↦ told ms false | false ↦ t ]
      ])
      (with_same (make_row file known d) (make_row file known d') row (λ ms' x h. depths_same d d' ms' x (omega arith) (omega arith)) ms
      (parts_of known (row_at file row)))

  pub any_depth : (d : ℕ) (ms : List ℕ) (row : ℕ) → row < d → make_row file known d ms row ≡ make_row file known (suc row) ms row
  any_depth d ms row l = depths_same d (suc row) ms row l (omega arith)
