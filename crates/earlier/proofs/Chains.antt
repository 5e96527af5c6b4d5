-- Chains of events: what is found on one, what can be reached on it, and that it ends.
-- Assumes nothing.
use Prim.Native.Nat.{ℕ, zero, suc, ◌+◌, ◌-◌, ◌<◌, ◌≤◌}
use mathlib.Core.Bool.{Bool, true, false, ◌&&◌, ◌||◌, true≢false}
use mathlib.Core.List.{List, [], ◌∷◌}
use mathlib.Core.Logic.{◌⊎◌, inl, inr}
use mathlib.Core.Path.{◌≡◌, refl, sym, ◌∙◌, ap}
use native.Mathlib.Omega.{arith}
use native.Mathlib.Decide.{dec_lt}
use lib.Dec.{ltb}
use borrow.Author.Tests.{lt-ltb, le-ltb}
use Rattle.trace.specs.File.{event_limit}
use Rattle.laws.specs.Choose.{choose}
use Rattle.laws.proofs.Both.{or_true}
use Rattle.laws.proofs.First.{bool_cases}
use Rattle.earlier.specs.declared.boxes.Boxes.{Boxes}
use Rattle.earlier.specs.Boxes.{behind, next, chain, chain_from, some}
use Rattle.earlier.specs.Kept.{Reach, here, further}

-- all of the list lie before e
pub data Below (e : ℕ) : List ℕ → Type 0 where
  none : Below e []
  more : {j : ℕ} {js : List ℕ} → j < e → Below e js → Below e (j ∷ js)

module _ (boxes : Boxes) where
  pub next_falls : (link : ℕ) → 0 < link → next boxes link < link
  next_falls link p = go (ltb link (event_limit + 1) && ltb 0 link) (dec_lt (behind boxes.links (link - 1)) link)
    where
      go : (there : Bool) → Dec (behind boxes.links (link - 1) < link) →
          choose there (choose (ltb (behind boxes.links (link - 1)) link) (behind boxes.links (link - 1)) 0) 0 < link
      go true (yes l) = rw (lt-ltb (behind boxes.links (link - 1)) link l) l
      go true (no l) = rw (le-ltb (behind boxes.links (link - 1)) link (omega arith)) p
      go false d = p

  -- more than enough is enough
  chain_fuel : (d e link : ℕ) → link ≤ d → link ≤ e → chain boxes.links d link ≡ chain boxes.links e link
  unfolding chain
  chain_fuel zero zero link l m = refl
  chain_fuel zero (suc e) link l m = rw (le-ltb 0 link (omega arith), chain) refl
  chain_fuel (suc d) zero link l m = rw (le-ltb 0 link (omega arith), chain) refl
  chain_fuel (suc d) (suc e) link l m =
      go (dec_lt 0 link)
      (λ (p : 0 < link). chain_fuel d e (next boxes link) (omega (arith, next_falls link p)) (omega (arith, next_falls link p)))
    where
      go : Dec (0 < link) → (0 < link → chain boxes.links d (next boxes link) ≡ chain boxes.links e (next boxes link)) →
          chain boxes.links (suc d) link ≡ chain boxes.links (suc e) link
      go (yes p) ih = rw (lt-ltb 0 link p, chain) (ap (λ (js : List ℕ). (link - 1) ∷ js) (ih p))
      go (no p) ih = rw (le-ltb 0 link (omega arith), chain) refl

  chain_in : (e d link : ℕ) → link ≤ e → Below e (chain boxes.links d link)
  unfolding chain
  chain_in e zero link l = none
  chain_in e (suc d) link l = go (dec_lt 0 link) (λ (p : 0 < link). chain_in e d (next boxes link) (omega (arith, next_falls link p)))
    where
      go : Dec (0 < link) → (0 < link → Below e (chain boxes.links d (next boxes link))) → Below e (chain boxes.links (suc d) link)
      go (yes p) ih = let l' : link - 1 < e = omega arith in rw (lt-ltb 0 link p, chain) (more {j = link - 1} l' (ih p))
      go (no p) ih = rw (le-ltb 0 link (omega arith), chain) none

  pub chain_below : (e link : ℕ) → link ≤ e → Below e (chain_from boxes link)
  chain_below e link l = chain_in e link link l

  chain_one : (d link : ℕ) → 0 < link → chain boxes.links (suc d) link ≡ ((link - 1) ∷ chain boxes.links d (next boxes link))
  unfolding chain
  chain_one d link p =
      ap (λ (b : Bool). elim b [ true ↦ (link - 1) ∷ chain boxes.links d (next boxes link) | false ↦ [] ]) (lt-ltb 0 link p)

  pub chain_step : (link : ℕ) → 0 < link → chain_from boxes link ≡ ((link - 1) ∷ chain_from boxes (next boxes link))
  chain_step zero p = absurd (omega arith)
  chain_step (suc l) p =
      chain_one l (suc l) p ∙
      ap (λ (js : List ℕ). (suc l - 1) ∷ js)
      (chain_fuel l (next boxes (suc l)) (next boxes (suc l)) (omega (arith, next_falls (suc l) p)) (omega arith))

  pub chain_end : (link : ℕ) → link ≡ 0 → chain_from boxes link ≡ []
  unfolding chain
  chain_end link z = rw z refl

  module _ (p : ℕ → Bool) where
    pub some_step : (link : ℕ) → 0 < link → some p (chain_from boxes link) ≡ (p (link - 1) || some p (chain_from boxes (next boxes link)))
    some_step link l = ap (some p) (chain_step link l)

    pub some_end : (link : ℕ) → link ≡ 0 → some p (chain_from boxes link) ≡ false
    some_end link z = ap (some p) (chain_end link z)

    pub some_same : {q : ℕ → Bool} {e : ℕ} {js : List ℕ} → ((j : ℕ) → j < e → p j ≡ q j) → Below e js → some p js ≡ some q js
    some_same h none = refl
    some_same h (more {j} l b) = rw (h j l, some_same h b) refl

    -- what is found is below the link
    some_in : (d link : ℕ) → some p (chain boxes.links d link) ≡ true → (s : ℕ) × (s < link) × (p s ≡ true)
    unfolding chain
    some_in zero link t = absurd (true≢false (sym t))
    some_in (suc d) link t = go (dec_lt 0 link) (λ (q : some p (chain boxes.links d (next boxes link)) ≡ true). some_in d (next boxes link) q)
      where
        which : 0 < link → (some p (chain boxes.links d (next boxes link)) ≡ true → (s : ℕ) × (s < next boxes link) × (p s ≡ true)) →
            (p (link - 1) ≡ true) ⊎ (p (link - 1) ≡ false) → (p (link - 1) || some p (chain boxes.links d (next boxes link))) ≡ true →
            (s : ℕ) × (s < link) × (p s ≡ true)
        which l ih (inl q) t' = (link - 1, omega arith, q)
        which l ih (inr q) t' =
            let r = ih (rw q at t') in
            (r.0, omega (arith, r.1, next_falls link l), r.2)

        go : Dec (0 < link) → (some p (chain boxes.links d (next boxes link)) ≡ true → (s : ℕ) × (s < next boxes link) × (p s ≡ true)) →
            (s : ℕ) × (s < link) × (p s ≡ true)
        go (yes l) ih = which l ih (bool_cases (p (link - 1))) (rw (lt-ltb 0 link l, chain) at t)
        go (no l) ih = absurd (true≢false (sym (rw (le-ltb 0 link (omega arith), chain) at t)))

    pub some_below : (link : ℕ) → some p (chain_from boxes link) ≡ true → (s : ℕ) × (s < link) × (p s ≡ true)
    some_below link t = some_in link link t

    -- what can be reached is found
    module _ (falls : (j : ℕ) → j < event_limit → behind boxes.links j ≤ j) where
      next_behind : (link : ℕ) → 0 < link → link ≤ event_limit → next boxes link ≡ behind boxes.links (link - 1)
      next_behind link l m =
          rw (lt-ltb link (event_limit + 1) (omega arith), lt-ltb 0 link l, lt-ltb (behind boxes.links (link - 1)) link (omega (arith, falls (link - 1) (omega arith)))) refl

      pub some_reach : (link s : ℕ) → link ≤ event_limit → p s ≡ true → Reach boxes.links link s → some p (chain_from boxes link) ≡ true
      some_reach link s m t (here q) =
          let q' : link - 1 ≡ s = omega arith in
          some_step link (omega arith) ∙ rw (q', t) refl
      some_reach link s m t (further l r) =
          some_step link l ∙
          rw (next_behind link l m, some_reach (behind boxes.links (link - 1)) s (omega (arith, falls (link - 1) (omega arith))) t r) (or_true (p (link - 1)))
