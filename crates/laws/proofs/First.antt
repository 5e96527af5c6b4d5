-- `first` is the lowest number that the test finds, and `any` says whether there is one.
-- Assumes nothing.
use Prim.Native.Nat.{ℕ, zero, suc, ◌+◌, ◌<◌, ◌≤◌}
use native.Mathlib.Omega.{arith}
use native.Mathlib.Decide.{dec_lt}
use mathlib.Core.Bool.{Bool, true, false, true≢false, ◌||◌}
use mathlib.Core.Logic.{◌⊎◌, inl, inr, ⊎_elim}
use mathlib.Core.Path.{◌≡◌, refl, sym, ◌∙◌, ap}
use lib.Dec.{ltb}
use borrow.Author.Tests.{lt-ltb, le-ltb}
use Rattle.std.specs.Prelude.{Option, Some, None, MatchOption}
use Rattle.std.specs.List.{list_any, range_with_len}
use Rattle.laws.specs.Choose.{choose}
use Rattle.laws.specs.First.{first, found, any}
use Rattle.laws.proofs.Both.{or_none, or_assoc}

pub lt_suc : (i n : ℕ) → i < suc n → (i < n) ⊎ (i ≡ n)
lt_suc i n h = go (dec_lt i n)
  where
    go : Dec (i < n) → (i < n) ⊎ (i ≡ n)
    go (yes l) = inl l
    go (no l) = inr (omega arith)

module _ (p : ℕ → Bool) where
  pub first_none : (n : ℕ) → ((k : ℕ) → k < n → p k ≡ false) → first p n ≡ n
  unfolding first
  first_none zero h = refl
  first_none (suc n) h =
      let e : first p n ≡ n = first_none n (λ k l. h k (omega arith)) in
      rw (e, le-ltb n n (omega arith), h n (omega arith))

  pub first_found : (n i : ℕ) → i < n → ((k : ℕ) → k < i → p k ≡ false) → p i ≡ true → first p n ≡ i
  unfolding first
  first_found zero i l h t = absurd (omega arith)
  first_found (suc n) i l h t = go (lt_suc i n l) (λ (l' : i < n). first_found n i l' h t)
    where
      go : (i < n) ⊎ (i ≡ n) → ((i < n) → first p n ≡ i) →
          choose (ltb (first p n) n) (first p n) (choose (p n) n (suc n)) ≡ i
      go (inl l') ih = rw (ih l', lt-ltb i n l')
      go (inr e) ih =
          let none : first p n ≡ n = first_none n (λ k k<. h k (omega arith)) in
          let t' : p n ≡ true = rw e at t in
          rw (none, le-ltb n n (omega arith), t') (sym e)

  pub found_none : (n : ℕ) → ((k : ℕ) → k < n → p k ≡ false) → found p n ≡ None
  unfolding found
  found_none n h = rw (first_none n h, le-ltb n n (omega arith)) refl

  pub found_some : (n i : ℕ) → i < n → ((k : ℕ) → k < i → p k ≡ false) → p i ≡ true → found p n ≡ Some i
  unfolding found
  found_some n i l h t = rw (first_found n i l h t, lt-ltb i n l) refl

  -- what a search through the numbers below n gives
  pub found_is : (n : ℕ) (r : Option ℕ) →
      MatchOption r ((k : ℕ) → 0 ≤ k → k < n → p k ≡ false)
      (λ i. (0 ≤ i) × (i < n) × (p i ≡ true) × ((k : ℕ) → 0 ≤ k → k < i → p k ≡ false)) →
      r ≡ found p n
  found_is n None h = sym (found_none n (λ k l. h k (omega arith) l))
  found_is n (Some i) h = sym (found_some n i h.1 (λ k l. h.3 k (omega arith) l) h.2)

  pub any_none : (n : ℕ) → ((k : ℕ) → k < n → p k ≡ false) → any p n ≡ false
  unfolding any
  any_none zero h = refl
  any_none (suc n) h = rw (any_none n (λ k l. h k (omega arith)), h n (omega arith))

  or_right : (a : Bool) → (a || true) ≡ true
  or_right true = refl
  or_right false = refl

  pub any_some : (n i : ℕ) → i < n → p i ≡ true → any p n ≡ true
  unfolding any
  any_some zero i l t = absurd (omega arith)
  any_some (suc n) i l t = go (lt_suc i n l) (λ (l' : i < n). any_some n i l' t)
    where
      go : (i < n) ⊎ (i ≡ n) → ((i < n) → any p n ≡ true) → (any p n || p n) ≡ true
      go (inl l') ih = rw (ih l')
      go (inr e) ih = rw (← e, t) (or_right (any p i))

pub bool_cases : (b : Bool) → (b ≡ true) ⊎ (b ≡ false)
bool_cases true = inl refl
bool_cases false = inr refl

-- either some number is the lowest that the test finds, or it finds none
module _ (p : ℕ → Bool) where
  pub find : (n : ℕ) →
      ((k : ℕ) × (k < n) × (p k ≡ true) × ((j : ℕ) → j < k → p j ≡ false)) ⊎ ((k : ℕ) → k < n → p k ≡ false)
  find zero = inr (λ k l. absurd (omega arith))
  find (suc n) = go (find n) (bool_cases (p n))
    where
      go : ((k : ℕ) × (k < n) × (p k ≡ true) × ((j : ℕ) → j < k → p j ≡ false)) ⊎ ((k : ℕ) → k < n → p k ≡ false) →
          (p n ≡ true) ⊎ (p n ≡ false) →
          ((k : ℕ) × (k < suc n) × (p k ≡ true) × ((j : ℕ) → j < k → p j ≡ false)) ⊎ ((k : ℕ) → k < suc n → p k ≡ false)
      go (inl (k, l, t, h)) b = inl (k, omega arith, t, h)
      go (inr h) (inl t) = inl (n, omega arith, t, h)
      go (inr h) (inr f) = inr (λ k l. ⊎_elim (h k) (λ e. rw e f) (lt_suc k n l))

  pub any_inv : (n : ℕ) → any p n ≡ true → (k : ℕ) × (k < n) × (p k ≡ true)
  any_inv n e = go (find n)
    where
      go : ((k : ℕ) × (k < n) × (p k ≡ true) × ((j : ℕ) → j < k → p j ≡ false)) ⊎ ((k : ℕ) → k < n → p k ≡ false) →
          (k : ℕ) × (k < n) × (p k ≡ true)
      go (inl (k, l, t, h)) = (k, l, t)
      go (inr h) = absurd (true≢false (sym e ∙ any_none p n h))

  -- over a range, as a chain of iterators searches it
  range_last : (a n : ℕ) → list_any p (range_with_len a (suc n)) ≡ (list_any p (range_with_len a n) || p (a + n))
  range_last a zero =
      let e : a + 0 ≡ a = omega arith in
      rw e (or_none (p a))
  range_last a (suc n) =
      let e : a + suc n ≡ a + 1 + n = omega arith in
      rw e
      (ap (λ (b : Bool). p a || b) (range_last (a + 1) n) ∙
      sym (or_assoc (p a) (list_any p (range_with_len (a + 1) n)) (p (a + 1 + n))))

  pub any_range : (n : ℕ) → list_any p (range_with_len 0 n) ≡ any p n
  unfolding any
  any_range zero = refl
  any_range (suc n) =
      let e : 0 + n ≡ n = omega arith in
      range_last 0 n ∙ rw (any_range n, e) refl
