-- One step of the walk: where it stops, and where it goes on.
-- Assumes nothing.
use Prim.Native.Nat.{ℕ, zero, suc, ◌+◌, ◌<◌, ◌≤◌}
use mathlib.Core.Bool.{Bool, true, false, ◌&&◌}
use mathlib.Core.List.{List}
use mathlib.Core.Path.{◌≡◌, refl, sym, ◌∙◌, ap}
use native.Mathlib.Omega.{arith}
use native.Mathlib.Decide.{dec_lt}
use Rattle.std.specs.Prelude.{Some, None}
use lib.Dec.{ltb}
use lib.ListN.{length, set, length-set}
use borrow.Author.Tests.{lt-ltb, le-ltb, ltb-true}
use Rattle.laws.specs.Choose.{choose}
use Rattle.walk.specs.Lowest.{or_none, rule_of, exchange_of}
use Rattle.walk.specs.Walk.{Walked, walked_to, walk, walkable, walk_file, cleared}
use Rattle.walk.specs.Pace.{pace, paced}

module _ (rule : ℕ → ℕ) (exchange : ℕ → Bool) (N : ℕ) where
  -- at the end
  pub walk_end : (d i : ℕ) (bytes : List ℕ) → N ≤ i → walk rule exchange N d i bytes ≡ walked_to i bytes
  unfolding walk
  walk_end zero i bytes l = refl
  walk_end (suc d) i bytes l = rw (le-ltb i N l, walk) refl

  -- by the two tests of event i
  abbrev By : ℕ → ℕ → List ℕ → (one two : Bool) → Walked
  By d i bytes one two =
      elim one [
        | true ↦ walk rule exchange N d (suc i) (set bytes i (rule i))
        | false ↦ elim two [ true ↦ walk rule exchange N d (suc (suc i)) (set (set bytes i 6) (suc i) 6) | false ↦ walked_to i bytes ]
      ]

  walk_by : (d i : ℕ) (bytes : List ℕ) → i < N →
      walk rule exchange N (suc d) i bytes ≡ By d i bytes (ltb 0 (rule i)) (ltb (suc i) N && exchange i)
  unfolding walk
  walk_by d i bytes l = rw (lt-ltb i N l, walk) refl

  by_stop : (d i : ℕ) (bytes : List ℕ) (one two : Bool) → choose {A = ℕ} one 1 (choose {A = ℕ} two 2 0) ≡ 0 → By d i bytes one two ≡ walked_to i bytes
  by_stop d i bytes true two e = absurd (omega arith)
  by_stop d i bytes false true e = absurd (omega arith)
  by_stop d i bytes false false e = refl

  by_go : (d i : ℕ) (bytes : List ℕ) (one two : Bool) → ¬ (choose {A = ℕ} one 1 (choose {A = ℕ} two 2 0) ≡ 0) →
      By d i bytes one two ≡
      walk rule exchange N d (i + choose {A = ℕ} one 1 (choose {A = ℕ} two 2 0))
      (choose one (set bytes i (rule i)) (choose two (set (set bytes i 6) (suc i) 6) bytes))
  by_go d i bytes true two n =
      let e : i + 1 ≡ suc i = omega arith in
      rw e
  by_go d i bytes false true n =
      let e : i + 2 ≡ suc (suc i) = omega arith in
      rw e
  by_go d i bytes false false n = absurd (n refl)

  by_same : (i : ℕ) (bytes : List ℕ) (one two : Bool) → choose {A = ℕ} one 1 (choose {A = ℕ} two 2 0) ≡ 0 →
      choose one (set bytes i (rule i)) (choose two (set (set bytes i 6) (suc i) 6) bytes) ≡ bytes
  by_same i bytes true two e = absurd (omega arith)
  by_same i bytes false true e = absurd (omega arith)
  by_same i bytes false false e = refl

  by_within : (i : ℕ) (one two : Bool) → i < N → (two ≡ true → suc i < N) → i + choose {A = ℕ} one 1 (choose {A = ℕ} two 2 0) ≤ N
  by_within i true two l s = omega arith
  by_within i false true l s = let h = s refl in omega arith
  by_within i false false l s = omega arith

  left_true : (a b : Bool) → a && b ≡ true → a ≡ true
  left_true true b e = refl
  left_true false b e = e

  pub paced_same : (i : ℕ) (bytes : List ℕ) → pace rule exchange N i ≡ 0 → paced rule exchange N i bytes ≡ bytes
  paced_same i bytes z = by_same i bytes (ltb 0 (rule i)) (ltb (suc i) N && exchange i) z

  -- it stays within the events
  pub pace_within : (i n : ℕ) → i < N → n ≡ pace rule exchange N i → i + n ≤ N
  pace_within i n l e =
      rw e
      (by_within i (ltb 0 (rule i)) (ltb (suc i) N && exchange i) l
      (λ t. ltb-true (suc i) N (left_true (ltb (suc i) N) (exchange i) t)))

  -- what is left of a walk from event i
  pub Rest : Walked → ℕ → List ℕ → Type 0
  Rest w i bytes = (d : ℕ) × (N ≤ i + d) × (w ≡ walk rule exchange N d i bytes)

  pub rest_whole : (bytes : List ℕ) → Rest (walk rule exchange N N 0 bytes) 0 bytes
  unfolding Rest
  rest_whole bytes = (N, omega arith, refl)

  pub rest_end : (w : Walked) (i : ℕ) (bytes : List ℕ) → N ≤ i → Rest w i bytes → w ≡ walked_to i bytes
  unfolding Rest
  rest_end w i bytes l (d, deep, e) = e ∙ walk_end d i bytes l

  pub rest_stop : (w : Walked) (i n : ℕ) (bytes : List ℕ) → i < N → n ≡ pace rule exchange N i → n ≡ 0 → Rest w i bytes → w ≡ walked_to i bytes
  unfolding Rest
  rest_stop w i n bytes l p z (zero, deep, e) = absurd (omega arith)
  rest_stop w i n bytes l p z (suc d, deep, e) =
      e ∙ walk_by d i bytes l ∙ by_stop d i bytes (ltb 0 (rule i)) (ltb (suc i) N && exchange i) (sym p ∙ z)

  pub rest_more : (w : Walked) (i n : ℕ) (bytes bytes' : List ℕ) → i < N → n ≡ pace rule exchange N i → ¬ (n ≡ 0) →
      bytes' ≡ paced rule exchange N i bytes → Rest w i bytes → Rest w (i + n) bytes'
  unfolding Rest
  rest_more w i n bytes bytes' l p z b (zero, deep, e) = absurd (omega arith)
  rest_more w i n bytes bytes' l p z b (suc d, deep, e) = (
    d,
    omega arith,
    rw (p, b) (e ∙ walk_by d i bytes l ∙ by_go d i bytes (ltb 0 (rule i)) (ltb (suc i) N && exchange i) (λ q. z (p ∙ q))),
  )

-- the cleared buffer
pub cleared_length : (n : ℕ) (bytes : List ℕ) → length (cleared n bytes) ≡ length bytes
unfolding cleared
cleared_length zero bytes = refl
cleared_length (suc n) bytes = length-set (cleared n bytes) n 0 ∙ cleared_length n bytes

-- the step's number, and that there is one
pub taken_some : (n k : ℕ) → or_none n ≡ Some k → (k ≡ n) × (0 < n)
taken_some n k = go (dec_lt 0 n)
  where
    go : Dec (0 < n) → or_none n ≡ Some k → (k ≡ n) × (0 < n)
    go (yes l) e = let q : Some n ≡ Some k = rw (lt-ltb 0 n l) at e in (cc, l)
    go (no l) e = let q : None ≡ Some k = rw (le-ltb 0 n (omega arith)) at e in absurd cc

pub taken_none : (n : ℕ) → or_none n ≡ None → n ≡ 0
taken_none n = go (dec_lt 0 n)
  where
    go : Dec (0 < n) → or_none n ≡ None → n ≡ 0
    go (yes l) e = let q : Some n ≡ None = rw (lt-ltb 0 n l) at e in absurd cc
    go (no l) e = omega arith

-- the walk's answer
pub walk_ends : (file bytes₀ : List ℕ) (N i : ℕ) (bytes bytes' : List ℕ) → N ≡ walkable file →
    walk (rule_of file) (exchange_of file) N N 0 bytes₀ ≡ walked_to i bytes → bytes' ≡ bytes →
    (i ≡ (walk_file file bytes₀).length) × (bytes' ≡ (walk_file file bytes₀).bytes)
walk_ends file bytes₀ N i bytes bytes' e w q =
    let f : walk_file file bytes₀ ≡ walked_to i bytes = ap (λ (n : ℕ). walk (rule_of file) (exchange_of file) n n 0 bytes₀) (sym e) ∙ w in
    (sym (ap (λ (x : Walked). x.length) f), q ∙ sym (ap (λ (x : Walked). x.bytes) f))
