-- The decimal digits of a number: how the code finds them, and that they say the number.
-- Assumes nothing.
use Prim.Native.Nat.{ℕ, zero, suc, ◌+◌, ◌*◌, ◌-◌, ◌/◌, ◌%◌, ◌^◌, ◌<◌, ◌≤◌}
use mathlib.Core.Bool.{Bool, true, false}
use mathlib.Core.List.{List, [], ◌∷◌, ◌++◌}
use mathlib.Core.Path.{◌≡◌, refl, sym, ap, ◌∙◌}
use native.Mathlib.Omega.{arith}
use native.Mathlib.Nat.{mod-eq_of_lt}
use lib.Dec.{ltb}
use lib.ListN.{get_or}
use borrow.Author.Tests.{ltb-true, ltb-false, lt-ltb, le-ltb}
use Rattle.std.specs.Fmt.{decimal}
use Rattle.std.proofs.lemmas.Fmt.{decimal_by_steps}
use Rattle.report.specs.Text.{digits_within, digits}
use Rattle.report.specs.Promises.{read_from, DigitsOnly, none, also, AllDecimal}

one_within : (f n : ℕ) → n < 10 → digits_within (suc f) n ≡ (48 + n) ∷ []
unfolding digits_within
one_within f n h = rw (lt-ltb n 10 h, digits_within) refl

more_within : (f n : ℕ) → 10 ≤ n → digits_within (suc f) n ≡ digits_within f (n / 10) ++ ((48 + n % 10) ∷ [])
unfolding digits_within
more_within f n h = rw (le-ltb n 10 h, digits_within) refl

-- what bounds the digits does not matter
within : (f g n : ℕ) → n < f → n < g → digits_within f n ≡ digits_within g n
within zero g n h k = absurd (omega arith)
within (suc f) zero n h k = absurd (omega arith)
within (suc f) (suc g) n h k = go (ltb n 10) refl (λ l. within f g (n / 10) (omega arith) (omega arith))
  where
    go : (b : Bool) → ltb n 10 ≡ b → (10 ≤ n → digits_within f (n / 10) ≡ digits_within g (n / 10)) →
        digits_within (suc f) n ≡ digits_within (suc g) n
    go true e r = let l : n < 10 = ltb-true n 10 e in one_within f n l ∙ sym (one_within g n l)
    go false e r = let l : 10 ≤ n = ltb-false n 10 e in more_within f n l ∙ ap (λ (xs : List ℕ). xs ++ ((48 + n % 10) ∷ [])) (r l) ∙ sym (more_within g n l)

pub digits_one : (n : ℕ) → n < 10 → digits n ≡ (48 + n % 10) ∷ []
digits_one n h = rw (mod-eq_of_lt h) (one_within n n h)

pub digits_more : (n : ℕ) → 10 ≤ n → digits n ≡ digits (n / 10) ++ ((48 + n % 10) ∷ [])
digits_more n h = rw (within (suc (n / 10)) n (n / 10) (omega arith) (omega arith)) (more_within n n h)

-- what `itoa` writes
pub digits_decimal : (n : ℕ) → n < 2 ^ 64 → decimal n ≡ digits n
digits_decimal n h =
    decimal_by_steps (λ k ds. ds ≡ digits k)
    (λ k l. sym (digits_one k l ∙ ap (λ (d : ℕ). (48 + d) ∷ []) (mod-eq_of_lt l)))
    (λ k ds l e. ap (λ (xs : List ℕ). xs ++ ((48 + k % 10) ∷ [])) e ∙ sym (digits_more k l)) n h

-- by the last digit
ten_steps : (P : ℕ → Type 0) → ((n : ℕ) → n < 10 → P n) → ((n : ℕ) → 10 ≤ n → P (n / 10) → P n) → (f n : ℕ) → n < f → P n
ten_steps P a b zero n h = absurd (omega arith)
ten_steps P a b (suc f) n h = go (ltb n 10) refl (λ l. ten_steps P a b f (n / 10) (omega arith))
  where
    go : (c : Bool) → ltb n 10 ≡ c → (10 ≤ n → P (n / 10)) → P n
    go true e r = a n (ltb-true n 10 e)
    go false e r = b n (ltb-false n 10 e) (r (ltb-false n 10 e))

read_last : (v d : ℕ) (xs : List ℕ) → read_from v (xs ++ (d ∷ [])) ≡ 10 * read_from v xs + (d - 48)
unfolding read_from
read_last v d [] = refl
read_last v d (x ∷ xs) = read_last (10 * v + (x - 48)) d xs

only_last : {d : ℕ} {xs : List ℕ} → DigitsOnly xs → 48 ≤ d → d ≤ 57 → DigitsOnly (xs ++ (d ∷ []))
only_last none a b = also a b none
only_last (also p q r) a b = also p q (only_last r a b)

first_same : (xs ys : List ℕ) → 48 < get_or xs 0 0 → 48 < get_or (xs ++ ys) 0 0
first_same [] ys h = absurd (omega arith)
first_same (x ∷ xs) ys h = h

reads : (n : ℕ) → n < 10 → read_from 0 (digits n) ≡ n
unfolding read_from
reads n h = rw (digits_one n h) (omega arith)

leads : (n : ℕ) → n < 10 → 0 < n → 48 < get_or (digits n) 0 0
leads n h l = rw (digits_one n h) (omega arith)

pub all_decimal : AllDecimal
unfolding digits_within
all_decimal n = record {
  reads = ten_steps (λ k. read_from 0 (digits k) ≡ k) reads (λ k h r. rw (digits_more k h, read_last, r) (omega arith)) (suc n) n (omega arith);
  only =
      ten_steps (λ k. DigitsOnly (digits k)) (λ k h. rw (digits_one k h) (also {d = 48 + k % 10} (omega arith) (omega arith) none))
      (λ k h r. rw (digits_more k h) (only_last {d = 48 + k % 10} r (omega arith) (omega arith))) (suc n) n (omega arith);
  leading =
      ten_steps (λ k. 0 < k → 48 < get_or (digits k) 0 0) leads
      (λ k h r l. rw (digits_more k h) (first_same (digits (k / 10)) _ (r (omega arith)))) (suc n) n (omega arith);
  zero = λ e. rw e refl;
}
