-- The lowest number below a bound that a test finds, or the bound; the same as an Option; and whether there is one.
use Rattle.std.specs.Prelude.{ℕ, zero, suc, Bool, false, ◌||◌, ltb, Option, Some, None}
use Rattle.laws.specs.Choose.{choose}

unfoldable pub first : (ℕ → Bool) → ℕ → ℕ
first p zero = zero
first p (suc n) = choose (ltb (first p n) n) (first p n) (choose (p n) n (suc n))

unfoldable pub found : (ℕ → Bool) → ℕ → Option ℕ
found p n = choose (ltb (first p n) n) (Some (first p n)) None

unfoldable pub any : (ℕ → Bool) → ℕ → Bool
any p zero = false
any p (suc n) = any p n || p n
