-- Options one after the other: an answer that is found has each of its parts.
-- Assumes nothing.
use mathlib.Core.Bool.{Bool, true, false, true≢false}
use mathlib.Core.Path.{◌≡◌, refl, sym, subst}
use Rattle.std.specs.Prelude.{Option, Some, None}
use Rattle.std.specs.Bool.{then_some}
use Rattle.std.proofs.lemmas.Option.{none-some, same_Some}
use Rattle.laws.specs.Options.{and_then, is_some_and}

-- only `Some x` finds x, so that a case by it leaves only the rows in which x is found
pub data Finds {A : Type 0} : Option A → A → Type 0 where
  finds : {x : A} → Finds (Some x) x

pub finding : {A : Type 0} {o : Option A} {x : A} → o ≡ Some x → Finds o x
finding {x = x} e = subst (λ o. Finds o x) (sym e) finds

pub one_found : {A : Type 0} {o : Option A} {x y : A} → o ≡ Some x → o ≡ Some y → x ≡ y
one_found {x = x} {y = y} e f = same_Some x y (rw e at f)

pub and_then_some : {A B : Type 0} {o : Option A} {f : A → Option B} {y : B} → and_then o f ≡ Some y → (x : A) × (o ≡ Some x) × (f x ≡ Some y)
and_then_some {o = Some x} e = (x, refl, e)
and_then_some {o = None} {y = y} e = absurd (none-some y e)

pub is_some_and_true : {A : Type 0} {o : Option A} {test : A → Bool} → is_some_and o test ≡ true → (x : A) × (o ≡ Some x) × (test x ≡ true)
is_some_and_true {o = Some x} e = (x, refl, e)
is_some_and_true {o = None} e = absurd (true≢false (sym e))

pub then_some_true : {A : Type 0} {b : Bool} {x y : A} → then_some b x ≡ Some y → (b ≡ true) × (x ≡ y)
then_some_true {b = true} {x = x} {y = y} e = (refl, same_Some x y e)
then_some_true {b = false} {y = y} e = absurd (none-some y e)
