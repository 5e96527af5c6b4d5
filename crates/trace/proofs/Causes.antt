-- A cause is told by its number and its place.
-- Assumes nothing.
use Prim.Native.Nat.{ℕ, ◌<◌, ◌≤◌}
use mathlib.Core.Path.{◌≡◌, refl, sym, ◌∙◌, ap}
use native.Mathlib.Omega.{arith}
use lib.Dec.{eqb}
use Rattle.laws.specs.Choose.{choose}
use Rattle.trace.specs.Refusal.{number_of, place_of}
use Rattle.trace.specs.declared.Cause.{Cause}
use Rattle.trace.specs.declared.Cause.TheVariants.{TooShort, WrongVersion, WrongSet, WrongContents, BadRow, RepeatedRow, BadEvent, ShortBuffer, TooManyEvents}

pub number_range : (c : Cause) → (0 < number_of c) × (number_of c ≤ 9)
number_range TooShort = omega arith
number_range WrongVersion = omega arith
number_range WrongSet = omega arith
number_range WrongContents = omega arith
number_range (BadRow r) = omega arith
number_range (RepeatedRow r) = omega arith
number_range (BadEvent e) = omega arith
number_range ShortBuffer = omega arith
number_range TooManyEvents = omega arith

-- the cause that a number and a place tell
abbrev pub cause_of : ℕ → ℕ → Cause
cause_of n p =
    choose (eqb n 1) TooShort
    (choose (eqb n 2) WrongVersion
    (choose (eqb n 3) WrongSet
    (choose (eqb n 4) WrongContents
    (choose (eqb n 5) (BadRow (record { 0 = p }))
    (choose (eqb n 6) (RepeatedRow (record { 0 = p }))
    (choose (eqb n 7) (BadEvent (record { 0 = p }))
    (choose (eqb n 8) ShortBuffer
    TooManyEvents)))))))

pub cause_told : (c : Cause) → cause_of (number_of c) (place_of c) ≡ c
cause_told TooShort = refl
cause_told WrongVersion = refl
cause_told WrongSet = refl
cause_told WrongContents = refl
cause_told (BadRow r) = refl
cause_told (RepeatedRow r) = refl
cause_told (BadEvent e) = refl
cause_told ShortBuffer = refl
cause_told TooManyEvents = refl

pub cause_numbered : (c : Cause) (n : ℕ) → number_of c ≡ n → c ≡ cause_of n (place_of c)
cause_numbered c n e = sym (cause_told c) ∙ ap (λ (k : ℕ). cause_of k (place_of c)) e

pub one_cause : (c d : Cause) → number_of c ≡ number_of d → place_of c ≡ place_of d → c ≡ d
one_cause c d n p = cause_numbered c (number_of d) n ∙ ap (cause_of (number_of d)) p ∙ cause_told d
