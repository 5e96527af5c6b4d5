-- Fields that pass the test are equal, and equal ones pass it.
-- Assumes nothing.
use mathlib.Core.Bool.{Bool, true, false, ◌&&◌, true≢false}
use mathlib.Core.Path.{◌≡◌, refl, sym, ◌∙◌}
use lib.Dec.{eqb}
use borrow.Author.Tests.{eqb-true, eq-eqb}
use Rattle.trace.specs.Tests.{same_fields}
use Rattle.trace.specs.declared.rows.Fields.{Fields}
use Rattle.laws.proofs.Both.{both4, both}

pub same_equal : (f g : Fields) → same_fields f g ≡ true → f ≡ g
same_equal f g e =
    let k = eqb f.kind g.kind in
    let r = eqb f.role g.role in
    let a = eqb f.first g.first in
    let b = eqb f.second g.second in
    let c = eqb f.third g.third in
    let front = both (k && r && a && b) c e in
    let four = both4 k r a b front.0 in
    let pk : f.kind ≡ g.kind = eqb-true _ _ four.0 in
    let pr : f.role ≡ g.role = eqb-true _ _ four.1 in
    let pa : f.first ≡ g.first = eqb-true _ _ four.2 in
    let pb : f.second ≡ g.second = eqb-true _ _ four.3 in
    let pc : f.third ≡ g.third = eqb-true _ _ front.1 in
    λ i. record { kind = pk i; role = pr i; first = pa i; second = pb i; third = pc i }

self_same : (f : Fields) → same_fields f f ≡ true
self_same f =
    simp (
      eq-eqb f.kind f.kind refl,
      eq-eqb f.role f.role refl,
      eq-eqb f.first f.first refl,
      eq-eqb f.second f.second refl,
      eq-eqb f.third f.third refl,
    )

pub equal_same : (f g : Fields) → f ≡ g → same_fields f g ≡ true
equal_same f g e = rw (← e) (self_same f)

-- a test that failed on f, which is g
pub differ : {f g : Fields} (h : Fields) {b : Bool} → f ≡ g → b ≡ same_fields f h → b ≡ false → ¬ (g ≡ h)
differ {f} h e t no' q = true≢false (sym (equal_same f h (e ∙ q)) ∙ sym t ∙ no')
