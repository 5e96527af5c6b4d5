-- A Finished that its own side says: what it is, and when there is none.
-- Assumes nothing.
use Prim.Native.Nat.{ℕ}
use mathlib.Core.Bool.{Bool, true, false, not, true≢false}
use mathlib.Core.List.{List}
use mathlib.Core.Path.{◌≡◌, refl, sym, ◌∙◌}
use Rattle.std.specs.Prelude.{Option, Some, None}
use Rattle.std.proofs.lemmas.Option.{none-some}
use Rattle.trace.specs.declared.AgentNo.{AgentNo}
use Rattle.trace.specs.declared.RowNo.{RowNo}
use Rattle.trace.specs.declared.Event.TheVariants.{Says}
use Rattle.trace.specs.declared.Role.{Role}
use Rattle.trace.specs.declared.Role.TheVariants.{Client, Server}
use Rattle.laws.specs.Choose.{choose}
use Rattle.laws.proofs.Both.{both3}
use Rattle.laws.proofs.Options.{and_then_some, then_some_true}
use Rattle.forms.specs.Kinds.{server_in}
use Rattle.forms.specs.Forms.{sealed_of, under_key}
use Rattle.forms.specs.declared.Sealed.{Sealed}
use Rattle.forms.proofs.Keyed.{key_of}
use Rattle.earlier.specs.Heard.{Heard}
use Rattle.earlier.specs.Earlier.{heard_in}
use Rattle.finished.specs.Tests.{is_own, own_finished}

chosen : {A : Type 0} {b : Bool} {o : Option A} {x : A} → choose b o None ≡ Some x → (b ≡ true) × (o ≡ Some x)
chosen {b = true} e = (refl, e)
chosen {b = false} {x = x} e = absurd (none-some x e)

pub own_is : (file : List ℕ) (h : Heard) (role : Role) {m : Sealed} → own_finished file h role ≡ Some m →
    (h.says ≡ true) × (sealed_of file h.row ≡ Some m) × (is_own role h m ≡ true)
own_is file h role e =
    let (says, em) = chosen {b = h.says} e in
    let (x, ex, hx) = and_then_some {o = sealed_of file h.row} em in
    let (own, same) = then_some_true {b = is_own role h x} hx in
    (says, rw same at ex, rw same at own)

own_side : (role : Role) (h : Heard) (m : Sealed) → is_own role h m ≡ true →
    choose (server_in role) (server_in m.role) (not (server_in m.role)) ≡ true
own_side Client h m t = (both3 _ _ _ t).0
own_side Server h m t = (both3 _ _ _ t).0

-- a row that is under no key of that role is no Finished of it
pub not_own : (file : List ℕ) (from to : AgentNo) (row : RowNo) (role : Role) → under_key file row.0 (server_in role) ≡ false →
    own_finished file (heard_in (Says from to row)) role ≡ None
not_own file from to row role u = go (own_finished file h role) refl
  where
    h : Heard
    h = heard_in (Says from to row)

    go : (o : Option Sealed) → own_finished file h role ≡ o → own_finished file h role ≡ None
    go None e = e
    go (Some m) e =
        let (_, sealed, own) = own_is file h role e in
        absurd (true≢false (sym (key_of file row.0 (server_in role) sealed (own_side role h m own)) ∙ u))
