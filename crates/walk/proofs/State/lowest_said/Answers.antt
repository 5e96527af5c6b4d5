-- `walk::State::lowest_said` meets its contract: rule 1 comes first, and then what the message is.
-- Assumes nothing.
use Rattle.std.proofs.Common.{◌≡◌, refl, sym, ◌∙◌, true, false}
use mathlib.Core.Bool.{true≢false}
use Rattle.std.specs.Prelude.{Option, Some, None}
use Rattle.std.specs.Option.{is_some}
use Rattle.walk.specs.Lowest.{lowest_said}
use Rattle.walk.proofs.States.{before_tried}
use Rattle.walk.proofs.State.lowest_said.Goals as goal

is_there : {A : Type 0} {o : Option A} → is_some o ≡ true → (x : A) × (o ≡ Some x)
is_there {o = Some x} e = (x, refl)
is_there {o = None} e = absurd (true≢false (sym e))

is_away : {A : Type 0} {o : Option A} → is_some o ≡ false → o ≡ None
is_away {o = None} e = refl
is_away {o = Some _} e = absurd (true≢false e)

pub returns-then-fake : goal.returns-then-fake
unfolding lowest_said
returns-then-fake c =
    let a = c.args in
    let q = before_tried a.file.now a.e a.self.now c.requires.before _ c.fake.ensures in record {
      value = rw (sym q.0 ∙ c.if-fake.true) refl;
      before = q.1;
    }

pub returns-then-is_some : goal.returns-then-is_some
unfolding lowest_said
returns-then-is_some c =
    let a = c.args in
    let q = before_tried a.file.now a.e a.self.now c.requires.before _ c.fake.ensures in
    record {
      value = rw (sym q.0 ∙ c.if-fake.false, c.requires.row, sym c.crypt_of.ensures ∙ (is_there (sym c.is_some.ensures ∙ c.if-is_some.true)).1) c.lowest_crypt.ensures;
      before = q.1;
    }

pub returns : goal.returns
unfolding lowest_said
returns c =
    let a = c.args in
    let q = before_tried a.file.now a.e a.self.now c.requires.before _ c.fake.ensures in
    record {
      value = rw (sym q.0 ∙ c.if-fake.false, c.requires.row, sym c.crypt_of.ensures ∙ is_away (sym c.is_some.ensures ∙ c.if-is_some.false)) c.lowest_plain.ensures;
      before = q.1;
    }
