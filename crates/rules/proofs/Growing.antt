-- What can be made only grows with what is known, and what is known only grows with what is seen, in any file.
-- Assumes nothing.
use Prim.Native.Nat.{ℕ, zero, suc}
use mathlib.Core.Bool.{Bool, true, false, ◌||◌, true≢false}
use mathlib.Core.List.{List}
use mathlib.Core.Path.{◌≡◌, refl, sym}
use native.Mathlib.Omega.{arith}
use lib.Dec.{ltb, leb}
use lib.ListN.{set}
use Rattle.std.proofs.lemmas.Grind.{common_steps}
use Rattle.std.proofs.lemmas.Bool.Decides.{nat_tests}
use Rattle.trace.specs.File.{row_limit, rows_of, compromised_in}
use Rattle.trace.specs.Kinds.{row_at}
use Rattle.trace.specs.declared.Row.{Row}
use Rattle.trace.specs.declared.Row.TheVariants.{Agent, Number, Hash, Crypt, Pair}
use Rattle.trace.specs.declared.Event.{Event}
use Rattle.trace.specs.declared.Event.TheVariants.{Says, Notes}
use Rattle.laws.proofs.Both.{both}
use Rattle.spy.specs.Made.{made, makes, write_marks}
use Rattle.closure.specs.declared.Known.{Known}
use Rattle.closure.specs.Closure.{State, row_marked, sides_of, below, both_sides, learn_row, reopens, reopen_row, up_rows, down_rows, pass_rows, settle, see_row, see_event}
use Rattle.rules.specs.Tests.{can_make}
use Rattle.rules.specs.Making.{Kept}
use Rattle.std.specs.Cmp.Derive.{both_true}
use Rattle.rules.proofs.Making.{swept, swept_here, swept_other, far_not_made}

-- a store of a mark loses none
pub set_kept : (rs : List ℕ) (r : ℕ) → Kept rs (set rs r 1)
set_kept rs r x m = grind (arith, common_steps, nat_tests)

-- whichever way a test goes
either_kept : {A : Type 0} (rows : A → List ℕ) (rs : List ℕ) (b : Bool) (s t : A) → Kept rs (rows s) → Kept rs (rows t) →
    Kept rs (rows (elim b as (λ _. A) [ true ↦ s | false ↦ t ]))
either_kept rows rs true s t p q = p
either_kept rows rs false s t p q = q

-- by what a Says or a note of a compromised agent teaches
module _ (file : List ℕ) where
  abbrev rows_in : State → List ℕ
  rows_in s = s.rows

  abbrev Learns : (List ℕ → List ℕ → ℕ → State) → Type 0
  Learns go = (rs ks : List ℕ) (x : ℕ) → Kept rs (go rs ks x).rows

  below_kept : (go : List ℕ → List ℕ → ℕ → State) → Learns go → (rs ks : List ℕ) (row x : ℕ) → Kept rs (below go rs ks row x).rows
  below_kept go g rs ks row x = either_kept rows_in _ (ltb x row) _ _ (g rs ks x) (λ y m. m)

  both_kept : (go : List ℕ → List ℕ → ℕ → State) → Learns go → (rs ks : List ℕ) (row : ℕ) →
      Kept rs (both_sides go rs ks row (sides_of file rs ks row (row_at file row))).rows
  both_kept go g rs ks row x m =
      let s = sides_of file rs ks row (row_at file row) in
      let l = below go rs ks row s.left in
      below_kept go g l.rows l.keys row s.right x (below_kept go g rs ks row s.left x m)

  learn_kept : (d : ℕ) → Learns (learn_row file d)
  unfolding learn_row
  learn_kept zero rs ks row = λ x m. m
  learn_kept (suc d) rs ks row =
      let s = sides_of file rs ks row (row_at file row) in
      either_kept rows_in _ (row_marked rs row || leb row_limit row) _ _ (λ x m. m)
      (λ x m. set_kept (both_sides (learn_row file d) rs ks row s).rows row x (both_kept (learn_row file d) (learn_kept d) rs ks row x m))

  reopen_kept : (rs ks : List ℕ) (r : ℕ) → Kept rs (reopen_row file rs ks r).rows
  reopen_kept rs ks r = either_kept rows_in _ (reopens file rs r) _ _ (both_kept (learn_row file r) (learn_kept r) rs ks r) (λ x m. m)

  up_kept : (n : ℕ) (rs ks : List ℕ) → Kept rs (up_rows file n rs ks).rows
  unfolding up_rows
  up_kept zero rs ks = λ x m. m
  up_kept (suc n) rs ks = λ x m.
      let s = up_rows file n rs ks in
      reopen_kept s.rows s.keys n x (up_kept n rs ks x m)

  down_kept : (n : ℕ) (rs ks : List ℕ) → Kept rs (down_rows file n rs ks).rows
  unfolding down_rows
  down_kept zero rs ks = λ x m. m
  down_kept (suc n) rs ks = λ x m.
      let s = reopen_row file rs ks n in
      down_kept n s.rows s.keys x (reopen_kept rs ks n x m)

  pass_kept : (n : ℕ) (rs ks : List ℕ) → Kept rs (pass_rows file n rs ks).rows
  unfolding pass_rows
  pass_kept n rs ks =
      let s = up_rows file n rs ks in
      either_kept rows_in _ s.fresh _ _ (λ x m. down_kept n s.rows s.keys x (up_kept n rs ks x m)) (up_kept n rs ks)

  settle_kept : (d : ℕ) (s : State) → Kept s.rows (settle file d s).rows
  unfolding settle
  settle_kept zero s = λ x m. m
  settle_kept (suc d) s =
      let t = pass_rows file (rows_of file) s.rows s.keys in
      either_kept rows_in _ s.fresh _ _ (λ x m. settle_kept d t x (pass_kept (rows_of file) s.rows s.keys x m)) (λ x m. m)

  row_kept : (rs ks : List ℕ) (row : ℕ) → Kept rs (see_row file rs ks row).rows
  row_kept rs ks row x m = settle_kept row_limit (learn_row file (suc row) rs ks row) x (learn_kept (suc row) rs ks row x m)

  pub see_kept : (rs ks : List ℕ) (E : Event) → Kept rs (see_event file rs ks E).rows
  see_kept rs ks (Says a b r) = row_kept rs ks r.0
  see_kept rs ks (Notes a r) = either_kept (λ (s : Known). s.rows) _ (compromised_in file a.0) _ _ (row_kept rs ks r.0) (λ x m. m)

-- more is known: more can be made
module _ (file known known' : List ℕ) (kept : Kept known known') where
  module _ (ms ms' : List ℕ) (more : (x : ℕ) → made ms x ≡ true → made ms' x ≡ true) where
    makes_more : (R : Row) → makes known ms R ≡ true → makes known' ms' R ≡ true
    makes_more (Agent a) e = refl
    makes_more (Number n) e = refl
    makes_more (Hash x) e = more x.0 e
    makes_more (Crypt k x) e =
        let b = both (row_marked known k.0) (made ms x.0) e in
        both_true (kept k.0 b.0) (more x.0 b.1)
    makes_more (Pair x y) e =
        let b = both (made ms x.0) (made ms y.0) e in
        both_true (more x.0 b.0) (more y.0 b.1)
    makes_more _ e = absurd (true≢false (sym e))

  swept_more : (n x : ℕ) → made (swept file known n) x ≡ true → made (swept file known' n) x ≡ true
  unfolding write_marks
  swept_more zero x e = e
  swept_more (suc n) x e =
      grind (
        arith,
        swept_other file known n x,
        swept_other file known' n x,
        far_not_made file known (suc n) x,
        swept_here file known n,
        swept_here file known' n,
        makes_more (swept file known n) (swept file known' n) (swept_more n) (row_at file n),
        swept_more n x,
        kept n,
      )

  pub can_more : (x : ℕ) → can_make file known x ≡ true → can_make file known' x ≡ true
  can_more x = swept_more (suc x) x
