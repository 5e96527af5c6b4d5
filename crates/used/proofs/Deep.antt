-- Any depth above the row serves: what `use_row` marks below a row lies below it.
-- Assumes nothing.
use Prim.Native.Nat.{ℕ, zero, suc, ◌<◌, ◌≤◌}
use mathlib.Core.Bool.{Bool, true, false, ◌||◌}
use mathlib.Core.List.{List}
use mathlib.Core.Logic.{⊎_elim}
use mathlib.Core.Path.{◌≡◌, refl, sym, ◌∙◌, ap}
use native.Mathlib.Omega.{arith}
use lib.Dec.{ltb, leb}
use borrow.Author.Tests.{ltb-true, lt-ltb, le-ltb, le-leb, lt-leb}
use lib.ListN.{set}
use Rattle.trace.specs.File.{row_limit}
use Rattle.trace.specs.Kinds.{row_at}
use Rattle.trace.specs.declared.RowNo.{RowNo}
use Rattle.trace.specs.declared.Row.{Row}
use Rattle.trace.specs.declared.Row.TheVariants.{Agent, Number, Nonce, Prf, PublicKey, PrivateKey, SessionKey, Hash, Crypt, Pair}
use Rattle.laws.proofs.Both.{or_true}
use Rattle.laws.proofs.First.{lt_suc}
use Rattle.closure.specs.Closure.{row_marked}
use Rattle.used.specs.Marking.{used_below, use_parts, use_row}

module _ (go go' : List ℕ → ℕ → List ℕ) (row : ℕ) (same : (ms : List ℕ) (x : ℕ) → x < row → go ms x ≡ go' ms x) where
  below_same : (ms : List ℕ) (x : ℕ) → used_below go ms row x ≡ used_below go' ms row x
  below_same ms x = by_test (ltb x row) refl
    where
      by_test : (b : Bool) → ltb x row ≡ b →
          ◌≡◌ {A = List ℕ} (elim b [ true ↦ go ms x | false ↦ ms ]) (elim b [ true ↦ go' ms x | false ↦ ms ])
      by_test true e = same ms x (ltb-true x row e)
      by_test false e = refl

  parts_same : (ms : List ℕ) (R : Row) → use_parts go ms row R ≡ use_parts go' ms row R
  parts_same ms (Agent a) = refl
  parts_same ms (Number n) = refl
  parts_same ms (Nonce n) = refl
  parts_same ms (Prf s x y) = refl
  parts_same ms (PublicKey a) = refl
  parts_same ms (PrivateKey a) = refl
  parts_same ms (SessionKey o x y z) = refl
  parts_same ms (Hash x) = refl
  parts_same ms (Crypt k x) = below_same ms x.0
  parts_same ms (Pair x y) = rw (below_same ms x.0) (below_same (used_below go' ms row x.0) y.0)

module _ (file : List ℕ) where
  deeper : (d : ℕ) (ms : List ℕ) (row : ℕ) → row < d → use_row file (suc d) ms row ≡ use_row file d ms row
  unfolding use_row
  deeper zero ms row l = absurd (omega arith)
  deeper (suc d) ms row l =
      by_test (row_marked ms row || leb row_limit row)
      (ap (λ (b : List ℕ). set b row 1) (parts_same (use_row file (suc d)) (use_row file d) row (λ ms' x h. deeper d ms' x (omega arith)) ms (row_at file row)))
    where
      by_test : (b : Bool) → {s t : List ℕ} → s ≡ t →
          ◌≡◌ {A = List ℕ} (elim b [ true ↦ ms | false ↦ s ]) (elim b [ true ↦ ms | false ↦ t ])
      by_test true e = refl
      by_test false e = e

  any_depth : (d : ℕ) (ms : List ℕ) (row : ℕ) → row < d → use_row file d ms row ≡ use_row file (suc row) ms row
  any_depth zero ms row l = absurd (omega arith)
  any_depth (suc d) ms row l = ⊎_elim (λ h. deeper d ms row h ∙ any_depth d ms row h) (λ e. rw e) (lt_suc row d l)

  -- `use_row` and `used_below`, case by case
  module _ (ms : List ℕ) (row : ℕ) where
    pub use_known : row_marked ms row ≡ true → ms ≡ use_row file (suc row) ms row
    unfolding use_row
    use_known e = rw (e, use_row)

    pub use_past : row_limit ≤ row → ms ≡ use_row file (suc row) ms row
    unfolding use_row
    use_past l = rw (le-leb row_limit row l, or_true (row_marked ms row), use_row)

    -- a row that is marked now, by what it is
    module _ (unmarked : row_marked ms row ≡ false) (room : row < row_limit) where
      marked : (R : Row) → R ≡ row_at file row → set (use_parts (use_row file row) ms row R) row 1 ≡ use_row file (suc row) ms row
      unfolding use_row
      marked R e = rw (e, unmarked, lt-leb row_limit row room, use_row) refl

      pub use_pair : (x y : RowNo) → Pair x y ≡ row_at file row → (ls : List ℕ) → ls ≡ used_below (use_row file row) ms row x.0 →
          (rs : List ℕ) → rs ≡ used_below (use_row file row) ls row y.0 → set rs row 1 ≡ use_row file (suc row) ms row
      use_pair x y e ls l rs r = rw (← marked (Pair x y) e, ← l, ← r) refl

      pub use_crypt : (k x : RowNo) → Crypt k x ≡ row_at file row → (bs : List ℕ) → bs ≡ used_below (use_row file row) ms row x.0 →
          set bs row 1 ≡ use_row file (suc row) ms row
      use_crypt k x e bs b = rw (← marked (Crypt k x) e, ← b) refl

      pub use_leaf : (R : Row) → R ≡ row_at file row → ((x y : RowNo) → ¬ (R ≡ Pair x y)) → ((k x : RowNo) → ¬ (R ≡ Crypt k x)) →
          set ms row 1 ≡ use_row file (suc row) ms row
      use_leaf (Agent a) e p c = marked (Agent a) e
      use_leaf (Number n) e p c = marked (Number n) e
      use_leaf (Nonce n) e p c = marked (Nonce n) e
      use_leaf (Prf s x y) e p c = marked (Prf s x y) e
      use_leaf (PublicKey a) e p c = marked (PublicKey a) e
      use_leaf (PrivateKey a) e p c = marked (PrivateKey a) e
      use_leaf (SessionKey o x y z) e p c = marked (SessionKey o x y z) e
      use_leaf (Hash x) e p c = marked (Hash x) e
      use_leaf (Crypt k x) e p c = absurd (c k x refl)
      use_leaf (Pair x y) e p c = absurd (p x y refl)

    pub below_taken : (x : ℕ) → x < row → use_row file (suc x) ms x ≡ used_below (use_row file row) ms row x
    below_taken x l = rw (lt-ltb x row l, used_below) (sym (any_depth row ms x l))

    pub below_left : (x : ℕ) → row ≤ x → ms ≡ used_below (use_row file row) ms row x
    below_left x l = rw (le-ltb x row l, used_below)
