-- Any depth above the row serves: what `learn_row` learns below a row lies below it.
-- Assumes nothing.
use Prim.Native.Nat.{ℕ, zero, suc, ◌+◌, ◌<◌, ◌≤◌}
use mathlib.Core.Bool.{Bool, true, false, ◌||◌}
use mathlib.Core.List.{List}
use mathlib.Core.Logic.{⊎_elim}
use mathlib.Core.Path.{◌≡◌, refl, sym, ◌∙◌}
use native.Mathlib.Omega.{arith}
use native.Mathlib.Decide.{dec_lt}
use lib.Dec.{ltb, leb}
use borrow.Author.Tests.{ltb-true, lt-ltb, le-ltb, le-leb, lt-leb}
use lib.ListN.{set}
use Rattle.trace.specs.File.{row_limit, agent_limit}
use Rattle.trace.specs.Kinds.{row_at}
use Rattle.trace.specs.declared.Row.{Row}
use Rattle.trace.specs.declared.Row.TheVariants.{Agent, Number, Nonce, Prf, PublicKey, PrivateKey, SessionKey, Hash, Crypt, Pair}
use Rattle.trace.specs.declared.AgentNo.{AgentNo}
use Rattle.trace.specs.declared.RowNo.{RowNo}
use Rattle.trace.specs.declared.Role.{Role}
use Rattle.laws.proofs.Both.{or_true, or_none}
use Rattle.laws.proofs.First.{bool_cases, lt_suc}
use Rattle.closure.specs.Closure.{Sides, State, state_of, row_marked, know, know_row, opens, no_sides, sides_of, below, both_sides, learn_with, learn_row, is_crypt, reopen_row}

abbrev pub Go : Type 0
Go = List ℕ → List ℕ → ℕ → State

module _ (go go' : Go) (row : ℕ) (same : (rs ks : List ℕ) (x : ℕ) → x < row → go rs ks x ≡ go' rs ks x) where
  below_same : (rs ks : List ℕ) (x : ℕ) → below go rs ks row x ≡ below go' rs ks row x
  below_same rs ks x = by_test (ltb x row) refl
    where
      by_test : (b : Bool) → ltb x row ≡ b →
          ◌≡◌ {A = State} (elim b [ true ↦ go rs ks x | false ↦ state_of rs ks false ]) (elim b [ true ↦ go' rs ks x | false ↦ state_of rs ks false ])
      by_test true e = same rs ks x (ltb-true x row e)
      by_test false e = refl

  with_same : (rs ks : List ℕ) (sides : Sides) (kind : Row) → learn_with go rs ks row sides kind ≡ learn_with go' rs ks row sides kind
  with_same rs ks sides kind = rw (below_same rs ks sides.left, below_same _ _ sides.right)

module _ (file : List ℕ) where
  deeper : (d : ℕ) (rs ks : List ℕ) (row : ℕ) → row < d → learn_row file (suc d) rs ks row ≡ learn_row file d rs ks row
  unfolding learn_row
  deeper zero rs ks row l = absurd (omega arith)
  deeper (suc d) rs ks row l =
      by_test (row_marked rs row || leb row_limit row)
      (with_same (learn_row file (suc d)) (learn_row file d) row (λ rs' ks' x h. deeper d rs' ks' x (omega arith)) rs ks (sides_of file rs ks row (row_at file row)) (row_at file row))
    where
      by_test : (b : Bool) → {s t : State} → s ≡ t →
          ◌≡◌ {A = State} (elim b [ true ↦ state_of rs ks false | false ↦ s ]) (elim b [ true ↦ state_of rs ks false | false ↦ t ])
      by_test true e = refl
      by_test false e = e

  pub any_depth : (d : ℕ) (rs ks : List ℕ) (row : ℕ) → row < d → learn_row file d rs ks row ≡ learn_row file (suc row) rs ks row
  any_depth zero rs ks row l = absurd (omega arith)
  any_depth (suc d) rs ks row l = ⊎_elim (λ h. deeper d rs ks row h ∙ any_depth d rs ks row h) (λ e. rw e) (lt_suc row d l)

  -- `learn_row` and `below`, case by case
  module _ (rs ks : List ℕ) (row : ℕ) where
    pub learn_known : row_marked rs row ≡ true → state_of rs ks false ≡ learn_row file (suc row) rs ks row
    unfolding learn_row
    learn_known e = rw (e, learn_row)

    pub learn_past : row_limit ≤ row → state_of rs ks false ≡ learn_row file (suc row) rs ks row
    unfolding learn_row
    learn_past l = rw (le-leb row_limit row l, or_true (row_marked rs row), learn_row)

    -- a row that is opened, by what it is
    module _ (unmarked : row_marked rs row ≡ false) (room : row < row_limit) where
      abbrev Learnt : Row → Type 0
      Learnt R = learn_with (learn_row file row) rs ks row (sides_of file rs ks row R) R ≡ learn_row file (suc row) rs ks row

      opened : (R : Row) → R ≡ row_at file row → Learnt R
      unfolding learn_row
      opened R e = rw (e, unmarked, lt-leb row_limit row room, learn_row) refl

      no_side : {t : List ℕ} {u : List ℕ} → state_of t u false ≡ below (learn_row file row) t u row row
      no_side = let l : row ≤ row = omega arith in rw (le-ltb row row l, below)

      pub learn_pair : (x y : RowNo) → Pair x y ≡ row_at file row → (lr lk : List ℕ) (lf : Bool) → state_of lr lk lf ≡ below (learn_row file row) rs ks row x.0 →
          (rr rk : List ℕ) (rf : Bool) → state_of rr rk rf ≡ below (learn_row file row) lr lk row y.0 →
          state_of (set rr row 1) rk (lf || rf) ≡ learn_row file (suc row) rs ks row
      learn_pair x y e lr lk lf l rr rk rf r = rw (← opened (Pair x y) e, ← l, ← r, or_none (lf || rf)) refl

      pub learn_crypt : (k x : RowNo) → Crypt k x ≡ row_at file row → opens file rs ks k.0 ≡ true →
          (br bk : List ℕ) (bf : Bool) → state_of br bk bf ≡ below (learn_row file row) rs ks row x.0 →
          state_of (set br row 1) bk bf ≡ learn_row file (suc row) rs ks row
      learn_crypt k x e o br bk bf b = rw (← opened (Crypt k x) e, o, ← b, ← no_side {t = br} {u = bk}, or_none (bf || false), or_none bf) refl

      pub learn_shut : (k x : RowNo) → Crypt k x ≡ row_at file row → opens file rs ks k.0 ≡ false →
          state_of (set rs row 1) ks false ≡ learn_row file (suc row) rs ks row
      learn_shut k x e o = rw (← opened (Crypt k x) e, o, ← no_side {t = rs} {u = ks}, ← no_side {t = rs} {u = ks}) refl

      pub learn_public : (a : AgentNo) → PublicKey a ≡ row_at file row → state_of (set rs row 1) (know ks a.0) true ≡ learn_row file (suc row) rs ks row
      learn_public a e = rw (← opened (PublicKey a) e, ← no_side {t = rs} {u = ks}, ← no_side {t = rs} {u = ks}) refl

      pub learn_private : (a : AgentNo) → PrivateKey a ≡ row_at file row →
          state_of (set rs row 1) (know ks (agent_limit + a.0)) true ≡ learn_row file (suc row) rs ks row
      learn_private a e = rw (← opened (PrivateKey a) e, ← no_side {t = rs} {u = ks}, ← no_side {t = rs} {u = ks}) refl

      pub learn_session : (o : Role) (x y z : RowNo) → SessionKey o x y z ≡ row_at file row → state_of (set rs row 1) ks true ≡ learn_row file (suc row) rs ks row
      learn_session o x y z e = rw (← opened (SessionKey o x y z) e, ← no_side {t = rs} {u = ks}, ← no_side {t = rs} {u = ks}) refl

      -- a row that opens into nothing and is no key
      learn_leaf : (R : Row) → R ≡ row_at file row → sides_of file rs ks row R ≡ no_sides row false → know_row ks R ≡ ks →
          state_of (set rs row 1) ks false ≡ learn_row file (suc row) rs ks row
      learn_leaf R e n k = rw (← opened R e, n, ← no_side {t = rs} {u = ks}, ← no_side {t = rs} {u = ks}, k) refl

      pub learn_other : (R : Row) → R ≡ row_at file row → ((x y : RowNo) → ¬ (R ≡ Pair x y)) → ((k x : RowNo) → ¬ (R ≡ Crypt k x)) →
          ((a : AgentNo) → ¬ (R ≡ PublicKey a)) → ((a : AgentNo) → ¬ (R ≡ PrivateKey a)) → ((o : Role) (x y z : RowNo) → ¬ (R ≡ SessionKey o x y z)) →
          state_of (set rs row 1) ks false ≡ learn_row file (suc row) rs ks row
      learn_other (Agent a) e p c u v s = learn_leaf (Agent a) e refl refl
      learn_other (Number n) e p c u v s = learn_leaf (Number n) e refl refl
      learn_other (Nonce n) e p c u v s = learn_leaf (Nonce n) e refl refl
      learn_other (Prf w x y) e p c u v s = learn_leaf (Prf w x y) e refl refl
      learn_other (PublicKey a) e p c u v s = absurd (u a refl)
      learn_other (PrivateKey a) e p c u v s = absurd (v a refl)
      learn_other (SessionKey o x y z) e p c u v s = absurd (s o x y z refl)
      learn_other (Hash x) e p c u v s = learn_leaf (Hash x) e refl refl
      learn_other (Crypt k x) e p c u v s = absurd (c k x refl)
      learn_other (Pair x y) e p c u v s = absurd (p x y refl)

    pub below_taken : (x : ℕ) → x < row → learn_row file (suc x) rs ks x ≡ below (learn_row file row) rs ks row x
    below_taken x l = rw (lt-ltb x row l, below) (sym (any_depth row rs ks x l))

    pub below_left : (x : ℕ) → row ≤ x → state_of rs ks false ≡ below (learn_row file row) rs ks row x
    below_left x l = rw (le-ltb x row l, below)

  -- `reopen_row`, case by case
  module _ (rs ks : List ℕ) (row : ℕ) where
    below_marked : (x : ℕ) → row_marked rs x ≡ true → state_of rs ks false ≡ below (learn_row file row) rs ks row x
    below_marked x m = go (dec_lt x row)
      where
        go : Dec (x < row) → state_of rs ks false ≡ below (learn_row file row) rs ks row x
        go (yes l) = learn_known rs ks x m ∙ below_taken rs ks row x l
        go (no l) = below_left rs ks row x (omega arith)

    module _ (m : row_marked rs row ≡ true) (k x : RowNo) (e : Crypt k x ≡ row_at file row) where
      -- the body is the left side, and there is no right one
      sides_are : (R : Row) → R ≡ row_at file row → is_crypt R ≡ true → both_sides (learn_row file row) rs ks row (sides_of file rs ks row R) ≡ reopen_row file rs ks row
      sides_are R e' c =
          let d : is_crypt (row_at file row) ≡ true = rw (← e') c in
          rw (e', m, d, reopen_row) refl

      reopen_opens : opens file rs ks k.0 ≡ true → (rs' ks' : List ℕ) (g : Bool) → state_of rs' ks' g ≡ below (learn_row file row) rs ks row x.0 →
          state_of rs' ks' g ≡ reopen_row file rs ks row
      reopen_opens o rs' ks' g h = rw (o, ← h, ← below_left rs' ks' row row (omega arith), or_none g) refl ∙ sides_are (Crypt k x) e refl

      pub reopen_closed : opens file rs ks k.0 ≡ false → state_of rs ks false ≡ reopen_row file rs ks row
      reopen_closed o = rw (o, ← below_left rs ks row row (omega arith), ← below_left rs ks row row (omega arith)) refl ∙ sides_are (Crypt k x) e refl

      pub reopen_opened : row_marked rs x.0 ≡ true → state_of rs ks false ≡ reopen_row file rs ks row
      reopen_opened b = ⊎_elim (λ o. reopen_opens o rs ks false (below_marked x.0 b)) reopen_closed (bool_cases (opens file rs ks k.0))
