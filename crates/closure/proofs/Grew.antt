-- What learning does to the state: marks stay, a key row's key is known, and as long as no key became known a row that was closed,
-- or is new, is closed; a row that is no Crypt even if one did. By induction on the depth, over the sides that a row opens into.
-- Assumes nothing.
use Prim.Native.Nat.{ℕ, zero, suc, ◌+◌, ◌<◌, ◌≤◌}
use mathlib.Core.Bool.{Bool, true, false, ◌||◌, true≢false}
use mathlib.Core.List.{List}
use mathlib.Core.Logic.{◌⊎◌, inl, inr, ⊎_elim}
use mathlib.Core.Path.{◌≡◌, refl, sym, ◌∙◌}
use native.Mathlib.Omega.{arith}
use native.Mathlib.Decide.{ℕ_discrete}
use lib.Dec.{ltb}
use lib.ListN.{length, set, length-set}
use borrow.Author.Tests.{ltb-true, lt-ltb, lt-leb}
use Rattle.trace.specs.File.{row_limit, agent_limit, rows_of}
use Rattle.trace.specs.Kinds.{row_at}
use Rattle.trace.specs.Promises.{Promised, Keeps, agent, number, nonce, prf, public_key, private_key, session_key, hash, crypt, pair}
use Rattle.trace.specs.declared.Row.{Row}
use Rattle.trace.specs.declared.Row.TheVariants.{Agent, Number, Nonce, Prf, PublicKey, PrivateKey, SessionKey, Hash, Crypt, Pair}
use Rattle.laws.proofs.First.{bool_cases}
use Rattle.laws.proofs.Both.{or_false, or_false_right}
use Rattle.closure.specs.Closure.{key_room, Sides, State, state_of, row_marked, know_row, opens_row, opens, sides_of, below, both_sides, learn_with, learn_row, is_crypt}
use Rattle.closure.proofs.Marks.{Marked, Known, mark_same, mark_other, mark_keep, know_same, know_row_keep, know_row_room}

-- the key of a key row is known
abbrev pub Held : List ℕ → Row → Type 0
Held ks (Agent a) = Unit {0}
Held ks (Number n) = Unit {0}
Held ks (Nonce n) = Unit {0}
Held ks (Prf s x y) = Unit {0}
Held ks (PublicKey a) = Known ks a.0
Held ks (PrivateKey a) = Known ks (agent_limit + a.0)
Held ks (SessionKey o x y z) = Unit {0}
Held ks (Hash x) = Unit {0}
Held ks (Crypt k x) = Unit {0}
Held ks (Pair x y) = Unit {0}

held_keep : (ks ks' : List ℕ) → ((i : ℕ) → Known ks i → Known ks' i) → (R : Row) → Held ks R → Held ks' R
held_keep ks ks' k (Agent a) h = tt
held_keep ks ks' k (Number n) h = tt
held_keep ks ks' k (Nonce n) h = tt
held_keep ks ks' k (Prf s x y) h = tt
held_keep ks ks' k (PublicKey a) h = k a.0 h
held_keep ks ks' k (PrivateKey a) h = k (agent_limit + a.0) h
held_keep ks ks' k (SessionKey o x y z) h = tt
held_keep ks ks' k (Hash x) h = tt
held_keep ks ks' k (Crypt l x) h = tt
held_keep ks ks' k (Pair x y) h = tt

or_cases : (a b : Bool) → (a || b) ≡ true → (a ≡ true) ⊎ (b ≡ true)
or_cases true b e = inl refl
or_cases false b e = inr e

module _ (file : List ℕ) (P : Promised file) where
  abbrev pub sides_at : (rs ks : List ℕ) → ℕ → Sides
  sides_at rs ks x = sides_of file rs ks x (row_at file x)

  -- what row x opens into is known
  abbrev pub Closed : (rs ks : List ℕ) → ℕ → Type 0
  Closed rs ks x =
      Marked rs x →
      (((sides_at rs ks x).left < x → Marked rs (sides_at rs ks x).left) ×
      ((sides_at rs ks x).right < x → Marked rs (sides_at rs ks x).right))

  pub record Grew (rs ks : List ℕ) (t : State) : Type 0 where
    pub room : length t.rows ≡ row_limit
    pub room_keys : length t.keys ≡ key_room
    pub rows : (x : ℕ) → Marked rs x → Marked t.rows x
    pub keys : (i : ℕ) → Known ks i → Known t.keys i
    pub held : ((x : ℕ) → x < rows_of file → Marked rs x → Held ks (row_at file x)) →
        (x : ℕ) → x < rows_of file → Marked t.rows x → Held t.keys (row_at file x)
    pub same : t.fresh ≡ false → (k : ℕ) → k < rows_of file → opens file t.rows t.keys k ≡ opens file rs ks k
    pub closed : t.fresh ≡ false → (x : ℕ) → x < rows_of file → Closed rs ks x → Closed t.rows t.keys x
    pub steady : (x : ℕ) → is_crypt (row_at file x) ≡ false → Closed rs ks x → Closed t.rows t.keys x
    pub new : t.fresh ≡ true → (x : ℕ) × (x < row_limit) × (row_marked rs x ≡ false) × Marked t.rows x

  pub grew_still : (rs ks : List ℕ) → length rs ≡ row_limit → length ks ≡ key_room → Grew rs ks (state_of rs ks false)
  grew_still rs ks r k =
      record {
        room = r;
        room_keys = k;
        rows = λ x m. m;
        keys = λ i m. m;
        held = λ h. h;
        same = λ _ k l. refl;
        closed = λ _ x l c. c;
        steady = λ x n c. c;
        new = λ e. absurd (true≢false (sym e));
      }

  -- a mark that is not there after was not there before
  unmarked_before : (rs rs' : List ℕ) → ((x : ℕ) → Marked rs x → Marked rs' x) → (x : ℕ) → row_marked rs' x ≡ false → row_marked rs x ≡ false
  unmarked_before rs rs' grow x e = go (bool_cases (row_marked rs x))
    where
      go : (row_marked rs x ≡ true) ⊎ (row_marked rs x ≡ false) → row_marked rs x ≡ false
      go (inl t) = absurd (true≢false (sym (grow x t) ∙ e))
      go (inr f) = f

  pub grew_then : {rs ks : List ℕ} {s t : State} → Grew rs ks s → Grew s.rows s.keys t →
      Grew rs ks (state_of t.rows t.keys (s.fresh || t.fresh))
  grew_then {rs} {ks} {s} {t} g h =
      record {
        room = h.room;
        room_keys = h.room_keys;
        rows = λ x m. h.rows x (g.rows x m);
        keys = λ i m. h.keys i (g.keys i m);
        held = λ held. h.held (g.held held);
        same = λ e k l. h.same (or_false_right s.fresh t.fresh e) k l ∙ g.same (or_false s.fresh t.fresh e) k l;
        closed = λ e x l c. h.closed (or_false_right s.fresh t.fresh e) x l (g.closed (or_false s.fresh t.fresh e) x l c);
        steady = λ x n c. h.steady x n (g.steady x n c);
        new = λ e. ⊎_elim (λ a. from_first (g.new a)) (λ b. from_second (h.new b)) (or_cases s.fresh t.fresh e);
      }
    where
      from_first : (x : ℕ) × (x < row_limit) × (row_marked rs x ≡ false) × Marked s.rows x →
          (x : ℕ) × (x < row_limit) × (row_marked rs x ≡ false) × Marked t.rows x
      from_first (x, l, u, m) = (x, l, u, h.rows x m)

      from_second : (x : ℕ) × (x < row_limit) × (row_marked s.rows x ≡ false) × Marked t.rows x →
          (x : ℕ) × (x < row_limit) × (row_marked rs x ≡ false) × Marked t.rows x
      from_second (x, l, u, m) = (x, l, unmarked_before rs s.rows g.rows x u, m)

  -- sides depend on the state by way of `opens` alone
  sides_same : (rs ks rs' ks' : List ℕ) → ((k : ℕ) → k < rows_of file → opens file rs' ks' k ≡ opens file rs ks k) →
      (x : ℕ) (R : Row) → x < rows_of file → Keeps file x R → sides_of file rs' ks' x R ≡ sides_of file rs ks x R
  sides_same rs ks rs' ks' same x R l (agent h) = refl
  sides_same rs ks rs' ks' same x R l number = refl
  sides_same rs ks rs' ks' same x R l nonce = refl
  sides_same rs ks rs' ks' same x R l (prf a b c) = refl
  sides_same rs ks rs' ks' same x R l (public_key h) = refl
  sides_same rs ks rs' ks' same x R l (private_key h) = refl
  sides_same rs ks rs' ks' same x R l (session_key a b c) = refl
  sides_same rs ks rs' ks' same x R l (hash h) = refl
  sides_same rs ks rs' ks' same x R l (crypt {k = k} b h) = rw (same k.0 (omega (arith, b.below)))
  sides_same rs ks rs' ks' same x R l (pair a b) = refl

  -- and of a row that is no Crypt they depend on nothing
  sides_fixed : (rs ks rs' ks' : List ℕ) (R : Row) (x : ℕ) → is_crypt R ≡ false → sides_of file rs' ks' x R ≡ sides_of file rs ks x R
  sides_fixed rs ks rs' ks' (Agent a) x n = refl
  sides_fixed rs ks rs' ks' (Number v) x n = refl
  sides_fixed rs ks rs' ks' (Nonce v) x n = refl
  sides_fixed rs ks rs' ks' (Prf s y z) x n = refl
  sides_fixed rs ks rs' ks' (PublicKey a) x n = refl
  sides_fixed rs ks rs' ks' (PrivateKey a) x n = refl
  sides_fixed rs ks rs' ks' (SessionKey o y z m) x n = refl
  sides_fixed rs ks rs' ks' (Hash y) x n = refl
  sides_fixed rs ks rs' ks' (Crypt k y) x n = absurd (true≢false n)
  sides_fixed rs ks rs' ks' (Pair y z) x n = refl

  -- marking a row that is no key changes no `opens`
  no_key : (rs ks rs' ks' : List ℕ) (row k : ℕ) (R : Row) → (sides_of file rs ks row R).key ≡ false → opens_row rs' ks' k R ≡ false
  no_key rs ks rs' ks' row k (Agent a) e = refl
  no_key rs ks rs' ks' row k (Number n) e = refl
  no_key rs ks rs' ks' row k (Nonce n) e = refl
  no_key rs ks rs' ks' row k (Prf s x y) e = refl
  no_key rs ks rs' ks' row k (PublicKey a) e = absurd (true≢false e)
  no_key rs ks rs' ks' row k (PrivateKey a) e = absurd (true≢false e)
  no_key rs ks rs' ks' row k (SessionKey o x y z) e = absurd (true≢false e)
  no_key rs ks rs' ks' row k (Hash x) e = refl
  no_key rs ks rs' ks' row k (Crypt l x) e = refl
  no_key rs ks rs' ks' row k (Pair x y) e = refl

  know_row_none : (rs ks ks' : List ℕ) (row : ℕ) (R : Row) → (sides_of file rs ks row R).key ≡ false → know_row ks' R ≡ ks'
  know_row_none rs ks ks' row (Agent a) e = refl
  know_row_none rs ks ks' row (Number n) e = refl
  know_row_none rs ks ks' row (Nonce n) e = refl
  know_row_none rs ks ks' row (Prf s x y) e = refl
  know_row_none rs ks ks' row (PublicKey a) e = absurd (true≢false e)
  know_row_none rs ks ks' row (PrivateKey a) e = absurd (true≢false e)
  know_row_none rs ks ks' row (SessionKey o x y z) e = refl
  know_row_none rs ks ks' row (Hash x) e = refl
  know_row_none rs ks ks' row (Crypt l x) e = refl
  know_row_none rs ks ks' row (Pair x y) e = refl

  opens_other : (rs ks : List ℕ) → length rs ≡ row_limit → (row k : ℕ) (R : Row) → ¬ (k ≡ row) → opens_row (set rs row 1) ks k R ≡ opens_row rs ks k R
  opens_other rs ks room row k (Agent a) n = refl
  opens_other rs ks room row k (Number m) n = refl
  opens_other rs ks room row k (Nonce m) n = refl
  opens_other rs ks room row k (Prf s x y) n = refl
  opens_other rs ks room row k (PublicKey a) n = refl
  opens_other rs ks room row k (PrivateKey a) n = refl
  opens_other rs ks room row k (SessionKey o x y z) n = mark_other rs room row k n
  opens_other rs ks room row k (Hash x) n = refl
  opens_other rs ks room row k (Crypt l x) n = refl
  opens_other rs ks room row k (Pair x y) n = refl

  opens_same : (rs ks rs₀ ks₀ : List ℕ) → length rs ≡ row_limit → (row k : ℕ) → (sides_at rs₀ ks₀ row).key ≡ false →
      opens file (set rs row 1) (know_row ks (row_at file row)) k ≡ opens file rs ks k
  opens_same rs ks rs₀ ks₀ room row k e =
      rw (know_row_none rs₀ ks₀ ks row (row_at file row) e) (go (ℕ_discrete k row))
    where
      go : Dec (k ≡ row) → opens file (set rs row 1) ks k ≡ opens file rs ks k
      go (yes q) = rw q (no_key rs₀ ks₀ (set rs row 1) ks row row (row_at file row) e ∙ sym (no_key rs₀ ks₀ rs ks row row (row_at file row) e))
      go (no n) = opens_other rs ks room row k (row_at file k) n

  -- the key of a row that is learnt becomes known
  held_new : (ks : List ℕ) → length ks ≡ key_room → (row : ℕ) (R : Row) → Keeps file row R → Held (know_row ks R) R
  held_new ks room row R (agent h) = tt
  held_new ks room row R number = tt
  held_new ks room row R nonce = tt
  held_new ks room row R (prf a b c) = tt
  held_new ks room row R (public_key {a = a} h) = know_same ks room a.0 (omega arith)
  held_new ks room row R (private_key {a = a} h) = know_same ks room (agent_limit + a.0) (omega arith)
  held_new ks room row R (session_key a b c) = tt
  held_new ks room row R (hash h) = tt
  held_new ks room row R (crypt b h) = tt
  held_new ks room row R (pair a b) = tt

  -- a row is marked, after both its sides
  module _ (rs ks : List ℕ) (row : ℕ) (in_file : row < rows_of file) (unmarked : row_marked rs row ≡ false) (b : State) (g : Grew rs ks b)
      (left : (sides_at rs ks row).left < row → Marked b.rows (sides_at rs ks row).left)
      (right : (sides_at rs ks row).right < row → Marked b.rows (sides_at rs ks row).right) where
    abbrev R : Row
    R = row_at file row

    abbrev t : State
    t = state_of (set b.rows row 1) (know_row b.keys R) (b.fresh || (sides_at rs ks row).key)

    few : row < row_limit
    few = omega (arith, P.few_rows)

    grow : (x : ℕ) → Marked b.rows x → Marked t.rows x
    grow x m = mark_keep b.rows g.room row x m

    others : (x : ℕ) → ¬ (x ≡ row) → Marked t.rows x → Marked b.rows x
    others x n m = sym (mark_other b.rows g.room row x n) ∙ m

    same_b : t.fresh ≡ false → (k : ℕ) → opens file t.rows t.keys k ≡ opens file b.rows b.keys k
    same_b e k = opens_same b.rows b.keys rs ks g.room row k (or_false_right b.fresh _ e)

    same_t : t.fresh ≡ false → (k : ℕ) → k < rows_of file → opens file t.rows t.keys k ≡ opens file rs ks k
    same_t e k l = same_b e k ∙ g.same (or_false b.fresh _ e) k l

    held_t : ((x : ℕ) → x < rows_of file → Marked rs x → Held ks (row_at file x)) →
        (x : ℕ) → x < rows_of file → Marked t.rows x → Dec (x ≡ row) → Held t.keys (row_at file x)
    held_t h x l m (yes q) = rw q (held_new b.keys g.room_keys row R (P.keeps row in_file))
    held_t h x l m (no n) =
        held_keep b.keys t.keys (λ i. know_row_keep b.keys g.room_keys R i) (row_at file x) (g.held h x l (others x n m))

    -- row's sides were marked before it, and another row is as it was: where their sides stay, both are closed
    closed_t : (x : ℕ) → sides_at t.rows t.keys x ≡ sides_at rs ks x → sides_at t.rows t.keys x ≡ sides_at b.rows b.keys x →
        Closed b.rows b.keys x → Dec (x ≡ row) → Closed t.rows t.keys x
    closed_t x e eb c (yes q) m =
        let e' : sides_at t.rows t.keys row ≡ sides_at rs ks row = rw q at e in
        rw (q, e') (λ h. grow (sides_at rs ks row).left (left h), λ h. grow (sides_at rs ks row).right (right h))
    closed_t x e eb c (no n) m =
        let d = c (others x n m) in
        rw eb (λ h. grow (sides_at b.rows b.keys x).left (d.0 h), λ h. grow (sides_at b.rows b.keys x).right (d.1 h))

    same_closed : t.fresh ≡ false → (x : ℕ) → x < rows_of file → Closed rs ks x → Closed t.rows t.keys x
    same_closed e x l c =
        closed_t x (sides_same rs ks t.rows t.keys (same_t e) x (row_at file x) l (P.keeps x l))
        (sides_same b.rows b.keys t.rows t.keys (λ k _. same_b e k) x (row_at file x) l (P.keeps x l))
        (g.closed (or_false b.fresh _ e) x l c) (ℕ_discrete x row)

    steady_closed : (x : ℕ) → is_crypt (row_at file x) ≡ false → Closed rs ks x → Closed t.rows t.keys x
    steady_closed x n c =
        closed_t x (sides_fixed rs ks t.rows t.keys (row_at file x) x n)
        (sides_fixed b.rows b.keys t.rows t.keys (row_at file x) x n) (g.steady x n c) (ℕ_discrete x row)

    grew_mark : Grew rs ks t
    grew_mark =
        record {
          room = length-set b.rows row 1 ∙ g.room;
          room_keys = know_row_room b.keys g.room_keys R;
          rows = λ x m. grow x (g.rows x m);
          keys = λ i m. know_row_keep b.keys g.room_keys R i (g.keys i m);
          held = λ h x l m. held_t h x l m (ℕ_discrete x row);
          same = same_t;
          closed = same_closed;
          steady = steady_closed;
          new = λ e. (row, few, unmarked, mark_same b.rows g.room row few);
        }

  -- learning a row, as far as a depth goes
  abbrev Learns : ℕ → Type 0
  Learns d =
      (rs ks : List ℕ) (row : ℕ) → length rs ≡ row_limit → length ks ≡ key_room → row < rows_of file → row < d →
      Grew rs ks (learn_row file d rs ks row) × Marked (learn_row file d rs ks row).rows row

  module _ (d : ℕ) (learns : Learns d) (row : ℕ) (in_file : row < rows_of file) (deep : row ≤ d) where
    abbrev go : List ℕ → List ℕ → ℕ → State
    go = learn_row file d

    below_cases : (rs ks : List ℕ) (x : ℕ) → length rs ≡ row_limit → length ks ≡ key_room → (b : Bool) → ltb x row ≡ b →
        Grew rs ks (elim b [ true ↦ go rs ks x | false ↦ state_of rs ks false ]) ×
        (x < row → Marked (elim b as (λ _. State) [ true ↦ go rs ks x | false ↦ state_of rs ks false ]).rows x)
    below_cases rs ks x r k true e =
        let l = ltb-true x row e in
        let g = learns rs ks x r k (omega arith) (omega arith) in
        (g.0, λ _. g.1)
    below_cases rs ks x r k false e = (grew_still rs ks r k, λ l. absurd (true≢false (sym (lt-ltb x row l) ∙ e)))

    pub below_grew : (rs ks : List ℕ) (x : ℕ) → length rs ≡ row_limit → length ks ≡ key_room →
        Grew rs ks (below go rs ks row x) × (x < row → Marked (below go rs ks row x).rows x)
    below_grew rs ks x r k = below_cases rs ks x r k (ltb x row) refl

    pub both_grew : (rs ks : List ℕ) (s : Sides) → length rs ≡ row_limit → length ks ≡ key_room →
        Grew rs ks (both_sides go rs ks row s) ×
        (s.left < row → Marked (both_sides go rs ks row s).rows s.left) ×
        (s.right < row → Marked (both_sides go rs ks row s).rows s.right)
    both_grew rs ks s r k =
        let l = below_grew rs ks s.left r k in
        let b = below go rs ks row s.left in
        let g = below_grew b.rows b.keys s.right l.0.room l.0.room_keys in
        (grew_then l.0 g.0, λ h. g.0.rows s.left (l.1 h), λ h. g.1 h)

    with_grew : (rs ks : List ℕ) → length rs ≡ row_limit → length ks ≡ key_room → row_marked rs row ≡ false →
        Grew rs ks (learn_with go rs ks row (sides_at rs ks row) (row_at file row)) ×
        Marked (learn_with go rs ks row (sides_at rs ks row) (row_at file row)).rows row
    with_grew rs ks r k u =
        let b = both_grew rs ks (sides_at rs ks row) r k in (
          grew_mark rs ks row in_file u (both_sides go rs ks row (sides_at rs ks row)) b.0 b.1 b.2,
          mark_same (both_sides go rs ks row (sides_at rs ks row)).rows b.0.room row (omega (arith, P.few_rows)),
        )

  learn_cases : (d : ℕ) → Learns d → (rs ks : List ℕ) (row : ℕ) → length rs ≡ row_limit → length ks ≡ key_room → row < rows_of file → row ≤ d →
      (row_marked rs row ≡ true) ⊎ (row_marked rs row ≡ false) →
      Grew rs ks (learn_row file (suc d) rs ks row) × Marked (learn_row file (suc d) rs ks row).rows row
  unfolding learn_row
  learn_cases d learns rs ks row r k l h (inl m) = rw (m, learn_row) (grew_still rs ks r k, m)
  learn_cases d learns rs ks row r k l h (inr u) =
      rw (u, lt-leb row_limit row (omega (arith, P.few_rows)), learn_row) (with_grew d learns row l h rs ks r k u)

  pub learns : (d : ℕ) → Learns d
  learns zero rs ks row r k l h = absurd (omega arith)
  learns (suc d) rs ks row r k l h = learn_cases d (learns d) rs ks row r k l (omega arith) (bool_cases (row_marked rs row))

  -- a row whose sides were learnt is closed, where no key became known
  pub closed_same : (rs ks : List ℕ) (b : State) → Grew rs ks b → b.fresh ≡ false → (x : ℕ) → x < rows_of file →
      ((sides_at rs ks x).left < x → Marked b.rows (sides_at rs ks x).left) →
      ((sides_at rs ks x).right < x → Marked b.rows (sides_at rs ks x).right) → Closed b.rows b.keys x
  closed_same rs ks b g e x l p q m =
      rw (sides_same rs ks b.rows b.keys (g.same e) x (row_at file x) l (P.keeps x l)) (p, q)
