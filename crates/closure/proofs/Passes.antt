-- Passes: one in which no key became known closes every row, and there are few others, since each of them marks a row.
-- Assumes nothing.
use Prim.Native.Nat.{ℕ, zero, suc, ◌+◌, ◌<◌, ◌≤◌}
use mathlib.Core.Bool.{Bool, true, false, true≢false}
use mathlib.Core.List.{List}
use mathlib.Core.Logic.{◌⊎◌, inl, inr, ⊎_elim}
use mathlib.Core.Path.{◌≡◌, refl, sym, ◌∙◌}
use native.Mathlib.Omega.{arith}
use lib.ListN.{length}
use Rattle.trace.specs.File.{row_limit, rows_of}
use Rattle.laws.specs.Choose.{choose}
use Rattle.trace.specs.Kinds.{row_at}
use Rattle.trace.specs.Promises.{Promised}
use Rattle.laws.proofs.Both.{refuted, or_false, or_false_right}
use Rattle.laws.proofs.First.{bool_cases, lt_suc}
use Rattle.closure.specs.Closure.{key_room, State, state_of, row_marked, is_crypt, both_sides, learn_row, reopens, reopen_row, up_rows, down_rows, pass_rows, settle, see_row}
use Rattle.closure.proofs.Marks.{Marked, Known}
use Rattle.closure.proofs.Grew.{Held, Grew, grew_still, grew_then, sides_at, Closed, closed_same, learns, both_grew}

-- rows that are not marked
unmarked : ℕ → List ℕ → ℕ
unmarked zero rs = 0
unmarked (suc n) rs = unmarked n rs + choose (row_marked rs n) 0 1

module _ (rs rs' : List ℕ) (grow : (x : ℕ) → Marked rs x → Marked rs' x) where
  one_falls : (n : ℕ) → choose (row_marked rs' n) 0 1 ≤ choose (row_marked rs n) 0 1
  one_falls n = go (bool_cases (row_marked rs n)) (bool_cases (row_marked rs' n))
    where
      go : (row_marked rs n ≡ true) ⊎ (row_marked rs n ≡ false) → (row_marked rs' n ≡ true) ⊎ (row_marked rs' n ≡ false) →
          choose (row_marked rs' n) 0 1 ≤ choose (row_marked rs n) 0 1
      go (inl a) b = rw (a, grow n a) (omega arith)
      go (inr a) (inl b) = rw (a, b) (omega arith)
      go (inr a) (inr b) = rw (a, b) (omega arith)

  unmarked_falls : (n : ℕ) → unmarked n rs' ≤ unmarked n rs
  unfolding unmarked
  unmarked_falls zero = omega arith
  unmarked_falls (suc n) = omega (arith, unmarked_falls n, one_falls n)

  unmarked_less : (n x : ℕ) → x < n → row_marked rs x ≡ false → Marked rs' x → unmarked n rs' < unmarked n rs
  unfolding unmarked
  unmarked_less zero x l u m = absurd (omega arith)
  unmarked_less (suc n) x l u m = go (lt_suc x n l) (λ (h : x < n). unmarked_less n x h u m)
    where
      go : (x < n) ⊎ (x ≡ n) → (x < n → unmarked n rs' < unmarked n rs) →
          unmarked n rs' + choose (row_marked rs' n) 0 1 < unmarked n rs + choose (row_marked rs n) 0 1
      go (inl h) ih = omega (arith, ih h, one_falls n)
      go (inr e) ih =
          let u' : row_marked rs n ≡ false = rw e at u in
          let m' : row_marked rs' n ≡ true = rw e at m in
          rw (u', m') (omega (arith, unmarked_falls n))

unmarked_most : (n : ℕ) (rs : List ℕ) → unmarked n rs ≤ n
unfolding unmarked
unmarked_most zero rs = omega arith
unmarked_most (suc n) rs = omega (arith, unmarked_most n rs, one (row_marked rs n))
  where
    one : (b : Bool) → choose b 0 1 ≤ 1
    one true = omega arith
    one false = omega arith

module _ (file : List ℕ) (P : Promised file) where
  abbrev pub AllClosed : List ℕ → List ℕ → Type 0
  AllClosed rs ks = (x : ℕ) → x < rows_of file → Closed file P rs ks x

  -- what the way up closes: rows that are no Crypts stay closed by `steady`
  abbrev CryptsClosed : ℕ → State → Type 0
  CryptsClosed n t = t.fresh ≡ false → (x : ℕ) → x < n → is_crypt (row_at file x) ≡ true → Closed file P t.rows t.keys x

  pub reopen_grew : (rs ks : List ℕ) (r : ℕ) → length rs ≡ row_limit → length ks ≡ key_room → r < rows_of file →
      Grew file P rs ks (reopen_row file rs ks r) ×
      ((reopen_row file rs ks r).fresh ≡ false → is_crypt (row_at file r) ≡ true → Closed file P (reopen_row file rs ks r).rows (reopen_row file rs ks r).keys r)
  reopen_grew rs ks r rr kr l = go (bool_cases (reopens file rs r))
    where
      go : (reopens file rs r ≡ true) ⊎ (reopens file rs r ≡ false) →
          Grew file P rs ks (reopen_row file rs ks r) ×
          ((reopen_row file rs ks r).fresh ≡ false → is_crypt (row_at file r) ≡ true → Closed file P (reopen_row file rs ks r).rows (reopen_row file rs ks r).keys r)
      go (inl o) =
          let b = both_grew file P r (learns file P r) r l (omega arith) rs ks (sides_at file P rs ks r) rr kr in
          rw (o, reopen_row)
          (b.0, λ e _. closed_same file P rs ks (both_sides (learn_row file r) rs ks r (sides_at file P rs ks r)) b.0 e r l b.1 b.2)
      go (inr u) = rw (u, reopen_row) (grew_still file P rs ks rr kr, λ e c m. absurd (true≢false (rw (c, m) at u)))

  pub up_grew : (n : ℕ) (rs ks : List ℕ) → n ≤ rows_of file → length rs ≡ row_limit → length ks ≡ key_room →
      Grew file P rs ks (up_rows file n rs ks) × CryptsClosed n (up_rows file n rs ks)
  unfolding up_rows
  up_grew zero rs ks h r k = (grew_still file P rs ks r k, λ e x l c. absurd (omega arith))
  up_grew (suc n) rs ks h r k =
      let s = up_rows file n rs ks in
      let g = up_grew n rs ks (omega arith) r k in
      let t = reopen_row file s.rows s.keys n in
      let q = reopen_grew s.rows s.keys n g.0.room g.0.room_keys (omega arith) in (
        grew_then file P g.0 q.0,
        λ e x l c.
            ⊎_elim (λ (lx : x < n). q.0.closed (or_false_right s.fresh t.fresh e) x (omega arith) (g.1 (or_false s.fresh t.fresh e) x lx c))
            (λ (ex : x ≡ n). rw ex (q.1 (or_false_right s.fresh t.fresh e) (rw ex at c))) (lt_suc x n l),
      )

  -- the way down goes on from a state in which a key became known
  down_grew : (rs₀ ks₀ : List ℕ) (n : ℕ) (rs ks : List ℕ) → n ≤ rows_of file → Grew file P rs₀ ks₀ (state_of rs ks true) →
      Grew file P rs₀ ks₀ (down_rows file n rs ks)
  unfolding down_rows
  down_grew rs₀ ks₀ zero rs ks h g = g
  down_grew rs₀ ks₀ (suc n) rs ks h g =
      let s = reopen_row file rs ks n in
      let q = (reopen_grew rs ks n g.room g.room_keys (omega arith)).0 in
      down_grew rs₀ ks₀ n s.rows s.keys (omega arith) (grew_then file P g q)

  down_fresh : (n : ℕ) (rs ks : List ℕ) → (down_rows file n rs ks).fresh ≡ true
  unfolding down_rows
  down_fresh zero rs ks = refl
  down_fresh (suc n) rs ks = let s = reopen_row file rs ks n in down_fresh n s.rows s.keys

  pub pass_grew : (n : ℕ) (rs ks : List ℕ) → n ≤ rows_of file → length rs ≡ row_limit → length ks ≡ key_room →
      Grew file P rs ks (pass_rows file n rs ks) × CryptsClosed n (pass_rows file n rs ks)
  unfolding pass_rows
  pass_grew n rs ks h r k = go (bool_cases (up_rows file n rs ks).fresh) (up_grew n rs ks h r k)
    where
      go : ((up_rows file n rs ks).fresh ≡ true) ⊎ ((up_rows file n rs ks).fresh ≡ false) →
          Grew file P rs ks (up_rows file n rs ks) × CryptsClosed n (up_rows file n rs ks) →
          Grew file P rs ks (pass_rows file n rs ks) × CryptsClosed n (pass_rows file n rs ks)
      go (inl e) u =
          let s = up_rows file n rs ks in
          let g : Grew file P rs ks (state_of s.rows s.keys true) = rw (← e) u.0 in
          rw (e, pass_rows) (down_grew rs ks n s.rows s.keys h g, λ f. absurd (true≢false (sym (down_fresh n s.rows s.keys) ∙ f)))
      go (inr e) u = rw (e, pass_rows) u

  -- what settling keeps, and how it ends
  pub record Settled (rs ks : List ℕ) (t : State) : Type 0 where
    pub room : length t.rows ≡ row_limit
    pub room_keys : length t.keys ≡ key_room
    pub rows : (x : ℕ) → Marked rs x → Marked t.rows x
    pub keys : (i : ℕ) → Known ks i → Known t.keys i
    pub held : ((x : ℕ) → x < rows_of file → Marked rs x → Held ks (row_at file x)) →
        (x : ℕ) → x < rows_of file → Marked t.rows x → Held t.keys (row_at file x)
    pub closed : AllClosed t.rows t.keys

  settled_here : (rs ks : List ℕ) (s : State) → Grew file P rs ks s → AllClosed s.rows s.keys → Settled rs ks s
  settled_here rs ks s g c =
      record { room = g.room; room_keys = g.room_keys; rows = g.rows; keys = g.keys; held = g.held; closed = c }

  settled_after : {rs ks : List ℕ} {s t : State} → Grew file P rs ks s → Settled s.rows s.keys t → Settled rs ks t
  settled_after g q =
      record {
        room = q.room;
        room_keys = q.room_keys;
        rows = λ x m. q.rows x (g.rows x m);
        keys = λ i m. q.keys i (g.keys i m);
        held = λ h. q.held (g.held h);
        closed = q.closed;
      }

  -- rows that are no Crypts are closed at all times, so that a pass without a new key closes all
  abbrev Steady : List ℕ → List ℕ → Type 0
  Steady rs ks = (x : ℕ) → x < rows_of file → is_crypt (row_at file x) ≡ false → Closed file P rs ks x

  all_closed : (t : State) → Steady t.rows t.keys → CryptsClosed (rows_of file) t → t.fresh ≡ false → AllClosed t.rows t.keys
  all_closed t st c e x l = ⊎_elim (λ q. c e x l q) (λ n. st x l n) (bool_cases (is_crypt (row_at file x)))

  settles : (d : ℕ) (rs ks : List ℕ) (s : State) → Grew file P rs ks s → Steady s.rows s.keys →
      (s.fresh ≡ false → AllClosed s.rows s.keys) → (s.fresh ≡ true → unmarked row_limit s.rows < d) →
      Settled rs ks (settle file d s) × ((x : ℕ) → Marked s.rows x → Marked (settle file d s).rows x)
  unfolding settle
  settles zero rs ks s g st c less = (settled_here rs ks s g (c (refuted _ (λ e. omega (arith, less e)))), λ x m. m)
  settles (suc d) rs ks s g st c less =
      go (bool_cases s.fresh)
      (λ (e : s.fresh ≡ true).
      let p = pass_rows file (rows_of file) s.rows s.keys in
      let q = pass_grew (rows_of file) s.rows s.keys (omega arith) g.room g.room_keys in
      let after : Steady p.rows p.keys = λ x l n. q.0.steady x n (st x l n) in
      (settles d s.rows s.keys p q.0 after (all_closed p after q.1)
      (λ f. omega (arith, less e, fewer s.rows p.rows q.0.rows (q.0.new f)))).0)
    where
      fewer : (rs rs' : List ℕ) → ((x : ℕ) → Marked rs x → Marked rs' x) →
          (x : ℕ) × (x < row_limit) × (row_marked rs x ≡ false) × Marked rs' x → unmarked row_limit rs' < unmarked row_limit rs
      fewer rs rs' grow (x, l, u, m) = unmarked_less rs rs' grow row_limit x l u m

      go : (s.fresh ≡ true) ⊎ (s.fresh ≡ false) →
          (s.fresh ≡ true → Settled s.rows s.keys (settle file d (pass_rows file (rows_of file) s.rows s.keys))) →
          Settled rs ks (settle file (suc d) s) × ((x : ℕ) → Marked s.rows x → Marked (settle file (suc d) s).rows x)
      go (inl e) ih = rw (e, settle) (settled_after g (ih e), (ih e).rows)
      go (inr e) ih = rw (e, settle) (settled_here rs ks s g (c e), λ x m. m)

  -- a row is seen in a closed state: the state is closed again, and the row is marked
  pub see_settles : (rs ks : List ℕ) (row : ℕ) → length rs ≡ row_limit → length ks ≡ key_room → row < rows_of file → AllClosed rs ks →
      Settled rs ks (settle file row_limit (learn_row file (suc row) rs ks row)) × Marked (see_row file rs ks row).rows row
  see_settles rs ks row r k l c =
      let s = learn_row file (suc row) rs ks row in
      let g = learns file P (suc row) rs ks row r k l (omega arith) in
      let end = settles row_limit rs ks s g.0 (λ x lx n. g.0.steady x n (c x lx)) (λ e x lx. g.0.closed e x lx (c x lx)) (λ e. few s.rows g.0.rows (g.0.new e)) in
      (end.0, end.1 row g.1)
    where
      few : (rs' : List ℕ) → ((x : ℕ) → Marked rs x → Marked rs' x) →
          (x : ℕ) × (x < row_limit) × (row_marked rs x ≡ false) × Marked rs' x → unmarked row_limit rs' < row_limit
      few rs' grow (x, lx, u, m) = omega (arith, unmarked_less rs rs' grow row_limit x lx u m, unmarked_most row_limit rs)
