-- What is marked is analysed: a row's sides are what analysis opens it into, by keys that are analysed.
-- Assumes nothing.
use Prim.Native.Nat.{ℕ, zero, suc, ◌+◌, ◌<◌, ◌≤◌}
use mathlib.Core.Bool.{Bool, true, false, true≢false}
use mathlib.Core.List.{List}
use mathlib.Core.Logic.{◌⊎◌, inl, inr}
use mathlib.Core.Path.{◌≡◌, refl, sym, ◌∙◌}
use native.Mathlib.Omega.{arith}
use native.Mathlib.Decide.{ℕ_discrete}
use lib.Dec.{ltb, eqb}
use lib.ListN.{length, get_or, set}
use borrow.Author.Tests.{ltb-true, lt-leb}
use Rattle.paper.specs.Message as paper
use Rattle.paper.specs.Spy.{Analz, fst, snd, decrypt}
use Rattle.trace.specs.File.{row_limit, agent_limit, rows_of}
use Rattle.trace.specs.Kinds.{row_at}
use Rattle.trace.specs.Meaning.{message}
use Rattle.trace.specs.Promises.{Promised, Keeps, Unfolds, as_agent, as_number, as_nonce, as_prf, as_public, as_private, as_session, as_hash, as_crypt, as_pair, public_key, private_key, crypt}
use Rattle.trace.specs.declared.Row.{Row}
use Rattle.trace.specs.declared.Row.TheVariants.{Crypt}
use Rattle.laws.proofs.First.{bool_cases}
use Rattle.laws.proofs.Both.{both}
use Rattle.closure.specs.Closure.{key_room, Sides, State, state_of, row_marked, know, know_row, opens_row, opens, sides_of, below, both_sides, learn_with, learn_row, is_crypt, reopens, reopen_row, up_rows, down_rows, pass_rows, settle, see_row}
use Rattle.closure.proofs.Marks.{Marked, Known, mark_other, know_other}
use Rattle.closure.proofs.Grew.{sides_at, learns, below_grew, both_grew}
use Rattle.closure.proofs.Passes.{reopen_grew, up_grew, pass_grew}

module _ (file : List ℕ) (P : Promised file) (H : paper.msg → Type 0) where
  pub record Sound (rs ks : List ℕ) : Type 0 where
    pub rows : (x : ℕ) → x < rows_of file → Marked rs x → Analz H (message file x)
    pub pubs : (a : ℕ) → a < agent_limit → Known ks a → Analz H (paper.Key (paper.pub_k a))
    pub pris : (a : ℕ) → a < agent_limit → Known ks (agent_limit + a) → Analz H (paper.Key (paper.pri_k a))

  module _ (rs ks : List ℕ) (s : Sound rs ks) where
    -- the inverse of a key that opens is analysed
    opens_row_lem : (k : ℕ) (R : Row) {X : paper.msg} (K : paper.key) → Keeps file k R → Unfolds (message file) R X →
        X ≡ paper.Key K → (Marked rs k → Analz H X) → opens_row rs ks k R ≡ true → Analz H (paper.Key (paper.inv_key K))
    unfolding paper.inv_key
    opens_row_lem k R K kp (as_public {a = a} {A = A} q) e own o =
        let h = ltb-true (agent_limit + a.0) key_room (both (ltb (agent_limit + a.0) key_room) (eqb (get_or ks (agent_limit + a.0) 0) 1) o).0 in
        let K_is : K ≡ paper.pub_k A = cc in
        rw (K_is, ← q) (s.pris a.0 (omega arith) o)
    opens_row_lem k R K (private_key l) (as_private {a = a} {A = A} q) e own o =
        let K_is : K ≡ paper.pri_k A = cc in
        rw (K_is, ← q) (s.pubs a.0 l o)
    opens_row_lem k R K kp (as_session {R = r} {X = X} {Y = Y} {Z = Z} p q t u) e own o =
        let K_is : K ≡ paper.session_k r X Y Z = cc in
        rw K_is (own o)
    opens_row_lem k R K kp (as_agent q) e own o = absurd (true≢false (sym o))
    opens_row_lem k R K kp (as_number q) e own o = absurd (true≢false (sym o))
    opens_row_lem k R K kp (as_nonce q) e own o = absurd (true≢false (sym o))
    opens_row_lem k R K kp (as_prf p q t) e own o = absurd (true≢false (sym o))
    opens_row_lem k R K kp (as_hash q) e own o = absurd (true≢false (sym o))
    opens_row_lem k R K kp (as_crypt p q) e own o = absurd (true≢false (sym o))
    opens_row_lem k R K kp (as_pair p q) e own o = absurd (true≢false (sym o))

    opens_sound : (k : ℕ) (K : paper.key) → k < rows_of file → message file k ≡ paper.Key K → opens file rs ks k ≡ true →
        Analz H (paper.Key (paper.inv_key K))
    opens_sound k K l e o = opens_row_lem k (row_at file k) K (P.keeps k l) (P.unfolds k l) e (s.rows k l) o

    -- the sides of an analysed row are analysed
    sides_row : (row : ℕ) (R : Row) {X : paper.msg} → row < rows_of file → Keeps file row R → Unfolds (message file) R X → Analz H X →
        ((sides_of file rs ks row R).left < row → Analz H (message file (sides_of file rs ks row R).left)) ×
        ((sides_of file rs ks row R).right < row → Analz H (message file (sides_of file rs ks row R).right))
    sides_row row R l kp (as_pair p q) a = (λ _. rw p (fst a), λ _. rw q (snd a))
    sides_row row R l (crypt {k = k} b h) (as_crypt {x = x} {K = K} p q) a = go (bool_cases (opens file rs ks k.0))
      where
        go : (opens file rs ks k.0 ≡ true) ⊎ (opens file rs ks k.0 ≡ false) →
            ((sides_of file rs ks row (Crypt k x)).left < row → Analz H (message file (sides_of file rs ks row (Crypt k x)).left)) ×
            ((sides_of file rs ks row (Crypt k x)).right < row → Analz H (message file (sides_of file rs ks row (Crypt k x)).right))
        go (inl o) = rw o (λ _. rw q (decrypt a (opens_sound k.0 K (omega (arith, b.below)) p o)), λ m. absurd (omega arith))
        go (inr o) = rw o (λ m. absurd (omega arith), λ m. absurd (omega arith))
    sides_row row R l kp (as_agent q) a = (λ m. absurd (omega arith), λ m. absurd (omega arith))
    sides_row row R l kp (as_number q) a = (λ m. absurd (omega arith), λ m. absurd (omega arith))
    sides_row row R l kp (as_nonce q) a = (λ m. absurd (omega arith), λ m. absurd (omega arith))
    sides_row row R l kp (as_prf p q t) a = (λ m. absurd (omega arith), λ m. absurd (omega arith))
    sides_row row R l kp (as_public q) a = (λ m. absurd (omega arith), λ m. absurd (omega arith))
    sides_row row R l kp (as_private q) a = (λ m. absurd (omega arith), λ m. absurd (omega arith))
    sides_row row R l kp (as_session p q t u) a = (λ m. absurd (omega arith), λ m. absurd (omega arith))
    sides_row row R l kp (as_hash q) a = (λ m. absurd (omega arith), λ m. absurd (omega arith))

    sides_sound : (row : ℕ) → row < rows_of file → Analz H (message file row) →
        ((sides_at file P rs ks row).left < row → Analz H (message file (sides_at file P rs ks row).left)) ×
        ((sides_at file P rs ks row).right < row → Analz H (message file (sides_at file P rs ks row).right))
    sides_sound row l a = sides_row row (row_at file row) l (P.keeps row l) (P.unfolds row l) a

  -- a row that is analysed is marked, and its key becomes known
  module _ (rs ks : List ℕ) (room : length rs ≡ row_limit) (room_keys : length ks ≡ key_room) (s : Sound rs ks)
      (row : ℕ) (in_file : row < rows_of file) (a : Analz H (message file row)) where
    rows_set : (x : ℕ) → x < rows_of file → Marked (set rs row 1) x → Dec (x ≡ row) → Analz H (message file x)
    rows_set x l m (yes q) = rw q a
    rows_set x l m (no n) = s.rows x l (sym (mark_other rs room row x n) ∙ m)

    -- knowing one key
    pub_know : (i A : ℕ) → Analz H (paper.Key (paper.pub_k A)) → i ≡ A → (b : ℕ) → b < agent_limit → Known (know ks i) b → Dec (b ≡ i) →
        Analz H (paper.Key (paper.pub_k b))
    pub_know i A k e b l m (yes q) = rw (q, e) k
    pub_know i A k e b l m (no n) = s.pubs b l (sym (know_other ks room_keys i b n) ∙ m)

    pri_know : (i A : ℕ) → Analz H (paper.Key (paper.pri_k A)) → i ≡ A → (b : ℕ) → b < agent_limit → Known (know ks (agent_limit + i)) (agent_limit + b) →
        Dec (agent_limit + b ≡ agent_limit + i) → Analz H (paper.Key (paper.pri_k b))
    pri_know i A k e b l m (yes q) = let q' : b ≡ i = omega arith in rw (q', e) k
    pri_know i A k e b l m (no n) = s.pris b l (sym (know_other ks room_keys (agent_limit + i) (agent_limit + b) n) ∙ m)

    abbrev Keys : List ℕ → Type 0
    Keys ks' =
        ((b : ℕ) → b < agent_limit → Known ks' b → Analz H (paper.Key (paper.pub_k b))) ×
        ((b : ℕ) → b < agent_limit → Known ks' (agent_limit + b) → Analz H (paper.Key (paper.pri_k b)))

    keys_know : (R : Row) {X : paper.msg} → Keeps file row R → Unfolds (message file) R X → Analz H X → Keys (know_row ks R)
    keys_know R (public_key h) (as_public {a = i} {A = A} q) k = (
      λ b l m. pub_know i.0 A k q b l m (ℕ_discrete b i.0),
      λ b l m. s.pris b l (sym (know_other ks room_keys i.0 (agent_limit + b) (omega arith)) ∙ m),
    )
    keys_know R (private_key h) (as_private {a = i} {A = A} q) k = (
      λ b l m. s.pubs b l (sym (know_other ks room_keys (agent_limit + i.0) b (omega arith)) ∙ m),
      λ b l m. pri_know i.0 A k q b l m (ℕ_discrete (agent_limit + b) (agent_limit + i.0)),
    )
    keys_know R kp (as_agent q) k = (s.pubs, s.pris)
    keys_know R kp (as_number q) k = (s.pubs, s.pris)
    keys_know R kp (as_nonce q) k = (s.pubs, s.pris)
    keys_know R kp (as_prf p q t) k = (s.pubs, s.pris)
    keys_know R kp (as_session p q t u) k = (s.pubs, s.pris)
    keys_know R kp (as_hash q) k = (s.pubs, s.pris)
    keys_know R kp (as_crypt p q) k = (s.pubs, s.pris)
    keys_know R kp (as_pair p q) k = (s.pubs, s.pris)

    sound_mark : Sound (set rs row 1) (know_row ks (row_at file row))
    sound_mark =
        let k = keys_know (row_at file row) (P.keeps row in_file) (P.unfolds row in_file) a in
        record { rows = λ x l m. rows_set x l m (ℕ_discrete x row); pubs = k.0; pris = k.1 }

  abbrev Sounds : ℕ → Type 0
  Sounds d =
      (rs ks : List ℕ) (row : ℕ) → length rs ≡ row_limit → length ks ≡ key_room → row < rows_of file → row < d → Sound rs ks →
      Analz H (message file row) → Sound (learn_row file d rs ks row).rows (learn_row file d rs ks row).keys

  module _ (d : ℕ) (sounds : Sounds d) (row : ℕ) (in_file : row < rows_of file) (deep : row ≤ d) where
    below_sound : (rs ks : List ℕ) (x : ℕ) → length rs ≡ row_limit → length ks ≡ key_room → Sound rs ks → (x < row → Analz H (message file x)) →
        Sound (below (learn_row file d) rs ks row x).rows (below (learn_row file d) rs ks row x).keys
    below_sound rs ks x r k s a = go (ltb x row) refl
      where
        go : (b : Bool) → ltb x row ≡ b →
            Sound (elim b as (λ _. State) [ true ↦ learn_row file d rs ks x | false ↦ state_of rs ks false ]).rows
            (elim b as (λ _. State) [ true ↦ learn_row file d rs ks x | false ↦ state_of rs ks false ]).keys
        go true e = let l = ltb-true x row e in sounds rs ks x r k (omega arith) (omega arith) s (a l)
        go false e = s

    pub both_sound : (rs ks : List ℕ) (t : Sides) → length rs ≡ row_limit → length ks ≡ key_room → Sound rs ks →
        (t.left < row → Analz H (message file t.left)) → (t.right < row → Analz H (message file t.right)) →
        Sound (both_sides (learn_row file d) rs ks row t).rows (both_sides (learn_row file d) rs ks row t).keys
    both_sound rs ks t r k s p q =
        let l = below (learn_row file d) rs ks row t.left in
        let g = (below_grew file P d (learns file P d) row in_file deep rs ks t.left r k).0 in
        below_sound l.rows l.keys t.right g.room g.room_keys (below_sound rs ks t.left r k s p) q

    with_sound : (rs ks : List ℕ) → length rs ≡ row_limit → length ks ≡ key_room → Sound rs ks → Analz H (message file row) →
        Sound (learn_with (learn_row file d) rs ks row (sides_at file P rs ks row) (row_at file row)).rows
        (learn_with (learn_row file d) rs ks row (sides_at file P rs ks row) (row_at file row)).keys
    with_sound rs ks r k s a =
        let t = sides_at file P rs ks row in
        let b = both_sides (learn_row file d) rs ks row t in
        let g = (both_grew file P d (learns file P d) row in_file deep rs ks t r k).0 in
        let p = sides_sound rs ks s row in_file a in
        sound_mark b.rows b.keys g.room g.room_keys (both_sound rs ks t r k s p.0 p.1) row in_file a

  sound_cases : (d : ℕ) → Sounds d → (rs ks : List ℕ) (row : ℕ) → length rs ≡ row_limit → length ks ≡ key_room → row < rows_of file → row ≤ d →
      Sound rs ks → Analz H (message file row) → (row_marked rs row ≡ true) ⊎ (row_marked rs row ≡ false) →
      Sound (learn_row file (suc d) rs ks row).rows (learn_row file (suc d) rs ks row).keys
  unfolding learn_row
  sound_cases d sounds rs ks row r k l h s a (inl m) = rw (m, learn_row) s
  sound_cases d sounds rs ks row r k l h s a (inr u) =
      rw (u, lt-leb row_limit row (omega (arith, P.few_rows)), learn_row) (with_sound d sounds row l h rs ks r k s a)

  sounds : (d : ℕ) → Sounds d
  sounds zero rs ks row r k l h s a = absurd (omega arith)
  sounds (suc d) rs ks row r k l h s a = sound_cases d (sounds d) rs ks row r k l (omega arith) s a (bool_cases (row_marked rs row))

  reopen_sound : (rs ks : List ℕ) (r : ℕ) → length rs ≡ row_limit → length ks ≡ key_room → r < rows_of file → Sound rs ks →
      Sound (reopen_row file rs ks r).rows (reopen_row file rs ks r).keys
  reopen_sound rs ks r rr kr l s = go (bool_cases (reopens file rs r))
    where
      go : (reopens file rs r ≡ true) ⊎ (reopens file rs r ≡ false) → Sound (reopen_row file rs ks r).rows (reopen_row file rs ks r).keys
      go (inl m) =
          let p = sides_sound rs ks s r l (s.rows r l (both (row_marked rs r) (is_crypt (row_at file r)) m).0) in
          rw (m, reopen_row) (both_sound r (sounds r) r l (omega arith) rs ks (sides_at file P rs ks r) rr kr s p.0 p.1)
      go (inr u) = rw (u, reopen_row) s

  up_sound : (n : ℕ) (rs ks : List ℕ) → n ≤ rows_of file → length rs ≡ row_limit → length ks ≡ key_room → Sound rs ks →
      Sound (up_rows file n rs ks).rows (up_rows file n rs ks).keys
  unfolding up_rows
  up_sound zero rs ks h r k s = s
  up_sound (suc n) rs ks h r k s =
      let p = up_rows file n rs ks in
      let g = (up_grew file P n rs ks (omega arith) r k).0 in
      reopen_sound p.rows p.keys n g.room g.room_keys (omega arith) (up_sound n rs ks (omega arith) r k s)

  down_sound : (n : ℕ) (rs ks : List ℕ) → n ≤ rows_of file → length rs ≡ row_limit → length ks ≡ key_room → Sound rs ks →
      Sound (down_rows file n rs ks).rows (down_rows file n rs ks).keys
  unfolding down_rows
  down_sound zero rs ks h r k s = s
  down_sound (suc n) rs ks h r k s =
      let t = reopen_row file rs ks n in
      let g = (reopen_grew file P rs ks n r k (omega arith)).0 in
      down_sound n t.rows t.keys (omega arith) g.room g.room_keys (reopen_sound rs ks n r k (omega arith) s)

  pass_sound : (n : ℕ) (rs ks : List ℕ) → n ≤ rows_of file → length rs ≡ row_limit → length ks ≡ key_room → Sound rs ks →
      Sound (pass_rows file n rs ks).rows (pass_rows file n rs ks).keys
  unfolding pass_rows
  pass_sound n rs ks h r k s = go (bool_cases (up_rows file n rs ks).fresh)
    where
      go : ((up_rows file n rs ks).fresh ≡ true) ⊎ ((up_rows file n rs ks).fresh ≡ false) →
          Sound (pass_rows file n rs ks).rows (pass_rows file n rs ks).keys
      go (inl e) =
          let p = up_rows file n rs ks in
          let g = (up_grew file P n rs ks h r k).0 in
          rw (e, pass_rows) (down_sound n p.rows p.keys h g.room g.room_keys (up_sound n rs ks h r k s))
      go (inr e) = rw (e, pass_rows) (up_sound n rs ks h r k s)

  settle_sound : (d : ℕ) (t : State) → length t.rows ≡ row_limit → length t.keys ≡ key_room → Sound t.rows t.keys →
      Sound (settle file d t).rows (settle file d t).keys
  unfolding settle
  settle_sound zero t r k s = s
  settle_sound (suc d) t r k s =
      go (bool_cases t.fresh)
      (let g = (pass_grew file P (rows_of file) t.rows t.keys (omega arith) r k).0 in
      settle_sound d (pass_rows file (rows_of file) t.rows t.keys) g.room g.room_keys
      (pass_sound (rows_of file) t.rows t.keys (omega arith) r k s))
    where
      go : (t.fresh ≡ true) ⊎ (t.fresh ≡ false) →
          Sound (settle file d (pass_rows file (rows_of file) t.rows t.keys)).rows (settle file d (pass_rows file (rows_of file) t.rows t.keys)).keys →
          Sound (settle file (suc d) t).rows (settle file (suc d) t).keys
      go (inl e) ih = rw (e, settle) ih
      go (inr e) ih = rw (e, settle) s

  pub see_sound : (rs ks : List ℕ) (row : ℕ) → length rs ≡ row_limit → length ks ≡ key_room → row < rows_of file → Sound rs ks →
      Analz H (message file row) → Sound (see_row file rs ks row).rows (see_row file rs ks row).keys
  see_sound rs ks row r k l s a =
      let g = (learns file P (suc row) rs ks row r k l (omega arith)).0 in
      settle_sound row_limit (learn_row file (suc row) rs ks row) g.room g.room_keys (sounds (suc row) rs ks row r k l (omega arith) s a)
