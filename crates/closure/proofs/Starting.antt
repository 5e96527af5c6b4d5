-- The starting knowledge: the private keys of compromised agents, with a row or without, and nothing else.
-- Assumes nothing.
use Prim.Native.Nat.{ℕ, zero, suc, ◌+◌, ◌<◌, ◌≤◌}
use mathlib.Core.Bool.{Bool, true, false, true≢false}
use mathlib.Core.List.{List, []}
use mathlib.Core.Logic.{◌⊎◌, inl, inr}
use mathlib.Core.Path.{◌≡◌, sym, ◌∙◌, subst}
use native.Mathlib.Omega.{arith}
use native.Mathlib.Decide.{ℕ_discrete}
use lib.Dec.{ltb}
use lib.ListN.{length, length-replicate}
use borrow.Author.Tests.{ltb-true}
use Rattle.paper.specs.Message as paper
use Rattle.paper.specs.Spy.{Starts, own, Spies, start, said, noted, Analz, inj}
use Rattle.trace.specs.File.{row_limit, agent_limit, rows_of, events_of, compromised_in}
use Rattle.laws.specs.Choose.{choose}
use Rattle.trace.specs.Events.{event_at}
use Rattle.trace.specs.Kinds.{row_at}
use Rattle.trace.specs.Meaning.{message, bad, beginning}
use Rattle.trace.specs.Promises.{Promised, Keeps, agent, number, nonce, prf, public_key, private_key, session_key, hash, crypt, pair, Unfolds, as_private}
use Rattle.trace.specs.declared.AgentNo.{AgentNo}
use Rattle.trace.specs.declared.Row.{Row}
use Rattle.trace.specs.declared.Row.TheVariants.{PrivateKey}
use Rattle.laws.proofs.First.{bool_cases, lt_suc}
use Rattle.laws.proofs.Both.{both}
use Rattle.closure.specs.Closure.{key_room, know, sides_of, start_keys, key_known, mark_row, start_rows, zeros, known_after}
use Rattle.closure.proofs.Marks.{Marked, Known, none_marked, mark_same, mark_other, mark_keep, mark_room, know_same, know_other, know_keep, know_room}
use Rattle.closure.proofs.Grew.{Held}
use Rattle.closure.proofs.Exact.{Good, good_event}

zeros_room : (m : ℕ) → length (zeros m) ≡ m
zeros_room m = length-replicate {A = ℕ} m 0

module _ (file : List ℕ) where
  below_limit : (A : ℕ) → bad file A → A < agent_limit
  below_limit A b = ltb-true A agent_limit (both (ltb A agent_limit) _ b).0

  -- keys
  keys_room : (n : ℕ) (ks : List ℕ) → length ks ≡ key_room → length (start_keys file n ks) ≡ key_room
  unfolding start_keys
  keys_room zero ks r = r
  keys_room (suc n) ks r = go (compromised_in file n) (keys_room n ks r)
    where
      go : (b : Bool) → length (start_keys file n ks) ≡ key_room → length (choose b (know (start_keys file n ks) (agent_limit + n)) (start_keys file n ks)) ≡ key_room
      go true ih = know_room (start_keys file n ks) ih (agent_limit + n)
      go false ih = ih

  one_key : (b : Bool) (ks : List ℕ) (n i : ℕ) → length ks ≡ key_room → Known ks i → Known (choose b (know ks (agent_limit + n)) ks) i
  one_key true ks n i r k = know_keep ks r (agent_limit + n) i k
  one_key false ks n i r k = k

  keys_in : (n : ℕ) (ks : List ℕ) → length ks ≡ key_room → (A : ℕ) → A < n → bad file A → Known (start_keys file n ks) (agent_limit + A)
  unfolding start_keys
  keys_in zero ks r A l b = absurd (omega arith)
  keys_in (suc n) ks r A l b = go (lt_suc A n l) (λ (h : A < n). keys_in n ks r A h b)
    where
      go : (A < n) ⊎ (A ≡ n) → (A < n → Known (start_keys file n ks) (agent_limit + A)) →
          Known (choose (compromised_in file n) (know (start_keys file n ks) (agent_limit + n)) (start_keys file n ks)) (agent_limit + A)
      go (inl h) ih = one_key (compromised_in file n) (start_keys file n ks) n (agent_limit + A) (keys_room n ks r) (ih h)
      go (inr e) ih =
          let c : compromised_in file n ≡ true = subst (bad file) e b in
          rw (e, c) (know_same (start_keys file n ks) (keys_room n ks r) (agent_limit + n) (omega (arith, below_limit n c)))

  abbrev FromBad : ℕ → Type 0
  FromBad i = (A : ℕ) × bad file A × (i ≡ agent_limit + A)

  keys_out : (n : ℕ) (ks : List ℕ) → length ks ≡ key_room → (i : ℕ) → Known (start_keys file n ks) i → Known ks i ⊎ FromBad i
  unfolding start_keys
  keys_out zero ks r i k = inl k
  keys_out (suc n) ks r i k = go (bool_cases (compromised_in file n)) (ℕ_discrete i (agent_limit + n)) (λ (h : Known (start_keys file n ks) i). keys_out n ks r i h)
    where
      go : (compromised_in file n ≡ true) ⊎ (compromised_in file n ≡ false) → Dec (i ≡ agent_limit + n) →
          (Known (start_keys file n ks) i → Known ks i ⊎ FromBad i) → Known ks i ⊎ FromBad i
      go (inl c) (yes q) ih = inr (n, c, q)
      go (inl c) (no m) ih = ih (sym (know_other (start_keys file n ks) (keys_room n ks r) (agent_limit + n) i m) ∙ rw c at k)
      go (inr c) d ih = ih (rw c at k)

  -- rows
  module _ (ks : List ℕ) where
    rows_room : (n : ℕ) (rs : List ℕ) → length rs ≡ row_limit → length (start_rows file ks n rs) ≡ row_limit
    unfolding start_rows
    rows_room zero rs r = r
    rows_room (suc n) rs r = go (key_known ks (row_at file n)) (rows_room n rs r)
      where
        go : (b : Bool) → length (start_rows file ks n rs) ≡ row_limit → length (choose b (mark_row (start_rows file ks n rs) n) (start_rows file ks n rs)) ≡ row_limit
        go true ih = mark_room (start_rows file ks n rs) ih n
        go false ih = ih

    one_row : (b : Bool) (rs : List ℕ) (n x : ℕ) → length rs ≡ row_limit → Marked rs x → Marked (choose b (mark_row rs n) rs) x
    one_row true rs n x r m = mark_keep rs r n x m
    one_row false rs n x r m = m

    rows_in : (n : ℕ) (rs : List ℕ) → length rs ≡ row_limit → (x : ℕ) → x < n → x < row_limit → key_known ks (row_at file x) ≡ true →
        Marked (start_rows file ks n rs) x
    unfolding start_rows
    rows_in zero rs r x l f k = absurd (omega arith)
    rows_in (suc n) rs r x l f k = go (lt_suc x n l) (λ (h : x < n). rows_in n rs r x h f k)
      where
        go : (x < n) ⊎ (x ≡ n) → (x < n → Marked (start_rows file ks n rs) x) →
            Marked (choose (key_known ks (row_at file n)) (mark_row (start_rows file ks n rs) n) (start_rows file ks n rs)) x
        go (inl h) ih = one_row (key_known ks (row_at file n)) (start_rows file ks n rs) n x (rows_room n rs r) (ih h)
        go (inr e) ih =
            let c : key_known ks (row_at file n) ≡ true = subst (λ (y : ℕ). key_known ks (row_at file y) ≡ true) e k in
            rw (e, c) (mark_same (start_rows file ks n rs) (rows_room n rs r) n (omega arith))

    rows_out : (n : ℕ) (rs : List ℕ) → length rs ≡ row_limit → (x : ℕ) → Marked (start_rows file ks n rs) x →
        Marked rs x ⊎ (key_known ks (row_at file x) ≡ true)
    unfolding start_rows
    rows_out zero rs r x m = inl m
    rows_out (suc n) rs r x m =
        go (bool_cases (key_known ks (row_at file n))) (ℕ_discrete x n) (λ (h : Marked (start_rows file ks n rs) x). rows_out n rs r x h)
      where
        go : (key_known ks (row_at file n) ≡ true) ⊎ (key_known ks (row_at file n) ≡ false) → Dec (x ≡ n) →
            (Marked (start_rows file ks n rs) x → Marked rs x ⊎ (key_known ks (row_at file x) ≡ true)) →
            Marked rs x ⊎ (key_known ks (row_at file x) ≡ true)
        go (inl c) (yes q) ih = inr (rw q c)
        go (inl c) (no d) ih = ih (sym (mark_other (start_rows file ks n rs) (rows_room n rs r) n x d) ∙ rw c at m)
        go (inr c) d ih = ih (rw c at m)

module _ (file : List ℕ) (P : Promised file) where
  abbrev ks : List ℕ
  ks = start_keys file agent_limit (zeros key_room)

  abbrev rs : List ℕ
  rs = start_rows file ks (rows_of file) (zeros row_limit)

  only_bad : (i : ℕ) → Known ks i → FromBad file i
  only_bad i k = go (keys_out file agent_limit (zeros key_room) (zeros_room key_room) i k)
    where
      go : Known (zeros key_room) i ⊎ FromBad file i → FromBad file i
      go (inl z) = absurd (none_marked key_room i z)
      go (inr f) = f

  only_known : (x : ℕ) → Marked rs x → key_known ks (row_at file x) ≡ true
  only_known x m = go (rows_out file ks (rows_of file) (zeros row_limit) (zeros_room row_limit) x m)
    where
      go : Marked (zeros row_limit) x ⊎ (key_known ks (row_at file x) ≡ true) → key_known ks (row_at file x) ≡ true
      go (inl z) = absurd (none_marked row_limit x z)
      go (inr k) = k

  abbrev H : paper.msg → Type 0
  H = Spies (bad file) []

  -- the private key of a compromised agent
  data OfBad : Row → Type 0 where
    of_bad : {a : AgentNo} → bad file a.0 → OfBad (PrivateKey a)

  known_row : (x : ℕ) (R : Row) → Keeps file x R → key_known ks R ≡ true → OfBad R
  known_row x R (public_key {a = a} l) k = absurd (low (only_bad a.0 k))
    where
      low : ¬ FromBad file a.0
      low (B, b, e) = omega arith
  known_row x R (private_key {a = a} l) k = of_bad (same (only_bad (agent_limit + a.0) k))
    where
      same : FromBad file (agent_limit + a.0) → bad file a.0
      same (B, b, e) =
          let f : B ≡ a.0 = omega arith in
          subst (bad file) f b
  known_row x R (agent l) k = absurd (true≢false (sym k))
  known_row x R number k = absurd (true≢false (sym k))
  known_row x R nonce k = absurd (true≢false (sym k))
  known_row x R (prf a b c) k = absurd (true≢false (sym k))
  known_row x R (session_key a b c) k = absurd (true≢false (sym k))
  known_row x R (hash l) k = absurd (true≢false (sym k))
  known_row x R (crypt b l) k = absurd (true≢false (sym k))
  known_row x R (pair a b) k = absurd (true≢false (sym k))

  marked_row : (x : ℕ) → x < rows_of file → Marked rs x → OfBad (row_at file x)
  marked_row x l m = known_row x (row_at file x) (P.keeps x l) (only_known x m)

  bad_known : (A : ℕ) → bad file A → Known ks (agent_limit + A)
  bad_known A b = keys_in file agent_limit (zeros key_room) (zeros_room key_room) A (below_limit file A b) b

  row_sound : {R : Row} {X : paper.msg} → Unfolds (message file) R X → OfBad R → Analz H X
  row_sound (as_private q) (of_bad b) = inj (start (own (rw q at b)))
  row_sound _ x = elim x [ ]

  row_closed : (x : ℕ) {R : Row} → OfBad R →
      ((sides_of file rs ks x R).left < x → Marked rs (sides_of file rs ks x R).left) ×
      ((sides_of file rs ks x R).right < x → Marked rs (sides_of file rs ks x R).right)
  row_closed x (of_bad b) = (λ l. absurd (omega arith), λ l. absurd (omega arith))

  row_held : {R : Row} → OfBad R → Held ks R
  row_held (of_bad {a} b) = bad_known a.0 b

  row_known : {R : Row} {A : ℕ} → bad file A → Unfolds (message file) R (paper.Key (paper.pri_k A)) → key_known ks R ≡ true
  row_known {A = A} b (as_private q) = rw q (bad_known A b)

  none_public : (a : ℕ) → a < agent_limit → ¬ FromBad file a
  none_public a l (B, b, e) = omega arith

  private_sound : (a : ℕ) → FromBad file (agent_limit + a) → Analz H (paper.Key (paper.pri_k a))
  private_sound a (B, b, e) =
      let f : B ≡ a = omega arith in
      inj (start (own (subst (bad file) f b)))

  only_starts : {X : paper.msg} → H X → Starts (bad file) X
  only_starts (start s) = s
  only_starts (said x) = elim x [ ]
  only_starts (noted _ x) = elim x [ ]

  pub good_start : Good file P [] rs ks
  good_start =
      record {
        room = rows_room file ks (rows_of file) (zeros row_limit) (zeros_room row_limit);
        room_keys = keys_room file agent_limit (zeros key_room) (zeros_room key_room);
        sound = record {
          rows = λ x l m. row_sound (P.unfolds x l) (marked_row x l m);
          pubs = λ a l k. absurd (none_public a l (only_bad a k));
          pris = λ a l k. private_sound a (only_bad (agent_limit + a) k);
        };
        closed = λ x l m. row_closed x (marked_row x l m);
        held = λ x l m. row_held (marked_row x l m);
        keys = bad_known;
        rows = λ x A l b q.
            rows_in file ks (rows_of file) (zeros row_limit) (zeros_room row_limit) x l (omega (arith, P.few_rows)) (row_known b (rw q at (P.unfolds x l)));
        seen = λ X h. inl (only_starts h);
      }

-- after the first n events
module _ (file : List ℕ) (P : Promised file) where
  pub good_after : (n : ℕ) → n ≤ events_of file → Good file P (beginning file n) (known_after file n).rows (known_after file n).keys
  unfolding known_after beginning
  good_after zero h = good_start file P
  good_after (suc n) h =
      let s = known_after file n in
      good_event file P (beginning file n) s.rows s.keys (event_at file n) (good_after n (omega arith)) (P.exists n (omega arith))
