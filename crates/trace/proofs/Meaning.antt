-- Messages of rows that keep their lines: each unfolds by its kind, and equal ones have equal row numbers.
-- Assumes nothing.
use Prim.Native.Nat.{ℕ, zero, suc, ◌<◌}
use mathlib.Core.Bool.{true, false, true≢false}
use mathlib.Core.List.{List, [], ◌∷◌, ◌++◌}
use mathlib.Core.Logic.{◌⊎◌, inl, inr}
use mathlib.Core.Path.{◌≡◌, refl, sym, ◌∙◌, ap, subst⁻¹}
use native.Mathlib.Omega.{arith}
use lib.Dec.{eqb}
use borrow.Author.Tests.{ne_eqb}
use lib.ListN.{length, length-append, get_or-append}
use lib.Seq.{get_or_at}
use Rattle.paper.specs.Message as paper
use Rattle.trace.specs.Rows.{fields_at}
use Rattle.trace.specs.Kinds.{role_of, row_of, row_at}
use Rattle.trace.specs.Meaning.{as_nonce, as_key, role_said, meant, among, messages, message}
use Rattle.trace.specs.Promises.{NonceRow, plain, prf, KeyRow, public, private, session, NonceBelow, KeyBelow, Keeps, agent, number, nonce, public_key, private_key, session_key, hash, crypt, pair, role_meant, Unfolds, as_agent, as_number, as_prf, as_public, as_private, as_session, as_hash, as_crypt, as_pair}
use Rattle.trace.specs.Promises as P
use Rattle.trace.specs.declared.rows.Fields.{Fields}
use Rattle.trace.specs.declared.RowNo.{RowNo}
use Rattle.trace.specs.declared.Role.{Role}
use Rattle.trace.specs.declared.Role.TheVariants.{Client, Server}
use Rattle.trace.specs.declared.Row.{Row}
use Rattle.trace.specs.declared.Row.TheVariants.{Agent, Number, Nonce, Prf, PublicKey, PrivateKey, SessionKey, Hash, Crypt, Pair}
use Rattle.laws.proofs.First.{lt_suc, bool_cases}
use Rattle.trace.proofs.Fits as kinds
use Rattle.trace.proofs.Fits.{Kind, kind_of}

role_same : (o p : Role) → role_meant o ≡ role_meant p → o ≡ p
role_same Client Client e = refl
role_same Client Server e = absurd (true≢false (cc))
role_same Server Client e = absurd (true≢false (cc))
role_same Server Server e = refl

-- a row's message by what the row is
abbrev row_meant : (ℕ → paper.msg) → Row → paper.msg
row_meant m (Agent a) = paper.Agent a.0
row_meant m (Number n) = paper.Number n.0
row_meant m (Nonce n) = paper.Nonce (paper.plain n.0)
row_meant m (Prf s x y) = paper.Nonce (paper.PRF (as_nonce (m s.0)) (as_nonce (m x.0)) (as_nonce (m y.0)))
row_meant m (PublicKey a) = paper.Key (paper.pub_k a.0)
row_meant m (PrivateKey a) = paper.Key (paper.pri_k a.0)
row_meant m (SessionKey r x y z) =
    paper.Key (paper.session_k (role_meant r) (as_nonce (m x.0)) (as_nonce (m y.0)) (as_nonce (m z.0)))
row_meant m (Hash x) = paper.Hash (m x.0)
row_meant m (Crypt k x) = paper.Crypt (as_key (m k.0)) (m x.0)
row_meant m (Pair x y) = paper.Pair (m x.0) (m y.0)

role_said_lem : (n : ℕ) → role_said n ≡ role_meant (role_of n)
role_said_lem n = go (bool_cases (eqb n 0))
  where
    go : (eqb n 0 ≡ true) ⊎ (eqb n 0 ≡ false) → role_said n ≡ role_meant (role_of n)
    go (inl e) = rw e refl
    go (inr e) = rw e refl

meant_row : (m : ℕ → paper.msg) (f : Fields) {k : ℕ} → f.kind ≡ k → Kind k → meant m f ≡ row_meant m (row_of f)
unfolding meant row_of
meant_row m f e kinds.k0 = rw e refl
meant_row m f e kinds.k1 = rw e refl
meant_row m f e kinds.k2 = rw e refl
meant_row m f e kinds.k3 = rw e refl
meant_row m f e kinds.k4 = rw e refl
meant_row m f e kinds.k5 = rw e refl
meant_row m f e kinds.k6 = rw (e, role_said_lem f.role) refl
meant_row m f e kinds.k7 = rw e refl
meant_row m f e kinds.k8 = rw e refl
meant_row m f e kinds.k9 = rw e refl
meant_row m f e (kinds.more l) =
    simp (
      ne_eqb f.kind 0 (omega arith),
      ne_eqb f.kind 1 (omega arith),
      ne_eqb f.kind 2 (omega arith),
      ne_eqb f.kind 3 (omega arith),
      ne_eqb f.kind 4 (omega arith),
      ne_eqb f.kind 5 (omega arith),
      ne_eqb f.kind 6 (omega arith),
      ne_eqb f.kind 7 (omega arith),
      ne_eqb f.kind 8 (omega arith),
    )

module _ (file : List ℕ) where
  -- the message of a row, by what the row is
  message_row : (r : ℕ) → message file r ≡ row_meant (among (messages file r)) (row_at file r)
  unfolding message
  message_row r = meant_row (among (messages file r)) (fields_at file r) refl (kind_of _)

  messages_suc : (n : ℕ) → messages file (suc n) ≡ messages file n ++ (message file n ∷ [])
  unfolding messages message
  messages_suc n = refl

  messages_length : (n : ℕ) → length (messages file n) ≡ n
  unfolding messages
  messages_length zero = refl
  messages_length (suc n) =
      ap length (messages_suc n) ∙ omega (arith, length-append (messages file n) (message file n ∷ []), messages_length n)

  among_below : (n x : ℕ) → x < n → among (messages file n) x ≡ message file x
  among_below zero x l = absurd (omega arith)
  among_below (suc n) x l = rw (messages_suc n) (go (lt_suc x n l) (λ (h : x < n). among_below n x h))
    where
      go : (x < n) ⊎ (x ≡ n) → (x < n → among (messages file n) x ≡ message file x) →
          among (messages file n ++ (message file n ∷ [])) x ≡ message file x
      go (inl h) ih = get_or-append (messages file n) _ _ x (omega (arith, messages_length n)) ∙ ih h
      go (inr e) ih = rw e (get_or_at (messages file n) (message file n) [] _ n (messages_length n))

  nonce_meant : (m : ℕ → paper.msg) (R : Row) → NonceRow R → row_meant m R ≡ paper.Nonce (as_nonce (row_meant m R))
  nonce_meant m R plain = refl
  nonce_meant m R prf = refl

  key_meant : (m : ℕ → paper.msg) (R : Row) → KeyRow R → row_meant m R ≡ paper.Key (as_key (row_meant m R))
  key_meant m R public = refl
  key_meant m R private = refl
  key_meant m R session = refl

  nonce_message : {r : ℕ} {x : RowNo} → NonceBelow file r x → message file x.0 ≡ paper.Nonce (as_nonce (message file x.0))
  nonce_message {x = x} b = rw (message_row x.0) (nonce_meant (among (messages file x.0)) (row_at file x.0) b.kind)

  key_message : {r : ℕ} {x : RowNo} → KeyBelow file r x → message file x.0 ≡ paper.Key (as_key (message file x.0))
  key_message {x = x} b = rw (message_row x.0) (key_meant (among (messages file x.0)) (row_at file x.0) b.kind)

  module _ (r : ℕ) (ms : ℕ → paper.msg) (same : (x : ℕ) → x < r → ms x ≡ message file x) where
    ref : {x : RowNo} → NonceBelow file r x → message file x.0 ≡ paper.Nonce (as_nonce (ms x.0))
    ref {x} b = nonce_message b ∙ ap (λ (X : paper.msg). paper.Nonce (as_nonce X)) (sym (same x.0 b.below))

    unfolded : (R : Row) → Keeps file r R → Unfolds (message file) R (row_meant ms R)
    unfolded R (agent l) = as_agent refl
    unfolded R number = as_number refl
    unfolded R nonce = P.as_nonce refl
    unfolded R (prf a b c) = as_prf (ref a) (ref b) (ref c)
    unfolded R (public_key l) = as_public refl
    unfolded R (private_key l) = as_private refl
    unfolded R (session_key a b c) = as_session refl (ref a) (ref b) (ref c)
    unfolded R (hash l) = as_hash (sym (same _ l))
    unfolded R (crypt k l) = as_crypt (key_message k ∙ ap (λ (X : paper.msg). paper.Key (as_key X)) (sym (same _ k.below))) (sym (same _ l))
    unfolded R (pair k l) = as_pair (sym (same _ k)) (sym (same _ l))

  -- a row that keeps its line unfolds
  pub row_unfolds : (r : ℕ) → Keeps file r (row_at file r) → Unfolds (message file) (row_at file r) (message file r)
  row_unfolds r k = subst⁻¹ (Unfolds (message file) (row_at file r)) (message_row r) (unfolded r (among (messages file r)) (among_below r) (row_at file r) k)

  -- two rows with one message are one row, where that holds of the rows that they name
  module _ (r s : ℕ) (named : (x y : RowNo) → x.0 < r → y.0 < s → message file x.0 ≡ message file y.0 → x ≡ y) where
    nonces : {x y : RowNo} {N : paper.nonce} → NonceBelow file r x → NonceBelow file s y →
        message file x.0 ≡ paper.Nonce N → message file y.0 ≡ paper.Nonce N → x ≡ y
    nonces b c p q = named _ _ b.below c.below (p ∙ sym q)

    same_prf : {u x y u' x' y' : RowNo} {S X Y : paper.nonce} → Keeps file r (Prf u x y) → Keeps file s (Prf u' x' y') →
        message file u.0 ≡ paper.Nonce S → message file x.0 ≡ paper.Nonce X → message file y.0 ≡ paper.Nonce Y →
        message file u'.0 ≡ paper.Nonce S → message file x'.0 ≡ paper.Nonce X → message file y'.0 ≡ paper.Nonce Y →
        Prf u x y ≡ Prf u' x' y'
    same_prf (prf a b c) (prf a' b' c') p q t p' q' t' =
        λ i. Prf (nonces a a' p p' i) (nonces b b' q q' i) (nonces c c' t t' i)

    same_session : {u v : Role} {x y z x' y' z' : RowNo} {R : paper.role} {X Y Z : paper.nonce} →
        Keeps file r (SessionKey u x y z) → Keeps file s (SessionKey v x' y' z') →
        role_meant u ≡ R → message file x.0 ≡ paper.Nonce X → message file y.0 ≡ paper.Nonce Y → message file z.0 ≡ paper.Nonce Z →
        role_meant v ≡ R → message file x'.0 ≡ paper.Nonce X → message file y'.0 ≡ paper.Nonce Y → message file z'.0 ≡ paper.Nonce Z →
        SessionKey u x y z ≡ SessionKey v x' y' z'
    same_session {u} {v} (session_key a b c) (session_key a' b' c') o p q t o' p' q' t' =
        λ i. SessionKey (role_same u v (o ∙ sym o') i) (nonces a a' p p' i) (nonces b b' q q' i) (nonces c c' t t' i)

    same_hash : {x y : RowNo} {X : paper.msg} → Keeps file r (Hash x) → Keeps file s (Hash y) →
        message file x.0 ≡ X → message file y.0 ≡ X → Hash x ≡ Hash y
    same_hash (hash a) (hash b) p q = ap Hash (named _ _ a b (p ∙ sym q))

    same_crypt : {k x k' x' : RowNo} {K : paper.key} {X : paper.msg} → Keeps file r (Crypt k x) → Keeps file s (Crypt k' x') →
        message file k.0 ≡ paper.Key K → message file x.0 ≡ X → message file k'.0 ≡ paper.Key K → message file x'.0 ≡ X →
        Crypt k x ≡ Crypt k' x'
    same_crypt (crypt a b) (crypt a' b') p q p' q' =
        λ i. Crypt (named _ _ a.below a'.below (p ∙ sym p') i) (named _ _ b b' (q ∙ sym q') i)

    same_pair : {x y x' y' : RowNo} {X Y : paper.msg} → Keeps file r (Pair x y) → Keeps file s (Pair x' y') →
        message file x.0 ≡ X → message file y.0 ≡ Y → message file x'.0 ≡ X → message file y'.0 ≡ Y → Pair x y ≡ Pair x' y'
    same_pair (pair a b) (pair a' b') p q p' q' =
        λ i. Pair (named _ _ a a' (p ∙ sym p') i) (named _ _ b b' (q ∙ sym q') i)

    same_row : {R S : Row} {X : paper.msg} →
        Keeps file r R → Keeps file s S → Unfolds (message file) R X → Unfolds (message file) S X → R ≡ S
    same_row k l (as_agent p) (as_agent q) = ap (λ (n : ℕ). Agent (record { 0 = n })) (p ∙ sym q)
    same_row k l (as_number p) (as_number q) = ap (λ (n : ℕ). Number (record { 0 = n })) (p ∙ sym q)
    same_row k l (P.as_nonce p) (P.as_nonce q) = ap (λ (n : ℕ). Nonce (record { 0 = n })) (p ∙ sym q)
    same_row k l (as_prf p q t) (as_prf p' q' t') = same_prf k l p q t p' q' t'
    same_row k l (as_public p) (as_public q) = ap (λ (n : ℕ). PublicKey (record { 0 = n })) (p ∙ sym q)
    same_row k l (as_private p) (as_private q) = ap (λ (n : ℕ). PrivateKey (record { 0 = n })) (p ∙ sym q)
    same_row k l (as_session o p q t) (as_session o' p' q' t') = same_session k l o p q t o' p' q' t'
    same_row k l (as_hash p) (as_hash q) = same_hash k l p q
    same_row k l (as_crypt p q) (as_crypt p' q') = same_crypt k l p q p' q'
    same_row k l (as_pair p q) (as_pair p' q') = same_pair k l p q p' q'

  module _ (n : ℕ) (keeps : (r : ℕ) → r < n → Keeps file r (row_at file r))
      (apart : (r s : ℕ) → r < n → s < n → row_at file r ≡ row_at file s → r ≡ s) where
    -- by induction on a bound of both
    equal_rows : (k r s : ℕ) → r < k → s < k → r < n → s < n → message file r ≡ message file s → r ≡ s
    equal_rows zero r s lr ls nr ns e = absurd (omega arith)
    equal_rows (suc k) r s lr ls nr ns e =
        apart r s nr ns
        (same_row r s
        (λ x y lx ly q. ap (λ (v : ℕ). record { 0 = v }) (equal_rows k x.0 y.0 (omega arith) (omega arith) (omega arith) (omega arith) q))
        (keeps r nr) (keeps s ns) (row_unfolds r (keeps r nr)) (rw (← e) at (row_unfolds s (keeps s ns))))

    pub messages_apart : (r s : ℕ) → r < n → s < n → message file r ≡ message file s → r ≡ s
    messages_apart r s nr ns e = equal_rows n r s nr ns nr ns e
