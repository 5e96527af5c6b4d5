-- A row's kind and its message tell each other: the laws of the readers of one row.
-- Assumes nothing.
use Prim.Native.Nat.{ℕ, ◌<◌}
use mathlib.Core.Bool.{true}
use mathlib.Core.List.{List}
use mathlib.Core.Path.{◌≡◌, refl, ap}
use native.Mathlib.Omega.{arith}
use Rattle.std.specs.Prelude.{Some}
use Rattle.paper.specs.Message as paper
use Rattle.trace.specs.File.{rows_of, agent_limit}
use Rattle.trace.specs.Kinds.{row_at}
use Rattle.trace.specs.Meaning.{message}
use Rattle.trace.specs.Meaning as meaning
use Rattle.trace.specs.Promises.{role_meant, Promised, Keeps, agent, prf, public_key, private_key, session_key, hash, crypt, pair, Unfolds, as_agent, as_number, as_nonce, as_prf, as_public, as_private, as_session, as_hash, as_crypt, as_pair}
use Rattle.trace.specs.declared.Row.{Row}
use Rattle.laws.proofs.Options.{Finds, finds, finding, one_found}
use Rattle.forms.specs.declared.leaves.Crypt.{Crypt}
use Rattle.forms.specs.declared.leaves.Prf.{Prf}
use Rattle.forms.specs.declared.leaves.Session.{Session}
use Rattle.forms.specs.Kinds.{agent_in, agent_of, public_in, public_of, private_in, private_of, hash_in, hash_of, pair_in, pair_of, crypt_in, crypt_of, prf_in, prf_of, session_in, session_of, is_number_row, is_number, is_nonce_row, is_nonce, is_plain_row, is_plain, is_key_row, is_key}
use Rattle.forms.proofs.Flags.{Holds, holds, held}
use Rattle.forms.specs.Shapes.{RowHolds, IsAgent, IsPublic, IsPrivate, IsHash, IsPair, IsCrypt, IsPrf, IsSession}

module _ (file : List ℕ) (P : Promised file) where
  in_file : (r x : ℕ) {X : paper.msg} → r < rows_of file → x < r → message file x ≡ X → RowHolds file x X
  in_file r x l b e = record { row = omega arith; meant = e }

  agent_row : (r : ℕ) (R : Row) {A : paper.agent} → Keeps file r R → Unfolds (message file) R (paper.Agent A) →
      (agent_in R ≡ Some A) × (A < agent_limit)
  agent_row r R (agent b) (as_agent q) = (ap Some q, rw q at b)
  agent_row _ _ _ u = elim u [ ]

  agent_kind : (R : Row) {Z : paper.msg} {A : ℕ} → Unfolds (message file) R Z → Finds (agent_in R) A → Z ≡ paper.Agent A
  agent_kind R (as_agent q) finds = rw q refl
  agent_kind _ _ f = elim f [ ]

  pub agent_complete : (r : ℕ) {A : paper.agent} → r < rows_of file → message file r ≡ paper.Agent A → IsAgent file r A
  unfolding agent_of
  agent_complete r l e =
      let u = agent_row r (row_at file r) (P.keeps r l) (rw e at (P.unfolds r l)) in
      record { found = u.0; whole = e; few = u.1 }

  pub agent_sound : (r : ℕ) {A : ℕ} → r < rows_of file → agent_of file r ≡ Some A → IsAgent file r A
  unfolding agent_of
  agent_sound r l h = agent_complete r l (agent_kind (row_at file r) (P.unfolds r l) (finding h))

  public_row : (r : ℕ) (R : Row) {A : paper.agent} → Keeps file r R → Unfolds (message file) R (paper.Key (paper.pub_k A)) →
      (public_in R ≡ Some A) × (A < agent_limit)
  public_row r R (public_key b) (as_public q) = (ap Some q, rw q at b)
  public_row _ _ _ u = elim u [ ]

  public_kind : (R : Row) {Z : paper.msg} {A : ℕ} → Unfolds (message file) R Z → Finds (public_in R) A → Z ≡ paper.Key (paper.pub_k A)
  public_kind R (as_public q) finds = rw q refl
  public_kind _ _ f = elim f [ ]

  pub public_complete : (r : ℕ) {A : paper.agent} → r < rows_of file → message file r ≡ paper.Key (paper.pub_k A) → IsPublic file r A
  unfolding public_of
  public_complete r l e =
      let u = public_row r (row_at file r) (P.keeps r l) (rw e at (P.unfolds r l)) in
      record { found = u.0; whole = e; few = u.1 }

  pub public_sound : (r : ℕ) {A : ℕ} → r < rows_of file → public_of file r ≡ Some A → IsPublic file r A
  unfolding public_of
  public_sound r l h = public_complete r l (public_kind (row_at file r) (P.unfolds r l) (finding h))

  private_row : (r : ℕ) (R : Row) {A : paper.agent} → Keeps file r R → Unfolds (message file) R (paper.Key (paper.pri_k A)) →
      (private_in R ≡ Some A) × (A < agent_limit)
  private_row r R (private_key b) (as_private q) = (ap Some q, rw q at b)
  private_row _ _ _ u = elim u [ ]

  private_kind : (R : Row) {Z : paper.msg} {A : ℕ} → Unfolds (message file) R Z → Finds (private_in R) A → Z ≡ paper.Key (paper.pri_k A)
  private_kind R (as_private q) finds = rw q refl
  private_kind _ _ f = elim f [ ]

  pub private_complete : (r : ℕ) {A : paper.agent} → r < rows_of file → message file r ≡ paper.Key (paper.pri_k A) → IsPrivate file r A
  unfolding private_of
  private_complete r l e =
      let u = private_row r (row_at file r) (P.keeps r l) (rw e at (P.unfolds r l)) in
      record { found = u.0; whole = e; few = u.1 }

  pub private_sound : (r : ℕ) {A : ℕ} → r < rows_of file → private_of file r ≡ Some A → IsPrivate file r A
  unfolding private_of
  private_sound r l h = private_complete r l (private_kind (row_at file r) (P.unfolds r l) (finding h))

  hash_row : (r : ℕ) (R : Row) {X : paper.msg} → r < rows_of file → Keeps file r R → Unfolds (message file) R (paper.Hash X) →
      (x : ℕ) × (hash_in R ≡ Some x) × RowHolds file x X
  hash_row r R l (hash a) (as_hash {x = i} p) = (i.0, refl, in_file r i.0 l a p)
  hash_row _ _ _ _ u = elim u [ ]

  hash_kind : (R : Row) {Z : paper.msg} {x : ℕ} → Unfolds (message file) R Z → Finds (hash_in R) x →
      Z ≡ paper.Hash (message file x)
  hash_kind R (as_hash p) finds = rw p refl
  hash_kind _ _ f = elim f [ ]

  pub hash_complete : (r : ℕ) {X : paper.msg} → r < rows_of file → message file r ≡ paper.Hash X → (x : ℕ) × IsHash file r x X
  unfolding hash_of
  hash_complete r l e =
      let u = hash_row r (row_at file r) l (P.keeps r l) (rw e at (P.unfolds r l)) in
      (u.0, record { found = u.1; whole = e; body = u.2 })

  pub hash_sound : (r : ℕ) {x : ℕ} → r < rows_of file → hash_of file r ≡ Some x →
      IsHash file r x (message file x)
  unfolding hash_of
  hash_sound r l h =
      let c = hash_complete r l (hash_kind (row_at file r) (P.unfolds r l) (finding h)) in
      rw (one_found c.1.found h) at c.1

  pair_row : (r : ℕ) (R : Row) {X Y : paper.msg} → r < rows_of file → Keeps file r R → Unfolds (message file) R (paper.Pair X Y) →
      (p : ℕ × ℕ) × (pair_in R ≡ Some p) × RowHolds file p.0 X × RowHolds file p.1 Y
  pair_row r R l (pair a b) (as_pair {x = i} {y = j} p q) = ((i.0, j.0), refl, in_file r i.0 l a p, in_file r j.0 l b q)
  pair_row _ _ _ _ u = elim u [ ]

  pair_kind : (R : Row) {Z : paper.msg} {p : ℕ × ℕ} → Unfolds (message file) R Z → Finds (pair_in R) p →
      Z ≡ paper.Pair (message file p.0) (message file p.1)
  pair_kind R (as_pair p q) finds = rw (p, q) refl
  pair_kind _ _ f = elim f [ ]

  pub pair_complete : (r : ℕ) {X Y : paper.msg} → r < rows_of file → message file r ≡ paper.Pair X Y → (p : ℕ × ℕ) × IsPair file r p X Y
  unfolding pair_of
  pair_complete r l e =
      let u = pair_row r (row_at file r) l (P.keeps r l) (rw e at (P.unfolds r l)) in
      (u.0, record { found = u.1; whole = e; first = u.2; second = u.3 })

  pub pair_sound : (r : ℕ) {p : ℕ × ℕ} → r < rows_of file → pair_of file r ≡ Some p →
      IsPair file r p (message file p.0) (message file p.1)
  unfolding pair_of
  pair_sound r l h =
      let c = pair_complete r l (pair_kind (row_at file r) (P.unfolds r l) (finding h)) in
      rw (one_found c.1.found h) at c.1

  crypt_row : (r : ℕ) (R : Row) {K : paper.key} {X : paper.msg} → r < rows_of file → Keeps file r R → Unfolds (message file) R (paper.Crypt K X) →
      (c : Crypt) × (crypt_in R ≡ Some c) × RowHolds file c.key (paper.Key K) × RowHolds file c.body X
  crypt_row r R l (crypt a b) (as_crypt {k = i} {x = j} p q) = (record { key = i.0; body = j.0 }, refl, in_file r i.0 l a.below p, in_file r j.0 l b q)
  crypt_row _ _ _ _ u = elim u [ ]

  crypt_kind : (R : Row) {Z : paper.msg} {c : Crypt} → Unfolds (message file) R Z → Finds (crypt_in R) c →
      Z ≡ paper.Crypt (meaning.as_key (message file c.key)) (message file c.body)
  crypt_kind R (as_crypt p q) finds = rw (p, q) refl
  crypt_kind _ _ f = elim f [ ]

  pub crypt_complete : (r : ℕ) {K : paper.key} {X : paper.msg} → r < rows_of file → message file r ≡ paper.Crypt K X → (c : Crypt) × IsCrypt file r c K X
  unfolding crypt_of
  crypt_complete r l e =
      let u = crypt_row r (row_at file r) l (P.keeps r l) (rw e at (P.unfolds r l)) in
      (u.0, record { found = u.1; whole = e; key = u.2; body = u.3 })

  pub crypt_sound : (r : ℕ) {c : Crypt} → r < rows_of file → crypt_of file r ≡ Some c →
      IsCrypt file r c (meaning.as_key (message file c.key)) (message file c.body)
  unfolding crypt_of
  crypt_sound r l h =
      let c = crypt_complete r l (crypt_kind (row_at file r) (P.unfolds r l) (finding h)) in
      rw (one_found c.1.found h) at c.1

  prf_row : (r : ℕ) (R : Row) {S Na Nb : paper.nonce} → r < rows_of file → Keeps file r R → Unfolds (message file) R (paper.Nonce (paper.PRF S Na Nb)) →
      (f : Prf) × (prf_in R ≡ Some f) × RowHolds file f.secret (paper.Nonce S) × RowHolds file f.na (paper.Nonce Na) × RowHolds file f.nb (paper.Nonce Nb)
  prf_row r R l (prf a b c) (as_prf {s = i} {x = j} {y = k} p q s) = (record { secret = i.0; na = j.0; nb = k.0 }, refl, in_file r i.0 l a.below p, in_file r j.0 l b.below q, in_file r k.0 l c.below s)
  prf_row _ _ _ _ u = elim u [ ]

  prf_kind : (R : Row) {Z : paper.msg} {f : Prf} → Unfolds (message file) R Z → Finds (prf_in R) f →
      Z ≡ paper.Nonce (paper.PRF (meaning.as_nonce (message file f.secret)) (meaning.as_nonce (message file f.na)) (meaning.as_nonce (message file f.nb)))
  prf_kind R (as_prf p q s) finds = rw (p, q, s) refl
  prf_kind _ _ f = elim f [ ]

  pub prf_complete : (r : ℕ) {S Na Nb : paper.nonce} → r < rows_of file → message file r ≡ paper.Nonce (paper.PRF S Na Nb) → (f : Prf) × IsPrf file r f S Na Nb
  unfolding prf_of
  prf_complete r l e =
      let u = prf_row r (row_at file r) l (P.keeps r l) (rw e at (P.unfolds r l)) in
      (u.0, record { found = u.1; whole = e; secret = u.2; na = u.3; nb = u.4 })

  pub prf_sound : (r : ℕ) {f : Prf} → r < rows_of file → prf_of file r ≡ Some f →
      IsPrf file r f (meaning.as_nonce (message file f.secret)) (meaning.as_nonce (message file f.na)) (meaning.as_nonce (message file f.nb))
  unfolding prf_of
  prf_sound r l h =
      let c = prf_complete r l (prf_kind (row_at file r) (P.unfolds r l) (finding h)) in
      rw (one_found c.1.found h) at c.1

  session_row : (r : ℕ) (R : Row) {R' : paper.role} {Na Nb M : paper.nonce} → r < rows_of file → Keeps file r R → Unfolds (message file) R (paper.Key (paper.session_k R' Na Nb M)) →
      (s : Session) × (session_in R ≡ Some s) × (role_meant s.role ≡ R') × RowHolds file s.na (paper.Nonce Na) × RowHolds file s.nb (paper.Nonce Nb) × RowHolds file s.m (paper.Nonce M)
  session_row r R l (session_key a b c) (as_session {r = o} {x = i} {y = j} {z = k} t p q s) = (record { role = o; na = i.0; nb = j.0; m = k.0 }, refl, t, in_file r i.0 l a.below p, in_file r j.0 l b.below q, in_file r k.0 l c.below s)
  session_row _ _ _ _ u = elim u [ ]

  session_kind : (R : Row) {Z : paper.msg} {s : Session} → Unfolds (message file) R Z → Finds (session_in R) s →
      Z ≡ paper.Key (paper.session_k (role_meant s.role) (meaning.as_nonce (message file s.na)) (meaning.as_nonce (message file s.nb)) (meaning.as_nonce (message file s.m)))
  session_kind R (as_session t p q s) finds = rw (t, p, q, s) refl
  session_kind _ _ f = elim f [ ]

  pub session_complete : (r : ℕ) {R' : paper.role} {Na Nb M : paper.nonce} → r < rows_of file → message file r ≡ paper.Key (paper.session_k R' Na Nb M) → (s : Session) × IsSession file r s R' Na Nb M
  unfolding session_of
  session_complete r l e =
      let u = session_row r (row_at file r) l (P.keeps r l) (rw e at (P.unfolds r l)) in
      (u.0, record { found = u.1; whole = e; role = u.2; na = u.3; nb = u.4; m = u.5 })

  pub session_sound : (r : ℕ) {s : Session} → r < rows_of file → session_of file r ≡ Some s →
      IsSession file r s (role_meant s.role) (meaning.as_nonce (message file s.na)) (meaning.as_nonce (message file s.nb)) (meaning.as_nonce (message file s.m))
  unfolding session_of
  session_sound r l h =
      let c = session_complete r l (session_kind (row_at file r) (P.unfolds r l) (finding h)) in
      rw (one_found c.1.found h) at c.1

  number_row : (R : Row) {n : ℕ} → Unfolds (message file) R (paper.Number n) → is_number_row R ≡ true
  number_row R (as_number q) = refl

  number_kind : (R : Row) {Z : paper.msg} → Unfolds (message file) R Z → Holds (is_number_row R) → (n : ℕ) × (Z ≡ paper.Number n)
  number_kind R (as_number {n = n} q) holds = (n, refl)
  number_kind _ _ h = elim h [ ]

  pub number_complete : (r : ℕ) {n : ℕ} → r < rows_of file → message file r ≡ paper.Number n → is_number file r ≡ true
  unfolding is_number
  number_complete r l e = number_row (row_at file r) (rw e at (P.unfolds r l))

  pub number_sound : (r : ℕ) → r < rows_of file → is_number file r ≡ true → (n : ℕ) × (message file r ≡ paper.Number n)
  unfolding is_number
  number_sound r l h = number_kind (row_at file r) (P.unfolds r l) (held h)

  nonce_row : (R : Row) {N : paper.nonce} → Unfolds (message file) R (paper.Nonce N) → is_nonce_row R ≡ true
  nonce_row R (as_nonce q) = refl
  nonce_row R (as_prf p q s) = refl

  nonce_kind : (R : Row) {Z : paper.msg} → Unfolds (message file) R Z → Holds (is_nonce_row R) → (N : paper.nonce) × (Z ≡ paper.Nonce N)
  nonce_kind R (as_nonce {n = n} q) holds = (paper.plain n, refl)
  nonce_kind R (as_prf {S = S} {X = X} {Y = Y} p q s) holds = (paper.PRF S X Y, refl)
  nonce_kind _ _ h = elim h [ ]

  pub nonce_complete : (r : ℕ) {N : paper.nonce} → r < rows_of file → message file r ≡ paper.Nonce N → is_nonce file r ≡ true
  unfolding is_nonce
  nonce_complete r l e = nonce_row (row_at file r) (rw e at (P.unfolds r l))

  pub nonce_sound : (r : ℕ) → r < rows_of file → is_nonce file r ≡ true → (N : paper.nonce) × (message file r ≡ paper.Nonce N)
  unfolding is_nonce
  nonce_sound r l h = nonce_kind (row_at file r) (P.unfolds r l) (held h)

  plain_row : (R : Row) {n : ℕ} → Unfolds (message file) R (paper.Nonce (paper.plain n)) → is_plain_row R ≡ true
  plain_row R (as_nonce q) = refl

  plain_kind : (R : Row) {Z : paper.msg} → Unfolds (message file) R Z → Holds (is_plain_row R) → (n : ℕ) × (Z ≡ paper.Nonce (paper.plain n))
  plain_kind R (as_nonce {n = n} q) holds = (n, refl)
  plain_kind _ _ h = elim h [ ]

  pub plain_complete : (r : ℕ) {n : ℕ} → r < rows_of file → message file r ≡ paper.Nonce (paper.plain n) → is_plain file r ≡ true
  unfolding is_plain
  plain_complete r l e = plain_row (row_at file r) (rw e at (P.unfolds r l))

  pub plain_sound : (r : ℕ) → r < rows_of file → is_plain file r ≡ true → (n : ℕ) × (message file r ≡ paper.Nonce (paper.plain n))
  unfolding is_plain
  plain_sound r l h = plain_kind (row_at file r) (P.unfolds r l) (held h)

  key_row : (R : Row) {K : paper.key} → Unfolds (message file) R (paper.Key K) → is_key_row R ≡ true
  key_row R (as_public q) = refl
  key_row R (as_private q) = refl
  key_row R (as_session t p q s) = refl

  key_kind : (R : Row) {Z : paper.msg} → Unfolds (message file) R Z → Holds (is_key_row R) → (K : paper.key) × (Z ≡ paper.Key K)
  key_kind R (as_public {A = A} q) holds = (paper.pub_k A, refl)
  key_kind R (as_private {A = A} q) holds = (paper.pri_k A, refl)
  key_kind R (as_session {R = R'} {X = X} {Y = Y} {Z = Z} t p q s) holds = (paper.session_k R' X Y Z, refl)
  key_kind _ _ h = elim h [ ]

  pub key_complete : (r : ℕ) {K : paper.key} → r < rows_of file → message file r ≡ paper.Key K → is_key file r ≡ true
  unfolding is_key
  key_complete r l e = key_row (row_at file r) (rw e at (P.unfolds r l))

  pub key_sound : (r : ℕ) → r < rows_of file → is_key file r ≡ true → (K : paper.key) × (message file r ≡ paper.Key K)
  unfolding is_key
  key_sound r l h = key_kind (row_at file r) (P.unfolds r l) (held h)
