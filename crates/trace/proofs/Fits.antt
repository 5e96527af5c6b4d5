-- A row passes its kind's test exactly when it keeps its kind's line.
-- Assumes nothing.
use Prim.Native.Nat.{ℕ, zero, suc, ◌<◌, ◌≤◌}
use mathlib.Core.Bool.{true, false, true≢false, ◌&&◌}
use mathlib.Core.List.{List}
use mathlib.Core.Path.{◌≡◌, refl, sym, ◌∙◌}
use native.Mathlib.Omega.{arith}
use lib.Dec.{eqb, ltb, leb}
use borrow.Author.Tests.{eqb-true, ltb-true, leb-true, lt-ltb, le-leb}
use Rattle.std.proofs.lemmas.Bool.Decides.{nat_tests}
use Rattle.trace.specs.File.{agent_limit}
use Rattle.trace.specs.Rows.{fields_at, kind_at, KeepsLine, Refers, Line, agent, number, nonce, prf, public, private, session, hash, crypt, pair}
use Rattle.trace.specs.Tests.{nonce_below, key_below, three_nonces, agent_line, value_line, prf_line, session_line, hash_line, crypt_line, pair_line, line_of, row_fits}
use Rattle.trace.specs.declared.rows.Fields.{Fields}
use Rattle.laws.proofs.Both.{both, both3, both4}

-- the kinds, and the numbers above them
pub data Kind : ℕ → Type 0 where
  k0 : Kind 0
  k1 : Kind 1
  k2 : Kind 2
  k3 : Kind 3
  k4 : Kind 4
  k5 : Kind 5
  k6 : Kind 6
  k7 : Kind 7
  k8 : Kind 8
  k9 : Kind 9
  more : {k : ℕ} → 9 < k → Kind k

pub kind_of : (k : ℕ) → Kind k
kind_of zero = k0
kind_of (suc zero) = k1
kind_of (suc (suc zero)) = k2
kind_of (suc (suc (suc zero))) = k3
kind_of (suc (suc (suc (suc zero)))) = k4
kind_of (suc (suc (suc (suc (suc zero))))) = k5
kind_of (suc (suc (suc (suc (suc (suc zero)))))) = k6
kind_of (suc (suc (suc (suc (suc (suc (suc zero))))))) = k7
kind_of (suc (suc (suc (suc (suc (suc (suc (suc zero)))))))) = k8
kind_of (suc (suc (suc (suc (suc (suc (suc (suc (suc zero))))))))) = k9
kind_of (suc (suc (suc (suc (suc (suc (suc (suc (suc (suc k)))))))))) = let l : 9 < suc (suc (suc (suc (suc (suc (suc (suc (suc (suc k))))))))) = omega arith in more l

-- the five numbers that a line speaks of
abbrev pub five : (k o a b c : ℕ) → Fields
five k o a b c = record { kind = k; role = o; first = a; second = b; third = c }

module _ (file : List ℕ) (r : ℕ) where
  refers : (lowest highest x : ℕ) → (ltb x r && leb lowest (kind_at file x) && leb (kind_at file x) highest) ≡ true → Refers file r lowest highest x
  refers lowest highest x e =
      let h = both3 (ltb x r) (leb lowest (kind_at file x)) (leb (kind_at file x) highest) e in
      record { below = ltb-true x r h.0; from = leb-true lowest _ h.1; to = leb-true _ highest h.2 }

  refers_tested : (lowest highest x : ℕ) → Refers file r lowest highest x →
      (ltb x r && leb lowest (kind_at file x) && leb (kind_at file x) highest) ≡ true
  refers_tested lowest highest x h =
      rw (lt-ltb x r h.below, le-leb lowest (kind_at file x) h.from, le-leb (kind_at file x) highest h.to) refl

  module _ (f : Fields) where
    abbrev Kept : Type 0
    Kept = Line file r f.kind f.role f.first f.second f.third

    -- what each test says
    agent_line_lem : agent_line f ≡ true → (f.role ≡ 0) × (f.first < agent_limit) × (f.second ≡ 0) × (f.third ≡ 0)
    agent_line_lem e =
        let h = both4 (eqb f.role 0) (ltb f.first agent_limit) (eqb f.second 0) (eqb f.third 0) e in
        (eqb-true _ 0 h.0, ltb-true _ agent_limit h.1, eqb-true _ 0 h.2, eqb-true _ 0 h.3)

    value_line_lem : value_line f ≡ true → (f.role ≡ 0) × (f.second ≡ 0) × (f.third ≡ 0)
    value_line_lem e =
        let h = both3 (eqb f.role 0) (eqb f.second 0) (eqb f.third 0) e in
        (eqb-true _ 0 h.0, eqb-true _ 0 h.1, eqb-true _ 0 h.2)

    hash_line_lem : hash_line r f ≡ true → (f.role ≡ 0) × (f.first < r) × (f.second ≡ 0) × (f.third ≡ 0)
    hash_line_lem e =
        let h = both4 (eqb f.role 0) (ltb f.first r) (eqb f.second 0) (eqb f.third 0) e in
        (eqb-true _ 0 h.0, ltb-true _ r h.1, eqb-true _ 0 h.2, eqb-true _ 0 h.3)

    crypt_line_lem : crypt_line file r f ≡ true → (f.role ≡ 0) × Refers file r 4 6 f.first × (f.second < r) × (f.third ≡ 0)
    crypt_line_lem e =
        let h = both4 (eqb f.role 0) (key_below file r f.first) (ltb f.second r) (eqb f.third 0) e in
        (eqb-true _ 0 h.0, refers 4 6 _ h.1, ltb-true _ r h.2, eqb-true _ 0 h.3)

    pair_line_lem : pair_line r f ≡ true → (f.role ≡ 0) × (f.first < r) × (f.second < r) × (f.third ≡ 0)
    pair_line_lem e =
        let h = both4 (eqb f.role 0) (ltb f.first r) (ltb f.second r) (eqb f.third 0) e in
        (eqb-true _ 0 h.0, ltb-true _ r h.1, ltb-true _ r h.2, eqb-true _ 0 h.3)

    abbrev Three : Type 0
    Three = Refers file r 2 3 f.first × Refers file r 2 3 f.second × Refers file r 2 3 f.third

    three : three_nonces file r f ≡ true → Three
    three e =
        let h = both3 (nonce_below file r f.first) (nonce_below file r f.second) (nonce_below file r f.third) e in
        (refers 2 3 _ h.0, refers 2 3 _ h.1, refers 2 3 _ h.2)

    prf_line_lem : prf_line file r f ≡ true → (f.role ≡ 0) × Three
    prf_line_lem e =
        let h = both (eqb f.role 0) (three_nonces file r f) e in
        (eqb-true _ 0 h.0, three h.1)

    session_line_lem : session_line file r f ≡ true → (f.role ≤ 1) × Three
    session_line_lem e =
        let h = both (leb f.role 1) (three_nonces file r f) e in
        (leb-true _ 1 h.0, three h.1)

    above : 9 < f.kind → line_of file r f ≡ false
    unfolding line_of
    above l = grind (arith, nat_tests)

    passes_keeps : {k : ℕ} → f.kind ≡ k → Kind k → line_of file r f ≡ true → Kept
    unfolding line_of
    passes_keeps e k0 t = let h = agent_line_lem (rw e at t) in rw (e, h.0, h.2, h.3) (agent h.1)
    passes_keeps e k1 t = let h = value_line_lem (rw e at t) in rw (e, h.0, h.1, h.2) number
    passes_keeps e k2 t = let h = value_line_lem (rw e at t) in rw (e, h.0, h.1, h.2) nonce
    passes_keeps e k3 t = let h = prf_line_lem (rw e at t) in rw (e, h.0) (prf h.1.0 h.1.1 h.1.2)
    passes_keeps e k4 t = let h = agent_line_lem (rw e at t) in rw (e, h.0, h.2, h.3) (public h.1)
    passes_keeps e k5 t = let h = agent_line_lem (rw e at t) in rw (e, h.0, h.2, h.3) (private h.1)
    passes_keeps e k6 t = let h = session_line_lem (rw e at t) in rw e (session h.0 h.1.0 h.1.1 h.1.2)
    passes_keeps e k7 t = let h = hash_line_lem (rw e at t) in rw (e, h.0, h.2, h.3) (hash h.1)
    passes_keeps e k8 t = let h = crypt_line_lem (rw e at t) in rw (e, h.0, h.3) (crypt h.1 h.2)
    passes_keeps e k9 t = let h = pair_line_lem (rw e at t) in rw (e, h.0, h.3) (pair h.1 h.2)
    passes_keeps e (more l) t = absurd (true≢false (sym t ∙ above (omega arith)))

  keeps_passes : {k o a b c : ℕ} → Line file r k o a b c → line_of file r (five k o a b c) ≡ true
  unfolding line_of
  keeps_passes (agent {a = a} l) = rw (lt-ltb a agent_limit l) refl
  keeps_passes number = refl
  keeps_passes nonce = refl
  keeps_passes (prf {S = s} {Na = x} {Nb = y} a b c) = rw (refers_tested 2 3 s a, refers_tested 2 3 x b, refers_tested 2 3 y c) refl
  keeps_passes (public {a = a} l) = rw (lt-ltb a agent_limit l) refl
  keeps_passes (private {a = a} l) = rw (lt-ltb a agent_limit l) refl
  keeps_passes (session {role = o} {Na = x} {Nb = y} {M = z} l a b c) =
      rw (le-leb o 1 l, refers_tested 2 3 x a, refers_tested 2 3 y b, refers_tested 2 3 z c) refl
  keeps_passes (hash {X = x} l) = rw (lt-ltb x r l) refl
  keeps_passes (crypt {K = k} {X = x} h l) = rw (refers_tested 4 6 k h, lt-ltb x r l) refl
  keeps_passes (pair {X = x} {Y = y} l m) = rw (lt-ltb x r l, lt-ltb y r m) refl

pub fits_keeps : (file : List ℕ) (r : ℕ) → row_fits file r ≡ true → KeepsLine file r
fits_keeps file r t = passes_keeps file r (fields_at file r) refl (kind_of _) t

pub keeps_fits : (file : List ℕ) (r : ℕ) → KeepsLine file r → row_fits file r ≡ true
keeps_fits file r l = keeps_passes file r l
