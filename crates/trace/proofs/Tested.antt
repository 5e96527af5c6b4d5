-- The tests are exact: an event passes exactly when it keeps its line, and two rows are equal in their eight bytes exactly when their
-- five numbers are. (The first bytes: `Contents`. Rows pass exactly when they keep their lines: `Fits`.)
-- Assumes nothing.
use Prim.Native.Nat.{ℕ, zero, suc, ◌+◌, ◌*◌, ◌<◌, ◌≤◌}
use mathlib.Core.Bool.{Bool, true, false, ◌&&◌, ◌||◌}
use mathlib.Core.List.{List}
use mathlib.Core.Logic.{◌↔◌, ⊎_elim}
use mathlib.Core.Path.{◌≡◌, refl, sym, ◌∙◌, ap}
use native.Mathlib.Omega.{arith}
use native.Mathlib.Nat.{add-zero}
use native.Mathlib.Decide.{ℕ_discrete}
use lib.Dec.{eqb, ltb, leb}
use borrow.Author.Tests.{eqb-true, ltb-true, leb-true, lt-ltb, ne_eqb}
use Rattle.trace.specs.File.{byte, word, rows_from, rows_of, agent_limit}
use Rattle.trace.specs.Rows.{fields_at, SameBytes}
use Rattle.trace.specs.Events.{parts_at, EventLine, says, notes, KeepsEventLine}
use Rattle.trace.specs.Tests.{event_fits}
use Rattle.trace.specs.Promises.{Tested}
use Rattle.trace.specs.declared.events.Parts.{Parts}
use Rattle.laws.proofs.First.{bool_cases}
use Rattle.laws.proofs.Both.{both, both4}
use Rattle.trace.proofs.Contents.{is_version, not_version, is_set, not_set, is_contents, not_contents}
use Rattle.trace.proofs.Same.{same_equal, equal_same}
use Rattle.trace.proofs.Fits.{fits_keeps, keeps_fits}

-- what the test of an event says
pub record Passed (p : Parts) (rows : ℕ) : Type 0 where
  pub kind : p.kind ≤ 1
  pub sender : p.sender < agent_limit
  pub receiver : p.receiver < agent_limit
  pub none : (eqb p.kind 0 || eqb p.receiver 0) ≡ true
  pub zero : p.zero ≡ 0
  pub row : p.row < rows
  pub rest : p.rest ≡ 0

passed : (p : Parts) (rows : ℕ) → event_fits p rows ≡ true → Passed p rows
passed p rows t =
    let a = leb p.kind 1 in
    let b = ltb p.sender agent_limit in
    let c = ltb p.receiver agent_limit in
    let d = eqb p.kind 0 || eqb p.receiver 0 in
    let z = eqb p.zero 0 in
    let r = ltb p.row rows in
    let six = both (a && b && c && d && z && r) (eqb p.rest 0) t in
    let five = both (a && b && c && d && z) r six.0 in
    let four = both (a && b && c && d) z five.0 in
    let h = both4 a b c d four.0 in
    record {
      kind = leb-true _ 1 h.0;
      sender = ltb-true _ agent_limit h.1;
      receiver = ltb-true _ agent_limit h.2;
      none = h.3;
      zero = eqb-true _ 0 four.1;
      row = ltb-true _ rows five.1;
      rest = eqb-true _ 0 six.1;
    }

abbrev pub six : (k a b z r o : ℕ) → Parts
six k a b z r o = record { kind = k; sender = a; receiver = b; zero = z; row = r; rest = o }

module _ (file : List ℕ) where
  passed_keeps : (p : Parts) → Dec (p.kind ≡ 0) → Passed p (rows_of file) →
      EventLine file p.kind p.sender p.receiver p.zero p.row p.rest
  passed_keeps p (yes e) h = rw (e, h.zero, h.rest) (says h.sender h.receiver h.row)
  passed_keeps p (no n) h =
      let k : p.kind ≡ 1 = omega (arith, h.kind) in
      let b : p.receiver ≡ 0 = eqb-true _ 0 (rw (ne_eqb p.kind 0 n) at h.none) in
      rw (k, b, h.zero, h.rest) (notes h.sender h.row)

  event_keeps : (e : ℕ) → event_fits (parts_at file e) (rows_of file) ≡ true → KeepsEventLine file e
  event_keeps e t = passed_keeps (parts_at file e) (ℕ_discrete _ 0) (passed (parts_at file e) (rows_of file) t)

  line_passes : {k a b z r o : ℕ} → EventLine file k a b z r o → event_fits (six k a b z r o) (rows_of file) ≡ true
  line_passes (says {A = a} {B = b} {row = r} la lb lr) = rw (lt-ltb a agent_limit la, lt-ltb b agent_limit lb, lt-ltb r (rows_of file) lr) refl
  line_passes (notes {A = a} {row = r} la lr) = rw (lt-ltb a agent_limit la, lt-ltb r (rows_of file) lr) refl

  event_fits_lem : (e : ℕ) → KeepsEventLine file e → event_fits (parts_at file e) (rows_of file) ≡ true
  event_fits_lem e l = line_passes l

  -- the i-th byte of row r
  abbrev at : ℕ → ℕ → ℕ
  at r i = byte file (rows_from + 8 * r + i)

  first_byte : (r : ℕ) → (fields_at file r).kind ≡ at r 0
  first_byte r = ap (byte file) (sym (add-zero (rows_from + 8 * r)))

  two_bytes : (r i : ℕ) → word file (rows_from + 8 * r + i) ≡ at r i + 256 * at r (i + 1)
  unfolding word
  two_bytes r i =
      let q : rows_from + 8 * r + i + 1 ≡ rows_from + 8 * r + (i + 1) = omega arith in
      ap (λ (k : ℕ). at r i + 256 * byte file k) q

  module _ (r s : ℕ) where
    same_word : SameBytes file r s → (i : ℕ) → i + 1 < 8 → word file (rows_from + 8 * r + i) ≡ word file (rows_from + 8 * s + i)
    same_word h i l = rw (two_bytes r i, two_bytes s i, h i (omega arith), h (i + 1) l) refl

    bytes_fields : SameBytes file r s → fields_at file r ≡ fields_at file s
    bytes_fields h =
        let k = first_byte r ∙ h 0 (omega arith) ∙ sym (first_byte s) in
        let o = h 1 (omega arith) in
        let a = same_word h 2 (omega arith) in
        let b = same_word h 4 (omega arith) in
        let c = same_word h 6 (omega arith) in
        λ i. record { kind = k i; role = o i; first = a i; second = b i; third = c i }

    -- two bytes are told by their word
    same_two : (i : ℕ) → word file (rows_from + 8 * r + i) ≡ word file (rows_from + 8 * s + i) → (at r i ≡ at s i) × (at r (i + 1) ≡ at s (i + 1))
    same_two i e =
        let q : at r i + 256 * at r (i + 1) ≡ at s i + 256 * at s (i + 1) = sym (two_bytes r i) ∙ e ∙ two_bytes s i in
        omega arith

    fields_bytes : fields_at file r ≡ fields_at file s → SameBytes file r s
    fields_bytes e zero l = sym (first_byte r) ∙ ap (λ f. f.kind) e ∙ first_byte s
    fields_bytes e (suc zero) l = ap (λ f. f.role) e
    fields_bytes e (suc (suc zero)) l = (same_two 2 (ap (λ f. f.first) e)).0
    fields_bytes e (suc (suc (suc zero))) l = (same_two 2 (ap (λ f. f.first) e)).1
    fields_bytes e (suc (suc (suc (suc zero)))) l = (same_two 4 (ap (λ f. f.second) e)).0
    fields_bytes e (suc (suc (suc (suc (suc zero))))) l = (same_two 4 (ap (λ f. f.second) e)).1
    fields_bytes e (suc (suc (suc (suc (suc (suc zero)))))) l = (same_two 6 (ap (λ f. f.third) e)).0
    fields_bytes e (suc (suc (suc (suc (suc (suc (suc zero))))))) l = (same_two 6 (ap (λ f. f.third) e)).1
    fields_bytes e (suc (suc (suc (suc (suc (suc (suc (suc k)))))))) l = absurd (omega arith)

-- of a test that decides a line of the table
decided : {b : Bool} {W : Type 0} → (b ≡ true → W) → (b ≡ false → ¬ W) → (b ≡ true) ↔ W
decided {b} {W} yes' no' = (yes', λ w. ⊎_elim (λ t. t) (λ f. absurd (no' f w)) (bool_cases b))

pub tested : Tested
tested =
    record {
      version = λ file. decided (is_version file) (not_version file);
      set = λ file. decided (is_set file) (not_set file);
      contents = λ file. decided (is_contents file) (not_contents file);
      line = λ file r. (fits_keeps file r, keeps_fits file r);
      event = λ file e. (event_keeps file e, event_fits_lem file e);
      bytes = λ file r s. (fields_bytes file r s, bytes_fields file r s);
      same = λ file r s.
          (λ t. fields_bytes file r s (same_equal _ _ t), λ h. equal_same _ _ (bytes_fields file r s h));
    }
