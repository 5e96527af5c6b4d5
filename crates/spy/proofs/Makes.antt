-- The sweep's marks are the paper's: where the marked rows are the analysed ones, each byte is 2, 1 or 0 as it should be.
-- Assumes nothing.
use Prim.Native.Nat.{ℕ, zero, suc, ◌<◌, ◌≤◌}
use mathlib.Core.Bool.{true, false, true≢false}
use mathlib.Core.List.{List}
use mathlib.Core.Logic.{◌⊎◌, inl, inr}
use mathlib.Core.Path.{◌≡◌, refl, sym, ◌∙◌}
use native.Mathlib.Omega.{arith}
use lib.Dec.{ltb}
use lib.ListN.{length, get_or, set, length-set}
use lib.Seq.{get_or-set_same, get_or-set_other}
use Rattle.paper.specs.Message as paper
use Rattle.paper.specs.Spy as spy
use Rattle.paper.specs.Spy.{Analz, Synth, known, guess_agent, guess_number}
use Rattle.trace.specs.File.{rows_of}
use Rattle.trace.specs.Kinds.{row_at}
use Rattle.trace.specs.Meaning.{message}
use Rattle.trace.specs.Promises.{Promised, Keeps, hash, crypt, pair, Unfolds, as_agent, as_number, as_nonce, as_prf, as_public, as_private, as_session, as_hash, as_crypt, as_pair}
use Rattle.trace.specs.declared.Row.{Row}
use Rattle.laws.proofs.First.{bool_cases, lt_suc}
use Rattle.laws.proofs.Both.{both}
use Rattle.closure.specs.Closure.{row_marked}
use Rattle.spy.specs.Made.{made, makes, mark_of, write_marks}
use Rattle.spy.specs.Knowledge as question
use Rattle.spy.specs.Knowledge.{Mark, analysed, neither}
use Rattle.closure.proofs.Marks.{Marked}

pub marks_length : (file rows : List ℕ) (n : ℕ) (marks : List ℕ) → length (write_marks file rows n marks) ≡ length marks
unfolding write_marks
marks_length file rows zero marks = refl
marks_length file rows (suc n) marks = length-set (write_marks file rows n marks) n _ ∙ marks_length file rows n marks

module _ (file : List ℕ) (P : Promised file) (H : paper.msg → Type 0) (rows : List ℕ)
    (sound : (x : ℕ) → x < rows_of file → Marked rows x → Analz H (message file x))
    (complete : (x : ℕ) → x < rows_of file → Analz H (message file x) → Marked rows x) where
  abbrev Makes : paper.msg → Type 0
  Makes = Synth (Analz H)

  -- a byte tells whether its row can be made
  byte_sound : {X : paper.msg} {m : ℕ} → Mark H X m → ltb 0 m ≡ true → Makes X
  byte_sound (analysed a) e = known a
  byte_sound (question.made n s) e = s
  byte_sound (neither n) e = absurd (true≢false (sym e))

  byte_complete : {X : paper.msg} {m : ℕ} → Mark H X m → Makes X → ltb 0 m ≡ true
  byte_complete (analysed a) s = refl
  byte_complete (question.made n a) s = refl
  byte_complete (neither n) s = absurd (n s)

  module _ (marks : List ℕ) (r : ℕ) (in_file : r < rows_of file)
      (lower : (x : ℕ) → x < r → Mark H (message file x) (get_or marks x 0)) where
    lower_sound : (x : ℕ) → x < r → made marks x ≡ true → Makes (message file x)
    lower_sound x l e = byte_sound (lower x l) e

    lower_complete : (x : ℕ) → x < r → Makes (message file x) → made marks x ≡ true
    lower_complete x l s = byte_complete (lower x l) s

    makes_sound : (R : Row) {X : paper.msg} → Keeps file r R → Unfolds (message file) R X → makes rows marks R ≡ true → Makes X
    makes_sound R kp (as_agent q) e = guess_agent
    makes_sound R kp (as_number q) e = guess_number
    makes_sound R (hash l) (as_hash {x = x} q) e = spy.hash (rw q at (lower_sound x.0 l e))
    makes_sound R (crypt b l) (as_crypt {k = k} {x = x} p q) e =
        let h = both (row_marked rows k.0) (made marks x.0) e in
        spy.crypt (rw p at (sound k.0 (omega (arith, b.below)) h.0)) (rw q at (lower_sound x.0 l h.1))
    makes_sound R (pair l m) (as_pair {x = x} {y = y} p q) e =
        let h = both (made marks x.0) (made marks y.0) e in
        spy.pair (rw p at (lower_sound x.0 l h.0)) (rw q at (lower_sound y.0 m h.1))
    makes_sound R kp (as_nonce q) e = absurd (true≢false (sym e))
    makes_sound R kp (as_prf p q t) e = absurd (true≢false (sym e))
    makes_sound R kp (as_public q) e = absurd (true≢false (sym e))
    makes_sound R kp (as_private q) e = absurd (true≢false (sym e))
    makes_sound R kp (as_session p q t u) e = absurd (true≢false (sym e))

    makes_complete : (R : Row) {X : paper.msg} → Keeps file r R → Unfolds (message file) R X → ¬ Analz H X → Makes X → makes rows marks R ≡ true
    makes_complete R kp u n (known a) = absurd (n a)
    makes_complete R kp (as_agent q) n guess_agent = refl
    makes_complete R kp (as_number q) n guess_number = refl
    makes_complete R (hash l) (as_hash {x = x} q) n (spy.hash s) = lower_complete x.0 l (rw q s)
    makes_complete R (crypt b l) (as_crypt {k = k} {x = x} p q) n (spy.crypt a s) =
        rw (complete k.0 (omega (arith, b.below)) (rw p a), lower_complete x.0 l (rw q s))
    makes_complete R (pair l m) (as_pair {x = x} {y = y} p q) n (spy.pair s t) =
        rw (lower_complete x.0 l (rw p s), lower_complete y.0 m (rw q t))
    makes_complete _ kp u n s = elim u [ ]

    mark_right : Mark H (message file r) (mark_of file rows marks r)
    mark_right = go (bool_cases (row_marked rows r)) (bool_cases (makes rows marks (row_at file r)))
      where
        go : (row_marked rows r ≡ true) ⊎ (row_marked rows r ≡ false) →
            (makes rows marks (row_at file r) ≡ true) ⊎ (makes rows marks (row_at file r) ≡ false) → Mark H (message file r) (mark_of file rows marks r)
        go (inl m) b = rw m (analysed (sound r in_file m))
        go (inr u) (inl e) =
            rw (u, e)
            (question.made (λ a. true≢false (sym (complete r in_file a) ∙ u)) (makes_sound (row_at file r) (P.keeps r in_file) (P.unfolds r in_file) e))
        go (inr u) (inr e) =
            rw (u, e)
            (neither
            (λ s. true≢false (sym (makes_complete (row_at file r) (P.keeps r in_file) (P.unfolds r in_file) (λ a. true≢false (sym (complete r in_file a) ∙ u)) s) ∙ e)))

  pub marks_right : (n : ℕ) (marks : List ℕ) → n ≤ rows_of file → n ≤ length marks → (x : ℕ) → x < n →
      Mark H (message file x) (get_or (write_marks file rows n marks) x 0)
  unfolding write_marks
  marks_right zero marks h m x l = absurd (omega arith)
  marks_right (suc n) marks h m x l =
      go (lt_suc x n l) (λ (y : ℕ) (ly : y < n). marks_right n marks (omega arith) (omega arith) y ly)
    where
      go : (x < n) ⊎ (x ≡ n) → ((y : ℕ) → y < n → Mark H (message file y) (get_or (write_marks file rows n marks) y 0)) →
          Mark H (message file x) (get_or (set (write_marks file rows n marks) n (mark_of file rows (write_marks file rows n marks) n)) x 0)
      go (inl lx) ih = rw (get_or-set_other (write_marks file rows n marks) n x (mark_of file rows (write_marks file rows n marks) n) 0 (omega arith)) (ih x lx)
      go (inr e) ih =
          rw (e, get_or-set_same (write_marks file rows n marks) n (mark_of file rows (write_marks file rows n marks) n) 0 (omega (arith, marks_length file rows n marks)))
          (mark_right (write_marks file rows n marks) n (omega arith) ih)

-- later bytes keep their content
pub marks_rest : (file rows : List ℕ) (n : ℕ) (marks : List ℕ) (i : ℕ) → n ≤ i → get_or (write_marks file rows n marks) i 0 ≡ get_or marks i 0
unfolding write_marks
marks_rest file rows zero marks i l = refl
marks_rest file rows (suc n) marks i l =
    get_or-set_other (write_marks file rows n marks) n i (mark_of file rows (write_marks file rows n marks) n) 0 (omega arith) ∙
    marks_rest file rows n marks i (omega arith)
