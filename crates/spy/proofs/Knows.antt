-- The question's relation: the computed answer satisfies it, and no other does.
-- Assumes nothing.
use Prim.Native.Nat.{ℕ, ◌<◌, ◌≤◌}
use mathlib.Core.List.{List}
use mathlib.Core.Path.{◌≡◌, refl, sym, ◌∙◌, ap}
use native.Mathlib.Omega.{arith}
use native.Mathlib.Decide.{dec_lt}
use lib.ListN.{length, get_or}
use lib.Seq.{ext_get_or}
use borrow.Author.Tests.{lt-ltb, le-ltb}
use Rattle.std.specs.Prelude.{Result, Ok, Err, ⊤}
use Rattle.paper.specs.Message.{msg}
use Rattle.paper.specs.Spy.{known}
use Rattle.trace.specs.File.{rows_of, events_of}
use Rattle.trace.specs.Refusal.{number_of, place_of, Told}
use Rattle.trace.specs.Reading.{reading}
use Rattle.trace.specs.Meaning.{beginning}
use Rattle.trace.specs.Promises.{Promised}
use Rattle.trace.specs.declared.Cause.{Cause}
use Rattle.trace.specs.declared.Cause.TheVariants.{ShortBuffer, TooManyEvents}
use Rattle.trace.proofs.Told.{told_read, same_cause, told_readable}
use Rattle.trace.proofs.Promised.{promises}
use Rattle.closure.specs.Closure.{known_after}
use Rattle.spy.specs.Knowledge.{Mark, analysed, made, neither, Marks, Knows, refused, short, many, written, SeenIn, answer_number, answer_place}
use Rattle.spy.specs.Reply.{marks_after, answer_readable, bytes_readable}
use Rattle.spy.specs.Promises.{OneAnswer, Line, told, eight, nine, Refuses}
use Rattle.closure.proofs.Exact.{marks_analysed}
use Rattle.closure.proofs.Starting.{good_after}
use Rattle.spy.proofs.Makes.{marks_length, marks_right, marks_rest}

-- the marks, for a file that is not refused
marks_after_lem : (file : List ℕ) → Promised file → (n : ℕ) → n ≤ events_of file → (before : List ℕ) → rows_of file ≤ length before →
    Marks file n before (marks_after file n before)
marks_after_lem file P n l before room =
    let s = known_after file n in
    let g = good_after file P n l in
    record {
      size = marks_length file s.rows (rows_of file) before;
      rows = marks_right file P (SeenIn file n) s.rows g.sound.rows
          (marks_analysed file P (beginning file n) s.rows s.keys g) (rows_of file) before (omega arith) room;
      rest = marks_rest file s.rows (rows_of file) before;
    }

pub knows_refused : (file : List ℕ) (n : ℕ) (before : List ℕ) {c : Cause} → reading file ≡ Err c →
    Knows file n before (Err c) before
knows_refused file n before e = refused (told_read file e)

pub knows_readable : (file : List ℕ) (n : ℕ) (before : List ℕ) → reading file ≡ Ok tt →
    Knows file n before (answer_readable file n before) (bytes_readable file n before)
knows_readable file n before e = go (dec_lt (length before) (rows_of file)) (dec_lt (events_of file) n)
  where
    clean : Told file (Ok tt)
    clean = told_read file e

    go : Dec (length before < rows_of file) → Dec (events_of file < n) → Knows file n before (answer_readable file n before) (bytes_readable file n before)
    go (yes s) m = rw (lt-ltb _ _ s, bytes_readable) (short clean s)
    go (no s) (yes m) =
        let room : rows_of file ≤ length before = omega arith in
        rw (le-ltb _ _ room, lt-ltb _ _ m, bytes_readable) (many clean room m)
    go (no s) (no m) =
        let room : rows_of file ≤ length before = omega arith in
        let few : n ≤ events_of file = omega arith in
        rw (le-ltb _ _ room, le-ltb _ _ few, bytes_readable) (written clean room few (marks_after_lem file (promises file clean) n few before room))

-- one answer only
mark_one : {H : msg → Type 0} {X : msg} {m k : ℕ} → Mark H X m → Mark H X k → m ≡ k
mark_one (analysed a) (analysed b) = refl
mark_one (analysed a) (made n s) = absurd (n a)
mark_one (analysed a) (neither n) = absurd (n (known a))
mark_one (made n s) (analysed a) = absurd (n a)
mark_one (made n s) (made m t) = refl
mark_one (made n s) (neither m) = absurd (m s)
mark_one (neither n) (analysed a) = absurd (n (known a))
mark_one (neither n) (made m s) = absurd (n s)
mark_one (neither n) (neither m) = refl

marks_one : (file : List ℕ) (n : ℕ) (before after after' : List ℕ) → Marks file n before after → Marks file n before after' → after ≡ after'
marks_one file n before after after' m k =
    ext_get_or 0 after after' (m.size ∙ sym k.size) (λ i l. go i (dec_lt i (rows_of file)))
  where
    go : (i : ℕ) → Dec (i < rows_of file) → get_or after i 0 ≡ get_or after' i 0
    go i (yes l) = mark_one (m.rows i l) (k.rows i l)
    go i (no l) = m.rest i (omega arith) ∙ sym (k.rest i (omega arith))

pub one_answer : OneAnswer
one_answer file n before a b after after' (refused t) (refused u) = (ap Err (same_cause file t u), refl)
one_answer file n before a b after after' (refused t) (short u s) = absurd (told_readable file t u)
one_answer file n before a b after after' (refused t) (many u r m) = absurd (told_readable file t u)
one_answer file n before a b after after' (refused t) (written u r l k) = absurd (told_readable file t u)
one_answer file n before a b after after' (short t s) (refused u) = absurd (told_readable file u t)
one_answer file n before a b after after' (short t s) (short u v) = (refl, refl)
one_answer file n before a b after after' (short t s) (many u r m) = absurd (omega arith)
one_answer file n before a b after after' (short t s) (written u r l k) = absurd (omega arith)
one_answer file n before a b after after' (many t s m) (refused u) = absurd (told_readable file u t)
one_answer file n before a b after after' (many t r m) (short u v) = absurd (omega arith)
one_answer file n before a b after after' (many t r m) (many u q l) = (refl, refl)
one_answer file n before a b after after' (many t r m) (written u q l k) = absurd (omega arith)
one_answer file n before a b after after' (written t r l k) (refused u) = absurd (told_readable file u t)
one_answer file n before a b after after' (written t r l k) (short u v) = absurd (omega arith)
one_answer file n before a b after after' (written t r l k) (many u q m) = absurd (omega arith)
one_answer file n before a b after after' (written t r l k) (written u q m j) = (refl, marks_one file n before after after' k j)

-- a line of the table is an answer, and so the only one
line_knows : {file : List ℕ} {n : ℕ} {before : List ℕ} {k p : ℕ} → Line file n before k p →
    (c : Cause) × Knows file n before (Err c) before × (number_of c ≡ k) × (place_of c ≡ p)
line_knows (told {c = c} t) = (c, refused t, refl, refl)
line_knows (eight t l) = (ShortBuffer, short t l, refl, refl)
line_knows (nine t r l) = (TooManyEvents, many t r l, refl, refl)

knows_line : {file : List ℕ} {n : ℕ} {before : List ℕ} {a : Result ⊤ Cause} {after : List ℕ} → Knows file n before a after → 0 < answer_number a →
    Line file n before (answer_number a) (answer_place a)
knows_line (refused t) l = told t
knows_line (short t s) l = eight t s
knows_line (many t r m) l = nine t r m
knows_line (written t r m k) l = absurd (omega arith)

knows_unwritten : {file : List ℕ} {n : ℕ} {before : List ℕ} {a : Result ⊤ Cause} {after : List ℕ} → Knows file n before a after → 0 < answer_number a →
    after ≡ before
knows_unwritten (refused t) l = refl
knows_unwritten (short t s) l = refl
knows_unwritten (many t r m) l = refl
knows_unwritten (written t r m k) l = absurd (omega arith)

pub refuses : Refuses
refuses f n before a after knows =
    record {
      unwritten = knows_unwritten knows;
      exactly = λ k p l. (
        λ (e, q). rw (← e, ← q) (knows_line knows (omega arith)),
        λ line.
            let h = line_knows line in
            let same = (one_answer f n before a (Err h.0) after before knows h.1).0 in
            (ap answer_number same ∙ h.2, ap answer_place same ∙ h.3),
      );
    }
