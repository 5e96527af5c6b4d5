-- The table has one answer, and `reading` gives it. Each line's test says whether the line holds, no two places satisfy one line, and of two
-- numbers the lower applies. Assumes nothing.
use Prim.Native.Nat.{ℕ, suc, ◌+◌, ◌*◌, ◌<◌, ◌≤◌}
use mathlib.Core.Bool.{Bool, true, false, true≢false}
use mathlib.Core.List.{List}
use mathlib.Core.Logic.{◌⊎◌, inl, inr, ⊎_elim}
use mathlib.Core.Path.{◌≡◌, refl, sym, ◌∙◌, ap}
use native.Mathlib.Omega.{arith}
use native.Mathlib.Decide.{dec_lt, ℕ_discrete}
use lib.ListN.{length}
use borrow.Author.Tests.{not-true, not-false}
use Rattle.std.specs.Prelude.{Result, Ok, Err, ⊤}
use Rattle.trace.specs.File.{row_limit, event_limit, rows_from, rows_of, events_of, events_from}
use Rattle.trace.specs.Rows.{KeepsLine}
use Rattle.trace.specs.Events.{KeepsEventLine}
use Rattle.trace.specs.Refusal.{number_of, place_of, Lowest, Repeated, Wrong, short, version, reserved, spy, authority, rows, events, rows_offset, events_offset, size, row, repeated, event, Told, refused, readable}
use Rattle.laws.specs.First.{first}
use Rattle.trace.specs.Tests.{header_of, wrong_version, wrong_set, wrong_contents, bad_row, repeated_row, bad_event}
use Rattle.trace.specs.Reading.{read_items, reading}
use Rattle.trace.specs.Promises.{Refusals}
use Rattle.trace.specs.declared.Cause.{Cause}
use Rattle.trace.specs.declared.Cause.TheVariants.{TooShort, WrongContents, BadRow, RepeatedRow, BadEvent}
use Rattle.laws.proofs.First.{find, first_found, first_none, any_some, any_inv, bool_cases, lt_suc}
use Rattle.trace.proofs.Causes.{cause_of, cause_numbered, one_cause, number_range}
use Rattle.trace.proofs.Contents.{is_version, not_version, is_set, not_set, is_contents, not_contents}
use Rattle.trace.proofs.Tested.{tested}
use Rattle.trace.proofs.Refusal.{reading_short, reading_version, reading_set, reading_contents, reading_items, items_row, items_repeat, items_event, items_readable}

abbrev pub Broken : List ℕ → ℕ → Type 0
Broken file r = ¬ KeepsLine file r

abbrev pub Malformed : List ℕ → ℕ → Type 0
Malformed file e = ¬ KeepsEventLine file e

-- a test that says whether a property holds of each number
pub record Decides (p : ℕ → Bool) (P : ℕ → Type 0) : Type 0 where
  pub holds : (k : ℕ) → p k ≡ true → P k
  pub fails : (k : ℕ) → p k ≡ false → ¬ P k

abbrev pub None : (ℕ → Bool) → ℕ → Type 0
None p n = (k : ℕ) → k < n → p k ≡ false

abbrev Found : (ℕ → Bool) → ℕ → Type 0
Found p n = ((k : ℕ) × (k < n) × (p k ≡ true) × ((j : ℕ) → j < k → p j ≡ false)) ⊎ None p n

module _ {p : ℕ → Bool} {P : ℕ → Type 0} (d : Decides p P) where
  lowest : (n k : ℕ) → k < n → p k ≡ true → ((j : ℕ) → j < k → p j ≡ false) → Lowest P n k
  lowest n k l t h = record { below = l; holds = d.holds k t; lowest = λ j lj. d.fails j (h j lj) }

  none_lowest : (n : ℕ) → None p n → (k : ℕ) → ¬ Lowest P n k
  none_lowest n none k l = d.fails k (none k l.below) l.holds

  -- what is nowhere the lowest is nowhere
  pub lowest_none : (n : ℕ) → ((k : ℕ) → ¬ Lowest P n k) → None p n
  lowest_none n not_lowest = go (find p n)
    where
      go : Found p n → None p n
      go (inl (k, l, t, h)) = absurd (not_lowest k (lowest n k l t h))
      go (inr none) = none

lowest_one : (P : ℕ → Type 0) (n j k : ℕ) → Lowest P n j → Lowest P n k → j ≡ k
lowest_one P n j k a b =
    let l : ¬ (j < k) = λ h. b.lowest j h a.holds in
    let m : ¬ (k < j) = λ h. a.lowest k h b.holds in
    omega arith

module _ (file : List ℕ) where
  pub rows_decided : Decides (bad_row file) (Broken file)
  rows_decided =
      record {
        holds = λ r t l. true≢false (sym ((tested.line file r).1 l) ∙ not-true _ t);
        fails = λ r f n. n ((tested.line file r).0 (not-false _ f));
      }

  pub repeats_decided : Decides (repeated_row file) (Repeated file)
  repeats_decided =
      record {
        holds = λ r t. let h = any_inv _ r t in (h.0, h.1, (tested.same file h.0 r).0 h.2);
        fails = λ r f (s, l, h). true≢false (sym (any_some _ r s l ((tested.same file s r).1 h)) ∙ f);
      }

  pub events_decided : Decides (bad_event file (rows_of file)) (Malformed file)
  events_decided =
      record {
        holds = λ e t l. true≢false (sym ((tested.event file e).1 l) ∙ not-true _ t);
        fails = λ e f n. n ((tested.event file e).0 (not-false _ f));
      }

  -- no cause below a number
  abbrev NoneBelow : ℕ → Type 0
  NoneBelow k = (d : Cause) → number_of d < k → ¬ Wrong file d

  none_below : NoneBelow 1
  none_below d l w = omega (arith, (number_range d).0)

  none_more : (k : ℕ) → NoneBelow k → ((p : ℕ) → ¬ Wrong file (cause_of k p)) → NoneBelow (suc k)
  none_more k none here d l w =
      ⊎_elim (λ (h : number_of d < k). none d h w) (λ (h : number_of d ≡ k). here (place_of d) (rw (← cause_numbered d k h) w)) (lt_suc (number_of d) k l)

  pub wrong_number : {c : Cause} → Wrong file c → number_of c < 8
  wrong_number (short l) = omega arith
  wrong_number (version n) = omega arith
  wrong_number (reserved n) = omega arith
  wrong_number (spy n) = omega arith
  wrong_number (authority b) = omega arith
  wrong_number (rows l) = omega arith
  wrong_number (events l) = omega arith
  wrong_number (rows_offset n) = omega arith
  wrong_number (events_offset n) = omega arith
  wrong_number (size n) = omega arith
  wrong_number (row l) = omega arith
  wrong_number (repeated l) = omega arith
  wrong_number (event l) = omega arith

  -- the table, tried from the top
  not_short : rows_from ≤ length file → ¬ Wrong file TooShort
  not_short l (short h) = omega arith

  not_row : None (bad_row file) (rows_of file) → (r : ℕ) → ¬ Wrong file (BadRow (record { 0 = r }))
  not_row none r (row l) = none_lowest rows_decided (rows_of file) none r l

  not_repeated : None (repeated_row file) (rows_of file) → (r : ℕ) → ¬ Wrong file (RepeatedRow (record { 0 = r }))
  not_repeated none r (repeated l) = none_lowest repeats_decided (rows_of file) none r l

  not_event : None (bad_event file (rows_of file)) (events_of file) → (r : ℕ) → ¬ Wrong file (BadEvent (record { 0 = r }))
  not_event none r (event l) = none_lowest events_decided (events_of file) none r l

  module _ (items : reading file ≡ read_items file (rows_of file) (events_of file)) where
    module _ (fit : None (bad_row file) (rows_of file)) where
      bad_rows : rows_of file ≡ first (bad_row file) (rows_of file)
      bad_rows = sym (first_none (bad_row file) (rows_of file) fit)

      module _ (apart : None (repeated_row file) (rows_of file)) where
        repeats : rows_of file ≡ first (repeated_row file) (rows_of file)
        repeats = sym (first_none (repeated_row file) (rows_of file) apart)

        told_event : NoneBelow 7 → Found (bad_event file (rows_of file)) (events_of file) → Told file (reading file)
        told_event none (inl (k, l, t, h)) =
            rw
            (items ∙
            items_event file (rows_of file) (events_of file) _ bad_rows _ (omega arith) repeats k (omega arith) (sym (first_found (bad_event file (rows_of file)) _ k l h t)) l)
            (refused (event (lowest events_decided _ k l t h)) none)
        told_event none (inr fit_events) =
            rw
            (items ∙
            items_readable file (rows_of file) (events_of file) _ bad_rows _ (omega arith) repeats _ (omega arith) (sym (first_none (bad_event file (rows_of file)) _ fit_events)) (omega arith))
            (readable (λ c w. none_more 7 none (not_event fit_events) c (wrong_number w) w))

      told_repeat : NoneBelow 6 → Found (repeated_row file) (rows_of file) → Told file (reading file)
      told_repeat none (inl (r, l, t, h)) =
          rw
          (items ∙
          items_repeat file (rows_of file) (events_of file) _ bad_rows r (omega arith) (sym (first_found (repeated_row file) _ r l h t)) l)
          (refused (repeated (lowest repeats_decided _ r l t h)) none)
      told_repeat none (inr apart) =
          told_event apart (none_more 6 none (not_repeated apart)) (find (bad_event file (rows_of file)) (events_of file))

    told_row : NoneBelow 5 → Found (bad_row file) (rows_of file) → Told file (reading file)
    told_row none (inl (r, l, t, h)) =
        rw (items ∙ items_row file (rows_of file) (events_of file) r (sym (first_found (bad_row file) _ r l h t)) l)
        (refused (row (lowest rows_decided _ r l t h)) none)
    told_row none (inr fit) = told_repeat fit (none_more 5 none (not_row fit)) (find (repeated_row file) (rows_of file))

  abbrev Either : Bool → Type 0
  Either t = (t ≡ true) ⊎ (t ≡ false)

  module _ (long : rows_from ≤ length file) where
    told_contents : wrong_version (header_of file) ≡ false → wrong_set file ≡ false → NoneBelow 4 →
        Either (wrong_contents (header_of file) (length file)) → Told file (reading file)
    told_contents v s none (inl w) = rw (reading_contents file long v s w) (refused (is_contents file w) none)
    told_contents v s none (inr w) =
        told_row (reading_items file long v s w) (none_more 4 none (λ p. not_contents file w)) (find (bad_row file) (rows_of file))

    told_set : wrong_version (header_of file) ≡ false → NoneBelow 3 → Either (wrong_set file) → Told file (reading file)
    told_set v none (inl s) = rw (reading_set file long v s) (refused (is_set file s) none)
    told_set v none (inr s) =
        told_contents v s (none_more 3 none (λ p. not_set file s)) (bool_cases (wrong_contents (header_of file) (length file)))

    told_version : NoneBelow 2 → Either (wrong_version (header_of file)) → Told file (reading file)
    told_version none (inl v) = rw (reading_version file long v) (refused (is_version file v) none)
    told_version none (inr v) = told_set v (none_more 2 none (λ p. not_version file v)) (bool_cases (wrong_set file))

  told_short : Dec (length file < rows_from) → Told file (reading file)
  told_short (yes l) = rw (reading_short file l) (refused (short l) none_below)
  told_short (no n) =
      let long : rows_from ≤ length file = omega arith in
      told_version long (none_more 1 none_below (λ p. not_short long)) (bool_cases (wrong_version (header_of file)))

  -- a place is fixed by its number
  abbrev Placed : (number place : ℕ) → Type 0
  Placed k p =
      (k < 5 → p ≡ 0) × (k ≡ 5 → Lowest (Broken file) (rows_of file) p) × (k ≡ 6 → Lowest (Repeated file) (rows_of file) p) ×
      (k ≡ 7 → Lowest (Malformed file) (events_of file) p)

  placed_low : (k : ℕ) → k < 5 → Placed k 0
  placed_low k l = (λ h. refl, λ h. absurd (omega arith), λ h. absurd (omega arith), λ h. absurd (omega arith))

  placed : {c : Cause} → Wrong file c → Placed (number_of c) (place_of c)
  placed (short l) = placed_low 1 (omega arith)
  placed (version n) = placed_low 2 (omega arith)
  placed (reserved n) = placed_low 2 (omega arith)
  placed (spy n) = placed_low 3 (omega arith)
  placed (authority h) = placed_low 3 (omega arith)
  placed (rows l) = placed_low 4 (omega arith)
  placed (events l) = placed_low 4 (omega arith)
  placed (rows_offset n) = placed_low 4 (omega arith)
  placed (events_offset n) = placed_low 4 (omega arith)
  placed (size n) = placed_low 4 (omega arith)
  placed (row l) = (λ h. absurd (omega arith), λ h. l, λ h. absurd (omega arith), λ h. absurd (omega arith))
  placed (repeated l) = (λ h. absurd (omega arith), λ h. absurd (omega arith), λ h. l, λ h. absurd (omega arith))
  placed (event l) = (λ h. absurd (omega arith), λ h. absurd (omega arith), λ h. absurd (omega arith), λ h. l)

  same_place : (k p q : ℕ) → k < 8 → Placed k p → Placed k q → p ≡ q
  same_place k p q l a b = go (ℕ_discrete k 5) (ℕ_discrete k 6) (ℕ_discrete k 7)
    where
      go : Dec (k ≡ 5) → Dec (k ≡ 6) → Dec (k ≡ 7) → p ≡ q
      go (yes h) m n = lowest_one _ _ p q (a.1 h) (b.1 h)
      go (no h) (yes m) n = lowest_one _ _ p q (a.2 m) (b.2 m)
      go (no h) (no m) (yes n) = lowest_one _ _ p q (a.3 n) (b.3 n)
      go (no h) (no m) (no n) = let low : k < 5 = omega arith in a.0 low ∙ sym (b.0 low)

  wrong_one : {c d : Cause} → Wrong file c → Wrong file d → ¬ (number_of d < number_of c) → ¬ (number_of c < number_of d) → c ≡ d
  wrong_one {c} {d} v w n m =
      let h : number_of c ≡ number_of d = omega arith in
      one_cause c d h (same_place (number_of d) (place_of c) (place_of d) (wrong_number w) (rw h at (placed v)) (placed w))

  told_one : (r s : Result ⊤ Cause) → Told file r → Told file s → r ≡ s
  told_one r s (refused v n) (refused w m) = ap Err (wrong_one v w (λ l. n _ l w) (λ l. m _ l v))
  told_one r s (refused v n) (readable m) = absurd (m _ v)
  told_one r s (readable n) (refused w m) = absurd (n _ w)
  told_one r s (readable n) (readable m) = refl

pub refusals : Refusals
refusals = record { told = λ file. told_short file (dec_lt (length file) rows_from); one = told_one }

pub told_read : (file : List ℕ) {r : Result ⊤ Cause} → reading file ≡ r → Told file r
told_read file e = rw e at (refusals.told file)

-- a file is refused by one cause, or readable
pub told_readable : (file : List ℕ) {c : Cause} → Told file (Err c) → ¬ Told file (Ok tt)
told_readable file (refused w n) (readable m) = m _ w

abbrev cause_in : Result ⊤ Cause → Cause
cause_in (Err c) = c
cause_in (Ok _) = TooShort

pub same_cause : (file : List ℕ) {c d : Cause} → Told file (Err c) → Told file (Err d) → c ≡ d
same_cause file t u = ap cause_in (refusals.one file _ _ t u)

-- what a file has whose contents part is right
module _ (file : List ℕ) (right : ¬ Wrong file WrongContents) where
  pub few_rows : rows_of file ≤ row_limit
  few_rows = let n : ¬ (row_limit < rows_of file) = λ l. right (rows l) in omega arith

  pub few_events : events_of file ≤ event_limit
  few_events = let n : ¬ (event_limit < events_of file) = λ l. right (events l) in omega arith

  pub whole_length : length file ≡ events_from file + 8 * events_of file
  whole_length = go (ℕ_discrete _ _)
    where
      go : Dec (length file ≡ events_from file + 8 * events_of file) → length file ≡ events_from file + 8 * events_of file
      go (yes h) = h
      go (no n) = absurd (right (size n))

-- the place of a refusal is that of a row or an event
pub told_place : (file : List ℕ) (c : Cause) → Told file (Err c) → place_of c ≤ row_limit
told_place file c (refused w none) = go (placed file w) (wrong_number file w)
  where
    right : 5 ≤ number_of c → ¬ Wrong file WrongContents
    right l = none WrongContents (omega arith)

    go : Placed file (number_of c) (place_of c) → number_of c < 8 → place_of c ≤ row_limit
    go h l = by (ℕ_discrete (number_of c) 5) (ℕ_discrete (number_of c) 6) (ℕ_discrete (number_of c) 7)
      where
        by : Dec (number_of c ≡ 5) → Dec (number_of c ≡ 6) → Dec (number_of c ≡ 7) → place_of c ≤ row_limit
        by (yes k) m n = omega (arith, (h.1 k).below, few_rows file (right (omega arith)))
        by (no k) (yes m) n = omega (arith, (h.2 m).below, few_rows file (right (omega arith)))
        by (no k) (no m) (yes n) = omega (arith, (h.3 n).below, few_events file (right (omega arith)))
        by (no k) (no m) (no n) = omega (arith, h.0 (omega arith))
