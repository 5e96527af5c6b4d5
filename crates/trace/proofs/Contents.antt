-- The tests of the first bytes are exact: each says whether its line of the table holds.
-- Assumes nothing.
use Prim.Native.Nat.{ℕ, ◌+◌, ◌*◌}
use mathlib.Core.Bool.{Bool, true, false, true≢false, ◌||◌, not}
use mathlib.Core.List.{List}
use mathlib.Core.Logic.{⊎_elim}
use mathlib.Core.Path.{◌≡◌, sym, ◌∙◌}
use native.Mathlib.Omega.{arith}
use lib.Dec.{eqb, ltb}
use lib.ListN.{length}
use borrow.Author.Tests.{eqb-true, eqb-false, ltb-true, ltb-false, not-true, not-false}
use Rattle.trace.specs.File.{word, row_limit, event_limit, rows_from, rows_of, events_of, events_from, compromised_in}
use Rattle.trace.specs.Refusal.{Wrong, version, reserved, spy, authority, rows, events, rows_offset, events_offset, size}
use Rattle.trace.specs.Tests.{header_of, wrong_version, wrong_set, wrong_contents}
use Rattle.trace.specs.declared.Cause.TheVariants.{WrongVersion, WrongSet, WrongContents}
use Rattle.laws.proofs.Both.{either, or_false, or_false_right}

module _ (file : List ℕ) where
  pub is_version : wrong_version (header_of file) ≡ true → Wrong file WrongVersion
  is_version t =
      ⊎_elim (λ a. version (eqb-false _ 1 (not-true _ a))) (λ a. reserved (eqb-false _ 0 (not-true _ a))) (either _ (not (eqb (word file 2) 0)) t)

  pub not_version : wrong_version (header_of file) ≡ false → ¬ Wrong file WrongVersion
  not_version f (version n) = n (eqb-true _ 1 (not-false _ (or_false _ (not (eqb (word file 2) 0)) f)))
  not_version f (reserved n) = n (eqb-true _ 0 (not-false _ (or_false_right (not (eqb (word file 0) 1)) _ f)))

  pub is_set : wrong_set file ≡ true → Wrong file WrongSet
  is_set t = ⊎_elim (λ a. spy (λ b. true≢false (sym b ∙ not-true _ a))) authority (either _ (compromised_in file 1) t)

  pub not_set : wrong_set file ≡ false → ¬ Wrong file WrongSet
  not_set f (spy n) = n (not-false _ (or_false _ (compromised_in file 1) f))
  not_set f (authority b) = true≢false (sym b ∙ or_false_right (not (compromised_in file 0)) _ f)

  -- the five tests of the contents part
  abbrev a : Bool
  a = ltb row_limit (rows_of file)

  abbrev b : Bool
  b = ltb event_limit (events_of file)

  abbrev c : Bool
  c = not (eqb (word file 12) rows_from)

  abbrev d : Bool
  d = not (eqb (word file 16) (events_from file))

  abbrev e : Bool
  e = not (eqb (length file) (events_from file + 8 * events_of file))

  pub is_contents : wrong_contents (header_of file) (length file) ≡ true → Wrong file WrongContents
  is_contents t = ⊎_elim four (λ h. size (eqb-false _ _ (not-true _ h))) (either (a || b || c || d) e t)
    where
      two : (a || b) ≡ true → Wrong file WrongContents
      two h = ⊎_elim (λ g. rows (ltb-true _ _ g)) (λ g. events (ltb-true _ _ g)) (either a b h)

      three : (a || b || c) ≡ true → Wrong file WrongContents
      three h = ⊎_elim two (λ g. rows_offset (eqb-false _ _ (not-true _ g))) (either (a || b) c h)

      four : (a || b || c || d) ≡ true → Wrong file WrongContents
      four h = ⊎_elim three (λ g. events_offset (eqb-false _ _ (not-true _ g))) (either (a || b || c) d h)

  pub not_contents : wrong_contents (header_of file) (length file) ≡ false → ¬ Wrong file WrongContents
  not_contents f = go
    where
      four : (a || b || c || d) ≡ false
      four = or_false (a || b || c || d) e f

      three : (a || b || c) ≡ false
      three = or_false (a || b || c) d four

      two : (a || b) ≡ false
      two = or_false (a || b) c three

      go : ¬ Wrong file WrongContents
      go (rows l) = omega (arith, ltb-false row_limit (rows_of file) (or_false a b two))
      go (events l) = omega (arith, ltb-false event_limit (events_of file) (or_false_right a b two))
      go (rows_offset n) = n (eqb-true _ _ (not-false _ (or_false_right (a || b) c three)))
      go (events_offset n) = n (eqb-true _ _ (not-false _ (or_false_right (a || b || c) d four)))
      go (size n) = n (eqb-true _ _ (not-false _ (or_false_right (a || b || c || d) e f)))
