-- What a file that is not refused promises: none of the table's causes holds of it, so its rows keep their lines, no two are equal,
-- and its events' parts exist. Assumes nothing.
use Prim.Native.Nat.{ℕ, ◌<◌}
use mathlib.Core.Bool.{true, true≢false}
use mathlib.Core.List.{List}
use mathlib.Core.Logic.{⊎_elim}
use mathlib.Core.Path.{◌≡◌, sym, ◌∙◌, ap}
use native.Mathlib.Omega.{arith}
use borrow.Author.Tests.{not-false}
use Rattle.std.specs.Prelude.{Ok}
use Rattle.trace.specs.File.{rows_of, events_of, compromised_in}
use Rattle.trace.specs.Rows.{fields_at, KeepsLine}
use Rattle.trace.specs.Events.{EventLine, KeepsEventLine, event_of}
use Rattle.trace.specs.Refusal.{Wrong, spy, authority, row, repeated, event, readable}
use Rattle.trace.specs.Kinds.{row_at}
use Rattle.trace.specs.Reading.{reading}
use Rattle.trace.specs.Events as table
use Rattle.trace.specs.Promises.{Exists, says, notes, Promised, Promises, KeptApart}
use Rattle.trace.specs.declared.Cause.{Cause}
use Rattle.laws.proofs.First.{bool_cases}
use Rattle.trace.proofs.Tested.{tested, six}
use Rattle.trace.proofs.Told.{told_read, lowest_none, rows_decided, repeats_decided, events_decided, few_rows, few_events}
use Rattle.trace.proofs.Keeps.{fields_of, row_keeps, row_shows}
use Rattle.trace.proofs.Meaning.{row_unfolds, messages_apart}

-- an event that keeps its line has agents and a row that exist
line_exists : (file : List ℕ) {k a b z r o : ℕ} → EventLine file k a b z r o → Exists file (event_of (six k a b z r o))
line_exists file (table.says la lb lr) = says la lb lr
line_exists file (table.notes la lr) = notes la lr

module _ (file : List ℕ) (clean : (c : Cause) → ¬ Wrong file c) where
  lines_kept : (r : ℕ) → r < rows_of file → KeepsLine file r
  lines_kept r l =
      (tested.line file r).0 (not-false _ (lowest_none (rows_decided file) (rows_of file) (λ k h. clean _ (row h)) r l))

  events_kept : (e : ℕ) → e < events_of file → KeepsEventLine file e
  events_kept e l =
      (tested.event file e).0 (not-false _ (lowest_none (events_decided file) (events_of file) (λ k h. clean _ (event h)) e l))

  not_below : (r s : ℕ) → s < rows_of file → fields_at file r ≡ fields_at file s → ¬ (r < s)
  not_below r s ls e l =
      (repeats_decided file).fails s (lowest_none (repeats_decided file) (rows_of file) (λ k h. clean _ (repeated h)) s ls)
      (r, l, (tested.bytes file r s).0 e)

  rows_apart : (r s : ℕ) → r < rows_of file → s < rows_of file → row_at file r ≡ row_at file s → r ≡ s
  rows_apart r s lr ls e =
      let q : fields_at file r ≡ fields_at file s =
      row_shows file r (lines_kept r lr) ∙ ap fields_of e ∙ sym (row_shows file s (lines_kept s ls)) in
      let n = not_below r s ls q in
      let m = not_below s r lr (sym q) in
      omega arith

  spy_known : compromised_in file 0 ≡ true
  spy_known = ⊎_elim (λ t. t) (λ f. absurd (clean _ (spy (λ b. true≢false (sym b ∙ f))))) (bool_cases (compromised_in file 0))

  promised : Promised file
  promised =
      record {
        few_rows = few_rows file (clean _);
        few_events = few_events file (clean _);
        spy_bad = spy_known;
        authority_good = λ b. clean _ (authority b);
        keeps = λ r l. row_keeps file r (lines_kept r l);
        exists = λ e l. line_exists file (events_kept e l);
        unfolds = λ r l. row_unfolds file r (row_keeps file r (lines_kept r l));
        apart = messages_apart file (rows_of file) (λ r l. row_keeps file r (lines_kept r l)) rows_apart;
      }

pub promises : Promises
promises file (readable none) = promised file none

pub promises_read : (file : List ℕ) → reading file ≡ Ok tt → Promised file
promises_read file e = promises file (told_read file e)

pub kept_apart : KeptApart
kept_apart n e = true≢false (cc)
