-- The part at fault: what the code lends back is it, and there is only one.
-- Assumes nothing.
use Prim.Native.Nat.{ℕ, ◌<◌, ◌≤◌}
use mathlib.Core.List.{List}
use mathlib.Core.Logic.{◌⊎◌, inl, inr}
use mathlib.Core.Path.{◌≡◌, refl, sym, ◌∙◌, ap}
use native.Mathlib.Omega.{arith}
use lib.Dec.{ltb}
use lib.ListN.{length}
use denote.Ref.{Bor}
use borrow.Author.Tests.{lt-ltb, le-ltb}
use Rattle.std.specs.Prelude.{Ok, Err}
use Rattle.trace.specs.File.{event_limit, events_of}
use Rattle.laws.specs.Choose.{choose}
use Rattle.trace.specs.Refusal as table
use Rattle.trace.specs.Refusal.{number_of, place_of, Wrong, Told}
use Rattle.trace.specs.Reading.{reading}
use Rattle.trace.specs.Part.{nothing, row_part, event_part, Part}
use Rattle.trace.specs.Spans.{event_span, fault_of, within, Inside}
use Rattle.trace.specs.declared.Span.{Span}
use Rattle.trace.specs.declared.Cause.{Cause}
use Rattle.trace.specs.declared.Cause.TheVariants.{WrongContents}
use Rattle.trace.proofs.Told.{told_read, told_readable, same_cause}
use Rattle.trace.proofs.Fault as fault
use Rattle.trace.proofs.Fault.{Fault, told_fault, inside_within, nothing_inside, row_inside, event_inside, event_eight}
use Rattle.trace.proofs.Promised.{promises_read}
use Rattle.walk.specs.Walk.{walk_file}
use Rattle.judge.specs.Judged.{Longest}
use Rattle.judge.specs.Promises.{OneFault, OnePart}
use Rattle.judge.specs.Faulted.{Faulted, row, repeated, event, refused, illegal, accepted, FaultPart}
use Rattle.judge.proofs.Walk.{Ended}
use Rattle.judge.proofs.Judges.{walk_ended}
use Rattle.judge.proofs.One.{longest_one}

fault_told : (file : List ℕ) {c : Cause} → Fault file c → Told file (Err c) → Faulted file (fault_of file c)
fault_told file (fault.none l e) t = rw e (refused t l)
fault_told file (fault.row e i) t = rw e (row t)
fault_told file (fault.repeated e i) t = rw e (repeated t)
fault_told file (fault.event e i) t = rw e (event t)

pub faulted_refused : (file : List ℕ) {c : Cause} → reading file ≡ Err c → Faulted file (fault_of file c)
faulted_refused file {c} e =
    let t = told_read file e in
    fault_told file (told_fault file c t) t

right_contents : (file : List ℕ) → Told file (Ok tt) → ¬ Wrong file WrongContents
right_contents file (table.readable none) = none WrongContents

module _ (file : List ℕ) (r : reading file ≡ Ok tt) where
  told : Told file (Ok tt)
  told = told_read file r

  module _ (bytes : List ℕ) (room : events_of file ≤ length bytes) where
    abbrev n : ℕ
    n = (walk_file file bytes).length

    ended : Ended file 0 bytes (walk_file file bytes)
    ended = walk_ended file r bytes room

    faulted_event : n < events_of file → Faulted file (event_span file n)
    faulted_event l = rw (event_eight file (right_contents file told) n l) (illegal told (record { within = ended.within; accepted = ended.accepted; longest = ended.longest }) l)

    faulted_none : events_of file ≤ n → Faulted file nothing
    faulted_none l =
        let e : n ≡ events_of file = omega (arith, ended.within) in
        accepted told (rw e at ended.accepted)

  -- as the code has them: at most 512 events, so a buffer of 512 bytes has room for all
  module _ (bytes : List ℕ) (room : event_limit ≤ length bytes) where
    enough : events_of file ≤ length bytes
    enough =
        let few = (promises_read file r).few_events in
        omega arith

    pub fault_event : {N k : ℕ} {span : Span} → N ≡ events_of file → k ≡ (walk_file file bytes).length → k < N →
        span ≡ event_span file k → Faulted file span
    fault_event en ew l es = rw (es, ew) (faulted_event bytes enough (omega arith))

    pub fault_none : {N k : ℕ} {span : Span} → N ≡ events_of file → k ≡ (walk_file file bytes).length → N ≤ k →
        span ≡ nothing → Faulted file span
    fault_none en ew l es = rw es (faulted_none bytes enough (omega arith))

-- it is there: what is lent back is the part at fault
pub faulted_inside : (file : List ℕ) {span : Span} → Faulted file span → Inside file span
faulted_inside file (row (table.refused (table.row l) none)) = row_inside file (none WrongContents (omega arith)) _ l.below
faulted_inside file (repeated (table.refused (table.repeated l) none)) = row_inside file (none WrongContents (omega arith)) _ l.below
faulted_inside file (event (table.refused (table.event l) none)) = event_inside file (none WrongContents (omega arith)) _ l.below
faulted_inside file (refused t l) = nothing_inside file
faulted_inside file (illegal {n = n} t g l) = event_inside file (right_contents file t) n l
faulted_inside file (accepted t g) = nothing_inside file

pub fault_part : (file : Bor (List ℕ)) {span : Span} {part : Bor (List ℕ)} → Faulted file.now span →
    Part file (within file.now span) part → FaultPart file part
fault_part file {span} f p = record { span = span; faulted = f; is = rw (inside_within file.now span (faulted_inside file.now f)) at p }

-- one answer only: the span is fixed by the cause, or by the length of the longest accepted beginning
abbrev by_cause : List ℕ → Cause → Span
by_cause file c =
    choose (ltb (number_of c) 5) nothing (choose (ltb (number_of c) 7) (row_part (place_of c)) (event_part file (place_of c)))

abbrev by_length : List ℕ → ℕ → Span
by_length file n = choose (ltb n (events_of file)) (event_part file n) nothing

abbrev Fixed : List ℕ → Span → Type 0
Fixed file s =
    ((c : Cause) × Told file (Err c) × (s ≡ by_cause file c)) ⊎
    (Told file (Ok tt) × ((n : ℕ) × Longest file n × (s ≡ by_length file n)))

fixed : (file : List ℕ) {s : Span} → Faulted file s → Fixed file s
fixed file (row t) = inl (_, t, refl)
fixed file (repeated t) = inl (_, t, refl)
fixed file (event t) = inl (_, t, refl)
fixed file (refused {c = c} t l) = inl (c, t, rw (lt-ltb (number_of c) 5 l) refl)
fixed file (illegal {n = n} t g l) = inr (t, (n, g, rw (lt-ltb n (events_of file) l) refl))
fixed file (accepted t g) =
    inr (
      t,
      (
        events_of file,
        record { within = omega arith; accepted = g; longest = λ m l le. absurd (omega arith) },
        rw (le-ltb (events_of file) (events_of file) (omega arith)) refl,
      ),
    )

fixed_one : (file : List ℕ) (s t : Span) → Fixed file s → Fixed file t → s ≡ t
fixed_one file s t (inl (c, a, e)) (inl (d, b, f)) = e ∙ ap (by_cause file) (same_cause file a b) ∙ sym f
fixed_one file s t (inl (c, a, e)) (inr (b, m)) = absurd (told_readable file a b)
fixed_one file s t (inr (a, n)) (inl (d, b, f)) = absurd (told_readable file b a)
fixed_one file s t (inr (a, (n, g, e))) (inr (b, (m, h, f))) = e ∙ ap (by_length file) (longest_one file n m g h) ∙ sym f

pub one_fault : OneFault
one_fault file s t a b = fixed_one file s t (fixed file a) (fixed file b)

pub one_part : OnePart
one_part file p q a b =
    let e = one_fault file.now a.span b.span a.faulted b.faulted in
    let c : Part file b.span p = rw e at a.is in
    (c.holds ∙ sym b.is.holds, c.stands ∙ sym b.is.stands)
