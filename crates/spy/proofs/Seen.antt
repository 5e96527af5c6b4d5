-- Knowledge only grows, and what the spy sees decides it: a mark goes along with the set that it is of, and what is seen is what the
-- events show that are left once the notes of uncompromised agents are struck out.
-- Assumes nothing.
use Prim.Native.Nat.{ℕ, zero, suc, ◌<◌, ◌≤◌}
use mathlib.Core.Bool.{true, false}
use mathlib.Core.List.{List, ◌∷◌}
use mathlib.Core.Logic.{◌⊎◌, inl, inr}
use mathlib.Core.Path.{◌≡◌, refl, sym, ◌∙◌, subst}
use native.Mathlib.Omega.{arith}
use lib.ListN.{get_or}
use Rattle.std.specs.Prelude.{Ok}
use Rattle.paper.specs.Message.{msg}
use Rattle.paper.specs.Event.{trace, here, Beginning, whole, earlier}
use Rattle.paper.specs.Spy.{Starts, own, Spies, start, said, noted, Synth}
use Rattle.paper.specs.Closures.{Within}
use Rattle.paper.proofs.Event.{Spies-beginning}
use Rattle.paper.proofs.Closures.{analz_mono, synth_mono}
use Rattle.trace.specs.File.{rows_of, events_of, compromised_in}
use Rattle.laws.specs.Choose.{choose}
use Rattle.trace.specs.Events.{event_at}
use Rattle.trace.specs.Refusal.{Told}
use Rattle.trace.specs.Meaning.{messages, message, event_meant, beginning, bad}
use Rattle.trace.specs.Promises.{Promised, Exists, says, notes}
use Rattle.trace.specs.declared.AgentNo.{AgentNo}
use Rattle.trace.specs.declared.RowNo.{RowNo}
use Rattle.trace.specs.declared.Event.{Event}
use Rattle.trace.specs.declared.Event.TheVariants.{Says, Notes}
use Rattle.laws.proofs.First.{bool_cases, lt_suc}
use Rattle.trace.proofs.Promised.{promises}
use Rattle.spy.specs.Knowledge.{Mark, analysed, made, neither, Marks, Knows, written, SeenIn}
use Rattle.spy.specs.Promises.{OnlyGrows, struck_out, events_left, SameRows, SeenDecides}
use Rattle.closure.proofs.Exact.{Newest, in_says_lem, in_notes_lem, newest, older}

mark_grows : {G H : msg → Type 0} {X : msg} {m k : ℕ} → Within G H → Mark G X m → Mark H X k → m ≤ k
mark_grows w (analysed a) (analysed b) = omega arith
mark_grows w (analysed a) (made n s) = absurd (n (analz_mono w a))
mark_grows w (analysed a) (neither n) = absurd (n (Synth.known (analz_mono w a)))
mark_grows w (made n s) (analysed a) = omega arith
mark_grows w (made n s) (made m t) = omega arith
mark_grows w (made n s) (neither m) = absurd (m (synth_mono (λ X. analz_mono w) s))
mark_grows w (neither n) k = omega arith

-- what an answer says of its file
pub told_file : {file : List ℕ} {n : ℕ} {before after : List ℕ} → Knows file n before (Ok tt) after →
    Told file (Ok tt) × (n ≤ events_of file) × Marks file n before after
told_file (written t r l m) = (t, l, m)

pub begins : (file : List ℕ) (n m : ℕ) → n ≤ m → Beginning (beginning file n) (beginning file m)
unfolding beginning
begins file n zero l = let e : n ≡ 0 = omega arith in rw e whole
begins file n (suc m) l = go (lt_suc n (suc m) (omega arith)) (λ (h : n ≤ m). begins file n m h)
  where
    go : (n < suc m) ⊎ (n ≡ suc m) → (n ≤ m → Beginning (beginning file n) (beginning file m)) →
        Beginning (beginning file n) (event_meant file (event_at file m) ∷ beginning file m)
    go (inl h) ih = earlier (ih (omega arith))
    go (inr e) ih = rw e whole

pub only_grows : OnlyGrows
only_grows file n m before before' after after' l p q r lr =
    mark_grows (λ X. Spies-beginning (begins file n m l)) ((told_file p).2.rows r lr) ((told_file q).2.rows r lr)

-- an event of the list shows X
data Shown (file : List ℕ) (X : msg) : List Event → Type 0 where
  by_says : {a b : AgentNo} {r : RowNo} {es : List Event} → r.0 < rows_of file → message file r.0 ≡ X → Shown file X (Says a b r ∷ es)
  by_notes : {a : AgentNo} {r : RowNo} {es : List Event} → r.0 < rows_of file → message file r.0 ≡ X → Shown file X (Notes a r ∷ es)
  later : {E : Event} {es : List Event} → Shown file X es → Shown file X (E ∷ es)

module _ (file : List ℕ) (P : Promised file) where
  abbrev H : trace → msg → Type 0
  H evs = Spies (bad file) evs

  abbrev Found : msg → List Event → Type 0
  Found X es = Starts (bad file) X ⊎ Shown file X es

  found_later : {X : msg} {E : Event} {es : List Event} → Found X es → Found X (E ∷ es)
  found_later (inl s) = inl s
  found_later (inr i) = inr (later i)

  abbrev left : Event → List Event → List Event
  left E es = choose (struck_out file E) es (E ∷ es)

  -- what an event shows, it shows among those that are left
  seen_event : (E : Event) (es : List Event) {evs : trace} {X : msg} → Exists file E → (H evs X → Found X es) →
      H (event_meant file E ∷ evs) X → Found X (left E es)
  seen_event (Says a b r) es {evs} {X} (says la lb l) ih h = go (newest file P (Says a b r) h)
    where
      go : H evs X ⊎ Newest file P X (Says a b r) → Found X (Says a b r ∷ es)
      go (inl i) = found_later (ih i)
      go (inr (in_says_lem q)) = inr (by_says l q)
  seen_event (Notes a r) es {evs} {X} (notes la l) ih h = go (newest file P (Notes a r) h) (bool_cases (compromised_in file a.0))
    where
      go : H evs X ⊎ Newest file P X (Notes a r) → (compromised_in file a.0 ≡ true) ⊎ (compromised_in file a.0 ≡ false) →
          Found X (left (Notes a r) es)
      go (inl i) (inl b) = rw b (found_later (ih i))
      go (inl i) (inr b) = rw b (ih i)
      go (inr (in_notes_lem c q)) d = rw c (inr (by_notes l q))

  says_shown : {a b : AgentNo} {r : RowNo} {es : List Event} {evs : trace} {X : msg} → (Shown file X es → H evs X) →
      Shown file X (Says a b r ∷ es) → H (event_meant file (Says a b r) ∷ evs) X
  says_shown ih (by_says l q) = rw (← q) (said here)
  says_shown {X = X} ih (later i) = older file P X (ih i)

  notes_shown : {a : AgentNo} {r : RowNo} {es : List Event} {evs : trace} {X : msg} → bad file a.0 → (Shown file X es → H evs X) →
      Shown file X (Notes a r ∷ es) → H (event_meant file (Notes a r) ∷ evs) X
  notes_shown b ih (by_notes l q) = rw (← q) (noted b here)
  notes_shown {X = X} b ih (later i) = older file P X (ih i)

  shown_event : (E : Event) (es : List Event) {evs : trace} {X : msg} → (Shown file X es → H evs X) → Shown file X (left E es) →
      H (event_meant file E ∷ evs) X
  shown_event (Says a b r) es ih i = says_shown ih i
  shown_event (Notes a r) es {evs} {X} ih i = go (bool_cases (compromised_in file a.0))
    where
      go : (compromised_in file a.0 ≡ true) ⊎ (compromised_in file a.0 ≡ false) → H (event_meant file (Notes a r) ∷ evs) X
      go (inl b) = notes_shown b ih (rw b at i)
      go (inr b) = older file P X (ih (rw b at i))

  seen_shown : (n : ℕ) {X : msg} → n ≤ events_of file → SeenIn file n X → Found X (events_left file n)
  unfolding beginning events_left
  seen_shown zero l (start s) = inl s
  seen_shown zero l (said i) = elim i [ ]
  seen_shown zero l (noted _ i) = elim i [ ]
  seen_shown (suc n) l h =
      seen_event (event_at file n) (events_left file n) (P.exists n (omega arith)) (seen_shown n (omega arith)) h

  shown_seen : (n : ℕ) {X : msg} → Shown file X (events_left file n) → SeenIn file n X
  unfolding beginning events_left
  shown_seen zero i = elim i [ ]
  shown_seen (suc n) i = shown_event (event_at file n) (events_left file n) (shown_seen n) i

-- equal rows have equal messages
module _ (file other : List ℕ) (s : SameRows file other) where
  messages_same : (n : ℕ) → n ≤ rows_of file → messages file n ≡ messages other n
  unfolding messages
  messages_same zero l = refl
  messages_same (suc n) l = rw (messages_same n (omega arith), s.each n (omega arith))

  message_same : (r : ℕ) → r < rows_of file → message file r ≡ message other r
  unfolding message
  message_same r l = rw (messages_same r (omega arith), s.each r l)

  shown_same : {X : msg} {es : List Event} → Shown file X es → Shown other X es
  shown_same (by_says {r = r} l q) = by_says (rw s.count at l) (sym (message_same r.0 l) ∙ q)
  shown_same (by_notes {r = r} l q) = by_notes (rw s.count at l) (sym (message_same r.0 l) ∙ q)
  shown_same (later i) = later (shown_same i)

  starts_same : {X : msg} → Starts (bad file) X → Starts (bad other) X
  starts_same (own {A} b) = own (sym (s.compromised A) ∙ b)

  seen_within : (n m : ℕ) → Promised file → Promised other → n ≤ events_of file → events_left file n ≡ events_left other m →
      Within (SeenIn file n) (SeenIn other m)
  seen_within n m P Q l e X h = go (seen_shown file P n l h)
    where
      go : Starts (bad file) X ⊎ Shown file X (events_left file n) → SeenIn other m X
      go (inl i) = start (starts_same i)
      go (inr i) = shown_seen other Q m (subst (Shown other X) e (shown_same i))

same_back : {file other : List ℕ} → SameRows file other → SameRows other file
same_back s =
    record {
      count = sym s.count;
      each = λ r l. sym (s.each r (rw (← s.count) at l));
      compromised = λ A. sym (s.compromised A);
    }

pub seen_decides : SeenDecides
seen_decides file other n m before before' after after' s e p q r l =
    let a = told_file p in
    let b = told_file q in
    let P = promises file a.0 in
    let Q = promises other b.0 in
    let x = a.2.rows r l in
    let y : Mark (SeenIn other m) (message file r) (get_or after' r 0) = rw (message_same file other s r l) (b.2.rows r (rw s.count at l)) in
    let up = mark_grows (seen_within file other s n m P Q a.1 e) x y in
    let down = mark_grows (seen_within other file (same_back s) m n Q P b.1 (sym e)) y x in
    omega arith
