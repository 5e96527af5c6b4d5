-- An event of the file, flat, against the paper's event; and what is in the trace of the first e events.
-- Assumes nothing.
use Prim.Native.Nat.{ℕ, suc, zero, ◌<◌, ◌≤◌}
use mathlib.Core.Bool.{Bool, true, false, not, ◌&&◌, true≢false}
use mathlib.Core.List.{List, ◌∷◌}
use mathlib.Core.Logic.{◌⊎◌, inl, inr}
use mathlib.Core.Path.{◌≡◌, refl, sym, ap}
use native.Mathlib.Omega.{arith}
use lib.Dec.{eqb}
use borrow.Author.Tests.{eqb-true, eq-eqb}
use Rattle.paper.specs.Message as paper
use Rattle.paper.specs.Event as event
use Rattle.paper.specs.Event.{In, here, there}
use Rattle.trace.specs.File.{rows_of, events_of}
use Rattle.trace.specs.Events.{event_at}
use Rattle.trace.specs.Meaning.{message, event_meant, beginning}
use Rattle.trace.specs.Promises.{Promised, Exists, says, notes}
use Rattle.trace.specs.declared.Event.{Event}
use Rattle.trace.specs.declared.Event.TheVariants.{Says, Notes}
use Rattle.laws.proofs.First.{lt_suc}
use Rattle.laws.proofs.Both.{both, both3}
use Rattle.earlier.specs.Earlier.{heard_in, heard_at, said_to, said_by, noted_by}

-- an event of the file is in its trace
pub in_beginning : (file : List ℕ) (e n : ℕ) → e < n → In (event_meant file (event_at file e)) (beginning file n)
unfolding beginning
in_beginning file e zero l = absurd (omega arith)
in_beginning file e (suc n) l = go (lt_suc e n l) (λ (h : e < n). in_beginning file e n h)
  where
    go : (e < n) ⊎ (e ≡ n) → (e < n → In (event_meant file (event_at file e)) (beginning file n)) →
        In (event_meant file (event_at file e)) (event_meant file (event_at file n) ∷ beginning file n)
    go (inl h) ih = there (ih h)
    go (inr q) ih = rw q here

-- and nothing else is
pub beginning_in : (file : List ℕ) (n : ℕ) {E : event.event} → In E (beginning file n) →
    (j : ℕ) × (j < n) × (event_meant file (event_at file j) ≡ E)
unfolding beginning
beginning_in file zero i = elim i [ ]
beginning_in file (suc n) here = (n, omega arith, refl)
beginning_in file (suc n) {E} (there i) = go (beginning_in file n i)
  where
    go : (j : ℕ) × (j < n) × (event_meant file (event_at file j) ≡ E) → (j : ℕ) × (j < suc n) × (event_meant file (event_at file j) ≡ E)
    go (j, l, q) = (j, omega arith, q)

-- the parts of the paper's event
is_says : event.event → Bool
is_says (event.Says A B X) = true
is_says (event.Notes A X) = false

who_of : event.event → paper.agent
who_of (event.Says A B X) = A
who_of (event.Notes A X) = A

whom_of : event.event → paper.agent
whom_of (event.Says A B X) = B
whom_of (event.Notes A X) = 0

what_of : event.event → paper.msg
what_of (event.Says A B X) = X
what_of (event.Notes A X) = X

pub not_true : (b : Bool) → not b ≡ true → b ≡ false
not_true true h = absurd (true≢false (sym h))
not_true false h = refl

module _ (file : List ℕ) where
  pub says_meant : (E : Event) → (heard_in E).says ≡ true →
      event_meant file E ≡ event.Says (heard_in E).from (heard_in E).to (message file (heard_in E).row)
  says_meant (Says a b r) t = refl
  says_meant (Notes a r) t = absurd (true≢false (sym t))

  pub notes_meant : (E : Event) → not (heard_in E).says ≡ true →
      event_meant file E ≡ event.Notes (heard_in E).from (message file (heard_in E).row)
  notes_meant (Says a b r) t = absurd (true≢false (sym t))
  notes_meant (Notes a r) t = refl

  pub says_told : (E : Event) {A B : paper.agent} {X : paper.msg} → event_meant file E ≡ event.Says A B X →
      ((heard_in E).says ≡ true) × ((heard_in E).from ≡ A) × ((heard_in E).to ≡ B) × (message file (heard_in E).row ≡ X)
  unfolding is_says who_of whom_of what_of
  says_told (Says a b r) q = (refl, ap who_of q, ap whom_of q, ap what_of q)
  says_told (Notes a r) q = absurd (true≢false (sym (ap is_says q)))

  pub notes_told : (E : Event) {A : paper.agent} {X : paper.msg} → event_meant file E ≡ event.Notes A X →
      (not (heard_in E).says ≡ true) × ((heard_in E).from ≡ A) × (message file (heard_in E).row ≡ X)
  unfolding is_says who_of whom_of what_of
  notes_told (Says a b r) q = absurd (true≢false (ap is_says q))
  notes_told (Notes a r) q = (refl, ap who_of q, ap what_of q)

  pub row_exists : (E : Event) → Exists file E → (heard_in E).row < rows_of file
  row_exists (Says a b r) (says p q l) = l
  row_exists (Notes a r) (notes p l) = l

module _ (file : List ℕ) (P : Promised file) (e : ℕ) (le : e ≤ events_of file) where
  pub row_in : (j : ℕ) → j < e → (heard_at file j).row < rows_of file
  row_in j l = row_exists file (event_at file j) (P.exists j (omega (arith, l, le)))

  pub to_sound : (j to : ℕ) {X : paper.msg} → j < e → said_to (heard_at file j) to ≡ true → message file (heard_at file j).row ≡ X →
      (A : paper.agent) × In (event.Says A to X) (beginning file e)
  to_sound j to l t q =
      let b = both (heard_at file j).says (eqb (heard_at file j).to to) t in
      let i = rw (says_meant file (event_at file j) b.0, q, eqb-true (heard_at file j).to to b.1) at (in_beginning file j e l) in
      ((heard_at file j).from, i)

  pub by_sound : (j from to : ℕ) {X : paper.msg} → j < e → said_by (heard_at file j) from to ≡ true → message file (heard_at file j).row ≡ X →
      In (event.Says from to X) (beginning file e)
  by_sound j from to l t q =
      let b = both3 (heard_at file j).says (eqb (heard_at file j).from from) (eqb (heard_at file j).to to) t in
      rw (says_meant file (event_at file j) b.0, q, eqb-true (heard_at file j).from from b.1, eqb-true (heard_at file j).to to b.2) at
      (in_beginning file j e l)

  pub from_sound : (j from : ℕ) {X : paper.msg} → j < e → ((heard_at file j).says && eqb (heard_at file j).from from) ≡ true →
      message file (heard_at file j).row ≡ X → (B : paper.agent) × In (event.Says from B X) (beginning file e)
  from_sound j from l t q =
      let b = both (heard_at file j).says (eqb (heard_at file j).from from) t in
      let i = rw (says_meant file (event_at file j) b.0, q, eqb-true (heard_at file j).from from b.1) at (in_beginning file j e l) in
      ((heard_at file j).to, i)

  pub noted_sound : (j from : ℕ) {X : paper.msg} → j < e → noted_by (heard_at file j) from ≡ true → message file (heard_at file j).row ≡ X →
      In (event.Notes from X) (beginning file e)
  noted_sound j from l t q =
      let b = both (not (heard_at file j).says) (eqb (heard_at file j).from from) t in
      rw (notes_meant file (event_at file j) b.0, q, eqb-true (heard_at file j).from from b.1) at (in_beginning file j e l)

  -- an event of the trace that says X: its number, flat
  pub record Said (A B : paper.agent) (X : paper.msg) : Type 0 where
    pub at : ℕ
    pub before : at < e
    pub row : (heard_at file at).row < rows_of file
    pub says : (heard_at file at).says ≡ true
    pub from : (heard_at file at).from ≡ A
    pub to : said_to (heard_at file at) B ≡ true
    pub by : said_by (heard_at file at) A B ≡ true
    pub meant : message file (heard_at file at).row ≡ X

  pub record Noted (A : paper.agent) (X : paper.msg) : Type 0 where
    pub at : ℕ
    pub before : at < e
    pub row : (heard_at file at).row < rows_of file
    pub by : noted_by (heard_at file at) A ≡ true
    pub meant : message file (heard_at file at).row ≡ X

  pub said_told : {A B : paper.agent} {X : paper.msg} → In (event.Says A B X) (beginning file e) → Said A B X
  said_told {A} {B} {X} i = go (beginning_in file e i)
    where
      go : (j : ℕ) × (j < e) × (event_meant file (event_at file j) ≡ event.Says A B X) → Said A B X
      go (j, l, q) =
          let t = says_told file (event_at file j) q in
          let f = eq-eqb (heard_at file j).from A t.1 in
          let o = eq-eqb (heard_at file j).to B t.2 in
          record {
            at = j;
            before = l;
            row = row_in j l;
            says = t.0;
            from = t.1;
            to = rw (t.0, o) refl;
            by = rw (t.0, f, o) refl;
            meant = t.3;
          }

  pub noted_told : {A : paper.agent} {X : paper.msg} → In (event.Notes A X) (beginning file e) → Noted A X
  noted_told {A} {X} i = go (beginning_in file e i)
    where
      go : (j : ℕ) × (j < e) × (event_meant file (event_at file j) ≡ event.Notes A X) → Noted A X
      go (j, l, q) =
          let t = notes_told file (event_at file j) q in
          let f = eq-eqb (heard_at file j).from A t.1 in
          record { at = j; before = l; row = row_in j l; by = rw (t.0, f) refl; meant = t.2 }

module _ (file : List ℕ) (P : Promised file) (e : ℕ) (le : e < events_of file) where
  pub not_later : e ≤ events_of file
  not_later = omega (arith, le)

  pub here_row : (heard_at file e).row < rows_of file
  here_row = row_exists file (event_at file e) (P.exists e le)
