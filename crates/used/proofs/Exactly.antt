-- After the first n events a row is marked exactly when its message is used: a row goes into what its message has for parts, the marks
-- are closed under that, and the row of each event is marked. Equal messages have equal rows, so a part that has a row is found at it.
-- Assumes nothing.
use Prim.Native.Nat.{ℕ, zero, suc, ◌<◌, ◌≤◌}
use mathlib.Core.List.{List, ◌∷◌}
use mathlib.Core.Path.{◌≡◌, refl, subst}
use native.Mathlib.Omega.{arith}
use lib.ListN.{length, length-replicate}
use Rattle.paper.specs.Message as paper
use Rattle.paper.specs.Event as event
use Rattle.paper.specs.Event.{trace, In, here, there}
use Rattle.paper.specs.Used.{Part, self, left, right, body, Used, in_says, in_notes}
use Rattle.trace.specs.File.{row_limit, rows_of, events_of}
use Rattle.trace.specs.Events.{event_at}
use Rattle.trace.specs.Kinds.{row_at}
use Rattle.trace.specs.Meaning.{message, event_meant, beginning}
use Rattle.trace.specs.Promises.{Promised, Keeps, crypt, pair, Unfolds, as_agent, as_number, as_nonce, as_prf, as_public, as_private, as_session, as_hash, as_crypt, as_pair, Exists, says, notes}
use Rattle.trace.specs.declared.Row.{Row}
use Rattle.trace.specs.declared.Event.{Event}
use Rattle.trace.specs.declared.Event.TheVariants.{Says, Notes}
use Rattle.trace.proofs.Promised.{promises_read}
use Rattle.closure.proofs.Marks.{Marked, none_marked}
use Rattle.used.specs.Marking.{use_row, use_event, used_after}
use Rattle.used.specs.Promises.{UsedExactly}
use Rattle.used.proofs.Grown.{Sides, Closed, Grew, uses}

-- a part of a part is a part
part_part : {X Y Z : paper.msg} → Part X Y → Part Y Z → Part X Z
part_part p self = p
part_part p (left q) = left (part_part p q)
part_part p (right q) = right (part_part p q)
part_part p (body q) = body (part_part p q)

used_part : {X Y : paper.msg} {evs : trace} → Part X Y → Used Y evs → Used X evs
used_part p (in_says i q) = in_says i (part_part p q)
used_part p (in_notes i q) = in_notes i (part_part p q)

used_older : {X : paper.msg} {e : event.event} {evs : trace} → Used X evs → Used X (e ∷ evs)
used_older (in_says i q) = in_says (there i) q
used_older (in_notes i q) = in_notes (there i) q

module _ (file : List ℕ) (P : Promised file) where
  abbrev UsedRow : trace → ℕ → Type 0
  UsedRow evs x = Used (message file x) evs

  -- what a used row goes into is used
  sides_row : {evs : trace} (x : ℕ) (R : Row) {X : paper.msg} → Unfolds (message file) R X → Used X evs → Sides (UsedRow evs) x R
  sides_row x R (as_pair p q) u = (λ _. rw p (used_part (left self) u), λ _. rw q (used_part (right self) u))
  sides_row x R (as_crypt p q) u = λ _. rw q (used_part (body self) u)
  sides_row x R (as_agent q) u = tt
  sides_row x R (as_number q) u = tt
  sides_row x R (as_nonce q) u = tt
  sides_row x R (as_prf p q t) u = tt
  sides_row x R (as_public q) u = tt
  sides_row x R (as_private q) u = tt
  sides_row x R (as_session p q t v) u = tt
  sides_row x R (as_hash q) u = tt

  sides_used : (evs : trace) (x : ℕ) → x < rows_of file → UsedRow evs x → Sides (UsedRow evs) x (row_at file x)
  sides_used evs x l u = sides_row x (row_at file x) (P.unfolds x l) u

  -- a marked row holds X
  abbrev Has : List ℕ → paper.msg → Type 0
  Has ms X = (x : ℕ) × (x < rows_of file) × (message file x ≡ X) × Marked ms x

  record Good (evs : trace) (ms : List ℕ) : Type 0 where
    room : length ms ≡ row_limit
    sound : (x : ℕ) → x < rows_of file → Marked ms x → UsedRow evs x
    closed : (x : ℕ) → Closed file ms x
    said : {A B : paper.agent} {Y : paper.msg} → In (event.Says A B Y) evs → Has ms Y
    noted : {A : paper.agent} {Y : paper.msg} → In (event.Notes A Y) evs → Has ms Y

  -- complete: what is used and has a row is marked
  module _ (evs : trace) (ms : List ℕ) (g : Good evs ms) where
    pair_row : (x : ℕ) (R : Row) {X Y : paper.msg} → x < rows_of file → Keeps file x R → Unfolds (message file) R (paper.Pair X Y) →
        Sides (Marked ms) x R → Has ms X × Has ms Y
    pair_row x R l (pair a b) (as_pair {x = i} {y = j} p q) c = ((i.0, omega arith, p, c.0 a), (j.0, omega arith, q, c.1 b))
    pair_row x _ l _ u c = elim u [ ]

    pair_has : {X Y : paper.msg} → Has ms (paper.Pair X Y) → Has ms X × Has ms Y
    pair_has (x, l, e, m) = pair_row x (row_at file x) l (P.keeps x l) (rw e at (P.unfolds x l)) (g.closed x m)

    crypt_row : (x : ℕ) (R : Row) {K : paper.key} {X : paper.msg} → x < rows_of file → Keeps file x R →
        Unfolds (message file) R (paper.Crypt K X) → Sides (Marked ms) x R → Has ms X
    crypt_row x R l (crypt b h) (as_crypt {x = y} p q) c = (y.0, omega arith, q, c h)
    crypt_row x _ l _ u c = elim u [ ]

    body_has : {K : paper.key} {X : paper.msg} → Has ms (paper.Crypt K X) → Has ms X
    body_has (x, l, e, m) = crypt_row x (row_at file x) l (P.keeps x l) (rw e at (P.unfolds x l)) (g.closed x m)

    part_has : {X Y : paper.msg} → Part X Y → Has ms Y → Has ms X
    part_has self h = h
    part_has (left p) h = part_has p (pair_has h).0
    part_has (right p) h = part_has p (pair_has h).1
    part_has (body p) h = part_has p (body_has h)

    used_has : {X : paper.msg} → Used X evs → Has ms X
    used_has (in_says i p) = part_has p (g.said i)
    used_has (in_notes i p) = part_has p (g.noted i)

    has_marked : (x : ℕ) → x < rows_of file → Has ms (message file x) → Marked ms x
    has_marked x l (y, ly, e, m) = subst (Marked ms) (P.apart y x ly l e) m

    used_marked : (x : ℕ) → x < rows_of file → UsedRow evs x → Marked ms x
    used_marked x l u = has_marked x l (used_has u)

  has_keep : (ms ms' : List ℕ) {X : paper.msg} → ((x : ℕ) → Marked ms x → Marked ms' x) → Has ms X → Has ms' X
  has_keep ms ms' k (x, l, e, m) = (x, l, e, k x m)

  -- one event more: an event of row r
  module _ (evs : trace) (ms : List ℕ) (g : Good evs ms) where
    abbrev Step : event.event → ℕ → Type 0
    Step e r =
        Grew file (rows_of file) P.few_rows (UsedRow (e ∷ evs)) (sides_used (e ∷ evs)) ms (use_row file (suc r) ms r) ×
        Marked (use_row file (suc r) ms r) r

    step : (e : event.event) (r : ℕ) → r < rows_of file → UsedRow (e ∷ evs) r → Step e r
    step e r l u =
        uses file (rows_of file) P.few_rows (UsedRow (e ∷ evs)) (sides_used (e ∷ evs)) (suc r) ms r g.room l u (omega arith)

    good_event : (E : Event) → Exists file E → Good (event_meant file E ∷ evs) (use_event file ms E)
    good_event (Says a b r) (says la lb l) =
        let s = step (event_meant file (Says a b r)) r.0 l (in_says here self) in
        let ms' = use_row file (suc r.0) ms r.0 in
        record {
          room = s.0.room;
          sound = s.0.sound (λ x h m. used_older (g.sound x h m));
          closed = λ x. s.0.closed x (g.closed x);
          said = λ i. said_new ms' s.0.rows s.1 i;
          noted = λ i. noted_old ms' s.0.rows i;
        }
      where
        said_new : (ms' : List ℕ) → ((x : ℕ) → Marked ms x → Marked ms' x) → Marked ms' r.0 → {A B : paper.agent} {Y : paper.msg} →
            In (event.Says A B Y) (event.Says a.0 b.0 (message file r.0) ∷ evs) → Has ms' Y
        said_new ms' k m here = (r.0, l, refl, m)
        said_new ms' k m (there i) = has_keep ms ms' k (g.said i)

        noted_old : (ms' : List ℕ) → ((x : ℕ) → Marked ms x → Marked ms' x) → {A : paper.agent} {Y : paper.msg} →
            In (event.Notes A Y) (event.Says a.0 b.0 (message file r.0) ∷ evs) → Has ms' Y
        noted_old ms' k (there i) = has_keep ms ms' k (g.noted i)
    good_event (Notes a r) (notes la l) =
        let s = step (event_meant file (Notes a r)) r.0 l (in_notes here self) in
        let ms' = use_row file (suc r.0) ms r.0 in
        record {
          room = s.0.room;
          sound = s.0.sound (λ x h m. used_older (g.sound x h m));
          closed = λ x. s.0.closed x (g.closed x);
          said = λ i. said_old ms' s.0.rows i;
          noted = λ i. noted_new ms' s.0.rows s.1 i;
        }
      where
        said_old : (ms' : List ℕ) → ((x : ℕ) → Marked ms x → Marked ms' x) → {A B : paper.agent} {Y : paper.msg} →
            In (event.Says A B Y) (event.Notes a.0 (message file r.0) ∷ evs) → Has ms' Y
        said_old ms' k (there i) = has_keep ms ms' k (g.said i)

        noted_new : (ms' : List ℕ) → ((x : ℕ) → Marked ms x → Marked ms' x) → Marked ms' r.0 → {A : paper.agent} {Y : paper.msg} →
            In (event.Notes A Y) (event.Notes a.0 (message file r.0) ∷ evs) → Has ms' Y
        noted_new ms' k m here = (r.0, l, refl, m)
        noted_new ms' k m (there i) = has_keep ms ms' k (g.noted i)

  good_after : (n : ℕ) → n ≤ events_of file → Good (beginning file n) (used_after file n)
  unfolding beginning used_after
  good_after zero h =
      record {
        room = length-replicate {A = ℕ} row_limit 0;
        sound = λ x l m. absurd (none_marked row_limit x m);
        closed = λ x m. absurd (none_marked row_limit x m);
        said = elim [ ];
        noted = elim [ ];
      }
  good_after (suc n) h =
      good_event (beginning file n) (used_after file n) (good_after n (omega arith)) (event_at file n) (P.exists n (omega arith))

  exactly : (n : ℕ) → n ≤ events_of file → (x : ℕ) → x < rows_of file →
      (Marked (used_after file n) x → UsedRow (beginning file n) x) × (UsedRow (beginning file n) x → Marked (used_after file n) x)
  exactly n h x l =
      let g = good_after n h in
      (g.sound x l, used_marked (beginning file n) (used_after file n) g x l)

pub used_exactly : UsedExactly
used_exactly file r n h x l = exactly file (promises_read file r) n h x l
