-- What is marked after the first n events is what the spy can analyse: nothing else by `Sound`, and all of it because the state is
-- closed under each of analysis' rules. Equal messages have equal rows, so a message that has a row is found at it.
-- Assumes nothing.
use Prim.Native.Nat.{ℕ, ◌+◌, ◌<◌}
use mathlib.Core.Bool.{true, false, true≢false}
use mathlib.Core.List.{List, ◌∷◌}
use mathlib.Core.Logic.{◌⊎◌, inl, inr}
use mathlib.Core.Path.{◌≡◌, refl, sym, ◌∙◌, subst}
use native.Mathlib.Omega.{arith}
use lib.ListN.{length}
use Rattle.paper.specs.Message as paper
use Rattle.paper.specs.Event as event
use Rattle.paper.specs.Event.{trace, here, there}
use Rattle.paper.specs.Spy.{Starts, own, Spies, start, said, noted, Analz, inj, fst, snd, decrypt}
use Rattle.paper.proofs.Closures.{analz_mono}
use Rattle.trace.specs.File.{row_limit, agent_limit, rows_of, compromised_in}
use Rattle.trace.specs.Kinds.{row_at}
use Rattle.trace.specs.Meaning.{message, event_meant, bad}
use Rattle.trace.specs.Promises.{Promised, Keeps, crypt, pair, Unfolds, as_public, as_private, as_session, as_crypt, as_pair, Exists, says, notes}
use Rattle.trace.specs.declared.AgentNo.{AgentNo}
use Rattle.trace.specs.declared.RowNo.{RowNo}
use Rattle.trace.specs.declared.Row.{Row}
use Rattle.trace.specs.declared.Event.{Event}
use Rattle.trace.specs.declared.Event.TheVariants.{Says, Notes}
use Rattle.laws.proofs.First.{bool_cases}
use Rattle.closure.specs.Closure.{key_room, opens_row, opens, sides_of, see_row, see_event}
use Rattle.closure.proofs.Marks.{Marked, Known}
use Rattle.closure.proofs.Grew.{Held}
use Rattle.closure.proofs.Passes.{AllClosed, see_settles}
use Rattle.closure.proofs.Sound.{Sound, see_sound}

module _ (file : List ℕ) (P : Promised file) where
  abbrev H : trace → paper.msg → Type 0
  H evs = Spies (bad file) evs

  -- a marked row holds X
  abbrev pub Has : List ℕ → paper.msg → Type 0
  Has rs X = (x : ℕ) × (x < rows_of file) × (message file x ≡ X) × Marked rs x

  pub record Good (evs : trace) (rs ks : List ℕ) : Type 0 where
    pub room : length rs ≡ row_limit
    pub room_keys : length ks ≡ key_room
    pub sound : Sound file P (H evs) rs ks
    pub closed : AllClosed file P rs ks
    pub held : (x : ℕ) → x < rows_of file → Marked rs x → Held ks (row_at file x)
    pub keys : (A : ℕ) → bad file A → Known ks (agent_limit + A)
    pub rows : (x A : ℕ) → x < rows_of file → bad file A → message file x ≡ paper.Key (paper.pri_k A) → Marked rs x
    pub seen : (X : paper.msg) → H evs X → Starts (bad file) X ⊎ Has rs X

  -- complete: what is analysed is started with, or marked
  module _ (evs : trace) (rs ks : List ℕ) (g : Good evs rs ks) where
    abbrev Holds : paper.msg → Type 0
    Holds X = Starts (bad file) X ⊎ Has rs X

    abbrev SidesMarked : ℕ → Row → Type 0
    SidesMarked x R =
        ((sides_of file rs ks x R).left < x → Marked rs (sides_of file rs ks x R).left) ×
        ((sides_of file rs ks x R).right < x → Marked rs (sides_of file rs ks x R).right)

    pair_row : (x : ℕ) (R : Row) {X Y : paper.msg} → x < rows_of file → Keeps file x R → Unfolds (message file) R (paper.Pair X Y) →
        SidesMarked x R → Has rs X × Has rs Y
    pair_row x R l (pair a b) (as_pair {x = i} {y = j} p q) c = ((i.0, omega arith, p, c.0 a), (j.0, omega arith, q, c.1 b))
    pair_row x _ l _ u c = elim u [ ]

    pair_has : {X Y : paper.msg} → Has rs (paper.Pair X Y) → Has rs X × Has rs Y
    pair_has (x, l, e, m) = pair_row x (row_at file x) l (P.keeps x l) (rw e at (P.unfolds x l)) (g.closed x l m)

    left_has : {X Y : paper.msg} → Holds (paper.Pair X Y) → Holds X
    left_has (inl s) = elim s [ ]
    left_has (inr h) = inr (pair_has h).0

    right_has : {X Y : paper.msg} → Holds (paper.Pair X Y) → Holds Y
    right_has (inl s) = elim s [ ]
    right_has (inr h) = inr (pair_has h).1

    -- the key of a row that is held is known
    private_held : (R : Row) {A : ℕ} → Unfolds (message file) R (paper.Key (paper.pri_k A)) → Held ks R → Known ks (agent_limit + A)
    private_held R (as_private q) h = rw q at h

    public_held : (R : Row) {A : ℕ} → Unfolds (message file) R (paper.Key (paper.pub_k A)) → Held ks R → Known ks A
    public_held R (as_public q) h = rw q at h

    private_known : {A : ℕ} → Holds (paper.Key (paper.pri_k A)) → Known ks (agent_limit + A)
    private_known (inl (own {A} b)) = g.keys A b
    private_known (inr (x, l, e, m)) = private_held (row_at file x) (rw e at (P.unfolds x l)) (g.held x l m)

    public_known : {A : ℕ} → Holds (paper.Key (paper.pub_k A)) → Known ks A
    public_known (inl s) = elim s [ ]
    public_known (inr (x, l, e, m)) = public_held (row_at file x) (rw e at (P.unfolds x l)) (g.held x l m)

    session_marked : (k : ℕ) {r : paper.role} {X Y Z : paper.nonce} → k < rows_of file → message file k ≡ paper.Key (paper.session_k r X Y Z) →
        Holds (paper.Key (paper.session_k r X Y Z)) → Marked rs k
    session_marked k l e (inl s) = elim s [ ]
    session_marked k l e (inr (x, lx, ex, m)) = subst (Marked rs) (P.apart x k lx l (ex ∙ sym e)) m

    opens_row_lem : (k : ℕ) (R : Row) {K : paper.key} → k < rows_of file → message file k ≡ paper.Key K → Unfolds (message file) R (paper.Key K) →
        Holds (paper.Key (paper.inv_key K)) → opens_row rs ks k R ≡ true
    unfolding paper.inv_key
    opens_row_lem k R l e (as_public q) h = rw q (private_known h)
    opens_row_lem k R l e (as_private q) h = rw q (public_known h)
    opens_row_lem k R l e (as_session p q t u) h = session_marked k l e h

    opens_complete : (k : ℕ) {K : paper.key} → k < rows_of file → message file k ≡ paper.Key K → Holds (paper.Key (paper.inv_key K)) →
        opens file rs ks k ≡ true
    opens_complete k l e h = opens_row_lem k (row_at file k) l e (rw e at (P.unfolds k l)) h

    crypt_row : (x : ℕ) (R : Row) {K : paper.key} {X : paper.msg} → x < rows_of file → Keeps file x R →
        Unfolds (message file) R (paper.Crypt K X) → Holds (paper.Key (paper.inv_key K)) → SidesMarked x R → Has rs X
    crypt_row x R l (crypt {k = k} b h) (as_crypt {x = y} p q) i c =
        let o = opens_complete k.0 (omega (arith, b.below)) p i in
        (y.0, omega arith, q, (rw o at c).0 h)
    crypt_row x _ l _ u i c = elim u [ ]

    body_has : {K : paper.key} {X : paper.msg} → Holds (paper.Crypt K X) → Holds (paper.Key (paper.inv_key K)) → Holds X
    body_has (inl s) i = elim s [ ]
    body_has (inr (x, l, e, m)) i =
        inr (crypt_row x (row_at file x) l (P.keeps x l) (rw e at (P.unfolds x l)) i (g.closed x l m))

    complete : {X : paper.msg} → Analz (H evs) X → Holds X
    complete (inj h) = g.seen _ h
    complete (fst a) = left_has (complete a)
    complete (snd a) = right_has (complete a)
    complete (decrypt a k) = body_has (complete a) (complete k)

    marked : (x : ℕ) {X : paper.msg} → x < rows_of file → message file x ≡ X → Holds X → Marked rs x
    marked x l e (inl (own b)) = g.rows x _ l b e
    marked x l e (inr (y, ly, ey, m)) = subst (Marked rs) (P.apart y x ly l (ey ∙ sym e)) m

    pub marks_analysed : (x : ℕ) → x < rows_of file → Analz (H evs) (message file x) → Marked rs x
    marks_analysed x l a = marked x l refl (complete a)

  -- one event more
  pub data Newest (X : paper.msg) : Event → Type 0 where
    in_says_lem : {a b : AgentNo} {r : RowNo} → message file r.0 ≡ X → Newest X (Says a b r)
    in_notes_lem : {a : AgentNo} {r : RowNo} → bad file a.0 → message file r.0 ≡ X → Newest X (Notes a r)

  pub newest : (E : Event) {evs : trace} {X : paper.msg} → H (event_meant file E ∷ evs) X → H evs X ⊎ Newest X E
  newest E (start s) = inl (start s)
  newest (Says a b r) (said here) = inr (in_says_lem refl)
  newest (Says a b r) (said (there i)) = inl (said i)
  newest (Says a b r) (noted c (there i)) = inl (noted c i)
  newest (Notes a r) (said (there i)) = inl (said i)
  newest (Notes a r) (noted c here) = inr (in_notes_lem c refl)
  newest (Notes a r) (noted c (there i)) = inl (noted c i)

  pub older : {e : event.event} {evs : trace} (X : paper.msg) → H evs X → H (e ∷ evs) X
  older X (start s) = start s
  older X (said i) = said (there i)
  older X (noted c i) = noted c (there i)

  sound_older : {e : event.event} {evs : trace} {rs ks : List ℕ} → Sound file P (H evs) rs ks → Sound file P (H (e ∷ evs)) rs ks
  sound_older s =
      record {
        rows = λ x l m. analz_mono older (s.rows x l m);
        pubs = λ a l k. analz_mono older (s.pubs a l k);
        pris = λ a l k. analz_mono older (s.pris a l k);
      }

  has_keep : (rs rs' : List ℕ) {X : paper.msg} → ((x : ℕ) → Marked rs x → Marked rs' x) → Starts (bad file) X ⊎ Has rs X →
      Starts (bad file) X ⊎ Has rs' X
  has_keep rs rs' k (inl s) = inl s
  has_keep rs rs' k (inr (x, l, e, m)) = inr (x, l, e, k x m)

  -- a row is seen, by an event that shows it
  good_see : (e : event.event) (evs : trace) (rs ks : List ℕ) (r : ℕ) → Good evs rs ks → r < rows_of file →
      H (e ∷ evs) (message file r) → ((X : paper.msg) → H (e ∷ evs) X → H evs X ⊎ (message file r ≡ X)) →
      Good (e ∷ evs) (see_row file rs ks r).rows (see_row file rs ks r).keys
  good_see e evs rs ks r g l h new =
      let s = see_settles file P rs ks r g.room g.room_keys l g.closed in
      record {
        room = s.0.room;
        room_keys = s.0.room_keys;
        sound = see_sound file P (H (e ∷ evs)) rs ks r g.room g.room_keys l (sound_older g.sound) (inj h);
        closed = s.0.closed;
        held = s.0.held g.held;
        keys = λ A b. s.0.keys (agent_limit + A) (g.keys A b);
        rows = λ x A lx b q. s.0.rows x (g.rows x A lx b q);
        seen = λ X i. was (see_row file rs ks r).rows s.0.rows s.1 X (new X i);
      }
    where
      was : (rs' : List ℕ) → ((x : ℕ) → Marked rs x → Marked rs' x) → Marked rs' r → (X : paper.msg) → H evs X ⊎ (message file r ≡ X) →
          Starts (bad file) X ⊎ Has rs' X
      was rs' k m X (inl i) = has_keep rs rs' k (g.seen X i)
      was rs' k m X (inr q) = inr (r, l, q, m)

  -- an event that is not seen changes nothing
  good_pass : (e : event.event) (evs : trace) (rs ks : List ℕ) → Good evs rs ks → ((X : paper.msg) → H (e ∷ evs) X → H evs X) →
      Good (e ∷ evs) rs ks
  good_pass e evs rs ks g old =
      record {
        room = g.room;
        room_keys = g.room_keys;
        sound = sound_older g.sound;
        closed = g.closed;
        held = g.held;
        keys = g.keys;
        rows = g.rows;
        seen = λ X i. g.seen X (old X i);
      }

  good_note : (evs : trace) (rs ks : List ℕ) (a : AgentNo) (r : RowNo) → Good evs rs ks → r.0 < rows_of file →
      (compromised_in file a.0 ≡ true) ⊎ (compromised_in file a.0 ≡ false) →
      Good (event_meant file (Notes a r) ∷ evs) (see_event file rs ks (Notes a r)).rows (see_event file rs ks (Notes a r)).keys
  good_note evs rs ks a r g l (inl b) =
      rw (b, see_event) (good_see (event_meant file (Notes a r)) evs rs ks r.0 g l (noted b here) (λ X h. shown (newest (Notes a r) h)))
    where
      shown : {X : paper.msg} → H evs X ⊎ Newest X (Notes a r) → H evs X ⊎ (message file r.0 ≡ X)
      shown (inl i) = inl i
      shown (inr (in_notes_lem c q)) = inr q
  good_note evs rs ks a r g l (inr b) =
      rw (b, see_event) (good_pass (event_meant file (Notes a r)) evs rs ks g (λ X h. hidden (newest (Notes a r) h)))
    where
      hidden : {X : paper.msg} → H evs X ⊎ Newest X (Notes a r) → H evs X
      hidden (inl i) = i
      hidden (inr (in_notes_lem c q)) = absurd (true≢false (sym c ∙ b))

  pub good_event : (evs : trace) (rs ks : List ℕ) (E : Event) → Good evs rs ks → Exists file E →
      Good (event_meant file E ∷ evs) (see_event file rs ks E).rows (see_event file rs ks E).keys
  good_event evs rs ks (Says a b r) g (says la lb l) =
      good_see (event_meant file (Says a b r)) evs rs ks r.0 g l (said here) (λ X h. shown (newest (Says a b r) h))
    where
      shown : {X : paper.msg} → H evs X ⊎ Newest X (Says a b r) → H evs X ⊎ (message file r.0 ≡ X)
      shown (inl i) = inl i
      shown (inr (in_says_lem q)) = inr q
  good_event evs rs ks (Notes a r) g (notes la l) = good_note evs rs ks a r g l (bool_cases (compromised_in file a.0))
