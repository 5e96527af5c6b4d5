-- One event more is kept: the others stay in their boxes, and so do the hashes of their Finished and their cards.
-- Assumes nothing.
use Prim.Native.Nat.{ℕ, suc, ◌+◌, ◌-◌, ◌%◌, ◌<◌, ◌≤◌}
use mathlib.Core.Bool.{Bool, true, false, not, ◌&&◌, ◌||◌, true≢false}
use mathlib.Core.List.{List}
use mathlib.Core.Logic.{◌⊎◌, inl, inr, ⊎_elim}
use mathlib.Core.Path.{◌≡◌, refl, sym, ◌∙◌, ap}
use native.Mathlib.Omega.{arith}
use native.Mathlib.Nat.{mod-lt}
use native.Mathlib.Decide.{ℕ_discrete}
use native.Mathlib.Numerals.{add-one}
use lib.Dec.{eqb, ltb}
use lib.ListN.{get_or, set, length, length-set, length-replicate}
use lib.Seq.{get_or-set_same, get_or-set_other}
use borrow.Author.Tests.{eqb-true, lt-ltb, ltb-true}
use Rattle.std.specs.Prelude.{Option, None}
use Rattle.trace.specs.File.{event_limit, agent_limit}
use Rattle.laws.specs.Choose.{choose}
use Rattle.laws.proofs.First.{lt_suc, bool_cases}
use Rattle.laws.proofs.Both.{both3, both4}
use Rattle.laws.proofs.Zeros.{zeros}
use Rattle.earlier.specs.Heard.{Heard}
use Rattle.earlier.specs.declared.cards.Card.{Card}
use Rattle.earlier.specs.declared.cards.Card.TheVariants as card
use Rattle.earlier.specs.declared.boxes.Boxes.{Boxes}
use Rattle.earlier.specs.Earlier.{heard_at, same_heard}
use Rattle.earlier.specs.Cards.{card_of}
use Rattle.earlier.specs.Boxes.{notes_at, box_count, box_of, behind}
use Rattle.earlier.specs.Kept.{none_kept, slot_of, is_again, seal_mark, boxed_in, kept_in, Reach, here, further, Linked, Boxed}

-- every box is one of the 128
pub box_room_lem : (h : Heard) → box_of h < box_count
box_room_lem h = go h.says
  where
    go : (b : Bool) → choose b (h.to % agent_limit) (notes_at + h.from % agent_limit) < box_count
    go true = let m : h.to % agent_limit < agent_limit = mod-lt h.to (omega arith) in omega (arith, m)
    go false = let m : h.from % agent_limit < agent_limit = mod-lt h.from (omega arith) in omega (arith, m)

both_or_none : (a b : Bool) → ((a && b) || (not a && not b)) ≡ true → a ≡ b
both_or_none true true t = refl
both_or_none true false t = absurd (true≢false (sym t))
both_or_none false true t = absurd (true≢false (sym t))
both_or_none false false t = refl

same_heard_lem : (h g : Heard) → same_heard h g ≡ true → h ≡ g
same_heard_lem h g t =
    let says = (h.says && g.says) || (not h.says && not g.says) in
    let x = both4 says (eqb h.from g.from) (eqb h.to g.to) (eqb h.row g.row) t in
    let ps : h.says ≡ g.says = both_or_none _ _ x.0 in
    let pf : h.from ≡ g.from = eqb-true _ _ x.1 in
    let pt : h.to ≡ g.to = eqb-true _ _ x.2 in
    let pr : h.row ≡ g.row = eqb-true _ _ x.3 in
    λ i. record { says = ps i; from = pf i; to = pt i; row = pr i }

none_linked : (file : List ℕ) → Linked file none_kept 0
none_linked file =
    record {
      heads_room = length-replicate {A = ℕ} box_count 0;
      links_room = length-replicate {A = ℕ} event_limit 0;
      few = omega arith;
      falls = λ e l. rw (zeros event_limit e) (omega arith);
      low = λ b l. rw (zeros box_count b) (omega arith);
      kept = λ j l. absurd (omega arith);
    }

pub none_boxed : (file : List ℕ) → Boxed file none_kept 0
none_boxed file =
    record {
      links = none_linked file;
      clients_room = length-replicate {A = Option ℕ} event_limit None;
      servers_room = length-replicate {A = Option ℕ} event_limit None;
      cards_room = length-replicate {A = Card} event_limit card.Other;
      seals = λ server j l. absurd (omega arith);
      cards = λ j l. absurd (omega arith);
    }

-- event e, with those before it in their boxes
module _ (file : List ℕ) (boxes : Boxes) (e : ℕ) (x : Linked file boxes e) (few : e < event_limit) where
  abbrev b : ℕ
  b = box_of (heard_at file e)

  abbrev head : ℕ
  head = get_or boxes.heads b 0

  head_low : head ≤ e
  head_low = x.low b (box_room_lem (heard_at file e))

  abbrev slot : ℕ
  slot = slot_of (heard_at file e)

  kept_same : (s : ℕ) → s < e → heard_at file s ≡ heard_at file e → (t : ℕ) × Reach boxes.links head t × (heard_at file t ≡ heard_at file e)
  kept_same s l q =
      let k = x.kept s l in
      (k.0, rw q at k.1, k.2 ∙ q)

  -- one that equals it is there
  again_linked : is_again file e (get_or boxes.slots slot 0) (heard_at file e) ≡ true → Linked file boxes (suc e)
  again_linked t =
      record {
        heads_room = x.heads_room;
        links_room = x.links_room;
        few = omega arith;
        falls = x.falls;
        low = λ k l. omega (arith, x.low k l);
        kept = λ j l. ⊎_elim (λ (l' : j < e). x.kept j l') (λ (q : j ≡ e). rw q equal) (lt_suc j e l);
      }
    where
      link : ℕ
      link = get_or boxes.slots slot 0

      parts : (ltb 0 link ≡ true) × (ltb link (e + 1) ≡ true) × (same_heard (heard_at file (link - 1)) (heard_at file e) ≡ true)
      parts = both3 (ltb 0 link) (ltb link (e + 1)) (same_heard (heard_at file (link - 1)) (heard_at file e)) t

      same : heard_at file (link - 1) ≡ heard_at file e
      same = same_heard_lem _ _ parts.2

      earlier_one : link - 1 < e
      earlier_one = omega (arith, ltb-true 0 link parts.0, ltb-true link (e + 1) parts.1)

      equal : (s : ℕ) × Reach boxes.links head s × (heard_at file s ≡ heard_at file e)
      equal = kept_same (link - 1) earlier_one same

  -- it is put in front of its box
  abbrev longer : List ℕ
  longer = set boxes.links e head

  abbrev headed : List ℕ
  headed = set boxes.heads b (e + 1)

  new_head : get_or headed b 0 ≡ suc e
  new_head = get_or-set_same boxes.heads b (e + 1) 0 (omega (arith, box_room_lem (heard_at file e), x.heads_room)) ∙ add-one e

  other_head : (k : ℕ) → ¬ (k ≡ b) → get_or headed k 0 ≡ get_or boxes.heads k 0
  other_head k n = get_or-set_other boxes.heads b k (e + 1) 0 n

  behind_new : behind longer e ≡ head
  behind_new = get_or-set_same boxes.links e head 0 (omega (arith, x.links_room))

  behind_other : (j : ℕ) → ¬ (j ≡ e) → behind longer j ≡ behind boxes.links j
  behind_other j n = get_or-set_other boxes.links e j head 0 n

  falls' : (j : ℕ) → j < event_limit → Dec (j ≡ e) → behind longer j ≤ j
  falls' j l (yes q) = rw (q, behind_new) head_low
  falls' j l (no n) = rw (behind_other j n) (x.falls j l)

  low' : (k : ℕ) → k < box_count → Dec (k ≡ b) → get_or headed k 0 ≤ suc e
  low' k l (yes q) = rw (q, new_head) (omega arith)
  low' k l (no n) = rw (other_head k n) (omega (arith, x.low k l))

  reach_kept : (link s : ℕ) → link ≤ e → Reach boxes.links link s → Reach longer link s
  reach_kept link s l (here q) = here q
  reach_kept link s l (further p r) =
      let kept : behind longer (link - 1) ≡ behind boxes.links (link - 1) = behind_other (link - 1) (λ q. omega arith) in
      further {s = s} p (rw kept (reach_kept (behind boxes.links (link - 1)) s (omega (arith, x.falls (link - 1) (omega arith))) r))

  old_reach : (k s : ℕ) → k < box_count → Reach boxes.links (get_or boxes.heads k 0) s → Dec (k ≡ b) → Reach longer (get_or headed k 0) s
  old_reach k s l r (yes q) =
      let r' : Reach boxes.links head s = rw q at r in
      let q' : suc e - 1 ≡ e = omega arith in
      let back : behind longer (suc e - 1) ≡ head = rw q' behind_new in
      rw (q, new_head) (further {link = suc e} {s = s} (omega arith) (rw back (reach_kept head s head_low r')))
  old_reach k s l r (no n) = rw (other_head k n) (reach_kept (get_or boxes.heads k 0) s (x.low k l) r)

  old_kept : (j : ℕ) → j < e → (s : ℕ) × Reach longer (get_or headed (box_of (heard_at file j)) 0) s × (heard_at file s ≡ heard_at file j)
  old_kept j l =
      let k = x.kept j l in
      let j_box = box_of (heard_at file j) in
      (k.0, old_reach j_box k.0 (box_room_lem (heard_at file j)) k.1 (ℕ_discrete j_box b), k.2)

  new_kept : (s : ℕ) × Reach longer (get_or headed b 0) s × (heard_at file s ≡ heard_at file e)
  new_kept = (e, rw new_head (here refl), refl)

  more_linked : Linked file (record boxes { heads = headed; links = longer; slots = set boxes.slots slot (e + 1) }) (suc e)
  more_linked =
      record {
        heads_room = length-set boxes.heads b (e + 1) ∙ x.heads_room;
        links_room = length-set boxes.links e head ∙ x.links_room;
        few = omega arith;
        falls = λ j l. falls' j l (ℕ_discrete j e);
        low = λ k l. low' k l (ℕ_discrete k b);
        kept = λ j l. ⊎_elim (λ (l' : j < e). old_kept j l') (λ (q : j ≡ e). rw q new_kept) (lt_suc j e l);
      }

  boxed_linked : Linked file (boxed_in file boxes e) (suc e)
  boxed_linked = go (bool_cases (is_again file e (get_or boxes.slots slot 0) (heard_at file e)))
    where
      go : (is_again file e (get_or boxes.slots slot 0) (heard_at file e) ≡ true) ⊎ (is_again file e (get_or boxes.slots slot 0) (heard_at file e) ≡ false) →
          Linked file (boxed_in file boxes e) (suc e)
      go (inl t) = rw t (again_linked t)
      go (inr f) = rw f more_linked

-- a box changes nothing but heads, links and slots
same_rest : (again : Bool) (boxes : Boxes) (hs ls ss : List ℕ) →
    let boxed = choose again boxes (record boxes { heads = hs; links = ls; slots = ss }) in
    (boxed.clients ≡ boxes.clients) × (boxed.servers ≡ boxes.servers) × (boxed.cards ≡ boxes.cards)
same_rest true boxes hs ls ss = (refl, refl, refl)
same_rest false boxes hs ls ss = (refl, refl, refl)

-- of all events up to e, what was written down of e is known if it was of those before
module _ {A : Type 0} (xs : List A) (e : ℕ) (d : A) (f : ℕ → A) (room : e < length xs) where
  written : ((j : ℕ) → j < e → get_or xs j d ≡ f j) → (j : ℕ) → j < suc e → get_or (set xs e (f e)) j d ≡ f j
  written before j l = at (lt_suc j e l)
    where
      at : (j < e) ⊎ (j ≡ e) → get_or (set xs e (f e)) j d ≡ f j
      at (inl m) = get_or-set_other xs e j (f e) d (λ q. omega arith) ∙ before j m
      at (inr q) = rw q (get_or-set_same xs e (f e) d room)

module _ (file : List ℕ) (boxes : Boxes) (e : ℕ) (x : Boxed file boxes e) (few : e < event_limit) where
  abbrev boxed : Boxes
  boxed = boxed_in file boxes e

  same_clients : boxed.clients ≡ boxes.clients
  same_clients = (same_rest (is_again file e (get_or boxes.slots (slot_of (heard_at file e)) 0) (heard_at file e)) boxes _ _ _).0

  same_servers : boxed.servers ≡ boxes.servers
  same_servers = (same_rest (is_again file e (get_or boxes.slots (slot_of (heard_at file e)) 0) (heard_at file e)) boxes _ _ _).1

  same_cards : boxed.cards ≡ boxes.cards
  same_cards = (same_rest (is_again file e (get_or boxes.slots (slot_of (heard_at file e)) 0) (heard_at file e)) boxes _ _ _).2

  client_before : (j : ℕ) → j < e → get_or boxed.clients j None ≡ seal_mark file false (heard_at file j).row
  client_before j l = rw same_clients (rw (lt-ltb j event_limit (omega arith)) at (x.seals false j l))

  server_before : (j : ℕ) → j < e → get_or boxed.servers j None ≡ seal_mark file true (heard_at file j).row
  server_before j l = rw same_servers (rw (lt-ltb j event_limit (omega arith)) at (x.seals true j l))

  card_before : (j : ℕ) → j < e → get_or boxed.cards j card.Other ≡ card_of file (heard_at file j)
  card_before j l = rw same_cards (x.cards j l)

  clients_room : length boxed.clients ≡ event_limit
  clients_room = ap length same_clients ∙ x.clients_room

  servers_room : length boxed.servers ≡ event_limit
  servers_room = ap length same_servers ∙ x.servers_room

  cards_room : length boxed.cards ≡ event_limit
  cards_room = ap length same_cards ∙ x.cards_room

  seals' : (server : Bool) (j : ℕ) → j < suc e →
      get_or (choose server (set boxed.servers e (seal_mark file true (heard_at file e).row)) (set boxed.clients e (seal_mark file false (heard_at file e).row))) j None ≡
      seal_mark file server (heard_at file j).row
  seals' true j l = written boxed.servers e None (λ k. seal_mark file true (heard_at file k).row) (omega (arith, servers_room)) server_before j l
  seals' false j l = written boxed.clients e None (λ k. seal_mark file false (heard_at file k).row) (omega (arith, clients_room)) client_before j l

  pub keep_boxed : Boxed file (kept_in file boxes e) (suc e)
  keep_boxed =
      let links : Linked file boxed (suc e) = boxed_linked file boxes e x.links few in
      rw (lt-ltb e event_limit few)
      (record {
        links = record {
          heads_room = links.heads_room;
          links_room = links.links_room;
          few = links.few;
          falls = links.falls;
          low = links.low;
          kept = links.kept;
        };
        clients_room = length-set boxed.clients e (seal_mark file false (heard_at file e).row) ∙ clients_room;
        servers_room = length-set boxed.servers e (seal_mark file true (heard_at file e).row) ∙ servers_room;
        cards_room = length-set boxed.cards e (card_of file (heard_at file e)) ∙ cards_room;
        seals = λ server j l. rw (lt-ltb j event_limit (omega arith)) (seals' server j l);
        cards = λ j l. written boxed.cards e card.Other (λ k. card_of file (heard_at file k)) (omega (arith, cards_room)) card_before j l;
      })
