-- What is kept of each event: its place in its box, the hash of its Finished, its card. No promise cites this file.
use Rattle.std.specs.Prelude.{ℕ, suc, ◌+◌, ◌-◌, ◌*◌, ◌%◌, ◌<◌, ◌≤◌, Bool, true, false, ◌&&◌, not, List, Option, None, ◌≡◌, ltb, length, get_or, set, replicate}
use Rattle.std.specs.Bool.{then_some}
use Rattle.trace.specs.File.{event_limit}
use Rattle.laws.specs.Choose.{choose}
use Rattle.laws.specs.Options.{and_then}
use Rattle.forms.specs.Kinds.{server_in}
use Rattle.forms.specs.Forms.{sealed_of}
use Rattle.earlier.specs.Heard.{Heard}
use Rattle.earlier.specs.declared.cards.Card.TheVariants as card
use Rattle.earlier.specs.declared.boxes.Boxes.{Boxes}
use Rattle.earlier.specs.Earlier.{heard_at, same_heard}
use Rattle.earlier.specs.Cards.{card_of}
use Rattle.earlier.specs.Boxes.{box_count, slot_count, box_of, behind, card_at}

-- before any event
abbrev pub none_kept : Boxes
none_kept =
    record {
      heads = replicate box_count 0;
      links = replicate event_limit 0;
      slots = replicate slot_count 0;
      clients = replicate event_limit None;
      servers = replicate event_limit None;
      cards = replicate event_limit card.Other;
    }

-- equal events have one slot, which leads to the last of them that was kept; others may share it
abbrev pub slot_of : Heard → ℕ
slot_of h = (h.row * 5 + h.from * 97 + h.to * 31) % slot_count

abbrev pub is_again : List ℕ → (e link : ℕ) → Heard → Bool
is_again file e link h = ltb 0 link && ltb link (e + 1) && same_heard (heard_at file (link - 1)) h

-- the row of the hash of a Finished of that side
abbrev pub seal_mark : List ℕ → Bool → ℕ → Option ℕ
seal_mark file server r = and_then (sealed_of file r) (λ f. then_some (choose server (server_in f.role) (not (server_in f.role))) f.hash)

abbrev pub sealed_at : Boxes → Bool → ℕ → Option ℕ
sealed_at boxes server e = choose (ltb e event_limit) (get_or (choose server boxes.servers boxes.clients) e None) None

-- event e in front of its box, unless it is known that one that equals it is kept
abbrev pub boxed_in : List ℕ → Boxes → ℕ → Boxes
boxed_in file boxes e =
    let h = heard_at file e in
    let b = box_of h in
    choose (is_again file e (get_or boxes.slots (slot_of h) 0) h) boxes
    (record boxes {
      heads = set boxes.heads b (e + 1);
      links = set boxes.links e (get_or boxes.heads b 0);
      slots = set boxes.slots (slot_of h) (e + 1);
    })

-- and the hash of its Finished, and its card
abbrev pub kept_in : List ℕ → Boxes → ℕ → Boxes
kept_in file boxes e =
    let h = heard_at file e in
    let boxed = boxed_in file boxes e in
    choose (ltb e event_limit)
    (record boxed {
      clients = set boxed.clients e (seal_mark file false h.row);
      servers = set boxed.servers e (seal_mark file true h.row);
      cards = set boxed.cards e (card_of file h);
    })
    boxes

-- event s is on the chain that begins at the link
pub data Reach (links : List ℕ) : ℕ → ℕ → Type 0 where
  here : {link s : ℕ} → link ≡ suc s → Reach links link s
  further : {link s : ℕ} → 0 < link → Reach links (behind links (link - 1)) s → Reach links link s

-- the events before e are in their boxes, each or one that equals it
pub record Linked (file : List ℕ) (boxes : Boxes) (e : ℕ) : Type 0 where
  pub heads_room : length boxes.heads ≡ box_count
  pub links_room : length boxes.links ≡ event_limit
  pub few : e ≤ event_limit
  pub falls : (j : ℕ) → j < event_limit → behind boxes.links j ≤ j
  pub low : (b : ℕ) → b < box_count → get_or boxes.heads b 0 ≤ e
  pub kept : (j : ℕ) → j < e → (s : ℕ) × Reach boxes.links (get_or boxes.heads (box_of (heard_at file j)) 0) s × (heard_at file s ≡ heard_at file j)

-- and the hashes of their Finished and their cards are known
pub record Boxed (file : List ℕ) (boxes : Boxes) (e : ℕ) : Type 0 where
  pub links : Linked file boxes e
  pub clients_room : length boxes.clients ≡ event_limit
  pub servers_room : length boxes.servers ≡ event_limit
  pub cards_room : length boxes.cards ≡ event_limit
  pub seals : (server : Bool) (j : ℕ) → j < e → sealed_at boxes server j ≡ seal_mark file server (heard_at file j).row
  pub cards : (j : ℕ) → j < e → card_at boxes j ≡ card_of file (heard_at file j)
