-- Where earlier events are looked for: each in the box of its receiver, or of the agent whose note it is, chained from the latest back.
-- A link is one more than an event's number, or 0. No promise cites this file.
use Rattle.std.specs.Prelude.{ℕ, zero, suc, ◌+◌, ◌-◌, ◌*◌, ◌%◌, Bool, true, false, ◌&&◌, List, [], ◌∷◌, Option, Some, None, ltb, get_or}
use Rattle.std.specs.List.{list_any}
use Rattle.trace.specs.File.{event_limit, agent_limit}
use Rattle.laws.specs.First.{any}
use Rattle.laws.specs.Choose.{choose}
use Rattle.earlier.specs.Heard.{Heard}
use Rattle.earlier.specs.declared.Wanted.{Wanted}
use Rattle.earlier.specs.declared.Wanted.TheVariants.{Said, Noted}
use Rattle.earlier.specs.declared.Who.TheVariants.{To, By, From}
use Rattle.earlier.specs.declared.cards.Card.{Card}
use Rattle.earlier.specs.declared.cards.Card.TheVariants as card
use Rattle.earlier.specs.declared.boxes.Boxes.{Boxes}
use Rattle.earlier.specs.declared.boxes.Chain.{Chain}
use Rattle.earlier.specs.Earlier.{heard_at}
use Rattle.earlier.specs.Cards.{fits_card, fits_agents}

-- first the boxes of what is said to each agent, then those of its notes
abbrev pub notes_at : ℕ
notes_at = agent_limit

abbrev pub box_count : ℕ
box_count = 2 * agent_limit

abbrev pub slot_count : ℕ
slot_count = 1024

abbrev pub box_of : Heard → ℕ
box_of h = choose h.says (h.to % agent_limit) (notes_at + h.from % agent_limit)

-- the box of what is wanted; what is said to anyone can be in any box of what is said
abbrev pub box_for : Wanted → Option ℕ
box_for (Said (To to) w) = Some (to % agent_limit)
box_for (Said (By from to) w) = Some (to % agent_limit)
box_for (Said (From from) w) = None
box_for (Noted from n) = Some (notes_at + from % agent_limit)

-- the latest event in the box of what is said to an agent
abbrev pub latest_to : Boxes → ℕ → ℕ
latest_to boxes to = get_or boxes.heads (to % agent_limit) 0

-- the event before this one in its box
abbrev pub behind : List ℕ → ℕ → ℕ
behind links e = get_or links e 0

-- a link that does not fall, or comes from no event, leads nowhere
abbrev pub next_in : List ℕ → ℕ → ℕ
next_in links link = choose (ltb link (event_limit + 1) && ltb 0 link) (choose (ltb (behind links (link - 1)) link) (behind links (link - 1)) 0) 0

abbrev pub next : Boxes → ℕ → ℕ
next boxes link = next_in boxes.links link

-- the events of a chain from a link on, the latest first; the first number bounds them
unfoldable pub chain : List ℕ → ℕ → ℕ → List ℕ
chain links zero link = []
chain links (suc d) link = elim (ltb 0 link) [ true ↦ (link - 1) ∷ chain links d (next_in links link) | false ↦ [] ]

abbrev pub chain_from : Boxes → ℕ → List ℕ
chain_from boxes link = chain boxes.links link link

-- the events that a walk along a chain has before it
abbrev pub rest_of : Chain → List ℕ
rest_of walk = chain_from walk.boxes.now walk.link

abbrev pub some : (ℕ → Bool) → List ℕ → Bool
some p js = list_any p js

-- the card of an event that was kept
abbrev pub card_at : Boxes → ℕ → Card
card_at boxes j = get_or boxes.cards j card.Other

abbrev pub fits_at : List ℕ → Boxes → Wanted → ℕ → Bool
fits_at file boxes wanted j = ltb j event_limit && fits_card wanted (card_at boxes j) && fits_agents wanted (heard_at file j)

-- whether what is wanted is in a box, and in one of those of what is said
abbrev pub found_in : List ℕ → Boxes → Wanted → ℕ → Bool
found_in file boxes wanted b = some (fits_at file boxes wanted) (chain_from boxes (get_or boxes.heads b 0))

-- what is wanted is in its box; what has none can be in any box of what is said
abbrev pub found : List ℕ → Boxes → Wanted → Bool
found file boxes wanted = elim (box_for wanted) [ Some b ↦ found_in file boxes wanted b | None ↦ any (found_in file boxes wanted) agent_limit ]
