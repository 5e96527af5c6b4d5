-- Parts and use: the paper's `parts` (§3.1) and `used` (§3.2).
use Rattle.paper.specs.Message.{agent, key, msg, Crypt, Pair}
use Rattle.paper.specs.Event.{trace, In, Says, Notes}

-- Part X Y: X is a part of Y; nothing is a part of a key, a hash, a PRF or a session key
pub data Part (X : msg) : msg → Type 0 where
  self : Part X X
  left : {Y Z : msg} → Part X Y → Part X (Pair Y Z)
  right : {Y Z : msg} → Part X Z → Part X (Pair Y Z)
  body : {K : key} {Y : msg} → Part X Y → Part X (Crypt K Y)

-- every event counts, a note of an honest agent too
pub data Used (X : msg) (evs : trace) : Type 0 where
  in_says : {A B : agent} {Y : msg} → In (Says A B Y) evs → Part X Y → Used X evs
  in_notes : {A : agent} {Y : msg} → In (Notes A Y) evs → Part X Y → Used X evs
