-- A plain nonce above all that stand in a trace is unused in it.
-- Assumes nothing.
use Prim.Native.Nat.{ℕ, suc, ◌+◌, ◌<◌, ◌≤◌}
use native.Mathlib.Omega.{arith}
use mathlib.Core.List.{[], ◌∷◌}
use Rattle.paper.specs.Message.{agent, plain, PRF, msg, Agent, Number, Nonce, Key, Hash, Crypt, Pair, nonce}
use Rattle.paper.specs.Event.{trace, Says, Notes, In, here, there}
use Rattle.paper.specs.Used.{Used, in_says, in_notes, Part, self, left, right, body}

unfoldable pub above_nonce : nonce → ℕ
above_nonce (plain n) = suc n
above_nonce (PRF S Na Nb) = 0

unfoldable pub above : msg → ℕ
above (Agent A) = 0
above (Number n) = 0
above (Nonce N) = above_nonce N
above (Key K) = 0
above (Hash X) = 0
above (Crypt K X) = above X
above (Pair X Y) = above X + above Y

unfoldable pub above_all : trace → ℕ
above_all [] = 0
above_all (Says A B X ∷ evs) = above X + above_all evs
above_all (Notes A X ∷ evs) = above X + above_all evs

part_below : {n : ℕ} {X : msg} → Part (Nonce (plain n)) X → n < above X
unfolding above above_nonce
part_below self = omega arith
part_below (left p) = let h = part_below p in omega arith
part_below (right p) = let h = part_below p in omega arith
part_below (body p) = part_below p

says_below : {A B : agent} {X : msg} {evs : trace} → In (Says A B X) evs → above X ≤ above_all evs
unfolding above_all
says_below here = omega arith
says_below (there {d = Says A B Y} i) = let h = says_below i in omega arith
says_below (there {d = Notes A Y} i) = let h = says_below i in omega arith

notes_below : {A : agent} {X : msg} {evs : trace} → In (Notes A X) evs → above X ≤ above_all evs
unfolding above_all
notes_below here = omega arith
notes_below (there {d = Says A B Y} i) = let h = notes_below i in omega arith
notes_below (there {d = Notes A Y} i) = let h = notes_below i in omega arith

pub unused_above : (evs : trace) (n : ℕ) → above_all evs ≤ n → ¬ Used (Nonce (plain n)) evs
unused_above evs n le (in_says i p) = let h = says_below i in let k = part_below p in omega arith
unused_above evs n le (in_notes i p) = let h = notes_below i in let k = part_below p in omega arith
