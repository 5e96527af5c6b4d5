-- Steps are unique: a note of a pre-master secret comes from rule 6 alone, so a trace falls into steps in one way.
use Rattle.std.specs.Prelude.{ℕ, ◌≡◌, List, [], ◌∷◌}
use Rattle.paper.specs.Message.{agent, nonce, key, Crypt}
use Rattle.paper.specs.Event.{trace, Says, Notes, Beginning}
use Rattle.paper.specs.Rules.{secret_note, carried, Exchange}
use Rattle.paper.specs.Generated.{Generated, Nil, step, exchange}

-- rule 6 put the note on evs₀, and its message right behind it
pub record FromExchange (bad : agent → Type 0) (A B : agent) (PMS : nonce) (evs₀ evs : trace) : Type 0 where
  pub K : key
  pub behind : Beginning (Says A B (Crypt K (carried A PMS)) ∷ Notes A (secret_note B PMS) ∷ evs₀) evs
  pub before : Generated bad evs₀
  pub rule6 : Exchange bad evs₀ (Notes A (secret_note B PMS)) (Says A B (Crypt K (carried A PMS)))

abbrev pub NoteFromExchange : Type 1
NoteFromExchange =
    (bad : agent → Type 0) (evs : trace) → Generated bad evs →
    (A B : agent) (PMS : nonce) (evs₀ : trace) →
    Beginning (Notes A (secret_note B PMS) ∷ evs₀) evs → FromExchange bad A B PMS evs₀ evs

-- the number of events of each step, newest first
unfoldable pub falls : {bad : agent → Type 0} {evs : trace} → Generated bad evs → List ℕ
falls Nil = []
falls (step g s) = 1 ∷ falls g
falls (exchange g x) = 2 ∷ falls g

abbrev pub OneWay : Type 1
OneWay = (bad : agent → Type 0) (evs : trace) (g h : Generated bad evs) → falls g ≡ falls h
