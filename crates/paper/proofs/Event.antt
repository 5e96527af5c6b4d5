-- Laws of traces: what a beginning has, the whole trace has; what was used or seen stays used or seen.
-- Assumes nothing.
use mathlib.Core.List.{◌∷◌}
use mathlib.Core.Logic.{◌⊎◌, inl, inr}
use mathlib.Core.Path.{◌≡◌, refl}
use Rattle.paper.specs.Message.{agent, msg}
use Rattle.paper.specs.Event.{event, trace, Says, Notes, In, here, there, Beginning, whole, earlier}
use Rattle.paper.specs.Spy.{Spies, start, said, noted}
use Rattle.paper.specs.Used.{Used, in_says, in_notes}

pub In-cons : {e d : event} {evs : trace} → In e (d ∷ evs) → (e ≡ d) ⊎ In e evs
In-cons here = inl refl
In-cons (there i) = inr i

-- a note that stands in front of a Says, or right behind it, or earlier
pub In-behind : {A C D : agent} {X Y : msg} {d : event} {evs : trace} →
    In (Notes A X) (Says C D Y ∷ d ∷ evs) → (Notes A X ≡ d) ⊎ In (Notes A X) evs
In-behind (there i) = In-cons i

pub In-beginning : {evs₀ evs : trace} {e : event} → Beginning evs₀ evs → In e evs₀ → In e evs
In-beginning whole i = i
In-beginning (earlier b) i = there (In-beginning b i)

pub Used-beginning : {evs₀ evs : trace} {X : msg} → Beginning evs₀ evs → Used X evs₀ → Used X evs
Used-beginning b (in_says i p) = in_says (In-beginning b i) p
Used-beginning b (in_notes i p) = in_notes (In-beginning b i) p

pub Spies-beginning : {bad : agent → Type 0} {evs₀ evs : trace} {X : msg} →
    Beginning evs₀ evs → Spies bad evs₀ X → Spies bad evs X
Spies-beginning b (start s) = start s
Spies-beginning b (said i) = said (In-beginning b i)
Spies-beginning b (noted c i) = noted c (In-beginning b i)
