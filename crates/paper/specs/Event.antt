-- Events and traces: the paper's §3.2. A trace has its newest event first, as in the paper.
use Rattle.std.specs.Prelude.{List, ◌∷◌}
use Rattle.paper.specs.Message.{agent, msg}

pub data event : Type 0 where
  Says : (A B : agent) → msg → event
  Notes : (A : agent) → msg → event

abbrev pub trace : Type 0
trace = List event

-- the paper's `e ∈ set evs`: a whole event of the trace
pub data In (e : event) : trace → Type 0 where
  here : {evs : trace} → In e (e ∷ evs)
  there : {d : event} {evs : trace} → In e evs → In e (d ∷ evs)

-- the beginnings of a trace, of every length from 0 to the whole
pub data Beginning : trace → trace → Type 0 where
  whole : {evs : trace} → Beginning evs evs
  earlier : {e : event} {evs₀ evs : trace} → Beginning evs₀ evs → Beginning evs₀ (e ∷ evs)
