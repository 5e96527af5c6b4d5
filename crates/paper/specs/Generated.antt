-- Generated traces: the paper's set `tls` (§4.1), the least one that is closed under the rules.
use Rattle.std.specs.Prelude.{[], ◌∷◌, ℕ}
use Rattle.paper.specs.Message.{agent}
use Rattle.paper.specs.Event.{event, trace}
use Rattle.paper.specs.Rules.{Step, Exchange}

pub data Generated (bad : agent → Type 0) : trace → Type 0 where
  Nil : Generated bad []
  step : {evs : trace} {e : event} {n : ℕ} → Generated bad evs → Step bad evs e n → Generated bad (e ∷ evs)
  exchange : {evs : trace} {note said : event} →
      Generated bad evs →
      Exchange bad evs note said →
      Generated bad (said ∷ note ∷ evs)
