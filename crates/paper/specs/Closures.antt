-- Analysed and made behave: the laws of the paper's analz and synth (§3.1) that the later rooms rest on.
use Rattle.paper.specs.Message.{agent, msg}
use Rattle.paper.specs.Event.{trace, Beginning}
use Rattle.paper.specs.Spy.{Spies, Analz, Synth}

abbrev pub Within : (G H : msg → Type 0) → Type 0
Within G H = (X : msg) → G X → H X

pub record Closures : Type 1 where
  pub analz_contains : (H : msg → Type 0) → Within H (Analz H)
  pub analz_monotone : (G H : msg → Type 0) → Within G H → Within (Analz G) (Analz H)
  pub analz_idempotent : (H : msg → Type 0) → Within (Analz (Analz H)) (Analz H)
  pub synth_contains : (H : msg → Type 0) → Within (Analz H) (Synth (Analz H))
  pub synth_monotone : (G H : msg → Type 0) → Within G H → Within (Synth G) (Synth H)
  -- what is taken apart out of what was made could be made
  pub analz_synth : (H : msg → Type 0) → Within (Analz (Synth (Analz H))) (Synth (Analz H))
  -- the spy forgets nothing
  pub spies_grow : (bad : agent → Type 0) (evs₀ evs : trace) → Beginning evs₀ evs → Within (Spies bad evs₀) (Spies bad evs)
