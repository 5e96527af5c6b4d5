-- Certificates are valid: the paper's §5.1.
use Rattle.std.specs.Prelude.{◌≡◌}
use Rattle.paper.specs.Message.{agent, Authority, key, pub_k}
use Rattle.paper.specs.Event.{trace, In, Says}
use Rattle.paper.specs.Rules.{cert}
use Rattle.paper.specs.Generated.{Generated}

abbrev pub Certificates : Type 1
Certificates =
    (bad : agent → Type 0) → ¬ bad Authority →
    (evs : trace) → Generated bad evs →
    (A B B' : agent) (K : key) → In (Says B' A (cert B K)) evs → K ≡ pub_k B
