-- Certificates are valid: it is a part of Safe, and every seen message is Safe for a secret that nobody has used.
-- Assumes nothing.
use native.Mathlib.Omega.{arith}
use mathlib.Core.Path.{refl}
use mathlib.Core.Logic.{inl}
use Rattle.paper.specs.Message.{Authority}
use Rattle.paper.specs.Spy.{said}
use Rattle.paper.specs.Certificates.{Certificates}
use Rattle.paper.proofs.Fresh.{above_all, unused_above}
use Rattle.paper.proofs.Secret.{all_safe}

pub certificates : Certificates
certificates bad trusted evs g A B B' K i =
    (all_safe bad Authority Authority (above_all evs) trusted trusted trusted g (inl (unused_above evs _ (omega arith))) _ (said i)).1 B K refl
