-- An event, flat: a note has no receiver.
use Rattle.std.specs.Prelude.{ℕ, Bool}

pub record Heard : Type 0 where
  pub says : Bool
  pub from : ℕ
  pub to : ℕ
  pub row : ℕ
