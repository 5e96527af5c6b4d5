-- Flags that are true, as an index.
-- Assumes nothing.
use mathlib.Core.Bool.{Bool, true}
use mathlib.Core.Path.{◌≡◌, sym, subst}

-- only `true` holds, so that a case by it leaves only the rows whose flag is true
pub data Holds : Bool → Type 0 where
  holds : Holds true

pub held : {b : Bool} → b ≡ true → Holds b
held e = subst Holds (sym e) holds
