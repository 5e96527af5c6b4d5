-- What the spy can make, as the code does it: one sweep from the lowest row up. A mark is 2, 1 or 0 as document 01 has it.
use Rattle.std.specs.Prelude.{ℕ, zero, suc, Bool, true, false, ◌&&◌, List, ltb, get_or, set}
use Rattle.laws.specs.Choose.{choose}
use Rattle.trace.specs.Kinds.{row_at}
use Rattle.trace.specs.declared.Row.{Row}
use Rattle.trace.specs.declared.Row.TheVariants.{Agent, Number, Nonce, Prf, PublicKey, PrivateKey, SessionKey, Hash, Crypt, Pair}
use Rattle.closure.specs.Closure.{row_marked}

abbrev pub made : List ℕ → ℕ → Bool
made marks x = ltb 0 (get_or marks x 0)

-- a row that is not known can be made
abbrev pub makes : (rows marks : List ℕ) → Row → Bool
makes rows marks (Agent a) = true
makes rows marks (Number n) = true
makes rows marks (Nonce n) = false
makes rows marks (Prf s x y) = false
makes rows marks (PublicKey a) = false
makes rows marks (PrivateKey a) = false
makes rows marks (SessionKey o x y z) = false
makes rows marks (Hash x) = made marks x.0
makes rows marks (Crypt k x) = row_marked rows k.0 && made marks x.0
makes rows marks (Pair x y) = made marks x.0 && made marks y.0

abbrev pub mark_of : List ℕ → (rows marks : List ℕ) → ℕ → ℕ
mark_of file rows marks r = choose (row_marked rows r) 2 (choose (makes rows marks (row_at file r)) 1 0)

unfoldable pub write_marks : List ℕ → List ℕ → ℕ → List ℕ → List ℕ
write_marks file rows zero marks = marks
write_marks file rows (suc n) marks =
    let done = write_marks file rows n marks in
    set done n (mark_of file rows done n)
