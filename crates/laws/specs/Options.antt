-- Options one after the other: the answer from a value that is found, and else none.
use Rattle.std.specs.Prelude.{Bool, false, Option, Some, None}

abbrev pub and_then : {A B : Type 0} → Option A → (A → Option B) → Option B
and_then (Some x) f = f x
and_then None f = None

abbrev pub is_some_and : {A : Type 0} → Option A → (A → Bool) → Bool
is_some_and (Some x) test = test x
is_some_and None test = false
