-- The lowest rule that fits an event, as the code finds it; 0 for none. `find` looks for an earlier event, and `both` for two Finished. The tests are those of document 01, "The fourteen steps", parted
-- by what the event is: a note, or a Says of a Crypt, or of another message.
use Rattle.std.specs.Prelude.{ℕ, suc, Bool, List, Option, Some, None, ltb}
use Rattle.std.specs.Bool.{then_some}
use Rattle.laws.specs.Choose.{choose}
use Rattle.closure.specs.Closure.{known_after}
use Rattle.used.specs.Marking.{used_after}
use Rattle.forms.specs.Kinds.{crypt_of}
use Rattle.earlier.specs.Heard.{Heard}
use Rattle.earlier.specs.declared.Wanted.{Wanted}
use Rattle.earlier.specs.Earlier.{heard_at, past}
use Rattle.rules.specs.Tests.{fake, spy_keys, client_hello, server_hello, certificate, key_exchange, cert_verify, oops}
use Rattle.finished.specs.Tests.{client_finished, server_finished, client_resume, server_resume}
use Rattle.accepts.specs.declared.Session.{Session}
use Rattle.accepts.specs.declared.Side.{Side}
use Rattle.accepts.specs.Tests.{both_finished, client_accepts, server_accepts}

-- 0 stands for none
abbrev pub or_none : ℕ → Option ℕ
or_none n = then_some (ltb 0 n) n

unfoldable pub lowest_noted : List ℕ → (known : List ℕ) → (Wanted → Bool) → (Side → Session → Bool) → Heard → ℕ
lowest_noted file known find both h = choose (spy_keys file known h) 2 (choose (client_accepts file find both h) 10 (choose (server_accepts file find both h) 11 0))

unfoldable pub lowest_crypt : List ℕ → (Wanted → Bool) → Heard → ℕ
lowest_crypt file find h =
    choose (certificate file h) 5 (choose (cert_verify file find h) 7 (choose (client_finished file find h) 8
    (choose (server_finished file find h) 9 (choose (client_resume file find h) 12 (choose (server_resume file find h) 13 0)))))

unfoldable pub lowest_plain : List ℕ → (used : List ℕ) → (Wanted → Bool) → Heard → ℕ
lowest_plain file used find h = choose (client_hello file used h) 3 (choose (server_hello file used find h) 4 (choose (oops file find h) 14 0))

unfoldable pub lowest_said : List ℕ → (used known : List ℕ) → (Wanted → Bool) → Heard → ℕ
lowest_said file used known find h =
    choose (fake file known h) 1 (elim (crypt_of file h.row) [ Some _ ↦ lowest_crypt file find h | None ↦ lowest_plain file used find h ])

unfoldable pub lowest_rule : List ℕ → (used known : List ℕ) → (Wanted → Bool) → (Side → Session → Bool) → Heard → ℕ
lowest_rule file used known find both h = choose h.says (lowest_said file used known find h) (lowest_noted file known find both h)

-- of event e after those before it; and whether event e and the next are rule 6's
abbrev pub rule_of : List ℕ → ℕ → ℕ
rule_of file e = lowest_rule file (used_after file e) (known_after file e).rows (past file e) (both_finished file e) (heard_at file e)

abbrev pub exchange_of : List ℕ → ℕ → Bool
exchange_of file e = key_exchange file (used_after file e) (past file e) (heard_at file e) (heard_at file (suc e))
