-- The marked cases hold: each is computed from the definitions, and what is computed satisfies the relation.
-- Assumes nothing.
use mathlib.Core.List.{List}
use mathlib.Core.Path.{◌≡◌, refl}
use Rattle.std.specs.Prelude.{Ok}
use Rattle.trace.specs.File.{word, rows_of, events_of}
use Rattle.trace.specs.Kinds.{row_of}
use Rattle.trace.specs.Tests.{line_of}
use Rattle.trace.specs.Reading.{reading, read_items}
use Rattle.trace.specs.Sample.{over}
use Rattle.laws.specs.First.{first, any}
use Rattle.closure.specs.Closure.{learn_row, up_rows, down_rows, pass_rows, settle, start_keys, start_rows, known_after}
use Rattle.spy.specs.Made.{write_marks}
use Rattle.spy.specs.Reply.{answer_readable, bytes_readable}
use Rattle.spy.proofs.Knows.{knows_readable}
use Rattle.used.specs.Marking.{use_row, used_after}
use Rattle.forms.specs.Kinds.{agent_of, public_of, private_of, hash_of, pair_of, crypt_of, prf_of, session_of, is_number, is_nonce, is_plain, is_key}
use Rattle.forms.specs.Forms.{three_of, four_of, hello_of, reply_of, kept_of, signed_of, remembered_of, agreement_of, sealed_of, derived_of, verified_of}
use Rattle.earlier.specs.Earlier.{earlier}
use Rattle.rules.specs.Tests.{fake, spy_keys, client_hello, server_hello, certificate, key_exchange, cert_verify, oops}
use Rattle.finished.specs.Tests.{client_finished, server_finished, client_resume, server_resume}
use Rattle.accepts.specs.Tests.{both_finished, client_accepts, server_accepts}
use Rattle.walk.specs.Walk.{walk, cleared}
use Rattle.walk.specs.Lowest.{lowest_noted, lowest_crypt, lowest_plain, lowest_said, lowest_rule}
use Rattle.judge.specs.Reply.{verdict_readable, rules_readable}
use Rattle.judge.specs.Cases.{Case, verdict, knowledge, buffer, Holds, P1, P2, P3, P4, P5, P6, P7, P7_set_9, P8, P9, P10, marked_cases, All, none, also, MarkedCases}
use Rattle.judge.proofs.Judges.{judged_readable}

-- what is computed for a case
abbrev pub Computed : Case → Type 0
Computed (verdict file v rules) =
    (reading file ≡ Ok tt) × (verdict_readable file (buffer (events_of file)) ≡ Ok v) × (rules_readable file (buffer (events_of file)) ≡ rules)
Computed (knowledge file n marks) =
    (reading file ≡ Ok tt) × (answer_readable file n (buffer (rows_of file)) ≡ Ok tt) × (bytes_readable file n (buffer (rows_of file)) ≡ marks)

pub holds : (c : Case) → Computed c → Holds c
holds (verdict file v rules) (r, a, b) = rw (← a, ← b) (judged_readable file (buffer (events_of file)) r)
holds (knowledge file n marks) (r, a, b) = rw (← a, ← b) (knows_readable file n (buffer (rows_of file)) r)

pub computed : All Computed marked_cases
unfolding over word first any line_of row_of reading read_items learn_row up_rows down_rows pass_rows settle start_keys start_rows known_after write_marks use_row used_after agent_of public_of private_of hash_of pair_of crypt_of prf_of session_of is_number is_nonce is_plain is_key three_of four_of hello_of reply_of kept_of signed_of remembered_of agreement_of sealed_of derived_of verified_of earlier fake spy_keys client_hello server_hello certificate key_exchange cert_verify oops client_finished server_finished both_finished client_accepts server_accepts client_resume server_resume walk lowest_noted lowest_crypt lowest_plain lowest_said lowest_rule cleared
computed =
    also {c = P1} (refl, refl, refl)
    (also {c = P2} (refl, refl, refl)
    (also {c = P3} (refl, refl, refl)
    (also {c = P4} (refl, refl, refl)
    (also {c = P5} (refl, refl, refl)
    (also {c = P6} (refl, refl, refl)
    (also {c = P7} (refl, refl, refl)
    (also {c = P7_set_9} (refl, refl, refl)
    (also {c = P8} (refl, refl, refl)
    (also {c = P9} (refl, refl, refl)
    (also {c = P10} (refl, refl, refl)
    none))))))))))

each : {Q R : Case → Type 0} → ((c : Case) → Q c → R c) → {cs : List Case} → All Q cs → All R cs
each f none = none
each f (also q qs) = also (f _ q) (each f qs)

pub marked_cases_lem : MarkedCases
marked_cases_lem = each holds computed
