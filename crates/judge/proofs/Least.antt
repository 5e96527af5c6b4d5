-- The rule that the code finds is the lowest that fits: the thirteen tests of one event, tried in order, each exact.
-- Assumes nothing.
use Prim.Native.Nat.{ℕ, suc, ◌<◌, ◌≤◌}
use mathlib.Core.Bool.{Bool, true, false, true≢false}
use mathlib.Core.List.{List}
use mathlib.Core.Logic.{◌⊎◌, inl, inr}
use mathlib.Core.Path.{◌≡◌, refl, sym, ◌∙◌}
use native.Mathlib.Omega.{arith}
use native.Mathlib.Decide.{ℕ_discrete}
use lib.Dec.{eqb}
use Rattle.std.specs.Prelude.{Option, Some, None, Ok}
use Rattle.paper.specs.Message.{agent}
use Rattle.paper.specs.Event.{event, trace}
use Rattle.paper.specs.Rules.{Step, Fake, SpyKeys, ClientHello, ServerHello, Certificate, CertVerify, ClientFinished, ServerFinished, ClientAccepts, ServerAccepts, ClientResume, ServerResume, Oops}
use Rattle.trace.specs.File.{events_of}
use Rattle.laws.specs.Choose.{choose}
use Rattle.trace.specs.Kinds.{row_at}
use Rattle.trace.specs.Reading.{reading}
use Rattle.trace.specs.Promises.{Promised}
use Rattle.trace.specs.declared.Row.{Row}
use Rattle.trace.specs.declared.Row.TheVariants as row
use Rattle.laws.proofs.First.{bool_cases}
use Rattle.laws.proofs.Both.{and_false}
use Rattle.laws.proofs.Options.{Finds, finds, finding}
use Rattle.trace.proofs.Promised.{promises_read}
use Rattle.closure.specs.Closure.{known_after}
use Rattle.used.specs.Marking.{used_after}
use Rattle.forms.specs.Kinds.{crypt_in, pair_in, session_in, crypt_of, pair_of, session_of}
use Rattle.forms.specs.declared.leaves.Crypt.{Crypt}
use Rattle.forms.specs.Forms.{three_of, four_of, hello_of, reply_of, signed_of, sealed_of, verified_of}
use Rattle.earlier.specs.Heard.{Heard}
use Rattle.earlier.specs.declared.Wanted.{Wanted}
use Rattle.earlier.specs.Earlier.{heard_at, past}
use Rattle.rules.specs.Tests.{fake, spy_keys, client_hello, server_hello, certificate, cert_verify, oops}
use Rattle.rules.proofs.Steps.{Rights, fake_sound, fake_complete, spy_keys_sound, spy_keys_complete, client_hello_sound, client_hello_complete, server_hello_sound, server_hello_complete, certificate_sound, certificate_complete, oops_sound, oops_complete}
use Rattle.rules.proofs.Answers.{cert_verify_sound, cert_verify_complete, key_exchange_sound, key_exchange_complete}
use Rattle.finished.specs.Tests.{client_finished, server_finished, client_resume, server_resume}
use Rattle.accepts.specs.declared.Session.{Session}
use Rattle.accepts.specs.declared.Side.{Side}
use Rattle.accepts.specs.Tests.{both_finished, client_accepts, server_accepts}
use Rattle.finished.proofs.Finishes.{client_finished_sound, client_finished_complete, server_finished_sound, server_finished_complete, client_resume_sound, client_resume_complete, server_resume_sound, server_resume_complete}
use Rattle.accepts.proofs.Accepts.{client_accepts_sound, client_accepts_complete, server_accepts_sound, server_accepts_complete}
use Rattle.walk.specs.Lowest.{lowest_noted, lowest_crypt, lowest_plain, lowest_said, lowest_rule, rule_of, exchange_of}
use Rattle.judge.specs.Judged.{Fits, Exchanged}
use Rattle.judge.proofs.Right.{rights}

-- n is the lowest number of which F holds, and 0 where F holds of none
pub record Least (F : ℕ → Type 0) (n : ℕ) : Type 0 where
  pub fits : 0 < n → F n
  pub least : (j : ℕ) → F j → n ≤ j
  pub none : n ≡ 0 → (j : ℕ) → ¬ F j

module _ (F : ℕ → Type 0) where
  abbrev Above : ℕ → Type 0
  Above k = (j : ℕ) → F j → k ≤ j

  above_next : (k : ℕ) → ¬ F k → Above k → Above (suc k)
  above_next k n a j f = go (ℕ_discrete j k)
    where
      go : Dec (j ≡ k) → suc k ≤ j
      go (yes e) = absurd (n (rw e at f))
      go (no d) = let h = a j f in omega arith

  -- an exact test of k, and the rest above it
  try : (t : Bool) (k : ℕ) {rest : ℕ} → 0 < k → (t ≡ true → F k) → (F k → t ≡ true) → Above k → (Above (suc k) → Least F rest) →
      Least F (choose t k rest)
  try true k p sound complete a go = record { fits = λ _. sound refl; least = a; none = λ z. absurd (omega arith) }
  try false k p sound complete a go = go (above_next k (λ f. true≢false (sym (complete f))) a)

-- the rules of one event are numbered 1 to 14, without 6
rule_range : {b : agent → Type 0} {evs : trace} {E : event} {j : ℕ} → Step b evs E j → (1 ≤ j) × (j ≤ 14) × ¬ (j ≡ 6)
rule_range (Fake s) = (omega arith, omega arith, λ e. omega arith)
rule_range (SpyKeys x y z) = (omega arith, omega arith, λ e. omega arith)
rule_range (ClientHello u) = (omega arith, omega arith, λ e. omega arith)
rule_range (ServerHello u i) = (omega arith, omega arith, λ e. omega arith)
rule_range Certificate = (omega arith, omega arith, λ e. omega arith)
rule_range (CertVerify i j) = (omega arith, omega arith, λ e. omega arith)
rule_range (ClientFinished i j k) = (omega arith, omega arith, λ e. omega arith)
rule_range (ServerFinished i j k) = (omega arith, omega arith, λ e. omega arith)
rule_range (ClientAccepts i j k) = (omega arith, omega arith, λ e. omega arith)
rule_range (ServerAccepts d i j k) = (omega arith, omega arith, λ e. omega arith)
rule_range (ClientResume i j k) = (omega arith, omega arith, λ e. omega arith)
rule_range (ServerResume i j k) = (omega arith, omega arith, λ e. omega arith)
rule_range (Oops i) = (omega arith, omega arith, λ e. omega arith)

-- a Crypt is no Pair and no session key
crypt_apart : (R : Row) {c : Crypt} → Finds (crypt_in R) c → (pair_in R ≡ None) × (session_in R ≡ None)
crypt_apart (row.Crypt x y) finds = (refl, refl)
crypt_apart _ f = elim f [ ]

no_other : (file : List ℕ) (r : ℕ) {c : Crypt} → crypt_of file r ≡ Some c → (pair_of file r ≡ None) × (session_of file r ≡ None)
unfolding crypt_of pair_of session_of
no_other file r e = crypt_apart (row_at file r) (finding e)

-- the tests in order, whatever the event is
module _ (file used known : List ℕ) (find : Wanted → Bool) (both : Side → Session → Bool) (h : Heard) where
  unfoldable in_order : ℕ
  in_order =
      choose (fake file known h) 1 (choose (spy_keys file known h) 2 (choose (client_hello file used h) 3
      (choose (server_hello file used find h) 4 (choose (certificate file h) 5 (choose (cert_verify file find h) 7
      (choose (client_finished file find h) 8 (choose (server_finished file find h) 9 (choose (client_accepts file find both h) 10
      (choose (server_accepts file find both h) 11 (choose (client_resume file find h) 12 (choose (server_resume file find h) 13
      (choose (oops file find h) 14 0))))))))))))

  -- what the event is parts the tests: those that are left out fail
  noted_in_order : h.says ≡ false → lowest_rule file used known find both h ≡ in_order
  unfolding lowest_rule lowest_noted in_order fake client_hello server_hello certificate cert_verify client_finished server_finished client_resume server_resume oops
  noted_in_order s = rw s refl

  crypt_in_order : {c : Crypt} → h.says ≡ true → crypt_of file h.row ≡ Some c → lowest_rule file used known find both h ≡ in_order
  unfolding lowest_rule lowest_said lowest_crypt in_order spy_keys client_accepts server_accepts client_hello server_hello oops hello_of reply_of three_of four_of
  crypt_in_order s e =
      let other = no_other file h.row e in
      rw (e, other.0, other.1, s, and_false (eqb h.to 0)) refl

  plain_in_order : h.says ≡ true → crypt_of file h.row ≡ None → lowest_rule file used known find both h ≡ in_order
  unfolding lowest_rule lowest_said lowest_plain in_order spy_keys client_accepts server_accepts certificate cert_verify client_finished server_finished client_resume server_resume signed_of verified_of sealed_of
  plain_in_order s e = rw (e, s) refl

  rule_in_order : lowest_rule file used known find both h ≡ in_order
  rule_in_order = go (bool_cases h.says) (crypt_of file h.row) refl
    where
      go : (h.says ≡ true) ⊎ (h.says ≡ false) → (c : Option Crypt) → crypt_of file h.row ≡ c → lowest_rule file used known find both h ≡ in_order
      go (inl s) (Some c) e = crypt_in_order s e
      go (inl s) None e = plain_in_order s e
      go (inr s) c e = noted_in_order s

module _ (file : List ℕ) (r : reading file ≡ Ok tt) (i : ℕ) (l : i < events_of file) where
  abbrev P : Promised file
  P = promises_read file r

  abbrev U : List ℕ
  U = used_after file i

  abbrev K : List ℕ
  K = (known_after file i).rows

  R : Rights file U K i
  R = rights file r i (omega arith)

  abbrev F : ℕ → Type 0
  F = Fits file i

  abbrev h : Heard
  h = heard_at file i

  -- one test after another; no rule of one event has the number 6
  in_order_least : Least F (in_order file U K (past file i) (both_finished file i) h)
  unfolding in_order
  in_order_least =
      try F (fake file K h) 1 (omega arith) (fake_sound file P i l U K R) (fake_complete file P i l U K R) (λ j f. (rule_range f).0) (λ a2.
      try F (spy_keys file K h) 2 (omega arith) (spy_keys_sound file P i l U K R) (spy_keys_complete file P i l U K R) a2 (λ a3.
      try F (client_hello file U h) 3 (omega arith) (client_hello_sound file P i l U K R) (client_hello_complete file P i l U K R) a3 (λ a4.
      try F (server_hello file U (past file i) h) 4 (omega arith) (server_hello_sound file P i l U K R) (server_hello_complete file P i l U K R) a4 (λ a5.
      try F (certificate file h) 5 (omega arith) (certificate_sound file P i l U K R) (certificate_complete file P i l U K R) a5 (λ a6.
      try F (cert_verify file (past file i) h) 7 (omega arith) (cert_verify_sound file P i l) (cert_verify_complete file P i l)
      (above_next F 6 (λ f. (rule_range f).2 refl) a6) (λ a8.
      try F (client_finished file (past file i) h) 8 (omega arith) (client_finished_sound file P i l) (client_finished_complete file P i l) a8 (λ a9.
      try F (server_finished file (past file i) h) 9 (omega arith) (server_finished_sound file P i l) (server_finished_complete file P i l) a9 (λ a10.
      try F (client_accepts file (past file i) (both_finished file i) h) 10 (omega arith) (client_accepts_sound file P i l) (client_accepts_complete file P i l) a10 (λ a11.
      try F (server_accepts file (past file i) (both_finished file i) h) 11 (omega arith) (server_accepts_sound file P i l) (server_accepts_complete file P i l) a11 (λ a12.
      try F (client_resume file (past file i) h) 12 (omega arith) (client_resume_sound file P i l) (client_resume_complete file P i l) a12 (λ a13.
      try F (server_resume file (past file i) h) 13 (omega arith) (server_resume_sound file P i l) (server_resume_complete file P i l) a13 (λ a14.
      try F (oops file (past file i) h) 14 (omega arith) (oops_sound file P i l U K R) (oops_complete file P i l U K R) a14 (λ a15.
      no_more a15)))))))))))))
    where
      no_more : ((j : ℕ) → F j → 15 ≤ j) → Least F 0
      no_more a =
          let none : (j : ℕ) → ¬ F j = λ j f. omega (arith, a j f, (rule_range f).1) in
          record { fits = λ p. absurd (omega arith); least = λ j f. omega arith; none = λ _. none }

  pub rule_least : Least F (rule_of file i)
  rule_least = rw (rule_in_order file U K (past file i) (both_finished file i) h) in_order_least

-- rule 6 on an event and the next
module _ (file : List ℕ) (r : reading file ≡ Ok tt) (i : ℕ) (l : suc i < events_of file) where
  abbrev first : i < events_of file
  first = omega arith

  pub exchange_sound : exchange_of file i ≡ true → Exchanged file i
  exchange_sound t =
      key_exchange_sound file (promises_read file r) i first l (used_after file i) (known_after file i).rows (rights file r i (omega arith)) t

  pub exchange_complete : exchange_of file i ≡ false → ¬ Exchanged file i
  exchange_complete f x =
      true≢false
      (sym (key_exchange_complete file (promises_read file r) i first l (used_after file i) (known_after file i).rows (rights file r i (omega arith)) x) ∙ f)
