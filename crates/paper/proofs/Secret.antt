-- Demand 3. While the secret is unused, and once it is noted, every seen message is Safe, by induction on the generated trace.
-- A session key is Safe too, so what is analysed is Safe, and the secret and what is made from it are not.
-- Assumes nothing.
use Prim.Native.Nat.{ℕ}
use mathlib.Core.Path.{◌≡◌, refl, subst}
use mathlib.Core.List.{[], ◌∷◌}
use mathlib.Core.Bool.{true≢false}
use mathlib.Core.Logic.{◌⊎◌, inl, inr}
use Rattle.paper.specs.Message.{agent, Authority, nonce, plain, PRF, key, pub_k, msg, Nonce, Hash, Crypt}
use Rattle.paper.specs.Event.{event, trace, Says, Notes, In, here, there, whole, earlier}
use Rattle.paper.specs.Spy.{own, Spies, start, said, noted}
use Rattle.paper.specs.Used.{Used, in_says, in_notes, self, left, right}
use Rattle.paper.specs.Rules.{secret_note, carried, Step, Fake, SpyKeys, ClientHello, ServerHello, Certificate, CertVerify, ClientFinished, ServerFinished, ClientAccepts, ServerAccepts, ClientResume, ServerResume, Oops, Exchange, ClientKeyExch}
use Rattle.paper.specs.Generated.{Generated, Nil, step, exchange}
use Rattle.paper.specs.Secret.{Besides, before, besides, Secret}
use Rattle.paper.proofs.Event.{In-behind, Used-beginning, Spies-beginning}
use Rattle.paper.proofs.Steps.{no_step}
use Rattle.paper.proofs.Carried.{carried_valid, carried_safe, safe_carried}
use Rattle.paper.proofs.Safe.{Safe, SafeNonce, Valid, analz_safe, synth_safe}

module _ (bad : agent → Type 0) (A B : agent) (p : ℕ) where
  abbrev Note : event
  Note = Notes A (secret_note B (plain p))

  abbrev Kept : trace → Type 0
  Kept evs = (¬ Used (Nonce (plain p)) evs) ⊎ In Note evs

  abbrev AllSafe : trace → Type 0
  AllSafe evs = (X : msg) → Spies bad evs X → Safe bad B p X

  note_used : {evs : trace} → In Note evs → Used (Nonce (plain p)) evs
  note_used i = in_notes i (right self)

  -- the new event is seen, and earlier ones were Safe
  abbrev SafeEvent : event → Type 0
  SafeEvent (Says C D X) = Safe bad B p X
  SafeEvent (Notes C X) = bad C → Safe bad B p X

  AllSafe-cons : {e : event} {evs : trace} → SafeEvent e → AllSafe evs → AllSafe (e ∷ evs)
  AllSafe-cons s all X (start i) = all X (start i)
  AllSafe-cons s all X (said here) = s
  AllSafe-cons s all X (said (there i)) = all X (said i)
  AllSafe-cons s all X (noted c here) = s c
  AllSafe-cons s all X (noted c (there i)) = all X (noted c i)

  -- the same before an event that is not the note
  abbrev Before : event → trace → Type 0
  Before e evs = (¬ Used (Nonce (plain p)) (e ∷ evs)) ⊎ In Note evs

  -- a nonce that is used only now is not p
  new_safe : {e : event} {evs : trace} (n : ℕ) →
      ¬ Used (Nonce (plain n)) evs → Used (Nonce (plain n)) (e ∷ evs) → Before e evs → ¬ (n ≡ p)
  new_safe n fresh used (inl unused) q = unused (rw q at used)
  new_safe n fresh used (inr i) q = fresh (rw q (note_used i))

  -- what is made from a Safe nonce is Safe
  PRF_safe : (N : nonce) → SafeNonce bad B p N → ¬ (N ≡ plain p)
  PRF_safe (plain n) s q = let q' : n ≡ p = cc in s q'
  PRF_safe (PRF S x y) s q = true≢false (cc)

  hash_valid : (K : key) (X : msg) → Valid K (Hash X)
  hash_valid K X C k q = absurd (true≢false (cc))

  module _ (trusted : ¬ bad Authority) (honest : ¬ bad B) where
    -- a compromised agent's key exchange carried a Safe secret
    exchanged_safe : (A' C : agent) (N : nonce) →
        bad C → Safe bad B p (carried A' N) ⊎ (pub_k C ≡ pub_k B) → ¬ (N ≡ plain p)
    exchanged_safe A' C N c (inl s) = PRF_safe N (safe_carried bad B p A' N s)
    exchanged_safe A' C N c (inr q) = let q' : C ≡ B = cc in absurd (honest (subst bad q' c))

    step_safe : {evs : trace} {e : event} {n : ℕ} → Step bad evs e n → Before e evs → AllSafe evs → SafeEvent e
    step_safe (Fake s) k all = synth_safe bad B p honest _ all trusted s
    step_safe (SpyKeys {M = M} m na nb) k all = λ _. (PRF_safe M (analz_safe bad B p honest _ all m), tt)
    step_safe (ClientHello {Na = Na} fresh) k all = (tt, (new_safe Na fresh (in_says here (right (left self))) k, (tt, tt)))
    step_safe (ServerHello {Nb = Nb} fresh i) k all = (new_safe Nb fresh (in_says here (left self)) k, (tt, tt))
    step_safe Certificate k all = (inl (tt, tt), λ C k q. cc)
    step_safe (CertVerify i j) k all = (inl tt, hash_valid _ _)
    step_safe (ClientFinished i j l) k all = (inl tt, hash_valid _ _)
    step_safe (ServerFinished i j l) k all = (inl tt, hash_valid _ _)
    step_safe (ClientAccepts {PMS = PMS} i j l) k all = λ c. (tt, (tt, (tt, PRF_safe PMS (all _ (noted c i)).1)))
    step_safe (ServerAccepts {A = A'} {B = C} {PMS = PMS} q i j l) k all =
        λ c. (tt, (tt, (tt, exchanged_safe A' C PMS c (all _ (said i)).0)))
    step_safe (ClientResume i j l) k all = (inl tt, hash_valid _ _)
    step_safe (ServerResume i j l) k all = (inl tt, hash_valid _ _)
    step_safe (Oops i) k all = tt

    module _ (innocent : ¬ bad A) where
      -- the secret of a key exchange is another one, or p itself from A for B
      abbrev Whose : agent → agent → ℕ → Type 0
      Whose C D n = (¬ (n ≡ p)) ⊎ ((C ≡ A) × (D ≡ B))

      whose_note : {evs : trace} (C D : agent) (n : ℕ) → ¬ Used (Nonce (plain n)) evs →
          (Note ≡ Notes C (secret_note D (plain n))) ⊎ In Note evs → Whose C D n
      whose_note C D n fresh (inl q) = inr (cc, cc)
      whose_note C D n fresh (inr i) = inl (λ q. fresh (rw q (note_used i)))

      whose : {evs : trace} {X : msg} (C D : agent) (n : ℕ) → ¬ Used (Nonce (plain n)) evs →
          Kept (Says C D X ∷ Notes C (secret_note D (plain n)) ∷ evs) → Whose C D n
      whose C D n fresh (inl unused) = inl (λ q. unused (rw (← q) (in_notes (there here) (right self))))
      whose C D n fresh (inr i) = whose_note C D n fresh (In-behind i)

      sent_safe : (C D : agent) (n : ℕ) (K : key) → K ≡ pub_k D → Whose C D n →
          SafeEvent (Notes C (secret_note D (plain n))) × SafeEvent (Says C D (Crypt K (carried C (plain n))))
      sent_safe C D n K valid (inl q) =
          (λ c. (tt, q), (inl (carried_safe bad B p C (plain n) q), carried_valid K C (plain n)))
      sent_safe C D n K valid (inr (q, r)) =
          (λ c. absurd (innocent (subst bad q c)), (inr (cc), carried_valid K C (plain n)))

      exchange_safe : {evs : trace} {e d : event} →
          Exchange bad evs e d → Kept (d ∷ e ∷ evs) → AllSafe evs → SafeEvent e × SafeEvent d
      exchange_safe (ClientKeyExch {A = C} {B = D} {PMS = n} {K = K} fresh i) k all =
          sent_safe C D n K ((all _ (said i)).1 D K refl) (whose C D n fresh k)

      -- the condition held before a step too: a single step brings no such note, and rule 6 brings it for an unused secret
      Before-step : {evs : trace} {e : event} {n : ℕ} → Step bad evs e n → Kept (e ∷ evs) → Before e evs
      Before-step s (inl unused) = inl unused
      Before-step s (inr here) = absurd (no_step s)
      Before-step s (inr (there i)) = inr i

      Kept-before : {e : event} {evs : trace} → Before e evs → Kept evs
      Kept-before (inl unused) = inl (λ u. unused (Used-beginning (earlier whole) u))
      Kept-before (inr i) = inr i

      Kept-note : {evs : trace} (C D : agent) (n : ℕ) → ¬ Used (Nonce (plain n)) evs →
          (Note ≡ Notes C (secret_note D (plain n))) ⊎ In Note evs → Kept evs
      Kept-note C D n fresh (inl q) = inl (λ u. let q' : p ≡ n = cc in fresh (rw q' at u))
      Kept-note C D n fresh (inr i) = inr i

      Kept-exchange : {evs : trace} {e d : event} → Exchange bad evs e d → Kept (d ∷ e ∷ evs) → Kept evs
      Kept-exchange x (inl unused) = inl (λ u. unused (Used-beginning (earlier (earlier whole)) u))
      Kept-exchange (ClientKeyExch {A = C} {B = D} {PMS = n} fresh i) (inr j) = Kept-note C D n fresh (In-behind j)

      Nil_safe : AllSafe []
      Nil_safe X (start (own c)) = c
      Nil_safe X (said i) = elim i [ ]
      Nil_safe X (noted c i) = elim i [ ]

      pub all_safe : {evs : trace} → Generated bad evs → Kept evs → AllSafe evs
      all_safe Nil k = Nil_safe
      all_safe (step g s) k =
          let b = Before-step s k in
          let all = all_safe g (Kept-before b) in
          AllSafe-cons (step_safe s b all) all
      all_safe (exchange g x) k =
          let all = all_safe g (Kept-exchange x k) in
          let s = exchange_safe x k all in
          AllSafe-cons s.1 (AllSafe-cons s.0 all)

  -- what is handed over besides is Safe as well
  Besides-safe : (handed : key → Type 0) (H : msg → Type 0) → ((X : msg) → H X → Safe bad B p X) →
      (X : msg) → Besides handed H X → Safe bad B p X
  Besides-safe handed H safe X (before h) = safe X h
  Besides-safe handed H safe X (besides h) = tt

pub secret : Secret
secret bad trusted evs g A B p innocent honest i evs₀ b handed =
    let all = all_safe bad A B p trusted honest innocent g (inr i) in
    let safe = Besides-safe bad A B p handed (Spies bad evs₀) (λ X s. all X (Spies-beginning b s)) in
    (λ a. analz_safe bad B p honest _ safe a refl, λ x y a. analz_safe bad B p honest _ safe a refl)
