-- Not empty: each step's premises stand in the trace before it, and a fresh value is not among the nonces of the events between.
-- Assumes nothing.
use Prim.Native.Nat.{ℕ}
use mathlib.Core.Path.{◌≡◌, refl}
use mathlib.Core.List.{List, [], ◌∷◌}
use mathlib.Core.Logic.{◌⊎◌, inl, inr, ⊎_elim}
use Rattle.paper.specs.Message.{agent, plain, key, pub_k, msg, Agent, Number, Nonce, Key, Hash, Crypt, Pair}
use Rattle.paper.specs.Event.{trace, Says, Notes, In, here, there, whole}
use Rattle.paper.specs.Used.{Part, self, left, right, body, Used, in_says, in_notes}
use Rattle.paper.specs.Rules.{CH, SH, cert, secret_note, ClientHello, ServerHello, Certificate, CertVerify, ClientFinished, ServerFinished, ClientAccepts, ServerAccepts, ClientResume, ServerResume, Oops, ClientKeyExch}
use Rattle.paper.specs.Generated.{Generated, Nil, step, exchange}
use Rattle.paper.specs.Possible.{Fresh, hellos, handshake, verified, accepted, resumed, Possible, sample, OnlySpy, Sample}
use Rattle.paper.proofs.Fresh.{above_nonce, above, above_all, unused_above}
use Rattle.paper.proofs.Secret.{secret}
use native.Mathlib.Omega.{arith}

-- n is among the plain nonces that are parts of a message
abbrev Names : ℕ → msg → Type 0
Names n (Agent A) = ⊥
Names n (Number m) = ⊥
Names n (Nonce N) = plain n ≡ N
Names n (Key K) = ⊥
Names n (Hash X) = ⊥
Names n (Crypt K X) = Names n X
Names n (Pair X Y) = Names n X ⊎ Names n Y

part_names : {n : ℕ} {X : msg} → Part (Nonce (plain n)) X → Names n X
part_names self = refl
part_names (left p) = inl (part_names p)
part_names (right p) = inr (part_names p)
part_names (body p) = part_names p

-- unused before an event, and not among its nonces: unused after it
unused_says : {A B : agent} (n : ℕ) (X : msg) {evs : trace} →
    ¬ Names n X → ¬ Used (Nonce (plain n)) evs → ¬ Used (Nonce (plain n)) (Says A B X ∷ evs)
unused_says n X new old (in_says here p) = new (part_names p)
unused_says n X new old (in_says (there i) p) = old (in_says i p)
unused_says n X new old (in_notes (there i) p) = old (in_notes i p)

other : (n m : ℕ) → ¬ (n ≡ m) → ¬ (plain n ≡ plain m)
other n m d q = let q' : n ≡ m = cc in d q'

module _ {A B : agent} {SID P n m : ℕ} {evs : trace} (d : ¬ (n ≡ m)) (old : ¬ Used (Nonce (plain n)) evs) where
  unused_CH : ¬ Used (Nonce (plain n)) (Says A B (CH A (plain m) SID P) ∷ evs)
  unused_CH = unused_says n _ (⊎_elim (λ x. x) (⊎_elim (other n m d) (⊎_elim (λ x. x) (λ x. x)))) old

  unused_SH : ¬ Used (Nonce (plain n)) (Says B A (SH (plain m) SID P) ∷ evs)
  unused_SH = unused_says n _ (⊎_elim (other n m d) (⊎_elim (λ x. x) (λ x. x))) old

unused_cert : {A B C : agent} {K : key} {n : ℕ} {evs : trace} →
    ¬ Used (Nonce (plain n)) evs → ¬ Used (Nonce (plain n)) (Says B A (cert C K) ∷ evs)
unused_cert {n = n} old = unused_says n _ (⊎_elim (λ x. x) (λ x. x)) old

module _ {bad : agent → Type 0} {A B : agent} {SID Pa Pb : ℕ} where
  -- both hellos, with which a handshake and a resumption begin
  greeted : (Na Nb : ℕ) (ns : List ℕ) {evs : trace} → Generated bad evs → Fresh evs (Na ∷ Nb ∷ ns) →
      Generated bad (hellos A B SID Pa Pb Na Nb evs)
  greeted Na Nb ns g (fa, (d, _), (fb, _, _)) = step (step g (ClientHello fa)) (ServerHello (unused_CH d fb) here)

  module _ (Na Nb PMS : ℕ) {evs : trace} (g : Generated bad evs) (f : Fresh evs (Na ∷ Nb ∷ PMS ∷ [])) where
    shaken : Generated bad (handshake A B SID Pa Pb Na Nb PMS evs)
    shaken =
        let hello = greeted Na Nb (PMS ∷ []) g f in
        let fresh = unused_cert (unused_SH f.2.1.0 (unused_CH f.1.1.0 f.2.2.0)) in
        let sent = exchange (step hello Certificate) (ClientKeyExch {K = pub_k B} fresh here) in
        step
        (step sent (ClientFinished (there (there (there (there here)))) (there (there (there here))) (there here)))
        (ServerFinished (there (there (there (there (there here))))) (there (there (there (there here)))) (there here))

    checked : Generated bad (verified A B SID Pa Pb Na Nb PMS evs)
    checked = step shaken (CertVerify (there (there (there (there (there here))))) (there (there (there here))))

    module _ (distinct : ¬ (A ≡ B)) where
      kept : Generated bad (accepted A B SID Pa Pb Na Nb PMS evs)
      kept =
          step (step shaken (ClientAccepts (there (there (there here))) (there here) here))
          (ServerAccepts distinct (there (there (there here))) (there here) (there (there here)))

      again : (Na' Nb' : ℕ) → Fresh (accepted A B SID Pa Pb Na Nb PMS evs) (Na' ∷ Nb' ∷ []) →
          Generated bad (resumed A B SID Pa Pb Na Nb PMS Na' Nb' evs)
      again Na' Nb' f' =
          step (step (greeted Na' Nb' [] kept f') (ClientResume (there here) here (there (there (there here)))))
          (ServerResume (there (there here)) (there here) (there (there (there here))))

pub possible : Possible
possible bad evs g A B SID Pa Pb Na Nb PMS f =
    record {
      handshakes = shaken Na Nb PMS g f;
      verifies = checked Na Nb PMS g f;
      accepts = kept Na Nb PMS g f;
      resumes = λ Na' Nb' d f'. again Na Nb PMS g f d Na' Nb' f';
      loses = λ Na' Nb' d f'. step (again Na Nb PMS g f d Na' Nb' f') (Oops (there here));
    }

-- the sample's values are fresh: each is above all that stand in the trace
sample_generated : Generated OnlySpy sample
unfolding above_all above above_nonce
sample_generated =
    let runs =
    possible OnlySpy [] Nil 2 3 7 1 1 10 11 12 (
      unused_above [] 10 (omega arith),
      (omega arith, (omega arith, tt)),
      (unused_above [] 11 (omega arith), (omega arith, tt), (unused_above [] 12 (omega arith), tt, tt)),
    ) in
    runs.loses 100 101 (omega arith)
    (unused_above _ 100 (omega arith), (omega arith, tt), (unused_above _ 101 (omega arith), tt, tt))

sample_noted : In (Notes 2 (secret_note 3 (plain 12))) sample
sample_noted = there (there (there (there (there (there (there (there (there (there here)))))))))

pub sampled : Sample
sampled =
    let kept = secret OnlySpy (omega arith) sample sample_generated 2 3 12 (omega arith) (omega arith) sample_noted sample whole in
    record { generated = sample_generated; PMS_kept = λ handed. (kept handed).0; M_kept = λ handed. (kept handed).1 _ _ }
