-- The rules: figures 2 to 7 and Oops (§4.7), with document 01's numbers and its premises in its order.
-- Step: the trace so far, the new event, the rule's number. Exchange: the trace so far, and rule 6's two events.
use Rattle.std.specs.Prelude.{ℕ, ◌≡◌}
use Rattle.paper.specs.Message.{agent, Spy, Authority, role, ClientRole, ServerRole, nonce, plain, PRF, key, pub_k, pri_k, session_k, msg, Agent, Number, Nonce, Key, Hash, Crypt, Pair}
use Rattle.paper.specs.Event.{event, Says, Notes, trace, In}
use Rattle.paper.specs.Spy.{Spies, Analz, Synth}
use Rattle.paper.specs.Used.{Used}

-- client hello, server hello, and what the authority signs (§4.3)
abbrev pub CH : agent → nonce → (SID Pa : ℕ) → msg
CH A Na SID Pa = Pair (Agent A) (Pair (Nonce Na) (Pair (Number SID) (Number Pa)))

abbrev pub SH : nonce → (SID Pb : ℕ) → msg
SH Nb SID Pb = Pair (Nonce Nb) (Pair (Number SID) (Number Pb))

abbrev pub cert : agent → key → msg
cert B K = Crypt (pri_k Authority) (Pair (Agent B) (Key K))

-- what A keeps of a pre-master secret for B, and what its key exchange carries under B's key (§4.4)
abbrev pub secret_note : agent → nonce → msg
secret_note B PMS = Pair (Agent B) (Nonce PMS)

abbrev pub carried : agent → nonce → msg
carried A PMS = Nonce PMS

-- the hash of all that was agreed, and either side's finished message (§4.5)
abbrev pub agreed : (SID : ℕ) (M Na : nonce) (Pa : ℕ) (A : agent) (Nb : nonce) (Pb : ℕ) (B : agent) → msg
agreed SID M Na Pa A Nb Pb B =
    Hash (Pair (Number SID) (Pair (Nonce M) (Pair (Nonce Na) (Pair (Number Pa) (Pair (Agent A) (Pair (Nonce Nb) (Pair (Number Pb) (Agent B))))))))

abbrev pub Finished : role → (SID : ℕ) (M Na : nonce) (Pa : ℕ) (A : agent) (Nb : nonce) (Pb : ℕ) (B : agent) → msg
Finished r SID M Na Pa A Nb Pb B = Crypt (session_k r Na Nb M) (agreed SID M Na Pa A Nb Pb B)

-- what either side keeps of a session, to resume it (§4.6)
abbrev pub session_note : ℕ → (A B : agent) → nonce → msg
session_note SID A B M = Pair (Number SID) (Pair (Agent A) (Pair (Agent B) (Nonce M)))

module _ (bad : agent → Type 0) where
  pub data Step : trace → event → ℕ → Type 0 where
    -- fig. 2
    Fake : {evs : trace} {B : agent} {X : msg} →
        Synth (Analz (Spies bad evs)) X →
        Step evs (Says Spy B X) 1
    SpyKeys : {evs : trace} {r : role} {M Na Nb : nonce} →
        Analz (Spies bad evs) (Nonce M) →
        Analz (Spies bad evs) (Nonce Na) →
        Analz (Spies bad evs) (Nonce Nb) →
        Step evs (Notes Spy (Pair (Nonce (PRF M Na Nb)) (Key (session_k r Na Nb M)))) 2
    -- fig. 3; as in the figure, and against the paper's text, A may greet itself
    ClientHello : {evs : trace} {A B : agent} {Na SID Pa : ℕ} →
        ¬ Used (Nonce (plain Na)) evs →
        Step evs (Says A B (CH A (plain Na) SID Pa)) 3
    ServerHello : {evs : trace} {A A' B : agent} {Na : nonce} {Nb SID Pa Pb : ℕ} →
        ¬ Used (Nonce (plain Nb)) evs →
        In (Says A' B (CH A Na SID Pa)) evs →
        Step evs (Says B A (SH (plain Nb) SID Pb)) 4
    Certificate : {evs : trace} {A B : agent} →
        Step evs (Says B A (cert B (pub_k B))) 5
    -- fig. 4, whose other rule is number 6, below
    CertVerify : {evs : trace} {A B B' : agent} {Nb PMS : nonce} {SID Pb : ℕ} →
        In (Says B' A (SH Nb SID Pb)) evs →
        In (Notes A (secret_note B PMS)) evs →
        Step evs (Says A B (Crypt (pri_k A) (Hash (Pair (Nonce Nb) (Pair (Agent B) (Nonce PMS)))))) 7
    -- fig. 5
    ClientFinished : {evs : trace} {A B B' : agent} {Na Nb PMS : nonce} {SID Pa Pb : ℕ} →
        In (Says A B (CH A Na SID Pa)) evs →
        In (Says B' A (SH Nb SID Pb)) evs →
        In (Notes A (secret_note B PMS)) evs →
        Step evs (Says A B (Finished ClientRole SID (PRF PMS Na Nb) Na Pa A Nb Pb B)) 8
    ServerFinished : {evs : trace} {A A' A'' B : agent} {Na Nb PMS : nonce} {SID Pa Pb : ℕ} →
        In (Says A' B (CH A Na SID Pa)) evs →
        In (Says B A (SH Nb SID Pb)) evs →
        In (Says A'' B (Crypt (pub_k B) (carried A PMS))) evs →
        Step evs (Says B A (Finished ServerRole SID (PRF PMS Na Nb) Na Pa A Nb Pb B)) 9
    -- fig. 6
    ClientAccepts : {evs : trace} {A B B' : agent} {Na Nb PMS : nonce} {SID Pa Pb : ℕ} →
        In (Notes A (secret_note B PMS)) evs →
        In (Says A B (Finished ClientRole SID (PRF PMS Na Nb) Na Pa A Nb Pb B)) evs →
        In (Says B' A (Finished ServerRole SID (PRF PMS Na Nb) Na Pa A Nb Pb B)) evs →
        Step evs (Notes A (session_note SID A B (PRF PMS Na Nb))) 10
    ServerAccepts : {evs : trace} {A A' A'' B : agent} {Na Nb PMS : nonce} {SID Pa Pb : ℕ} →
        ¬ (A ≡ B) →
        In (Says A'' B (Crypt (pub_k B) (carried A PMS))) evs →
        In (Says B A (Finished ServerRole SID (PRF PMS Na Nb) Na Pa A Nb Pb B)) evs →
        In (Says A' B (Finished ClientRole SID (PRF PMS Na Nb) Na Pa A Nb Pb B)) evs →
        Step evs (Notes B (session_note SID A B (PRF PMS Na Nb))) 11
    -- fig. 7
    ClientResume : {evs : trace} {A B B' : agent} {Na Nb M : nonce} {SID Pa Pb : ℕ} →
        In (Says A B (CH A Na SID Pa)) evs →
        In (Says B' A (SH Nb SID Pb)) evs →
        In (Notes A (session_note SID A B M)) evs →
        Step evs (Says A B (Finished ClientRole SID M Na Pa A Nb Pb B)) 12
    ServerResume : {evs : trace} {A A' B : agent} {Na Nb M : nonce} {SID Pa Pb : ℕ} →
        In (Says A' B (CH A Na SID Pa)) evs →
        In (Says B A (SH Nb SID Pb)) evs →
        In (Notes B (session_note SID A B M)) evs →
        Step evs (Says B A (Finished ServerRole SID M Na Pa A Nb Pb B)) 13
    -- §4.7; document 01 says outright that A may be Spy
    Oops : {evs : trace} {A B : agent} {r : role} {Na Nb M : nonce} {X : msg} →
        In (Says A B (Crypt (session_k r Na Nb M) X)) evs →
        Step evs (Says A Spy (Key (session_k r Na Nb M))) 14

  -- fig. 4, number 6: the one rule of two events, the note and the message right behind it
  pub data Exchange : trace → event → event → Type 0 where
    ClientKeyExch : {evs : trace} {A B B' : agent} {PMS : ℕ} {K : key} →
        ¬ Used (Nonce (plain PMS)) evs →
        In (Says B' A (cert B K)) evs →
        Exchange evs (Notes A (secret_note B (plain PMS))) (Says A B (Crypt K (carried A (plain PMS))))
