-- The rules of Finished: each test passes exactly when the paper's rule puts the event there.
-- Assumes nothing.
use Prim.Native.Nat.{ℕ, ◌<◌}
use mathlib.Core.Bool.{Bool, true, not, ◌&&◌, true≢false}
use mathlib.Core.List.{List}
use mathlib.Core.Path.{◌≡◌, refl, sym, ◌∙◌, ap}
use lib.Dec.{eqb}
use borrow.Author.Tests.{eqb-true, eq-eqb}
use Rattle.std.specs.Prelude.{Some}
use Rattle.paper.specs.Message as paper
use Rattle.paper.specs.Event as event
use Rattle.paper.specs.Event.{In}
use Rattle.paper.specs.Rules.{CH, SH, Finished, secret_note, session_note, carried, Step, ClientFinished, ServerFinished, ClientResume, ServerResume}
use Rattle.trace.specs.File.{events_of}
use Rattle.trace.specs.Events.{event_at}
use Rattle.trace.specs.Meaning.{event_meant, beginning, bad, message}
use Rattle.trace.specs.Promises.{role_meant, Promised}
use Rattle.trace.specs.declared.Role.{Role}
use Rattle.trace.specs.declared.Role.TheVariants.{Client, Server}
use Rattle.laws.proofs.Both.{both, both3}
use Rattle.laws.proofs.Options.{and_then_some, is_some_and_true, then_some_true}
use Rattle.forms.specs.Kinds.{server_in, prf_of}
use Rattle.forms.specs.Forms.{sealed_of}
use Rattle.forms.specs.Shapes.{RowHolds, IsSealed}
use Rattle.forms.specs.declared.Sealed.{Sealed}
use Rattle.forms.proofs.Shaped.{shapes}
use Rattle.forms.proofs.Keyed.{role_client, role_server}
use Rattle.earlier.specs.declared.Wanted.{Wanted}
use Rattle.earlier.specs.declared.Wanted.TheVariants.{Said, Noted}
use Rattle.earlier.specs.declared.Who.TheVariants.{To, By}
use Rattle.earlier.specs.declared.What.TheVariants as what
use Rattle.earlier.specs.declared.Note.TheVariants as note
use Rattle.earlier.specs.Earlier.{heard_at, past}
use Rattle.earlier.proofs.Meant.{says_meant, says_told, not_later, here_row}
use Rattle.earlier.proofs.Premises.{event_same, says_same, nonce_one, one_message, one_row, hello_by_sound, hello_by_complete, hello_to_sound, hello_to_complete, reply_to_sound, reply_to_complete, reply_by_sound, reply_by_complete, secret_sound, secret_complete, sent_sound, sent_complete, session_sound, session_complete}
use Rattle.finished.specs.Tests.{own_finished, secret_of, hello_in, reply_in, session_in, greeted, client_finished, server_finished, client_resume, server_resume}
use Rattle.finished.proofs.Owned.{own_is}

as_client : (o : Role) → not (server_in o) ≡ true → o ≡ Client
as_client Client t = refl
as_client Server t = absurd (true≢false (sym t))

as_server : (o : Role) → server_in o ≡ true → o ≡ Server
as_server Server t = refl
as_server Client t = absurd (true≢false (sym t))

-- who says the Finished of a role to whom
abbrev said : Role → (A B : paper.agent) → paper.msg → event.event
said Client A B X = event.Says A B X
said Server A B X = event.Says B A X

client_named : (o : Role) → role_meant o ≡ paper.ClientRole → o ≡ Client
client_named o q = as_client o (role_client o q)

server_named : (o : Role) → role_meant o ≡ paper.ServerRole → o ≡ Server
server_named o q = as_server o (role_server o q)

finished_same : {R R' : paper.role} {SID : ℕ} {M M' Na : paper.nonce} {Pa : ℕ} {A : paper.agent} {Nb : paper.nonce} {Pb : ℕ} {B : paper.agent} →
    R ≡ R' → M ≡ M' → Finished R SID M Na Pa A Nb Pb B ≡ Finished R' SID M' Na Pa A Nb Pb B
finished_same r q = rw (r, q) refl

client_greeted : (find : Wanted → Bool) (m : Sealed) → m.role ≡ Client →
    greeted find m ≡ (find (Said (By m.a m.b) (hello_in m)) && find (Said (To m.a) (reply_in m)))
client_greeted find m r = rw r refl

server_greeted : (find : Wanted → Bool) (m : Sealed) → m.role ≡ Server →
    greeted find m ≡ (find (Said (To m.b) (hello_in m)) && find (Said (By m.b m.a) (reply_in m)))
server_greeted find m r = rw r refl

module _ (file : List ℕ) (P : Promised file) (e : ℕ) (le : e < events_of file) where
  own_said : (role : Role) {m : Sealed} → own_finished file (heard_at file e) role ≡ Some m →
      (sealed_of file (heard_at file e).row ≡ Some m) × (m.role ≡ role) ×
      (event_meant file (event_at file e) ≡ said role m.a m.b (message file (heard_at file e).row))
  own_said Client {m} own =
      let (says, sealed, o) = own_is file (heard_at file e) Client own in
      let (role, a, b) = both3 _ _ _ o in
      (sealed, as_client m.role role, rw (says_meant file (event_at file e) says, eqb-true m.a _ a, eqb-true m.b _ b) refl)
  own_said Server {m} own =
      let (says, sealed, o) = own_is file (heard_at file e) Server own in
      let (role, b, a) = both3 _ _ _ o in
      (sealed, as_server m.role role, rw (says_meant file (event_at file e) says, eqb-true m.a _ a, eqb-true m.b _ b) refl)

  -- of the Finished m that event e says
  module _
      {m : Sealed} {R : paper.role} {SID : ℕ} {M Na : paper.nonce} {Pa : ℕ} {A : paper.agent} {Nb : paper.nonce} {Pb : ℕ} {B : paper.agent}
      (g : IsSealed file (heard_at file e).row m R SID M Na Pa A Nb Pb B)
    where
      owned : (role : Role) (X : paper.msg) → m.role ≡ role → event_meant file (event_at file e) ≡ said role A B X →
          own_finished file (heard_at file e) role ≡ Some m
      owned Client X r q =
          let t = says_told file (event_at file e) q in
          rw (t.0, g.found, ap (λ o. not (server_in o)) r, eq-eqb m.a _ (g.a ∙ sym t.1), eq-eqb m.b _ (g.b ∙ sym t.2)) refl
      owned Server X r q =
          let t = says_told file (event_at file e) q in
          rw (t.0, g.found, ap server_in r, eq-eqb m.b _ (g.b ∙ sym t.1), eq-eqb m.a _ (g.a ∙ sym t.2)) refl

      client_told : m.role ≡ Client → greeted (past file e) m ≡ true →
          In (event.Says m.a m.b (CH m.a Na SID Pa)) (beginning file e) ×
          ((B' : paper.agent) × In (event.Says B' m.a (SH Nb SID Pb)) (beginning file e))
      client_told r t =
          let w = both _ _ (sym (client_greeted (past file e) m r) ∙ t) in (
            hello_by_sound file P e (not_later file P e le) m.a m.b m.na m.sid m.pa w.0 g.na g.sid g.pa,
            reply_to_sound file P e (not_later file P e le) m.a m.nb m.sid m.pb w.1 g.nb g.sid g.pb,
          )

      client_tells : {B' : paper.agent} → m.role ≡ Client → In (event.Says A B (CH A Na SID Pa)) (beginning file e) →
          In (event.Says B' A (SH Nb SID Pb)) (beginning file e) → greeted (past file e) m ≡ true
      client_tells r i j =
          let x = hello_by_complete file P e (not_later file P e le) m.a m.b m.na m.sid m.pa (rw (← g.a, ← g.b) at i) g.na g.sid g.pa in
          let y = reply_to_complete file P e (not_later file P e le) m.a m.nb m.sid m.pb (rw (← g.a) at j) g.nb g.sid g.pb in
          client_greeted (past file e) m r ∙ rw (x, y) refl

      server_told : m.role ≡ Server → greeted (past file e) m ≡ true →
          ((A' : paper.agent) × In (event.Says A' m.b (CH m.a Na SID Pa)) (beginning file e)) ×
          In (event.Says m.b m.a (SH Nb SID Pb)) (beginning file e)
      server_told r t =
          let w = both _ _ (sym (server_greeted (past file e) m r) ∙ t) in (
            hello_to_sound file P e (not_later file P e le) m.b m.a m.na m.sid m.pa w.0 g.na g.sid g.pa,
            reply_by_sound file P e (not_later file P e le) m.b m.a m.nb m.sid m.pb w.1 g.nb g.sid g.pb,
          )

      server_tells : {A' : paper.agent} → m.role ≡ Server → In (event.Says A' B (CH A Na SID Pa)) (beginning file e) →
          In (event.Says B A (SH Nb SID Pb)) (beginning file e) → greeted (past file e) m ≡ true
      server_tells r i j =
          let x = hello_to_complete file P e (not_later file P e le) m.b m.a m.na m.sid m.pa (rw (← g.a, ← g.b) at i) g.na g.sid g.pa in
          let y = reply_by_complete file P e (not_later file P e le) m.b m.a m.nb m.sid m.pb (rw (← g.a, ← g.b) at j) g.nb g.sid g.pb in
          server_greeted (past file e) m r ∙ rw (x, y) refl

      session_noted : (who : ℕ) {C : paper.agent} → who ≡ C → In (event.Notes C (session_note SID A B M)) (beginning file e) →
          past file e (Noted who (session_in m)) ≡ true
      session_noted who w k =
          session_complete file P e (not_later file P e le) who m.sid m.a m.b m.m (rw (← w, ← g.a, ← g.b) at k) g.sid g.m

      -- the secret of a Finished is the one that its M is made of
      secret_found : {secret : ℕ} → secret_of file m ≡ Some secret →
          (PMS : paper.nonce) × RowHolds file secret (paper.Nonce PMS) × (M ≡ paper.PRF PMS Na Nb)
      secret_found h =
          let (p, ep, hp) = and_then_some {o = prf_of file m.m} h in
          let (t, secret) = then_some_true {b = eqb p.na m.na && eqb p.nb m.nb} hp in
          let same = both _ _ t in
          let f = (shapes file P).prf_sound m.m g.m.row ep in
          let na = nonce_one (one_message file p.na m.na f.na same.0 g.na) in
          let nb = nonce_one (one_message file p.nb m.nb f.nb same.1 g.nb) in
          (_, rw secret at f.secret, rw (na, nb, secret) at (nonce_one (sym g.m.meant ∙ f.whole)))

      secret_told : {PMS : paper.nonce} → M ≡ paper.PRF PMS Na Nb →
          (secret : ℕ) × (secret_of file m ≡ Some secret) × RowHolds file secret (paper.Nonce PMS)
      secret_told q =
          let (p, f) = (shapes file P).prf_complete m.m g.m.row (g.m.meant ∙ ap paper.Nonce q) in
          (p.secret, rw (f.found, one_row file P p.na m.na f.na g.na, one_row file P p.nb m.nb f.nb g.nb) refl, f.secret)

      secret_noted : {secret : ℕ} {PMS : paper.nonce} → RowHolds file secret (paper.Nonce PMS) →
          In (event.Notes A (secret_note B PMS)) (beginning file e) → past file e (Noted m.a (note.Secret m.b secret)) ≡ true
      secret_noted {secret} x k = secret_complete file P e (not_later file P e le) m.a m.b secret (rw (← g.a, ← g.b) at k) x

      secret_sent : {secret : ℕ} {PMS : paper.nonce} {A' : paper.agent} → RowHolds file secret (paper.Nonce PMS) →
          In (event.Says A' B (paper.Crypt (paper.pub_k B) (carried A PMS))) (beginning file e) → past file e (Said (To m.b) (what.Sent m.b secret)) ≡ true
      secret_sent {secret} x k = sent_complete file P e (not_later file P e le) m.b secret (rw (← g.b) at k) x

  pub client_resume_sound : client_resume file (past file e) (heard_at file e) ≡ true → Step (bad file) (beginning file e) (event_meant file (event_at file e)) 12
  unfolding client_resume
  client_resume_sound t =
      let (m, own, h) = is_some_and_true t in
      let b = both _ _ h in
      let (sealed, role, event) = own_said Client own in
      let (_, _, _, _, _, _, g) = (shapes file P).sealed_sound _ (here_row file P e le) sealed in
      let (hello, (_, reply)) = client_told g role b.0 in
      let note = session_sound file P e (not_later file P e le) m.a m.sid m.a m.b m.m b.1 g.sid g.m in
      event_same (event ∙ says_same refl refl (g.whole ∙ finished_same (ap role_meant role) refl)) (ClientResume hello reply note)

  pub client_resume_complete : Step (bad file) (beginning file e) (event_meant file (event_at file e)) 12 → client_resume file (past file e) (heard_at file e) ≡ true
  unfolding client_resume
  client_resume_complete s = go refl s
    where
      go : {E : event.event} → event_meant file (event_at file e) ≡ E → Step (bad file) (beginning file e) E 12 → client_resume file (past file e) (heard_at file e) ≡ true
      go q (ClientResume i j k) =
          let (m, g) = (shapes file P).sealed_complete _ (here_row file P e le) (says_told file (event_at file e) q).3 in
          let r = client_named m.role g.role in
          rw (owned g Client _ r q, client_tells g r i j, session_noted g m.a g.a k) refl

  pub server_resume_sound : server_resume file (past file e) (heard_at file e) ≡ true → Step (bad file) (beginning file e) (event_meant file (event_at file e)) 13
  unfolding server_resume
  server_resume_sound t =
      let (m, own, h) = is_some_and_true t in
      let b = both _ _ h in
      let (sealed, role, event) = own_said Server own in
      let (_, _, _, _, _, _, g) = (shapes file P).sealed_sound _ (here_row file P e le) sealed in
      let ((_, hello), reply) = server_told g role b.0 in
      let note = session_sound file P e (not_later file P e le) m.b m.sid m.a m.b m.m b.1 g.sid g.m in
      event_same (event ∙ says_same refl refl (g.whole ∙ finished_same (ap role_meant role) refl)) (ServerResume hello reply note)

  pub server_resume_complete : Step (bad file) (beginning file e) (event_meant file (event_at file e)) 13 → server_resume file (past file e) (heard_at file e) ≡ true
  unfolding server_resume
  server_resume_complete s = go refl s
    where
      go : {E : event.event} → event_meant file (event_at file e) ≡ E → Step (bad file) (beginning file e) E 13 → server_resume file (past file e) (heard_at file e) ≡ true
      go q (ServerResume i j k) =
          let (m, g) = (shapes file P).sealed_complete _ (here_row file P e le) (says_told file (event_at file e) q).3 in
          let r = server_named m.role g.role in
          rw (owned g Server _ r q, server_tells g r i j, session_noted g m.b g.b k) refl

  pub client_finished_sound : client_finished file (past file e) (heard_at file e) ≡ true → Step (bad file) (beginning file e) (event_meant file (event_at file e)) 8
  unfolding client_finished
  client_finished_sound t =
      let (m, own, hm) = is_some_and_true t in
      let (secret, es, h) = is_some_and_true hm in
      let b = both _ _ h in
      let (sealed, role, event) = own_said Client own in
      let (_, _, _, _, _, _, g) = (shapes file P).sealed_sound _ (here_row file P e le) sealed in
      let (hello, (_, reply)) = client_told g role b.0 in
      let (PMS, x, prf) = secret_found g es in
      let kept = secret_sound file P e (not_later file P e le) m.a m.b secret b.1 x in
      event_same (event ∙ says_same refl refl (g.whole ∙ finished_same (ap role_meant role) prf)) (ClientFinished hello reply kept)

  pub client_finished_complete : Step (bad file) (beginning file e) (event_meant file (event_at file e)) 8 → client_finished file (past file e) (heard_at file e) ≡ true
  unfolding client_finished
  client_finished_complete s = go refl s
    where
      go : {E : event.event} → event_meant file (event_at file e) ≡ E → Step (bad file) (beginning file e) E 8 → client_finished file (past file e) (heard_at file e) ≡ true
      go q (ClientFinished i j k) =
          let (m, g) = (shapes file P).sealed_complete _ (here_row file P e le) (says_told file (event_at file e) q).3 in
          let r = client_named m.role g.role in
          let (secret, es, x) = secret_told g refl in
          rw (owned g Client _ r q, es, client_tells g r i j, secret_noted g x k) refl

  pub server_finished_sound : server_finished file (past file e) (heard_at file e) ≡ true → Step (bad file) (beginning file e) (event_meant file (event_at file e)) 9
  unfolding server_finished
  server_finished_sound t =
      let (m, own, hm) = is_some_and_true t in
      let (secret, es, h) = is_some_and_true hm in
      let b = both _ _ h in
      let (sealed, role, event) = own_said Server own in
      let (_, _, _, _, _, _, g) = (shapes file P).sealed_sound _ (here_row file P e le) sealed in
      let ((_, hello), reply) = server_told g role b.0 in
      let (PMS, x, prf) = secret_found g es in
      let (_, kept) = sent_sound file P e (not_later file P e le) m.b secret b.1 x in
      event_same (event ∙ says_same refl refl (g.whole ∙ finished_same (ap role_meant role) prf)) (ServerFinished hello reply kept)

  pub server_finished_complete : Step (bad file) (beginning file e) (event_meant file (event_at file e)) 9 → server_finished file (past file e) (heard_at file e) ≡ true
  unfolding server_finished
  server_finished_complete s = go refl s
    where
      go : {E : event.event} → event_meant file (event_at file e) ≡ E → Step (bad file) (beginning file e) E 9 → server_finished file (past file e) (heard_at file e) ≡ true
      go q (ServerFinished i j k) =
          let (m, g) = (shapes file P).sealed_complete _ (here_row file P e le) (says_told file (event_at file e) q).3 in
          let r = server_named m.role g.role in
          let (secret, es, x) = secret_told g refl in
          rw (owned g Server _ r q, es, server_tells g r i j, secret_sent g x k) refl
