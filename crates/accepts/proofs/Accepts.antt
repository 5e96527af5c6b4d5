-- The two rules that accept a session: each test passes exactly when the paper's rule puts the event there.
-- Assumes nothing.
use Prim.Native.Nat.{ℕ, ◌<◌, ◌≤◌}
use mathlib.Core.Bool.{Bool, true, false, not, ◌&&◌, true≢false}
use mathlib.Core.List.{List}
use mathlib.Core.Path.{◌≡◌, refl, sym, ◌∙◌, ap}
use Rattle.std.specs.Prelude.{Option, Some}
use lib.Dec.{eqb}
use borrow.Author.Tests.{eqb-true, eq-eqb}
use Rattle.paper.specs.Message as paper
use Rattle.paper.specs.Event as event
use Rattle.paper.specs.Event.{In}
use Rattle.paper.specs.Rules.{agreed, secret_note, Finished, Step, ClientAccepts, ServerAccepts}
use Rattle.trace.specs.File.{events_of}
use Rattle.trace.specs.declared.Role.{Role}
use Rattle.trace.specs.declared.Role.TheVariants.{Client, Server}
use Rattle.laws.specs.First.{any}
use Rattle.laws.specs.Choose.{choose}
use Rattle.trace.specs.Events.{event_at}
use Rattle.trace.specs.Meaning.{event_meant, beginning, bad, as_nonce}
use Rattle.trace.specs.Promises.{role_meant, Promised}
use Rattle.laws.proofs.First.{any_some, any_inv}
use Rattle.laws.specs.Options.{is_some_and}
use Rattle.laws.proofs.Both.{both, both3, both4, refuted}
use Rattle.laws.proofs.Options.{is_some_and_true}
use Rattle.forms.specs.Kinds.{server_in}
use Rattle.forms.specs.Forms.{sealed_of}
use Rattle.forms.specs.Shapes.{RowHolds}
use Rattle.forms.proofs.Keyed.{role_named, role_named_lem, role_client, role_server}
use Rattle.forms.proofs.Shaped.{shapes}
use Rattle.earlier.specs.Earlier.{heard_at, said_to, said_by, past}
use Rattle.accepts.specs.declared.Session.{Session}
use Rattle.accepts.specs.declared.Side.{Side}
use Rattle.accepts.specs.Tests.{said_finished, told_finished, both_finished, side_of, session_noted, client_accepts, server_accepts}
use Rattle.earlier.proofs.Meant.{notes_meant, notes_told, not_later, here_row, not_true, row_in, to_sound, by_sound, said_told}
use Rattle.earlier.proofs.Premises.{event_same, notes_same, crypt_same, number_one, nonce_one, one_message, one_row, session_same, secret_sound, secret_complete, sent_sound, sent_complete}

-- the side that is asked for
chosen : (s x : Bool) → choose s x (not x) ≡ true → x ≡ s
chosen true x t = t
chosen false x t = not_true x t

named : (s : Bool) (o : Role) → choose s (server_in o) (not (server_in o)) ≡ true → role_meant o ≡ role_named s
named s o t = sym (role_named_lem o) ∙ ap role_named (chosen s (server_in o) t)

naming : (s : Bool) (o : Role) → role_meant o ≡ role_named s → choose s (server_in o) (not (server_in o)) ≡ true
naming true o q = role_server o q
naming false o q = role_client o q

-- what a test that passes says of a value that is found
of_found : {A : Type 0} {o : Option A} {x : A} (test : A → Bool) → o ≡ Some x → is_some_and o test ≡ true → test x ≡ true
of_found test e t = rw e at t

-- the parts of a hash of what was agreed
left : paper.msg → paper.msg
left (paper.Pair X Y) = X
left (paper.Agent A) = paper.Agent A
left (paper.Number n) = paper.Number n
left (paper.Nonce N) = paper.Nonce N
left (paper.Key K) = paper.Key K
left (paper.Hash X) = paper.Hash X
left (paper.Crypt K X) = paper.Crypt K X

right : paper.msg → paper.msg
right (paper.Pair X Y) = Y
right (paper.Agent A) = paper.Agent A
right (paper.Number n) = paper.Number n
right (paper.Nonce N) = paper.Nonce N
right (paper.Key K) = paper.Key K
right (paper.Hash X) = X
right (paper.Crypt K X) = paper.Crypt K X

key_same : {R R' : paper.role} {a a' b b' c c' : paper.nonce} → R ≡ R' → a ≡ a' → b ≡ b' → c ≡ c' →
    paper.session_k R a b c ≡ paper.session_k R' a' b' c'
key_same r a b c = rw (r, a, b, c) refl

-- one hash, one Finished of each side
sealed_same : {R R' : paper.role} {S S' : ℕ} {M M' Na Na' : paper.nonce} {Pa Pa' : ℕ} {A A' : paper.agent} {Nb Nb' : paper.nonce} {Pb Pb' : ℕ} {B B' : paper.agent} →
    R ≡ R' → agreed S M Na Pa A Nb Pb B ≡ agreed S' M' Na' Pa' A' Nb' Pb' B' →
    Finished R S M Na Pa A Nb Pb B ≡ Finished R' S' M' Na' Pa' A' Nb' Pb' B'
unfolding left right
sealed_same r q =
    crypt_same
    (key_same r (ap (λ X. as_nonce (left (right (right (right X))))) q)
    (ap (λ X. as_nonce (left (right (right (right (right (right (right X)))))))) q)
    (ap (λ X. as_nonce (left (right (right X)))) q))
    q

agreed_same : {S S' : ℕ} {M M' Na Na' : paper.nonce} {Pa : ℕ} {A A' : paper.agent} {Nb Nb' : paper.nonce} {Pb : ℕ} {B B' : paper.agent} →
    S ≡ S' → M ≡ M' → Na ≡ Na' → A ≡ A' → Nb ≡ Nb' → B ≡ B' → agreed S M Na Pa A Nb Pb B ≡ agreed S' M' Na' Pa A' Nb' Pb B'
agreed_same s m x a y b = rw (s, m, x, a, y, b) refl

-- what is in the trace, of equal agents
secret_in : {A A' B B' : paper.agent} {N : paper.nonce} {evs : event.trace} → A ≡ A' → B ≡ B' →
    In (event.Notes A (secret_note B N)) evs → In (event.Notes A' (secret_note B' N)) evs
secret_in a b i = rw (a, b) at i

sent_in : {A B B' : paper.agent} {X : paper.msg} {evs : event.trace} → B ≡ B' → In (event.Says A B (paper.Crypt (paper.pub_k B) X)) evs →
    In (event.Says A B' (paper.Crypt (paper.pub_k B') X)) evs
sent_in q i = rw q at i

finished_in : {D D' F F' A A' B B' : paper.agent} {R : paper.role} {S : ℕ} {M Na : paper.nonce} {Pa : ℕ} {Nb : paper.nonce} {Pb : ℕ} {evs : event.trace} →
    D ≡ D' → F ≡ F' → A ≡ A' → B ≡ B' → In (event.Says D F (Finished R S M Na Pa A Nb Pb B)) evs →
    In (event.Says D' F' (Finished R S M Na Pa A' Nb Pb B')) evs
finished_in d f a b i = rw (d, f, a, b) at i

module _ (file : List ℕ) (P : Promised file) (e : ℕ) (o : e ≤ events_of file) where
  pub both_finished_sound : (by : Side) (s : Session) {SID : ℕ} {M Na Nb : paper.nonce} →
      both_finished file e by s ≡ true → RowHolds file s.sid (paper.Number SID) →
      RowHolds file s.m (paper.Nonce M) → RowHolds file s.na (paper.Nonce Na) → RowHolds file s.nb (paper.Nonce Nb) →
      (Pa : ℕ) × (Pb : ℕ) × (C : paper.agent) ×
      In (event.Says by.from by.to (Finished (role_named (server_in by.role)) SID M Na Pa s.a Nb Pb s.b)) (beginning file e) ×
      In (event.Says C by.from (Finished (role_named (not (server_in by.role))) SID M Na Pa s.a Nb Pb s.b)) (beginning file e)
  unfolding both_finished
  both_finished_sound by s {SID} {M} {Na} {Nb} t hs hm hna hnb =
      let other = not (server_in by.role) in
      let told : ℕ → ℕ → Bool = λ hash j. told_finished file (heard_at file j) other by.from hash in
      let (i, li, ti) =
      any_inv
      (λ i. said_finished file (heard_at file i) by s && is_some_and (sealed_of file (heard_at file i).row) (λ f. any (told f.hash) e)) e t
      in
      let y = both (said_finished file (heard_at file i) by s) _ ti in
      let u = both (said_by (heard_at file i) by.from by.to) _ y.0 in
      let (f, ef, tf) = is_some_and_true u.1 in
      let (j, lj, tj) = any_inv (told f.hash) e (of_found (λ f. any (told f.hash) e) ef y.1) in
      let w = both (said_to (heard_at file j) by.from) _ tj in
      let (k, ek, tk) = is_some_and_true w.1 in
      let z = both4 _ _ _ _ tf in
      let v = both4 _ _ _ _ z.0 in
      let c = both _ _ tk in
      let g = (shapes file P).sealed_sound (heard_at file i).row (row_in file P e o i li) ef in
      let d = (shapes file P).sealed_sound (heard_at file j).row (row_in file P e o j lj) ek in
      let q =
      agreed_same (number_one (one_message file f.sid s.sid g.6.sid v.0 hs))
      (nonce_one (one_message file f.m s.m g.6.m v.3 hm)) (nonce_one (one_message file f.na s.na g.6.na z.1 hna))
      (eqb-true f.a s.a v.1) (nonce_one (one_message file f.nb s.nb g.6.nb z.2 hnb)) (eqb-true f.b s.b v.2)
      in
      let first =
      by_sound file P e o i by.from by.to li u.0 (g.6.whole ∙ sealed_same (named (server_in by.role) f.role z.3) q)
      in
      let second =
      to_sound file P e o j by.from lj w.0
      (d.6.whole ∙
      sealed_same (named other k.role c.1) (one_message file k.hash f.hash d.6.hash c.0 g.6.hash ∙ q))
      in
      (g.3, g.5, second.0, first, second.1)

  pub both_finished_complete : (by : Side) (s : Session) {SID : ℕ} {M Na Nb : paper.nonce} {Pa Pb : ℕ} {C : paper.agent} →
      In (event.Says by.from by.to (Finished (role_named (server_in by.role)) SID M Na Pa s.a Nb Pb s.b)) (beginning file e) →
      In (event.Says C by.from (Finished (role_named (not (server_in by.role))) SID M Na Pa s.a Nb Pb s.b)) (beginning file e) →
      RowHolds file s.sid (paper.Number SID) → RowHolds file s.m (paper.Nonce M) → RowHolds file s.na (paper.Nonce Na) →
      RowHolds file s.nb (paper.Nonce Nb) → both_finished file e by s ≡ true
  unfolding both_finished
  both_finished_complete by s i j hs hm hna hnb =
      let other = not (server_in by.role) in
      let told : ℕ → ℕ → Bool = λ hash j. told_finished file (heard_at file j) other by.from hash in
      let t = said_told file P e o i in
      let u = said_told file P e o j in
      let (f, isf) = (shapes file P).sealed_complete (heard_at file t.at).row t.row t.meant in
      let (k, isk) = (shapes file P).sealed_complete (heard_at file u.at).row u.row u.meant in
      let inner =
      any_some (told f.hash) e u.at u.before
      (rw (u.to, isk.found, one_row file P k.hash f.hash isk.hash isf.hash, naming other k.role isk.role) refl)
      in
      any_some
      (λ i. said_finished file (heard_at file i) by s && is_some_and (sealed_of file (heard_at file i).row) (λ f. any (told f.hash) e))
      e t.at t.before
      (rw (
        t.by,
        isf.found,
        inner,
        one_row file P f.sid s.sid isf.sid hs,
        eq-eqb f.a s.a isf.a,
        eq-eqb f.b s.b isf.b,
        one_row file P f.m s.m isf.m hm,
        one_row file P f.na s.na isf.na hna,
        one_row file P f.nb s.nb isf.nb hnb,
        naming (server_in by.role) f.role isf.role,
      ) refl)

module _ (file : List ℕ) (P : Promised file) (e : ℕ) (le : e < events_of file) where
  pub client_accepts_sound : client_accepts file (past file e) (both_finished file e) (heard_at file e) ≡ true →
      Step (bad file) (beginning file e) (event_meant file (event_at file e)) 10
  unfolding client_accepts
  client_accepts_sound t =
      let h = heard_at file e in
      let o = not_later file P e le in
      let b = both (not h.says) _ t in
      let (n, en, tn) = is_some_and_true b.1 in
      let (p, ep, tp) = is_some_and_true tn in
      let c = both3 _ _ _ tp in
      let g = (shapes file P).remembered_sound h.row (here_row file P e le) en in
      let f = (shapes file P).prf_sound n.m g.2.m.row ep in
      let q = sym (eqb-true n.a h.from c.0) in
      let s = secret_in q refl (secret_sound file P e o h.from n.b p.secret c.1 f.secret) in
      let x =
      both_finished_sound file P e o (side_of Client n.a n.b) (session_noted n p) c.2
      g.2.sid (record { row = g.2.m.row; meant = f.whole }) f.na f.nb
      in
      event_same
      (notes_meant file (event_at file e) b.0 ∙
      notes_same q (g.2.whole ∙ session_same refl refl refl (nonce_one (sym g.2.m.meant ∙ f.whole))))
      (ClientAccepts s x.3 x.4)

  pub client_accepts_complete : Step (bad file) (beginning file e) (event_meant file (event_at file e)) 10 →
      client_accepts file (past file e) (both_finished file e) (heard_at file e) ≡ true
  unfolding client_accepts
  client_accepts_complete s = go refl s
    where
      go : {E : event.event} → event_meant file (event_at file e) ≡ E → Step (bad file) (beginning file e) E 10 →
          client_accepts file (past file e) (both_finished file e) (heard_at file e) ≡ true
      go q (ClientAccepts s i j) =
          let h = heard_at file e in
          let o = not_later file P e le in
          let t = notes_told file (event_at file e) q in
          let (n, isn) = (shapes file P).remembered_complete h.row (here_row file P e le) t.2 in
          let (p, isp) = (shapes file P).prf_complete n.m isn.m.row isn.m.meant in
          let a = sym isn.a in
          let b = sym isn.b in
          let x = secret_complete file P e o h.from n.b p.secret (secret_in (sym t.1) b s) isp.secret in
          let y =
          both_finished_complete file P e o (side_of Client n.a n.b) (session_noted n p)
          (finished_in a b a b i) (finished_in refl a a b j) isn.sid isn.m isp.na isp.nb
          in
          rw (t.0, isn.found, isp.found, eq-eqb n.a h.from (isn.a ∙ sym t.1), x, y) refl

  pub server_accepts_sound : server_accepts file (past file e) (both_finished file e) (heard_at file e) ≡ true →
      Step (bad file) (beginning file e) (event_meant file (event_at file e)) 11
  unfolding server_accepts
  server_accepts_sound t =
      let h = heard_at file e in
      let o = not_later file P e le in
      let b = both (not h.says) _ t in
      let (n, en, tn) = is_some_and_true b.1 in
      let (p, ep, tp) = is_some_and_true tn in
      let c = both4 _ _ _ _ tp in
      let g = (shapes file P).remembered_sound h.row (here_row file P e le) en in
      let f = (shapes file P).prf_sound n.m g.2.m.row ep in
      let q = sym (eqb-true n.b h.from c.0) in
      let s = sent_sound file P e o h.from p.secret c.2 f.secret in
      let x =
      both_finished_sound file P e o (side_of Server n.b n.a) (session_noted n p) c.3
      g.2.sid (record { row = g.2.m.row; meant = f.whole }) f.na f.nb
      in
      event_same
      (notes_meant file (event_at file e) b.0 ∙
      notes_same q (g.2.whole ∙ session_same refl refl refl (nonce_one (sym g.2.m.meant ∙ f.whole))))
      (ServerAccepts (λ z. true≢false (sym (eq-eqb n.a n.b z) ∙ not_true (eqb n.a n.b) c.1)) (sent_in q s.1) x.3 x.4)

  pub server_accepts_complete : Step (bad file) (beginning file e) (event_meant file (event_at file e)) 11 →
      server_accepts file (past file e) (both_finished file e) (heard_at file e) ≡ true
  unfolding server_accepts
  server_accepts_complete s = go refl s
    where
      go : {E : event.event} → event_meant file (event_at file e) ≡ E → Step (bad file) (beginning file e) E 11 →
          server_accepts file (past file e) (both_finished file e) (heard_at file e) ≡ true
      go q (ServerAccepts d s i j) =
          let h = heard_at file e in
          let o = not_later file P e le in
          let t = notes_told file (event_at file e) q in
          let (n, isn) = (shapes file P).remembered_complete h.row (here_row file P e le) t.2 in
          let (p, isp) = (shapes file P).prf_complete n.m isn.m.row isn.m.meant in
          let a = sym isn.a in
          let b = sym isn.b in
          let k = refuted (eqb n.a n.b) (λ z. d (a ∙ eqb-true n.a n.b z ∙ isn.b)) in
          let x = sent_complete file P e o h.from p.secret (sent_in (sym t.1) s) isp.secret in
          let y =
          both_finished_complete file P e o (side_of Server n.b n.a) (session_noted n p)
          (finished_in b a a b i) (finished_in refl b a b j) isn.sid isn.m isp.na isp.nb
          in
          rw (t.0, isn.found, isp.found, eq-eqb n.b h.from (isn.b ∙ sym t.1), k, x, y) refl
