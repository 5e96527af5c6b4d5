-- The key exchange and the certificate's proof: each test passes exactly when the paper's rule puts the event there.
-- Assumes nothing.
use Prim.Native.Nat.{ℕ, suc, ◌<◌}
use mathlib.Core.Bool.{true}
use mathlib.Core.List.{List}
use mathlib.Core.Path.{◌≡◌, refl, sym, ◌∙◌, ap}
use borrow.Author.Tests.{eqb-true, eq-eqb}
use Rattle.paper.specs.Message as paper
use Rattle.paper.specs.Event as event
use Rattle.paper.specs.Rules.{CertVerify, Exchange, ClientKeyExch}
use Rattle.trace.specs.File.{events_of}
use Rattle.trace.specs.Events.{event_at}
use Rattle.trace.specs.Meaning.{message, event_meant, beginning, bad}
use Rattle.trace.specs.Promises.{Promised}
use Rattle.laws.proofs.Both.{both, both3, both4}
use Rattle.laws.proofs.Options.{is_some_and_true}
use Rattle.forms.proofs.Shaped.{shapes}
use Rattle.earlier.specs.Heard.{Heard}
use Rattle.earlier.specs.Earlier.{heard_at, past}
use Rattle.rules.specs.Tests.{key_exchange, cert_verify}
use Rattle.earlier.proofs.Meant.{says_meant, notes_meant, says_told, notes_told, not_later, here_row}
use Rattle.earlier.proofs.Premises.{event_same, says_same, notes_same, crypt_same, nonce_one, one_row, note_same, reply_with_sound, reply_with_complete, cert_sound, cert_complete, secret_sound, secret_complete}
use Rattle.rules.proofs.Steps.{Rights, ByRule, Passes, fresh_sound, fresh_complete}

verify_same : {A A' B B' : paper.agent} {N S : paper.nonce} → A ≡ A' → B ≡ B' →
    paper.Crypt (paper.pri_k A) (paper.Hash (paper.Pair (paper.Nonce N) (paper.Pair (paper.Agent B) (paper.Nonce S)))) ≡
    paper.Crypt (paper.pri_k A') (paper.Hash (paper.Pair (paper.Nonce N) (paper.Pair (paper.Agent B') (paper.Nonce S))))
verify_same a b = rw (a, b) refl

exchange_same : {b : paper.agent → Type 0} {evs : event.trace} {E E' F F' : event.event} → E ≡ E' → F ≡ F' → Exchange b evs E' F' → Exchange b evs E F
exchange_same p q x = rw (p, q) x

-- rule 6: this event and the next
module _ (file : List ℕ) (P : Promised file) (e : ℕ) (le : e < events_of file) (next : suc e < events_of file) (used known : List ℕ) (R : Rights file used known e) where
  abbrev note : Heard
  note = heard_at file e

  abbrev said : Heard
  said = heard_at file (suc e)

  pub key_exchange_sound : key_exchange file used (past file e) note said ≡ true →
      Exchange (bad file) (beginning file e) (event_meant file (event_at file e)) (event_meant file (event_at file (suc e)))
  unfolding key_exchange
  key_exchange_sound t =
      let b = both _ _ t in
      let (k, ek, tk) = is_some_and_true b.1 in
      let d = both3 _ _ _ tk in
      let y = both3 _ _ _ d.1 in
      let (c, ec, tc) = is_some_and_true d.2 in
      let s = both _ _ tc in
      let g = (shapes file P).kept_sound note.row (here_row file P e le) ek in
      let f = fresh_sound file P e le used known R k.secret g.1.secret.row d.0 in
      let x = (shapes file P).crypt_sound said.row (here_row file P (suc e) next) ec in
      let i = cert_sound file P e (not_later file P e le) note.from k.agent c.key s.1 x.key in
      exchange_same
      (notes_meant file (event_at file e) b.0 ∙
      notes_same refl (g.1.whole ∙ note_same refl (nonce_one (sym g.1.secret.meant ∙ f.1))))
      (says_meant file (event_at file (suc e)) y.0 ∙
      says_same (eqb-true _ _ y.1) (eqb-true _ _ y.2)
      (x.whole ∙ crypt_same refl (ap (message file) (eqb-true _ _ s.0) ∙ f.1)))
      (ClientKeyExch f.2 i.1)

  pub key_exchange_complete : Exchange (bad file) (beginning file e) (event_meant file (event_at file e)) (event_meant file (event_at file (suc e))) →
      key_exchange file used (past file e) note said ≡ true
  unfolding key_exchange
  key_exchange_complete x = go refl refl x
    where
      go : {E F : event.event} → event_meant file (event_at file e) ≡ E → event_meant file (event_at file (suc e)) ≡ F →
          Exchange (bad file) (beginning file e) E F → key_exchange file used (past file e) note said ≡ true
      go p q (ClientKeyExch {PMS = PMS} n i) =
          let t = notes_told file (event_at file e) p in
          let y = says_told file (event_at file (suc e)) q in
          let (k, g) = (shapes file P).kept_complete note.row (here_row file P e le) t.2 in
          let (c, x) = (shapes file P).crypt_complete said.row (here_row file P (suc e) next) y.3 in
          let f = fresh_complete file P e le used known R k.secret PMS g.secret n in
          let u = cert_complete file P e (not_later file P e le) note.from k.agent c.key (rw (← t.1, ← g.agent) at i) x.key in
          rw (
            t.0,
            g.found,
            f,
            y.0,
            eq-eqb said.from note.from (y.1 ∙ sym t.1),
            eq-eqb said.to k.agent (y.2 ∙ sym g.agent),
            x.found,
            one_row file P c.body k.secret x.body g.secret,
            u,
          ) refl

module _ (file : List ℕ) (P : Promised file) (e : ℕ) (le : e < events_of file) where
  abbrev h : Heard
  h = heard_at file e

  pub cert_verify_sound : cert_verify file (past file e) h ≡ true → ByRule file P e le 7
  unfolding cert_verify
  cert_verify_sound t =
      let o = not_later file P e le in
      let b = both _ _ t in
      let (m, em, tm) = is_some_and_true b.1 in
      let c = both4 _ _ _ _ tm in
      let g = (shapes file P).verified_sound h.row (here_row file P e le) em in
      let i = reply_with_sound file P e o h.from m.nb c.2 g.2.nb in
      let j = secret_sound file P e o h.from h.to m.secret c.3 g.2.secret in
      event_same
      (says_meant file (event_at file e) b.0 ∙
      says_same refl refl (g.2.whole ∙ verify_same (eqb-true _ _ c.0) (eqb-true _ _ c.1)))
      (CertVerify i.3 j)

  pub cert_verify_complete : ByRule file P e le 7 → cert_verify file (past file e) h ≡ true
  unfolding cert_verify
  cert_verify_complete s = go _ refl s
    where
      go : Passes file P e le 7 (cert_verify file (past file e) h)
      go _ q (CertVerify i j) =
          let o = not_later file P e le in
          let t = says_told file (event_at file e) q in
          let (m, g) = (shapes file P).verified_complete h.row (here_row file P e le) t.3 in
          let x = reply_with_complete file P e o h.from m.nb (rw (← t.1) at i) g.nb in
          let y = secret_complete file P e o h.from h.to m.secret (rw (← t.1, ← t.2) at j) g.secret in
          rw (t.0, g.found, eq-eqb m.signer h.from (g.signer ∙ sym t.1), eq-eqb m.agent h.to (g.agent ∙ sym t.2), x, y) refl
