-- The rules of one message: each test passes exactly when the paper's rule puts the event on the trace so far.
-- Assumes nothing.
use Prim.Native.Nat.{ℕ, ◌<◌}
use mathlib.Core.Bool.{Bool, true, not, true≢false}
use mathlib.Core.List.{List}
use mathlib.Core.Path.{◌≡◌, refl, sym, ◌∙◌, ap}
use borrow.Author.Tests.{eqb-true, eq-eqb}
use Rattle.paper.specs.Message as paper
use Rattle.paper.specs.Event as event
use Rattle.paper.specs.Spy.{Spies, Analz, Synth}
use Rattle.paper.specs.Used.{Used}
use Rattle.paper.specs.Rules.{SH, Step, Fake, SpyKeys, ClientHello, ServerHello, Certificate, Oops}
use Rattle.trace.specs.File.{rows_of, events_of}
use Rattle.trace.specs.Events.{event_at}
use Rattle.trace.specs.Meaning.{message, event_meant, beginning, bad}
use Rattle.trace.specs.Promises.{Promised}
use Rattle.std.specs.Cmp.Derive.{both_true}
use Rattle.laws.proofs.Both.{both, both3, refuted}
use Rattle.laws.proofs.Options.{is_some_and_true}
use Rattle.closure.specs.Closure.{row_marked}
use Rattle.closure.proofs.Marks.{Marked}
use Rattle.forms.specs.Shapes.{RowHolds}
use Rattle.forms.proofs.Shaped.{shapes}
use Rattle.earlier.specs.Heard.{Heard}
use Rattle.earlier.specs.Earlier.{heard_at, past}
use Rattle.rules.specs.Tests.{fresh, can_make, fake, spy_keys, client_hello, server_hello, certificate, oops}
use Rattle.earlier.proofs.Meant.{says_meant, notes_meant, says_told, notes_told, not_later, here_row, not_true}
use Rattle.earlier.proofs.Premises.{event_same, says_same, notes_same, nonce_one, key_one, hello_same, cert_same, hello_for_sound, hello_for_complete, under_sound, under_complete}

-- the marks of the rows are those of the trace of the first e events
pub record Rights (file used known : List ℕ) (e : ℕ) : Type 0 where
  pub used_right : (x : ℕ) → x < rows_of file →
      (Marked used x → Used (message file x) (beginning file e)) × (Used (message file x) (beginning file e) → Marked used x)
  pub known_right : (x : ℕ) → x < rows_of file →
      (Marked known x → Analz (Spies (bad file) (beginning file e)) (message file x)) ×
      (Analz (Spies (bad file) (beginning file e)) (message file x) → Marked known x)
  pub made_right : (x : ℕ) → x < rows_of file →
      (can_make file known x ≡ true → Synth (Analz (Spies (bad file) (beginning file e))) (message file x)) ×
      (Synth (Analz (Spies (bad file) (beginning file e))) (message file x) → can_make file known x ≡ true)

reply_same : {N N' : paper.nonce} {S Q : ℕ} → N ≡ N' → SH N S Q ≡ SH N' S Q
reply_same n = rw n refl

module _ (file : List ℕ) (P : Promised file) (e : ℕ) (le : e < events_of file) where
  abbrev pub h : Heard
  h = heard_at file e

  abbrev pub here : h.row < rows_of file
  here = here_row file P e le

  -- rule n puts event e there
  abbrev pub ByRule : ℕ → Type 0
  ByRule n = Step (bad file) (beginning file e) (event_meant file (event_at file e)) n

  -- a test passes of each event that is meant by event e, and that rule n puts there
  abbrev pub Passes : ℕ → Bool → Type 0
  Passes n test = (E : event.event) → event_meant file (event_at file e) ≡ E → Step (bad file) (beginning file e) E n → test ≡ true

  module _ (used known : List ℕ) (R : Rights file used known e) where
    pub fresh_sound : (x : ℕ) → x < rows_of file → fresh file used x ≡ true →
        (n : ℕ) × (message file x ≡ paper.Nonce (paper.plain n)) × (¬ Used (paper.Nonce (paper.plain n)) (beginning file e))
    fresh_sound x l t =
        let b = both _ _ t in
        let p = (shapes file P).plain_sound x l b.0 in
        (p.0, p.1, λ u. true≢false (sym ((R.used_right x l).1 (rw p.1 u)) ∙ not_true _ b.1))

    pub fresh_complete : (x n : ℕ) → RowHolds file x (paper.Nonce (paper.plain n)) → ¬ Used (paper.Nonce (paper.plain n)) (beginning file e) →
        fresh file used x ≡ true
    fresh_complete x n h u =
        let f = refuted (row_marked used x) (λ m. u (rw h.meant at ((R.used_right x h.row).0 m))) in
        both_true ((shapes file P).plain_complete x h.row h.meant) (ap not f)

    pub fake_sound : fake file known h ≡ true → ByRule 1
    unfolding fake
    fake_sound t =
        let b = both3 _ _ _ t in
        event_same (says_meant file (event_at file e) b.0 ∙ says_same (eqb-true _ _ b.1) refl refl) (Fake ((R.made_right h.row here).0 b.2))

    pub fake_complete : ByRule 1 → fake file known h ≡ true
    unfolding fake
    fake_complete s = go _ refl s
      where
        go : Passes 1 (fake file known h)
        go _ q (Fake s) =
            let t = says_told file (event_at file e) q in
            rw (t.0, eq-eqb h.from 0 t.1, (R.made_right h.row here).1 (rw t.3 s)) refl

    pub certificate_sound : certificate file h ≡ true → ByRule 5
    unfolding certificate
    certificate_sound t =
        let b = both _ _ t in
        let (m, em, tm) = is_some_and_true b.1 in
        let c = both _ _ tm in
        let (agent, ea, ta) = is_some_and_true c.1 in
        let g = (shapes file P).signed_sound h.row here em in
        let p = (shapes file P).public_sound m.key g.1.key.row ea in
        let o = key_one (sym g.1.key.meant ∙ p.whole) ∙ ap paper.pub_k (eqb-true _ _ ta) in
        event_same
        (says_meant file (event_at file e) b.0 ∙
        says_same refl refl (g.1.whole ∙ cert_same (eqb-true _ _ c.0) o))
        Certificate

    pub certificate_complete : ByRule 5 → certificate file h ≡ true
    unfolding certificate
    certificate_complete s = go _ refl s
      where
        go : Passes 5 (certificate file h)
        go _ q Certificate =
            let t = says_told file (event_at file e) q in
            let (m, g) = (shapes file P).signed_complete h.row here t.3 in
            let p = (shapes file P).public_complete m.key g.key.row g.key.meant in
            rw (t.0, g.found, eq-eqb m.agent h.from (g.agent ∙ sym t.1), p.found, eq-eqb _ h.from (sym t.1)) refl

    pub client_hello_sound : client_hello file used h ≡ true → ByRule 3
    unfolding client_hello
    client_hello_sound t =
        let b = both _ _ t in
        let (m, em, tm) = is_some_and_true b.1 in
        let c = both _ _ tm in
        let g = (shapes file P).hello_sound h.row here em in
        let f = fresh_sound m.na g.3.na.row c.1 in
        event_same
        (says_meant file (event_at file e) b.0 ∙
        says_same refl refl (g.3.whole ∙ hello_same (eqb-true _ _ c.0) (nonce_one (sym g.3.na.meant ∙ f.1)) refl refl))
        (ClientHello f.2)

    pub client_hello_complete : ByRule 3 → client_hello file used h ≡ true
    unfolding client_hello
    client_hello_complete s = go _ refl s
      where
        go : Passes 3 (client_hello file used h)
        go _ q (ClientHello {Na = Na} u) =
            let t = says_told file (event_at file e) q in
            let (m, g) = (shapes file P).hello_complete h.row here t.3 in
            rw (t.0, g.found, eq-eqb m.agent h.from (g.agent ∙ sym t.1), fresh_complete m.na Na g.na u) refl

    pub spy_keys_sound : spy_keys file known h ≡ true → ByRule 2
    unfolding spy_keys
    spy_keys_sound t =
        let b = both _ _ t in
        let n = both _ _ b.0 in
        let (d, ed, td) = is_some_and_true b.1 in
        let c = both3 _ _ _ td in
        let g = (shapes file P).derived_sound h.row here ed in
        event_same
        (notes_meant file (event_at file e) n.0 ∙ notes_same (eqb-true _ _ n.1) g.4.whole)
        (SpyKeys (rw g.4.secret.meant at ((R.known_right d.secret g.4.secret.row).0 c.0))
        (rw g.4.na.meant at ((R.known_right d.na g.4.na.row).0 c.1))
        (rw g.4.nb.meant at ((R.known_right d.nb g.4.nb.row).0 c.2)))

    pub spy_keys_complete : ByRule 2 → spy_keys file known h ≡ true
    unfolding spy_keys
    spy_keys_complete s = go _ refl s
      where
        go : Passes 2 (spy_keys file known h)
        go _ q (SpyKeys x y z) =
            let t = notes_told file (event_at file e) q in
            let (d, g) = (shapes file P).derived_complete h.row here t.2 in
            let i = (R.known_right d.secret g.secret.row).1 (rw g.secret.meant x) in
            let j = (R.known_right d.na g.na.row).1 (rw g.na.meant y) in
            let k = (R.known_right d.nb g.nb.row).1 (rw g.nb.meant z) in
            rw (t.0, eq-eqb h.from 0 t.1, g.found, i, j, k) refl

    pub oops_sound : oops file (past file e) h ≡ true → ByRule 14
    unfolding oops
    oops_sound t =
        let b = both3 _ _ _ t in
        let (key, ek, tk) = is_some_and_true b.2 in
        let g = (shapes file P).session_sound h.row here ek in
        let u = under_sound file P e (not_later file P e le) h.from h.row tk (record { row = here; meant = g.whole }) in
        event_same (says_meant file (event_at file e) b.0 ∙ says_same refl (eqb-true _ _ b.1) g.whole) (Oops u.2)

    pub oops_complete : ByRule 14 → oops file (past file e) h ≡ true
    unfolding oops
    oops_complete s = go _ refl s
      where
        go : Passes 14 (oops file (past file e) h)
        go _ q (Oops i) =
            let t = says_told file (event_at file e) q in
            let (key, g) = (shapes file P).session_complete h.row here t.3 in
            let u = under_complete file P e (not_later file P e le) h.from h.row (rw (← t.1) at i) (record { row = here; meant = t.3 }) in
            rw (t.0, eq-eqb h.to 0 t.2, g.found, u) refl

    pub server_hello_sound : server_hello file used (past file e) h ≡ true → ByRule 4
    unfolding server_hello
    server_hello_sound t =
        let b = both _ _ t in
        let (m, em, tm) = is_some_and_true b.1 in
        let c = both _ _ tm in
        let g = (shapes file P).reply_sound h.row here em in
        let f = fresh_sound m.nb g.3.nb.row c.0 in
        let u = hello_for_sound file P e (not_later file P e le) h.from h.to m.sid c.1 g.3.sid in
        event_same
        (says_meant file (event_at file e) b.0 ∙
        says_same refl refl (g.3.whole ∙ reply_same (nonce_one (sym g.3.nb.meant ∙ f.1))))
        (ServerHello f.2 u.3)

    pub server_hello_complete : ByRule 4 → server_hello file used (past file e) h ≡ true
    unfolding server_hello
    server_hello_complete s = go _ refl s
      where
        go : Passes 4 (server_hello file used (past file e) h)
        go _ q (ServerHello {Nb = Nb} n i) =
            let t = says_told file (event_at file e) q in
            let (m, g) = (shapes file P).reply_complete h.row here t.3 in
            let u = hello_for_complete file P e (not_later file P e le) h.from h.to m.sid (rw (← t.1, ← t.2) at i) g.sid in
            rw (t.0, g.found, fresh_complete m.nb Nb g.nb n, u) refl
