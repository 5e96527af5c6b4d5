-- Finished messages, the spy's keys and the certificate's proof: the laws of their readers, from those of their parts. Equal nonces have
-- equal rows, so a row that stands twice is compared by its number.
-- Assumes nothing.
use Prim.Native.Nat.{ℕ, ◌<◌}
use mathlib.Core.Bool.{true}
use mathlib.Core.List.{List}
use mathlib.Core.Path.{◌≡◌, refl, sym, ◌∙◌}
use lib.Dec.{eqb}
use borrow.Author.Tests.{eqb-true, eq-eqb}
use Rattle.std.specs.Prelude.{Some}
use Rattle.paper.specs.Message as paper
use Rattle.paper.specs.Rules.{agreed, Finished}
use Rattle.trace.specs.File.{rows_of}
use Rattle.trace.specs.Meaning.{message}
use Rattle.trace.specs.Promises.{role_meant, Promised}
use Rattle.laws.proofs.Both.{both, both3, both4}
use Rattle.laws.proofs.Options.{one_found, and_then_some, then_some_true}
use Rattle.forms.specs.Kinds.{session_of}
use Rattle.forms.specs.Forms.{agreement_of, sealed_of, derived_of, verified_of}
use Rattle.forms.specs.declared.leaves.Session.{Session}
use Rattle.forms.specs.declared.Agreed.{Agreed}
use Rattle.forms.specs.declared.Sealed.{Sealed}
use Rattle.forms.specs.declared.leaves.Prf.{Prf}
use Rattle.forms.specs.declared.Verified.{Verified}
use Rattle.forms.specs.Shapes.{RowHolds, IsAgreed, IsSealed, IsDerived, IsVerified}
use Rattle.forms.proofs.Inverts.{agent_complete, agent_sound, private_complete, private_sound, hash_complete, hash_sound, pair_complete, pair_sound, crypt_complete, crypt_sound, prf_complete, prf_sound, session_complete, session_sound, number_complete, number_sound, nonce_complete, nonce_sound}
use Rattle.forms.proofs.Links.{three_complete, three_sound, four_complete, four_sound}

module _ (file : List ℕ) (P : Promised file) where
  -- rows that hold one message are one row
  pub same_row : (x y : ℕ) {X : paper.msg} → RowHolds file x X → RowHolds file y X → eqb x y ≡ true
  same_row x y p q = eq-eqb x y (P.apart x y p.row q.row (p.meant ∙ sym q.meant))

  pub agreement_complete : (r : ℕ) {SID : ℕ} {M Na : paper.nonce} {Pa : ℕ} {A : paper.agent} {Nb : paper.nonce} {Pb : ℕ} {B : paper.agent} →
      r < rows_of file → message file r ≡ agreed SID M Na Pa A Nb Pb B → (x : Agreed) × IsAgreed file r x SID M Na Pa A Nb Pb B
  unfolding agreement_of
  agreement_complete r l e =
      let (h, ish) = hash_complete file P r l e in
      let (f, isf) = four_complete file P h ish.body.row ish.body.meant in
      let (p, isp) = pair_complete file P f.3 isf.fourth.row isf.fourth.meant in
      let (g, isg) = four_complete file P p.1 isp.second.row isp.second.meant in
      let sid = number_complete file P f.0 isf.first.row isf.first.meant in
      let m = nonce_complete file P f.1 isf.second.row isf.second.meant in
      let na = nonce_complete file P f.2 isf.third.row isf.third.meant in
      let pa = number_complete file P p.0 isp.first.row isp.first.meant in
      let a = agent_complete file P g.0 isg.first.row isg.first.meant in
      let nb = nonce_complete file P g.1 isg.second.row isg.second.meant in
      let pb = number_complete file P g.2 isg.third.row isg.third.meant in
      let b = agent_complete file P g.3 isg.fourth.row isg.fourth.meant in
      let x : Agreed = record { sid = f.0; m = f.1; na = f.2; pa = p.0; a = _; nb = g.1; pb = g.2; b = _ } in (
        x,
        record {
          found = rw (ish.found, isf.found, isp.found, isg.found, a.found, b.found, sid, m, na, pa, nb, pb) (refl {a = Some x});
          whole = e;
          sid = isf.first;
          m = isf.second;
          na = isf.third;
          pa = isp.first;
          a = refl;
          nb = isg.second;
          pb = isg.third;
          b = refl;
        },
      )

  agreement_told : {r : ℕ} {x : Agreed} {SID : ℕ} {M Na : paper.nonce} {Pa : ℕ} {A : paper.agent} {Nb : paper.nonce} {Pb : ℕ} {B : paper.agent} →
      agreement_of file r ≡ Some x → (y : Agreed) × IsAgreed file r y SID M Na Pa A Nb Pb B → IsAgreed file r x SID M Na Pa x.a Nb Pb x.b
  agreement_told h (y, c) = rw (← c.a, ← c.b, one_found c.found h) at c

  pub agreement_sound : (r : ℕ) {x : Agreed} → r < rows_of file → agreement_of file r ≡ Some x →
      (SID : ℕ) × (M : paper.nonce) × (Na : paper.nonce) × (Pa : ℕ) × (Nb : paper.nonce) × (Pb : ℕ) ×
      IsAgreed file r x SID M Na Pa x.a Nb Pb x.b
  unfolding agreement_of
  agreement_sound r l t =
      let (h, eh, hh) = and_then_some t in
      let (f, ef, hf) = and_then_some hh in
      let (p, ep, hp) = and_then_some hf in
      let (g, eg, hg) = and_then_some hp in
      let (a, ea, ha) = and_then_some hg in
      let (b, eb, hb) = and_then_some ha in
      let y = both4 _ _ _ _ (then_some_true hb).0 in
      let z = both3 _ _ _ y.0 in
      let ish = hash_sound file P r l eh in
      let isf = four_sound file P h ish.body.row ef in
      let isp = pair_sound file P f.3 isf.fourth.row ep in
      let isg = four_sound file P p.1 isp.second.row eg in
      let isa = agent_sound file P g.0 isg.first.row ea in
      let isb = agent_sound file P g.3 isg.fourth.row eb in
      let sid = number_sound file P f.0 isf.first.row z.0 in
      let m = nonce_sound file P f.1 isf.second.row z.1 in
      let na = nonce_sound file P f.2 isf.third.row z.2 in
      let pa = number_sound file P p.0 isp.first.row y.1 in
      let nb = nonce_sound file P g.1 isg.second.row y.2 in
      let pb = number_sound file P g.2 isg.third.row y.3 in
      let whole = rw (isf.whole, isp.whole, isg.whole, isa.whole, isb.whole, sid.1, m.1, na.1, pa.1, nb.1, pb.1) at ish.whole in
      (sid.0, m.0, na.0, pa.0, nb.0, pb.0, agreement_told t (agreement_complete r l whole))

  pub sealed_complete : (r : ℕ) {R : paper.role} {SID : ℕ} {M Na : paper.nonce} {Pa : ℕ} {A : paper.agent} {Nb : paper.nonce} {Pb : ℕ} {B : paper.agent} →
      r < rows_of file → message file r ≡ Finished R SID M Na Pa A Nb Pb B → (x : Sealed) × IsSealed file r x R SID M Na Pa A Nb Pb B
  unfolding sealed_of
  sealed_complete r l e =
      let (c, isc) = crypt_complete file P r l e in
      let (s, iss) = session_complete file P c.key isc.key.row isc.key.meant in
      let (g, isg) = agreement_complete c.body isc.body.row isc.body.meant in
      let na = same_row s.na g.na iss.na isg.na in
      let nb = same_row s.nb g.nb iss.nb isg.nb in
      let m = same_row s.m g.m iss.m isg.m in (
        _,
        record {
          found = rw (isc.found, iss.found, isg.found, na, nb, m) refl;
          whole = e;
          role = iss.role;
          hash = isc.body;
          sid = isg.sid;
          m = isg.m;
          na = isg.na;
          pa = isg.pa;
          a = isg.a;
          nb = isg.nb;
          pb = isg.pb;
          b = isg.b;
        },
      )

  sealed_told : {r : ℕ} {x : Sealed} {R : paper.role} {SID : ℕ} {M Na : paper.nonce} {Pa : ℕ} {A : paper.agent} {Nb : paper.nonce} {Pb : ℕ} {B : paper.agent} →
      sealed_of file r ≡ Some x → (y : Sealed) × IsSealed file r y R SID M Na Pa A Nb Pb B →
      IsSealed file r x (role_meant x.role) SID M Na Pa x.a Nb Pb x.b
  sealed_told h (y, c) = rw (← c.role, ← c.a, ← c.b, one_found c.found h) at c

  -- the session key of rows that hold the nonces Na, Nb and M
  session_key : (k x y z : ℕ) {s : Session} {Na Nb M : paper.nonce} → k < rows_of file → session_of file k ≡ Some s →
      s.na ≡ x → s.nb ≡ y → s.m ≡ z →
      RowHolds file x (paper.Nonce Na) → RowHolds file y (paper.Nonce Nb) → RowHolds file z (paper.Nonce M) →
      message file k ≡ paper.Key (paper.session_k (role_meant s.role) Na Nb M)
  session_key k x y z l h ex ey ez hx hy hz =
      rw ((session_sound file P k l h).whole, ex, ey, ez, hx.meant, hy.meant, hz.meant) refl

  pub sealed_sound : (r : ℕ) {x : Sealed} → r < rows_of file → sealed_of file r ≡ Some x →
      (SID : ℕ) × (M : paper.nonce) × (Na : paper.nonce) × (Pa : ℕ) × (Nb : paper.nonce) × (Pb : ℕ) ×
      IsSealed file r x (role_meant x.role) SID M Na Pa x.a Nb Pb x.b
  unfolding sealed_of
  sealed_sound r l h =
      let (c, ec, hc) = and_then_some h in
      let (s, es, hs) = and_then_some hc in
      let (g, eg, hg) = and_then_some hs in
      let isc = crypt_sound file P r l ec in
      let (SID, M, Na, Pa, Nb, Pb, isg) = agreement_sound c.body isc.body.row eg in
      let b = both3 _ _ _ (then_some_true hg).0 in
      let key = session_key c.key g.na g.nb g.m isc.key.row es (eqb-true _ _ b.0) (eqb-true _ _ b.1) (eqb-true _ _ b.2) isg.na isg.nb isg.m in
      (SID, M, Na, Pa, Nb, Pb, sealed_told h (sealed_complete r l (rw (key, isg.whole) at isc.whole)))

  pub derived_complete : (r : ℕ) {R : paper.role} {M Na Nb : paper.nonce} → r < rows_of file →
      message file r ≡ paper.Pair (paper.Nonce (paper.PRF M Na Nb)) (paper.Key (paper.session_k R Na Nb M)) →
      (x : Prf) × IsDerived file r x R M Na Nb
  unfolding derived_of
  derived_complete r l e =
      let (p, isp) = pair_complete file P r l e in
      let (f, isf) = prf_complete file P p.0 isp.first.row isp.first.meant in
      let (s, iss) = session_complete file P p.1 isp.second.row isp.second.meant in
      let m = same_row f.secret s.m isf.secret iss.m in
      let na = same_row f.na s.na isf.na iss.na in
      let nb = same_row f.nb s.nb isf.nb iss.nb in
      (_, record { found = rw (isp.found, isf.found, iss.found, m, na, nb) refl; whole = e; secret = isf.secret; na = isf.na; nb = isf.nb })

  derived_told : {r : ℕ} {x : Prf} {R : paper.role} {M Na Nb : paper.nonce} → derived_of file r ≡ Some x →
      (y : Prf) × IsDerived file r y R M Na Nb → IsDerived file r x R M Na Nb
  derived_told h (y, c) = rw (one_found c.found h) at c

  pub derived_sound : (r : ℕ) {x : Prf} → r < rows_of file → derived_of file r ≡ Some x →
      (R : paper.role) × (M : paper.nonce) × (Na : paper.nonce) × (Nb : paper.nonce) × IsDerived file r x R M Na Nb
  unfolding derived_of
  derived_sound r l h =
      let (p, ep, hp) = and_then_some h in
      let (f, ef, hf) = and_then_some hp in
      let (s, es, hs) = and_then_some hf in
      let b = both3 _ _ _ (then_some_true hs).0 in
      let isp = pair_sound file P r l ep in
      let isf = prf_sound file P p.0 isp.first.row ef in
      let key =
      session_key p.1 f.na f.nb f.secret isp.second.row es (sym (eqb-true _ _ b.1)) (sym (eqb-true _ _ b.2)) (sym (eqb-true _ _ b.0))
      isf.na isf.nb isf.secret
      in
      (role_meant s.role, _, _, _, derived_told h (derived_complete r l (rw (isf.whole, key) at isp.whole)))

  pub verified_complete : (r : ℕ) {S : paper.agent} {Nb : paper.nonce} {B : paper.agent} {PMS : paper.nonce} → r < rows_of file →
      message file r ≡
      paper.Crypt (paper.pri_k S) (paper.Hash (paper.Pair (paper.Nonce Nb) (paper.Pair (paper.Agent B) (paper.Nonce PMS)))) →
      (x : Verified) × IsVerified file r x S Nb B PMS
  unfolding verified_of
  verified_complete r l e =
      let (c, isc) = crypt_complete file P r l e in
      let k = private_complete file P c.key isc.key.row isc.key.meant in
      let (h, ish) = hash_complete file P c.body isc.body.row isc.body.meant in
      let (t, ist) = three_complete file P h ish.body.row ish.body.meant in
      let nb = nonce_complete file P t.0 ist.first.row ist.first.meant in
      let a = agent_complete file P t.1 ist.second.row ist.second.meant in
      let n = nonce_complete file P t.2 ist.third.row ist.third.meant in (
        _,
        record {
          found = rw (isc.found, k.found, ish.found, ist.found, a.found, nb, n) refl;
          whole = e;
          signer = refl;
          nb = ist.first;
          agent = refl;
          secret = ist.third;
        },
      )

  verified_told : {r : ℕ} {x : Verified} {S : paper.agent} {Nb : paper.nonce} {B : paper.agent} {PMS : paper.nonce} →
      verified_of file r ≡ Some x → (y : Verified) × IsVerified file r y S Nb B PMS → IsVerified file r x x.signer Nb x.agent PMS
  verified_told h (y, c) = rw (← c.signer, ← c.agent, one_found c.found h) at c

  pub verified_sound : (r : ℕ) {x : Verified} → r < rows_of file → verified_of file r ≡ Some x →
      (Nb : paper.nonce) × (PMS : paper.nonce) × IsVerified file r x x.signer Nb x.agent PMS
  unfolding verified_of
  verified_sound r l e =
      let (c, ec, hc) = and_then_some e in
      let (signer, es, hs) = and_then_some hc in
      let (h, eh, hh) = and_then_some hs in
      let (t, et, ht) = and_then_some hh in
      let (a, ea, ha) = and_then_some ht in
      let b = both _ _ (then_some_true ha).0 in
      let isc = crypt_sound file P r l ec in
      let isk = private_sound file P c.key isc.key.row es in
      let ish = hash_sound file P c.body isc.body.row eh in
      let ist = three_sound file P h ish.body.row et in
      let isa = agent_sound file P t.1 ist.second.row ea in
      let nb = nonce_sound file P t.0 ist.first.row b.0 in
      let n = nonce_sound file P t.2 ist.third.row b.1 in
      (nb.0, n.0, verified_told e (verified_complete r l (rw (isk.whole, ish.whole, ist.whole, isa.whole, nb.1, n.1) at isc.whole)))
