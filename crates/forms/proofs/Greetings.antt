-- The hellos, the notes and the certificate: the laws of their readers, from those of their parts.
-- Assumes nothing.
use Prim.Native.Nat.{ℕ, ◌<◌}
use mathlib.Core.List.{List}
use mathlib.Core.Path.{◌≡◌, refl}
use borrow.Author.Tests.{eqb-true}
use Rattle.std.specs.Prelude.{Some}
use Rattle.paper.specs.Message as paper
use Rattle.paper.specs.Rules.{CH, SH, cert, secret_note, session_note}
use Rattle.trace.specs.File.{rows_of}
use Rattle.trace.specs.Meaning.{message}
use Rattle.trace.specs.Promises.{Promised}
use Rattle.laws.proofs.Both.{both, both3}
use Rattle.laws.proofs.Options.{one_found, and_then_some, then_some_true}
use Rattle.forms.specs.Forms.{hello_of, reply_of, kept_of, signed_of, remembered_of}
use Rattle.forms.specs.declared.Hello.{Hello}
use Rattle.forms.specs.declared.Reply.{Reply}
use Rattle.forms.specs.declared.Kept.{Kept}
use Rattle.forms.specs.declared.Signed.{Signed}
use Rattle.forms.specs.declared.Remembered.{Remembered}
use Rattle.forms.specs.Shapes.{IsHello, IsReply, IsKept, IsSigned, IsRemembered}
use Rattle.forms.proofs.Inverts.{agent_complete, agent_sound, private_complete, private_sound, pair_complete, pair_sound, crypt_complete, crypt_sound, number_complete, number_sound, nonce_complete, nonce_sound, key_complete, key_sound}
use Rattle.forms.proofs.Links.{three_complete, three_sound, four_complete, four_sound}

module _ (file : List ℕ) (P : Promised file) where
  pub hello_complete : (r : ℕ) {A : paper.agent} {Na : paper.nonce} {SID Pa : ℕ} → r < rows_of file → message file r ≡ CH A Na SID Pa →
      (x : Hello) × IsHello file r x A Na SID Pa
  unfolding hello_of
  hello_complete r l e =
      let (f, isf) = four_complete file P r l e in
      let a = agent_complete file P f.0 isf.first.row isf.first.meant in
      let n = nonce_complete file P f.1 isf.second.row isf.second.meant in
      let s = number_complete file P f.2 isf.third.row isf.third.meant in
      let p = number_complete file P f.3 isf.fourth.row isf.fourth.meant in
      (_, record { found = rw (isf.found, a.found, n, s, p) refl; whole = e; agent = refl; na = isf.second; sid = isf.third; pa = isf.fourth })

  hello_told : {r : ℕ} {x : Hello} {A : paper.agent} {Na : paper.nonce} {SID Pa : ℕ} → hello_of file r ≡ Some x →
      (y : Hello) × IsHello file r y A Na SID Pa → IsHello file r x x.agent Na SID Pa
  hello_told h (y, c) = rw (← c.agent, one_found c.found h) at c

  pub hello_sound : (r : ℕ) {x : Hello} → r < rows_of file → hello_of file r ≡ Some x →
      (Na : paper.nonce) × (SID : ℕ) × (Pa : ℕ) × IsHello file r x x.agent Na SID Pa
  unfolding hello_of
  hello_sound r l h =
      let (f, ef, hf) = and_then_some h in
      let (a, ea, ha) = and_then_some hf in
      let b = both3 _ _ _ (then_some_true ha).0 in
      let isf = four_sound file P r l ef in
      let isa = agent_sound file P f.0 isf.first.row ea in
      let n = nonce_sound file P f.1 isf.second.row b.0 in
      let s = number_sound file P f.2 isf.third.row b.1 in
      let p = number_sound file P f.3 isf.fourth.row b.2 in
      (n.0, s.0, p.0, hello_told h (hello_complete r l (rw (isa.whole, n.1, s.1, p.1) at isf.whole)))

  pub reply_complete : (r : ℕ) {Nb : paper.nonce} {SID Pb : ℕ} → r < rows_of file → message file r ≡ SH Nb SID Pb →
      (x : Reply) × IsReply file r x Nb SID Pb
  unfolding reply_of
  reply_complete r l e =
      let (t, ist) = three_complete file P r l e in
      let n = nonce_complete file P t.0 ist.first.row ist.first.meant in
      let s = number_complete file P t.1 ist.second.row ist.second.meant in
      let p = number_complete file P t.2 ist.third.row ist.third.meant in
      (_, record { found = rw (ist.found, n, s, p) refl; whole = e; nb = ist.first; sid = ist.second; pb = ist.third })

  reply_told : {r : ℕ} {x : Reply} {Nb : paper.nonce} {SID Pb : ℕ} → reply_of file r ≡ Some x →
      (y : Reply) × IsReply file r y Nb SID Pb → IsReply file r x Nb SID Pb
  reply_told h (y, c) = rw (one_found h c.found) c

  pub reply_sound : (r : ℕ) {x : Reply} → r < rows_of file → reply_of file r ≡ Some x →
      (Nb : paper.nonce) × (SID : ℕ) × (Pb : ℕ) × IsReply file r x Nb SID Pb
  unfolding reply_of
  reply_sound r l h =
      let (t, et, ht) = and_then_some h in
      let b = both3 _ _ _ (then_some_true ht).0 in
      let ist = three_sound file P r l et in
      let n = nonce_sound file P t.0 ist.first.row b.0 in
      let s = number_sound file P t.1 ist.second.row b.1 in
      let p = number_sound file P t.2 ist.third.row b.2 in
      (n.0, s.0, p.0, reply_told h (reply_complete r l (rw (n.1, s.1, p.1) at ist.whole)))

  pub kept_complete : (r : ℕ) {B : paper.agent} {PMS : paper.nonce} → r < rows_of file → message file r ≡ secret_note B PMS →
      (x : Kept) × IsKept file r x B PMS
  unfolding kept_of
  kept_complete r l e =
      let (p, isp) = pair_complete file P r l e in
      let a = agent_complete file P p.0 isp.first.row isp.first.meant in
      let n = nonce_complete file P p.1 isp.second.row isp.second.meant in
      (_, record { found = rw (isp.found, a.found, n) refl; whole = e; agent = refl; secret = isp.second })

  kept_told : {r : ℕ} {x : Kept} {B : paper.agent} {PMS : paper.nonce} → kept_of file r ≡ Some x →
      (y : Kept) × IsKept file r y B PMS → IsKept file r x x.agent PMS
  kept_told h (y, c) = rw (← c.agent, one_found c.found h) at c

  pub kept_sound : (r : ℕ) {x : Kept} → r < rows_of file → kept_of file r ≡ Some x →
      (PMS : paper.nonce) × IsKept file r x x.agent PMS
  unfolding kept_of
  kept_sound r l h =
      let (p, ep, hp) = and_then_some h in
      let (a, ea, ha) = and_then_some hp in
      let isp = pair_sound file P r l ep in
      let isa = agent_sound file P p.0 isp.first.row ea in
      let n = nonce_sound file P p.1 isp.second.row (then_some_true ha).0 in
      (n.0, kept_told h (kept_complete r l (rw (isa.whole, n.1) at isp.whole)))

  pub signed_complete : (r : ℕ) {B : paper.agent} {K : paper.key} → r < rows_of file → message file r ≡ cert B K →
      (x : Signed) × IsSigned file r x B K
  unfolding signed_of
  signed_complete r l e =
      let (c, isc) = crypt_complete file P r l e in
      let k = private_complete file P c.key isc.key.row isc.key.meant in
      let (p, isp) = pair_complete file P c.body isc.body.row isc.body.meant in
      let a = agent_complete file P p.0 isp.first.row isp.first.meant in
      let n = key_complete file P p.1 isp.second.row isp.second.meant in
      (_, record { found = rw (isc.found, k.found, isp.found, a.found, n) refl; whole = e; agent = refl; key = isp.second })

  signed_told : {r : ℕ} {x : Signed} {B : paper.agent} {K : paper.key} → signed_of file r ≡ Some x →
      (y : Signed) × IsSigned file r y B K → IsSigned file r x x.agent K
  signed_told h (y, c) = rw (← c.agent, one_found c.found h) at c

  pub signed_sound : (r : ℕ) {x : Signed} → r < rows_of file → signed_of file r ≡ Some x →
      (K : paper.key) × IsSigned file r x x.agent K
  unfolding signed_of
  signed_sound r l h =
      let (c, ec, hc) = and_then_some h in
      let (signer, es, hs) = and_then_some hc in
      let (p, ep, hp) = and_then_some hs in
      let (a, ea, ha) = and_then_some hp in
      let b = both _ _ (then_some_true ha).0 in
      let isc = crypt_sound file P r l ec in
      let isk = private_sound file P c.key isc.key.row es in
      let one : signer ≡ paper.Authority = eqb-true _ _ b.0 in
      let isp = pair_sound file P c.body isc.body.row ep in
      let isa = agent_sound file P p.0 isp.first.row ea in
      let n = key_sound file P p.1 isp.second.row b.1 in
      (n.0, signed_told h (signed_complete r l (rw (isk.whole, one, isp.whole, isa.whole, n.1) at isc.whole)))

  pub remembered_complete : (r : ℕ) {SID : ℕ} {A B : paper.agent} {M : paper.nonce} → r < rows_of file →
      message file r ≡ session_note SID A B M → (x : Remembered) × IsRemembered file r x SID A B M
  unfolding remembered_of
  remembered_complete r l e =
      let (f, isf) = four_complete file P r l e in
      let s = number_complete file P f.0 isf.first.row isf.first.meant in
      let a = agent_complete file P f.1 isf.second.row isf.second.meant in
      let b = agent_complete file P f.2 isf.third.row isf.third.meant in
      let m = nonce_complete file P f.3 isf.fourth.row isf.fourth.meant in
      (_, record { found = rw (isf.found, a.found, b.found, s, m) refl; whole = e; sid = isf.first; a = refl; b = refl; m = isf.fourth })

  remembered_told : {r : ℕ} {x : Remembered} {SID : ℕ} {A B : paper.agent} {M : paper.nonce} → remembered_of file r ≡ Some x →
      (y : Remembered) × IsRemembered file r y SID A B M → IsRemembered file r x SID x.a x.b M
  remembered_told h (y, c) = rw (← c.a, ← c.b, one_found c.found h) at c

  pub remembered_sound : (r : ℕ) {x : Remembered} → r < rows_of file → remembered_of file r ≡ Some x →
      (SID : ℕ) × (M : paper.nonce) × IsRemembered file r x SID x.a x.b M
  unfolding remembered_of
  remembered_sound r l h =
      let (f, ef, hf) = and_then_some h in
      let (a, ea, ha) = and_then_some hf in
      let (b, eb, hb) = and_then_some ha in
      let t = both _ _ (then_some_true hb).0 in
      let isf = four_sound file P r l ef in
      let isa = agent_sound file P f.1 isf.second.row ea in
      let isb = agent_sound file P f.2 isf.third.row eb in
      let s = number_sound file P f.0 isf.first.row t.0 in
      let m = nonce_sound file P f.3 isf.fourth.row t.1 in
      (s.0, m.0, remembered_told h (remembered_complete r l (rw (isa.whole, isb.whole, s.1, m.1) at isf.whole)))
