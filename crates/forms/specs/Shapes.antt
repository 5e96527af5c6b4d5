-- What the readers promise of a row of a file that is not refused: they find exactly the shape, and what they find are its parts.
use Rattle.std.specs.Prelude.{ℕ, ◌<◌, true, List, Some, ◌≡◌}
use Rattle.paper.specs.Message as paper
use Rattle.paper.specs.Rules.{CH, SH, cert, secret_note, agreed, Finished, session_note}
use Rattle.trace.specs.File.{rows_of, agent_limit}
use Rattle.trace.specs.Meaning.{as_nonce, as_key, message}
use Rattle.trace.specs.Promises.{role_meant, Promised}
use Rattle.forms.specs.Kinds.{agent_of, public_of, private_of, hash_of, pair_of, crypt_of, prf_of, session_of, is_number, is_nonce, is_plain, is_key}
use Rattle.forms.specs.Forms.{three_of, four_of, hello_of, reply_of, kept_of, signed_of, remembered_of, agreement_of, sealed_of, derived_of, verified_of}
use Rattle.forms.specs.declared.leaves.Crypt.{Crypt}
use Rattle.forms.specs.declared.leaves.Prf.{Prf}
use Rattle.forms.specs.declared.leaves.Session.{Session}
use Rattle.forms.specs.declared.Hello.{Hello}
use Rattle.forms.specs.declared.Reply.{Reply}
use Rattle.forms.specs.declared.Kept.{Kept}
use Rattle.forms.specs.declared.Signed.{Signed}
use Rattle.forms.specs.declared.Remembered.{Remembered}
use Rattle.forms.specs.declared.Agreed.{Agreed}
use Rattle.forms.specs.declared.Sealed.{Sealed}
use Rattle.forms.specs.declared.Verified.{Verified}

-- row r of the file holds X
pub record RowHolds (file : List ℕ) (r : ℕ) (X : paper.msg) : Type 0 where
  pub row : r < rows_of file
  pub meant : message file r ≡ X

module _ (file : List ℕ) (r : ℕ) where
  pub record IsAgent (A : paper.agent) : Type 0 where
    pub found : agent_of file r ≡ Some A
    pub whole : message file r ≡ paper.Agent A
    pub few : A < agent_limit

  pub record IsPublic (A : paper.agent) : Type 0 where
    pub found : public_of file r ≡ Some A
    pub whole : message file r ≡ paper.Key (paper.pub_k A)
    pub few : A < agent_limit

  pub record IsPrivate (A : paper.agent) : Type 0 where
    pub found : private_of file r ≡ Some A
    pub whole : message file r ≡ paper.Key (paper.pri_k A)
    pub few : A < agent_limit

  pub record IsHash (x : ℕ) (X : paper.msg) : Type 0 where
    pub found : hash_of file r ≡ Some x
    pub whole : message file r ≡ paper.Hash X
    pub body : RowHolds file x X

  pub record IsPair (p : ℕ × ℕ) (X Y : paper.msg) : Type 0 where
    pub found : pair_of file r ≡ Some p
    pub whole : message file r ≡ paper.Pair X Y
    pub first : RowHolds file p.0 X
    pub second : RowHolds file p.1 Y

  pub record IsCrypt (c : Crypt) (K : paper.key) (X : paper.msg) : Type 0 where
    pub found : crypt_of file r ≡ Some c
    pub whole : message file r ≡ paper.Crypt K X
    pub key : RowHolds file c.key (paper.Key K)
    pub body : RowHolds file c.body X

  pub record IsPrf (f : Prf) (S Na Nb : paper.nonce) : Type 0 where
    pub found : prf_of file r ≡ Some f
    pub whole : message file r ≡ paper.Nonce (paper.PRF S Na Nb)
    pub secret : RowHolds file f.secret (paper.Nonce S)
    pub na : RowHolds file f.na (paper.Nonce Na)
    pub nb : RowHolds file f.nb (paper.Nonce Nb)

  pub record IsSession (s : Session) (R : paper.role) (Na Nb M : paper.nonce) : Type 0 where
    pub found : session_of file r ≡ Some s
    pub whole : message file r ≡ paper.Key (paper.session_k R Na Nb M)
    pub role : role_meant s.role ≡ R
    pub na : RowHolds file s.na (paper.Nonce Na)
    pub nb : RowHolds file s.nb (paper.Nonce Nb)
    pub m : RowHolds file s.m (paper.Nonce M)

  pub record IsThree (t : ℕ × ℕ × ℕ) (X Y Z : paper.msg) : Type 0 where
    pub found : three_of file r ≡ Some t
    pub whole : message file r ≡ paper.Pair X (paper.Pair Y Z)
    pub first : RowHolds file t.0 X
    pub second : RowHolds file t.1 Y
    pub third : RowHolds file t.2 Z

  pub record IsFour (f : ℕ × ℕ × ℕ × ℕ) (W X Y Z : paper.msg) : Type 0 where
    pub found : four_of file r ≡ Some f
    pub whole : message file r ≡ paper.Pair W (paper.Pair X (paper.Pair Y Z))
    pub first : RowHolds file f.0 W
    pub second : RowHolds file f.1 X
    pub third : RowHolds file f.2 Y
    pub fourth : RowHolds file f.3 Z

  pub record IsHello (x : Hello) (A : paper.agent) (Na : paper.nonce) (SID Pa : ℕ) : Type 0 where
    pub found : hello_of file r ≡ Some x
    pub whole : message file r ≡ CH A Na SID Pa
    pub agent : x.agent ≡ A
    pub na : RowHolds file x.na (paper.Nonce Na)
    pub sid : RowHolds file x.sid (paper.Number SID)
    pub pa : RowHolds file x.pa (paper.Number Pa)

  pub record IsReply (x : Reply) (Nb : paper.nonce) (SID Pb : ℕ) : Type 0 where
    pub found : reply_of file r ≡ Some x
    pub whole : message file r ≡ SH Nb SID Pb
    pub nb : RowHolds file x.nb (paper.Nonce Nb)
    pub sid : RowHolds file x.sid (paper.Number SID)
    pub pb : RowHolds file x.pb (paper.Number Pb)

  pub record IsKept (x : Kept) (B : paper.agent) (PMS : paper.nonce) : Type 0 where
    pub found : kept_of file r ≡ Some x
    pub whole : message file r ≡ secret_note B PMS
    pub agent : x.agent ≡ B
    pub secret : RowHolds file x.secret (paper.Nonce PMS)

  pub record IsSigned (x : Signed) (B : paper.agent) (K : paper.key) : Type 0 where
    pub found : signed_of file r ≡ Some x
    pub whole : message file r ≡ cert B K
    pub agent : x.agent ≡ B
    pub key : RowHolds file x.key (paper.Key K)

  pub record IsRemembered (x : Remembered) (SID : ℕ) (A B : paper.agent) (M : paper.nonce) : Type 0 where
    pub found : remembered_of file r ≡ Some x
    pub whole : message file r ≡ session_note SID A B M
    pub sid : RowHolds file x.sid (paper.Number SID)
    pub a : x.a ≡ A
    pub b : x.b ≡ B
    pub m : RowHolds file x.m (paper.Nonce M)

  pub record IsAgreed (x : Agreed) (SID : ℕ) (M Na : paper.nonce) (Pa : ℕ) (A : paper.agent) (Nb : paper.nonce) (Pb : ℕ) (B : paper.agent) : Type 0 where
    pub found : agreement_of file r ≡ Some x
    pub whole : message file r ≡ agreed SID M Na Pa A Nb Pb B
    pub sid : RowHolds file x.sid (paper.Number SID)
    pub m : RowHolds file x.m (paper.Nonce M)
    pub na : RowHolds file x.na (paper.Nonce Na)
    pub pa : RowHolds file x.pa (paper.Number Pa)
    pub a : x.a ≡ A
    pub nb : RowHolds file x.nb (paper.Nonce Nb)
    pub pb : RowHolds file x.pb (paper.Number Pb)
    pub b : x.b ≡ B

  pub record IsSealed (x : Sealed) (R : paper.role) (SID : ℕ) (M Na : paper.nonce) (Pa : ℕ) (A : paper.agent) (Nb : paper.nonce) (Pb : ℕ) (B : paper.agent) : Type 0 where
    pub found : sealed_of file r ≡ Some x
    pub whole : message file r ≡ Finished R SID M Na Pa A Nb Pb B
    pub role : role_meant x.role ≡ R
    pub hash : RowHolds file x.hash (agreed SID M Na Pa A Nb Pb B)
    pub sid : RowHolds file x.sid (paper.Number SID)
    pub m : RowHolds file x.m (paper.Nonce M)
    pub na : RowHolds file x.na (paper.Nonce Na)
    pub pa : RowHolds file x.pa (paper.Number Pa)
    pub a : x.a ≡ A
    pub nb : RowHolds file x.nb (paper.Nonce Nb)
    pub pb : RowHolds file x.pb (paper.Number Pb)
    pub b : x.b ≡ B

  pub record IsDerived (x : Prf) (R : paper.role) (M Na Nb : paper.nonce) : Type 0 where
    pub found : derived_of file r ≡ Some x
    pub whole : message file r ≡ paper.Pair (paper.Nonce (paper.PRF M Na Nb)) (paper.Key (paper.session_k R Na Nb M))
    pub secret : RowHolds file x.secret (paper.Nonce M)
    pub na : RowHolds file x.na (paper.Nonce Na)
    pub nb : RowHolds file x.nb (paper.Nonce Nb)

  pub record IsVerified (x : Verified) (S : paper.agent) (Nb : paper.nonce) (B : paper.agent) (PMS : paper.nonce) : Type 0 where
    pub found : verified_of file r ≡ Some x
    pub whole : message file r ≡ paper.Crypt (paper.pri_k S) (paper.Hash (paper.Pair (paper.Nonce Nb) (paper.Pair (paper.Agent B) (paper.Nonce PMS))))
    pub signer : x.signer ≡ S
    pub nb : RowHolds file x.nb (paper.Nonce Nb)
    pub agent : x.agent ≡ B
    pub secret : RowHolds file x.secret (paper.Nonce PMS)

-- the laws of the readers: what they find is the shape's, with its values, and they find each such message
pub record Shaped (file : List ℕ) : Type 0 where
  pub agent_complete : (r : ℕ) {A : paper.agent} → r < rows_of file → message file r ≡ paper.Agent A → IsAgent file r A
  pub agent_sound : (r : ℕ) {A : ℕ} → r < rows_of file → agent_of file r ≡ Some A → IsAgent file r A
  pub public_complete : (r : ℕ) {A : paper.agent} → r < rows_of file → message file r ≡ paper.Key (paper.pub_k A) → IsPublic file r A
  pub public_sound : (r : ℕ) {A : ℕ} → r < rows_of file → public_of file r ≡ Some A → IsPublic file r A
  pub private_complete : (r : ℕ) {A : paper.agent} → r < rows_of file → message file r ≡ paper.Key (paper.pri_k A) → IsPrivate file r A
  pub private_sound : (r : ℕ) {A : ℕ} → r < rows_of file → private_of file r ≡ Some A → IsPrivate file r A
  pub hash_complete : (r : ℕ) {X : paper.msg} → r < rows_of file → message file r ≡ paper.Hash X → (x : ℕ) × IsHash file r x X
  pub hash_sound : (r : ℕ) {x : ℕ} → r < rows_of file → hash_of file r ≡ Some x → IsHash file r x (message file x)
  pub pair_complete : (r : ℕ) {X Y : paper.msg} → r < rows_of file → message file r ≡ paper.Pair X Y → (p : ℕ × ℕ) × IsPair file r p X Y
  pub pair_sound : (r : ℕ) {p : ℕ × ℕ} → r < rows_of file → pair_of file r ≡ Some p →
      IsPair file r p (message file p.0) (message file p.1)
  pub crypt_complete : (r : ℕ) {K : paper.key} {X : paper.msg} → r < rows_of file → message file r ≡ paper.Crypt K X →
      (c : Crypt) × IsCrypt file r c K X
  pub crypt_sound : (r : ℕ) {c : Crypt} → r < rows_of file → crypt_of file r ≡ Some c →
      IsCrypt file r c (as_key (message file c.key)) (message file c.body)
  pub prf_complete : (r : ℕ) {S Na Nb : paper.nonce} → r < rows_of file → message file r ≡ paper.Nonce (paper.PRF S Na Nb) →
      (f : Prf) × IsPrf file r f S Na Nb
  pub prf_sound : (r : ℕ) {f : Prf} → r < rows_of file → prf_of file r ≡ Some f →
      IsPrf file r f (as_nonce (message file f.secret)) (as_nonce (message file f.na)) (as_nonce (message file f.nb))
  pub session_complete : (r : ℕ) {R : paper.role} {Na Nb M : paper.nonce} → r < rows_of file →
      message file r ≡ paper.Key (paper.session_k R Na Nb M) → (s : Session) × IsSession file r s R Na Nb M
  pub session_sound : (r : ℕ) {s : Session} → r < rows_of file → session_of file r ≡ Some s →
      IsSession file r s (role_meant s.role) (as_nonce (message file s.na)) (as_nonce (message file s.nb)) (as_nonce (message file s.m))
  pub number_complete : (r : ℕ) {n : ℕ} → r < rows_of file → message file r ≡ paper.Number n → is_number file r ≡ true
  pub number_sound : (r : ℕ) → r < rows_of file → is_number file r ≡ true → (n : ℕ) × (message file r ≡ paper.Number n)
  pub nonce_complete : (r : ℕ) {N : paper.nonce} → r < rows_of file → message file r ≡ paper.Nonce N → is_nonce file r ≡ true
  pub nonce_sound : (r : ℕ) → r < rows_of file → is_nonce file r ≡ true → (N : paper.nonce) × (message file r ≡ paper.Nonce N)
  pub plain_complete : (r : ℕ) {n : ℕ} → r < rows_of file → message file r ≡ paper.Nonce (paper.plain n) → is_plain file r ≡ true
  pub plain_sound : (r : ℕ) → r < rows_of file → is_plain file r ≡ true → (n : ℕ) × (message file r ≡ paper.Nonce (paper.plain n))
  pub key_complete : (r : ℕ) {K : paper.key} → r < rows_of file → message file r ≡ paper.Key K → is_key file r ≡ true
  pub key_sound : (r : ℕ) → r < rows_of file → is_key file r ≡ true → (K : paper.key) × (message file r ≡ paper.Key K)
  pub three_complete : (r : ℕ) {X Y Z : paper.msg} → r < rows_of file → message file r ≡ paper.Pair X (paper.Pair Y Z) →
      (t : ℕ × ℕ × ℕ) × IsThree file r t X Y Z
  pub three_sound : (r : ℕ) {t : ℕ × ℕ × ℕ} → r < rows_of file → three_of file r ≡ Some t →
      IsThree file r t (message file t.0) (message file t.1) (message file t.2)
  pub four_complete : (r : ℕ) {W X Y Z : paper.msg} → r < rows_of file →
      message file r ≡ paper.Pair W (paper.Pair X (paper.Pair Y Z)) → (f : ℕ × ℕ × ℕ × ℕ) × IsFour file r f W X Y Z
  pub four_sound : (r : ℕ) {f : ℕ × ℕ × ℕ × ℕ} → r < rows_of file → four_of file r ≡ Some f →
      IsFour file r f (message file f.0) (message file f.1) (message file f.2) (message file f.3)
  pub hello_complete : (r : ℕ) {A : paper.agent} {Na : paper.nonce} {SID Pa : ℕ} → r < rows_of file → message file r ≡ CH A Na SID Pa →
      (x : Hello) × IsHello file r x A Na SID Pa
  pub hello_sound : (r : ℕ) {x : Hello} → r < rows_of file → hello_of file r ≡ Some x →
      (Na : paper.nonce) × (SID : ℕ) × (Pa : ℕ) × IsHello file r x x.agent Na SID Pa
  pub reply_complete : (r : ℕ) {Nb : paper.nonce} {SID Pb : ℕ} → r < rows_of file → message file r ≡ SH Nb SID Pb →
      (x : Reply) × IsReply file r x Nb SID Pb
  pub reply_sound : (r : ℕ) {x : Reply} → r < rows_of file → reply_of file r ≡ Some x →
      (Nb : paper.nonce) × (SID : ℕ) × (Pb : ℕ) × IsReply file r x Nb SID Pb
  pub kept_complete : (r : ℕ) {B : paper.agent} {PMS : paper.nonce} → r < rows_of file → message file r ≡ secret_note B PMS →
      (x : Kept) × IsKept file r x B PMS
  pub kept_sound : (r : ℕ) {x : Kept} → r < rows_of file → kept_of file r ≡ Some x →
      (PMS : paper.nonce) × IsKept file r x x.agent PMS
  pub signed_complete : (r : ℕ) {B : paper.agent} {K : paper.key} → r < rows_of file → message file r ≡ cert B K →
      (x : Signed) × IsSigned file r x B K
  pub signed_sound : (r : ℕ) {x : Signed} → r < rows_of file → signed_of file r ≡ Some x →
      (K : paper.key) × IsSigned file r x x.agent K
  pub remembered_complete : (r : ℕ) {SID : ℕ} {A B : paper.agent} {M : paper.nonce} → r < rows_of file →
      message file r ≡ session_note SID A B M → (x : Remembered) × IsRemembered file r x SID A B M
  pub remembered_sound : (r : ℕ) {x : Remembered} → r < rows_of file → remembered_of file r ≡ Some x →
      (SID : ℕ) × (M : paper.nonce) × IsRemembered file r x SID x.a x.b M
  pub agreement_complete : (r : ℕ) {SID : ℕ} {M Na : paper.nonce} {Pa : ℕ} {A : paper.agent} {Nb : paper.nonce} {Pb : ℕ} {B : paper.agent} →
      r < rows_of file → message file r ≡ agreed SID M Na Pa A Nb Pb B → (x : Agreed) × IsAgreed file r x SID M Na Pa A Nb Pb B
  pub agreement_sound : (r : ℕ) {x : Agreed} → r < rows_of file → agreement_of file r ≡ Some x →
      (SID : ℕ) × (M : paper.nonce) × (Na : paper.nonce) × (Pa : ℕ) × (Nb : paper.nonce) × (Pb : ℕ) ×
      IsAgreed file r x SID M Na Pa x.a Nb Pb x.b
  pub sealed_complete : (r : ℕ) {R : paper.role} {SID : ℕ} {M Na : paper.nonce} {Pa : ℕ} {A : paper.agent} {Nb : paper.nonce} {Pb : ℕ} {B : paper.agent} →
      r < rows_of file → message file r ≡ Finished R SID M Na Pa A Nb Pb B → (x : Sealed) × IsSealed file r x R SID M Na Pa A Nb Pb B
  pub sealed_sound : (r : ℕ) {x : Sealed} → r < rows_of file → sealed_of file r ≡ Some x →
      (SID : ℕ) × (M : paper.nonce) × (Na : paper.nonce) × (Pa : ℕ) × (Nb : paper.nonce) × (Pb : ℕ) ×
      IsSealed file r x (role_meant x.role) SID M Na Pa x.a Nb Pb x.b
  pub derived_complete : (r : ℕ) {R : paper.role} {M Na Nb : paper.nonce} → r < rows_of file →
      message file r ≡ paper.Pair (paper.Nonce (paper.PRF M Na Nb)) (paper.Key (paper.session_k R Na Nb M)) →
      (x : Prf) × IsDerived file r x R M Na Nb
  pub derived_sound : (r : ℕ) {x : Prf} → r < rows_of file → derived_of file r ≡ Some x →
      (R : paper.role) × (M : paper.nonce) × (Na : paper.nonce) × (Nb : paper.nonce) × IsDerived file r x R M Na Nb
  pub verified_complete : (r : ℕ) {S : paper.agent} {Nb : paper.nonce} {B : paper.agent} {PMS : paper.nonce} → r < rows_of file →
      message file r ≡
      paper.Crypt (paper.pri_k S) (paper.Hash (paper.Pair (paper.Nonce Nb) (paper.Pair (paper.Agent B) (paper.Nonce PMS)))) →
      (x : Verified) × IsVerified file r x S Nb B PMS
  pub verified_sound : (r : ℕ) {x : Verified} → r < rows_of file → verified_of file r ≡ Some x →
      (Nb : paper.nonce) × (PMS : paper.nonce) × IsVerified file r x x.signer Nb x.agent PMS

abbrev pub Shapes : Type 0
Shapes = (file : List ℕ) → Promised file → Shaped file
