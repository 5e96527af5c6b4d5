-- Each search over earlier events succeeds exactly when the paper's premise holds of the trace so far.
-- Assumes nothing.
use Prim.Native.Nat.{ℕ, ◌<◌, ◌≤◌}
use mathlib.Core.Bool.{true, ◌&&◌}
use mathlib.Core.List.{List}
use mathlib.Core.Path.{◌≡◌, refl, sym, ◌∙◌, ap}
use lib.Dec.{eqb}
use borrow.Author.Tests.{eqb-true, eq-eqb}
use Rattle.paper.specs.Message as paper
use Rattle.paper.specs.Event.{event, trace, In, Says, Notes}
use Rattle.paper.specs.Rules.{Step, CH, SH, cert, secret_note, session_note}
use Rattle.trace.specs.File.{rows_of, events_of}
use Rattle.trace.specs.Meaning.{message, beginning, as_nonce, as_key}
use Rattle.trace.specs.Promises.{Promised}
use Rattle.laws.proofs.First.{any_some, any_inv}
use Rattle.laws.proofs.Both.{both, both3, both4}
use Rattle.laws.proofs.Options.{is_some_and_true}
use Rattle.forms.specs.Shapes.{RowHolds}
use Rattle.forms.proofs.Shaped.{shapes}
use Rattle.earlier.specs.declared.Wanted.{Wanted}
use Rattle.earlier.specs.declared.Wanted.TheVariants.{Said, Noted}
use Rattle.earlier.specs.declared.Who.TheVariants.{To, By, From}
use Rattle.earlier.specs.declared.What.TheVariants as what
use Rattle.earlier.specs.declared.Note.TheVariants as note
use Rattle.earlier.specs.Earlier.{heard_at, said_to, said_by, noted_by, is_hello, is_reply, fits_in, earlier}
use Rattle.earlier.proofs.Meant.{to_sound, by_sound, noted_sound, said_told, noted_told, row_in, from_sound}

as_number : paper.msg → ℕ
as_number (paper.Agent A) = 0
as_number (paper.Number n) = n
as_number (paper.Nonce N) = 0
as_number (paper.Key K) = 0
as_number (paper.Hash X) = 0
as_number (paper.Crypt K X) = 0
as_number (paper.Pair X Y) = 0

pub number_one : {a b : ℕ} → paper.Number a ≡ paper.Number b → a ≡ b
unfolding as_number
number_one q = ap as_number q

pub nonce_one : {a b : paper.nonce} → paper.Nonce a ≡ paper.Nonce b → a ≡ b
nonce_one q = ap as_nonce q

pub key_one : {a b : paper.key} → paper.Key a ≡ paper.Key b → a ≡ b
key_one q = ap as_key q

-- equal parts make equal messages and events
pub crypt_same : {K K' : paper.key} {X X' : paper.msg} → K ≡ K' → X ≡ X' → paper.Crypt K X ≡ paper.Crypt K' X'
crypt_same k x = rw (k, x) refl

pub event_same : {b : paper.agent → Type 0} {evs : trace} {E E' : event} {k : ℕ} → E ≡ E' → Step b evs E' k → Step b evs E k
event_same q s = rw q s

pub says_same : {A A' B B' : paper.agent} {X X' : paper.msg} → A ≡ A' → B ≡ B' → X ≡ X' → Says A B X ≡ Says A' B' X'
says_same a b x = rw (a, b, x) refl

pub notes_same : {A A' : paper.agent} {X X' : paper.msg} → A ≡ A' → X ≡ X' → Notes A X ≡ Notes A' X'
notes_same a x = rw (a, x) refl

pub hello_same : {A A' : paper.agent} {Na Na' : paper.nonce} {S S' Q Q' : ℕ} → A ≡ A' → Na ≡ Na' → S ≡ S' → Q ≡ Q' →
    CH A Na S Q ≡ CH A' Na' S' Q'
hello_same a n s q = rw (a, n, s, q) refl

pub cert_same : {A A' : paper.agent} {K K' : paper.key} → A ≡ A' → K ≡ K' → cert A K ≡ cert A' K'
cert_same a k = rw (a, k) refl

pub note_same : {A A' : paper.agent} {N N' : paper.nonce} → A ≡ A' → N ≡ N' → secret_note A N ≡ secret_note A' N'
note_same a n = rw (a, n) refl

pub session_same : {S S' : ℕ} {A A' B B' : paper.agent} {M M' : paper.nonce} → S ≡ S' → A ≡ A' → B ≡ B' → M ≡ M' →
    session_note S A B M ≡ session_note S' A' B' M'
session_same s a b m = rw (s, a, b, m) refl

module _ (file : List ℕ) where
  -- one row holds one message
  pub one_message : (x y : ℕ) {X Y : paper.msg} → RowHolds file x X → eqb x y ≡ true → RowHolds file y Y → X ≡ Y
  one_message x y p t q = sym p.meant ∙ ap (message file) (eqb-true x y t) ∙ q.meant

module _ (file : List ℕ) (P : Promised file) where
  -- one message has one row
  pub one_row : (x y : ℕ) {X : paper.msg} → RowHolds file x X → RowHolds file y X → eqb x y ≡ true
  one_row x y p q = eq-eqb x y (P.apart x y p.row q.row (p.meant ∙ sym q.meant))

  pub hello_is : (r agent na sid pa : ℕ) {Na : paper.nonce} {SID Pa : ℕ} → r < rows_of file → is_hello file r agent na sid pa ≡ true →
      RowHolds file na (paper.Nonce Na) → RowHolds file sid (paper.Number SID) → RowHolds file pa (paper.Number Pa) →
      message file r ≡ CH agent Na SID Pa
  hello_is r agent na sid pa l t hn hs hp =
      let (m, e, h) = is_some_and_true t in
      let b = both4 _ _ _ _ h in
      let c = ((shapes file P).hello_sound r l e).3 in
      c.whole ∙
      hello_same (eqb-true m.agent agent b.0) (nonce_one (one_message file m.na na c.na b.1 hn))
      (number_one (one_message file m.sid sid c.sid b.2 hs)) (number_one (one_message file m.pa pa c.pa b.3 hp))

  pub is_hello_lem : (r agent na sid pa : ℕ) {Na : paper.nonce} {SID Pa : ℕ} → r < rows_of file → message file r ≡ CH agent Na SID Pa →
      RowHolds file na (paper.Nonce Na) → RowHolds file sid (paper.Number SID) → RowHolds file pa (paper.Number Pa) →
      is_hello file r agent na sid pa ≡ true
  is_hello_lem r agent na sid pa l q hn hs hp =
      let (m, c) = (shapes file P).hello_complete r l q in
      rw (
        c.found,
        eq-eqb m.agent agent c.agent,
        one_row m.na na c.na hn,
        one_row m.sid sid c.sid hs,
        one_row m.pa pa c.pa hp,
      ) refl

  pub reply_is : (r nb sid pb : ℕ) {Nb : paper.nonce} {SID Pb : ℕ} → r < rows_of file → is_reply file r nb sid pb ≡ true →
      RowHolds file nb (paper.Nonce Nb) → RowHolds file sid (paper.Number SID) → RowHolds file pb (paper.Number Pb) →
      message file r ≡ SH Nb SID Pb
  reply_is r nb sid pb l t hn hs hp =
      let (m, e, h) = is_some_and_true t in
      let b = both3 _ _ _ h in
      let c = ((shapes file P).reply_sound r l e).3 in
      rw (
        c.whole,
        nonce_one (one_message file m.nb nb c.nb b.0 hn),
        number_one (one_message file m.sid sid c.sid b.1 hs),
        number_one (one_message file m.pb pb c.pb b.2 hp),
      ) refl

  pub is_reply_lem : (r nb sid pb : ℕ) {Nb : paper.nonce} {SID Pb : ℕ} → r < rows_of file → message file r ≡ SH Nb SID Pb →
      RowHolds file nb (paper.Nonce Nb) → RowHolds file sid (paper.Number SID) → RowHolds file pb (paper.Number Pb) →
      is_reply file r nb sid pb ≡ true
  is_reply_lem r nb sid pb l q hn hs hp =
      let (m, c) = (shapes file P).reply_complete r l q in
      rw (c.found, one_row m.nb nb c.nb hn, one_row m.sid sid c.sid hs, one_row m.pb pb c.pb hp) refl

module _ (file : List ℕ) (P : Promised file) (e : ℕ) (le : e ≤ events_of file) where
  found : (w : Wanted) → earlier file w e ≡ true → (j : ℕ) × (j < e) × (fits_in file w (heard_at file j) ≡ true)
  unfolding earlier
  found w t = any_inv (λ j. fits_in file w (heard_at file j)) e t

  some : (w : Wanted) (j : ℕ) → j < e → fits_in file w (heard_at file j) ≡ true → earlier file w e ≡ true
  unfolding earlier
  some w j l t = any_some (λ j. fits_in file w (heard_at file j)) e j l t

  pub hello_for_sound : (to agent sid : ℕ) {SID : ℕ} → earlier file (Said (To to) (what.HelloFor agent sid)) e ≡ true → RowHolds file sid (paper.Number SID) →
      (A : paper.agent) × (Na : paper.nonce) × (Pa : ℕ) × In (Says A to (CH agent Na SID Pa)) (beginning file e)
  hello_for_sound to agent sid {SID} t hs =
      let (j, l, f) = found (Said (To to) (what.HelloFor agent sid)) t in
      let b = both (said_to (heard_at file j) to) _ f in
      let (m, h, g) = is_some_and_true b.1 in
      let c = both (eqb m.agent agent) (eqb m.sid sid) g in
      let (Na, _, Pa, x) = (shapes file P).hello_sound (heard_at file j).row (row_in file P e le j l) h in
      let q : message file (heard_at file j).row ≡ CH agent Na SID Pa =
      x.whole ∙ hello_same (eqb-true m.agent agent c.0) refl (number_one (one_message file m.sid sid x.sid c.1 hs)) refl
      in
      let s = to_sound file P e le j to l b.0 q in
      (s.0, Na, Pa, s.1)

  pub hello_for_complete : (to agent sid : ℕ) {A : paper.agent} {Na : paper.nonce} {SID Pa : ℕ} →
      In (Says A to (CH agent Na SID Pa)) (beginning file e) → RowHolds file sid (paper.Number SID) →
      earlier file (Said (To to) (what.HelloFor agent sid)) e ≡ true
  hello_for_complete to agent sid i hs =
      let t = said_told file P e le i in
      let (m, x) = (shapes file P).hello_complete (heard_at file t.at).row t.row t.meant in
      some (Said (To to) (what.HelloFor agent sid)) t.at t.before
      (rw (t.to, x.found, eq-eqb m.agent agent x.agent, one_row file P m.sid sid x.sid hs) refl)

  pub hello_by_sound : (from to na sid pa : ℕ) {Na : paper.nonce} {SID Pa : ℕ} → earlier file (Said (By from to) (what.Hello (record { agent = from; na = na; sid = sid; pa = pa }))) e ≡ true →
      RowHolds file na (paper.Nonce Na) → RowHolds file sid (paper.Number SID) → RowHolds file pa (paper.Number Pa) →
      In (Says from to (CH from Na SID Pa)) (beginning file e)
  hello_by_sound from to na sid pa t hn hs hp =
      let f = found (Said (By from to) (what.Hello (record { agent = from; na = na; sid = sid; pa = pa }))) t in
      let r = (heard_at file f.0).row in
      let b = both (said_by (heard_at file f.0) from to) (is_hello file r from na sid pa) f.2 in
      by_sound file P e le f.0 from to f.1 b.0
      (hello_is file P r from na sid pa (row_in file P e le f.0 f.1) b.1 hn hs hp)

  pub hello_by_complete : (from to na sid pa : ℕ) {Na : paper.nonce} {SID Pa : ℕ} →
      In (Says from to (CH from Na SID Pa)) (beginning file e) → RowHolds file na (paper.Nonce Na) →
      RowHolds file sid (paper.Number SID) → RowHolds file pa (paper.Number Pa) → earlier file (Said (By from to) (what.Hello (record { agent = from; na = na; sid = sid; pa = pa }))) e ≡ true
  hello_by_complete from to na sid pa i hn hs hp =
      let t = said_told file P e le i in
      some (Said (By from to) (what.Hello (record { agent = from; na = na; sid = sid; pa = pa }))) t.at t.before
      (rw (t.by, is_hello_lem file P (heard_at file t.at).row from na sid pa t.row t.meant hn hs hp) refl)

  pub hello_to_sound : (to agent na sid pa : ℕ) {Na : paper.nonce} {SID Pa : ℕ} → earlier file (Said (To to) (what.Hello (record { agent = agent; na = na; sid = sid; pa = pa }))) e ≡ true →
      RowHolds file na (paper.Nonce Na) → RowHolds file sid (paper.Number SID) → RowHolds file pa (paper.Number Pa) →
      (A : paper.agent) × In (Says A to (CH agent Na SID Pa)) (beginning file e)
  hello_to_sound to agent na sid pa t hn hs hp =
      let f = found (Said (To to) (what.Hello (record { agent = agent; na = na; sid = sid; pa = pa }))) t in
      let r = (heard_at file f.0).row in
      let b = both (said_to (heard_at file f.0) to) (is_hello file r agent na sid pa) f.2 in
      to_sound file P e le f.0 to f.1 b.0
      (hello_is file P r agent na sid pa (row_in file P e le f.0 f.1) b.1 hn hs hp)

  pub hello_to_complete : (to agent na sid pa : ℕ) {A : paper.agent} {Na : paper.nonce} {SID Pa : ℕ} →
      In (Says A to (CH agent Na SID Pa)) (beginning file e) → RowHolds file na (paper.Nonce Na) →
      RowHolds file sid (paper.Number SID) → RowHolds file pa (paper.Number Pa) → earlier file (Said (To to) (what.Hello (record { agent = agent; na = na; sid = sid; pa = pa }))) e ≡ true
  hello_to_complete to agent na sid pa i hn hs hp =
      let t = said_told file P e le i in
      some (Said (To to) (what.Hello (record { agent = agent; na = na; sid = sid; pa = pa }))) t.at t.before
      (rw (t.to, is_hello_lem file P (heard_at file t.at).row agent na sid pa t.row t.meant hn hs hp) refl)

  pub reply_with_sound : (to nb : ℕ) {Nb : paper.nonce} → earlier file (Said (To to) (what.ReplyWith nb)) e ≡ true → RowHolds file nb (paper.Nonce Nb) →
      (B : paper.agent) × (SID : ℕ) × (Pb : ℕ) × In (Says B to (SH Nb SID Pb)) (beginning file e)
  reply_with_sound to nb {Nb} t hn =
      let (j, l, f) = found (Said (To to) (what.ReplyWith nb)) t in
      let b = both (said_to (heard_at file j) to) _ f in
      let (m, h, c) = is_some_and_true b.1 in
      let (_, SID, Pb, x) = (shapes file P).reply_sound (heard_at file j).row (row_in file P e le j l) h in
      let q : message file (heard_at file j).row ≡ SH Nb SID Pb = rw (x.whole, nonce_one (one_message file m.nb nb x.nb c hn)) refl in
      let s = to_sound file P e le j to l b.0 q in
      (s.0, SID, Pb, s.1)

  pub reply_with_complete : (to nb : ℕ) {B : paper.agent} {Nb : paper.nonce} {SID Pb : ℕ} → In (Says B to (SH Nb SID Pb)) (beginning file e) →
      RowHolds file nb (paper.Nonce Nb) → earlier file (Said (To to) (what.ReplyWith nb)) e ≡ true
  reply_with_complete to nb i hn =
      let t = said_told file P e le i in
      let (m, x) = (shapes file P).reply_complete (heard_at file t.at).row t.row t.meant in
      some (Said (To to) (what.ReplyWith nb)) t.at t.before (rw (t.to, x.found, one_row file P m.nb nb x.nb hn) refl)

  pub reply_to_sound : (to nb sid pb : ℕ) {Nb : paper.nonce} {SID Pb : ℕ} → earlier file (Said (To to) (what.Reply (record { nb = nb; sid = sid; pb = pb }))) e ≡ true →
      RowHolds file nb (paper.Nonce Nb) → RowHolds file sid (paper.Number SID) → RowHolds file pb (paper.Number Pb) →
      (B : paper.agent) × In (Says B to (SH Nb SID Pb)) (beginning file e)
  reply_to_sound to nb sid pb t hn hs hp =
      let f = found (Said (To to) (what.Reply (record { nb = nb; sid = sid; pb = pb }))) t in
      let r = (heard_at file f.0).row in
      let b = both (said_to (heard_at file f.0) to) (is_reply file r nb sid pb) f.2 in
      to_sound file P e le f.0 to f.1 b.0 (reply_is file P r nb sid pb (row_in file P e le f.0 f.1) b.1 hn hs hp)

  pub reply_to_complete : (to nb sid pb : ℕ) {B : paper.agent} {Nb : paper.nonce} {SID Pb : ℕ} →
      In (Says B to (SH Nb SID Pb)) (beginning file e) → RowHolds file nb (paper.Nonce Nb) →
      RowHolds file sid (paper.Number SID) → RowHolds file pb (paper.Number Pb) → earlier file (Said (To to) (what.Reply (record { nb = nb; sid = sid; pb = pb }))) e ≡ true
  reply_to_complete to nb sid pb i hn hs hp =
      let t = said_told file P e le i in
      some (Said (To to) (what.Reply (record { nb = nb; sid = sid; pb = pb }))) t.at t.before
      (rw (t.to, is_reply_lem file P (heard_at file t.at).row nb sid pb t.row t.meant hn hs hp) refl)

  pub reply_by_sound : (from to nb sid pb : ℕ) {Nb : paper.nonce} {SID Pb : ℕ} → earlier file (Said (By from to) (what.Reply (record { nb = nb; sid = sid; pb = pb }))) e ≡ true →
      RowHolds file nb (paper.Nonce Nb) → RowHolds file sid (paper.Number SID) → RowHolds file pb (paper.Number Pb) →
      In (Says from to (SH Nb SID Pb)) (beginning file e)
  reply_by_sound from to nb sid pb t hn hs hp =
      let f = found (Said (By from to) (what.Reply (record { nb = nb; sid = sid; pb = pb }))) t in
      let r = (heard_at file f.0).row in
      let b = both (said_by (heard_at file f.0) from to) (is_reply file r nb sid pb) f.2 in
      by_sound file P e le f.0 from to f.1 b.0 (reply_is file P r nb sid pb (row_in file P e le f.0 f.1) b.1 hn hs hp)

  pub reply_by_complete : (from to nb sid pb : ℕ) {Nb : paper.nonce} {SID Pb : ℕ} →
      In (Says from to (SH Nb SID Pb)) (beginning file e) → RowHolds file nb (paper.Nonce Nb) →
      RowHolds file sid (paper.Number SID) → RowHolds file pb (paper.Number Pb) → earlier file (Said (By from to) (what.Reply (record { nb = nb; sid = sid; pb = pb }))) e ≡ true
  reply_by_complete from to nb sid pb i hn hs hp =
      let t = said_told file P e le i in
      some (Said (By from to) (what.Reply (record { nb = nb; sid = sid; pb = pb }))) t.at t.before
      (rw (t.by, is_reply_lem file P (heard_at file t.at).row nb sid pb t.row t.meant hn hs hp) refl)

  pub cert_sound : (to agent key : ℕ) {K : paper.key} → earlier file (Said (To to) (what.Certificate agent key)) e ≡ true → RowHolds file key (paper.Key K) →
      (B : paper.agent) × In (Says B to (cert agent K)) (beginning file e)
  cert_sound to agent key {K} t hk =
      let (j, l, f) = found (Said (To to) (what.Certificate agent key)) t in
      let b = both (said_to (heard_at file j) to) _ f in
      let (m, h, g) = is_some_and_true b.1 in
      let c = both (eqb m.agent agent) (eqb m.key key) g in
      let (_, x) = (shapes file P).signed_sound (heard_at file j).row (row_in file P e le j l) h in
      let q : message file (heard_at file j).row ≡ cert agent K =
      x.whole ∙ cert_same (eqb-true m.agent agent c.0) (key_one (one_message file m.key key x.key c.1 hk))
      in
      to_sound file P e le j to l b.0 q

  pub cert_complete : (to agent key : ℕ) {B : paper.agent} {K : paper.key} → In (Says B to (cert agent K)) (beginning file e) →
      RowHolds file key (paper.Key K) → earlier file (Said (To to) (what.Certificate agent key)) e ≡ true
  cert_complete to agent key i hk =
      let t = said_told file P e le i in
      let (m, x) = (shapes file P).signed_complete (heard_at file t.at).row t.row t.meant in
      some (Said (To to) (what.Certificate agent key)) t.at t.before
      (rw (t.to, x.found, eq-eqb m.agent agent x.agent, one_row file P m.key key x.key hk) refl)

  pub secret_sound : (from agent secret : ℕ) {PMS : paper.nonce} → earlier file (Noted from (note.Secret agent secret)) e ≡ true →
      RowHolds file secret (paper.Nonce PMS) → In (Notes from (secret_note agent PMS)) (beginning file e)
  secret_sound from agent secret {PMS} t hn =
      let (j, l, f) = found (Noted from (note.Secret agent secret)) t in
      let b = both (noted_by (heard_at file j) from) _ f in
      let (m, h, g) = is_some_and_true b.1 in
      let c = both (eqb m.agent agent) (eqb m.secret secret) g in
      let (_, x) = (shapes file P).kept_sound (heard_at file j).row (row_in file P e le j l) h in
      let q : message file (heard_at file j).row ≡ secret_note agent PMS =
      x.whole ∙ note_same (eqb-true m.agent agent c.0) (nonce_one (one_message file m.secret secret x.secret c.1 hn))
      in
      noted_sound file P e le j from l b.0 q

  pub secret_complete : (from agent secret : ℕ) {PMS : paper.nonce} → In (Notes from (secret_note agent PMS)) (beginning file e) →
      RowHolds file secret (paper.Nonce PMS) → earlier file (Noted from (note.Secret agent secret)) e ≡ true
  secret_complete from agent secret i hn =
      let t = noted_told file P e le i in
      let (m, x) = (shapes file P).kept_complete (heard_at file t.at).row t.row t.meant in
      some (Noted from (note.Secret agent secret)) t.at t.before
      (rw (t.by, x.found, eq-eqb m.agent agent x.agent, one_row file P m.secret secret x.secret hn) refl)

  pub sent_sound : (to secret : ℕ) {PMS : paper.nonce} → earlier file (Said (To to) (what.Sent to secret)) e ≡ true → RowHolds file secret (paper.Nonce PMS) →
      (A : paper.agent) × In (Says A to (paper.Crypt (paper.pub_k to) (paper.Nonce PMS))) (beginning file e)
  sent_sound to secret {PMS} t hn =
      let (j, l, f) = found (Said (To to) (what.Sent to secret)) t in
      let b = both (said_to (heard_at file j) to) _ f in
      let (c, h, g) = is_some_and_true b.1 in
      let (agent, k, i) = is_some_and_true g in
      let d = both (eqb agent to) (eqb c.body secret) i in
      let x = (shapes file P).crypt_sound (heard_at file j).row (row_in file P e le j l) h in
      let n = (shapes file P).public_sound c.key x.key.row k in
      let owner : agent ≡ to = eqb-true agent to d.0 in
      let body : c.body ≡ secret = eqb-true c.body secret d.1 in
      let q : message file (heard_at file j).row ≡ paper.Crypt (paper.pub_k to) (paper.Nonce PMS) =
      rw (x.whole, n.whole, owner, body, hn.meant) refl
      in
      to_sound file P e le j to l b.0 q

  pub sent_complete : (to secret : ℕ) {A : paper.agent} {PMS : paper.nonce} →
      In (Says A to (paper.Crypt (paper.pub_k to) (paper.Nonce PMS))) (beginning file e) → RowHolds file secret (paper.Nonce PMS) →
      earlier file (Said (To to) (what.Sent to secret)) e ≡ true
  sent_complete to secret i hn =
      let t = said_told file P e le i in
      let (c, x) = (shapes file P).crypt_complete (heard_at file t.at).row t.row t.meant in
      let n = (shapes file P).public_complete c.key x.key.row x.key.meant in
      some (Said (To to) (what.Sent to secret)) t.at t.before
      (rw (t.to, x.found, n.found, eq-eqb to to refl, one_row file P c.body secret x.body hn) refl)

  pub session_sound : (from sid a b m : ℕ) {SID : ℕ} {M : paper.nonce} → earlier file (Noted from (note.Session (record { sid = sid; a = a; b = b; m = m }))) e ≡ true →
      RowHolds file sid (paper.Number SID) → RowHolds file m (paper.Nonce M) → In (Notes from (session_note SID a b M)) (beginning file e)
  session_sound from sid a b m {SID} {M} t hs hm =
      let (j, l, f) = found (Noted from (note.Session (record { sid = sid; a = a; b = b; m = m }))) t in
      let d = both (noted_by (heard_at file j) from) _ f in
      let (y, h, g) = is_some_and_true d.1 in
      let c = both4 (eqb y.sid sid) (eqb y.a a) (eqb y.b b) (eqb y.m m) g in
      let (_, _, x) = (shapes file P).remembered_sound (heard_at file j).row (row_in file P e le j l) h in
      let q : message file (heard_at file j).row ≡ session_note SID a b M =
      x.whole ∙
      session_same (number_one (one_message file y.sid sid x.sid c.0 hs)) (eqb-true y.a a c.1) (eqb-true y.b b c.2)
      (nonce_one (one_message file y.m m x.m c.3 hm))
      in
      noted_sound file P e le j from l d.0 q

  pub session_complete : (from sid a b m : ℕ) {SID : ℕ} {M : paper.nonce} → In (Notes from (session_note SID a b M)) (beginning file e) →
      RowHolds file sid (paper.Number SID) → RowHolds file m (paper.Nonce M) → earlier file (Noted from (note.Session (record { sid = sid; a = a; b = b; m = m }))) e ≡ true
  session_complete from sid a b m i hs hm =
      let t = noted_told file P e le i in
      let (y, x) = (shapes file P).remembered_complete (heard_at file t.at).row t.row t.meant in
      some (Noted from (note.Session (record { sid = sid; a = a; b = b; m = m }))) t.at t.before
      (rw (
        t.by,
        x.found,
        one_row file P y.sid sid x.sid hs,
        eq-eqb y.a a x.a,
        eq-eqb y.b b x.b,
        one_row file P y.m m x.m hm,
      ) refl)

  pub under_sound : (from key : ℕ) {K : paper.key} → earlier file (Said (From from) (what.Under key)) e ≡ true → RowHolds file key (paper.Key K) →
      (B : paper.agent) × (X : paper.msg) × In (Says from B (paper.Crypt K X)) (beginning file e)
  under_sound from key {K} t hk =
      let (j, l, f) = found (Said (From from) (what.Under key)) t in
      let h = heard_at file j in
      let b = both (h.says && eqb h.from from) _ f in
      let (c, g, k) = is_some_and_true b.1 in
      let x = (shapes file P).crypt_sound h.row (row_in file P e le j l) g in
      let q : message file h.row ≡ paper.Crypt K (message file c.body) = rw (x.whole, eqb-true c.key key k, hk.meant) refl in
      let s = from_sound file P e le j from l b.0 q in
      (s.0, message file c.body, s.1)

  pub under_complete : (from key : ℕ) {B : paper.agent} {K : paper.key} {X : paper.msg} →
      In (Says from B (paper.Crypt K X)) (beginning file e) → RowHolds file key (paper.Key K) → earlier file (Said (From from) (what.Under key)) e ≡ true
  under_complete from key i hk =
      let t = said_told file P e le i in
      let (c, x) = (shapes file P).crypt_complete (heard_at file t.at).row t.row t.meant in
      some (Said (From from) (what.Under key)) t.at t.before
      (rw (t.says, eq-eqb (heard_at file t.at).from from t.from, x.found, one_row file P c.key key x.key hk) refl)
