-- No message has two of the shapes that are looked for.
-- Assumes nothing.
use Prim.Native.Nat.{ℕ}
use mathlib.Core.Bool.{true, false, true≢false}
use mathlib.Core.List.{List}
use mathlib.Core.Path.{◌≡◌, refl, sym, ◌∙◌, ap}
use Rattle.std.specs.Prelude.{Option, Some, None}
use Rattle.std.proofs.lemmas.Option.{none-some, same_Some}
use Rattle.trace.specs.Kinds.{row_at}
use Rattle.trace.specs.declared.Row.{Row}
use Rattle.trace.specs.declared.Row.TheVariants.{Pair, PublicKey}
use Rattle.laws.proofs.Both.{both3}
use Rattle.laws.proofs.Options.{Finds, finds, finding, one_found, and_then_some, then_some_true}
use Rattle.forms.specs.Kinds.{agent_of, public_in, public_of, private_in, private_of, pair_in, pair_of, crypt_in, crypt_of, is_number_row, is_number, is_nonce_row, is_nonce}
use Rattle.forms.specs.Forms.{three_of, four_of, hello_of, reply_of, kept_of, signed_of, remembered_of}
use Rattle.forms.specs.declared.leaves.Crypt as leaf
use Rattle.forms.specs.declared.Hello.{Hello}
use Rattle.forms.specs.declared.Reply.{Reply}
use Rattle.forms.specs.declared.Kept.{Kept}
use Rattle.forms.specs.declared.Signed.{Signed}
use Rattle.forms.specs.declared.Remembered.{Remembered}

-- what is nothing finds nothing
pub unfound : {A B : Type 0} {o : Option A} {x : A} → o ≡ None → o ≡ Some x → B
unfound {x = x} n s = absurd (none-some x (sym n ∙ s))

nothing : {A : Type 0} {o : Option A} → ((x : A) → o ≡ Some x → ⊥) → o ≡ None
nothing {o = Some x} n = absurd (n x refl)
nothing {o = None} n = refl

-- two kinds of one row
pair_crypt : (R : Row) {p : ℕ × ℕ} → Finds (pair_in R) p → crypt_in R ≡ None
pair_crypt (Pair x y) finds = refl
pair_crypt _ f = elim f [ ]

pair_number : (R : Row) {p : ℕ × ℕ} → Finds (pair_in R) p → is_number_row R ≡ false
pair_number (Pair x y) finds = refl
pair_number _ f = elim f [ ]

pair_nonce : (R : Row) {p : ℕ × ℕ} → Finds (pair_in R) p → is_nonce_row R ≡ false
pair_nonce (Pair x y) finds = refl
pair_nonce _ f = elim f [ ]

public_private : (R : Row) {a : ℕ} → Finds (public_in R) a → private_in R ≡ None
public_private (PublicKey x) finds = refl
public_private _ f = elim f [ ]

module _ (file : List ℕ) where
  no_crypt : (r : ℕ) {p : ℕ × ℕ} → pair_of file r ≡ Some p → crypt_of file r ≡ None
  unfolding pair_of crypt_of
  no_crypt r e = pair_crypt (row_at file r) (finding e)

  no_number : (r : ℕ) {p : ℕ × ℕ} → pair_of file r ≡ Some p → is_number file r ≡ true → ⊥
  unfolding pair_of is_number
  no_number r e t = true≢false (sym t ∙ pair_number (row_at file r) (finding e))

  no_nonce : (r : ℕ) {p : ℕ × ℕ} → pair_of file r ≡ Some p → is_nonce file r ≡ true → ⊥
  unfolding pair_of is_nonce
  no_nonce r e t = true≢false (sym t ∙ pair_nonce (row_at file r) (finding e))

  no_private : (k : ℕ) {a : ℕ} → public_of file k ≡ Some a → private_of file k ≡ None
  unfolding public_of private_of
  no_private k e = public_private (row_at file k) (finding e)

module _ (file : List ℕ) (r : ℕ) where
  -- pairs that begin at the row, and what the last of them holds
  hello_pairs : {m : Hello} → hello_of file r ≡ Some m →
      (p : ℕ × ℕ) × (q : ℕ × ℕ) × (s : ℕ × ℕ) × (pair_of file r ≡ Some p) × (pair_of file p.1 ≡ Some q) × (pair_of file q.1 ≡ Some s)
  unfolding hello_of four_of three_of
  hello_pairs h =
      let (f, ef, hf) = and_then_some h in
      let (p, ep, hp) = and_then_some ef in
      let (t, et, ht) = and_then_some hp in
      let (q, eq, hq) = and_then_some et in
      let (s, es, hs) = and_then_some hq in
      (p, q, s, ep, eq, es)

  three_pairs : {t : ℕ × ℕ × ℕ} → three_of file r ≡ Some t →
      (p : ℕ × ℕ) × (q : ℕ × ℕ) × (pair_of file r ≡ Some p) × (pair_of file p.1 ≡ Some q) × ((p.0, q.0, q.1) ≡ t)
  unfolding three_of
  three_pairs h =
      let (p, ep, hp) = and_then_some h in
      let (q, eq, hq) = and_then_some hp in
      (p, q, ep, eq, same_Some _ _ hq)

  reply_three : {m : Reply} → reply_of file r ≡ Some m → (t : ℕ × ℕ × ℕ) × (three_of file r ≡ Some t) × (is_number file t.2 ≡ true)
  unfolding reply_of
  reply_three h =
      let (t, et, ht) = and_then_some h in
      let b = both3 (is_nonce file t.0) (is_number file t.1) (is_number file t.2) (then_some_true ht).0 in
      (t, et, b.2)

  reply_pairs : {m : Reply} → reply_of file r ≡ Some m →
      (p : ℕ × ℕ) × (q : ℕ × ℕ) × (pair_of file r ≡ Some p) × (pair_of file p.1 ≡ Some q) × (is_number file q.1 ≡ true)
  reply_pairs h =
      let (t, et, n) = reply_three h in
      let (p, q, ep, eq, one) = three_pairs et in
      (p, q, ep, eq, ap (λ (x : ℕ × ℕ × ℕ). is_number file x.2) one ∙ n)

  pub hello_crypt : (m : Hello) → hello_of file r ≡ Some m → crypt_of file r ≡ None
  hello_crypt m h = let (p, q, s, ep, _, _) = hello_pairs h in no_crypt file r ep

  pub reply_crypt : (m : Reply) → reply_of file r ≡ Some m → crypt_of file r ≡ None
  reply_crypt m h = let (p, q, ep, _, _) = reply_pairs h in no_crypt file r ep

  pub reply_hello : (m : Reply) → reply_of file r ≡ Some m → hello_of file r ≡ None
  reply_hello m h = nothing (λ x g.
      let (p, q, ep, eq, n) = reply_pairs h in
      let (p', q', s, ep', eq', es) = hello_pairs g in
      apart p q p' q' s ep eq n ep' eq' es)
    where
      apart : (p q p' q' s : ℕ × ℕ) → pair_of file r ≡ Some p → pair_of file p.1 ≡ Some q → is_number file q.1 ≡ true →
          pair_of file r ≡ Some p' → pair_of file p'.1 ≡ Some q' → pair_of file q'.1 ≡ Some s → ⊥
      apart p q p' q' s ep eq n ep' eq' es =
          let one : p'.1 ≡ p.1 = ap (λ (x : ℕ × ℕ). x.1) (one_found ep' ep) in
          let two : q'.1 ≡ q.1 = ap (λ (x : ℕ × ℕ). x.1) (one_found (rw one at eq') eq) in
          no_number file q.1 (rw two at es) n

  kept_pair : {m : Kept} → kept_of file r ≡ Some m → (p : ℕ × ℕ) × (pair_of file r ≡ Some p) × (is_nonce file p.1 ≡ true)
  unfolding kept_of
  kept_pair h =
      let (p, ep, hp) = and_then_some h in
      let (a, ea, ha) = and_then_some {o = agent_of file p.0} hp in
      (p, ep, (then_some_true ha).0)

  session_pairs : {m : Remembered} → remembered_of file r ≡ Some m →
      (p : ℕ × ℕ) × (q : ℕ × ℕ) × (pair_of file r ≡ Some p) × (pair_of file p.1 ≡ Some q)
  unfolding remembered_of four_of three_of
  session_pairs h =
      let (f, ef, hf) = and_then_some h in
      let (p, ep, hp) = and_then_some ef in
      let (t, et, ht) = and_then_some hp in
      let (q, eq, hq) = and_then_some et in
      (p, q, ep, eq)

  pub session_kept : (m : Remembered) → remembered_of file r ≡ Some m → kept_of file r ≡ None
  session_kept m h = nothing (λ x g.
      let (p, q, ep, eq) = session_pairs h in
      let (p', ep', n) = kept_pair g in
      apart p q p' ep eq ep' n)
    where
      apart : (p q p' : ℕ × ℕ) → pair_of file r ≡ Some p → pair_of file p.1 ≡ Some q →
          pair_of file r ≡ Some p' → is_nonce file p'.1 ≡ true → ⊥
      apart p q p' ep eq ep' n =
          let one : p'.1 ≡ p.1 = ap (λ (x : ℕ × ℕ). x.1) (one_found ep' ep) in
          no_nonce file p.1 eq (rw one at n)

  signed_parts : {m : Signed} → signed_of file r ≡ Some m →
      (c : leaf.Crypt) × (signer : ℕ) × (crypt_of file r ≡ Some c) × (private_of file c.key ≡ Some signer)
  unfolding signed_of
  signed_parts h =
      let (c, ec, hc) = and_then_some h in
      let (signer, es, hs) = and_then_some hc in
      (c, signer, ec, es)

  pub cert_crypt : (m : Signed) → signed_of file r ≡ Some m → (c : leaf.Crypt) × (crypt_of file r ≡ Some c)
  cert_crypt m h = let (c, signer, ec, es) = signed_parts h in (c, ec)

  pub sent_cert : (c : leaf.Crypt) (a : ℕ) → crypt_of file r ≡ Some c → public_of file c.key ≡ Some a → signed_of file r ≡ None
  sent_cert c a e p = nothing (λ x g. let (c', signer, ec, es) = signed_parts g in apart c' signer ec es)
    where
      apart : (c' : leaf.Crypt) (signer : ℕ) → crypt_of file r ≡ Some c' → private_of file c'.key ≡ Some signer → ⊥
      apart c' signer ec es =
          let one : c'.key ≡ c.key = ap (λ (x : leaf.Crypt). x.key) (one_found ec e) in
          unfound (no_private file c.key p) (rw one at es)
