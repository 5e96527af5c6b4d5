-- An event's card is what is asked for, and its agents are, exactly when the event is what is wanted.
-- Assumes nothing.
use Prim.Native.Nat.{ℕ}
use mathlib.Core.Bool.{Bool, true, false, not, ◌&&◌}
use mathlib.Core.List.{List}
use mathlib.Core.Path.{◌≡◌, refl, sym, ◌∙◌}
use lib.Dec.{eqb}
use borrow.Author.Tests.{not-true}
use Rattle.std.specs.Prelude.{Option, Some, None}
use Rattle.laws.specs.Options.{is_some_and}
use Rattle.laws.proofs.Both.{both, both3, and_true, and_false}
use Rattle.forms.specs.Kinds.{crypt_of, public_of}
use Rattle.forms.specs.Forms.{hello_of, reply_of, kept_of, signed_of, remembered_of}
use Rattle.forms.specs.declared.leaves.Crypt.{Crypt}
use Rattle.forms.specs.declared.Hello.{Hello}
use Rattle.forms.specs.declared.Reply.{Reply}
use Rattle.forms.specs.declared.Kept.{Kept}
use Rattle.forms.specs.declared.Signed.{Signed}
use Rattle.forms.specs.declared.Remembered.{Remembered}
use Rattle.earlier.specs.Heard.{Heard}
use Rattle.earlier.specs.declared.Wanted.{Wanted}
use Rattle.earlier.specs.declared.Who.{Who}
use Rattle.earlier.specs.declared.What.{What}
use Rattle.earlier.specs.declared.Note.{Note}
use Rattle.earlier.specs.declared.Wanted.TheVariants.{Said, Noted}
use Rattle.earlier.specs.declared.Who.TheVariants.{To, By, From}
use Rattle.earlier.specs.declared.What.TheVariants as what
use Rattle.earlier.specs.declared.Note.TheVariants as note
use Rattle.earlier.specs.declared.cards.Card.{Card}
use Rattle.earlier.specs.declared.cards.Card.TheVariants as card
use Rattle.earlier.specs.Earlier.{said_as, noted_by, holds, keeps, fits_in}
use Rattle.earlier.specs.Cards.{crypt_card, clear_card, said_card, noted_with, card_of, fits_said, fits_noted, fits_card, fits_agents}
use Rattle.earlier.proofs.Apart.{unfound, hello_crypt, reply_crypt, reply_hello, session_kept, cert_crypt, sent_cert}

-- what no Crypt is
not_crypt : (p : Card → Bool) (x : Crypt) (s : Option Signed) (k : Option ℕ) → ((m : Signed) → p (card.Certificate x.key m) ≡ false) →
    ((a : ℕ) → p (card.Sent x.key a x.body) ≡ false) → p (card.Crypt x.key) ≡ false → p (crypt_card x s k) ≡ false
not_crypt p x (Some m) k f g n = f m
not_crypt p x None (Some a) f g n = g a
not_crypt p x None None f g n = n

-- the card of a message with one of the shapes, of which it has no two
module _ (p : Card → Bool) (k : Crypt → Option ℕ) where
  abbrev one : Option Crypt → Option Signed → Option Hello → Option Reply → Card
  one c s h n = elim c [ Some x ↦ crypt_card x s (k x) | None ↦ clear_card h n ]

  of_crypt : (test : Crypt → Bool) (c : Option Crypt) (s : Option Signed) (h : Option Hello) (n : Option Reply) →
      ((x : Crypt) → c ≡ Some x → test x ≡ p (crypt_card x s (k x))) → p card.Other ≡ false →
      ((m : Hello) → p (card.Hello m) ≡ false) → ((m : Reply) → p (card.Reply m) ≡ false) → is_some_and c test ≡ p (one c s h n)
  of_crypt test (Some x) s h n same o f g = same x refl
  of_crypt test None s (Some m) n same o f g = sym (f m)
  of_crypt test None s None (Some m) same o f g = sym (g m)
  of_crypt test None s None None same o f g = sym o

  of_hello : (c : Option Crypt) (s : Option Signed) (h : Option Hello) (n : Option Reply) → ((m : Hello) → h ≡ Some m → c ≡ None) →
      p card.Other ≡ false → ((x : Crypt) (m : Signed) → p (card.Certificate x.key m) ≡ false) →
      ((x : Crypt) (a : ℕ) → p (card.Sent x.key a x.body) ≡ false) → ((x : Crypt) → p (card.Crypt x.key) ≡ false) →
      ((m : Reply) → p (card.Reply m) ≡ false) → is_some_and h (λ m. p (card.Hello m)) ≡ p (one c s h n)
  of_hello (Some x) s (Some m) n apart o f g e r = unfound (apart _ refl) refl
  of_hello (Some x) s None n apart o f g e r = sym (not_crypt p x s (k x) (f x) (g x) (e x))
  of_hello None s (Some m) n apart o f g e r = refl
  of_hello None s None (Some m) apart o f g e r = sym (r m)
  of_hello None s None None apart o f g e r = sym o

  of_reply : (c : Option Crypt) (s : Option Signed) (h : Option Hello) (n : Option Reply) → ((m : Reply) → n ≡ Some m → c ≡ None) →
      ((m : Reply) → n ≡ Some m → h ≡ None) → p card.Other ≡ false → ((x : Crypt) (m : Signed) → p (card.Certificate x.key m) ≡ false) →
      ((x : Crypt) (a : ℕ) → p (card.Sent x.key a x.body) ≡ false) → ((x : Crypt) → p (card.Crypt x.key) ≡ false) →
      ((m : Hello) → p (card.Hello m) ≡ false) → is_some_and n (λ m. p (card.Reply m)) ≡ p (one c s h n)
  of_reply (Some x) s h (Some m) no_c no_h o f g e r = unfound (no_c _ refl) refl
  of_reply (Some x) s h None no_c no_h o f g e r = sym (not_crypt p x s (k x) (f x) (g x) (e x))
  of_reply None s (Some y) (Some m) no_c no_h o f g e r = unfound (no_h _ refl) refl
  of_reply None s (Some y) None no_c no_h o f g e r = sym (r y)
  of_reply None s None (Some m) no_c no_h o f g e r = refl
  of_reply None s None None no_c no_h o f g e r = sym o

-- a certificate is a Crypt
of_cert : (agent key : ℕ) (k : Crypt → Option ℕ) (c : Option Crypt) (s : Option Signed) (h : Option Hello) (n : Option Reply) →
    ((m : Signed) → s ≡ Some m → (x : Crypt) × (c ≡ Some x)) →
    is_some_and s (λ m. eqb m.agent agent && eqb m.key key) ≡
    fits_said (what.Certificate agent key) (one (fits_said (what.Certificate agent key)) k c s h n)
of_cert agent key k (Some x) (Some m) h n crypt = refl
of_cert agent key k (Some x) None h n crypt = sym (not_cert x (k x))
  where
    not_cert : (x : Crypt) (k : Option ℕ) → fits_said (what.Certificate agent key) (crypt_card x None k) ≡ false
    not_cert x (Some a) = refl
    not_cert x None = refl
of_cert agent key k None (Some m) h n crypt = unfound refl (crypt m refl).1
of_cert agent key k None None (Some m) n crypt = refl
of_cert agent key k None None None (Some m) crypt = refl
of_cert agent key k None None None None crypt = refl

-- what a Crypt holds
sent : (x : Crypt) (s : Option Signed) (k : Option ℕ) (to secret : ℕ) → ((a : ℕ) → k ≡ Some a → s ≡ None) →
    is_some_and k (λ agent. eqb agent to && eqb x.body secret) ≡ fits_said (what.Sent to secret) (crypt_card x s k)
sent x (Some m) (Some a) to secret apart = unfound (apart _ refl) refl
sent x (Some m) None to secret apart = refl
sent x None (Some a) to secret apart = refl
sent x None None to secret apart = refl

under : (x : Crypt) (s : Option Signed) (k : Option ℕ) (key : ℕ) → eqb x.key key ≡ fits_said (what.Under key) (crypt_card x s k)
under x (Some m) k key = refl
under x None (Some a) key = refl
under x None None key = refl

-- what is noted
of_kept : (agent secret : ℕ) (k : Option Kept) (n : Option Remembered) →
    is_some_and k (λ m. eqb m.agent agent && eqb m.secret secret) ≡ fits_noted (note.Secret agent secret) (noted_with k n)
of_kept agent secret (Some m) n = refl
of_kept agent secret None (Some m) = refl
of_kept agent secret None None = refl

of_session : (w : Remembered) (k : Option Kept) (n : Option Remembered) → ((y : Remembered) → n ≡ Some y → k ≡ None) →
    is_some_and n (λ y. eqb y.sid w.sid && eqb y.a w.a && eqb y.b w.b && eqb y.m w.m) ≡ fits_noted (note.Session w) (noted_with k n)
of_session w (Some x) (Some y) apart = unfound (apart _ refl) refl
of_session w (Some x) None apart = refl
of_session w None (Some y) apart = refl
of_session w None None apart = refl

module _ (file : List ℕ) (r : ℕ) where
  abbrev keys : Crypt → Option ℕ
  keys x = public_of file x.key

  abbrev c : Option Crypt
  c = crypt_of file r

  abbrev s : Option Signed
  s = signed_of file r

  abbrev h : Option Hello
  h = hello_of file r

  abbrev n : Option Reply
  n = reply_of file r

  said_fits : (w : What) → holds file r w ≡ fits_said w (said_card file r)
  said_fits (what.Hello m) =
      of_hello (fits_said (what.Hello m)) keys c s h n (hello_crypt file r) refl (λ x m. refl) (λ x a. refl) (λ x. refl) (λ m. refl)
  said_fits (what.HelloFor agent sid) =
      of_hello (fits_said (what.HelloFor agent sid)) keys c s h n (hello_crypt file r) refl (λ x m. refl) (λ x a. refl) (λ x. refl) (λ m. refl)
  said_fits (what.Reply m) =
      of_reply (fits_said (what.Reply m)) keys c s h n (reply_crypt file r) (reply_hello file r)
      refl (λ x m. refl) (λ x a. refl) (λ x. refl) (λ m. refl)
  said_fits (what.ReplyWith nb) =
      of_reply (fits_said (what.ReplyWith nb)) keys c s h n (reply_crypt file r) (reply_hello file r)
      refl (λ x m. refl) (λ x a. refl) (λ x. refl) (λ m. refl)
  said_fits (what.Certificate agent key) = of_cert agent key keys c s h n (cert_crypt file r)
  said_fits (what.Sent to secret) =
      of_crypt (fits_said (what.Sent to secret)) keys _ c s h n
      (λ x e. sent x s (public_of file x.key) to secret (λ a p. sent_cert file r x a e p))
      refl (λ m. refl) (λ m. refl)
  said_fits (what.Under key) =
      of_crypt (fits_said (what.Under key)) keys _ c s h n (λ x e. under x s (public_of file x.key) key) refl (λ m. refl) (λ m. refl)

  noted_fits : (w : Note) → keeps file r w ≡ fits_noted w (noted_with (kept_of file r) (remembered_of file r))
  noted_fits (note.Secret agent secret) = of_kept agent secret (kept_of file r) (remembered_of file r)
  noted_fits (note.Session m) = of_session m (kept_of file r) (remembered_of file r) (session_kept file r)

-- the card is of a message that is said, or noted
swapped : (g : Bool) {p q : Bool} → (g ≡ true → p ≡ q) → (g && p) ≡ (q && g)
swapped true {p} {q} e = e refl ∙ sym (and_true q)
swapped false {p} {q} e = sym (and_false q)

module _ (file : List ℕ) (h : Heard) where
  said : (wanted : Wanted) → h.says ≡ true → fits_card wanted (said_card file h.row) ≡ fits_card wanted (card_of file h)
  said wanted t = rw t refl

  noted : (wanted : Wanted) → not h.says ≡ true →
      fits_card wanted (noted_with (kept_of file h.row) (remembered_of file h.row)) ≡ fits_card wanted (card_of file h)
  noted wanted t = rw (not-true h.says t) refl

  as_says : (who : Who) → said_as h who ≡ true → h.says ≡ true
  as_says (To to) t = (both h.says (eqb h.to to) t).0
  as_says (By from to) t = (both3 h.says (eqb h.from from) (eqb h.to to) t).0
  as_says (From from) t = (both h.says (eqb h.from from) t).0

  pub card_fits : (wanted : Wanted) → fits_in file wanted h ≡ (fits_card wanted (card_of file h) && fits_agents wanted h)
  card_fits (Said who w) = swapped (said_as h who) (λ t. said_fits file h.row w ∙ said (Said who w) (as_says who t))
  card_fits (Noted from w) =
      swapped (noted_by h from) (λ t. noted_fits file h.row w ∙ noted (Noted from w) (both (not h.says) (eqb h.from from) t).0)
