-- Marks after a store: the new one is there, the others stay.
-- Assumes nothing.
use Prim.Native.Nat.{ℕ, ◌+◌, ◌<◌}
use mathlib.Core.Bool.{true, true≢false}
use mathlib.Core.List.{List}
use mathlib.Core.Path.{◌≡◌, sym, ◌∙◌}
use native.Mathlib.Omega.{arith}
use native.Mathlib.Decide.{ℕ_discrete}
use lib.Dec.{eqb, ltb}
use lib.ListN.{length, get_or, set, length-set, replicate, get_or-replicate}
use lib.Seq.{get_or-set_same, get_or-set_other}
use borrow.Author.Tests.{lt-ltb, ltb-true}
use Rattle.trace.specs.File.{row_limit, agent_limit}
use Rattle.laws.proofs.Both.{both}
use Rattle.trace.specs.declared.Row.{Row}
use Rattle.trace.specs.declared.Row.TheVariants.{Agent, Number, Nonce, Prf, PublicKey, PrivateKey, SessionKey, Hash, Crypt, Pair}
use Rattle.closure.specs.Closure.{key_room, marked, row_marked, key_marked, know, know_row, mark_row}

abbrev pub Marked : List ℕ → ℕ → Type 0
Marked rs r = row_marked rs r ≡ true

abbrev pub Known : List ℕ → ℕ → Type 0
Known ks i = key_marked ks i ≡ true

module _ (m : ℕ) (l : List ℕ) (room : length l ≡ m) where
  mark_below : (i : ℕ) → marked m l i ≡ true → i < m
  mark_below i e = ltb-true i m (both (ltb i m) (eqb (get_or l i 0) 1) e).0

  set_same : (i : ℕ) → i < m → marked m (set l i 1) i ≡ true
  set_same i h = rw (lt-ltb i m h, get_or-set_same l i 1 0 (omega arith))

  set_other : (i j : ℕ) → ¬ (j ≡ i) → marked m (set l i 1) j ≡ marked m l j
  set_other i j n = rw (get_or-set_other l i j 1 0 n)

  set_keep : (i j : ℕ) → marked m l j ≡ true → marked m (set l i 1) j ≡ true
  set_keep i j e = go (ℕ_discrete j i)
    where
      go : Dec (j ≡ i) → marked m (set l i 1) j ≡ true
      go (yes q) = rw q (set_same i (rw q at (mark_below j e)))
      go (no n) = set_other i j n ∙ e

  set_room : (i : ℕ) → length (set l i 1) ≡ m
  set_room i = length-set l i 1 ∙ room

-- a row below the limit whose byte is 1 has its mark
pub mark_is : (rs : List ℕ) (r : ℕ) → r < row_limit → get_or rs r 0 ≡ 1 → Marked rs r
mark_is rs r l e = rw (lt-ltb r row_limit l, e)

-- zeros have no mark
pub none_marked : (m i : ℕ) → ¬ (marked m (replicate m 0) i ≡ true)
none_marked m i e =
    let h = both (ltb i m) (eqb (get_or (replicate m 0) i 0) 1) e in
    true≢false (sym (rw (get_or-replicate {A = ℕ} m i 0 0 (ltb-true i m h.0)) at h.1))

-- public keys stand at 0 on
pub public_known : (ks : List ℕ) (a : ℕ) → know ks (0 + a) ≡ know ks a
public_known ks a = let e : 0 + a ≡ a = omega arith in rw e

module _ (rs : List ℕ) (room : length rs ≡ row_limit) where
  pub mark_same : (r : ℕ) → r < row_limit → Marked (mark_row rs r) r
  mark_same = set_same row_limit rs room

  pub mark_other : (r x : ℕ) → ¬ (x ≡ r) → row_marked (mark_row rs r) x ≡ row_marked rs x
  mark_other = set_other row_limit rs room

  pub mark_keep : (r x : ℕ) → Marked rs x → Marked (mark_row rs r) x
  mark_keep = set_keep row_limit rs room

  pub mark_room : (r : ℕ) → length (mark_row rs r) ≡ row_limit
  mark_room = set_room row_limit rs room

module _ (ks : List ℕ) (room : length ks ≡ key_room) where
  pub know_same : (i : ℕ) → i < key_room → Known (know ks i) i
  know_same = set_same key_room ks room

  pub know_other : (i j : ℕ) → ¬ (j ≡ i) → key_marked (know ks i) j ≡ key_marked ks j
  know_other = set_other key_room ks room

  pub know_keep : (i j : ℕ) → Known ks j → Known (know ks i) j
  know_keep = set_keep key_room ks room

  pub know_room : (i : ℕ) → length (know ks i) ≡ key_room
  know_room = set_room key_room ks room

  pub know_row_keep : (R : Row) (j : ℕ) → Known ks j → Known (know_row ks R) j
  know_row_keep (Agent a) j e = e
  know_row_keep (Number n) j e = e
  know_row_keep (Nonce n) j e = e
  know_row_keep (Prf s x y) j e = e
  know_row_keep (PublicKey a) j e = know_keep a.0 j e
  know_row_keep (PrivateKey a) j e = know_keep (agent_limit + a.0) j e
  know_row_keep (SessionKey o x y z) j e = e
  know_row_keep (Hash x) j e = e
  know_row_keep (Crypt k x) j e = e
  know_row_keep (Pair x y) j e = e

  pub know_row_room : (R : Row) → length (know_row ks R) ≡ key_room
  know_row_room (Agent a) = room
  know_row_room (Number n) = room
  know_row_room (Nonce n) = room
  know_row_room (Prf s x y) = room
  know_row_room (PublicKey a) = know_room a.0
  know_row_room (PrivateKey a) = know_room (agent_limit + a.0)
  know_row_room (SessionKey o x y z) = room
  know_row_room (Hash x) = room
  know_row_room (Crypt k x) = room
  know_row_room (Pair x y) = room
