-- Bytes put one after the other: two runs are one run of both, and a run that has room stands where it was put.
-- Assumes nothing.
use Prim.Native.Nat.{ℕ, suc, ◌+◌, ◌<◌, ◌≤◌}
use mathlib.Core.List.{List, [], ◌∷◌, ◌++◌}
use mathlib.Core.Path.{◌≡◌, refl, sym, ap, ◌∙◌}
use native.Mathlib.Omega.{arith}
use native.Mathlib.Numerals.{add-one}
use lib.ListN.{length, set, drop, take, get_or, length-set}
use lib.Seq.{sets, sets-eq, take-suc, take-length}
use borrow.Author.Tests.{lt-ltb, le-ltb}
use Rattle.report.specs.Page.{Page, page_at, put_byte, puts, Put}

puts_append : (p : Page) (xs ys : List ℕ) → puts p (xs ++ ys) ≡ puts (puts p xs) ys
unfolding puts
puts_append p [] ys = refl
puts_append p (x ∷ xs) ys = puts_append (put_byte p x) xs ys

byte_room : (l : List ℕ) (i b : ℕ) → i < length l → put_byte (page_at l i) b ≡ page_at (set l i b) (suc i)
unfolding put_byte
byte_room l i b h = rw (lt-ltb i (length l) h, put_byte) refl

byte_full : (l : List ℕ) (i b : ℕ) → length l ≤ i → put_byte (page_at l i) b ≡ page_at l i
unfolding put_byte
byte_full l i b h = rw (le-ltb i (length l) h, put_byte) refl

module _ {a : List ℕ} {i : ℕ} where
  pub put_none : Put a i [] a i
  unfolding puts
  put_none = record { is = refl }

  pub put_room : (b : ℕ) → i < length a → Put a i (b ∷ []) (set a i b) (i + 1)
  unfolding puts
  put_room b l = record { is = rw (add-one i) (sym (byte_room a i b l)) }

  pub put_full : (b : ℕ) → length a ≤ i → Put a i (b ∷ []) a i
  unfolding puts
  put_full b l = record { is = sym (byte_full a i b l) }

  pub put_then : {xs ys b c : List ℕ} {j k : ℕ} → Put a i xs b j → Put b j ys c k → Put a i (xs ++ ys) c k
  put_then {xs} {ys} p q = record { is = q.is ∙ ap (λ (r : Page). puts r ys) p.is ∙ sym (puts_append (page_at a i) xs ys) }

  -- one byte more of a word
  pub put_next : {b c : List ℕ} {j k : ℕ} (word : List ℕ) (n : ℕ) → n < length word →
      Put a i (take n word) b j → Put b j (get_or word n 0 ∷ []) c k → Put a i (take (n + 1) word) c k
  put_next {b} {c} {j} {k} word n l p q = rw (add-one n, take-suc word n 0 l) (put_then p q)

  pub put_whole : {b : List ℕ} {j : ℕ} (word : List ℕ) (n : ℕ) → n ≡ length word → Put a i (take n word) b j → Put a i word b j
  put_whole word n e p = rw (e, take-length word) at p

-- a run that has room
run : (bs l : List ℕ) (i : ℕ) → i + length bs ≤ length l → puts (page_at l i) bs ≡ page_at (sets l i bs) (i + length bs)
unfolding puts
run [] l i h = let e : i ≡ i + 0 = omega arith in ap (page_at l) e
run (b ∷ bs) l i h =
    let s : i + suc (length bs) ≡ suc i + length bs = omega arith in
    let r : suc i + length bs ≤ length (set l i b) = rw (length-set l i b) (omega arith) in
    ap (λ (p : Page). puts p bs) (byte_room l i b (omega arith)) ∙ rw s (run bs (set l i b) (suc i) r)

module _ (before bs after : List ℕ) (n : ℕ) (p : Put before 0 bs after n) (h : length bs ≤ length before) where
  runs : page_at after n ≡ page_at (sets before 0 bs) (0 + length bs)
  runs = p.is ∙ run bs before 0 (omega arith)

  pub put_size : n ≡ length bs
  put_size = let e = ap (λ (r : Page). r.at) runs in omega arith

  pub put_text : after ≡ bs ++ drop n before
  put_text =
      let e : after ≡ sets before 0 bs = ap (λ (r : Page). r.bytes) runs in
      let z : 0 + length bs ≡ n = rw put_size (omega arith) in
      rw (e, sets-eq bs before 0 (omega arith), z) refl
