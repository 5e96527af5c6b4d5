-- What marking does: marks stay, a row that was closed, or is new, is closed, since its sides were marked before it, and what is new
-- has all that a row has with its parts. By induction on the depth.
-- Assumes nothing.
use Prim.Native.Nat.{ℕ, zero, suc, ◌<◌, ◌≤◌}
use mathlib.Core.Bool.{Bool, true, false, true≢false}
use mathlib.Core.List.{List}
use mathlib.Core.Logic.{◌⊎◌, inl, inr}
use mathlib.Core.Path.{◌≡◌, refl, sym, ◌∙◌}
use native.Mathlib.Omega.{arith}
use native.Mathlib.Decide.{ℕ_discrete}
use lib.Dec.{ltb}
use lib.ListN.{length, set, length-set}
use borrow.Author.Tests.{ltb-true, lt-ltb, lt-leb}
use Rattle.trace.specs.File.{row_limit}
use Rattle.trace.specs.Kinds.{row_at}
use Rattle.trace.specs.declared.Row.{Row}
use Rattle.trace.specs.declared.Row.TheVariants.{Agent, Number, Nonce, Prf, PublicKey, PrivateKey, SessionKey, Hash, Crypt, Pair}
use Rattle.laws.proofs.First.{bool_cases}
use Rattle.closure.specs.Closure.{row_marked}
use Rattle.closure.proofs.Marks.{Marked, mark_same, mark_other, mark_keep}
use Rattle.used.specs.Marking.{used_below, use_parts, use_row}

-- what row x goes into, where it is below it, has H
abbrev pub Sides : (ℕ → Type 0) → ℕ → Row → Type 0
Sides H x (Agent a) = Unit {0}
Sides H x (Number n) = Unit {0}
Sides H x (Nonce n) = Unit {0}
Sides H x (Prf s y z) = Unit {0}
Sides H x (PublicKey a) = Unit {0}
Sides H x (PrivateKey a) = Unit {0}
Sides H x (SessionKey o y z m) = Unit {0}
Sides H x (Hash y) = Unit {0}
Sides H x (Crypt k y) = y.0 < x → H y.0
Sides H x (Pair y z) = (y.0 < x → H y.0) × (z.0 < x → H z.0)

sides_map : (H H' : ℕ → Type 0) → ((y : ℕ) → H y → H' y) → (x : ℕ) (R : Row) → Sides H x R → Sides H' x R
sides_map H H' f x (Agent a) s = tt
sides_map H H' f x (Number n) s = tt
sides_map H H' f x (Nonce n) s = tt
sides_map H H' f x (Prf v y z) s = tt
sides_map H H' f x (PublicKey a) s = tt
sides_map H H' f x (PrivateKey a) s = tt
sides_map H H' f x (SessionKey o y z m) s = tt
sides_map H H' f x (Hash y) s = tt
sides_map H H' f x (Crypt k y) s = λ l. f y.0 (s l)
sides_map H H' f x (Pair y z) s = (λ l. f y.0 (s.0 l), λ l. f z.0 (s.1 l))

abbrev pub Closed : List ℕ → List ℕ → ℕ → Type 0
Closed file ms x = Marked ms x → Sides (Marked ms) x (row_at file x)

-- H goes with a row to its parts, in a file of n rows
module _ (file : List ℕ) (n : ℕ) (few : n ≤ row_limit) (H : ℕ → Type 0) (parts : (x : ℕ) → x < n → H x → Sides H x (row_at file x)) where
  abbrev Sound : List ℕ → Type 0
  Sound ms = (x : ℕ) → x < n → Marked ms x → H x

  pub record Grew (ms ms' : List ℕ) : Type 0 where
    pub room : length ms' ≡ row_limit
    pub rows : (x : ℕ) → Marked ms x → Marked ms' x
    pub closed : (x : ℕ) → Closed file ms x → Closed file ms' x
    pub sound : ((x : ℕ) → x < n → Marked ms x → H x) → (x : ℕ) → x < n → Marked ms' x → H x

  grew_still : (ms : List ℕ) → length ms ≡ row_limit → Grew ms ms
  grew_still ms r = record { room = r; rows = λ x m. m; closed = λ x c. c; sound = λ s. s }

  grew_then : {ms ms' ms'' : List ℕ} → Grew ms ms' → Grew ms' ms'' → Grew ms ms''
  grew_then g h =
      record {
        room = h.room;
        rows = λ x m. h.rows x (g.rows x m);
        closed = λ x c. h.closed x (g.closed x c);
        sound = λ s. h.sound (g.sound s);
      }

  -- a row is marked, after both its sides
  module _ (ms : List ℕ) (row : ℕ) (in_file : row < n) (has : H row) (b : List ℕ) (g : Grew ms b) (sides : Sides (Marked b) row (row_at file row)) where
    grow : (x : ℕ) → Marked b x → Marked (set b row 1) x
    grow x m = mark_keep b g.room row x m

    others : (x : ℕ) → ¬ (x ≡ row) → Marked (set b row 1) x → Marked b x
    others x d m = sym (mark_other b g.room row x d) ∙ m

    sides_grow : (x : ℕ) → Sides (Marked b) x (row_at file x) → Sides (Marked (set b row 1)) x (row_at file x)
    sides_grow x s = sides_map (Marked b) (Marked (set b row 1)) grow x (row_at file x) s

    closed_mark : (x : ℕ) → Closed file ms x → Dec (x ≡ row) → Closed file (set b row 1) x
    closed_mark x c (yes q) m = rw q (sides_grow row sides)
    closed_mark x c (no d) m = sides_grow x (g.closed x c (others x d m))

    sound_mark : Sound ms → (x : ℕ) → x < n → Marked (set b row 1) x → Dec (x ≡ row) → H x
    sound_mark s x l m (yes q) = rw q has
    sound_mark s x l m (no d) = g.sound s x l (others x d m)

    grew_mark : Grew ms (set b row 1)
    grew_mark =
        record {
          room = length-set b row 1 ∙ g.room;
          rows = λ x m. grow x (g.rows x m);
          closed = λ x c. closed_mark x c (ℕ_discrete x row);
          sound = λ s x l m. sound_mark s x l m (ℕ_discrete x row);
        }

  -- using a row, as far as a depth goes
  abbrev Uses : ℕ → Type 0
  Uses d =
      (ms : List ℕ) (row : ℕ) → length ms ≡ row_limit → row < n → H row → row < d →
      Grew ms (use_row file d ms row) × Marked (use_row file d ms row) row

  module _ (d : ℕ) (uses : Uses d) (row : ℕ) (in_file : row < n) (deep : row ≤ d) where
    abbrev go : List ℕ → ℕ → List ℕ
    go = use_row file d

    below_cases : (ms : List ℕ) (x : ℕ) → length ms ≡ row_limit → (x < row → H x) → (b : Bool) → ltb x row ≡ b →
        Grew ms (elim b [ true ↦ go ms x | false ↦ ms ]) × (x < row → Marked (elim b as (λ _. List ℕ) [ true ↦ go ms x | false ↦ ms ]) x)
    below_cases ms x r h true e =
        let l = ltb-true x row e in
        let g = uses ms x r (omega arith) (h l) (omega arith) in
        (g.0, λ _. g.1)
    below_cases ms x r h false e = (grew_still ms r, λ l. absurd (true≢false (sym (lt-ltb x row l) ∙ e)))

    below_grew : (ms : List ℕ) (x : ℕ) → length ms ≡ row_limit → (x < row → H x) →
        Grew ms (used_below go ms row x) × (x < row → Marked (used_below go ms row x) x)
    below_grew ms x r h = below_cases ms x r h (ltb x row) refl

    parts_grew : (ms : List ℕ) (R : Row) → length ms ≡ row_limit → Sides H row R →
        Grew ms (use_parts go ms row R) × Sides (Marked (use_parts go ms row R)) row R
    parts_grew ms (Agent a) r s = (grew_still ms r, tt)
    parts_grew ms (Number v) r s = (grew_still ms r, tt)
    parts_grew ms (Nonce v) r s = (grew_still ms r, tt)
    parts_grew ms (Prf v x y) r s = (grew_still ms r, tt)
    parts_grew ms (PublicKey a) r s = (grew_still ms r, tt)
    parts_grew ms (PrivateKey a) r s = (grew_still ms r, tt)
    parts_grew ms (SessionKey o x y z) r s = (grew_still ms r, tt)
    parts_grew ms (Hash x) r s = (grew_still ms r, tt)
    parts_grew ms (Crypt k x) r s = below_grew ms x.0 r s
    parts_grew ms (Pair x y) r s =
        let l = below_grew ms x.0 r s.0 in
        let g = below_grew (used_below go ms row x.0) y.0 l.0.room s.1 in
        (grew_then l.0 g.0, (λ h. g.0.rows x.0 (l.1 h), g.1))

    with_grew : (ms : List ℕ) → length ms ≡ row_limit → H row →
        Grew ms (set (use_parts go ms row (row_at file row)) row 1) × Marked (set (use_parts go ms row (row_at file row)) row 1) row
    with_grew ms r has =
        let b = use_parts go ms row (row_at file row) in
        let g = parts_grew ms (row_at file row) r (parts row in_file has) in
        (grew_mark ms row in_file has b g.0 g.1, mark_same b g.0.room row (omega arith))

  use_cases : (d : ℕ) → Uses d → (ms : List ℕ) (row : ℕ) → length ms ≡ row_limit → row < n → H row → row ≤ d →
      (row_marked ms row ≡ true) ⊎ (row_marked ms row ≡ false) →
      Grew ms (use_row file (suc d) ms row) × Marked (use_row file (suc d) ms row) row
  unfolding use_row
  use_cases d uses ms row r l has h (inl m) = rw (m, use_row) (grew_still ms r, m)
  use_cases d uses ms row r l has h (inr u) = rw (u, lt-leb row_limit row (omega arith), use_row) (with_grew d uses row l h ms r has)

  pub uses : (d : ℕ) → Uses d
  uses zero ms row r l has h = absurd (omega arith)
  uses (suc d) ms row r l has h = use_cases d (uses d) ms row r l has (omega arith) (bool_cases (row_marked ms row))
