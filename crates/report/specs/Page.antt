-- Bytes put into a buffer one after the other, as the code does it: where no room is left, nothing is written.
use Rattle.std.specs.Prelude.{ℕ, suc, true, false, List, [], ◌∷◌, ◌≡◌, ltb, length, set}

-- the buffer, and where the next byte goes
pub record Page : Type 0 where
  pub bytes : List ℕ
  pub at : ℕ

abbrev pub page_at : List ℕ → ℕ → Page
page_at bytes at = record { bytes = bytes; at = at }

unfoldable pub put_byte : Page → ℕ → Page
put_byte p b = elim (ltb p.at (length p.bytes)) [ true ↦ page_at (set p.bytes p.at b) (suc p.at) | false ↦ p ]

unfoldable pub puts : Page → List ℕ → Page
puts p [] = p
puts p (b ∷ bs) = puts (put_byte p b) bs

-- what a function that puts these bytes leaves in the buffer, and where it says the next byte goes
pub record Put (before : List ℕ) (at : ℕ) (bs : List ℕ) (after : List ℕ) (next : ℕ) : Type 0 where
  pub is : page_at after next ≡ puts (page_at before at) bs
