-- The sample of document 01, "The sample, and cases beside it", and what its cases change in it.
use Rattle.std.specs.Prelude.{ℕ, List, [], ◌∷◌}

abbrev pub item : (a b c d e f g h : ℕ) → List ℕ → List ℕ
item a b c d e f g h rest = a ∷ b ∷ c ∷ d ∷ e ∷ f ∷ g ∷ h ∷ rest

abbrev pub says : (a b row : ℕ) → List ℕ → List ℕ
says a b row rest = item 0 a b 0 row 0 0 0 rest

abbrev pub notes : (a row : ℕ) → List ℕ → List ℕ
notes a row rest = item 1 a 0 0 row 0 0 0 rest

-- the sample's 17 rows under a set of compromised agents, with other events
unfoldable pub over : (set count : ℕ) → List ℕ → List ℕ
over set count events =
    item 1 0 0 0 set 0 0 0
    (0 ∷ 0 ∷ 0 ∷ 0 ∷ 20 ∷ 0 ∷ 17 ∷ 0 ∷ 156 ∷ 0 ∷ count ∷ 0 ∷
    item 0 0 2 0 0 0 0 0
    (item 2 0 10 0 0 0 0 0
    (item 1 0 7 0 0 0 0 0
    (item 1 0 1 0 0 0 0 0
    (item 9 0 2 0 3 0 0 0
    (item 9 0 1 0 4 0 0 0
    (item 9 0 0 0 5 0 0 0
    (item 2 0 11 0 0 0 0 0
    (item 9 0 7 0 4 0 0 0
    (item 0 0 3 0 0 0 0 0
    (item 4 0 3 0 0 0 0 0
    (item 9 0 9 0 10 0 0 0
    (item 5 0 1 0 0 0 0 0
    (item 8 0 12 0 11 0 0 0
    (item 2 0 12 0 0 0 0 0
    (item 9 0 9 0 14 0 0 0
    (item 8 0 10 0 14 0 0 0
    events)))))))))))))))))

-- the sample's events, one by one
abbrev pub hello : List ℕ → List ℕ
hello rest = says 2 3 6 rest

abbrev pub reply : List ℕ → List ℕ
reply rest = says 3 2 8 rest

abbrev pub signed : List ℕ → List ℕ
signed rest = says 3 2 13 rest

abbrev pub noted : List ℕ → List ℕ
noted rest = notes 2 15 rest

abbrev pub sent : List ℕ → List ℕ
sent rest = says 2 3 16 rest

abbrev pub replayed : List ℕ → List ℕ
replayed rest = says 0 3 16 rest

abbrev pub sample : List ℕ
sample = over 1 6 (hello (reply (signed (noted (sent (replayed []))))))

abbrev pub empty : List ℕ
empty = item 1 0 0 0 1 0 0 0 (0 ∷ 0 ∷ 0 ∷ 0 ∷ 20 ∷ 0 ∷ 0 ∷ 0 ∷ 20 ∷ 0 ∷ 0 ∷ 0 ∷ [])
