-- Chains of rows: a row that is looked for and not at the link is further on, and a longer chain keeps what it had.
-- Assumes nothing.
use Prim.Native.Nat.{ℕ, zero, suc, ◌+◌, ◌-◌, ◌<◌, ◌≤◌}
use mathlib.Core.List.{List}
use mathlib.Core.Path.{◌≡◌, refl, sym, ◌∙◌, ap}
use native.Mathlib.Omega.{arith}
use lib.ListN.{get_or, set, length, length-set, replicate, length-replicate}
use native.Mathlib.Nat.{mod-lt}
use native.Mathlib.Numerals.{add-one}
use native.Mathlib.Decide.{ℕ_discrete}
use mathlib.Core.Bool.{Bool, false}
use mathlib.Core.Logic.{⊎_elim}
use lib.Seq.{get_or-set_same, get_or-set_other}
use borrow.Author.Tests.{le-ltb}
use Rattle.trace.specs.File.{row_limit}
use Rattle.std.specs.Prelude.{Option}
use Rattle.laws.specs.First.{found}
use Rattle.trace.specs.Rows.{fields_at}
use Rattle.trace.specs.Tests.{repeated_row}
use Rattle.repeats.specs.Chain.{bucket_of, tag_of, unlinked, next_of, Tagged, Chained, Down, Reach, here, further, few_rows}
use Rattle.trace.specs.declared.rows.Fields.{Fields}
use Rattle.repeats.specs.declared.Chains.{Chains}
use Rattle.repeats.specs.declared.Link.{Link}
use Rattle.laws.proofs.First.{lt_suc, any_none}
use Rattle.laws.proofs.Zeros.{zeros}
use Rattle.laws.proofs.Both.{refuted}
use Rattle.trace.proofs.Same.{same_equal}

pub reach_end : (links : List Link) (link s : ℕ) → link ≡ 0 → Reach links link s → ⊥
reach_end links link s z (here e) = omega arith
reach_end links link s z (further l r) = omega arith

pub reach_next : (file : List ℕ) (links : List Link) (f : Fields) (row s : ℕ) → ¬ (fields_at file row ≡ f) → fields_at file s ≡ f →
    (link : ℕ) → link ≡ row + 1 → Reach links link s → Reach links (next_of links row) s
reach_next file links f row s other e link q (here p) =
    let q' : row ≡ s = omega arith in
    absurd (other (ap (fields_at file) q' ∙ e))
reach_next file links f row s other e link q (further l r) = let q' : link - 1 ≡ row = omega arith in rw q' at r

pub tagged_none : (file : List ℕ) (links : List Link) → Tagged file links 0
tagged_none file links = λ j l. absurd (omega arith)

module _ (file : List ℕ) (links : List Link) (r : ℕ) (link : Link) (right : link.tag ≡ tag_of (fields_at file r))
    (room : r < length links) (t : Tagged file links r) where
  tagged_at : (j : ℕ) → j < r + 1 → Dec (j ≡ r) → (get_or (set links r link) j unlinked).tag ≡ tag_of (fields_at file j)
  tagged_at j l (yes e) = rw (e, get_or-set_same links r link unlinked room) right
  tagged_at j l (no n) = rw (get_or-set_other links r j link unlinked n) (t j (omega (arith, n)))

  -- the tag of row r is put in its place
  pub tagged_more : Tagged file (set links r link) (r + 1)
  tagged_more = λ j l. tagged_at j l (ℕ_discrete j r)

-- a place of the empty list of links
none_linked : (n j : ℕ) → get_or (replicate n unlinked) j unlinked ≡ unlinked
none_linked zero j = refl
none_linked (suc n) zero = refl
none_linked (suc n) (suc j) = none_linked n j

abbrev pub no_rows : Chains
no_rows = record { heads = replicate 1024 0; links = replicate 1024 unlinked }

pub chained_none : (file : List ℕ) → Chained file no_rows 0
chained_none file =
    record {
      heads_room = length-replicate {A = ℕ} 1024 0;
      links_room = length-replicate {A = Link} 1024 unlinked;
      down = λ j. rw (none_linked 1024 j) (omega arith);
      low = λ h. rw (zeros 1024 h) (omega arith);
      linked = λ s l. absurd (omega arith);
      tagged = tagged_none file (replicate 1024 unlinked);
    }

module _ (links : List Link) (r : ℕ) (put : Link) where
  -- a link past row r is not changed
  pub reach_set : (link s : ℕ) → Down links → link ≤ r → Reach links link s → Reach (set links r put) link s
  reach_set link s down le (here e) = here e
  reach_set link s down le (further l p) =
      let kept : next_of (set links r put) (link - 1) ≡ next_of links (link - 1) = ap (λ (x : Link). x.next) (get_or-set_other links r (link - 1) put unlinked (omega arith)) in
      let le' : next_of links (link - 1) ≤ r = omega (arith, down (link - 1)) in
      further {s = s} l (rw kept (reach_set (next_of links (link - 1)) s down le' p))

-- row r and its bucket h, with rows below r chained
module _ (file : List ℕ) (ch : Chains) (r h : ℕ) (bucket : h ≡ bucket_of (fields_at file r)) (c : Chained file ch r) where
  pub in_room : h < 1024
  in_room = rw bucket (mod-lt _ (omega arith))

  -- no row of the chain has the fields of row r
  abbrev Missed : Type 0
  Missed = (s : ℕ) → Reach ch.links (get_or ch.heads h 0) s → fields_at file s ≡ fields_at file r → ⊥

  pub not_repeated : Missed → repeated_row file r ≡ false
  not_repeated missed = any_none _ r (λ s l. refuted _ (λ e. let q : fields_at file s ≡ fields_at file r = same_equal _ _ e in
      let b : bucket_of (fields_at file s) ≡ h = ap bucket_of q ∙ sym bucket in
      missed s (rw b at (c.linked s l)) q))

  -- row r is put in front of its bucket's chain
  abbrev heads' : List ℕ
  heads' = set ch.heads h (r + 1)

  module _ (room : r < 1024) (tag : ℕ) (right : tag ≡ tag_of (fields_at file r)) where
    abbrev put : Link
    put = record { next = get_or ch.heads h 0; tag = tag }

    abbrev links' : List Link
    links' = set ch.links r put

    new_head : get_or heads' h 0 ≡ r + 1
    new_head = get_or-set_same ch.heads h (r + 1) 0 (omega (arith, in_room, c.heads_room))

    new_next : next_of links' r ≡ get_or ch.heads h 0
    new_next = ap (λ (x : Link). x.next) (get_or-set_same ch.links r put unlinked (omega (arith, c.links_room)))

    down' : (j : ℕ) → Dec (j ≡ r) → next_of links' j ≤ j
    down' j (yes e) = rw (e, new_next) (c.low h)
    down' j (no n) = rw (next_of, get_or-set_other ch.links r j put unlinked n) (c.down j)

    low' : (k : ℕ) → Dec (k ≡ h) → get_or heads' k 0 ≤ r + 1
    low' k (yes e) = rw (e, new_head) (omega arith)
    low' k (no n) = rw (get_or-set_other ch.heads h k (r + 1) 0 n) (omega (arith, c.low k))

    behind : next_of links' (r + 1 - 1) ≡ get_or ch.heads h 0
    behind = let e : r + 1 - 1 ≡ r = omega arith in rw e new_next

    old_linked : (b s : ℕ) → Reach ch.links (get_or ch.heads b 0) s → Dec (b ≡ h) → Reach links' (get_or heads' b 0) s
    old_linked b s p (yes e) =
        let p' : Reach ch.links (get_or ch.heads h 0) s = rw e at p in
        let q = reach_set ch.links r put (get_or ch.heads h 0) s c.down (c.low h) p' in
        rw (e, new_head) (further {link = r + 1} {s = s} (omega arith) (rw behind q))
    old_linked b s p (no n) =
        rw (get_or-set_other ch.heads h b (r + 1) 0 n)
        (reach_set ch.links r put (get_or ch.heads b 0) s c.down (c.low b) p)

    new_linked : (b s : ℕ) → b ≡ h → s ≡ r → Reach links' (get_or heads' b 0) s
    new_linked b s e q = rw (e, new_head, q) (here refl)

    pub chained_more : Chained file (record { heads = heads'; links = links' }) (r + 1)
    chained_more =
        record {
          heads_room = length-set ch.heads h (r + 1) ∙ c.heads_room;
          links_room = length-set ch.links r put ∙ c.links_room;
          down = λ j. down' j (ℕ_discrete j r);
          low = λ k. low' k (ℕ_discrete k h);
          linked = λ s l.
              ⊎_elim (λ (l' : s < r). old_linked _ s (c.linked s l') (ℕ_discrete _ h))
              (λ (e : s ≡ r). new_linked _ s (ap (λ (k : ℕ). bucket_of (fields_at file k)) e ∙ sym bucket) e)
              (lt_suc s r (rw add-one at l));
          tagged = tagged_more file ch.links r put right (omega (arith, c.links_room)) c.tagged;
        }

-- of as many rows as a file can have, all count
pub first_few : (p : ℕ → Bool) (rows : ℕ) {k : Option ℕ} → rows ≤ row_limit → k ≡ found p (few_rows rows) → k ≡ found p rows
first_few p rows l e = rw (le-ltb row_limit rows l) at e
