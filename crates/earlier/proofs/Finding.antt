-- What is looked for in its box, or in all, is found exactly when it happened.
-- Assumes nothing.
use Prim.Native.Nat.{ℕ, zero, suc, ◌+◌, ◌%◌, ◌<◌}
use mathlib.Core.Bool.{Bool, true, false, not, ◌&&◌, true≢false}
use mathlib.Core.List.{List}
use Rattle.std.specs.Prelude.{Option, Some, None}
use mathlib.Core.Logic.{◌⊎◌, inl, inr}
use mathlib.Core.Path.{◌≡◌, refl, sym, ◌∙◌, ap}
use native.Mathlib.Omega.{arith}
use native.Mathlib.Nat.{mod-lt}
use lib.Dec.{eqb, ltb}
use lib.ListN.{get_or}
use borrow.Author.Tests.{eqb-true, lt-ltb, not-true}
use Rattle.trace.specs.File.{event_limit, agent_limit}
use Rattle.laws.specs.First.{any}
use Rattle.laws.proofs.First.{any_none, any_some, any_inv, bool_cases}
use Rattle.laws.proofs.Both.{both, both3, refuted}
use Rattle.earlier.specs.Heard.{Heard}
use Rattle.earlier.specs.declared.boxes.Boxes.{Boxes}
use Rattle.earlier.specs.declared.Wanted.{Wanted}
use Rattle.earlier.specs.declared.Wanted.TheVariants.{Said, Noted}
use Rattle.earlier.specs.declared.Who.TheVariants.{To, By, From}
use Rattle.earlier.specs.Earlier.{heard_at, said_to, said_by, noted_by, fits_in, earlier, past}
use Rattle.earlier.specs.Cards.{card_of, fits_card, fits_agents}
use Rattle.earlier.specs.Boxes.{notes_at, box_count, box_of, box_for, chain_from, some, card_at, fits_at, found_in, found}
use Rattle.earlier.specs.Kept.{Reach, Linked, Boxed}
use Rattle.earlier.proofs.Shapes.{card_fits}
use Rattle.earlier.proofs.Chains.{some_below, some_reach, some_same, chain_below}

-- a box has what happened
pub chain_any : (file : List ℕ) (boxes : Boxes) (e : ℕ) → Linked file boxes e → (p : Heard → Bool) (b : ℕ) → b < box_count →
    ((h : Heard) → p h ≡ true → box_of h ≡ b) →
    some (λ j. p (heard_at file j)) (chain_from boxes (get_or boxes.heads b 0)) ≡ any (λ j. p (heard_at file j)) e
chain_any file boxes e x p b l box = go (bool_cases (some (λ j. p (heard_at file j)) (chain_from boxes (get_or boxes.heads b 0))))
  where
    unseen : some (λ j. p (heard_at file j)) (chain_from boxes (get_or boxes.heads b 0)) ≡ false → (j : ℕ) → j < e → p (heard_at file j) ≡ true → ⊥
    unseen f j m t =
        let k = x.kept j m in
        let r : Reach boxes.links (get_or boxes.heads b 0) k.0 = rw (box (heard_at file j) t) at k.1 in
        true≢false (sym (some_reach boxes (λ (i : ℕ). p (heard_at file i)) x.falls (get_or boxes.heads b 0) k.0 (omega (arith, x.few, x.low b l)) (ap p k.2 ∙ t) r) ∙ f)

    go : (some (λ j. p (heard_at file j)) (chain_from boxes (get_or boxes.heads b 0)) ≡ true) ⊎
        (some (λ j. p (heard_at file j)) (chain_from boxes (get_or boxes.heads b 0)) ≡ false) →
        some (λ j. p (heard_at file j)) (chain_from boxes (get_or boxes.heads b 0)) ≡ any (λ j. p (heard_at file j)) e
    go (inl t) =
        let h = some_below boxes (λ (i : ℕ). p (heard_at file i)) (get_or boxes.heads b 0) t in
        t ∙ sym (any_some (λ (i : ℕ). p (heard_at file i)) e h.0 (omega (arith, h.1, x.low b l)) h.2)
    go (inr f) = f ∙ sym (any_none (λ (i : ℕ). p (heard_at file i)) e (λ j m. refuted _ (unseen f j m)))

pub said_box : (h : Heard) (to : ℕ) → said_to h to ≡ true → box_of h ≡ to % agent_limit
said_box h to t =
    let x = both h.says (eqb h.to to) t in
    rw (x.0, eqb-true h.to to x.1) refl

pub by_box : (h : Heard) (from to : ℕ) → said_by h from to ≡ true → box_of h ≡ to % agent_limit
by_box h from to t =
    let x = both3 h.says (eqb h.from from) (eqb h.to to) t in
    rw (x.0, eqb-true h.to to x.2) refl

noted_box : (h : Heard) (from : ℕ) → noted_by h from ≡ true → box_of h ≡ notes_at + from % agent_limit
noted_box h from t =
    let x = both (not h.says) (eqb h.from from) t in
    rw (not-true h.says x.0, eqb-true h.from from x.1) refl

-- what fits lies in the box of what is wanted
FitsBox : List ℕ → Wanted → Option ℕ → Type 0
FitsBox file wanted (Some b) = (b < box_count) × ((h : Heard) → fits_in file wanted h ≡ true → box_of h ≡ b)
FitsBox file wanted None = (h : Heard) → fits_in file wanted h ≡ true → h.says ≡ true

near : (a : ℕ) → a % agent_limit < box_count
near a = let m : a % agent_limit < agent_limit = mod-lt a (omega arith) in omega (arith, m)

noted_near : (a : ℕ) → notes_at + a % agent_limit < box_count
noted_near a = let m : a % agent_limit < agent_limit = mod-lt a (omega arith) in omega (arith, m)

fits_box : (file : List ℕ) (wanted : Wanted) → FitsBox file wanted (box_for wanted)
unfolding FitsBox
fits_box file (Said (To to) w) = (near to, λ h t. said_box h to (both (said_to h to) _ t).0)
fits_box file (Said (By from to) w) = (near to, λ h t. by_box h from to (both (said_by h from to) _ t).0)
fits_box file (Said (From from) w) = λ h t. (both h.says (eqb h.from from) (both (h.says && eqb h.from from) _ t).0).0
fits_box file (Noted from n) = (noted_near from, λ h t. noted_box h from (both (noted_by h from) _ t).0)

-- the boxes of what is said have all that was said
any_box : (file : List ℕ) (boxes : Boxes) (e : ℕ) → Linked file boxes e → (p : Heard → Bool) → ((h : Heard) → p h ≡ true → h.says ≡ true) →
    any (λ b. some (λ j. p (heard_at file j)) (chain_from boxes (get_or boxes.heads b 0))) agent_limit ≡ any (λ j. p (heard_at file j)) e
any_box file boxes e x p says = go (bool_cases (any (λ b. some (λ j. p (heard_at file j)) (chain_from boxes (get_or boxes.heads b 0))) agent_limit))
  where
    in_box : (j : ℕ) → p (heard_at file j) ≡ true → box_of (heard_at file j) < agent_limit
    in_box j t =
        let m : (heard_at file j).to % agent_limit < agent_limit = mod-lt (heard_at file j).to (omega arith) in
        rw (says (heard_at file j) t) m

    unseen : any (λ b. some (λ j. p (heard_at file j)) (chain_from boxes (get_or boxes.heads b 0))) agent_limit ≡ false → (j : ℕ) → j < e →
        p (heard_at file j) ≡ true → ⊥
    unseen f j m t =
        let k = x.kept j m in
        let b = box_of (heard_at file j) in
        let l : b < agent_limit = in_box j t in
        let r = some_reach boxes (λ (i : ℕ). p (heard_at file i)) x.falls (get_or boxes.heads b 0) k.0 (omega (arith, x.few, x.low b (omega (arith, l)))) (ap p k.2 ∙ t) k.1 in
        true≢false (sym (any_some (λ (c : ℕ). some (λ i. p (heard_at file i)) (chain_from boxes (get_or boxes.heads c 0))) agent_limit b l r) ∙ f)

    go : (any (λ b. some (λ j. p (heard_at file j)) (chain_from boxes (get_or boxes.heads b 0))) agent_limit ≡ true) ⊎
        (any (λ b. some (λ j. p (heard_at file j)) (chain_from boxes (get_or boxes.heads b 0))) agent_limit ≡ false) →
        any (λ b. some (λ j. p (heard_at file j)) (chain_from boxes (get_or boxes.heads b 0))) agent_limit ≡ any (λ j. p (heard_at file j)) e
    go (inl t) =
        let b = any_inv (λ (c : ℕ). some (λ i. p (heard_at file i)) (chain_from boxes (get_or boxes.heads c 0))) agent_limit t in
        let h = some_below boxes (λ (i : ℕ). p (heard_at file i)) (get_or boxes.heads b.0 0) b.2 in
        t ∙ sym (any_some (λ (i : ℕ). p (heard_at file i)) e h.0 (omega (arith, h.1, x.low b.0 (omega (arith, b.1)))) h.2)
    go (inr f) = f ∙ sym (any_none (λ (i : ℕ). p (heard_at file i)) e (λ j m. refuted _ (unseen f j m)))

-- among the events that were kept, the cards tell what is wanted
fits_kept : (file : List ℕ) (boxes : Boxes) (e : ℕ) → Boxed file boxes e → (wanted : Wanted) (j : ℕ) → j < e →
    fits_at file boxes wanted j ≡ fits_in file wanted (heard_at file j)
fits_kept file boxes e x wanted j l =
    let room : ltb j event_limit ≡ true = lt-ltb j event_limit (omega (arith, x.links.few)) in
    let card : card_at boxes j ≡ card_of file (heard_at file j) = x.cards j l in
    (λ i. room i && fits_card wanted (card i) && fits_agents wanted (heard_at file j)) ∙ sym (card_fits file (heard_at file j) wanted)

chain_kept : (file : List ℕ) (boxes : Boxes) (e : ℕ) → Boxed file boxes e → (wanted : Wanted) (b : ℕ) → b < box_count →
    some (fits_at file boxes wanted) (chain_from boxes (get_or boxes.heads b 0)) ≡ some (λ j. fits_in file wanted (heard_at file j)) (chain_from boxes (get_or boxes.heads b 0))
chain_kept file boxes e x wanted b l =
    some_same boxes (fits_at file boxes wanted) (fits_kept file boxes e x wanted) (chain_below boxes e (get_or boxes.heads b 0) (x.links.low b l))

any_below : (p q : ℕ → Bool) (n : ℕ) → ((k : ℕ) → k < n → p k ≡ q k) → any p n ≡ any q n
unfolding any
any_below p q zero h = refl
any_below p q (suc n) h = rw (any_below p q n (λ k l. h k (omega arith)), h n (omega arith)) refl

found_earlier : (file : List ℕ) (boxes : Boxes) (e : ℕ) → Boxed file boxes e → (wanted : Wanted) → found file boxes wanted ≡ past file e wanted
unfolding earlier FitsBox
found_earlier file boxes e x wanted = go (box_for wanted) (fits_box file wanted)
  where
    go : (at : Option ℕ) → FitsBox file wanted at →
        elim at [ Some b ↦ found_in file boxes wanted b | None ↦ any (found_in file boxes wanted) agent_limit ] ≡ past file e wanted
    go (Some b) (l, box) =
        chain_kept file boxes e x wanted b l ∙ chain_any file boxes e x.links (fits_in file wanted) b l box
    go None says =
        any_below _ _ agent_limit (λ b m. chain_kept file boxes e x wanted b (omega arith)) ∙
        any_box file boxes e x.links (fits_in file wanted) says

pub found_past : (file : List ℕ) (boxes : Boxes) (e : ℕ) → Boxed file boxes e → found file boxes ≡ past file e
found_past file boxes e x = λ i wanted. found_earlier file boxes e x wanted i
