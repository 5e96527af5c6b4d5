-- The marks of hashes: a row below 1024 is marked exactly when a Finished with that hash was told.
-- Assumes nothing.
use Prim.Native.Nat.{ℕ, ◌%◌, ◌<◌, ◌≤◌}
use mathlib.Core.Bool.{Bool, true, false, ◌&&◌, ◌||◌, not}
use mathlib.Core.List.{List}
use mathlib.Core.Path.{◌≡◌, refl, sym, ◌∙◌, ap}
use native.Mathlib.Omega.{arith}
use native.Mathlib.Nat.{mod-lt}
use native.Mathlib.Decide.{ℕ_discrete, dec_lt}
use lib.Dec.{eqb}
use lib.ListN.{length, length-replicate}
use borrow.Author.Tests.{lt-ltb, le-ltb, eq-eqb, eqb-true}
use Rattle.std.specs.Prelude.{Option, Some, None}
use Rattle.std.specs.Bool.{then_some}
use Rattle.std.specs.Option.{is_some}
use Rattle.trace.specs.File.{row_limit, agent_limit}
use Rattle.laws.specs.First.{any}
use Rattle.laws.specs.Choose.{choose}
use Rattle.laws.proofs.Both.{both, refuted, or_true, or_none, or_assoc, and_true, and_false}
use Rattle.laws.specs.Options.{and_then, is_some_and}
use Rattle.laws.proofs.Options.{is_some_and_true}
use Rattle.forms.specs.Kinds.{server_in, crypt_of}
use Rattle.forms.specs.Forms.{sealed_of}
use Rattle.forms.specs.declared.leaves.Crypt.{Crypt}
use Rattle.forms.specs.declared.Sealed.{Sealed}
use Rattle.forms.proofs.Keyed.{sealed_key}
use Rattle.closure.specs.Closure.{row_marked, mark_row, zeros}
use Rattle.closure.proofs.Marks.{mark_same, mark_other, mark_room, none_marked}
use Rattle.earlier.specs.declared.boxes.Boxes.{Boxes}
use Rattle.earlier.specs.Heard.{Heard}
use Rattle.earlier.specs.Earlier.{heard_at, said_to, said_by}
use Rattle.earlier.specs.Boxes.{latest_to, chain_from, some}
use Rattle.earlier.specs.Kept.{sealed_at, Boxed}
use Rattle.earlier.proofs.Chains.{Below, none, more, chain_below, some_same}
use Rattle.earlier.proofs.Finding.{said_box, by_box, chain_any}
use Rattle.accepts.specs.declared.Session.{Session}
use Rattle.accepts.specs.declared.Side.{Side}
use Rattle.accepts.specs.Tests.{said_finished, told_finished, both_finished}
use Rattle.accepts.specs.Hashes.{mark_event, mark_all, answered_in, agreed_in, both_in}

-- one event's mark
mark_if : (marks : List ℕ) → length marks ≡ row_limit → (t : Bool) (r x : ℕ) → x < row_limit →
    row_marked (choose t (mark_row marks r) marks) x ≡ (row_marked marks x || (t && eqb r x))
mark_if marks room false r x l = rw (or_none (row_marked marks x)) refl
mark_if marks room true r x l = go (ℕ_discrete x r)
  where
    go : Dec (x ≡ r) → row_marked (mark_row marks r) x ≡ (row_marked marks x || eqb r x)
    go (yes q) =
        rw (eq-eqb r x (sym q), or_true (row_marked marks x))
        (rw q (mark_same marks room r (rw q at l)))
    go (no n) =
        rw (refuted (eqb r x) (λ t. n (sym (eqb-true r x t))), or_none (row_marked marks x))
        (mark_other marks room r x n)

mark_length : (marks : List ℕ) → length marks ≡ row_limit → (t : Bool) (r : ℕ) → length (choose t (mark_row marks r) marks) ≡ row_limit
mark_length marks room true r = mark_room marks room r
mark_length marks room false r = room

-- and that of the hash it has, if it has one
abbrev marked_with : Bool → Option ℕ → List ℕ → List ℕ
marked_with said o marks =
    elim o [
      | Some hash ↦ choose said (mark_row marks hash) marks
      | None ↦ marks
    ]

mark_seal : (marks : List ℕ) → length marks ≡ row_limit → (said : Bool) (o : Option ℕ) (x : ℕ) → x < row_limit →
    row_marked (marked_with said o marks) x ≡ (row_marked marks x || (said && is_some_and o (λ hash. eqb hash x)))
mark_seal marks room said (Some hash) x l = mark_if marks room said hash x l
mark_seal marks room said None x l = sym (ap (λ b. row_marked marks x || b) (and_false said) ∙ or_none (row_marked marks x))

seal_length : (marks : List ℕ) → length marks ≡ row_limit → (said : Bool) (o : Option ℕ) → length (marked_with said o marks) ≡ row_limit
seal_length marks room said (Some hash) = mark_length marks room said hash
seal_length marks room said None = room

-- the seal of a Finished that is found
abbrev seal_in : Bool → Option Sealed → Option ℕ
seal_in server o = and_then o (λ f. then_some (choose server (server_in f.role) (not (server_in f.role))) f.hash)

-- a seal is the hash of a Finished that is told
hash_told : (own : Bool) (hash x : ℕ) → is_some_and (then_some own hash) (λ h. eqb h x) ≡ (eqb hash x && own)
hash_told true hash x = sym (and_true (eqb hash x))
hash_told false hash x = sym (and_false (eqb hash x))

seal_told : (said server : Bool) (o : Option Sealed) (x : ℕ) →
    (said && is_some_and (seal_in server o) (λ hash. eqb hash x)) ≡
    (said && is_some_and o (λ f. eqb f.hash x && choose server (server_in f.role) (not (server_in f.role))))
seal_told said server (Some f) x = ap (λ b. said && b) (hash_told (choose server (server_in f.role) (not (server_in f.role))) f.hash x)
seal_told said server None x = refl

module _ (file : List ℕ) (server : Bool) (to : ℕ) where
  module _ (boxes : Boxes) (e : ℕ) (X : Boxed file boxes e) where
    marked_more : (marks : List ℕ) → length marks ≡ row_limit → (j x : ℕ) → j < e → x < row_limit →
        row_marked (mark_event file boxes server to j marks) x ≡ (row_marked marks x || told_finished file (heard_at file j) server to x)
    marked_more marks room j x m l =
        let h = heard_at file j in
        mark_seal marks room (said_to h to) (sealed_at boxes server j) x l ∙
        ap (λ (b : Bool). row_marked marks x || b)
        (ap (λ (o : Option ℕ). said_to h to && is_some_and o (λ hash. eqb hash x)) (X.seals server j m) ∙
        seal_told (said_to h to) server (sealed_of file h.row) x)

    all_marked : {js : List ℕ} → Below e js → (marks : List ℕ) → length marks ≡ row_limit → (x : ℕ) → x < row_limit →
        row_marked (mark_all file boxes server to js marks) x ≡ (row_marked marks x || some (λ j. told_finished file (heard_at file j) server to x) js)
    unfolding mark_all
    all_marked none marks room x l = sym (or_none (row_marked marks x))
    all_marked (more {j} {js} m b) marks room x l =
        let room' = seal_length marks room (said_to (heard_at file j) to) (sealed_at boxes server j) in
        all_marked b (mark_event file boxes server to j marks) room' x l ∙
        rw (marked_more marks room j x m l)
        (or_assoc (row_marked marks x) (told_finished file (heard_at file j) server to x) (some (λ i. told_finished file (heard_at file i) server to x) js))

    abbrev marks : List ℕ
    marks = mark_all file boxes server to (chain_from boxes (latest_to boxes to)) (zeros row_limit)

    told_marked : (x : ℕ) → x < row_limit → row_marked marks x ≡ any (λ j. told_finished file (heard_at file j) server to x) e
    told_marked x l =
        let m : to % agent_limit < agent_limit = mod-lt to (omega arith) in
        let low : latest_to boxes to ≤ e = X.links.low (to % agent_limit) (omega (arith, m)) in
        all_marked (chain_below boxes e (latest_to boxes to) low) (zeros row_limit) (length-replicate {A = ℕ} row_limit 0) x l ∙
        rw (refuted (row_marked (zeros row_limit) x) (none_marked row_limit x))
        (chain_any file boxes e X.links (λ h. told_finished file h server to x) (to % agent_limit) (omega (arith, m))
        (λ h t. said_box h to (both (said_to h to) _ t).0))

    pub answered_told : (hash : ℕ) →
        answered_in file marks e server to hash ≡ any (λ j. told_finished file (heard_at file j) server to hash) e
    answered_told hash = go (dec_lt hash row_limit)
      where
        go : Dec (hash < row_limit) → answered_in file marks e server to hash ≡ any (λ j. told_finished file (heard_at file j) server to hash) e
        go (yes l) = rw (lt-ltb hash row_limit l) (rw (lt-ltb hash row_limit l) at (told_marked hash l))
        go (no l) = rw (le-ltb hash row_limit (omega arith)) refl

-- a Finished has a seal
seal_found : (server : Bool) {o : Option Sealed} {f : Sealed} → o ≡ Some f → choose server (server_in f.role) (not (server_in f.role)) ≡ true →
    is_some (seal_in server o) ≡ true
seal_found server {f = f} e own = rw (e, own) refl

-- and is a Crypt whose body is its hash
same_body : (test : ℕ → Bool) {k : Option Crypt} {o : Option Sealed} {c : Crypt} {f : Sealed} → k ≡ Some c → o ≡ Some f → c.body ≡ f.hash →
    is_some_and k (λ c. test c.body) ≡ is_some_and o (λ f. test f.hash)
same_body test ek eo b = rw (ek, eo, b) refl

-- the order of the tests does not matter where the last implies the first two
reorder : (said own told told' whole : Bool) → (whole ≡ true → (said ≡ true) × (own ≡ true) × (told ≡ told')) →
    (said && own && told && whole) ≡ (whole && told')
reorder said own told told' true h = let p = h refl in rw (p.0, p.1, p.2) (and_true told')
reorder said own told told' false h = and_false (said && own && told)

-- the two passes find what two searches would
module _ (file : List ℕ) (boxes : Boxes) (e : ℕ) (X : Boxed file boxes e) where
  module _ (by : Side) (s : Session) where
    abbrev server : Bool
    server = server_in by.role

    abbrev told : List ℕ
    told = marks file (not server) by.from boxes e X

    abbrev answered_by : ℕ → Bool
    answered_by hash = answered_in file told e (not server) by.from hash

    abbrev agreed_by : Heard → Bool
    agreed_by h = said_finished file h by s && is_some_and (sealed_of file h.row) (λ f. answered_by f.hash)

    agreed_parts : (i : ℕ) → i < e → said_finished file (heard_at file i) by s ≡ true →
        (said_by (heard_at file i) by.from by.to ≡ true) × (is_some (sealed_at boxes server i) ≡ true) ×
        (is_some_and (crypt_of file (heard_at file i).row) (λ c. answered_by c.body) ≡
        is_some_and (sealed_of file (heard_at file i).row) (λ f. answered_by f.hash))
    agreed_parts i l t =
        let h = heard_at file i in
        let p = both (said_by h by.from by.to) _ t in
        let (f, ef, tf) = is_some_and_true p.1 in
        let own = both _ _ tf in
        let (c, _, ec, _, body, _) = sealed_key file h.row ef in (
          p.0,
          ap is_some (X.seals server i l) ∙ seal_found server ef own.1,
          same_body answered_by ec ef body,
        )

    agreed_same : (i : ℕ) → i < e → agreed_in file boxes told e by s i ≡ agreed_by (heard_at file i)
    agreed_same i l =
        let h = heard_at file i in
        reorder (said_by h by.from by.to) (is_some (sealed_at boxes server i)) (is_some_and (crypt_of file h.row) (λ c. answered_by c.body))
        (is_some_and (sealed_of file h.row) (λ f. answered_by f.hash)) (said_finished file h by s) (agreed_parts i l)

    both_at : both_in file boxes e by s ≡ both_finished file e by s
    unfolding both_in both_finished
    both_at =
        let l : by.to % agent_limit < agent_limit = mod-lt by.to (omega arith) in
        let low : latest_to boxes by.to ≤ e = X.links.low (by.to % agent_limit) (omega (arith, l)) in
        some_same boxes _ agreed_same (chain_below boxes e (latest_to boxes by.to) low) ∙
        chain_any file boxes e X.links agreed_by (by.to % agent_limit) (omega (arith, l))
        (λ h t. by_box h by.from by.to (both (said_by h by.from by.to) _ (both _ _ t).0).0) ∙
        (λ j. any
        (λ i. said_finished file (heard_at file i) by s &&
        is_some_and (sealed_of file (heard_at file i).row) (λ f. answered_told file (not server) by.from boxes e X f.hash j)) e)

  pub both_past : both_in file boxes e ≡ both_finished file e
  both_past = λ i by s. both_at by s i
