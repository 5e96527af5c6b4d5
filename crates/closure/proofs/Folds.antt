-- The loops' definitions, one turn more, what is left of settling, and the rows that a pass may leave out.
-- Assumes nothing.
use Prim.Native.Nat.{ℕ, zero, suc, ◌+◌, ◌-◌, ◌<◌, ◌≤◌}
use mathlib.Core.Bool.{Bool, true, false}
use mathlib.Core.List.{List}
use mathlib.Core.Path.{◌≡◌, refl, sym, ◌∙◌, ap}
use native.Mathlib.Omega.{arith}
use native.Mathlib.Numerals.{add-one}
use Rattle.trace.specs.File.{row_limit, agent_limit, rows_of, compromised_in}
use Rattle.laws.specs.Choose.{choose}
use Rattle.trace.specs.Events.{event_at}
use Rattle.trace.specs.Kinds.{row_at}
use Rattle.closure.specs.declared.Known.{Known}
use Rattle.closure.specs.Closure.{zeros, key_room, see_event, known_after, State, state_of, know, up_rows, down_rows, pass_rows, settle, start_keys, key_known, mark_row, start_rows, reopens, reopen_row, Reaches}
use mathlib.Core.Logic.{◌⊎◌, inl, inr}
use borrow.Author.Tests.{le-ltb, ltb-true, ltb-false}
use Rattle.laws.proofs.Both.{or_none}
use Rattle.laws.proofs.First.{bool_cases}
use Rattle.std.specs.Prelude.{min, ltb}
use Rattle.std.proofs.Math.Nat.{min-eq_left, min-eq_right}

module _ (file : List ℕ) where
  pass_on : (n : ℕ) (rows keys : List ℕ) → (up_rows file n rows keys).fresh ≡ true →
      pass_rows file n rows keys ≡ down_rows file n (up_rows file n rows keys).rows (up_rows file n rows keys).keys
  unfolding pass_rows
  pass_on n rows keys e = rw (e, pass_rows) refl

  pass_over : (n : ℕ) (rows keys : List ℕ) → (up_rows file n rows keys).fresh ≡ false → pass_rows file n rows keys ≡ up_rows file n rows keys
  unfolding pass_rows up_rows
  pass_over n rows keys e = rw (e, pass_rows) refl

  pub pass_found : (n : ℕ) (rows keys rs ks rs' ks' : List ℕ) {f : Bool} → state_of rs ks f ≡ up_rows file n rows keys → f ≡ true →
      state_of rs' ks' true ≡ down_rows file n rs ks → state_of rs' ks' true ≡ pass_rows file n rows keys
  pass_found n rows keys rs ks rs' ks' u z d =
      let e : (up_rows file n rows keys).fresh ≡ true = rw (← u) z in
      rw (pass_on n rows keys e, ← u) d

  pub pass_ended : (n : ℕ) (rows keys rs ks : List ℕ) {f : Bool} → state_of rs ks f ≡ up_rows file n rows keys → f ≡ false →
      state_of rs ks false ≡ pass_rows file n rows keys
  pass_ended n rows keys rs ks u z =
      let e : (up_rows file n rows keys).fresh ≡ false = rw (← u) z in
      rw (pass_over n rows keys e, ← z) u

  -- a last row that is no marked Crypt may be left out of a pass
  module _ (n : ℕ) (none : (rs : List ℕ) → reopens file rs n ≡ false) where
    up_less : (rs ks : List ℕ) → up_rows file n rs ks ≡ up_rows file (suc n) rs ks
    unfolding up_rows
    up_less rs ks =
        let s = up_rows file n rs ks in
        rw (none s.rows, reopen_row, or_none s.fresh) refl

    down_less : (rs ks : List ℕ) → down_rows file n rs ks ≡ down_rows file (suc n) rs ks
    unfolding down_rows
    down_less rs ks = rw (none rs, reopen_row) refl

    pass_suc : (rs ks : List ℕ) → pass_rows file n rs ks ≡ pass_rows file (suc n) rs ks
    unfolding pass_rows
    pass_suc rs ks = go (bool_cases (up_rows file n rs ks).fresh)
      where
        go : ((up_rows file n rs ks).fresh ≡ true) ⊎ ((up_rows file n rs ks).fresh ≡ false) → pass_rows file n rs ks ≡ pass_rows file (suc n) rs ks
        go (inl e) =
            let s = up_rows file n rs ks in
            pass_on n rs ks e ∙ down_less s.rows s.keys ∙ rw (up_less rs ks) (sym (pass_on (suc n) rs ks (rw (← up_less rs ks) e)))
        go (inr e) = pass_over n rs ks e ∙ up_less rs ks ∙ sym (pass_over (suc n) rs ks (rw (← up_less rs ks) e))

  -- a row past the marks is none
  none_past : (r : ℕ) → row_limit ≤ r → (rs : List ℕ) → reopens file rs r ≡ false
  none_past r l rs = rw (le-ltb r row_limit l) refl

  pass_past : (k : ℕ) (rs ks : List ℕ) → pass_rows file row_limit rs ks ≡ pass_rows file (row_limit + k) rs ks
  pass_past zero rs ks = refl
  pass_past (suc k) rs ks =
      let q : suc (row_limit + k) ≡ row_limit + suc k = omega arith in
      pass_past k rs ks ∙ pass_suc (row_limit + k) (none_past (row_limit + k) (omega arith)) rs ks ∙ ap (λ (m : ℕ). pass_rows file m rs ks) q

  -- the rows behind the marks may be left out
  pub reaches_min : Reaches file (min (rows_of file) row_limit)
  reaches_min rs ks = go (bool_cases (ltb (rows_of file) row_limit))
    where
      go : (ltb (rows_of file) row_limit ≡ true) ⊎ (ltb (rows_of file) row_limit ≡ false) → pass_rows file (min (rows_of file) row_limit) rs ks ≡ pass_rows file (rows_of file) rs ks
      go (inl t) =
          let l = ltb-true (rows_of file) row_limit t in
          rw (min-eq_left {n = rows_of file} {m = row_limit} (omega (arith, l))) refl
      go (inr f) =
          let l = ltb-false (rows_of file) row_limit f in
          let q : row_limit + (rows_of file - row_limit) ≡ rows_of file = omega (arith, l) in
          rw (min-eq_right {n = row_limit} {m = rows_of file} (omega (arith, l))) (pass_past (rows_of file - row_limit) rs ks ∙ ap (λ (m : ℕ). pass_rows file m rs ks) q)

  pub keys_more : (a : ℕ) (keys ks ks' : List ℕ) → ks ≡ start_keys file a keys →
      ks' ≡ choose (compromised_in file a) (know ks (agent_limit + a)) ks → ks' ≡ start_keys file (a + 1) keys
  unfolding start_keys
  keys_more a keys ks ks' e q = rw (add-one, ← e) q

  pub rows_more : (keys : List ℕ) (r : ℕ) (rows rs rs' : List ℕ) → rs ≡ start_rows file keys r rows →
      rs' ≡ choose (key_known keys (row_at file r)) (mark_row rs r) rs → rs' ≡ start_rows file keys (r + 1) rows
  unfolding start_rows
  rows_more keys r rows rs rs' e q = rw (add-one, ← e) q

  -- settling ends where no key is fresh, and goes on by a pass where one is
  settled : (d : ℕ) (rs ks : List ℕ) → settle file d (state_of rs ks false) ≡ state_of rs ks false
  unfolding settle
  settled zero rs ks = refl
  settled (suc d) rs ks = refl

  settle_none : (s : State) → settle file 0 s ≡ s
  unfolding settle
  settle_none s = refl

  settle_suc : (d : ℕ) (rs ks : List ℕ) → settle file (suc d) (state_of rs ks true) ≡ settle file d (pass_rows file (rows_of file) rs ks)
  unfolding settle
  settle_suc d rs ks = refl

  settle_pass : (p : ℕ) (rs ks : List ℕ) → p < row_limit →
      settle file (row_limit - p) (state_of rs ks true) ≡ settle file (row_limit - (p + 1)) (pass_rows file (rows_of file) rs ks)
  settle_pass p rs ks l =
      let e : row_limit - p ≡ suc (row_limit - (p + 1)) = omega arith in
      rw e (settle_suc (row_limit - (p + 1)) rs ks)

  -- what was left to settle gives the end
  pub see_end : {s t : State} (d : ℕ) (rs ks : List ℕ) {f : Bool} → s ≡ t →
      settle file d (state_of rs ks f) ≡ settle file row_limit s → f ≡ false → state_of rs ks f ≡ settle file row_limit t
  see_end d rs ks {f} e q z = rw (← e, ← q, z) (sym (settled d rs ks))

  pub see_last : {s t : State} (p : ℕ) (rs ks : List ℕ) {f : Bool} → s ≡ t → row_limit - p ≡ 0 →
      settle file (row_limit - p) (state_of rs ks f) ≡ settle file row_limit s → state_of rs ks f ≡ settle file row_limit t
  see_last p rs ks {f} e z q = rw (← e, ← q, z) (sym (settle_none (state_of rs ks f)))

  pub see_more : {t : State} (p : ℕ) (rs ks rs' ks' : List ℕ) {f g : Bool} → p < row_limit → f ≡ true →
      settle file (row_limit - p) (state_of rs ks f) ≡ t → state_of rs' ks' g ≡ pass_rows file (rows_of file) rs ks →
      settle file (row_limit - (p + 1)) (state_of rs' ks' g) ≡ t
  see_more p rs ks rs' ks' {f} {g} l z q r = rw (← q, z, r) (sym (settle_pass p rs ks l))

  -- the state of the first event is what the start gives
  pub known_start : {known : Known} → known.keys ≡ start_keys file agent_limit (zeros key_room) →
      known.rows ≡ start_rows file (start_keys file agent_limit (zeros key_room)) (rows_of file) (zeros row_limit) → known ≡ known_after file 0
  unfolding known_after
  known_start keys rows = λ j. record { rows = rows j; keys = keys j }

  pub known_more : (e : ℕ) (known known' : Known) → known ≡ known_after file e → known' ≡ see_event file known.rows known.keys (event_at file e) →
      known' ≡ known_after file (e + 1)
  unfolding known_after
  known_more e known known' i j = rw (add-one e, ← i) j
