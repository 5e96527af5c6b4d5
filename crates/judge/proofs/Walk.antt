-- The walk finds the longest accepted beginning and its rule numbers, where each test says whether its rule fits.
-- Assumes nothing.
use Prim.Native.Nat.{ℕ, zero, suc, ◌+◌, ◌<◌, ◌≤◌}
use mathlib.Core.Bool.{Bool, true, false, ◌&&◌}
use mathlib.Core.List.{List}
use mathlib.Core.Logic.{◌⊎◌, inl, inr}
use mathlib.Core.Path.{◌≡◌, refl, ◌∙◌}
use native.Mathlib.Omega.{arith}
use native.Mathlib.Decide.{dec_lt, ℕ_discrete}
use lib.Dec.{ltb}
use lib.ListN.{length, get_or, set, length-set}
use lib.Seq.{get_or-set_same, get_or-set_other}
use borrow.Author.Tests.{lt-ltb, le-ltb}
use Rattle.paper.specs.Message.{agent}
use Rattle.paper.specs.Event.{event, trace}
use Rattle.paper.specs.Rules.{Exchange, ClientKeyExch}
use Rattle.paper.specs.Generated.{Nil, step, exchange}
use Rattle.trace.specs.File.{events_of}
use Rattle.trace.specs.Meaning.{beginning}
use Rattle.laws.proofs.First.{bool_cases, lt_suc}
use Rattle.walk.specs.Walk.{Walked, walked_to, walk}
use Rattle.judge.specs.Judged.{AcceptedTo, Fits, Exchanged, RuleAt, lowest, note, message}
use Rattle.judge.proofs.One.{not_both}

-- a message of rule 6 is no note of it
no_chain : {bad : agent → Type 0} {evs evs' : trace} {c d e : event} → Exchange bad evs c d → ¬ Exchange bad evs' d e
no_chain (ClientKeyExch fresh i) x = elim x [ ]

module _ (file : List ℕ) where
  -- where an event of an accepted beginning comes from
  abbrev From : ℕ → ℕ → Type 0
  From m i = ((k : ℕ) × Fits file i k) ⊎ ((suc i < m) × Exchanged file i) ⊎ ((j : ℕ) × (i ≡ suc j) × Exchanged file j)

  from_later : {m n i : ℕ} → m ≤ n → From m i → From n i
  from_later l (inl f) = inl f
  from_later l (inr (inl (h, x))) = inr (inl (omega arith, x))
  from_later l (inr (inr j)) = inr (inr j)

  two_events : (m i : ℕ) → i < suc (suc m) → Exchanged file m → (i < m → From m i) → From (suc (suc m)) i
  two_events m i l x ih = go (lt_suc i (suc m) l)
    where
      go_low : (i < m) ⊎ (i ≡ m) → From (suc (suc m)) i
      go_low (inl h) = from_later (omega arith) (ih h)
      go_low (inr e) = inr (inl (omega arith, rw e x))

      go : (i < suc m) ⊎ (i ≡ suc m) → From (suc (suc m)) i
      go (inl h) = go_low (lt_suc i m h)
      go (inr e) = inr (inr (m, e, x))

  one_event : (m i k : ℕ) → i < suc m → Fits file m k → (i < m → From m i) → From (suc m) i
  one_event m i k l f ih = go (lt_suc i m l)
    where
      go : (i < m) ⊎ (i ≡ m) → From (suc m) i
      go (inl h) = from_later (omega arith) (ih h)
      go (inr e) = inl (k, rw e f)

  from_accepted : (m : ℕ) → AcceptedTo file m → (i : ℕ) → i < m → From m i
  unfolding beginning
  from_accepted zero g i l = absurd (omega arith)
  from_accepted (suc zero) (step {n = k} g s) i l = one_event zero i k l s (λ h. absurd (omega arith))
  from_accepted (suc (suc m)) (step {n = k} g s) i l = one_event (suc m) i k l s (λ h. from_accepted (suc m) g i h)
  from_accepted (suc (suc m)) (exchange g x) i l = two_events m i l x (λ h. from_accepted m g i h)

  -- the message of no exchange, so a step starts here
  abbrev Apart : ℕ → Type 0
  Apart i = (j : ℕ) → i ≡ suc j → ¬ Exchanged file j

  apart_step : (i k : ℕ) → Fits file i k → Apart (suc i)
  apart_step i k f j e x =
      let q : i ≡ j = omega arith in
      not_both x (rw q at f)

  apart_exchange : (i : ℕ) → Exchanged file i → Apart (suc (suc i))
  apart_exchange i x j e y =
      let q : j ≡ suc i = omega arith in
      no_chain x (rw q at y)

  -- where nothing fits, nothing longer is accepted
  stuck : (i m : ℕ) → Apart i → ((k : ℕ) → ¬ Fits file i k) → (suc i < m → ¬ Exchanged file i) → i < m → ¬ AcceptedTo file m
  stuck i m a f x l g = go (from_accepted m g i l)
    where
      go : From m i → ⊥
      go (inl (k, s)) = f k s
      go (inr (inl (h, y))) = x h y
      go (inr (inr (j, e, y))) = a j e y

  accept_one : (i k : ℕ) → AcceptedTo file i → Fits file i k → AcceptedTo file (suc i)
  unfolding beginning
  accept_one i k g f = step g f

  accept_two : (i : ℕ) → AcceptedTo file i → Exchanged file i → AcceptedTo file (suc (suc i))
  unfolding beginning
  accept_two i g x = exchange g x

  -- how a walk from event i ends
  pub record Ended (i : ℕ) (bytes : List ℕ) (w : Walked) : Type 0 where
    pub from : i ≤ w.length
    pub within : w.length ≤ events_of file
    pub accepted : AcceptedTo file w.length
    pub longest : (m : ℕ) → w.length < m → m ≤ events_of file → ¬ AcceptedTo file m
    pub size : length w.bytes ≡ length bytes
    pub rules : (j : ℕ) → i ≤ j → j < w.length → RuleAt file j (get_or w.bytes j 0)
    pub before : (j : ℕ) → j < i → get_or w.bytes j 0 ≡ get_or bytes j 0
    pub after : (j : ℕ) → w.length ≤ j → get_or w.bytes j 0 ≡ get_or bytes j 0

  module _ (rule : ℕ → ℕ) (exchanges : ℕ → Bool)
      (fits : (i : ℕ) → i < events_of file → 0 < rule i → Fits file i (rule i) × ((j : ℕ) → Fits file i j → rule i ≤ j))
      (none : (i : ℕ) → i < events_of file → rule i ≡ 0 → (k : ℕ) → ¬ Fits file i k)
      (six : (i : ℕ) → suc i < events_of file → exchanges i ≡ true → Exchanged file i)
      (not_six : (i : ℕ) → suc i < events_of file → exchanges i ≡ false → ¬ Exchanged file i) where
    abbrev N : ℕ
    N = events_of file

    ended_here : (i : ℕ) (bytes : List ℕ) → i ≤ N → AcceptedTo file i → ((m : ℕ) → i < m → m ≤ N → ¬ AcceptedTo file m) →
        Ended i bytes (walked_to i bytes)
    ended_here i bytes l g longest =
        record {
          from = omega arith;
          within = l;
          accepted = g;
          longest = longest;
          size = refl;
          rules = λ j a b. absurd (omega arith);
          before = λ j a. refl;
          after = λ j a. refl;
        }

    -- one event more, and two
    after_one : (i k : ℕ) (bytes : List ℕ) (w : Walked) → i < length bytes → RuleAt file i k → Ended (suc i) (set bytes i k) w → Ended i bytes w
    after_one i k bytes w l r e =
        record {
          from = let f = e.from in omega arith;
          within = e.within;
          accepted = e.accepted;
          longest = e.longest;
          size = e.size ∙ length-set bytes i k;
          rules = λ j a b. go j (ℕ_discrete j i) a b;
          before = λ j a. e.before j (omega arith) ∙ get_or-set_other bytes i j k 0 (omega arith);
          after = λ j a. let f = e.from in e.after j a ∙ get_or-set_other bytes i j k 0 (omega arith);
        }
      where
        go : (j : ℕ) → Dec (j ≡ i) → i ≤ j → j < w.length → RuleAt file j (get_or w.bytes j 0)
        go j (yes q) a b = rw (q, e.before i (omega arith), get_or-set_same bytes i k 0 l) r
        go j (no n) a b = e.rules j (omega arith) b

    abbrev Walks : ℕ → Type 0
    Walks d =
        (i : ℕ) (bytes : List ℕ) → N ≤ i + d → i ≤ N → N ≤ length bytes → AcceptedTo file i → Apart i →
        Ended i bytes (walk rule exchanges N d i bytes)

    module _ (d : ℕ) (walks : Walks d) (i : ℕ) (bytes : List ℕ) (deep : N ≤ i + suc d) (at_most : i ≤ N) (room : N ≤ length bytes)
        (g : AcceptedTo file i) (a : Apart i) where
      ends_one : i < N → 0 < rule i → Ended i bytes (walk rule exchanges N d (suc i) (set bytes i (rule i)))
      ends_one l p =
          let f = fits i l p in
          after_one i (rule i) bytes (walk rule exchanges N d (suc i) (set bytes i (rule i))) (omega arith) (lowest f.0 f.1 a)
          (walks (suc i) (set bytes i (rule i)) (omega arith) (omega arith) (omega (arith, length-set bytes i (rule i)))
          (accept_one i (rule i) g f.0) (apart_step i (rule i) f.0))

      ends_two : suc i < N → exchanges i ≡ true →
          Ended i bytes (walk rule exchanges N d (suc (suc i)) (set (set bytes i 6) (suc i) 6))
      ends_two l t =
          let x = six i l t in
          let w = walk rule exchanges N d (suc (suc i)) (set (set bytes i 6) (suc i) 6) in
          after_one i 6 bytes w (omega arith) (note x)
          (after_one (suc i) 6 (set bytes i 6) w (omega (arith, length-set bytes i 6)) (message x)
          (walks (suc (suc i)) (set (set bytes i 6) (suc i) 6) (omega arith) (omega arith)
          (omega (arith, length-set (set bytes i 6) (suc i) 6, length-set bytes i 6)) (accept_two i g x) (apart_exchange i x)))

      ends_stuck : i < N → rule i ≡ 0 → (suc i < N → ¬ Exchanged file i) → Ended i bytes (walked_to i bytes)
      ends_stuck l z x =
          ended_here i bytes (omega arith) g (λ m lm le. stuck i m a (none i l z) (λ h. x (omega arith)) lm)

      ends_six : i < N → rule i ≡ 0 → Dec (suc i < N) → (exchanges i ≡ true) ⊎ (exchanges i ≡ false) →
          Ended i bytes
          (elim (ltb (suc i) N && exchanges i)
          [ true ↦ walk rule exchanges N d (suc (suc i)) (set (set bytes i 6) (suc i) 6) | false ↦ walked_to i bytes ])
      ends_six l z (yes h) (inl t) = rw (lt-ltb (suc i) N h, t) (ends_two h t)
      ends_six l z (yes h) (inr t) = rw (lt-ltb (suc i) N h, t) (ends_stuck l z (λ _. not_six i h t))
      ends_six l z (no h) e = rw (le-ltb (suc i) N (omega arith)) (ends_stuck l z (λ m. absurd (h m)))

      ends : Dec (i < N) → Dec (0 < rule i) → Ended i bytes (walk rule exchanges N (suc d) i bytes)
      unfolding walk
      ends (yes l) (yes p) = rw (lt-ltb i N l, lt-ltb 0 (rule i) p, walk) (ends_one l p)
      ends (yes l) (no p) =
          rw (lt-ltb i N l, le-ltb 0 (rule i) (omega arith), walk) (ends_six l (omega arith) (dec_lt (suc i) N) (bool_cases (exchanges i)))
      ends (no l) p =
          rw (le-ltb i N (omega arith), walk) (ended_here i bytes at_most g (λ m lm le. absurd (omega arith)))

    walks : (d : ℕ) → Walks d
    unfolding walk
    walks zero i bytes deep at_most room g a = ended_here i bytes at_most g (λ m lm le. absurd (omega arith))
    walks (suc d) i bytes deep at_most room g a = ends d (walks d) i bytes deep at_most room g a (dec_lt i N) (dec_lt 0 (rule i))

    -- from the first event
    pub walked : (bytes : List ℕ) → N ≤ length bytes → Ended 0 bytes (walk rule exchanges N N 0 bytes)
    unfolding beginning
    walked bytes room = walks N 0 bytes (omega arith) (omega arith) room Nil (λ j e. absurd (omega arith))
