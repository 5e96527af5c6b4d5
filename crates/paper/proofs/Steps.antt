-- Steps are unique: no single step gives a note {Agent, Nonce}, and rule 6 gives it below a Says.
-- Assumes nothing.
use Prim.Native.Nat.{ℕ}
use mathlib.Core.Path.{◌≡◌, refl, ap}
use mathlib.Core.List.{List, ◌∷◌}
use Rattle.paper.specs.Message.{agent, nonce}
use Rattle.paper.specs.Event.{event, trace, Notes, Beginning, whole, earlier}
use Rattle.paper.specs.Rules.{secret_note, Step, Exchange, ClientKeyExch}
use Rattle.paper.specs.Generated.{Generated, Nil, step, exchange}
use Rattle.paper.specs.Steps.{FromExchange, NoteFromExchange, falls, OneWay}

module _ {bad : agent → Type 0} where
  pub no_step : {evs : trace} {A B : agent} {N : nonce} {n : ℕ} → Step bad evs (Notes A (secret_note B N)) n → ⊥
  no_step s = elim s [ ]

  no_message : {evs : trace} {e : event} {A B : agent} {N : nonce} → Exchange bad evs e (Notes A (secret_note B N)) → ⊥
  no_message x = elim x [ ]

  -- a generated trace does not end in such a note
  pub no_last : {evs : trace} {A B : agent} {N : nonce} → Generated bad (Notes A (secret_note B N) ∷ evs) → ⊥
  no_last (step g s) = no_step s
  no_last (exchange g x) = no_message x

  later : {A B : agent} {N : nonce} {evs₀ evs : trace} {e : event} →
      FromExchange bad A B N evs₀ evs → FromExchange bad A B N evs₀ (e ∷ evs)
  later f = record { K = f.K; behind = earlier f.behind; before = f.before; rule6 = f.rule6 }

  from : {evs : trace} → Generated bad evs → (A B : agent) (N : nonce) (evs₀ : trace) →
      Beginning (Notes A (secret_note B N) ∷ evs₀) evs → FromExchange bad A B N evs₀ evs
  from Nil A B N evs₀ b = elim b [ ]
  from (step g s) A B N evs₀ whole = absurd (no_step s)
  from (step g s) A B N evs₀ (earlier b) = later (from g A B N evs₀ b)
  from (exchange g x) A B N evs₀ whole = elim x [ ]
  from (exchange g (ClientKeyExch {K = K} fresh i)) A B N evs₀ (earlier whole) =
      record { K = K; behind = whole; before = g; rule6 = ClientKeyExch fresh i }
  from (exchange g x) A B N evs₀ (earlier (earlier b)) = later (later (from g A B N evs₀ b))

  one_way : {evs : trace} (g h : Generated bad evs) → falls g ≡ falls h
  unfolding falls
  one_way Nil Nil = refl
  one_way (step g s) (step h t) = ap (λ (l : List ℕ). 1 ∷ l) (one_way g h)
  one_way (exchange g x) (exchange h y) = ap (λ (l : List ℕ). 2 ∷ l) (one_way g h)
  one_way (step g s) (exchange h (ClientKeyExch fresh i)) = absurd (no_last g)
  one_way (exchange g (ClientKeyExch fresh i)) (step h s) = absurd (no_last h)

pub note_from_exchange : NoteFromExchange
note_from_exchange bad evs g = from g

pub steps_one_way : OneWay
steps_one_way bad evs = one_way
