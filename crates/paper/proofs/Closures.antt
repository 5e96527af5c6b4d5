-- Analysed and made behave. Each law is an induction on how the message was reached; that taking apart what was made gives
-- nothing new rests on this: a key that was made was analysed, and so is the key of a Crypt that was made.
-- Assumes nothing.
use Rattle.paper.specs.Message.{key, msg, Key, Crypt, Pair, inv_key}
use Rattle.paper.specs.Spy.{Analz, inj, fst, snd, decrypt, Synth, known, guess_agent, guess_number, hash, pair, crypt}
use Rattle.paper.specs.Closures.{Within, Closures}
use Rattle.paper.proofs.Event.{Spies-beginning}

pub analz_mono : {G H : msg → Type 0} {X : msg} → Within G H → Analz G X → Analz H X
analz_mono {X = X} w (inj h) = inj (w X h)
analz_mono w (fst a) = fst (analz_mono w a)
analz_mono w (snd a) = snd (analz_mono w a)
analz_mono w (decrypt a k) = decrypt (analz_mono w a) (analz_mono w k)

pub analz_idem : {H : msg → Type 0} {X : msg} → Analz (Analz H) X → Analz H X
analz_idem (inj a) = a
analz_idem (fst a) = fst (analz_idem a)
analz_idem (snd a) = snd (analz_idem a)
analz_idem (decrypt a k) = decrypt (analz_idem a) (analz_idem k)

pub synth_mono : {G H : msg → Type 0} {X : msg} → Within G H → Synth G X → Synth H X
synth_mono {X = X} w (known h) = known (w X h)
synth_mono w guess_agent = guess_agent
synth_mono w guess_number = guess_number
synth_mono w (hash s) = hash (synth_mono w s)
synth_mono w (pair s t) = pair (synth_mono w s) (synth_mono w t)
synth_mono w (crypt {K = K} k s) = crypt (w (Key K) k) (synth_mono w s)

module _ {H : msg → Type 0} where
  synth_key : {K : key} → Synth (Analz H) (Key K) → Analz H (Key K)
  synth_key (known a) = a

  synth_fst : {X Y : msg} → Synth (Analz H) (Pair X Y) → Synth (Analz H) X
  synth_fst (known a) = known (fst a)
  synth_fst (pair s t) = s

  synth_snd : {X Y : msg} → Synth (Analz H) (Pair X Y) → Synth (Analz H) Y
  synth_snd (known a) = known (snd a)
  synth_snd (pair s t) = t

  synth_decrypt : {K : key} {X : msg} → Synth (Analz H) (Crypt K X) → Analz H (Key (inv_key K)) → Synth (Analz H) X
  synth_decrypt (known a) k = known (decrypt a k)
  synth_decrypt (crypt k s) k' = s

  pub analz_of_synth : {X : msg} → Analz (Synth (Analz H)) X → Synth (Analz H) X
  analz_of_synth (inj s) = s
  analz_of_synth (fst a) = synth_fst (analz_of_synth a)
  analz_of_synth (snd a) = synth_snd (analz_of_synth a)
  analz_of_synth (decrypt a k) = synth_decrypt (analz_of_synth a) (synth_key (analz_of_synth k))

pub closures : Closures
closures =
    record {
      analz_contains = λ H X h. inj h;
      analz_monotone = λ G H w X a. analz_mono w a;
      analz_idempotent = λ H X a. analz_idem a;
      synth_contains = λ H X a. known a;
      synth_monotone = λ G H w X s. synth_mono w s;
      analz_synth = λ H X a. analz_of_synth a;
      spies_grow = λ bad evs₀ evs b X s. Spies-beginning b s;
    }
