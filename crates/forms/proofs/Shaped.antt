-- The laws of the readers, together.
-- Assumes nothing.
use Rattle.forms.specs.Shapes.{Shapes}
use Rattle.forms.proofs.Inverts as inverts
use Rattle.forms.proofs.Links as links
use Rattle.forms.proofs.Greetings as greetings
use Rattle.forms.proofs.Seals as seals

pub shapes : Shapes
shapes file P =
    record {
      agent_complete = λ r. inverts.agent_complete file P r;
      agent_sound = λ r. inverts.agent_sound file P r;
      public_complete = λ r. inverts.public_complete file P r;
      public_sound = λ r. inverts.public_sound file P r;
      private_complete = λ r. inverts.private_complete file P r;
      private_sound = λ r. inverts.private_sound file P r;
      hash_complete = λ r. inverts.hash_complete file P r;
      hash_sound = λ r. inverts.hash_sound file P r;
      pair_complete = λ r. inverts.pair_complete file P r;
      pair_sound = λ r. inverts.pair_sound file P r;
      crypt_complete = λ r. inverts.crypt_complete file P r;
      crypt_sound = λ r. inverts.crypt_sound file P r;
      prf_complete = λ r. inverts.prf_complete file P r;
      prf_sound = λ r. inverts.prf_sound file P r;
      session_complete = λ r. inverts.session_complete file P r;
      session_sound = λ r. inverts.session_sound file P r;
      number_complete = λ r. inverts.number_complete file P r;
      number_sound = λ r. inverts.number_sound file P r;
      nonce_complete = λ r. inverts.nonce_complete file P r;
      nonce_sound = λ r. inverts.nonce_sound file P r;
      plain_complete = λ r. inverts.plain_complete file P r;
      plain_sound = λ r. inverts.plain_sound file P r;
      key_complete = λ r. inverts.key_complete file P r;
      key_sound = λ r. inverts.key_sound file P r;
      three_complete = λ r. links.three_complete file P r;
      three_sound = λ r. links.three_sound file P r;
      four_complete = λ r. links.four_complete file P r;
      four_sound = λ r. links.four_sound file P r;
      hello_complete = λ r. greetings.hello_complete file P r;
      hello_sound = λ r. greetings.hello_sound file P r;
      reply_complete = λ r. greetings.reply_complete file P r;
      reply_sound = λ r. greetings.reply_sound file P r;
      kept_complete = λ r. greetings.kept_complete file P r;
      kept_sound = λ r. greetings.kept_sound file P r;
      signed_complete = λ r. greetings.signed_complete file P r;
      signed_sound = λ r. greetings.signed_sound file P r;
      remembered_complete = λ r. greetings.remembered_complete file P r;
      remembered_sound = λ r. greetings.remembered_sound file P r;
      agreement_complete = λ r. seals.agreement_complete file P r;
      agreement_sound = λ r. seals.agreement_sound file P r;
      sealed_complete = λ r. seals.sealed_complete file P r;
      sealed_sound = λ r. seals.sealed_sound file P r;
      derived_complete = λ r. seals.derived_complete file P r;
      derived_sound = λ r. seals.derived_sound file P r;
      verified_complete = λ r. seals.verified_complete file P r;
      verified_sound = λ r. seals.verified_sound file P r;
    }
