-- One number only, and one content of the lent bytes: the questions below have one answer. And a number tells its reply.
-- Assumes nothing.
use mathlib.Core.Path.{sym, ◌∙◌, ap}
use Rattle.spy.proofs.Knows.{one_answer}
use Rattle.judge.proofs.One.{one_verdict}
use Rattle.judge.proofs.Faults.{one_fault}
use Rattle.cabi.specs.Codes.{verdict_code, answer_code, span_code}
use Rattle.cabi.specs.Coded.{OneCode, NothingLost}
use Rattle.cabi.proofs.Codes.{codes_tell}
use Rattle.cabi.proofs.Small.{replies_small}

pub one_code : OneCode
one_code =
    record {
      verdict = λ file before n m after after' a b.
          let o = one_verdict file before a.verdict b.verdict after after' a.judged b.judged in
          (a.coded ∙ ap verdict_code o.0 ∙ sym b.coded, o.1);
      answer = λ file k before n m after after' a b.
          let o = one_answer file k before a.answer b.answer after after' a.knows b.knows in
          (a.coded ∙ ap answer_code o.0 ∙ sym b.coded, o.1);
      fault = λ file n m a b. a.coded ∙ ap span_code (one_fault file a.span b.span a.faulted b.faulted) ∙ sym b.coded;
    }

pub nothing_lost : NothingLost
nothing_lost =
    record {
      verdict = λ a b.
          codes_tell.verdict _ _ (replies_small.verdict _ _ _ _ a.judged) (replies_small.verdict _ _ _ _ b.judged) (sym a.coded ∙ b.coded);
      answer = λ a b.
          codes_tell.answer _ _ (replies_small.answer _ _ _ _ _ a.knows) (replies_small.answer _ _ _ _ _ b.knows) (sym a.coded ∙ b.coded);
      fault = λ a b.
          codes_tell.span _ _ (replies_small.fault _ _ a.faulted) (replies_small.fault _ _ b.faulted) (sym a.coded ∙ b.coded);
    }
