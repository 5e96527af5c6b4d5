-- `repeats::Chains::add` meets its contract: a row that is found lies below row r, and none is left at the end of the chain.
-- Row r is then put in front of its bucket's chain. Assumes nothing.
use Rattle.std.proofs.Common.{◌≡◌, ◌+◌, ◌∙◌, ap, sym, rules, arith}
use mathlib.Core.Bool.{true≢false}
use Rattle.laws.proofs.First.{any_some}
use Rattle.trace.specs.Rows.{fields_at}
use Rattle.trace.proofs.Same.{equal_same}
use Rattle.repeats.specs.Chain.{bucket_of, tag_of}
use Rattle.repeats.proofs.Chain.{not_repeated, reach_end, reach_next, chained_more}
use Rattle.repeats.proofs.Chains.add.Goals as goal

pub returns-then-is : goal.returns-then-is
returns-then-is c =
    let file = c.args.file.now in
    let row = c.in-Some.row in
    let q : fields_at file row ≡ c.fields_at-f.result = search rules in
    record {
      repeated = sym (any_some _ c.args.r row (omega arith) (equal_same _ _ (q ∙ c.fields_at-f.ensures)));
      chained = λ e. absurd (true≢false e);
    }

pub loop-row-preserved : goal.loop-row-preserved
loop-row-preserved c =
    let file = c.args.file.now in
    let row = c.in-Some.row in
    let l = c.loop-row in
    let q : l.link ≡ row + 1 = omega arith in
    let other : ¬ (fields_at file row ≡ c.fields_at-f.result) = search rules in
    rw c.from.ensures
    (record {
      low = omega (arith, c.requires.chained.down row);
      ahead = λ s p e. reach_next file c.args.self.now.links _ row s other e l.link q (l.invariant.ahead s p e);
    })

pub returns : goal.returns
returns c =
    let a = c.args in
    let file = a.file.now in
    let l = c.loop-row in
    let fields = c.fields_at-f.ensures in
    let bucket : c.bucket-h.result ≡ bucket_of (fields_at file a.r) = c.bucket-h.ensures.0 ∙ ap bucket_of fields in
    let tag : c.tag.result ≡ tag_of (fields_at file a.r) = c.tag.ensures ∙ ap tag_of fields in
    record {
      repeated = sym
          (not_repeated file a.self.now a.r _ bucket c.requires.chained
          (λ s p e. reach_end a.self.now.links l.link s (omega arith) (l.invariant.ahead s p (e ∙ sym fields))));
      chained = λ _. rw c.from-2.ensures (chained_more file a.self.now a.r _ bucket c.requires.chained c.requires.in_range _ tag);
    }
