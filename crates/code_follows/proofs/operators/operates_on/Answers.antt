use Rattle.std.proofs.Common.{◌∙◌, sym}
use Rattle.std.proofs.lemmas.Result.{IfOk-weaker}
use Rattle.symbolic_terms.specs.Meanings.{word_of, words_of}
use Rattle.symbolic_terms.specs.Shown.{facts_of, place_of}
use Rattle.code_follows.proofs.Families.{operates_other, operates_plain}
use Rattle.code_follows.proofs.operators.operates_on.Goals as goal

pub returns-else-branch-clause-is : goal.returns-else-branch-clause-is
returns-else-branch-clause-is c = rw c.in-Results.is (IfOk-weaker c.gives.result _ _ (λ n h types m p f a. h types m _ a ∙ sym (operates_other types m p f (facts_of types m c.args.facts) c.args.index (place_of types m c.args.place) c.args.op c.args.kind (word_of m c.args.left) (word_of m c.args.right) (words_of m c.args.below) c.in-Results.other_op c.in-Results.other_kind c.in-Results.other_left c.in-Results.other_right c.in-Results.then (sym (c.in_ok-operates_same-in-Results.ensures types m (c.gives.ensures.grows types m a)) ∙ c.if-branch.false))) c.gives.ensures.is)

pub returns-in_default-clause-is : goal.returns-in_default-clause-is
returns-in_default-clause-is c = IfOk-weaker c.gives-in_default.result _ _ (λ n h types m p f a. h types m _ a ∙ sym (operates_plain types m p f (facts_of types m c.args.facts) c.args.index (place_of types m c.args.place) c.args.op c.args.kind (word_of m c.args.left) (word_of m c.args.right) (words_of m c.args.below) c.args.outcome.now c.in_default.not-Results)) c.gives-in_default.ensures.is
