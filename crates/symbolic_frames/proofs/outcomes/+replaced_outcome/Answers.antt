use Rattle.std.proofs.Common.{◌∙◌, ap}
use Rattle.symbolic_terms.specs.Replaced.{replacing_of}
use Rattle.symbolic_terms.specs.Meanings.{word_of}
use Rattle.symbolic_terms.specs.Shown.{outcome_of}
use Rattle.symbolic_frames.proofs.InPlace.{chooses_replaced, results_replaced, finds_replaced}
use Rattle.symbolic_frames.proofs.outcomes.+replaced_outcome.Goals as goal

-- the last word is made first
pub returns-in_ok-word-in-Chooses-clause-is : goal.returns-in_ok-word-in-Chooses-clause-is
returns-in_ok-word-in-Chooses-clause-is t c types m p f agrees =
    let second = c.replaced_word-in-Chooses.ensures.grows types m agrees in
    let first = c.replaced_outcome-in-Chooses.ensures.grows types m second in
    chooses_replaced types m p f (replacing_of types c.args.with) c.args.outcome c.in-Chooses.word c.in-Chooses.zero c.in-Chooses.other
    (word_of m c.in_ok-word-in-Chooses.word) (outcome_of types m p f c.in_ok-zero-in-Chooses.zero.now) (outcome_of types m p f c.in_ok-other-in-Chooses.other.now)
    c.in-Chooses.is (c.in_ok-word-in-Chooses.ensures.is types m agrees)
    (ap (outcome_of types m p f) c.in_ok-zero-in-Chooses.ensures ∙ c.in_ok-replaced_outcome-in-Chooses.ensures.is types m p f first)
    (ap (outcome_of types m p f) c.in_ok-other-in-Chooses.ensures ∙ c.in_ok-replaced_outcome-in-Chooses-2.ensures.is types m p f second)

pub returns-in_ok-right-in-Results-clause-is : goal.returns-in_ok-right-in-Results-clause-is
returns-in_ok-right-in-Results-clause-is t c types m p f agrees =
    let second = c.replaced_word-in-Results-2.ensures.grows types m agrees in
    let first = c.replaced_word-in-Results.ensures.grows types m second in
    results_replaced types m p f (replacing_of types c.args.with) c.args.outcome c.in-Results.op c.in-Results.kind c.in-Results.left c.in-Results.right c.in-Results.then
    (word_of m c.in_ok-left-in-Results.left) (word_of m c.in_ok-right-in-Results.right) (outcome_of types m p f c.in_ok-then-in-Results.then.now)
    c.in-Results.is (c.in_ok-left-in-Results.ensures.is types m second) (c.in_ok-right-in-Results.ensures.is types m agrees)
    (ap (outcome_of types m p f) c.in_ok-then-in-Results.ensures ∙ c.in_ok-replaced_outcome-in-Results.ensures.is types m p f first)

pub returns-in_ok-address-in-Finds-clause-is : goal.returns-in_ok-address-in-Finds-clause-is
returns-in_ok-address-in-Finds-clause-is t c types m p f agrees =
    let first = c.replaced_word-in-Finds.ensures.grows types m agrees in
    finds_replaced types m p f (replacing_of types c.args.with) c.args.outcome c.in-Finds.class c.in-Finds.slot c.in-Finds.address c.in-Finds.then
    (word_of m c.in_ok-address-in-Finds.address) (outcome_of types m p f c.in_ok-then-in-Finds.then.now)
    c.in-Finds.is (c.in_ok-address-in-Finds.ensures.is types m agrees)
    (ap (outcome_of types m p f) c.in_ok-then-in-Finds.ensures ∙ c.in_ok-replaced_outcome-in-Finds.ensures.is types m p f first)
