use Rattle.std.proofs.Common.{◌∙◌, sym}
use Rattle.std.proofs.lemmas.Result.{IfOk-weaker}
use Rattle.symbolic_terms.specs.Meanings.{word_of, words_of}
use Rattle.symbolic_terms.specs.Shown.{place_of}
use Rattle.code_follows.proofs.Families.{jumps_plain}
use Rattle.code_follows.proofs.operators.jumps_where.Goals as goal

pub returns-in_default : goal.returns-in_default
returns-in_default c = IfOk-weaker c.jumps.result _ _ (λ n h types m p f a. h types m _ a ∙ sym (jumps_plain types m p f c.args.index c.args.target (place_of types m c.args.place) (word_of m c.args.word) (words_of m c.args.below) c.args.outcome.now c.in_default.not-Chooses)) c.jumps.ensures
