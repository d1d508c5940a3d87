use Rattle.std.proofs.Common.{subst}
use Rattle.race_check.specs.Words.{Gap}
use Rattle.race_check.proofs.WordSteps.{one_more}
use Rattle.race_check.proofs.words.add_word.Goals as goal

pub returns : goal.returns
returns c =
    one_more c.args.word c.args.words.now.items c.insert.new.self.items c.in-Some.at c.requires
    (subst (λ z. Gap c.args.word z c.in-Some.at) c.deref.ensures.value c.in-Some.ensures) c.in_ok-insert.ensures.items
