use Rattle.race_check.proofs.WordSteps.{stands_at}
use Rattle.race_check.proofs.words.place_of.Goals as goal

pub returns-then-words-at : goal.returns-then-words-at
returns-then-words-at c = stands_at c.args.word c.args.words.now c.below.at c.below-test.true c.if-words-at.true
