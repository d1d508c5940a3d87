use Rattle.std.proofs.Common.{ap, sym, ◌∙◌}
use Rattle.undo_log.specs.IndexView.{words_listed}
use Rattle.undo_log.proofs.LastPositions.{is_since, since_law}
use Rattle.undo_log.proofs.index.Index.has_since.Goals as goal

pub returns-in-Some : goal.returns-in-Some
returns-in-Some c =
    sym (since_law c.args.start (words_listed c.args.self.now) c.args.word
    ∙ ap (is_since c.args.start) (sym (c.in-Some.ensures.value ∙ c.args.self.now.positions c.args.word)))

pub returns-in-None : goal.returns-in-None
returns-in-None c =
    sym (since_law c.args.start (words_listed c.args.self.now) c.args.word
    ∙ ap (is_since c.args.start) (sym (c.in-None.ensures.value ∙ c.args.self.now.positions c.args.word)))
