use Rattle.std.proofs.Common.{◌∙◌, sym}
use Rattle.std.proofs.lemmas.Result.{IfOk-weaker}
use Rattle.src_frames.specs.Bounds.{tree_of}
use Rattle.symbolic_terms.specs.Meanings.{word_of}
use Rattle.symbolic_terms.specs.Shown.{way_of}
use Rattle.symbolic_leaving.specs.Source.{types_at, linked_to, func_of}
use Rattle.symbolic_leaving.specs.Answers.{answers_at}
use Rattle.symbolic_leaving.specs.Shown.{left_in, waits_in}
use Rattle.symbolic_steps.proofs.Looks.{run_tree}
use Rattle.symbolic_steps.proofs.giving.give_to.Goals as goal

pub returns-in-Run-clause-is : goal.returns-in-Run-clause-is
returns-in-Run-clause-is c = rw c.in-Run.is (IfOk-weaker c.run.result _ _
    (λ o h m agrees. h m agrees ∙ sym (run_tree (linked_to c.args.source.now) (func_of c.args.source.now) (answers_at c.args.source.now c.args.answers)
    (waits_in c.args.source.now m c.args.rest) (way_of (types_at c.args.source.now) m c.in-Run.way) (tree_of c.args.source.now.bound.now c.in-Run.tree) (word_of m c.args.value)
    (left_in c.args.source.now m c.args.rest))) c.run.ensures.is)
