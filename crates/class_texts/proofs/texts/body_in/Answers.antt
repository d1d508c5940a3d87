use Rattle.std.proofs.Common.{◌∙◌, ◌-◌, ap, take, length}
use Rattle.elab_types.specs.Syntax.{syntax_of, trees_at}
use Rattle.elab_init.specs.elab_rules.Classes.{body_in}
use Rattle.class_texts.proofs.Bodies.{body_last}
use Rattle.class_texts.proofs.texts.body_in.Goals as goal

pub returns-in-Some-clause-body : goal.returns-in-Some-clause-body
returns-in-Some-clause-body c = ap (λ z. body_in (trees_at (syntax_of c.args.nodes.now) z)) c.in-Some.ensures.kid
    ∙ body_last (syntax_of c.args.nodes.now) (take (length c.args.kids.now - 1) c.args.kids.now) c.in-Some.id
