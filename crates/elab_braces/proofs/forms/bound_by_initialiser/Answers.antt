use Rattle.elab_expr.specs.cpp_lex.Tokens.{lexemes_of}
use Rattle.elab_expr.specs.cpp_types.Typ.{typ_of}
use Rattle.elab_expr.specs.elab_types.Syntax.{syntax_of, trees_at}
use Rattle.elab_braces.proofs.Initials.{bound_made, lower_within}
use Rattle.elab_braces.proofs.forms.bound_by_initialiser.Goals as goal

pub bound_by-requires : goal.bound_by-requires
bound_by-requires c = lower_within _ _ _ c.read_initialiser-form.ensures.lower c.requires.within

pub returns : goal.returns
returns c = bound_made (lexemes_of c.args.tokens.now) (typ_of c.args.ty.now)
    (trees_at (syntax_of c.args.nodes.now) c.args.ids.now) _ _ c.read_initialiser-form.ensures.is c.bound_by.ensures
