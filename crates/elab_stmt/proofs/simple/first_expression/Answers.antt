use Rattle.std.proofs.Common.{◌≡◌, ◌∙◌, Err, refl, sym, ap, rules}
use Rattle.elab_locals.specs.cpp_lex.Tokens.{lexemes_of}
use Rattle.elab_locals.specs.elab_types.Syntax.{syntax_of, tree_at, trees_at}
use Rattle.elab_locals.specs.elab_scopes.States.{state_of}
use Rattle.elab_locals.proofs.elab_scopes.Behind.{all_one}
use Rattle.elab_stmt.proofs.simple.first_expression.Goals as goal

pub returns : goal.returns
returns g c = all_one _ _ _ _ _ _ c.requires.out c.in_ok-made.ensures c.in_ok-keep.ensures
