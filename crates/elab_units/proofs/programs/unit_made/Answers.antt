use Rattle.std.proofs.Common.{refl}
use Rattle.elab_entry.specs.cpp_lex.Tokens.{lexemes_of}
use Rattle.elab_entry.specs.elab_scopes.States.{state_of}
use Rattle.elab_entry.specs.elab_types.Syntax.{syntax_of}
use Rattle.elab_units.proofs.Elaborating.{kept_unit}
use Rattle.elab_units.proofs.programs.unit_made.Goals as goal

pub returns-clause-kept : goal.returns-clause-kept
returns-clause-kept c = record {
  unit = kept_unit (lexemes_of c.args.unit.now.tokens)
      (syntax_of c.args.whole.now.nodes) _ c.args.whole.now.decls.items c.args.st _ _ _ refl c.deref.ensures.value c.deref-2.ensures.value
      (c.in_ok-unit.ensures.shown (state_of c.args.st));
  classes = refl;
  slots = refl;
  traits = refl;
}
