use Rattle.std.proofs.Common.{◌≡◌, ◌∙◌}
use Rattle.elab_scopes.specs.cpp_lex.Tokens.{lexemes_of}
use Rattle.elab_scopes.specs.cpp_types.Typ.{typ_of}
use Rattle.elab_braces.proofs.Initials.{lower_within}
use Rattle.elab_locals.proofs.Made.{form_does}
use Rattle.elab_locals.proofs.written.initialised.Goals as goal

pub by_written-requires-clause-form : goal.by_written-requires-clause-form
by_written-requires-clause-form g c = lower_within _ _ _ c.read_initialiser-form.ensures.lower c.requires.within

pub returns : goal.returns
returns g c = form_does (g.L.MakeLambdas.lambdas c.args.lams.now) (lexemes_of c.args.tokens.now) c.args.st.now _ _
    (typ_of c.args.ty.now) c.args.at _ _ _ c.read_initialiser-form.ensures.is c.by_written.ensures
