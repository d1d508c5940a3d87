use Rattle.std.proofs.Common.{◌≡◌, ◌∙◌, refl, rules}
use Rattle.elab_scopes.specs.cpp_types.Typ.{typ_of}
use Rattle.elab_scopes.specs.States.{state_of}
use Rattle.elab_scopes.specs.cpp_types.declared.classes.At.{At}
use Rattle.elab_scopes.specs.cpp_tree.Trees.{Tree}
use Rattle.elab_scopes.specs.elab_ctx.Ctx.{ctx_of}
use Rattle.elab_locals.specs.Inits.{init_in}
use Rattle.elab_locals.proofs.Made.{init_made}
use Rattle.elab_locals.proofs.written.values_made.Goals as goal

pub returns : goal.returns
returns c = init_made c.args.st.now _ (state_of c.args.st.now) _ _ c.args.variable _ _ _ _ _
    (λ (z : At) (v e : Tree). init_in (ctx_of c.args.st.now.env)
    (typ_of c.args.ty.now) c.args.at z v e) c.requires.variable c.values_place-whole.ensures c.in_ok-init.ensures c.in_ok-made.ensures refl (search rules)
