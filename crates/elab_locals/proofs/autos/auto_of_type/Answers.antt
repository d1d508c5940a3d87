use Rattle.std.proofs.Common.{◌≡◌, ◌∙◌, refl}
use Rattle.elab_scopes.specs.cpp_types.Typ.{typ_of}
use Rattle.elab_locals.proofs.Placed.{auto_made}
use Rattle.elab_locals.proofs.autos.auto_of_type.Goals as goal

pub returns : goal.returns
returns c = auto_made c.args.st.now _ _ c.args.o c.args.index
    (typ_of c.args.ty.now) c.args.at c.in_ok-init.init _ c.in_ok-init.ensures refl c.in_ok-made.ensures
