use Rattle.std.proofs.Common.{◌∙◌}
use Rattle.elab_conv.specs.cpp_types.Typ.{typ_of}
use Rattle.elab_conv.specs.cpp_types.Class.{classes_of}
use Rattle.elab_conv.specs.cpp_layout.Layout.{extent_of}
use Rattle.elab_conv.specs.elab_ctx.Ctx.{ctx_of}
use Rattle.elab_ops.proofs.Sizing.{whole_of, measured_within}
use Rattle.elab_ops.proofs.pointers.is_within_greatest.Goals as goal

pub measured-requires : goal.measured-requires
measured-requires c = whole_of (ctx_of c.args.env.now) (typ_of c.args.ty.now) c.requires

pub returns : goal.returns
returns c = c.is_some.ensures
    ∙ measured_within (extent_of (classes_of c.args.env.now.classes.items) (typ_of c.args.ty.now)) c.measured.result c.measured.ensures
