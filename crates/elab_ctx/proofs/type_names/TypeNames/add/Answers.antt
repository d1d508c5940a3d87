use Rattle.std.proofs.Common.{◌∙◌, ap, map}
use Rattle.cpp_tree.specs.cpp_types.Typ.{typ_of}
use Rattle.elab_ctx.specs.Types.{named_of, named_too}
use Rattle.elab_ctx.proofs.TypeEntries.{pairs_of, added_is}
use Rattle.elab_ctx.proofs.type_names.TypeNames.add.Goals as goal

pub returns : goal.returns
returns c = ap (λ entries. map named_of (pairs_of entries)) c.in_ok-_before.ensures.entries ∙ added_is c.self.inside.names.entries c.args.name c.args.ty
    ∙ ap (λ names. named_too (map named_of names) c.args.name.items (typ_of c.args.ty)) c.self.view_is
