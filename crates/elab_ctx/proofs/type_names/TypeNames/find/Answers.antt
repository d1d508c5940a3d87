use Rattle.std.proofs.Common.{◌∙◌, ap, sym, map}
use Rattle.std.specs.Option.{option_map}
use Rattle.cpp_tree.specs.cpp_types.Typ.{typ_of}
use Rattle.elab_ctx.specs.Types.{named_of, type_called}
use Rattle.elab_ctx.proofs.TypeEntries.{called_is, found_is}
use Rattle.elab_ctx.proofs.type_names.TypeNames.find.Goals as goal

pub returns : goal.returns
returns c = found_is c.get.result (type_called c.args.name.now (map named_of c.args.self.now))
    (ap (λ names. type_called c.args.name.now (map named_of names)) (sym c.self.view_is) ∙ called_is c.args.name.now c.self.inside.names.entries
    ∙ ap (option_map typ_of) (sym c.get.ensures.value))
