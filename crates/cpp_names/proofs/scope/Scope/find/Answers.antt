use Rattle.std.proofs.Common.{sym, ◌∙◌, ap}
use Rattle.cpp_names.specs.Names.{entity_of}
use Rattle.cpp_names.proofs.Lookups.{entity_of-pairs}
use Rattle.cpp_names.proofs.scope.Scope.find.Goals as goal

pub returns : goal.returns
returns c =
    c.copied.ensures ∙ c.get.ensures.value ∙ sym (entity_of-pairs c.args.name.now c.self.inside.names.entries)
    ∙ ap (λ scope. entity_of scope c.args.name.now) c.self.view_is
