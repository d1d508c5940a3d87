use Rattle.std.proofs.Common.{◌≡◌, sym, ◌∙◌, ap, None, [], ◌∷◌, ◌++◌}
use Rattle.indexmap.specs.IndexMap.{get}
use Rattle.indexmap.proofs.CallerLemmas.{insert_entry-new}
use Rattle.cpp_names.specs.Names.{entity_of}
use Rattle.cpp_names.proofs.Lookups.{same_name, pairs_of, entity_of-pairs, pairs_of-append}
use Rattle.cpp_names.proofs.scope.Scope.add.Goals as goal

pub returns-clause-added : goal.returns-clause-added
returns-clause-added c =
    let names = c.self.inside.names in
    let none : get same_name names c.args.name ≡ None = sym (entity_of-pairs c.args.name.items names.entries)
    ∙ ap (λ scope. entity_of scope c.args.name.items) c.self.view_is ∙ c.requires in
    ap pairs_of (c.in_ok-insert.ensures.entries ∙ insert_entry-new same_name names c.args.name c.args.entity none)
    ∙ pairs_of-append names.entries c.args.name c.args.entity
    ∙ ap (λ scope. scope ++ (c.args.name.items, c.args.entity) ∷ []) c.self.view_is
