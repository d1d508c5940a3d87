use Rattle.std.proofs.Common.{rules, ◌≡◌, ℕ, List, None, ◌∙◌}
use Rattle.std.proofs.lemmas.Map.Text.{hash_map_updates_str}
use Rattle.std.specs.HashMap.{get_by}
use Rattle.std.specs.Str.{bytes_eq}
use Rattle.cpp_syntax.proofs.TokenClasses.{noted}
use Rattle.cpp_syntax.proofs.classes.note_index.Goals as goal

pub returns-in_ok-insert : goal.returns-in_ok-insert
returns-in_ok-insert c = λ word.
    let name : List ℕ = c.args.name.now in
    let none : get_by (λ key. bytes_eq name key.now) c.args.indices.now ≡ None = search rules in
    hash_map_updates_str name c.args.indices.now c.insert.new.self _ c.in_ok-insert.ensures.updates word
    ∙ noted (λ (w : List ℕ). get_by (λ key. bytes_eq w key.now) c.args.indices.now) name word c.args.at none
