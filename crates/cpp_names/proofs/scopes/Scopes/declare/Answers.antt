use Rattle.std.proofs.Common.{◌≡◌, ◌+◌, ◌-◌, sym, ◌∙◌, ap, length, rules}
use Rattle.std.proofs.lemmas.List.{length-reverse}
use Rattle.cpp_names.proofs.Lists.{declared_last}
use Rattle.cpp_names.proofs.scopes.Scopes.declare.Goals as goal

pub returns-clause-declared : goal.returns-clause-declared
returns-clause-declared c =
    let scopes = c.self.inside.scopes.items in
    let length_is : length c.args.self.now ≡ length scopes = ap length (sym c.self.view_is) ∙ length-reverse scopes in
    let last : c.len-at.result - 1 + 1 ≡ length scopes = search rules in
    declared_last scopes c.args.self.now (c.len-at.result - 1) c.index_mut-scope.result.now c.add.new.self c.args.name.now c.args.entity
    c.self.view_is last c.index_mut-scope.ensures.value (search rules)
