use Rattle.std.proofs.Common.{refl, sym, ◌∙◌, arith, length, ◌≤◌, get_or}
use Rattle.cpp_syntax.proofs.DeclaredNames.{at_first, found_at, none_at, past}
use Rattle.cpp_syntax.proofs.arena.first_of_declarator.Goals as goal

pub returns-then-is_of_declarator-clause-first : goal.returns-then-is_of_declarator-clause-first
returns-then-is_of_declarator-clause-first c =
    λ trees s. found_at c.args.nodes.now c.args.ids.now c.loop-id.id-index (get_or c.args.ids.now c.loop-id.id-index (record { 0 = 0 }))
    (record { 0 = 0 }) trees c.loop-id-test.true refl (λ tree shows. sym c.if-is_of_declarator.true ∙ c.is_of_declarator.ensures tree shows)
    (c.loop-id.invariant trees s)

pub loop-id-preserved : goal.loop-id-preserved
loop-id-preserved c =
    λ trees s. past c.args.nodes.now c.args.ids.now c.loop-id.id-index (get_or c.args.ids.now c.loop-id.id-index (record { 0 = 0 }))
    (record { 0 = 0 }) trees c.loop-id-test.true refl (λ tree shows. sym c.if-is_of_declarator.false ∙ c.is_of_declarator.ensures tree shows)
    (c.loop-id.invariant trees s)

pub returns-clause-first : goal.returns-clause-first
returns-clause-first c =
    λ trees s. none_at c.args.nodes.now c.args.ids.now c.loop-id.id-index trees (let h = c.loop-id-test.false in omega (arith, h))
    (c.loop-id.invariant trees s)
