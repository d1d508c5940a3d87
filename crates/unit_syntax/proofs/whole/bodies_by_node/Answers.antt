use Rattle.std.proofs.Common.{get_or}
use Rattle.std.proofs.lemmas.Option.{slice_get-get_or}
use Rattle.cpp_ast.specs.declared.units.LamBody.{LamBody}
use Rattle.unit_syntax.proofs.BodyTables.{none_or, table_empty, table_more}
use Rattle.unit_syntax.proofs.whole.bodies_by_node.Goals as goal

abbrev no_body : LamBody
no_body = record { lam = record { 0 = 0 }; body = record { 0 = 0 } }

pub bodies-init : goal.bodies-init
bodies-init c = table_empty c.args.count c.in_ok-table.table.items (c.in_ok-table.ensures.items_if_clones_equal (none_or _ (λ x e. e)))

pub bodies-preserved : goal.bodies-preserved
bodies-preserved c =
    table_more c.args.bodies.now c.bodies.body-index (get_or c.args.bodies.now c.bodies.body-index no_body) c.bodies.table.items c.note.new.table.items
    c.bodies-test.true (slice_get-get_or c.args.bodies.now c.bodies.body-index no_body c.bodies-test.true) c.bodies.invariant c.in_ok-note.ensures.first
    c.in_ok-note.ensures.noted
