use Rattle.std.proofs.Common.{[], List, refl, subst}
use Rattle.cpp_ast.specs.declared.arena.Node.{Node}
use Rattle.cpp_ast.specs.declared.units.LamBody.{LamBody}
use Rattle.cpp_ast.specs.Orders.{IsOrdered}
use Rattle.cpp_syntax.specs.declared.positions.OpenBody.{OpenBody}
use Rattle.cpp_parse.specs.Bodies.{AreRead, IsBroken}
use Rattle.cpp_parse.specs.Steps.{AreDeclarations}
use Rattle.cpp_parse.proofs.UnitRead.{whole_read, broken_unit}
use Rattle.cpp_parse.proofs.parse.read_whole.Goals as goal

pub returns-in-None : goal.returns-in-None
returns-in-None c =
    let declared : AreDeclarations c.args.types.now [] c.read_declarations.new.nodes c.in-Read.decls.items c.in-Read.bodies.items = subst
    (λ (old : List Node). AreDeclarations c.args.types.now old c.read_declarations.new.nodes c.in-Read.decls.items c.in-Read.bodies.items)
    c.new-nodes.ensures (rw c.in-Read.is at c.in_ok-decls.ensures) in
    let read : AreRead c.args.types.now c.in-Read.bodies.items c.read_declarations.new.nodes c.read_bodies.new.nodes [] c.read_bodies.new.noted.items =
    subst (λ (bs : List OpenBody). AreRead c.args.types.now bs c.read_declarations.new.nodes c.read_bodies.new.nodes []
    c.read_bodies.new.noted.items) c.deref.ensures.value (
    subst (λ (before : List LamBody). AreRead c.args.types.now c.deref.result.now c.read_declarations.new.nodes c.read_bodies.new.nodes before
    c.read_bodies.new.noted.items) c.new-noted.ensures.items (rw c.in-None.is at c.in_ok-read_bodies-in-Read.ensures)) in
    let ordered : IsOrdered c.read_bodies.new.nodes = subst (λ (ns : List Node). IsOrdered ns) c.nodes-in-Read.view_is c.nodes-in-Read.invariant in
    whole_read c.args.types.now c.read_declarations.new.nodes c.read_bodies.new.nodes c.in-Read.decls.items c.in-Read.bodies.items
    c.read_bodies.new.noted.items declared (record {
      nodes = c.read_bodies.new.nodes;
      decls = c.in-Read.decls;
      bodies = c.read_bodies.new.noted;
    }) refl refl refl read ordered

pub returns-in-Some : goal.returns-in-Some
returns-in-Some c =
    let declared : AreDeclarations c.args.types.now [] c.read_declarations.new.nodes c.in-Read.decls.items c.in-Read.bodies.items = subst
    (λ (old : List Node). AreDeclarations c.args.types.now old c.read_declarations.new.nodes c.in-Read.decls.items c.in-Read.bodies.items)
    c.new-nodes.ensures (rw c.in-Read.is at c.in_ok-decls.ensures) in
    let broken : IsBroken c.args.types.now c.in-Read.bodies.items c.in-Some.token = subst
    (λ (bs : List OpenBody). IsBroken c.args.types.now bs c.in-Some.token) c.deref.ensures.value
    (rw c.in-Some.is at c.in_ok-read_bodies-in-Read.ensures) in
    broken_unit c.args.types.now c.read_declarations.new.nodes c.read_bodies.new.nodes c.in-Read.decls.items c.in-Read.bodies.items
    c.read_bodies.new.noted.items declared c.in-Some.token broken
