use Rattle.std.proofs.Common.{◌∙◌, List, None, subst, arith}
use Rattle.cpp_ast.specs.declared.arena.Node.{Node}
use Rattle.cpp_syntax.specs.Rules.{form, translation_unit}
use Rattle.cpp_parse_expr.specs.Parse.{IsFound}
use Rattle.cpp_parse_expr.proofs.ParseAnswers.{ends_inside}
use Rattle.cpp_parse.proofs.UnitRead.{are_declarations, ends_before, none_begins}
use Rattle.cpp_parse.proofs.parse.read_declarations.Goals as goal

pub take_reading-requires : goal.take_reading-requires
take_reading-requires c =
    ends_inside c.args.types.now (form translation_unit) 0 None c.over-out.result c.read_unit-read.new.out c.read_unit-read.result
    c.read_unit-read.ensures

pub returns-in_default : goal.returns-in_default
returns-in_default c =
    let taken = c.in_ok-found.ensures (form translation_unit) c.over-out.result c.over-out.ensures.nothing c.read_unit-read.ensures in
    none_begins c.args.types.now c.in_ok-found.field-0.token (rw c.in_default.is at taken.0).0 taken.1

pub returns-then-next-len : goal.returns-then-next-len
returns-then-next-len c =
    let taken = c.in_ok-found.ensures (form translation_unit) c.over-out.result c.over-out.ensures.nothing c.read_unit-read.ensures in
    let long = c.len.ensures.len in
    ends_before _ _ _ _ _ _ (rw c.in-Some.is at taken.0) c.in_ok-found.field-0.token (λ e. c.if-next-len.true (omega (arith, e, long))) taken.1

pub returns : goal.returns
returns c =
    let taken = c.in_ok-found.ensures (form translation_unit) c.over-out.result c.over-out.ensures.nothing c.read_unit-read.ensures in
    let r = subst (λ (old : List Node). IsFound c.args.types.now (form translation_unit) 0 c.in-Some.field-0.next old c.take_reading.new.nodes
    c.in-Some.field-0.roots.items c.in-Some.field-0.bodies.items) (c.over-out.ensures.base ∙ c.replace.ensures.value) (rw c.in-Some.is at taken.0) in
    are_declarations _ _ _ _ _ _ r (c.if-next-len.false ∙ c.len.ensures.len)
