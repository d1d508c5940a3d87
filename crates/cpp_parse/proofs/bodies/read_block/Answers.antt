use Rattle.std.proofs.Common.{◌-◌, ◌∙◌, List, None, subst, arith}
use Rattle.cpp_ast.specs.declared.arena.Node.{Node}
use Rattle.cpp_syntax.specs.Rules.{form, compound_statement}
use Rattle.cpp_parse_expr.specs.Parse.{IsFound}
use Rattle.cpp_parse_expr.proofs.ParseAnswers.{ends_inside}
use Rattle.cpp_parse.proofs.BodyReaders.{is_block, block_root, no_block, no_block_ends}
use Rattle.cpp_parse.proofs.bodies.read_block.Goals as goal

pub take_reading-requires : goal.take_reading-requires
take_reading-requires c =
    ends_inside c.args.types.now (form compound_statement) (c.args.body.from - 1) None c.over-out.result c.compound_statement-read.new.out
    c.compound_statement-read.result c.compound_statement-read.ensures

pub returns-in_default : goal.returns-in_default
returns-in_default c =
    let taken = c.in_ok-found.ensures (form compound_statement) c.over-out.result c.over-out.ensures.nothing c.compound_statement-read.ensures in
    no_block c.args.types.now c.args.body c.in_ok-found.field-0.token c.requires.behind (rw c.in_default.is at taken.0).0 taken.1

pub returns-then-next-body : goal.returns-then-next-body
returns-then-next-body c =
    let taken = c.in_ok-found.ensures (form compound_statement) c.over-out.result c.over-out.ensures.nothing c.compound_statement-read.ensures in
    let r = rw c.in-Some.is at taken.0 in
    no_block_ends c.args.types.now c.args.body c.in-Some.field-0.next c.in_ok-found.field-0.token r.got c.requires.behind r.long c.if-next-body.true taken.1

pub index-root-requires : goal.index-root-requires
index-root-requires c =
    let taken = c.in_ok-found.ensures (form compound_statement) c.over-out.result c.over-out.ensures.nothing c.compound_statement-read.ensures in
    let one = block_root c.args.types.now c.args.body _ _ _ _ _ (rw c.in-Some.is at taken.0) in
    let long = c.in-Some.field-0.roots.ok.0 in
    omega (arith, one, long)

pub returns : goal.returns
returns c =
    let taken = c.in_ok-found.ensures (form compound_statement) c.over-out.result c.over-out.ensures.nothing c.compound_statement-read.ensures in
    let r = subst (λ (old : List Node). IsFound c.args.types.now (form compound_statement) (c.args.body.from - 1) c.in-Some.field-0.next old
    c.take_reading.new.nodes c.in-Some.field-0.roots.items c.in-Some.field-0.bodies.items) (c.over-out.ensures.base ∙ c.replace.ensures.value)
    (rw c.in-Some.is at taken.0) in
    is_block _ _ _ _ _ _ _ r c.index-root.result.now c.if-next-body.false c.index-root.ensures
