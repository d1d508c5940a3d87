use Rattle.std.proofs.Common.{◌+◌, Some, refl, ◌∙◌, ap}
use Rattle.cpp_ast.specs.declared.arena.At.{At}
use Rattle.cpp_ast.specs.declared.kinds.NodeKind.TheVariants.{Attribute}
use Rattle.cpp_syntax.specs.Derivations.{no_read, reads_node}
use Rattle.cpp_syntax.specs.View.{appended}
use Rattle.cpp_syntax.proofs.Readers.{leaves_same, reads_taken, reads_left_out}
use Rattle.cpp_parse_expr.proofs.ReaderAnswers.{always_err}
use Rattle.cpp_parse.proofs.SpecifierReaders.{attribute_read}
use Rattle.cpp_parse.proofs.specifiers.optional_attribute.Goals as goal

pub returns-in_default : goal.returns-in_default
returns-in_default c = reads_left_out (rw c.in_default.is at c.behind_attribute.ensures) c.requires.here refl

pub returns-in_err-leaf : goal.returns-in_err-leaf
returns-in_err-leaf c = always_err _ _ _ _ c.from_residual.result c.from_residual.ensures.0 (leaves_same c.in_err-leaf.ensures.memory)

pub returns : goal.returns
returns c =
    let x = rw c.in-Some.is at c.behind_attribute.ensures in
    reads_taken (attribute_read x (c.in_ok-leaf.ensures.added ∙ ap (λ (z : At). appended c.args.out.now
    (reads_node Attribute z (Some (c.args.at + 2)) no_read)) c.position.ensures.position)) refl
