use Rattle.cpp_syntax.specs.Names.{naming_of}
use Rattle.cpp_syntax.proofs.Readers.{leaves_same, leaves_both, leaves_read, reads_form, none_form, none_node, none_seq}
use Rattle.cpp_parse_expr.proofs.ReaderAnswers.{made_at_name, parsed_err}
use Rattle.cpp_parse.proofs.InitDeclarators.{initialised}
use Rattle.cpp_parse.proofs.initializers.init_declarator.Goals as goal

pub returns-in_default : goal.returns-in_default
returns-in_default c =
    let x = rw c.in_default.is at c.in_ok-behind.ensures in
    (x.0, none_form (none_node (none_seq x.1)))

pub returns-in_err-next : goal.returns-in_err-next
returns-in_err-next c =
    parsed_err _ _ _ _ c.from_residual-in_err-next.result c.from_residual-in_err-next.ensures.0
    (leaves_both (leaves_read (rw c.in-Some.is at c.in_ok-behind.ensures)) c.in_err-next.ensures)

pub returns-in_err-node_at_name : goal.returns-in_err-node_at_name
returns-in_err-node_at_name c =
    parsed_err _ _ _ _ c.from_residual-in_err-node_at_name.result c.from_residual-in_err-node_at_name.ensures.0
    (leaves_both (leaves_read (rw c.in-Some.is at c.in_ok-behind.ensures)) (leaves_both (leaves_read c.in_ok-next.ensures)
    (leaves_same c.in_err-node_at_name.ensures.memory)))

pub returns : goal.returns
returns c =
    let x = rw c.in-Some.is at c.in_ok-behind.ensures in
    let e = c.name_token-token.ensures _ x.got c.checkpoint-start.ensures x.gained in
    reads_form (made_at_name (initialised (naming_of c.args.naming) c.requires.named x c.in_ok-next.ensures e) c.checkpoint-start.ensures
    c.in_ok-node_at_name.ensures.read)
