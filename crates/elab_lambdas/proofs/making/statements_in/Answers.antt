use Rattle.elab_entry.specs.cpp_lex.Tokens.{lexemes_of}
use Rattle.elab_entry.specs.elab_types.Syntax.{syntax_of, tree_at}
use Rattle.elab_lambdas.proofs.Kept.{listed_in}
use Rattle.elab_lambdas.proofs.making.statements_in.Goals as goal

pub returns : goal.returns
returns c =
    let n = c.node_at-node.result.now in
    listed_in (lexemes_of c.args.tokens.now) c.args.st.now c.statements.new.st c.new-list.result.items c.statements.new.out
    (tree_at (syntax_of c.args.nodes.now) c.args.id) n.kind n.at n.token
    (syntax_of c.args.nodes.now) n.kids.items c.deref.result.now c.node_at-node.ensures.node c.deref.ensures.value c.new-list.ensures.items
    c.in_ok-statements.ensures
