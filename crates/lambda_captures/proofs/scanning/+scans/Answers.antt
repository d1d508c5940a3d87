use Rattle.elab_init.specs.cpp_lex.Tokens.{lexemes_of}
use Rattle.elab_init.specs.elab_ctx.Ctx.{ctx_of}
use Rattle.elab_types.specs.Syntax.{syntax_of, tree_at}
use Rattle.lambda_captures.proofs.Scans.{init_scanned, parameter_scanned}
use Rattle.lambda_captures.proofs.scanning.+scans.Goals as goal

pub scan_node-returns-in-InitDeclarator : goal.scan_node-returns-in-InitDeclarator
scan_node-returns-in-InitDeclarator t c =
    let n = c.node_at-node.result.now in
    init_scanned c.scan_declarator.result (lexemes_of c.args.tokens.now) (ctx_of c.args.env.now) c.args.scan.now c.scan_declarator.new.scan
    (tree_at (syntax_of c.args.nodes.now) c.args.id) n.kind n.at n.token (syntax_of c.args.nodes.now) n.kids.items c.deref-in-InitDeclarator.result.now
    c.node_at-node.ensures.node c.in-InitDeclarator.is c.deref-in-InitDeclarator.ensures.value c.scan_declarator.ensures

pub scan_node-returns-in_ok-scan_all-in-ParameterDeclaration : goal.scan_node-returns-in_ok-scan_all-in-ParameterDeclaration
scan_node-returns-in_ok-scan_all-in-ParameterDeclaration t c =
    let n = c.node_at-node.result.now in
    parameter_scanned c.declare.result (lexemes_of c.args.tokens.now)
    (ctx_of c.args.env.now) c.args.scan.now c.scan_all-in-ParameterDeclaration.new.scan c.declare.new.scan
    (tree_at (syntax_of c.args.nodes.now) c.args.id) n.kind n.at n.token c.name_among.result (syntax_of c.args.nodes.now) n.kids.items
    c.deref-in-ParameterDeclaration.result.now c.deref-in-ParameterDeclaration-2.result.now c.node_at-node.ensures.node c.in-ParameterDeclaration.is
    c.deref-in-ParameterDeclaration.ensures.value c.deref-in-ParameterDeclaration-2.ensures.value c.in_ok-scan_all-in-ParameterDeclaration.ensures
    c.name_among.ensures (c.declare.ensures (lexemes_of c.args.tokens.now))
