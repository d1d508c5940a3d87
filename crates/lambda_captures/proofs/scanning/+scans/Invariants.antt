use Rattle.std.proofs.Common.{◌+◌, ◌*◌, drop}
use Rattle.elab_init.specs.cpp_lex.Tokens.{lexemes_of}
use Rattle.elab_init.specs.elab_ctx.Ctx.{ctx_of}
use Rattle.elab_init.specs.elab_rules.Lambdas.{scanned_all, scanned_apart}
use Rattle.elab_types.specs.Syntax.{syntax_of, trees_at}
use Rattle.lambda_captures.specs.Shown.{scan_of}
use Rattle.lambda_captures.proofs.Scans.{Scanning}
use Rattle.lambda_captures.proofs.scanning.+scans.Given as goal

abbrev pub decreases-scan_node : goal.decreases-scan_node
decreases-scan_node l = l.id.0 * 5 + 3

abbrev pub decreases-scan_part : goal.decreases-scan_part
decreases-scan_part l = l.id.0 * 5 + 4

abbrev pub decreases-scan_declarator : goal.decreases-scan_declarator
decreases-scan_declarator l = l.parent.0 * 5 + 2

abbrev pub decreases-scan_scope : goal.decreases-scan_scope
decreases-scan_scope l = l.parent.0 * 5 + 2

abbrev pub decreases-scan_all : goal.decreases-scan_all
decreases-scan_all l = l.parent.0 * 5 + 1

abbrev pub decreases-scan_apart : goal.decreases-scan_apart
decreases-scan_apart l = l.parent.0 * 5 + 1

abbrev pub invariant-scan_all-loop-id : goal.invariant-scan_all-loop-id
invariant-scan_all-loop-id l = Scanning l.fn.scan l.scan
    (scanned_all (lexemes_of l.tokens) (ctx_of l.env) (scan_of (lexemes_of l.tokens) l.scan) (trees_at (syntax_of l.nodes) (drop l.id-index l.ids)))
    (scanned_all (lexemes_of l.tokens) (ctx_of l.env) (scan_of (lexemes_of l.tokens) l.fn.scan) (trees_at (syntax_of l.nodes) l.ids))

abbrev pub invariant-scan_apart-loop-id : goal.invariant-scan_apart-loop-id
invariant-scan_apart-loop-id l = Scanning l.fn.scan l.scan
    (scanned_apart (lexemes_of l.tokens) (ctx_of l.env) (scan_of (lexemes_of l.tokens) l.scan) (trees_at (syntax_of l.nodes) (drop l.id-index l.ids)))
    (scanned_apart (lexemes_of l.tokens) (ctx_of l.env) (scan_of (lexemes_of l.tokens) l.fn.scan) (trees_at (syntax_of l.nodes) l.ids))
