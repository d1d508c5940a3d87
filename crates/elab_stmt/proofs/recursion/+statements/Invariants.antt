-- Kids have lower ids; forms of one node call one another in this order.
use Rattle.std.proofs.Common.{◌≡◌, ◌+◌, ◌*◌, drop}
use Rattle.elab_locals.specs.cpp_lex.Tokens.{lexemes_of}
use Rattle.elab_locals.specs.elab_rules.Statements.{statements_of, handlers_of}
use Rattle.elab_locals.specs.elab_types.Syntax.{syntax_of, trees_at}
use Rattle.elab_locals.specs.elab_scopes.States.{state_of}
use Rattle.elab_locals.proofs.elab_scopes.Behind.{SoFar}
use Rattle.elab_stmt.proofs.recursion.+statements.Given as goal

abbrev pub decreases-statements : goal.decreases-statements
decreases-statements g l = l.parent.0 * 16 + 0

abbrev pub decreases-handlers : goal.decreases-handlers
decreases-handlers g l = l.parent.0 * 16 + 0

abbrev pub decreases-body : goal.decreases-body
decreases-body g l = l.id.0 * 16 + 1

abbrev pub decreases-switch_body : goal.decreases-switch_body
decreases-switch_body g l = l.id.0 * 16 + 1

abbrev pub decreases-try_handlers : goal.decreases-try_handlers
decreases-try_handlers g l = l.parent.0 * 16 + 1

abbrev pub decreases-handler : goal.decreases-handler
decreases-handler g l = l.id.0 * 16 + 5

abbrev pub decreases-if_both : goal.decreases-if_both
decreases-if_both g l = l.parent.0 * 16 + 0

abbrev pub decreases-if_short : goal.decreases-if_short
decreases-if_short g l = l.parent.0 * 16 + 1

abbrev pub decreases-if_long : goal.decreases-if_long
decreases-if_long g l = l.parent.0 * 16 + 1

abbrev pub decreases-for_all : goal.decreases-for_all
decreases-for_all g l = l.parent.0 * 16 + 1

abbrev pub decreases-compound : goal.decreases-compound
decreases-compound g l = l.id.0 * 16 + 2

abbrev pub decreases-guarded : goal.decreases-guarded
decreases-guarded g l = l.id.0 * 16 + 2

abbrev pub decreases-tried : goal.decreases-tried
decreases-tried g l = l.id.0 * 16 + 2

abbrev pub decreases-handler_body : goal.decreases-handler_body
decreases-handler_body g l = l.id.0 * 16 + 2

abbrev pub decreases-if_statement : goal.decreases-if_statement
decreases-if_statement g l = l.id.0 * 16 + 2

abbrev pub decreases-while_statement : goal.decreases-while_statement
decreases-while_statement g l = l.id.0 * 16 + 2

abbrev pub decreases-do_statement : goal.decreases-do_statement
decreases-do_statement g l = l.id.0 * 16 + 2

abbrev pub decreases-for_inside : goal.decreases-for_inside
decreases-for_inside g l = l.id.0 * 16 + 2

abbrev pub decreases-for_statement : goal.decreases-for_statement
decreases-for_statement g l = l.id.0 * 16 + 3

abbrev pub decreases-switch_statement : goal.decreases-switch_statement
decreases-switch_statement g l = l.id.0 * 16 + 2

abbrev pub decreases-synchronized_statement : goal.decreases-synchronized_statement
decreases-synchronized_statement g l = l.id.0 * 16 + 2

abbrev pub decreases-atomic_statement : goal.decreases-atomic_statement
decreases-atomic_statement g l = l.id.0 * 16 + 2

abbrev pub decreases-try_block : goal.decreases-try_block
decreases-try_block g l = l.id.0 * 16 + 2

abbrev pub decreases-handler_inside : goal.decreases-handler_inside
decreases-handler_inside g l = l.id.0 * 16 + 3

abbrev pub decreases-handler_scope : goal.decreases-handler_scope
decreases-handler_scope g l = l.id.0 * 16 + 4

abbrev pub decreases-case_statement : goal.decreases-case_statement
decreases-case_statement g l = l.id.0 * 16 + 2

abbrev pub decreases-default_statement : goal.decreases-default_statement
decreases-default_statement g l = l.id.0 * 16 + 2

abbrev pub decreases-single : goal.decreases-single
decreases-single g l = l.id.0 * 16 + 4

abbrev pub decreases-other_statement : goal.decreases-other_statement
decreases-other_statement g l = l.id.0 * 16 + 5

abbrev pub decreases-statement : goal.decreases-statement
decreases-statement g l = l.id.0 * 16 + 6

abbrev pub decreases-part : goal.decreases-part
decreases-part g l = l.id.0 * 16 + 7

abbrev pub decreases-inner_part : goal.decreases-inner_part
decreases-inner_part g l = l.id.0 * 16 + 8

abbrev pub decreases-loop_part : goal.decreases-loop_part
decreases-loop_part g l = l.id.0 * 16 + 8

abbrev pub decreases-if_alone : goal.decreases-if_alone
decreases-if_alone g l = l.id.0 * 16 + 9

abbrev pub decreases-if_other : goal.decreases-if_other
decreases-if_other g l = l.id.0 * 16 + 9

abbrev pub decreases-while_body : goal.decreases-while_body
decreases-while_body g l = l.id.0 * 16 + 9

abbrev pub decreases-for_body : goal.decreases-for_body
decreases-for_body g l = l.id.0 * 16 + 8

abbrev pub decreases-for_last : goal.decreases-for_last
decreases-for_last g l = l.id.0 * 16 + 9

abbrev pub decreases-for_stepped : goal.decreases-for_stepped
decreases-for_stepped g l = l.id.0 * 16 + 10

abbrev pub decreases-for_tested : goal.decreases-for_tested
decreases-for_tested g l = l.id.0 * 16 + 11

abbrev pub invariant-statements-loop-id : goal.invariant-statements-loop-id
invariant-statements-loop-id g l = SoFar l.fn.st l.st l.fn.out.items l.out.items
    (statements_of (g.L.MakeLambdas.lambdas l.lams) (lexemes_of l.tokens) (state_of l.st) (trees_at (syntax_of l.nodes) (drop l.id-index l.ids)))
    (statements_of (g.L.MakeLambdas.lambdas l.lams) (lexemes_of l.tokens) (state_of l.fn.st) (trees_at (syntax_of l.nodes) l.ids))

abbrev pub invariant-handlers-loop-i : goal.invariant-handlers-loop-i
invariant-handlers-loop-i g l = SoFar l.fn.st l.st l.fn.out.items l.out.items
    (handlers_of (g.L.MakeLambdas.lambdas l.lams) (lexemes_of l.tokens) (state_of l.st) (trees_at (syntax_of l.nodes) (drop l.i l.ids)))
    (handlers_of (g.L.MakeLambdas.lambdas l.lams) (lexemes_of l.tokens) (state_of l.fn.st) (trees_at (syntax_of l.nodes) l.ids))
