use Rattle.std.proofs.Common.{◌≡◌, ◌<◌, ◌∙◌, ◌-◌, ◌+◌, arith, take, drop, length, Bool, true, List, [], Some, Result, Ok, Err, refl, sym, ap, rules}
use Rattle.elab_locals.specs.cpp_lex.Tokens.{lexemes_of}
use Rattle.elab_locals.specs.cpp_types.Typ.{typ_of}
use Rattle.elab_locals.specs.cpp_ast.Orders.{are_below}
use Rattle.elab_locals.specs.cpp_ast.Trees as syntax
use Rattle.elab_locals.specs.cpp_ast.Trees.{kind_of}
use Rattle.elab_locals.specs.cpp_tree.declared.faults.ElabFault.{ElabFault}
use Rattle.elab_locals.specs.cpp_tree.declared.faults.ElabFault.TheVariants.{Ill}
use Rattle.elab_locals.specs.cpp_tree.declared.faults.IllRule.TheVariants.{BadCatch, OutOfProfile}
use Rattle.elab_locals.specs.cpp_tree.declared.kinds.TKind.{TKind}
use Rattle.elab_locals.specs.cpp_tree.declared.kinds.TKind.TheVariants as forms
use Rattle.elab_locals.specs.cpp_tree.Trees.{Tree, Trees, one, more, three}
use Rattle.elab_locals.specs.cpp_tree.Arena.{tree_at as tree_in}
use Rattle.elab_locals.specs.elab_ctx.Ctx.{Ctx}
use Rattle.elab_locals.specs.elab_ctx.Steps.{and_then, check}
use Rattle.elab_locals.proofs.elab_ctx.Looks.{within_grown}
use Rattle.elab_locals.proofs.elab_ctx.Making.{faults_in, faults_same}
use Rattle.elab_locals.specs.elab_rules.Statements.{State, Done, Switched, done, statement, the_tree, joined, statement_of, statements_of, handlers_of}
use Rattle.elab_locals.specs.elab_types.Syntax.{syntax_of, tree_at, trees_at}
use Rattle.elab_locals.proofs.Declared.{kids_behind, faulted}
use Rattle.elab_locals.specs.elab_scopes.States.{state_of, made}
use Rattle.elab_locals.proofs.elab_scopes.Standing.{does_same}
use Rattle.elab_locals.proofs.elab_scopes.Choices.{does_fail}
use Rattle.elab_locals.proofs.elab_scopes.Behind.{all_one, all_after, so_far_more, so_far_fault, so_far_done}
use Rattle.elab_stmt.specs.Parts.{body_of, part_of, one_part, if_alone, if_both, while_body, do_test, for_inside_kids, for_loop, guarded, switch_body}
use Rattle.elab_stmt.specs.Parts.{try_handlers, handler_of, handler_inside}
use Rattle.elab_stmt.proofs.Forms.{back}
use Rattle.elab_stmt.proofs.Rows.{declaration_row, null_row, expression_row, if_short_row, if_long_row, while_row, do_row, switch_row, synchronized_row}
use Rattle.elab_stmt.proofs.Rows.{atomic_row, try_row, case_row, default_row, break_row, continue_row, return_row, compound_tree, for_tree, for_inside_row}
use Rattle.elab_stmt.proofs.Rows.{for_body_compound, for_body_part, handler_if_row, other_row, handlers_step}
use Rattle.elab_locals.proofs.elab_expr.Several.{trees_step, trees_past}
use Rattle.elab_stmt.proofs.Chains.{both_made, tested_made, stepped_made, inside_made}
use Rattle.elab_stmt.proofs.Scoped.{body_made, node_over}
use Rattle.elab_stmt.proofs.Steps.{as_lent, one_within, still_within, faults_then, all_fail, all_same, one_then, in_scope, scope_fails, node_three}
use Rattle.elab_stmt.proofs.Steps.{node_last_of, node_after_all, node_before_all, body_row, body_fails, part_row, part_made, guarded_row, switch_made}
use Rattle.elab_stmt.proofs.Steps.{switch_fails, switched_then, caught_then, handler_made, one_same, one_made}
use Rattle.elab_stmt.proofs.recursion.+statements.Goals as goal

pub statement-returns-in-SimpleDeclaration : goal.statement-returns-in-SimpleDeclaration
statement-returns-in-SimpleDeclaration g t c =
    all_same _ _ _ _ _ _ _ (declaration_row (g.L.MakeLambdas.lambdas c.args.lams.now) (lexemes_of c.args.tokens.now) (state_of c.args.st.now)
    (tree_at (syntax_of c.args.nodes.now) c.args.id) _ _ c.place-at.result _ _
    (trees_at (syntax_of c.args.nodes.now) c.deref.result.now) c.node_at-node.ensures.node
    (ap kind_of c.node_at-node.ensures.node ∙ c.in-SimpleDeclaration.is)
    (sym (ap (trees_at (syntax_of c.args.nodes.now)) c.deref.ensures.value)) c.place-at.ensures) c.block_declaration.ensures

pub other_statement-returns : goal.other_statement-returns
other_statement-returns g t c =
    all_one _ _ _ _ _ _ c.requires.out c.in_ok-made.ensures c.in_ok-keep.ensures

pub case_statement-returns : goal.case_statement-returns
case_statement-returns g t c =
    all_same _ _ _ _ _ _ _ (case_row (g.L.MakeLambdas.lambdas c.args.lams.now) (lexemes_of c.args.tokens.now) (state_of c.args.st.now)
    (tree_at (syntax_of c.args.nodes.now) c.args.id) _ _ c.place.result _ _ (tree_at (syntax_of c.args.nodes.now) c.in-Two.first)
    (tree_at (syntax_of c.args.nodes.now) c.in-Two.second) c.node_at-node.ensures.node c.requires.kind
    (ap (trees_at (syntax_of c.args.nodes.now)) (sym c.deref.ensures.value) ∙ c.in-Two.ensures.trees (syntax_of c.args.nodes.now)) c.place.ensures)
    (all_after c.args.st.now _ _ _ _ _ _ _ _ (λ (z : State). statement_of (g.L.MakeLambdas.lambdas c.args.lams.now) (lexemes_of c.args.tokens.now) z
    (tree_at (syntax_of c.args.nodes.now) c.in-Two.second)) c.requires.out c.in_ok-label.ensures c.in_ok-keep.ensures c.statement.ensures)

pub case_statement-returns-in_err-label : goal.case_statement-returns-in_err-label
case_statement-returns-in_err-label g t c =
    let is_error : c.from_residual.result ≡ Err c.in_err-label.field-0.0 = search rules in
    all_fail _ _ _ _ _ _ _ is_error (faults_then _ _ (λ (d : Done). and_then
    (statement_of (g.L.MakeLambdas.lambdas c.args.lams.now) (lexemes_of c.args.tokens.now) d.state (tree_at (syntax_of c.args.nodes.now) c.in-Two.second))
    (λ (w : Done). Ok (joined d w))) _ (case_row (g.L.MakeLambdas.lambdas c.args.lams.now) (lexemes_of c.args.tokens.now) (state_of c.args.st.now)
    (tree_at (syntax_of c.args.nodes.now) c.args.id) _ _ c.place.result _ _ (tree_at (syntax_of c.args.nodes.now) c.in-Two.first)
    (tree_at (syntax_of c.args.nodes.now) c.in-Two.second) c.node_at-node.ensures.node c.requires.kind
    (ap (trees_at (syntax_of c.args.nodes.now)) (sym c.deref.ensures.value)
    ∙ c.in-Two.ensures.trees (syntax_of c.args.nodes.now)) c.place.ensures) c.in_err-label.ensures)

pub default_statement-returns : goal.default_statement-returns
default_statement-returns g t c =
    all_same _ _ _ _ _ _ _ (default_row (g.L.MakeLambdas.lambdas c.args.lams.now) (lexemes_of c.args.tokens.now) (state_of c.args.st.now)
    (tree_at (syntax_of c.args.nodes.now) c.args.id) _ _ c.place.result _ _
    (tree_at (syntax_of c.args.nodes.now) c.in-One.kid) c.node_at-node.ensures.node c.requires.kind
    (ap (trees_at (syntax_of c.args.nodes.now)) (sym c.deref.ensures.value) ∙ c.in-One.ensures.trees (syntax_of c.args.nodes.now)) c.place.ensures)
    (all_after c.args.st.now _ _ _ _ _ _ _ _ (λ (z : State). statement_of (g.L.MakeLambdas.lambdas c.args.lams.now) (lexemes_of c.args.tokens.now) z
    (tree_at (syntax_of c.args.nodes.now) c.in-One.kid)) c.requires.out c.in_ok-label.ensures c.in_ok-keep.ensures c.statement.ensures)

pub default_statement-returns-in_err-label : goal.default_statement-returns-in_err-label
default_statement-returns-in_err-label g t c =
    let is_error : c.from_residual.result ≡ Err c.in_err-label.field-0.0 = search rules in
    all_fail _ _ _ _ _ _ _ is_error (faults_then _ _ (λ (d : Done). and_then
    (statement_of (g.L.MakeLambdas.lambdas c.args.lams.now) (lexemes_of c.args.tokens.now) d.state (tree_at (syntax_of c.args.nodes.now) c.in-One.kid))
    (λ (w : Done). Ok (joined d w))) _ (default_row (g.L.MakeLambdas.lambdas c.args.lams.now) (lexemes_of c.args.tokens.now) (state_of c.args.st.now)
    (tree_at (syntax_of c.args.nodes.now) c.args.id) _ _ c.place.result _ _
    (tree_at (syntax_of c.args.nodes.now) c.in-One.kid) c.node_at-node.ensures.node c.requires.kind
    (ap (trees_at (syntax_of c.args.nodes.now)) (sym c.deref.ensures.value)
    ∙ c.in-One.ensures.trees (syntax_of c.args.nodes.now)) c.place.ensures) c.in_err-label.ensures)

pub single-returns-in_ok-made-in-NullStatement : goal.single-returns-in_ok-made-in-NullStatement
single-returns-in_ok-made-in-NullStatement g t c =
    one_same _ _ _ _ _ (null_row (g.L.MakeLambdas.lambdas c.args.lams.now) (lexemes_of c.args.tokens.now) (state_of c.args.st.now)
    (tree_at (syntax_of c.args.nodes.now) c.args.id) _ _ c.place-at.result _ _ c.node_at-node.ensures.node
    (ap kind_of c.node_at-node.ensures.node ∙ c.in-NullStatement.is) refl c.place-at.ensures) (one_made _ _ _ _ c.in_ok-made-in-NullStatement.ensures refl)

pub single-returns-in-One : goal.single-returns-in-One
single-returns-in-One g t c =
    does_same _ _ _ _ _ (expression_row (g.L.MakeLambdas.lambdas c.args.lams.now) (lexemes_of c.args.tokens.now) (state_of c.args.st.now)
    (tree_at (syntax_of c.args.nodes.now) c.args.id) _ _ c.place-at.result _ _
    (tree_at (syntax_of c.args.nodes.now) c.in-One.kid) c.node_at-node.ensures.node (ap kind_of c.node_at-node.ensures.node ∙ c.in-ExpressionStatement.is)
    (ap (trees_at (syntax_of c.args.nodes.now)) (sym c.deref.ensures.value)
    ∙ c.in-One.ensures.trees (syntax_of c.args.nodes.now)) c.place-at.ensures) c.expression_statement.ensures

pub single-returns-in-BreakStatement : goal.single-returns-in-BreakStatement
single-returns-in-BreakStatement g t c =
    does_same _ _ _ _ _ (break_row (g.L.MakeLambdas.lambdas c.args.lams.now) (lexemes_of c.args.tokens.now) (state_of c.args.st.now)
    (tree_at (syntax_of c.args.nodes.now) c.args.id) _ _ c.place-at.result _ _ c.node_at-node.ensures.node
    (ap kind_of c.node_at-node.ensures.node ∙ c.in-BreakStatement.is) refl c.place-at.ensures) c.jump.ensures

pub single-returns-in-ContinueStatement : goal.single-returns-in-ContinueStatement
single-returns-in-ContinueStatement g t c =
    does_same _ _ _ _ _ (continue_row (g.L.MakeLambdas.lambdas c.args.lams.now) (lexemes_of c.args.tokens.now) (state_of c.args.st.now)
    (tree_at (syntax_of c.args.nodes.now) c.args.id) _ _ c.place-at.result _ _ c.node_at-node.ensures.node
    (ap kind_of c.node_at-node.ensures.node ∙ c.in-ContinueStatement.is) refl c.place-at.ensures) c.jump-in-ContinueStatement.ensures

pub single-returns-in-ReturnStatement : goal.single-returns-in-ReturnStatement
single-returns-in-ReturnStatement g t c =
    does_same _ _ _ _ _ (return_row (g.L.MakeLambdas.lambdas c.args.lams.now) (lexemes_of c.args.tokens.now) (state_of c.args.st.now)
    (tree_at (syntax_of c.args.nodes.now) c.args.id) _ _ c.place-at.result _ _
    (trees_at (syntax_of c.args.nodes.now) c.deref-in-ReturnStatement.result.now) c.node_at-node.ensures.node
    (ap kind_of c.node_at-node.ensures.node ∙ c.in-ReturnStatement.is)
    (sym (ap (trees_at (syntax_of c.args.nodes.now)) c.deref-in-ReturnStatement.ensures.value)) c.place-at.ensures) c.returned.ensures

pub single-returns-in_default : goal.single-returns-in_default
single-returns-in_default g t c =
    faulted _ (Ill c.place-at.result OutOfProfile) _ c.ill.ensures
    (other_row (g.L.MakeLambdas.lambdas c.args.lams.now) (lexemes_of c.args.tokens.now) (state_of c.args.st.now)
    (tree_at (syntax_of c.args.nodes.now) c.args.id) _ _ c.place-at.result _ _ c.node_at-node.ensures.node c.requires.single c.place-at.ensures
    c.in_default.not-CompoundStatement c.in_default.not-NullStatement c.in_default.not-ExpressionStatement c.in_default.not-IfStatement
    c.in_default.not-WhileStatement c.in_default.not-DoStatement c.in_default.not-ForStatement c.in_default.not-SwitchStatement
    c.in_default.not-BreakStatement c.in_default.not-ContinueStatement c.in_default.not-ReturnStatement c.in_default.not-TryBlock
    c.in_default.not-SynchronizedStatement c.in_default.not-AtomicStatement)

pub body-returns : goal.body-returns
body-returns g t c =
    let empty : c.new-list.result.items ≡ [] = search rules in
    one_same _ _ _ _ _ (body_row (g.L.MakeLambdas.lambdas c.args.lams.now) (lexemes_of c.args.tokens.now) (state_of c.args.st.now)
    (tree_at (syntax_of c.args.nodes.now) c.args.id) _ _ c.place.result _ _
    (trees_at (syntax_of c.args.nodes.now) c.deref.result.now) c.node_at-node.ensures.node
    (ap (trees_at (syntax_of c.args.nodes.now)) c.deref.ensures.value) c.place.ensures)
    (body_made _ _ _ _ _ _ _ _ empty c.in_ok-statements.ensures c.in_ok-made.ensures refl)

pub body-returns-in_err-statements : goal.body-returns-in_err-statements
body-returns-in_err-statements g t c =
    let is_error : c.from_residual.result ≡ Err c.in_err-statements.field-0.0 = search rules in
    does_fail _ _ _ _ _ is_error (body_fails (g.L.MakeLambdas.lambdas c.args.lams.now) (lexemes_of c.args.tokens.now) (state_of c.args.st.now)
    (tree_at (syntax_of c.args.nodes.now) c.args.id) _ _ _ _ (trees_at (syntax_of c.args.nodes.now) c.deref.result.now) _ c.node_at-node.ensures.node
    (ap (trees_at (syntax_of c.args.nodes.now)) c.deref.ensures.value) c.in_err-statements.ensures)

pub compound-returns : goal.compound-returns
compound-returns g t c =
    one_same _ _ _ _ _ (compound_tree (g.L.MakeLambdas.lambdas c.args.lams.now) (lexemes_of c.args.tokens.now) (state_of c.args.st.now)
    (tree_at (syntax_of c.args.nodes.now) c.args.id) c.requires.kind)
    (in_scope c.args.st.now _ _ _ _ _ _ (λ (z : State). body_of (g.L.MakeLambdas.lambdas c.args.lams.now) (lexemes_of c.args.tokens.now) z
    (tree_at
    (syntax_of c.args.nodes.now) c.args.id)) refl refl c.in_ok-enter.ensures refl c.in_ok-made.ensures c.mark_here-mark.ensures c.leave.ensures refl refl)

pub compound-returns-in_err-made : goal.compound-returns-in_err-made
compound-returns-in_err-made g t c =
    let is_error : c.from_residual-in_err-made.result ≡ Err c.in_err-made.field-0.0 = search rules in
    does_fail _ _ _ _ _ is_error (faults_same _ _ _ (compound_tree (g.L.MakeLambdas.lambdas c.args.lams.now) (lexemes_of c.args.tokens.now)
    (state_of c.args.st.now) (tree_at (syntax_of c.args.nodes.now) c.args.id) c.requires.kind)
    (scope_fails c.args.st.now (record c.args.st.now { env = c.enter.new.env }) _
    (λ (z : State). body_of (g.L.MakeLambdas.lambdas c.args.lams.now) (lexemes_of c.args.tokens.now) z
    (tree_at (syntax_of c.args.nodes.now) c.args.id)) _ back refl c.in_ok-enter.ensures c.in_err-made.ensures))

pub inner_part-returns : goal.inner_part-returns
inner_part-returns g t c =
    in_scope c.args.st.now _ _ _ _ _ _ (λ (z : State). part_of (g.L.MakeLambdas.lambdas c.args.lams.now) (lexemes_of c.args.tokens.now) z c.args.at
    (tree_at
    (syntax_of c.args.nodes.now) c.args.id)) refl refl c.in_ok-enter.ensures refl c.in_ok-made.ensures c.mark_here-mark.ensures c.leave.ensures refl refl

pub inner_part-returns-in_err-made : goal.inner_part-returns-in_err-made
inner_part-returns-in_err-made g t c =
    let is_error : c.from_residual-in_err-made.result ≡ Err c.in_err-made.field-0.0 = search rules in
    does_fail _ _ _ _ _ is_error (scope_fails c.args.st.now (record c.args.st.now { env = c.enter.new.env }) _
    (λ (z : State). part_of (g.L.MakeLambdas.lambdas c.args.lams.now) (lexemes_of c.args.tokens.now) z c.args.at
    (tree_at (syntax_of c.args.nodes.now) c.args.id)) _ back refl c.in_ok-enter.ensures c.in_err-made.ensures)

pub loop_part-returns : goal.loop_part-returns
loop_part-returns g t c =
    in_scope c.args.st.now _ _ _ _ _ _ (λ (z : State). part_of (g.L.MakeLambdas.lambdas c.args.lams.now) (lexemes_of c.args.tokens.now) z c.args.at
    (tree_at (syntax_of c.args.nodes.now) c.args.id)) refl refl c.in_ok-enter_loop.ensures refl c.in_ok-made.ensures c.mark_here-mark.ensures
    c.leave.ensures refl refl

pub loop_part-returns-in_err-made : goal.loop_part-returns-in_err-made
loop_part-returns-in_err-made g t c =
    let is_error : c.from_residual-in_err-made.result ≡ Err c.in_err-made.field-0.0 = search rules in
    does_fail _ _ _ _ _ is_error (scope_fails c.args.st.now (record c.args.st.now { env = c.enter_loop.new.env }) _
    (λ (z : State). part_of (g.L.MakeLambdas.lambdas c.args.lams.now) (lexemes_of c.args.tokens.now) z c.args.at
    (tree_at (syntax_of c.args.nodes.now) c.args.id)) _ back refl c.in_ok-enter_loop.ensures c.in_err-made.ensures)

pub tried-returns : goal.tried-returns
tried-returns g t c =
    in_scope c.args.st.now _ _ _ _ _ _ (λ (z : State). body_of (g.L.MakeLambdas.lambdas c.args.lams.now) (lexemes_of c.args.tokens.now) z
    (tree_at
    (syntax_of c.args.nodes.now) c.args.id)) refl refl c.in_ok-enter.ensures refl c.in_ok-made.ensures c.mark_here-mark.ensures c.leave.ensures refl refl

pub tried-returns-in_err-made : goal.tried-returns-in_err-made
tried-returns-in_err-made g t c =
    let is_error : c.from_residual-in_err-made.result ≡ Err c.in_err-made.field-0.0 = search rules in
    does_fail _ _ _ _ _ is_error (scope_fails c.args.st.now (record c.args.st.now { env = c.enter.new.env }) _
    (λ (z : State). body_of (g.L.MakeLambdas.lambdas c.args.lams.now) (lexemes_of c.args.tokens.now) z
    (tree_at (syntax_of c.args.nodes.now) c.args.id)) _ back refl c.in_ok-enter.ensures c.in_err-made.ensures)

pub for_statement-returns : goal.for_statement-returns
for_statement-returns g t c =
    one_same _ _ _ _ _ (for_tree (g.L.MakeLambdas.lambdas c.args.lams.now) (lexemes_of c.args.tokens.now) (state_of c.args.st.now)
    (tree_at (syntax_of c.args.nodes.now) c.args.id) c.requires.kind)
    (in_scope c.args.st.now _ _ _ _ _ _ (λ (z : State). for_inside_kids (g.L.MakeLambdas.lambdas c.args.lams.now) (lexemes_of c.args.tokens.now) z
    (tree_at (syntax_of c.args.nodes.now) c.args.id)) refl refl c.in_ok-enter_loop.ensures refl c.in_ok-made.ensures c.mark_here-mark.ensures
    c.leave.ensures refl refl)

pub for_statement-returns-in_err-made : goal.for_statement-returns-in_err-made
for_statement-returns-in_err-made g t c =
    let is_error : c.from_residual-in_err-made.result ≡ Err c.in_err-made.field-0.0 = search rules in
    does_fail _ _ _ _ _ is_error (faults_same _ _ _ (for_tree (g.L.MakeLambdas.lambdas c.args.lams.now) (lexemes_of c.args.tokens.now) (state_of c.args.st.now)
    (tree_at (syntax_of c.args.nodes.now) c.args.id) c.requires.kind)
    (scope_fails c.args.st.now (record c.args.st.now { env = c.enter_loop.new.env }) _
    (λ (z : State). for_inside_kids (g.L.MakeLambdas.lambdas c.args.lams.now) (lexemes_of c.args.tokens.now) z
    (tree_at (syntax_of c.args.nodes.now) c.args.id)) _ back refl c.in_ok-enter_loop.ensures c.in_err-made.ensures))

pub handler_scope-returns : goal.handler_scope-returns
handler_scope-returns g t c =
    in_scope c.args.st.now _ _ _ _ _ _ (λ (z : State). handler_inside (g.L.MakeLambdas.lambdas c.args.lams.now) (lexemes_of c.args.tokens.now) z c.args.at
    (tree_at (syntax_of c.args.nodes.now) c.args.caught)
    (tree_at
    (syntax_of c.args.nodes.now) c.args.id)) refl refl c.in_ok-enter.ensures refl c.in_ok-made.ensures c.mark_here-mark.ensures c.leave.ensures refl refl

pub handler_scope-returns-in_err-made : goal.handler_scope-returns-in_err-made
handler_scope-returns-in_err-made g t c =
    let is_error : c.from_residual-in_err-made.result ≡ Err c.in_err-made.field-0.0 = search rules in
    does_fail _ _ _ _ _ is_error (scope_fails c.args.st.now (record c.args.st.now { env = c.enter.new.env }) _
    (λ (z : State). handler_inside (g.L.MakeLambdas.lambdas c.args.lams.now) (lexemes_of c.args.tokens.now) z c.args.at
    (tree_at (syntax_of c.args.nodes.now) c.args.caught)
    (tree_at (syntax_of c.args.nodes.now) c.args.id)) _ back refl c.in_ok-enter.ensures c.in_err-made.ensures)

pub guarded-returns : goal.guarded-returns
guarded-returns g t c =
    one_same _ _ _ _ _ (guarded_row (g.L.MakeLambdas.lambdas c.args.lams.now) (lexemes_of c.args.tokens.now) (state_of c.args.st.now) c.args.at c.args.kind
    (tree_at (syntax_of c.args.nodes.now) c.args.id))
    (node_over c.args.st.now (record c.body.new.st { env = c.leave.new.env }) _ c.in_ok-inside.inside _ _ c.args.at
    (λ (z : Tree). statement c.args.kind c.args.at (one z))
    (in_scope c.args.st.now (record c.args.st.now { env = c.enter_block.new.env }) c.body.new.st
    (record c.body.new.st { env = c.leave.new.env }) _ c.in_ok-inside.inside _
    (λ (z : State). body_of (g.L.MakeLambdas.lambdas c.args.lams.now) (lexemes_of c.args.tokens.now) z (tree_at (syntax_of c.args.nodes.now) c.args.id))
    refl refl c.in_ok-enter_block.ensures refl c.in_ok-inside.ensures c.mark_here-mark.ensures c.leave.ensures refl refl) c.in_ok-made.ensures refl)

pub guarded-returns-in_err-inside : goal.guarded-returns-in_err-inside
guarded-returns-in_err-inside g t c =
    let is_error : c.from_residual-in_err-inside.result ≡ Err c.in_err-inside.field-0.0 = search rules in
    does_fail _ _ _ _ _ is_error (faults_same _ _ _ (guarded_row (g.L.MakeLambdas.lambdas c.args.lams.now) (lexemes_of c.args.tokens.now)
    (state_of c.args.st.now) c.args.at c.args.kind (tree_at (syntax_of c.args.nodes.now) c.args.id))
    (faults_in (λ (z : Result Done ElabFault). and_then z
    (λ (d : Done). done (one (statement c.args.kind c.args.at (one (the_tree c.args.at d.trees)))) d.state)) _ _ (λ d. refl)
    (scope_fails c.args.st.now (record c.args.st.now { env = c.enter_block.new.env }) _
    (λ (z : State). body_of (g.L.MakeLambdas.lambdas c.args.lams.now) (lexemes_of c.args.tokens.now) z
    (tree_at (syntax_of c.args.nodes.now) c.args.id)) _ back refl c.in_ok-enter_block.ensures c.in_err-inside.ensures)))

pub part-returns : goal.part-returns
part-returns g t c =
    let empty : c.new-list.result.items ≡ [] = search rules in
    part_made (g.L.MakeLambdas.lambdas c.args.lams.now) (lexemes_of c.args.tokens.now) c.args.st.now _ _ _ _ _ c.args.at
    (tree_at (syntax_of c.args.nodes.now) c.args.id) empty c.in_ok-statement.ensures c.in_ok-made.ensures

pub part-returns-in_err-statement : goal.part-returns-in_err-statement
part-returns-in_err-statement g t c =
    let is_error : c.from_residual.result ≡ Err c.in_err-statement.field-0.0 = search rules in
    does_fail _ _ _ _ _ is_error (faults_then _ _ (one_part (lexemes_of c.args.tokens.now) c.args.at (tree_at (syntax_of c.args.nodes.now) c.args.id)) _
    (part_row (g.L.MakeLambdas.lambdas c.args.lams.now) (lexemes_of c.args.tokens.now) (state_of c.args.st.now) c.args.at
    (tree_at (syntax_of c.args.nodes.now) c.args.id)) c.in_err-statement.ensures)

pub if_statement-returns-in-Two : goal.if_statement-returns-in-Two
if_statement-returns-in-Two g t c =
    does_same _ _ _ _ _ (if_short_row (g.L.MakeLambdas.lambdas c.args.lams.now) (lexemes_of c.args.tokens.now) (state_of c.args.st.now)
    (tree_at (syntax_of c.args.nodes.now) c.args.id) _ _ c.place-at.result _ _ (tree_at (syntax_of c.args.nodes.now) c.in-Two.first)
    (tree_at (syntax_of c.args.nodes.now) c.in-Two.second) c.node_at-node.ensures.node c.requires.kind
    (ap (trees_at (syntax_of c.args.nodes.now)) (sym c.deref.ensures.value)
    ∙ c.in-Two.ensures.trees (syntax_of c.args.nodes.now)) c.place-at.ensures) c.if_short.ensures

pub if_statement-returns-in-Three : goal.if_statement-returns-in-Three
if_statement-returns-in-Three g t c =
    does_same _ _ _ _ _ (if_long_row (g.L.MakeLambdas.lambdas c.args.lams.now) (lexemes_of c.args.tokens.now) (state_of c.args.st.now)
    (tree_at (syntax_of c.args.nodes.now) c.args.id) _ _ c.place-at.result _ _ (tree_at (syntax_of c.args.nodes.now) c.in-Three.first)
    (tree_at (syntax_of c.args.nodes.now) c.in-Three.second)
    (tree_at (syntax_of c.args.nodes.now) c.in-Three.third) c.node_at-node.ensures.node c.requires.kind
    (ap (trees_at (syntax_of c.args.nodes.now)) (sym c.deref.ensures.value)
    ∙ c.in-Three.ensures.trees (syntax_of c.args.nodes.now)) c.place-at.ensures) c.if_long.ensures

pub if_short-returns : goal.if_short-returns
if_short-returns g t c =
    one_then c.args.st.now _ _ c.in_ok-test.test c.args.at _ _
    (λ (z : Tree) (u : State). if_alone (g.L.MakeLambdas.lambdas c.args.lams.now) (lexemes_of c.args.tokens.now) u c.args.at z
    (tree_at (syntax_of c.args.nodes.now) c.args.second)) c.in_ok-test.ensures c.if_alone.ensures

pub if_long-returns : goal.if_long-returns
if_long-returns g t c =
    one_then c.args.st.now _ _ c.in_ok-test.test c.args.at _ _
    (λ (z : Tree) (u : State). if_both (g.L.MakeLambdas.lambdas c.args.lams.now) (lexemes_of c.args.tokens.now) u c.args.at z
    (tree_at (syntax_of c.args.nodes.now) c.args.second) (tree_at (syntax_of c.args.nodes.now) c.args.third)) c.in_ok-test.ensures c.if_both.ensures

pub if_alone-returns : goal.if_alone-returns
if_alone-returns g t c =
    node_three c.args.st.now _ _ _ c.args.test c.in_ok-chosen.chosen c.in_ok-other.other _ c.args.at _
    (λ (u v w : Tree). statement forms.Conditional c.args.at
    (three u v w)) _ c.requires.test c.in_ok-chosen.ensures c.in_ok-other.ensures c.in_ok-made.ensures refl

pub if_both-returns : goal.if_both-returns
if_both-returns g t c =
    both_made (g.L.MakeLambdas.lambdas c.args.lams.now) (lexemes_of c.args.tokens.now) c.args.st.now _ _ c.args.at c.args.test c.in_ok-chosen.chosen _
    (tree_at (syntax_of c.args.nodes.now) c.args.first)
    (tree_at (syntax_of c.args.nodes.now) c.args.second) c.requires.test c.in_ok-chosen.ensures c.if_other.ensures

pub if_other-returns : goal.if_other-returns
if_other-returns g t c =
    node_last_of c.args.st.now _ _ c.args.test c.args.chosen c.in_ok-other.other _ c.args.at _
    (λ (u v w : Tree). statement forms.Conditional c.args.at
    (three u v w)) c.requires.test c.requires.chosen c.in_ok-other.ensures c.in_ok-made.ensures refl

pub while_statement-returns : goal.while_statement-returns
while_statement-returns g t c =
    does_same _ _ _ _ _ (while_row (g.L.MakeLambdas.lambdas c.args.lams.now) (lexemes_of c.args.tokens.now) (state_of c.args.st.now)
    (tree_at (syntax_of c.args.nodes.now) c.args.id) _ _ c.place-at.result _ _ (tree_at (syntax_of c.args.nodes.now) c.in-Two.first)
    (tree_at (syntax_of c.args.nodes.now) c.in-Two.second) c.node_at-node.ensures.node c.requires.kind
    (ap (trees_at (syntax_of c.args.nodes.now)) (sym c.deref.ensures.value) ∙ c.in-Two.ensures.trees (syntax_of c.args.nodes.now)) c.place-at.ensures)
    (one_then c.args.st.now _ _ c.in_ok-test.test c.place-at.result _ _
    (λ (z : Tree) (u : State). while_body (g.L.MakeLambdas.lambdas c.args.lams.now) (lexemes_of c.args.tokens.now) u c.place-at.result z
    (tree_at (syntax_of c.args.nodes.now) c.in-Two.second)) c.in_ok-test.ensures c.while_body.ensures)

pub while_statement-returns-in_err-test : goal.while_statement-returns-in_err-test
while_statement-returns-in_err-test g t c =
    let is_error : c.from_residual.result ≡ Err c.in_err-test.field-0.0 = search rules in
    does_fail _ _ _ _ _ is_error (faults_then _ _ (λ (d : Done). while_body (g.L.MakeLambdas.lambdas c.args.lams.now)
    (lexemes_of c.args.tokens.now) d.state c.place-at.result (the_tree c.place-at.result d.trees) (tree_at (syntax_of c.args.nodes.now) c.in-Two.second)) _
    (while_row (g.L.MakeLambdas.lambdas c.args.lams.now) (lexemes_of c.args.tokens.now) (state_of c.args.st.now)
    (tree_at (syntax_of c.args.nodes.now) c.args.id) _ _ c.place-at.result _ _ (tree_at (syntax_of c.args.nodes.now) c.in-Two.first)
    (tree_at (syntax_of c.args.nodes.now) c.in-Two.second) c.node_at-node.ensures.node c.requires.kind
    (ap (trees_at (syntax_of c.args.nodes.now)) (sym c.deref.ensures.value)
    ∙ c.in-Two.ensures.trees (syntax_of c.args.nodes.now)) c.place-at.ensures) c.in_err-test.ensures)

pub while_body-returns : goal.while_body-returns
while_body-returns g t c =
    node_three c.args.st.now _ _ _ c.args.test c.in_ok-inside.inside c.in_ok-step.step _ c.args.at _
    (λ (u v w : Tree). statement (forms.Loop true) c.args.at
    (three u v w)) _ c.requires.test c.in_ok-inside.ensures c.in_ok-step.ensures c.in_ok-made.ensures refl

pub do_statement-returns : goal.do_statement-returns
do_statement-returns g t c =
    does_same _ _ _ _ _ (do_row (g.L.MakeLambdas.lambdas c.args.lams.now) (lexemes_of c.args.tokens.now) (state_of c.args.st.now)
    (tree_at (syntax_of c.args.nodes.now) c.args.id) _ _ c.place-at.result _ _ (tree_at (syntax_of c.args.nodes.now) c.in-Two.first)
    (tree_at (syntax_of c.args.nodes.now) c.in-Two.second) c.node_at-node.ensures.node c.requires.kind
    (ap (trees_at (syntax_of c.args.nodes.now)) (sym c.deref.ensures.value) ∙ c.in-Two.ensures.trees (syntax_of c.args.nodes.now)) c.place-at.ensures)
    (one_then c.args.st.now _ _ c.in_ok-inside.inside c.place-at.result _ _
    (λ (z : Tree) (u : State). do_test (g.L.MakeLambdas.lambdas c.args.lams.now) (lexemes_of c.args.tokens.now) u c.place-at.result z
    (tree_at (syntax_of c.args.nodes.now) c.in-Two.second)) c.in_ok-inside.ensures c.do_test.ensures)

pub do_statement-returns-in_err-inside : goal.do_statement-returns-in_err-inside
do_statement-returns-in_err-inside g t c =
    let is_error : c.from_residual.result ≡ Err c.in_err-inside.field-0.0 = search rules in
    does_fail _ _ _ _ _ is_error (faults_then _ _ (λ (d : Done). do_test (g.L.MakeLambdas.lambdas c.args.lams.now)
    (lexemes_of c.args.tokens.now) d.state c.place-at.result (the_tree c.place-at.result d.trees) (tree_at (syntax_of c.args.nodes.now) c.in-Two.second)) _
    (do_row (g.L.MakeLambdas.lambdas c.args.lams.now) (lexemes_of c.args.tokens.now) (state_of c.args.st.now)
    (tree_at (syntax_of c.args.nodes.now) c.args.id) _ _ c.place-at.result _ _ (tree_at (syntax_of c.args.nodes.now) c.in-Two.first)
    (tree_at (syntax_of c.args.nodes.now) c.in-Two.second) c.node_at-node.ensures.node c.requires.kind
    (ap (trees_at (syntax_of c.args.nodes.now)) (sym c.deref.ensures.value)
    ∙ c.in-Two.ensures.trees (syntax_of c.args.nodes.now)) c.place-at.ensures) c.in_err-inside.ensures)

pub for_inside-returns : goal.for_inside-returns
for_inside-returns g t c =
    does_same _ _ _ _ _ (for_inside_row (g.L.MakeLambdas.lambdas c.args.lams.now) (lexemes_of c.args.tokens.now) (state_of c.args.st.now)
    (tree_at (syntax_of c.args.nodes.now) c.args.id) _ _ c.place-at.result _ _ (tree_at (syntax_of c.args.nodes.now) c.in-Some.four.first)
    (tree_at (syntax_of c.args.nodes.now) c.in-Some.four.test) (tree_at (syntax_of c.args.nodes.now) c.in-Some.four.step)
    (tree_at (syntax_of c.args.nodes.now) c.in-Some.four.body) c.node_at-node.ensures.node
    (ap (trees_at (syntax_of c.args.nodes.now)) (sym c.deref.ensures.value)
    ∙ c.in-Some.ensures.trees (syntax_of c.args.nodes.now)) c.place-at.ensures) c.for_all.ensures

pub for_all-returns : goal.for_all-returns
for_all-returns g t c =
    let empty : c.new-first.result.items ≡ [] = search rules in
    inside_made (g.L.MakeLambdas.lambdas c.args.lams.now) (lexemes_of c.args.tokens.now) c.args.st.now _ _ c.args.at _ _ _
    (tree_at (syntax_of c.args.nodes.now) c.args.four.first) (tree_at (syntax_of c.args.nodes.now) c.args.four.test)
    (tree_at (syntax_of c.args.nodes.now) c.args.four.step)
    (tree_at (syntax_of c.args.nodes.now) c.args.four.body) empty c.in_ok-for_first.ensures c.for_tested.ensures

pub for_tested-returns : goal.for_tested-returns
for_tested-returns g t c =
    tested_made (g.L.MakeLambdas.lambdas c.args.lams.now) (lexemes_of c.args.tokens.now) c.args.st.now _ _ c.args.at c.args.first.items c.in_ok-test.test _
    (tree_at (syntax_of c.args.nodes.now) c.args.test) (tree_at (syntax_of c.args.nodes.now) c.args.step)
    (tree_at (syntax_of c.args.nodes.now) c.args.id) c.requires.first c.in_ok-test.ensures c.for_stepped.ensures

pub for_stepped-returns : goal.for_stepped-returns
for_stepped-returns g t c =
    stepped_made (g.L.MakeLambdas.lambdas c.args.lams.now)
    (lexemes_of c.args.tokens.now) c.args.st.now _ _ c.args.at c.args.first.items c.args.test c.in_ok-step.step _
    (tree_at (syntax_of c.args.nodes.now) c.args.step)
    (tree_at (syntax_of c.args.nodes.now) c.args.id) c.requires.first c.requires.test c.in_ok-step.ensures c.for_last.ensures

pub for_last-returns : goal.for_last-returns
for_last-returns g t c =
    node_after_all c.args.st.now _ _ c.args.first.items c.args.test c.args.step c.in_ok-inside.inside _ c.args.at _
    (λ (ts : Trees)
    (u v w : Tree). for_loop c.args.at ts u v w) c.requires.first c.requires.test c.requires.step c.in_ok-inside.ensures c.in_ok-made.ensures refl

pub for_body-returns-in-CompoundStatement : goal.for_body-returns-in-CompoundStatement
for_body-returns-in-CompoundStatement g t c =
    does_same _ _ _ _ _ (for_body_compound (g.L.MakeLambdas.lambdas c.args.lams.now) (lexemes_of c.args.tokens.now) (state_of c.args.st.now) c.args.at
    (tree_at (syntax_of c.args.nodes.now) c.args.id) _ _ _ _ c.node_at.ensures.node c.in-CompoundStatement.is) c.body.ensures

pub for_body-returns-in_default : goal.for_body-returns-in_default
for_body-returns-in_default g t c =
    does_same _ _ _ _ _ (for_body_part (g.L.MakeLambdas.lambdas c.args.lams.now) (lexemes_of c.args.tokens.now) (state_of c.args.st.now) c.args.at
    (tree_at (syntax_of c.args.nodes.now) c.args.id) _ _ _ _ c.node_at.ensures.node c.in_default.not-CompoundStatement) c.part.ensures

pub switch_statement-returns : goal.switch_statement-returns
switch_statement-returns g t c =
    does_same _ _ _ _ _ (switch_row (g.L.MakeLambdas.lambdas c.args.lams.now) (lexemes_of c.args.tokens.now) (state_of c.args.st.now)
    (tree_at (syntax_of c.args.nodes.now) c.args.id) _ _ c.place-at.result _ _ (tree_at (syntax_of c.args.nodes.now) c.in-Two.first)
    (tree_at (syntax_of c.args.nodes.now) c.in-Two.second) c.node_at-node.ensures.node c.requires.kind
    (ap (trees_at (syntax_of c.args.nodes.now)) (sym c.deref.ensures.value) ∙ c.in-Two.ensures.trees (syntax_of c.args.nodes.now)) c.place-at.ensures)
    (switched_then (g.L.MakeLambdas.lambdas c.args.lams.now) (lexemes_of c.args.tokens.now) c.args.st.now _ _ c.place-at.result c.in_ok-found.found _ _ _
    (tree_at (syntax_of c.args.nodes.now) c.in-Two.first)
    (tree_at (syntax_of c.args.nodes.now) c.in-Two.second) c.in_ok-found.ensures refl refl c.switch_body.ensures)

pub switch_statement-returns-in_err-found : goal.switch_statement-returns-in_err-found
switch_statement-returns-in_err-found g t c =
    let is_error : c.from_residual.result ≡ Err c.in_err-found.field-0.0 = search rules in
    does_fail _ _ _ _ _ is_error (faults_then _ _ (λ (d : Switched). switch_body (g.L.MakeLambdas.lambdas c.args.lams.now)
    (lexemes_of c.args.tokens.now) c.place-at.result d (tree_at (syntax_of c.args.nodes.now) c.in-Two.second)) _
    (switch_row (g.L.MakeLambdas.lambdas c.args.lams.now) (lexemes_of c.args.tokens.now) (state_of c.args.st.now)
    (tree_at (syntax_of c.args.nodes.now) c.args.id) _ _ c.place-at.result _ _ (tree_at (syntax_of c.args.nodes.now) c.in-Two.first)
    (tree_at (syntax_of c.args.nodes.now) c.in-Two.second) c.node_at-node.ensures.node c.requires.kind
    (ap (trees_at (syntax_of c.args.nodes.now)) (sym c.deref.ensures.value)
    ∙ c.in-Two.ensures.trees (syntax_of c.args.nodes.now)) c.place-at.ensures) c.in_err-found.ensures)

pub switch_body-returns : goal.switch_body-returns
switch_body-returns g t c =
    let empty : c.new-list.result.items ≡ [] = search rules in
    switch_made (g.L.MakeLambdas.lambdas c.args.lams.now) (lexemes_of c.args.tokens.now) c.args.st.now
    (record c.args.st.now { env = c.enter_switch.new.env }) c.statements.new.st
    (record c.statements.new.st { env = c.leave_switch.new.env }) _ c.args.at c.args.value _ (typ_of c.args.ty) _ _ _ _
    (tree_at (syntax_of c.args.nodes.now) c.args.id) _ _ _ _
    (trees_at (syntax_of c.args.nodes.now) c.deref.result.now) c.requires.value c.node_at.ensures.node
    (ap (trees_at (syntax_of c.args.nodes.now)) c.deref.ensures.value) refl
    (ap (λ (z : Ctx). record (state_of c.args.st.now) {
      ctx =
          z;
    }) c.in_ok-labels.ensures.ctx) empty c.in_ok-statements.ensures c.mark_here-mark.ensures c.in_ok-labels.ensures.labels
    (ap (λ (z : Ctx). record (state_of c.statements.new.st) { ctx = z }) c.leave_switch.ensures) refl
    (as_lent (made c.statements.new.st) _ _ (λ (ts : Trees). statement forms.Switch c.args.at
    (more (tree_in (made c.statements.new.st) c.args.value) ts)) _ _ c.deref-2.ensures.value c.in_ok-made.ensures) refl

pub switch_body-returns-in_err-statements : goal.switch_body-returns-in_err-statements
switch_body-returns-in_err-statements g t c =
    let is_error : c.from_residual-in_err-statements.result ≡ Err c.in_err-statements.field-0.0 = search rules in
    does_fail _ _ _ _ _ is_error (switch_fails (g.L.MakeLambdas.lambdas c.args.lams.now) (lexemes_of c.args.tokens.now) c.args.st.now
    (record c.args.st.now { env = c.enter_switch.new.env }) c.args.at _ (typ_of c.args.ty) (tree_at (syntax_of c.args.nodes.now) c.args.id) _ _ _ _
    (trees_at (syntax_of c.args.nodes.now) c.deref.result.now) _ c.node_at.ensures.node (ap (trees_at (syntax_of c.args.nodes.now)) c.deref.ensures.value)
    (ap (λ (z : Ctx). record (state_of c.args.st.now) { ctx = z }) c.in_ok-labels.ensures.ctx) c.in_err-statements.ensures)

pub synchronized_statement-returns : goal.synchronized_statement-returns
synchronized_statement-returns g t c =
    does_same _ _ _ _ _ (synchronized_row (g.L.MakeLambdas.lambdas c.args.lams.now) (lexemes_of c.args.tokens.now) (state_of c.args.st.now)
    (tree_at (syntax_of c.args.nodes.now) c.args.id) _ _ c.place.result _ _
    (tree_at (syntax_of c.args.nodes.now) c.in-One.kid) c.node_at-node.ensures.node c.requires.kind
    (ap (trees_at (syntax_of c.args.nodes.now)) (sym c.deref.ensures.value)
    ∙ c.in-One.ensures.trees (syntax_of c.args.nodes.now)) c.place.ensures) c.guarded.ensures

pub atomic_statement-returns : goal.atomic_statement-returns
atomic_statement-returns g t c =
    does_same _ _ _ _ _ (atomic_row (g.L.MakeLambdas.lambdas c.args.lams.now) (lexemes_of c.args.tokens.now) (state_of c.args.st.now)
    (tree_at (syntax_of c.args.nodes.now) c.args.id) _ _ c.place.result _ _ c.in-Some.token
    (tree_at (syntax_of c.args.nodes.now) c.in-One.kid) c.node_at-node.ensures.node c.requires.kind
    (ap (trees_at (syntax_of c.args.nodes.now)) (sym c.deref.ensures.value)
    ∙ c.in-One.ensures.trees (syntax_of c.args.nodes.now)) c.place.ensures c.in-Some.is
    ∙ ap (λ (z : TKind). guarded (g.L.MakeLambdas.lambdas c.args.lams.now) (lexemes_of c.args.tokens.now) (state_of c.args.st.now) c.place.result z
    (tree_at (syntax_of c.args.nodes.now) c.in-One.kid)) (sym c.atomic_kind.ensures)) c.guarded.ensures

pub try_block-returns : goal.try_block-returns
try_block-returns g t c =
    does_same _ _ _ _ _ (try_row (g.L.MakeLambdas.lambdas c.args.lams.now) (lexemes_of c.args.tokens.now) (state_of c.args.st.now)
    (tree_at (syntax_of c.args.nodes.now) c.args.id) _ _ c.place-at.result _ _ (tree_at (syntax_of c.args.nodes.now) c.in-Some.kid)
    (trees_at (syntax_of c.args.nodes.now) (take (length c.deref-2.result.now - 1)
    (drop 1 c.deref-2.result.now))) c.node_at-node.ensures.node c.requires.kind
    (kids_behind (syntax_of c.args.nodes.now) _ _ _ c.in-Some.kid c.deref.ensures.value c.deref-2.ensures.value c.in-Some.ensures.kid) c.place-at.ensures)
    (one_then c.args.st.now _ _ c.in_ok-inside.inside c.place-at.result _ _
    (λ (z : Tree) (u : State). try_handlers (g.L.MakeLambdas.lambdas c.args.lams.now) (lexemes_of c.args.tokens.now) u c.place-at.result z
    (trees_at (syntax_of c.args.nodes.now) (take (length c.deref-2.result.now - 1)
    (drop 1 c.deref-2.result.now)))) c.in_ok-inside.ensures c.try_handlers.ensures)

pub try_block-returns-in_err-inside : goal.try_block-returns-in_err-inside
try_block-returns-in_err-inside g t c =
    let is_error : c.from_residual.result ≡ Err c.in_err-inside.field-0.0 = search rules in
    does_fail _ _ _ _ _ is_error (faults_then _ _ (λ (d : Done). try_handlers (g.L.MakeLambdas.lambdas c.args.lams.now)
    (lexemes_of c.args.tokens.now) d.state c.place-at.result (the_tree c.place-at.result d.trees)
    (trees_at (syntax_of c.args.nodes.now) (drop 1 c.deref.result.now))) _
    (try_row (g.L.MakeLambdas.lambdas c.args.lams.now) (lexemes_of c.args.tokens.now) (state_of c.args.st.now)
    (tree_at (syntax_of c.args.nodes.now) c.args.id) _ _ c.place-at.result _ _ (tree_at (syntax_of c.args.nodes.now) c.in-Some.kid)
    (trees_at (syntax_of c.args.nodes.now) (drop 1 c.deref.result.now)) c.node_at-node.ensures.node c.requires.kind
    (ap (trees_at (syntax_of c.args.nodes.now)) (sym c.deref.ensures.value ∙ c.in-Some.ensures.kid)) c.place-at.ensures) c.in_err-inside.ensures)

pub try_handlers-returns : goal.try_handlers-returns
try_handlers-returns g t c =
    let empty : c.new-list.result.items ≡ [] = search rules in
    node_before_all c.args.st.now c.handlers.new.st (record c.handlers.new.st {
      work =
          record c.handlers.new.st.work { nodes = c.try_node.new.nodes };
    }) _ _ c.args.inside _ _
    (λ (u : Tree) (ts : Trees). statement forms.Try c.args.at (more u ts)) c.requires.inside empty c.in_ok-handlers.ensures
    (as_lent (made c.handlers.new.st) _ _ (λ (ts : Trees). statement forms.Try c.args.at
    (more (tree_in (made c.handlers.new.st) c.args.inside) ts)) _ _ c.deref.ensures.value c.in_ok-made.ensures) refl

pub handler-returns : goal.handler-returns
handler-returns g t c =
    does_same _ _ _ _ _ ((handler_if_row (g.L.MakeLambdas.lambdas c.args.lams.now) (lexemes_of c.args.tokens.now) (state_of c.args.st.now) c.args.is_last
    (tree_at (syntax_of c.args.nodes.now) c.args.id) _ _ c.place-at.result _ _ (tree_at (syntax_of c.args.nodes.now) c.in-Two.first)
    (tree_at (syntax_of c.args.nodes.now) c.in-Two.second) c.may_stand.result c.node_at-node.ensures.node
    (ap (trees_at (syntax_of c.args.nodes.now)) (sym c.deref.ensures.value)
    ∙ c.in-Two.ensures.trees (syntax_of c.args.nodes.now)) c.place-at.ensures c.may_stand.ensures)
    ∙ ap (λ (z : Bool). and_then (check c.place-at.result BadCatch z)
    (λ w. handler_of (g.L.MakeLambdas.lambdas c.args.lams.now) (lexemes_of c.args.tokens.now) (state_of c.args.st.now) c.place-at.result
    (tree_at (syntax_of c.args.nodes.now) c.in-Two.first)
    (tree_at (syntax_of c.args.nodes.now) c.in-Two.second))) c.if-not-may_stand.false) c.handler_scope.ensures

pub handler_inside-returns : goal.handler_inside-returns
handler_inside-returns g t c =
    caught_then (g.L.MakeLambdas.lambdas c.args.lams.now) (lexemes_of c.args.tokens.now) c.args.st.now _ _ c.args.at c.in_ok-found.found _
    (tree_at (syntax_of c.args.nodes.now) c.args.caught) (tree_at (syntax_of c.args.nodes.now) c.args.id) c.in_ok-found.ensures c.handler_body.ensures

pub handler_body-returns : goal.handler_body-returns
handler_body-returns g t c =
    handler_made (g.L.MakeLambdas.lambdas c.args.lams.now) (lexemes_of c.args.tokens.now) c.args.st.now _ _ c.args.at c.in_ok-inside.inside _ _ _ _
    (tree_at (syntax_of c.args.nodes.now) c.args.id) c.requires.fields c.in_ok-inside.ensures c.in_ok-made.ensures refl

pub statements-loop-id-preserved : goal.statements-loop-id-preserved
statements-loop-id-preserved g t c =
    so_far_more _ _ _ _ _ _ _ _ _ (λ (z : State). statements_of (g.L.MakeLambdas.lambdas c.args.lams.now) (lexemes_of c.args.tokens.now) z
    (trees_at (syntax_of c.args.nodes.now) (drop (c.loop-id.id-index + 1) c.args.ids.now))) c.loop-id.invariant
    (ap (statements_of (g.L.MakeLambdas.lambdas c.args.lams.now) (lexemes_of c.args.tokens.now) (state_of c.loop-id.st))
    (trees_step (syntax_of c.args.nodes.now) c.args.ids.now c.loop-id.id-index (record { 0 = 0 }) c.loop-id-test.true)) c.in_ok-statement.ensures

pub handlers-loop-i-preserved : goal.handlers-loop-i-preserved
handlers-loop-i-preserved g t c =
    so_far_more _ _ _ _ _ _ _ _ _ (λ (z : State). handlers_of (g.L.MakeLambdas.lambdas c.args.lams.now) (lexemes_of c.args.tokens.now) z
    (trees_at (syntax_of c.args.nodes.now) (drop (c.loop-i.i + 1) c.args.ids.now))) c.loop-i.invariant
    (handlers_step (g.L.MakeLambdas.lambdas c.args.lams.now) (lexemes_of c.args.tokens.now) (state_of c.loop-i.st)
    (syntax_of c.args.nodes.now) c.args.ids.now c.loop-i.i _ (record { 0 = 0 }) _ c.loop-i-test.true refl refl)
    (all_one _ _ _ _ _ _ c.loop-i.invariant.within c.in_ok-made.ensures c.in_ok-keep.ensures)

pub handlers-returns-in_err-made : goal.handlers-returns-in_err-made
handlers-returns-in_err-made g t c =
    let is_error : c.from_residual.result ≡ Err c.in_err-made.field-0.0 = search rules in
    all_fail _ _ _ _ _ _ _ is_error (so_far_fault _ _ _ _ _ _ _
    (λ (d : Done). and_then (handlers_of (g.L.MakeLambdas.lambdas c.args.lams.now) (lexemes_of c.args.tokens.now) d.state
    (trees_at (syntax_of c.args.nodes.now) (drop (c.loop-i.i + 1) c.args.ids.now))) (λ (r : Done). Ok (joined d r))) _ c.loop-i.invariant
    (handlers_step (g.L.MakeLambdas.lambdas c.args.lams.now) (lexemes_of c.args.tokens.now) (state_of c.loop-i.st)
    (syntax_of c.args.nodes.now) c.args.ids.now c.loop-i.i _ (record { 0 = 0 }) _ c.loop-i-test.true refl refl) c.in_err-made.ensures)

pub handlers-returns : goal.handlers-returns
handlers-returns g t c =
    so_far_done _ _ _ _ _ _ c.loop-i.invariant (ap (handlers_of (g.L.MakeLambdas.lambdas c.args.lams.now) (lexemes_of c.args.tokens.now) (state_of c.loop-i.st))
    (trees_past (syntax_of c.args.nodes.now) c.args.ids.now c.loop-i.i c.loop-i-test.false))

pub statements-returns : goal.statements-returns
statements-returns g t c =
    so_far_done _ _ _ _ _ _ c.loop-id.invariant (ap (statements_of (g.L.MakeLambdas.lambdas c.args.lams.now) (lexemes_of c.args.tokens.now)
    (state_of c.loop-id.st)) (trees_past (syntax_of c.args.nodes.now) c.args.ids.now c.loop-id.id-index c.loop-id-test.false))

pub case_statement-statement-requires : goal.case_statement-statement-requires
case_statement-statement-requires g t c =
    let inside = c.requires.within in
    let lower : c.in-Two.second.0 < c.args.id.0 = (c.in-Two.ensures.lower c.args.id.0
    (ap (are_below c.args.id.0) c.deref.ensures.value ∙ c.node_at-node.ensures.lower)).1 in
    λ κs h. (omega arith, (h, (omega arith, one_within _ _ _ _ _ _ c.requires.out c.in_ok-label.ensures c.in_ok-keep.ensures)))

pub default_statement-statement-requires : goal.default_statement-statement-requires
default_statement-statement-requires g t c =
    let inside = c.requires.within in
    let lower : c.in-One.kid.0 < c.args.id.0 = c.in-One.ensures.lower c.args.id.0
    (ap (are_below c.args.id.0) c.deref.ensures.value ∙ c.node_at-node.ensures.lower) in
    λ κs h. (omega arith, (h, (omega arith, one_within _ _ _ _ _ _ c.requires.out c.in_ok-label.ensures c.in_ok-keep.ensures)))

pub for_tested-for_stepped-requires : goal.for_tested-for_stepped-requires
for_tested-for_stepped-requires g t c =
    λ κs h. (
      omega arith,
      (
        h,
        (
          c.requires.within,
          (
            c.requires.step,
            (still_within _ _ _ _ _ c.requires.first c.in_ok-test.ensures, c.in_ok-test.ensures.within),
          ),
        ),
      ),
    )

pub for_stepped-for_last-requires : goal.for_stepped-for_last-requires
for_stepped-for_last-requires g t c =
    λ κs h. (
      omega arith,
      (
        h,
        (
          c.requires.within,
          (
            still_within _ _ _ _ _ c.requires.first c.in_ok-step.ensures,
            (within_grown _ _ c.args.test c.in_ok-step.ensures.grown.trees c.requires.test, c.in_ok-step.ensures.within),
          ),
        ),
      ),
    )

pub for_last-for_node-requires : goal.for_last-for_node-requires
for_last-for_node-requires g t c =
    still_within _ _ _ _ _ c.requires.first c.in_ok-inside.ensures
