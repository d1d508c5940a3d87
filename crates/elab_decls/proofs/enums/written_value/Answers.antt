use Rattle.std.proofs.Common.{ℤ, SFits, ◌≡◌, ◌∙◌, rules, List, Vec, map, Err, Ok, ap, sym}
use Rattle.std.proofs.lemmas.Int.{to_z-of_z}
use Rattle.std.specs.Int.{w128}
use Rattle.std.specs.declared.alloc.Global.{Global as Alloc}
use Rattle.cpp_types.specs.Typ.{typ_of}
use Rattle.elab_expr.specs.cpp_lex.Tokens.{lexemes_of}
use Rattle.elab_expr.specs.cpp_tree.declared.arena.TNode.{TNode}
use Rattle.elab_expr.specs.cpp_tree.Arena.{trees_of}
use Rattle.elab_expr.specs.cpp_tree.Units.{global_of}
use Rattle.elab_expr.specs.elab_ctx.Ctx.{Work, Closure, ctx_of, work_of, closure_of}
use Rattle.elab_expr.specs.elab_ctx.Operands.{operand_in}
use Rattle.elab_expr.specs.elab_ctx.Steps.{and_then, Typed}
use Rattle.elab_expr.specs.elab_ctx.declared.env.Closure.{Closure as ClosureRec}
use Rattle.elab_expr.specs.elab_rules.Expressions.{expression_with, expression_of, chosen_operand}
use Rattle.elab_expr.specs.elab_rules.Globals.{enumerator_value}
use Rattle.elab_expr.specs.elab_types.Syntax.{syntax_of, tree_at}
use Rattle.elab_growth.proofs.Kept.{chosen_follows, cut_again, shown_length}
use Rattle.elab_decls.specs.Enums.{valued_shown, written_value}
use Rattle.elab_decls.proofs.Steps.{says_refused, faults_same}
use Rattle.elab_decls.proofs.EnumSteps.{found, value_fails, value_is}
use Rattle.elab_decls.proofs.enums.written_value.Goals as goal

pub returns-clause-kept : goal.returns-clause-kept
returns-clause-kept c = cut_again (work_of c.args.work.now) (work_of c.chosen_expression.new.work)
    (work_of c.cut_back.new.work) c.len-frame.result c.len-globals.result
    (chosen_follows (lexemes_of c.args.tokens.now) (ctx_of c.args.env.now) (map closure_of c.deref.result.now) (work_of c.args.work.now)
    (tree_at (syntax_of c.args.nodes.now) c.args.id) _ c.in_ok-o.ensures.is)
    (shown_length typ_of c.args.work.now.frame c.len-frame.result c.len-frame.ensures)
    (shown_length global_of c.args.work.now.globals c.len-globals.result c.len-globals.ensures) c.cut_back.ensures.work

pub returns-in_err-value-clause-value : goal.returns-in_err-value-clause-value
returns-in_err-value-clause-value c at =
    let is_error : c.from_residual-in_err-value.result ≡ Err c.in_err-value.field-0.0 = search rules in
    let kept : work_of c.cut_back.new.work ≡ work_of c.args.work.now =
    cut_again (work_of c.args.work.now) (work_of c.chosen_expression.new.work) (work_of c.cut_back.new.work) c.len-frame.result c.len-globals.result
    (chosen_follows (lexemes_of c.args.tokens.now) (ctx_of c.args.env.now) (map closure_of c.deref.result.now) (work_of c.args.work.now)
    (tree_at (syntax_of c.args.nodes.now) c.args.id) _ c.in_ok-o.ensures.is)
    (shown_length typ_of c.args.work.now.frame c.len-frame.result c.len-frame.ensures)
    (shown_length global_of c.args.work.now.globals c.len-globals.result c.len-globals.ensures) c.cut_back.ensures.work in
    let o : Typed = record {
      operand = operand_in (trees_of c.chosen_expression.new.work.nodes.items) c.in_ok-o.o;
      work =
          work_of c.chosen_expression.new.work;
    } in
    let typed : and_then (expression_of (lexemes_of c.args.tokens.now) (ctx_of c.args.env.now) (work_of c.args.work.now)
    (tree_at (syntax_of c.args.nodes.now) c.args.id)) (chosen_operand (ctx_of c.args.env.now)) ≡ Ok o =
    ap (λ (z : List Closure). and_then (expression_with (lexemes_of c.args.tokens.now) (ctx_of c.args.env.now) z (work_of c.args.work.now)
    (tree_at (syntax_of c.args.nodes.now) c.args.id)) (chosen_operand (ctx_of c.args.env.now)))
    (ap (λ (z : List ClosureRec). map closure_of z) (sym c.deref.ensures.value)) ∙ c.in_ok-o.ensures.is in
    let same : enumerator_value at (work_of c.args.work.now) o.operand
    ≡ enumerator_value at (work_of c.cut_back.new.work) (operand_in (trees_of c.replace-own.result.items) c.in_ok-o.o) =
    ap (λ (v : Vec TNode Alloc). enumerator_value at (work_of c.args.work.now) (operand_in (trees_of v.items) c.in_ok-o.o))
    (sym (c.replace-own.ensures.value ∙ c.cut_back.ensures.nodes))
    ∙ ap (λ (w : Work). enumerator_value at w (operand_in (trees_of c.replace-own.result.items) c.in_ok-o.o)) (sym kept) in
    says_refused valued_shown c.from_residual-in_err-value.result c.in_err-value.field-0.0
    (written_value (lexemes_of c.args.tokens.now) (ctx_of c.args.env.now) (work_of c.args.work.now) at
    (tree_at (syntax_of c.args.nodes.now) c.args.id)) is_error
    (value_fails (lexemes_of c.args.tokens.now) (ctx_of c.args.env.now) (work_of c.args.work.now) at
    (tree_at (syntax_of c.args.nodes.now) c.args.id) o typed c.in_err-value.field-0.0
    (faults_same c.in_err-value.field-0.0 _ _ same (c.in_err-value.ensures at)))

pub returns-clause-value : goal.returns-clause-value
returns-clause-value c at =
    let kept : work_of c.cut_back.new.work ≡ work_of c.args.work.now =
    cut_again (work_of c.args.work.now) (work_of c.chosen_expression.new.work) (work_of c.cut_back.new.work) c.len-frame.result c.len-globals.result
    (chosen_follows (lexemes_of c.args.tokens.now) (ctx_of c.args.env.now) (map closure_of c.deref.result.now) (work_of c.args.work.now)
    (tree_at (syntax_of c.args.nodes.now) c.args.id) _ c.in_ok-o.ensures.is)
    (shown_length typ_of c.args.work.now.frame c.len-frame.result c.len-frame.ensures)
    (shown_length global_of c.args.work.now.globals c.len-globals.result c.len-globals.ensures) c.cut_back.ensures.work in
    let o : Typed = record {
      operand = operand_in (trees_of c.chosen_expression.new.work.nodes.items) c.in_ok-o.o;
      work =
          work_of c.chosen_expression.new.work;
    } in
    let typed : and_then (expression_of (lexemes_of c.args.tokens.now) (ctx_of c.args.env.now) (work_of c.args.work.now)
    (tree_at (syntax_of c.args.nodes.now) c.args.id)) (chosen_operand (ctx_of c.args.env.now)) ≡ Ok o =
    ap (λ (z : List Closure). and_then (expression_with (lexemes_of c.args.tokens.now) (ctx_of c.args.env.now) z (work_of c.args.work.now)
    (tree_at (syntax_of c.args.nodes.now) c.args.id)) (chosen_operand (ctx_of c.args.env.now)))
    (ap (λ (z : List ClosureRec). map closure_of z) (sym c.deref.ensures.value)) ∙ c.in_ok-o.ensures.is in
    let same : enumerator_value at (work_of c.args.work.now) o.operand
    ≡ enumerator_value at (work_of c.cut_back.new.work) (operand_in (trees_of c.replace-own.result.items) c.in_ok-o.o) =
    ap (λ (v : Vec TNode Alloc). enumerator_value at (work_of c.args.work.now) (operand_in (trees_of v.items) c.in_ok-o.o))
    (sym (c.replace-own.ensures.value ∙ c.cut_back.ensures.nodes))
    ∙ ap (λ (w : Work). enumerator_value at w (operand_in (trees_of c.replace-own.result.items) c.in_ok-o.o)) (sym kept) in
    let fits : SFits w128 c.in_ok-value.value = search rules in
    value_is (lexemes_of c.args.tokens.now) (ctx_of c.args.env.now) (work_of c.args.work.now) at
    (tree_at (syntax_of c.args.nodes.now) c.args.id) o typed c.in_ok-value.value (same ∙ c.in_ok-value.ensures at)
    ∙ ap (λ (n : ℤ). found n c.in_ok-o.o.at) (sym (to_z-of_z w128 c.in_ok-value.value fits))
