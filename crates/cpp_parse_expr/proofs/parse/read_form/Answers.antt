use Rattle.std.proofs.Common.{sym, subst}
use Rattle.cpp_syntax.specs.Parsed.{ParsesForm}
use Rattle.cpp_parse_expr.specs.declared.parse.ExprForm.{ExprForm}
use Rattle.cpp_parse_expr.specs.Parse.{form_of}
use Rattle.cpp_parse_expr.proofs.parse.read_form.Goals as goal

pub returns-in-Expr : goal.returns-in-Expr
returns-in-Expr c =
    subst (λ (f : ExprForm). ParsesForm c.args.types.now (form_of f) c.args.at c.args.out.now c.expression.new.out c.expression.result)
    (sym c.in-Expr.is) c.expression.ensures

pub returns-in-Assign : goal.returns-in-Assign
returns-in-Assign c =
    subst (λ (f : ExprForm). ParsesForm c.args.types.now (form_of f) c.args.at c.args.out.now c.assignment_expression.new.out
    c.assignment_expression.result) (sym c.in-Assign.is) c.assignment_expression.ensures

pub returns-in-Cond : goal.returns-in-Cond
returns-in-Cond c =
    subst (λ (f : ExprForm). ParsesForm c.args.types.now (form_of f) c.args.at c.args.out.now c.conditional_expression.new.out
    c.conditional_expression.result) (sym c.in-Cond.is) c.conditional_expression.ensures

pub returns-in-TypeHead : goal.returns-in-TypeHead
returns-in-TypeHead c =
    subst (λ (f : ExprForm). ParsesForm c.args.types.now (form_of f) c.args.at c.args.out.now c.type_specifier_seq.new.out
    c.type_specifier_seq.result) (sym c.in-TypeHead.is) c.type_specifier_seq.ensures

pub returns-in-TypeId : goal.returns-in-TypeId
returns-in-TypeId c =
    subst (λ (f : ExprForm). ParsesForm c.args.types.now (form_of f) c.args.at c.args.out.now c.type_id.new.out c.type_id.result)
    (sym c.in-TypeId.is) c.type_id.ensures

pub returns-in-Declarator : goal.returns-in-Declarator
returns-in-Declarator c =
    subst (λ (f : ExprForm). ParsesForm c.args.types.now (form_of f) c.args.at c.args.out.now c.declarator.new.out c.declarator.result)
    (sym c.in-Declarator.is) c.declarator.ensures

pub returns-in-Param : goal.returns-in-Param
returns-in-Param c =
    subst (λ (f : ExprForm). ParsesForm c.args.types.now (form_of f) c.args.at c.args.out.now c.parameter_declaration.new.out
    c.parameter_declaration.result) (sym c.in-Param.is) c.parameter_declaration.ensures
