-- Labels of a `switch`, step by step.
use Rattle.std.specs.Prelude.{◌≡◌, ◌<◌, ℕ, ◌==◌, not, List, [], ◌∷◌, ◌++◌, length, Result, Ok, Err}
use Rattle.std.specs.List.{list_any}
use Rattle.elab_expr.specs.cpp_types.Typ.{Typ}
use Rattle.elab_expr.specs.cpp_types.declared.classes.At.{At}
use Rattle.elab_expr.specs.cpp_lex.Tokens.{Lexeme}
use Rattle.elab_expr.specs.cpp_ast.Trees as syntax
use Rattle.elab_expr.specs.cpp_tree.declared.faults.ElabFault.{ElabFault}
use Rattle.elab_expr.specs.cpp_tree.declared.faults.IllRule.TheVariants.{NotConstant, Narrowing, BadCase}
use Rattle.elab_expr.specs.cpp_tree.declared.kinds.TKind.TheVariants as forms
use Rattle.elab_expr.specs.cpp_tree.Trees.{Tree, none, one, typ_in}
use Rattle.elab_expr.specs.cpp_tree.Typing.{form_in, kind_in}
use Rattle.elab_expr.specs.cpp_tree.Units.{Global}
use Rattle.elab_expr.specs.elab_ctx.Ctx.{Ctx, Work}
use Rattle.elab_expr.specs.elab_ctx.Says.{Faults}
use Rattle.elab_expr.specs.elab_ctx.Operands.{operand_in}
use Rattle.elab_expr.specs.elab_ctx.declared.operand.Operand.{Operand as OperandRec}
use Rattle.elab_expr.specs.cpp_tree.Arena.{Grows}
use Rattle.elab_expr.specs.elab_ctx.Steps.{and_then, expect, check, Operand, Made, Typed}
use Rattle.elab_expr.specs.elab_rules.Initialising.{initial}
use Rattle.elab_expr.specs.elab_rules.Constants.{constant}
use Rattle.elab_expr.specs.elab_rules.Operators.{value}
use Rattle.elab_expr.specs.elab_rules.Expressions.{expression_of, chosen_operand}
use Rattle.elab_expr.specs.elab_rules.Statements.{State, Done, done, statement, case_fits, with_labels}

-- the word of a label, from its value and that value in the type of the labels
abbrev pub word_of : Ctx → List Global → At → Tree → Tree → Result ℕ ElabFault
word_of c gs at v e = and_then (expect at NotConstant (constant gs v)) (λ w. and_then (expect at NotConstant (constant gs e)) (λ word.
    and_then (check at Narrowing (case_fits (kind_in (form_in (typ_in v))) (kind_in (form_in c.labels.typ)) w)) (λ x. Ok word)))

-- an operand, and an initialiser, without what is made beside it
abbrev pub operand_alone : List Lexeme → Ctx → Work → syntax.Tree → Result Operand ElabFault
operand_alone s c w e = and_then (and_then (expression_of s c w e) (chosen_operand c)) (λ (o : Typed). Ok o.operand)

abbrev pub initial_alone : Ctx → Work → Typ → Operand → Result Tree ElabFault
initial_alone c w t o = and_then (initial c w t o) (λ (m : Made). Ok m.tree)

abbrev pub label_word : Ctx → Work → List Global → Operand → Result ℕ ElabFault
label_word c w gs o = and_then (initial_alone c w c.labels.typ o) (λ (t : Tree). word_of c gs o.at (value o) t)

abbrev pub case_word : List Lexeme → Ctx → Work → syntax.Tree → Result ℕ ElabFault
case_word s c w e = and_then (operand_alone s c w e) (λ (o : Operand). label_word c w w.globals o)

-- a label of this word
abbrev pub case_of : State → At → ℕ → Result Done ElabFault
case_of st at word = and_then (check at BadCase (not (list_any (λ (n : ℕ). n == word) st.ctx.labels.words))) (λ y.
    done (one (statement (forms.Case word) at none)) (with_labels st (record st.ctx.labels { words = st.ctx.labels.words ++ word ∷ [] })))

-- an operand was made of what is to be answered, and stands in the list of nodes
pub record OperandAt (old new : List Tree) (o : OperandRec) (x : Result Operand ElabFault) : Type 0 where
  pub grows : Grows old new
  pub within : o.id.0 < length new
  pub is : x ≡ Ok (operand_in new o)

abbrev pub Operates : List Tree → List Tree → Result OperandRec ElabFault → Result Operand ElabFault → Type 0
Operates old new (Ok o) x = OperandAt old new o x
Operates old new (Err e) x = Faults e x
