-- Parenthesised values in a member initialiser list build the base of an object, which may be abstract (C++14 10.4, 12.6.2).
use Rattle.std.specs.Prelude.{◌≡◌, ℕ, List, Ok}
use Rattle.elab_rules.specs.cpp_types.Typ.{Typ}
use Rattle.elab_rules.specs.cpp_types.declared.classes.At.{At}
use Rattle.elab_rules.specs.cpp_lex.Tokens.{Lexeme}
use Rattle.elab_rules.specs.cpp_ast.Trees as syntax
use Rattle.elab_rules.specs.cpp_tree.Units.{Func as UnitFunc}
use Rattle.elab_rules.specs.elab_ctx.Steps.{Made, TypedAll}
use Rattle.elab_rules.specs.Expressions.{operands_of}
use Rattle.elab_rules.specs.Members.{as_base_of}
use Rattle.elab_rules.specs.Objects.{destroys}
use Rattle.elab_rules.specs.Statements.{State, Lambdas, all_lambdas, directly_initialised, with_work}
use Rattle.elab_fits_statements.specs.Discipline.{BuildsAll}
use Rattle.elab_fits_states.specs.Premises.{KeepsGood}
use Rattle.elab_fits_states.specs.States.{AreTexts, IsSettled, IsVariableType, words}

-- behind the lambdas of the values, which lead from good states to good ones, the base is built and can be destroyed
abbrev pub BasesBuild : Type 0
BasesBuild = (f : UnitFunc) (lams : Lambdas) (s : List Lexeme) → KeepsGood f lams s → (a x : State) (n : ℕ) (t : Typ) (p q : At) (es : syntax.Trees) (xs : TypedAll)
    (m : Made) → IsSettled f a → IsVariableType a t → AreTexts s es → all_lambdas lams s a es ≡ Ok x → operands_of s x.ctx x.work es ≡ Ok xs
    → directly_initialised (as_base_of x.ctx n) xs.work t p xs.operands ≡ Ok m → BuildsAll (words f s) a (with_work x m.work) t m.tree (destroys x.ctx q t)
