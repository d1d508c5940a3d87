-- The law: statements of the body of a function keep all items whole.
use Rattle.std.specs.Prelude.{◌≡◌, List}
use Rattle.elab_rules.specs.cpp_lex.Tokens.{Lexeme}
use Rattle.elab_rules.specs.cpp_ast.Trees as syntax
use Rattle.elab_rules.specs.cpp_tree.declared.program.FuncKind.TheVariants.{ClosureCall}
use Rattle.elab_rules.specs.cpp_tree.Units.{Func as UnitFunc}
use Rattle.elab_rules.specs.Lambdas.{lambdas_of}
use Rattle.elab_rules.specs.Statements.{State, Done, statements_of}
use Rattle.elab_fits.specs.Standing.{On}
use Rattle.elab_fits_states.specs.States.{AreTexts, IsSettled}
use Rattle.elab_fits_states.specs.Bodies.{StandsAlone}
use Rattle.elab_frame_items.specs.Frames.{IsWholeState}

-- in a good state of a function that is no call of a lambda, between full-expressions: the items of the frame, of the bodies that were made, those of
-- lambdas too, and of initialisers that are kept for members
abbrev pub StatementsKeepWhole : Type 0
StatementsKeepWhole = (f : UnitFunc) (s : List Lexeme) (st : State) (ts : syntax.Trees) → (f.kind ≡ ClosureCall → ⊥) → IsSettled f st → IsWholeState st
    → StandsAlone st → AreTexts s ts → On (λ (d : Done). IsWholeState d.state) (statements_of lambdas_of s st ts)
