-- What follows an operand, without the operand.
use Rattle.std.specs.Prelude.{ℕ, Option, Some, None, Result, Ok, Err}
use Rattle.std.specs.declared.alloc.AllocError.{AllocError}
use Rattle.cpp_ast.specs.declared.kinds.NodeKind.{NodeKind}
use Rattle.cpp_ast.specs.declared.kinds.NodeKind.TheVariants.{Subscript, FunctionCall, MemberAccess, PointerMemberAccess, PostfixIncrement, IntegerLiteral}
use Rattle.cpp_ast.specs.declared.kinds.NodeKind.TheVariants.{CharacterLiteral, StringLiteral, BooleanLiteral, PointerLiteral, This}
use Rattle.cpp_syntax.specs.declared.terminal.Terminal.{Terminal}
use Rattle.cpp_syntax.specs.declared.terminal.Terminal.TheVariants as terminal
use Rattle.cpp_syntax.specs.Source.{Source}
use Rattle.cpp_syntax.specs.Terminals.{is_step}
use Rattle.cpp_syntax.specs.Rules.{Rule, mark, ◌∣◌}
use Rattle.cpp_syntax.specs.Grammar.{subscript, arguments, member_access, pointer_member_access}
use Rattle.cpp_syntax.specs.View.{BuilderState}
use Rattle.cpp_syntax.specs.Parsed.{Leaves, ReadsLongest, NoneOf}
use Rattle.cpp_parse_expr.specs.declared.expressions.Suffix.{Suffix}

-- one of the five things that follow an operand
pub data SuffixOf : NodeKind → Rule → Type 0 where
  a_subscript : SuffixOf Subscript subscript
  a_call : SuffixOf FunctionCall arguments
  a_member : SuffixOf MemberAccess member_access
  a_pointer_member : SuffixOf PointerMemberAccess pointer_member_access
  a_step : SuffixOf PostfixIncrement (mark is_step)

-- one of them was read
pub record ReadsSuffix (source : Source) (at : ℕ) (suffix : Suffix) (old new : BuilderState) : Type 0 where
  pub rule : Rule
  pub kind : SuffixOf suffix.kind rule
  pub reads : ReadsLongest source rule at suffix.next (Some suffix.token) old new

abbrev pub ParsedSuffix : Source → ℕ → BuilderState → BuilderState → Result (Option Suffix) AllocError → Type 0
ParsedSuffix source at old new (Ok (Some suffix)) = ReadsSuffix source at suffix old new
ParsedSuffix source at old new (Ok None) = Leaves old new × NoneOf source (subscript ∣ arguments ∣ member_access ∣ pointer_member_access ∣ mark is_step) at
ParsedSuffix source at old new (Err e) = Leaves old new

-- the kind of a node that is a literal or this
abbrev pub literal_kind : Terminal → NodeKind
literal_kind terminal.Character = CharacterLiteral
literal_kind terminal.String = StringLiteral
literal_kind terminal.True = BooleanLiteral
literal_kind terminal.False = BooleanLiteral
literal_kind terminal.Nullptr = PointerLiteral
literal_kind terminal.This = This
literal_kind _ = IntegerLiteral
