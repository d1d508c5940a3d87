-- What is read of a member that begins with its type, up to what follows its first declarator.
use Rattle.std.specs.Prelude.{◌≡◌, ℕ, Bool, true, false, None}
use Rattle.cpp_ast.specs.declared.kinds.NodeKind.TheVariants.{EqualInitializer}
use Rattle.cpp_syntax.specs.Source.{Source, terminal_at}
use Rattle.cpp_syntax.specs.Terminals.{inline_word, semicolon}
use Rattle.cpp_syntax.specs.Rules.{Rule, word, ◌·◌, form, node, optional, compound_statement}
use Rattle.cpp_syntax.specs.Grammar.{virt_specifiers}
use Rattle.cpp_syntax.specs.Derivations.{token_of_name, declared_in}
use Rattle.cpp_syntax.specs.View.{BuilderState, IsMark}
use Rattle.cpp_syntax.specs.Parsed.{ReadsLongest, NoneOf}
use Rattle.cpp_parse.specs.Alternatives.{optional_attribute, optional_virtual, types, named_declarator, more_members, pure_specifier, value, value_but_zero}
use Rattle.cpp_parse.specs.declared.single_members.MemberHead.{MemberHead}

-- The type of a member, from an index on, and its first declarator were read, behind what was read before.
pub record IsTyped (source : Source) (head : MemberHead) (from : ℕ) (before now : BuilderState) : Type 0 where
  pub between : BuilderState
  pub typed : ReadsLongest source types from head.named None before between
  pub mark : IsMark head.first between
  pub declared : ReadsLongest source named_declarator head.named head.behind None between now
  pub name : head.name ≡ token_of_name (declared_in declared.got.trees)

-- So was what stands before the type: an attribute and virtual, or one of them, or nothing, and not inline.
pub record IsHead (source : Source) (head : MemberHead) (before now : BuilderState) : Type 0 where
  pub after : ℕ
  pub from : ℕ
  pub first : BuilderState
  pub second : BuilderState
  pub begins : IsMark head.start before
  pub attribute : ReadsLongest source optional_attribute head.at after None before first
  pub change : ReadsLongest source optional_virtual after from None first second
  pub plain : inline_word (terminal_at source from) ≡ false
  pub rest : IsTyped source head from second now

-- What stands behind the first declarator of a member.

abbrev pub rest_single : Rule
rest_single = (virt_specifiers · optional pure_specifier) · word semicolon

abbrev pub rest_initialized : Rule
rest_initialized = node EqualInitializer value_but_zero · word semicolon

abbrev pub rest_listed : Rule
rest_listed = optional (node EqualInitializer value) · more_members · word semicolon

abbrev pub rest_function : Rule
rest_function = virt_specifiers · form compound_statement

-- Whether a member is none without initializers, or none with one or one of several, by what stands behind its first declarator.
abbrev pub ValuesSeen : Source → ℕ → Bool → Type 0
ValuesSeen source at true = NoneOf source rest_single at × NoneOf source rest_function at
ValuesSeen source at false = NoneOf source rest_initialized at × NoneOf source rest_listed at
