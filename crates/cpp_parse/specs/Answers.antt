-- What readers of declarations and members answer beside what is read.
use Rattle.std.specs.Prelude.{◌≡◌, ℕ, ◌+◌, ◌≤◌, Bool, true, false, length, Option, Some, None}
use Rattle.cpp_ast.specs.declared.kinds.NodeKind.TheVariants.{Attribute}
use Rattle.cpp_syntax.specs.Source.{Source, position_at, terminal_at}
use Rattle.cpp_syntax.specs.Terminals.{is_type_name, is_string, extern_word, colon_colon, close_paren}
use Rattle.cpp_syntax.specs.Rules.{Rule, ◌·◌, ◌∣◌, word, mark, form, constructor_declarator, destructor_declarator, qualified, whole}
use Rattle.cpp_syntax.specs.Rules.{parameter_declaration_clause, function_qualifiers}
use Rattle.cpp_syntax.specs.Grammar.{attribute}
use Rattle.cpp_syntax.specs.Derivations.{Read, no_read, reads_node, kept_apart}
use Rattle.cpp_syntax.specs.Lookahead.{lookahead}
use Rattle.cpp_syntax.specs.Longest.{LongestMatch}
use Rattle.cpp_syntax.specs.Parsed.{NoneOf}
use Rattle.cpp_parse.specs.Alternatives.{object_declaration, function_definition, constructor_definition, destructor_definition}
use Rattle.cpp_parse.specs.Alternatives.{named_declarator, single_declaration, initialized_declaration, listed_declaration}
use Rattle.cpp_parse.specs.Alternatives.{member_function, constructor_declared, constructor_defined, destructor_declared, destructor_defined}
use Rattle.cpp_parse.specs.declared.functions.Definition.{Definition}
use Rattle.cpp_parse.specs.declared.functions.Definition.TheVariants as definition

-- The longest text of a rule stands between two indices, whatever it reads.
pub record Reaches (source : Source) (p : Rule) (from next : ℕ) : Type 0 where
  pub marked : Option ℕ
  pub got : Read
  pub long : LongestMatch (lookahead source) kept_apart source p no_read from next marked got
  pub inside : next ≤ length source.terminals

-- An attribute stands between two indices.
pub record IsAttribute (source : Source) (at next : ℕ) : Type 0 where
  pub long : LongestMatch (lookahead source) kept_apart source attribute no_read at next None
      (reads_node Attribute (position_at source at) (Some (at + 2)) no_read)
  pub end : next ≡ at + 5
  pub inside : next ≤ length source.terminals

-- An attribute that stands at an index, or that none does.
abbrev pub AttributeFound : Source → ℕ → Option ℕ → Type 0
AttributeFound source at (Some next) = IsAttribute source at next
AttributeFound source at None = NoneOf source attribute at

-- What a declarator at an index can be, behind what may stand before it: that of no constructor and no destructor, or
-- that of one, since T:: stands there.
abbrev pub NamedDefinition : Source → ℕ → Definition → Type 0
NamedDefinition source at definition.Ordinary =
    NoneOf source (form (constructor_declarator qualified)) at × NoneOf source (form (destructor_declarator qualified)) at
NamedDefinition source at definition.OfConstructor =
    (is_type_name (terminal_at source at) ≡ true) × (colon_colon (terminal_at source (at + 1)) ≡ true) × NoneOf source
    (form (destructor_declarator qualified)) at
NamedDefinition source at definition.OfDestructor =
    (is_type_name (terminal_at source at) ≡ true) × (colon_colon (terminal_at source (at + 1)) ≡ true) × NoneOf source
    (form (constructor_declarator qualified)) at

-- What a simple declaration at an index can be, since it is none of the others.
abbrev pub OneDefinition : Source → ℕ → Definition → Type 0
OneDefinition source at definition.Ordinary = NoneOf source constructor_definition at × NoneOf source destructor_definition at
OneDefinition source at definition.OfConstructor =
    NoneOf source object_declaration at × NoneOf source function_definition at × NoneOf source destructor_definition at
OneDefinition source at definition.OfDestructor =
    NoneOf source object_declaration at × NoneOf source function_definition at × NoneOf source constructor_definition at

-- Whether extern and a string stand at an index, or not.
abbrev pub LinkageSeen : Source → ℕ → Bool → Type 0
LinkageSeen source at true = (extern_word (terminal_at source at) ≡ true) × (is_string (terminal_at source (at + 1)) ≡ true)
LinkageSeen source at false = NoneOf source (word extern_word · mark is_string) at

-- Whether parameters, or none with ), may stand at an index and no declarator that names something, or the other way round.
abbrev pub ParametersSeen : Source → ℕ → Bool → Type 0
ParametersSeen source at true = NoneOf source named_declarator at
ParametersSeen source at false = NoneOf source (form (parameter_declaration_clause whole) · word close_paren · form function_qualifiers) at

-- Whether no member at an index begins with its type, since it can be a constructor, or whether it can be none.
abbrev pub IsConstructor : Source → ℕ → Bool → Type 0
IsConstructor source at true = NoneOf source (single_declaration ∣ initialized_declaration ∣ listed_declaration ∣ member_function) at
IsConstructor source at false = NoneOf source (constructor_declared ∣ constructor_defined) at

-- Whether a member at an index begins with no type and is no constructor, since it can be a destructor, or whether it can
-- be none.
abbrev pub IsDestructor : Source → ℕ → Bool → Type 0
IsDestructor source at true =
    NoneOf source (single_declaration ∣ initialized_declaration ∣ listed_declaration ∣ member_function ∣ constructor_declared ∣ constructor_defined)
    at
IsDestructor source at false = NoneOf source (destructor_declared ∣ destructor_defined) at
