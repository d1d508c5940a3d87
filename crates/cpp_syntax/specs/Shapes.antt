-- What recognisers of shapes answer: the longest text of a rule, whose trees nobody reads.
use Rattle.std.specs.Prelude.{◌≡◌, ℕ, ◌+◌, ◌≤◌, ◌<◌, Bool, true, false, ◌&&◌, ◌||◌, List, length, get_or, Option, Some, None, Result, Ok, Err}
use Rattle.std.specs.declared.alloc.AllocError.{AllocError}
use Rattle.cpp_syntax.specs.Source.{Source, terminal_at}
use Rattle.cpp_syntax.specs.Terminals.{is_name, is_type_name, is_type_word, std, tx_exception_word, colon_colon, less, open_paren, close_paren}
use Rattle.cpp_syntax.specs.Types.{spells_a_type}
use Rattle.cpp_syntax.specs.Balance.{partner_in}
use Rattle.cpp_syntax.specs.Names.{may_name}
use Rattle.cpp_syntax.specs.Rules.{by_shape, Naming, named, unnamed, either, in_block, type_id, parameter_declaration_clause, parameters, Lookahead, Rule, form}
use Rattle.cpp_syntax.specs.Grammar.{declarator_id, declarator_head}
use Rattle.cpp_syntax.specs.Derivations.{Read, no_read, kept_apart}
use Rattle.cpp_syntax.specs.FirstSets.{need_not_name}
use Rattle.cpp_syntax.specs.Lookahead.{lookahead_types, InParentheses, BeginsOperand}
use Rattle.cpp_syntax.specs.Longest.{LongestMatch, NoDerivation}

-- The longest text of a rule, from one index to another, behind what was read before.
pub record SpansBehind (source : Source) (p : Rule) (before : Read) (from next : ℕ) : Type 0 where
  pub marked : Option ℕ
  pub got : Read
  pub long : LongestMatch (lookahead_types source) kept_apart source p before from next marked got

abbrev pub Spans : Source → Rule → ℕ → ℕ → Type 0
Spans source p from next = SpansBehind source p no_read from next

abbrev pub NoSpan : Source → Rule → ℕ → Type 0
NoSpan source p from = NoDerivation (lookahead_types source) kept_apart source p no_read from

-- The index behind the longest text of a rule, or that there is none. Where calls may not be nested further nothing is said.
abbrev pub Recognised : Source → Rule → ℕ → Result (Option ℕ) AllocError → Type 0
Recognised source p from (Ok (Some next)) = Spans source p from next
Recognised source p from (Ok None) = NoSpan source p from
Recognised source p from (Err e) = Unit {0}

-- The same of a suffix, which makes a node round what was read before.
abbrev pub RecognisedBehind : Source → Rule → Read → ℕ → Option ℕ → Type 0
RecognisedBehind source p before from (Some next) = SpansBehind source p before from next
RecognisedBehind source p before from None = NoDerivation (lookahead_types source) kept_apart source p before from

-- Of a rule that has a text everywhere.
abbrev pub AlwaysRecognised : Source → Rule → ℕ → Result ℕ AllocError → Type 0
AlwaysRecognised source p from (Ok next) = Spans source p from next
AlwaysRecognised source p from (Err e) = Unit {0}

-- Parameters in parentheses.

-- the parentheses at two indices hold the longest parameters behind the first
pub record ParametersAt (source : Source) (a b : ℕ) : Type 0 where
  pub opened : open_paren (terminal_at source a) ≡ true
  pub spans : Spans source (form (parameter_declaration_clause by_shape)) (a + 1) b
  pub closed : close_paren (terminal_at source b) ≡ true

-- the index of the ) behind parameters, or that there are none
abbrev pub KnownAt : Source → ℕ → Option ℕ → Type 0
KnownAt source a (Some b) = ParametersAt source a b
KnownAt source a None = lookahead_types source parameters a → ⊥

abbrev pub ParametersFound : Source → ℕ → Result (Option ℕ) AllocError → Type 0
ParametersFound source a (Ok found) = KnownAt source a found
ParametersFound source a (Err e) = Unit {0}

-- A table has for each index from one on, that is a ( before parameters, the index of the ) behind them, and for each
-- other its own.
abbrev pub KnownFrom : Source → List ℕ → ℕ → Type 0
KnownFrom source table a = (c : ℕ) → a ≤ c → KnownAt source c (partner_in table c)

-- each index has itself
pub record OwnIndices (table : List ℕ) (len : ℕ) : Type 0 where
  pub size : length table ≡ len
  pub own : (c : ℕ) → c < len → get_or table c 0 ≡ c

-- a table of as many indices as there are tokens, that is known from one on, and has itself at each before
pub record KnownBelow (source : Source) (table : List ℕ) (a : ℕ) : Type 0 where
  pub size : length table ≡ length source.terminals
  pub own : (c : ℕ) → c < a → c < length table → get_or table c 0 ≡ c
  pub known : KnownFrom source table a

-- the same of the index behind the )
pub record BehindParameters (source : Source) (a next : ℕ) : Type 0 where
  pub close : ℕ
  pub behind : next ≡ close + 1
  pub held : ParametersAt source a close

abbrev pub ParametersPassed : Source → ℕ → Option ℕ → Type 0
ParametersPassed source a (Some next) = BehindParameters source a next
ParametersPassed source a None = lookahead_types source parameters a → ⊥

-- A type in parentheses.

-- a type in parentheses ends before an index, and there is one way to read one
pub record BehindType (source : Source) (a next : ℕ) : Type 0 where
  pub close : ℕ
  pub behind : next ≡ close + 1
  pub held : InParentheses source (type_id by_shape) a close
  pub only : (b : ℕ) → InParentheses source (type_id by_shape) a b → b ≡ close

abbrev pub TypeFound : Source → ℕ → Result (Option ℕ) AllocError → Type 0
TypeFound source a (Ok (Some next)) = BehindType source a next
TypeFound source a (Ok None) = (b : ℕ) → InParentheses source (type_id by_shape) a b → ⊥
TypeFound source a (Err e) = Unit {0}

-- Names and words.

-- T::N stands at an index
abbrev pub is_qualified_name_at : Source → ℕ → Bool
is_qualified_name_at source a = is_type_name (terminal_at source a) && colon_colon (terminal_at source (a + 1)) && is_name (terminal_at source (a + 2))

-- N or T::N does, which a declarator may declare
abbrev pub begins_name_at : Source → ℕ → Bool
begins_name_at source a = is_name (terminal_at source a) || is_qualified_name_at source a

-- std::tx_exception< stands at an index
abbrev pub begins_thrown_at : Source → ℕ → Bool
begins_thrown_at source a =
    std (terminal_at source a) && colon_colon (terminal_at source (a + 1)) && tx_exception_word (terminal_at source (a + 2)) && less
    (terminal_at source (a + 3))

-- the index behind std::tx_exception<
pub record BehindThrown (source : Source) (a next : ℕ) : Type 0 where
  pub begins : begins_thrown_at source a ≡ true
  pub behind : next ≡ a + 4
  pub inside : next ≤ length source.terminals

abbrev pub ThrownFound : Source → ℕ → Option ℕ → Type 0
ThrownFound source a (Some next) = BehindThrown source a next
ThrownFound source a None = begins_thrown_at source a ≡ false

-- all tokens from one index to another are words of types
abbrev pub AreTypeWords : Source → ℕ → ℕ → Type 0
AreTypeWords source a b = (c : ℕ) → a ≤ c → c < b → is_type_word (terminal_at source c) ≡ true

-- The words between two indices spell a type, and with more words behind them they spell none. There are none where no
-- word of a type stands.
pub record BehindWords (source : Source) (a b : ℕ) : Type 0 where
  pub ahead : a ≤ b
  pub inside : a ≤ length source.terminals → b ≤ length source.terminals
  pub words : AreTypeWords source a b
  pub begins : is_type_word (terminal_at source a) ≡ true → a < b
  pub spells : a < b → spells_a_type source a b ≡ true
  pub no_more : (c : ℕ) → b < c → AreTypeWords source a c → spells_a_type source a c ≡ false

-- Declarators by their shape are those outside blocks.
abbrev pub is_outside_blocks : Naming → Bool
is_outside_blocks in_block = false
is_outside_blocks _ = true

-- the index behind a declared name, where a declarator may have one
abbrev pub IdFound : Source → Naming → ℕ → Option ℕ → Type 0
IdFound source naming from (Some next) = (may_name naming ≡ true) × Spans source declarator_id from next
IdFound source naming from None = may_name naming ≡ true → NoSpan source declarator_id from

-- What a declarator has before its bounds and parameters ends at an index, or there is none, and it need not be there.
pub data HeadAt (source : Source) (naming : Naming) (from next : ℕ) : Type 0 where
  has_head : Spans source (declarator_head by_shape naming) from next → HeadAt source naming from next
  has_none : next ≡ from → need_not_name naming ≡ true → NoSpan source (declarator_head by_shape naming) from → HeadAt source naming from next

abbrev pub HeadFound : Source → Naming → ℕ → Result (Option ℕ) AllocError → Type 0
HeadFound source naming from (Ok (Some next)) = HeadAt source naming from next
HeadFound source naming from (Ok None) = (need_not_name naming ≡ false) × NoSpan source (declarator_head by_shape naming) from
HeadFound source naming from (Err e) = Unit {0}
