-- The units that texts are, or the first text that is none.
use Rattle.std.specs.Prelude.{◌≡◌, ℕ, suc, List, [], ◌∷◌, ◌++◌, length, Option, Some, None, slice_get}
use Rattle.cpp_ast.specs.declared.units.Unit.{Unit as UnitRecord}
use Rattle.cpp_lex.specs.Tokens.{Lexeme, IsTokens, IsFaultAt}
use Rattle.cpp_parse.specs.Units.{IsUnitRead, IsNoUnit, NestsTooDeep}
use Rattle.source_verdict.specs.declared.front.FrontFault.{FrontFault}
use Rattle.source_verdict.specs.declared.front.FrontFault.TheVariants.{Lex, Syntax, Nesting, Memory}
use Rattle.source_verdict.specs.declared.front.Unread.{Unread}

-- the unit was read from the text, which is the source with this number
pub record IsRead (number : ℕ) (text : List ℕ) (unit : UnitRecord) : Type 0 where
  pub tokens : List Lexeme
  pub lexed : IsTokens text tokens
  pub parsed : IsUnitRead number tokens unit

abbrev pub begin_of : Option Lexeme → ℕ → ℕ
begin_of (Some token) end = token.from
begin_of None end = end

-- the offset of a token; of the one behind the last the end of the text
abbrev pub offset_of : List Lexeme → ℕ → ℕ → ℕ
offset_of tokens end token = begin_of (slice_get tokens token) end

-- the tokens of the text are no unit; the fault stands at one of them
pub record HasNoUnit (number : ℕ) (text : List ℕ) (offset : ℕ) : Type 0 where
  pub tokens : List Lexeme
  pub lexed : IsTokens text tokens
  pub token : ℕ
  pub none : IsNoUnit number tokens token
  pub at : offset ≡ offset_of tokens (length text) token

pub record IsTooDeep (number : ℕ) (text : List ℕ) (offset : ℕ) : Type 0 where
  pub tokens : List Lexeme
  pub lexed : IsTokens text tokens
  pub token : ℕ
  pub nests : NestsTooDeep number tokens token
  pub at : offset ≡ offset_of tokens (length text) token

-- why a text was not read; want of memory says nothing
abbrev pub IsNotRead : ℕ → List ℕ → FrontFault → Type 0
IsNotRead number text (Lex offset) = IsFaultAt text offset
IsNotRead number text (Syntax offset) = HasNoUnit number text offset
IsNotRead number text (Nesting offset) = IsTooDeep number text offset
IsNotRead number text Memory = Unit {0}

-- the units were read from the texts, whose numbers begin here
abbrev pub AreRead : ℕ → List (List ℕ) → List UnitRecord → Type 0
AreRead number [] [] = Unit {0}
AreRead number [] (unit ∷ units) = ⊥
AreRead number (text ∷ texts) [] = ⊥
AreRead number (text ∷ texts) (unit ∷ units) = IsRead number text unit × AreRead (suc number) texts units

-- the texts before the one with this index are units, and it is none
pub record IsFirstUnread (texts : List (List ℕ)) (u : Unread) : Type 0 where
  pub before : List (List ℕ)
  pub text : List ℕ
  pub after : List (List ℕ)
  pub units : List UnitRecord
  pub cut : texts ≡ before ++ text ∷ after
  pub index_is : u.index ≡ length before
  pub read : AreRead 0 before units
  pub unread : IsNotRead u.index text u.fault
