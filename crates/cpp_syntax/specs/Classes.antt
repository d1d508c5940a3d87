-- What each token of a unit is to the grammar.
use Rattle.std.specs.Prelude.{ℕ, zero, suc, ◌+◌, nat_lt, Bool, true, false, ◌&&◌, List, [], ◌∷◌, ◌++◌, codes, if◌then◌else◌, Option, Some, None, length, map}
use Rattle.std.specs.Prelude.{slice_get}
use Rattle.std.specs.Str.{bytes_eq}
use Rattle.cpp_lex.specs.Tokens.{Lexeme}
use Rattle.cpp_lex.specs.declared.TokKind.{TokKind}
use Rattle.cpp_lex.specs.declared.TokKind.TheVariants as token
use Rattle.cpp_syntax.specs.declared.terminal.Terminal.{Terminal}
use Rattle.cpp_syntax.specs.declared.terminal.Terminal.TheVariants as terminal
use Rattle.cpp_syntax.specs.Terminals.{as_type_name, before_type_name}
use Rattle.cpp_syntax.specs.Source.{Source}

-- a spelling and what it is
pub record Spelled : Type 0 where
  pub word : List ℕ
  pub terminal : Terminal

-- The keywords that forms use: C++14 [lex.key], and ISO/IEC TS 19841:2015.
unfoldable pub keys : List Spelled
keys =
    record { word = codes "true"; terminal = terminal.True }
    ∷ record { word = codes "false"; terminal = terminal.False }
    ∷ record { word = codes "nullptr"; terminal = terminal.Nullptr }
    ∷ record { word = codes "void"; terminal = terminal.Void }
    ∷ record { word = codes "bool"; terminal = terminal.Bool }
    ∷ record { word = codes "auto"; terminal = terminal.Auto }
    ∷ record { word = codes "char"; terminal = terminal.Char }
    ∷ record { word = codes "short"; terminal = terminal.Short }
    ∷ record { word = codes "int"; terminal = terminal.Int }
    ∷ record { word = codes "long"; terminal = terminal.Long }
    ∷ record { word = codes "signed"; terminal = terminal.Signed }
    ∷ record { word = codes "unsigned"; terminal = terminal.Unsigned }
    ∷ record { word = codes "const"; terminal = terminal.Const }
    ∷ record { word = codes "volatile"; terminal = terminal.Volatile }
    ∷ record { word = codes "this"; terminal = terminal.This }
    ∷ record { word = codes "sizeof"; terminal = terminal.Sizeof }
    ∷ record { word = codes "static_cast"; terminal = terminal.StaticCast }
    ∷ record { word = codes "throw"; terminal = terminal.Throw }
    ∷ record { word = codes "mutable"; terminal = terminal.Mutable }
    ∷ record { word = codes "noexcept"; terminal = terminal.Noexcept }
    ∷ record { word = codes "using"; terminal = terminal.Using }
    ∷ record { word = codes "class"; terminal = terminal.Class }
    ∷ record { word = codes "struct"; terminal = terminal.Struct }
    ∷ record { word = codes "enum"; terminal = terminal.Enum }
    ∷ record { word = codes "static"; terminal = terminal.Static }
    ∷ record { word = codes "extern"; terminal = terminal.Extern }
    ∷ record { word = codes "inline"; terminal = terminal.Inline }
    ∷ record { word = codes "virtual"; terminal = terminal.Virtual }
    ∷ record { word = codes "explicit"; terminal = terminal.Explicit }
    ∷ record { word = codes "public"; terminal = terminal.Public }
    ∷ record { word = codes "protected"; terminal = terminal.Protected }
    ∷ record { word = codes "private"; terminal = terminal.Private }
    ∷ record { word = codes "if"; terminal = terminal.If }
    ∷ record { word = codes "else"; terminal = terminal.Else }
    ∷ record { word = codes "while"; terminal = terminal.While }
    ∷ record { word = codes "do"; terminal = terminal.Do }
    ∷ record { word = codes "for"; terminal = terminal.For }
    ∷ record { word = codes "switch"; terminal = terminal.Switch }
    ∷ record { word = codes "case"; terminal = terminal.Case }
    ∷ record { word = codes "default"; terminal = terminal.Default }
    ∷ record { word = codes "break"; terminal = terminal.Break }
    ∷ record { word = codes "continue"; terminal = terminal.Continue }
    ∷ record { word = codes "return"; terminal = terminal.Return }
    ∷ record { word = codes "try"; terminal = terminal.Try }
    ∷ record { word = codes "catch"; terminal = terminal.Catch }
    ∷ record { word = codes "synchronized"; terminal = terminal.Synchronized }
    ∷ record { word = codes "atomic_noexcept"; terminal = terminal.AtomicNoexcept }
    ∷ record { word = codes "atomic_cancel"; terminal = terminal.AtomicCancel }
    ∷ record { word = codes "atomic_commit"; terminal = terminal.AtomicCommit }
    ∷ []

-- The operators and punctuators that forms use: C++14 [lex.operators].
unfoldable pub puncts : List Spelled
puncts =
    record { word = codes "("; terminal = terminal.OpenParen }
    ∷ record { word = codes ")"; terminal = terminal.CloseParen }
    ∷ record { word = codes "["; terminal = terminal.OpenBracket }
    ∷ record { word = codes "]"; terminal = terminal.CloseBracket }
    ∷ record { word = codes "{"; terminal = terminal.OpenBrace }
    ∷ record { word = codes "}"; terminal = terminal.CloseBrace }
    ∷ record { word = codes ";"; terminal = terminal.Semicolon }
    ∷ record { word = codes ","; terminal = terminal.Comma }
    ∷ record { word = codes ":"; terminal = terminal.Colon }
    ∷ record { word = codes "::"; terminal = terminal.ColonColon }
    ∷ record { word = codes "?"; terminal = terminal.Question }
    ∷ record { word = codes "."; terminal = terminal.Dot }
    ∷ record { word = codes "->"; terminal = terminal.Arrow }
    ∷ record { word = codes "..."; terminal = terminal.Ellipsis }
    ∷ record { word = codes "+"; terminal = terminal.Plus }
    ∷ record { word = codes "-"; terminal = terminal.Minus }
    ∷ record { word = codes "*"; terminal = terminal.Star }
    ∷ record { word = codes "/"; terminal = terminal.Slash }
    ∷ record { word = codes "%"; terminal = terminal.Percent }
    ∷ record { word = codes "^"; terminal = terminal.Caret }
    ∷ record { word = codes "&"; terminal = terminal.Amp }
    ∷ record { word = codes "|"; terminal = terminal.Bar }
    ∷ record { word = codes "~"; terminal = terminal.Tilde }
    ∷ record { word = codes "!"; terminal = terminal.Bang }
    ∷ record { word = codes "<"; terminal = terminal.Less }
    ∷ record { word = codes ">"; terminal = terminal.Greater }
    ∷ record { word = codes "<<"; terminal = terminal.ShiftLeft }
    ∷ record { word = codes ">>"; terminal = terminal.ShiftRight }
    ∷ record { word = codes "=="; terminal = terminal.EqualEqual }
    ∷ record { word = codes "!="; terminal = terminal.NotEqual }
    ∷ record { word = codes "<="; terminal = terminal.LessEqual }
    ∷ record { word = codes ">="; terminal = terminal.GreaterEqual }
    ∷ record { word = codes "&&"; terminal = terminal.AmpAmp }
    ∷ record { word = codes "||"; terminal = terminal.BarBar }
    ∷ record { word = codes "++"; terminal = terminal.PlusPlus }
    ∷ record { word = codes "--"; terminal = terminal.MinusMinus }
    ∷ record { word = codes "="; terminal = terminal.Equal }
    ∷ record { word = codes "+="; terminal = terminal.PlusEqual }
    ∷ record { word = codes "-="; terminal = terminal.MinusEqual }
    ∷ record { word = codes "*="; terminal = terminal.StarEqual }
    ∷ record { word = codes "/="; terminal = terminal.SlashEqual }
    ∷ record { word = codes "%="; terminal = terminal.PercentEqual }
    ∷ record { word = codes "^="; terminal = terminal.CaretEqual }
    ∷ record { word = codes "&="; terminal = terminal.AmpEqual }
    ∷ record { word = codes "|="; terminal = terminal.BarEqual }
    ∷ record { word = codes "<<="; terminal = terminal.ShiftLeftEqual }
    ∷ record { word = codes ">>="; terminal = terminal.ShiftRightEqual }
    ∷ []

-- The names that have a meaning of their own in some indices.
unfoldable pub special_names : List Spelled
special_names =
    record { word = codes "abort"; terminal = terminal.Abort }
    ∷ record { word = codes "tx_exception"; terminal = terminal.TxException }
    ∷ record { word = codes "optimize_for_synchronized"; terminal = terminal.OptimizeForSynchronized }
    ∷ record { word = codes "override"; terminal = terminal.Override }
    ∷ record { word = codes "final"; terminal = terminal.Final }
    ∷ record { word = codes "transaction_safe"; terminal = terminal.TransactionSafe }
    ∷ record { word = codes "transaction_safe_dynamic"; terminal = terminal.TransactionSafeDynamic }
    ∷ []

-- what a spelling is by a table, or otherwise
abbrev pub terminal_by : List Spelled → List ℕ → Terminal → Terminal
terminal_by [] word otherwise = otherwise
terminal_by (row ∷ rows) word otherwise = if bytes_eq row.word word then row.terminal else terminal_by rows word otherwise

unfoldable pub key_terminal : List ℕ → Terminal
key_terminal word = terminal_by keys word terminal.Other

unfoldable pub punct_terminal : List ℕ → Terminal
punct_terminal word = terminal_by puncts word terminal.Other

unfoldable pub integer_terminal : List ℕ → Terminal
integer_terminal word = if bytes_eq word (codes "0") then terminal.Zero else terminal.Integer

-- a name by its spelling alone, before :: or not
unfoldable pub name_terminal : List ℕ → Bool → Terminal
name_terminal word qualifies = if qualifies && bytes_eq word (codes "std") then terminal.Std else terminal_by special_names word terminal.Name

-- the terminals of class, struct, enum and using
abbrev pub is_introducer : Terminal → Bool
is_introducer terminal.Class = true
is_introducer terminal.Struct = true
is_introducer terminal.Enum = true
is_introducer terminal.Using = true
is_introducer _ = false

abbrev pub is_colon_colon : Terminal → Bool
is_colon_colon terminal.ColonColon = true
is_colon_colon _ = false

abbrev pub is_key : TokKind → Bool
is_key token.Key = true
is_key _ = false

abbrev pub is_punct : TokKind → Bool
is_punct token.Punct = true
is_punct _ = false

abbrev pub is_name_token : TokKind → Bool
is_name_token token.Name = true
is_name_token _ = false

-- a token is class, struct, enum or using, and is ::
abbrev pub introduces : Option Lexeme → Bool
introduces None = false
introduces (Some t) = is_key t.kind && is_introducer (key_terminal t.bytes)

abbrev pub qualifies : Option Lexeme → Bool
qualifies None = false
qualifies (Some t) = is_punct t.kind && is_colon_colon (punct_terminal t.bytes)

-- the token at an index stands directly behind class, struct, enum or using
abbrev pub is_introduced : List Lexeme → ℕ → Bool
is_introduced tokens zero = false
is_introduced tokens (suc k) = introduces (slice_get tokens k)

-- the word is there a name that becomes the name of a type
abbrev is_word : Option Lexeme → List ℕ → Bool
is_word None word = false
is_word (Some t) word = is_name_token t.kind && bytes_eq t.bytes word

abbrev pub names_type : List Lexeme → List ℕ → ℕ → Bool
names_type tokens word k = is_introduced tokens k && is_word (slice_get tokens k) word

-- the first of the first n indices at which the word becomes the name of a type
abbrev pub or_here : Option ℕ → Bool → ℕ → Option ℕ
or_here (Some index) here k = Some index
or_here None here k = if here then Some k else None

abbrev pub type_index : List Lexeme → List ℕ → ℕ → Option ℕ
type_index tokens word zero = None
type_index tokens word (suc k) = or_here (type_index tokens word k) (names_type tokens word k) k

-- A name behind class, struct, enum or using is read by its spelling, and so is one that never becomes the name of a type.
-- Any other is the name of a type behind the index where it becomes that, and is nothing before.
abbrev pub name_class : Bool → Option ℕ → ℕ → Terminal → Terminal
name_class true index k otherwise = otherwise
name_class false None k otherwise = otherwise
name_class false (Some index) k otherwise = if nat_lt index k then as_type_name otherwise else before_type_name otherwise

-- what a token of a kind at an index is
abbrev pub class_by : List Lexeme → ℕ → TokKind → List ℕ → Terminal
class_by tokens k token.Name word =
    name_class (is_introduced tokens k) (type_index tokens word (length tokens)) k (name_terminal word (qualifies (slice_get tokens (k + 1))))
class_by tokens k token.Key word = key_terminal word
class_by tokens k token.Punct word = punct_terminal word
class_by tokens k token.Int word = integer_terminal word
class_by tokens k token.Char word = terminal.Character
class_by tokens k token.Str word = terminal.String

abbrev class_or_end : List Lexeme → ℕ → Option Lexeme → Terminal
class_or_end tokens k None = terminal.End
class_or_end tokens k (Some t) = class_by tokens k t.kind t.bytes

-- what the token at an index is
abbrev pub class_at : List Lexeme → ℕ → Terminal
class_at tokens k = class_or_end tokens k (slice_get tokens k)

-- the values of the first n numbers
abbrev pub each_below : {A : Type 0} → (ℕ → A) → ℕ → List A
each_below f zero = []
each_below f (suc n) = each_below f n ++ f n ∷ []

-- the terminals of tokens
abbrev pub terminals_of : List Lexeme → List Terminal
terminals_of tokens = each_below (class_at tokens) (length tokens)

-- the byte behind the last token, or 0
abbrev pub end_of : List Lexeme → ℕ
end_of [] = 0
end_of (t ∷ []) = t.to
end_of (t ∷ s ∷ tokens) = end_of (s ∷ tokens)

-- the tokens of a source of a number as the grammar sees them
abbrev pub source_of : ℕ → List Lexeme → Source
source_of number tokens = record { number = number; terminals = terminals_of tokens; begins = map (λ (t : Lexeme). t.from) tokens; ends = end_of tokens }

-- the tokens that are kept of a source, in a source of a number
abbrev pub source_in : ℕ → Source → Source
source_in number source = record { number = number; terminals = source.terminals; begins = source.begins; ends = source.ends }
