-- What a token does to the nest of constructs that are open, by its spelling alone.
use Rattle.std.specs.Prelude.{ℕ, if◌then◌else◌, List, [], ◌∷◌, codes}
use Rattle.std.specs.Str.{bytes_eq}
use denote.Ref.{Bor}
use Rattle.cpp_lex.specs.declared.TokKind.{TokKind}
use Rattle.cpp_lex.specs.declared.TokKind.TheVariants as token
use Rattle.cpp_lex.specs.Tokens.{Lexeme}
use Rattle.cpp_nests.specs.declared.roles.Opened.TheVariants as opened
use Rattle.cpp_nests.specs.declared.roles.Role.{Role}
use Rattle.cpp_nests.specs.declared.roles.Role.TheVariants as role

-- a spelling and its role
pub record Spelled : Type 0 where
  pub word : List ℕ
  pub role : Role

-- what a row of a table shows
abbrev pub spelled_of : Bor (List ℕ) × Role → Spelled
spelled_of row = record { word = row.0.now; role = row.1 }

-- Keywords that open something, that end it, or that stand between an operator and its operand. All others are operands.
unfoldable pub keys : List Spelled
keys =
    record { word = codes "if"; role = role.Opens opened.If }
    ∷ record { word = codes "else"; role = role.Else }
    ∷ record { word = codes "while"; role = role.Opens opened.Statement }
    ∷ record { word = codes "do"; role = role.Opens opened.Statement }
    ∷ record { word = codes "for"; role = role.Opens opened.Statement }
    ∷ record { word = codes "case"; role = role.Opens opened.Statement }
    ∷ record { word = codes "default"; role = role.Opens opened.Statement }
    ∷ record { word = codes "throw"; role = role.Opens opened.Assignment }
    ∷ record { word = codes "sizeof"; role = role.Opens opened.Operator }
    ∷ record { word = codes "const"; role = role.Silent }
    ∷ record { word = codes "volatile"; role = role.Silent }
    ∷ []

-- Brackets, separators and the operators that may stand before an operand. Others do nothing: their right operand counts as
-- their left one does.
unfoldable pub puncts : List Spelled
puncts =
    record { word = codes "("; role = role.Opens opened.Bracket }
    ∷ record { word = codes "["; role = role.Opens opened.Bracket }
    ∷ record { word = codes "{"; role = role.Opens opened.Bracket }
    ∷ record { word = codes ")"; role = role.Closes }
    ∷ record { word = codes "]"; role = role.Closes }
    ∷ record { word = codes "}"; role = role.EndsBlock }
    ∷ record { word = codes ";"; role = role.Ends }
    ∷ record { word = codes ","; role = role.Separates }
    ∷ record { word = codes ":"; role = role.Divides }
    ∷ record { word = codes "?"; role = role.Opens opened.Choice }
    ∷ record { word = codes "!"; role = role.Opens opened.Operator }
    ∷ record { word = codes "~"; role = role.Opens opened.Operator }
    ∷ record { word = codes "+"; role = role.Opens opened.Operator }
    ∷ record { word = codes "-"; role = role.Opens opened.Operator }
    ∷ record { word = codes "*"; role = role.Opens opened.Operator }
    ∷ record { word = codes "&"; role = role.Opens opened.Operator }
    ∷ record { word = codes "="; role = role.Opens opened.Assignment }
    ∷ record { word = codes "+="; role = role.Opens opened.Assignment }
    ∷ record { word = codes "-="; role = role.Opens opened.Assignment }
    ∷ record { word = codes "*="; role = role.Opens opened.Assignment }
    ∷ record { word = codes "/="; role = role.Opens opened.Assignment }
    ∷ record { word = codes "%="; role = role.Opens opened.Assignment }
    ∷ record { word = codes "^="; role = role.Opens opened.Assignment }
    ∷ record { word = codes "&="; role = role.Opens opened.Assignment }
    ∷ record { word = codes "|="; role = role.Opens opened.Assignment }
    ∷ record { word = codes "<<="; role = role.Opens opened.Assignment }
    ∷ record { word = codes ">>="; role = role.Opens opened.Assignment }
    ∷ []

-- the role of a spelling by a table, or otherwise
abbrev pub role_by : List Spelled → List ℕ → Role → Role
role_by [] word otherwise = otherwise
role_by (row ∷ rows) word otherwise = if bytes_eq row.word word then row.role else role_by rows word otherwise

unfoldable pub key_role : List ℕ → Role
key_role word = role_by keys word role.Operand

unfoldable pub punct_role : List ℕ → Role
punct_role word = role_by puncts word role.Silent

-- the role of a token of a kind
abbrev pub role_as : TokKind → List ℕ → Role
role_as token.Key word = key_role word
role_as token.Punct word = punct_role word
role_as token.Name word = role.Operand
role_as token.Int word = role.Operand
role_as token.Char word = role.Operand
role_as token.Str word = role.Operand

abbrev pub role_of : Lexeme → Role
role_of t = role_as t.kind t.bytes
