-- Which constructs are open at a token.
use Rattle.std.specs.Prelude.{ℕ, zero, suc, ◌+◌, ◌<◌, ◌≤◌, nat_lt, Bool, true, false, if◌then◌else◌, List, [], ◌∷◌, length, slice_get, Option, Some, None}
use Rattle.cpp_lex.specs.Tokens.{Lexeme}
use Rattle.cpp_nests.specs.declared.roles.Opened.{Opened}
use Rattle.cpp_nests.specs.declared.roles.Opened.TheVariants as opened
use Rattle.cpp_nests.specs.declared.roles.Role.{Role}
use Rattle.cpp_nests.specs.declared.roles.Role.TheVariants as role
use Rattle.cpp_nests.specs.Roles.{role_of}

-- Lists of open constructs begin with the innermost.

-- how loosely a construct binds: what ends it ends all that binds tighter
abbrev pub rank : Opened → ℕ
rank opened.Operator = 1
rank opened.Assignment = 2
rank opened.Choice = 3
rank opened.Statement = 4
rank opened.If = 5
rank opened.Bracket = 6

-- what stays open where all that binds tighter than a rank is closed
abbrev pub closed_to : ℕ → List Opened → List Opened
closed_to r [] = []
closed_to r (o ∷ os) = if nat_lt (rank o) r then closed_to r os else o ∷ os

-- what stays open where the innermost is closed
abbrev pub rest : List Opened → List Opened
rest [] = []
rest (o ∷ os) = os

-- what a choice is behind its colon, and an if behind its else
abbrev pub turn : Opened → Opened
turn opened.Operator = opened.Operator
turn opened.Assignment = opened.Assignment
turn opened.Choice = opened.Assignment
turn opened.Statement = opened.Statement
turn opened.If = opened.Statement
turn opened.Bracket = opened.Bracket

abbrev pub turned : List Opened → List Opened
turned [] = []
turned (o ∷ os) = turn o ∷ os

-- the rank to which the end of a statement closes: all statements, or none where else follows
abbrev pub ended : Bool → ℕ
ended true = 4
ended false = 6

abbrev pub is_else : Role → Bool
is_else role.Else = true
is_else _ = false

-- What is open behind a token of a role, where an else follows or not.
abbrev pub after : Role → Bool → List Opened → List Opened
after (role.Opens o) e os = o ∷ os
after role.Operand e os = closed_to 2 os
after role.Closes e os = closed_to 2 (rest (closed_to 6 os))
after role.EndsBlock e os = closed_to (ended e) (rest (closed_to 6 os))
after role.Ends e os = closed_to (ended e) os
after role.Separates e os = closed_to 4 os
after role.Divides e os = turned (closed_to 3 os)
after role.Else e os = turned (closed_to 5 os)
after role.Silent e os = os

abbrev pub role_or : Option Lexeme → Role
role_or None = role.Silent
role_or (Some t) = role_of t

-- the role of the token at an index, or none behind the last
abbrev pub role_in : List Lexeme → ℕ → Role
role_in tokens at = role_or (slice_get tokens at)

-- what is open behind the first n tokens
abbrev pub open_behind : List Lexeme → ℕ → List Opened
open_behind tokens zero = []
open_behind tokens (suc n) = after (role_in tokens n) (is_else (role_in tokens (n + 1))) (open_behind tokens n)

-- behind none of the first n tokens more is open than a limit
pub record NoneBefore (limit : ℕ) (tokens : List Lexeme) (n : ℕ) : Type 0 where
  pub each : (k : ℕ) → k ≤ n → length (open_behind tokens k) ≤ limit

-- A token is the first behind which more constructs are open than a limit.
pub record IsNested (limit : ℕ) (tokens : List Lexeme) (token : ℕ) : Type 0 where
  pub inside : token < length tokens
  pub before : NoneBefore limit tokens token
  pub deep : limit < length (open_behind tokens (token + 1))

-- what is found of the tokens
abbrev pub FirstNested : ℕ → List Lexeme → Option ℕ → Type 0
FirstNested limit tokens (Some token) = IsNested limit tokens token
FirstNested limit tokens None = NoneBefore limit tokens (length tokens)
