-- The tokens of a unit as the grammar sees them.
use Rattle.std.specs.Prelude.{ℕ, ◌+◌, Bool, true, false, List, [], ◌∷◌, ◌&&◌, ◌||◌, codes, length, map, take, slice_get, slice_index_or, get_or, Option, Some}
use Rattle.std.specs.Prelude.{None, if◌then◌else◌, zero, suc}
use Rattle.std.specs.List.{list_any}
use Rattle.std.specs.Str.{bytes_eq}
use Rattle.cpp_lex.specs.Tokens.{Lexeme}
use Rattle.cpp_lex.specs.declared.TokKind.{TokKind}
use Rattle.cpp_lex.specs.declared.TokKind.TheVariants as token
use Rattle.cpp_ast.specs.declared.arena.At.{At}
use Rattle.cpp_syntax.specs.declared.terminal.Terminal.{Terminal}
use Rattle.cpp_syntax.specs.declared.terminal.Terminal.TheVariants as terminal

-- The tokens of a source: what each is to the grammar, where each begins, the byte behind the last, and the number of the source.
pub record Source : Type 0 where
  pub number : ℕ
  pub terminals : List Terminal
  pub begins : List ℕ
  pub ends : ℕ

-- the terminal at an index
abbrev pub terminal_at : Source → ℕ → Terminal
terminal_at source a = slice_index_or source.terminals a terminal.End

-- the position in the text of the token at an index, or of what is behind the last
abbrev pub position_at : Source → ℕ → At
position_at source a = record { source = source.number; offset = slice_index_or source.begins a source.ends }
