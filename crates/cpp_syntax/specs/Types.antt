-- Which words are a type, and the other tests on tokens by which lines of the grammar are cut.
use Rattle.std.specs.Prelude.{ℕ, ◌+◌, Bool, true, false, not, nat_le, nat_eq, nat_lt, ◌&&◌, ◌||◌, List, [], ◌∷◌, count_by, slice_range}
use Rattle.std.specs.List.{list_all}
use Rattle.cpp_syntax.specs.declared.terminal.Terminal.{Terminal}
use Rattle.cpp_syntax.specs.declared.terminal.Terminal.TheVariants as terminal
use Rattle.cpp_syntax.specs.Source.{Source, terminal_at}
use Rattle.cpp_syntax.specs.Terminals.{void_word, is_zero, is_name}

-- which words these are

abbrev pub is_sign : Terminal → Bool
is_sign terminal.Signed = true
is_sign terminal.Unsigned = true
is_sign _ = false

abbrev pub is_char : Terminal → Bool
is_char terminal.Char = true
is_char _ = false

abbrev pub is_short : Terminal → Bool
is_short terminal.Short = true
is_short _ = false

abbrev pub is_int : Terminal → Bool
is_int terminal.Int = true
is_int _ = false

abbrev pub is_long : Terminal → Bool
is_long terminal.Long = true
is_long _ = false

abbrev pub is_integer_word : Terminal → Bool
is_integer_word s = is_sign s || is_char s || is_short s || is_int s || is_long s

-- How words of an integer type may come together (C++14 table 10), with how many signs, char, short, int and long there
-- are: a sign at most; char with no other word; short once or long twice at most, and not both; int once at most.
abbrev pub is_combination : ℕ → ℕ → ℕ → ℕ → ℕ → Bool
is_combination signs chars shorts ints longs =
    nat_le signs 1 && nat_le chars 1 && nat_le shorts 1 && nat_le ints 1 && nat_le longs 2
    && (nat_eq chars 0 || nat_eq (shorts + ints + longs) 0) && (nat_eq shorts 0 || nat_eq longs 0)

-- the words of one type: void, bool or auto alone, or those of an integer type in any order
abbrev pub is_spelling : List Terminal → Bool
is_spelling [] = false
is_spelling (terminal.Void ∷ []) = true
is_spelling (terminal.Bool ∷ []) = true
is_spelling (terminal.Auto ∷ []) = true
is_spelling words =
    list_all is_integer_word words && is_combination (count_by is_sign words) (count_by is_char words) (count_by is_short words)
    (count_by is_int words) (count_by is_long words)

-- the tokens between two indices spell a type
abbrev pub spells_a_type : Source → ℕ → ℕ → Bool
spells_a_type source a b = is_spelling (slice_range source.terminals a b)

-- they are not void alone
abbrev pub is_not_void : Source → ℕ → ℕ → Bool
is_not_void source a b = not (void_word (terminal_at source a) && nat_eq b (a + 1))

-- something stands in the parentheses
abbrev pub holds_something : Source → ℕ → ℕ → Bool
holds_something source a b = nat_lt (a + 2) b

-- they are not 0 alone
abbrev pub is_not_zero : Source → ℕ → ℕ → Bool
is_not_zero source a b = not (is_zero (terminal_at source a) && nat_eq b (a + 1))

-- no name follows
abbrev pub is_before_no_name : Source → ℕ → ℕ → Bool
is_before_no_name source a b = not (is_name (terminal_at source b))
