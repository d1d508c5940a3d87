-- How many words of each sort an integer type has, while its words are read.
use Rattle.std.specs.Prelude.{◌≡◌, ℕ, ◌+◌, ◌≤◌, ◌<◌, Bool, true, false, ◌&&◌, List, length, count_by, slice_range, Option, Some, None}
use Rattle.cpp_syntax.specs.declared.terminal.Terminal.{Terminal}
use Rattle.cpp_syntax.specs.declared.terminal.Terminal.TheVariants as terminal
use Rattle.cpp_syntax.specs.declared.type_words.Words.{Words}
use Rattle.cpp_syntax.specs.Source.{Source, terminal_at}
use Rattle.cpp_syntax.specs.Types.{is_sign, is_char, is_short, is_int, is_long, is_integer_word, is_combination}

abbrev pub tally_of : List Terminal → Words
tally_of words =
    record {
      signs = count_by is_sign words;
      chars = count_by is_char words;
      shorts = count_by is_short words;
      ints = count_by is_int words;
      longs =
          count_by is_long words;
    }

-- such words may come together
abbrev pub is_tally : Words → Bool
is_tally w = is_combination w.signs w.chars w.shorts w.ints w.longs

-- one word more
abbrev pub with_word : Words → Terminal → Words
with_word w terminal.Signed = record w { signs = w.signs + 1 }
with_word w terminal.Unsigned = record w { signs = w.signs + 1 }
with_word w terminal.Char = record w { chars = w.chars + 1 }
with_word w terminal.Short = record w { shorts = w.shorts + 1 }
with_word w terminal.Int = record w { ints = w.ints + 1 }
with_word w terminal.Long = record w { longs = w.longs + 1 }
with_word w _ = w

-- a word that may come to these
abbrev pub may_come : Words → Terminal → Bool
may_come w s = is_integer_word s && is_tally (with_word w s)

abbrev pub WordCame : Words → Terminal → Option Words → Type 0
WordCame w s (Some more) = (more ≡ with_word w s) × (may_come w s ≡ true)
WordCame w s None = may_come w s ≡ false

-- the words between two indices are of an integer type, as many as there are
pub record IntegerWords (source : Source) (a b : ℕ) : Type 0 where
  pub ahead : a ≤ b
  pub words : (c : ℕ) → a ≤ c → c < b → is_integer_word (terminal_at source c) ≡ true
  pub together : is_tally (tally_of (slice_range source.terminals a b)) ≡ true
  pub no_more : may_come (tally_of (slice_range source.terminals a b)) (terminal_at source b) ≡ false
