-- Statements that end where a word does not follow: an if without else, and the handlers of a try.
use Rattle.std.proofs.Common.{◌≡◌, ℕ, true, refl, Option, None}
use Rattle.cpp_ast.specs.declared.kinds.NodeKind.TheVariants.{IfStatement}
use Rattle.cpp_syntax.specs.Source.{Source, terminal_at}
use Rattle.cpp_syntax.specs.Terminals.{if_word, else_word, try_word, catch_word}
use Rattle.cpp_syntax.specs.Rules.{compound_statement, statement, handler, Rule, word, mark, ◌·◌, form, node, some}
use Rattle.cpp_syntax.specs.Grammar.{condition}
use Rattle.cpp_syntax.specs.View.{BuilderState}
use Rattle.cpp_syntax.specs.Parsed.{ReadsLongest, NoneOf}
use Rattle.cpp_syntax.proofs.LongestMatches.{neither, node_long, before_over}
use Rattle.cpp_syntax.proofs.Readers.{reads_left}
use Rattle.cpp_parse.specs.Lines.{if_statement, try_block}

abbrev pub with_else : Rule
with_else = node IfStatement (mark if_word · condition · form statement · word else_word · form statement)

-- an else belongs to the if before it
pub else_taken : {s : Source} {a m b : ℕ} {k : Option ℕ} {u v w : BuilderState} → ReadsLongest s (mark if_word · condition · form statement) a m k u v
    → else_word (terminal_at s m) ≡ true → ReadsLongest s with_else a b None u w → ReadsLongest s if_statement a b None u w
else_taken x t y = reads_left y (before_over (node_long x.long) t refl)

pub no_else : {s : Source} {a m : ℕ} {k : Option ℕ} {u v : BuilderState} → ReadsLongest s (mark if_word · condition · form statement) a m k u v
    → else_word (terminal_at s m) ≡ true → NoneOf s with_else a → NoneOf s if_statement a
no_else x t y = neither y (before_over (node_long x.long) t refl)

-- what follows the handlers is one that can't be read
pub handler_follows : {s : Source} {a m : ℕ} {k : Option ℕ} {u v : BuilderState}
    → ReadsLongest s (mark try_word · form compound_statement · some (form handler)) a m k u v → catch_word (terminal_at s m) ≡ true
    → NoneOf s try_block a
handler_follows x t = before_over (node_long x.long) t refl
