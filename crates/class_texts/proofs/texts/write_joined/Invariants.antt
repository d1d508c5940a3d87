use Rattle.std.proofs.Common.{◌≡◌, ◌++◌, drop, map}
use Rattle.elab_init.specs.cpp_lex.Tokens.{lexeme_of}
use Rattle.elab_init.specs.elab_rules.Functions.{joined}
use Rattle.class_texts.proofs.texts.write_joined.Given as goal

abbrev pub invariant-loop-i : goal.invariant-loop-i
invariant-loop-i l = l.text.items ++ joined (map lexeme_of (drop l.i l.items)) ≡ l.fn.text.items ++ joined (map lexeme_of l.items)
