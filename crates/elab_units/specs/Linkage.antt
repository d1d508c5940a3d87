-- Declarations behind `extern "C"`, which stand in braces or not.
use Rattle.std.specs.Prelude.{ℕ, Bool, List, Result}
use Rattle.elab_entry.specs.cpp_types.declared.classes.At.{At}
use Rattle.elab_entry.specs.cpp_lex.Tokens.{Lexeme}
use Rattle.elab_entry.specs.cpp_ast.Trees as syntax
use Rattle.elab_entry.specs.cpp_tree.declared.faults.ElabFault.{ElabFault}
use Rattle.elab_entry.specs.elab_ctx.Steps.{and_then}
use Rattle.elab_entry.specs.elab_rules.Statements.{State}
use Rattle.elab_entry.specs.elab_rules.Functions.{Storage}
use Rattle.elab_leaving.specs.Declaring.{c_words, c_checked, declarations_of}

abbrev pub linkage_declared : List Lexeme → Storage → State → At → ℕ → syntax.Trees → Bool → Result State ElabFault
linkage_declared s x st at t kids is_block = and_then (c_checked s at t) (λ y. declarations_of s (c_words x is_block) st kids)
