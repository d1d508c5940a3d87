-- Short forms for tokens, trees and texts that are written out.
use Rattle.std.specs.Prelude.{ℕ, List, [], ◌∷◌, ◌++◌, Result, Err}
use Rattle.elab_rules.specs.cpp_ast.declared.arena.At.{At}
use Rattle.elab_rules.specs.cpp_ast.Trees.{Trees, Tree, none, more}
use Rattle.elab_rules.specs.cpp_lex.Tokens.{Lexeme}
use Rattle.elab_rules.specs.cpp_lex.declared.TokKind.{TokKind}
use Rattle.elab_rules.specs.cpp_tree.declared.faults.ElabFault.{ElabFault}
use Rattle.elab_rules.specs.cpp_tree.declared.faults.ElabFault.TheVariants.{Ill, Override}
use Rattle.elab_rules.specs.cpp_tree.declared.faults.IllRule.{IllRule}
use Rattle.elab_rules.specs.cpp_tree.declared.faults.OverrideRule.{OverrideRule}
use Rattle.elab_rules.specs.Units.{unit_of}
use Rattle.elab_rules.specs.Statements.{State}
use Rattle.elab_rules.specs.Dump.{dumped}

abbrev pub at : ℕ → At
at n = record { source = 0; offset = n }

abbrev pub token : TokKind → ℕ → ℕ → ℕ → List ℕ → Lexeme
token kind from to value bytes = record { kind = kind; from = from; to = to; value = value; bytes = bytes }

abbrev pub trees : List Tree → Trees
trees [] = none
trees (t ∷ ts) = more t (trees ts)

-- lines of text, each with its end
abbrev pub lines : List (List ℕ) → List ℕ
lines [] = []
lines (l ∷ ls) = l ++ 10 ∷ lines ls

abbrev pub elaborated : List Lexeme → List Tree → Result State ElabFault
elaborated tokens decls = unit_of tokens 0 (trees decls)

-- the bodies and frames of a unit as text
abbrev pub text_of : List Lexeme → List Tree → List ℕ
text_of tokens decls = dumped (elaborated tokens decls)

-- a unit is refused at an offset by a rule
abbrev pub refused : ℕ → IllRule → Result State ElabFault
refused n rule = Err (Ill (record { source = 0; offset = n }) rule)

-- the same of what is said of overriding
abbrev pub misfit : ℕ → OverrideRule → Result State ElabFault
misfit n rule = Err (Override (record { source = 0; offset = n }) rule)
