-- The typed program that texts have: that of the units which they derive (C++14 2.1, 2.2), or the fault that these have first.
use Rattle.std.specs.Prelude.{◌≡◌, ℕ, suc, List, [], ◌∷◌, Ok}
use Rattle.cpp_lex.specs.Tokens.{IsTokens}
use Rattle.cpp_syntax.specs.Classes.{source_of}
use Rattle.cpp_syntax.specs.Lookahead.{IsUnit}
use Rattle.cpp_tree.specs.Units.{TypedProgram}
use Rattle.cpp_tree.specs.declared.faults.ElabFault.{ElabFault}
use Rattle.elab_rules.specs.elab_ctx.Says.{Faults}
use Rattle.elab_rules.specs.Programs.{Source, program_of}

-- the tokens of the text with this number, and the declarations that these derive
pub record IsSourceOf (number : ℕ) (text : List ℕ) (x : Source) : Type 0 where
  pub lexed : IsTokens text x.tokens
  pub derives : IsUnit (source_of number x.tokens) x.decls

-- these are the sources of the texts, whose numbers begin here
abbrev pub AreSourcesOf : ℕ → List (List ℕ) → List Source → Type 0
AreSourcesOf number [] [] = Unit {0}
AreSourcesOf number [] (x ∷ xs) = ⊥
AreSourcesOf number (text ∷ texts) [] = ⊥
AreSourcesOf number (text ∷ texts) (x ∷ xs) = IsSourceOf number text x × AreSourcesOf (suc number) texts xs

-- these are those of the first texts
abbrev pub AreFirstSources : ℕ → List (List ℕ) → List Source → Type 0
AreFirstSources number texts [] = Unit {0}
AreFirstSources number [] (x ∷ xs) = ⊥
AreFirstSources number (text ∷ texts) (x ∷ xs) = IsSourceOf number text x × AreFirstSources (suc number) texts xs

-- the program is the one that is defined of the texts
pub record HasProgram (texts : List (List ℕ)) (p : TypedProgram) : Type 0 where
  pub sources : List Source
  pub are : AreSourcesOf 0 texts sources
  pub is : program_of sources ≡ Ok p

-- the fault is the one that is defined of the texts, up to the one that has it
pub record HasFault (texts : List (List ℕ)) (e : ElabFault) : Type 0 where
  pub sources : List Source
  pub are : AreFirstSources 0 texts sources
  pub is : Faults e (program_of sources)
