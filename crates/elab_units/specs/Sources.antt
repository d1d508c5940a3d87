-- The sources that units show.
use Rattle.std.specs.Prelude.{◌≡◌, List, [], ◌∷◌}
use Rattle.cpp_ast.specs.declared.units.Unit.{Unit as UnitRecord}
use Rattle.elab_entry.specs.cpp_lex.Tokens.{lexemes_of}
use Rattle.elab_entry.specs.elab_types.Syntax.{syntax_of, trees_at}
use Rattle.elab_entry.specs.elab_rules.Programs.{Source}
use Rattle.unit_syntax.specs.declared.whole.WholeUnit.{WholeUnit}
use Rattle.unit_syntax.specs.Whole.{IsWhole}

-- the tokens of a unit, and its declarations, with the bodies of lambdas among them
pub record IsSource (u : UnitRecord) (x : Source) : Type 0 where
  pub tokens : x.tokens ≡ lexemes_of u.tokens
  pub decls : IsWhole u x.decls

-- these are the sources of the first units
abbrev pub AreFirst : List UnitRecord → List Source → Type 0
AreFirst us [] = Unit {0}
AreFirst [] (x ∷ xs) = ⊥
AreFirst (u ∷ us) (x ∷ xs) = IsSource u x × AreFirst us xs

-- a unit, whose declarations stand in this list of nodes
abbrev pub source_in : UnitRecord → WholeUnit → Source
source_in u w = record { tokens = lexemes_of u.tokens; decls = trees_at (syntax_of w.nodes) w.decls.items }
