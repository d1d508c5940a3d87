-- Full-expressions: the laws of `full`, and of what stands as a statement.
use Rattle.std.specs.Prelude.{◌≡◌, false}
use Rattle.elab_rules.specs.cpp_types.Typ.{Typ}
use Rattle.elab_rules.specs.cpp_types.declared.classes.At.{At}
use Rattle.elab_rules.specs.cpp_tree.declared.roles.Role.{Role}
use Rattle.elab_rules.specs.cpp_tree.declared.roles.Role.TheVariants.{Value, Statement, BlockItem, SwitchItem, Step}
use Rattle.elab_rules.specs.cpp_tree.Trees.{Tree}
use Rattle.elab_rules.specs.cpp_tree.Rows.{Setting}
use Rattle.elab_rules.specs.Statements.{holds_temporary, throws_object, full}
use Rattle.elab_fits.specs.Standing.{FitsAs, BuildsOne}
use Rattle.elab_fits_statements.specs.Anywhere.{FitsAnywhere, BuildsAnywhere}

-- what fits inside of a full-expression, and has no temporary with a destructor, fits outside of it
abbrev pub PlainPartsFit : Type 0
PlainPartsFit = (s : Setting) (role : Role) (e : Tree) → FitsAs s role e → holds_temporary e ≡ false → FitsAnywhere s role e

-- a value as a whole
abbrev pub WholesFit : Type 0
WholesFit = (s : Setting) (at : At) (e : Tree) → FitsAs s Value e → FitsAnywhere s Value (full at e)

-- what builds an object as a whole, where it is no `throw` of an object
abbrev pub WholesBuild : Type 0
WholesBuild = (s : Setting) (at : At) (t : Typ) (e : Tree) → BuildsOne s t e → throws_object e ≡ false → BuildsAnywhere s t (full at e)

-- a value that fits anywhere stands for a statement
abbrev pub ValuesServe : Type 0
ValuesServe = (s : Setting) (e : Tree) → FitsAnywhere s Value e
    → FitsAnywhere s Statement e × FitsAnywhere s BlockItem e × FitsAnywhere s SwitchItem e × FitsAnywhere s Step e
