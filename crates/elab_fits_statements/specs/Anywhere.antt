-- Where what statements make may stand: at every position, or where the jumps in it may.
use Rattle.std.specs.Prelude.{◌≡◌, Bool, true}
use Rattle.elab_rules.specs.cpp_types.Typ.{Typ}
use Rattle.elab_rules.specs.cpp_tree.declared.roles.Position.{Position}
use Rattle.elab_rules.specs.cpp_tree.declared.roles.Role.{Role}
use Rattle.elab_rules.specs.cpp_tree.declared.roles.Role.TheVariants.{Initialiser}
use Rattle.elab_rules.specs.cpp_tree.Trees.{Tree, Trees, none, more, kind_of}
use Rattle.elab_rules.specs.cpp_tree.Typing.{head_of, builds}
use Rattle.elab_rules.specs.cpp_tree.Rows.{Setting}
use Rattle.elab_rules.specs.cpp_tree.WellFormed.{fits, is_kid}

-- it fits in a role, in a full-expression or not
abbrev pub FitsAnywhere : Setting → Role → Tree → Type 0
FitsAnywhere s role e = (p : Position) → fits s p role e ≡ true

-- what builds an object of a type, as a whole
pub record BuildsAnywhere (s : Setting) (t : Typ) (e : Tree) : Type 0 where
  pub fits : FitsAnywhere s Initialiser e
  pub builds : builds t (head_of e) ≡ true

-- `break` may stand there if the first says so, and `continue` if the second does
pub record Allows (b c : Bool) (p : Position) : Type 0 where
  pub breaks : b ≡ true → p.breaks ≡ true
  pub continues : c ≡ true → p.continues ≡ true

-- a kid of a node, in a role, wherever such jumps may stand
pub record Serves (s : Setting) (b c : Bool) (role : Role) (e : Tree) : Type 0 where
  pub fits : (p : Position) → Allows b c p → fits s p role e ≡ true
  pub kid : is_kid (kind_of e) ≡ true

abbrev pub AllServe : Setting → (b c : Bool) → Role → Trees → Type 0
AllServe s b c role none = Unit {0}
AllServe s b c role (more t ts) = Serves s b c role t × AllServe s b c role ts
