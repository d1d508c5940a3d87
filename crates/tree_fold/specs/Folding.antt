-- Constant folding of trees: kids first, then the node.
use Rattle.std.specs.Prelude.{ℕ, Bool, true, false, not, ◌&&◌, ◌||◌, ◌==◌, Option, Some, None, unwrap_or, cond}
use Rattle.cpp_tree.specs.cpp_types.Typ.{Typ, typ, Form, void, enum, ptr}
use Rattle.cpp_tree.specs.cpp_types.Conversion.{is_object_form}
use Rattle.cpp_tree.specs.cpp_types.declared.classes.At.{At}
use Rattle.cpp_tree.specs.cpp_types.declared.ranks.Cat.{Cat}
use Rattle.cpp_tree.specs.cpp_types.declared.ranks.Cat.TheVariants.{Lvalue, Prvalue}
use Rattle.cpp_tree.specs.declared.kinds.TKind.{TKind}
use Rattle.cpp_tree.specs.declared.kinds.TKind.TheVariants.{Literal, Conditional}
use Rattle.cpp_tree.specs.Trees.{Tree, node, Trees, none, more, kind_of}
use Rattle.cpp_tree.specs.Typing.{goes_both_ways}
use Rattle.cpp_tree.specs.Roles.{is_throw}
use Rattle.tree_fold.specs.Bare.{is_bare}
use Rattle.tree_fold.specs.Constants.{integer_word, constant}

-- `?:`, `&&` and `||` (C++14 5.14 to 5.16). One without a type may be an `if`, and statements are left as they are

abbrev pub is_folded_form : Form → Bool
is_folded_form void = false
is_folded_form (enum name scoped) = false
is_folded_form (ptr t) = false
is_folded_form f = true

-- what is taken stands where the conditional stood: no `throw`, which has no type, and for an object of class type what may stand for one of any qualifiers
abbrev pub stands_for : Typ → Cat → TKind → Bool
stands_for (typ f c v) Lvalue kind = is_folded_form f && not (is_throw kind)
stands_for (typ f c v) Prvalue kind = is_folded_form f && not (is_throw kind) && (not (is_object_form f) || goes_both_ways kind)

-- one operand is taken and the other one is dropped
abbrev pub only_taken : (volatile : ℕ → Bool) → Typ → Cat → (taken dropped : Tree) → Option Tree
only_taken volatile t cat taken dropped = cond (stands_for t cat (kind_of taken) && is_bare volatile dropped) (Some taken) None

-- by the word of the condition, where that is a literal
abbrev pub taken_by : (volatile : ℕ → Bool) → Typ → Cat → Option ℕ → (chosen other : Tree) → Option Tree
taken_by volatile t cat None chosen other = None
taken_by volatile t cat (Some w) chosen other = cond (w == 0) (only_taken volatile t cat other chosen) (only_taken volatile t cat chosen other)

abbrev pub taken : (volatile : ℕ → Bool) → TKind → Typ → Cat → Trees → Option Tree
taken volatile Conditional t cat (more test (more chosen (more other none))) = taken_by volatile t cat (integer_word test) chosen other
taken volatile kind t cat kids = None

-- Nodes

abbrev pub literal_or : Option ℕ → Typ → At → Tree → Tree
literal_or None t at tree = tree
literal_or (Some w) t at tree = node (Literal w) t Prvalue at none

-- a node whose kids are folded: its value, the operand that is taken, or the node itself
abbrev pub folded_node : (volatile : ℕ → Bool) → TKind → Typ → Cat → At → Trees → Tree
folded_node volatile kind t cat at kids = literal_or (constant kind t cat kids) t at (unwrap_or (taken volatile kind t cat kids) (node kind t cat at kids))

abbrev mutual
  pub folded : (volatile : ℕ → Bool) → Tree → Tree
  folded volatile (node kind t cat at kids) = folded_node volatile kind t cat at (all_folded volatile kids)

  pub all_folded : (volatile : ℕ → Bool) → Trees → Trees
  all_folded volatile none = none
  all_folded volatile (more t ts) = more (folded volatile t) (all_folded volatile ts)
