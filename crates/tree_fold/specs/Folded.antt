-- Trees in which nothing is left to fold. This says what the result is to be like, and nothing of how it is made.
use Rattle.std.specs.Prelude.{ℕ, Bool, true, false, not, ◌&&◌, ◌==◌, Result, Ok, Err, cond}
use Rattle.tx_ints.specs.declared.kinds.ArithTrap.{ArithTrap}
use Rattle.std.specs.Prelude.{ℤ}
use Rattle.cpp_tree.specs.cpp_types.Typ.{Typ}
use Rattle.cpp_tree.specs.cpp_types.declared.ranks.Cat.{Cat}
use Rattle.cpp_tree.specs.declared.kinds.TKind.TheVariants.{Literal, Convert, Binary, Conditional, Comma}
use Rattle.cpp_tree.specs.Trees.{Tree, node, Trees, none, more, kind_of}
use Rattle.cpp_tree.specs.Typing.{is_prvalue}
use Rattle.src_mean.specs.Source.{applied}
use Rattle.tree_fold.specs.Bare.{is_bare}
use Rattle.tree_fold.specs.Constants.{is_integer}
use Rattle.tree_fold.specs.Folding.{stands_for}

abbrev pub is_integer_literal : Tree → Bool
is_integer_literal (node (Literal w) t cat at none) = is_integer t
is_integer_literal t = false

abbrev pub word_in : Tree → ℕ
word_in (node (Literal w) t cat at kids) = w
word_in t = 0

abbrev pub has_value : Result ℤ ArithTrap → Bool
has_value (Ok z) = true
has_value (Err trap) = false

abbrev pub is_integer_value : Typ → Cat → Bool
is_integer_value t cat = is_integer t && is_prvalue cat

-- the operand that is run, and the one that is not, may be told before the run
abbrev pub may_drop : (volatile : ℕ → Bool) → Typ → Cat → (run other : Tree) → Bool
may_drop volatile t cat run other = stands_for t cat (kind_of run) && is_bare volatile other

-- A conversion, an operator that does not trap or a comma, all of whose operands are integer literals; a `?:`, `&&` or `||` whose condition is one and
-- whose operand that is not run is bare
abbrev pub is_foldable : (volatile : ℕ → Bool) → Tree → Bool
is_foldable volatile (node (Convert to) t cat at (more a none)) = is_integer_value t cat && is_integer_literal a
is_foldable volatile (node (Binary op kind) t cat at (more a (more b none))) = is_integer_value t cat && is_integer_literal a && is_integer_literal b
    && has_value (applied op kind (word_in a) (word_in b))
is_foldable volatile (node Comma t cat at (more a (more b none))) = is_integer_value t cat && is_integer_literal a && is_integer_literal b
is_foldable volatile (node Conditional t cat at (more test (more chosen (more other none)))) = is_integer_literal test
    && cond (word_in test == 0) (may_drop volatile t cat other chosen) (may_drop volatile t cat chosen other)
is_foldable volatile tree = false

abbrev mutual
  pub is_folded : (volatile : ℕ → Bool) → Tree → Bool
  is_folded volatile (node kind t cat at kids) = not (is_foldable volatile (node kind t cat at kids)) && are_folded volatile kids

  pub are_folded : (volatile : ℕ → Bool) → Trees → Bool
  are_folded volatile none = true
  are_folded volatile (more t ts) = is_folded volatile t && are_folded volatile ts
