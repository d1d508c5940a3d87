-- Constants of nodes from those of their kids.
use Rattle.std.specs.Prelude.{ℕ, Bool, true, false, List, Option, Some, None, option_map, slice_get}
use Rattle.elab_rules.specs.tx_ints.declared.kinds.IntKind.{IntKind}
use Rattle.elab_rules.specs.cpp_types.declared.ranks.Cat.{Cat}
use Rattle.elab_rules.specs.cpp_types.declared.ranks.Cat.TheVariants.{Prvalue}
use Rattle.elab_rules.specs.cpp_tree.declared.kinds.TKind.{TKind}
use Rattle.elab_rules.specs.cpp_tree.declared.kinds.TKind.TheVariants.{Literal, Load, Convert, Retype, Binary, Conditional, Global as GlobalNode}
use Rattle.elab_rules.specs.cpp_tree.Trees.{Tree, node, Trees, none, more}
use Rattle.elab_rules.specs.cpp_tree.Units.{Global}
use Rattle.elab_rules.specs.Constants.{word_in, both, applied, branch, value_of_global}

-- a literal, whatever its kids
abbrev pub word_at : TKind → Option ℕ
word_at (Literal w) = Some w
word_at kind = None

abbrev pub from_one : TKind → Cat → Option ℕ → Option ℕ
from_one (Literal w) cat x = Some w
from_one (Convert k) cat x = option_map (word_in k) x
from_one Retype Prvalue x = x
from_one kind cat x = None

abbrev pub from_two : TKind → Cat → Option ℕ → Option ℕ → Option ℕ
from_two (Literal w) cat x y = Some w
from_two (Binary op k) Prvalue x y = both (applied op k) x y
from_two kind cat x y = None

abbrev pub from_three : TKind → Cat → Option ℕ → Option ℕ → Option ℕ → Option ℕ
from_three (Literal w) cat x y z = Some w
from_three Conditional Prvalue x y z = branch x y z
from_three kind cat x y z = None

-- a global alone
abbrev pub global_number : TKind → Trees → Option ℕ
global_number (GlobalNode g) none = Some g
global_number kind kids = None

abbrev pub global_in : Tree → Option ℕ
global_in (node kind t cat at kids) = global_number kind kids

-- a scalar that is read: its constant is that of the global, whatever the kid
abbrev pub is_load : TKind → Bool
is_load (Load k v) = true
is_load kind = false

-- the global that the only kid is
abbrev pub only_global : Trees → Option ℕ
only_global (more a none) = global_in a
only_global ts = None

-- what is read of a global, where there is one
abbrev pub loaded : List Global → IntKind → Bool → Option ℕ → Option ℕ
loaded gs k false (Some g) = value_of_global k (slice_get gs g)
loaded gs k v x = None
