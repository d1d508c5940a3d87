-- A unit with a call in an atomic block: `int main() { atomic_commit { g(); } }`, with `g` and `h` declared.
use Rattle.std.specs.Prelude.{ℕ, false, List, [], ◌∷◌, codes, Option, Some, None}
use Rattle.cpp_tree.specs.tx_ints.declared.kinds.IntKind.TheVariants.{Int}
use Rattle.cpp_tree.specs.cpp_types.Typ.{Typ, typ, void, int, signature, none}
use Rattle.cpp_tree.specs.cpp_types.Class.{Function}
use Rattle.cpp_tree.specs.cpp_types.declared.classes.Safety.TheVariants.{None as Undeclared}
use Rattle.cpp_tree.specs.cpp_types.declared.ranks.Cat.TheVariants.{Prvalue}
use Rattle.cpp_tree.specs.tx_events.declared.BlockKind.TheVariants.{Commit}
use Rattle.cpp_tree.specs.declared.kinds.TKind.TheVariants.{Call, Atomic}
use Rattle.cpp_tree.specs.declared.program.Linkage.TheVariants.{External}
use Rattle.cpp_tree.specs.declared.program.FuncKind.TheVariants.{Plain}
use Rattle.cpp_tree.specs.Trees.{Tree, node, one, nowhere, none as no_trees}
use Rattle.cpp_tree.specs.Units.{Func, Unit, TypedProgram}
use Rattle.unit_entries.specs.Records.{FuncRecord}
use Rattle.unit_entries.specs.Entries.{unit_funcs}

abbrev pub void_type : Typ
void_type = typ void false false

abbrev pub declared : List ℕ → Typ → Function
declared name result = record {
  name = name;
  signature = signature none result false;
  is_const = false;
  is_virtual = false;
  is_override = false;
  is_final =
      false;
  pure_virtual = false;
  safety = Undeclared;
  considered = false;
  no_except = false;
  at = nowhere;
}

abbrev pub function : List ℕ → List ℕ → Typ → Option Tree → Func
function name symbol result body = record {
  symbol = symbol;
  declared = declared name result;
  linkage = External;
  text = [];
  kind = Plain;
  class = None;
  implicit = false;
  words = 0;
  params = [];
  frame = [];
  body = body;
  closed_at = 0;
}

-- a call of the second function, in an atomic block
abbrev pub body : Tree
body = node (Atomic Commit) void_type Prvalue nowhere (one (node (Call 1) void_type Prvalue nowhere no_trees))

abbrev pub example : Unit
example = record {
  funcs = function (codes "main") (codes "main()") (typ (int Int) false false) (Some body) ∷ function (codes "g") (codes "g()") void_type None
      ∷ function (codes "h") (codes "h()") void_type None ∷ [];
  globals = [];
  classes = [];
}

abbrev pub program : TypedProgram
program = record { units = example ∷ []; classes = []; slots = [] }

abbrev pub entries : List FuncRecord
entries = unit_funcs program example (false ∷ false ∷ false ∷ [])
