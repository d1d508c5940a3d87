-- An array of characters by the bytes of a string, by what the type is.
use Rattle.std.specs.Prelude.{ℕ, nat_lt, ◌-◌, List, length, Result, Ok, Err}
use Rattle.elab_make.specs.cpp_types.Typ.{Typ, Form, array}
use Rattle.elab_make.specs.cpp_types.declared.classes.At.{At}
use Rattle.elab_make.specs.cpp_types.declared.ranks.Cat.TheVariants.{Prvalue}
use Rattle.elab_make.specs.cpp_tree.declared.kinds.TKind.TheVariants.{Pieces}
use Rattle.elab_make.specs.cpp_tree.declared.faults.ElabFault.{ElabFault}
use Rattle.elab_make.specs.cpp_tree.declared.faults.ElabFault.TheVariants.{Ill}
use Rattle.elab_make.specs.cpp_tree.declared.faults.IllRule.TheVariants.{BadInit}
use Rattle.elab_make.specs.cpp_tree.Trees.{Tree, node}
use Rattle.elab_make.specs.elab_ctx.Ctx.{Ctx}
use Rattle.elab_make.specs.elab_ctx.Steps.{and_then, check}
use Rattle.elab_make.specs.elab_rules.Braces.{followed, byte_pieces, zero_rest}

abbrev pub string_in : Ctx → Typ → Form → At → List ℕ → Result Tree ElabFault
string_in c t (array e n) at bytes = and_then (check at BadInit (nat_lt (length bytes) n))
    (λ y. Ok (node Pieces t Prvalue at (followed (byte_pieces e at 0 bytes) (zero_rest c e at (length bytes) (n - length bytes)))))
string_in c t f at bytes = Err (Ill at BadInit)
