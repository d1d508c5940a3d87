-- The table that lists of names show.
use Rattle.std.specs.Prelude.{ℕ, Bool, ◌==◌, cond, List, [], ◌∷◌, Option, Some, None, option_map}
use Rattle.cpp_tree.specs.cpp_types.Typ.{Typ, Signature}
use Rattle.symbolic_code.specs.Following.{Table}
use Rattle.code_follows.specs.declared.names.Named.{Named}
use Rattle.code_follows.specs.declared.names.NameTable.{NameTable}

-- the first that has the name counts
abbrev pub number_in : List Named → ℕ → Option ℕ
number_in [] s = None
number_in (x ∷ xs) s = cond (x.name == s) (Some x.number) (number_in xs s)

-- at the types that numbers of types mean; types of functions, and those of slots, are told by tests
abbrev pub table_of : (types : ℕ → Typ) → NameTable → (is_signature : ℕ → Signature → Bool) → (is_slot : (name class slot : ℕ) → Bool) → Table
table_of types t is_signature is_slot = record {
  global_of = λ s. number_in t.globals.now s;
  function_of = λ s. number_in t.functions.now s;
  class_of = λ s. number_in t.classes.now s;
  type_of = λ s. option_map types (number_in t.types.now s);
  is_signature = is_signature;
  is_slot = is_slot;
}
