-- Worked layouts: these classes, and what they take.
--
--     struct S { char a; long b; char c; };      struct V { char a; virtual void f(); };
--     struct E {};                               struct A { E e[3]; short s; };
--     struct B { long x; };                      struct D : B { int y; };
--     struct G { S s[2]; char t; };              struct W : V { void f(); int z; };
use Rattle.std.specs.Prelude.{◌≡◌, ℕ, true, false, List, [], ◌∷◌, Option, Some, None, map, slice_get}
use Rattle.tx_ints.specs.declared.kinds.IntKind.TheVariants.{Char, Short, Int, Long}
use Rattle.cpp_types.specs.Typ.{Typ, typ, Form, void, int, array, class, signature, none}
use Rattle.cpp_types.specs.Class.{Class, Member, Function}
use Rattle.cpp_types.specs.declared.classes.Safety.TheVariants.{None as Plain}
use Rattle.cpp_layout.specs.Layout.{head_items, class_extent}
use Rattle.cpp_layout.specs.Measured.{member_extents}
use Rattle.cpp_layout.specs.Frames.{offsets_after}

abbrev pub plain : Form → Typ
plain f = typ f false false

-- the names play no part in a layout
abbrev pub member : Form → Member
member f = record { name = []; typ = plain f }

abbrev pub virtual_function : Function
virtual_function = record {
  name = [];
  signature = signature none (plain void) false;
  is_const = false;
  is_virtual = true;
  is_override = false;
  is_final =
      false;
  pure_virtual = false;
  safety = Plain;
  considered = false;
  no_except = false;
  at = record { source = 0; offset = 0 };
}

-- a class that was completed after `number` others
abbrev pub completed : ℕ → Option ℕ → List Function → List Form → Class
completed number base functions forms = record {
  name = [];
  base = base;
  members = map member forms;
  functions = functions;
  is_final = false;
  complete =
      Some number;
}

abbrev pub examples : List Class
examples =
    completed 0 None [] (int Char ∷ int Long ∷ int Char ∷ [])
    ∷ completed 1 None (virtual_function ∷ []) (int Char ∷ [])
    ∷ completed 2 None [] []
    ∷ completed 3 None [] (array (plain (class 2)) 3 ∷ int Short ∷ [])
    ∷ completed 4 None [] (int Long ∷ [])
    ∷ completed 5 (Some 4) [] (int Int ∷ [])
    ∷ completed 6 None [] (array (plain (class 0)) 2 ∷ int Char ∷ [])
    ∷ completed 7 (Some 1) (virtual_function ∷ []) (int Int ∷ [])
    ∷ []

abbrev pub member_offsets : ℕ → Option Class → List ℕ
member_offsets n (Some c) = offsets_after (head_items (class_extent examples) examples n c) (member_extents examples c.members)
member_offsets n None = []

-- the size and the alignment of the class at index `n`, and the offsets of its members
abbrev pub Takes : ℕ → ℕ → ℕ → List ℕ → Type 0
Takes n size align offsets = ((class_extent examples n).size ≡ size) × ((class_extent examples n).align ≡ align)
    × (member_offsets n (slice_get examples n) ≡ offsets)
