-- Objects that are volatile or have a volatile part (C++14 1.8, 3.9.3).
use Rattle.std.specs.Prelude.{ℕ, zero, suc, Bool, false, ◌&&◌, ◌||◌, List, length, slice_get, get_or}
use Rattle.std.specs.List.{list_any}
use Rattle.cpp_types.specs.Typ.{Typ, typ, Form, array, tx_ex}
use Rattle.cpp_types.specs.Class.{Class, Member, held_form}
use Rattle.cpp_types.specs.Conversion.{is_object_form}
use Rattle.cpp_tree.specs.Typing.{passes}

-- Types, where the test tells which classes have a volatile part

abbrev mutual
  pub is_volatile_object : (ℕ → Bool) → Typ → Bool
  is_volatile_object volatile (typ f c v) = v || is_volatile_form volatile f

  pub is_volatile_form : (ℕ → Bool) → Form → Bool
  is_volatile_form volatile (array t n) = is_volatile_object volatile t
  is_volatile_form volatile (tx_ex t) = is_volatile_object volatile t
  is_volatile_form volatile f = passes volatile (held_form f)

-- a class, or an array of one
abbrev mutual
  pub is_class_object : Typ → Bool
  is_class_object (typ f c v) = is_class_form f

  pub is_class_form : Form → Bool
  is_class_form (array t n) = is_class_object t
  is_class_form f = is_object_form f

abbrev pub is_volatile_class : (ℕ → Bool) → Typ → Bool
is_volatile_class volatile t = is_class_object t && is_volatile_object volatile t

-- Classes: a class has a volatile part where a member is volatile or holds one, or its base has one. The test tells which other classes have one

abbrev pub is_volatile_member : (ℕ → Bool) → Member → Bool
is_volatile_member volatile m = is_volatile_object volatile m.typ

abbrev pub has_volatile_part_by : (ℕ → Bool) → Class → Bool
has_volatile_part_by volatile c = list_any (is_volatile_member volatile) c.members || passes volatile c.base

-- a volatile part lies at most so many classes deep
abbrev pub volatile_within : ℕ → List Class → ℕ → Bool
volatile_within zero classes n = false
volatile_within (suc depth) classes n = passes (has_volatile_part_by (volatile_within depth classes)) (slice_get classes n)

-- no class lies deeper than there are classes
abbrev pub has_volatile_part : List Class → ℕ → Bool
has_volatile_part classes n = volatile_within (length classes) classes n

-- a list of marks as such a test
abbrev pub marked : List Bool → ℕ → Bool
marked marks n = get_or marks n false
