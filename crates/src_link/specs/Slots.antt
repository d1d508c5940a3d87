-- What the slots of classes name: the symbol that the units have for the final overrider (C++14 10.3). And what a program is linked by.
use Rattle.std.specs.Prelude.{◌≡◌, ℕ, ◌==◌, Bool, false, cond, ◌&&◌, List, [], ◌∷◌, map, codes, Option, Some, None, option_map, option_and_then, slice_get}
use Rattle.std.specs.Global.{Vec}
use Rattle.cpp_types.specs.Class.{Class, Function}
use Rattle.cpp_types.specs.Equal.{flag_eq, name_eq, signature_eq}
use Rattle.cpp_tree.specs.Units.{Func as UnitFunc, SlotFunc, Unit as TypedUnit, TypedProgram}
use Rattle.tx_safety.specs.Safe.{is_safe}
use Rattle.src_bind.specs.Numbers.{indexed, rows}
use Rattle.src_bind.specs.declared.choices.Choices.{Choices}

-- the function in a slot, as its class has it
abbrev pub slot_function : TypedProgram → SlotFunc → Option Function
slot_function t s = option_and_then (λ (c : Class). slice_get c.functions s.func) (slice_get t.classes s.class)

abbrev pub is_of_class : ℕ → Option ℕ → Bool
is_of_class class None = false
is_of_class class (Some n) = n == class

-- a function of a unit, a member of `of` that is declared so, is this function of the class
abbrev pub is_that : ℕ → Function → Option ℕ → Function → Bool
is_that class f of declared = is_of_class class of && name_eq declared.name f.name && flag_eq declared.is_const f.is_const
    && signature_eq declared.signature f.signature

abbrev pub symbol_among : ℕ → Function → List UnitFunc → Option (List ℕ)
symbol_among class f [] = None
symbol_among class f (u ∷ us) = cond (is_that class f u.class u.declared) (Some u.symbol) (symbol_among class f us)

abbrev pub or_else : Option (List ℕ) → Option (List ℕ) → Option (List ℕ)
or_else None other = other
or_else (Some name) other = Some name

-- the symbol that the first unit has that refers to the function
abbrev pub first_symbol : ℕ → Function → List TypedUnit → Option (List ℕ)
first_symbol class f [] = None
first_symbol class f (x ∷ xs) = or_else (symbol_among class f x.funcs) (first_symbol class f xs)

-- a pure function has no definition that a slot could name
abbrev pub symbol_in : TypedProgram → ℕ → Function → Option (List ℕ)
symbol_in t class f = cond f.pure_virtual None (first_symbol class f t.units)

-- what a slot names: none where the function is pure, and where no unit refers to it
abbrev pub slot_symbol : TypedProgram → SlotFunc → Option (List ℕ)
slot_symbol t s = option_and_then (symbol_in t s.class) (slot_function t s)

-- names in a table, as lists
abbrev pub name_of : Option (Vec ℕ) → Option (List ℕ)
name_of o = option_map (λ (name : Vec ℕ). name.items) o

-- of each unit, which of its functions are safe
abbrev pub safe_row : TypedProgram → ℕ → ℕ → List UnitFunc → List Bool
safe_row t u n fs = indexed (λ n f. is_safe t u n) n fs

abbrev pub safe_rows : TypedProgram → ℕ → List TypedUnit → List (List Bool)
safe_rows t u xs = indexed (λ u x. safe_row t u 0 x.funcs) u xs

-- A program is linked by this: the functions that are safe have safe bodies, slots name the final overriders, and thread 0 starts in `main`.
pub record AreChoices (t : TypedProgram) (c : Choices) : Type 0 where
  pub safe : rows c.safe.items ≡ safe_rows t 0 t.units
  pub symbols : map (map name_of) (rows c.symbols.items) ≡ map (map (slot_symbol t)) t.slots
  pub main : c.main.items ≡ codes "main()"
