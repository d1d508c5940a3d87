-- Types of parts and of variables.
use Rattle.std.proofs.Common.{◌≡◌, refl, sym, ap, ◌∙◌, ℕ, Bool, true, false, List, [], ◌∷◌, Option, Some, None, is_some}
use Rattle.std.specs.Prelude.{if◌then◌else◌}
use Rattle.std.specs.List.{list_all}
use Rattle.std.specs.Str.{bytes_eq}
use Rattle.std.proofs.lemmas.Bool.{and_parts}
use Rattle.std.proofs.lemmas.Option.{same_Some}
use Rattle.elab_rules.specs.elab_ctx.Types.{Named, type_called}
use Rattle.elab_rules.specs.Types.{type_named}
use Rattle.elab_sound_types.specs.Contexts.{is_sound_name}
use Rattle.elab_rules.specs.cpp_types.Typ.{Typ, typ, void, int, enum, null, ptr, ref, array, func, class, closure, tx_ex}
use Rattle.elab_rules.specs.cpp_types.Class.{Class}
use Rattle.elab_rules.specs.cpp_tree.Notation.{plain}
use Rattle.elab_rules.specs.cpp_tree.Typing.{unqualified}
use Rattle.elab_rules.specs.cpp_tree.Parts.{size_in}
use Rattle.elab_rules.specs.Initialising.{class_number}
use Rattle.elab_rules.specs.Statements.{State}
use Rattle.elab_fits.proofs.Nodes.{clash}
use Rattle.elab_contexts.specs.Holding.{UnitHolds}
use Rattle.elab_sound_types.specs.Types.{is_sound, object, variable as a_variable, denoted}
use Rattle.setting_growth.specs.Growth.{ClassesGrow, HeldEarlier}
use Rattle.setting_growth.proofs.Sizes.{size_still}
use Rattle.elab_fits_states.specs.States.{IsVariableType}
use Rattle.elab_fits_units.proofs.Growing.{held_earlier}

-- an object is a variable
pub object_variable : (classes : List Class) (t : Typ) → is_sound classes object t ≡ true → is_sound classes a_variable t ≡ true
object_variable classes (typ void c v) h = absurd cc
object_variable classes (typ (ref t) c v) h = absurd cc
object_variable classes (typ (func s) c v) h = absurd cc
object_variable classes (typ (closure n) c v) h = absurd cc
object_variable classes (typ (array t n) c v) h = h
object_variable classes (typ (int k) c v) h = refl
object_variable classes (typ (enum n e) c v) h = refl
object_variable classes (typ null c v) h = refl
object_variable classes (typ (ptr t) c v) h = h
object_variable classes (typ (class n) c v) h = h
object_variable classes (typ (tx_ex (typ f d w)) c v) h = h

-- a type that has a size has one where the unit has grown
size_later : (old new : List Class) → ClassesGrow old new → HeldEarlier old → (t : Typ) → is_some (size_in old t) ≡ true → is_some (size_in new t) ≡ true
size_later old new g o t h = by (size_in old t) refl
  where
    by : (x : Option ℕ) → size_in old t ≡ x → is_some (size_in new t) ≡ true
    by (Some n) e = ap is_some (size_still old new g o t n e)
    by None e = clash (is_some (size_in new t) ≡ true) (is_some (size_in old t)) (ap is_some e) h

pub variable_type : (a : State) (t : Typ) → UnitHolds a.ctx → is_sound a.ctx.classes object t ≡ true → is_some (size_in a.ctx.classes t) ≡ true → IsVariableType a t
variable_type a t u h z = record {
  sound = object_variable a.ctx.classes t h;
  sized = λ x l. size_later a.ctx.classes x.ctx.classes l.goes.grows.unit.classes (held_earlier a.ctx u) t z;
}

-- the class for which a name stands
some_number : (n m : ℕ) → Some n ≡ Some m → n ≡ m
some_number n m h = cc

pub named_class : (classes : List Class) (t : Typ) (n : ℕ) → is_sound classes denoted t ≡ true → class_number t ≡ Some n → unqualified t ≡ plain (class n)
named_class classes (typ (class m) c v) n h e = ap (λ (i : ℕ). plain (class i)) (some_number m n e)
named_class classes (typ (closure m) c v) n h e = absurd cc
named_class classes (typ void c v) n h e = absurd cc
named_class classes (typ (int k) c v) n h e = absurd cc
named_class classes (typ (enum k x) c v) n h e = absurd cc
named_class classes (typ null c v) n h e = absurd cc
named_class classes (typ (ptr t) c v) n h e = absurd cc
named_class classes (typ (ref t) c v) n h e = absurd cc
named_class classes (typ (array t k) c v) n h e = absurd cc
named_class classes (typ (func g) c v) n h e = absurd cc
named_class classes (typ (tx_ex t) c v) n h e = absurd cc

name_sound : (classes : List Class) (name : List ℕ) (x : Named) (ns : List Named) (t : Typ) (b : Bool) → is_sound_name classes x ≡ true
    → (if b then Some x.typ else type_called name ns) ≡ Some t → (type_called name ns ≡ Some t → is_sound classes denoted t ≡ true)
    → is_sound classes denoted t ≡ true
name_sound classes name x ns t true h e f = ap (is_sound classes denoted) (sym (same_Some x.typ t e)) ∙ h
name_sound classes name x ns t false h e f = f e

pub named_sound : (classes : List Class) (name : List ℕ) (ns : List Named) (t : Typ) → list_all (is_sound_name classes) ns ≡ true → type_named name ns ≡ Some t
    → is_sound classes denoted t ≡ true
named_sound classes name [] t h e = absurd cc
named_sound classes name (x ∷ ns) t h e = let a = and_parts (is_sound_name classes x) (list_all (is_sound_name classes) ns) h in
    name_sound classes name x ns t (bytes_eq name x.name) a.0 e (λ q. named_sound classes name ns t a.1 q)
