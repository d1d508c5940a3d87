-- Classes whose objects have sizes.
use Rattle.std.proofs.Common.{◌≡◌, ◌<◌, ℕ, suc, true, List, [], ◌∷◌, length, map, slice_get, Option, Some, None, is_some, refl, sym, ◌∙◌, ap, arith}
use Rattle.cpp_tree.specs.cpp_types.declared.classes.ClassRec.{ClassRec}
use Rattle.cpp_tree.specs.cpp_types.declared.classes.MemberRec.{MemberRec}
use Rattle.cpp_tree.specs.cpp_types.Typ.{Form}
use Rattle.cpp_tree.specs.cpp_types.Class.{Class, InOrder, class_of, member_of, completion_of, held_form}
use Rattle.cpp_tree.specs.cpp_types.Order.{all_consistent}
use Rattle.cpp_tree.proofs.cpp_types.OrderTests.{order_is}
use Rattle.cpp_tree.specs.cpp_layout.Measured.{IsComplete, HoldsComplete, HasMember}
use Rattle.tree_dump.specs.Sized.{is_known, is_whole}

pub in_order : (classes : List Class) → all_consistent classes ≡ true → InOrder classes
in_order classes h = (order_is true classes (sym h)).0 refl

complete_by : (classes : List Class) (n : ℕ) (o : Option ℕ) → completion_of classes n ≡ o → is_some o ≡ true → IsComplete classes n
complete_by classes n None e h = absurd cc
complete_by classes n (Some k) e h = record { number = k; complete = e }

known_at : (classes : List Class) (o : Option ℕ) → is_known classes o ≡ true → (e : ℕ) → o ≡ Some e → IsComplete classes e
known_at classes None h e q = absurd cc
known_at classes (Some n) h e q = complete_by classes e (completion_of classes e) refl
    (let s : n ≡ e = cc in ap (λ (z : ℕ). is_some (completion_of classes z)) (sym s) ∙ h)

pub holds_complete : (classes : List Class) (f : Form) → is_whole classes f ≡ true → HoldsComplete classes f
holds_complete classes f h = record { held = λ e q. known_at classes (held_form f) h e q }

pub consistent : (classes : List Class) → InOrder classes → all_consistent classes ≡ true
consistent classes h = (order_is (all_consistent classes) classes refl).1 h

length_members : (ms : List MemberRec) → length (map member_of ms) ≡ length ms
length_members [] = refl
length_members (m ∷ ms) = ap suc (length_members ms)

pub has_member : (classes : List Class) (n i : ℕ) (c : ClassRec) → slice_get classes n ≡ Some (class_of c) → i < length c.members.items → HasMember classes n i
has_member classes n i c h l = let e = length_members c.members.items in record { owner = class_of c; found = h; member = omega arith }
