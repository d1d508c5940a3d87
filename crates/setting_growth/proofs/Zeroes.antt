-- Zeros in a result fit still where classes have grown.
use Rattle.std.proofs.Common.{◌≡◌, ap, ◌∙◌, ℕ, suc, ◌==◌, Bool, true, false, ◌&&◌, nat_lt, List, Option, Some, None, is_some, unwrap_or}
use Rattle.std.proofs.lemmas.Bool.{and_parts}
use Rattle.cpp_types.specs.Typ.{Typ, Form, array}
use Rattle.cpp_types.specs.Class.{Class}
use Rattle.cpp_tree.specs.declared.kinds.TKind.TheVariants.{Store, Pieces, Piece, Elements}
use Rattle.cpp_tree.specs.Trees.{Tree, node, Trees, none, more}
use Rattle.cpp_tree.specs.Typing.{is_statement_typ}
use Rattle.cpp_tree.specs.Parts.{Part, sized_class, part_of}
use Rattle.cpp_tree.specs.WellFormed.{zeroes, zero_parts, zero_part, is_sized_class, has_elements, class_in, form_to_zero, volatile_to_zero, element_in}
use Rattle.cpp_tree.specs.WellFormed.{starts_at, part_typ}
use Rattle.setting_growth.specs.Growth.{HeldEarlier, ClassesGrow}
use Rattle.setting_growth.proofs.Still.{Still, same, equal, both, both_if, each}
use Rattle.setting_growth.proofs.Classes.{Known}
use Rattle.setting_growth.proofs.Sizes.{sized_known, sized_still, has_size_still, part_same, count_same}

module _ (old new : List Class) (g : ClassesGrow old new) (o : HeldEarlier old) where
  class_still : (x : Option ℕ) → Still (is_sized_class old x) (is_sized_class new x)
  class_still x = each x (λ (n : ℕ). is_some (sized_class old n)) (λ (n : ℕ). is_some (sized_class new n)) (λ n. sized_still old new g o n)

  class_known : (x : Option ℕ) → is_sized_class old x ≡ true → Known old (unwrap_or x 0)
  class_known None h = absurd cc
  class_known (Some n) h = sized_known old n h

  elements_still : (count stride : ℕ) (f : Form) → Still (has_elements old count stride f) (has_elements new count stride f)
  elements_still count stride (array e many) = both (same (count == many && nat_lt 0 count)) (has_size_still old new g o e stride)
  elements_still count stride f = same false

  there : (v : Bool) (n : ℕ) → Known old n → (i : ℕ) (t : Tree) → Still (zero_part old v (part_of old n i) t) (zero_part new v (part_of old n i) t)
      → Still (zero_part old v (part_of old n i) t) (zero_part new v (part_of new n i) t)
  there v n k i t s = record { up = λ h. ap (λ (x : Option Part). zero_part new v x t) (part_same old new g o n k i) ∙ s.up h }

  mutual
    pub zeroes_still : (v : Bool) (t : Typ) (e : Tree) → Still (zeroes old v t e) (zeroes new v t e)
    zeroes_still v t (node Pieces u cat at kids) =
        both_if (both (same (is_statement_typ u cat)) (class_still (class_in (form_to_zero t))))
        (λ h. zero_parts_still (volatile_to_zero v t) (unwrap_or (class_in (form_to_zero t)) 0)
        (class_known (class_in (form_to_zero t)) (and_parts (is_statement_typ u cat) (is_sized_class old (class_in (form_to_zero t))) h).1) 0 kids)
    zeroes_still v t (node (Elements count stride) u cat at (more kid none)) =
        both (both (same (is_statement_typ u cat)) (elements_still count stride (form_to_zero t)))
        (zeroes_still (volatile_to_zero v t) (element_in (form_to_zero t)) kid)
    zeroes_still v t (node (Store k marked) u cat at (more word none)) = same _
    zeroes_still v t tree = same false

    zero_parts_still : (v : Bool) (n : ℕ) → Known old n → (i : ℕ) (ts : Trees) → Still (zero_parts old v n i ts) (zero_parts new v n i ts)
    zero_parts_still v n k i none = equal (ap (λ (m : ℕ). i == m) (count_same old new g o n k))
    zero_parts_still v n k i (more t ts) = both (there v n k i t (zero_part_still v (part_of old n i) t)) (zero_parts_still v n k (suc i) ts)

    zero_part_still : (v : Bool) (x : Option Part) (t : Tree) → Still (zero_part old v x t) (zero_part new v x t)
    zero_part_still v x (node (Piece offset) u cat at (more kid none)) =
        both (same (is_statement_typ u cat && starts_at offset x)) (zeroes_still v (part_typ x) kid)
    zero_part_still v x tree = same false
