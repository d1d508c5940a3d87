-- Zeros are not folded.
use Rattle.std.proofs.Common.{◌≡◌, ℕ, suc, Bool, true, ◌&&◌, refl, ap, ap₂, List, Option}
use Rattle.std.specs.Prelude.{unwrap_or}
use Rattle.cpp_tree.specs.cpp_types.Typ.{Typ, Form}
use Rattle.cpp_tree.specs.cpp_types.Class.{Class}
use Rattle.cpp_tree.specs.cpp_types.Equal.{flag_eq}
use Rattle.cpp_tree.specs.declared.kinds.TKind.TheVariants.{Literal, Store, Pieces, Piece, Elements}
use Rattle.cpp_tree.specs.Trees.{Tree, node, Trees, none, more}
use Rattle.cpp_tree.specs.Typing.{is_statement_typ, is_kind, kind_in}
use Rattle.cpp_tree.specs.Parts.{Part, part_of}
use Rattle.cpp_tree.specs.WellFormed.{zeroes, zero_parts, zero_part, is_zero_of, zero_scalar, class_in, element_in, form_to_zero, volatile_to_zero}
use Rattle.cpp_tree.specs.WellFormed.{has_elements, is_sized_class, part_typ, starts_at}
use Rattle.tree_fold.specs.Folding.{folded, all_folded}
use Rattle.tree_fold.proofs.Tests.{first_true, last_true}

module _ (v : ℕ → Bool) where
  zero_stays : (f : Form) (t : Tree) → is_zero_of f t ≡ true → folded v t ≡ t
  zero_stays f (node (Literal w) t cat at none) e = refl
  zero_stays f (node (Literal w) t cat at (more u us)) e = absurd cc
  zero_stays f (node kind t cat at kids) e = absurd cc

  mutual
    pub zeros_stay : (classes : List Class) (marked : Bool) (u : Typ) (t : Tree) → zeroes classes marked u t ≡ true → folded v t ≡ t
    zeros_stay classes marked u (node Pieces t cat at kids) e =
        ap (node Pieces t cat at) (parts_stay classes (volatile_to_zero marked u) (unwrap_or (class_in (form_to_zero u)) 0) 0 kids
        (last_true (is_statement_typ t cat && is_sized_class classes (class_in (form_to_zero u)))
        (zero_parts classes (volatile_to_zero marked u) (unwrap_or (class_in (form_to_zero u)) 0) 0 kids) e))
    zeros_stay classes marked u (node (Elements count stride) t cat at none) e = absurd cc
    zeros_stay classes marked u (node (Elements count stride) t cat at (more a none)) e =
        ap (λ z. node (Elements count stride) t cat at (more z none)) (zeros_stay classes (volatile_to_zero marked u) (element_in (form_to_zero u)) a
        (last_true (is_statement_typ t cat && has_elements classes count stride (form_to_zero u))
        (zeroes classes (volatile_to_zero marked u) (element_in (form_to_zero u)) a) e))
    zeros_stay classes marked u (node (Elements count stride) t cat at (more a (more b ts))) e = absurd cc
    zeros_stay classes marked u (node (Store k m) t cat at none) e = absurd cc
    zeros_stay classes marked u (node (Store k m) t cat at (more word none)) e =
        ap (λ z. node (Store k m) t cat at (more z none)) (zero_stays (form_to_zero u) word
        (last_true (is_kind k (kind_in (form_to_zero u)) && flag_eq m (volatile_to_zero marked u)) (is_zero_of (form_to_zero u) word)
        (last_true (is_statement_typ t cat) (zero_scalar (volatile_to_zero marked u) (form_to_zero u) k m word) e)))
    zeros_stay classes marked u (node (Store k m) t cat at (more a (more b ts))) e = absurd cc
    zeros_stay classes marked u (node kind t cat at kids) e = absurd cc

    parts_stay : (classes : List Class) (marked : Bool) (n i : ℕ) (ts : Trees) → zero_parts classes marked n i ts ≡ true → all_folded v ts ≡ ts
    parts_stay classes marked n i none e = refl
    parts_stay classes marked n i (more t ts) e =
        ap₂ more (part_stays classes marked (part_of classes n i) t
        (first_true (zero_part classes marked (part_of classes n i) t) (zero_parts classes marked n (suc i) ts) e))
        (parts_stay classes marked n (suc i) ts (last_true (zero_part classes marked (part_of classes n i) t) (zero_parts classes marked n (suc i) ts) e))

    part_stays : (classes : List Class) (marked : Bool) (part : Option Part) (t : Tree) → zero_part classes marked part t ≡ true → folded v t ≡ t
    part_stays classes marked part (node (Piece offset) u cat at none) e = absurd cc
    part_stays classes marked part (node (Piece offset) u cat at (more a none)) e =
        ap (λ z. node (Piece offset) u cat at (more z none))
        (zeros_stay classes marked (part_typ part) a
        (last_true (is_statement_typ u cat && starts_at offset part) (zeroes classes marked (part_typ part) a) e))
    part_stays classes marked part (node (Piece offset) u cat at (more a (more b ts))) e = absurd cc
    part_stays classes marked part (node kind u cat at kids) e = absurd cc
