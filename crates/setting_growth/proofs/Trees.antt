-- Trees and bodies fit still where the setting has grown.
use Rattle.std.proofs.Common.{ap, ◌∙◌, ℕ, suc, true, false, not, ◌&&◌, ◌||◌, List, length}
use Rattle.std.proofs.Common.{is_some, unwrap_or}
use Rattle.cpp_types.specs.Typ.{Typ}
use Rattle.cpp_types.specs.declared.ranks.Cat.{Cat}
use Rattle.cpp_tree.specs.declared.kinds.TKind.{TKind}
use Rattle.cpp_tree.specs.declared.program.FuncKind.{FuncKind}
use Rattle.cpp_tree.specs.declared.roles.Position.{Position}
use Rattle.cpp_tree.specs.declared.roles.Role.{Role}
use Rattle.cpp_tree.specs.declared.roles.Role.TheVariants.{Value}
use Rattle.cpp_tree.specs.Trees.{Tree, node, Trees, none, more, kind_of}
use Rattle.cpp_tree.specs.Typing.{Head}
use Rattle.cpp_tree.specs.Roles.{Kids, role_at, serves, way_fits}
use Rattle.cpp_tree.specs.Rows.{Setting, result_of}
use Rattle.cpp_tree.specs.WellFormed.{fits, kids_fit, stands, may_stand, branches_fit, heads_of, kids_in, enough, is_switch, labels_fit, inside, is_kid}
use Rattle.cpp_tree.specs.WellFormed.{is_zero_role, zeroes}
use Rattle.setting_growth.specs.Growth.{HeldEarlier, Grows, OrderHolds, FitsStill, ZeroesStill, DestructionsStill, ItemsStill}
use Rattle.setting_growth.proofs.Still.{Still, same, equal, both, choice}
use Rattle.setting_growth.proofs.Classes.{holds_still}
use Rattle.setting_growth.proofs.Zeroes.{zeroes_still}
use Rattle.setting_growth.proofs.Rows.{row_still, hand_result, are_destructions_still}

module _ (old new : Setting) (o : HeldEarlier old.classes) (g : Grows old new) where
  stands_still : (p : Position) (role : Role) (kind : TKind) (t : Typ) (cat : Cat) (hs : List Head)
      → Still (stands old p role kind t cat hs) (stands new p role kind t cat hs)
  stands_still p role kind t cat hs = both (both (both (same (serves role kind && way_fits role kind t cat))
      (equal (ap (λ (k : FuncKind). may_stand k p kind (length hs)) g.function.kind))) (same (branches_fit role kind t hs)))
      (row_still old new o g kind t cat hs)

  result_still : (t : Tree) → Still (zeroes old.classes false (result_of old.function) t) (zeroes new.classes false (result_of new.function) t)
  result_still t = record {
    up = λ h. ap (λ (r : Typ). zeroes new.classes false r t) (hand_result old new o g)
        ∙ (zeroes_still old.classes new.classes g.classes o false (result_of old.function) t).up h;
  }

  mutual
    pub fits_still : (p : Position) (role : Role) (e : Tree) → Still (fits old p role e) (fits new p role e)
    fits_still p role (node kind t cat at kids) = both (both (both (stands_still p role kind t cat (heads_of kids))
        (same (enough (kids_in role kind t (heads_of kids)) (length (heads_of kids))))) (same (not (is_switch kind) || labels_fit false kids)))
        (kids_still (inside kind p) (kids_in role kind t (heads_of kids)) 0 kids)

    kids_still : (p : Position) (k : Kids) (i : ℕ) (ts : Trees) → Still (kids_fit old p k i ts) (kids_fit new p k i ts)
    kids_still p k i none = same true
    kids_still p k i (more t ts) = both (both (same (is_some (role_at k i) && is_kid (kind_of t)))
        (choice (is_zero_role (unwrap_or (role_at k i) Value)) (result_still t) (fits_still p (unwrap_or (role_at k i) Value) t)))
        (kids_still p k (suc i) ts)

pub order_law : OrderHolds
order_law classes o = record { earlier = o.earlier }

pub fits_law : FitsStill
fits_law old new o g p role e h = (fits_still old new o g p role e).up h

pub zeroes_law : ZeroesStill
zeroes_law old new o g v t e h = (zeroes_still old new g o v t e).up h

pub destructions_law : DestructionsStill
destructions_law old new o g t hs h = (are_destructions_still old new o g t hs).up h

pub items_law : ItemsStill
items_law old new g t h = holds_still old new g t h
