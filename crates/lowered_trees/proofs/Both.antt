-- Nodes that stand for a value or for an object that is built.
use Rattle.std.proofs.Common.{◌≡◌, ℕ, Bool, true, false, not, ◌||◌, cond, refl, sym, ap, ◌∙◌, subst}
use Rattle.std.proofs.lemmas.Bool.{true≢false}
use Rattle.cpp_tree.specs.cpp_types.Typ.{Typ}
use Rattle.cpp_tree.specs.cpp_types.Conversion.{is_lvalue}
use Rattle.cpp_tree.specs.cpp_types.declared.ranks.Cat.{Cat}
use Rattle.cpp_tree.specs.cpp_types.declared.ranks.Cat.TheVariants.{Lvalue, Prvalue}
use Rattle.cpp_tree.specs.declared.arena.TNodeId.{TNodeId}
use Rattle.cpp_tree.specs.declared.kinds.TKind.{TKind}
use Rattle.cpp_tree.specs.declared.roles.Role.{Role}
use Rattle.cpp_tree.specs.Typing.{is_result, is_class_prvalue}
use Rattle.cpp_tree.specs.Roles.{serves, way_fits, may_give, may_build, is_copy, is_piece, is_handler}
use Rattle.low_code.specs.Types.{is_void, word_count}
use Rattle.unwind_lower.specs.declared.items.Way.{Way}
use Rattle.unwind_lower.specs.declared.items.Way.TheVariants.{Into}
use Rattle.unwind_lower.specs.Settings.{Setting, node_in}
use Rattle.lowered_trees.specs.Shapes.{Gives, valued, dropped, HandsBack, handed, in_place}
use Rattle.lowered_trees.specs.Words.{tells}
use Rattle.lowered_trees.proofs.Known.{Serves, for_value, of_result, word, builds, copies, statement, block_item, switch_item, step, part, copied_part, caught}
use Rattle.lowered_trees.proofs.Known.{dropped as drops}
use Rattle.lowered_trees.proofs.Callees.{hands_value, hands_nothing}

pub data Either (way : Way) (kind : TKind) (t : Typ) (cat : Cat) : Type 0 where
  as_value : Gives way → may_give kind t cat ≡ true → Either way kind t cat
  as_object : way ≡ Into → may_build kind t cat ≡ true → Either way kind t cat

no : {A : Type 0} (b : Bool) → b ≡ true → b ≡ false → A
no b t f = absurd (true≢false (sym t ∙ f))

pub either : {a : Bool} {role : Role} {way : Way} → Serves a role way → (kind : TKind) (t : Typ) (cat : Cat) → serves role kind ≡ true
    → way_fits role kind t cat ≡ true → is_copy kind ≡ false → is_piece kind ≡ false → is_handler kind ≡ false → Either way kind t cat
either for_value kind t cat s f c p h = as_value valued f
either drops kind t cat s f c p h = as_value dropped f
either of_result kind t cat s f c p h = as_value valued f
either word kind t cat s f c p h = as_value valued f
either builds kind t cat s f c p h = as_object refl f
either copies kind t cat s f c p h = no (is_copy kind) s c
either statement kind t cat s f c p h = as_value dropped f
either block_item kind t cat s f c p h = as_value dropped f
either switch_item kind t cat s f c p h = as_value dropped f
either step kind t cat s f c p h = as_value dropped f
either part kind t cat s f c p h = no (is_piece kind) s p
either copied_part kind t cat s f c p h = no (is_piece kind) s p
either caught kind t cat s f c p h = no (is_handler kind) s h

-- an lvalue has a type
pub lvalue_told : (a : Bool) (kind : TKind) (t : Typ) (cat : Cat) → tells a kind t cat ≡ true → is_lvalue cat ≡ true → is_void t ≡ false
lvalue_told a kind t Prvalue e l = absurd cc
lvalue_told a kind t Lvalue e l = by_typ (is_void t) refl e where
  by_typ : (v : Bool) → is_void t ≡ v → (false || not v) ≡ true → is_void t ≡ false
  by_typ true i f = absurd cc
  by_typ false i f = i

not_true : (b : Bool) → not b ≡ true → b ≡ false
not_true true e = absurd cc
not_true false e = refl

-- a call of what is neither a throw nor a full-expression hands back what its way asks
pub hands_back : (g : Setting) (id : TNodeId) (way : Way) (kind : TKind) (t : Typ) (cat : Cat) (r : Typ) (n : ℕ) → n ≡ word_count r → is_result r t cat ≡ true
    → (node_in g id).typ ≡ t → (is_lvalue cat ≡ true → is_void t ≡ false) → (may_give kind t cat ≡ true → not (is_class_prvalue t cat) ≡ true)
    → (may_build kind t cat ≡ true → is_class_prvalue t cat ≡ true) → Either way kind t cat → HandsBack n (node_in g id) way
hands_back g id way kind t cat r n e i s l v b (as_value w m) =
    handed w (e ∙ hands_value r t cat i (not_true (is_class_prvalue t cat) (v m)) l ∙ ap (λ x. cond (is_void x) 0 1) (sym s))
hands_back g id way kind t cat r n e i s l v b (as_object w m) =
    subst (λ x. HandsBack n (node_in g id) x) (sym w) (in_place (e ∙ hands_nothing r t cat i (b m)))
