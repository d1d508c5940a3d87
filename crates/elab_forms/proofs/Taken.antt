-- Trees that a row takes apart.
use Rattle.std.proofs.Common.{◌≡◌, ◌≢◌, ◌<◌, ◌∙◌, Bool, false, List, [], ◌∷◌, length, Result, Ok, Err, IfOk, refl, sym, ap, arith}
use Rattle.std.specs.declared.alloc.AllocError.{AllocError}
use Rattle.elab_make.specs.cpp_types.Typ.{Typ}
use Rattle.elab_make.specs.cpp_types.declared.classes.At.{At}
use Rattle.elab_make.specs.cpp_types.declared.ranks.Cat.{Cat}
use Rattle.elab_make.specs.cpp_types.declared.ranks.Cat.TheVariants.{Lvalue, Prvalue}
use Rattle.elab_make.specs.cpp_tree.declared.kinds.TKind.{TKind}
use Rattle.elab_make.specs.cpp_tree.declared.kinds.TKind.TheVariants.{Local, Global, Load, Retype, Binary}
use Rattle.elab_make.specs.cpp_tree.Trees.{Tree, node, Trees, none, more, kind_of, cat_of, kids_of}
use Rattle.elab_make.specs.cpp_tree.declared.arena.TNodeId.{TNodeId}
use Rattle.elab_make.specs.cpp_tree.Arena.{trees_at}
use Rattle.elab_make.specs.elab_rules.Operators.{is_read_when_dropped}
use Rattle.elab_forms.specs.Parts.{is_one_prvalue, is_read_lvalue, is_read_by, only_throw}

lvalue_read : (kind : TKind) (t : Typ) (at : At) (kids : Trees) → is_read_when_dropped (node kind t Lvalue at kids) ≡ is_read_lvalue kind kids
lvalue_read (Local k) t at kids = refl
lvalue_read (Global g) t at kids = refl
lvalue_read (Load k v) t at kids = refl
lvalue_read (Binary op k) t at kids = refl
lvalue_read Retype t at (more (node k u Prvalue p kids) none) = refl
lvalue_read Retype t at (more (node k u Lvalue p kids) none) = refl
lvalue_read Retype t at (more e (more f kids)) = refl
lvalue_read Retype t at none = refl
lvalue_read kind t at kids = refl

prvalue_unread : (kind : TKind) (t : Typ) (at : At) (kids : Trees) → is_read_when_dropped (node kind t Prvalue at kids) ≡ false
prvalue_unread (Local k) t at kids = refl
prvalue_unread Retype t at kids = refl
prvalue_unread kind t at kids = refl

pub read_is : (e : Tree) → is_read_when_dropped e ≡ is_read_by (kind_of e) (cat_of e) (kids_of e)
read_is (node kind t Lvalue at kids) = lvalue_read kind t at kids
read_is (node kind t Prvalue at kids) = prvalue_unread kind t at kids

pub read_same : (e : Tree) (k : TKind) (cat : Cat) (r : Result Bool AllocError) → kind_of e ≡ k → cat_of e ≡ cat
    → IfOk r (λ b. b ≡ is_read_by k cat (kids_of e)) → IfOk r (λ b. b ≡ is_read_when_dropped e)
read_same e k cat (Ok b) p q h = h ∙ ap (λ (z : TKind). is_read_by z cat (kids_of e)) (sym p) ∙ ap (λ (z : Cat). is_read_by (kind_of e) z (kids_of e)) (sym q)
    ∙ sym (read_is e)
read_same e k cat (Err x) p q h = tt

pub not_one_kid : (trees : List Tree) (ids : List TNodeId) → length ids ≢ 1 → is_one_prvalue (trees_at trees ids) ≡ false
not_one_kid trees [] h = refl
not_one_kid trees (i ∷ []) h = absurd (h refl)
not_one_kid trees (i ∷ j ∷ ids) h = refl

-- The `throw` that an expression is

pub no_throw : (trees : List Tree) (ids : List TNodeId) (at : At) (e : Tree) → 1 < length ids → only_throw at (trees_at trees ids) e ≡ e
no_throw trees [] at e h = refl
no_throw trees (i ∷ []) at e h = absurd (omega arith)
no_throw trees (i ∷ j ∷ ids) at e h = refl
