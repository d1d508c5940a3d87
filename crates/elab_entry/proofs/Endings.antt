-- The end of a body, behind its statements.
use Rattle.std.proofs.Common.{◌≡◌, ◌∷◌, ◌++◌, Bool, true, false, List, [], length, refl, sym, ap, ◌∙◌, subst, Result, Ok, Err, IfOk, OnOk, if◌then◌else◌}
use Rattle.std.specs.declared.alloc.AllocError.{AllocError}
use Rattle.cpp_types.specs.Typ.{Typ, void}
use Rattle.cpp_types.specs.declared.ranks.Cat.TheVariants.{Prvalue}
use Rattle.cpp_types.specs.declared.classes.At.{At}
use Rattle.elab_stmt.specs.cpp_tree.declared.kinds.TKind.TheVariants as forms
use Rattle.elab_stmt.specs.cpp_tree.declared.arena.TNodeId.{TNodeId}
use Rattle.elab_stmt.specs.cpp_tree.Trees.{Tree, node, Trees, none, one, two}
use Rattle.elab_stmt.specs.cpp_tree.Notation.{plain}
use Rattle.elab_stmt.specs.cpp_tree.Typing.{is_void, is_class_typ}
use Rattle.elab_stmt.specs.cpp_tree.Arena.{tree_at, trees_at, Adds}
use Rattle.elab_stmt.specs.elab_ctx.Ctx.{Ctx}
use Rattle.elab_stmt.specs.elab_ctx.Says.{are_within, AddsAll}
use Rattle.elab_stmt.proofs.elab_ctx.Looks.{grows_refl, grows_trans, at_grown}
use Rattle.elab_stmt.proofs.elab_ctx.Making.{adds_after, last_adds}
use Rattle.elab_stmt.proofs.elab_init.Listing.{adds_more, adds_one, followed_twice, followed_none}
use Rattle.elab_stmt.specs.elab_rules.Objects.{followed_by, zeros}
use Rattle.elab_stmt.specs.elab_rules.Functions.{void_at, untyped, result_zeroed, end_of}
use Rattle.elab_entry.specs.Ends.{address_of, object_end, value_end}

stand : (a : List Tree) (before : List TNodeId) → are_within (length a) before ≡ true → AddsAll a a before (trees_at a before)
stand a before w = record { grows = grows_refl a; within = w; are = refl }

end_one : (a b : List Tree) (before next : List TNodeId) (r : TNodeId) (t : Tree) → are_within (length a) before ≡ true → Adds a b r t → next ≡ before ++ r ∷ []
    → AddsAll a b next (followed_by (trees_at a before) (one t))
end_one a b before next r t w m n = adds_more a a b before (r ∷ []) next (trees_at a before) (one t) (stand a before w) (adds_one a b r t m) n

pub end_two : (a b c : List Tree) (before mid next : List TNodeId) (r q : TNodeId) (t u : Tree) → are_within (length a) before ≡ true → Adds a b r t
    → Adds b c q u → mid ≡ before ++ r ∷ [] → next ≡ mid ++ q ∷ [] → AddsAll a c next (followed_by (trees_at a before) (two t u))
end_two a b c before mid next r q t u w m n e f =
    subst (λ (z : Trees). AddsAll a c next z) (followed_twice (trees_at a before) (one t) (one u))
    (adds_more a b c mid (q ∷ []) next (followed_by (trees_at a before) (one t)) (one u) (end_one a b before mid r t w m e) (adds_one b c q u n) f)

pub end_value : (a b c : List Tree) (before next : List TNodeId) (r q : TNodeId) (t : Tree) (at : At) → are_within (length a) before ≡ true → Adds a b r t
    → Adds b c q (void_at forms.Return at (one (tree_at b r))) → next ≡ before ++ q ∷ []
    → AddsAll a c next (followed_by (trees_at a before) (one (void_at forms.Return at (one t))))
end_value a b c before next r q t at w m n e = end_one a c before next q (void_at forms.Return at (one t)) w
    (adds_after a b c q (void_at forms.Return at (one (tree_at b r))) (void_at forms.Return at (one t)) m.grows
    (ap (λ (z : Tree). void_at forms.Return at (one z)) m.is) n) e

-- an object that is zero in every scalar
pub zeroed_is : (a b d e : List Tree) (p q : TNodeId) (r : Result TNodeId AllocError) (c : Ctx) (t x v : Typ) (at : At) → x ≡ t → v ≡ plain void
    → Adds a b p (address_of at x) → Adds b d q (untyped (zeros c.classes at t))
    → IfOk r (λ (id : TNodeId). Adds d e id (node forms.Init v Prvalue at (two (tree_at d p) (tree_at d q))))
    → IfOk r (λ (id : TNodeId). Adds a e id (result_zeroed c t at))
zeroed_is a b d e p q r c t x v at f h m n o =
    let first : tree_at d p ≡ address_of at t = at_grown b d p n.grows m.within ∙ m.is ∙ ap (address_of at) f in
    last_adds a d e r (node forms.Init v Prvalue at (two (tree_at d p) (tree_at d q))) (result_zeroed c t at) (grows_trans m.grows n.grows)
    (ap (λ (z : Typ). node forms.Init z Prvalue at (two (tree_at d p) (tree_at d q))) h ∙ ap (λ (z : Tree). void_at forms.Init at (two z (tree_at d q))) first
    ∙ ap (λ (z : Tree). void_at forms.Init at (two (address_of at t) z)) n.is)
    o

-- which end a body has

pub end_none : (a : List Tree) (before : List TNodeId) (c : Ctx) (t : Typ) (at : At) → are_within (length a) before ≡ true → is_void t ≡ true
    → AddsAll a a before (followed_by (trees_at a before) (end_of c t at))
end_none a before c t at w e = subst (λ (z : Trees). AddsAll a a before z)
    (sym (ap (λ (z : Bool). followed_by (trees_at a before) (if z then none else (if is_class_typ t then object_end c t at else value_end t at))) e
    ∙ followed_none (trees_at a before))) (stand a before w)

pub end_object : (a b : List Tree) (before next : List TNodeId) (c : Ctx) (t : Typ) (at : At) (r : Result (Unit {0}) AllocError) → is_void t ≡ false
    → is_class_typ t ≡ true → OnOk r (AddsAll a b next (followed_by (trees_at a before) (object_end c t at)))
    → OnOk r (AddsAll a b next (followed_by (trees_at a before) (end_of c t at)))
end_object a b before next c t at (Ok u) e f m = subst (λ (z : Trees). AddsAll a b next (followed_by (trees_at a before) z))
    (sym (ap (λ (z : Bool). if z then none else (if is_class_typ t then object_end c t at else value_end t at)) e
    ∙ ap (λ (z : Bool). if z then object_end c t at else value_end t at) f)) m
end_object a b before next c t at (Err x) e f m = tt

pub end_scalar : (a b : List Tree) (before next : List TNodeId) (c : Ctx) (t : Typ) (at : At) (r : Result (Unit {0}) AllocError) → is_void t ≡ false
    → is_class_typ t ≡ false → OnOk r (AddsAll a b next (followed_by (trees_at a before) (value_end t at)))
    → OnOk r (AddsAll a b next (followed_by (trees_at a before) (end_of c t at)))
end_scalar a b before next c t at (Ok u) e f m = subst (λ (z : Trees). AddsAll a b next (followed_by (trees_at a before) z))
    (sym (ap (λ (z : Bool). if z then none else (if is_class_typ t then object_end c t at else value_end t at)) e
    ∙ ap (λ (z : Bool). if z then object_end c t at else value_end t at) f)) m
end_scalar a b before next c t at (Err x) e f m = tt
