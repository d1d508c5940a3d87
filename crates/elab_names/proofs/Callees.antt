-- Rows by what an expression names.
use Rattle.std.proofs.Common.{◌≡◌, ℕ, ◌==◌, false, List, [], ◌∷◌, length, Err, refl, sym, ap, ◌∙◌, subst}
use Rattle.elab_conv.specs.cpp_types.declared.classes.At.{At}
use Rattle.elab_conv.specs.cpp_tree.declared.faults.ElabFault.{ElabFault}
use Rattle.elab_conv.specs.cpp_tree.declared.faults.ElabFault.TheVariants.{Ill}
use Rattle.elab_conv.specs.cpp_tree.declared.faults.IllRule.TheVariants.{BadOperand}
use Rattle.elab_conv.specs.cpp_tree.declared.arena.TNodeId.{TNodeId}
use Rattle.elab_conv.specs.cpp_tree.Arena.{trees_at}
use Rattle.elab_conv.specs.elab_ctx.Says.{Faults, place_in}
use Rattle.elab_conv.specs.cpp_types.Typ.{Typ, typ, void}
use Rattle.elab_conv.specs.cpp_types.declared.ranks.Cat.{Cat}
use Rattle.elab_conv.specs.cpp_types.declared.ranks.Cat.TheVariants.{Lvalue}
use Rattle.elab_conv.specs.cpp_tree.declared.kinds.TKind.{TKind}
use Rattle.elab_conv.specs.cpp_tree.declared.kinds.TKind.TheVariants.{Function, Default, Builtin}
use Rattle.elab_conv.specs.cpp_tree.Trees.{Tree, node, Trees, kind_of, typ_in, cat_of, kids_of}
use Rattle.elab_conv.specs.elab_ctx.Ctx.{Ctx}
use Rattle.elab_conv.specs.elab_rules.Names.{resolved, resolved_function}
use Rattle.elab_names.specs.declared.resolving.Callee.{Callee}
use Rattle.elab_names.specs.declared.resolving.Callee.TheVariants.{Functions}
use Rattle.elab_names.specs.Callees.{callee_in, callee_at, resolved_by}

resolved_is : (c : Ctx) (t : Tree) → resolved c t ≡ resolved_by c (callee_at t) t
resolved_is c (node (Function k) (typ void d v) Lvalue at kids) = refl
resolved_is c (node Default t cat at kids) = refl
resolved_is c (node (Builtin b) (typ void d v) Lvalue at kids) = refl
resolved_is c (node kind t cat at kids) = refl

-- As the code finds them: by the parts of a node

pub named_by : (t : Tree) (kind : TKind) (ty : Typ) (cat : Cat) → kind_of t ≡ kind → typ_in t ≡ ty → cat_of t ≡ cat → callee_at t ≡ callee_in kind ty cat
named_by t kind ty cat a b d = ap (λ (z : TKind). callee_in z (typ_in t) (cat_of t)) a ∙ ap (λ (z : Typ). callee_in kind z (cat_of t)) b
    ∙ ap (λ (z : Cat). callee_in kind ty z) d

pub resolved_found : (c : Ctx) (t : Tree) (kind : TKind) (ty : Typ) (cat : Cat) (k : Callee) → kind_of t ≡ kind → typ_in t ≡ ty → cat_of t ≡ cat
    → k ≡ callee_in kind ty cat → resolved c t ≡ resolved_by c k t
resolved_found c t kind ty cat k a b d e = resolved_is c t ∙ ap (λ (z : Callee). resolved_by c z t) (named_by t kind ty cat a b d ∙ sym e)

-- functions that have an object are no value
with_kids : (c : Ctx) (at : At) (k : ℕ) (trees : List Tree) (ids : List TNodeId) → (length ids == 0) ≡ false
    → resolved_function c at k (trees_at trees ids) ≡ Err (Ill at BadOperand)
with_kids c at k trees [] h = absurd cc
with_kids c at k trees (id ∷ ids) h = refl

pub refused : (c : Ctx) (t : Tree) (trees : List Tree) (ids : List TNodeId) (kind : TKind) (ty : Typ) (cat : Cat) (at : At) (k : ℕ) (f : ElabFault)
    → kind_of t ≡ kind → typ_in t ≡ ty → cat_of t ≡ cat → place_in t ≡ at → Functions k ≡ callee_in kind ty cat → kids_of t ≡ trees_at trees ids
    → (length ids == 0) ≡ false → f ≡ Ill at BadOperand → Faults f (resolved c t)
refused c t trees ids kind ty cat at k f a b d p e l h g =
    let x : resolved c t ≡ Err (Ill at BadOperand) = resolved_found c t kind ty cat (Functions k) a b d e
    ∙ ap (λ (z : Trees). resolved_function c (place_in t) k z) l ∙ with_kids c (place_in t) k trees ids h ∙ ap (λ (z : At). Err (Ill z BadOperand)) p in
    subst (λ (z : ElabFault). Faults z (resolved c t)) (sym g) x
