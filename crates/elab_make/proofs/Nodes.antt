-- Nodes of parts that are equal.
use Rattle.std.proofs.Common.{◌≡◌, ℕ, refl}
use Rattle.elab_init.specs.cpp_types.Typ.{Typ}
use Rattle.elab_init.specs.cpp_types.declared.classes.At.{At}
use Rattle.elab_init.specs.cpp_types.declared.ranks.Cat.{Cat}
use Rattle.elab_init.specs.cpp_types.declared.ranks.Cat.TheVariants.{Prvalue}
use Rattle.elab_init.specs.cpp_tree.declared.kinds.TKind.{TKind}
use Rattle.elab_init.specs.cpp_tree.declared.kinds.TKind.TheVariants.{Elements}
use Rattle.elab_init.specs.cpp_tree.Trees.{node, Trees, none, more}
use Rattle.elab_init.specs.elab_ctx.Ctx.{Ctx}
use Rattle.elab_init.specs.elab_rules.Objects.{count_in, size_of, element_of, destroys}

pub node_same : (k : TKind) (t u : Typ) (cat : Cat) (at : At) (a b : Trees) → t ≡ u → a ≡ b → node k t cat at a ≡ node k u cat at b
node_same k t u cat at a b e f = rw (e, f) refl

pub elements_same : (c : Ctx) (kind : TKind) (t u e : Typ) (at : At) (count stride : ℕ) (kids : Trees) → count ≡ count_in t → stride ≡ size_of c.classes e
    → e ≡ element_of t → u ≡ t → kids ≡ more (node kind e Prvalue at none) (destroys c at e)
    → node (Elements count stride) u Prvalue at kids ≡ node (Elements (count_in t) (size_of c.classes (element_of t))) t Prvalue at
    (more (node kind (element_of t) Prvalue at none) (destroys c at (element_of t)))
elements_same c kind t u e at count stride kids a b g d k = rw (a, b, d, k, g) refl
