-- The one expression of an initialiser.
use Rattle.std.proofs.Common.{◌≡◌, ◌≢◌, ◌<◌, ◌+◌, ℕ, Option, Some, None, refl, sym, ap, ◌∙◌}
use Rattle.elab_scopes.specs.cpp_ast.declared.arena.At.{At as SyntaxAt}
use Rattle.elab_scopes.specs.cpp_ast.declared.kinds.NodeKind.{NodeKind}
use Rattle.elab_scopes.specs.cpp_ast.declared.kinds.NodeKind.TheVariants as k
use Rattle.elab_scopes.specs.cpp_ast.Trees.{Tree, node, Trees, none, more}
use Rattle.elab_scopes.specs.elab_rules.Statements.{only_expression}
use Rattle.elab_locals.specs.Values.{only_value, equal_value, expression_in, value_of}

equal_is : (p : SyntaxAt) (token : Option ℕ) (es : Trees) → only_expression (more (node k.EqualInitializer p token es) none) ≡ equal_value es
equal_is p token none = refl
equal_is p token (more (node k.BracedInitList q brace items) none) = refl
equal_is p token (more (node kind q brace items) none) = refl
equal_is p token (more (node k.BracedInitList q brace items) (more u us)) = refl
equal_is p token (more (node kind q brace items) (more u us)) = refl

in_is : (x : Tree) → only_expression (more x none) ≡ expression_in x
in_is (node k.EqualInitializer p token es) = equal_is p token es
in_is (node kind p token none) = refl
in_is (node kind p token (more e none)) = refl
in_is (node kind p token (more e (more u us))) = refl

two_are : (x y : Tree) (us : Trees) → only_expression (more x (more y us)) ≡ None
two_are (node k.EqualInitializer p token none) y us = refl
two_are (node k.EqualInitializer p token (more (node k.BracedInitList q brace items) none)) y us = refl
two_are (node k.EqualInitializer p token (more (node kind q brace items) none)) y us = refl
two_are (node k.EqualInitializer p token (more (node k.BracedInitList q brace items) (more v vs))) y us = refl
two_are (node k.EqualInitializer p token (more (node kind q brace items) (more v vs))) y us = refl
two_are (node kind p token none) y us = refl
two_are (node kind p token (more e none)) y us = refl
two_are (node kind p token (more e (more v vs))) y us = refl

pub value_is : (ts : Trees) → only_expression ts ≡ value_of ts
value_is none = refl
value_is (more x none) = in_is x
value_is (more x (more y us)) = two_are x y us

pub equal_in : (x : Tree) (kind : NodeKind) (p : SyntaxAt) (token : Option ℕ) (us es : Trees) (r : Option Tree) → x ≡ node kind p token us
    → kind ≡ k.EqualInitializer → es ≡ us → r ≡ equal_value es → r ≡ expression_in x
equal_in x kind p token us es r e h f m = m ∙ ap equal_value f ∙ sym (ap expression_in (e ∙ ap (λ (z : NodeKind). node z p token us) h))

other_in : (kind : NodeKind) (p : SyntaxAt) (token : Option ℕ) (us : Trees) → kind ≢ k.EqualInitializer → expression_in (node kind p token us) ≡ only_value us
other_in k.EqualInitializer p token us h = absurd (h refl)
other_in kind p token us h = refl

pub value_in : (x : Tree) (kind : NodeKind) (p : SyntaxAt) (token : Option ℕ) (us es : Trees) (r : Option Tree) → x ≡ node kind p token us
    → kind ≢ k.EqualInitializer → es ≡ us → r ≡ only_value es → r ≡ expression_in x
value_in x kind p token us es r e h f m = m ∙ ap only_value f ∙ sym (ap expression_in e ∙ other_in kind p token us h)

pub none_of_it : {A : Type 0} (r : Option A) → ((x : A) → r ≢ Some x) → r ≡ None
none_of_it {A} None h = refl
none_of_it {A} (Some x) h = absurd (h x refl)
