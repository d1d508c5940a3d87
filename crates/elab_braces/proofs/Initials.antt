-- Initialisers as they are written: what a global is initialised by, and bounds.
use Rattle.std.proofs.Common.{◌≡◌, ◌≢◌, ◌<◌, ℕ, zero, suc, Bool, true, false, Option, Some, None, List, [], ◌∷◌, length, Result, IfOk, refl, sym, ap, ◌∙◌}
use Rattle.std.proofs.Common.{subst, arith}
use Rattle.std.specs.declared.alloc.AllocError.{AllocError}
use Rattle.elab_expr.specs.cpp_lex.Tokens.{Lexeme}
use Rattle.elab_expr.specs.cpp_ast.declared.kinds.NodeKind.TheVariants as k
use Rattle.elab_expr.specs.cpp_ast.Trees as syntax
use Rattle.elab_expr.specs.cpp_ast.declared.arena.NodeId.{NodeId}
use Rattle.elab_expr.specs.cpp_types.declared.types.Ty.{Ty}
use Rattle.elab_expr.specs.cpp_types.Typ.{Typ, typ, array, typ_of}
use Rattle.elab_expr.specs.cpp_types.declared.classes.At.{At}
use Rattle.elab_expr.specs.cpp_tree.declared.faults.ElabFault.{ElabFault}
use Rattle.elab_expr.specs.cpp_tree.declared.arena.TNodeId.{TNodeId}
use Rattle.elab_expr.specs.cpp_tree.Trees.{Tree}
use Rattle.elab_expr.specs.cpp_tree.Typing.{form_in}
use Rattle.elab_expr.specs.elab_ctx.Ctx.{Ctx, Work}
use Rattle.elab_expr.specs.elab_ctx.Says.{Makes}
use Rattle.elab_expr.specs.elab_rules.Braces.{is_char_array, string_token}
use Rattle.elab_expr.specs.elab_rules.Statements.{State, bound_by_initialiser, closed_bound, count}
use Rattle.elab_expr.specs.elab_rules.Globals.{global_object, global_from, from_expression}
use Rattle.elab_expr.specs.elab_types.Syntax.{trees_at}
use Rattle.elab_braces.specs.declared.forms.Written.{Written}
use Rattle.elab_braces.specs.declared.forms.Written.TheVariants as w
use Rattle.elab_braces.specs.Forms.{Form, form_of, by_expression, by_form, object_by, bound_by_form, IsLower}

expression_is : (s : List Lexeme) (st : State) (t : Typ) (e : syntax.Tree) (b : Bool) (n : Option ℕ)
    → from_expression s st t e b n ≡ by_expression s st.ctx st.work t e b n
expression_is s st t e true (Some n) = refl
expression_is s st t e true None = refl
expression_is s st t e false n = refl

pub global_is : (s : List Lexeme) (st : State) (t : Typ) (at : At) (g : ℕ) (kids : syntax.Trees)
    → global_from s st t at g kids ≡ object_by s st.ctx st.work (global_object g t at) t at kids
global_is s st t at g syntax.none = refl
global_is s st t at g (syntax.more (syntax.node k.ParenthesizedInitializer p token es) syntax.none) = refl
global_is s st t at g (syntax.more (syntax.node k.EqualInitializer p token
    (syntax.more (syntax.node k.BracedInitList q brace items) syntax.none)) syntax.none) = refl
global_is s st t at g (syntax.more (syntax.node k.EqualInitializer p token (syntax.more e syntax.none)) syntax.none) =
    expression_is s st t e (is_char_array t) (string_token e)
global_is s st t at g (syntax.more (syntax.node kind p token es) syntax.none) = refl
global_is s st t at g (syntax.more (syntax.node k.ParenthesizedInitializer p token es) (syntax.more u us)) = refl
global_is s st t at g (syntax.more (syntax.node k.EqualInitializer p token (syntax.more (syntax.node k.BracedInitList q brace items) syntax.none))
    (syntax.more u us)) = refl
global_is s st t at g (syntax.more (syntax.node k.EqualInitializer p token (syntax.more e syntax.none)) (syntax.more u us)) = refl
global_is s st t at g (syntax.more (syntax.node k.EqualInitializer p token es) (syntax.more u us)) = refl
global_is s st t at g (syntax.more (syntax.node kind p token es) (syntax.more u us)) = refl

pub bound_is : (s : List Lexeme) (t : Typ) (kids : syntax.Trees) → bound_by_initialiser s t kids ≡ bound_by_form s t (form_of kids)
bound_is s t syntax.none = refl
bound_is s t (syntax.more (syntax.node k.EqualInitializer p token (syntax.more (syntax.node k.BracedInitList q brace items) syntax.none)) syntax.none) = refl
bound_is s t (syntax.more (syntax.node k.EqualInitializer p token (syntax.more e syntax.none)) syntax.none) = refl
bound_is s t (syntax.more (syntax.node kind p token es) syntax.none) = refl
bound_is s t (syntax.more (syntax.node k.ParenthesizedInitializer p token es) (syntax.more u us)) = refl
bound_is s t (syntax.more (syntax.node k.EqualInitializer p token (syntax.more (syntax.node k.BracedInitList q brace items) syntax.none)) (syntax.more u us)) =
    refl
bound_is s t (syntax.more (syntax.node k.EqualInitializer p token (syntax.more e syntax.none)) (syntax.more u us)) = refl
bound_is s t (syntax.more (syntax.node k.EqualInitializer p token es) (syntax.more u us)) = refl
bound_is s t (syntax.more (syntax.node kind p token es) (syntax.more u us)) = refl

pub bound_made : (s : List Lexeme) (t : Typ) (kids : syntax.Trees) (f : Form) (r : Result Ty AllocError) → f ≡ form_of kids
    → IfOk r (λ (u : Ty). typ_of u ≡ bound_by_form s t f) → IfOk r (λ (u : Ty). typ_of u ≡ bound_by_initialiser s t kids)
bound_made s t kids f r e m = subst (λ (z : Typ). IfOk r (λ (u : Ty). typ_of u ≡ z)) (ap (bound_by_form s t) e ∙ sym (bound_is s t kids)) m

pub count_is : (trees : List syntax.Tree) (ids : List NodeId) → count (trees_at trees ids) ≡ length ids
count_is trees [] = refl
count_is trees (i ∷ is) = ap suc (count_is trees is)

pub lower_within : (n m : ℕ) (f : Written) → IsLower n f → n < m → IsLower m f
lower_within n m w.Nothing l h = tt
lower_within n m (w.Values id) l h = omega arith
lower_within n m (w.Braces id) l h = omega arith
lower_within n m (w.Expression id) l h = omega arith
lower_within n m w.Other l h = tt

pub form_makes : (s : List Lexeme) (c : Ctx) (v u : Work) (object : Tree) (t : Typ) (at : At) (kids : syntax.Trees) (f : Form) (old new : List Tree)
    (r : Result TNodeId ElabFault) → f ≡ form_of kids → Makes old new u r (by_form s c v object t at f) → Makes old new u r (object_by s c v object t at kids)
form_makes s c v u object t at kids f old new r e m = subst (λ (z : Form). Makes old new u r (by_form s c v object t at z)) e m

pub same_bound : (t : Typ) (n m : ℕ) (r : Result Ty AllocError) → n ≡ m → IfOk r (λ (u : Ty). typ_of u ≡ closed_bound n t)
    → IfOk r (λ (u : Ty). typ_of u ≡ closed_bound m t)
same_bound t n m r e h = subst (λ (z : ℕ). IfOk r (λ (u : Ty). typ_of u ≡ closed_bound z t)) e h

pub other_bound : (t e : Typ) (n bound : ℕ) → form_in t ≡ array e bound → bound ≢ 0 → closed_bound n t ≡ t
other_bound (typ (array e zero) d v) u n bound h k = let is : zero ≡ bound = cc in absurd (k (sym is))
other_bound (typ (array e (suc m)) d v) u n bound h k = refl
other_bound (typ f d v) u n bound h k = absurd cc

pub no_bound : (t e : Typ) (n bound : ℕ) (c v : Bool) → t ≡ typ (array e bound) c v → bound ≡ 0 → typ (array e n) c v ≡ closed_bound n t
no_bound t e n bound c v h k = rw (h, k) refl
