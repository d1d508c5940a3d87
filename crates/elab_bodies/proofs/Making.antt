-- Bodies of functions, constructors, destructors and implicit members.
use Rattle.std.proofs.Common.{◌≡◌, refl, sym, ap, ◌∙◌, subst, ℕ, true, false, List, [], ◌∷◌, append_assoc, map, Option, Some, Result}
use Rattle.std.proofs.Common.{Ok, eq-eqb}
use Rattle.elab_rules.specs.cpp_types.Typ.{Typ, void, class, Typs, none as no_typs, more as and_typ}
use Rattle.elab_rules.specs.cpp_types.Class.{held as held_class}
use Rattle.elab_rules.specs.cpp_types.Equal.{flag_eq}
use Rattle.elab_rules.specs.cpp_types.declared.classes.At.{At}
use Rattle.elab_rules.specs.cpp_lex.Tokens.{Lexeme}
use Rattle.elab_rules.specs.cpp_ast.Trees as syntax
use Rattle.elab_rules.specs.cpp_tree.declared.kinds.TKind.TheVariants as forms
use Rattle.elab_rules.specs.cpp_tree.declared.program.FuncKind.{FuncKind}
use Rattle.elab_rules.specs.cpp_tree.declared.program.FuncKind.TheVariants.{Plain, Constructor, Destructor, ClosureCall}
use Rattle.elab_rules.specs.cpp_tree.declared.faults.ElabFault.{ElabFault}
use Rattle.elab_rules.specs.cpp_tree.declared.faults.IllRule.TheVariants.{Incomplete}
use Rattle.elab_rules.specs.cpp_tree.Notation.{plain}
use Rattle.elab_rules.specs.cpp_tree.Trees.{Tree, Trees, none, kind_of}
use Rattle.elab_rules.specs.cpp_tree.Rows.{is_special, is_constructor}
use Rattle.elab_rules.specs.cpp_tree.WellFormed.{is_body_of, ends_well}
use Rattle.elab_rules.specs.elab_ctx.Ctx.{Ctx, Func}
use Rattle.elab_rules.specs.elab_ctx.Steps.{check, at_of}
use Rattle.elab_rules.specs.Objects.{followed_by}
use Rattle.elab_rules.specs.Initialising.{signature_result}
use Rattle.elab_rules.specs.Operators.{is_complete}
use Rattle.elab_rules.specs.Statements.{State, Lambdas, statement, statements_of}
use Rattle.elab_rules.specs.Functions.{Header, param_of, entered, with_parameters, result_items, this_items, end_of, within_frame, body_made, function_body}
use Rattle.elab_rules.specs.Members.{Giving, in_object, all_given, parts_built, constructor_tree, constructor_body, destructor_tree, destructor_body}
use Rattle.elab_rules.specs.Implicit.{with_source, source_object, source_const, parts_copied, constructor_implied, body_implied}
use Rattle.elab_rules.specs.Lambdas.{lambdas_of}
use Rattle.elab_fits.specs.Standing.{On}
use Rattle.state_growth.proofs.Steps.{Leaves, after, bind, skip, Ends}
use Rattle.state_growth.proofs.Items.{Lawful}
use Rattle.state_growth.proofs.Statements.{statements_kept}
use Rattle.state_growth.proofs.Bodies.{lambdas_lawful}
use Rattle.state_growth.proofs.Members.{parts_kept}
use Rattle.elab_bodies.specs.Bodies.{result_of, is_object_of, param_items, call_items, Begin, BeginsWithCall, IsBodyOf}
use Rattle.elab_bodies.specs.Making.{MakesBody, Defines, FunctionBodiesFit, ConstructorBodiesFit, DestructorBodiesFit, source_items, ImpliedBodiesFit}
use Rattle.elab_bodies.proofs.Frames.{WithItems, parameters_added, words_by, no_constructor, result_kept, no_result, ends, given_kept, copied_kept}

pub holds : {A : Type 0} (P : A → Type 0) (r : Result A ElabFault) (x : A) → On P r → r ≡ Ok x → P x
holds {A} P r x h e = subst (λ (z : Result A ElabFault). On P z) e h

-- The body that is made

body_is_made : (f : Func) (before : State) (at : At) (func : ℕ) (tree : Tree) (st : State)
    → IsBodyOf f (record { func = func; tree = tree; frame = st.work.frame }) → On (MakesBody f func) (body_made before at func tree st)
body_is_made f before at func tree st h = skip (MakesBody f func) (within_frame st.ctx at st.work.frame) _ (λ y. record {
  others = st.bodies;
  body = record { func = func; tree = tree; frame = st.work.frame };
  bodies = refl;
  is = refl;
  fits = h;
})

pub plain_block : (f : Func) (func : ℕ) (c : Ctx) (r : Typ) (at : At) (ts : Trees) (frame : List Typ) → is_special f.kind ≡ false → result_of f ≡ r
    → BeginsWithCall f frame
    → IsBodyOf f (record { func = func; tree = statement (forms.Block false) at (followed_by ts (end_of c r at)); frame = frame })
plain_block f func c r at ts frame k e w = record {
  block = ap (flag_eq false) (no_constructor f.kind k);
  end = subst (λ (z : Typ). ends_well z (statement (forms.Block false) at (followed_by ts (end_of c r at))) ≡ true) (sym e) (ends c r at ts);
  words = w;
}

special_block : (f : Func) (func : ℕ) (tree : Tree) (frame : List Typ) → is_special f.kind ≡ true → is_body_of f.kind (kind_of tree) ≡ true
    → BeginsWithCall f frame → IsBodyOf f (record { func = func; tree = tree; frame = frame })
special_block f func tree frame k b w = record {
  block = b;
  end = subst (λ (z : Typ). ends_well z tree ≡ true) (sym (no_result f.kind f.declared.signature k)) refl;
  words = w;
}

-- the object of a special member
own_object : (o : Option ℕ) (n : ℕ) → o ≡ Some n → is_object_of o (Some (plain (class n))) ≡ true
own_object o n e = subst (λ (z : Option ℕ). is_object_of z (Some (plain (class n))) ≡ true) (sym e) (eq-eqb n n refl)

object_words : (f : Func) (n : ℕ) (items words frame : List Typ) → is_special f.kind ≡ true → f.class ≡ Some n → param_items f.params ≡ items
    → words ≡ call_items (plain void) (Some (plain (class n))) items → Begin words frame → BeginsWithCall f frame
object_words f n items words frame k c g h b = words_by f (Some (plain (class n))) (plain void) items words frame
    (own_object f.class n c) (no_result f.kind f.declared.signature k) g h b

-- Functions

pub function_made : (lams : Lambdas) → Lawful lams → (s : List Lexeme) (st : State) (h : Header) (this : Option Typ) (func : ℕ) (t : syntax.Tree) (f : Func)
    → Defines h this f → On (MakesBody f func) (function_body lams s st h this func t)
function_made lams q s st h this func (syntax.node kind p token kids) f d =
    skip (MakesBody f func) (check h.at Incomplete (is_complete st.ctx (held_class r))) _
    (λ x. bind (WithItems into items) (MakesBody f func) (with_parameters s into h.params) _ (parameters_added s into h.params)
    (λ e i. bind (Ends e) (MakesBody f func) (statements_of lams s e kids) _ (statements_kept lams q s e kids)
    (λ z j. body_is_made f st h.at func (statement (forms.Block false) (at_of p) (followed_by z.trees (end_of z.state.ctx r (at_of p)))) z.state
    (plain_block f func z.state.ctx r (at_of p) z.trees z.state.work.frame d.kind result
    (words_by f this r items e.work.frame z.state.work.frame d.object result (ap param_items d.params)
    (i ∙ append_assoc (result_items r) (this_items this) items) j.kept.frame)))))
  where
    r : Typ
    r = signature_result h.signature

    into : State
    into = entered st r this h.class

    items : List Typ
    items = param_items (map param_of h.params)

    result : result_of f ≡ r
    result = result_kept f.kind f.declared.signature d.kind ∙ d.result

pub function_law : FunctionBodiesFit
function_law s st h this func t x f d e = holds (MakesBody f func) (function_body lambdas_of s st h this func t) x
    (function_made lambdas_of lambdas_lawful s st h this func t f d) e

-- Constructors

is_made_special : (kind : FuncKind) → kind ≡ Constructor → is_special kind ≡ true
is_made_special kind e = ap is_special e

pub constructor_made : (lams : Lambdas) → Lawful lams → (s : List Lexeme) (st : State) (h : Header) (n func : ℕ) (inits : syntax.Trees) (t : syntax.Tree) (f : Func)
    → f.kind ≡ Constructor → f.class ≡ Some n → f.params ≡ map param_of h.params
    → On (MakesBody f func) (constructor_body lams s st h n func inits t)
constructor_made lams q s st h n func inits (syntax.node kind p token kids) f k c ps =
    bind (WithItems (in_object st n) items) (MakesBody f func) (with_parameters s (in_object st n) h.params) _ (parameters_added s (in_object st n) h.params)
    (λ e i. bind (λ (g : Giving). Leaves e g.state) (MakesBody f func) (all_given lams s n (record { state = e; given = [] }) inits) _
    (given_kept lams q s n (record { state = e; given = [] }) inits)
    (λ g j. bind (Ends g.state) (MakesBody f func) (parts_built g.state h.at n g.given) _ (parts_kept g.state h.at n g.given)
    (λ parts l. bind (Ends parts.state) (MakesBody f func) (statements_of lams s parts.state kids) _ (statements_kept lams q s parts.state kids)
    (λ d m. body_is_made f st h.at func (constructor_tree (at_of p) parts.trees d.trees) d.state
    (special_block f func (constructor_tree (at_of p) parts.trees d.trees) d.state.work.frame (ap is_special k)
    (ap (λ (z : FuncKind). flag_eq true (is_constructor z)) k)
    (object_words f n items e.work.frame d.state.work.frame (ap is_special k) c (ap param_items ps) i
    (after e g.state d.state j (after g.state parts.state d.state l m)).kept.frame))))))
  where
    items : List Typ
    items = param_items (map param_of h.params)

pub constructor_law : ConstructorBodiesFit
constructor_law s st h n func inits t x f k c ps e = holds (MakesBody f func) (constructor_body lambdas_of s st h n func inits t) x
    (constructor_made lambdas_of lambdas_lawful s st h n func inits t f k c ps) e

-- Destructors

destructor_block : (k : FuncKind) → k ≡ Destructor → flag_eq false (is_constructor k) ≡ true
destructor_block k e = ap (λ (z : FuncKind). flag_eq false (is_constructor z)) e

pub destructor_made : (lams : Lambdas) → Lawful lams → (s : List Lexeme) (st : State) (h : Header) (n func : ℕ) (t : syntax.Tree) (f : Func)
    → f.kind ≡ Destructor → f.class ≡ Some n → f.params ≡ [] → On (MakesBody f func) (destructor_body lams s st h n func t)
destructor_made lams q s st h n func (syntax.node kind p token kids) f k c ps =
    bind (Ends (in_object st n)) (MakesBody f func) (statements_of lams s (in_object st n) kids) _ (statements_kept lams q s (in_object st n) kids)
    (λ d m. body_is_made f st h.at func (destructor_tree d.state.ctx h.at (at_of p) n d.trees) d.state
    (special_block f func (destructor_tree d.state.ctx h.at (at_of p) n d.trees) d.state.work.frame (ap is_special k) (destructor_block f.kind k)
    (object_words f n [] (in_object st n).work.frame d.state.work.frame (ap is_special k) c (ap param_items ps) refl m.kept.frame)))

pub destructor_law : DestructorBodiesFit
destructor_law s st h n func t x f k c ps e = holds (MakesBody f func) (destructor_body lambdas_of s st h n func t) x
    (destructor_made lambdas_of lambdas_lawful s st h n func t f k c ps) e

-- Implicit members

constructor_block : (f : Func) (st : State) (at : At) (func n : ℕ) (items words : List Typ) (ts : Trees) (y : State) → f.kind ≡ Constructor → f.class ≡ Some n
    → param_items f.params ≡ items → words ≡ call_items (plain void) (Some (plain (class n))) items
    → Begin words y.work.frame → On (MakesBody f func) (body_made st at func (constructor_tree at ts none) y)
constructor_block f st at func n items words ts y k c ps h b = body_is_made f st at func (constructor_tree at ts none) y
    (special_block f func (constructor_tree at ts none) y.work.frame (ap is_special k) (ap (λ (z : FuncKind). flag_eq true (is_constructor z)) k)
    (object_words f n items words y.work.frame (ap is_special k) c ps h b))

constructor_implied_made : (st : State) (at : At) (func n : ℕ) (ps : Typs) (f : Func) → f.kind ≡ Constructor → f.class ≡ Some n
    → param_items f.params ≡ source_items Constructor ps → On (MakesBody f func) (constructor_implied st at func n ps)
constructor_implied_made st at func n (and_typ t ps) f k c g =
    bind (Ends from) (MakesBody f func) (parts_copied from at n (source_object n t at) (source_const t)) _
    (copied_kept from at n (source_object n t at) (source_const t))
    (λ d h. constructor_block f st at func n (t ∷ []) from.work.frame d.trees d.state k c g refl h.kept.frame)
  where
    from : State
    from = with_source (in_object st n) t
constructor_implied_made st at func n no_typs f k c g = bind (Ends (in_object st n)) (MakesBody f func) (parts_built (in_object st n) at n []) _
    (parts_kept (in_object st n) at n [])
    (λ d h. constructor_block f st at func n [] (in_object st n).work.frame d.trees d.state k c g refl h.kept.frame)

pub implied_made : (st : State) (at : At) (func n : ℕ) (kind : FuncKind) (ps : Typs) (f : Func) → f.kind ≡ kind → is_special kind ≡ true → f.class ≡ Some n
    → param_items f.params ≡ source_items kind ps → On (MakesBody f func) (body_implied st at func n kind ps)
implied_made st at func n Destructor ps f k i c g = body_is_made f st at func (destructor_tree st.ctx at at n none) (in_object st n)
    (special_block f func (destructor_tree st.ctx at at n none) (in_object st n).work.frame (ap is_special k) (destructor_block f.kind k)
    (object_words f n [] (in_object st n).work.frame (in_object st n).work.frame (ap is_special k) c g refl (λ j t e. e)))
implied_made st at func n Constructor ps f k i c g = constructor_implied_made st at func n ps f k c g
implied_made st at func n Plain ps f k i c g = absurd cc
implied_made st at func n ClosureCall ps f k i c g = absurd cc

pub implied_law : ImpliedBodiesFit
implied_law st at func n ps x f i c g e = holds (MakesBody f func) (body_implied st at func n f.kind ps) x
    (implied_made st at func n f.kind ps f refl i c g) e
