-- Bodies of functions, of lambdas too: their places are those behind the words of a call.
use Rattle.std.proofs.Common.{◌≡◌, refl, ap, ◌∙◌, ℕ, ◌+◌, ◌≤◌, Bool, true, false, List, [], ◌∷◌, length, length-append, Option}
use Rattle.std.proofs.Common.{Some, None, Result, Ok, Err, arith}
use Rattle.std.specs.Prelude.{if◌then◌else◌}
use Rattle.elab_rules.specs.cpp_types.Typ.{Typ, typ, ref}
use Rattle.elab_rules.specs.cpp_types.Class.{held as held_class}
use Rattle.elab_rules.specs.cpp_types.declared.classes.At.{At}
use Rattle.elab_rules.specs.cpp_lex.Tokens.{Lexeme}
use Rattle.elab_rules.specs.cpp_ast.Trees as syntax
use Rattle.elab_rules.specs.cpp_tree.declared.kinds.TKind.{TKind}
use Rattle.elab_rules.specs.cpp_tree.declared.kinds.TKind.TheVariants as forms
use Rattle.elab_rules.specs.cpp_tree.declared.faults.ElabFault.{ElabFault}
use Rattle.elab_rules.specs.cpp_tree.declared.faults.IllRule.TheVariants.{Incomplete, Redeclared}
use Rattle.elab_rules.specs.cpp_tree.Trees.{Tree, node, Trees, none, more, one, kind_of}
use Rattle.elab_rules.specs.cpp_tree.Typing.{is_void, is_class_typ}
use Rattle.elab_rules.specs.elab_ctx.Ctx.{Ctx}
use Rattle.elab_rules.specs.elab_ctx.Steps.{check, at_of, spelling}
use Rattle.elab_rules.specs.Objects
use Rattle.elab_rules.specs.Objects.{followed_by}
use Rattle.elab_rules.specs.Initialising.{signature_result}
use Rattle.elab_rules.specs.Operators.{is_complete}
use Rattle.elab_rules.specs.Types.{Parameter}
use Rattle.elab_rules.specs.Statements.{State, Done, Lambdas, statement, statements_of, is_fresh}
use Rattle.elab_rules.specs.Functions
use Rattle.elab_rules.specs.Functions.{Header, result_items, this_items, word_item, body_made, entered, with_parameters}
use Rattle.elab_places.specs.Bodies.{DefaultsOwn, LeavesFrame}
use Rattle.elab_places.specs.Functions.{MakesBody, call_words, FunctionBodiesOwn}
use Rattle.elab_places.proofs.Counting.{Sought, place, declared, own_count, local_count, held, all_held, used, room}
use Rattle.elab_places.proofs.Steps.{On, bind, skip, turn, held_by}
use Rattle.elab_places.proofs.Owned.{declared_none}
use Rattle.elab_places.proofs.OfExpressions.{tree_owned}
use Rattle.elab_places.proofs.Parts as parts
use Rattle.elab_places.proofs.Declaring.{Ends}
use Rattle.elab_places.proofs.Statements as statements

-- what holds of an answer for each place holds for all of them
pub on_all : {A : Type 0} (P : ℕ → A → Type 0) (r : Result A ElabFault) → ((p : ℕ) → On (P p) r) → On (λ (a : A). (p : ℕ) → P p a) r
on_all P (Ok a) h = h
on_all P (Err e) h = tt

-- The end of a body

module _ (g : Sought) where
  untyped_kind : (e : Tree) → kind_of (Functions.untyped e) ≡ kind_of e
  untyped_kind (node (forms.Literal w) t cat at ts) = refl
  untyped_kind (node kind t cat at ts) = refl

  own_untyped : (kind : TKind) (ts : Trees) → own_count g kind (Functions.all_untyped ts) ≡ own_count g kind ts
  own_untyped forms.Init (more t ts) = ap (λ (z : TKind). declared g + local_count g z) (untyped_kind t)
  own_untyped forms.Init none = refl
  own_untyped kind ts = refl

  other_untyped : (kind : TKind) (ts : Trees) → all_held g (Functions.all_untyped ts) ≡ all_held g ts
      → own_count g kind (Functions.all_untyped ts) + all_held g (Functions.all_untyped ts) ≡ own_count g kind ts + all_held g ts
  other_untyped kind ts h = let i = own_untyped kind ts in omega arith

  mutual
    untyped : (e : Tree) → held g (Functions.untyped e) ≡ held g e
    untyped (node (forms.Literal w) t cat at ts) = refl
    untyped (node kind t cat at ts) = other_untyped kind ts (all_untyped ts)

    all_untyped : (ts : Trees) → all_held g (Functions.all_untyped ts) ≡ all_held g ts
    all_untyped none = refl
    all_untyped (more t ts) = let i = untyped t in let r = all_untyped ts in omega arith

  zero_result : (t : Typ) (at : At) → held g (Functions.zero_result t at) ≡ 0
  zero_result (typ (ref t) c v) at = refl
  zero_result (typ f c v) at = refl

end_by : (p : ℕ) (c : Ctx) (t : Typ) (at : At) (a b : Bool)
    → all_held (place p) (if a then none else (if b then more (Functions.result_zeroed c t at) (one (Functions.void_at forms.Return at none)) else one
    (Functions.void_at forms.Return at (one (Functions.zero_result t at))))) ≡ 0
end_by p c t at true b = refl
end_by p c t at false true = let d = declared_none p in let z = untyped (place p) (Objects.zeros c.classes at t) in
    let i = parts.zeros (place p) c.classes at t in omega arith
end_by p c t at false false = let z = zero_result (place p) t at in omega arith

pub end_of : (p : ℕ) (c : Ctx) (t : Typ) (at : At) → all_held (place p) (Functions.end_of c t at) ≡ 0
end_of p c t at = end_by p c t at (is_void t) (is_class_typ t)

-- A body that is made

pub body_is_made : (old : State) (at : At) (func : ℕ) (tree : Tree) (st : State) (words : ℕ)
    → ((p : ℕ) → held (place p) tree + room (place p) words ≤ used (place p) st.work) → On (MakesBody words func old) (body_made old at func tree st)
body_is_made old at func tree st words h = skip (MakesBody words func old) (Functions.within_frame st.ctx at st.work.frame) _ (λ y. record {
  kept = record { frame = refl; defaults = refl };
  others = st.bodies;
  body = record { func = func; tree = tree; frame = st.work.frame };
  bodies = refl;
  is = refl;
  owns = tree_owned words (length st.work.frame) tree h;
})

-- Into a body

-- so many items are in the frame
pub record Enters (words : ℕ) (x : State) : Type 0 where
  pub frame : length x.work.frame ≡ words
  pub own : DefaultsOwn x.ctx.defaults

one_parameter : (s : List Lexeme) (st : State) (words : ℕ) (q : Parameter) (o : Option ℕ) → Enters words st
    → On (Enters (words + 1)) (Functions.parameter_named s st q o)
one_parameter s st words q (Some n) h = skip (Enters (words + 1)) (check q.at Redeclared (is_fresh st.ctx (spelling s n))) _
    (λ y. record { frame = length-append st.work.frame (word_item q.typ ∷ []) ∙ ap (λ (z : ℕ). z + 1) h.frame; own = h.own })
one_parameter s st words q None h =
    record { frame = length-append st.work.frame (word_item q.typ ∷ []) ∙ ap (λ (z : ℕ). z + 1) h.frame; own = h.own }

pub parameters : (s : List Lexeme) (st : State) (words : ℕ) (ps : List Parameter) → Enters words st
    → On (Enters (words + length ps)) (with_parameters s st ps)
parameters s st words [] h = record { frame = let i = h.frame in omega arith; own = h.own }
parameters s st words (q ∷ ps) h =
    skip (Enters (words + length (q ∷ ps))) (check q.at Incomplete (is_complete st.ctx (held_class q.typ))) _
    (λ y. bind (Enters (words + 1)) (Enters (words + length (q ∷ ps))) (Functions.parameter_named s st q q.name) _ (one_parameter s st words q q.name h)
    (λ x i. turn (Enters (words + 1 + length ps)) (Enters (words + length (q ∷ ps))) (with_parameters s x ps)
    (λ z j. record { frame = let e = j.frame in omega arith; own = j.own }) (parameters s x (words + 1) ps i)))

pub enters : (st : State) (r : Typ) (this : Option Typ) (cls : Option ℕ) → DefaultsOwn st.ctx.defaults
    → Enters (length (result_items r) + length (this_items this)) (entered st r this cls)
enters st r this cls own = record { frame = length-append (result_items r) (this_items this); own = own }

-- statements in a body
pub in_body : (lams : Lambdas) → LeavesFrame lams → (s : List Lexeme) (st : State) (ts : syntax.Trees) → DefaultsOwn st.ctx.defaults
    → On (λ (d : Done). (p : ℕ) → Ends p st d) (statements_of lams s st ts)
in_body lams leaves s st ts own = on_all (λ p d. Ends p st d) (statements_of lams s st ts) (λ p. statements.statements p lams leaves s st ts own)

-- the block of a function, behind its parameters
pub block_counts : (p : ℕ) (c : Ctx) (t : Typ) (at q : At) (words : ℕ) (e : State) (d : Done) → Enters words e → Ends p e d
    → held (place p) (statement (forms.Block false) at (followed_by d.trees (Functions.end_of c t q))) + room (place p) words
    ≤ used (place p) d.state.work
block_counts p c t at q words e d h i =
    let a = i.counted in let b = end_of p c t q in let f = parts.followed (place p) d.trees (Functions.end_of c t q) in
    let r : used (place p) e.work ≡ room (place p) words = ap (room (place p)) h.frame in omega arith

pub function_made : (lams : Lambdas) → LeavesFrame lams → (s : List Lexeme) (st : State) (h : Header) (this : Option Typ) (func : ℕ) (t : syntax.Tree)
    → DefaultsOwn st.ctx.defaults
    → On (MakesBody (call_words (signature_result h.signature) this (length h.params)) func st) (Functions.function_body lams s st h this func t)
function_made lams leaves s st h this func (syntax.node kind q token kids) own =
    skip (MakesBody words func st) (check h.at Incomplete (is_complete st.ctx (held_class (signature_result h.signature)))) _
    (λ x. bind (Enters words) (MakesBody words func st) (with_parameters s (entered st (signature_result h.signature) this h.class) h.params) _
    (parameters s (entered st (signature_result h.signature) this h.class) (length (result_items (signature_result h.signature)) + length (this_items this))
    h.params (enters st (signature_result h.signature) this h.class own))
    (λ e i. bind (λ (d : Done). (p : ℕ) → Ends p e d) (MakesBody words func st) (statements_of lams s e kids) _ (in_body lams leaves s e kids i.own)
    (λ d j. body_is_made st h.at func
    (statement (forms.Block false) (at_of q) (followed_by d.trees (Functions.end_of d.state.ctx (signature_result h.signature) (at_of q)))) d.state words
    (λ p. block_counts p d.state.ctx (signature_result h.signature) (at_of q) (at_of q) words e d i (j p)))))
  where
    words : ℕ
    words = call_words (signature_result h.signature) this (length h.params)

pub function_bodies_law : FunctionBodiesOwn
function_bodies_law lams leaves s st h this func t x own e =
    held_by (MakesBody (call_words (signature_result h.signature) this (length h.params)) func st) (Functions.function_body lams s st h this func t) x
    (function_made lams leaves s st h this func t own) e
