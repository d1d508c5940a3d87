-- Bodies of functions declare plainly.
use Rattle.std.proofs.Common.{◌≡◌, refl, ap, ℕ, ◌+◌, Bool, true, false, List, [], ◌∷◌, ◌++◌, Option, arith}
use Rattle.std.specs.Prelude.{if◌then◌else◌}
use Rattle.elab_rules.specs.cpp_types.Typ.{Typ, typ, ref}
use Rattle.elab_rules.specs.cpp_types.Class.{held as held_class}
use Rattle.elab_rules.specs.cpp_types.declared.classes.At.{At}
use Rattle.elab_rules.specs.cpp_lex.Tokens.{Lexeme}
use Rattle.elab_rules.specs.cpp_ast.Trees as syntax
use Rattle.elab_rules.specs.cpp_tree.declared.kinds.TKind.{TKind}
use Rattle.elab_rules.specs.cpp_tree.declared.kinds.TKind.TheVariants as forms
use Rattle.elab_rules.specs.cpp_tree.declared.faults.IllRule.TheVariants.{Incomplete}
use Rattle.elab_rules.specs.cpp_tree.Trees.{Tree, node, Trees, none, more, one, kind_of}
use Rattle.elab_rules.specs.cpp_tree.Typing.{is_void, is_class_typ}
use Rattle.elab_rules.specs.elab_ctx.Ctx.{Ctx}
use Rattle.elab_rules.specs.elab_ctx.Steps.{check, at_of}
use Rattle.elab_rules.specs.Objects
use Rattle.elab_rules.specs.Objects.{followed_by}
use Rattle.elab_rules.specs.Initialising.{signature_result}
use Rattle.elab_rules.specs.Operators.{is_complete}
use Rattle.elab_rules.specs.Statements.{State, Done, Lambdas, statement, statements_of, Body}
use Rattle.elab_rules.specs.Functions
use Rattle.elab_rules.specs.Functions.{Header, body_made, entered, with_parameters}
use Rattle.elab_places.specs.Bodies.{DefaultsOwn}
use Rattle.elab_places.proofs.Counting.{declaring}
use Rattle.elab_places.proofs.Steps.{On, bind, skip}
use Rattle.elab_places.proofs.Parts as parts
use Rattle.elab_places.proofs.Keeping as keeping
use Rattle.tree_fold.specs.Declaring.{declares_plainly}
use Rattle.elab_plain.specs.Plain.{RoundPlain, BodiesPlain}
use Rattle.elab_plain.proofs.Counting.{choice, own_choosing, choosing, all_choosing, of_none, plainly, followed}
use Rattle.elab_plain.proofs.Declaring.{StatePlain, KeepsPlain, Ends}
use Rattle.elab_plain.proofs.Statements.{statements}

-- The end of a body

untyped_kind : (e : Tree) → kind_of (Functions.untyped e) ≡ kind_of e
untyped_kind (node (forms.Literal w) t cat at ts) = refl
untyped_kind (node kind t cat at ts) = refl

own_untyped : (kind : TKind) (ts : Trees) → own_choosing kind (Functions.all_untyped ts) ≡ own_choosing kind ts
own_untyped forms.Init (more t ts) = ap choice (untyped_kind t)
own_untyped forms.Init none = refl
own_untyped kind ts = refl

other_untyped : (kind : TKind) (ts : Trees) → all_choosing (Functions.all_untyped ts) ≡ all_choosing ts
    → own_choosing kind (Functions.all_untyped ts) + all_choosing (Functions.all_untyped ts) ≡ own_choosing kind ts + all_choosing ts
other_untyped kind ts h = let i = own_untyped kind ts in omega arith

mutual
  untyped : (e : Tree) → choosing (Functions.untyped e) ≡ choosing e
  untyped (node (forms.Literal w) t cat at ts) = refl
  untyped (node kind t cat at ts) = other_untyped kind ts (all_untyped ts)

  all_untyped : (ts : Trees) → all_choosing (Functions.all_untyped ts) ≡ all_choosing ts
  all_untyped none = refl
  all_untyped (more t ts) = let i = untyped t in let r = all_untyped ts in omega arith

zero_result : (t : Typ) (at : At) → choosing (Functions.zero_result t at) ≡ 0
zero_result (typ (ref t) c v) at = refl
zero_result (typ f c v) at = refl

end_by : (c : Ctx) (t : Typ) (at : At) (a b : Bool)
    → all_choosing (if a then none else (if b then more (Functions.result_zeroed c t at) (one (Functions.void_at forms.Return at none)) else one
    (Functions.void_at forms.Return at (one (Functions.zero_result t at))))) ≡ 0
end_by c t at true b = refl
end_by c t at false true = let z = untyped (Objects.zeros c.classes at t) in
    let i = of_none (Objects.zeros c.classes at t) (parts.zeros declaring c.classes at t) in omega arith
end_by c t at false false = let z = zero_result t at in omega arith

pub end_of : (c : Ctx) (t : Typ) (at : At) → all_choosing (Functions.end_of c t at) ≡ 0
end_of c t at = end_by c t at (is_void t) (is_class_typ t)

-- the block of a function
pub block_plain : (c : Ctx) (t : Typ) (at q : At) (d : Done) → Ends d
    → choosing (statement (forms.Block false) at (followed_by d.trees (Functions.end_of c t q))) ≡ 0
block_plain c t at q d h = let a = h.counted in let b = end_of c t q in let f = followed d.trees (Functions.end_of c t q) in omega arith

-- A body that is made

one_body : (bs : List Body) (b : Body) → BodiesPlain bs → declares_plainly b.tree ≡ true → BodiesPlain (bs ++ b ∷ [])
one_body [] b h i = (i, tt)
one_body (x ∷ bs) b h i = (h.0, one_body bs b h.1 i)

pub made_plain : (old : State) (at : At) (func : ℕ) (tree : Tree) (st : State) → DefaultsOwn old.ctx.defaults → StatePlain st → choosing tree ≡ 0
    → On StatePlain (body_made old at func tree st)
made_plain old at func tree st own h e = skip StatePlain (Functions.within_frame st.ctx at st.work.frame) _ (λ y. record {
  defaults = own;
  bodies = one_body st.bodies (record { func = func; tree = tree; frame = st.work.frame }) h.bodies (plainly tree e);
})

module _ (lams : Lambdas) (keeps : KeepsPlain lams) (s : List Lexeme) where
  pub function_plain : (st : State) (h : Header) (this : Option Typ) (func : ℕ) (t : syntax.Tree) → StatePlain st
      → On StatePlain (Functions.function_body lams s st h this func t)
  function_plain st h this func (syntax.node kind q token kids) own =
      skip StatePlain (check h.at Incomplete (is_complete st.ctx (held_class (signature_result h.signature)))) _
      (λ x. bind StatePlain StatePlain (with_parameters s (entered st (signature_result h.signature) this h.class) h.params) _
      (keeping.parameters RoundPlain s (entered st (signature_result h.signature) this h.class) h.params
      (record { defaults = own.defaults; bodies = own.bodies }))
      (λ e i. bind Ends StatePlain (statements_of lams s e kids) _ (statements lams keeps s e kids i)
      (λ d j. made_plain st h.at func
      (statement (forms.Block false) (at_of q) (followed_by d.trees (Functions.end_of d.state.ctx (signature_result h.signature) (at_of q)))) d.state
      own.defaults j.own (block_plain d.state.ctx (signature_result h.signature) (at_of q) (at_of q) d j))))
