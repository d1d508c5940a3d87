-- The body of a function that is known, and has the parameters with which it is made.
use Rattle.std.proofs.Common.{◌≡◌, refl, sym, ap, ◌∙◌, subst, ℕ, ◌+◌, true, false, List, [], ◌∷◌, map, length, slice_get, arith}
use Rattle.std.proofs.Common.{Option, Some, None, is_some, eq-eqb}
use Rattle.std.specs.Prelude.{slice_set}
use Rattle.std.proofs.lemmas.List.{length-map}
use Rattle.elab_rules.specs.cpp_types.Typ.{Typ}
use Rattle.elab_rules.specs.cpp_lex.Tokens.{Lexeme}
use Rattle.elab_rules.specs.cpp_ast.Trees as syntax
use Rattle.elab_rules.specs.cpp_tree.Units.{Param}
use Rattle.elab_rules.specs.cpp_tree.declared.program.FuncKind.{FuncKind}
use Rattle.elab_rules.specs.cpp_tree.declared.program.FuncKind.TheVariants.{Plain, Constructor, Destructor, ClosureCall}
use Rattle.elab_rules.specs.cpp_tree.Rows.{is_special}
use Rattle.elab_rules.specs.cpp_tree.Typing.{is_class_typ}
use Rattle.elab_rules.specs.elab_ctx.Ctx.{Ctx, Func}
use Rattle.elab_rules.specs.Initialising.{func_at, signature_parameters, signature_result}
use Rattle.elab_rules.specs.Programs.{one_if, words_of}
use Rattle.elab_rules.specs.Statements.{State}
use Rattle.elab_rules.specs.Functions.{Header, param_of, function_body, defined_function}
use Rattle.elab_rules.specs.Classes.{Method}
use Rattle.elab_rules.specs.Members.{constructor_body, destructor_body, body_by_kind, this_type}
use Rattle.elab_rules.specs.Lambdas.{lambdas_of}
use Rattle.elab_bodies.specs.Bodies.{number_of, is_object_of}
use Rattle.elab_bodies.specs.Keeping.{HasFunction}
use Rattle.elab_bodies.proofs.Making as making
use Rattle.elab_bodies.proofs.Keeping as keeping
use Rattle.elab_places.specs.Bodies.{DefaultsOwn}
use Rattle.elab_places.specs.Functions.{call_words}
use Rattle.elab_places.specs.Round.{round_of, BodiesOwn, AllOwned}
use Rattle.elab_places.proofs.Steps.{On}
use Rattle.elab_places.proofs.Declaring.{on}
use Rattle.elab_places.proofs.Words.{words_law}
use Rattle.elab_places.proofs.Rounds.{functions_bodies_law}
use Rattle.elab_places.proofs.MemberRounds.{constructors_bodies_law, destructors_bodies_law}
use Rattle.elab_program_bodies.specs.Known.{IsKnown, all_wait, Stand, Holds}
use Rattle.elab_program_bodies.proofs.Lists.{at_func, is_within, set_at}
use Rattle.elab_program_bodies.proofs.Known.{well_signed, stand_follows, Redefined, known_again, stand_set, bodies_set}

-- The function that the header is of, before it is defined
pub record Finds (funcs : List Func) (h : Header) (place : ℕ) : Type 0 where
  pub func : Func
  pub at : slice_get funcs place ≡ Some func
  pub undefined : func.is_defined ≡ false
  pub kind : func.kind ≡ h.kind
  pub class : func.class ≡ h.class
  pub params : number_of (signature_parameters func.declared.signature) ≡ number_of (signature_parameters h.signature)
  pub result : signature_result func.declared.signature ≡ signature_result h.signature

-- the same where it is defined, before its body is made
pub record Ready (st : State) (place : ℕ) (h : Header) : Type 0 where
  pub func : Func
  pub at : slice_get st.ctx.funcs place ≡ Some func
  pub defined : func.is_defined ≡ true
  pub known : IsKnown func
  pub kind : func.kind ≡ h.kind
  pub class : func.class ≡ h.class
  pub result : signature_result func.declared.signature ≡ signature_result h.signature
  pub params : func.params ≡ map param_of h.params
  pub counted : number_of (signature_parameters func.declared.signature) ≡ length func.params
  pub stand : Stand all_wait (Some place) st.ctx.funcs st.bodies
  pub owned : AllOwned (round_of st)

-- what it becomes
pub record Becomes (h : Header) (f g : Func) : Type 0 where
  pub redefined : Redefined f g
  pub params : g.params ≡ map param_of h.params

pub becomes : (h : Header) (f : Func) (text : List ℕ) (closed : ℕ) → number_of (signature_parameters f.declared.signature) ≡ number_of (signature_parameters h.signature)
    → number_of (signature_parameters h.signature) ≡ length h.params → Becomes h f (defined_function f h text closed)
becomes h f text closed n m = record {
  redefined = record {
    declared = refl;
    kind = refl;
    class = refl;
    implicit = refl;
    defined = refl;
    counted = n ∙ m ∙ sym (length-map h.params param_of);
  };
  params = refl;
}

pub ready : (st : State) (h : Header) (place : ℕ) (c : Ctx) (g : Func) → Holds st → (x : Finds st.ctx.funcs h place) → Becomes h x.func g
    → c.funcs ≡ slice_set st.ctx.funcs place g → c.defaults ≡ st.ctx.defaults → Ready (record st { ctx = c }) place h
ready st h place c g i x b e d = record {
  func = g;
  at = ap (λ (fs : List Func). slice_get fs place) e ∙ set_at st.ctx.funcs place g x.func x.at;
  defined = b.redefined.defined;
  known = known_again x.func g b.redefined (i.stand.known.each place x.func x.at);
  kind = b.redefined.kind ∙ x.kind;
  class = b.redefined.class ∙ x.class;
  result = ap (λ z. signature_result z.signature) b.redefined.declared ∙ x.result;
  params = b.params;
  counted = b.redefined.counted;
  stand = subst (λ (fs : List Func). Stand all_wait (Some place) fs st.bodies) (sym e)
      (stand_set all_wait st.ctx.funcs st.bodies place x.func g x.at x.undefined b.redefined i.stand);
  owned = record {
    defaults = subst DefaultsOwn (sym d) i.owned.defaults;
    bodies = subst (λ (fs : List Func). BodiesOwn fs st.bodies) (sym e)
        (bodies_set st.ctx.funcs place x.func g x.at b.redefined st.bodies i.stand.counts.each i.owned.bodies);
  };
}

-- Bodies

has_function : (st : State) (place : ℕ) (h : Header) → (r : Ready st place h) → HasFunction st place r.func
has_function st place h r = record { at = r.at; defined = r.defined; signed = well_signed r.func r.known r.counted }

many : (st : State) (place : ℕ) (h : Header) → (r : Ready st place h) → length r.func.params ≡ length h.params
many st place h r = ap length r.params ∙ length-map h.params param_of

some_object : (o : Option ℕ) (this : Option Typ) → is_object_of o this ≡ true → is_some this ≡ is_some o
some_object None None e = refl
some_object (Some n) (Some t) e = refl
some_object None (Some t) e = absurd cc
some_object (Some n) None e = absurd cc

pub function_holds : (s : List Lexeme) (st : State) (h : Header) (this : Option Typ) (place : ℕ) (t : syntax.Tree) → Ready st place h → is_special h.kind ≡ false
    → is_object_of h.class this ≡ true → On Holds (function_body lambdas_of s st h this place t)
function_holds s st h this place t r k o = on Holds (function_body lambdas_of s st h this place t) (λ x e. record {
  stand = making.holds (keeping.Holds (Stand all_wait)) (function_body lambdas_of s st h this place t) x
      (keeping.function_fits (Stand all_wait) (stand_follows all_wait) s st h this place t r.func r.stand (has_function st place h r)
      (record { kind = ap is_special r.kind ∙ k; object = object; result = r.result; params = r.params })) e;
  owned = functions_bodies_law s st h this place t x r.owned (is_within st.ctx.funcs place r.func r.at) words e;
})
  where
    object : is_object_of r.func.class this ≡ true
    object = ap (λ (z : Option ℕ). is_object_of z this) r.class ∙ o

    words : words_of (func_at st.ctx.funcs place) ≡ call_words (signature_result h.signature) this (length h.params)
    words = ap words_of (at_func st.ctx.funcs place r.func r.at) ∙ words_law r.func this (some_object r.func.class this object)
        ∙ ap (λ (z : Typ). call_words z this (length r.func.params)) r.result
        ∙ ap (λ (z : ℕ). call_words (signature_result h.signature) this z) (many st place h r)

-- a special member has its object and its parameters
special_words : (st : State) (place n : ℕ) (h : Header) → (r : Ready st place h) → is_special r.func.kind ≡ true → r.func.class ≡ Some n
    → words_of (func_at st.ctx.funcs place) ≡ 1 + length h.params
special_words st place n h r k c = ap words_of (at_func st.ctx.funcs place r.func r.at)
    ∙ (let a : one_if (is_class_typ (signature_result r.func.declared.signature)) ≡ 0 = ap one_if (r.known.result k) in
    let b : one_if (is_some r.func.class) ≡ 1 = ap (λ (o : Option ℕ). one_if (is_some o)) c in let m = many st place h r in omega arith)

pub constructor_holds : (s : List Lexeme) (st : State) (h : Header) (n place : ℕ) (inits : syntax.Trees) (t : syntax.Tree) → Ready st place h
    → h.kind ≡ Constructor → h.class ≡ Some n → On Holds (constructor_body lambdas_of s st h n place inits t)
constructor_holds s st h n place inits t r k c = on Holds (constructor_body lambdas_of s st h n place inits t) (λ x e. record {
  stand = making.holds (keeping.Holds (Stand all_wait)) (constructor_body lambdas_of s st h n place inits t) x
      (keeping.constructor_fits (Stand all_wait) (stand_follows all_wait) s st h n place inits t r.func r.stand (has_function st place h r)
      (r.kind ∙ k) (r.class ∙ c) r.params) e;
  owned = constructors_bodies_law s st h n place inits t x r.owned (is_within st.ctx.funcs place r.func r.at)
      (special_words st place n h r (ap is_special (r.kind ∙ k)) (r.class ∙ c)) e;
})

no_params : (ps : List Param) → length ps ≡ 0 → ps ≡ []
no_params [] h = refl
no_params (p ∷ ps) h = absurd cc

pub destructor_holds : (s : List Lexeme) (st : State) (h : Header) (n place : ℕ) (t : syntax.Tree) → Ready st place h → h.kind ≡ Destructor → h.class ≡ Some n
    → On Holds (destructor_body lambdas_of s st h n place t)
destructor_holds s st h n place t r k c = on Holds (destructor_body lambdas_of s st h n place t) (λ x e. record {
  stand = making.holds (keeping.Holds (Stand all_wait)) (destructor_body lambdas_of s st h n place t) x
      (keeping.destructor_fits (Stand all_wait) (stand_follows all_wait) s st h n place t r.func r.stand (has_function st place h r) (r.kind ∙ k) (r.class ∙ c)
      (no_params r.func.params none)) e;
  owned = destructors_bodies_law s st h n place t x r.owned (is_within st.ctx.funcs place r.func r.at)
      (special_words st place n h r (ap is_special (r.kind ∙ k)) (r.class ∙ c) ∙ (let m = many st place h r in let z = none in omega arith)) e;
})
  where
    none : length r.func.params ≡ 0
    none = sym r.counted ∙ ap number_of (r.known.params (r.kind ∙ k))

plain_holds : (s : List Lexeme) (st : State) (n place : ℕ) (m : Method) (t : syntax.Tree) → Ready st place m.header → is_special m.header.kind ≡ false
    → m.header.class ≡ Some n → On Holds (function_body lambdas_of s st m.header (Some (this_type n m.header)) place t)
plain_holds s st n place m t r k c = function_holds s st m.header (Some (this_type n m.header)) place t r k
    (ap (λ (o : Option ℕ). is_object_of o (Some (this_type n m.header))) c ∙ eq-eqb n n refl)

pub method_holds : (s : List Lexeme) (st : State) (n place : ℕ) (of : FuncKind) (m : Method) (t : syntax.Tree) → Ready st place m.header
    → m.header.kind ≡ of → m.header.class ≡ Some n → On Holds (body_by_kind lambdas_of s st n place of m t)
method_holds s st n place Constructor m t r k c = constructor_holds s st m.header n place m.rest t r k c
method_holds s st n place Destructor m t r k c = destructor_holds s st m.header n place t r k c
method_holds s st n place Plain m t r k c = plain_holds s st n place m t r (ap is_special k) c
method_holds s st n place ClosureCall m t r k c = plain_holds s st n place m t r (ap is_special k) c
