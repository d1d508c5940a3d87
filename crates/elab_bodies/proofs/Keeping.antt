-- Behind the body of a function all bodies fit still.
use Rattle.std.proofs.Common.{◌≡◌, refl, sym, ap, ◌∙◌, subst, ℕ, zero, suc, Bool, true, false, ◌&&◌, List, [], ◌∷◌, ◌++◌, map, length, slice_get, Option, Some, None}
use Rattle.std.proofs.Common.{Result, Ok, Err, unwrap_or, arith}
use Rattle.std.specs.Prelude.{if◌then◌else◌}
use Rattle.std.proofs.lemmas.Bool.{and_parts}
use Rattle.elab_rules.specs.cpp_types.Typ.{Typ, Typs}
use Rattle.elab_rules.specs.cpp_types.declared.classes.At.{At}
use Rattle.elab_rules.specs.cpp_tree.declared.program.FuncKind.TheVariants.{Constructor, Destructor}
use Rattle.elab_rules.specs.cpp_lex.Tokens.{Lexeme}
use Rattle.elab_rules.specs.cpp_ast.Trees as syntax
use Rattle.elab_rules.specs.cpp_tree.declared.faults.ElabFault.{ElabFault}
use Rattle.elab_rules.specs.elab_ctx.Ctx.{Func}
use Rattle.elab_rules.specs.Initialising.{func_at, no_function, signature_parameters}
use Rattle.elab_rules.specs.Statements.{State, Body}
use Rattle.elab_rules.specs.Functions.{Header, param_of, function_body}
use Rattle.elab_rules.specs.Members.{constructor_body, destructor_body, all_defaults}
use Rattle.elab_rules.specs.Implicit.{body_implied, implied_of, implied, implied_below, with_implied, is_referred}
use Rattle.elab_rules.specs.Lambdas.{lambdas_of}
use Rattle.elab_fits.specs.Standing.{On}
use Rattle.state_growth.proofs.Lists.{added}
use Rattle.state_growth.proofs.Steps.{bind}
use Rattle.state_growth.proofs.Bodies.{lambdas_lawful}
use Rattle.elab_bodies.specs.Bodies.{WellSigned, IsBodyOf, times_made, AllFit, BodiesFit}
use Rattle.elab_bodies.specs.Making.{MakesBody, Defines}
use Rattle.elab_bodies.specs.Keeping.{HasFunction, FunctionsKeep, ConstructorsKeep, DestructorsKeep, DefaultsKeep, StandsImplicit, HasSource, ImplicitsStand}
use Rattle.elab_bodies.specs.Keeping.{ImpliedKeep}
use Rattle.elab_bodies.proofs.Making.{holds, function_made, constructor_made, destructor_made, implied_made}
use Rattle.elab_bodies.proofs.Closures.{body_last, both, Grows, fits_grow, each_fit}
use Rattle.elab_bodies.proofs.Implicits.{call_stands, body_stands, last_stands, stand_due, fits_due}
use Rattle.elab_bodies.proofs.Ending as ending
use Rattle.elab_bodies.proofs.Ending.{EndsWith}

-- One body behind the others

no_end : {A : Type 0} (ys : List A) (b : A) → [] ≡ ys ++ b ∷ [] → ⊥
no_end [] b e = absurd cc
no_end (y ∷ ys) b e = absurd cc

last_same : {A : Type 0} (xs ys : List A) (a b : A) → xs ++ a ∷ [] ≡ ys ++ b ∷ [] → a ≡ b
last_same [] [] a b e = cc
last_same [] (y ∷ ys) a b e = absurd (no_end ys b cc)
last_same (x ∷ xs) [] a b e = absurd (no_end xs a cc)
last_same (x ∷ xs) (y ∷ ys) a b e = last_same xs ys a b cc

under : (A : Type 0) {B : Type 0} (P : B → Type 0) (r : Result B ElabFault) → (A → On P r) → On (λ (x : B). A → P x) r
under A P (Ok x) f = f
under A P (Err e) f = tt

-- What is kept behind a body that is made

-- the body is one of its function, if that has no other
pub record MayFit (funcs : List Func) (bodies : List Body) (b : Body) : Type 0 where
  pub func : Func
  pub at : slice_get funcs b.func ≡ Some func
  pub defined : func.is_defined ≡ true
  pub signed : WellSigned func
  pub fits : times_made b.func bodies ≡ 0 → IsBodyOf func b

-- lambdas keep it while a body is made, and the body does
pub record Follows (P : Option ℕ → List Func → List Body → Type 0) : Type 0 where
  pub grows : (now : Option ℕ) → Grows (P now)
  pub last : (fs : List Func) (bs : List Body) (b : Body) → MayFit fs bs b → P (Some b.func) fs bs → P None fs (bs ++ b ∷ [])

pub fits_follow : Follows AllFit
fits_follow = record {
  grows = fits_grow;
  last = λ fs bs b m h. body_last fs bs b h
      (λ z. record { func = m.func; at = m.at; defined = m.defined; signed = m.signed; fits = m.fits z });
}

abbrev pub Holds : (Option ℕ → List Func → List Body → Type 0) → State → Type 0
Holds P x = P None x.ctx.funcs x.bodies

-- while the body of the function is made
record Now (P : Option ℕ → List Func → List Body → Type 0) (func : ℕ) (f : Func) (funcs : List Func) (bodies : List Body) : Type 0 where
  has : P (Some func) funcs bodies
  at : slice_get funcs func ≡ Some f

now_grows : (P : Option ℕ → List Func → List Body → Type 0) → Follows P → (func : ℕ) (f : Func) → Grows (Now P func f)
now_grows P q func f = record {
  call = λ fs bs g b i n p h. record { has = (q.grows (Some func)).call fs bs g b i n p h.has; at = added fs (g ∷ []) func f h.at };
}

joined : (P : Option ℕ → List Func → List Body → Type 0) → Follows P → (func : ℕ) (f : Func) → f.is_defined ≡ true → WellSigned f → (x : State)
    → MakesBody f func x → EndsWith (Now P func f) func x → Holds P x
joined P q func f d w x m e = subst (λ (bs : List Body). P None x.ctx.funcs bs) (sym e.bodies) (q.last x.ctx.funcs e.others e.body
    (record {
      func = f;
      at = ap (λ (n : ℕ). slice_get x.ctx.funcs n) e.is ∙ e.held.at;
      defined = d;
      signed = w;
      fits = λ z. subst (λ (b : Body). IsBodyOf f b) (last_same m.others e.others m.body e.body (sym m.bodies ∙ e.bodies)) m.fits;
    })
    (subst (λ (n : ℕ). P (Some n) x.ctx.funcs e.others) (sym e.is) e.held.has))

-- Bodies that are written

module _ (P : Option ℕ → List Func → List Body → Type 0) (q : Follows P) where
  now_kept : (func : ℕ) (f : Func) (s : List Lexeme) (st : State) (t : syntax.Tree) → Now P func f st.ctx.funcs st.bodies
      → On (λ (x : State). Now P func f x.ctx.funcs x.bodies) (lambdas_of s st t)
  now_kept func f s st t h = each_fit (Now P func f) (now_grows P q func f) s st t h

  kept_by : (st : State) (func : ℕ) (f : Func) → HasFunction st func f → (r : Result State ElabFault) → On (MakesBody f func) r
      → On (EndsWith (Now P func f) func) r → On (Holds P) r
  kept_by st func f g r h k = both (MakesBody f func) (EndsWith (Now P func f) func) (Holds P) r
      (λ x m e. joined P q func f g.defined g.signed x m e) h k

  pub function_fits : (s : List Lexeme) (st : State) (h : Header) (this : Option Typ) (func : ℕ) (t : syntax.Tree) (f : Func)
      → P (Some func) st.ctx.funcs st.bodies → HasFunction st func f → Defines h this f → On (Holds P) (function_body lambdas_of s st h this func t)
  function_fits s st h this func t f b g d = kept_by st func f g (function_body lambdas_of s st h this func t)
      (function_made lambdas_of lambdas_lawful s st h this func t f d)
      (ending.function_ends (Now P func f) lambdas_of s (λ y u i. now_kept func f s y u i) st h this func t (record { has = b; at = g.at }))

  pub constructor_fits : (s : List Lexeme) (st : State) (h : Header) (n func : ℕ) (inits : syntax.Trees) (t : syntax.Tree) (f : Func)
      → P (Some func) st.ctx.funcs st.bodies → HasFunction st func f → f.kind ≡ Constructor → f.class ≡ Some n → f.params ≡ map param_of h.params
      → On (Holds P) (constructor_body lambdas_of s st h n func inits t)
  constructor_fits s st h n func inits t f b g k c ps = kept_by st func f g (constructor_body lambdas_of s st h n func inits t)
      (constructor_made lambdas_of lambdas_lawful s st h n func inits t f k c ps)
      (ending.written_ends (Now P func f) lambdas_of s (λ y u i. now_kept func f s y u i) st h n func inits t (record { has = b; at = g.at }))

  pub destructor_fits : (s : List Lexeme) (st : State) (h : Header) (n func : ℕ) (t : syntax.Tree) (f : Func)
      → P (Some func) st.ctx.funcs st.bodies → HasFunction st func f → f.kind ≡ Destructor → f.class ≡ Some n → f.params ≡ []
      → On (Holds P) (destructor_body lambdas_of s st h n func t)
  destructor_fits s st h n func t f b g k c ps = kept_by st func f g (destructor_body lambdas_of s st h n func t)
      (destructor_made lambdas_of lambdas_lawful s st h n func t f k c ps)
      (ending.destructor_ends (Now P func f) lambdas_of s (λ y u i. now_kept func f s y u i) st h n func t (record { has = b; at = g.at }))

  -- initialisers of members have no bodies, but the lambdas in them do
  pub defaults_fit : (s : List Lexeme) (n : ℕ) (st : State) (ts : syntax.Trees) → Holds P st → On (Holds P) (all_defaults lambdas_of s n st ts)
  defaults_fit s n st ts h = ending.defaults_held (P None) lambdas_of s (λ y t i. each_fit (P None) (q.grows None) s y t i) n st ts h

  -- Bodies that are implied

  -- while it is made no other body is
  record Alone (st : State) (func : ℕ) (f : Func) (funcs : List Func) (bodies : List Body) : Type 0 where
    now : Now P func f funcs bodies
    same : bodies ≡ st.bodies

  of_many : (st : State) (func : ℕ) (f : Func) → f.is_defined ≡ true → WellSigned f → (x : State) → (times_made func st.bodies ≡ 0 → MakesBody f func x)
      → EndsWith (Alone st func f) func x → Holds P x
  of_many st func f d w x m e = subst (λ (bs : List Body). P None x.ctx.funcs bs) (sym e.bodies) (q.last x.ctx.funcs e.others e.body
      (record {
        func = f;
        at = ap (λ (n : ℕ). slice_get x.ctx.funcs n) e.is ∙ e.held.now.at;
        defined = d;
        signed = w;
        fits = λ z. let y = m (ap (times_made func) (sym e.held.same) ∙ ap (λ (n : ℕ). times_made n e.others) (sym e.is) ∙ z) in
            subst (λ (b : Body). IsBodyOf f b) (last_same y.others e.others y.body e.body (sym y.bodies ∙ e.bodies)) y.fits;
      })
      (subst (λ (n : ℕ). P (Some n) x.ctx.funcs e.others) (sym e.is) e.held.now.has))

  pub implied_fits : (st : State) (at : At) (func n : ℕ) (f : Func) → P (Some func) st.ctx.funcs st.bodies → slice_get st.ctx.funcs func ≡ Some f
      → StandsImplicit f → (times_made func st.bodies ≡ 0 → HasSource f) → f.class ≡ Some n
      → On (Holds P) (body_implied st at func n f.kind (signature_parameters f.declared.signature))
  implied_fits st at func n f b e i o c =
      both (λ (x : State). times_made func st.bodies ≡ 0 → MakesBody f func x) (EndsWith (Alone st func f) func) (Holds P) r
      (λ x m y. of_many st func f i.defined i.signed x m y)
      (under (times_made func st.bodies ≡ 0) (MakesBody f func) r (λ z. implied_made st at func n f.kind ps f refl i.special c (o z)))
      (ending.implied_ends (Alone st func f) st at func n f.kind ps (record { now = record { has = b; at = e }; same = refl }))
    where
      ps : Typs
      ps = signature_parameters f.declared.signature

      r : Result State ElabFault
      r = body_implied st at func n f.kind ps

pub functions_law : FunctionsKeep
functions_law s st h this func t x f b g d e = holds BodiesFit (function_body lambdas_of s st h this func t) x
    (function_fits AllFit fits_follow s st h this func t f b g d) e

pub constructors_law : ConstructorsKeep
constructors_law s st h n func inits t x f b g k c ps e = holds BodiesFit (constructor_body lambdas_of s st h n func inits t) x
    (constructor_fits AllFit fits_follow s st h n func inits t f b g k c ps) e

pub destructors_law : DestructorsKeep
destructors_law s st h n func t x f b g k c ps e = holds BodiesFit (destructor_body lambdas_of s st h n func t) x
    (destructor_fits AllFit fits_follow s st h n func t f b g k c ps) e

pub defaults_law : DefaultsKeep
defaults_law s n st ts x h e = holds BodiesFit (all_defaults lambdas_of s n st ts) x (defaults_fit AllFit fits_follow s n st ts h) e

-- All implicit members

pub record Fine (now : Option ℕ) (funcs : List Func) (bodies : List Body) : Type 0 where
  pub fit : AllFit now funcs bodies
  pub stand : ImplicitsStand now funcs bodies

pub fine_follows : Follows Fine
fine_follows = record {
  grows = λ now. record {
    call = λ fs bs g b i n p h. record {
      fit = (fits_grow now).call fs bs g b i n p h.fit;
      stand = body_stands now (fs ++ g ∷ []) bs b (call_stands now fs bs g i h.stand);
    };
  };
  last = λ fs bs b m h. record { fit = fits_follow.last fs bs b m h.fit; stand = last_stands fs bs b h.stand };
}

pub fine_due : (fs : List Func) (bs : List Body) (func : ℕ) → Fine None fs bs → Fine (Some func) fs bs
fine_due fs bs func h = record { fit = fits_due fs bs func h.fit; stand = stand_due fs bs func h.stand }

of_fine : (st : State) (k : ℕ) (f : Func) → Holds Fine st → slice_get st.ctx.funcs k ≡ Some f → f.implicit ≡ true → (o : Option ℕ) → f.class ≡ o
    → On (Holds Fine) (implied_of st k f o)
of_fine st k f h e i None c = h
of_fine st k f h e i (Some n) c = implied_fits Fine fine_follows st f.declared.at k n f (fine_due st.ctx.funcs st.bodies k h) e (h.stand.each k f e i)
    (λ z. h.stand.source k f e i (omega arith)) c

-- there is a function where one is implicit
at_fine : (st : State) (k : ℕ) → Holds Fine st → (o : Option Func) → slice_get st.ctx.funcs k ≡ o → (unwrap_or o no_function).implicit ≡ true
    → On (Holds Fine) (implied_of st k (unwrap_or o no_function) (unwrap_or o no_function).class)
at_fine st k h (Some f) e i = of_fine st k f h e i f.class refl
at_fine st k h None e i = absurd cc

pub if_implied : (P : State → Type 0) (b : Bool) (x : Result State ElabFault) (st : State) → (b ≡ true → On P x) → P st → On P (if b then x else Ok st)
if_implied P true x st f h = f refl
if_implied P false x st f h = h

one_fine : (st : State) (k : ℕ) → Holds Fine st → On (Holds Fine) (implied st k)
one_fine st k h = if_implied (Holds Fine) ((func_at st.ctx.funcs k).implicit && is_referred st k) _ st
    (λ e. at_fine st k h (slice_get st.ctx.funcs k) refl (and_parts (func_at st.ctx.funcs k).implicit (is_referred st k) e).0) h

below_fine : (st : State) (k : ℕ) → Holds Fine st → On (Holds Fine) (implied_below st k)
below_fine st zero h = h
below_fine st (suc k) h = bind (Holds Fine) (Holds Fine) (implied st k) _ (one_fine st k h) (λ x i. below_fine x k i)

pub implied_law : ImpliedKeep
implied_law st x h i e =
    (holds (Holds Fine) (with_implied st) x (below_fine st (length st.ctx.funcs) (record { fit = h; stand = i })) e).fit
