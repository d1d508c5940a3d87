-- Each step of a unit keeps what implicit functions are; those of a class are made at its brace.
use Rattle.std.proofs.Common.{◌≡◌, refl, sym, ap, ◌∙◌, subst, ℕ, Bool, true, false, not, ◌&&◌, List, slice_get, Option, Some, None, is_some}
use Rattle.std.specs.Prelude.{if◌then◌else◌}
use Rattle.elab_rules.specs.cpp_types.Class.{Class, Member, Function}
use Rattle.elab_rules.specs.cpp_types.Typ.{Signature}
use Rattle.elab_rules.specs.cpp_types.declared.classes.At.{At}
use Rattle.elab_rules.specs.cpp_tree.declared.program.FuncKind.{FuncKind}
use Rattle.elab_rules.specs.elab_ctx.Ctx.{Ctx, Func}
use Rattle.elab_rules.specs.Objects.{traits_at}
use Rattle.elab_rules.specs.Initialising.{is_constructor, places_from}
use Rattle.elab_rules.specs.Statements.{is_trivial}
use Rattle.elab_rules.specs.Functions.{first_from}
use Rattle.elab_rules.specs.Classes.{Home, Specials, with_destructor, with_copy, with_default, with_implicit, all_held, may_copy, has_no_pointer}
use Rattle.elab_rules.specs.Classes.{written_copy, is_destructor_of, base_default, members_default, is_trivial_default, is_no_place, completed, copies_const_parts}
use Rattle.elab_contexts.specs.Steps.{View, view, Step, function_added, function_defined, class_begun, class_completed, closure_added, SameFunction}
use Rattle.elab_contexts.specs.Steps.{ClassCompleted}
use Rattle.elab_contexts.specs.Texts.{is_no_name}
use Rattle.elab_contexts.proofs.Lists.{one_more, one_set}
use Rattle.elab_contexts.proofs.Walking.{kept_by_steps}
use Rattle.elab_contexts.proofs.Makers.{closing}
use Rattle.elab_fits_parts.specs.Implicit.{IsImplied, default, copy, destructor, IsImplicit, StepsImplicit}
use Rattle.elab_fits_parts.proofs.Homes.{IsNamed, named_is, home_is, named_added, named_set, named_here}

abbrev IfImplicit : List Class → Func → Type 0
IfImplicit cs f = f.implicit ≡ true → IsImplicit cs f

abbrev All : (Func → Type 0) → List Func → Type 0
All P fs = (k : ℕ) (f : Func) → slice_get fs k ≡ Some f → P f

pub not_implicit : (cs : List Class) (f : Func) → f.implicit ≡ false → IfImplicit cs f
not_implicit cs f h i = by f.implicit h i
  where
    by : (b : Bool) → b ≡ false → b ≡ true → IsImplicit cs f
    by true e q = absurd cc
    by false e q = absurd cc

-- the same function
still : (cs : List Class) (f g : Func) → SameFunction f g → IfImplicit cs f → IfImplicit cs g
still cs f g s h i = let x = h (sym s.implicit ∙ i) in record {
  class = x.class;
  of = s.class ∙ x.of;
  home = x.home;
  implied = subst (λ (y : Signature). IsImplied x.class g.kind y) (sym (ap (λ (y : Function). y.signature) s.declared))
      (subst (λ (k : FuncKind). IsImplied x.class k f.declared.signature) (sym s.kind) x.implied);
}

-- where classes stay
over : (old new : List Class) → ((n : ℕ) → IsNamed old n → IsNamed new n) → (f : Func) → IfImplicit old f → IfImplicit new f
over old new k f h i = let x = h i in record {
  class = x.class;
  of = x.of;
  home = home_is new x.class (k x.class (named_is old x.class x.home));
  implied = x.implied;
}

all_over : (old new : List Class) → ((n : ℕ) → IsNamed old n → IsNamed new n) → (fs : List Func) → All (IfImplicit old) fs → All (IfImplicit new) fs
all_over old new k fs h i f e = over old new k f (h i f e)

-- The implicit members of a class

record IsOwn (n : ℕ) (f : Func) : Type 0 where
  of : f.class ≡ Some n
  implied : IsImplied n f.kind f.declared.signature

all_if : (P : Func → Type 0) (b : Bool) (x y : Specials) → All P x.ctx.funcs → All P y.ctx.funcs → All P (if b then x else y).ctx.funcs
all_if P true x y g h = g
all_if P false x y g h = h

module _ (P : Func → Type 0) (home : Home) (at : At) (ms : List Member) (own : (f : Func) → IsOwn home.number f → P f) where
  added : (c : Ctx) (f : Func) → All P c.funcs → IsOwn home.number f → All P (with_implicit c f).ctx.funcs
  added c f h o = one_more P c.funcs f h (own f o)

  destructor_all : (c : Ctx) (o : Option ℕ) → All P c.funcs → All P (with_destructor c home at ms o).ctx.funcs
  destructor_all c (Some i) h = h
  destructor_all c None h = all_if P (all_held (λ n. is_trivial (traits_at c n).destructor) home.base ms) _ _ h
      (added c _ h (record { of = refl; implied = destructor false }))

  copy_all : (c : Ctx) (o : Option ℕ) → All P c.funcs → All P (with_copy c home at ms o).ctx.funcs
  copy_all c (Some i) h = h
  copy_all c None h = all_if P (not (may_copy c home.base ms)) _ _ h
      (all_if P (has_no_pointer c home && all_held (λ n. is_trivial (traits_at c n).copy) home.base ms) _ _ h
      (added c _ h (record { of = refl; implied = copy (copies_const_parts c home.base ms) false })))

  default_all : (c : Ctx) (initialised : List ℕ) (b : Bool) → All P c.funcs → All P (with_default c home at ms initialised b).ctx.funcs
  default_all c initialised false h = h
  default_all c initialised true h = all_if P (not (base_default c home.base && members_default c initialised 0 ms)) _ _ h
      (all_if P (is_trivial_default c home ms initialised) _ _ h (added c _ h (record { of = refl; implied = default false })))

  completed_all : (c : Ctx) (initialised : List ℕ) → All P c.funcs → All P (completed c home at ms initialised).funcs
  completed_all c initialised h =
      let d : Specials = with_destructor c home at ms (first_from (is_destructor_of home.number) 0 c.funcs) in
      let k : Specials = with_copy d.ctx home at ms (written_copy d.ctx home) in
      default_all k.ctx initialised (is_no_place (places_from (is_constructor home.number) 0 c.funcs))
      (copy_all d.ctx (written_copy d.ctx home) (destructor_all c (first_from (is_destructor_of home.number) 0 c.funcs) h))

-- Steps

abbrev pub In : View → Type 0
In v = All (IfImplicit v.classes) v.funcs

pub closed_named : (a b : View) (s : ClassCompleted a b) → IsNamed (completed s.ctx s.home s.at s.members s.initialised).classes s.home.number
closed_named a b s = let x = closing s.ctx s.home s.at s.members s.initialised in
    subst (λ (cs : List Class). IsNamed cs s.home.number) (sym x.classes)
    (named_here s.ctx.classes s.home.number x.class s.unclosed.class (ap is_some x.closed.complete) (ap is_no_name x.closed.name ∙ s.named)
    (ap (λ (v : View). slice_get v.classes s.home.number) s.before ∙ s.unclosed.at))

closed_in : (a b : View) → ClassCompleted a b → In a → In b
closed_in a b s h =
    let d : Ctx = completed s.ctx s.home s.at s.members s.initialised in
    let x = closing s.ctx s.home s.at s.members s.initialised in
    let k : (n : ℕ) → IsNamed s.ctx.classes n → IsNamed d.classes n =
    λ n e. subst (λ (cs : List Class). IsNamed cs n) (sym x.classes)
    (named_set s.ctx.classes s.home.number x.class (ap is_some x.closed.complete) (ap is_no_name x.closed.name ∙ s.named) n e) in
    subst In (sym s.is) (completed_all (IfImplicit d.classes) s.home s.at s.members
    (λ f o i. record { class = s.home.number; of = o.of; home = home_is d.classes s.home.number (closed_named a b s); implied = o.implied })
    s.ctx s.initialised (all_over s.ctx.classes d.classes k s.ctx.funcs (subst In (sym s.before) h)))

step_in : (a b : View) → Step a b → In a → In b
step_in a b (function_added s) h = subst In (sym s.is) (one_more (IfImplicit a.classes) a.funcs s.func h (not_implicit a.classes s.func s.written))
step_in a b (function_defined s) h = subst In (sym s.is)
    (one_set (IfImplicit a.classes) a.funcs s.place s.func h (λ f e. still a.classes f s.func (s.same f e) (h s.place f e)))
step_in a b (class_begun s) h = subst In (sym s.is) (all_over a.classes _ (named_added a.classes _) a.funcs h)
step_in a b (class_completed s) h = closed_in a b s h
step_in a b (closure_added s) h = let g : In (view s.ctx) = subst In (sym s.before) h in
    subst In (sym s.is) (one_more (IfImplicit _) s.ctx.funcs _ (all_over s.ctx.classes _ (named_added s.ctx.classes _) s.ctx.funcs g) (not_implicit _ _ refl))

pub steps_law : StepsImplicit
steps_law a b s h = kept_by_steps In step_in s h
