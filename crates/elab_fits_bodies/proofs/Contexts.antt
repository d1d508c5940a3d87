-- Contexts that say the same of the program.
use Rattle.std.proofs.Common.{◌≡◌, refl, sym, ap, ◌∙◌, subst, ℕ, zero, suc, ◌+◌, arith, Bool, true, false, List, [], ◌∷◌, slice_get, slice_set, Option, Some, unwrap_or}
use Rattle.elab_rules.specs.cpp_types.Typ.{Typ, Typs, none as no_typs, more as and_typ}
use Rattle.elab_rules.specs.cpp_types.Class.{Class, Member}
use Rattle.elab_rules.specs.cpp_tree.Typing.{form_in}
use Rattle.elab_rules.specs.cpp_tree.Parts.{holds_complete}
use Rattle.elab_rules.specs.cpp_tree.Rows.{Setting}
use Rattle.elab_rules.specs.elab_ctx.Ctx.{Ctx, Func, Traits, Special}
use Rattle.elab_rules.specs.Initialising.{signature_parameters}
use Rattle.elab_rules.specs.Objects.{parts_of, traits_at, no_traits}
use Rattle.elab_rules.specs.Members.{as_base_of}
use Rattle.elab_fits.specs.Standing.{IsSetting}
use Rattle.elab_fits.specs.Objects.{is_ready, IsDestructorOf}
use Rattle.elab_fits_objects.specs.Contexts.{is_whole, IsObjectTyp, IsParameter, AreParameters, IsConstructorOf, HasMakers}
use Rattle.elab_fits_bodies.specs.Built.{IsMember}

-- the same classes and functions, and the same special members
pub record Same (c d : Ctx) : Type 0 where
  pub classes : d.classes ≡ c.classes
  pub funcs : d.funcs ≡ c.funcs
  pub destructors : (n : ℕ) → (traits_at d n).destructor ≡ (traits_at c n).destructor
  pub copies : (n : ℕ) → (traits_at d n).copy ≡ (traits_at c n).copy
  pub defaults : (n : ℕ) → (traits_at d n).default ≡ (traits_at c n).default

module _ (c d : Ctx) (lambda : ℕ → Bool) (h : Same c d) where
  pub object_same : (t : Typ) → IsObjectTyp c lambda t → IsObjectTyp d lambda t
  object_same t z = record {
    sorted = z.sorted;
    whole = λ e. ap (λ (cs : List Class). is_whole cs t) h.classes ∙ z.whole (ap (λ (cs : List Class). holds_complete cs (form_in t)) (sym h.classes) ∙ e);
    complete = λ e. ap (λ (cs : List Class). holds_complete cs (form_in t)) h.classes ∙ z.complete e;
  }

  parameter_same : (p : Typ) → IsParameter c lambda p → IsParameter d lambda p
  parameter_same p z = record { formed = z.formed; referred = z.referred; object = λ e. object_same p (z.object e) }

  parameters_same : (ps : Typs) → AreParameters c lambda ps → AreParameters d lambda ps
  parameters_same no_typs z = tt
  parameters_same (and_typ p ps) (z, zs) = (parameter_same p z, parameters_same ps zs)

  func_same : (k : ℕ) (o : Option Func) → slice_get c.funcs k ≡ o → slice_get d.funcs k ≡ o
  func_same k o e = ap (λ (fs : List Func). slice_get fs k) h.funcs ∙ e

  func_back : (k : ℕ) (o : Option Func) → slice_get d.funcs k ≡ o → slice_get c.funcs k ≡ o
  func_back k o e = ap (λ (fs : List Func). slice_get fs k) (sym h.funcs) ∙ e

  abbrev maker_same : (n k : ℕ) → IsConstructorOf c n k → IsConstructorOf d n k
  maker_same n k x = record { func = x.func; at = func_same k (Some x.func) x.at; kind = x.kind; class = x.class }

  destructor_same : (n k : ℕ) → IsDestructorOf c n k → IsDestructorOf d n k
  destructor_same n k x = record { func = x.func; at = func_same k (Some x.func) x.at; kind = x.kind; class = x.class }

  pub makers_same : HasMakers c lambda → HasMakers d lambda
  makers_same m = record {
    specials = record { destructors = λ n k e. destructor_same n k (m.specials.destructors n k (sym (h.destructors n) ∙ e)) };
    copies = λ n k e. let x = m.copies n k (sym (h.copies n) ∙ e) in record { maker = maker_same n k x.maker; takes = x.takes };
    defaults = λ n k e. let x = m.defaults n k (sym (h.defaults n) ∙ e) in record { maker = maker_same n k x.maker; takes = x.takes };
    parameters = λ k f e. parameters_same (signature_parameters f.declared.signature) (m.parameters k f (func_back k (Some f) e));
    captures = λ n i p l e.
        let x = m.captures n i p l (ap (λ (cs : List Class). slice_get (parts_of cs n) i) (sym h.classes) ∙ e) in
        record { ready = ap (λ (cs : List Class). is_ready cs true p.typ) h.classes ∙ x.ready; single = x.single };
  }

-- An object of an abstract class is made as a base

replaced : (A : Type 0) (told : Traits → A) (x : Traits) (xs : List Traits) (b n : ℕ) → told x ≡ told (unwrap_or (slice_get xs b) no_traits)
    → told (unwrap_or (slice_get (slice_set xs b x) n) no_traits) ≡ told (unwrap_or (slice_get xs n) no_traits)
replaced A told x [] b n h = refl
replaced A told x (y ∷ ys) zero zero h = h
replaced A told x (y ∷ ys) zero (suc n) h = refl
replaced A told x (y ∷ ys) (suc b) zero h = refl
replaced A told x (y ∷ ys) (suc b) (suc n) h = replaced A told x ys b n h

pub base_same : (c : Ctx) (b : ℕ) → Same c (as_base_of c b)
base_same c b = record {
  classes = refl;
  funcs = refl;
  destructors = λ n. replaced Special (λ (x : Traits). x.destructor) (record (traits_at c b) { is_abstract = false }) c.traits b n refl;
  copies = λ n. replaced Special (λ (x : Traits). x.copy) (record (traits_at c b) { is_abstract = false }) c.traits b n refl;
  defaults = λ n. replaced Special (λ (x : Traits). x.default) (record (traits_at c b) { is_abstract = false }) c.traits b n refl;
}

pub base_setting : (s : Setting) (c : Ctx) (b : ℕ) → IsSetting s c → IsSetting s (as_base_of c b)
base_setting s c b i = record { classes = i.classes; ordered = i.ordered; slots = i.slots; funcs = i.funcs }

-- Behind a full-expression

abbrev pub cleared : Ctx → Ctx
cleared c = record c { closures = [] }

pub cleared_same : (c : Ctx) → Same c (cleared c)
cleared_same c = record { classes = refl; funcs = refl; destructors = λ n. refl; copies = λ n. refl; defaults = λ n. refl }

pub cleared_setting : (s : Setting) (c : Ctx) → IsSetting s c → IsSetting s (cleared c)
cleared_setting s c i = record { classes = i.classes; ordered = i.ordered; slots = i.slots; funcs = i.funcs }

-- The members of a class from one on

abbrev pub MembersFrom : Ctx → (n i : ℕ) → List Member → Type 0
MembersFrom c n i ms = (j : ℕ) (m : Member) → slice_get ms j ≡ Some m → IsMember c n (i + j) m

pub first_member : (c : Ctx) (n i : ℕ) (m : Member) (ms : List Member) → MembersFrom c n i (m ∷ ms) → IsMember c n i m
first_member c n i m ms f = let z : i + 0 ≡ i = omega arith in subst (λ (k : ℕ). IsMember c n k m) z (f 0 m refl)

pub rest_members : (c : Ctx) (n i : ℕ) (m : Member) (ms : List Member) → MembersFrom c n i (m ∷ ms) → MembersFrom c n (suc i) ms
rest_members c n i m ms f = λ j x e. let z : i + suc j ≡ suc i + j = omega arith in subst (λ (k : ℕ). IsMember c n k x) z (f (suc j) x e)

pub all_members : (c : Ctx) (n : ℕ) (ms : List Member) → ((j : ℕ) (m : Member) → slice_get ms j ≡ Some m → IsMember c n j m) → MembersFrom c n 0 ms
all_members c n ms f = λ j m e. let z : j ≡ 0 + j = omega arith in subst (λ (k : ℕ). IsMember c n k m) z (f j m e)
