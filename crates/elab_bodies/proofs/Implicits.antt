-- The implicit members that a class gets.
use Rattle.std.proofs.Common.{◌≡◌, refl, sym, ap, ◌∙◌, subst, ℕ, zero, suc, ◌+◌, arith, Bool, true, false, ◌&&◌, not, List, [], ◌∷◌, ◌++◌, length, slice_get}
use Rattle.std.proofs.Common.{Option, Some, None}
use Rattle.std.specs.Prelude.{if◌then◌else◌}
use Rattle.std.proofs.lemmas.Option.{same_Some}
use Rattle.elab_rules.specs.cpp_types.Typ.{Signature, signature, none as no_typs, more as and_typ}
use Rattle.elab_rules.specs.cpp_types.Class.{Member, Function}
use Rattle.elab_rules.specs.cpp_types.declared.classes.At.{At}
use Rattle.elab_rules.specs.cpp_tree.declared.program.FuncKind.{FuncKind}
use Rattle.elab_rules.specs.cpp_tree.declared.program.FuncKind.TheVariants.{Plain, Constructor, Destructor, ClosureCall}
use Rattle.elab_rules.specs.cpp_tree.Notation.{plain}
use Rattle.elab_rules.specs.cpp_tree.Rows.{is_special}
use Rattle.elab_rules.specs.cpp_tree.Typing.{is_class_typ}
use Rattle.elab_rules.specs.cpp_types.Typ.{void}
use Rattle.elab_rules.specs.elab_ctx.Ctx.{Ctx, Func}
use Rattle.elab_rules.specs.Objects.{traits_at}
use Rattle.elab_rules.specs.Initialising.{is_constructor, places_from, signature_parameters, signature_result}
use Rattle.elab_rules.specs.Statements.{is_trivial, Body}
use Rattle.elab_rules.specs.Functions.{first_from}
use Rattle.elab_rules.specs.Classes.{Home, Specials, with_destructor, with_copy, with_default, implicit_function, implicit_record, own_reference, all_held, base_default}
use Rattle.elab_rules.specs.Classes.{members_default, may_copy, has_no_pointer, is_trivial_default, is_destructor_of, written_copy, is_no_place, completed}
use Rattle.elab_rules.specs.Classes.{copies_const_parts}
use Rattle.elab_bodies.specs.Bodies.{number_of, times_made, due_to, AllFit}
use Rattle.elab_bodies.specs.Making.{source_items}
use Rattle.elab_bodies.specs.Keeping.{StandsImplicit, HasSource, ImplicitsStand, CompletedStand}
use Rattle.elab_bodies.proofs.Frames.{no_result}
use Rattle.elab_bodies.proofs.Closures.{IsCall, times_more}

-- One function more

one_more : (P : ℕ → Func → Type 0) (fs : List Func) (f : Func) → P (length fs) f → ((i : ℕ) (g : Func) → slice_get fs i ≡ Some g → P i g)
    → (i : ℕ) (g : Func) → slice_get (fs ++ f ∷ []) i ≡ Some g → P i g
one_more P [] f s h zero g e = subst (P 0) (same_Some f g e) s
one_more P [] f s h (suc n) g e = absurd cc
one_more P (d ∷ fs) f s h zero g e = h 0 g e
one_more P (d ∷ fs) f s h (suc n) g e = one_more (λ m x. P (suc m) x) fs f s (λ m x q. h (suc m) x q) n g e

-- a function that is implicit stands so, and has its words as long as no body is made
pub further_stands : (now : Option ℕ) (fs : List Func) (bs : List Body) (f : Func) → (f.implicit ≡ true → StandsImplicit f) → (f.implicit ≡ true → HasSource f)
    → ImplicitsStand now fs bs → ImplicitsStand now (fs ++ f ∷ []) bs
further_stands now fs bs f s o h = record {
  each = one_more (λ i g. g.implicit ≡ true → StandsImplicit g) fs f s h.each;
  source = one_more (λ i g. g.implicit ≡ true → times_made i bs + due_to now i ≡ 0 → HasSource g) fs f (λ i z. o i) h.source;
}

not_both : (A : Type 0) (b : Bool) → b ≡ false → b ≡ true → A
not_both A b f t = let k : false ≡ true = sym f ∙ t in absurd cc

pub call_stands : (now : Option ℕ) (fs : List Func) (bs : List Body) (f : Func) → IsCall f → ImplicitsStand now fs bs → ImplicitsStand now (fs ++ f ∷ []) bs
call_stands now fs bs f i h =
    further_stands now fs bs f (λ t. not_both (StandsImplicit f) f.implicit i.written t) (λ t. not_both (HasSource f) f.implicit i.written t) h

-- One body more

pub body_stands : (now : Option ℕ) (fs : List Func) (bs : List Body) (b : Body) → ImplicitsStand now fs bs → ImplicitsStand now fs (bs ++ b ∷ [])
body_stands now fs bs b h = record { each = h.each; source = λ i f e t z. h.source i f e t (let r = times_more i bs b in omega arith) }

pub last_stands : (fs : List Func) (bs : List Body) (b : Body) → ImplicitsStand (Some b.func) fs bs → ImplicitsStand None fs (bs ++ b ∷ [])
last_stands fs bs b h = record { each = h.each; source = λ i f e t z. h.source i f e t (let r = times_more i bs b in omega arith) }

-- a function gets its body
pub stand_due : (fs : List Func) (bs : List Body) (func : ℕ) → ImplicitsStand None fs bs → ImplicitsStand (Some func) fs bs
stand_due fs bs func h = record { each = h.each; source = λ i f e t z. h.source i f e t (omega arith) }

pub fits_due : (fs : List Func) (bs : List Body) (func : ℕ) → AllFit None fs bs → AllFit (Some func) fs bs
fits_due fs bs func h = record { each = λ i b e l. h.each i b e (omega arith) }

-- What a class gets that becomes complete

pub record Implied (f : Func) : Type 0 where
  pub implicit : f.implicit ≡ true
  pub stands : StandsImplicit f
  pub source : HasSource f
  pub inside : f.class ≡ None → is_special f.kind ≡ false
  pub result : signature_result f.declared.signature ≡ plain void
  pub params : f.kind ≡ Destructor → signature_parameters f.declared.signature ≡ no_typs

no_class : (A : Type 0) (n : ℕ) → Some n ≡ None → A
no_class A n h = absurd cc

no_source : (kind : FuncKind) → source_items kind no_typs ≡ []
no_source Constructor = refl
no_source Destructor = refl
no_source Plain = refl
no_source ClosureCall = refl

implied : (n : ℕ) (at : At) (name : List ℕ) (g : Function) → g.signature ≡ signature no_typs (plain void) false → (kind : FuncKind)
    → is_special kind ≡ true → Implied (implicit_function n kind [] g)
implied n at name g e kind s = record {
  implicit = refl;
  stands = record {
    defined = refl;
    signed = record {
      params = ap (λ (z : Signature). number_of (signature_parameters z)) e;
      result = ap (λ (z : Signature). is_class_typ (signature_result z)) e ∙ ap is_class_typ (sym (no_result kind g.signature s));
    };
    special = s;
  };
  source = sym (ap (λ (z : Signature). source_items kind (signature_parameters z)) e ∙ no_source kind);
  inside = λ h. no_class (is_special kind ≡ false) n h;
  result = ap signature_result e;
  params = λ h. ap signature_parameters e;
}

copied : (n : ℕ) (at : At) (name : List ℕ) (b : Bool)
    → Implied (implicit_function n Constructor (record { typ = own_reference n b; at = at } ∷ [])
    (implicit_record name at (and_typ (own_reference n b) no_typs)))
copied n at name b = record {
  implicit = refl;
  stands = record { defined = refl; signed = record { params = refl; result = refl }; special = refl };
  source = refl;
  inside = λ h. no_class (true ≡ false) n h;
  result = refl;
  params = λ h. absurd cc;
}

module _ (P : List Func → Type 0) (more : (fs : List Func) (f : Func) → Implied f → P fs → P (fs ++ f ∷ [])) where
  abbrev Stand : Specials → Type 0
  Stand x = P x.ctx.funcs

  if_stand : (b : Bool) (x y : Specials) → Stand x → Stand y → Stand (if b then x else y)
  if_stand true x y h k = h
  if_stand false x y h k = k

  destructor_stands : (c : Ctx) (home : Home) (at : At) (ms : List Member) (o : Option ℕ) → P c.funcs → Stand (with_destructor c home at ms o)
  destructor_stands c home at ms (Some i) h = h
  destructor_stands c home at ms None h = if_stand (all_held (λ n. is_trivial (traits_at c n).destructor) home.base ms) _ _ h
      (more c.funcs _ (implied home.number at (126 ∷ home.name) _ refl Destructor refl) h)

  copy_stands : (c : Ctx) (home : Home) (at : At) (ms : List Member) (o : Option ℕ) → P c.funcs → Stand (with_copy c home at ms o)
  copy_stands c home at ms (Some i) h = h
  copy_stands c home at ms None h = if_stand (not (may_copy c home.base ms)) _ _ h
      (if_stand (has_no_pointer c home && all_held (λ n. is_trivial (traits_at c n).copy) home.base ms) _ _ h
      (more c.funcs _ (copied home.number at home.name (copies_const_parts c home.base ms)) h))

  default_stands : (c : Ctx) (home : Home) (at : At) (ms : List Member) (initialised : List ℕ) (b : Bool) → P c.funcs
      → Stand (with_default c home at ms initialised b)
  default_stands c home at ms initialised false h = h
  default_stands c home at ms initialised true h = if_stand (not (base_default c home.base && members_default c initialised 0 ms)) _ _ h
      (if_stand (is_trivial_default c home ms initialised) _ _ h
      (more c.funcs _ (implied home.number at home.name _ refl Constructor refl) h))

  pub completed_holds : (c : Ctx) (home : Home) (at : At) (ms : List Member) (initialised : List ℕ) → P c.funcs → P (completed c home at ms initialised).funcs
  completed_holds c home at ms initialised h = default_stands k.ctx home at ms initialised none_written
      (copy_stands d.ctx home at ms (written_copy d.ctx home) (destructor_stands c home at ms (first_from (is_destructor_of home.number) 0 c.funcs) h))
    where
      d : Specials
      d = with_destructor c home at ms (first_from (is_destructor_of home.number) 0 c.funcs)

      k : Specials
      k = with_copy d.ctx home at ms (written_copy d.ctx home)

      none_written : Bool
      none_written = is_no_place (places_from (is_constructor home.number) 0 c.funcs)

pub implied_stands : (now : Option ℕ) (fs : List Func) (bs : List Body) (f : Func) → Implied f → ImplicitsStand now fs bs → ImplicitsStand now (fs ++ f ∷ []) bs
implied_stands now fs bs f i h = further_stands now fs bs f (λ t. i.stands) (λ t. i.source) h

pub completed_law : CompletedStand
completed_law c home at ms initialised bs h =
    completed_holds (λ fs. ImplicitsStand None fs bs) (λ fs f i j. implied_stands None fs bs f i j) c home at ms initialised h
