-- At the brace of a class implicit members are added, and the class is complete.
use Rattle.std.proofs.Common.{◌≡◌, refl, sym, ap, ◌∙◌, subst, ℕ, Bool, true, false, List, [], ◌∷◌, ◌++◌, Option, Some, None, Result, Ok, Err}
use Rattle.std.specs.Prelude.{◌&&◌, not, if◌then◌else◌, nat_le}
use Rattle.std.specs.List.{list_all}
use Rattle.elab_rules.specs.cpp_types.Class.{Member}
use Rattle.elab_rules.specs.cpp_types.declared.classes.At.{At}
use Rattle.elab_rules.specs.cpp_layout.Layout.{class_extent}
use Rattle.elab_rules.specs.cpp_tree.declared.faults.ElabFault.{ElabFault}
use Rattle.elab_rules.specs.elab_ctx.Ctx.{Ctx, Work, Func, Traits, Closure, Returns}
use Rattle.elab_rules.specs.elab_ctx.Steps.{and_then}
use Rattle.elab_rules.specs.Initialising.{is_constructor, places_from}
use Rattle.elab_rules.specs.Objects.{traits_at}
use Rattle.elab_rules.specs.Statements.{State, is_trivial}
use Rattle.elab_rules.specs.Functions.{first_from}
use Rattle.elab_rules.specs.Types.{is_nothing}
use Rattle.elab_rules.specs.Classes.{Home, Specials, with_destructor, with_copy, with_default, all_held, base_default, has_no_pointer, is_destructor_of}
use Rattle.elab_rules.specs.Classes.{is_no_place}
use Rattle.elab_rules.specs.Classes.{is_trivial_default, may_copy, members_default, written_copy, completed, closed_class, takes_const, with_record}
use Rattle.elab_rules.specs.Classes.{with_traits, traits_of}
use Rattle.elab_fits.specs.Standing.{On}
use Rattle.elab_sound_types.specs.Types.{is_class}
use Rattle.elab_sound_types.specs.Contexts.{HasSoundTypes, is_sound_function, is_sound_member, are_sound_closures}
use Rattle.elab_sound_types.specs.States.{IsSoundState, Kept, is_sound_return}
use Rattle.elab_sound_types.proofs.Sound.{both}
use Rattle.elab_sound_types.proofs.Closures.{all_and_one, closures_more, return_more}
use Rattle.elab_sound_units.proofs.Below.{After}
use Rattle.elab_sound_units.proofs.Contexts.{with_functions}
use Rattle.elab_sound_units.proofs.Adding.{braced_sound, set_kept}

-- Implicit members

-- a context in which functions alone are others
record HasFunctions (c x : Ctx) : Type 0 where
  funcs : List Func
  is : x ≡ record c { funcs = funcs }
  sound : list_all (is_sound_function c.classes) funcs ≡ true

abbrev HasSpecial : Ctx → Specials → Type 0
HasSpecial c x = HasFunctions c x.ctx

same_functions : (c : Ctx) → list_all (is_sound_function c.classes) c.funcs ≡ true → HasFunctions c c
same_functions c h = record { funcs = c.funcs; is = refl; sound = h }

one_function : (c : Ctx) (f : Func) → list_all (is_sound_function c.classes) c.funcs ≡ true → is_sound_function c.classes f ≡ true
    → HasFunctions c (record c { funcs = c.funcs ++ f ∷ [] })
one_function c f h g = record { funcs = c.funcs ++ f ∷ []; is = refl; sound = all_and_one (is_sound_function c.classes) c.funcs f h g }

special_if : (c : Ctx) (b : Bool) (x y : Specials) → HasSpecial c x → HasSpecial c y → HasSpecial c (if b then x else y)
special_if c true x y h g = h
special_if c false x y h g = g

module _ (home : Home) (at : At) (ms : List Member) where
  destructor_added : (c : Ctx) (o : Option ℕ) → list_all (is_sound_function c.classes) c.funcs ≡ true → HasSpecial c (with_destructor c home at ms o)
  destructor_added c (Some i) h = same_functions c h
  destructor_added c None h =
      special_if c (all_held (λ n. is_trivial (traits_at c n).destructor) home.base ms) _ _ (same_functions c h) (one_function c _ h refl)

  copy_added : (c : Ctx) (o : Option ℕ) → is_class c.classes home.number ≡ true → list_all (is_sound_function c.classes) c.funcs ≡ true
      → HasSpecial c (with_copy c home at ms o)
  copy_added c (Some i) g h = same_functions c h
  copy_added c None g h = special_if c (not (may_copy c home.base ms)) _ _ (same_functions c h)
      (special_if c (has_no_pointer c home && all_held (λ n. is_trivial (traits_at c n).copy) home.base ms) _ _ (same_functions c h)
      (one_function c _ h (both (both g refl) refl)))

  default_added : (c : Ctx) (initialised : List ℕ) (b : Bool) → list_all (is_sound_function c.classes) c.funcs ≡ true
      → HasSpecial c (with_default c home at ms initialised b)
  default_added c initialised false h = same_functions c h
  default_added c initialised true h = special_if c (not (base_default c home.base && members_default c initialised 0 ms)) _ _ (same_functions c h)
      (special_if c (is_trivial_default c home ms initialised) _ _ (same_functions c h) (one_function c _ h refl))

  -- what is added behind others

  copy_behind : (c x : Ctx) → HasFunctions c x → is_class c.classes home.number ≡ true → HasSpecial c (with_copy x home at ms (written_copy x home))
  copy_behind c x h g = subst (λ (z : Ctx). HasSpecial c (with_copy z home at ms (written_copy z home))) (sym h.is)
      (onto (copy_added d (written_copy d home) g h.sound))
    where
      d : Ctx
      d = record c { funcs = h.funcs }

      onto : {y : Ctx} → HasFunctions d y → HasFunctions c y
      onto i = record { funcs = i.funcs; is = i.is; sound = i.sound }

  default_behind : (c x : Ctx) (initialised : List ℕ) (b : Bool) → HasFunctions c x → HasSpecial c (with_default x home at ms initialised b)
  default_behind c x initialised b h = subst (λ (z : Ctx). HasSpecial c (with_default z home at ms initialised b)) (sym h.is)
      (onto (default_added d initialised b h.sound))
    where
      d : Ctx
      d = record c { funcs = h.funcs }

      onto : {y : Ctx} → HasFunctions d y → HasFunctions c y
      onto i = record { funcs = i.funcs; is = i.is; sound = i.sound }

  -- The brace

  -- the context behind it, with its classes, the lambdas at hand and what was returned
  record IsBraced (c : Ctx) (w : Work) (d : Ctx) : Type 0 where
    context : HasSoundTypes d w
    kept : Kept c.classes d.classes
    closures : d.closures ≡ c.closures
    returns : d.returns ≡ c.returns

  braced : (c : Ctx) (w : Work) (fs : List Func) (t : Traits) → HasSoundTypes c w → is_class c.classes home.number ≡ true → is_nothing home.name ≡ false
      → list_all (is_sound_member c.classes) ms ≡ true → list_all (is_sound_function c.classes) fs ≡ true
      → IsBraced c w (with_traits (with_record (record c { funcs = fs }) home ms) home t)
  braced c w fs t h g e o f = record {
    context = braced_sound (record c { funcs = fs }) w home.number _ _ t (with_functions c w fs h f) g e refl o;
    kept = set_kept c.classes home.number _ g e refl;
    closures = refl;
    returns = refl;
  }

  braced_by : (c x : Ctx) (w : Work) (t : Traits) → HasFunctions c x → HasSoundTypes c w → is_class c.classes home.number ≡ true
      → is_nothing home.name ≡ false → list_all (is_sound_member c.classes) ms ≡ true → IsBraced c w (with_traits (with_record x home ms) home t)
  braced_by c x w t k h g e o = subst (λ (z : Ctx). IsBraced c w (with_traits (with_record z home ms) home t)) (sym k.is) (braced c w k.funcs t h g e o k.sound)

  completed_sound : (c : Ctx) (w : Work) (initialised : List ℕ) → HasSoundTypes c w → is_class c.classes home.number ≡ true → is_nothing home.name ≡ false
      → list_all (is_sound_member c.classes) ms ≡ true → IsBraced c w (completed c home at ms initialised)
  completed_sound c w initialised h g e o =
      let d : Specials = with_destructor c home at ms (first_from (is_destructor_of home.number) 0 c.funcs) in
      let y : Specials = with_copy d.ctx home at ms (written_copy d.ctx home) in
      let z : Specials = with_default y.ctx home at ms initialised (is_no_place (places_from (is_constructor home.number) 0 c.funcs)) in
      braced_by c z.ctx w
      (traits_of (with_record z.ctx home ms) home ms (takes_const c home ms (written_copy c home)) z.special y.special d.special)
      (default_behind c y.ctx initialised (is_no_place (places_from (is_constructor home.number) 0 c.funcs))
      (copy_behind c d.ctx (destructor_added c (first_from (is_destructor_of home.number) 0 c.funcs) h.functions) g)) h g e o

completed_after : (st : State) (home : Home) (at : At) (ms : List Member) (initialised : List ℕ) → IsSoundState st → is_class st.ctx.classes home.number ≡ true
    → is_nothing home.name ≡ false → list_all (is_sound_member st.ctx.classes) ms ≡ true
    → After st (record st { ctx = completed st.ctx home at ms initialised })
completed_after st home at ms initialised h g e o =
    after_braced (completed st.ctx home at ms initialised) (completed_sound home at ms st.ctx st.work initialised h.context g e o)
  where
    after_braced : (d : Ctx) → IsBraced home at ms st.ctx st.work d → After st (record st { ctx = d })
    after_braced d b = record {
      sound = record {
        context = b.context;
        closures = ap (λ (l : List Closure). are_sound_closures d.classes l) b.closures
            ∙ closures_more st.ctx.classes d.classes b.kept st.ctx.closures h.closures;
        returned = ap (λ (r : Returns). is_sound_return d.classes r) b.returns ∙ return_more st.ctx.classes d.classes b.kept st.ctx.returns h.returned;
      };
      grown = record { kept = b.kept; same = λ q. absurd cc };
    }

if_closed : (P : Ctx → Type 0) (c : Ctx) (e : ElabFault) (t : Result Bool ElabFault) (b : Bool) → P c → On P (and_then t (λ z. if b then Ok c else Err e))
if_closed P c e (Ok z) true h = h
if_closed P c e (Ok z) false h = tt
if_closed P c e (Err f) b h = tt

pub closed_after : (st : State) (home : Home) (at : At) (ms : List Member) (initialised : List ℕ) → IsSoundState st
    → is_class st.ctx.classes home.number ≡ true → is_nothing home.name ≡ false → list_all (is_sound_member st.ctx.classes) ms ≡ true
    → On (λ (d : Ctx). After st (record st { ctx = d })) (closed_class at home.number (completed st.ctx home at ms initialised))
closed_after st home at ms initialised h g e o = if_closed (λ (d : Ctx). After st (record st { ctx = d })) (completed st.ctx home at ms initialised) _ _
    (nat_le (class_extent (completed st.ctx home at ms initialised).classes home.number).size 1048576) (completed_after st home at ms initialised h g e o)
