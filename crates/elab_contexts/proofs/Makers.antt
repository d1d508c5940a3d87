-- The special members of a class, as its brace is closed: functions of the unit.
use Rattle.std.proofs.Common.{◌≡◌, refl, ap, ◌∙◌, subst, ℕ, zero, suc, Bool, true, false, List, [], ◌∷◌, ◌++◌, slice_get, Option, Some, None, eqb-true, eq-eqb}
use Rattle.std.specs.Prelude.{slice_set, if◌then◌else◌, ◌&&◌, ◌||◌, not}
use Rattle.std.proofs.lemmas.Bool.{and_parts}
use Rattle.elab_rules.specs.cpp_types.Typ.{Typs, none as no_typs, more as and_typ, Typ, signature}
use Rattle.elab_rules.specs.cpp_types.Class.{Member, Function}
use Rattle.elab_rules.specs.cpp_types.Equal.{typs_eq}
use Rattle.elab_rules.specs.cpp_types.Trivial.{takes_itself, only_refers}
use Rattle.elab_rules.specs.cpp_types.declared.classes.At.{At as Place}
use Rattle.elab_rules.specs.cpp_tree.declared.program.FuncKind.{FuncKind}
use Rattle.elab_rules.specs.cpp_tree.declared.program.FuncKind.TheVariants.{Plain, Constructor, Destructor, ClosureCall}
use Rattle.elab_rules.specs.elab_ctx.Ctx.{Ctx, Func, Special, absent, trivial, function, Traits}
use Rattle.elab_rules.specs.Objects.{traits_at}
use Rattle.elab_rules.specs.Initialising.{same_number, is_constructor, makes, places_from, signature_parameters}
use Rattle.elab_rules.specs.Statements.{is_trivial}
use Rattle.elab_rules.specs.Functions.{first_from, same_kind}
use Rattle.elab_rules.specs.Classes.{Home, Specials, with_destructor, with_copy, with_default, with_implicit, kept_special, implicit_function}
use Rattle.elab_rules.specs.Classes.{all_held, may_copy, has_no_pointer, own_reference, written_copy}
use Rattle.elab_rules.specs.Classes.{either, is_copy_from, is_written_copy, is_destructor_of, is_default_constructor, written_default, base_default, members_default}
use Rattle.elab_rules.specs.Classes.{is_trivial_default, is_no_place, completed}
use Rattle.elab_rules.specs.Classes.{class_named, own_functions, is_completed, traits_of, with_record, takes_const}
use Rattle.elab_rules.specs.cpp_types.Class.{Class}
use Rattle.elab_rules.specs.cpp_types.Equal.{typ_eq, name_eq}
use Rattle.elab_rules.specs.cpp_types.Typ.{Signature}
use Rattle.elab_rules.specs.cpp_tree.Units.{Param}
use Rattle.elab_rules.specs.cpp_tree.declared.kinds.Builtin.{Builtin}
use Rattle.std.specs.Prelude.{count_by, map, filter, cond}
use Rattle.elab_rules.specs.Calls.{is_of_class}
use Rattle.elab_rules.specs.cpp_tree.Units.{SlotFunc}
use Rattle.elab_rules.specs.Classes.{overriding, base_slots, new_slots, slots_of}
use Rattle.std.proofs.lemmas.Option.{same_Some}
use Rattle.elab_fits.proofs.Equal.{typ_same}
use Rattle.elab_contexts.specs.Holding.{IsKnown}
use Rattle.elab_contexts.specs.Overriders.{is_overrider_by}
use Rattle.elab_contexts.proofs.Lists.{one_more, one_more_at}
use Rattle.elab_contexts.proofs.Found.{At, Stay, stay, stay_on, stay_added, Respects, at_still, first_found, at_the_end}

-- Which functions they are

pub record IsDestructor (n : ℕ) (f : Func) : Type 0 where
  pub class : f.class ≡ Some n
  pub kind : f.kind ≡ Destructor

pub record IsCopy (n : ℕ) (f : Func) : Type 0 where
  pub kind : f.kind ≡ Constructor
  pub class : f.class ≡ Some n
  pub takes : takes_itself n f.declared.signature ≡ true

pub record IsDefault (n : ℕ) (f : Func) : Type 0 where
  pub kind : f.kind ≡ Constructor
  pub class : f.class ≡ Some n
  pub takes : signature_parameters f.declared.signature ≡ no_typs

pub destructor_respects : (n : ℕ) → Respects (IsDestructor n)
destructor_respects n = record {
  same = λ f g s h. record { class = s.class ∙ h.class; kind = s.kind ∙ h.kind };
}

pub copy_respects : (n : ℕ) → Respects (IsCopy n)
copy_respects n = record {
  same = λ f g s h. record {
    kind = s.kind ∙ h.kind;
    class = s.class ∙ h.class;
    takes = ap (λ (x : Function). takes_itself n x.signature) s.declared ∙ h.takes;
  };
}

pub default_respects : (n : ℕ) → Respects (IsDefault n)
default_respects n = record {
  same = λ f g s h. record {
    kind = s.kind ∙ h.kind;
    class = s.class ∙ h.class;
    takes = ap (λ (x : Function). signature_parameters x.signature) s.declared ∙ h.takes;
  };
}

-- Tests

same_class : (n : ℕ) (o : Option ℕ) → same_number n o ≡ true → o ≡ Some n
same_class n None h = absurd cc
same_class n (Some m) h = ap (λ (k : ℕ). Some k) (eqb-true m n h)

makes_is : (k : FuncKind) → makes k ≡ true → k ≡ Constructor
makes_is Constructor h = refl
makes_is Plain h = absurd cc
makes_is Destructor h = absurd cc
makes_is ClosureCall h = absurd cc

destroys_is : (k : FuncKind) → same_kind k Destructor ≡ true → k ≡ Destructor
destroys_is Destructor h = refl
destroys_is Plain h = absurd cc
destroys_is Constructor h = absurd cc
destroys_is ClosureCall h = absurd cc

pub destructor_is : (n : ℕ) (f : Func) → is_destructor_of n f ≡ true → IsDestructor n f
destructor_is n f h = let p = and_parts (same_number n f.class) _ h in record { class = same_class n f.class p.0; kind = destroys_is f.kind p.1 }

constructor_is : (n : ℕ) (f : Func) → is_constructor n f ≡ true → (f.kind ≡ Constructor) × (f.class ≡ Some n)
constructor_is n f h = let p = and_parts (same_number n f.class) _ h in (makes_is f.kind p.1, same_class n f.class p.0)

no_typs_is : (ps : Typs) → typs_eq ps no_typs ≡ true → ps ≡ no_typs
no_typs_is no_typs h = refl
no_typs_is (and_typ t ts) h = absurd cc

pub default_is : (n : ℕ) (f : Func) → is_default_constructor n f ≡ true → IsDefault n f
default_is n f h = let p = and_parts (is_constructor n f) _ h in
    let q = constructor_is n f p.0 in record { kind = q.0; class = q.1; takes = no_typs_is (signature_parameters f.declared.signature) p.1 }

one_typ : (ps : Typs) (t : Typ) → typs_eq ps (and_typ t no_typs) ≡ true → ps ≡ and_typ t no_typs
one_typ no_typs t h = absurd cc
one_typ (and_typ u no_typs) t h = ap (λ (x : Typ). and_typ x no_typs) (typ_same u t (and_parts (typ_eq u t) true h).0)
one_typ (and_typ u (and_typ v vs)) t h = absurd (no_true (and_parts (typ_eq u t) false h).1)
  where
    no_true : false ≡ true → ⊥
    no_true e = absurd cc

takes_own : (n : ℕ) (b : Bool) (s : Signature) → signature_parameters s ≡ and_typ (own_reference n b) no_typs → takes_itself n s ≡ true
takes_own n b (signature ps r safe) e = ap (only_refers n) e ∙ eq-eqb n n refl

copy_from_is : (n : ℕ) (b : Bool) (f : Func) → is_copy_from n b f ≡ true → IsCopy n f
copy_from_is n b f h = let p = and_parts (is_constructor n f) _ h in
    let q = constructor_is n f p.0 in record {
      kind = q.0;
      class = q.1;
      takes = takes_own n b f.declared.signature (one_typ (signature_parameters f.declared.signature) (own_reference n b) p.1);
    }

written_copy_is : (n : ℕ) (name : List ℕ) (f : Func) → is_written_copy n name f ≡ true → IsCopy n f
written_copy_is n name f h = let p = and_parts (is_constructor n f) _ h in
    let q = constructor_is n f p.0 in
    let r = and_parts (name_eq f.declared.name name) _ p.1 in record { kind = q.0; class = q.1; takes = r.1 }

-- One special member

-- a function that the language knows is as it knows it, and those at file scope are plain ones
pub record Proper (f : Func) : Type 0 where
  pub known : (b : Builtin) → f.builtin ≡ Some b → IsKnown f b
  pub free : f.class ≡ None → f.kind ≡ Plain

abbrev pub AllProper : List Func → Type 0
AllProper fs = (k : ℕ) (f : Func) → slice_get fs k ≡ Some f → Proper f

-- a function that was there, or a new one of the class, which is not a plain one
pub data IsOldOr (old : List Func) (n k : ℕ) (f : Func) : Type 0 where
  is_old : slice_get old k ≡ Some f → IsOldOr old n k f
  is_own : f.class ≡ Some n → same_kind f.kind Plain ≡ false → ((w : List ℕ → Bool) → is_overrider_by w f ≡ true) → IsOldOr old n k f

pub record MadeOf (n : ℕ) (P : Func → Type 0) (c : Ctx) (x : Specials) : Type 0 where
  pub classes : x.ctx.classes ≡ c.classes
  pub traits : x.ctx.traits ≡ c.traits
  pub slots : x.ctx.slots ≡ c.slots
  pub stays : Stay c.funcs x.ctx.funcs
  pub proper : AllProper c.funcs → AllProper x.ctx.funcs
  pub added : (k : ℕ) (f : Func) → slice_get x.ctx.funcs k ≡ Some f → IsOldOr c.funcs n k f
  pub special : (k : ℕ) → x.special ≡ function k → At P x.ctx.funcs k

made_if : (n : ℕ) (P : Func → Type 0) (c : Ctx) (b : Bool) (x y : Specials) → MadeOf n P c x → MadeOf n P c y → MadeOf n P c (if b then x else y)
made_if n P c true x y g h = g
made_if n P c false x y g h = h

kept_made : (n : ℕ) (P : Func → Type 0) (c : Ctx) (s : Special) → ((k : ℕ) → s ≡ function k → At P c.funcs k) → MadeOf n P c (kept_special c s)
kept_made n P c s h = record { classes = refl; traits = refl; slots = refl; stays = stay c.funcs; proper = λ p. p; added = λ k f e. is_old e; special = h }

not_there : (n : ℕ) (P : Func → Type 0) (c : Ctx) → MadeOf n P c (kept_special c absent)
not_there n P c = kept_made n P c absent (λ k e. absurd cc)

nothing_to_do : (n : ℕ) (P : Func → Type 0) (c : Ctx) → MadeOf n P c (kept_special c trivial)
nothing_to_do n P c = kept_made n P c trivial (λ k e. absurd cc)

abbrev number_in : Special → ℕ
number_in (function k) = k
number_in absent = 0
number_in trivial = 0

found_made : (n : ℕ) (P : Func → Type 0) (c : Ctx) (i : ℕ) → At P c.funcs i → MadeOf n P c (kept_special c (function i))
found_made n P c i x = kept_made n P c (function i) (λ k e. subst (λ (j : ℕ). At P c.funcs j) (ap number_in e) x)

implicit_made : (n : ℕ) (P : Func → Type 0) (c : Ctx) (f : Func) → P f → f.class ≡ Some n → same_kind f.kind Plain ≡ false → ((w : List ℕ → Bool) → is_overrider_by w f ≡ true) → Proper f
    → MadeOf n P c (with_implicit c f)
implicit_made n P c f p o z y q = record {
  classes = refl;
  traits = refl;
  slots = refl;
  stays = stay_added c.funcs f;
  proper = λ h. one_more Proper c.funcs f h q;
  added = one_more_at (λ (k : ℕ) (g : Func). IsOldOr c.funcs n k g) c.funcs f (λ i y e. is_old e) (is_own o z y);
  special = λ k e. subst (λ (j : ℕ). At P (c.funcs ++ f ∷ []) j) (ap number_in e)
      (record { func = f; at = at_the_end c.funcs f; is = p });
}

implicit_proper : (n : ℕ) (kind : FuncKind) (ps : List Param) (g : Function) → Proper (implicit_function n kind ps g)
implicit_proper n kind ps g = record { known = λ b e. absurd cc; free = λ e. absurd cc }

passed : (P : Func → Type 0) (test : Func → Bool) → ((f : Func) → test f ≡ true → P f) → (fs : List Func) (k : ℕ) → first_from test 0 fs ≡ Some k
    → At P fs k
passed P test h fs k e = let x = first_found test fs k e in record { func = x.func; at = x.at; is = h x.func x.is }

or_right : (b : Bool) → (b || true) ≡ true
or_right true = refl
or_right false = refl

destructor_made : (c : Ctx) (home : Home) (at : Place) (ms : List Member) (o : Option ℕ) → first_from (is_destructor_of home.number) 0 c.funcs ≡ o
    → MadeOf home.number (IsDestructor home.number) c (with_destructor c home at ms o)
destructor_made c home at ms (Some i) e = found_made home.number (IsDestructor home.number) c i
    (passed (IsDestructor home.number) (is_destructor_of home.number) (destructor_is home.number) c.funcs i e)
destructor_made c home at ms None e = made_if home.number (IsDestructor home.number) c (all_held (λ n. is_trivial (traits_at c n).destructor) home.base ms) _ _
    (nothing_to_do home.number (IsDestructor home.number) c)
    (implicit_made home.number (IsDestructor home.number) c _ (record { class = refl; kind = refl }) refl refl (λ w. or_right _) (implicit_proper home.number Destructor [] _))

either_found : (n : ℕ) (name : List ℕ) (fs : List Func) (a b : Option ℕ) → first_from (is_copy_from n true) 0 fs ≡ a
    → first_from (is_written_copy n name) 0 fs ≡ b → (k : ℕ) → either a b ≡ Some k → At (IsCopy n) fs k
either_found n name fs (Some i) b e f k q =
    passed (IsCopy n) (is_copy_from n true) (copy_from_is n true) fs k (e ∙ q)
either_found n name fs None b e f k q = passed (IsCopy n) (is_written_copy n name) (written_copy_is n name) fs k (f ∙ q)

copy_made : (c : Ctx) (home : Home) (at : Place) (ms : List Member) (o : Option ℕ) → written_copy c home ≡ o
    → MadeOf home.number (IsCopy home.number) c (with_copy c home at ms o)
copy_made c home at ms (Some i) e = found_made home.number (IsCopy home.number) c i (either_found home.number home.name c.funcs _ _ refl refl i e)
copy_made c home at ms None e = made_if home.number (IsCopy home.number) c (not (may_copy c home.base ms)) _ _ (not_there home.number (IsCopy home.number) c)
    (made_if home.number (IsCopy home.number) c (has_no_pointer c home && all_held (λ n. is_trivial (traits_at c n).copy) home.base ms) _ _
    (nothing_to_do home.number (IsCopy home.number) c)
    (implicit_made home.number (IsCopy home.number) c _ (record { kind = refl; class = refl; takes = eq-eqb home.number home.number refl }) refl refl (λ w. refl)
    (implicit_proper home.number Constructor _ _)))

written_made : (c : Ctx) (n : ℕ) (o : Option ℕ) → first_from (is_default_constructor n) 0 c.funcs ≡ o
    → MadeOf n (IsDefault n) c (kept_special c (written_default o))
written_made c n (Some i) e = found_made n (IsDefault n) c i (passed (IsDefault n) (is_default_constructor n) (default_is n) c.funcs i e)
written_made c n None e = not_there n (IsDefault n) c

default_made : (c : Ctx) (home : Home) (at : Place) (ms : List Member) (initialised : List ℕ) (b : Bool)
    → MadeOf home.number (IsDefault home.number) c (with_default c home at ms initialised b)
default_made c home at ms initialised false = written_made c home.number (first_from (is_default_constructor home.number) 0 c.funcs) refl
default_made c home at ms initialised true =
    made_if home.number (IsDefault home.number) c (not (base_default c home.base && members_default c initialised 0 ms)) _ _ (not_there home.number (IsDefault home.number) c)
    (made_if home.number (IsDefault home.number) c (is_trivial_default c home ms initialised) _ _ (nothing_to_do home.number (IsDefault home.number) c)
    (implicit_made home.number (IsDefault home.number) c _ (record { kind = refl; class = refl; takes = refl }) refl refl (λ w. refl) (implicit_proper home.number Constructor [] _)))

-- All of them, at the brace

-- a class with this name, this base and these members that gets the next number
pub record IsClosed (cs : List Class) (title : List ℕ) (b : Option ℕ) (ms : List Member) (k : Class) : Type 0 where
  pub complete : k.complete ≡ Some (count_by is_completed cs)
  pub name : k.name ≡ title
  pub base : k.base ≡ b
  pub members : k.members ≡ ms

-- a function of the class that is declared so
pub record IsMethodOf (n : ℕ) (g : Function) (fs : List Func) : Type 0 where
  pub place : ℕ
  pub func : Func
  pub at : slice_get fs place ≡ Some func
  pub class : func.class ≡ Some n
  pub is : func.declared ≡ g

no_method : (n : ℕ) (f : Func) (fs : List Func) (b : Bool) → is_of_class n f ≡ b → (i : ℕ) (g : Function)
    → ((i : ℕ) (g : Function) → slice_get (own_functions n fs) i ≡ Some g → IsMethodOf n g fs)
    → slice_get (map (λ (x : Func). x.declared) (cond b (f ∷ filter (is_of_class n) fs) (filter (is_of_class n) fs))) i ≡ Some g → IsMethodOf n g (f ∷ fs)
no_method n f fs true e zero g h q = record { place = 0; func = f; at = refl; class = same_class n f.class e; is = same_Some f.declared g q }
no_method n f fs true e (suc i) g h q = let x = h i g q in record { place = suc x.place; func = x.func; at = x.at; class = x.class; is = x.is }
no_method n f fs false e i g h q = let x = h i g q in record { place = suc x.place; func = x.func; at = x.at; class = x.class; is = x.is }

-- the record of a class has its functions
pub own_methods : (n : ℕ) (fs : List Func) (i : ℕ) (g : Function) → slice_get (own_functions n fs) i ≡ Some g → IsMethodOf n g fs
own_methods n [] i g e = absurd cc
own_methods n (f ∷ fs) i g e = no_method n f fs (is_of_class n f) refl i g (own_methods n fs) e

pub record Closing (c : Ctx) (n : ℕ) (name : List ℕ) (base : Option ℕ) (ms : List Member) (d : Ctx) : Type 0 where
  pub class : Class
  pub closed : IsClosed c.classes name base ms class
  pub functions : class.functions ≡ own_functions n d.funcs
  -- the context before the class got its record
  pub last : Ctx
  pub last_classes : last.classes ≡ c.classes
  pub last_slots : last.slots ≡ c.slots
  pub slots : d.slots ≡ slice_set c.slots n (overriding last.classes n class.functions (base_slots last base) ++ new_slots last base n 0 class.functions)
  pub methods : (i : ℕ) (g : Function) → slice_get class.functions i ≡ Some g → IsMethodOf n g d.funcs
  pub added : (k : ℕ) (f : Func) → slice_get d.funcs k ≡ Some f → IsOldOr c.funcs n k f
  pub classes : d.classes ≡ slice_set c.classes n class
  pub own : Traits
  pub traits : d.traits ≡ slice_set c.traits n own
  pub stays : Stay c.funcs d.funcs
  pub proper : AllProper c.funcs → AllProper d.funcs
  pub destructor : (k : ℕ) → own.destructor ≡ function k → At (IsDestructor n) d.funcs k
  pub copy : (k : ℕ) → own.copy ≡ function k → At (IsCopy n) d.funcs k
  pub default : (k : ℕ) → own.default ≡ function k → At (IsDefault n) d.funcs k

older : (a b : List Func) (n k : ℕ) (f : Func) → ((k : ℕ) (f : Func) → slice_get b k ≡ Some f → IsOldOr a n k f) → IsOldOr b n k f → IsOldOr a n k f
older a b n k f h (is_old e) = h k f e
older a b n k f h (is_own e z y) = is_own e z y

pub closing : (c : Ctx) (home : Home) (at : Place) (ms : List Member) (initialised : List ℕ)
    → Closing c home.number home.name home.base ms (completed c home at ms initialised)
closing c home at ms initialised =
    let n : ℕ = home.number in
    let d : Specials = with_destructor c home at ms (first_from (is_destructor_of n) 0 c.funcs) in
    let k : Specials = with_copy d.ctx home at ms (written_copy d.ctx home) in
    let x : Specials = with_default k.ctx home at ms initialised (is_no_place (places_from (is_constructor n) 0 c.funcs)) in
    let dm = destructor_made c home at ms (first_from (is_destructor_of n) 0 c.funcs) refl in
    let km = copy_made d.ctx home at ms (written_copy d.ctx home) refl in
    let xm = default_made k.ctx home at ms initialised (is_no_place (places_from (is_constructor n) 0 c.funcs)) in
    record {
      class = class_named home.name home.base home.is_final ms (own_functions n x.ctx.funcs) (Some (count_by is_completed x.ctx.classes));
      closed = record {
        complete = ap (λ (cs : List Class). Some (count_by is_completed cs)) (xm.classes ∙ km.classes ∙ dm.classes);
        name = refl;
        base = refl;
        members = refl;
      };
      functions = refl;
      last = x.ctx;
      last_classes = xm.classes ∙ km.classes ∙ dm.classes;
      last_slots = xm.slots ∙ km.slots ∙ dm.slots;
      slots = ap (λ (ss : List (List SlotFunc)). slice_set ss n (slots_of x.ctx home (own_functions n x.ctx.funcs))) (xm.slots ∙ km.slots ∙ dm.slots);
      methods = own_methods n x.ctx.funcs;
      added = λ i f e. older c.funcs d.ctx.funcs n i f dm.added
          (older d.ctx.funcs k.ctx.funcs n i f km.added (xm.added i f e));
      classes = ap (λ (cs : List Class). slice_set cs n
          (class_named home.name home.base home.is_final ms (own_functions n x.ctx.funcs) (Some (count_by is_completed x.ctx.classes))))
          (xm.classes ∙ km.classes ∙ dm.classes);
      own = traits_of (with_record x.ctx home ms) home ms (takes_const c home ms (written_copy c home)) x.special k.special d.special;
      traits = ap (λ (ts : List Traits). slice_set ts n
          (traits_of (with_record x.ctx home ms) home ms (takes_const c home ms (written_copy c home)) x.special k.special d.special))
          (xm.traits ∙ km.traits ∙ dm.traits);
      stays = stay_on c.funcs d.ctx.funcs x.ctx.funcs dm.stays (stay_on d.ctx.funcs k.ctx.funcs x.ctx.funcs km.stays xm.stays);
      proper = λ p. xm.proper (km.proper (dm.proper p));
      destructor = λ i e. at_still (IsDestructor n) (destructor_respects n) d.ctx.funcs x.ctx.funcs
          (stay_on d.ctx.funcs k.ctx.funcs x.ctx.funcs km.stays xm.stays) i (dm.special i e);
      copy = λ i e. at_still (IsCopy n) (copy_respects n) k.ctx.funcs x.ctx.funcs xm.stays i (km.special i e);
      default = λ i e. xm.special i e;
    }
