-- What the laws of expressions ask of the context of a unit holds from its start on.
use Rattle.std.proofs.Common.{◌≡◌, refl, sym, ap, ◌∙◌, subst, ℕ, zero, suc, Bool, true, false, List, [], ◌∷◌, length, Option, Some, None, Result, Ok, Err, slice_get}
use Rattle.std.proofs.Common.{nat_le, is_some, cond, option_and_then, arith}
use Rattle.std.specs.Prelude.{map, if◌then◌else◌}
use Rattle.std.proofs.lemmas.Option.{same_Some}
use Rattle.elab_rules.specs.cpp_types.Typ.{class}
use Rattle.elab_rules.specs.cpp_types.Class.{Class, Function, signature_below}
use Rattle.elab_rules.specs.cpp_layout.Layout.{class_extent}
use Rattle.elab_rules.specs.cpp_layout.declared.extents.TheConstants.{GREATEST_SIZE}
use Rattle.elab_rules.specs.cpp_tree.Notation.{plain}
use Rattle.elab_rules.specs.cpp_tree.Parts.{size_in, holds_complete}
use Rattle.elab_rules.specs.cpp_tree.Typing.{form_in}
use Rattle.elab_rules.specs.cpp_tree.declared.faults.ElabFault.{ElabFault}
use Rattle.elab_rules.specs.cpp_tree.declared.kinds.Builtin.{Builtin}
use Rattle.elab_rules.specs.cpp_tree.declared.kinds.Builtin.TheVariants.{PutChar, GetChar, Spawn, Join}
use Rattle.elab_rules.specs.cpp_tree.declared.program.FuncKind.TheVariants.{Plain}
use Rattle.elab_rules.specs.elab_ctx.Ctx.{Ctx, Func, Traits}
use Rattle.elab_rules.specs.elab_ctx.Steps.{and_then}
use Rattle.elab_rules.specs.Objects.{no_traits}
use Rattle.elab_rules.specs.Classes.{begun, members_of, completed, closed_class}
use Rattle.elab_rules.specs.Globals.{enum_declared}
use Rattle.elab_rules.specs.Implicit.{implied}
use Rattle.elab_rules.specs.Lambdas.{lambdas_of}
use Rattle.elab_rules.specs.Members.{base_named, members_among, declared_only, default_made, late_method, outside_body}
use Rattle.elab_rules.specs.Programs.{start_behind, with_unit}
use Rattle.elab_rules.specs.Statements.{State, Done, Full, full_operand, statements_of}
use Rattle.elab_rules.specs.Units.{start, builtins, file_declaration, alias_of, defined_with, declarations_of, unit_from}
use Rattle.elab_fits.specs.Standing.{On}
use Rattle.elab_fits.specs.Objects.{IsDestructorOf}
use Rattle.elab_fits.proofs.Steps.{weaken}
use Rattle.elab_fits_objects.specs.Contexts.{IsCopyOf, IsDefaultOf}
use Rattle.elab_contexts.specs.Steps.{view, Steps, IsOpen}
use Rattle.elab_contexts.specs.Holding.{IsKnown, IsOfClass, IsRecorded, of_unit, of_another, UnitHolds, StateHolds, HasEnumerators, HasTypeNames, StartsHold}
use Rattle.elab_contexts.specs.Holding.{LaterStartsHold, DeclarationsHold, UnitsHold, LambdasHold, OperandsHold, StatementsHold, VariablesHold, AliasesHold}
use Rattle.elab_contexts.specs.Holding.{EnumsHold, NamesHold, FunctionsHold, OutsideHold, ClassesHold, MemberDefaultsHold, MethodsHold, ImpliedHold, SpecialsHold}
use Rattle.elab_contexts.specs.Steps.{View, is_same_declared}
use Rattle.elab_contexts.specs.Slots.{slots_at, HasSlotsIn}
use Rattle.elab_rules.specs.cpp_tree.Units.{SlotFunc}
use Rattle.elab_rules.specs.cpp_types.Class.{completion_of}
use Rattle.elab_contexts.specs.Overriders.{HasOverridersBy, Overrides, StartsOverride, LambdasOverride, OperandsOverride, StatementsOverride, VariablesOverride, FunctionsOverride}
use Rattle.elab_contexts.specs.Overriders.{OutsideOverride, ClassesOverride, MemberDefaultsOverride, MethodsOverride, ImpliedOverride}
use Rattle.elab_contexts.proofs.Walking.{Leaves, Ends, kept_by_steps}
use Rattle.elab_contexts.proofs.Found.{At}
use Rattle.elab_contexts.proofs.Makers.{IsDestructor, IsCopy, IsDefault, Proper, AllProper, closing}
use Rattle.elab_contexts.proofs.Kept.{Makes, makes_nothing, traits_in, Holds, each_kept}
use Rattle.elab_contexts.proofs.Owned.{AllOwned, overriders_closed}
use Rattle.elab_contexts.proofs.Sized.{Sized}
use Rattle.elab_contexts.proofs.Going.{From, leaves_are}
use Rattle.elab_contexts.proofs.Statements.{statements_kept, full_kept}
use Rattle.elab_contexts.proofs.Bodies.{lambdas_lawful}
use Rattle.elab_contexts.proofs.Members.{default_kept, late_method_kept}
use Rattle.elab_contexts.proofs.Outside.{body_kept}
use Rattle.elab_contexts.proofs.Classes.{IsBegun, IsWholeBase, Read, begun_from, declared_from, base_whole, members_read, brace_leaves}
use Rattle.elab_contexts.proofs.Declared.{declaration_kept, aliases_from, enum_kept}
use Rattle.elab_contexts.proofs.Implied.{implied_one}
use Rattle.elab_contexts.proofs.Units.{declarations_go, units_go, with_kept}

-- One way and the other

destructor_of : (c : Ctx) (n k : ℕ) → At (IsDestructor n) c.funcs k → IsDestructorOf c n k
destructor_of c n k x = record { func = x.func; at = x.at; kind = x.is.kind; class = x.is.class }

copy_of : (c : Ctx) (n k : ℕ) → At (IsCopy n) c.funcs k → IsCopyOf c n k
copy_of c n k x = record { maker = record { func = x.func; at = x.at; kind = x.is.kind; class = x.is.class }; takes = x.is.takes }

default_of : (c : Ctx) (n k : ℕ) → At (IsDefault n) c.funcs k → IsDefaultOf c n k
default_of c n k x = record { maker = record { func = x.func; at = x.at; kind = x.is.kind; class = x.is.class }; takes = x.is.takes }

within : (b c : Bool) (n : ℕ) → b ≡ true → c ≡ true → is_some (cond b (cond c (Some n) None) None) ≡ true
within true true n h e = refl
within true false n h e = absurd cc
within false c n h e = absurd cc

within_is : (b c : Bool) (n : ℕ) → is_some (cond b (cond c (Some n) None) None) ≡ true → c ≡ true
within_is true true n h = refl
within_is true false n h = absurd cc
within_is false c n h = absurd cc

has_size : (cs : List Class) (n : ℕ) (k : Class) → slice_get cs n ≡ Some k → is_some k.complete ≡ true → Sized cs n
    → is_some (size_in cs (plain (class n))) ≡ true
has_size cs n k e q z = within (holds_complete cs (class n)) (nat_le (class_extent cs n).size GREATEST_SIZE) (class_extent cs n).size
    (ap (λ (y : Option Class). is_some (option_and_then (λ (c : Class). c.complete) y)) e ∙ q) z

is_sized : (cs : List Class) (n : ℕ) → is_some (size_in cs (plain (class n))) ≡ true → Sized cs n
is_sized cs n h = within_is (holds_complete cs (class n)) (nat_le (class_extent cs n).size GREATEST_SIZE) (class_extent cs n).size h

pub shown : (c : Ctx) → Holds (view c) → HasEnumerators c.enumerators → HasTypeNames c.classes c.types → UnitHolds c
shown c h e t = record {
  many = h.many;
  destructors = λ n k q. destructor_of c n k ((h.makes n).destructor k q);
  copies = λ n k q. copy_of c n k ((h.makes n).copy k q);
  defaults = λ n k q. default_of c n k ((h.makes n).default k q);
  bare = h.bare;
  builtins = λ k f b q. (h.proper k f q).known b;
  free = λ k f q. (h.proper k f q).free;
  owned = λ k f n q. h.owned k f q n;
  recorded = λ n i k g q r. h.recorded n k q i g r;
  slotted = h.slotted;
  objects = λ n i k m q. h.objects n k q i m;
  numbered = h.ordered.numbered;
  earlier = h.ordered.earlier;
  based = λ n b k q. (h.tidy n k q).based b;
  bases = λ n b k q. (h.plain n k q).base b;
  members = λ n i k m q r. (h.plain n k q).members r i m;
  nameless = λ n k q. (h.tidy n k q).nameless;
  sized = λ n k e q. has_size c.classes n k e q (h.sized n k e q);
  enumerators = e;
  types = t;
}

seen_copy : (c : Ctx) (n k : ℕ) → IsCopyOf c n k → At (IsCopy n) c.funcs k
seen_copy c n k x = record {
  func = x.maker.func;
  at = x.maker.at;
  is = record { kind = x.maker.kind; class = x.maker.class; takes = x.takes };
}

seen_default : (c : Ctx) (n k : ℕ) → IsDefaultOf c n k → At (IsDefault n) c.funcs k
seen_default c n k x = record {
  func = x.maker.func;
  at = x.maker.at;
  is = record { kind = x.maker.kind; class = x.maker.class; takes = x.takes };
}

pub taken : (c : Ctx) → UnitHolds c → Holds (view c)
taken c h = record {
  many = h.many;
  makes = λ n. record {
    destructor = λ k q. let x = h.destructors n k q in record { func = x.func; at = x.at; is = record { class = x.class; kind = x.kind } };
    copy = λ k q. seen_copy c n k (h.copies n k q);
    default = λ k q. seen_default c n k (h.defaults n k q);
  };
  bare = h.bare;
  proper = λ k f q. record { known = λ b. h.builtins k f b q; free = h.free k f q };
  objects = λ n k q i m. h.objects n i k m q;
  ordered = record { numbered = h.numbered; earlier = h.earlier };
  sized = λ n k e q. is_sized c.classes n (h.sized n k e q);
  tidy = λ n k q. record { based = λ b. h.based n b k q; nameless = h.nameless n k q };
  plain = λ n k q. record { base = λ b. h.bases n b k q; members = λ r i m. h.members n i k m q r };
  owned = λ k f q n. h.owned k f n q;
  recorded = λ n k q i g. h.recorded n i k g q;
  slotted = h.slotted;
}

-- The start

one_known : (f : Func) (d : Builtin) → f.builtin ≡ Some d → IsKnown f d → (b : Builtin) → f.builtin ≡ Some b → IsKnown f b
one_known f d e h b q = subst (IsKnown f) (same_Some d b (sym e ∙ q)) h

proper_known : (f : Func) (d : Builtin) → f.builtin ≡ Some d → IsKnown f d → f.kind ≡ Plain → (g : Func) → Some f ≡ Some g → Proper g
proper_known f d e h p g q = subst Proper (same_Some f g q) (record { known = one_known f d e h; free = λ z. p })

builtins_proper : AllProper builtins
builtins_proper zero f e = proper_known _ PutChar refl (record { words = refl; result = refl; free = refl }) refl f e
builtins_proper (suc zero) f e = proper_known _ GetChar refl (record { words = refl; result = refl; free = refl }) refl f e
builtins_proper (suc (suc zero)) f e = proper_known _ Spawn refl (record { words = refl; result = refl; free = refl }) refl f e
builtins_proper (suc (suc (suc zero))) f e = proper_known _ Join refl (record { words = refl; result = refl; free = refl }) refl f e
builtins_proper (suc (suc (suc (suc k)))) f e = absurd cc

builtins_free : (cs : List Class) → AllOwned cs builtins
builtins_free cs k f e n q = let x = builtins_proper k f e in by k f e n q
  where
    none_of : (g f : Func) → g.class ≡ None → Some g ≡ Some f → (n : ℕ) → f.class ≡ Some n → IsOfClass cs n f
    none_of g f z e n q = let i : None ≡ Some n = sym z ∙ ap (λ (x : Func). x.class) (same_Some g f e) ∙ q in absurd cc

    by : (k : ℕ) (f : Func) → slice_get builtins k ≡ Some f → (n : ℕ) → f.class ≡ Some n → IsOfClass cs n f
    by zero f e n q = none_of _ f refl e n q
    by (suc zero) f e n q = none_of _ f refl e n q
    by (suc (suc zero)) f e n q = none_of _ f refl e n q
    by (suc (suc (suc zero))) f e n q = none_of _ f refl e n q
    by (suc (suc (suc (suc k)))) f e n q = absurd cc

apart_by : {A : Type 0} (x y f g : Func) → Some x ≡ Some f → Some y ≡ Some g → is_same_declared x y ≡ false → is_same_declared f g ≡ true → A
apart_by {A = A} x y f g e q n t = absurd (no_way (sym n ∙ subst (λ (z : Func). is_same_declared z y ≡ true) (sym (same_Some x f e))
    (subst (λ (z : Func). is_same_declared f z ≡ true) (sym (same_Some y g q)) t)))
  where
    no_way : false ≡ true → ⊥
    no_way z = absurd cc

builtins_distinct : (j k : ℕ) (f g : Func) → slice_get builtins j ≡ Some f → slice_get builtins k ≡ Some g → is_same_declared f g ≡ true → j ≡ k
builtins_distinct zero zero f g e q t = refl
builtins_distinct zero (suc zero) f g e q t = apart_by _ _ f g e q refl t
builtins_distinct zero (suc (suc zero)) f g e q t = apart_by _ _ f g e q refl t
builtins_distinct zero (suc (suc (suc zero))) f g e q t = apart_by _ _ f g e q refl t
builtins_distinct (suc zero) zero f g e q t = apart_by _ _ f g e q refl t
builtins_distinct (suc zero) (suc zero) f g e q t = refl
builtins_distinct (suc zero) (suc (suc zero)) f g e q t = apart_by _ _ f g e q refl t
builtins_distinct (suc zero) (suc (suc (suc zero))) f g e q t = apart_by _ _ f g e q refl t
builtins_distinct (suc (suc zero)) zero f g e q t = apart_by _ _ f g e q refl t
builtins_distinct (suc (suc zero)) (suc zero) f g e q t = apart_by _ _ f g e q refl t
builtins_distinct (suc (suc zero)) (suc (suc zero)) f g e q t = refl
builtins_distinct (suc (suc zero)) (suc (suc (suc zero))) f g e q t = apart_by _ _ f g e q refl t
builtins_distinct (suc (suc (suc zero))) zero f g e q t = apart_by _ _ f g e q refl t
builtins_distinct (suc (suc (suc zero))) (suc zero) f g e q t = apart_by _ _ f g e q refl t
builtins_distinct (suc (suc (suc zero))) (suc (suc zero)) f g e q t = apart_by _ _ f g e q refl t
builtins_distinct (suc (suc (suc zero))) (suc (suc (suc zero))) f g e q t = refl
builtins_distinct (suc (suc (suc (suc j)))) k f g e q t = absurd cc
builtins_distinct j (suc (suc (suc (suc k)))) f g e q t = absurd cc

-- no member function yet
no_slots : (v : View) → v.funcs ≡ builtins → length v.slots ≡ length v.classes
    → ((n i : ℕ) (x : SlotFunc) → slice_get (slots_at v.slots n) i ≡ Some x → is_some (completion_of v.classes x.class) ≡ true) → HasSlotsIn v
no_slots v b m w = record {
  many = m;
  whole = w;
  own = λ k n f e c p z d a. no_class_of k f n (ap (λ (fs : List Func). slice_get fs k) (sym b) ∙ e) c;
  distinct = λ j k f g e q p t. builtins_distinct j k f g (ap (λ (fs : List Func). slice_get fs j) (sym b) ∙ e) (ap (λ (fs : List Func). slice_get fs k) (sym b) ∙ q) t;
}
  where
    no_class_of : {A : Type 0} (k : ℕ) (f : Func) (n : ℕ) → slice_get builtins k ≡ Some f → f.class ≡ Some n → A
    no_class_of k f n e c = let x = builtins_free [] k f e n c in let z : None ≡ Some x.class = x.at in absurd cc

start_holds : (source : ℕ) → Holds (view (start source).ctx)
start_holds source = record {
  many = refl;
  makes = λ n. makes_nothing builtins n;
  bare = λ n e. refl;
  proper = builtins_proper;
  objects = λ n k q i m e. absurd cc;
  ordered = record { numbered = λ n k e. absurd cc; earlier = λ n k i q e. absurd cc };
  sized = λ n k e q. absurd cc;
  tidy = λ n k e. absurd cc;
  plain = λ n k e. absurd cc;
  owned = builtins_free [];
  recorded = λ n k e i g q. absurd cc;
  slotted = no_slots (view (start source).ctx) refl refl (λ n i x e. absurd cc);
}

pub starts_law : StartsHold
starts_law source = shown (start source).ctx (start_holds source) (λ i e q. absurd cc) (λ i e q. absurd cc)

-- nothing is said of any class
none_said : (ts : List Traits) (n : ℕ) → traits_in (map (λ (t : Traits). no_traits) ts) n ≡ no_traits
none_said [] n = refl
none_said (t ∷ ts) zero = refl
none_said (t ∷ ts) (suc n) = none_said ts n

later_makes : (ts : List Traits) (fs : List Func) (n : ℕ) → Makes fs n (traits_in (map (λ (t : Traits). no_traits) ts) n)
later_makes ts fs n = subst (Makes fs n) (sym (none_said ts n)) (makes_nothing fs n)

as_many : (ts : List Traits) → length (map (λ (t : Traits). no_traits) ts) ≡ length ts
as_many [] = refl
as_many (t ∷ ts) = let h = as_many ts in omega (arith, h)

-- the functions of another unit
recorded_later : (cs : List Class) (fs gs : List Func) → ((k : ℕ) (f : Func) → slice_get fs k ≡ Some f → signature_below (length cs) f.declared.signature ≡ true)
    → (n : ℕ) (g : Function) → IsRecorded cs fs n g → IsRecorded cs gs n g
recorded_later cs fs gs b n g (of_unit k f e c d) = of_another (subst (λ (x : Function). signature_below (length cs) x.signature ≡ true) d (b k f e))
recorded_later cs fs gs b n g (of_another h) = of_another h

pub later_law : LaterStartsHold
later_law source p x st h b = shown (start_behind source (with_unit p x st) st.ctx.traits).ctx
    (record {
      many = as_many st.ctx.traits ∙ h.many;
      makes = λ n. later_makes st.ctx.traits builtins n;
      bare = λ n e. none_said st.ctx.traits n;
      proper = builtins_proper;
      objects = λ n k q i m. h.objects n i k m q;
      ordered = record { numbered = h.numbered; earlier = h.earlier };
      sized = λ n k e q. is_sized st.ctx.classes n (h.sized n k e q);
      tidy = λ n k q. record { based = λ b. h.based n b k q; nameless = h.nameless n k q };
      plain = λ n k q. record { base = λ b. h.bases n b k q; members = λ r i m. h.members n i k m q r };
      owned = builtins_free st.ctx.classes;
      recorded = λ n k q i g r. recorded_later st.ctx.classes st.ctx.funcs builtins b n g (h.recorded n i k g q r);
      slotted = no_slots (view (start_behind source (with_unit p x st) st.ctx.traits).ctx) refl h.slotted.many h.slotted.whole;
    }) (λ i e q. absurd cc) (λ i e q. absurd cc)

-- Declarations and statements

behind : (a b : Ctx) → Steps (view a) (view b) → UnitHolds a → HasEnumerators b.enumerators → HasTypeNames b.classes b.types → UnitHolds b
behind a b s h e t = shown b (kept_by_steps Holds each_kept s (taken a h)) e t

gone : (st y : State) → UnitHolds st.ctx → From st y → UnitHolds y.ctx
gone st y h g = behind st.ctx y.ctx g.walk h (g.enumerators h.enumerators) (g.types h.types)

pub left : (st y : State) → UnitHolds st.ctx → Leaves st y → UnitHolds y.ctx
left st y h g = gone st y h (leaves_are st y g)

from_holds : (st : State) (r : Result State ElabFault) → UnitHolds st.ctx → On (From st) r → On StateHolds r
from_holds st r h = weaken (From st) StateHolds r (λ y g. gone st y h g)

leaves_hold : (st : State) (r : Result State ElabFault) → UnitHolds st.ctx → On (Leaves st) r → On StateHolds r
leaves_hold st r h = weaken (Leaves st) StateHolds r (λ y g. left st y h g)

pub declarations_law : DeclarationsHold
declarations_law s x st ts h n = from_holds st (declarations_of s x st ts) h (declarations_go s x st ts n h.types)

pub units_law : UnitsHold
units_law s st decls h n = from_holds st (unit_from s st decls) h (units_go s st decls n h.types)

pub lambdas_law : LambdasHold
lambdas_law s st e h = leaves_hold st (lambdas_of s st e) h (lambdas_lawful.each s st e)

pub operands_law : OperandsHold
operands_law s st e h = weaken (λ (f : Full). Leaves st f.state) (λ (f : Full). UnitHolds f.state.ctx) (full_operand lambdas_of s st e)
    (λ f g. left st f.state h g) (full_kept lambdas_of lambdas_lawful s st e)

pub statements_law : StatementsHold
statements_law s st ts h = weaken (Ends st) (λ (d : Done). UnitHolds d.state.ctx) (statements_of lambdas_of s st ts)
    (λ d g. left st d.state h g) (statements_kept lambdas_of lambdas_lawful s st ts)

pub variables_law : VariablesHold
variables_law s st x at ts h = leaves_hold st (file_declaration s st x at ts) h (declaration_kept s st x at ts)

pub aliases_law : AliasesHold
aliases_law s st at name ts h = from_holds st (alias_of s st at name ts) h (aliases_from s st at name ts h.types)

pub enums_law : EnumsHold
enums_law s st at name ts h = from_holds st (enum_declared s st at name ts) h (enum_kept s st at name ts)

pub names_law : NamesHold
names_law st at name h n = from_holds st (declared_only st at name) h (declared_from st at name n)

pub functions_law : FunctionsHold
functions_law s st x at first r body h = leaves_hold st (defined_with s st x at first r body (form_in r.typ)) h
    (with_kept s st x at first r body (form_in r.typ))

pub outside_law : OutsideHold
outside_law s st n kind first m body h = leaves_hold st (outside_body lambdas_of s st n kind first m body) h
    (body_kept lambdas_of lambdas_lawful s st n kind first m body)

pub defaults_law : MemberDefaultsHold
defaults_law s st n i t e h = leaves_hold st (default_made lambdas_of s st n i t e) h (default_kept lambdas_of lambdas_lawful s st n i t e)

pub methods_law : MethodsHold
methods_law s st n kind m body h = leaves_hold st (late_method lambdas_of s st n kind m body) h
    (late_method_kept lambdas_of lambdas_lawful s st n kind m body)

pub implied_law : ImpliedHold
implied_law st k h = leaves_hold st (implied st k) h (implied_one st k)

-- what is said of an answer is said of what it is
on_ok : {A : Type 0} (P : A → Type 0) (r : Result A ElabFault) (a : A) → r ≡ Ok a → On P r → P a
on_ok {A = A} P r a e h = subst (λ (x : Result A ElabFault). On P x) e h

pub classes_law : ClassesHold
classes_law s st at kids home b r d h n e f g i j =
    let x = on_ok (IsBegun st true) (begun st.ctx at home.name true) b e (begun_from st at home.name true n) in
    let y : State = record st { ctx = b.ctx } in
    let w = on_ok (IsWholeBase b.ctx.classes) (base_named s b.ctx kids) home.base f (base_whole s b.ctx kids (x.from.types h.types)) in
    let o : IsOpen b.ctx.classes home.number = subst (λ (k : ℕ). IsOpen b.ctx.classes k) (sym g) (x.unclosed h.types refl) in
    let z = on_ok (Read home.number y) (members_of s home (record { state = y; members = []; initialised = [] }) (members_among kids)) r i
    (members_read s y home (members_among kids) o (x.from.types h.types)) in
    let l = on_ok (λ (c : Ctx). From y (record r.state { ctx = c })) (closed_class at home.number (completed r.state.ctx home at r.members r.initialised)) d j
    (brace_leaves y home at r z n w.0 w.1) in
    gone y (record r.state { ctx = d }) (gone st y h x.from) l

pub specials_law : SpecialsHold
specials_law c h = record { destructors = h.destructors }

-- Which functions override

leaves_override : (st : State) (r : Result State ElabFault) → On (Leaves st) r → On (Overrides st) r
leaves_override st r h = weaken (Leaves st) (Overrides st) r (λ y g. g.overrides) h

pub starts_override : StartsOverride
starts_override w source k n f e c = let x = builtins_free [] k f e n c in let z : None ≡ Some x.class = x.at in absurd cc

pub lambdas_override : LambdasOverride
lambdas_override s st e = leaves_override st (lambdas_of s st e) (lambdas_lawful.each s st e)

pub operands_override : OperandsOverride
operands_override s st e = weaken (λ (f : Full). Leaves st f.state) (λ (f : Full). Overrides st f.state) (full_operand lambdas_of s st e) (λ f g. g.overrides)
    (full_kept lambdas_of lambdas_lawful s st e)

pub statements_override : StatementsOverride
statements_override s st ts = weaken (Ends st) (λ (d : Done). Overrides st d.state) (statements_of lambdas_of s st ts) (λ d g. g.overrides)
    (statements_kept lambdas_of lambdas_lawful s st ts)

pub variables_override : VariablesOverride
variables_override s st x at ts = leaves_override st (file_declaration s st x at ts) (declaration_kept s st x at ts)

pub functions_override : FunctionsOverride
functions_override s st x at first r body = leaves_override st (defined_with s st x at first r body (form_in r.typ))
    (with_kept s st x at first r body (form_in r.typ))

pub outside_override : OutsideOverride
outside_override s st n kind first m body = leaves_override st (outside_body lambdas_of s st n kind first m body)
    (body_kept lambdas_of lambdas_lawful s st n kind first m body)

pub defaults_override : MemberDefaultsOverride
defaults_override s st n i t e = leaves_override st (default_made lambdas_of s st n i t e) (default_kept lambdas_of lambdas_lawful s st n i t e)

pub methods_override : MethodsOverride
methods_override s st n kind m body = leaves_override st (late_method lambdas_of s st n kind m body)
    (late_method_kept lambdas_of lambdas_lawful s st n kind m body)

pub implied_override : ImpliedOverride
implied_override st k = leaves_override st (implied st k) (implied_one st k)

same_ctx : (t : Result Bool ElabFault) (b : Bool) (c d : Ctx) (e : ElabFault) → and_then t (λ z. if b then Ok c else Err e) ≡ Ok d → c ≡ d
same_ctx (Ok z) true c d e h = cc
same_ctx (Ok z) false c d e h = absurd cc
same_ctx (Err f) b c d e h = absurd cc

pub classes_override : ClassesOverride
classes_override w at home r d e h = subst (λ (c : Ctx). HasOverridersBy w c.funcs)
    (same_ctx _ (nat_le (class_extent (completed r.state.ctx home at r.members r.initialised).classes home.number).size GREATEST_SIZE) _ d _ e)
    (overriders_closed w r.state.ctx.funcs (completed r.state.ctx home at r.members r.initialised).funcs home.number
    (closing r.state.ctx home at r.members r.initialised).added h)
