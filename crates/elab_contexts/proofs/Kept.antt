-- What holds of the classes and functions of a unit holds behind each step.
use Rattle.std.proofs.Common.{◌≡◌, refl, sym, ap, ◌∙◌, subst, ℕ, zero, suc, Bool, true, false, List, [], ◌∷◌, ◌++◌, length, slice_get, Option, Some, None}
use Rattle.std.proofs.Common.{is_some, arith, option_and_then}
use Rattle.std.specs.Prelude.{slice_set, unwrap_or, if◌then◌else◌, not, ◌&&◌, ◌||◌}
use Rattle.std.proofs.lemmas.List.{length-append, length-set}
use Rattle.elab_rules.specs.cpp_types.Class.{Class, Member, Function, completion_of, held}
use Rattle.elab_rules.specs.cpp_tree.Typing.{is_reference}
use Rattle.elab_rules.specs.elab_ctx.Ctx.{Ctx, Func, absent, trivial, function, Traits, Capture}
use Rattle.elab_rules.specs.Objects.{no_traits}
use Rattle.elab_rules.specs.Classes.{class_named, completed}
use Rattle.elab_rules.specs.Lambdas.{with_closure, closure_traits, call_func, capture_members, all_captured, copied_and_left}
use Rattle.elab_rules.specs.Objects.{traits_at}
use Rattle.elab_rules.specs.Initialising.{signature_result}
use Rattle.elab_rules.specs.Types.{Parameter}
use Rattle.elab_rules.specs.cpp_tree.Rows.{signature_words}
use Rattle.elab_rules.specs.cpp_tree.declared.kinds.Builtin.{Builtin}
use Rattle.std.proofs.Common.{◌+◌}
use Rattle.std.proofs.lemmas.Option.{same_Some}
use Rattle.elab_rules.specs.cpp_tree.declared.program.FuncKind.TheVariants.{ClosureCall}
use Rattle.elab_contexts.specs.Steps.{View, view, Step, function_added, function_defined, class_begun, class_completed, closure_added, FunctionAdded}
use Rattle.elab_contexts.specs.Steps.{FunctionDefined, ClassNamed, ClassCompleted, ClosureAdded, SameFunction, IsOpen, IsWhole, IsBase, IsMember}
use Rattle.elab_contexts.specs.Slots.{HasSlotsIn}
use Rattle.elab_contexts.specs.Texts.{is_no_name}
use Rattle.elab_contexts.proofs.Slots.{slots_added, slots_defined, slots_named, slots_closed, slots_closure}
use Rattle.elab_contexts.specs.Holding.{is_object_member, IsRecorded, of_unit}
use Rattle.elab_contexts.proofs.Lists.{one_more, one_set}
use Rattle.elab_contexts.proofs.Found.{At, Stay, stay, stay_added, stay_set, at_still, at_the_end}
use Rattle.elab_contexts.proofs.Makers.{IsDestructor, IsCopy, IsDefault, destructor_respects, copy_respects, default_respects, Proper, AllProper, Closing, closing}
use Rattle.elab_contexts.proofs.Captures.{AllWhole}
use Rattle.elab_contexts.proofs.Order.{Ordered, ordered_next, ordered_named, ordered_set}
use Rattle.elab_contexts.proofs.Sized.{Sized, AllSized, sized_added, sized_set}
use Rattle.elab_contexts.proofs.Owned.{AllPlain, plain_added, plain_set}
use Rattle.elab_contexts.proofs.Owned.{IsTidy, AllTidy, complete_tidy, no_name_false, OwnedBy, AllOwned, open_owned, owned_same, owned_added, owned_set}
use Rattle.elab_contexts.proofs.Owned.{AllRecorded, all_recorded_still, recorded_added, recorded_set}

-- Traits, class by class

abbrev pub traits_in : List Traits → ℕ → Traits
traits_in ts n = unwrap_or (slice_get ts n) no_traits

pub record Makes (fs : List Func) (n : ℕ) (t : Traits) : Type 0 where
  pub destructor : (k : ℕ) → t.destructor ≡ function k → At (IsDestructor n) fs k
  pub copy : (k : ℕ) → t.copy ≡ function k → At (IsCopy n) fs k
  pub default : (k : ℕ) → t.default ≡ function k → At (IsDefault n) fs k

makes_still : (old new : List Func) (n : ℕ) (t : Traits) → Stay old new → Makes old n t → Makes new n t
makes_still old new n t s m = record {
  destructor = λ k e. at_still (IsDestructor n) (destructor_respects n) old new s k (m.destructor k e);
  copy = λ k e. at_still (IsCopy n) (copy_respects n) old new s k (m.copy k e);
  default = λ k e. at_still (IsDefault n) (default_respects n) old new s k (m.default k e);
}

pub makes_nothing : (fs : List Func) (n : ℕ) → Makes fs n no_traits
makes_nothing fs n = record { destructor = λ k e. absurd cc; copy = λ k e. absurd cc; default = λ k e. absurd cc }

traits_more : (Q : ℕ → Traits → Type 0) (ts : List Traits) (t : Traits) → ((n : ℕ) → Q n (traits_in ts n)) → Q (length ts) t → (n : ℕ)
    → Q n (traits_in (ts ++ t ∷ []) n)
traits_more Q [] t h q zero = q
traits_more Q [] t h q (suc n) = h (suc n)
traits_more Q (u ∷ ts) t h q zero = h zero
traits_more Q (u ∷ ts) t h q (suc n) = traits_more (λ (m : ℕ). Q (suc m)) ts t (λ m. h (suc m)) q n

traits_set : (Q : ℕ → Traits → Type 0) (ts : List Traits) (m : ℕ) (t : Traits) → ((n : ℕ) → Q n (traits_in ts n)) → Q m t → (n : ℕ)
    → Q n (traits_in (slice_set ts m t) n)
traits_set Q [] m t h q n = h n
traits_set Q (u ∷ ts) zero t h q zero = q
traits_set Q (u ∷ ts) zero t h q (suc n) = h (suc n)
traits_set Q (u ∷ ts) (suc m) t h q zero = h zero
traits_set Q (u ∷ ts) (suc m) t h q (suc n) = traits_set (λ (k : ℕ). Q (suc k)) ts m t (λ k. h (suc k)) q n

-- Classes that are not complete

abbrev pub Bare : List Class → List Traits → Type 0
Bare cs ts = (n : ℕ) → completion_of cs n ≡ None → traits_in ts n ≡ no_traits

abbrev is_done : Class → Bool
is_done c = is_some c.complete

no_number : (c : Class) (A : Type 0) → is_done c ≡ true → c.complete ≡ None → A
no_number c A h e = by c.complete h e
  where
    by : (o : Option ℕ) → is_some o ≡ true → o ≡ None → A
    by None h e = absurd cc
    by (Some k) h e = absurd cc

bare_named : (cs : List Class) (ts : List Traits) (c : Class) → Bare cs ts → length ts ≡ length cs → Bare (cs ++ c ∷ []) (ts ++ no_traits ∷ [])
bare_named [] [] c h l zero e = refl
bare_named [] [] c h l (suc n) e = refl
bare_named [] (t ∷ ts) c h l n e = absurd (omega (arith, l))
bare_named (d ∷ cs) [] c h l n e = absurd (omega (arith, l))
bare_named (d ∷ cs) (t ∷ ts) c h l zero e = h zero e
bare_named (d ∷ cs) (t ∷ ts) c h l (suc n) e = bare_named cs ts c (λ m. h (suc m)) (omega (arith, l)) n e

bare_more : (cs : List Class) (ts : List Traits) (c : Class) (t : Traits) → is_done c ≡ true → Bare cs ts → length ts ≡ length cs
    → Bare (cs ++ c ∷ []) (ts ++ t ∷ [])
bare_more [] [] c t q h l zero e = no_number c (t ≡ no_traits) q e
bare_more [] [] c t q h l (suc n) e = refl
bare_more [] (u ∷ ts) c t q h l n e = absurd (omega (arith, l))
bare_more (d ∷ cs) [] c t q h l n e = absurd (omega (arith, l))
bare_more (d ∷ cs) (u ∷ ts) c t q h l zero e = h zero e
bare_more (d ∷ cs) (u ∷ ts) c t q h l (suc n) e = bare_more cs ts c t q (λ m. h (suc m)) (omega (arith, l)) n e

bare_set : (cs : List Class) (ts : List Traits) (m : ℕ) (c : Class) (t : Traits) → is_done c ≡ true → Bare cs ts → length ts ≡ length cs
    → Bare (slice_set cs m c) (slice_set ts m t)
bare_set [] [] m c t q h l n e = refl
bare_set [] (u ∷ ts) m c t q h l n e = absurd (omega (arith, l))
bare_set (d ∷ cs) [] m c t q h l n e = absurd (omega (arith, l))
bare_set (d ∷ cs) (u ∷ ts) zero c t q h l zero e = no_number c (t ≡ no_traits) q e
bare_set (d ∷ cs) (u ∷ ts) zero c t q h l (suc n) e = h (suc n) e
bare_set (d ∷ cs) (u ∷ ts) (suc m) c t q h l zero e = h zero e
bare_set (d ∷ cs) (u ∷ ts) (suc m) c t q h l (suc n) e = bare_set cs ts m c t q (λ k. h (suc k)) (omega (arith, l)) n e

-- Members

abbrev pub ObjectMembers : Class → Type 0
ObjectMembers k = (i : ℕ) (m : Member) → slice_get k.members i ≡ Some m → is_object_member k m ≡ true

abbrev pub AllObjects : List Class → Type 0
AllObjects cs = (n : ℕ) (k : Class) → slice_get cs n ≡ Some k → ObjectMembers k

object_anyway : (b r : Bool) → r ≡ false → (b || not r) ≡ true
object_anyway true r e = refl
object_anyway false false e = refl
object_anyway false true e = absurd cc

nameless : (xs : List Capture) (i : ℕ) (m : Member) → slice_get (capture_members xs) i ≡ Some m → (is_no_name m.name || not (is_reference m.typ)) ≡ true
nameless [] i m h = absurd cc
nameless (x ∷ xs) zero m h = subst (λ (y : Member). (is_no_name y.name || not (is_reference y.typ)) ≡ true) (same_Some _ m h) refl
nameless (x ∷ xs) (suc i) m h = nameless xs i m h

captures_whole : (cs : List Class) (xs : List Capture) → ((i : ℕ) (x : Capture) → slice_get xs i ≡ Some x → IsWhole cs (held x.typ)) → (i : ℕ) (m : Member)
    → slice_get (capture_members xs) i ≡ Some m → IsWhole cs (held m.typ)
captures_whole cs [] w i m e = absurd cc
captures_whole cs (x ∷ xs) w zero m e = subst (λ (y : Member). IsWhole cs (held y.typ)) (same_Some _ m e) (w zero x refl)
captures_whole cs (x ∷ xs) w (suc i) m e = captures_whole cs xs (λ j y f. w (suc j) y f) i m e

-- Units

pub record Holds (v : View) : Type 0 where
  pub many : length v.traits ≡ length v.classes
  pub makes : (n : ℕ) → Makes v.funcs n (traits_in v.traits n)
  pub bare : Bare v.classes v.traits
  pub proper : AllProper v.funcs
  pub objects : AllObjects v.classes
  pub ordered : Ordered v.classes
  pub sized : AllSized v.classes
  pub tidy : AllTidy v.classes
  pub plain : AllPlain v.classes
  pub owned : AllOwned v.classes v.funcs
  pub recorded : AllRecorded v.classes v.funcs
  pub slotted : HasSlotsIn v

no_builtin : (o : Option Builtin) (b : Builtin) (A : Type 0) → o ≡ None → o ≡ Some b → A
no_builtin None b A e f = absurd cc
no_builtin (Some d) b A e f = absurd cc

proper_same : (f g : Func) → SameFunction f g → Proper f → Proper g
proper_same f g s p = record {
  known = λ b e. let k = p.known b (sym s.builtin ∙ e) in record {
    words = ap (λ (x : Function). signature_words None x.signature) s.declared ∙ k.words;
    result = ap (λ (x : Function). signature_result x.signature) s.declared ∙ k.result;
    free = s.class ∙ k.free;
  };
  free = λ e. s.kind ∙ p.free (sym s.class ∙ e);
}

added_kept : (a b : View) → FunctionAdded a b → Holds a → Holds b
added_kept a b s h = subst Holds (sym s.is) (record {
  many = h.many;
  makes = λ n. makes_still a.funcs (a.funcs ++ s.func ∷ []) n (traits_in a.traits n) (stay_added a.funcs s.func) (h.makes n);
  bare = h.bare;
  proper = one_more Proper a.funcs s.func h.proper (record { known = λ b e. no_builtin s.func.builtin b _ s.unknown e; free = s.free });
  objects = h.objects;
  ordered = h.ordered;
  sized = h.sized;
  tidy = h.tidy;
  plain = h.plain;
  owned = one_more (OwnedBy a.classes) a.funcs s.func h.owned (λ n e. open_owned a.classes n s.func h.tidy (s.unclosed n e));
  recorded = all_recorded_still a.classes a.funcs (a.funcs ++ s.func ∷ []) (stay_added a.funcs s.func) h.recorded;
  slotted = slots_added a s.func s.unclosed s.fresh h.slotted;
})

defined_kept : (a b : View) → FunctionDefined a b → Holds a → Holds b
defined_kept a b s h = subst Holds (sym s.is) (record {
  many = h.many;
  makes = λ n. makes_still a.funcs (slice_set a.funcs s.place s.func) n (traits_in a.traits n) (stay_set a.funcs s.place s.func s.same) (h.makes n);
  bare = h.bare;
  proper = one_set Proper a.funcs s.place s.func h.proper (λ f e. proper_same f s.func (s.same f e) (h.proper s.place f e));
  objects = h.objects;
  ordered = h.ordered;
  sized = h.sized;
  tidy = h.tidy;
  plain = h.plain;
  owned = one_set (OwnedBy a.classes) a.funcs s.place s.func h.owned (λ f e. owned_same a.classes f s.func (s.same f e) (h.owned s.place f e));
  recorded = all_recorded_still a.classes a.funcs (slice_set a.funcs s.place s.func) (stay_set a.funcs s.place s.func s.same) h.recorded;
  slotted = slots_defined a s.place s.func s.same (stay_set a.funcs s.place s.func s.same) h.slotted;
})

named_kept : (a b : View) → ClassNamed a b → Holds a → Holds b
named_kept a b s h = subst Holds (sym s.is) (record {
  many = length-append a.traits (no_traits ∷ []) ∙ ap (λ (n : ℕ). n + 1) h.many ∙ sym (length-append a.classes _);
  makes = traits_more (λ (n : ℕ) (t : Traits). Makes a.funcs n t) a.traits no_traits h.makes (makes_nothing a.funcs (length a.traits));
  bare = bare_named a.classes a.traits (class_named s.name None false [] [] None) h.bare h.many;
  proper = h.proper;
  objects = one_more ObjectMembers a.classes (class_named s.name None false [] [] None) h.objects (λ i m e. absurd cc);
  ordered = ordered_named a.classes (class_named s.name None false [] [] None) refl h.ordered;
  sized = sized_added a.classes (class_named s.name None false [] [] None) h.ordered (λ e. absurd cc) h.sized;
  tidy = one_more IsTidy a.classes (class_named s.name None false [] [] None) h.tidy
      (record { based = λ b e. absurd cc; nameless = λ e. no_name_false (is_no_name s.name) _ s.named e });
  plain = plain_added a.classes (class_named s.name None false [] [] None) (record { base = λ b e. absurd cc; members = λ q i m e. absurd cc }) h.plain;
  owned = owned_added a.classes (class_named s.name None false [] [] None) a.funcs h.owned;
  recorded = recorded_added a.classes (class_named s.name None false [] [] None) a.funcs a.funcs (stay a.funcs) (λ i g e. absurd cc) h.recorded;
  slotted = slots_named a (a.traits ++ no_traits ∷ []) (class_named s.name None false [] [] None) refl h.slotted;
})

incomplete_is : (cs : List Class) (n : ℕ) → IsOpen cs n → completion_of cs n ≡ None
incomplete_is cs n w = ap (λ (o : Option Class). option_and_then (λ (c : Class). c.complete) o) w.at ∙ w.incomplete

closed_kept : (c : Ctx) (n : ℕ) (name : List ℕ) (base : Option ℕ) (ms : List Member) (d : Ctx) → Closing c n name base ms d → IsOpen c.classes n
    → is_no_name name ≡ false → Sized d.classes n → IsWhole c.classes base → IsBase c.classes base → ((i : ℕ) (m : Member) → slice_get ms i ≡ Some m → IsMember c.classes m) → Holds (view c) → Holds (view d)
closed_kept c n name base ms d x w q large b f o h = record {
  many = ap length x.traits ∙ length-set c.traits n x.own ∙ h.many ∙ sym (length-set c.classes n x.class) ∙ sym (ap length x.classes);
  makes = subst (λ (ts : List Traits). (m : ℕ) → Makes d.funcs m (traits_in ts m)) (sym x.traits)
      (traits_set (λ (m : ℕ) (t : Traits). Makes d.funcs m t) c.traits n x.own
      (λ m. makes_still c.funcs d.funcs m (traits_in c.traits m) x.stays (h.makes m))
      (record { destructor = λ k e. x.destructor k e; copy = λ k e. x.copy k e; default = λ k e. x.default k e }));
  bare = subst (λ (ts : List Traits). Bare d.classes ts) (sym x.traits)
      (subst (λ (cs : List Class). Bare cs (slice_set c.traits n x.own)) (sym x.classes)
      (bare_set c.classes c.traits n x.class x.own (ap is_some x.closed.complete) h.bare h.many));
  proper = x.proper h.proper;
  objects = subst AllObjects (sym x.classes) (one_set ObjectMembers c.classes n x.class h.objects
      (λ k e i m q. object_anyway (is_no_name x.class.name && is_no_name m.name) (is_reference m.typ) (are i m q).object));
  ordered = subst Ordered (sym x.classes) (ordered_set c.classes n x.class z (record {
    number = x.closed.complete;
    base = subst (λ (y : Option ℕ). IsWhole c.classes y) (sym x.closed.base) b;
    members = λ i m q. (are i m q).whole;
  }) h.ordered);
  sized = subst AllSized (sym x.classes)
      (sized_set c.classes n x.class h.ordered z (subst (λ (cs : List Class). Sized cs n) x.classes large) h.sized);
  tidy = subst AllTidy (sym x.classes)
      (one_set IsTidy c.classes n x.class h.tidy (λ k e. complete_tidy x.class (ap is_some x.closed.complete)));
  plain = subst AllPlain (sym x.classes) (plain_set c.classes n x.class (ap is_no_name x.closed.name ∙ q) (record {
    base = λ k e. f k (sym x.closed.base ∙ e);
    members = λ v i m e. (are i m e).written;
  }) h.plain);
  owned = subst (λ (cs : List Class). AllOwned cs d.funcs) (sym x.classes)
      (owned_set c.classes n x.class c.funcs d.funcs (ap is_no_name x.closed.name ∙ q) w x.added h.owned);
  recorded = subst (λ (cs : List Class). AllRecorded cs d.funcs) (sym x.classes)
      (recorded_set c.classes n x.class c.funcs d.funcs x.stays x.methods h.recorded);
  slotted = slots_closed c n name base ms d x w h.slotted;
}
  where
    z : completion_of c.classes n ≡ None
    z = incomplete_is c.classes n w

    are : (i : ℕ) (m : Member) → slice_get x.class.members i ≡ Some m → IsMember c.classes m
    are i m q = o i m (ap (λ (ys : List Member). slice_get ys i) (sym x.closed.members) ∙ q)

abbrev MembersOf : List Member → View → Type 0
MembersOf ms v = (i : ℕ) (m : Member) → slice_get ms i ≡ Some m → IsMember v.classes m

completed_kept : (a b : View) → ClassCompleted a b → Holds a → Holds b
completed_kept a b s h = subst Holds (sym s.is)
    (closed_kept s.ctx s.home.number s.home.name s.home.base s.members (completed s.ctx s.home s.at s.members s.initialised)
    (closing s.ctx s.home s.at s.members s.initialised) (subst (λ (v : View). IsOpen v.classes s.home.number) (sym s.before) s.unclosed) s.named
    (subst (λ (v : View). Sized v.classes s.home.number) s.is s.sized)
    (subst (λ (v : View). IsWhole v.classes s.home.base) (sym s.before) s.based)
    (subst (λ (v : View). IsBase v.classes s.home.base) (sym s.before) s.base) (subst (MembersOf s.members) (sym s.before) s.are)
    (subst Holds (sym s.before) h))

trivial_or_not : (b : Bool) (k : ℕ) (A : Type 0) → (if b then trivial else absent) ≡ function k → A
trivial_or_not true k A e = absurd cc
trivial_or_not false k A e = absurd cc

-- the call of a lambda
closure_owned : (cs : List Class) (c : Class) (f : Func) → f.kind ≡ ClosureCall → f.class ≡ Some (length cs) → OwnedBy (cs ++ c ∷ []) f
closure_owned cs c f k e n q = record {
  class = c;
  at = subst (λ (i : ℕ). slice_get (cs ++ c ∷ []) i ≡ Some c) (same_Some (length cs) n (sym e ∙ q)) (at_the_end cs c);
  call = λ z. k;
}

call_recorded : (cs : List Class) (fs : List Func) (f : Func) (n : ℕ) → f.class ≡ Some n → (g : Function) → f.declared ≡ g → (i : ℕ) (h : Function)
    → slice_get (g ∷ []) i ≡ Some h → IsRecorded cs (fs ++ f ∷ []) n h
call_recorded cs fs f n c g d zero h e = of_unit (length fs) f (at_the_end fs f) c (d ∙ same_Some g h e)
call_recorded cs fs f n c g d (suc i) h e = absurd cc

closure_from : (c : Ctx) (xs : List Capture) (g : Function) (ps : List Parameter) (closed : ℕ) → AllWhole c xs
    → Sized (with_closure c xs g ps closed).classes (length c.classes) → Holds (view c) → Holds (view (with_closure c xs g ps closed))
closure_from c xs g ps closed w z h =
    let f : Func = record (call_func (length c.classes) g ps) { closed_at = closed } in
    let t : Traits = closure_traits c xs in
    record {
      many = length-append c.traits (t ∷ []) ∙ ap (λ (n : ℕ). n + 1) h.many ∙ sym (length-append c.classes _);
      makes = traits_more (λ (n : ℕ) (t : Traits). Makes (c.funcs ++ f ∷ []) n t) c.traits t
          (λ n. makes_still c.funcs (c.funcs ++ f ∷ []) n (traits_in c.traits n) (stay_added c.funcs f) (h.makes n))
          (record {
            destructor = λ k e. absurd cc;
            copy = λ k e. trivial_or_not (all_captured (λ n. copied_and_left (traits_at c n)) xs) k _ e;
            default = λ k e. absurd cc;
          });
      bare = bare_more c.classes c.traits _ t refl h.bare h.many;
      proper = one_more Proper c.funcs f h.proper (record { known = λ b e. absurd cc; free = λ e. absurd cc });
      objects = one_more ObjectMembers c.classes _ h.objects (nameless xs);
      ordered = ordered_next c.classes _ (record {
        number = refl;
        base = λ n e. absurd cc;
        members = captures_whole c.classes xs w;
      }) h.ordered;
      sized = sized_added c.classes _ h.ordered (λ e. z) h.sized;
      tidy = one_more IsTidy c.classes _ h.tidy (complete_tidy _ refl);
      plain = plain_added c.classes _ (record { base = λ b e. absurd cc; members = λ q i m e. absurd cc }) h.plain;
      owned = one_more (OwnedBy (with_closure c xs g ps closed).classes) c.funcs f (owned_added c.classes _ c.funcs h.owned)
          (closure_owned c.classes _ f refl refl);
      recorded = recorded_added c.classes _ c.funcs (c.funcs ++ f ∷ []) (stay_added c.funcs f) (call_recorded (with_closure c xs g ps closed).classes
          c.funcs f (length c.classes) refl g refl) h.recorded;
      slotted = slots_closure (view c) (c.traits ++ t ∷ []) _ f refl (λ j n g e q. ap is_some (h.owned j g e n q).at) h.slotted;
    }

closure_kept : (a b : View) → ClosureAdded a b → Holds a → Holds b
closure_kept a b s h = subst Holds (sym s.is)
    (closure_from s.ctx s.captures s.declared s.params s.closed
    (subst (λ (v : View). (i : ℕ) (x : Capture) → slice_get s.captures i ≡ Some x → IsWhole v.classes (held x.typ)) (sym s.before) s.whole)
    (subst (λ (v : View). Sized (with_closure s.ctx s.captures s.declared s.params s.closed).classes (length v.classes)) (sym s.before)
    (subst (λ (v : View). Sized v.classes (length a.classes)) s.is s.sized))
    (subst Holds (sym s.before) h))

pub each_kept : (a b : View) → Step a b → Holds a → Holds b
each_kept a b (function_added s) h = added_kept a b s h
each_kept a b (function_defined s) h = defined_kept a b s h
each_kept a b (class_begun s) h = named_kept a b s h
each_kept a b (class_completed s) h = completed_kept a b s h
each_kept a b (closure_added s) h = closure_kept a b s h
