-- Types of variables, and what elaboration has checked of them.
use Rattle.std.proofs.Common.{◌≡◌, refl, ap, ◌∙◌, subst, ℕ, zero, suc, Bool, true, false, not, nat_lt, nat_le, ◌&&◌, ◌||◌, cond, List, [], ◌∷◌, slice_get, Option, Some, None, is_some, arith}
use Rattle.std.proofs.Common.{Result, Ok, Err, if◌then◌else◌}
use Rattle.std.specs.List.{list_all}
use Rattle.std.proofs.lemmas.Bool.{and_parts, lt-ltb}
use Rattle.std.proofs.lemmas.Option.{same_Some}
use Rattle.elab_rules.specs.cpp_types.Typ.{Typ, typ, void, int, enum, null, ptr, ref, array, func, class, closure, tx_ex}
use Rattle.elab_rules.specs.cpp_types.Class.{Class, completion_of, held, held_form}
use Rattle.elab_rules.specs.cpp_types.Order.{each_passes}
use Rattle.elab_rules.specs.cpp_types.declared.classes.At.{At}
use Rattle.elab_rules.specs.cpp_lex.Tokens.{Lexeme}
use Rattle.elab_rules.specs.cpp_ast.declared.kinds.NodeKind.TheVariants as k
use Rattle.elab_rules.specs.cpp_ast.Trees as syntax
use Rattle.elab_rules.specs.cpp_layout.declared.extents.TheConstants.{GREATEST_SIZE}
use Rattle.elab_rules.specs.cpp_tree.declared.faults.ElabFault.{ElabFault}
use Rattle.elab_rules.specs.cpp_tree.declared.faults.ElabFault.TheVariants.{Limit}
use Rattle.elab_rules.specs.cpp_tree.declared.faults.LimitKind.TheVariants.{Size}
use Rattle.elab_rules.specs.cpp_tree.declared.faults.IllRule.{IllRule}
use Rattle.elab_rules.specs.cpp_tree.declared.faults.IllRule.TheVariants.{Incomplete, AbstractObject}
use Rattle.elab_rules.specs.cpp_tree.Notation.{plain}
use Rattle.elab_rules.specs.cpp_tree.Typing.{form_in, is_class_typ, qualified}
use Rattle.elab_rules.specs.cpp_tree.Parts.{size_in, holds_complete}
use Rattle.elab_rules.specs.cpp_tree.Rows.{Setting}
use Rattle.elab_rules.specs.elab_ctx.Ctx.{Ctx, Work}
use Rattle.elab_rules.specs.elab_ctx.Steps.{and_then, check, expect, Operand, Made}
use Rattle.elab_rules.specs.Objects.{is_array, element_of, size_of, traits_at}
use Rattle.elab_rules.specs.Operators.{is_complete, is_sized, within_if_sized}
use Rattle.elab_rules.specs.Braces.{string_token}
use Rattle.elab_rules.specs.Initialising.{makeable}
use Rattle.elab_rules.specs.Types.{is_bounded, is_nothing}
use Rattle.elab_rules.specs.Statements.{State, declarable, closed_bound, bound_by_initialiser, count, string_length, copy_initialised}
use Rattle.elab_fits.specs.Objects.{is_ready, is_closure, has_lambdas}
use Rattle.elab_fits.proofs.Nodes.{both, clash}
use Rattle.elab_fits_objects.specs.Contexts.{IsParameter, IsInitialised, IsObjectTyp, refers}
use Rattle.elab_fits_objects.proofs.Types.{ready_more}
use Rattle.elab_fits_forms.specs.Context.{Holds}
use Rattle.elab_fits_forms.specs.Types as forms
use Rattle.elab_fits_forms.proofs.Sources as sources
use Rattle.elab_fits_forms.proofs.Types.{target_no_void}
use Rattle.elab_fits_forms.proofs.Wholes.{exception_whole}
use Rattle.elab_sound_types.specs.Types.{Use, target, object, variable, denoted, may_be_array, is_positive, is_sound}
use Rattle.setting_growth.specs.Growth.{HeldEarlier}
use Rattle.setting_growth.proofs.Sizes.{size_still}
use Rattle.elab_sound_types.specs.Contexts.{HasSoundTypes, member_use, is_sound_member, has_sound_members}
use Rattle.elab_fits_items.specs.Items.{MembersSingle}
use Rattle.elab_fits_states.specs.States.{IsVariableType}
use Rattle.elab_holds.proofs.Sound.{form_sound, typ_sound, declared_sound}

-- Sizes

cond_is : (b : Bool) (x : Option ℕ) → is_some (cond b x None) ≡ true → b ≡ true
cond_is true x h = refl
cond_is false x h = absurd cc

pub sized_complete : (classes : List Class) (t : Typ) → is_some (size_in classes t) ≡ true → holds_complete classes (form_in t) ≡ true
sized_complete classes t h = cond_is (holds_complete classes (form_in t)) _ h

within : (b c : Bool) (n : ℕ) → b ≡ true → c ≡ true → is_some (cond b (cond c (Some n) None) None) ≡ true
within true true n h e = refl
within true false n h e = absurd cc
within false c n h e = absurd cc

abbrev limited : List Class → Typ → Bool
limited classes t = nat_le (size_of classes t) GREATEST_SIZE

sized_by : (classes : List Class) (t : Typ) → holds_complete classes (form_in t) ≡ true → limited classes t ≡ true → is_some (size_in classes t) ≡ true
sized_by classes t h i = within (holds_complete classes (form_in t)) (limited classes t) (size_of classes t) h i

-- Types of variables in a context that holds

-- objects of the type can be variables
pub record Declares (c : Ctx) (t : Typ) : Type 0 where
  pub declared : forms.is_declared c.classes t ≡ true
  pub initialised : IsInitialised c (forms.is_lambda c.classes) t
  pub ready : is_ready c.classes true t ≡ true
  pub single : has_lambdas t ≡ false

qualified_closure : (c v : Bool) (t : Typ) → is_closure (form_in (qualified c v t)) ≡ is_closure (form_in t)
qualified_closure c v (typ void d w) = refl
qualified_closure c v (typ (int k) d w) = refl
qualified_closure c v (typ (enum n s) d w) = refl
qualified_closure c v (typ null d w) = refl
qualified_closure c v (typ (ptr t) d w) = refl
qualified_closure c v (typ (ref t) d w) = refl
qualified_closure c v (typ (array t n) d w) = refl
qualified_closure c v (typ (func s) d w) = refl
qualified_closure c v (typ (class n) d w) = refl
qualified_closure c v (typ (closure n) d w) = refl
qualified_closure c v (typ (tx_ex t) d w) = refl

element_no_lambda : (classes : List Class) (t : Typ) → is_sound classes object t ≡ true → is_closure (form_in (element_of t)) ≡ false
element_no_lambda classes (typ (array e n) c v) h = let a = and_parts (may_be_array object n) (not (c || v) && is_sound classes object e) h in
    qualified_closure c v (element_of e) ∙ element_no_lambda classes e (and_parts (not (c || v)) (is_sound classes object e) a.1).1
element_no_lambda classes (typ void c v) h = absurd cc
element_no_lambda classes (typ (int k) c v) h = refl
element_no_lambda classes (typ (enum n s) c v) h = refl
element_no_lambda classes (typ null c v) h = refl
element_no_lambda classes (typ (ptr t) c v) h = refl
element_no_lambda classes (typ (ref t) c v) h = absurd cc
element_no_lambda classes (typ (func s) c v) h = absurd cc
element_no_lambda classes (typ (class n) c v) h = refl
element_no_lambda classes (typ (closure n) c v) h = absurd cc
element_no_lambda classes (typ (tx_ex t) c v) h = refl

-- a type that is sound, however it is used, is no array of lambdas' objects
pub single_typ : (classes : List Class) (way : Use) (t : Typ) → is_sound classes way t ≡ true → has_lambdas t ≡ false
single_typ classes way (typ (array e n) c v) h = let a = and_parts (may_be_array way n) (not (c || v) && is_sound classes object e) h in
    qualified_closure c v (element_of e) ∙ element_no_lambda classes e (and_parts (not (c || v)) (is_sound classes object e) a.1).1
single_typ classes way (typ void c v) h = refl
single_typ classes way (typ (int k) c v) h = refl
single_typ classes way (typ (enum n s) c v) h = refl
single_typ classes way (typ null c v) h = refl
single_typ classes way (typ (ptr t) c v) h = refl
single_typ classes way (typ (ref t) c v) h = refl
single_typ classes way (typ (func s) c v) h = refl
single_typ classes way (typ (class n) c v) h = refl
single_typ classes way (typ (closure n) c v) h = refl
single_typ classes way (typ (tx_ex t) c v) h = refl

all_at : {A : Type 0} (p : A → Bool) (xs : List A) (i : ℕ) (x : A) → list_all p xs ≡ true → slice_get xs i ≡ Some x → p x ≡ true
all_at p [] i x h e = absurd cc
all_at p (y ∷ ys) zero x h e = subst (λ z. p z ≡ true) (same_Some y x e) (and_parts (p y) (list_all p ys) h).0
all_at p (y ∷ ys) (suc i) x h e = all_at p ys i x (and_parts (p y) (list_all p ys) h).1 e

pub members_single : (c : Ctx) (w : Work) → HasSoundTypes c w → MembersSingle c
members_single c w h n i k m e g d = single_typ c.classes (member_use (is_nothing m.name)) m.typ
    (all_at (is_sound_member c.classes) k.members i m (all_at (has_sound_members c.classes) c.classes n k h.members e) g)

positive : (n : ℕ) → is_positive n ≡ true → nat_lt 0 n ≡ true
positive zero h = absurd cc
positive (suc n) h = lt-ltb 0 (suc n) (omega arith)

module _ (s : Setting) (c : Ctx) (w : Work) (h : Holds s c w) where
  ready_object : (t : Typ) → is_sound c.classes object t ≡ true → holds_complete c.classes (form_in t) ≡ true → is_ready c.classes false t ≡ true
  ready_object (typ void q v) i k = absurd cc
  ready_object (typ (int j) q v) i k = refl
  ready_object (typ (enum n b) q v) i k = refl
  ready_object (typ null q v) i k = refl
  ready_object (typ (ptr t) q v) i k = refl
  ready_object (typ (ref t) q v) i k = absurd cc
  ready_object (typ (array (typ f d y) n) q v) i k = let a = and_parts (is_positive n) (not (q || v) && is_sound c.classes object (typ f d y)) i in
      let b = and_parts (not (q || v)) (is_sound c.classes object (typ f d y)) a.1 in both b.0 (both (positive n a.0) (ready_object (typ f d y) b.1 k))
  ready_object (typ (func g) q v) i k = absurd cc
  ready_object (typ (class n) q v) i k = ((h.complete n k).whole (class n) q v refl (form_sound c.classes object (q || v) (class n) i)).ready
  ready_object (typ (closure n) q v) i k = absurd cc
  ready_object (typ (tx_ex t) q v) i k = (exception_whole s c w t q v h (form_sound c.classes object (q || v) (tx_ex t) i)).ready

  scalar_declares : (t : Typ) → forms.is_declared c.classes t ≡ true → IsParameter c (forms.is_lambda c.classes) t
      → IsObjectTyp c (forms.is_lambda c.classes) t → is_ready c.classes true t ≡ true → has_lambdas t ≡ false → Declares c t
  scalar_declares t d p o r n = record { declared = d; initialised = record { value = λ e. p; object = λ e. o }; ready = r; single = n }

  class_declares : (t : Typ) → is_sound c.classes variable t ≡ true → forms.is_parameter c.classes t ≡ true → is_class_typ t ≡ true → forms.IsWhole c.classes t
      → has_lambdas t ≡ false → Declares c t
  class_declares t i p k o n = record {
    declared = declared_sound c.classes variable t refl i;
    initialised = record {
      value = λ e. sources.parameter_is s c w t h p;
      object = λ e. sources.object_typ_is s c w t h (typ_sound c.classes variable t i) k;
    };
    ready = ready_more c.classes (is_closure (form_in t)) t o.ready;
    single = n;
  }

  pub declares : (t : Typ) → is_sound c.classes variable t ≡ true → is_some (size_in c.classes t) ≡ true → Declares c t
  declares (typ void q v) i z = absurd cc
  declares (typ (func g) q v) i z = absurd cc
  declares (typ (int j) q v) i z = scalar_declares (typ (int j) q v) refl (sources.parameter_is s c w (typ (int j) q v) h refl)
      (record { sorted = refl; whole = λ n. both z refl; complete = λ n. refl }) refl refl
  declares (typ (enum n b) q v) i z = scalar_declares (typ (enum n b) q v) refl (sources.parameter_is s c w (typ (enum n b) q v) h refl)
      (record { sorted = refl; whole = λ n. both z refl; complete = λ n. refl }) refl refl
  declares (typ null q v) i z = scalar_declares (typ null q v) refl (sources.parameter_is s c w (typ null q v) h refl)
      (record { sorted = refl; whole = λ n. both z refl; complete = λ n. refl }) refl refl
  declares (typ (ptr t) q v) i z = let d = declared_sound c.classes variable (typ (ptr t) q v) refl i in
      scalar_declares (typ (ptr t) q v) d (sources.parameter_is s c w (typ (ptr t) q v) h d)
      (record { sorted = refl; whole = λ n. both z refl; complete = λ n. refl }) refl refl
  declares (typ (ref t) q v) i z = let d = declared_sound c.classes variable (typ (ref t) q v) refl i in record {
    declared = d;
    initialised = record {
      value = λ e. sources.parameter_is s c w (typ (ref t) q v) h d;
      object = λ e. clash _ (refers (ref t)) e (ap not (target_no_void c.classes t d));
    };
    ready = (and_parts (not (q || v)) (is_sound c.classes target t) i).0;
    single = refl;
  }
  declares (typ (array (typ f d y) n) q v) i z = let e = typ f d y in
      let a = and_parts (is_positive n) (not (q || v) && is_sound c.classes object (typ f d y)) i in
      let b = and_parts (not (q || v)) (is_sound c.classes object (typ f d y)) a.1 in
      let k = sized_complete c.classes (typ (array (typ f d y) n) q v) z in
      let r : is_ready c.classes false (typ (array (typ f d y) n) q v) ≡ true = both b.0 (both (positive n a.0) (ready_object (typ f d y) b.1 k)) in record {
        declared = declared_sound c.classes variable (typ (array (typ f d y) n) q v) refl i;
        initialised = record {
          value = λ e. absurd cc;
          object = λ e. record { sorted = refl; whole = λ x. both z r; complete = λ x. k };
        };
        ready = ready_more c.classes false (typ (array (typ f d y) n) q v) r;
        single = single_typ c.classes variable (typ (array (typ f d y) n) q v) i;
      }
  declares (typ (class n) q v) i z = let x = form_sound c.classes variable (q || v) (class n) i in
      class_declares (typ (class n) q v) i x refl ((h.complete n (sized_complete c.classes (typ (class n) q v) z)).whole (class n) q v refl x) refl
  declares (typ (closure n) q v) i z = let x = form_sound c.classes variable (q || v) (closure n) i in
      class_declares (typ (closure n) q v) i x refl ((h.complete n (h.lambdas n x)).whole (closure n) q v refl x) refl
  declares (typ (tx_ex t) q v) i z = let x = form_sound c.classes variable (q || v) (tx_ex t) i in
      class_declares (typ (tx_ex t) q v) i x refl (exception_whole s c w t q v h x) refl

  number_sized : (j : Typ) → forms.is_exception_value c.classes j ≡ true → is_some (size_in c.classes (typ (tx_ex j) false false)) ≡ true
  number_sized j e = (exception_whole s c w j false false h e).sized

  -- of a type that is no array, objects have a size where its class is complete
  pub sized : (t : Typ) → is_sound c.classes variable t ≡ true → is_array t ≡ false
      → ((n : ℕ) → form_in t ≡ class n → is_some (completion_of c.classes n) ≡ true) → is_some (size_in c.classes t) ≡ true
  sized (typ void q v) i n k = absurd cc
  sized (typ (func g) q v) i n k = absurd cc
  sized (typ (int j) q v) i n k = number_sized (plain (int j)) refl
  sized (typ (enum m b) q v) i n k = refl
  sized (typ null q v) i n k = refl
  sized (typ (ptr t) q v) i n k = refl
  sized (typ (ref t) q v) i n k = refl
  sized (typ (array e m) q v) i n k = absurd cc
  sized (typ (class m) q v) i n k = ((h.complete m (k m refl)).whole (class m) q v refl (form_sound c.classes variable (q || v) (class m) i)).sized
  sized (typ (closure m) q v) i n k = let x = form_sound c.classes variable (q || v) (closure m) i in
      ((h.complete m (h.lambdas m x)).whole (closure m) q v refl x).sized
  sized (typ (tx_ex t) q v) i n k = (exception_whole s c w t q v h (form_sound c.classes variable (q || v) (tx_ex t) i)).sized

-- a type of variables that has a size has one whatever is elaborated behind it
one_size : (o : Option ℕ) → is_some o ≡ true → (n : ℕ) × (o ≡ Some n)
one_size (Some n) h = (n, refl)
one_size None h = absurd cc

pub variable_type : (a : State) (t : Typ) → HeldEarlier a.ctx.classes → is_sound a.ctx.classes variable t ≡ true → is_some (size_in a.ctx.classes t) ≡ true
    → IsVariableType a t
variable_type a t o i z = record {
  sound = i;
  sized = λ b l. let n = one_size (size_in a.ctx.classes t) z in
      ap is_some (size_still a.ctx.classes b.ctx.classes l.goes.grows.unit.classes o t n.0 n.1);
}

-- What elaboration checks

checked_true : (at : At) (rule : IllRule) (c x : Bool) → check at rule c ≡ Ok x → c ≡ true
checked_true at rule true x h = refl
checked_true at rule false x h = absurd cc

-- a type that is written, of a declarator that is declarable and has a bound
pub variable_by : (c : Ctx) (at : At) (t : Typ) (x : Bool) → is_sound c.classes denoted t ≡ true → declarable c at t ≡ Ok x → is_bounded t ≡ true
    → is_sound c.classes variable t ≡ true
variable_by c at (typ void q v) x h d b = absurd cc
variable_by c at (typ (func g) q v) x h d b = absurd cc
variable_by c at (typ (int j) q v) x h d b = refl
variable_by c at (typ (enum n e) q v) x h d b = refl
variable_by c at (typ null q v) x h d b = refl
variable_by c at (typ (ptr t) q v) x h d b = h
variable_by c at (typ (ref t) q v) x h d b = h
variable_by c at (typ (array t zero) q v) x h d b = absurd cc
variable_by c at (typ (array t (suc n)) q v) x h d b = h
variable_by c at (typ (class n) q v) x h d b = h
variable_by c at (typ (closure n) q v) x h d b = absurd cc
variable_by c at (typ (tx_ex (typ f y z)) q v) x h d b = h

complete_by : (c : Ctx) (at : At) (t : Typ) (x : Bool) → is_sound c.classes variable t ≡ true → declarable c at t ≡ Ok x → is_complete c (held t) ≡ true
complete_by c at (typ void q v) x h d = absurd cc
complete_by c at (typ (func g) q v) x h d = absurd cc
complete_by c at (typ (int j) q v) x h d = refl
complete_by c at (typ (enum n e) q v) x h d = refl
complete_by c at (typ null q v) x h d = refl
complete_by c at (typ (ptr t) q v) x h d = refl
complete_by c at (typ (ref t) q v) x h d = refl
complete_by c at (typ (array t n) q v) x h d = checked_true at Incomplete (is_complete c (held (typ (array t n) q v))) x d
complete_by c at (typ (class n) q v) x h d = checked_true at Incomplete (is_complete c (held (typ (class n) q v))) x d
complete_by c at (typ (closure n) q v) x h d = checked_true at Incomplete (is_complete c (held (typ (closure n) q v))) x d
complete_by c at (typ (tx_ex t) q v) x h d = checked_true at Incomplete (is_complete c (held (typ (tx_ex t) q v))) x d

held_complete : (c : Ctx) (o : Option ℕ) → is_complete c o ≡ true → each_passes (λ (n : ℕ). is_some (completion_of c.classes n)) o ≡ true
held_complete c (Some n) h = h
held_complete c None h = refl

if_ok : (b : Bool) (e : ElabFault) (x : Bool) → ◌≡◌ {A = Result Bool ElabFault} (if b then Ok true else Err e) (Ok x) → b ≡ true
if_ok true e x h = refl
if_ok false e x h = absurd cc

or_second : (a b : Bool) → not a || b ≡ true → a ≡ true → b ≡ true
or_second true b h g = h
or_second false b h g = absurd cc

-- whose objects are no larger than the greatest
pub sized_if : (c : Ctx) (at : At) (t : Typ) (x z : Bool) → is_sound c.classes variable t ≡ true → declarable c at t ≡ Ok x → within_if_sized c at t ≡ Ok z
    → is_some (size_in c.classes t) ≡ true
sized_if c at t x z h d k = sized_by c.classes t (complete t (complete_by c at t x h d)) (or_second (is_sized c t) (limited c.classes t)
    (if_ok (not (is_sized c t) || limited c.classes t) (Limit at Size) z k) (is_object t h (complete_by c at t x h d)))
  where
    complete : (t : Typ) → is_complete c (held t) ≡ true → holds_complete c.classes (form_in t) ≡ true
    complete (typ f q v) i = held_complete c (held_form f) i

    is_object : (t : Typ) → is_sound c.classes variable t ≡ true → is_complete c (held t) ≡ true → is_sized c t ≡ true
    is_object (typ void q v) i e = absurd cc
    is_object (typ (func g) q v) i e = absurd cc
    is_object (typ (int j) q v) i e = refl
    is_object (typ (enum n b) q v) i e = refl
    is_object (typ null q v) i e = refl
    is_object (typ (ptr t) q v) i e = refl
    is_object (typ (ref t) q v) i e = refl
    is_object (typ (array t n) q v) i e = e
    is_object (typ (class n) q v) i e = e
    is_object (typ (closure n) q v) i e = e
    is_object (typ (tx_ex t) q v) i e = e

-- an array without a bound has that of its initialiser
closed : (classes : List Class) (m : ℕ) (t : Typ) → is_sound classes denoted t ≡ true → is_sound classes denoted (closed_bound m t) ≡ true
closed classes m (typ (array e zero) d v) h = h
closed classes m t h = h

pub bound_written : (classes : List Class) (s : List Lexeme) (t : Typ) (init : syntax.Trees) → is_sound classes denoted t ≡ true
    → is_sound classes denoted (bound_by_initialiser s t init) ≡ true
bound_written classes s t (syntax.more (syntax.node k.EqualInitializer p token
    (syntax.more (syntax.node k.BracedInitList q brace items) syntax.none)) syntax.none) h = closed classes (count items) t h
bound_written classes s t (syntax.more (syntax.node k.EqualInitializer p token (syntax.more e syntax.none)) syntax.none) h =
    closed classes (string_length s (string_token e)) t h
bound_written classes s t kids h = h

-- What is copied has no type of an array, and a complete class

pub copied_no_array : (c : Ctx) (w : Work) (t : Typ) (o : Operand) (m : Made) → copy_initialised c w t o ≡ Ok m → is_array t ≡ false
copied_no_array c w (typ (array e n) q v) o m h = absurd cc
copied_no_array c w (typ void q v) o m h = refl
copied_no_array c w (typ (int j) q v) o m h = refl
copied_no_array c w (typ (enum n b) q v) o m h = refl
copied_no_array c w (typ null q v) o m h = refl
copied_no_array c w (typ (ptr t) q v) o m h = refl
copied_no_array c w (typ (ref t) q v) o m h = refl
copied_no_array c w (typ (func g) q v) o m h = refl
copied_no_array c w (typ (class n) q v) o m h = refl
copied_no_array c w (typ (closure n) q v) o m h = refl
copied_no_array c w (typ (tx_ex t) q v) o m h = refl

expected_is : (o : Option ℕ) (at : At) (g : ℕ → Result ℕ ElabFault) (f : ℕ → Result Made ElabFault) (m : Made)
    → and_then (and_then (expect at Incomplete o) g) f ≡ Ok m → is_some o ≡ true
expected_is (Some i) at g f m h = refl
expected_is None at g f m h = absurd cc

made_complete : (c : Ctx) (at : At) (n : ℕ) (f : ℕ → Result Made ElabFault) (m : Made) → and_then (makeable c at n) f ≡ Ok m
    → is_some (completion_of c.classes n) ≡ true
made_complete c at n f m h = expected_is (completion_of c.classes n) at
    (λ (k : ℕ). and_then (check at AbstractObject (not (traits_at c n).is_abstract)) (λ y. Ok k)) f m h

pub copied_complete : (c : Ctx) (w : Work) (t : Typ) (o : Operand) (m : Made) → copy_initialised c w t o ≡ Ok m → (n : ℕ) → form_in t ≡ class n
    → is_some (completion_of c.classes n) ≡ true
copied_complete c w (typ (class i) q v) o m h n e = subst (λ (j : ℕ). is_some (completion_of c.classes j) ≡ true) (number i n e)
    (made_complete c o.at i _ m h)
  where
    number : (i n : ℕ) → class i ≡ class n → i ≡ n
    number i n e = cc
copied_complete c w (typ void q v) o m h n e = absurd cc
copied_complete c w (typ (int j) q v) o m h n e = absurd cc
copied_complete c w (typ (enum x b) q v) o m h n e = absurd cc
copied_complete c w (typ null q v) o m h n e = absurd cc
copied_complete c w (typ (ptr t) q v) o m h n e = absurd cc
copied_complete c w (typ (ref t) q v) o m h n e = absurd cc
copied_complete c w (typ (array t x) q v) o m h n e = absurd cc
copied_complete c w (typ (func g) q v) o m h n e = absurd cc
copied_complete c w (typ (closure x) q v) o m h n e = absurd cc
copied_complete c w (typ (tx_ex t) q v) o m h n e = absurd cc
