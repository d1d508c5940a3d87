-- What a name stands for.
use Rattle.std.proofs.Common.{◌≡◌, ◌<◌, refl, sym, ap, ◌∙◌, subst, ℕ, zero, suc, Bool, true, false, ◌&&◌, List, [], ◌∷◌, Option, Some, None, Result, slice_get}
use Rattle.std.proofs.Common.{arith}
use Rattle.std.specs.Prelude.{if◌then◌else◌, not, is_some}
use Rattle.std.specs.Option.{option_or}
use Rattle.std.specs.Str.{bytes_eq}
use Rattle.std.proofs.lemmas.Slice.Eq.{bytes_eq-Decides}
use Rattle.elab_rules.specs.cpp_types.Typ.{Typ, typ, Form, void, int, enum, null, ptr, ref, array, func, class, closure, tx_ex}
use Rattle.elab_rules.specs.cpp_types.Conversion.{referred}
use Rattle.elab_rules.specs.cpp_types.declared.classes.At.{At}
use Rattle.elab_rules.specs.cpp_names.Names.{Names, entity_of, found_in}
use Rattle.elab_rules.specs.cpp_names.declared.entity.Entity.{Entity}
use Rattle.elab_rules.specs.cpp_names.declared.entity.EntityKind.{EntityKind}
use Rattle.elab_rules.specs.cpp_names.declared.entity.EntityKind.TheVariants as entities
use Rattle.elab_rules.specs.cpp_tree.declared.faults.ElabFault.{ElabFault}
use Rattle.elab_rules.specs.cpp_tree.declared.faults.IllRule.TheVariants.{UnknownName, BadInit, OutOfProfile, Capture as CaptureRule}
use Rattle.elab_rules.specs.cpp_types.declared.ranks.Cat.TheVariants.{Lvalue}
use Rattle.elab_rules.specs.cpp_tree.declared.kinds.TKind.TheVariants.{Local}
use Rattle.elab_rules.specs.cpp_tree.Trees.{Tree, node, none, typ_in}
use Rattle.elab_rules.specs.cpp_tree.Typing.{form_in, is_class_typ}
use Rattle.elab_rules.specs.elab_ctx.Ctx.{Ctx, Work, Lambda, This}
use Rattle.elab_rules.specs.elab_ctx.Steps.{and_then, Typed, at_of, spelling}
use Rattle.elab_rules.specs.Initialising.{func_at, places_from}
use Rattle.elab_rules.specs.Names as rules
use Rattle.elab_rules.specs.Names.{captured_from, in_capture, Found, field, methods, member_of, target_of, implicit_member, this_tree, is_local_entity}
use Rattle.elab_rules.specs.Names.{is_pointer, item_at, variable_tree, variable_in, is_local, of_entity, held_by, functions, is_outer, is_free, only_function}
use Rattle.elab_rules.specs.Names.{resolved_function, global_tree, enumerator_tree, member_here}
use Rattle.elab_rules.specs.Types.{type_named}
use Rattle.elab_rules.specs.Values.{retyped}
use Rattle.elab_rules.specs.Expressions.{a_tree, operand_at, chosen_operand, scope_name, enumerator_named, qualified_name}
use Rattle.elab_laws.specs.Reading.{On, IsLvalue}
use Rattle.elab_laws.specs.Naming.{IsFirst, StandsFor, OfVariable, OfGlobal, OfEnumerator, OfFunction, OfCapture, captured_type, OfOwn, own_field}
use Rattle.elab_laws.specs.Naming.{own_functions, ThroughThis, Captures, OwnMembers, QualifiedEnumerators, Innermost, Hides, OthersStay, GivesBack, Variables}
use Rattle.elab_laws.specs.Naming.{Globals, Enumerators, Functions}
use Rattle.elab_laws.proofs.Reading.{bind, after, expected, checked, tree_in}

-- The first that is known

abbrev pub first_of : {A B : Type 0} → (A → Option B) → List A → Option B
first_of known [] = None
first_of known (x ∷ xs) = option_or (known x) (first_of known xs)

some_same : {A : Type 0} (x y : A) → Some x ≡ Some y → x ≡ y
some_same x y h = cc

none_to : {A B : Type 0} (known : A → Option B) (x : A) (xs : List A) (n : ℕ) → known x ≡ None
    → ((j : ℕ) (y : A) → j < n → slice_get xs j ≡ Some y → known y ≡ None) → (j : ℕ) (y : A) → j < suc n → slice_get (x ∷ xs) j ≡ Some y → known y ≡ None
none_to known x xs n h k zero y l g = subst (λ z. known z ≡ None) (some_same x y g) h
none_to known x xs n h k (suc j) y l g = k j y (omega arith) g

before : {A B : Type 0} (known : A → Option B) (x : A) (xs : List A) (b : B) → known x ≡ None → IsFirst known xs b → IsFirst known (x ∷ xs) b
before known x xs b h r = record {
  place = suc r.place;
  first = r.first;
  there = r.there;
  is_known = r.is_known;
  none_before = none_to known x xs r.place h r.none_before;
}

first_step : {A B : Type 0} (known : A → Option B) (x : A) (xs : List A) (b : B) → (first_of known xs ≡ Some b → IsFirst known xs b) → (o : Option B)
    → known x ≡ o → option_or o (first_of known xs) ≡ Some b → IsFirst known (x ∷ xs) b
first_step known x xs b k (Some a) e h = record { place = 0; first = x; there = refl; is_known = e ∙ h; none_before = λ j y l g. absurd (omega arith) }
first_step known x xs b k None e h = before known x xs b e (k h)

pub first_is : {A B : Type 0} (known : A → Option B) (xs : List A) (b : B) → first_of known xs ≡ Some b → IsFirst known xs b
first_is known [] b h = absurd cc
first_is known (x ∷ xs) b h = first_step known x xs b (λ i. first_is known xs b i) (known x) refl h

at_place : {A B : Type 0} (known : A → Option B) (xs : List A) (b : B) (n : ℕ) (y : A) → slice_get xs n ≡ Some y → known y ≡ Some b
    → ((j : ℕ) (x : A) → j < n → slice_get xs j ≡ Some x → known x ≡ None) → first_of known xs ≡ Some b
at_place known [] b n y g h k = absurd cc
at_place known (x ∷ xs) b zero y g h k = let e : known x ≡ Some b = ap known (some_same x y g) ∙ h in rw e refl
at_place known (x ∷ xs) b (suc n) y g h k = let e : known x ≡ None = k 0 x (omega arith) refl in
    rw e (at_place known xs b n y g h (λ j z l i. k (suc j) z (omega arith) i))

pub first_from : {A B : Type 0} (known : A → Option B) (xs : List A) (b : B) → IsFirst known xs b → first_of known xs ≡ Some b
first_from known xs b r = at_place known xs b r.place r.first r.there r.is_known r.none_before

-- Scopes

found_is : (scopes : List Names) (name : List ℕ) → found_in scopes name ≡ first_of (λ (scope : Names). entity_of scope name) scopes
found_is [] name = refl
found_is (scope ∷ scopes) name = ap (option_or (entity_of scope name)) (found_is scopes name)

found_from : (scopes : List Names) (name : List ℕ) (e : Entity) → StandsFor scopes name e → found_in scopes name ≡ Some e
found_from scopes name e r = found_is scopes name ∙ first_from (λ (scope : Names). entity_of scope name) scopes e r

pub innermost_law : Innermost
innermost_law scopes name e = (
  (λ h. first_is (λ (scope : Names). entity_of scope name) scopes e (sym (found_is scopes name) ∙ h)),
  (λ r. found_from scopes name e r),
)

itself : (name : List ℕ) → bytes_eq name name ≡ true
itself name = (bytes_eq-Decides name name).1 refl

pub hides_law : Hides
hides_law scopes name e = rw (itself name) refl

pub others_stay_law : OthersStay
others_stay_law scopes name other e h = rw h refl

pub gives_back_law : GivesBack
gives_back_law scopes name e = refl

-- What the expression is

either_lvalue : (b : Bool) (t : Typ) (x y : Tree) → IsLvalue t x → IsLvalue t y → IsLvalue t (if b then x else y)
either_lvalue true t x y h k = h
either_lvalue false t x y h k = k

plain_variable : (at : At) (place : ℕ) (item t : Typ)
    → IsLvalue t (if is_class_typ t && is_pointer item then held_by t item at place else node (Local place) t Lvalue at none)
plain_variable at place item t = either_lvalue (is_class_typ t && is_pointer item) t (held_by t item at place) (node (Local place) t Lvalue at none)
    (record { has_type = refl; category = refl }) (record { has_type = refl; category = refl })

variable_is : (at : At) (place : ℕ) (item t : Typ) → IsLvalue (referred t) (variable_tree at place item t)
variable_is at place item (typ (ref t) c v) = record { has_type = refl; category = refl }
variable_is at place item t = plain_variable at place item t

variable_law : (c : Ctx) (w : Work) (at : At) (i : ℕ) (l : Option Lambda) → l ≡ None → On (OfVariable c i) (variable_in c w at i l)
variable_law c w at i (Some l) h = absurd cc
variable_law c w at i None h = expected (OfVariable c i) at UnknownName (slice_get c.variables i) _
    (λ v e. expected (OfVariable c i) at BadInit v.typ _
    (λ t f. record { variable = v; there = e; typ = t; is_known = f; result = variable_is at v.place (item_at w v.place t) t }))

-- what the name stands for, where the scopes decide
local_named : (P : Tree → Type 0) (c : Ctx) (w : Work) (at : At) (name : List ℕ) (e : Entity) (kind : EntityKind) → StandsFor c.scopes name e → e.kind ≡ kind
    → is_local kind ≡ true → On P (of_entity c w at kind e.id) → On P (rules.named c w at name)
local_named P c w at name e kind r h i g = let f : found_in c.scopes name ≡ Some e = found_from c.scopes name e r in rw (f, h, i) g

file_named : (P : Tree → Type 0) (c : Ctx) (w : Work) (at : At) (name : List ℕ) (e : Entity) (kind : EntityKind) → StandsFor c.scopes name e → e.kind ≡ kind
    → is_local kind ≡ false → member_here c name c.class ≡ None → On P (of_entity c w at kind e.id) → On P (rules.named c w at name)
file_named P c w at name e kind r h i m g = let f : found_in c.scopes name ≡ Some e = found_from c.scopes name e r in rw (f, h, i, m) g

pub variables_law : Variables
variables_law s c w p t e r h i = tree_in (OfVariable c e.id) (at_of p) w (rules.named c w (at_of p) (spelling s t))
    (local_named (OfVariable c e.id) c w (at_of p) (spelling s t) e entities.Local r h refl (variable_law c w (at_of p) e.id (is_outer e.id c.lambda) i))

global_law : (w : Work) (at : At) (i : ℕ) → On (OfGlobal w i) (global_tree w at i)
global_law w at i = expected (OfGlobal w i) at UnknownName (slice_get w.globals i) _
    (λ g e. record { global = g; there = e; result = record { has_type = refl; category = refl } })

pub globals_law : Globals
globals_law s c w p t e r h m = tree_in (OfGlobal w e.id) (at_of p) w (rules.named c w (at_of p) (spelling s t))
    (file_named (OfGlobal w e.id) c w (at_of p) (spelling s t) e entities.Global r h refl m (global_law w (at_of p) e.id))

enumerator_law : (c : Ctx) (at : At) (i : ℕ) → On (OfEnumerator c i) (enumerator_tree c at i)
enumerator_law c at i = expected (OfEnumerator c i) at UnknownName (slice_get c.enumerators i) _
    (λ g e. record { enumerator = g; there = e; value = refl; result = record { has_type = refl; category = refl } })

pub enumerators_law : Enumerators
enumerators_law s c w p t e r h m = tree_in (OfEnumerator c e.id) (at_of p) w (rules.named c w (at_of p) (spelling s t))
    (file_named (OfEnumerator c e.id) c w (at_of p) (spelling s t) e entities.Enumerator r h refl m (enumerator_law c (at_of p) e.id))

file_is : (c : Ctx) (w : Work) (at : At) (name : List ℕ) (e : Entity) (kind : EntityKind) → StandsFor c.scopes name e → e.kind ≡ kind → is_local kind ≡ false
    → member_here c name c.class ≡ None → rules.named c w at name ≡ of_entity c w at kind e.id
file_is c w at name e kind r h i m = let f : found_in c.scopes name ≡ Some e = found_from c.scopes name e r in rw (f, h, i, m) refl

only_law : (c : Ctx) (at : At) (k : ℕ) (places : List ℕ) → places_from (is_free (func_at c.funcs k).declared.name) 0 c.funcs ≡ places
    → On (OfFunction c k) (only_function c at k places)
only_law c at k [] h = tt
only_law c at k (i ∷ []) h = checked (OfFunction c k) at OutOfProfile (not (is_some (func_at c.funcs i).builtin)) _
    (λ z. record { place = i; only = h; is = refl; result = record { has_type = refl; category = refl } })
only_law c at k (i ∷ j ∷ places) h = tt

chosen_function : (c : Ctx) (w : Work) (at : At) (k : ℕ)
    → On (λ (r : Typed). OfFunction c k r.operand.tree) (chosen_operand c (operand_at at (record { tree = functions k at none; work = w })))
chosen_function c w at k = bind (OfFunction c k) (λ (r : Typed). OfFunction c k r.operand.tree) (resolved_function c at k none) _
    (only_law c at k (places_from (is_free (func_at c.funcs k).declared.name) 0 c.funcs) refl) (λ e g. g)

pub functions_law : Functions
functions_law s c w p t e r h m = subst (λ (z : Result Tree ElabFault). On (λ (r : Typed). OfFunction c e.id r.operand.tree)
    (and_then (a_tree (at_of p) w z) (chosen_operand c))) (sym (file_is c w (at_of p) (spelling s t) e entities.Funcs r h refl m))
    (chosen_function c w (at_of p) e.id)

-- Captures

captured_is : (c : Ctx) (at : At) (this : This) (l : Lambda) (i : ℕ) (u : Typ) → IsLvalue (captured_type this u) (in_capture c at this l i u)
captured_is c at this l i (typ (ref t) d v) = record { has_type = refl; category = refl }
captured_is c at this l i u = record { has_type = refl; category = refl }

capture_law : (c : Ctx) (w : Work) (at : At) (i : ℕ) (l : Lambda) (o : Option Lambda) → o ≡ Some l → On (OfCapture c l i) (variable_in c w at i o)
capture_law c w at i l None h = absurd cc
capture_law c w at i l (Some m) h = let e : m ≡ l = cc in
    rw e (expected (OfCapture c l i) at CaptureRule (captured_from 0 (Some i) l.captures) _
    (λ x f. expected (OfCapture c l i) at UnknownName c.this _
    (λ y g. record { captured = x; there = f; this = y; this_is = g; result = captured_is c at y l x.index x.capture.typ })))

pub captures_law : Captures
captures_law s c w p t e l r h i = tree_in (OfCapture c l e.id) (at_of p) w (rules.named c w (at_of p) (spelling s t))
    (local_named (OfCapture c l e.id) c w (at_of p) (spelling s t) e entities.Local r h refl (capture_law c w (at_of p) e.id l (is_outer e.id c.lambda) i))

-- Members of the class at hand

own_law : (c : Ctx) (at : At) (object : Typ) (pointer : Tree) (f : Found) → OfOwn object (member_of c at (retyped at object Lvalue pointer) f) f
own_law c at object pointer (field n i t) = own_field n i t (record { has_type = refl; category = refl })
own_law c at object pointer (methods k) = own_functions k refl

target_is : (f : Form) (t : Typ) → target_of f ≡ Some t → f ≡ ptr t
target_is (ptr u) t h = cc
target_is void t h = absurd cc
target_is (int j) t h = absurd cc
target_is (enum n s) t h = absurd cc
target_is null t h = absurd cc
target_is (ref u) t h = absurd cc
target_is (array u n) t h = absurd cc
target_is (func s) t h = absurd cc
target_is (class n) t h = absurd cc
target_is (closure n) t h = absurd cc
target_is (tx_ex u) t h = absurd cc

implicit_law : (c : Ctx) (at : At) (f : Found) → On (ThroughThis c at f) (implicit_member c at f)
implicit_law c at f = after (ThroughThis c at f) (this_tree c at) _
    (λ q h. expected (ThroughThis c at f) at UnknownName (target_of (form_in (typ_in q))) _
    (λ t i. record { pointer = q; pointer_is = h; object = t; points = target_is (form_in (typ_in q)) t i; member = own_law c at t q f }))

own_named : (P : Tree → Type 0) (c : Ctx) (w : Work) (at : At) (name : List ℕ) (f : Found) → is_local_entity (found_in c.scopes name) ≡ false
    → member_here c name c.class ≡ Some f → On P (implicit_member c at f) → On P (rules.named c w at name)
own_named P c w at name f h m g = rw (h, m) g

pub own_members_law : OwnMembers
own_members_law s c w p t f h m = tree_in (ThroughThis c (at_of p) f) (at_of p) w (rules.named c w (at_of p) (spelling s t))
    (own_named (ThroughThis c (at_of p) f) c w (at_of p) (spelling s t) f h m (implicit_law c (at_of p) f))

-- `E::N`

of_found : (c : Ctx) (w : Work) (at : At) (scopes : List Names) (name : List ℕ) (e : Entity) → StandsFor scopes name e → e.kind ≡ entities.Enumerator
    → On (OfEnumerator c e.id) (enumerator_named c w at (found_in scopes name))
of_found c w at scopes name e r h = let f : found_in scopes name ≡ Some e = found_from scopes name e r in rw (f, h) (enumerator_law c at e.id)

qualified_law : (c : Ctx) (w : Work) (at : At) (owner member name : List ℕ) (scoped d v : Bool) (e : Entity)
    → type_named owner c.types ≡ Some (typ (enum name scoped) d v)
    → On (OfEnumerator c e.id) (enumerator_named c w at (found_in c.scopes (scope_name name member)))
    → On (OfEnumerator c e.id) (qualified_name c w at owner member)
qualified_law c w at owner member name scoped d v e y g = rw y g

pub qualified_enumerators_law : QualifiedEnumerators
qualified_enumerators_law s c w p q n t kind kids name scoped d v e y r h =
    tree_in (OfEnumerator c e.id) (at_of p) w (qualified_name c w (at_of p) (spelling s t) (spelling s n))
    (qualified_law c w (at_of p) (spelling s t) (spelling s n) name scoped d v e y (of_found c w (at_of p) c.scopes (scope_name name (spelling s n)) e r h))
