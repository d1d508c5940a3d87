-- What a name or a member means has the type of an expression, or is looked up and not yet chosen.
use Rattle.std.proofs.Common.{◌≡◌, refl, ap, ◌∙◌, sym, subst, ℕ, zero, suc, Bool, true, false, not, ◌||◌, nat_lt, List, [], ◌∷◌, Option, Some}
use Rattle.std.proofs.Common.{None, is_some, Result, Ok, Err, codes}
use Rattle.std.specs.Prelude.{if◌then◌else◌, slice_get, unwrap_or}
use Rattle.std.specs.List.{list_all}
use Rattle.std.specs.Str.{bytes_eq}
use Rattle.std.proofs.lemmas.Bool.{and_parts}
use Rattle.elab_rules.specs.cpp_types.Typ.{Typ, typ, Form, void, int, enum, null, ptr, ref, array, func, class, closure, tx_ex}
use Rattle.elab_rules.specs.cpp_types.Class.{Class, Member, completion_of}
use Rattle.elab_rules.specs.cpp_types.Conversion.{bases}
use Rattle.elab_rules.specs.cpp_types.declared.classes.At.{At}
use Rattle.elab_rules.specs.cpp_types.declared.ranks.Cat.TheVariants.{Lvalue, Prvalue}
use Rattle.elab_rules.specs.cpp_names.Names.{found_in}
use Rattle.elab_rules.specs.cpp_names.declared.entity.Entity.{Entity}
use Rattle.elab_rules.specs.cpp_names.declared.entity.EntityKind.{EntityKind}
use Rattle.elab_rules.specs.cpp_names.declared.entity.EntityKind.TheVariants as entities
use Rattle.elab_rules.specs.cpp_tree.declared.kinds.TKind.TheVariants.{Local, Function, Default, Builtin}
use Rattle.elab_rules.specs.cpp_tree.declared.faults.ElabFault.{ElabFault}
use Rattle.elab_rules.specs.cpp_tree.declared.faults.IllRule.TheVariants.{UnknownName, BadInit, Capture as CaptureRule, OutOfProfile, BadOperand, Incomplete}
use Rattle.elab_rules.specs.cpp_tree.declared.faults.IllRule.TheVariants.{NoMember}
use Rattle.elab_rules.specs.cpp_tree.Trees.{Tree, node, none, typ_in}
use Rattle.elab_rules.specs.cpp_tree.Typing.{form_in, qualified}
use Rattle.elab_rules.specs.elab_ctx.Ctx.{Ctx, Work, Func, Variable, This, Capture, Lambda}
use Rattle.elab_rules.specs.elab_ctx.Steps.{and_then, expect, check, Operand, Made}
use Rattle.elab_rules.specs.Values.{retyped, valued, part_at}
use Rattle.elab_rules.specs.Operators.{pointed}
use Rattle.elab_rules.specs.Types.{is_nothing}
use Rattle.elab_rules.specs.Initialising.{func_at, no_function, object_of, class_number, places_from}
use Rattle.elab_rules.specs.Names as names
use Rattle.elab_rules.specs.Names.{Found, field, methods, Captured, captured_from, or_else, field_from, members_in, own_member, found_along, first_place, functions}
use Rattle.elab_fits.specs.Standing.{On}
use Rattle.elab_fits.proofs.Steps.{bind, skip, expected, either_way as either}
use Rattle.elab_sound_types.specs.Types.{object, target, variable, is_sound, is_sound_signature, is_head, IsExpression, IsLookedUp, IsSoundTree, free}
use Rattle.elab_sound_types.specs.Types.{method, get, abort, expression, looked_up}
use Rattle.elab_sound_types.specs.Contexts.{HasSoundTypes, member_use, is_sound_member, has_sound_members, is_sound_function, is_number}
use Rattle.elab_sound_types.specs.Contexts.{is_sound_enumerator, is_sound_known, is_sound_variable, is_object_of_class, is_sound_this, is_sound_capture}
use Rattle.elab_sound_types.specs.Contexts.{are_sound_captures, is_sound_global}
use Rattle.elab_sound_types.proofs.Sound.{both, sound_as, object_target, qualified_object}
use Rattle.elab_sound_types.proofs.Trees.{some_same, tree_if, valued_sound, lvalue_retyped}
use Rattle.elab_sound_types.proofs.Initial.{object_sound}
use Rattle.elab_sound_types.proofs.Operators.{pointed_target}

-- Lists

-- what is true of all is true of each
pub at_place : {A : Type 0} (p : A → Bool) (xs : List A) (i : ℕ) (x : A) → list_all p xs ≡ true → slice_get xs i ≡ Some x → p x ≡ true
at_place p [] i x h e = absurd cc
at_place p (y ∷ ys) zero x h e = ap p (sym (some_same y x e)) ∙ (and_parts (p y) (list_all p ys) h).0
at_place p (y ∷ ys) (suc i) x h e = at_place p ys i x (and_parts (p y) (list_all p ys) h).1 e

-- what is asked of something that may not be there
abbrev pub IfThere : {A : Type 0} → (A → Type 0) → Option A → Type 0
IfThere P (Some x) = P x
IfThere P None = Unit {0}

pub if_there : {A : Type 0} (P : A → Type 0) (o : Option A) (x : A) → IfThere P o → o ≡ Some x → P x
if_there P o x h e = subst (λ (z : Option _). IfThere P z) e h

pub there_if : {A : Type 0} (P : A → Type 0) (b : Bool) (x y : Option A) → (b ≡ true → IfThere P x) → IfThere P y → IfThere P (if b then x else y)
there_if P true x y h g = h refl
there_if P false x y h g = g

-- Variables

class_tree : (cs : List Class) (b : Bool) (at : At) (place : ℕ) (item t : Typ) → is_sound cs target t ≡ true
    → IsExpression cs (if b then names.held_by t item at place else node (Local place) t Lvalue at none)
class_tree cs b at place item t h = tree_if (IsExpression cs) b _ _ (record { head = h; chosen = refl; written = refl })
    (record { head = h; chosen = refl; written = refl })

variable_tree : (cs : List Class) (at : At) (place : ℕ) (item t : Typ) → is_sound cs variable t ≡ true → IsExpression cs (names.variable_tree at place item t)
variable_tree cs at place item (typ (ref t) c v) h = record { head = (and_parts (not (c || v)) (is_sound cs target t) h).1; chosen = refl; written = refl }
variable_tree cs at place item (typ void c v) h = absurd cc
variable_tree cs at place item (typ (int k) c v) h = record { head = refl; chosen = refl; written = refl }
variable_tree cs at place item (typ (enum e s) c v) h = record { head = refl; chosen = refl; written = refl }
variable_tree cs at place item (typ null c v) h = record { head = refl; chosen = refl; written = refl }
variable_tree cs at place item (typ (ptr t) c v) h = record { head = h; chosen = refl; written = refl }
variable_tree cs at place item (typ (array t k) c v) h = record { head = h; chosen = refl; written = refl }
variable_tree cs at place item (typ (func s) c v) h = absurd cc
variable_tree cs at place item (typ (class k) c v) h = class_tree cs (names.is_pointer item) at place item (typ (class k) c v) h
variable_tree cs at place item (typ (closure k) c v) h = class_tree cs (names.is_pointer item) at place item (typ (closure k) c v) h
variable_tree cs at place item (typ (tx_ex (typ f d w)) c v) h = class_tree cs (names.is_pointer item) at place item (typ (tx_ex (typ f d w)) c v) h

pub known_sound : (cs : List Class) (o : Option Typ) (t : Typ) → is_sound_known cs o ≡ true → o ≡ Some t → is_sound cs variable t ≡ true
known_sound cs o t h e = subst (λ (z : Option Typ). is_sound_known cs z ≡ true) e h

own_variable : (cs : List Class) (w : Work) (at : At) (v : Variable) → is_sound_variable cs v ≡ true → On (IsExpression cs) (names.own_variable w at v)
own_variable cs w at v h = expected (IsExpression cs) at BadInit v.typ _ (λ t e. variable_tree cs at v.place (names.item_at w v.place t) t (known_sound cs v.typ t h e))

-- `this`

this_target : (cs : List Class) (t : Typ) → is_object_of_class cs (form_in t) ≡ true → is_sound cs target t ≡ true
this_target cs (typ (class k) c v) h = h
this_target cs (typ (closure k) c v) h = h
this_target cs (typ void c v) h = absurd cc
this_target cs (typ (int k) c v) h = absurd cc
this_target cs (typ (enum e s) c v) h = absurd cc
this_target cs (typ null c v) h = absurd cc
this_target cs (typ (ptr t) c v) h = absurd cc
this_target cs (typ (ref t) c v) h = absurd cc
this_target cs (typ (array t k) c v) h = absurd cc
this_target cs (typ (func s) c v) h = absurd cc
this_target cs (typ (tx_ex t) c v) h = absurd cc

pub this_object : (cs : List Class) (o : Option This) (t : This) → is_sound_this cs o ≡ true → o ≡ Some t → is_sound cs target t.typ ≡ true
this_object cs o t h e = this_target cs t.typ (subst (λ (z : Option This). is_sound_this cs z ≡ true) e h)

this_pointer : (cs : List Class) (at : At) (t : This) → is_sound cs target t.typ ≡ true → IsExpression cs (names.this_pointer at t)
this_pointer cs at t h = record { head = both h refl; chosen = refl; written = refl }

-- Captures

part_sound : (cs : List Class) (offset : ℕ) (t : Typ) (at : At) (e : Tree) → is_sound cs target t ≡ true → IsExpression cs (part_at offset t at e)
part_sound cs offset t at e h = record { head = h; chosen = refl; written = refl }

in_object : (cs : List Class) (offset : ℕ) (c v : Bool) (t : Typ) (at : At) (e : Tree) → is_sound cs object t ≡ true → IsExpression cs (part_at offset (qualified c v t) at e)
in_object cs offset c v t at e h = part_sound cs offset (qualified c v t) at e (sound_as cs object target (qualified c v t) object_target (qualified_object cs c v t h))

captured_tree : (cs : List Class) (c : Ctx) (at : At) (t : This) (l : Lambda) (i : ℕ) (u : Typ) → is_sound cs variable u ≡ true
    → IsExpression cs (names.in_capture c at t l i u)
captured_tree cs c at t l i (typ (ref u) d v) h = record { head = (and_parts (not (d || v)) (is_sound cs target u) h).1; chosen = refl; written = refl }
captured_tree cs c at t l i (typ void d v) h = absurd cc
captured_tree cs c at t l i (typ (int k) d v) h = in_object cs _ (names.is_const_typ t.typ) false (typ (int k) d v) at _ refl
captured_tree cs c at t l i (typ (enum e s) d v) h = in_object cs _ (names.is_const_typ t.typ) false (typ (enum e s) d v) at _ refl
captured_tree cs c at t l i (typ null d v) h = in_object cs _ (names.is_const_typ t.typ) false (typ null d v) at _ refl
captured_tree cs c at t l i (typ (ptr u) d v) h = in_object cs _ (names.is_const_typ t.typ) false (typ (ptr u) d v) at _ h
captured_tree cs c at t l i (typ (array u k) d v) h = in_object cs _ (names.is_const_typ t.typ) false (typ (array u k) d v) at _ h
captured_tree cs c at t l i (typ (func s) d v) h = absurd cc
captured_tree cs c at t l i (typ (class k) d v) h = in_object cs _ (names.is_const_typ t.typ) false (typ (class k) d v) at _ h
captured_tree cs c at t l i (typ (closure k) d v) h = part_sound cs _ (qualified (names.is_const_typ t.typ) false (typ (closure k) d v)) at _ h
captured_tree cs c at t l i (typ (tx_ex (typ f x y)) d v) h = in_object cs _ (names.is_const_typ t.typ) false (typ (tx_ex (typ f x y)) d v) at _ h

abbrev CapturedSound : List Class → Captured → Type 0
CapturedSound cs x = is_sound cs variable x.capture.typ ≡ true

captured_sound : (cs : List Class) (i : ℕ) (o : Option ℕ) (xs : List Capture) → list_all (is_sound_capture cs) xs ≡ true → IfThere (CapturedSound cs) (captured_from i o xs)
captured_sound cs i o [] h = tt
captured_sound cs i o (x ∷ xs) h = let p = and_parts (is_sound_capture cs x) (list_all (is_sound_capture cs) xs) h in
    there_if (CapturedSound cs) (names.same_variable o x.variable) _ _ (λ e. p.0) (captured_sound cs (suc i) o xs p.1)

-- what is made has a sound type, or is looked up and not yet chosen
abbrev pub SoundMade : List Class → Made → Type 0
SoundMade cs m = IsSoundTree cs m.tree

-- Of a context with sound types

module _ (c : Ctx) (w : Work) (h : HasSoundTypes c w) where
  abbrev cs : List Class
  cs = c.classes

  captured_variable : (at : At) (o : Option ℕ) (l : Lambda) (f : Tree → Tree) → list_all (is_sound_capture cs) l.captures ≡ true
      → ((e : Tree) → IsExpression cs e → IsExpression cs (f e))
      → On (IsExpression cs) (and_then (expect at CaptureRule (captured_from 0 o l.captures))
      (λ (x : Captured). and_then (expect at UnknownName c.this) (λ (t : This). Ok (f (names.captured_tree c at t l x)))))
  captured_variable at o l f g k = expected (IsExpression cs) at CaptureRule (captured_from 0 o l.captures) _ (λ x e.
      expected (IsExpression cs) at UnknownName c.this _ (λ t i. k (names.captured_tree c at t l x) (captured_tree cs c at t l x.index x.capture.typ
      (if_there (CapturedSound cs) (captured_from 0 o l.captures) x (captured_sound cs 0 o l.captures g) e))))

  variable_in : (at : At) (i : ℕ) (o : Option Lambda) → are_sound_captures cs o ≡ true → On (IsExpression cs) (names.variable_in c w at i o)
  variable_in at i (Some l) g = captured_variable at (Some i) l (λ e. e) g (λ e k. k)
  variable_in at i None g = expected (IsExpression cs) at UnknownName (slice_get c.variables i) _
      (λ v e. own_variable cs w at v (at_place (is_sound_variable cs) c.variables i v h.variables e))

  is_outer : (i : ℕ) (o : Option Lambda) → are_sound_captures cs o ≡ true → are_sound_captures cs (names.is_outer i o) ≡ true
  is_outer i None g = refl
  is_outer i (Some l) g = outer_if (nat_lt i l.outer)
    where
      outer_if : (b : Bool) → are_sound_captures cs (if b then Some l else None) ≡ true
      outer_if true = g
      outer_if false = refl

  this_in : (at : At) (o : Option Lambda) → are_sound_captures cs o ≡ true → On (IsExpression cs) (names.this_in c at o)
  this_in at None g = expected (IsExpression cs) at UnknownName c.this _ (λ t e. this_pointer cs at t (this_object cs c.this t h.this e))
  this_in at (Some l) g = captured_variable at None l (valued at) g (λ e k. valued_sound cs at e k)

  pub this_tree : (at : At) → On (IsExpression cs) (names.this_tree c at)
  this_tree at = this_in at c.lambda h.captures

  -- Members

  abbrev FoundSound : Found → Type 0
  FoundSound (field m i t) = is_sound cs object t ≡ true
  FoundSound (methods k) = Unit {0}

  named_member : (m : Member) (name : List ℕ) → bytes_eq m.name name ≡ true → is_nothing name ≡ false → is_sound_member cs m ≡ true
      → is_sound cs object m.typ ≡ true
  named_member m name e i g = member_by m.name e g
    where
      member_by : (x : List ℕ) → bytes_eq x name ≡ true → is_sound cs (member_use (is_nothing x)) m.typ ≡ true → is_sound cs object m.typ ≡ true
      member_by (b ∷ x) e g = g
      member_by [] e g = nameless name e i
        where
          nameless : (y : List ℕ) → bytes_eq [] y ≡ true → is_nothing y ≡ false → is_sound cs object m.typ ≡ true
          nameless [] e i = absurd cc
          nameless (b ∷ y) e i = absurd cc

  field_sound : (k i : ℕ) (name : List ℕ) (ms : List Member) → is_nothing name ≡ false → list_all (is_sound_member cs) ms ≡ true
      → IfThere FoundSound (field_from k i name ms)
  field_sound k i name [] e g = tt
  field_sound k i name (m ∷ ms) e g = let p = and_parts (is_sound_member cs m) (list_all (is_sound_member cs) ms) g in
      there_if FoundSound (bytes_eq m.name name) _ _ (λ x. named_member m name x e p.0) (field_sound k (suc i) name ms e p.1)

  first_sound : (ks : List ℕ) → IfThere FoundSound (first_place ks)
  first_sound [] = tt
  first_sound (k ∷ ks) = tt

  or_sound : (a b : Option Found) → IfThere FoundSound a → IfThere FoundSound b → IfThere FoundSound (or_else a b)
  or_sound (Some f) b x y = x
  or_sound None b x y = y

  members_sound : (k : ℕ) (o : Option Class) → slice_get c.classes k ≡ o → list_all (is_sound_member cs) (members_in o) ≡ true
  members_sound k (Some x) e = at_place (has_sound_members cs) c.classes k x h.members e
  members_sound k None e = refl

  own_sound : (name : List ℕ) (k : ℕ) → is_nothing name ≡ false → IfThere FoundSound (own_member c name k)
  own_sound name k e = or_sound (field_from k 0 name (members_in (slice_get c.classes k))) _
      (field_sound k 0 name (members_in (slice_get c.classes k)) e (members_sound k (slice_get c.classes k) refl))
      (first_sound (places_from (names.is_method k name) 0 c.funcs))

  along_sound : (name : List ℕ) (ns : List ℕ) → is_nothing name ≡ false → IfThere FoundSound (found_along c name ns)
  along_sound name [] e = tt
  along_sound name (k ∷ ks) e = or_sound (own_member c name k) _ (own_sound name k e) (along_sound name ks e)

  member_found : (name : List ℕ) (k : ℕ) → is_nothing name ≡ false → IfThere FoundSound (names.member_found c name k)
  member_found name k e = along_sound name (k ∷ bases c.classes k) e

  member_of : (at : At) (e : Tree) (f : Found) → FoundSound f → IsExpression cs e → IsSoundTree cs (names.member_of c at e f)
  member_of at e (field m i t) g k = expression (in_object cs _ (names.is_const_typ (typ_in e)) (names.is_volatile_object (typ_in e)) t at e g)
  member_of at e (methods f) g k = looked_up (method f at e k)

  class_member : (at dot : At) (name : List ℕ) (e : Tree) → is_nothing name ≡ false → IsExpression cs e
      → On (IsSoundTree cs) (names.class_member c at dot name e)
  class_member at dot name e i g = skip (IsSoundTree cs) (expect dot BadOperand (class_number (typ_in e))) _
      (λ k. skip (IsSoundTree cs) (check at Incomplete (is_some (completion_of c.classes k))) _
      (λ y. expected (IsSoundTree cs) at NoMember (names.member_found c name k) _
      (λ f x. member_of at e f (if_there FoundSound (names.member_found c name k) f (member_found name k i) x) g)))

  exception_member : (at : At) (name : List ℕ) (e : Tree) → IsExpression cs e → On (IsSoundTree cs) (names.exception_member at name e)
  exception_member at name e g = either (IsSoundTree cs) (bytes_eq name (codes "get")) _ _ (looked_up (get at e g)) tt

  pub member_access : (x : Work) (at dot : At) (name : List ℕ) (o : Operand) → is_nothing name ≡ false → IsExpression cs o.tree
      → On (SoundMade cs) (names.member_access c x at dot name o)
  member_access x at dot name o e g = either (SoundMade cs) (names.is_tx_exception (typ_in o.tree)) _ _
      (bind (IsSoundTree cs) (SoundMade cs) (names.exception_member at name (object_of c x o.at o.tree).tree) _
      (exception_member at name (object_of c x o.at o.tree).tree (object_sound cs c x o.at o.tree g)) (λ t k. k))
      (bind (IsSoundTree cs) (SoundMade cs) (names.class_member c at dot name (object_of c x o.at o.tree).tree) _
      (class_member at dot name (object_of c x o.at o.tree).tree e (object_sound cs c x o.at o.tree g)) (λ t k. k))

  -- Names

  number_head : (t : Typ) → is_number t ≡ true → is_head cs t Prvalue ≡ true
  number_head (typ (int k) d v) g = g
  number_head (typ (enum e s) d v) g = g
  number_head (typ void d v) g = absurd cc
  number_head (typ null d v) g = absurd cc
  number_head (typ (ptr t) d v) g = absurd cc
  number_head (typ (ref t) d v) g = absurd cc
  number_head (typ (array t k) d v) g = absurd cc
  number_head (typ (func s) d v) g = absurd cc
  number_head (typ (class k) d v) g = absurd cc
  number_head (typ (closure k) d v) g = absurd cc
  number_head (typ (tx_ex t) d v) g = absurd cc

  an_expression : (r : Result Tree ElabFault) → On (IsExpression cs) r → On (IsSoundTree cs) r
  an_expression (Ok t) g = expression g
  an_expression (Err e) g = tt

  pub of_entity : (at : At) (kind : EntityKind) (i : ℕ) → On (IsSoundTree cs) (names.of_entity c w at kind i)
  of_entity at entities.Local i = an_expression (names.variable_in c w at i (names.is_outer i c.lambda))
      (variable_in at i (names.is_outer i c.lambda) (is_outer i c.lambda h.captures))
  of_entity at entities.Global i = expected (IsSoundTree cs) at UnknownName (slice_get w.globals i) _
      (λ x e. expression (record { head = at_place (is_sound_global cs) w.globals i x h.globals e; chosen = refl; written = refl }))
  of_entity at entities.Funcs i = looked_up (free i at)
  of_entity at entities.Enumerator i = expected (IsSoundTree cs) at UnknownName (slice_get c.enumerators i) _
      (λ x e. expression (record { head = number_head x.typ (at_place is_sound_enumerator c.enumerators i x h.enumerators e); chosen = refl; written = refl }))
  of_entity at kind i = tt

  file_name : (at : At) (o : Option Entity) → On (IsSoundTree cs) (names.file_name c w at o)
  file_name at (Some e) = of_entity at e.kind e.id
  file_name at None = tt

  target_is : (f : Form) → names.target_of f ≡ pointed f
  target_is void = refl
  target_is (int k) = refl
  target_is (enum e s) = refl
  target_is null = refl
  target_is (ptr t) = refl
  target_is (ref t) = refl
  target_is (array t k) = refl
  target_is (func s) = refl
  target_is (class k) = refl
  target_is (closure k) = refl
  target_is (tx_ex t) = refl

  implicit_member : (at : At) (f : Found) → FoundSound f → On (IsSoundTree cs) (names.implicit_member c at f)
  implicit_member at f g = bind (IsExpression cs) (IsSoundTree cs) (names.this_tree c at) _ (this_tree at)
      (λ p k. expected (IsSoundTree cs) at UnknownName (names.target_of (form_in (typ_in p))) _
      (λ t e. member_of at (retyped at t Lvalue p) f g
      (lvalue_retyped cs at t p (pointed_target cs p t (sym (target_is (form_in (typ_in p))) ∙ e) k))))

  class_name : (at : At) (name : List ℕ) (e : Option Entity) (o : Option Found) → IfThere FoundSound o → On (IsSoundTree cs) (names.class_name c w at name e o)
  class_name at name e (Some f) g = implicit_member at f g
  class_name at name e None g = file_name at e

  member_here : (name : List ℕ) (o : Option ℕ) → is_nothing name ≡ false → IfThere FoundSound (names.member_here c name o)
  member_here name (Some k) e = member_found name k e
  member_here name None e = tt

  pub named : (at : At) (name : List ℕ) → is_nothing name ≡ false → On (IsSoundTree cs) (names.named c w at name)
  named at name e = either (IsSoundTree cs) (names.is_local_entity (found_in c.scopes name)) _ _ (file_name at (found_in c.scopes name))
      (class_name at name (found_in c.scopes name) (names.member_here c name c.class) (member_here name c.class e))

  -- Functions (C++14 13.4)

  pub function_sound : (k : ℕ) → is_sound_signature cs (func_at c.funcs k).declared.signature ≡ true
  function_sound k = function_by (slice_get c.funcs k) refl
    where
      function_by : (o : Option Func) → slice_get c.funcs k ≡ o → is_sound_signature cs (unwrap_or o no_function).declared.signature ≡ true
      function_by (Some f) e = at_place (is_sound_function cs) c.funcs k f h.functions e
      function_by None e = refl

  only_function : (at : At) (k : ℕ) (is : List ℕ) → On (IsExpression cs) (names.only_function c at k is)
  only_function at k (i ∷ []) = skip (IsExpression cs) (check at OutOfProfile (not (is_some (func_at c.funcs i).builtin))) _
      (λ y. record { head = function_sound i; chosen = refl; written = refl })
  only_function at k [] = tt
  only_function at k (i ∷ j ∷ is) = tt

  unresolved : (e : Tree) → IsExpression cs e → On (IsExpression cs) (names.resolved c e)
  unresolved (node (Function k) (typ void d v) Lvalue at kids) g = let e : false ≡ true = g.head in absurd cc
  unresolved (node Default t cat at kids) g = let e : true ≡ false = g.chosen in absurd cc
  unresolved (node (Builtin b) (typ void d v) Lvalue at kids) g = let e : false ≡ true = g.head in absurd cc
  unresolved t g = g

  pub resolved : (e : Tree) → IsSoundTree cs e → On (IsExpression cs) (names.resolved c e)
  resolved e (expression g) = unresolved e g
  resolved e (looked_up g) = chosen_of e g
    where
      chosen_of : (t : Tree) → IsLookedUp cs t → On (IsExpression cs) (names.resolved c t)
      chosen_of _ (free k at) = only_function at k (places_from (names.is_free (func_at c.funcs k).declared.name) 0 c.funcs)
      chosen_of _ (method k at x g) = tt
      chosen_of _ (get at x g) = tt
      chosen_of _ (abort at) = tt
