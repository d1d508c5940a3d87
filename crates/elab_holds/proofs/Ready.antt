-- Types of objects, and of what lambdas capture, are ready.
use Rattle.std.proofs.Common.{arith, lt-ltb, ◌≡◌, refl, sym, ap, ◌∙◌, subst, ℕ, zero, suc, Bool, true, false, not, ◌&&◌, ◌||◌, nat_lt, List, [], ◌∷◌, ◌++◌, Option, Some, None, is_some, slice_get}
use Rattle.std.specs.List.{list_all}
use Rattle.std.proofs.lemmas.Bool.{and_parts, and_from}
use Rattle.std.proofs.lemmas.Option.{same_Some}
use Rattle.elab_rules.specs.cpp_types.Typ.{Typ, typ, Form, void, int, enum, null, ptr, ref, array, func, class, closure, tx_ex}
use Rattle.elab_rules.specs.cpp_types.Class.{Class, Member, completion_of}
use Rattle.elab_rules.specs.cpp_tree.Notation.{plain}
use Rattle.elab_rules.specs.cpp_tree.Typing.{passes, is_reference, form_in, qualified}
use Rattle.elab_rules.specs.Types.{is_nothing}
use Rattle.elab_rules.specs.elab_ctx.Ctx.{Ctx, Work}
use Rattle.elab_rules.specs.Objects.{Part, parts_of, parts_in, base_part, members_from, element_of}
use Rattle.elab_fits.specs.Objects.{is_single, is_ready, typ_ready, form_ready, part_ready, is_closure, has_lambdas}
use Rattle.elab_fits.proofs.Ready.{ready_law}
use Rattle.elab_sound_types.specs.Types.{Use, object, target, variable}
use Rattle.elab_sound_types.specs.Types as sound
use Rattle.elab_sound_types.specs.Contexts.{HasSoundTypes, member_use}
use Rattle.elab_fits_forms.specs.Types as forms
use Rattle.elab_contexts.specs.Texts.{is_no_name}
use Rattle.elab_contexts.specs.Steps.{has_name, is_written}
use Rattle.elab_contexts.specs.Holding.{UnitHolds}
use Rattle.elab_holds.proofs.Sound.{class_named, name_found, named_is, lambda_is, lambda_found, complete_found, lambda_same, not_true, is_true}
use Rattle.elab_holds.proofs.Order.{member_sound, base_complete}

-- Types, by what is known of classes that have names

record Knows (cs : List Class) (p : ℕ → Bool) : Type 0 where
  named : (n : ℕ) → has_name cs n ≡ true → p n ≡ true

held_ready : (cs : List Class) (p : ℕ → Bool) (r : Bool) → Knows cs p → (f : Form) → sound.is_held cs f ≡ true
    → (is_single f && form_ready p r false f) ≡ true
held_ready cs p r q (int k) h = refl
held_ready cs p r q (enum n s) h = refl
held_ready cs p r q (class n) h =
    let a = and_parts (is_some (completion_of cs n)) (not (sound.is_lambda cs n)) h in
    q.named n (named_is cs n (sym (lambda_same cs n) ∙ not_true (sound.is_lambda cs n) a.1) (complete_found cs n a.0))
held_ready cs p r q void h = absurd cc
held_ready cs p r q null h = absurd cc
held_ready cs p r q (ptr t) h = absurd cc
held_ready cs p r q (ref t) h = absurd cc
held_ready cs p r q (array t n) h = absurd cc
held_ready cs p r q (func s) h = absurd cc
held_ready cs p r q (closure n) h = absurd cc
held_ready cs p r q (tx_ex t) h = absurd cc

positive : (n : ℕ) → sound.is_positive n ≡ true → nat_lt 0 n ≡ true
positive zero h = absurd cc
positive (suc n) h = lt-ltb 0 (suc n) (omega arith)

-- an object that has a name, or an element
object_ready : (cs : List Class) (p : ℕ → Bool) (r : Bool) → Knows cs p → (t : Typ) → sound.is_sound cs object t ≡ true → typ_ready p r t ≡ true
object_ready cs p r q (typ void c v) h = absurd cc
object_ready cs p r q (typ (int k) c v) h = refl
object_ready cs p r q (typ (enum n s) c v) h = refl
object_ready cs p r q (typ null c v) h = refl
object_ready cs p r q (typ (ptr t) c v) h = refl
object_ready cs p r q (typ (ref t) c v) h = is_true false _ refl h
object_ready cs p r q (typ (array t n) c v) h =
    let a = and_parts (sound.is_positive n) (not (c || v) && sound.is_sound cs object t) h in
    let b = and_parts (not (c || v)) (sound.is_sound cs object t) a.1 in
    and_from (not (c || v)) (nat_lt 0 n && typ_ready p r t) b.0
    (and_from (nat_lt 0 n) (typ_ready p r t) (positive n a.0) (object_ready cs p r q t b.1))
object_ready cs p r q (typ (func s) c v) h = is_true false _ refl h
object_ready cs p r q (typ (class n) c v) h = q.named n (class_named cs n h)
object_ready cs p r q (typ (closure n) c v) h = is_true false _ refl h
object_ready cs p r q (typ (tx_ex (typ f d w)) c v) h = held_ready cs p r q f (and_parts (not (d || w)) (sound.is_held cs f) h).1

-- what is no reference and no lambda's object
written_ready : (cs : List Class) (p : ℕ → Bool) (r : Bool) → Knows cs p → (t : Typ) → is_reference t ≡ false → is_written cs t ≡ true
    → sound.is_sound cs variable t ≡ true → typ_ready p r t ≡ true
written_ready cs p r q (typ void c v) n m h = absurd cc
written_ready cs p r q (typ (int k) c v) n m h = refl
written_ready cs p r q (typ (enum e s) c v) n m h = refl
written_ready cs p r q (typ null c v) n m h = refl
written_ready cs p r q (typ (ptr t) c v) n m h = refl
written_ready cs p r q (typ (ref t) c v) n m h = absurd cc
written_ready cs p r q (typ (array t i) c v) n m h = object_ready cs p r q (typ (array t i) c v) h
written_ready cs p r q (typ (func s) c v) n m h = is_true false _ refl h
written_ready cs p r q (typ (class i) c v) n m h = q.named i m
written_ready cs p r q (typ (closure i) c v) n m h = absurd cc
written_ready cs p r q (typ (tx_ex (typ f d w)) c v) n m h = held_ready cs p r q f (and_parts (not (d || w)) (sound.is_held cs f) h).1

-- a variable, which may be a reference or a lambda's object
variable_ready : (cs : List Class) (p : ℕ → Bool) → Knows cs p → ((n : ℕ) → forms.is_lambda cs n ≡ true → p n ≡ true) → (t : Typ)
    → sound.is_sound cs variable t ≡ true → typ_ready p true t ≡ true
variable_ready cs p q l (typ void c v) h = absurd cc
variable_ready cs p q l (typ (int k) c v) h = refl
variable_ready cs p q l (typ (enum e s) c v) h = refl
variable_ready cs p q l (typ null c v) h = refl
variable_ready cs p q l (typ (ptr t) c v) h = refl
variable_ready cs p q l (typ (ref t) c v) h = (and_parts (not (c || v)) (sound.is_sound cs target t) h).0
variable_ready cs p q l (typ (array t i) c v) h = object_ready cs p true q (typ (array t i) c v) h
variable_ready cs p q l (typ (func s) c v) h = is_true false _ refl h
variable_ready cs p q l (typ (class i) c v) h = q.named i (class_named cs i h)
variable_ready cs p q l (typ (closure i) c v) h = l i (lambda_is cs variable i h)
variable_ready cs p q l (typ (tx_ex (typ f d w)) c v) h = held_ready cs p true q f (and_parts (not (d || w)) (sound.is_held cs f) h).1

-- a member, by whether it has a name
member_ready : (cs : List Class) (p : ℕ → Bool) → Knows cs p → ((n : ℕ) → forms.is_lambda cs n ≡ true → p n ≡ true) → (b : Bool) (t : Typ)
    → sound.is_sound cs (member_use b) t ≡ true → typ_ready p true t ≡ true
member_ready cs p q l true t h = variable_ready cs p q l t h
member_ready cs p q l false t h = object_ready cs p true q t h

plain_ready : (cs : List Class) (p : ℕ → Bool) → Knows cs p → (b : Bool) (t : Typ) → is_reference t ≡ false → is_written cs t ≡ true
    → sound.is_sound cs (member_use b) t ≡ true → typ_ready p false t ≡ true
plain_ready cs p q true t n m h = written_ready cs p false q t n m h
plain_ready cs p q false t n m h = object_ready cs p false q t h

-- Parts

all_appended : {A : Type 0} (f : A → Bool) (xs ys : List A) → list_all f xs ≡ true → list_all f ys ≡ true → list_all f (xs ++ ys) ≡ true
all_appended f [] ys h k = k
all_appended f (x ∷ xs) ys h k = let a = and_parts (f x) (list_all f xs) h in and_from (f x) (list_all f (xs ++ ys)) a.0 (all_appended f xs ys a.1 k)

base_parts : (p : ℕ → Bool) (r : Bool) (o : Option ℕ) → ((b : ℕ) → o ≡ Some b → p b ≡ true) → list_all (part_ready p r) (base_part o) ≡ true
base_parts p r None h = refl
base_parts p r (Some b) h = and_from (p b) true (h b refl) refl

member_parts : (p : ℕ → Bool) (r : Bool) (cs : List Class) (n : ℕ) (c : Class) (i : ℕ) (ms : List Member)
    → ((j : ℕ) (m : Member) → slice_get ms j ≡ Some m → typ_ready p r m.typ ≡ true) → list_all (part_ready p r) (members_from cs n c i ms) ≡ true
member_parts p r cs n c i [] h = refl
member_parts p r cs n c i (m ∷ ms) h = and_from (typ_ready p r m.typ) (list_all (part_ready p r) (members_from cs n c (suc i) ms)) (h zero m refl)
    (member_parts p r cs n c (suc i) ms (λ j x e. h (suc j) x e))

-- what is to be known of a class
record Readies (cs : List Class) (p : ℕ → Bool) (r : Bool) (k : Class) : Type 0 where
  base : (b : ℕ) → k.base ≡ Some b → p b ≡ true
  members : (i : ℕ) (m : Member) → slice_get k.members i ≡ Some m → typ_ready p r m.typ ≡ true

parts_by : (cs : List Class) (p : ℕ → Bool) (r : Bool) (n : ℕ) (o : Option Class) → ((k : Class) → o ≡ Some k → Readies cs p r k)
    → list_all (part_ready p r) (parts_in cs n o) ≡ true
parts_by cs p r n None h = refl
parts_by cs p r n (Some k) h = all_appended (part_ready p r) (base_part k.base) (members_from cs n k 0 k.members) (base_parts p r k.base (h k refl).base)
    (member_parts p r cs n k 0 k.members (h k refl).members)

-- Classes that have names

named_knows : (cs : List Class) → Knows cs (has_name cs)
named_knows cs = record { named = λ n h. h }

name_of : (cs : List Class) (n : ℕ) (k : Class) → slice_get cs n ≡ Some k → has_name cs n ≡ true → is_no_name k.name ≡ false
name_of cs n k e h = by k.name (sym (ap (λ (o : Option Class). passes (λ (x : Class). not (is_no_name x.name)) o) e) ∙ h)
  where
    by : (xs : List ℕ) → not (is_no_name xs) ≡ true → is_no_name xs ≡ false
    by [] q = absurd cc
    by (x ∷ xs) q = refl

no_reference : (a b r : Bool) → a ≡ false → (a && b || not r) ≡ true → r ≡ false
no_reference false b false e h = refl
no_reference false b true e h = absurd cc
no_reference true b r e h = absurd cc

named_class : (c : Ctx) (w : Work) → UnitHolds c → HasSoundTypes c w → (n : ℕ) → has_name c.classes n ≡ true → (k : Class) → slice_get c.classes n ≡ Some k
    → Readies c.classes (has_name c.classes) false k
named_class c w u h n q k e = let z = name_of c.classes n k e q in record {
  base = λ b f. u.bases n b k e f;
  members = λ i m f. plain_ready c.classes (has_name c.classes) (named_knows c.classes) (is_nothing m.name) m.typ
      (no_reference (is_no_name k.name) (is_no_name m.name) (is_reference m.typ) z (u.objects n i k m e f))
      (u.members n i k m e z f) (member_sound c w h n i k m e f);
}

pub named_ready : (c : Ctx) (w : Work) → UnitHolds c → HasSoundTypes c w → (t : Typ) → typ_ready (has_name c.classes) false t ≡ true
    → is_ready c.classes false t ≡ true
named_ready c w u h t q = ready_law c.classes false (has_name c.classes)
    (λ n z. parts_by c.classes (has_name c.classes) false n (slice_get c.classes n) (named_class c w u h n z)) t q

-- All classes of the list

abbrev is_listed : List Class → ℕ → Bool
is_listed cs n = is_some (slice_get cs n)

listed_knows : (cs : List Class) → Knows cs (is_listed cs)
listed_knows cs = record { named = name_found cs }

listed_class : (c : Ctx) (w : Work) → UnitHolds c → HasSoundTypes c w → (n : ℕ) (k : Class) → slice_get c.classes n ≡ Some k
    → Readies c.classes (is_listed c.classes) true k
listed_class c w u h n k e = record {
  base = λ b f. base_complete c u n b k e f;
  members = λ i m f. member_ready c.classes (is_listed c.classes) (listed_knows c.classes) (lambda_found c.classes) (is_nothing m.name) m.typ
      (member_sound c w h n i k m e f);
}

pub listed_ready : (c : Ctx) (w : Work) → UnitHolds c → HasSoundTypes c w → (t : Typ) → typ_ready (is_listed c.classes) true t ≡ true
    → is_ready c.classes true t ≡ true
listed_ready c w u h t q = ready_law c.classes true (is_listed c.classes)
    (λ n z. parts_by c.classes (is_listed c.classes) true n (slice_get c.classes n) (listed_class c w u h n)) t q

-- a variable
pub variable_is_ready : (c : Ctx) (w : Work) → UnitHolds c → HasSoundTypes c w → (t : Typ) → sound.is_sound c.classes variable t ≡ true
    → is_ready c.classes true t ≡ true
variable_is_ready c w u h t q = listed_ready c w u h t (variable_ready c.classes (is_listed c.classes) (listed_knows c.classes) (lambda_found c.classes) t q)

-- Parts are ready, and no array of lambdas' objects

qualified_closure : (c v : Bool) (t : Typ) → is_closure (form_in t) ≡ false → is_closure (form_in (qualified c v t)) ≡ false
qualified_closure c v (typ (closure n) d w) h = absurd cc
qualified_closure c v (typ void d w) h = refl
qualified_closure c v (typ (int k) d w) h = refl
qualified_closure c v (typ (enum n s) d w) h = refl
qualified_closure c v (typ null d w) h = refl
qualified_closure c v (typ (ptr t) d w) h = refl
qualified_closure c v (typ (ref t) d w) h = refl
qualified_closure c v (typ (array t n) d w) h = refl
qualified_closure c v (typ (func s) d w) h = refl
qualified_closure c v (typ (class n) d w) h = refl
qualified_closure c v (typ (tx_ex t) d w) h = refl

element_single : (cs : List Class) (t : Typ) → sound.is_sound cs object t ≡ true → is_closure (form_in (element_of t)) ≡ false
element_single cs (typ (closure n) c v) h = is_true false _ refl h
element_single cs (typ (array t n) c v) h =
    let a = and_parts (sound.is_positive n) (not (c || v) && sound.is_sound cs object t) h in
    qualified_closure c v (element_of t) (element_single cs t (and_parts (not (c || v)) (sound.is_sound cs object t) a.1).1)
element_single cs (typ void c v) h = refl
element_single cs (typ (int k) c v) h = refl
element_single cs (typ (enum n s) c v) h = refl
element_single cs (typ null c v) h = refl
element_single cs (typ (ptr t) c v) h = refl
element_single cs (typ (ref t) c v) h = refl
element_single cs (typ (func s) c v) h = refl
element_single cs (typ (class n) c v) h = refl
element_single cs (typ (tx_ex t) c v) h = refl

single_variable : (cs : List Class) (t : Typ) → sound.is_sound cs variable t ≡ true → has_lambdas t ≡ false
single_variable cs (typ (array t n) c v) h = element_single cs (typ (array t n) c v) h
single_variable cs (typ void c v) h = refl
single_variable cs (typ (int k) c v) h = refl
single_variable cs (typ (enum n s) c v) h = refl
single_variable cs (typ null c v) h = refl
single_variable cs (typ (ptr t) c v) h = refl
single_variable cs (typ (ref t) c v) h = refl
single_variable cs (typ (func s) c v) h = refl
single_variable cs (typ (class n) c v) h = refl
single_variable cs (typ (closure n) c v) h = refl
single_variable cs (typ (tx_ex t) c v) h = refl

pub single_member : (cs : List Class) (b : Bool) (t : Typ) → sound.is_sound cs (member_use b) t ≡ true → has_lambdas t ≡ false
single_member cs true t h = single_variable cs t h
single_member cs false (typ (array t n) c v) h = element_single cs (typ (array t n) c v) h
single_member cs false (typ void c v) h = refl
single_member cs false (typ (int k) c v) h = refl
single_member cs false (typ (enum n s) c v) h = refl
single_member cs false (typ null c v) h = refl
single_member cs false (typ (ptr t) c v) h = refl
single_member cs false (typ (ref t) c v) h = refl
single_member cs false (typ (func s) c v) h = refl
single_member cs false (typ (class n) c v) h = refl
single_member cs false (typ (closure n) c v) h = refl
single_member cs false (typ (tx_ex t) c v) h = refl

-- what is ready and single
pub record IsFine (c : Ctx) (t : Typ) : Type 0 where
  pub ready : is_ready c.classes true t ≡ true
  pub single : has_lambdas t ≡ false

pub parts_fine : (c : Ctx) (w : Work) → UnitHolds c → HasSoundTypes c w → (n i : ℕ) (p : Part) → slice_get (parts_of c.classes n) i ≡ Some p → IsFine c p.typ
parts_fine c w u h n i p e = by (slice_get c.classes n) refl i p e
  where
    fine_member : (k : Class) → slice_get c.classes n ≡ Some k → (j : ℕ) (m : Member) → slice_get k.members j ≡ Some m → IsFine c m.typ
    fine_member k q j m f = record {
      ready = listed_ready c w u h m.typ (member_ready c.classes (is_listed c.classes) (listed_knows c.classes) (lambda_found c.classes) (is_nothing m.name)
          m.typ (member_sound c w h n j k m q f));
      single = single_member c.classes (is_nothing m.name) m.typ (member_sound c w h n j k m q f);
    }

    fine_members : (k : Class) (at : ℕ) (ms : List Member) → ((j : ℕ) (m : Member) → slice_get ms j ≡ Some m → IsFine c m.typ) → (j : ℕ) (p : Part)
        → slice_get (members_from c.classes n k at ms) j ≡ Some p → IsFine c p.typ
    fine_members k at [] f j p q = absurd cc
    fine_members k at (m ∷ ms) f zero p q = subst (λ (x : Part). IsFine c x.typ) (same_Some _ p q) (f zero m refl)
    fine_members k at (m ∷ ms) f (suc j) p q = fine_members k (suc at) ms (λ a x e. f (suc a) x e) j p q

    behind_base : (k : Class) → slice_get c.classes n ≡ Some k → (o : Option ℕ) → k.base ≡ o → (j : ℕ) (p : Part)
        → slice_get (base_part o ++ members_from c.classes n k 0 k.members) j ≡ Some p → IsFine c p.typ
    behind_base k q None z j p f = fine_members k 0 k.members (fine_member k q) j p f
    behind_base k q (Some b) z zero p f = subst (λ (x : Part). IsFine c x.typ) (same_Some _ p f)
        (record { ready = listed_ready c w u h (plain (class b)) (base_complete c u n b k q z); single = refl })
    behind_base k q (Some b) z (suc j) p f = fine_members k 0 k.members (fine_member k q) j p f

    by : (o : Option Class) → slice_get c.classes n ≡ o → (j : ℕ) (p : Part) → slice_get (parts_in c.classes n o) j ≡ Some p → IsFine c p.typ
    by None q j p f = absurd cc
    by (Some k) q j p f = behind_base k q k.base refl j p f
