-- Members of classes and their bases.
use Rattle.std.proofs.Common.{◌≡◌, refl, sym, ap, ◌∙◌, subst, ℕ, zero, suc, ◌+◌, Bool, true, false, ◌&&◌, List, [], ◌∷◌, slice_get, Option}
use Rattle.std.proofs.Common.{Some, None, is_some, unwrap_or, cond, option_and_then, Result, Ok, Err, arith}
use Rattle.std.proofs.lemmas.Bool.{and_parts}
use Rattle.std.specs.Prelude.{if◌then◌else◌, codes}
use Rattle.std.specs.Str.{bytes_eq}
use Rattle.elab_rules.specs.tx_ints.declared.kinds.IntKind.TheVariants.{ULong}
use Rattle.elab_rules.specs.cpp_types.Typ.{Typ, typ, Form, void, ptr, class, closure, tx_ex}
use Rattle.elab_rules.specs.cpp_types.Class.{Class, Member, InOrder, base_of, completion_of}
use Rattle.elab_rules.specs.cpp_types.Conversion.{first_and, chain, bases}
use Rattle.elab_rules.specs.cpp_types.declared.classes.At.{At}
use Rattle.elab_rules.specs.cpp_types.declared.ranks.Cat.{Cat}
use Rattle.elab_rules.specs.cpp_types.declared.ranks.Cat.TheVariants.{Lvalue, Prvalue}
use Rattle.elab_rules.specs.cpp_tree.declared.faults.ElabFault.{ElabFault}
use Rattle.elab_rules.specs.cpp_tree.declared.faults.ElabFault.TheVariants.{Ill}
use Rattle.elab_rules.specs.cpp_tree.declared.faults.IllRule.TheVariants.{UnknownName, BadOperand, Incomplete, NoMember}
use Rattle.elab_rules.specs.cpp_tree.declared.kinds.TKind.TheVariants.{Default}
use Rattle.elab_rules.specs.cpp_tree.Trees.{Tree, node, one, typ_in, cat_of}
use Rattle.elab_rules.specs.cpp_tree.Notation.{plain}
use Rattle.elab_rules.specs.cpp_tree.Typing.{form_in, is_class_typ, is_class_prvalue, qualified, word_kind, kind_in}
use Rattle.elab_rules.specs.cpp_tree.Rows.{Setting}
use Rattle.elab_rules.specs.elab_ctx.Ctx.{Ctx, Work, This}
use Rattle.elab_rules.specs.elab_ctx.Steps.{and_then, expect, Operand}
use Rattle.elab_rules.specs.Values.{retyped}
use Rattle.elab_rules.specs.Initialising.{places_from, same_number, class_number, object_of}
use Rattle.elab_rules.specs.Names.{Found, field, methods, field_from, is_method, first_place, is_plain_kind, or_else, own_member, found_along, member_found, members_in}
use Rattle.elab_rules.specs.Names.{member_of, is_const_typ, is_volatile_object, is_tx_exception, exception_member, class_member, member_access, target_of}
use Rattle.elab_rules.specs.Names.{implicit_member, this_tree, offset_at}
use Rattle.elab_fits.specs.Standing.{Reaches, On}
use Rattle.elab_fits.proofs.Steps.{bind, checked, expected}
use Rattle.elab_fits_forms.specs.Types.{is_empty, is_sound, is_sound_form, is_target}
use Rattle.elab_fits_forms.specs.Meaning.{IsObject, IsMethod, Means, ProperOperand}
use Rattle.elab_fits_forms.specs.Context.{Holds}
use Rattle.elab_fits_forms.specs.Names.{MadeMeans}
use Rattle.elab_fits_forms.proofs.Places.{place_is, number_is}
use Rattle.elab_fits_forms.proofs.Types.{declared_target, qualified_target}
use Rattle.elab_fits_forms.proofs.Proper.{proper_part, proper_retyped, proper_object, object_word, object_fits}
use Rattle.elab_fits_forms.proofs.Temporaries.{object_is, object_typ}
use Rattle.elab_fits_forms.proofs.Variables.{IsThisTree, this_tree_is}

-- What is found

abbrev pub OnSome : {A : Type 0} → (A → Type 0) → Option A → Type 0
OnSome P (Some a) = P a
OnSome P None = Unit {0}

-- a data member of a complete class that is an object, or member functions of one
abbrev pub IsFound : Ctx → Found → Type 0
IsFound c (field n i t) = (is_some (completion_of c.classes n) ≡ true) × (is_target c.classes t ≡ true)
IsFound c (methods k) = IsMethod c k

same_name : (a b : List ℕ) → bytes_eq a b ≡ true → is_empty b ≡ false → is_empty a ≡ false
same_name a [] h n = absurd cc
same_name [] (y ∷ ys) h n = absurd cc
same_name (x ∷ xs) (y ∷ ys) h n = refl

field_is : (s : Setting) (c : Ctx) (w : Work) (n : ℕ) (k : Class) (name : List ℕ) → Holds s c w → slice_get c.classes n ≡ Some k
    → is_some (completion_of c.classes n) ≡ true → is_empty name ≡ false → (i : ℕ) (ms : List Member)
    → ((j : ℕ) (m : Member) → slice_get ms j ≡ Some m → slice_get k.members (i + j) ≡ Some m) → OnSome (IsFound c) (field_from n i name ms)
field_is s c w n k name h f d e i [] g = tt
field_is s c w n k name h f d e i (m ∷ ms) g = by (field_is s c w n k name h f d e (suc i) ms (λ j x y. later j x y)) (bytes_eq m.name name) refl
  where
    later : (j : ℕ) (x : Member) → slice_get ms j ≡ Some x → slice_get k.members (suc i + j) ≡ Some x
    later j x y = let z : i + suc j ≡ suc i + j = omega arith in subst (λ (v : ℕ). slice_get k.members v ≡ Some x) z (g (suc j) x y)

    by : OnSome (IsFound c) (field_from n (suc i) name ms) → (b : Bool) → bytes_eq m.name name ≡ b
        → OnSome (IsFound c) (if b then Some (field n i m.typ) else field_from n (suc i) name ms)
    by rest true q = let x = h.fields n (i + 0) k m f (g 0 m refl) in (d, declared_target c.classes m.typ x.declared (x.object (same_name m.name name q e)))
    by rest false q = rest

-- the first of the member functions of a name
methods_are : (c : Ctx) (n : ℕ) (name : List ℕ) (ks : List ℕ) → is_some (completion_of c.classes n) ≡ true
    → places_from (is_method n name) 0 c.funcs ≡ ks → OnSome (IsFound c) (first_place ks)
methods_are c n name [] d e = tt
methods_are c n name (k ∷ ks) d e = place_is (IsMethod c k) (is_method n name) c.funcs 0 k (ap (λ (l : List ℕ). slice_get l 0) e)
    (λ f at t. record {
      func = f;
      at = at;
      class = n;
      member = number_is n f.class (and_parts (bytes_eq f.declared.name name) (same_number n f.class)
          (and_parts (bytes_eq f.declared.name name && same_number n f.class) (is_plain_kind f.kind) t).0).1;
      complete = d;
    })

either_is : {A : Type 0} (P : A → Type 0) (a b : Option A) → OnSome P a → OnSome P b → OnSome P (or_else a b)
either_is {A} P (Some x) b h g = h
either_is {A} P None b h g = g

own_is : (s : Setting) (c : Ctx) (w : Work) (name : List ℕ) (n : ℕ) → Holds s c w → is_empty name ≡ false → is_some (completion_of c.classes n) ≡ true
    → OnSome (IsFound c) (own_member c name n)
own_is s c w name n h e d = either_is (IsFound c) (field_from n 0 name (members_in (slice_get c.classes n)))
    (first_place (places_from (is_method n name) 0 c.funcs)) (by (slice_get c.classes n) refl)
    (methods_are c n name (places_from (is_method n name) 0 c.funcs) d refl)
  where
    by : (o : Option Class) → slice_get c.classes n ≡ o → OnSome (IsFound c) (field_from n 0 name (members_in o))
    by (Some k) f = field_is s c w n k name h f d e 0 k.members (λ j m x. let z : 0 + j ≡ j = omega arith in
        subst (λ (v : ℕ). slice_get k.members v ≡ Some m) (sym z) x)
    by None f = tt

-- Bases are complete

base_complete : (classes : List Class) → InOrder classes → (n b : ℕ) → base_of classes n ≡ Some b → is_some (completion_of classes b) ≡ true
base_complete classes o n b e = by (slice_get classes n) refl e
  where
    given : (k : Class) (x : Option ℕ) → slice_get classes n ≡ Some k → k.complete ≡ x → cond (is_some x) k.base None ≡ Some b
        → is_some (completion_of classes b) ≡ true
    given k (Some i) f q d = ap is_some ((o.earlier n k i f q).base b d).complete
    given k None f q d = absurd cc

    by : (x : Option Class) → slice_get classes n ≡ x → option_and_then (λ (k : Class). cond (is_some k.complete) k.base None) x ≡ Some b
        → is_some (completion_of classes b) ≡ true
    by (Some k) f d = given k k.complete f refl d
    by None f d = absurd cc

along_is : (s : Setting) (c : Ctx) (w : Work) (name : List ℕ) → Holds s c w → is_empty name ≡ false → (most n : ℕ)
    → OnSome (IsFound c) (found_along c name (chain most c.classes n))
along_is s c w name h e zero n = tt
along_is s c w name h e (suc most) n = by (along_is s c w name h e most) (base_of c.classes n) refl
  where
    by : ((b : ℕ) → OnSome (IsFound c) (found_along c name (chain most c.classes b))) → (o : Option ℕ) → base_of c.classes n ≡ o
        → OnSome (IsFound c) (found_along c name (first_and o (chain most c.classes)))
    by rest (Some b) f = either_is (IsFound c) (own_member c name b) (found_along c name (chain most c.classes b))
        (own_is s c w name b h e (base_complete c.classes h.setting.ordered n b f)) (rest b)
    by rest None f = tt

pub found_is : (s : Setting) (c : Ctx) (w : Work) (name : List ℕ) (n : ℕ) → Holds s c w → is_empty name ≡ false
    → is_some (completion_of c.classes n) ≡ true → OnSome (IsFound c) (member_found c name n)
found_is s c w name n h e d = either_is (IsFound c) (own_member c name n) (found_along c name (bases c.classes n)) (own_is s c w name n h e d)
    (along_is s c w name h e (unwrap_or (completion_of c.classes n) 0) n)

-- Members of objects

pub member_means : (s : Setting) (c : Ctx) (w : Work) (at : At) (object : Tree) (f : Found) → Holds s c w → IsObject s c object → IsFound c f
    → Means s c (member_of c at object f)
member_means s c w at object (field n i t) h o f = Means.standing
    (proper_part s c (offset_at c.classes n i) (qualified (is_const_typ (typ_in object)) (is_volatile_object (typ_in object)) t) at object
    (object_word s c object o) (object_fits s c object o) ((h.complete n f.0).offsets i)
    (qualified_target c.classes (is_const_typ (typ_in object)) (is_volatile_object (typ_in object)) t f.1))
member_means s c w at object (methods k) h o f = Means.methods k at object f o

found_in_object : (s : Setting) (c : Ctx) (w : Work) (at : At) (object : Tree) (dot : At) (x : Option Found) → Holds s c w → IsObject s c object
    → OnSome (IsFound c) x → On (Means s c) (and_then (expect dot NoMember x) (λ (f : Found). Ok (member_of c at object f)))
found_in_object s c w at object dot (Some f) h o g = member_means s c w at object f h o g
found_in_object s c w at object dot None h o g = tt

class_typed : (t : Typ) (n : ℕ) → class_number t ≡ Some n → is_class_typ t ≡ true
class_typed (typ (class k) c v) n h = refl
class_typed (typ (closure k) c v) n h = refl
class_typed (typ f c v) n h = absurd cc

pub class_member_means : (s : Setting) (c : Ctx) (w : Work) (at dot : At) (name : List ℕ) (e : Tree) → Holds s c w → is_empty name ≡ false
    → (is_class_typ (typ_in e) ≡ true → IsObject s c e) → On (Means s c) (class_member c at dot name e)
class_member_means s c w at dot name e h n o = expected (Means s c) dot BadOperand (class_number (typ_in e)) _
    (λ k q. checked (Means s c) at Incomplete (is_some (completion_of c.classes k)) _ (λ d.
    found_in_object s c w at e at (member_found c name k) h (o (class_typed (typ_in e) k q)) (found_is s c w name k h n d)))

exception_typed : (t : Typ) → is_tx_exception t ≡ true → is_class_typ t ≡ true
exception_typed (typ (tx_ex t) c v) h = refl
exception_typed (typ f c v) h = absurd cc

getter_means : (s : Setting) (c : Ctx) (at : At) (name : List ℕ) (e : Tree) → is_tx_exception (typ_in e) ≡ true → IsObject s c e
    → On (Means s c) (exception_member at name e)
getter_means s c at name e x o = by (bytes_eq name (codes "get")) (typ_in e) refl x
  where
    by : (b : Bool) (t : Typ) → typ_in e ≡ t → is_tx_exception t ≡ true
        → On (Means s c) (if b then Ok (node Default (plain void) Lvalue at (one e)) else Err (Ill at NoMember))
    by true (typ (tx_ex u) q v) f k = Means.getter at u q v e o f
    by true (typ g q v) f k = absurd cc
    by false t f k = tt

made_by : (s : Setting) (c : Ctx) (w : Work) (r : Result Tree ElabFault) → (Reaches s w → On (Means s c) r)
    → On (MadeMeans s c) (and_then r (λ (t : Tree). Ok (record { tree = t; work = w })))
made_by s c w (Ok e) h = h
made_by s c w (Err e) h = tt

pub members_mean : (s : Setting) (c : Ctx) (w : Work) (at dot : At) (name : List ℕ) (o : Operand) → Holds s c w → is_empty name ≡ false
    → ProperOperand s c o → On (MadeMeans s c) (member_access c w at dot name o)
members_mean s c w at dot name o h n p = by (is_tx_exception (typ_in o.tree)) refl
  where
    object : is_class_typ (typ_in (object_of c w o.at o.tree).tree) ≡ true → Reaches s (object_of c w o.at o.tree).work
        → IsObject s c (object_of c w o.at o.tree).tree
    object k r = object_is s c w o.at o.tree h.setting h.makers.specials p.proper (ap is_class_typ (sym (object_typ c w o.at o.tree)) ∙ k) r

    by : (b : Bool) → is_tx_exception (typ_in o.tree) ≡ b
        → On (MadeMeans s c) (if b then and_then (exception_member at name (object_of c w o.at o.tree).tree)
        (λ (t : Tree). Ok (record { tree = t; work = (object_of c w o.at o.tree).work }))
        else and_then (class_member c at dot name (object_of c w o.at o.tree).tree)
        (λ (t : Tree). Ok (record { tree = t; work = (object_of c w o.at o.tree).work })))
    by true q =
        let x : is_tx_exception (typ_in (object_of c w o.at o.tree).tree) ≡ true = ap is_tx_exception (object_typ c w o.at o.tree) ∙ q in
        made_by s c (object_of c w o.at o.tree).work (exception_member at name (object_of c w o.at o.tree).tree)
        (λ r. getter_means s c at name (object_of c w o.at o.tree).tree x (object (exception_typed (typ_in (object_of c w o.at o.tree).tree) x) r))
    by false q = made_by s c (object_of c w o.at o.tree).work (class_member c at dot name (object_of c w o.at o.tree).tree)
        (λ r. class_member_means s c w at dot name (object_of c w o.at o.tree).tree h n (λ k. object k r))

-- of the object at hand

target_form : (f : Form) (t : Typ) → target_of f ≡ Some t → f ≡ ptr t
target_form (ptr u) t h = ap (λ (o : Option Typ). ptr (unwrap_or o u)) h
target_form f t h = absurd cc

pub pointer_word : (t u : Typ) (cat : Cat) → form_in t ≡ ptr u → word_kind t cat ≡ Some ULong
pointer_word (typ f c v) u Lvalue h = refl
pointer_word (typ f c v) u Prvalue h = ap kind_in h

pub implicit_means : (s : Setting) (c : Ctx) (w : Work) (at : At) (f : Found) → Holds s c w → Reaches s w
    → ((t : This) → c.this ≡ Some t → IsFound c f) → On (Means s c) (implicit_member c at f)
implicit_means s c w at f h r g = bind (IsThisTree s c) (Means s c) (this_tree c at) _ (this_tree_is s c w at h r)
    (λ p x. expected (Means s c) at UnknownName (target_of (form_in (typ_in p))) _ (λ t q. by p x t (target_form (form_in (typ_in p)) t q)))
  where
    no_object : (t : Typ) (u : Typ) (cat : Cat) → form_in t ≡ ptr u → is_class_prvalue t cat ≡ false
    no_object (typ z q v) u Lvalue e = refl
    no_object (typ z q v) u Prvalue e = ap (λ (y : Form). is_class_typ (typ y q v)) e

    sound : (t u : Typ) → is_sound c.classes t ≡ true → form_in t ≡ ptr u → is_target c.classes u ≡ true
    sound (typ z q v) u i e = sym (ap (λ (y : Form). is_sound_form c.classes y) e) ∙ i

    by : (p : Tree) → IsThisTree s c p → (t : Typ) → form_in (typ_in p) ≡ ptr t → Means s c (member_of c at (retyped at t Lvalue p) f)
    by p x t e = member_means s c w at (retyped at t Lvalue p) f h (proper_object s c (retyped at t Lvalue p)
        (proper_retyped s c t at p (pointer_word (typ_in p) t (cat_of p) e)
        (x.proper.stands.value (no_object (typ_in p) t (cat_of p) e)) (sound (typ_in p) t x.proper.sound e)) refl) (g x.this x.is)
