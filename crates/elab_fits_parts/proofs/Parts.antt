-- The parts of a class that has a name and its brace.
use Rattle.std.proofs.Common.{◌≡◌, refl, sym, ap, ◌∙◌, ℕ, Bool, true, false, not, ◌&&◌, ◌||◌, List, [], ◌∷◌, Option, Some, is_some, slice_get}
use Rattle.elab_rules.specs.cpp_types.Typ.{Typ, typ, void, int, enum, null, ptr, ref, array, func, class, closure, tx_ex}
use Rattle.elab_rules.specs.cpp_types.Class.{Class, Member, completion_of}
use Rattle.elab_rules.specs.cpp_tree.Notation.{plain}
use Rattle.elab_rules.specs.cpp_tree.Parts.{size_in}
use Rattle.elab_rules.specs.cpp_tree.Typing.{passes, form_in, is_class_typ, is_reference}
use Rattle.elab_rules.specs.elab_ctx.Ctx.{Ctx, Work}
use Rattle.elab_rules.specs.Types.{is_nothing}
use Rattle.elab_rules.specs.Calls.{base_of_class}
use Rattle.elab_rules.specs.Names.{members_in}
use Rattle.elab_rules.specs.Objects.{is_array}
use Rattle.elab_fits.specs.Scalars.{is_scalar}
use Rattle.elab_fits.specs.Objects.{IsElementType}
use Rattle.elab_fits.proofs.Nodes.{both}
use Rattle.elab_fits.proofs.Objects.{Laid, Sized, laid_from, sized_from, size_is, member_sized, base_sized}
use Rattle.elab_fits_forms.specs.Types.{is_lambda}
use Rattle.elab_fits_bodies.specs.Built.{IsMember}
use Rattle.elab_fits_bodies.specs.Copied.{IsCopied}
use Rattle.elab_sound_types.specs.Types.{object, variable}
use Rattle.elab_sound_types.specs.Types as sound
use Rattle.elab_sound_types.specs.Contexts.{HasSoundTypes, member_use}
use Rattle.elab_contexts.specs.Holding.{UnitHolds}
use Rattle.elab_contexts.specs.Steps.{has_name, is_written}
use Rattle.elab_contexts.specs.Texts.{is_no_name}
use Rattle.elab_holds.proofs.Sound.{class_named, no_lambda, lambda_same, listed, name_found, is_true}
use Rattle.elab_holds.proofs.Order.{order_law, member_sound, base_complete}
use Rattle.elab_holds.proofs.Ready.{listed_ready, variable_is_ready, single_member}
use Rattle.elab_holds.proofs.Complete.{class_sized, complete_law}
use Rattle.elab_fits_parts.specs.Parts.{IsHome, PointersAreWords, PartsHold}
use Rattle.elab_fits_parts.proofs.Objects.{made}
use Rattle.elab_fits_parts.proofs.Pointers.{pointer_word}

-- Types

-- an object that has a name is a variable
object_variable : (cs : List Class) (t : Typ) → sound.is_sound cs object t ≡ true → sound.is_sound cs variable t ≡ true
object_variable cs (typ void c v) h = absurd cc
object_variable cs (typ (ref t) c v) h = is_true false _ refl h
object_variable cs (typ (func s) c v) h = is_true false _ refl h
object_variable cs (typ (closure n) c v) h = is_true false _ refl h
object_variable cs (typ (array t n) c v) h = h
object_variable cs (typ (int k) c v) h = refl
object_variable cs (typ (enum n e) c v) h = refl
object_variable cs (typ null c v) h = refl
object_variable cs (typ (ptr t) c v) h = h
object_variable cs (typ (class n) c v) h = h
object_variable cs (typ (tx_ex (typ f d w)) c v) h = h

-- a variable that is no reference and no lambda's object is an object
written_object : (cs : List Class) (t : Typ) → is_reference t ≡ false → is_written cs t ≡ true → sound.is_sound cs variable t ≡ true
    → sound.is_sound cs object t ≡ true
written_object cs (typ void c v) n w h = absurd cc
written_object cs (typ (ref t) c v) n w h = absurd cc
written_object cs (typ (func s) c v) n w h = is_true false _ refl h
written_object cs (typ (closure m) c v) n w h = absurd cc
written_object cs (typ (array t m) c v) n w h = h
written_object cs (typ (int k) c v) n w h = refl
written_object cs (typ (enum m e) c v) n w h = refl
written_object cs (typ null c v) n w h = refl
written_object cs (typ (ptr t) c v) n w h = h
written_object cs (typ (class m) c v) n w h = h
written_object cs (typ (tx_ex (typ f d e)) c v) n w h = h

member_object : (cs : List Class) (b : Bool) (t : Typ) → is_reference t ≡ false → is_written cs t ≡ true → sound.is_sound cs (member_use b) t ≡ true
    → sound.is_sound cs object t ≡ true
member_object cs true t n w h = written_object cs t n w h
member_object cs false t n w h = h

formed : (cs : List Class) (t : Typ) → sound.is_sound cs object t ≡ true → (is_array t || (is_class_typ t || is_scalar (form_in t))) ≡ true
formed cs (typ void c v) h = absurd cc
formed cs (typ (ref t) c v) h = is_true false _ refl h
formed cs (typ (func s) c v) h = is_true false _ refl h
formed cs (typ (closure n) c v) h = refl
formed cs (typ (array t n) c v) h = refl
formed cs (typ (int k) c v) h = refl
formed cs (typ (enum n e) c v) h = refl
formed cs (typ null c v) h = refl
formed cs (typ (ptr t) c v) h = refl
formed cs (typ (class n) c v) h = refl
formed cs (typ (tx_ex t) c v) h = refl

no_reference : (a b r : Bool) → a ≡ false → (a && b || not r) ≡ true → r ≡ false
no_reference false b false e h = refl
no_reference false b true e h = absurd cc
no_reference true b r e h = absurd cc

name_of : (cs : List Class) (n : ℕ) (k : Class) → slice_get cs n ≡ Some k → has_name cs n ≡ true → is_no_name k.name ≡ false
name_of cs n k e h = by k.name (sym (ap (λ (o : Option Class). passes (λ (x : Class). not (is_no_name x.name)) o) e) ∙ h)
  where
    by : (xs : List ℕ) → not (is_no_name xs) ≡ true → is_no_name xs ≡ false
    by [] q = absurd cc
    by (x ∷ xs) q = refl

sized_some : (cs : List Class) (t : Typ) → Sized cs t → is_some (size_in cs t) ≡ true
sized_some cs t h = ap is_some (size_is cs t h)

-- Classes

module _ (c : Ctx) (w : Work) (u : UnitHolds c) (h : HasSoundTypes c w) where
  laid : (n : ℕ) → is_some (completion_of c.classes n) ≡ true → Laid c.classes n
  laid n k = laid_from c.classes n false false (sized_from c.classes (plain (class n)) (class_sized c u n k))

  module _ (n : ℕ) (home : IsHome c.classes n) where
    abbrev owner : Laid c.classes n
    owner = laid n home.complete

    owner_named : is_no_name owner.owner.name ≡ false
    owner_named = name_of c.classes n owner.owner owner.found (class_named c.classes n home.named)

    base_is : (b : ℕ) → base_of_class (slice_get c.classes n) ≡ Some b → owner.owner.base ≡ Some b
    base_is b e = sym (ap base_of_class owner.found) ∙ e

    base_part : (b : ℕ) → owner.owner.base ≡ Some b → IsElementType c.classes true (plain (class b))
    base_part b e = record {
      sized = sized_some c.classes (plain (class b)) (base_sized c.classes (order_law c w u h) n owner b e);
      ready = listed_ready c w u h (plain (class b)) (base_complete c u n b owner.owner owner.found e);
      single = refl;
    }

    base_sound : (b : ℕ) → owner.owner.base ≡ Some b → sound.is_sound c.classes object (plain (class b)) ≡ true
    base_sound b e = let k = u.bases n b owner.owner owner.found e in
        both (listed c.classes b (name_found c.classes b k)) (ap not (lambda_same c.classes b ∙ no_lambda c.classes b k))

    member_is : (i : ℕ) (m : Member) → IsMember c n i m → slice_get owner.owner.members i ≡ Some m
    member_is i m e = sym (ap (λ (o : Option Class). slice_get (members_in o) i) owner.found) ∙ e

    member_typed : (i : ℕ) (m : Member) → slice_get owner.owner.members i ≡ Some m → sound.is_sound c.classes object m.typ ≡ true
    member_typed i m e = member_object c.classes (is_nothing m.name) m.typ
        (no_reference (is_no_name owner.owner.name) (is_no_name m.name) (is_reference m.typ) owner_named (u.objects n i owner.owner m owner.found e))
        (u.members n i owner.owner m owner.found owner_named e) (member_sound c w h n i owner.owner m owner.found e)

    member_copied : (i : ℕ) (m : Member) → slice_get owner.owner.members i ≡ Some m → IsCopied c (is_lambda c.classes) m.typ
    member_copied i m e =
        let t = member_typed i m e in
        let z = sized_some c.classes m.typ (member_sized c.classes (order_law c w u h) n owner i m e) in
        record {
          formed = formed c.classes m.typ t;
          element = record {
            sized = z;
            ready = variable_is_ready c w u h m.typ (object_variable c.classes m.typ t);
            single = single_member c.classes false m.typ t;
          };
          object = λ q. made c (λ j k. complete_law c w j u h k) m.typ t (λ k. z);
        }

pub pointers_law : PointersAreWords
pointers_law c w n u h k o e = pointer_word c.classes (order_law c w u h) (laid c w u h) n o k e

pub parts_law : PartsHold
parts_law c w n u h k = record {
  pointer = λ o e. pointers_law c w n u h k.complete o e;
  base = λ b e. base_part c w u h n k b (base_is c w u h n k b e);
  based = λ b e. base_sound c w u h n k b (base_is c w u h n k b e);
  members = λ i m e. member_copied c w u h n k i m (member_is c w u h n k i m e);
  typed = λ i m e. member_typed c w u h n k i m (member_is c w u h n k i m e);
}
