-- The special members of classes and the parameters of functions are as the laws of objects ask.
use Rattle.std.proofs.Common.{◌≡◌, refl, ap, ◌∙◌, subst, ℕ, Bool, true, false, not, List, is_some, Option, Some, None, slice_get, option_and_then}
use Rattle.std.proofs.lemmas.Bool.{and_parts}
use Rattle.elab_rules.specs.cpp_types.Typ.{Typ, typ, Form, void, int, enum, null, ptr, ref, array, func, class, closure, tx_ex, Typs, none as no_typs, more as and_typ}
use Rattle.elab_rules.specs.cpp_types.Typ.{Signature, signature}
use Rattle.elab_rules.specs.cpp_types.Class.{Class, completion_of}
use Rattle.elab_rules.specs.cpp_types.declared.ranks.Cat.TheVariants.{Lvalue}
use Rattle.elab_rules.specs.cpp_tree.Notation.{plain}
use Rattle.elab_rules.specs.cpp_tree.Parts.{size_in}
use Rattle.elab_rules.specs.cpp_tree.Typing.{passes}
use Rattle.elab_rules.specs.elab_ctx.Ctx.{Ctx, Work}
use Rattle.elab_rules.specs.Initialising.{signature_parameters}
use Rattle.elab_rules.specs.tx_ints.declared.kinds.IntKind.{IntKind}
use Rattle.elab_rules.specs.tx_ints.declared.kinds.IntKind.TheVariants.{Bool as BoolKind, Char, SChar, UChar, Short, UShort, Int, UInt, Long, ULong, LLong}
use Rattle.elab_rules.specs.tx_ints.declared.kinds.IntKind.TheVariants.{ULLong}
use Rattle.elab_fits.specs.Standing.{IsExpressionType}
use Rattle.elab_fits.proofs.Nodes.{both, or_left}
use Rattle.elab_fits_objects.specs.Contexts.{is_whole, IsObjectTyp, IsParameter, AreParameters}
use Rattle.elab_sound_types.specs.Contexts.{HasSoundTypes, is_sound_function}
use Rattle.elab_sound_types.proofs.Names.{at_place}
use Rattle.elab_fits_forms.specs.Types.{is_empty, is_lambda, is_exception_value, is_parameter, are_parameters, is_sound_signature, is_result, IsWhole}
use Rattle.elab_fits_forms.proofs.Types.{target_type, target_no_void}
use Rattle.elab_contexts.specs.Holding.{UnitHolds}
use Rattle.elab_holds.specs.Contexts.{MakersHold}
use Rattle.elab_holds.proofs.Sound.{signature_sound, name_same}
use Rattle.elab_holds.proofs.Ready.{parts_fine}
use Rattle.elab_holds.proofs.Complete.{complete_law}

-- Classes of lambdas are complete

pub lambda_complete : (c : Ctx) → UnitHolds c → (n : ℕ) → is_lambda c.classes n ≡ true → is_some (completion_of c.classes n) ≡ true
lambda_complete c u n h = by (slice_get c.classes n) refl h
  where
    by : (o : Option Class) → slice_get c.classes n ≡ o → passes (λ (k : Class). is_empty k.name) o ≡ true
        → is_some (option_and_then (λ (k : Class). k.complete) o) ≡ true
    by None e q = absurd cc
    by (Some k) e q = u.nameless n k e (name_same k.name ∙ q)

whole_is : (cs : List Class) (t : Typ) → IsWhole cs t → is_whole cs t ≡ true
whole_is cs t x = both x.sized x.ready

-- Types of objects

number_sized : (cs : List Class) (k : IntKind) (q v : Bool) → is_some (size_in cs (typ (tx_ex (plain (int k))) q v)) ≡ true
number_sized cs BoolKind q v = refl
number_sized cs Char q v = refl
number_sized cs SChar q v = refl
number_sized cs UChar q v = refl
number_sized cs Short q v = refl
number_sized cs UShort q v = refl
number_sized cs Int q v = refl
number_sized cs UInt q v = refl
number_sized cs Long q v = refl
number_sized cs ULong q v = refl
number_sized cs LLong q v = refl
number_sized cs ULLong q v = refl

exception_object : (c : Ctx) (w : Work) → UnitHolds c → HasSoundTypes c w → (f : Form) (d e q v : Bool) → is_exception_value c.classes (typ f d e) ≡ true
    → IsObjectTyp c (is_lambda c.classes) (typ (tx_ex (typ f d e)) q v)
exception_object c w u h (int k) false false q v i = record {
  sorted = refl;
  whole = λ z. whole_is c.classes (typ (tx_ex (plain (int k))) q v) (record { sized = number_sized c.classes k q v; ready = refl });
  complete = λ z. refl;
}
exception_object c w u h (enum n s) false false q v i = record { sorted = refl; whole = λ z. refl; complete = λ z. refl }
exception_object c w u h (class n) false false q v i =
    let p = and_parts (is_some (completion_of c.classes n)) (not (is_lambda c.classes n)) i in
    let x = (complete_law c w n u h p.0).whole (class n) q v refl p.1 in record {
      sorted = p.1;
      whole = λ z. whole_is c.classes (typ (tx_ex (plain (class n))) q v) (record { sized = x.sized; ready = x.ready });
      complete = λ z. p.0;
    }
exception_object c w u h f d e q v i = absurd cc

object_is : (c : Ctx) (w : Work) → UnitHolds c → HasSoundTypes c w → (n : ℕ) (q v : Bool) → not (is_lambda c.classes n) ≡ true
    → IsObjectTyp c (is_lambda c.classes) (typ (class n) q v)
object_is c w u h n q v i = record {
  sorted = i;
  whole = λ d. whole_is c.classes (typ (class n) q v) ((complete_law c w n u h d).whole (class n) q v refl i);
  complete = λ e. absurd cc;
}

closure_is : (c : Ctx) (w : Work) → UnitHolds c → HasSoundTypes c w → (n : ℕ) (q v : Bool) → is_lambda c.classes n ≡ true
    → IsObjectTyp c (is_lambda c.classes) (typ (closure n) q v)
closure_is c w u h n q v i = record {
  sorted = i;
  whole = λ d. whole_is c.classes (typ (closure n) q v) ((complete_law c w n u h d).whole (closure n) q v refl i);
  complete = λ e. lambda_complete c u n i;
}

-- Parameters

reference_is : (t u : Typ) → ref t ≡ ref u → t ≡ u
reference_is t u h = cc

parameter_is : (c : Ctx) (w : Work) → UnitHolds c → HasSoundTypes c w → (p : Typ) → is_parameter c.classes p ≡ true → IsParameter c (is_lambda c.classes) p
parameter_is c w u h (typ (int k) q v) i = record { formed = refl; referred = λ t e. absurd cc; object = λ e. absurd cc }
parameter_is c w u h (typ (enum n b) q v) i = record { formed = refl; referred = λ t e. absurd cc; object = λ e. absurd cc }
parameter_is c w u h (typ null q v) i = record { formed = refl; referred = λ t e. absurd cc; object = λ e. absurd cc }
parameter_is c w u h (typ (ptr x) q v) i = record { formed = refl; referred = λ t e. absurd cc; object = λ e. absurd cc }
parameter_is c w u h (typ (ref x) q v) i = record {
  formed = or_left _ (ap not (target_no_void c.classes x i));
  referred = λ t e. subst (λ (z : Typ). IsExpressionType z Lvalue) (reference_is x t e) (target_type c.classes x i);
  object = λ e. absurd cc;
}
parameter_is c w u h (typ (class n) q v) i = record { formed = refl; referred = λ t e. absurd cc; object = λ e. object_is c w u h n q v i }
parameter_is c w u h (typ (closure n) q v) i = record { formed = refl; referred = λ t e. absurd cc; object = λ e. closure_is c w u h n q v i }
parameter_is c w u h (typ (tx_ex (typ f a b)) q v) i =
    record { formed = refl; referred = λ t e. absurd cc; object = λ e. exception_object c w u h f a b q v i }
parameter_is c w u h (typ void q v) i = absurd cc
parameter_is c w u h (typ (array t n) q v) i = absurd cc
parameter_is c w u h (typ (func g) q v) i = absurd cc

parameters_are : (c : Ctx) (w : Work) → UnitHolds c → HasSoundTypes c w → (ps : Typs) → are_parameters c.classes ps ≡ true
    → AreParameters c (is_lambda c.classes) ps
parameters_are c w u h no_typs i = tt
parameters_are c w u h (and_typ p ps) i = let d = and_parts (is_parameter c.classes p) (are_parameters c.classes ps) i in
    (parameter_is c w u h p d.0, parameters_are c w u h ps d.1)

signature_are : (c : Ctx) (w : Work) → UnitHolds c → HasSoundTypes c w → (s : Signature) → is_sound_signature c.classes s ≡ true
    → AreParameters c (is_lambda c.classes) (signature_parameters s)
signature_are c w u h (signature ps r safe) i = parameters_are c w u h ps (and_parts (are_parameters c.classes ps) (is_result c.classes r) i).0

pub makers_law : MakersHold
makers_law c w u h = record {
  specials = record { destructors = u.destructors };
  copies = u.copies;
  defaults = u.defaults;
  parameters = λ k f e. signature_are c w u h f.declared.signature
      (signature_sound c.classes f.declared.signature (at_place (is_sound_function c.classes) c.funcs k f h.functions e));
  captures = λ n i p l e. let x = parts_fine c w u h n i p e in record { ready = x.ready; single = x.single };
}
