-- A class is named for the first time, and a class gets its brace: the types that were sound are so still.
use Rattle.std.proofs.Common.{◌≡◌, refl, sym, ap, ◌∙◌, subst, ℕ, zero, suc, pred, ◌≤◌, true, false, List, [], ◌∷◌, ◌++◌, length, Option, Some, None}
use Rattle.std.proofs.Common.{unwrap_or, is_some, nat_lt}
use Rattle.std.specs.Prelude.{slice_set, slice_get, not}
use Rattle.std.specs.List.{list_all}
use Rattle.std.proofs.lemmas.Bool.{and_parts, lt-ltb}
use Rattle.std.proofs.Math.Nat.{le_refl, lt-suc_self}
use Rattle.elab_rules.specs.cpp_types.Typ.{class}
use Rattle.elab_rules.specs.cpp_types.Class.{Class, completion_of}
use Rattle.elab_rules.specs.cpp_tree.Notation.{plain}
use Rattle.elab_rules.specs.cpp_tree.Typing.{passes}
use Rattle.elab_rules.specs.cpp_tree.Units.{SlotFunc}
use Rattle.elab_rules.specs.elab_ctx.Ctx.{Ctx, Work, Traits}
use Rattle.elab_rules.specs.Objects.{no_traits}
use Rattle.elab_rules.specs.Types.{is_nothing}
use Rattle.elab_rules.specs.Classes.{class_named, with_class}
use Rattle.elab_sound_types.specs.Types.{is_lambda, is_class}
use Rattle.elab_sound_types.specs.Contexts.{HasSoundTypes, has_sound_members, is_sound_member}
use Rattle.elab_sound_types.specs.States.{Kept}
use Rattle.elab_sound_types.proofs.Sound.{both}
use Rattle.elab_sound_types.proofs.Closures.{names_more, classes_more, functions_more, variables_more, this_more, captures_more, globals_more, all_and_one}
use Rattle.elab_sound_types.proofs.Closures.{length_one, one_kept}
use Rattle.elab_sound_types.proofs.Objects.{not_true}
use Rattle.elab_sound_types.proofs.States.{all_but}
use Rattle.elab_sound_units.proofs.Contexts.{names_with}

-- One class more

at_end : (xs : List Class) (k : Class) → slice_get (xs ++ k ∷ []) (length xs) ≡ Some k
at_end [] k = refl
at_end (x ∷ xs) k = at_end xs k

-- it is declared, and no lambda's where it has a name
pub last_class : (xs : List Class) (k : Class) → is_nothing k.name ≡ false → is_class (xs ++ k ∷ []) (length xs) ≡ true
last_class xs k h = both (ap (λ (n : ℕ). nat_lt (length xs) n) (length_one xs k) ∙ lt-ltb (length xs) (suc (length xs)) (lt-suc_self (length xs)))
    (ap (λ (o : Option Class). not (passes (λ (x : Class). is_nothing x.name) o)) (at_end xs k) ∙ ap not h)

no_more : (ts : List Traits) (i : ℕ) → unwrap_or (slice_get (ts ++ no_traits ∷ []) i) no_traits ≡ unwrap_or (slice_get ts i) no_traits
no_more [] zero = refl
no_more [] (suc i) = refl
no_more (t ∷ ts) zero = refl
no_more (t ∷ ts) (suc i) = no_more ts i

pub named_sound : (c : Ctx) (w : Work) (name : List ℕ) → is_nothing name ≡ false → HasSoundTypes c w → HasSoundTypes (with_class c name) w
named_sound c w name e h = record {
  types = names_with n c.types name (plain (class (length m))) (last_class m k e) (names_more m n l c.types h.types);
  members = all_and_one (has_sound_members n) m k (classes_more m n l m h.members) refl;
  functions = functions_more m n l c.funcs h.functions;
  enumerators = h.enumerators;
  variables = variables_more m n l c.variables h.variables;
  this = this_more m n l c.this h.this;
  captures = captures_more m n l c.lambda h.captures;
  globals = globals_more m n l w h.globals;
  many = length_one c.traits no_traits ∙ ap suc h.many ∙ sym (length_one m k);
  copied = λ i g. l.complete i (h.copied i (subst (λ (t : Traits). t.is_trivially_copyable ≡ true) (no_more c.traits i) g));
}
  where
    m : List Class
    m = c.classes

    k : Class
    k = class_named name None false [] [] None

    n : List Class
    n = m ++ k ∷ []

    l : Kept m n
    l = one_kept m k

-- A brace

set_length : {A : Type 0} (xs : List A) (i : ℕ) (x : A) → length (slice_set xs i x) ≡ length xs
set_length [] i x = refl
set_length (y ∷ ys) zero x = refl
set_length (y ∷ ys) (suc i) x = ap suc (set_length ys i x)

set_name : (xs : List Class) (n : ℕ) (k : Class) (i : ℕ) → is_nothing k.name ≡ false → is_lambda xs n ≡ false → is_lambda (slice_set xs n k) i ≡ is_lambda xs i
set_name [] n k i h g = refl
set_name (x ∷ xs) zero k zero h g = h ∙ sym g
set_name (x ∷ xs) zero k (suc i) h g = refl
set_name (x ∷ xs) (suc n) k zero h g = refl
set_name (x ∷ xs) (suc n) k (suc i) h g = set_name xs n k i h g

set_complete : (xs : List Class) (n : ℕ) (k : Class) (i : ℕ) → is_some k.complete ≡ true → is_some (completion_of xs i) ≡ true
    → is_some (completion_of (slice_set xs n k) i) ≡ true
set_complete [] n k i h g = g
set_complete (x ∷ xs) zero k zero h g = h
set_complete (x ∷ xs) zero k (suc i) h g = g
set_complete (x ∷ xs) (suc n) k zero h g = g
set_complete (x ∷ xs) (suc n) k (suc i) h g = set_complete xs n k i h g

-- a class whose objects may be copied as bytes is complete
set_copied : (ts : List Traits) (xs : List Class) (n : ℕ) (t : Traits) (k : Class) → length ts ≡ length xs → is_some k.complete ≡ true
    → ((i : ℕ) → (unwrap_or (slice_get ts i) no_traits).is_trivially_copyable ≡ true → is_some (completion_of xs i) ≡ true) → (i : ℕ)
    → (unwrap_or (slice_get (slice_set ts n t) i) no_traits).is_trivially_copyable ≡ true → is_some (completion_of (slice_set xs n k) i) ≡ true
set_copied [] [] n t k e q old i h = old i h
set_copied [] (x ∷ xs) n t k e q old i h = absurd cc
set_copied (y ∷ ys) [] n t k e q old i h = absurd cc
set_copied (y ∷ ys) (x ∷ xs) zero t k e q old zero h = q
set_copied (y ∷ ys) (x ∷ xs) zero t k e q old (suc i) h = old (suc i) h
set_copied (y ∷ ys) (x ∷ xs) (suc n) t k e q old zero h = old zero h
set_copied (y ∷ ys) (x ∷ xs) (suc n) t k e q old (suc i) h = set_copied ys xs n t k (ap pred e) q (λ j g. old (suc j) g) i h

pub set_kept : (xs : List Class) (n : ℕ) (k : Class) → is_class xs n ≡ true → is_nothing k.name ≡ false → is_some k.complete ≡ true
    → Kept xs (slice_set xs n k)
set_kept xs n k h e q = record {
  longer = subst (λ (i : ℕ). length xs ≤ i) (sym (set_length xs n k)) (le_refl (length xs));
  names = λ i g. set_name xs n k i e (not_true (is_lambda xs n) (and_parts (nat_lt n (length xs)) (not (is_lambda xs n)) h).1);
  complete = λ i g. set_complete xs n k i q g;
}

-- where a class that has a name is complete, with its members, and has its traits
pub braced_sound : (c : Ctx) (w : Work) (i : ℕ) (k : Class) (slots : List (List SlotFunc)) (t : Traits) → HasSoundTypes c w → is_class c.classes i ≡ true
    → is_nothing k.name ≡ false → is_some k.complete ≡ true → list_all (is_sound_member c.classes) k.members ≡ true
    → HasSoundTypes (record c { classes = slice_set c.classes i k; slots = slots; traits = slice_set c.traits i t }) w
braced_sound c w i k slots t h e f g o = record {
  types = names_more m n l c.types h.types;
  members = classes_more m n l (slice_set m i k) (all_but (has_sound_members m) m i k o h.members);
  functions = functions_more m n l c.funcs h.functions;
  enumerators = h.enumerators;
  variables = variables_more m n l c.variables h.variables;
  this = this_more m n l c.this h.this;
  captures = captures_more m n l c.lambda h.captures;
  globals = globals_more m n l w h.globals;
  many = set_length c.traits i t ∙ h.many ∙ sym (set_length m i k);
  copied = set_copied c.traits m i t k h.many g h.copied;
}
  where
    m : List Class
    m = c.classes

    n : List Class
    n = slice_set m i k

    l : Kept m n
    l = set_kept m i k e f g
