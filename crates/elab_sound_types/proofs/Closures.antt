-- Contexts in which a class is added: the types that were sound are so still.
use Rattle.std.proofs.Common.{◌≡◌, refl, ap, ◌∙◌, sym, subst, ℕ, zero, suc, ◌≤◌, nat_lt, Bool, true, false, List, [], ◌∷◌, ◌++◌, length}
use Rattle.std.proofs.Common.{Option, Some, None, is_some, arith}
use Rattle.std.specs.Prelude.{count_by, slice_get, unwrap_or}
use Rattle.std.specs.List.{list_all}
use Rattle.std.proofs.lemmas.Bool.{and_parts, lt-ltb, ltb-true}
use Rattle.std.proofs.lemmas.List.Folds.{list_all-append}
use Rattle.std.proofs.Math.Nat.{le-suc, le_refl}
use Rattle.elab_rules.specs.cpp_types.Typ.{Typ, Form, void, int, enum, null, ptr, ref, array, func, class, closure, tx_ex}
use Rattle.elab_rules.specs.cpp_types.Class.{Class, Function, completion_of}
use Rattle.elab_rules.specs.elab_ctx.Ctx.{Ctx, Work, Func, Variable, This, Capture, Lambda, Closure, Returns, known, deduced, Traits}
use Rattle.elab_rules.specs.elab_ctx.Types.{Named}
use Rattle.elab_rules.specs.Objects.{no_traits}
use Rattle.elab_rules.specs.Types.{Parameter, is_nothing}
use Rattle.elab_rules.specs.Classes
use Rattle.elab_rules.specs.Lambdas as lambdas
use Rattle.elab_sound_types.specs.Types.{variable, parameter, denoted, declared, is_lambda, is_sound_signature}
use Rattle.elab_sound_types.specs.Contexts.{HasSoundTypes, member_use, is_sound_member, has_sound_members, is_sound_function, is_sound_known, is_sound_variable}
use Rattle.elab_sound_types.specs.Contexts.{is_sound_this, is_object_of_class, is_sound_capture, are_sound_captures, is_sound_closure, is_sound_name, is_sound_global}
use Rattle.elab_sound_types.specs.Contexts.{is_sound_parameter, are_sound_closures, are_sound_globals}
use Rattle.elab_sound_types.specs.States.{Kept, is_sound_return}
use Rattle.elab_sound_types.proofs.Sound.{both}
use Rattle.elab_sound_types.proofs.Growth.{lambda_more, class_more, sound_more, signature_more}

-- Lists

pub all_more : {A : Type 0} (p q : A → Bool) (xs : List A) → ((x : A) → p x ≡ true → q x ≡ true) → list_all p xs ≡ true → list_all q xs ≡ true
all_more p q [] h g = refl
all_more p q (x ∷ xs) h g = let a = and_parts (p x) (list_all p xs) g in both (h x a.0) (all_more p q xs h a.1)

pub all_and_one : {A : Type 0} (p : A → Bool) (xs : List A) (x : A) → list_all p xs ≡ true → p x ≡ true → list_all p (xs ++ x ∷ []) ≡ true
all_and_one p xs x h g = list_all-append p xs (x ∷ []) ∙ both h (both g refl)

pub length_one : {A : Type 0} (xs : List A) (x : A) → length (xs ++ x ∷ []) ≡ suc (length xs)
length_one [] x = refl
length_one (y ∷ ys) x = ap suc (length_one ys x)

-- Parts of a context, with more classes

module _ (old new : List Class) (l : Kept old new) where
  known_more : (o : Option Typ) → is_sound_known old o ≡ true → is_sound_known new o ≡ true
  known_more (Some t) h = sound_more old new l variable t h
  known_more None h = refl

  object_more : (f : Form) → is_object_of_class old f ≡ true → is_object_of_class new f ≡ true
  object_more (class k) h = class_more old new l k h
  object_more (closure k) h = lambda_more old new l k h
  object_more void h = absurd cc
  object_more (int k) h = absurd cc
  object_more (enum e s) h = absurd cc
  object_more null h = absurd cc
  object_more (ptr t) h = absurd cc
  object_more (ref t) h = absurd cc
  object_more (array t k) h = absurd cc
  object_more (func s) h = absurd cc
  object_more (tx_ex t) h = absurd cc

  pub names_more : (xs : List Named) → list_all (is_sound_name old) xs ≡ true → list_all (is_sound_name new) xs ≡ true
  names_more xs h = all_more (is_sound_name old) (is_sound_name new) xs (λ x i. sound_more old new l denoted x.typ i) h

  members_more : (x : Class) → has_sound_members old x ≡ true → has_sound_members new x ≡ true
  members_more x h = all_more (is_sound_member old) (is_sound_member new) x.members (λ y i. sound_more old new l (member_use (is_nothing y.name)) y.typ i) h

  pub classes_more : (xs : List Class) → list_all (has_sound_members old) xs ≡ true → list_all (has_sound_members new) xs ≡ true
  classes_more xs h = all_more (has_sound_members old) (has_sound_members new) xs members_more h

  pub functions_more : (xs : List Func) → list_all (is_sound_function old) xs ≡ true → list_all (is_sound_function new) xs ≡ true
  functions_more xs h = all_more (is_sound_function old) (is_sound_function new) xs (λ x i. signature_more old new l x.declared.signature i) h

  pub variables_more : (xs : List Variable) → list_all (is_sound_variable old) xs ≡ true → list_all (is_sound_variable new) xs ≡ true
  variables_more xs h = all_more (is_sound_variable old) (is_sound_variable new) xs (λ x i. known_more x.typ i) h

  pub this_more : (o : Option This) → is_sound_this old o ≡ true → is_sound_this new o ≡ true
  this_more (Some t) h = object_more _ h
  this_more None h = refl

  pub captured_more : (xs : List Capture) → list_all (is_sound_capture old) xs ≡ true → list_all (is_sound_capture new) xs ≡ true
  captured_more xs h = all_more (is_sound_capture old) (is_sound_capture new) xs (λ x i. sound_more old new l variable x.typ i) h

  pub captures_more : (o : Option Lambda) → are_sound_captures old o ≡ true → are_sound_captures new o ≡ true
  captures_more (Some x) h = captured_more x.captures h
  captures_more None h = refl

  pub closures_more : (xs : List Closure) → are_sound_closures old xs ≡ true → are_sound_closures new xs ≡ true
  closures_more xs h = all_more (is_sound_closure old) (is_sound_closure new) xs (λ x i. lambda_more old new l x.class i) h

  pub globals_more : (w : Work) → are_sound_globals old w ≡ true → are_sound_globals new w ≡ true
  globals_more w h = all_more (is_sound_global old) (is_sound_global new) w.globals (λ x i. sound_more old new l _ x.typ i) h

  pub return_more : (r : Returns) → is_sound_return old r ≡ true → is_sound_return new r ≡ true
  return_more (known t) h = refl
  return_more (deduced None) h = refl
  return_more (deduced (Some t)) h = sound_more old new l declared t h

  pub parameters_more : (ps : List Parameter) → list_all (is_sound_parameter old) ps ≡ true → list_all (is_sound_parameter new) ps ≡ true
  parameters_more ps h = all_more (is_sound_parameter old) (is_sound_parameter new) ps (λ p i. sound_more old new l parameter p.typ i) h

-- A class more

pub one_longer : (xs : List Class) (x : Class) → length xs ≤ length (xs ++ x ∷ [])
one_longer xs x = subst (λ (k : ℕ). length xs ≤ k) (sym (length_one xs x)) (le-suc (length xs))

names_before : (xs : List Class) (x : Class) (k : ℕ) → nat_lt k (length xs) ≡ true → is_lambda (xs ++ x ∷ []) k ≡ is_lambda xs k
names_before [] x k h = let lt = ltb-true k 0 h in absurd (omega arith)
names_before (y ∷ ys) x zero h = refl
names_before (y ∷ ys) x (suc k) h = let lt = ltb-true (suc k) (suc (length ys)) h in names_before ys x k (lt-ltb k (length ys) (omega arith))

complete_before : (xs : List Class) (x : Class) (k : ℕ) → is_some (completion_of xs k) ≡ true → is_some (completion_of (xs ++ x ∷ []) k) ≡ true
complete_before [] x k h = absurd cc
complete_before (y ∷ ys) x zero h = h
complete_before (y ∷ ys) x (suc k) h = complete_before ys x k h

pub one_kept : (xs : List Class) (x : Class) → Kept xs (xs ++ x ∷ [])
one_kept xs x = record { longer = one_longer xs x; names = names_before xs x; complete = complete_before xs x }

-- a class without a name is a lambda's
pub one_nameless : (xs : List Class) (x : Class) → is_nothing x.name ≡ true → is_lambda (xs ++ x ∷ []) (length xs) ≡ true
one_nameless [] x h = h
one_nameless (y ∷ ys) x h = one_nameless ys x h

-- two last classes that have a name or none, and are complete, in the same way
names_last : (xs : List Class) (x y : Class) (k : ℕ) → is_nothing y.name ≡ is_nothing x.name → is_lambda (xs ++ y ∷ []) k ≡ is_lambda (xs ++ x ∷ []) k
names_last [] x y zero e = e
names_last [] x y (suc k) e = refl
names_last (z ∷ zs) x y zero e = refl
names_last (z ∷ zs) x y (suc k) e = names_last zs x y k e

complete_last : (xs : List Class) (x y : Class) (k : ℕ) → y.complete ≡ x.complete → is_some (completion_of (xs ++ x ∷ []) k) ≡ true
    → is_some (completion_of (xs ++ y ∷ []) k) ≡ true
complete_last [] x y zero e h = ap is_some e ∙ h
complete_last [] x y (suc k) e h = h
complete_last (z ∷ zs) x y zero e h = h
complete_last (z ∷ zs) x y (suc k) e h = complete_last zs x y k e h

pub last_kept : (xs : List Class) (x y : Class) → is_nothing y.name ≡ is_nothing x.name → y.complete ≡ x.complete → Kept (xs ++ x ∷ []) (xs ++ y ∷ [])
last_kept xs x y e i = record {
  longer = subst (λ (k : ℕ). length (xs ++ x ∷ []) ≤ k) (length_one xs x ∙ sym (length_one xs y)) (le_refl (length (xs ++ x ∷ [])));
  names = λ k h. names_last xs x y k e;
  complete = λ k h. complete_last xs x y k i h;
}

-- Traits

abbrev is_copied : List Traits → ℕ → Bool
is_copied ts k = (unwrap_or (slice_get ts k) no_traits).is_trivially_copyable

-- with a class more that is complete, what is copied as bytes is complete
copied_more : (ts : List Traits) (xs : List Class) (t : Traits) (x : Class) (m : ℕ) → length ts ≡ length xs → x.complete ≡ Some m
    → ((k : ℕ) → is_copied ts k ≡ true → is_some (completion_of xs k) ≡ true) → (k : ℕ) → is_copied (ts ++ t ∷ []) k ≡ true
    → is_some (completion_of (xs ++ x ∷ []) k) ≡ true
copied_more [] [] t x m e i h zero g = ap is_some i
copied_more [] [] t x m e i h (suc k) g = absurd cc
copied_more [] (y ∷ ys) t x m e i h k g = absurd cc
copied_more (u ∷ us) [] t x m e i h k g = absurd cc
copied_more (u ∷ us) (y ∷ ys) t x m e i h zero g = h zero g
copied_more (u ∷ us) (y ∷ ys) t x m e i h (suc k) g = copied_more us ys t x m (shorter (length us) (length ys) e) i (λ j. h (suc j)) k g
  where
    shorter : (a b : ℕ) → suc a ≡ suc b → a ≡ b
    shorter a b e = cc

-- The class of a lambda

members_of : (cs : List Class) (xs : List Capture) → list_all (is_sound_capture cs) xs ≡ true → list_all (is_sound_member cs) (lambdas.capture_members xs) ≡ true
members_of cs [] h = refl
members_of cs (x ∷ xs) h = let a = and_parts (is_sound_capture cs x) (list_all (is_sound_capture cs) xs) h in both a.0 (members_of cs xs a.1)

-- with the class of a lambda, which captures these, and its call
pub with_closure : (c : Ctx) (w : Work) (xs : List Capture) (g : Function) (ps : List Parameter) (closed : ℕ) → HasSoundTypes c w
    → list_all (is_sound_capture c.classes) xs ≡ true → is_sound_signature (lambdas.with_closure c xs g ps closed).classes g.signature ≡ true
    → HasSoundTypes (lambdas.with_closure c xs g ps closed) w
with_closure c w xs g ps closed h i j = record {
  types = names_more old new l c.types h.types;
  members = all_and_one (has_sound_members new) c.classes x (classes_more old new l c.classes h.members) (members_of new xs (captured_more old new l xs i));
  functions = all_and_one (is_sound_function new) c.funcs _ (functions_more old new l c.funcs h.functions) j;
  enumerators = h.enumerators;
  variables = variables_more old new l c.variables h.variables;
  this = this_more old new l c.this h.this;
  captures = captures_more old new l c.lambda h.captures;
  globals = globals_more old new l w h.globals;
  many = length_one c.traits (lambdas.closure_traits c xs) ∙ ap suc h.many ∙ sym (length_one old x);
  copied = copied_more c.traits old (lambdas.closure_traits c xs) x (count_by Classes.is_completed old) h.many refl h.copied;
}
  where
    old : List Class
    old = c.classes

    x : Class
    x = Classes.class_named [] None false (lambdas.capture_members xs) (g ∷ []) (Some (count_by Classes.is_completed old))

    new : List Class
    new = old ++ x ∷ []

    l : Kept old new
    l = one_kept old x
