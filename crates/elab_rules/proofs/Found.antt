-- Searches among all functions of a unit, by the places of those of a class or of a name.
use Rattle.std.proofs.Common.{◌≡◌, ◌∙◌, ◌&&◌, not, ℕ, suc, Bool, true, false, List, [], ◌∷◌, map}
use Rattle.std.proofs.Common.{Option, Some, None, is_some, if◌then◌else◌, refl, sym, ap}
use Rattle.std.proofs.lemmas.Bool.{and_parts}
use Rattle.std.proofs.lemmas.Slice.Eq.{bytes_eq-Decides}
use Rattle.std.specs.List.{list_any}
use Rattle.std.specs.Str.{bytes_eq}
use Rattle.elab_ctx.specs.Ctx.{Func, func_of}
use Rattle.elab_ctx.specs.declared.env.FuncDecl.{FuncDecl}
use Rattle.elab_ctx.specs.Places.{places_where, first_where, first_among, kept_among, any_among, is_number, is_member_of, is_free_of}
use Rattle.elab_ctx.proofs.Searches.{all_among, first_is_among, any_is_among, places_shown, first_shown, any_shown}
use Rattle.elab_rules.specs.Initialising.{places_from, kept_if, same_number}
use Rattle.elab_rules.specs.Functions.{first_from}
use Rattle.elab_rules.specs.Names.{is_free}

-- The same words

number_is : (n : ℕ) (o : Option ℕ) → same_number n o ≡ is_number n o
number_is n None = refl
number_is n (Some m) = refl

kept_is : (b : Bool) (i : ℕ) (is : List ℕ) → kept_if b i is ≡ (if b then i ∷ is else is)
kept_is true i is = refl
kept_is false i is = refl

places_are : (test : Func → Bool) (i : ℕ) (fs : List Func) → places_from test i fs ≡ places_where test i fs
places_are test i [] = refl
places_are test i (f ∷ fs) = ap (kept_if (test f) i) (places_are test (suc i) fs) ∙ kept_is (test f) i (places_where test (suc i) fs)

first_is : (test : Func → Bool) (i : ℕ) (fs : List Func) → first_from test i fs ≡ first_where test i fs
first_is test i [] = refl
first_is test i (f ∷ fs) = ap (λ (z : Option ℕ). if test f then Some i else z) (first_is test (suc i) fs)

-- tests that agree
module _ {A : Type 0} (s t : A → Bool) (same : (x : A) → s x ≡ t x) where
  places_agree : (i : ℕ) (xs : List A) → places_where s i xs ≡ places_where t i xs
  places_agree i [] = refl
  places_agree i (x ∷ xs) = ap (λ (b : Bool). if b then i ∷ places_where s (suc i) xs else places_where s (suc i) xs) (same x)
      ∙ ap (λ (z : List ℕ). if t x then i ∷ z else z) (places_agree (suc i) xs)

bytes_turned : (a b : List ℕ) → bytes_eq a b ≡ true → bytes_eq b a ≡ true
bytes_turned a b h = (bytes_eq-Decides b a).1 (sym ((bytes_eq-Decides a b).0 h))

bytes_both : (a b : List ℕ) (x y : Bool) → bytes_eq a b ≡ x → bytes_eq b a ≡ y → x ≡ y
bytes_both a b true y h k = sym (bytes_turned a b h) ∙ k
bytes_both a b false true h k = sym h ∙ bytes_turned b a k
bytes_both a b false false h k = refl

free_is : (name : List ℕ) (f : FuncDecl) → is_free name (func_of f) ≡ is_free_of name f
free_is name f = ap (λ (b : Bool). b && not (is_some f.class))
    (bytes_both f.rec.name.items name (bytes_eq f.rec.name.items name) (bytes_eq name f.rec.name.items) refl refl)

-- All functions of a class, and of a name

pub class_all : (n : ℕ) (fs : List FuncDecl) (places : List ℕ) → places ≡ places_where (is_member_of n) 0 fs
    → places ≡ places_from (λ (f : Func). same_number n f.class) 0 (map func_of fs)
class_all n fs places e =
    e ∙ places_agree (is_member_of n) (λ (f : FuncDecl). same_number n f.class) (λ (f : FuncDecl). sym (number_is n f.class)) 0 fs
    ∙ sym (places_are (λ (f : Func). same_number n f.class) 0 (map func_of fs) ∙ places_shown func_of (λ (f : Func). same_number n f.class) 0 fs)

pub name_all : (name : List ℕ) (fs : List FuncDecl) (places : List ℕ) → places ≡ places_where (is_free_of name) 0 fs
    → places ≡ places_from (is_free name) 0 (map func_of fs)
name_all name fs places e =
    e ∙ places_agree (is_free_of name) (λ (f : FuncDecl). is_free name (func_of f)) (λ (f : FuncDecl). sym (free_is name f)) 0 fs
    ∙ sym (places_are (is_free name) 0 (map func_of fs) ∙ places_shown func_of (is_free name) 0 fs)

-- Those that pass a test which asks for the class

module _ (n : ℕ) (test : Func → Bool) (asks : (f : Func) → test f ≡ true → same_number n f.class ≡ true) where
  abbrev here : FuncDecl → Bool
  here f = test (func_of f)

  member_asked : (f : FuncDecl) → here f ≡ true → is_member_of n f ≡ true
  member_asked f h = sym (number_is n f.class) ∙ asks (func_of f) h

  pub class_first : (fs : List FuncDecl) (places : List ℕ) → places ≡ places_where (is_member_of n) 0 fs
      → first_among (λ (f : FuncDecl). test (func_of f)) fs places ≡ first_from test 0 (map func_of fs)
  class_first fs places e = ap (first_among here fs) e
      ∙ sym (first_is test 0 (map func_of fs) ∙ first_shown func_of test 0 fs ∙ first_is_among here (is_member_of n) member_asked fs)

  pub class_kept : (fs : List FuncDecl) (places : List ℕ) → places ≡ places_where (is_member_of n) 0 fs
      → kept_among (λ (f : FuncDecl). test (func_of f)) fs places ≡ places_from test 0 (map func_of fs)
  class_kept fs places e = ap (kept_among here fs) e ∙ sym
      (places_are test 0 (map func_of fs) ∙ places_shown func_of test 0 fs ∙ all_among here (is_member_of n) member_asked fs)

  pub class_any : (fs : List FuncDecl) (places : List ℕ) → places ≡ places_where (is_member_of n) 0 fs
      → any_among (λ (f : FuncDecl). test (func_of f)) fs places ≡ list_any test (map func_of fs)
  class_any fs places e = ap (any_among here fs) e ∙ sym (any_shown func_of test fs ∙ any_is_among here (is_member_of n) member_asked fs)

-- The first that passes a test which asks for the name and no class

module _ (name : List ℕ) (test : Func → Bool) (asks : (f : Func) → test f ≡ true → is_free name f ≡ true) where
  abbrev there : FuncDecl → Bool
  there f = test (func_of f)

  name_asked : (f : FuncDecl) → there f ≡ true → is_free_of name f ≡ true
  name_asked f h = sym (free_is name f) ∙ asks (func_of f) h

  pub name_first : (fs : List FuncDecl) (places : List ℕ) → places ≡ places_where (is_free_of name) 0 fs
      → first_among (λ (f : FuncDecl). test (func_of f)) fs places ≡ first_from test 0 (map func_of fs)
  name_first fs places e = ap (first_among there fs) e
      ∙ sym (first_is test 0 (map func_of fs) ∙ first_shown func_of test 0 fs ∙ first_is_among there (is_free_of name) name_asked fs)

-- Tests that ask for a class or a name

pub asks_first : (a b : Bool) → (a && b) ≡ true → a ≡ true
asks_first a b h = (and_parts a b h).0

pub asks_second : (a b : Bool) → (a && b) ≡ true → b ≡ true
asks_second a b h = (and_parts a b h).1
