-- The candidates among which a constructor is chosen.
use Rattle.std.proofs.Common.{◌≡◌, refl, sym, ap, ◌∙◌, subst, ℕ, zero, suc, ◌==◌, Bool, true, false, List, [], ◌∷◌, ◌++◌, map, length}
use Rattle.std.proofs.Common.{slice_get, Some, None, is_some, eqb-true}
use Rattle.std.proofs.lemmas.Bool.{and_parts}
use Rattle.elab_rules.specs.cpp_overload.Overload.{Candidate, count_of, parameters, parameters_of}
use Rattle.elab_rules.specs.cpp_overload.Choosing.{is_viable}
use Rattle.elab_rules.specs.cpp_types.Typ.{Typ, typ, void, int, enum, null, ptr, ref, array, func, class, closure, tx_ex, Signature, signature}
use Rattle.elab_rules.specs.cpp_types.Class.{Class}
use Rattle.elab_rules.specs.cpp_types.Conversion.{conversion_of}
use Rattle.elab_rules.specs.cpp_types.declared.ranks.Cat.{Cat}
use Rattle.elab_rules.specs.cpp_types.declared.ranks.Cat.TheVariants.{Lvalue, Prvalue}
use Rattle.elab_rules.specs.cpp_tree.Notation.{plain}
use Rattle.elab_rules.specs.cpp_tree.Trees.{typ_in}
use Rattle.elab_rules.specs.cpp_tree.Typing.{is_class_typ}
use Rattle.elab_rules.specs.elab_ctx.Ctx.{Ctx, Special, absent, trivial, function}
use Rattle.elab_rules.specs.elab_ctx.Steps.{Operand}
use Rattle.elab_rules.specs.Objects.{traits_at}
use Rattle.elab_rules.specs.Initialising.{argument, arguments, maker, makers, func_at, constructors, constructor_at, trivial_copy, copy_candidates}
use Rattle.elab_rules.specs.Initialising.{signature_parameters, parameters_at}

-- What stands in front, and behind

in_front : {A B : Type 0} (f : A → B) (xs : List A) (ys : List B) (i : ℕ) (k : A) (p : B) → slice_get xs i ≡ Some k
    → slice_get (map f xs ++ ys) i ≡ Some p → p ≡ f k
in_front {A} {B} f [] ys i k p h g = absurd cc
in_front {A} {B} f (x ∷ xs) ys zero k p h g = let a : x ≡ k = cc in let b : f x ≡ p = cc in sym b ∙ ap f a
in_front {A} {B} f (x ∷ xs) ys (suc i) k p h g = in_front f xs ys i k p h g

record IsBehind {B : Type 0} (ys : List B) (p : B) : Type 0 where
  index : ℕ
  at : slice_get ys index ≡ Some p

is_behind : {A B : Type 0} (f : A → B) (xs : List A) (ys : List B) (i : ℕ) (p : B) → slice_get xs i ≡ None
    → slice_get (map f xs ++ ys) i ≡ Some p → IsBehind ys p
is_behind {A} {B} f [] ys i p h g = record { index = i; at = g }
is_behind {A} {B} f (x ∷ xs) ys zero p h g = absurd cc
is_behind {A} {B} f (x ∷ xs) ys (suc i) p h g = is_behind f xs ys i p h g

only_copy : (n i : ℕ) (k : Bool) (x : Special) (p : Candidate) → slice_get (copy_candidates n k x) i ≡ Some p → p ≡ trivial_copy n k
only_copy n zero k trivial p h = cc
only_copy n (suc i) k trivial p h = absurd cc
only_copy n i k absent p h = absurd cc
only_copy n i k (function j) p h = absurd cc

-- A constructor that is viable takes as many arguments as there are

length_map : {A B : Type 0} (f : A → B) (xs : List A) → length (map f xs) ≡ length xs
length_map {A} {B} f [] = refl
length_map {A} {B} f (x ∷ xs) = ap suc (length_map f xs)

parameters_same : (g : Signature) → parameters g ≡ signature_parameters g
parameters_same (signature ps r safe) = refl

pub constructor_count : (c : Ctx) (n i k : ℕ) (p : Candidate) (os : List Operand) → constructor_at c n i ≡ Some k → slice_get (makers c n) i ≡ Some p
    → is_viable c.classes (arguments os) p ≡ true → count_of (parameters_at c.funcs k) ≡ length os
constructor_count c n i k p os h g v =
    let e : p ≡ maker (func_at c.funcs k) = in_front (λ (j : ℕ). maker (func_at c.funcs j)) (constructors c n)
    (copy_candidates n (traits_at c n).copies_const (traits_at c n).copy) i k p h g in
    let a = and_parts (count_of (parameters_of p) == length (arguments os)) _ v in
    let b : count_of (parameters_of p) ≡ length (arguments os) = eqb-true (count_of (parameters_of p)) (length (arguments os)) a.0 in
    let d : parameters_of (maker (func_at c.funcs k)) ≡ parameters_at c.funcs k = parameters_same (func_at c.funcs k).declared.signature in
    ap count_of (sym d) ∙ ap (λ (x : Candidate). count_of (parameters_of x)) (sym e) ∙ b ∙ length_map argument os

-- The trivial copy takes an object of the class, or of one that is derived from it

from_class : (classes : List Class) (n : ℕ) (k literal : Bool) (t : Typ) (cat : Cat)
    → is_some (conversion_of classes t cat literal (plain (ref (typ (class n) k false)))) ≡ true → is_class_typ t ≡ true
from_class classes n k literal (typ (class m) c v) cat h = refl
from_class classes n k literal (typ (closure m) c v) cat h = refl
from_class classes n k literal (typ (tx_ex u) c v) cat h = refl
from_class classes n k literal (typ void c v) cat h = absurd cc
from_class classes n k literal (typ (ref u) c v) cat h = absurd cc
from_class classes n true literal (typ (int j) c v) Lvalue h = absurd cc
from_class classes n true literal (typ (int j) c v) Prvalue h = absurd cc
from_class classes n false literal (typ (int j) c v) Lvalue h = absurd cc
from_class classes n false literal (typ (int j) c v) Prvalue h = absurd cc
from_class classes n true literal (typ (enum x s) c v) Lvalue h = absurd cc
from_class classes n true literal (typ (enum x s) c v) Prvalue h = absurd cc
from_class classes n false literal (typ (enum x s) c v) Lvalue h = absurd cc
from_class classes n false literal (typ (enum x s) c v) Prvalue h = absurd cc
from_class classes n true literal (typ null c v) Lvalue h = absurd cc
from_class classes n true literal (typ null c v) Prvalue h = absurd cc
from_class classes n false literal (typ null c v) Lvalue h = absurd cc
from_class classes n false literal (typ null c v) Prvalue h = absurd cc
from_class classes n true literal (typ (ptr u) c v) Lvalue h = absurd cc
from_class classes n true literal (typ (ptr u) c v) Prvalue h = absurd cc
from_class classes n false literal (typ (ptr u) c v) Lvalue h = absurd cc
from_class classes n false literal (typ (ptr u) c v) Prvalue h = absurd cc
from_class classes n true literal (typ (array (typ e x y) j) c v) Lvalue h = absurd cc
from_class classes n true literal (typ (array (typ e x y) j) c v) Prvalue h = absurd cc
from_class classes n false literal (typ (array (typ e x y) j) c v) Lvalue h = absurd cc
from_class classes n false literal (typ (array (typ e x y) j) c v) Prvalue h = absurd cc
from_class classes n true literal (typ (func g) c v) Lvalue h = absurd cc
from_class classes n true literal (typ (func g) c v) Prvalue h = absurd cc
from_class classes n false literal (typ (func g) c v) Lvalue h = absurd cc
from_class classes n false literal (typ (func g) c v) Prvalue h = absurd cc

pub copy_takes : (c : Ctx) (n i : ℕ) (p : Candidate) (o : Operand) → constructor_at c n i ≡ None → slice_get (makers c n) i ≡ Some p
    → is_viable c.classes (arguments (o ∷ [])) p ≡ true → is_class_typ (typ_in o.tree) ≡ true
copy_takes c n i p o h g v =
    let b = is_behind (λ (j : ℕ). maker (func_at c.funcs j)) (constructors c n) (copy_candidates n (traits_at c n).copies_const (traits_at c n).copy) i p h g in
    let e : p ≡ trivial_copy n (traits_at c n).copies_const = only_copy n b.index (traits_at c n).copies_const (traits_at c n).copy p b.at in
    let w : is_viable c.classes (argument o ∷ []) (trivial_copy n (traits_at c n).copies_const) ≡ true =
    subst (λ (x : Candidate). is_viable c.classes (argument o ∷ []) x ≡ true) e v in
    from_class c.classes n (traits_at c n).copies_const o.zero (typ_in o.tree) _ w
