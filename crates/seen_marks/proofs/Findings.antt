-- A node at which the check finds nothing.
use Rattle.std.proofs.Common.{◌≡◌, refl, ℕ, Bool, true, false, ◌&&◌, List, [], ◌∷◌, ◌++◌, Option}
use Rattle.cpp_types.specs.Typ.{Typ}
use Rattle.cpp_types.specs.declared.classes.At.{At}
use Rattle.cpp_types.specs.declared.ranks.Cat.{Cat}
use Rattle.cpp_tree.specs.declared.faults.UnsafeReason.{UnsafeReason}
use Rattle.cpp_tree.specs.declared.kinds.TKind.{TKind}
use Rattle.cpp_tree.specs.Trees.{Tree}
use Rattle.tx_unsafe.specs.Volatile.{is_volatile_object, is_volatile_class}
use Rattle.tx_unsafe.specs.Unsafe.{where_so, own, accesses, objects, foreign_calls, declares_volatile, writes_volatile, builds_object, initialises_volatile}
use Rattle.tx_unsafe.specs.Unsafe.{is_made}

pub nothing_left : {A : Type 0} (xs ys : List A) → (xs ++ ys) ≡ [] → xs ≡ []
nothing_left [] ys h = refl
nothing_left (x ∷ xs) ys h = absurd cc

pub nothing_right : {A : Type 0} (xs ys : List A) → (xs ++ ys) ≡ [] → ys ≡ []
nothing_right [] ys h = h
nothing_right (x ∷ xs) ys h = absurd cc

nothing_in_three : {A : Type 0} (xs ys zs : List A) → (xs ++ ys ++ zs) ≡ [] → (xs ≡ []) × ((ys ≡ []) × (zs ≡ []))
nothing_in_three (x ∷ xs) ys zs h = absurd cc
nothing_in_three [] (y ∷ ys) zs h = absurd cc
nothing_in_three [] [] zs h = (refl, (refl, h))

where_none : (b : Bool) (at : At) (reason : UnsafeReason) → where_so b at reason ≡ [] → b ≡ false
where_none true at reason h = absurd cc
where_none false at reason h = refl

pub record Unfound (v : ℕ → Bool) (kind : TKind) (t : Typ) (cat : Cat) (first : Option Tree) : Type 0 where
  pub declares : declares_volatile v kind t first ≡ false
  pub writes : writes_volatile kind t ≡ false
  pub builds : (builds_object kind cat && is_volatile_class v t) ≡ false
  pub initialises : initialises_volatile v kind first ≡ false
  pub made : (is_made kind t && is_volatile_object v t) ≡ false

pub unfound : (v : ℕ → Bool) (kind : TKind) (t : Typ) (cat : Cat) (at : At) (first second : Option Tree) → own v kind t cat at first second ≡ []
    → Unfound v kind t cat first
unfound v kind t cat at first second h =
    let a = nothing_in_three (accesses v kind t at first) (objects v kind t cat at first second) (foreign_calls kind at first) h in
    let b = nothing_in_three _ _ _ a.0 in
    let c = nothing_in_three _ _ _ a.1.0 in record {
      declares = where_none _ _ _ b.0;
      writes = where_none _ _ _ b.1.0;
      builds = where_none _ _ _ c.0;
      initialises = where_none _ _ _ c.1.0;
      made = where_none _ _ _ c.1.1;
    }
