-- The last element of a list, in the reversed list, and the last scope.
use Rattle.std.proofs.Common.{◌≡◌, sym, ℕ, zero, suc, ◌+◌, List, [], ◌∷◌, ◌++◌, set, get_or, length, reverse, ◌∙◌, ap, refl, arith}
use Rattle.std.proofs.lemmas.List.{reverse-append}
use Rattle.cpp_names.specs.Names.{Names, with_name}
use Rattle.cpp_names.specs.declared.entity.Entity.{Entity}

module _ {A : Type 0} where
  -- a list is its element at i, the last, behind those before it, also after a write of y there
  record Ends (xs : List A) (i : ℕ) (d y : A) : Type 0 where
    front : List A
    is : xs ≡ front ++ get_or xs i d ∷ []
    changed : set xs i y ≡ front ++ y ∷ []

  ends : (xs : List A) (i : ℕ) (d y : A) → i + 1 ≡ length xs → Ends xs i d y
  ends [] i d y h = absurd (omega (arith, h))
  ends (x ∷ []) zero d y h = record { front = []; is = refl; changed = refl }
  ends (x ∷ z ∷ zs) zero d y h = absurd (omega (arith, h))
  ends (x ∷ xs) (suc i) d y h =
      let rest = ends xs i d y (omega (arith, h)) in
      record { front = x ∷ rest.front; is = ap (λ r. x ∷ r) rest.is; changed = ap (λ r. x ∷ r) rest.changed }

  -- the reversed list begins with the last, and after a write there with what is written
  record Turned (xs : List A) (i : ℕ) (d y : A) : Type 0 where
    rest : List A
    was : reverse xs ≡ get_or xs i d ∷ rest
    becomes : reverse (set xs i y) ≡ y ∷ rest

  turned : (xs : List A) (i : ℕ) (d y : A) → i + 1 ≡ length xs → Turned xs i d y
  turned xs i d y h =
      let e = ends xs i d y h in
      record {
        rest = reverse e.front;
        was = ap reverse e.is ∙ reverse-append e.front (get_or xs i d ∷ []);
        becomes = ap reverse e.changed ∙ reverse-append e.front (y ∷ []);
      }

-- a pair at the end of the last scope is a declaration in the innermost
pub declared_last : (scopes seen : List Names) (i : ℕ) (here new : Names) (name : List ℕ) (entity : Entity)
    → reverse scopes ≡ seen → i + 1 ≡ length scopes → here ≡ get_or scopes i here → new ≡ here ++ (name, entity) ∷ []
    → reverse (set scopes i new) ≡ with_name seen name entity
declared_last scopes seen i here new name entity view last is_here added =
    let ends = turned scopes i here new last in
    let shape : seen ≡ here ∷ ends.rest = sym view ∙ ends.was ∙ ap (λ scope. scope ∷ ends.rest) (sym is_here) in
    ends.becomes ∙ ap (λ scope. scope ∷ ends.rest) added ∙ ap (λ all. with_name all name entity) (sym shape)
