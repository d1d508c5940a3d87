-- What a map of names says of a name, and what it has after a name with its type.
use Rattle.std.proofs.Common.{◌≡◌, ℕ, Bool, true, false, List, [], ◌∷◌, map, cond, if◌then◌else◌, Option, Some, None, MatchOption, refl, ap, Vec, Bor}
use Rattle.std.specs.Str.{bytes_eq}
use Rattle.std.specs.Map.{lookup}
use Rattle.std.specs.Option.{option_map, option_copied}
use Rattle.indexmap.specs.IndexMap.{insert_entry}
use Rattle.cpp_tree.specs.cpp_types.Typ.{Typ, typ_of}
use Rattle.cpp_tree.specs.cpp_types.declared.types.Ty.{Ty}
use Rattle.elab_ctx.specs.Types.{Named, named_of, type_called, named_too}

-- what a look-up answers
pub found_is : (r : Option (Bor Ty)) (x : Option Typ) → x ≡ option_map typ_of (option_copied r) → MatchOption r (x ≡ None) (λ t. x ≡ Some (typ_of t.now))
found_is None x h = h
found_is (Some t) x h = h

cond_map : (b : Bool) (t : Ty) (o : Option Ty) (r : Option Typ) → r ≡ option_map typ_of o → cond b (Some (typ_of t)) r ≡ option_map typ_of (cond b (Some t) o)
cond_map true t o r h = refl
cond_map false t o r h = h

module _ {Z : Type 0} where
  -- the test by which a map finds a name
  abbrev pub same_name : Vec ℕ Z → Vec ℕ Z → Bool
  same_name a b = bytes_eq a.items b.items

  -- the names of a map's entries, with their types
  abbrev pub pairs_of : List (Vec ℕ Z × Ty) → List (List ℕ × Ty)
  pairs_of entries = map (λ pair. (pair.0.items, pair.1)) entries

  -- the look-up of a name is that in the map
  pub called_is : (name : List ℕ) (entries : List (Vec ℕ Z × Ty))
      → type_called name (map named_of (pairs_of entries)) ≡ option_map typ_of (lookup (λ key. bytes_eq name key.items) entries)
  called_is name [] = refl
  called_is name (pair ∷ rest) = cond_map (bytes_eq name pair.0.items) pair.1 (lookup (λ key. bytes_eq name key.items) rest)
      (type_called name (map named_of (pairs_of rest))) (called_is name rest)

  added_if : (b : Bool) (t : Ty) (pair : Vec ℕ Z × Ty) (rest more : List (Vec ℕ Z × Ty)) (ns : List Named) → map named_of (pairs_of more) ≡ ns
      → map named_of (pairs_of (if b then (pair.0, t) ∷ rest else pair ∷ more))
      ≡ (if b then record { name = pair.0.items; typ = typ_of t } ∷ map named_of (pairs_of rest) else record { name = pair.0.items; typ = typ_of pair.1 }
      ∷ ns)
  added_if true t pair rest more ns h = refl
  added_if false t pair rest more ns h = ap (λ (z : List Named). record { name = pair.0.items; typ = typ_of pair.1 } ∷ z) h

  -- a name with its type among the entries
  pub added_is : (entries : List (Vec ℕ Z × Ty)) (name : Vec ℕ Z) (t : Ty)
      → map named_of (pairs_of (insert_entry same_name entries name t)) ≡ named_too (map named_of (pairs_of entries)) name.items (typ_of t)
  added_is [] name t = refl
  added_is (pair ∷ rest) name t = added_if (bytes_eq name.items pair.0.items) t pair rest (insert_entry same_name rest name t)
      (named_too (map named_of (pairs_of rest)) name.items (typ_of t)) (added_is rest name t)
