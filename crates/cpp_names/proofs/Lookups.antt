-- What a map of names has a name for, and what it has after a new one.
use Rattle.std.proofs.Common.{◌≡◌, ℕ, List, [], ◌∷◌, ◌++◌, map, cond, Bool, Some, refl, ap, Vec}
use Rattle.std.specs.Str.{bytes_eq}
use Rattle.std.specs.Map.{lookup}
use Rattle.cpp_names.specs.Names.{Names, entity_of}
use Rattle.cpp_names.specs.declared.entity.Entity.{Entity}

module _ {Z : Type 0} where
  -- the test by which a map finds a name
  abbrev pub same_name : Vec ℕ Z → Vec ℕ Z → Bool
  same_name a b = bytes_eq a.items b.items

  -- the pairs of a map's entries
  abbrev pub pairs_of : List (Vec ℕ Z × Entity) → Names
  pairs_of entries = map (λ pair. (pair.0.items, pair.1)) entries

  -- the look-up of a name is that in the map
  pub entity_of-pairs : (name : List ℕ) (entries : List (Vec ℕ Z × Entity))
      → entity_of (pairs_of entries) name ≡ lookup (λ key. bytes_eq name key.items) entries
  entity_of-pairs name [] = refl
  entity_of-pairs name (pair ∷ rest) = ap (λ o. cond (bytes_eq name pair.0.items) (Some pair.1) o) (entity_of-pairs name rest)

  -- a pair at the end of the entries
  pub pairs_of-append : (entries : List (Vec ℕ Z × Entity)) (name : Vec ℕ Z) (entity : Entity)
      → pairs_of (entries ++ (name, entity) ∷ []) ≡ pairs_of entries ++ (name.items, entity) ∷ []
  pairs_of-append [] name entity = refl
  pairs_of-append (pair ∷ rest) name entity = ap (λ more. (pair.0.items, pair.1) ∷ more) (pairs_of-append rest name entity)
