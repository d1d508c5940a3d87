-- Whole trees.
use Rattle.std.proofs.Common.{◌≡◌, ap, refl, ℕ, suc, Bool, true, false, not, ◌||◌, cond, [], ◌∷◌}
use Rattle.std.proofs.lemmas.Bool.{and_parts, and_from, or_right}
use Rattle.cpp_types.specs.declared.classes.At.{At}
use Rattle.cpp_types.specs.declared.ranks.Cat.{Cat}
use Rattle.cpp_types.specs.Typ.{Typ}
use Rattle.cpp_tree.specs.declared.kinds.TKind.{TKind}
use Rattle.cpp_tree.specs.declared.kinds.TKind.TheVariants.{Atomic}
use Rattle.cpp_tree.specs.declared.roles.Position.{Position}
use Rattle.cpp_tree.specs.declared.roles.Role.{Role}
use Rattle.cpp_tree.specs.declared.roles.Role.TheVariants.{Statement}
use Rattle.cpp_tree.specs.Trees.{Tree, node, Trees, none, more, rest}
use Rattle.cpp_tree.specs.Typing.{head_of}
use Rattle.cpp_tree.specs.Roles.{Kids, only}
use Rattle.cpp_tree.specs.Rows.{Setting, result_of}
use Rattle.cpp_tree.specs.WellFormed.{heads_of, kids_in, inside, outermost, is_zero_role, fits, kids_fit, zeroes}
use Rattle.tx_unsafe.specs.Volatile.{has_volatile_part}
use Rattle.tx_unsafe.specs.Unsafe.{first_of, own, own_in, own_in_all}
use Rattle.seen_marks.specs.Marks.{is_marked_store, is_unmarked, are_unmarked, BodiesAreUnmarked}
use Rattle.seen_marks.proofs.Types.{Marks, IsClosed}
use Rattle.seen_marks.proofs.Classes.{no_part}
use Rattle.seen_marks.proofs.Findings.{nothing_left, nothing_right, unfound}
use Rattle.seen_marks.proofs.Rows.{asks, role_of, all_asked, plain_kids, Known, unmarked_kind, kids_asked}
use Rattle.seen_marks.proofs.Zeros.{zero_inside, zero_outside}

abbrev kid_test : Setting → Position → Role → Tree → Bool
kid_test s p role t = cond (is_zero_role role) (zeroes s.classes false (result_of s.function) t) (fits s p role t)

kid_fits : (s : Setting) (p : Position) (ks : Kids) (i : ℕ) (t : Tree) (ts : Trees) → kids_fit s p ks i (more t ts) ≡ true
    → (kid_test s p (role_of ks i) t ≡ true) × (kids_fit s p ks (suc i) ts ≡ true)
kid_fits s p ks i t ts h = let a = and_parts _ _ h in ((and_parts _ _ a.0).1, a.1)

or_none : (b : Bool) → b ≡ true → (b || false) ≡ true
or_none b e = ap (λ z. z || false) e

module _ (v : Marks) (s : Setting) (closed : IsClosed v s.classes) where
  known : (p : Position) (role : Role) (kind : TKind) (t : Typ) (cat : Cat) (at : At) (kids : Trees) → fits s p role (node kind t cat at kids) ≡ true
      → own v kind t cat at (first_of kids) (first_of (rest kids)) ≡ [] → asks v role (record { kind = kind; typ = t; cat = cat }) ≡ true
      → Known v s role kind t cat kids
  known p role kind t cat at kids h o a =
      let stand = (and_parts _ _ (and_parts _ _ (and_parts _ _ h).0).0).0 in
      let row = and_parts _ _ stand in
      let way = and_parts _ _ (and_parts _ _ (and_parts _ _ row.0).0).0 in
      record { serves = way.0; way = way.1; row = row.1; unfound = unfound v kind t cat at (first_of kids) (first_of (rest kids)) o; asked = a }

  mutual
    -- all of it counts
    within : (p : Position) (role : Role) (x : Tree) → fits s p role x ≡ true → own_in v true x ≡ [] → asks v role (head_of x) ≡ true
        → is_unmarked false x ≡ true
    within p role (node kind t cat at kids) h o a =
        let k = known p role kind t cat at kids h (nothing_left _ (own_in_all v true kids) o) a in
        and_from _ _ (or_none _ (unmarked_kind v s role kind t cat kids k))
        (all_within (inside kind p) (kids_in role kind t (heads_of kids)) 0 kids (and_parts _ _ h).1 (nothing_right _ (own_in_all v true kids) o)
        (kids_asked v s closed role kind t cat kids k))

    all_within : (p : Position) (ks : Kids) (i : ℕ) (ts : Trees) → kids_fit s p ks i ts ≡ true → own_in_all v true ts ≡ []
        → all_asked v ks i (heads_of ts) ≡ true → are_unmarked false ts ≡ true
    all_within p ks i none h o a = refl
    all_within p ks i (more t ts) h o a =
        let f = kid_fits s p ks i t ts h in
        let q = and_parts (asks v (role_of ks i) (head_of t)) _ a in
        let u : own_in v true t ≡ [] = nothing_left (own_in v true t) (own_in_all v true ts) o in
        and_from _ _ (elim (is_zero_role (role_of ks i)) as
        (λ b. cond b (zeroes s.classes false (result_of s.function) t) (fits s p (role_of ks i) t) ≡ true → is_unmarked false t ≡ true) [
          | true ↦ λ z. zero_inside v _ _ _ t z u
          | false ↦ λ z. within p (role_of ks i) t z u q.0
        ] f.0) (all_within p ks (suc i) ts f.1 (nothing_right (own_in v true t) (own_in_all v true ts) o) q.1)

  mutual
    -- its atomic blocks count
    around : (p : Position) (role : Role) (x : Tree) → fits s p role x ≡ true → own_in v false x ≡ [] → is_unmarked true x ≡ true
    around p role (node (Atomic k) t cat at kids) h o =
        all_within (inside (Atomic k) p) (only (Statement ∷ [])) 0 kids (and_parts _ _ h).1 o (plain_kids v (only (Statement ∷ [])) 0 (heads_of kids) refl refl)
    around p role (node kind t cat at kids) h o = and_from _ _ (or_right (not (is_marked_store kind)) true refl)
        (all_around (inside kind p) (kids_in role kind t (heads_of kids)) 0 kids (and_parts _ _ h).1 o)

    all_around : (p : Position) (ks : Kids) (i : ℕ) (ts : Trees) → kids_fit s p ks i ts ≡ true → own_in_all v false ts ≡ [] → are_unmarked true ts ≡ true
    all_around p ks i none h o = refl
    all_around p ks i (more t ts) h o =
        let f = kid_fits s p ks i t ts h in
        let u : own_in v false t ≡ [] = nothing_left (own_in v false t) (own_in_all v false ts) o in
        and_from _ _ (elim (is_zero_role (role_of ks i)) as
        (λ b. cond b (zeroes s.classes false (result_of s.function) t) (fits s p (role_of ks i) t) ≡ true → is_unmarked true t ≡ true) [
          | true ↦ λ z. zero_outside _ _ _ t z
          | false ↦ λ z. around p (role_of ks i) t z u
        ] f.0) (all_around p ks (suc i) ts f.1 (nothing_right (own_in v false t) (own_in_all v false ts) o))

pub bodies_law : BodiesAreUnmarked
bodies_law s true body h o = around (has_volatile_part s.classes) s (λ n c e f. no_part s.classes n c e f) outermost Statement body h o
bodies_law s false body h o = statement body h o
  where
    statement : (x : Tree) → fits s outermost Statement x ≡ true → own_in (has_volatile_part s.classes) true x ≡ [] → is_unmarked false x ≡ true
    statement x h o = within (has_volatile_part s.classes) s (λ n c e f. no_part s.classes n c e f) outermost Statement x h o refl
