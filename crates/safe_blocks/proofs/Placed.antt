-- In a well-formed body each node that wants a scope stands where its parent opens that one.
use Rattle.std.specs.Prelude.{◌≡◌, ℕ, zero, suc, Bool, true, false, not, ◌&&◌, cond, List, [], ◌∷◌, slice_get, Option, Some, None, is_some, unwrap_or, refl}
use Rattle.std.specs.List.{list_all}
use Rattle.std.specs.Option.{option_or}
use Rattle.std.proofs.lemmas.Bool.{false≢true, and_parts, and_from}
use Rattle.cpp_tree.specs.cpp_types.Typ.{Typ, Form}
use Rattle.cpp_tree.specs.cpp_types.Class.{Class}
use Rattle.cpp_tree.specs.declared.kinds.TKind.{TKind}
use Rattle.cpp_tree.specs.declared.kinds.TKind.TheVariants.{Literal, Conditional, Comma, Materialize, FullExpression, Call, VirtualCall, PointerCall, Store}
use Rattle.cpp_tree.specs.declared.kinds.TKind.TheVariants.{Construct, Pieces, Piece, Elements, Block, Init, Defer, Switch, Try}
use Rattle.cpp_tree.specs.declared.roles.Role.{Role}
use Rattle.cpp_tree.specs.declared.roles.Role.TheVariants.{Value, Word, Initialiser, CopyInit, Zero, Statement, BlockItem, SwitchItem, Step, Part, CopiedPart}
use Rattle.cpp_tree.specs.declared.roles.Role.TheVariants.{Catch, Destruction, Scalar}
use Rattle.cpp_tree.specs.declared.roles.Position.{Position}
use Rattle.cpp_tree.specs.Trees.{Tree, node, Trees, none, more, kind_of, first, rest}
use Rattle.cpp_tree.specs.Typing.{is_void}
use Rattle.cpp_tree.specs.Parts.{Part as PartRecord, part_of}
use Rattle.cpp_tree.specs.Rows.{Setting, result_of}
use Rattle.cpp_tree.specs.Roles.{is_handler, Kids, and_any, kids_for, role_at, serves, branch_role, result_role, part_role, object_role}
use Rattle.cpp_tree.specs.WellFormed.{heads_of, kids_in, no_object, inside, is_zero_role, fits, kids_fit, zeroes, zero_parts, zero_part, is_zero_of}
use Rattle.src_mean.specs.Frames.{Owner, of_block, of_call, of_pieces, same_owner}
use Rattle.block_marks.specs.Marks.{scope_for, is_free, all_free, is_at_most, all_within, all_handlers, are_placed}

-- at each node of a tree
abbrev mutual
  pub is_scoped : Tree → Bool
  is_scoped (node kind t cat at kids) = are_placed kind kids && all_scoped kids

  pub all_scoped : Trees → Bool
  all_scoped none = true
  all_scoped (more t ts) = is_scoped t && all_scoped ts

-- Roles

abbrev wanted : Role → Option Owner
wanted Word = Some of_call
wanted BlockItem = Some of_block
wanted SwitchItem = Some of_block
wanted Part = Some of_pieces
wanted CopiedPart = Some of_pieces
wanted role = None

abbrev is_within : Option Owner → Option Owner → Bool
is_within None None = true
is_within None (Some o) = false
is_within (Some o) n = is_at_most o n

none_within : (n : Option Owner) → is_within n None ≡ true
none_within None = refl
none_within (Some o) = refl

-- what serves in a role wants no other scope
serves_wanted : (role : Role) (kind : TKind) → serves role kind ≡ true → is_within (wanted role) (scope_for kind) ≡ true
serves_wanted Word (Materialize place true) h = refl
serves_wanted Value (Materialize place true) h = absurd (false≢true h)
serves_wanted Initialiser (Materialize place true) h = absurd (false≢true h)
serves_wanted CopyInit (Materialize place true) h = absurd (false≢true h)
serves_wanted Zero (Materialize place true) h = absurd (false≢true h)
serves_wanted Statement (Materialize place true) h = absurd (false≢true h)
serves_wanted BlockItem (Materialize place true) h = absurd (false≢true h)
serves_wanted SwitchItem (Materialize place true) h = absurd (false≢true h)
serves_wanted Step (Materialize place true) h = absurd (false≢true h)
serves_wanted Part (Materialize place true) h = absurd (false≢true h)
serves_wanted CopiedPart (Materialize place true) h = absurd (false≢true h)
serves_wanted Catch (Materialize place true) h = absurd (false≢true h)
serves_wanted Destruction (Materialize place true) h = absurd (false≢true h)
serves_wanted Scalar (Materialize place true) h = absurd (false≢true h)
serves_wanted BlockItem Init h = refl
serves_wanted SwitchItem Init h = refl
serves_wanted role Init h = absurd (false≢true h)
serves_wanted BlockItem Defer h = refl
serves_wanted SwitchItem Defer h = refl
serves_wanted role Defer h = absurd (false≢true h)
serves_wanted Part (Piece offset) h = refl
serves_wanted CopiedPart (Piece offset) h = refl
serves_wanted role (Piece offset) h = absurd (false≢true h)
serves_wanted role kind h = none_within (wanted role)

-- Zeros

zero_free : (cs : List Class) (v : Bool) (t : Typ) (x : Tree) → zeroes cs v t x ≡ true → is_free x ≡ true
zero_free cs v t (node Pieces u cat at kids) h = refl
zero_free cs v t (node (Elements count stride) u cat at kids) h = refl
zero_free cs v t (node (Store k marked) u cat at kids) h = refl
zero_free cs v t (node kind u cat at kids) h = absurd (false≢true h)

zero_word : (f : Form) (x : Tree) → is_zero_of f x ≡ true → (is_free x ≡ true) × (is_scoped x ≡ true)
zero_word f (node (Literal w) t cat at none) h = (refl, refl)
zero_word f x h = absurd (false≢true h)

mutual
  zero_scoped : (cs : List Class) (v : Bool) (t : Typ) (x : Tree) → zeroes cs v t x ≡ true → is_scoped x ≡ true
  zero_scoped cs v t (node Pieces u cat at kids) h =
      let a = zeros_scoped cs _ _ 0 kids (and_parts _ _ h).1 in and_from _ _ a.0 a.1
  zero_scoped cs v t (node (Elements count stride) u cat at (more kid none)) h =
      let a = (and_parts _ _ h).1 in
      and_from _ _ (and_from _ _ (zero_free cs _ _ kid a) refl) (and_from _ _ (zero_scoped cs _ _ kid a) refl)
  zero_scoped cs v t (node (Store k marked) u cat at (more word none)) h =
      let a = zero_word _ word (and_parts _ _ (and_parts _ _ h).1).1 in
      and_from _ _ (and_from _ _ a.0 refl) (and_from _ _ a.1 refl)
  zero_scoped cs v t x h = absurd (false≢true h)

  zeros_scoped : (cs : List Class) (v : Bool) (n i : ℕ) (ts : Trees) → zero_parts cs v n i ts ≡ true → (all_within of_pieces ts ≡ true) × (all_scoped ts ≡ true)
  zeros_scoped cs v n i none h = (refl, refl)
  zeros_scoped cs v n i (more t ts) h =
      let a = and_parts _ _ h in
      let b = zero_part_scoped cs v (part_of cs n i) t a.0 in
      let c = zeros_scoped cs v n (suc i) ts a.1 in
      (and_from _ _ b.0 c.0, and_from _ _ b.1 c.1)

  zero_part_scoped : (cs : List Class) (v : Bool) (part : Option PartRecord) (t : Tree) → zero_part cs v part t ≡ true
      → (is_at_most of_pieces (scope_for (kind_of t)) ≡ true) × (is_scoped t ≡ true)
  zero_part_scoped cs v part (node (Piece offset) u cat at (more kid none)) h =
      let a = (and_parts _ _ h).1 in
      (refl, and_from _ _ (and_from _ _ (zero_free cs v _ kid a) refl) (and_from _ _ (zero_scoped cs v _ kid a) refl))
  zero_part_scoped cs v part t h = absurd (false≢true h)

-- Kids by their roles

free_within : (o n : Option Owner) → not (is_some n) ≡ true → is_within o n ≡ true
free_within o None h = none_within o
free_within o (Some u) h = absurd (false≢true h)

owner_same : (a b c : Owner) → same_owner a b ≡ true → same_owner b c ≡ true → same_owner a c ≡ true
owner_same of_block of_block c h g = g
owner_same of_call of_call c h g = g
owner_same of_pieces of_pieces c h g = g
owner_same a b c h g = absurd (false≢true h)

within_more : (a b n : Option Owner) → is_within a b ≡ true → is_within b n ≡ true → is_within a n ≡ true
within_more None None n h g = g
within_more None (Some y) n h g = absurd (false≢true h)
within_more (Some x) None None h g = refl
within_more (Some x) None (Some z) h g = absurd (false≢true g)
within_more (Some x) (Some y) None h g = refl
within_more (Some x) (Some y) (Some z) h g = owner_same x y z h g

fits_wanted : (s : Setting) (p : Position) (role : Role) (t : Tree) → fits s p role t ≡ true → is_within (wanted role) (scope_for (kind_of t)) ≡ true
fits_wanted s p role (node kind t cat at kids) h =
    let a = (and_parts _ _ (and_parts _ _ (and_parts _ _ h).0).0).0 in
    serves_wanted role kind (and_parts _ _ (and_parts _ _ (and_parts _ _ (and_parts _ _ a).0).0).0).0

abbrev kid_test : Setting → Position → Role → Tree → Bool
kid_test s p role t = cond (is_zero_role role) (zeroes s.classes false (result_of s.function) t) (fits s p role t)

kid_wanted : (s : Setting) (p : Position) (o : Option Owner) (role : Role) (t : Tree) → is_within o (wanted role) ≡ true → kid_test s p role t ≡ true
    → is_within o (scope_for (kind_of t)) ≡ true
kid_wanted s p o role t r =
    elim (is_zero_role role) as (λ b. cond b (zeroes s.classes false (result_of s.function) t) (fits s p role t) ≡ true
    → is_within o (scope_for (kind_of t)) ≡ true) [
      | true ↦ λ h. free_within o (scope_for (kind_of t)) (zero_free _ _ _ t h)
      | false ↦ λ h. within_more o (wanted role) (scope_for (kind_of t)) r (fits_wanted s p role t h)
    ]

abbrev role_of : Kids → ℕ → Role
role_of ks i = unwrap_or (role_at ks i) Value

kid_fits : (s : Setting) (p : Position) (ks : Kids) (i : ℕ) (t : Tree) (ts : Trees) → kids_fit s p ks i (more t ts) ≡ true
    → (kid_test s p (role_of ks i) t ≡ true) × (kids_fit s p ks (suc i) ts ≡ true)
kid_fits s p ks i t ts h = let a = and_parts _ _ h in ((and_parts _ _ a.0).1, a.1)

abbrev other_within : Option Owner → Option Role → Bool
other_within o None = true
other_within o (Some r) = is_within o (wanted r)

abbrev all_roles : Option Owner → Kids → Bool
all_roles o ks = list_all (λ (r : Role). is_within o (wanted r)) ks.fixed && other_within o ks.others

role_within : (o : Option Owner) (rs : List Role) (others : Option Role) (i : ℕ) → list_all (λ (r : Role). is_within o (wanted r)) rs ≡ true
    → other_within o others ≡ true
    → is_within o (wanted (unwrap_or (option_or (slice_get rs i) others) Value)) ≡ true
role_within o [] None i h g = none_within o
role_within o [] (Some r) i h g = g
role_within o (r ∷ rs) others zero h g = (and_parts (is_within o (wanted r)) (list_all (λ (r : Role). is_within o (wanted r)) rs) h).0
role_within o (r ∷ rs) others (suc i) h g = role_within o rs others i
    (and_parts (is_within o (wanted r)) (list_all (λ (r : Role). is_within o (wanted r)) rs) h).1 g

abbrev all_at : Option Owner → Trees → Bool
all_at o none = true
all_at o (more t ts) = is_within o (scope_for (kind_of t)) && all_at o ts

kids_at : (s : Setting) (p : Position) (o : Option Owner) (ks : Kids) (i : ℕ) (ts : Trees) → all_roles o ks ≡ true → kids_fit s p ks i ts ≡ true
    → all_at o ts ≡ true
kids_at s p o ks i none r h = refl
kids_at s p o ks i (more t ts) r h =
    let a = kid_fits s p ks i t ts h in
    let b = and_parts (list_all (λ (r : Role). is_within o (wanted r)) ks.fixed) (other_within o ks.others) r in
    and_from _ _ (kid_wanted s p o (role_of ks i) t (role_within o ks.fixed ks.others i b.0 b.1) a.0) (kids_at s p o ks (suc i) ts r a.1)

none_free : (n : Option Owner) → is_within None n ≡ true → not (is_some n) ≡ true
none_free None h = refl
none_free (Some o) h = h

at_free : (ts : Trees) → all_at None ts ≡ true → all_free ts ≡ true
at_free none h = refl
at_free (more t ts) h = let a = and_parts (is_within None (scope_for (kind_of t))) (all_at None ts) h in
    and_from _ _ (none_free (scope_for (kind_of t)) a.0) (at_free ts a.1)

at_within : (o : Owner) (ts : Trees) → all_at (Some o) ts ≡ true → all_within o ts ≡ true
at_within o none h = refl
at_within o (more t ts) h = let a = and_parts (is_at_most o (scope_for (kind_of t))) (all_at (Some o) ts) h in and_from _ _ a.0 (at_within o ts a.1)

free_kids : (s : Setting) (p : Position) (ks : Kids) (ts : Trees) → all_roles None ks ≡ true → kids_fit s p ks 0 ts ≡ true → all_free ts ≡ true
free_kids s p ks ts r h = at_free ts (kids_at s p None ks 0 ts r h)

scope_kids : (s : Setting) (p : Position) (o : Owner) (ks : Kids) (ts : Trees) → all_roles (Some o) ks ≡ true → kids_fit s p ks 0 ts ≡ true
    → all_within o ts ≡ true
scope_kids s p o ks ts r h = at_within o ts (kids_at s p (Some o) ks 0 ts r h)

-- the first by itself
first_kid_free : (s : Setting) (p : Position) (ks : Kids) (ts : Trees) → is_within None (wanted (role_of ks 0)) ≡ true → kids_fit s p ks 0 ts ≡ true
    → is_free (first ts) ≡ true
first_kid_free s p ks none r h = refl
first_kid_free s p ks (more t ts) r h = none_free (scope_for (kind_of t)) (kid_wanted s p None (role_of ks 0) t r (kid_fits s p ks 0 t ts h).0)

later_kids : (s : Setting) (p : Position) (o : Owner) (ks : Kids) (ts : Trees) → all_roles (Some o) ks ≡ true → kids_fit s p ks 0 ts ≡ true
    → all_within o (rest ts) ≡ true
later_kids s p o ks none r h = refl
later_kids s p o ks (more t ts) r h = at_within o ts (kids_at s p (Some o) ks 1 ts r (kid_fits s p ks 0 t ts h).1)

is_catch : (s : Setting) (p : Position) (t : Tree) → fits s p Catch t ≡ true → is_handler (kind_of t) ≡ true
is_catch s p (node kind t cat at kids) h =
    let a = (and_parts _ _ (and_parts _ _ (and_parts _ _ h).0).0).0 in
    (and_parts _ _ (and_parts _ _ (and_parts _ _ (and_parts _ _ a).0).0).0).0

catches : (s : Setting) (p : Position) (i : ℕ) (ts : Trees) → kids_fit s p (and_any (Statement ∷ Catch ∷ []) Catch) (suc i) ts ≡ true → all_handlers ts ≡ true
catches s p i none h = refl
catches s p zero (more t ts) h = let a = kid_fits s p (and_any (Statement ∷ Catch ∷ []) Catch) 1 t ts h in
    and_from _ _ (is_catch s p t a.0) (catches s p 1 ts a.1)
catches s p (suc i) (more t ts) h = let a = kid_fits s p (and_any (Statement ∷ Catch ∷ []) Catch) (suc (suc i)) t ts h in
    and_from _ _ (is_catch s p t a.0) (catches s p (suc (suc i)) ts a.1)

handlers_behind : (s : Setting) (p : Position) (ts : Trees) → kids_fit s p (and_any (Statement ∷ Catch ∷ []) Catch) 0 ts ≡ true → all_handlers (rest ts) ≡ true
handlers_behind s p none h = refl
handlers_behind s p (more t ts) h = catches s p 0 ts (kid_fits s p (and_any (Statement ∷ Catch ∷ []) Catch) 0 t ts h).1

-- Roles that depend on that of the whole

branch_plain : (role : Role) (b : Bool) → is_within None (wanted (branch_role role b)) ≡ true
branch_plain Initialiser b = refl
branch_plain Value b = refl
branch_plain Step b = refl
branch_plain role true = refl
branch_plain role false = refl

result_plain : (role : Role) → is_within None (wanted (result_role role)) ≡ true
result_plain Initialiser = refl
result_plain role = refl

object_plain : (role : Role) → is_within None (wanted (object_role role)) ≡ true
object_plain CopiedPart = refl
object_plain CopyInit = refl
object_plain role = refl

part_within : (role : Role) → is_within (Some of_pieces) (wanted (part_role role)) ≡ true
part_within CopyInit = refl
part_within role = refl

init_plain : (b : Bool) → is_within None (wanted (cond b Zero Initialiser)) ≡ true
init_plain true = refl
init_plain false = refl

placed : (s : Setting) (p : Position) (role : Role) (kind : TKind) (b c : Bool) (ts : Trees) → kids_fit s p (kids_for role kind b c) 0 ts ≡ true
    → are_placed kind ts ≡ true
placed s p role (Call f) b c ts h = scope_kids s p of_call (kids_for role (Call f) b c) ts refl h
placed s p role (Construct f) b c ts h = scope_kids s p of_call (kids_for role (Construct f) b c) ts refl h
placed s p role (VirtualCall f x y z) b c ts h = and_from _ _ (first_kid_free s p (kids_for role (VirtualCall f x y z) b c) ts refl h)
    (later_kids s p of_call (kids_for role (VirtualCall f x y z) b c) ts refl h)
placed s p role PointerCall b c ts h = and_from _ _ (first_kid_free s p (kids_for role PointerCall b c) ts refl h)
    (later_kids s p of_call (kids_for role PointerCall b c) ts refl h)
placed s p role Pieces b c ts h = scope_kids s p of_pieces (kids_for role Pieces b c) ts (part_within role) h
placed s p role (Block subobjects) b c ts h = scope_kids s p of_block (kids_for role (Block subobjects) b c) ts refl h
placed s p role Switch b c ts h = and_from _ _ (first_kid_free s p (kids_for role Switch b c) ts refl h)
    (later_kids s p of_block (kids_for role Switch b c) ts refl h)
placed s p role Try b c ts h = and_from _ _ (first_kid_free s p (kids_for role Try b c) ts refl h) (handlers_behind s p ts h)
placed s p role Conditional b c ts h = free_kids s p (kids_for role Conditional b c) ts
    (and_from _ _ (and_from _ _ (branch_plain role b) (and_from _ _ (branch_plain role b) refl)) refl) h
placed s p role Comma b c ts h = free_kids s p (kids_for role Comma b c) ts (and_from _ _ (and_from _ _ (result_plain role) refl) refl) h
placed s p role FullExpression b c ts h = free_kids s p (kids_for role FullExpression b c) ts (and_from _ _ (and_from _ _ (result_plain role) refl) refl) h
placed s p role (Piece n) b c ts h = free_kids s p (kids_for role (Piece n) b c) ts (and_from _ _ (and_from _ _ (object_plain role) refl) refl) h
placed s p role (Elements n m) b c ts h = free_kids s p (kids_for role (Elements n m) b c) ts (and_from _ _ (and_from _ _ (object_plain role) refl) refl) h
placed s p role Init b c ts h = free_kids s p (kids_for role Init b c) ts (and_from _ _ (and_from _ _ (init_plain c) refl) refl) h
placed s p role kind b c ts h = free_kids s p (kids_for role kind b c) ts refl h

mutual
  pub fits_scoped : (s : Setting) (p : Position) (role : Role) (t : Tree) → fits s p role t ≡ true → is_scoped t ≡ true
  fits_scoped s p role (node kind t cat at kids) h =
      let k = (and_parts _ _ h).1 in
      and_from _ _ (placed s (inside kind p) role kind (is_void t) (no_object (heads_of kids)) kids k)
      (kids_scoped s (inside kind p) (kids_in role kind t (heads_of kids)) 0 kids k)

  kids_scoped : (s : Setting) (p : Position) (ks : Kids) (i : ℕ) (ts : Trees) → kids_fit s p ks i ts ≡ true → all_scoped ts ≡ true
  kids_scoped s p ks i none h = refl
  kids_scoped s p ks i (more t ts) h =
      let a = kid_fits s p ks i t ts h in
      and_from _ _ (elim (is_zero_role (role_of ks i)) as (λ b. cond b (zeroes s.classes false (result_of s.function) t) (fits s p (role_of ks i) t) ≡ true →
      is_scoped t ≡ true) [
        | true ↦ λ z. zero_scoped _ _ _ t z
        | false ↦ λ f. fits_scoped s p (role_of ks i) t f
      ] a.0) (kids_scoped s p ks (suc i) ts a.1)
