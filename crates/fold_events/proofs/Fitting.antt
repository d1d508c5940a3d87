-- On well-formed trees the folding that keeps what a run asks of a tree is folding.
use Rattle.std.proofs.Common.{◌≡◌, ℕ, zero, suc, ◌==◌, Bool, true, false, ◌&&◌, ◌||◌, refl, sym, ap, ap₂, subst, ◌∙◌, List, [], ◌∷◌, length, Option, Some, None}
use Rattle.std.proofs.Common.{cond, not}
use Rattle.std.specs.Prelude.{unwrap_or, is_some}
use Rattle.std.proofs.lemmas.Bool.{and_from}
use Rattle.cpp_tree.specs.cpp_types.Typ.{Typ, typ, Form, void}
use Rattle.cpp_tree.specs.cpp_types.Class.{Class}
use Rattle.cpp_tree.specs.cpp_types.Equal.{typ_eq, flag_eq}
use Rattle.cpp_tree.specs.cpp_types.Conversion.{is_object_form, is_lvalue}
use Rattle.cpp_tree.specs.cpp_types.declared.classes.At.{At}
use Rattle.cpp_tree.specs.cpp_types.declared.ranks.Cat.{Cat}
use Rattle.cpp_tree.specs.cpp_types.declared.ranks.Cat.TheVariants.{Lvalue, Prvalue}
use Rattle.cpp_tree.specs.declared.kinds.TKind.{TKind}
use Rattle.cpp_tree.specs.declared.kinds.TKind.TheVariants.{Literal, Conditional, Throw, Rethrow, Store, Pieces, Piece, Elements, Case, Default, Try, Handler}
use Rattle.cpp_tree.specs.declared.kinds.TKind.TheVariants.{Destroy, Field}
use Rattle.cpp_tree.specs.declared.roles.Position.{Position}
use Rattle.cpp_tree.specs.declared.roles.Role.{Role}
use Rattle.cpp_tree.specs.declared.roles.Role.TheVariants.{Value, Initialiser, Statement, Step, Catch}
use Rattle.cpp_tree.specs.Trees.{Tree, node, Trees, none, more, kind_of, typ_in}
use Rattle.cpp_tree.specs.Typing.{Head, head_of, is_void, is_prvalue, is_statement_typ, is_bool, is_kind, kind_in, goes_both_ways}
use Rattle.cpp_tree.specs.Roles.{Kids, and_any, role_at, serves, way_fits, branch_role, is_throw}
use Rattle.cpp_tree.specs.Parts.{Part, part_of}
use Rattle.cpp_tree.specs.Rows.{Setting, row_fits, is_branch, kid, result_of}
use Rattle.cpp_tree.specs.WellFormed.{heads_of, kids_in, stands, enough, is_switch, labels_fit, is_kid, is_zero_role, inside, fits, kids_fit, zeroes}
use Rattle.cpp_tree.specs.WellFormed.{zero_parts, zero_part, is_zero_of, zero_scalar, class_in, element_in, form_to_zero, volatile_to_zero, has_elements}
use Rattle.cpp_tree.specs.WellFormed.{is_sized_class, part_typ, starts_at, may_stand, branches_fit}
use Rattle.tree_fold.specs.Bare.{is_bare}
use Rattle.tree_fold.specs.Constants.{integer_word}
use Rattle.tree_fold.specs.Folding.{is_folded_form, stands_for, only_taken, taken_by, folded, all_folded}
use Rattle.fold_events.proofs.Steady.{is_unmarked, mark, may_replace, replacing, steady_node, steady, steady_try, all_steady, steady_catches, mark_kept}
use Rattle.fold_events.proofs.Steady.{typ_kept}
use Rattle.tree_fold.proofs.Tests.{first_true, last_true}

-- Kinds

unmarked_by : (kind : TKind) → mark kind ≡ Literal 0 → is_unmarked kind ≡ true
unmarked_by (Case w) e = absurd cc
unmarked_by Default e = absurd cc
unmarked_by (Destroy f o c s) e = absurd cc
unmarked_by (Field o k) e = absurd cc
unmarked_by kind e = refl

unmarked_mark : (kind : TKind) → is_unmarked kind ≡ true → mark kind ≡ Literal 0
unmarked_mark (Case w) e = absurd cc
unmarked_mark Default e = absurd cc
unmarked_mark (Destroy f o c s) e = absurd cc
unmarked_mark (Field o k) e = absurd cc
unmarked_mark kind e = refl

-- a branch is neither a label, nor a destruction, nor a field
value_unmarked : (kind : TKind) → serves Value kind ≡ true → is_unmarked kind ≡ true
value_unmarked (Case w) e = absurd cc
value_unmarked Default e = absurd cc
value_unmarked (Destroy f o c s) e = absurd cc
value_unmarked (Field o k) e = absurd cc
value_unmarked kind e = refl

initialiser_unmarked : (kind : TKind) → serves Initialiser kind ≡ true → is_unmarked kind ≡ true
initialiser_unmarked (Case w) e = absurd cc
initialiser_unmarked Default e = absurd cc
initialiser_unmarked (Destroy f o c s) e = absurd cc
initialiser_unmarked (Field o k) e = absurd cc
initialiser_unmarked kind e = refl

statement_unmarked : (kind : TKind) → serves Statement kind ≡ true → is_unmarked kind ≡ true
statement_unmarked (Case w) e = absurd cc
statement_unmarked Default e = absurd cc
statement_unmarked (Destroy f o c s) e = absurd cc
statement_unmarked (Field o k) e = absurd cc
statement_unmarked kind e = refl

branch_unmarked : (role : Role) (void_type : Bool) (kind : TKind) → serves (branch_role role void_type) kind ≡ true → is_unmarked kind ≡ true
branch_unmarked Initialiser b kind e = initialiser_unmarked kind e
branch_unmarked Value b kind e = value_unmarked kind e
branch_unmarked Step b kind e = value_unmarked kind e
branch_unmarked role true kind e = statement_unmarked kind e
branch_unmarked role false kind e = value_unmarked kind e

branch_no_zero : (role : Role) (void_type : Bool) → is_zero_role (branch_role role void_type) ≡ false
branch_no_zero Initialiser b = refl
branch_no_zero Value b = refl
branch_no_zero Step b = refl
branch_no_zero role true = refl
branch_no_zero role false = refl

-- what is taken may stand for the whole

not_both : (b : Bool) → not b ≡ true → b ≡ true → ⊥
not_both true e f = absurd cc
not_both false e f = absurd cc

throws_stay : (v : ℕ → Bool) (t : Tree) → is_throw (kind_of t) ≡ true → is_throw (kind_of (folded v t)) ≡ true
throws_stay v (node Throw t cat at kids) e = refl
throws_stay v (node Rethrow t cat at kids) e = refl
throws_stay v (node kind t cat at kids) e = absurd cc

no_throw : (t : Typ) (cat : Cat) (kind : TKind) → stands_for t cat kind ≡ true → is_throw kind ≡ true → ⊥
no_throw (typ f c v) Lvalue kind e g = not_both (is_throw kind) (last_true (is_folded_form f) (not (is_throw kind)) e) g
no_throw (typ f c v) Prvalue kind e g =
    not_both (is_throw kind) (last_true (is_folded_form f) (not (is_throw kind))
    (first_true (is_folded_form f && not (is_throw kind)) (not (is_object_form f) || goes_both_ways kind) e)) g

void_stays : (f : Form) (c v : Bool) → is_void (typ f c v) ≡ true → is_folded_form f ≡ true → ⊥
void_stays void c v e g = absurd cc
void_stays f c v e g = absurd cc

no_void : (t : Typ) (cat : Cat) (kind : TKind) → stands_for t cat kind ≡ true → is_void t ≡ true → ⊥
no_void (typ f c v) Lvalue kind e g = void_stays f c v g (first_true (is_folded_form f) (not (is_throw kind)) e)
no_void (typ f c v) Prvalue kind e g =
    void_stays f c v g (first_true (is_folded_form f) (not (is_throw kind))
    (first_true (is_folded_form f && not (is_throw kind)) (not (is_object_form f) || goes_both_ways kind) e))

-- the type of a branch that is taken is that of the whole
or_right : (a b : Bool) → (a || b) ≡ true → (a ≡ true → ⊥) → b ≡ true
or_right true b e f = absurd (f refl)
or_right false b e f = e

branch_typ : (v : ℕ → Bool) (t : Typ) (cat : Cat) (a : Tree) → is_branch t cat (head_of a) ≡ true → stands_for t cat (kind_of (folded v a)) ≡ true
    → typ_eq t (typ_in a) ≡ true
branch_typ v t Lvalue (node kind u c at kids) e s =
    last_true (is_lvalue c) (typ_eq t u) (or_right (is_throw kind) (is_lvalue c && typ_eq t u) e
    (λ g. no_throw t Lvalue (kind_of (folded v (node kind u c at kids))) s (throws_stay v (node kind u c at kids) g)))
branch_typ v t Prvalue (node kind u c at kids) e s =
    last_true (is_prvalue c) (typ_eq t u) (or_right (is_throw kind || is_void t) (is_prvalue c && typ_eq t u) e (λ g. neither (is_throw kind) (is_void t) g
    (λ i. no_throw t Prvalue (kind_of (folded v (node kind u c at kids))) s (throws_stay v (node kind u c at kids) i))
    (λ i. no_void t Prvalue (kind_of (folded v (node kind u c at kids))) s i)))
  where
    neither : (a b : Bool) → (a || b) ≡ true → (a ≡ true → ⊥) → (b ≡ true → ⊥) → ⊥
    neither a b e f g = g (or_right a b e f)

-- A conditional

module _ (v : ℕ → Bool) where
  -- what is known of a branch
  record Branch (t : Typ) (cat : Cat) (a : Tree) : Type 0 where
    same : steady v a ≡ folded v a
    fits_typ : is_branch t cat (head_of a) ≡ true
    unmarked : is_unmarked (kind_of a) ≡ true

  branch_replaces : (t : Typ) (cat : Cat) (a : Tree) → Branch t cat a → stands_for t cat (kind_of (folded v a)) ≡ true → may_replace t (folded v a) ≡ true
  branch_replaces t cat a b s =
      and_from (typ_eq t (typ_in (folded v a))) (is_unmarked (kind_of (folded v a)))
      (ap (typ_eq t) (ap typ_in (sym b.same) ∙ typ_kept v a) ∙ branch_typ v t cat a b.fits_typ s)
      (unmarked_by (kind_of (folded v a)) (ap (λ z. mark (kind_of z)) (sym b.same) ∙ mark_kept v a ∙ unmarked_mark (kind_of a) b.unmarked))

  one_replaces : (t : Typ) (cat : Cat) (a other : Tree) → Branch t cat a
      → replacing t (only_taken v t cat (folded v a) other) ≡ only_taken v t cat (folded v a) other
  one_replaces t cat a other b = if_so (stands_for t cat (kind_of (folded v a)) && is_bare v other)
      (λ e. branch_replaces t cat a b (first_true (stands_for t cat (kind_of (folded v a))) (is_bare v other) e))
    where
      if_so : (c : Bool) → (c ≡ true → may_replace t (folded v a) ≡ true) → replacing t (cond c (Some (folded v a)) None) ≡ cond c (Some (folded v a)) None
      if_so true f = ap (λ z. cond z (Some (folded v a)) None) (f refl)
      if_so false f = refl

  either_replaces : (c : Bool) (t : Typ) (o q : Option Tree) → replacing t o ≡ o → replacing t q ≡ q → replacing t (cond c o q) ≡ cond c o q
  either_replaces true t o q e f = e
  either_replaces false t o q e f = f

  choice_replaces : (t : Typ) (cat : Cat) (o : Option ℕ) (chosen other : Tree) → Branch t cat chosen → Branch t cat other
      → replacing t (taken_by v t cat o (folded v chosen) (folded v other)) ≡ taken_by v t cat o (folded v chosen) (folded v other)
  choice_replaces t cat None chosen other b d = refl
  choice_replaces t cat (Some w) chosen other b d =
      either_replaces (w == 0) t (only_taken v t cat (folded v other) (folded v chosen)) (only_taken v t cat (folded v chosen) (folded v other))
      (one_replaces t cat other (folded v chosen) d) (one_replaces t cat chosen (folded v other) b)

  -- Zeros

  zero_same : (f : Form) (t : Tree) → is_zero_of f t ≡ true → steady v t ≡ folded v t
  zero_same f (node (Literal w) t cat at none) e = refl
  zero_same f (node (Literal w) t cat at (more u us)) e = absurd cc
  zero_same f (node kind t cat at kids) e = absurd cc

  mutual
    zeros_same : (classes : List Class) (marked : Bool) (u : Typ) (t : Tree) → zeroes classes marked u t ≡ true → steady v t ≡ folded v t
    zeros_same classes marked u (node Pieces t cat at kids) e =
        ap (node Pieces t cat at) (parts_same classes (volatile_to_zero marked u) (unwrap_or (class_in (form_to_zero u)) 0) 0 kids
        (last_true (is_statement_typ t cat && is_sized_class classes (class_in (form_to_zero u)))
        (zero_parts classes (volatile_to_zero marked u) (unwrap_or (class_in (form_to_zero u)) 0) 0 kids) e))
    zeros_same classes marked u (node (Elements count stride) t cat at none) e = absurd cc
    zeros_same classes marked u (node (Elements count stride) t cat at (more a none)) e =
        ap (λ z. node (Elements count stride) t cat at (more z none)) (zeros_same classes (volatile_to_zero marked u) (element_in (form_to_zero u)) a
        (last_true (is_statement_typ t cat && has_elements classes count stride (form_to_zero u))
        (zeroes classes (volatile_to_zero marked u) (element_in (form_to_zero u)) a) e))
    zeros_same classes marked u (node (Elements count stride) t cat at (more a (more b ts))) e = absurd cc
    zeros_same classes marked u (node (Store k m) t cat at none) e = absurd cc
    zeros_same classes marked u (node (Store k m) t cat at (more word none)) e =
        ap (λ z. node (Store k m) t cat at (more z none)) (zero_same (form_to_zero u) word
        (last_true (is_kind k (kind_in (form_to_zero u)) && flag_eq m (volatile_to_zero marked u)) (is_zero_of (form_to_zero u) word)
        (last_true (is_statement_typ t cat) (zero_scalar (volatile_to_zero marked u) (form_to_zero u) k m word) e)))
    zeros_same classes marked u (node (Store k m) t cat at (more a (more b ts))) e = absurd cc
    zeros_same classes marked u (node kind t cat at kids) e = absurd cc

    parts_same : (classes : List Class) (marked : Bool) (n i : ℕ) (ts : Trees) → zero_parts classes marked n i ts ≡ true → all_steady v ts ≡ all_folded v ts
    parts_same classes marked n i none e = refl
    parts_same classes marked n i (more t ts) e =
        ap₂ more (part_same classes marked (part_of classes n i) t
        (first_true (zero_part classes marked (part_of classes n i) t) (zero_parts classes marked n (suc i) ts) e))
        (parts_same classes marked n (suc i) ts (last_true (zero_part classes marked (part_of classes n i) t) (zero_parts classes marked n (suc i) ts) e))

    part_same : (classes : List Class) (marked : Bool) (part : Option Part) (t : Tree) → zero_part classes marked part t ≡ true → steady v t ≡ folded v t
    part_same classes marked part (node (Piece offset) u cat at none) e = absurd cc
    part_same classes marked part (node (Piece offset) u cat at (more a none)) e =
        ap (λ z. node (Piece offset) u cat at (more z none))
        (zeros_same classes marked (part_typ part) a
        (last_true (is_statement_typ u cat && starts_at offset part) (zeroes classes marked (part_typ part) a) e))
    part_same classes marked part (node (Piece offset) u cat at (more a (more b ts))) e = absurd cc
    part_same classes marked part (node kind u cat at kids) e = absurd cc

  -- Well-formed trees

  fits_stands : (s : Setting) (pos : Position) (role : Role) (kind : TKind) (t : Typ) (cat : Cat) (at : At) (kids : Trees)
      → fits s pos role (node kind t cat at kids) ≡ true → stands s pos role kind t cat (heads_of kids) ≡ true
  fits_stands s pos role kind t cat at kids e =
      first_true (stands s pos role kind t cat (heads_of kids)) (enough (kids_in role kind t (heads_of kids)) (length (heads_of kids)))
      (first_true (stands s pos role kind t cat (heads_of kids) && enough (kids_in role kind t (heads_of kids)) (length (heads_of kids)))
      (not (is_switch kind) || labels_fit false kids)
      (first_true (stands s pos role kind t cat (heads_of kids) && enough (kids_in role kind t (heads_of kids)) (length (heads_of kids)) &&
      (not (is_switch kind) || labels_fit false kids)) (kids_fit s (inside kind pos) (kids_in role kind t (heads_of kids)) 0 kids) e))

  pub fits_kids : (s : Setting) (pos : Position) (role : Role) (kind : TKind) (t : Typ) (cat : Cat) (at : At) (kids : Trees)
      → fits s pos role (node kind t cat at kids) ≡ true → kids_fit s (inside kind pos) (kids_in role kind t (heads_of kids)) 0 kids ≡ true
  fits_kids s pos role kind t cat at kids e =
      last_true (stands s pos role kind t cat (heads_of kids) && enough (kids_in role kind t (heads_of kids)) (length (heads_of kids)) &&
      (not (is_switch kind) || labels_fit false kids)) (kids_fit s (inside kind pos) (kids_in role kind t (heads_of kids)) 0 kids) e

  stands_row : (s : Setting) (pos : Position) (role : Role) (kind : TKind) (t : Typ) (cat : Cat) (hs : List Head) → stands s pos role kind t cat hs ≡ true
      → row_fits s kind t cat hs ≡ true
  stands_row s pos role kind t cat hs e =
      last_true (serves role kind && way_fits role kind t cat && may_stand s.function.kind pos kind (length hs) && branches_fit role kind t hs)
      (row_fits s kind t cat hs) e

  fits_serves : (s : Setting) (pos : Position) (role : Role) (t : Tree) → fits s pos role t ≡ true → serves role (kind_of t) ≡ true
  fits_serves s pos role (node kind t cat at kids) e =
      let hs = heads_of kids in
      first_true (serves role kind) (way_fits role kind t cat)
      (first_true (serves role kind && way_fits role kind t cat) (may_stand s.function.kind pos kind (length hs))
      (first_true (serves role kind && way_fits role kind t cat && may_stand s.function.kind pos kind (length hs)) (branches_fit role kind t hs)
      (first_true (serves role kind && way_fits role kind t cat && may_stand s.function.kind pos kind (length hs) && branches_fit role kind t hs)
      (row_fits s kind t cat hs) (fits_stands s pos role kind t cat at kids e))))

  -- the first of these kids, and those behind it
  abbrev pub KidFits : Setting → Position → Kids → ℕ → Tree → Type 0
  KidFits s pos ks i t = cond (is_zero_role (unwrap_or (role_at ks i) Value)) (zeroes s.classes false (result_of s.function) t)
      (fits s pos (unwrap_or (role_at ks i) Value) t) ≡ true

  pub kid_fits : (s : Setting) (pos : Position) (ks : Kids) (i : ℕ) (t : Tree) (ts : Trees) → kids_fit s pos ks i (more t ts) ≡ true → KidFits s pos ks i t
  kid_fits s pos ks i t ts e =
      let c = cond (is_zero_role (unwrap_or (role_at ks i) Value)) (zeroes s.classes false (result_of s.function) t)
      (fits s pos (unwrap_or (role_at ks i) Value) t) in
      last_true (is_some (role_at ks i) && is_kid (kind_of t)) c
      (first_true (is_some (role_at ks i) && is_kid (kind_of t) && c) (kids_fit s pos ks (suc i) ts) e)

  pub rest_fits : (s : Setting) (pos : Position) (ks : Kids) (i : ℕ) (t : Tree) (ts : Trees) → kids_fit s pos ks i (more t ts) ≡ true
      → kids_fit s pos ks (suc i) ts ≡ true
  rest_fits s pos ks i t ts e =
      let c = cond (is_zero_role (unwrap_or (role_at ks i) Value)) (zeroes s.classes false (result_of s.function) t)
      (fits s pos (unwrap_or (role_at ks i) Value) t) in
      last_true (is_some (role_at ks i) && is_kid (kind_of t) && c) (kids_fit s pos ks (suc i) ts) e

  kid_same : (b : Bool) (s : Setting) (pos : Position) (role : Role) (t : Tree) → (fits s pos role t ≡ true → steady v t ≡ folded v t)
      → cond b (zeroes s.classes false (result_of s.function) t) (fits s pos role t) ≡ true → steady v t ≡ folded v t
  kid_same true s pos role t f e = zeros_same s.classes false (result_of s.function) t e
  kid_same false s pos role t f e = f e

  -- a branch of a conditional
  branch_fits : (s : Setting) (pos : Position) (role : Role) (b : Bool) (t : Tree)
      → cond (is_zero_role (branch_role role b)) (zeroes s.classes false (result_of s.function) t) (fits s pos (branch_role role b) t) ≡ true
      → fits s pos (branch_role role b) t ≡ true
  branch_fits s pos role b t e = subst (λ z. cond z (zeroes s.classes false (result_of s.function) t) (fits s pos (branch_role role b) t) ≡ true)
      (branch_no_zero role b) e

  branch_known : (s : Setting) (pos : Position) (role : Role) (b : Bool) (t : Typ) (cat : Cat) (a : Tree) → fits s pos (branch_role role b) a ≡ true
      → is_branch t cat (head_of a) ≡ true → steady v a ≡ folded v a → Branch t cat a
  branch_known s pos role b t cat a f g e = record {
    same = e;
    fits_typ = g;
    unmarked = branch_unmarked role b (kind_of a)
        (fits_serves s pos (branch_role role b) a f);
  }

  -- a handler
  abbrev try_kids : Kids
  try_kids = and_any (Statement ∷ Catch ∷ []) Catch

  catch_role : (i : ℕ) → role_at try_kids (suc i) ≡ Some Catch
  catch_role zero = refl
  catch_role (suc i) = refl

  catch_fits : (s : Setting) (pos : Position) (i : ℕ) (t : Tree) → KidFits s pos try_kids (suc i) t → fits s pos Catch t ≡ true
  catch_fits s pos i t e = subst (λ z. cond (is_zero_role (unwrap_or z Value)) (zeroes s.classes false (result_of s.function) t)
      (fits s pos (unwrap_or z Value) t) ≡ true) (catch_role i) e

  handler_stays : (kind : TKind) (t : Typ) (cat : Cat) (at : At) (kids : Trees) → serves Catch kind ≡ true
      → node kind t cat at (all_folded v kids) ≡ folded v (node kind t cat at kids)
  handler_stays (Handler place) t cat at kids e = refl
  handler_stays kind t cat at kids e = absurd cc

  mutual
    pub same_tree : (s : Setting) (pos : Position) (role : Role) (t : Tree) → fits s pos role t ≡ true → steady v t ≡ folded v t
    same_tree s pos role (node Conditional t cat at none) e = refl
    same_tree s pos role (node Conditional t cat at (more a none)) e =
        ap (λ z. node Conditional t cat at z) (same_kids s (inside Conditional pos) (kids_in role Conditional t (heads_of (more a none))) 0 (more a none)
        (fits_kids s pos role Conditional t cat at (more a none) e))
    same_tree s pos role (node Conditional t cat at (more a (more b none))) e =
        ap (λ z. node Conditional t cat at z) (same_kids s (inside Conditional pos) (kids_in role Conditional t (heads_of (more a (more b none)))) 0
        (more a (more b none)) (fits_kids s pos role Conditional t cat at (more a (more b none)) e))
    same_tree s pos role (node Conditional t cat at (more test (more chosen (more other none)))) e =
        let all = more test (more chosen (more other none)) in
        let hs = heads_of all in
        let ks = kids_in role Conditional t hs in
        let f = fits_kids s pos role Conditional t cat at all e in
        let g = rest_fits s (inside Conditional pos) ks 0 test (more chosen (more other none)) f in
        let j = rest_fits s (inside Conditional pos) ks 1 chosen (more other none) g in
        let m = branch_fits s pos role (is_void t) chosen (kid_fits s (inside Conditional pos) ks 1 chosen (more other none) g) in
        let n = branch_fits s pos role (is_void t) other (kid_fits s (inside Conditional pos) ks 2 other none j) in
        let row = stands_row s pos role Conditional t cat hs (fits_stands s pos role Conditional t cat at all e) in
        let b = branch_known s pos role (is_void t) t cat chosen m
        (last_true (kid 0 is_bool hs) (is_branch t cat (head_of chosen))
        (first_true (kid 0 is_bool hs && is_branch t cat (head_of chosen)) (is_branch t cat (head_of other)) row))
        (same_tree s pos (branch_role role (is_void t)) chosen m) in
        let d = branch_known s pos role (is_void t) t cat other n
        (last_true (kid 0 is_bool hs && is_branch t cat (head_of chosen)) (is_branch t cat (head_of other)) row)
        (same_tree s pos (branch_role role (is_void t)) other n) in
        ap (λ z. steady_node v Conditional t cat at z) (same_kids s (inside Conditional pos) ks 0 (more test (more chosen (more other none))) f)
        ∙ ap (λ z. unwrap_or z (node Conditional t cat at (all_folded v all))) (choice_replaces t cat (integer_word (folded v test)) chosen other b d)
    same_tree s pos role (node Conditional t cat at (more a (more b (more c (more d ts))))) e =
        ap (λ z. node Conditional t cat at z) (same_kids s (inside Conditional pos)
        (kids_in role Conditional t (heads_of (more a (more b (more c (more d ts)))))) 0 (more a (more b (more c (more d ts))))
        (fits_kids s pos role Conditional t cat at (more a (more b (more c (more d ts)))) e))
    same_tree s pos role (node Try t cat at kids) e = ap (λ z. node Try t cat at z) (same_try s pos kids (fits_kids s pos role Try t cat at kids e))
    same_tree s pos role (node kind t cat at kids) e =
        ap (λ z. steady_node v kind t cat at z) (same_kids s (inside kind pos) (kids_in role kind t (heads_of kids)) 0 kids
        (fits_kids s pos role kind t cat at kids e))

    pub same_kids : (s : Setting) (pos : Position) (ks : Kids) (i : ℕ) (ts : Trees) → kids_fit s pos ks i ts ≡ true → all_steady v ts ≡ all_folded v ts
    same_kids s pos ks i none e = refl
    same_kids s pos ks i (more t ts) e =
        ap₂ more (kid_same (is_zero_role (unwrap_or (role_at ks i) Value)) s pos (unwrap_or (role_at ks i) Value) t
        (λ f. same_tree s pos (unwrap_or (role_at ks i) Value) t f) (kid_fits s pos ks i t ts e))
        (same_kids s pos ks (suc i) ts (rest_fits s pos ks i t ts e))

    same_try : (s : Setting) (pos : Position) (ts : Trees) → kids_fit s pos try_kids 0 ts ≡ true → steady_try v ts ≡ all_folded v ts
    same_try s pos none e = refl
    same_try s pos (more t ts) e = ap₂ more (same_tree s pos Statement t (kid_fits s pos try_kids 0 t ts e))
        (same_catches s pos 0 ts (rest_fits s pos try_kids 0 t ts e))

    same_catches : (s : Setting) (pos : Position) (i : ℕ) (ts : Trees) → kids_fit s pos try_kids (suc i) ts ≡ true → steady_catches v ts ≡ all_folded v ts
    same_catches s pos i none e = refl
    same_catches s pos i (more (node kind t cat at kids) ts) e =
        let f = catch_fits s pos i (node kind t cat at kids) (kid_fits s pos try_kids (suc i) (node kind t cat at kids) ts e) in
        ap₂ more (ap (λ z. node kind t cat at z) (same_kids s (inside kind pos) (kids_in Catch kind t (heads_of kids)) 0 kids
        (fits_kids s pos Catch kind t cat at kids f)) ∙ handler_stays kind t cat at kids (fits_serves s pos Catch (node kind t cat at kids) f))
        (same_catches s pos (suc i) ts (rest_fits s pos try_kids (suc i) (node kind t cat at kids) ts e))
