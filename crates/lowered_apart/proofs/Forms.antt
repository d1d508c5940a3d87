-- Trees that fit, and the temporaries that they make.
use Rattle.std.proofs.Common.{◌≡◌, ◌∙◌, refl, subst, Bool, true, false, not, ◌&&◌, ◌||◌, cond, ℕ, suc, ◌==◌, nat_lt, nat_le, List, length, unwrap_or, Option, ◌⊎◌, inl, inr, ◌≤◌, arith}
use Rattle.std.proofs.lemmas.Bool.{and_parts}
use Rattle.std.proofs.lemmas.Bool.Decides.{nat_tests}
use Rattle.std.specs.Prelude.{is_some}
use Rattle.cpp_tree.specs.cpp_types.Class.{Class}
use Rattle.cpp_tree.specs.cpp_types.Typ.{Typ, Form}
use Rattle.cpp_tree.specs.declared.kinds.TKind.{TKind}
use Rattle.cpp_tree.specs.declared.kinds.TKind.TheVariants.{Literal, Store, Pieces, Piece, Elements, FullExpression, Loop, Switch, Materialize}
use Rattle.cpp_tree.specs.declared.roles.Position.{Position}
use Rattle.cpp_tree.specs.declared.roles.Role.{Role}
use Rattle.cpp_tree.specs.declared.roles.Role.TheVariants.{Value}
use Rattle.cpp_tree.specs.declared.program.FuncKind.{FuncKind}
use Rattle.cpp_tree.specs.Trees.{Tree, node, Trees, none, more, kind_of, kids_of, rest}
use Rattle.cpp_tree.specs.Typing.{is_void, is_statement_typ, is_prvalue, is_kind, kind_in}
use Rattle.cpp_tree.specs.cpp_types.Equal.{typ_eq, flag_eq}
use Rattle.cpp_tree.specs.cpp_types.declared.ranks.Cat.{Cat}
use Rattle.cpp_tree.specs.cpp_types.declared.classes.At.{At}
use Rattle.cpp_tree.specs.Parts.{Part, part_of}
use Rattle.cpp_tree.specs.Roles.{Kids, role_at, serves, way_fits}
use Rattle.cpp_tree.specs.Rows.{Setting, row_fits, result_of}
use Rattle.cpp_tree.specs.WellFormed.{inside, may_stand, heads_of, is_zeroing, is_zero, are_zero, zeroes, zero_parts, zero_part, is_zero_of, zero_typ, part_typ, starts_at, is_sized_class, class_in, form_to_zero, volatile_to_zero, has_elements, element_in, zero_scalar, is_zero_role, kids_in, no_object, branches_fit, stands, enough, is_kid, is_switch as is_switch_of, labels_fit, fits, kids_fit}
use Rattle.low_code.specs.Temporaries.{makes_by}
use Rattle.lowered_apart.specs.Still.{lets_wait, holds, is_switch}
use Rattle.lowered_apart.specs.Suiting.{is_chosen, none_chosen, defaults_in, kids_suit, suits, all_suit}
use Rattle.lowered_apart.proofs.Lists.{no_more}
use Rattle.lowered_apart.proofs.Roles.{is_open, is_word, has_role, role_of, holds_open, open_stands, open_kids, word_kids, calls_suit}

-- what a tree makes that waits
abbrev mutual
  pub waits : Tree → Bool
  waits (node kind t cat at kids) = makes_by kind (length (heads_of kids)) (any_wait kids)

  pub any_wait : Trees → Bool
  any_wait none = false
  any_wait (more t ts) = waits t || any_wait ts

neither : (a b : Bool) → a ≡ false → b ≡ false → a || b ≡ false
neither true b e f = absurd cc
neither false b e f = f

no_many : (many : ℕ) → many == 1 || false ≡ true → nat_lt 1 many ≡ false
no_many many e = grind (arith, nat_tests)

makes_none : (f : FuncKind) (p : Position) (kind : TKind) (many : ℕ) (below : Bool) → may_stand f p kind many ≡ true → p.full ≡ false
    → (lets_wait kind ≡ true → below ≡ false) → makes_by kind many below ≡ false
makes_none f p FullExpression many below m n b = refl
makes_none f p (Materialize place true) many below m n b = b refl
makes_none f p (Materialize place false) many below m n b =
    neither (nat_lt 1 many) below (no_many many (subst (λ (v : Bool). many == 1 || v ≡ true) n m)) (b refl)
makes_none f p kind many below m n b = b refl

pub inside_full : (kind : TKind) (p : Position) → lets_wait kind ≡ true → (inside kind p).full ≡ p.full
inside_full FullExpression p e = absurd cc
inside_full (Loop test_first) p e = refl
inside_full Switch p e = refl
inside_full kind p e = refl

-- ---- zeros

and_both : (a b : Bool) → a ≡ true → b ≡ true → a && b ≡ true
and_both true b e f = f
and_both false b e f = absurd cc

zero_both : (a : Bool) → a ≡ true → true && (a && true) ≡ true
zero_both true e = refl
zero_both false e = absurd cc

literal_zero : (a b c : Bool) → a && b && c ≡ true → a && true ≡ true
literal_zero true b c e = refl
literal_zero false b c e = absurd cc

word_zero : (f : Form) (t : Tree) → is_zero_of f t ≡ true → is_zero t ≡ true
word_zero f (node (Literal w) t cat at none) e = literal_zero (w == 0) (is_prvalue cat) (typ_eq (zero_typ f) t) e
word_zero f t e = absurd cc

mutual
  zeroes_zero : (classes : List Class) (v : Bool) (u : Typ) (t : Tree) → zeroes classes v u t ≡ true → is_zero t ≡ true
  zeroes_zero classes v u (node Pieces ty cat at kids) e = parts_zero classes (volatile_to_zero v u) (unwrap_or (class_in (form_to_zero u)) 0) 0 kids
      (and_parts (is_statement_typ ty cat && is_sized_class classes (class_in (form_to_zero u)))
      (zero_parts classes (volatile_to_zero v u) (unwrap_or (class_in (form_to_zero u)) 0) 0 kids) e).1
  zeroes_zero classes v u (node (Elements count stride) ty cat at (more kid none)) e =
      zero_both (is_zero kid) (zeroes_zero classes (volatile_to_zero v u) (element_in (form_to_zero u)) kid
      (and_parts (is_statement_typ ty cat && has_elements classes count stride (form_to_zero u))
      (zeroes classes (volatile_to_zero v u) (element_in (form_to_zero u)) kid) e).1)
  zeroes_zero classes v u (node (Store k marked) ty cat at (more word none)) e =
      zero_both (is_zero word) (word_zero (form_to_zero u) word (and_parts (is_kind k (kind_in (form_to_zero u)) && flag_eq marked (volatile_to_zero v u))
      (is_zero_of (form_to_zero u) word)
      (and_parts (is_statement_typ ty cat) (zero_scalar (volatile_to_zero v u) (form_to_zero u) k marked word) e).1).1)
  zeroes_zero classes v u t e = absurd cc

  parts_zero : (classes : List Class) (v : Bool) (n i : ℕ) (ts : Trees) → zero_parts classes v n i ts ≡ true → are_zero ts ≡ true
  parts_zero classes v n i none e = refl
  parts_zero classes v n i (more t ts) e = let k = and_parts (zero_part classes v (part_of classes n i) t) (zero_parts classes v n (suc i) ts) e in
      and_both (is_zero t) (are_zero ts) (part_zero classes v (part_of classes n i) t k.0) (parts_zero classes v n (suc i) ts k.1)

  part_zero : (classes : List Class) (v : Bool) (part : Option Part) (t : Tree) → zero_part classes v part t ≡ true → is_zero t ≡ true
  part_zero classes v part (node (Piece offset) ty cat at (more kid none)) e =
      zero_both (is_zero kid) (zeroes_zero classes v (part_typ part) kid (and_parts (is_statement_typ ty cat && starts_at offset part)
      (zeroes classes v (part_typ part) kid) e).1)
  part_zero classes v part t e = absurd cc

zeroing_makes : (kind : TKind) (many : ℕ) (below : Bool) → is_zeroing kind ≡ true → below ≡ false → makes_by kind many below ≡ false
zeroing_makes (Materialize place argument) many below z b = absurd cc
zeroing_makes FullExpression many below z b = refl
zeroing_makes kind many below z b = b

mutual
  zero_none : (t : Tree) → is_zero t ≡ true → waits t ≡ false
  zero_none (node kind ty cat at kids) e = let k = and_parts (is_zeroing kind) (are_zero kids) e in
      zeroing_makes kind (length (heads_of kids)) (any_wait kids) k.0 (zeros_none kids k.1)

  zeros_none : (ts : Trees) → are_zero ts ≡ true → any_wait ts ≡ false
  zeros_none none e = refl
  zeros_none (more t ts) e = let k = and_parts (is_zero t) (are_zero ts) e in neither (waits t) (any_wait ts) (zero_none t k.0) (zeros_none ts k.1)

-- ---- what fits

-- what is said of a node that fits, and of one of its kids
record Fitting (s : Setting) (p : Position) (role : Role) (kind : TKind) (t : Typ) (kids : Trees) : Type 0 where
  serving : serves role kind ≡ true
  standing : may_stand s.function.kind p kind (length (heads_of kids)) ≡ true
  fitting : kids_fit s (inside kind p) (kids_in role kind t (heads_of kids)) 0 kids ≡ true

fitting_of : (s : Setting) (p : Position) (role : Role) (kind : TKind) (t : Typ) (cat : Cat) (at : At) (kids : Trees)
    → fits s p role (node kind t cat at kids) ≡ true → Fitting s p role kind t kids
fitting_of s p role kind t cat at kids e =
    let a = and_parts (stands s p role kind t cat (heads_of kids) && enough (kids_in role kind t (heads_of kids)) (length (heads_of kids))
    && (not (is_switch_of kind) || labels_fit false kids)) (kids_fit s (inside kind p) (kids_in role kind t (heads_of kids)) 0 kids) e in
    let b = and_parts (stands s p role kind t cat (heads_of kids) && enough (kids_in role kind t (heads_of kids)) (length (heads_of kids)))
    (not (is_switch_of kind) || labels_fit false kids) a.0 in
    let c = and_parts (stands s p role kind t cat (heads_of kids)) (enough (kids_in role kind t (heads_of kids)) (length (heads_of kids))) b.0 in
    let f = and_parts (serves role kind && way_fits role kind t cat && may_stand s.function.kind p kind (length (heads_of kids))
    && branches_fit role kind t (heads_of kids)) (row_fits s kind t cat (heads_of kids)) c.0 in
    let h = and_parts (serves role kind && way_fits role kind t cat && may_stand s.function.kind p kind (length (heads_of kids)))
    (branches_fit role kind t (heads_of kids)) f.0 in
    let k = and_parts (serves role kind && way_fits role kind t cat) (may_stand s.function.kind p kind (length (heads_of kids))) h.0 in
    record { serving = (and_parts (serves role kind) (way_fits role kind t cat) k.0).0; standing = k.1; fitting = a.1 }

-- a kid that fits is zero, or fits in its role
kid_fits : (s : Setting) (p : Position) (kids : Kids) (i : ℕ) (t : Tree) (ts : Trees) → kids_fit s p kids i (more t ts) ≡ true
    → ((is_zero t ≡ true) ⊎ (fits s p (unwrap_or (role_at kids i) Value) t ≡ true)) × (kids_fit s p kids (suc i) ts ≡ true)
kid_fits s p kids i t ts e =
    let a = and_parts (is_some (role_at kids i) && is_kid (kind_of t)
    && cond (is_zero_role (unwrap_or (role_at kids i) Value)) (zeroes s.classes false (result_of s.function) t)
    (fits s p (unwrap_or (role_at kids i) Value) t)) (kids_fit s p kids (suc i) ts) e in
    let b = and_parts (is_some (role_at kids i) && is_kid (kind_of t))
    (cond (is_zero_role (unwrap_or (role_at kids i) Value)) (zeroes s.classes false (result_of s.function) t)
    (fits s p (unwrap_or (role_at kids i) Value) t)) a.0 in
    (by (is_zero_role (unwrap_or (role_at kids i) Value)) b.1, a.1)
  where
    by : (v : Bool) → cond v (zeroes s.classes false (result_of s.function) t) (fits s p (unwrap_or (role_at kids i) Value) t) ≡ true
        → (is_zero t ≡ true) ⊎ (fits s p (unwrap_or (role_at kids i) Value) t ≡ true)
    by true h = inl (zeroes_zero s.classes false (result_of s.function) t h)
    by false h = inr h

either_none : {A : Type 0} (t : Tree) → (is_zero t ≡ true) ⊎ A → (A → waits t ≡ false) → waits t ≡ false
either_none t (inl z) f = zero_none t z
either_none t (inr a) f = f a

-- outside of full-expressions nothing waits
mutual
  pub fit_none : (s : Setting) (p : Position) (role : Role) (t : Tree) → fits s p role t ≡ true → p.full ≡ false → waits t ≡ false
  fit_none s p role (node kind ty cat at kids) e n = let f = fitting_of s p role kind ty cat at kids e in
      makes_none s.function.kind p kind (length (heads_of kids)) (any_wait kids) f.standing n
      (λ l. kids_none s (inside kind p) (kids_in role kind ty (heads_of kids)) 0 kids f.fitting (inside_full kind p l ∙ n))

  kids_none : (s : Setting) (p : Position) (kids : Kids) (i : ℕ) (ts : Trees) → kids_fit s p kids i ts ≡ true → p.full ≡ false → any_wait ts ≡ false
  kids_none s p kids i none e n = refl
  kids_none s p kids i (more t ts) e n = let k = kid_fits s p kids i t ts e in
      neither (waits t) (any_wait ts) (either_none t k.0 (λ f. fit_none s p (unwrap_or (role_at kids i) Value) t f n)) (kids_none s p kids (suc i) ts k.1 n)

-- ---- nodes of bodies

-- a tree of a body: zeros, or what fits in a role; in one for statements no full-expression lies around
pub data Lies (s : Setting) (t : Tree) : Type 0 where
  zeros : is_zero t ≡ true → Lies s t
  stands_as : (p : Position) (role : Role) → fits s p role t ≡ true → suits t ≡ true → (is_open role ≡ true → p.full ≡ false)
      → (is_word role ≡ true → is_chosen t ≡ false) → Lies s t

abbrev pub AllLie : Setting → Trees → Type 0
AllLie s none = Unit {0}
AllLie s (more t ts) = Lies s t × AllLie s ts

zeros_lie : (s : Setting) (ts : Trees) → are_zero ts ≡ true → AllLie s ts
zeros_lie s none e = tt
zeros_lie s (more t ts) e = let k = and_parts (is_zero t) (are_zero ts) e in (zeros k.0, zeros_lie s ts k.1)

not_false : (b : Bool) → not b ≡ true → b ≡ false
not_false true e = absurd cc
not_false false e = refl

kid_lies : (s : Setting) (p : Position) (role : Role) (t : Tree) → (is_zero t ≡ true) ⊎ (fits s p role t ≡ true) → suits t ≡ true
    → (is_open role ≡ true → p.full ≡ false) → (is_word role ≡ true → is_chosen t ≡ false) → Lies s t
kid_lies s p role t (inl z) u o w = zeros z
kid_lies s p role t (inr f) u o w = stands_as p role f u o w

list_lies : (s : Setting) (p : Position) (kids : Kids) (i : ℕ) (ts : Trees) → kids_fit s p kids i ts ≡ true → all_suit ts ≡ true
    → (has_role is_open kids ≡ true → p.full ≡ false) → (has_role is_word kids ≡ true → none_chosen ts ≡ true) → AllLie s ts
list_lies s p kids i none e u o w = tt
list_lies s p kids i (more t ts) e u o w =
    let k = kid_fits s p kids i t ts e in
    let v = and_parts (suits t) (all_suit ts) u in (
      kid_lies s p (unwrap_or (role_at kids i) Value) t k.0 v.0 (λ h. o (role_of is_open refl kids i h))
          (λ h. not_false (is_chosen t) (and_parts (not (is_chosen t)) (none_chosen ts) (w (role_of is_word refl kids i h))).0),
      list_lies s p kids (suc i) ts k.1 v.1 o (λ h. (and_parts (not (is_chosen t)) (none_chosen ts) (w h)).1),
    )

pub kids_lie : (s : Setting) (t : Tree) → Lies s t → AllLie s (kids_of t)
kids_lie s (node kind ty cat at kids) (zeros e) = zeros_lie s kids (and_parts (is_zeroing kind) (are_zero kids) e).1
kids_lie s (node kind ty cat at kids) (stands_as p role e u o w) =
    let f = fitting_of s p role kind ty cat at kids e in
    let v = and_parts (kids_suit kind kids) (all_suit kids) u in
    list_lies s (inside kind p) (kids_in role kind ty (heads_of kids)) 0 kids f.fitting v.1
    (λ h. let k = open_kids kind role (is_void ty) (no_object (heads_of kids)) f.serving w h in inside_full kind p k.1 ∙ o k.0)
    (λ h. calls_suit kind kids (word_kids kind role (is_void ty) (no_object (heads_of kids)) h) v.0)

-- where jumps and places are held nothing waits
pub held_none : (s : Setting) (t : Tree) → Lies s t → holds (kind_of t) ≡ true → waits t ≡ false
held_none s t (zeros e) h = zero_none t e
held_none s (node kind ty cat at kids) (stands_as p role e u o w) h =
    fit_none s p role (node kind ty cat at kids) e (o (open_stands kind role (holds_open kind h) (fitting_of s p role kind ty cat at kids e).serving))

zero_switch : (kind : TKind) → is_zeroing kind ≡ true → is_switch kind ≡ true → ⊥
zero_switch Switch z e = no_more z
zero_switch kind z e = no_more e

switch_suits : (kind : TKind) (kids : Trees) → is_switch kind ≡ true → kids_suit kind kids ≡ true → nat_le (defaults_in (rest kids)) 1 ≡ true
switch_suits Switch kids e h = h
switch_suits kind kids e h = absurd cc

pub one_default_in : (s : Setting) (t : Tree) → Lies s t → is_switch (kind_of t) ≡ true → defaults_in (rest (kids_of t)) ≤ 1
one_default_in s (node kind ty cat at kids) (zeros e) h = absurd (zero_switch kind (and_parts (is_zeroing kind) (are_zero kids) e).0 h)
one_default_in s (node kind ty cat at kids) (stands_as p role e u o w) h =
    let k : nat_le (defaults_in (rest kids)) 1 ≡ true = switch_suits kind kids h (and_parts (kids_suit kind kids) (all_suit kids) u).0 in
    grind (arith, nat_tests)
