-- Folding changes neither the calls in a tree nor whether a node in it is unsafe by itself.
use Rattle.std.proofs.Common.{◌≡◌, ℕ, suc, ◌==◌, Bool, true, false, ◌&&◌, ◌||◌, refl, sym, ap, ap₂, subst, ◌∙◌, List, [], ◌∷◌, ◌++◌, Option, Some, None, cond}
use Rattle.std.proofs.Common.{not}
use Rattle.std.specs.Prelude.{unwrap_or, option_map}
use Rattle.std.proofs.lemmas.Option.{cond_some}
use Rattle.cpp_tree.specs.tx_ints.declared.kinds.IntKind.{IntKind}
use Rattle.cpp_tree.specs.tx_ints.declared.kinds.BinOp.{BinOp}
use Rattle.cpp_tree.specs.cpp_types.Typ.{Typ}
use Rattle.cpp_tree.specs.cpp_types.declared.classes.At.{At}
use Rattle.cpp_tree.specs.cpp_types.declared.ranks.Cat.{Cat}
use Rattle.cpp_tree.specs.declared.kinds.TKind.{TKind}
use Rattle.cpp_tree.specs.declared.kinds.TKind.TheVariants.{Literal, Local, ClassTable, Load, Convert, Retype, Binary, Conditional, Comma, Assign, Update}
use Rattle.cpp_tree.specs.declared.kinds.TKind.TheVariants.{CopyAssign, Materialize, FullExpression, Call, VirtualCall, PointerCall, Throw, Rethrow, Store}
use Rattle.cpp_tree.specs.declared.kinds.TKind.TheVariants.{CopyScalar, Construct, CopyConstruct, CopyFrom, Pieces, Piece, Elements, Init, Handler, Atomic}
use Rattle.cpp_tree.specs.declared.kinds.TKind.TheVariants.{Destroy, Field}
use Rattle.cpp_tree.specs.declared.faults.UnsafeReason.TheVariants.{VolatileLocal, VolatileWrite}
use Rattle.cpp_tree.specs.declared.roles.Position.{Position}
use Rattle.cpp_tree.specs.declared.roles.Role.{Role}
use Rattle.cpp_tree.specs.declared.roles.Role.TheVariants.{Value}
use Rattle.cpp_tree.specs.Roles.{Kids, role_at}
use Rattle.cpp_tree.specs.Rows.{Setting, result_of}
use Rattle.cpp_tree.specs.WellFormed.{heads_of, kids_in, inside, is_zero_role, fits, kids_fit, zeroes}
use Rattle.cpp_tree.specs.cpp_types.declared.ranks.Cat.TheVariants.{Prvalue}
use Rattle.cpp_tree.specs.Trees.{Tree, node, Trees, none, more, kind_of, typ_in, first, rest}
use Rattle.cpp_tree.specs.Typing.{is_void}
use Rattle.tx_unsafe.specs.Volatile.{is_volatile_object, is_class_object, is_volatile_class}
use Rattle.tx_unsafe.specs.Unsafe.{own, own_in, own_in_all, is_exception, calls_in, calls_in_all, counted, called, sites, is_atomic, is_local, first_of}
use Rattle.tx_unsafe.specs.Unsafe.{place_of, where_so}
use Rattle.tx_unsafe.specs.declared.finding.Finding.{Finding}
use Rattle.tx_unsafe.specs.declared.finding.CallSite.{CallSite}
use Rattle.tx_safety.specs.Safe.{is_empty}
use Rattle.src_mean.specs.Source.{converted}
use Rattle.tree_fold.specs.Bare.{is_closure, is_bare_node, is_bare, are_bare}
use Rattle.tree_fold.specs.Constants.{is_integer, integer_word, both_words, operator_word, comma_word, constant}
use Rattle.tree_fold.specs.Folding.{stands_for, only_taken, taken_by, taken, literal_or, folded, all_folded}
use Rattle.fold_events.proofs.Steady.{typ_kept}
use Rattle.fold_events.proofs.Comes.{guarded}
use Rattle.fold_events.proofs.Fitting.{fits_kids, kid_fits, rest_fits, same_tree}
use Rattle.tree_fold.proofs.Tests.{first_true, last_true}
use Rattle.tree_fold.proofs.Zeros.{zeros_stay}

-- Lists

pub empty_both : {A : Type 0} (xs ys : List A) → is_empty (xs ++ ys) ≡ (is_empty xs && is_empty ys)
empty_both [] ys = refl
empty_both (x ∷ xs) ys = refl

pub counted_empty : {A : Type 0} (b : Bool) (xs : List A) → is_empty xs ≡ true → is_empty (counted b xs) ≡ true
counted_empty true xs e = e
counted_empty false xs e = refl

no_calls : {A : Type 0} (b : Bool) (xs : List A) → xs ≡ [] → counted b xs ≡ []
no_calls true xs e = e
no_calls false xs e = refl

false_of : (b : Bool) → not b ≡ true → b ≡ false
false_of true e = absurd cc
false_of false e = refl

-- Bare trees

not_made : (b : Bool) (xs : List Finding) → is_empty (cond (b && false) xs [] ++ []) ≡ true
not_made true xs = refl
not_made false xs = refl

module _ (v : ℕ → Bool) where
  bare_own : (kind : TKind) (t : Typ) (cat : Cat) (at : At) (a b : Option Tree) → is_bare_node v kind t ≡ true → is_empty (own v kind t cat at a b) ≡ true
  bare_own (Literal w) t cat at a b e = refl
  bare_own (Local n) t cat at a b e = refl
  bare_own (ClassTable n) t cat at a b e = refl
  bare_own (Load kind true) t cat at a b e = absurd cc
  bare_own (Load kind false) t cat at a b e = refl
  bare_own (Convert to) t cat at a b e = refl
  bare_own Retype t cat at a b e = refl
  bare_own (Binary op kind) t cat at a b e = refl
  bare_own Conditional t cat at a b e = refl
  bare_own Comma t cat at a b e = refl
  bare_own (Assign kind true) t cat at a b e = absurd cc
  bare_own (Assign kind false) t cat at a b e = refl
  bare_own (Update op stored operation true old) t cat at a b e = absurd cc
  bare_own (Update op stored operation false old) t cat at a b e = refl
  bare_own CopyAssign t cat at a b e = rw (false_of (is_volatile_class v t) (first_true (not (is_volatile_class v t)) (not (is_closure t)) e)) refl
  bare_own (Materialize place true) t cat at a b e = rw (false_of (is_volatile_object v t) e) (not_made (is_exception t) _)
  bare_own (Materialize place false) t cat at a b e = rw (false_of (is_volatile_object v t) e) refl
  bare_own FullExpression t cat at a b e = refl
  bare_own Throw t cat at a b e = refl
  bare_own Rethrow t cat at a b e = refl
  bare_own (Store kind marked) t cat at a b e = rw (false_of (marked && is_void t) e) refl
  bare_own (CopyScalar kind marked) t cat at a b e = refl
  bare_own CopyFrom t cat at a b e = rw (false_of (is_volatile_class v t) (first_true (not (is_volatile_class v t)) (not (is_closure t)) e)) refl
  bare_own Pieces t cat at a b e = rw (false_of (is_volatile_class v t) (first_true (not (is_volatile_class v t)) (not (is_closure t)) e)) refl
  bare_own (Piece offset) t cat at a b e = rw (false_of (is_volatile_class v t) (first_true (not (is_volatile_class v t)) (not (is_closure t)) e)) refl
  bare_own (Elements count stride) t cat at a b e = rw (false_of (is_volatile_class v t) (first_true (not (is_volatile_class v t)) (not (is_closure t)) e)) refl
  bare_own (Field offset kind) t cat at a b e = refl
  bare_own kind t cat at a b e = absurd cc

  bare_uncalled : (kind : TKind) (t : Typ) → is_bare_node v kind t ≡ true → called kind ≡ None
  bare_uncalled (Call f) t e = absurd cc
  bare_uncalled (VirtualCall f c s p) t e = absurd cc
  bare_uncalled (Construct f) t e = absurd cc
  bare_uncalled (CopyConstruct f) t e = absurd cc
  bare_uncalled (Destroy f o n s) t e = absurd cc
  bare_uncalled kind t e = refl

  mutual
    bare_calls : (inside : Bool) (t : Tree) → is_bare v t ≡ true → calls_in inside t ≡ []
    bare_calls inside (node kind t cat at kids) e =
        ap₂ (λ (xs ys : List CallSite). xs ++ ys) (no_calls inside (sites (called kind) at)
        (ap (λ z. sites z at) (bare_uncalled kind t (first_true (is_bare_node v kind t) (are_bare v kids) e))))
        (bares_calls (inside || is_atomic kind) kids (last_true (is_bare_node v kind t) (are_bare v kids) e))

    bares_calls : (inside : Bool) (ts : Trees) → are_bare v ts ≡ true → calls_in_all inside ts ≡ []
    bares_calls inside none e = refl
    bares_calls inside (more t ts) e = ap₂ (λ (xs ys : List CallSite). xs ++ ys) (bare_calls inside t (first_true (is_bare v t) (are_bare v ts) e))
        (bares_calls inside ts (last_true (is_bare v t) (are_bare v ts) e))

  mutual
    bare_clean : (inside : Bool) (t : Tree) → is_bare v t ≡ true → is_empty (own_in v inside t) ≡ true
    bare_clean inside (node kind t cat at kids) e =
        empty_both (counted inside (own v kind t cat at (first_of kids) (first_of (rest kids)))) (own_in_all v (inside || is_atomic kind) kids)
        ∙ ap₂ (λ (a b : Bool). a && b) (counted_empty inside (own v kind t cat at (first_of kids) (first_of (rest kids)))
        (bare_own kind t cat at (first_of kids) (first_of (rest kids)) (first_true (is_bare_node v kind t) (are_bare v kids) e)))
        (bares_clean (inside || is_atomic kind) kids (last_true (is_bare_node v kind t) (are_bare v kids) e))

    bares_clean : (inside : Bool) (ts : Trees) → are_bare v ts ≡ true → is_empty (own_in_all v inside ts) ≡ true
    bares_clean inside none e = refl
    bares_clean inside (more t ts) e =
        empty_both (own_in v inside t) (own_in_all v inside ts)
        ∙ ap₂ (λ (a b : Bool). a && b) (bare_clean inside t (first_true (is_bare v t) (are_bare v ts) e))
        (bares_clean inside ts (last_true (is_bare v t) (are_bare v ts) e))

  -- Literals

  literal_clean : (inside : Bool) (t : Tree) (w : ℕ) → integer_word t ≡ Some w → is_empty (own_in v inside t) ≡ true
  literal_clean true (node (Literal u) t cat at none) w e = refl
  literal_clean false (node (Literal u) t cat at none) w e = refl
  literal_clean inside (node (Literal u) t cat at (more a ts)) w e = absurd (no_word (is_integer t) u w e)
    where
      no_word : (b : Bool) (u w : ℕ) → cond (b && false) (Some u) None ≡ Some w → ⊥
      no_word true u w e = cc
      no_word false u w e = cc
  literal_clean inside (node kind t cat at kids) w e = absurd cc

  literal_calls : (inside : Bool) (t : Tree) (w : ℕ) → integer_word t ≡ Some w → calls_in inside t ≡ []
  literal_calls true (node (Literal u) t cat at none) w e = refl
  literal_calls false (node (Literal u) t cat at none) w e = refl
  literal_calls inside (node (Literal u) t cat at (more a ts)) w e = absurd (no_word (is_integer t) u w e)
    where
      no_word : (b : Bool) (u w : ℕ) → cond (b && false) (Some u) None ≡ Some w → ⊥
      no_word true u w e = cc
      no_word false u w e = cc
  literal_calls inside (node kind t cat at kids) w e = absurd cc

  -- The kids of a node that has a value

  -- what is empty and what is called, in kids
  record Nothing (ts : Trees) : Type 0 where
    clean : (inside : Bool) → is_empty (own_in_all v inside ts) ≡ true
    calls : (inside : Bool) → calls_in_all inside ts ≡ []

  one_literal : (a : Tree) (u : ℕ) → integer_word a ≡ Some u → Nothing (more a none)
  one_literal a u e = record {
    clean = λ inside. empty_both (own_in v inside a) [] ∙ ap (λ (b : Bool). b && true) (literal_clean inside a u e);
    calls = λ inside. ap (λ (xs : List CallSite). xs ++ []) (literal_calls inside a u e);
  }

  two_literals : (a b : Tree) (u w : ℕ) → integer_word a ≡ Some u → integer_word b ≡ Some w → Nothing (more a (more b none))
  two_literals a b u w e f =
      let l = one_literal b w f in
      record {
        clean = λ inside. empty_both (own_in v inside a) (own_in_all v inside (more b none))
            ∙ ap₂ (λ (x y : Bool). x && y) (literal_clean inside a u e) (l.clean inside);
        calls = λ inside. ap₂ (λ (xs ys : List CallSite). xs ++ ys) (literal_calls inside a u e) (l.calls inside);
      }

  word_found : (f : ℕ → ℕ) (o : Option ℕ) (w : ℕ) → option_map f o ≡ Some w → (u : ℕ) × (o ≡ Some u)
  word_found f None w e = absurd cc
  word_found f (Some u) w e = (u, refl)

  operands_found : (op : BinOp) (kind : IntKind) (o q : Option ℕ) (w : ℕ) → operator_word op kind (both_words o q) ≡ Some w → (x : ℕ) × (y : ℕ) × (o ≡ Some x)
      × (q ≡ Some y)
  operands_found op kind None q w e = absurd cc
  operands_found op kind (Some x) None w e = absurd cc
  operands_found op kind (Some x) (Some y) w e = (x, y, refl, refl)

  dropped_found : (o q : Option ℕ) (w : ℕ) → comma_word (both_words o q) ≡ Some w → (x : ℕ) × (y : ℕ) × (o ≡ Some x) × (q ≡ Some y)
  dropped_found None q w e = absurd cc
  dropped_found (Some x) None w e = absurd cc
  dropped_found (Some x) (Some y) w e = (x, y, refl, refl)

  constant_nothing : (kind : TKind) (t : Typ) (cat : Cat) (kids : Trees) (w : ℕ) → constant kind t cat kids ≡ Some w → Nothing kids
  constant_nothing (Convert to) t cat none w e = absurd (let i : None ≡ Some w = guarded _ None w e in cc)
  constant_nothing (Convert to) t cat (more a none) w e = let f = word_found (converted to) (integer_word a) w (guarded _ _ w e) in one_literal a f.0 f.1
  constant_nothing (Convert to) t cat (more a (more b ts)) w e = absurd (let i : None ≡ Some w = guarded _ None w e in cc)
  constant_nothing (Binary op kind) t cat none w e = absurd (let i : None ≡ Some w = guarded _ None w e in cc)
  constant_nothing (Binary op kind) t cat (more a none) w e = absurd (let i : None ≡ Some w = guarded _ None w e in cc)
  constant_nothing (Binary op kind) t cat (more a (more b none)) w e = let f = operands_found op kind (integer_word a) (integer_word b) w (guarded _ _ w e) in
      two_literals a b f.0 f.1 f.2 f.3
  constant_nothing (Binary op kind) t cat (more a (more b (more c ts))) w e = absurd (let i : None ≡ Some w = guarded _ None w e in cc)
  constant_nothing Comma t cat none w e = absurd (let i : None ≡ Some w = guarded _ None w e in cc)
  constant_nothing Comma t cat (more a none) w e = absurd (let i : None ≡ Some w = guarded _ None w e in cc)
  constant_nothing Comma t cat (more a (more b none)) w e = let f = dropped_found (integer_word a) (integer_word b) w (guarded _ _ w e) in
      two_literals a b f.0 f.1 f.2 f.3
  constant_nothing Comma t cat (more a (more b (more c ts))) w e = absurd (let i : None ≡ Some w = guarded _ None w e in cc)
  constant_nothing kind t cat kids w e = absurd cc

  -- Trees

  pub record Alike (t u : Tree) : Type 0 where
    pub clean : (inside : Bool) → is_empty (own_in v inside u) ≡ is_empty (own_in v inside t)
    pub calls : (inside : Bool) → calls_in inside u ≡ calls_in inside t

  record AllAlike (ts us : Trees) : Type 0 where
    clean : (inside : Bool) → is_empty (own_in_all v inside us) ≡ is_empty (own_in_all v inside ts)
    calls : (inside : Bool) → calls_in_all inside us ≡ calls_in_all inside ts

  -- what a node is unsafe for by itself

  abbrev init_findings : (declares writes : Bool) → (at place : At) → List Finding
  init_findings declares writes at place = (where_so declares at VolatileLocal ++ [] ++ []) ++ ([] ++ where_so writes place VolatileWrite ++ []) ++ ([] ++ [])

  -- whatever tells the object, it is found where it is volatile
  init_is : (named class marked : Bool) (at place : At) → is_empty (init_findings ((named || not class) && marked) (class && marked) at place) ≡ not marked
  init_is true true true at place = refl
  init_is true true false at place = refl
  init_is true false true at place = refl
  init_is true false false at place = refl
  init_is false true true at place = refl
  init_is false true false at place = refl
  init_is false false true at place = refl
  init_is false false false at place = refl

  own_alike : (kind : TKind) (t : Typ) (cat : Cat) (at : At) (kids : Trees) → typ_in (first (all_folded v kids)) ≡ typ_in (first kids)
      → is_empty (own v kind t cat at (first_of (all_folded v kids)) (first_of (rest (all_folded v kids))))
      ≡ is_empty (own v kind t cat at (first_of kids) (first_of (rest kids)))
  own_alike kind t cat at none e = refl
  own_alike Init t cat at (more a ts) e =
      init_is (is_local (kind_of (folded v a))) (is_class_object (typ_in (folded v a))) (is_volatile_object v (typ_in (folded v a))) at
      (place_of at (first_of (all_folded v ts)))
      ∙ ap (λ (y : Typ). not (is_volatile_object v y)) e
      ∙ sym (init_is (is_local (kind_of a)) (is_class_object (typ_in a)) (is_volatile_object v (typ_in a)) at (place_of at (first_of ts)))
  own_alike (Update op stored operation true old) t cat at (more a ts) e = refl
  own_alike (Update op stored operation false old) t cat at (more a ts) e = refl
  own_alike PointerCall t cat at (more a ts) e = rw e refl
  own_alike (Handler (Some place)) t cat at (more a ts) e = refl
  own_alike (Handler None) t cat at (more a ts) e = refl
  own_alike kind t cat at (more a ts) e = refl

  stay_alike : (kind : TKind) (t : Typ) (cat : Cat) (at : At) (kids : Trees) → AllAlike kids (all_folded v kids)
      → is_empty (own v kind t cat at (first_of (all_folded v kids)) (first_of (rest (all_folded v kids))))
      ≡ is_empty (own v kind t cat at (first_of kids) (first_of (rest kids)))
      → Alike (node kind t cat at kids) (node kind t cat at (all_folded v kids))
  stay_alike kind t cat at kids k e = record {
    clean = λ inside.
        empty_both (counted inside (own v kind t cat at (first_of (all_folded v kids)) (first_of (rest (all_folded v kids)))))
        (own_in_all v (inside || is_atomic kind) (all_folded v kids))
        ∙ ap₂ (λ (x y : Bool). x && y) (counted_same inside (own v kind t cat at (first_of (all_folded v kids)) (first_of (rest (all_folded v kids))))
        (own v kind t cat at (first_of kids) (first_of (rest kids))) e) (k.clean (inside || is_atomic kind))
        ∙ sym (empty_both (counted inside (own v kind t cat at (first_of kids) (first_of (rest kids)))) (own_in_all v (inside || is_atomic kind) kids));
    calls = λ inside. ap (λ (xs : List CallSite). counted inside (sites (called kind) at) ++ xs) (k.calls (inside || is_atomic kind));
  }
    where
      counted_same : (b : Bool) (xs ys : List Finding) → is_empty xs ≡ is_empty ys → is_empty (counted b xs) ≡ is_empty (counted b ys)
      counted_same true xs ys e = e
      counted_same false xs ys e = refl

  -- a bare node is as its kids are

  bare_not_atomic : (kind : TKind) (t : Typ) → is_bare_node v kind t ≡ true → is_atomic kind ≡ false
  bare_not_atomic (Atomic k) t e = absurd cc
  bare_not_atomic kind t e = refl

  inside_bare : (inside b : Bool) → b ≡ false → (inside || b) ≡ inside
  inside_bare true b e = refl
  inside_bare false b e = e

  bare_node_clean : (inside : Bool) (kind : TKind) (t : Typ) (cat : Cat) (at : At) (kids : Trees) → is_bare_node v kind t ≡ true
      → is_empty (own_in v inside (node kind t cat at kids)) ≡ is_empty (own_in_all v inside kids)
  bare_node_clean inside kind t cat at kids e =
      empty_both (counted inside (own v kind t cat at (first_of kids) (first_of (rest kids)))) (own_in_all v (inside || is_atomic kind) kids)
      ∙ ap₂ (λ (x : Bool) (y : Bool). x && is_empty (own_in_all v y kids))
      (counted_empty inside (own v kind t cat at (first_of kids) (first_of (rest kids))) (bare_own kind t cat at (first_of kids) (first_of (rest kids)) e))
      (inside_bare inside (is_atomic kind) (bare_not_atomic kind t e))

  bare_node_calls : (inside : Bool) (kind : TKind) (t : Typ) (cat : Cat) (at : At) (kids : Trees) → is_bare_node v kind t ≡ true
      → calls_in inside (node kind t cat at kids) ≡ calls_in_all inside kids
  bare_node_calls inside kind t cat at kids e =
      ap₂ (λ (xs : List CallSite) (y : Bool). xs ++ calls_in_all y kids)
      (no_calls inside (sites (called kind) at) (ap (λ z. sites z at) (bare_uncalled kind t e)))
      (inside_bare inside (is_atomic kind) (bare_not_atomic kind t e))

  constant_bare : (kind : TKind) (t : Typ) (cat : Cat) (kids : Trees) (w : ℕ) → constant kind t cat kids ≡ Some w → is_bare_node v kind t ≡ true
  constant_bare (Convert to) t cat kids w e = refl
  constant_bare (Binary op kind) t cat kids w e = refl
  constant_bare Comma t cat kids w e = refl
  constant_bare kind t cat kids w e = absurd cc

  word_clean : (inside : Bool) (w : ℕ) (t : Typ) (at : At) → is_empty (own_in v inside (node (Literal w) t Prvalue at none)) ≡ true
  word_clean true w t at = refl
  word_clean false w t at = refl

  word_calls : (inside : Bool) (w : ℕ) (t : Typ) (at : At) → calls_in inside (node (Literal w) t Prvalue at none) ≡ []
  word_calls true w t at = refl
  word_calls false w t at = refl

  constant_alike : (kind : TKind) (t : Typ) (cat : Cat) (at : At) (kids : Trees) (w : ℕ) → AllAlike kids (all_folded v kids)
      → constant kind t cat (all_folded v kids) ≡ Some w → Alike (node kind t cat at kids) (node (Literal w) t Prvalue at none)
  constant_alike kind t cat at kids w k e =
      let n = constant_nothing kind t cat (all_folded v kids) w e in
      let b = constant_bare kind t cat (all_folded v kids) w e in
      record {
        clean = λ inside. word_clean inside w t at ∙ sym (n.clean inside) ∙ k.clean inside ∙ sym (bare_node_clean inside kind t cat at kids b);
        calls = λ inside. word_calls inside w t at ∙ sym (n.calls inside) ∙ k.calls inside ∙ sym (bare_node_calls inside kind t cat at kids b);
      }

  -- of the kids of a choice all but the one that is taken have nothing in them

  record OneOf (x : Tree) (ts : Trees) : Type 0 where
    clean : (inside : Bool) → is_empty (own_in v inside x) ≡ is_empty (own_in_all v inside ts)
    calls : (inside : Bool) → calls_in inside x ≡ calls_in_all inside ts

  one_taken : (t : Typ) (cat : Cat) (x dropped tree : Tree) → only_taken v t cat x dropped ≡ Some tree → (x ≡ tree) × (is_bare v dropped ≡ true)
  one_taken t cat x dropped tree e = let f = cond_some (stands_for t cat (kind_of x) && is_bare v dropped) x tree e in
      (f.1, last_true (stands_for t cat (kind_of x)) (is_bare v dropped) f.0)

  right_true : (b : Bool) → (b && true) ≡ b
  right_true true = refl
  right_true false = refl

  right_none : {A : Type 0} (xs : List A) → (xs ++ []) ≡ xs
  right_none [] = refl
  right_none (x ∷ xs) = ap (λ ys. x ∷ ys) (right_none xs)

  three_clean : (inside : Bool) (a b c : Tree) → is_empty (own_in_all v inside (more a (more b (more c none))))
      ≡ (is_empty (own_in v inside a) && (is_empty (own_in v inside b) && is_empty (own_in v inside c)))
  three_clean inside a b c =
      empty_both (own_in v inside a) (own_in_all v inside (more b (more c none)))
      ∙ ap (λ (z : Bool). is_empty (own_in v inside a) && z) (empty_both (own_in v inside b) (own_in_all v inside (more c none))
      ∙ ap (λ (z : Bool). is_empty (own_in v inside b) && z) (empty_both (own_in v inside c) [] ∙ right_true (is_empty (own_in v inside c))))

  second_taken : (test chosen other : Tree) (w : ℕ) → integer_word test ≡ Some w → is_bare v other ≡ true
      → OneOf chosen (more test (more chosen (more other none)))
  second_taken test chosen other w e b = record {
    clean = λ inside. sym (three_clean inside test chosen other
        ∙ ap₂ (λ (x y : Bool). x && (is_empty (own_in v inside chosen) && y)) (literal_clean inside test w e) (bare_clean inside other b)
        ∙ right_true (is_empty (own_in v inside chosen)));
    calls = λ inside. sym (ap₂ (λ (xs ys : List CallSite). xs ++ (calls_in inside chosen ++ (ys ++ []))) (literal_calls inside test w e)
        (bare_calls inside other b) ∙ right_none (calls_in inside chosen));
  }

  third_taken : (test chosen other : Tree) (w : ℕ) → integer_word test ≡ Some w → is_bare v chosen ≡ true
      → OneOf other (more test (more chosen (more other none)))
  third_taken test chosen other w e b = record {
    clean = λ inside. sym (three_clean inside test chosen other
        ∙ ap₂ (λ (x y : Bool). x && (y && is_empty (own_in v inside other))) (literal_clean inside test w e) (bare_clean inside chosen b));
    calls = λ inside. sym (ap₂ (λ (xs ys : List CallSite). xs ++ (ys ++ (calls_in inside other ++ []))) (literal_calls inside test w e)
        (bare_calls inside chosen b) ∙ right_none (calls_in inside other));
  }

  by_word_one : (t : Typ) (cat : Cat) (test chosen other x : Tree) (w : ℕ) (b : Bool) → integer_word test ≡ Some w
      → cond b (only_taken v t cat other chosen) (only_taken v t cat chosen other) ≡ Some x → OneOf x (more test (more chosen (more other none)))
  by_word_one t cat test chosen other x w true i e = let f = one_taken t cat other chosen x e in
      subst (λ z. OneOf z (more test (more chosen (more other none)))) f.0 (third_taken test chosen other w i f.1)
  by_word_one t cat test chosen other x w false i e = let f = one_taken t cat chosen other x e in
      subst (λ z. OneOf z (more test (more chosen (more other none)))) f.0 (second_taken test chosen other w i f.1)

  by_option_one : (t : Typ) (cat : Cat) (test chosen other x : Tree) (o : Option ℕ) → integer_word test ≡ o → taken_by v t cat o chosen other ≡ Some x
      → OneOf x (more test (more chosen (more other none)))
  by_option_one t cat test chosen other x None i e = absurd cc
  by_option_one t cat test chosen other x (Some w) i e = by_word_one t cat test chosen other x w (w == 0) i e

  taken_one : (kind : TKind) (t : Typ) (cat : Cat) (kids : Trees) (x : Tree) → taken v kind t cat kids ≡ Some x → OneOf x kids × (is_bare_node v kind t ≡ true)
  taken_one Conditional t cat none x e = absurd cc
  taken_one Conditional t cat (more a none) x e = absurd cc
  taken_one Conditional t cat (more a (more b none)) x e = absurd cc
  taken_one Conditional t cat (more test (more chosen (more other none))) x e = (by_option_one t cat test chosen other x (integer_word test) refl e, refl)
  taken_one Conditional t cat (more a (more b (more c (more d ts)))) x e = absurd cc
  taken_one kind t cat kids x e = absurd cc

  taken_alike : (kind : TKind) (t : Typ) (cat : Cat) (at : At) (kids : Trees) (x : Tree) → AllAlike kids (all_folded v kids)
      → taken v kind t cat (all_folded v kids) ≡ Some x → Alike (node kind t cat at kids) x
  taken_alike kind t cat at kids x k e =
      let o = taken_one kind t cat (all_folded v kids) x e in
      record {
        clean = λ inside. (o.0).clean inside ∙ k.clean inside ∙ sym (bare_node_clean inside kind t cat at kids o.1);
        calls = λ inside. (o.0).calls inside ∙ k.calls inside ∙ sym (bare_node_calls inside kind t cat at kids o.1);
      }

  literal_or_alike : (t own : Tree) (o : Option ℕ) (ty : Typ) (at : At) → ((w : ℕ) → o ≡ Some w → Alike t (node (Literal w) ty Prvalue at none)) → Alike t own
      → Alike t (literal_or o ty at own)
  literal_or_alike t own None ty at f g = g
  literal_or_alike t own (Some w) ty at f g = f w refl

  unwrapped_alike : (t own : Tree) (o : Option Tree) → ((x : Tree) → o ≡ Some x → Alike t x) → Alike t own → Alike t (unwrap_or o own)
  unwrapped_alike t own None f g = g
  unwrapped_alike t own (Some x) f g = f x refl

  node_alike : (kind : TKind) (t : Typ) (cat : Cat) (at : At) (kids : Trees) → AllAlike kids (all_folded v kids)
      → is_empty (own v kind t cat at (first_of (all_folded v kids)) (first_of (rest (all_folded v kids))))
      ≡ is_empty (own v kind t cat at (first_of kids) (first_of (rest kids)))
      → Alike (node kind t cat at kids) (folded v (node kind t cat at kids))
  node_alike kind t cat at kids k e =
      literal_or_alike (node kind t cat at kids) (unwrap_or (taken v kind t cat (all_folded v kids)) (node kind t cat at (all_folded v kids)))
      (constant kind t cat (all_folded v kids)) t at
      (λ w f. constant_alike kind t cat at kids w k f)
      (unwrapped_alike (node kind t cat at kids) (node kind t cat at (all_folded v kids)) (taken v kind t cat (all_folded v kids))
      (λ x f. taken_alike kind t cat at kids x k f) (stay_alike kind t cat at kids k e))

  -- Well-formed trees

  more_alike : (t u : Tree) (ts us : Trees) → Alike t u → AllAlike ts us → AllAlike (more t ts) (more u us)
  more_alike t u ts us a k = record {
    clean = λ inside. empty_both (own_in v inside u) (own_in_all v inside us) ∙ ap₂ (λ (x y : Bool). x && y) (a.clean inside) (k.clean inside)
        ∙ sym (empty_both (own_in v inside t) (own_in_all v inside ts));
    calls = λ inside. ap₂ (λ (xs ys : List CallSite). xs ++ ys) (a.calls inside) (k.calls inside);
  }

  alike_if_same : (t u : Tree) → u ≡ t → Alike t u
  alike_if_same t u e = record { clean = λ inside. ap (λ z. is_empty (own_in v inside z)) e; calls = λ inside. ap (calls_in inside) e }

  kid_alike : (b : Bool) (s : Setting) (pos : Position) (role : Role) (t : Tree) → (fits s pos role t ≡ true → Alike t (folded v t))
      → cond b (zeroes s.classes false (result_of s.function) t) (fits s pos role t) ≡ true → Alike t (folded v t)
  kid_alike true s pos role t f e = alike_if_same t (folded v t) (zeros_stay v s.classes false (result_of s.function) t e)
  kid_alike false s pos role t f e = f e

  kid_typ : (b : Bool) (s : Setting) (pos : Position) (role : Role) (t : Tree)
      → cond b (zeroes s.classes false (result_of s.function) t) (fits s pos role t) ≡ true → typ_in (folded v t) ≡ typ_in t
  kid_typ true s pos role t e = ap typ_in (zeros_stay v s.classes false (result_of s.function) t e)
  kid_typ false s pos role t e = ap typ_in (sym (same_tree v s pos role t e)) ∙ typ_kept v t

  first_typ : (s : Setting) (pos : Position) (ks : Kids) (ts : Trees) → kids_fit s pos ks 0 ts ≡ true → typ_in (first (all_folded v ts)) ≡ typ_in (first ts)
  first_typ s pos ks none e = refl
  first_typ s pos ks (more t ts) e = kid_typ (is_zero_role (unwrap_or (role_at ks 0) Value)) s pos (unwrap_or (role_at ks 0) Value) t
      (kid_fits v s pos ks 0 t ts e)

  mutual
    pub alike_tree : (s : Setting) (pos : Position) (role : Role) (t : Tree) → fits s pos role t ≡ true → Alike t (folded v t)
    alike_tree s pos role (node kind t cat at kids) e =
        let f = fits_kids v s pos role kind t cat at kids e in
        node_alike kind t cat at kids (alike_kids s (inside kind pos) (kids_in role kind t (heads_of kids)) 0 kids f)
        (own_alike kind t cat at kids (first_typ s (inside kind pos) (kids_in role kind t (heads_of kids)) kids f))

    alike_kids : (s : Setting) (pos : Position) (ks : Kids) (i : ℕ) (ts : Trees) → kids_fit s pos ks i ts ≡ true → AllAlike ts (all_folded v ts)
    alike_kids s pos ks i none e = record { clean = λ inside. refl; calls = λ inside. refl }
    alike_kids s pos ks i (more t ts) e =
        more_alike t (folded v t) ts (all_folded v ts)
        (kid_alike (is_zero_role (unwrap_or (role_at ks i) Value)) s pos (unwrap_or (role_at ks i) Value) t
        (λ f. alike_tree s pos (unwrap_or (role_at ks i) Value) t f) (kid_fits v s pos ks i t ts e))
        (alike_kids s pos ks (suc i) ts (rest_fits v s pos ks i t ts e))
