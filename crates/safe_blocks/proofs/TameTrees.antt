-- A tree without unsafe parts, whose calls are safe and whose initialisers have no marks, is tame.
use Rattle.std.specs.Prelude.{◌≡◌, ℕ, Bool, true, false, not, ◌&&◌, ◌||◌, List, [], ◌∷◌, ◌++◌, Option, refl}
use Rattle.std.specs.List.{list_all}
use Rattle.std.proofs.Common.{sym, ap, subst, ◌∙◌}
use Rattle.std.proofs.lemmas.Bool.{false≢true, and_parts, and_from, or_right}
use Rattle.std.proofs.lemmas.List.Folds.{list_all-append}
use Rattle.cpp_tree.specs.cpp_types.Typ.{Typ}
use Rattle.cpp_tree.specs.cpp_types.declared.classes.At.{At}
use Rattle.cpp_tree.specs.cpp_types.declared.ranks.Cat.{Cat}
use Rattle.cpp_tree.specs.declared.kinds.Builtin.TheVariants.{PutChar, GetChar, Spawn, Join, Abort}
use Rattle.cpp_tree.specs.declared.kinds.TKind.{TKind}
use Rattle.cpp_tree.specs.declared.kinds.TKind.TheVariants.{Load, Assign, Update, Call, Builtin as CallBuiltin, Store, CopyScalar, Construct, CopyConstruct}
use Rattle.cpp_tree.specs.declared.kinds.TKind.TheVariants.{Atomic, Destroy}
use Rattle.cpp_tree.specs.Trees.{Tree, node, Trees, none, more, rest}
use Rattle.tx_unsafe.specs.declared.finding.CallSite.{CallSite}
use Rattle.tx_unsafe.specs.Unsafe.{first_of, own, own_in, own_in_all, called, sites, counted, is_atomic, calls_in, calls_in_all}
use Rattle.tx_safety.specs.Safe.{is_empty}
use Rattle.block_marks.specs.Marks.{is_tame_kind, are_placed, below, is_tame, are_tame}
use Rattle.seen_marks.specs.Marks.{is_marked_store, is_unmarked, are_unmarked}
use Rattle.safe_blocks.proofs.Placed.{is_scoped, all_scoped}

pub nothing_left : {A : Type 0} (xs ys : List A) → (xs ++ ys) ≡ [] → xs ≡ []
nothing_left [] ys h = refl
nothing_left (x ∷ xs) ys h = absurd cc

pub nothing_right : {A : Type 0} (xs ys : List A) → (xs ++ ys) ≡ [] → ys ≡ []
nothing_right [] ys h = h
nothing_right (x ∷ xs) ys h = absurd cc

pub all_left : (test : CallSite → Bool) (xs ys : List CallSite) → list_all test (xs ++ ys) ≡ true → list_all test xs ≡ true
all_left test xs ys h = (and_parts (list_all test xs) (list_all test ys) (sym (list_all-append test xs ys) ∙ h)).0

pub all_right : (test : CallSite → Bool) (xs ys : List CallSite) → list_all test (xs ++ ys) ≡ true → list_all test ys ≡ true
all_right test xs ys h = (and_parts (list_all test xs) (list_all test ys) (sym (list_all-append test xs ys) ∙ h)).1

-- a call of a safe function
abbrev pub calls_safe : (ℕ → Bool) → CallSite → Bool
calls_safe s site = s site.func

-- one node
tame_kind : (v s : ℕ → Bool) (kind : TKind) (t : Typ) (cat : Cat) (at : At) (a b : Option Tree) → own v kind t cat at a b ≡ []
    → list_all (calls_safe s) (sites (called kind) at) ≡ true
    → not (is_marked_store kind) ≡ true → is_tame_kind s kind ≡ true
tame_kind v s (Load k true) t cat at a b o c u = absurd (false≢true (ap is_empty o))
tame_kind v s (Load k false) t cat at a b o c u = refl
tame_kind v s (Assign k true) t cat at a b o c u = absurd (false≢true (ap is_empty o))
tame_kind v s (Assign k false) t cat at a b o c u = refl
tame_kind v s (Update op x y true old) t cat at a b o c u = absurd (false≢true (ap is_empty o))
tame_kind v s (Update op x y false old) t cat at a b o c u = refl
tame_kind v s (Store k volatile) t cat at a b o c u = u
tame_kind v s (CopyScalar k volatile) t cat at a b o c u = u
tame_kind v s (Call f) t cat at a b o c u = (and_parts (s f) true c).0
tame_kind v s (Construct f) t cat at a b o c u = (and_parts (s f) true c).0
tame_kind v s (CopyConstruct f) t cat at a b o c u = (and_parts (s f) true c).0
tame_kind v s (Destroy f x y z) t cat at a b o c u = (and_parts (s f) true c).0
tame_kind v s (CallBuiltin PutChar) t cat at a b o c u = absurd (false≢true (ap is_empty o))
tame_kind v s (CallBuiltin GetChar) t cat at a b o c u = absurd (false≢true (ap is_empty o))
tame_kind v s (CallBuiltin Spawn) t cat at a b o c u = absurd (false≢true (ap is_empty o))
tame_kind v s (CallBuiltin Join) t cat at a b o c u = absurd (false≢true (ap is_empty o))
tame_kind v s (CallBuiltin Abort) t cat at a b o c u = refl
tame_kind v s kind t cat at a b o c u = refl

or_none : (x : Bool) → (x || false) ≡ true → x ≡ true
or_none true h = refl
or_none false h = h

-- where it counts
tame_node : (v s : ℕ → Bool) (outside : Bool) (kind : TKind) (t : Typ) (cat : Cat) (at : At) (a b : Option Tree)
    → counted (not outside) (own v kind t cat at a b) ≡ [] → list_all (calls_safe s) (counted (not outside) (sites (called kind) at)) ≡ true
    → (not (is_marked_store kind) || outside) ≡ true → (is_tame_kind s kind || outside) ≡ true
tame_node v s true kind t cat at a b o c u = or_right (is_tame_kind s kind) true refl
tame_node v s false kind t cat at a b o c u = ap (λ z. z || false) (tame_kind v s kind t cat at a b o c (or_none (not (is_marked_store kind)) u))

below_is : (kind : TKind) (outside : Bool) → (not outside || is_atomic kind) ≡ not (below kind outside)
below_is (Atomic kind) true = refl
below_is (Atomic kind) false = refl
below_is kind true = refl
below_is kind false = refl

still_outside : (kind : TKind) (outside : Bool) → (outside && not (is_atomic kind)) ≡ below kind outside
still_outside (Atomic kind) true = refl
still_outside (Atomic kind) false = refl
still_outside kind true = refl
still_outside kind false = refl

mutual
  pub tame_tree : (v s : ℕ → Bool) (outside : Bool) (t : Tree) → own_in v (not outside) t ≡ [] → list_all (calls_safe s) (calls_in (not outside) t) ≡ true
      → is_unmarked outside t ≡ true → is_scoped t ≡ true → is_tame s outside t ≡ true
  tame_tree v s outside (node kind t cat at kids) o c u p =
      let deeper = not outside || is_atomic kind in
      let own_here = counted (not outside) (own v kind t cat at (first_of kids) (first_of (rest kids))) in
      let calls_here = counted (not outside) (sites (called kind) at) in
      let um = and_parts (not (is_marked_store kind) || outside) (are_unmarked (outside && not (is_atomic kind)) kids) u in
      let sc = and_parts (are_placed kind kids) (all_scoped kids) p in
      let own_kids : own_in_all v (not (below kind outside)) kids ≡ [] =
      subst (λ z. own_in_all v z kids ≡ []) (below_is kind outside) (nothing_right own_here (own_in_all v deeper kids) o) in
      let calls_kids : list_all (calls_safe s) (calls_in_all (not (below kind outside)) kids) ≡ true =
      subst (λ z. list_all (calls_safe s) (calls_in_all z kids) ≡ true) (below_is kind outside)
      (all_right (calls_safe s) calls_here (calls_in_all deeper kids) c) in
      and_from _ _ (tame_node v s outside kind t cat at (first_of kids) (first_of (rest kids)) (nothing_left own_here (own_in_all v deeper kids) o)
      (all_left (calls_safe s) calls_here (calls_in_all deeper kids) c) um.0)
      (and_from _ _ sc.0 (tame_trees v s (below kind outside) kids own_kids calls_kids
      (subst (λ z. are_unmarked z kids ≡ true) (still_outside kind outside) um.1) sc.1))

  pub tame_trees : (v s : ℕ → Bool) (outside : Bool) (ts : Trees) → own_in_all v (not outside) ts ≡ []
      → list_all (calls_safe s) (calls_in_all (not outside) ts) ≡ true
      → are_unmarked outside ts ≡ true → all_scoped ts ≡ true → are_tame s outside ts ≡ true
  tame_trees v s outside none o c u p = refl
  tame_trees v s outside (more t ts) o c u p =
      let um = and_parts (is_unmarked outside t) (are_unmarked outside ts) u in
      let sc = and_parts (is_scoped t) (all_scoped ts) p in
      and_from _ _ (tame_tree v s outside t (nothing_left (own_in v (not outside) t) (own_in_all v (not outside) ts) o)
      (all_left (calls_safe s) (calls_in (not outside) t) (calls_in_all (not outside) ts) c) um.0 sc.0)
      (tame_trees v s outside ts (nothing_right (own_in v (not outside) t) (own_in_all v (not outside) ts) o)
      (all_right (calls_safe s) (calls_in (not outside) t) (calls_in_all (not outside) ts) c) um.1 sc.1)
