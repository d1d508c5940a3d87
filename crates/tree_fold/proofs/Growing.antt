-- Lists of trees that grow.
use Rattle.std.proofs.Common.{◌≡◌, ℕ, zero, suc, ◌+◌, ◌<◌, ◌≤◌, Bool, true, List, [], ◌∷◌, ◌++◌, length, drop, get_or, add-one, refl, sym, ◌∙◌, ap, subst}
use Rattle.std.proofs.Common.{arith, nat_lt, ◌&&◌, append_assoc, append-nil, length-append, Result, Ok, Err, IfOk}
use Rattle.std.proofs.Math.Seq.{drop-cons}
use Rattle.std.proofs.lemmas.Bool.{ltb-true, lt-ltb, and_parts}
use Rattle.std.proofs.lemmas.List.{get_or_append_left}
use Rattle.std.specs.declared.alloc.AllocError.{AllocError}
use Rattle.cpp_tree.specs.declared.arena.TNodeId.{TNodeId}
use Rattle.cpp_tree.specs.Trees.{Tree, Trees, none, more, literal}
use Rattle.cpp_tree.specs.Arena.{tree_at, trees_at, Grows, Adds}
use Rattle.tree_fold.specs.Sights.{are_within, followed_by, Adding}

pub both_true : (a b : Bool) → a ≡ true → b ≡ true → (a && b) ≡ true
both_true a b h g = rw (h, g) refl

pub grows_refl : (ts : List Tree) → Grows ts ts
grows_refl ts = record { extra = []; appended = sym (append-nil ts) }

pub grows_trans : {a b c : List Tree} → Grows a b → Grows b c → Grows a c
grows_trans {a} x y = record {
  extra = x.extra ++ y.extra;
  appended = y.appended ∙ ap (λ (z : List Tree). z ++ y.extra) x.appended
      ∙ append_assoc a x.extra y.extra;
}

pub within_grown : (old new : List Tree) (n : ℕ) → Grows old new → n < length old → n < length new
within_grown old new n g h = rw g.appended (simp length-append (omega arith))

pub at_grown : (old new : List Tree) (id : TNodeId) → Grows old new → id.0 < length old → tree_at new id ≡ tree_at old id
at_grown old new id g h = ap (λ (z : List Tree). tree_at z id) g.appended ∙ get_or_append_left old g.extra (literal 0) id.0 h

followed_none : (ts : Trees) → followed_by ts none ≡ ts
followed_none none = refl
followed_none (more t ts) = ap (more t) (followed_none ts)

followed_twice : (ts us vs : Trees) → followed_by (followed_by ts us) vs ≡ followed_by ts (followed_by us vs)
followed_twice none us vs = refl
followed_twice (more t ts) us vs = ap (more t) (followed_twice ts us vs)

trees_append : (ts : List Tree) (ids others : List TNodeId) → trees_at ts (ids ++ others) ≡ followed_by (trees_at ts ids) (trees_at ts others)
trees_append ts [] js = refl
trees_append ts (i ∷ is) js = ap (more (tree_at ts i)) (trees_append ts is js)

trees_grown : (old new : List Tree) (ids : List TNodeId) → Grows old new → are_within (length old) ids ≡ true → trees_at new ids ≡ trees_at old ids
trees_grown old new [] g h = refl
trees_grown old new (i ∷ is) g h =
    let p = and_parts (nat_lt i.0 (length old)) (are_within (length old) is) h in
    let first : tree_at new i ≡ tree_at old i = at_grown old new i g (ltb-true i.0 (length old) p.0) in
    let others : trees_at new is ≡ trees_at old is = trees_grown old new is g p.1 in
    cc

all_within_grown : (old new : List Tree) (ids : List TNodeId) → Grows old new → are_within (length old) ids ≡ true → are_within (length new) ids ≡ true
all_within_grown old new [] g h = refl
all_within_grown old new (i ∷ is) g h =
    let p = and_parts (nat_lt i.0 (length old)) (are_within (length old) is) h in
    both_true _ _ (lt-ltb i.0 (length new) (within_grown old new i.0 g (ltb-true i.0 (length old) p.0))) (all_within_grown old new is g p.1)

within_pushed : (n : ℕ) (ids : List TNodeId) (r : TNodeId) → are_within n ids ≡ true → r.0 < n → are_within n (ids ++ r ∷ []) ≡ true
within_pushed n [] r h g = both_true _ _ (lt-ltb r.0 n g) refl
within_pushed n (i ∷ is) r h g = let p = and_parts (nat_lt i.0 n) (are_within n is) h in both_true _ _ p.0 (within_pushed n is r p.1 g)

pub adding_first : (old : List Tree) (ids : List TNodeId) (all : Trees) → ids ≡ [] → Adding old old ids all all
adding_first old ids all e = record { grows = grows_refl old; within = rw e refl; are = rw e refl }

pub adding_one : (old now new : List Tree) (ids next : List TNodeId) (r : TNodeId) (t : Tree) (rest left all : Trees) → Adding old now ids left all
    → left ≡ more t rest → Adds now new r t → next ≡ ids ++ r ∷ [] → Adding old new next rest all
adding_one old now new ids next r t rest left all a l m n =
    let before : trees_at new ids ≡ trees_at now ids = trees_grown now new ids m.grows a.within in
    let added : trees_at new (r ∷ []) ≡ more t none = ap (λ (z : Tree). more z none) m.is in
    let here : trees_at new next ≡ followed_by (trees_at now ids) (more t none) = ap (trees_at new) n ∙ trees_append new ids (r ∷ [])
    ∙ ap (λ (z : Trees). followed_by z (trees_at new (r ∷ []))) before ∙ ap (followed_by (trees_at now ids)) added in
    record {
      grows = grows_trans a.grows m.grows;
      within = ap (are_within (length new)) n ∙ within_pushed (length new) ids r (all_within_grown now new ids m.grows a.within) m.within;
      are = ap (λ (z : Trees). followed_by z rest) here ∙ followed_twice (trees_at now ids) (more t none) rest ∙ ap (followed_by (trees_at now ids)) (sym l)
          ∙ a.are;
    }

pub adding_done : (old now : List Tree) (ids : List TNodeId) (left all : Trees) → Adding old now ids left all → left ≡ none → trees_at now ids ≡ all
adding_done old now ids left all a e = sym (followed_none (trees_at now ids)) ∙ ap (followed_by (trees_at now ids)) (sym e) ∙ a.are

-- Elements of lists

pub drop_step : {A : Type 0} (xs : List A) (i : ℕ) (d : A) → i < length xs → drop i xs ≡ get_or xs i d ∷ drop (i + 1) xs
drop_step xs i d h = rw (add-one i) (drop-cons xs i d h)

pub drop_past : {A : Type 0} (xs : List A) (i : ℕ) → length xs ≤ i → drop i xs ≡ []
drop_past [] zero h = refl
drop_past [] (suc i) h = refl
drop_past (x ∷ xs) zero h = absurd (omega arith)
drop_past (x ∷ xs) (suc i) h = drop_past xs i (omega arith)

-- What is added

pub adds_same : (a b : List Tree) (r : Result TNodeId AllocError) (t u : Tree) → t ≡ u → IfOk r (λ (id : TNodeId). Adds a b id t)
    → IfOk r (λ (id : TNodeId). Adds a b id u)
adds_same a b r t u e m = subst (λ (z : Tree). IfOk r (λ (id : TNodeId). Adds a b id z)) e m

adds_after : (a b c : List Tree) (r : TNodeId) (t u : Tree) → Grows a b → t ≡ u → Adds b c r t → Adds a c r u
adds_after a b c r t u g e m = record { grows = grows_trans g m.grows; within = m.within; is = m.is ∙ e }

pub last_adds : (a b c : List Tree) (r : Result TNodeId AllocError) (t u : Tree) → Grows a b → t ≡ u → IfOk r (λ (id : TNodeId). Adds b c id t)
    → IfOk r (λ (id : TNodeId). Adds a c id u)
last_adds a b c (Ok r) t u g e m = adds_after a b c r t u g e m
last_adds a b c (Err x) t u g e m = tt
