-- Lists of trees that grow.
use Rattle.std.proofs.Common.{◌≡◌, ℕ, zero, suc, ◌+◌, ◌<◌, ◌≤◌, Bool, true, false, List, [], ◌∷◌, ◌++◌, length, drop, get_or, add-one, refl, sym, ◌∙◌, ap}
use Rattle.std.proofs.Common.{arith, nat_lt, ◌&&◌}
use Rattle.std.proofs.Math.Seq.{drop-cons}
use Rattle.std.proofs.lemmas.Bool.{ltb-true, lt-ltb}
use Rattle.elab_conv.specs.cpp_tree.declared.arena.TNodeId.{TNodeId}
use Rattle.elab_conv.specs.cpp_tree.Trees.{Tree, Trees, none, more, one}
use Rattle.elab_conv.specs.cpp_tree.Arena.{tree_at, trees_at, Grows, Adds}
use Rattle.elab_conv.specs.elab_ctx.Says.{are_within, AddsAll}
use Rattle.elab_conv.proofs.elab_ctx.Looks.{grows_refl, grows_trans, at_grown, within_grown}
use Rattle.elab_conv.specs.elab_rules.Objects.{followed_by}

pub followed_none : (ts : Trees) → followed_by ts none ≡ ts
followed_none none = refl
followed_none (more t ts) = ap (more t) (followed_none ts)

pub followed_twice : (ts us vs : Trees) → followed_by (followed_by ts us) vs ≡ followed_by ts (followed_by us vs)
followed_twice none us vs = refl
followed_twice (more t ts) us vs = ap (more t) (followed_twice ts us vs)

pub trees_append : (ts : List Tree) (ids others : List TNodeId) → trees_at ts (ids ++ others) ≡ followed_by (trees_at ts ids) (trees_at ts others)
trees_append ts [] js = refl
trees_append ts (i ∷ is) js = ap (more (tree_at ts i)) (trees_append ts is js)

first_of_both : (a b : Bool) → (a && b) ≡ true → a ≡ true
first_of_both true b h = refl
first_of_both false b h = absurd cc

second_of_both : (a b : Bool) → (a && b) ≡ true → b ≡ true
second_of_both true b h = h
second_of_both false b h = absurd cc

both_true : (a b : Bool) → a ≡ true → b ≡ true → (a && b) ≡ true
both_true a b h g = rw (h, g) refl

pub trees_grown : (old new : List Tree) (ids : List TNodeId) → Grows old new → are_within (length old) ids ≡ true → trees_at new ids ≡ trees_at old ids
trees_grown old new [] g h = refl
trees_grown old new (i ∷ is) g h =
    let here : i.0 < length old = ltb-true i.0 (length old) (first_of_both (nat_lt i.0 (length old)) (are_within (length old) is) h) in
    let first : tree_at new i ≡ tree_at old i = at_grown old new i g here in
    let others : trees_at new is ≡ trees_at old is = trees_grown old new is g (second_of_both (nat_lt i.0 (length old)) (are_within (length old) is) h) in
    cc

pub all_within_grown : (old new : List Tree) (ids : List TNodeId) → Grows old new → are_within (length old) ids ≡ true → are_within (length new) ids ≡ true
all_within_grown old new [] g h = refl
all_within_grown old new (i ∷ is) g h =
    let here : i.0 < length new = within_grown old new i g
    (ltb-true i.0 (length old) (first_of_both (nat_lt i.0 (length old)) (are_within (length old) is) h)) in
    both_true _ _ (lt-ltb i.0 (length new) here) (all_within_grown old new is g (second_of_both (nat_lt i.0 (length old)) (are_within (length old) is) h))

pub within_both : (n : ℕ) (ids others : List TNodeId) → are_within n ids ≡ true → are_within n others ≡ true → are_within n (ids ++ others) ≡ true
within_both n [] others h g = g
within_both n (i ∷ is) others h g = both_true _ _ (first_of_both (nat_lt i.0 n) (are_within n is) h)
    (within_both n is others (second_of_both (nat_lt i.0 n) (are_within n is) h) g)

pub within_one : (n : ℕ) (id : TNodeId) → id.0 < n → are_within n (id ∷ []) ≡ true
within_one n id h = both_true _ _ (lt-ltb id.0 n h) refl

-- Trees that are added one after the other, where `rest` are still to be added of `total`

pub record Adding (old now : List Tree) (ids : List TNodeId) (rest total : Trees) : Type 0 where
  pub grows : Grows old now
  pub within : are_within (length now) ids ≡ true
  pub are : followed_by (trees_at now ids) rest ≡ total

pub adding_first : (old : List Tree) (ids : List TNodeId) (total : Trees) → ids ≡ [] → Adding old old ids total total
adding_first old ids total e = record { grows = grows_refl old; within = rw e refl; are = rw e refl }

pub adding_all : (old now new : List Tree) (ids others next : List TNodeId) (ts rest left total : Trees) → Adding old now ids left total
    → left ≡ followed_by ts rest → AddsAll now new others ts → next ≡ ids ++ others → Adding old new next rest total
adding_all old now new ids others next ts rest left total a l m n =
    let before : trees_at new ids ≡ trees_at now ids = trees_grown now new ids m.grows a.within in
    let all : trees_at new next ≡ followed_by (trees_at now ids) ts = ap (trees_at new) n ∙ trees_append new ids others
    ∙ ap (λ (z : Trees). followed_by z (trees_at new others)) before ∙ ap (followed_by (trees_at now ids)) m.are in
    record {
      grows = grows_trans a.grows m.grows;
      within = rw n (within_both (length new) ids others (all_within_grown now new ids m.grows a.within) m.within);
      are = ap (λ (z : Trees). followed_by z rest) all ∙ followed_twice (trees_at now ids) ts rest ∙ ap (followed_by (trees_at now ids)) (sym l) ∙ a.are;
    }

pub adds_one : (now new : List Tree) (r : TNodeId) (t : Tree) → Adds now new r t → AddsAll now new (r ∷ []) (one t)
adds_one now new r t a = record { grows = a.grows; within = within_one (length new) r a.within; are = ap one a.is }

pub adding_one : (old now new : List Tree) (ids next : List TNodeId) (r : TNodeId) (t : Tree) (rest left total : Trees) → Adding old now ids left total
    → left ≡ more t rest → Adds now new r t → next ≡ ids ++ r ∷ [] → Adding old new next rest total
adding_one old now new ids next r t rest left total a l m n = adding_all old now new ids (r ∷ []) next (one t) rest left total a l (adds_one now new r t m) n

pub adding_done : (old now : List Tree) (ids : List TNodeId) (rest total : Trees) → Adding old now ids rest total → rest ≡ none → AddsAll old now ids total
adding_done old now ids rest total a e = record {
  grows = a.grows;
  within = a.within;
  are = sym (followed_none (trees_at now ids)) ∙ ap
      (followed_by (trees_at now ids)) (sym e) ∙ a.are;
}

pub adds_more : (old mid new : List Tree) (ids others next : List TNodeId) (ts us : Trees) → AddsAll old mid ids ts → AddsAll mid new others us
    → next ≡ ids ++ others → AddsAll old new next (followed_by ts us)
adds_more old mid new ids others next ts us a b n =
    let before : trees_at new ids ≡ trees_at mid ids = trees_grown mid new ids b.grows a.within in
    record {
      grows = grows_trans a.grows b.grows;
      within = rw n (within_both (length new) ids others (all_within_grown mid new ids b.grows a.within) b.within);
      are = ap (trees_at new) n ∙ trees_append new ids others ∙ ap (λ (z : Trees). followed_by z (trees_at new others)) before
          ∙ ap (λ (z : Trees). followed_by z (trees_at new others)) a.are ∙ ap (followed_by ts) b.are;
    }

pub adds_none : (old : List Tree) (ids : List TNodeId) → ids ≡ [] → AddsAll old old ids none
adds_none old ids e = record { grows = grows_refl old; within = rw e refl; are = rw e refl }

-- Elements of lists

pub drop_step : {A : Type 0} (xs : List A) (i : ℕ) (d : A) → i < length xs → drop i xs ≡ get_or xs i d ∷ drop (i + 1) xs
drop_step xs i d h = rw (add-one i) (drop-cons xs i d h)

pub drop_past : {A : Type 0} (xs : List A) (i : ℕ) → length xs ≤ i → drop i xs ≡ []
drop_past [] zero h = refl
drop_past [] (suc i) h = refl
drop_past (x ∷ xs) zero h = absurd (omega arith)
drop_past (x ∷ xs) (suc i) h = drop_past xs i (omega arith)
