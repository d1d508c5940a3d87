-- Forests of units.
use Rattle.std.proofs.Common.{◌≡◌, ◌∙◌, ◌⊎◌, inl, inr, ◌<◌, ◌≤◌, ◌+◌, ◌++◌, ℕ, zero, suc, Bool, true, false, List, [], ◌∷◌, Some, None, length, slice_get}
use Rattle.std.proofs.Common.{slice_set, map, option_map, ap, sym, subst, arith, refl}
use Rattle.std.specs.Prelude.{cond, nat_eq, nat_lt}
use Rattle.std.proofs.lemmas.Bool.{cases_lt, ltb-true, eq-eqb}
use Rattle.std.proofs.lemmas.List.{length-append}
use Rattle.std.proofs.lemmas.List.Sums.{sum_by-append, sum_by-cons}
use Rattle.std.proofs.lemmas.Option.{slice_get_within}
use Rattle.cpp_tree.specs.cpp_types.Class.{InOrder, classes_of}
use Rattle.cpp_tree.specs.declared.arena.TNodeId.{TNodeId}
use Rattle.cpp_tree.specs.declared.program.TFunc.{TFunc}
use Rattle.cpp_tree.specs.declared.program.UnitTree.{UnitTree}
use Rattle.cpp_tree.specs.declared.program.Program.{Program}
use Rattle.cpp_tree.specs.Arena.{times_in, trees_of, tree_at}
use Rattle.cpp_tree.specs.Units.{func_of, unit_of, program_of}
use Rattle.cpp_tree.specs.WellFormed.{WellFormed, WellFormedUnit, HasBody, is_root, times_a_body}
use Rattle.cpp_tree.proofs.Shown.{no_nodes}
use Rattle.tree_forests.specs.Copies.{OwnForest}
use Rattle.tree_forests.specs.Forests.{HasForest, HaveForests, GetBodies, HasWellFormedBodies}

-- Items of lists

front : {A : Type 0} (xs ys : List A) (n : ℕ) → n < length xs → slice_get (xs ++ ys) n ≡ slice_get xs n
front [] ys n l = absurd (omega arith)
front (x ∷ xs) ys zero l = refl
front (x ∷ xs) ys (suc n) l = front xs ys n (omega arith)

last : {A : Type 0} (xs : List A) (x : A) → slice_get (xs ++ x ∷ []) (length xs) ≡ Some x
last [] x = refl
last (y ∷ xs) x = last xs x

shown_at : {A B : Type 0} (g : A → B) (xs : List A) (i : ℕ) (x : A) → slice_get xs i ≡ Some x → slice_get (map g xs) i ≡ Some (g x)
shown_at g [] i x e = absurd cc
shown_at g (y ∷ xs) zero x e = let s : y ≡ x = cc in ap (λ z. Some (g z)) s
shown_at g (y ∷ xs) (suc i) x e = shown_at g xs i x e

-- Bodies

abbrev one_if : Bool → ℕ
one_if b = cond b 1 0

at_least : (a b c : ℕ) → a ≡ b + c → b ≡ 1 → 1 ≤ a
at_least a b c e f = omega arith

adds : (a b c : ℕ) → a ≡ b + c → 1 ≤ c → 1 ≤ a
adds a b c e f = omega arith

one_more : (id : ℕ) (f : TFunc) (fs : List TFunc) → times_a_body id (f ∷ fs) ≡ one_if (is_root id f) + times_a_body id fs
one_more id f fs = sum_by-cons (λ (k : TFunc). one_if (is_root id k)) f fs

one_alone : (id : ℕ) (f : TFunc) → times_a_body id (f ∷ []) ≡ one_if (is_root id f)
one_alone id f = one_more id f [] ∙ omega arith

root_of : (f : TFunc) (root : TNodeId) → f.body ≡ Some root → is_root root.0 f ≡ true
root_of f root e = rw e (eq-eqb root.0 root.0 refl)

body_counts : (fs : List TFunc) (i : ℕ) (f : TFunc) (root : TNodeId) → slice_get fs i ≡ Some f → f.body ≡ Some root → 1 ≤ times_a_body root.0 fs
body_counts [] i f root e b = absurd cc
body_counts (g ∷ fs) zero f root e b =
    let s : g ≡ f = cc in
    let r : is_root root.0 g ≡ true = ap (is_root root.0) s ∙ root_of f root b in
    let c : one_if (is_root root.0 g) ≡ 1 = ap one_if r in
    at_least (times_a_body root.0 (g ∷ fs)) (one_if (is_root root.0 g)) (times_a_body root.0 fs) (one_more root.0 g fs) c
body_counts (g ∷ fs) (suc i) f root e b =
    adds (times_a_body root.0 (g ∷ fs)) (one_if (is_root root.0 g)) (times_a_body root.0 fs) (one_more root.0 g fs) (body_counts fs i f root e b)

pub none_gets : (fs : List TFunc) → fs ≡ [] → GetBodies [] fs []
none_gets fs e = record { few = λ id. rw e (omega arith) }

-- a function without a body behind others
pub bare_behind : (fs new : List TFunc) (f : TFunc) → GetBodies [] fs [] → f.body ≡ None → new ≡ fs ++ f ∷ [] → GetBodies [] new []
bare_behind fs new f g b e = record {
  few = λ id.
      let h = g.few id in
      let n : one_if (is_root id f) ≡ 0 = rw b refl in
      let w : times_a_body id new ≡ times_a_body id fs + times_a_body id (f ∷ []) = ap (times_a_body id) e
      ∙ sum_by-append (λ (k : TFunc). one_if (is_root id k)) fs (f ∷ []) in
      let o = one_alone id f in
      omega (arith, h, n, w, o);
}

-- a function keeps its body, or gets this one
pub keeps_body : (f : TFunc) (root : TNodeId) → GetBodies (f ∷ []) (f ∷ []) (root ∷ [])
keeps_body f root = record { few = λ id. omega arith }

pub gets_body : (f g : TFunc) (root : TNodeId) → g.body ≡ Some root → GetBodies (f ∷ []) (g ∷ []) (root ∷ [])
gets_body f g root e = record {
  few = λ id.
      let w = one_alone id g in
      let r : one_if (is_root id g) ≡ one_if (nat_eq root.0 id) = rw e refl in
      let o : times_in id (root ∷ []) ≡ one_if (nat_eq root.0 id) = sum_by-cons (λ (k : TNodeId). cond (nat_eq k.0 id) 1 0) root [] ∙ omega arith in
      omega (arith, w, r, o);
}

set_counts : (id i : ℕ) (fs : List TFunc) (f g : TFunc) → slice_get fs i ≡ Some f
    → times_a_body id (slice_set fs i g) + one_if (is_root id f) ≡ times_a_body id fs + one_if (is_root id g)
set_counts id i [] f g e = absurd cc
set_counts id zero (h ∷ fs) f g e =
    let s : h ≡ f = cc in
    let a = one_more id g fs in
    let b = one_more id h fs in
    let c : one_if (is_root id h) ≡ one_if (is_root id f) = ap (λ z. one_if (is_root id z)) s in
    omega (arith, a, b, c)
set_counts id (suc i) (h ∷ fs) f g e =
    let a = one_more id h (slice_set fs i g) in
    let b = one_more id h fs in
    let c = set_counts id i fs f g e in
    omega (arith, a, b, c)

-- among others
pub one_gets : (i : ℕ) (fs : List TFunc) (f g : TFunc) (roots : List TNodeId) → slice_get fs i ≡ Some f → GetBodies (f ∷ []) (g ∷ []) roots
    → GetBodies fs (slice_set fs i g) roots
one_gets i fs f g roots e h = record {
  few = λ id.
      let a = set_counts id i fs f g e in
      let b = h.few id in
      let c = one_alone id f in
      let d = one_alone id g in
      omega (arith, a, b, c, d);
}

pub same_gets : (fs : List TFunc) (roots : List TNodeId) → GetBodies fs fs roots
same_gets fs roots = record { few = λ id. omega arith }

in_first : (id : ℕ) (r : TNodeId) (ids : List TNodeId) → times_in id (r ∷ ids) ≡ times_in id (r ∷ []) + times_in id ids
in_first id r ids = sum_by-append (λ (k : TNodeId). cond (nat_eq k.0 id) 1 0) (r ∷ []) ids

-- one behind the other, where `left` are left of `all`
pub record Getting (old now : List TFunc) (left all : List TNodeId) : Type 0 where
  pub few : (id : ℕ) → times_a_body id now + times_in id left ≤ times_a_body id old + times_in id all

pub getting_first : (old : List TFunc) (left all : List TNodeId) → left ≡ all → Getting old old left all
getting_first old left all e = record { few = λ id. rw e (omega arith) }

pub getting_one : (old now new : List TFunc) (left rest all : List TNodeId) (r : TNodeId) → Getting old now left all → left ≡ r ∷ rest
    → GetBodies now new (r ∷ []) → Getting old new rest all
getting_one old now new left rest all r g e h = record {
  few = λ id.
      let a = g.few id in
      let b = h.few id in
      let c : times_in id left ≡ times_in id (r ∷ []) + times_in id rest = ap (times_in id) e ∙ in_first id r rest in
      omega (arith, a, b, c);
}

pub getting_all : (old now : List TFunc) (left all : List TNodeId) → Getting old now left all → GetBodies old now all
getting_all old now left all g = record { few = λ id. let a = g.few id in omega (arith, a) }

pub gets_after : (old now new : List TFunc) (roots : List TNodeId) → GetBodies old now [] → GetBodies now new roots → GetBodies old new roots
gets_after old now new roots g h = record { few = λ id. let a = g.few id in let b = h.few id in omega (arith, a, b) }

-- Units

at_most_one : (b : Bool) → cond b 1 0 ≤ 1
at_most_one true = omega arith
at_most_one false = omega arith

counts_within : (b : Bool) (id many : ℕ) → nat_lt id many ≡ b → 1 ≤ cond b 1 0 → id < many
counts_within true id many e h = ltb-true id many e
counts_within false id many e h = absurd (omega (arith, h))

pub unit_forest : (u : UnitTree) (roots : List TNodeId) → OwnForest [] u.nodes.items roots → GetBodies [] u.funcs.items roots → HasForest u
unit_forest u roots o g = record {
  ordered = o.ordered no_nodes;
  forest = record { once = λ id. let a = o.once id in let b = at_most_one (nat_lt id (length u.nodes.items)) in omega (arith, a, b) };
  roots = λ id. let a = o.once id in let b = at_most_one (nat_lt id (length u.nodes.items)) in let c = g.few id in omega (arith, a, b, c);
  within = λ i f root e b.
      let a = o.once root.0 in
      let c = g.few root.0 in
      let d = body_counts u.funcs.items i f root e b in
      counts_within (nat_lt root.0 (length u.nodes.items)) root.0 (length u.nodes.items) refl (omega (arith, a, c, d));
}

no_item : (us : List UnitTree) (i : ℕ) (u : UnitTree) → us ≡ [] → slice_get us i ≡ Some u → ⊥
no_item [] i u e g = let k : None ≡ Some u = g in cc
no_item (v ∷ us) i u e g = cc

pub no_forests : (us : List UnitTree) → us ≡ [] → HaveForests us
no_forests us e = record { each = λ i u g. absurd (no_item us i u e g) }

pub more_forests : (us new : List UnitTree) (u : UnitTree) → HaveForests us → HasForest u → new ≡ us ++ u ∷ [] → HaveForests new
more_forests us new u a r e = record { each = λ n g q. here n g (sym (ap (λ z. slice_get z n) e) ∙ q) (cases_lt n (length us)) }
  where
    here : (n : ℕ) (g : UnitTree) → slice_get (us ++ u ∷ []) n ≡ Some g → (n < length us) ⊎ (length us ≤ n) → HasForest g
    here n g q (inl k) = a.each n g (sym (front us (u ∷ []) n k) ∙ q)
    here n g q (inr k) =
        let j : n < length (us ++ u ∷ []) = slice_get_within (us ++ u ∷ []) n g q in
        let w : length (us ++ u ∷ []) ≡ length us + 1 = length-append us (u ∷ []) in
        let y : n ≡ length us = omega arith in
        let f : slice_get (us ++ u ∷ []) n ≡ Some u = ap (slice_get (us ++ u ∷ [])) y ∙ last us u in
        let s : u ≡ g = cc in
        subst (λ (z : UnitTree). HasForest z) s r

-- Programs

body_of : (p : Program) (i : ℕ) (u : UnitTree) → slice_get p.units.items i ≡ Some u → HasForest u → HasWellFormedBodies (program_of p)
    → (k : ℕ) (f : TFunc) (root : TNodeId) → slice_get u.funcs.items k ≡ Some f → f.body ≡ Some root → HasBody p u f root
body_of p i u e h w k f root a b = record {
  within = h.within k f root a b;
  well_formed = w.each i k (unit_of u) (func_of (trees_of u.nodes.items) f) (tree_at (trees_of u.nodes.items) root) (shown_at unit_of p.units.items i u e)
      (shown_at (func_of (trees_of u.nodes.items)) u.funcs.items k f a) (ap (option_map (tree_at (trees_of u.nodes.items))) b);
}

unit_well : (p : Program) → HaveForests p.units.items → HasWellFormedBodies (program_of p) → (i : ℕ) (u : UnitTree) → slice_get p.units.items i ≡ Some u
    → WellFormedUnit p u
unit_well p h w i u e = let own = h.each i u e in record { ordered = own.ordered; forest = own.forest; roots = own.roots; bodies = body_of p i u e own w }

pub forests_are_well_formed : (p : Program) → HaveForests p.units.items → InOrder (classes_of p.classes.items)
    → HasWellFormedBodies (program_of p) → WellFormed p
forests_are_well_formed p h c w = record { classes = c; units = unit_well p h w }
