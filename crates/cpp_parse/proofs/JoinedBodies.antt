-- What is known of bodies that were read one behind the other, and of one with those in it.
use Rattle.std.proofs.Common.{◌≡◌, ℕ, ◌+◌, ◌≤◌, nat_eq, Bool, true, false, if◌then◌else◌, cond, List, [], ◌∷◌, ◌++◌, length, drop, slice_get, Option, Some}
use Rattle.std.proofs.Common.{refl, sym, ◌∙◌, ap, ap₂, subst, arith, append_assoc, length-append}
use Rattle.std.proofs.lemmas.List.{map-append}
use Rattle.std.proofs.Math.Seq.{drop-append_seam, drop-length}
use Rattle.std.proofs.lemmas.List.Sums.{sum_by-cons, sum_by-append}
use Rattle.cpp_ast.proofs.NodeTrees.{extends_trans}
use Rattle.cpp_ast.specs.declared.arena.Node.{Node}
use Rattle.cpp_ast.specs.declared.arena.NodeId.{NodeId}
use Rattle.cpp_ast.specs.declared.units.LamBody.{LamBody}
use Rattle.cpp_ast.specs.Trees.{Tree, ShowsWith, ShowsAllWith, Extends}
use Rattle.cpp_ast.specs.Units.{times_in, times_a_kid}
use Rattle.cpp_syntax.specs.declared.positions.OpenBody.{OpenBody}
use Rattle.cpp_syntax.specs.Derivations.{one_tree}
use Rattle.cpp_syntax.specs.View.{lams_of, trees_at, BuiltTrees}
use Rattle.cpp_syntax.specs.WithBodies.{Filled}
use Rattle.cpp_parse_expr.specs.Depths.{HoldLower}
use Rattle.cpp_parse.specs.NotedBodies.{times, lams_noted, roots_noted, one_from, is_lambda_node, is_lambda_at, one_lambda, Among, first, later, BodiesShow}
use Rattle.cpp_parse.specs.Bodies.{BodiesIn}
use Rattle.cpp_parse.proofs.LambdasOnce.{one_for, times-append, lambdas_once}
use Rattle.cpp_parse.proofs.TreesWithBodies.{filled_shown, get_grown}

-- Lists that stand behind others.

behind : (old new : List Node) (x : Extends old new) → drop (length old) new ≡ x.extra
behind old new x = ap (λ (ns : List Node). drop (length old) ns) x.appended ∙ drop-append_seam old x.extra

behind_both : (old mid new : List Node) (x : Extends old mid) (y : Extends mid new) → drop (length old) new ≡ x.extra ++ y.extra
behind_both old mid new x y =
    ap (λ (ns : List Node). drop (length old) ns) (y.appended ∙ ap (λ (ns : List Node). ns ++ y.extra) x.appended ∙ append_assoc old x.extra y.extra)
    ∙ drop-append_seam old (x.extra ++ y.extra)

pub grown_long : (old new : List Node) → Extends old new → length old ≤ length new
grown_long old new x =
    let long : length new ≡ length (old ++ x.extra) = ap (λ (ns : List Node). length ns) x.appended in
    let both = length-append old x.extra in
    omega (arith, long, both)

pub held_both : (id : ℕ) (old mid new : List Node) → Extends old mid → Extends mid new
    → times_a_kid id (drop (length old) new) ≡ times_a_kid id (drop (length old) mid) + times_a_kid id (drop (length mid) new)
held_both id old mid new x y =
    let f : Node → ℕ = λ (n : Node). times_in id n.kids.items in
    ap (λ (ns : List Node). times_a_kid id ns) (behind_both old mid new x y)
    ∙ sum_by-append f x.extra y.extra
    ∙ ap₂ (λ (ns ms : List Node). times_a_kid id ns + times_a_kid id ms) (sym (behind old mid x)) (sym (behind mid new y))

pub one_split : (from mid to id : ℕ) → from ≤ mid → mid ≤ to → one_from from to id ≡ one_from from mid id + one_from mid to id
one_split from mid to id h k = grind (arith, h, k)

split_by : (own : Bool) (whole front back : ℕ) → whole ≡ front + back → (if own then whole else 0) ≡ (if own then front else 0) + (if own then back else 0)
split_by true whole front back e = e
split_by false whole front back e = refl

pub lambda_split : (nodes : List Node) (from mid to id : ℕ) → from ≤ mid → mid ≤ to
    → one_lambda nodes from to id ≡ one_lambda nodes from mid id + one_lambda nodes mid to id
lambda_split nodes from mid to id h k =
    split_by (is_lambda_at nodes id) (one_from from to id) (one_from from mid id) (one_from mid to id) (one_split from mid to id h k)

-- Bodies among others.

among_left : {b : LamBody} {xs : List LamBody} (ys : List LamBody) → Among b xs → Among b (xs ++ ys)
among_left ys (first e) = first (ap (λ (zs : List LamBody). zs ++ ys) e)
among_left ys (later other e a) = later other (ap (λ (zs : List LamBody). zs ++ ys) e) (among_left ys a)

among_right : {b : LamBody} (xs : List LamBody) {ys : List LamBody} → Among b ys → Among b (xs ++ ys)
among_right [] a = a
among_right (x ∷ xs) a = later x refl (among_right xs a)

shown_both : (noted : List LamBody) (nodes : List Node) (ls ms : List ℕ) (fs gs : List Tree) → BodiesShow noted nodes ls fs
    → BodiesShow noted nodes ms gs → BodiesShow noted nodes (ls ++ ms) (fs ++ gs)
shown_both noted nodes [] ms [] gs p q = q
shown_both noted nodes [] ms (f ∷ fs) gs p q = absurd p
shown_both noted nodes (l ∷ ls) ms [] gs p q = absurd p
shown_both noted nodes (l ∷ ls) ms (f ∷ fs) gs p q = (p.0, p.1, p.2, shown_both noted nodes ls ms fs gs p.3 q)

-- None, and some behind others.

pub none_in : (old all : List Node) → BodiesIn [] old old [] [] all
none_in old all = record {
  each = λ id. let none : times_a_kid id (drop (length old) old) ≡ 0 = ap (λ (ns : List Node). times_a_kid id ns) (drop-length old) in omega (arith, none);
  lams = λ id. omega arith;
  show = λ noted are sub. tt;
}

pub both_in : (bs cs : List OpenBody) (old mid new : List Node) (added others : List LamBody) (fs gs : List Tree) (all : List Node) → Extends old mid
    → Extends mid new → BodiesIn bs old mid added fs all → BodiesIn cs mid new others gs all
    → BodiesIn (bs ++ cs) old new (added ++ others) (fs ++ gs) all
both_in bs cs old mid new added others fs gs all x y p q =
    let low = grown_long old mid x in
    let high = grown_long mid new y in
    record {
      each = λ id.
          let front = p.each id in
          let back = q.each id in
          let held = held_both id old mid new x y in
          let roots : times_in id (roots_noted (added ++ others)) ≡ times_in id (roots_noted added) + times_in id (roots_noted others) = ap
          (λ (is : List NodeId). times_in id is) (map-append (λ (b : LamBody). b.body) added others) ∙ sum_by-append (one_for id)
          (roots_noted added) (roots_noted others) in
          let split = one_split (length old) (length mid) (length new) id low high in
          omega (arith, front, back, held, roots, split);
      lams = λ id.
          let front = p.lams id in
          let back = q.lams id in
          let noted : times_in id (lams_noted (added ++ others)) ≡ times_in id (lams_noted added) + times_in id (lams_noted others) = ap
          (λ (is : List NodeId). times_in id is) (map-append (λ (b : LamBody). b.lam) added others) ∙ sum_by-append (one_for id)
          (lams_noted added) (lams_noted others) in
          let lams : times id (lams_of (bs ++ cs)) ≡ times id (lams_of bs) + times id (lams_of cs) = ap (λ (is : List ℕ). times id is)
          (map-append (λ (b : OpenBody). b.lam.0) bs cs) ∙ times-append id (lams_of bs) (lams_of cs) in
          let split = lambda_split all (length old) (length mid) (length new) id low high in
          omega (arith, front, back, noted, lams, split);
      show =
          λ noted are sub. subst (λ (ls : List ℕ). BodiesShow noted all ls (fs ++ gs)) (sym (map-append (λ (b : OpenBody). b.lam.0) bs cs))
          (shown_both noted all (lams_of bs) (lams_of cs) fs gs (p.show noted are (λ b a. sub b (among_left others a)))
          (q.show noted are (λ b a. sub b (among_right added a))));
    }

-- A lambda stays one when nodes are added.

some_lambda : (old all : List Node) (id : ℕ) (o : Option Node) → Extends old all → slice_get old id ≡ o → is_lambda_node o ≡ true → is_lambda_at all id ≡ true
some_lambda old all id (Some n) x e h = ap is_lambda_node (get_grown old all id n x e) ∙ h
some_lambda old all id _ x e h = absurd (let f : false ≡ true = h in cc)

more_lambdas : (was now : Bool) (n : ℕ) → (was ≡ true → now ≡ true) → (if was then n else 0) ≤ (if now then n else 0)
more_lambdas true true n h = omega arith
more_lambdas true false n h = absurd (let f : false ≡ true = h refl in cc)
more_lambdas false now n h = omega arith

pub lambda_grown : (old all : List Node) (from to id : ℕ) → Extends old all → one_lambda old from to id ≤ one_lambda all from to id
lambda_grown old all from to id x =
    more_lambdas (is_lambda_at old id) (is_lambda_at all id) (one_from from to id) (λ h. some_lambda old all id (slice_get old id) x refl h)

pub lower_before : (old all : List Node) → Extends old all → HoldLower 0 all → HoldLower 0 old
lower_before old all x h = record { lower = λ id n from e. h.lower id n from (get_grown old all id n x e) }

lower_from : (base : ℕ) (nodes : List Node) → HoldLower 0 nodes → HoldLower base nodes
lower_from base nodes h = record { lower = λ id n from e. h.lower id n (omega arith) e }

-- the lambdas of what was read, each once
pub lambdas_new : (base : ℕ) (nodes all : List Node) (ids : List NodeId) (bodies : List OpenBody) (id : ℕ) → base ≤ length nodes → Extends nodes all
    → HoldLower 0 all → BuiltTrees base nodes ids bodies → times id (lams_of bodies) ≤ one_lambda all base (length nodes) id
lambdas_new base nodes all ids bodies id within x lower s =
    let once = lambdas_once nodes base id ids bodies within (lower_from base nodes (lower_before nodes all x lower)) s in
    let more = lambda_grown nodes all base (length nodes) id x in
    omega (arith, once, more)

-- A body, with those in it.

one_shown : (noted : List LamBody) (nodes : List Node) (id : NodeId) (t : Tree) → ShowsAllWith noted nodes (id ∷ []) (one_tree t) → ShowsWith noted nodes id.0 t
one_shown noted nodes id t s =
    let e : id ∷ [] ≡ s.0 ∷ s.1 = s.2 in
    let same : s.0 ≡ id = cc in
    subst (λ (i : NodeId). ShowsWith noted nodes i.0 t) same s.3

pub body_in : (body : OpenBody) (inner : List OpenBody) (old mid new : List Node) (root : NodeId) (added : List LamBody) (fs : List Tree)
    (tree : Tree) (all : List Node)
    → Extends old mid → Extends mid new → Extends new all → HoldLower 0 all → BuiltTrees (length old) mid (root ∷ []) inner
    → Filled fs (trees_at mid (root ∷ [])) (one_tree tree) → BodiesIn inner mid new added fs all
    → BodiesIn (body ∷ []) old new (record { lam = body.lam; body = root } ∷ added) (tree ∷ []) all
body_in body inner old mid new root added fs tree all x y z lower s filled q =
    let low = grown_long old mid x in
    let high = grown_long mid new y in
    let grown = extends_trans mid new all y z in
    let here : LamBody = record { lam = body.lam; body = root } in
    record {
      each = λ id.
          let front = s.apart id in
          let back = q.each id in
          let held = held_both id old mid new x y in
          let roots : times_in id (roots_noted (here ∷ added)) ≡ one_for id root + times_in id (roots_noted added) = sum_by-cons (one_for id) root
          (roots_noted added) in
          let one : times_in id (root ∷ []) ≡ one_for id root + 0 = sum_by-cons (one_for id) root [] in
          let split = one_split (length old) (length mid) (length new) id low high in
          omega (arith, front, back, held, roots, one, split);
      lams = λ id.
          let back = q.lams id in
          let noted : times_in id (lams_noted (here ∷ added)) ≡ one_for id body.lam + times_in id (lams_noted added) = sum_by-cons (one_for id)
          body.lam (lams_noted added) in
          let one : times id (lams_of (body ∷ [])) ≡ one_for id body.lam + 0 = sum_by-cons (λ (other : ℕ). cond (nat_eq other id) 1 0) body.lam.0 [] in
          let inside = lambdas_new (length old) mid all (root ∷ []) inner id low grown lower s in
          let split = lambda_split all (length old) (length mid) (length new) id low high in
          omega (arith, back, noted, one, inside, split);
      show = λ noted are sub.
          let bodies = q.show noted are (λ b a. sub b (later here refl a)) in
          let shown = filled_shown all mid noted grown (lower_before mid all grown lower) are (length old) (root ∷ []) inner fs (one_tree tree) s
          filled bodies in
          (root, sub here (first refl), one_shown noted all root tree shown, tt);
    }
