-- What a list of nodes shows stays shown when nodes are added, and it is one tree.
use Rattle.std.proofs.Common.{◌≡◌, ℕ, ◌+◌, ◌<◌, ◌≤◌, List, [], ◌∷◌, ◌++◌, length, Some, Option, refl, sym, ◌∙◌, subst, ap, arith, append_assoc, slice_get}
use Rattle.std.proofs.Common.{append-nil, length-append, get_or, take, true, nat_lt}
use Rattle.std.proofs.lemmas.Option.{slice_get_within, slice_get-get_or, get_or_from_slice_get}
use Rattle.std.proofs.lemmas.List.{get_or_append_left, get_or_push}
use Rattle.std.proofs.lemmas.List.Sums.{sum_by-append}
use Rattle.std.proofs.Math.Seq.{take-append_seam}
use Rattle.cpp_ast.specs.declared.kinds.NodeKind.{NodeKind}
use Rattle.cpp_ast.specs.declared.arena.At.{At}
use Rattle.cpp_ast.specs.declared.arena.NodeId.{NodeId}
use Rattle.cpp_ast.specs.declared.arena.Node.{Node}
use Rattle.cpp_ast.specs.declared.units.LamBody.{LamBody}
use Rattle.cpp_ast.specs.Orders.{are_below}
use Rattle.cpp_ast.specs.Units.{IsForest, times_a_kid, times_in}
use Rattle.cpp_ast.specs.Trees.{Tree, node, Trees, none, more, NodeAt, ShowsWith, ShowsAllWith, Extends, kids_with}

-- a node stays where it is when nodes are added
pub get_grow : (ns extra : List Node) (id : ℕ) (n : Node) → slice_get ns id ≡ Some n → slice_get (ns ++ extra) id ≡ Some n
get_grow ns extra id n h =
    let w : id < length ns = slice_get_within ns id n h in
    let v : id < length (ns ++ extra) = simp length-append (omega arith) in
    let e : slice_get (ns ++ extra) id ≡ Some (get_or (ns ++ extra) id n) = slice_get-get_or (ns ++ extra) id n v in
    let f : get_or (ns ++ extra) id n ≡ get_or ns id n = get_or_append_left ns extra n id w in
    let g : get_or ns id n ≡ n = get_or_from_slice_get ns id n n h in
    cc

get_last : (ns : List Node) (n : Node) → slice_get (ns ++ (n ∷ [])) (length ns) ≡ Some n
get_last ns n =
    let v : length ns < length (ns ++ (n ∷ [])) = simp length-append (omega arith) in
    let e : slice_get (ns ++ (n ∷ [])) (length ns) ≡ Some (get_or (ns ++ (n ∷ [])) (length ns) n) = slice_get-get_or (ns ++ (n ∷ [])) (length ns) n v in
    let f : get_or (ns ++ (n ∷ [])) (length ns) n ≡ n = get_or_push ns n n (length ns) refl in
    cc

abbrev stands_more : (ns extra : List Node) (id : ℕ) (kind : NodeKind) (at : At) (token : Option ℕ) → NodeAt ns id kind at token
    → NodeAt (ns ++ extra) id kind at token
stands_more ns extra id kind at token s =
    record { found = s.found; stands = get_grow ns extra id s.found s.stands; kind_is = s.kind_is; at_is = s.at_is; token_is = s.token_is }

mutual
  shows_more : (bodies : List LamBody) (ns extra : List Node) (id : ℕ) (t : Tree) → ShowsWith bodies ns id t → ShowsWith bodies (ns ++ extra) id t
  shows_more bodies ns extra id (node kind at token kids) s =
      (stands_more ns extra id kind at token s.0, shows_all_more bodies ns extra (kids_with (s.0).found.kids.items bodies id) kids s.1)

  shows_all_more : (bodies : List LamBody) (ns extra : List Node) (ids : List NodeId) (ts : Trees) → ShowsAllWith bodies ns ids ts
      → ShowsAllWith bodies (ns ++ extra) ids ts
  shows_all_more bodies ns extra ids none s = s
  shows_all_more bodies ns extra ids (more t ts) s =
      (s.0, s.1, s.2, shows_more bodies ns extra (s.0).0 t s.3, shows_all_more bodies ns extra s.1 ts s.4)

pub shows_grow : (bodies : List LamBody) (old new : List Node) (id : ℕ) (t : Tree) → Extends old new → ShowsWith bodies old id t → ShowsWith bodies new id t
shows_grow bodies old new id t x s = subst (λ (ns : List Node). ShowsWith bodies ns id t) (sym x.appended) (shows_more bodies old x.extra id t s)

pub shows_all_grow : (bodies : List LamBody) (old new : List Node) (ids : List NodeId) (ts : Trees) → Extends old new → ShowsAllWith bodies old ids ts
    → ShowsAllWith bodies new ids ts
shows_all_grow bodies old new ids ts x s =
    subst (λ (ns : List Node). ShowsAllWith bodies ns ids ts) (sym x.appended) (shows_all_more bodies old x.extra ids ts s)

pub extends_refl : (ns : List Node) → Extends ns ns
extends_refl ns = record { extra = []; appended = sym (append-nil ns) }

pub extends_trans : (a b c : List Node) → Extends a b → Extends b c → Extends a c
extends_trans a b c x y =
    record { extra = x.extra ++ y.extra; appended = y.appended ∙ ap (λ (z : List Node). z ++ y.extra) x.appended ∙ append_assoc a x.extra y.extra }

-- one node more shows the tree of its kids' trees
pub adds_shows : (old : List Node) (added : Node) (kids : Trees) → ShowsAllWith [] old added.kids.items kids
    → ShowsWith [] (old ++ added ∷ []) (length old) (node added.kind added.at added.token kids)
adds_shows old added kids s = (
  record { found = added; stands = get_last old added; kind_is = refl; at_is = refl; token_is = refl },
  shows_all_more [] old (added ∷ []) added.kids.items kids s,
)

same_found : (ns : List Node) (id : ℕ) (m n : Node) → slice_get ns id ≡ Some m → slice_get ns id ≡ Some n → m ≡ n
same_found ns id m n e f = cc

mutual
  pub one_tree : (bodies : List LamBody) (ns : List Node) (id : ℕ) (t u : Tree) → ShowsWith bodies ns id t → ShowsWith bodies ns id u → t ≡ u
  one_tree bodies ns id (node k at token kids) (node k' at' token' kids') s r =
      let same : (s.0).found ≡ (r.0).found = same_found ns id (s.0).found (r.0).found (s.0).stands (r.0).stands in
      let shown : ShowsAllWith bodies ns (kids_with (s.0).found.kids.items bodies id) kids' = subst
      (λ (n : Node). ShowsAllWith bodies ns (kids_with n.kids.items bodies id) kids') (sym same) r.1 in
      let kids_same : kids ≡ kids' = one_list bodies ns (kids_with (s.0).found.kids.items bodies id) kids kids' s.1 shown in
      let kind_same : k ≡ k' = sym (s.0).kind_is ∙ ap (λ (n : Node). n.kind) same ∙ (r.0).kind_is in
      let at_same : at ≡ at' = sym (s.0).at_is ∙ ap (λ (n : Node). n.at) same ∙ (r.0).at_is in
      let token_same : token ≡ token' = sym (s.0).token_is ∙ ap (λ (n : Node). n.token) same ∙ (r.0).token_is in
      cc

  pub one_list : (bodies : List LamBody) (ns : List Node) (ids : List NodeId) (ts us : Trees) → ShowsAllWith bodies ns ids ts
      → ShowsAllWith bodies ns ids us → ts ≡ us
  one_list bodies ns ids none none s r = refl
  one_list bodies ns ids none (more u us) s r = absurd (let e : ids ≡ r.0 ∷ r.1 = r.2 in let f : ids ≡ [] = s in cc)
  one_list bodies ns ids (more t ts) none s r = absurd (let e : ids ≡ s.0 ∷ s.1 = s.2 in let f : ids ≡ [] = r in cc)
  one_list bodies ns ids (more t ts) (more u us) s r =
      let e : ids ≡ s.0 ∷ s.1 = s.2 in
      let f : ids ≡ r.0 ∷ r.1 = r.2 in
      let first : r.0 ≡ s.0 = cc in
      let others : r.1 ≡ s.1 = cc in
      let tree : t ≡ u = one_tree bodies ns (s.0).0 t u s.3 (subst (λ (id : NodeId). ShowsWith bodies ns id.0 u) first r.3) in
      let trees : ts ≡ us = one_list bodies ns s.1 ts us s.4 (subst (λ (is : List NodeId). ShowsAllWith bodies ns is us) others r.4) in
      cc

pub cut_back : (old new : List Node) → Extends old new → take (length old) new ≡ old
cut_back old new x = ap (λ (z : List Node). take (length old) z) x.appended ∙ take-append_seam old x.extra

pub all_below : (bodies : List LamBody) (ns : List Node) (ids : List NodeId) (ts : Trees) → ShowsAllWith bodies ns ids ts → are_below (length ns) ids ≡ true
all_below bodies ns ids none s = rw s refl
all_below bodies ns ids (more (node k at token kids) ts) s =
    let within : (s.0).0 < length ns = slice_get_within ns (s.0).0 (s.3).0.found (s.3).0.stands in
    let others : are_below (length ns) s.1 ≡ true = all_below bodies ns s.1 ts s.4 in
    let below : nat_lt (s.0).0 (length ns) ≡ true = grind (arith, within) in
    rw (s.2, below) others

pub no_nodes : IsForest []
no_nodes = record { each = λ id. omega arith }

pub with_node : (old : List Node) (added : Node) → ((id : ℕ) → times_a_kid id old + times_in id added.kids.items ≤ 1) → IsForest (old ++ added ∷ [])
with_node old added h =
    record {
      each = λ id. rw (sum_by-append (λ (n : Node). times_in id n.kids.items) old (added ∷ []))
          (let few : times_a_kid id old + times_in id added.kids.items ≤ 1 = h id in omega (arith, few));
    }
