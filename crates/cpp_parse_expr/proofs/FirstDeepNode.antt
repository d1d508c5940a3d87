-- The first node of some trees that lies too deep, or the depths of their lambdas, where bodies are noted apart from the nodes.
use Rattle.std.proofs.Common.{◌≡◌, ℕ, zero, suc, ◌+◌, ◌<◌, ◌≤◌, Bool, if◌then◌else◌, List, [], ◌∷◌, ◌++◌, length, drop, get_or, drop-cons, slice_get, Option}
use Rattle.std.proofs.Common.{Some, None, refl, sym, ◌∙◌, ap, ap₂, subst, arith, append_assoc, append-nil}
use Rattle.std.proofs.lemmas.Bool.{lt-ltb, le-ltb}
use Rattle.cpp_ast.specs.declared.arena.At.{At}
use Rattle.cpp_ast.specs.declared.arena.Node.{Node}
use Rattle.cpp_ast.specs.declared.arena.NodeId.{NodeId}
use Rattle.cpp_ast.specs.declared.units.LamBody.{LamBody}
use Rattle.cpp_ast.specs.declared.kinds.NodeKind.{NodeKind}
use Rattle.cpp_ast.specs.Trees.{Tree, node, Trees, none, more, kind_of, kid_depth, kids_with, ShowsWith, ShowsAllWith}
use Rattle.cpp_syntax.specs.Derivations.{join}
use Rattle.cpp_syntax.specs.View.{is_lambda}
use Rattle.cpp_syntax.proofs.NodeKids.{drop-past}
use Rattle.cpp_parse_expr.specs.Depths.{or_else, deep_node, deep_kid, lambda_depths, lambda_depths_in, Searches, at_most_one}

pub first_behind : {A : Type 0} (xs : List A) (i : ℕ) (x d : A) → i < length xs → x ≡ get_or xs i d → drop i xs ≡ x ∷ drop (i + 1) xs
first_behind xs i x d inside at =
    let next : suc i ≡ i + 1 = omega arith in
    drop-cons xs i d inside ∙ ap₂ (λ y ys. y ∷ ys) (sym at) (ap (λ (k : ℕ). drop k xs) next)

module _ (bodies : List LamBody) (nodes : List Node) where
  -- the first of some ids and the others
  pub record Front (id : NodeId) (ids : List NodeId) (trees : Trees) : Type 0 where
    pub first : Tree
    pub others : Trees
    pub are : trees ≡ more first others
    pub shows : ShowsWith bodies nodes id.0 first
    pub show : ShowsAllWith bodies nodes ids others

  pub front_of : (all ids : List NodeId) (id : NodeId) (trees : Trees) → all ≡ id ∷ ids → ShowsAllWith bodies nodes all trees → Front id ids trees
  front_of all ids id none e s = absurd (let f : all ≡ [] = s in cc)
  front_of all ids id (more t ts) e s =
      let f : all ≡ s.0 ∷ s.1 = s.2 in
      let first : s.0 ≡ id = cc in
      let others : s.1 ≡ ids = cc in
      record {
        first = t;
        others = ts;
        are = refl;
        shows = subst (λ (i : NodeId). ShowsWith bodies nodes i.0 t) first s.3;
        show = subst (λ (is : List NodeId). ShowsAllWith bodies nodes is ts) others s.4;
      }

  none_of : (ids : List NodeId) (trees : Trees) → ids ≡ [] → ShowsAllWith bodies nodes ids trees → trees ≡ none
  none_of ids none e s = refl
  none_of ids (more t ts) e s = absurd (let f : ids ≡ s.0 ∷ s.1 = s.2 in cc)

  -- The trees of the ids that were passed have no node that lies too deep, and the depths of their lambdas were noted.
  pub record Passing (ids : List NodeId) (i limit depth : ℕ) (trees : Trees) (old now : List ℕ) : Type 0 where
    pub rest : Trees
    pub shows : ShowsAllWith bodies nodes (drop i ids) rest
    pub same : deep_kid limit depth trees ≡ deep_kid limit depth rest
    pub noted : old ++ lambda_depths_in depth trees ≡ now ++ lambda_depths_in depth rest

  pub passing_none : (ids : List NodeId) (limit depth : ℕ) (trees : Trees) (old : List ℕ) → ShowsAllWith bodies nodes ids trees
      → Passing ids 0 limit depth trees old old
  passing_none ids limit depth trees old s = record { rest = trees; shows = s; same = refl; noted = refl }

  -- the tree at an index
  record Next (ids : List NodeId) (i limit depth : ℕ) (id : NodeId) (trees : Trees) (old now : List ℕ) : Type 0 where
    pub tree : Tree
    pub others : Trees
    pub shows : ShowsWith bodies nodes id.0 tree
    pub show : ShowsAllWith bodies nodes (drop (i + 1) ids) others
    pub same : deep_kid limit depth trees ≡ or_else (deep_node limit (kid_depth depth (kind_of tree)) tree) (deep_kid limit depth others)
    pub noted : old ++ lambda_depths_in depth trees ≡ now ++ (lambda_depths (kid_depth depth (kind_of tree)) tree ++ lambda_depths_in depth others)

  kind_is : (id : ℕ) (found : Node) (tree : Tree) → slice_get nodes id ≡ Some found → ShowsWith bodies nodes id tree → kind_of tree ≡ found.kind
  kind_is id found (node k at token kids) stands s =
      let there : slice_get nodes id ≡ Some (s.0).found = (s.0).stands in
      let same : (s.0).found ≡ found = cc in
      sym (s.0).kind_is ∙ ap (λ (n : Node). n.kind) same

  module _ (ids : List NodeId) (i limit depth below : ℕ) (id d : NodeId) (found : Node) (trees : Trees) (old now : List ℕ)
      (stands : slice_get nodes id.0 ≡ Some found) (is : below ≡ kid_depth depth found.kind) (inside : i < length ids) (at : id ≡ get_or ids i d)
      (p : Passing ids i limit depth trees old now) where
    next_kid : Next ids i limit depth id trees old now
    next_kid =
        let f = front_of (drop i ids) (drop (i + 1) ids) id p.rest (first_behind ids i id d inside at) p.shows in
        record {
          tree = f.first;
          others = f.others;
          shows = f.shows;
          show = f.show;
          same = p.same ∙ ap (deep_kid limit depth) f.are;
          noted = p.noted ∙ ap (λ (ts : Trees). now ++ lambda_depths_in depth ts) f.are;
        }

    depth_is : below ≡ kid_depth depth (kind_of next_kid.tree)
    depth_is = is ∙ ap (kid_depth depth) (sym (kind_is id.0 found next_kid.tree stands next_kid.shows))

    pub passing_more : (new : List ℕ)
        → ((tree : Tree) → ShowsWith bodies nodes id.0 tree → Searches (deep_node limit below tree) (lambda_depths below tree) now new None)
        → Passing ids (i + 1) limit depth trees old new
    passing_more new nothing =
        let n = next_kid in
        let down : ℕ = kid_depth depth (kind_of n.tree) in
        let h : Searches (deep_node limit down n.tree) (lambda_depths down n.tree) now new None = subst
        (λ (e : ℕ). Searches (deep_node limit e n.tree) (lambda_depths e n.tree) now new None) depth_is (nothing n.tree n.shows) in
        record {
          rest = n.others;
          shows = n.show;
          same = n.same ∙ ap (λ (o : Option At). or_else o (deep_kid limit depth n.others)) (sym h.0);
          noted =
              n.noted
              ∙ sym (append_assoc now (lambda_depths down n.tree) (lambda_depths_in depth n.others))
              ∙ ap (λ (ds : List ℕ). ds ++ lambda_depths_in depth n.others) (sym h.1);
        }

    pub passing_found : (position : At) → ((tree : Tree) → ShowsWith bodies nodes id.0 tree → Some position ≡ deep_node limit below tree)
        → Some position ≡ deep_kid limit depth trees
    passing_found position deep =
        let n = next_kid in
        let h = deep n.tree n.shows ∙ ap (λ (e : ℕ). deep_node limit e n.tree) depth_is in
        sym (n.same ∙ ap (λ (o : Option At). or_else o (deep_kid limit depth n.others)) (sym h))

  pub passing_all : (ids : List NodeId) (i limit depth : ℕ) (trees : Trees) (old now : List ℕ) → length ids ≤ i
      → Passing ids i limit depth trees old now → Searches (deep_kid limit depth trees) (lambda_depths_in depth trees) old now None
  passing_all ids i limit depth trees old now past p =
      let none_left : p.rest ≡ none = none_of (drop i ids) p.rest (drop-past i ids past) p.shows in (
        sym (p.same ∙ ap (deep_kid limit depth) none_left),
        sym (p.noted ∙ ap (λ (ts : Trees). now ++ lambda_depths_in depth ts) none_left ∙ append-nil now),
      )

  -- of no ids
  pub nothing_there : (ids : List NodeId) (limit depth : ℕ) (trees : Trees) (old : List ℕ) → ids ≡ [] → ShowsAllWith bodies nodes ids trees
      → Searches (deep_kid limit depth trees) (lambda_depths_in depth trees) old old None
  nothing_there ids limit depth trees old e s =
      let none_is : trees ≡ none = none_of ids trees e s in (
        sym (ap (deep_kid limit depth) none_is),
        sym (ap (λ (ts : Trees). old ++ lambda_depths_in depth ts) none_is ∙ append-nil old),
      )

  -- trees of ids in two parts
  pub record Halves (front back : List NodeId) (trees : Trees) : Type 0 where
    pub left : Trees
    pub right : Trees
    pub are : trees ≡ join left right
    pub show_left : ShowsAllWith bodies nodes front left
    pub show_right : ShowsAllWith bodies nodes back right

  pub halves_of : (front back : List NodeId) (trees : Trees) → ShowsAllWith bodies nodes (front ++ back) trees → Halves front back trees
  halves_of [] back trees s = record { left = none; right = trees; are = refl; show_left = refl; show_right = s }
  halves_of (id ∷ front) back trees s =
      let f = front_of (id ∷ (front ++ back)) (front ++ back) id trees refl s in
      let rest = halves_of front back f.others f.show in
      record {
        left = more f.first rest.left;
        right = rest.right;
        are = f.are ∙ ap (more f.first) rest.are;
        show_left = (id, front, refl, f.shows, rest.show_left);
        show_right = rest.show_right;
      }

  -- A node, its kids, and the body that is noted for it.
  pub record Parts (found : Node) (body : List NodeId) (tree : Tree) : Type 0 where
    pub kids : Trees
    pub last : Trees
    pub is : tree ≡ node found.kind found.at found.token (join kids last)
    pub show_kids : ShowsAllWith bodies nodes found.kids.items kids
    pub show_last : ShowsAllWith bodies nodes body last

  pub parts_of : (id : ℕ) (found : Node) (body : List NodeId) (tree : Tree) → slice_get nodes id ≡ Some found
      → ((kids : List NodeId) → kids_with kids bodies id ≡ kids ++ body) → ShowsWith bodies nodes id tree → Parts found body tree
  parts_of id found body (node k at token kids) stands noted s =
      let there : slice_get nodes id ≡ Some (s.0).found = (s.0).stands in
      let same : (s.0).found ≡ found = cc in
      let kind_is : k ≡ found.kind = sym (s.0).kind_is ∙ ap (λ (n : Node). n.kind) same in
      let at_is : at ≡ found.at = sym (s.0).at_is ∙ ap (λ (n : Node). n.at) same in
      let token_is : token ≡ found.token = sym (s.0).token_is ∙ ap (λ (n : Node). n.token) same in
      let shown : ShowsAllWith bodies nodes (kids_with found.kids.items bodies id) kids = subst
      (λ (n : Node). ShowsAllWith bodies nodes (kids_with n.kids.items bodies id) kids) same s.1 in
      let h = halves_of found.kids.items body kids (subst (λ (is : List NodeId). ShowsAllWith bodies nodes is kids) (noted found.kids.items) shown) in
      record {
        kids = h.left;
        last = h.right;
        is = let are : kids ≡ join h.left h.right = h.are in cc;
        show_kids = h.show_left;
        show_last = h.show_right;
      }

-- no body is noted behind a table
pub none_noted_past : (noted : List (Option NodeId)) (id : ℕ) → length noted ≤ id → at_most_one (slice_get noted id) ≡ []
none_noted_past [] id h = refl
none_noted_past (x ∷ noted) zero h = absurd (omega (arith, h))
none_noted_past (x ∷ noted) (suc id) h = none_noted_past noted id (omega (arith, h))

or_or : (a b c : Option At) → or_else a (or_else b c) ≡ or_else (or_else a b) c
or_or None b c = refl
or_or (Some at) b c = refl

deep_join : (limit depth : ℕ) (ts us : Trees) → deep_kid limit depth (join ts us) ≡ or_else (deep_kid limit depth ts) (deep_kid limit depth us)
deep_join limit depth none us = refl
deep_join limit depth (more t ts) us =
    ap (or_else (deep_node limit (kid_depth depth (kind_of t)) t)) (deep_join limit depth ts us)
    ∙ or_or (deep_node limit (kid_depth depth (kind_of t)) t) (deep_kid limit depth ts) (deep_kid limit depth us)

depths_join : (depth : ℕ) (ts us : Trees) → lambda_depths_in depth (join ts us) ≡ lambda_depths_in depth ts ++ lambda_depths_in depth us
depths_join depth none us = refl
depths_join depth (more t ts) us =
    ap (λ (ds : List ℕ). lambda_depths (kid_depth depth (kind_of t)) t ++ ds) (depths_join depth ts us)
    ∙ sym (append_assoc (lambda_depths (kid_depth depth (kind_of t)) t) (lambda_depths_in depth ts) (lambda_depths_in depth us))

abbrev by_test : Bool → At → Option At → Option At
by_test b at o = if b then Some at else o

at_depth : (limit depth : ℕ) (kind : NodeKind) (at : At) (token : Option ℕ) (kids : Trees) → limit < depth
    → deep_node limit depth (node kind at token kids) ≡ Some at
at_depth limit depth kind at token kids h = ap (λ (b : Bool). by_test b at (deep_kid limit depth kids)) (lt-ltb limit depth h)

below_depth : (limit depth : ℕ) (kind : NodeKind) (at : At) (token : Option ℕ) (kids : Trees) → depth ≤ limit
    → deep_node limit depth (node kind at token kids) ≡ deep_kid limit depth kids
below_depth limit depth kind at token kids h = ap (λ (b : Bool). by_test b at (deep_kid limit depth kids)) (le-ltb limit depth h)

-- the depth of a lambda, and nothing for other nodes
abbrev pub own_depth : Bool → ℕ → List ℕ
own_depth own depth = if own then depth ∷ [] else []

-- A node of a depth, of which the kids and the noted body are known.
module _ (bodies : List LamBody) (nodes : List Node) (limit depth : ℕ) (found : Node) (body : List NodeId) (tree : Tree)
    (p : Parts bodies nodes found body tree) where
  pub node_beyond : limit < depth → Some found.at ≡ deep_node limit depth tree
  node_beyond h =
      sym (ap (deep_node limit depth) p.is ∙ at_depth limit depth found.kind found.at found.token (join p.kids p.last) h)

  module _ (low : depth ≤ limit) where
    by_parts : deep_node limit depth tree ≡ or_else (deep_kid limit depth p.kids) (deep_kid limit depth p.last)
    by_parts =
        ap (deep_node limit depth) p.is
        ∙ below_depth limit depth found.kind found.at found.token (join p.kids p.last) low
        ∙ deep_join limit depth p.kids p.last

    pub found_in_kids : (position : At)
        → ((trees : Trees) → ShowsAllWith bodies nodes found.kids.items trees → Some position ≡ deep_kid limit depth trees)
        → Some position ≡ deep_node limit depth tree
    found_in_kids position h = sym (by_parts ∙ ap (λ (o : Option At). or_else o (deep_kid limit depth p.last)) (sym (h p.kids p.show_kids)))

    module _ (old mid : List ℕ) (kids : (trees : Trees) → ShowsAllWith bodies nodes found.kids.items trees
        → Searches (deep_kid limit depth trees) (lambda_depths_in depth trees) old mid None) where
      past_kids : deep_node limit depth tree ≡ deep_kid limit depth p.last
      past_kids = by_parts ∙ ap (λ (o : Option At). or_else o (deep_kid limit depth p.last)) (sym (kids p.kids p.show_kids).0)

      pub found_in_body : (position : At)
          → ((trees : Trees) → ShowsAllWith bodies nodes body trees → Some position ≡ deep_kid limit depth trees)
          → Some position ≡ deep_node limit depth tree
      found_in_body position h = h p.last p.show_last ∙ sym past_kids

      pub past_both : (late new : List ℕ) → ((trees : Trees) → ShowsAllWith bodies nodes body trees
          → Searches (deep_kid limit depth trees) (lambda_depths_in depth trees) mid late None)
          → new ≡ late ++ own_depth (is_lambda found.kind) depth
          → Searches (deep_node limit depth tree) (lambda_depths depth tree) old new None
      past_both late new last e =
          let below = kids p.kids p.show_kids in
          let behind = last p.last p.show_last in
          let own : List ℕ = own_depth (is_lambda found.kind) depth in (
            behind.0 ∙ sym past_kids,
            e
                ∙ ap (λ (ds : List ℕ). ds ++ own) (
                behind.1
                ∙ ap (λ (ds : List ℕ). ds ++ lambda_depths_in depth p.last) below.1
                ∙ append_assoc old (lambda_depths_in depth p.kids) (lambda_depths_in depth p.last)
                ∙ ap (λ (ds : List ℕ). old ++ ds) (sym (depths_join depth p.kids p.last)))
                ∙ append_assoc old (lambda_depths_in depth (join p.kids p.last)) own
                ∙ ap (λ (t : Tree). old ++ lambda_depths depth t) (sym p.is),
          )
