-- From what readers answer to what the call does.
use Rattle.std.proofs.Common.{◌≡◌, ℕ, ◌<◌, ◌≤◌, Bool, true, false, if◌then◌else◌, List, [], ◌∷◌, length, map, take}
use Rattle.std.specs.declared.alloc.AllocError.{AllocError}
use Rattle.std.proofs.Common.{get_or, Option, Some, None, Result, Ok, Err, refl, sym, ◌∙◌, ap, subst, arith, append-nil, length-append, Vec, Global}
use Rattle.std.proofs.lemmas.List.{length-map}
use Rattle.std.proofs.lemmas.Option.{slice_get_within}
use Rattle.cpp_ast.proofs.NodeTrees.{cut_back}
use Rattle.cpp_ast.specs.declared.arena.At.{At}
use Rattle.cpp_ast.specs.declared.arena.Node.{Node}
use Rattle.cpp_ast.specs.declared.arena.NodeId.{NodeId}
use Rattle.cpp_ast.specs.Trees.{Tree, node, Trees, none, more, kind_of, kid_depth, Shows, ShowsAll, Extends}
use Rattle.cpp_syntax.specs.declared.positions.OpenBody.{OpenBody}
use Rattle.cpp_syntax.specs.Source.{Source, position_at}
use Rattle.cpp_syntax.specs.Rules.{Nonterminal, Rule, form}
use Rattle.cpp_syntax.specs.Derivations.{Read, no_read, one_tree, and_then, kept_apart}
use Rattle.cpp_syntax.specs.View.{BuilderState, builder_state, appended, BuiltTrees, trees_at, body_of, count_trees, count_lambdas, count_lambdas_in, is_lambda}
use Rattle.cpp_syntax.specs.Lookahead.{lookahead}
use Rattle.cpp_syntax.specs.Longest.{LongestMatch}
use Rattle.cpp_syntax.specs.Parsed.{ParsesLongest, ReadsLongest, Leaves}
use Rattle.cpp_syntax.proofs.BuilderMarks.{trees_count, bodies_count}
use Rattle.cpp_syntax.proofs.NodeKids.{front_of}
use Rattle.cpp_parse_expr.specs.declared.parse.ExprForm.{ExprForm}
use Rattle.cpp_parse_expr.specs.declared.parse.ExprForm.TheVariants as asked
use Rattle.cpp_parse_expr.specs.declared.parse.BodyRange.{BodyRange}
use Rattle.cpp_parse_expr.specs.Depths.{deep_node, lambda_depths, lambda_depths_in, Searches, IsNotedIn}
use Rattle.cpp_parse_expr.specs.Parse.{form_of, tree_read, EndsInside, IsFound, IsRead, IsTooDeep, IsParsed, open_bodies}
use Rattle.cpp_parse_expr.proofs.SingleTrees.{is_single, one_tree_of}
use Rattle.cpp_parse_expr.proofs.NodePositions.{text_positioned, deep_position}
use Rattle.cpp_parse_expr.proofs.FirstTooDeep.{none_low, some_high}
use Rattle.cpp_parse_expr.proofs.FirstDeepNode.{own_depth}

pub single_of : (f : ExprForm) → is_single (form_of f) ≡ true
single_of asked.Expr = refl
single_of asked.Assign = refl
single_of asked.Cond = refl
single_of asked.TypeHead = refl
single_of asked.TypeId = refl
single_of asked.Declarator = refl
single_of asked.Param = refl
single_of asked.Params = refl
single_of asked.Quals = refl

-- What builders show when nothing was read before.

pub base_kept : (built new : BuilderState) (got : Read) (old : List Node) → built.base ≡ old → new ≡ appended built got → new.base ≡ old
base_kept built new got old b e = ap (λ (z : BuilderState). z.base) e ∙ b

read_is : (built new : BuilderState) (got : Read) → built.read ≡ no_read → new ≡ appended built got → new.read ≡ got
read_is built new got r e = ap (λ (z : BuilderState). z.read) e ∙ ap (λ (z : Read). and_then z got) r

pub leaves_base : (built new : BuilderState) (old : List Node) → built.base ≡ old → Leaves built new → new.base ≡ old
leaves_base built new old b l = base_kept built new l.extra old b l.gained

pub grown_from : (built new : BuilderState) (old grown : List Node) → new.base ≡ old → Extends new.base grown → Extends old grown
grown_from built new old grown e x = subst (λ (ns : List Node). Extends ns grown) e x

pub ends_inside : (source : Source) (p : Rule) (a : ℕ) (k : Option ℕ) (u v : BuilderState) (r : Result (Option ℕ) AllocError)
    → ParsesLongest source p a k u v r → EndsInside source r
ends_inside source p a k u v (Ok (Some next)) h = h.inside
ends_inside source p a k u v (Ok None) h = tt
ends_inside source p a k u v (Err e) h = tt

module _ (source : Source) (p : Rule) (from : ℕ) (before after : BuilderState) (grown : List Node) (roots : List NodeId) (open_ : List OpenBody)
    (empty : before.read ≡ no_read) (built : after ≡ builder_state (length after.base) grown roots open_) (x : Extends after.base grown)
    (shown : BuiltTrees (length after.base) grown roots open_) where
  pub found : (next : ℕ) → ReadsLongest source p from next None before after → IsFound source p from next before.base grown roots open_
  found next reads =
      let kept : after.base ≡ before.base = base_kept before after reads.got before.base refl reads.gained in
      let read : after.read ≡ reads.got = read_is before after reads.got empty reads.gained in
      record {
        got = reads.got;
        long = reads.long;
        inside = reads.inside;
        grown = grown_from before after before.base grown kept x;
        shown = subst (λ (ns : List Node). BuiltTrees (length ns) grown roots open_) kept shown;
        trees = sym (ap (λ (z : BuilderState). z.read.trees) built) ∙ ap (λ (z : Read). z.trees) read;
        bodies = sym (ap (λ (z : BuilderState). z.read.bodies) built) ∙ ap (λ (z : Read). z.bodies) read;
      }

  pub left : Leaves before after → Extends before.base grown
  left l = grown_from before after before.base grown (leaves_base before after before.base refl l) x

-- One tree.

pub one_root : (ids : List NodeId) (root : NodeId) → length ids ≡ 1 → root ≡ get_or ids 0 root → ids ≡ root ∷ []
one_root [] root e f = absurd (omega (arith, e))
one_root (id ∷ []) root e f = ap (λ (z : NodeId). z ∷ []) (sym f)
one_root (id ∷ other ∷ ids) root e f = absurd (omega (arith, e))

pub roots_one : (nodes : List Node) (roots : List NodeId) (tree : Tree) → trees_at nodes roots ≡ one_tree tree → length roots ≡ 1
roots_one nodes roots tree e =
    sym (trees_count nodes roots) ∙ ap (λ (ts : Trees). count_trees ts) e ∙ (let c : count_trees (one_tree tree) ≡ 1 = refl in c)

module _ (source : Source) (f : Nonterminal) (from next : ℕ) (old grown : List Node) (roots : List NodeId) (open_ : List OpenBody)
    (single : is_single f ≡ true) (r : IsFound source (form f) from next old grown roots open_) where
  pub form_root : length roots ≡ 1
  form_root = let one = one_tree_of r.long.derives single in roots_one grown roots one.0 (r.trees ∙ one.1)

  pub is_read : (root : NodeId) → root ≡ get_or roots 0 root → IsRead source f from old grown root next open_
  is_read root at =
      let one = one_tree_of r.long.derives single in
      let trees : trees_at grown roots ≡ one_tree one.0 = r.trees ∙ one.1 in
      let only : roots ≡ root ∷ [] = one_root roots root form_root at in
      let whole : r.got ≡ tree_read one.0 r.got.bodies = ap (λ (ts : Trees). let z : Read = record { trees = ts; bodies = r.got.bodies } in z) one.1 in
      let here = front_of grown roots [] root (one_tree one.0) only (subst (λ (ts : Trees). ShowsAll grown roots ts) trees r.shown.shows) in
      let first : one.0 ≡ here.first = let e : more one.0 none ≡ more here.first here.others = here.are in cc in
      record {
        tree = one.0;
        bodies = r.got.bodies;
        text = subst (λ (z : Read). LongestMatch (lookahead source) kept_apart source (form f) no_read from next None z) whole r.long;
        inside = r.inside;
        shows = subst (λ (t : Tree). Shows grown root.0 t) (sym first) here.shows;
        grown = r.grown;
        shown = subst (λ (is : List NodeId). BuiltTrees (length old) grown is open_) only r.shown;
        ranges = r.bodies;
        many =
            sym (length-map open_ (body_of grown))
            ∙ bodies_count grown roots open_ r.shown.lambdas
            ∙ ap count_lambdas_in trees
            ∙ (let one_more : count_lambdas_in (one_tree one.0) ≡ count_lambdas one.0 = omega arith in one_more);
      }

pub cut_old : (old new : List Node) (n : ℕ) → Extends old new → n ≡ length old → take n new ≡ old
cut_old old new n x e = ap (λ (k : ℕ). take k new) e ∙ cut_back old new x

shown_inside : (nodes : List Node) (id : ℕ) (tree : Tree) → Shows nodes id tree → id < length nodes
shown_inside nodes id (node kind at token kids) s = slice_get_within nodes id (s.0).found (s.0).stands

own_many : (own : Bool) (depth : ℕ) → length (own_depth own depth) ≡ (if own then 1 else 0)
own_many true depth = refl
own_many false depth = refl

-- as many depths as there are lambdas
mutual
  depths_many : (depth : ℕ) (tree : Tree) → length (lambda_depths depth tree) ≡ count_lambdas tree
  depths_many depth (node kind at token kids) =
      let both = length-append (lambda_depths_in depth kids) (own_depth (is_lambda kind) depth) in
      let below = depths_many_in depth kids in
      let own = own_many (is_lambda kind) depth in
      omega (arith, both, below, own)

  depths_many_in : (depth : ℕ) (trees : Trees) → length (lambda_depths_in depth trees) ≡ count_lambdas_in trees
  depths_many_in depth none = refl
  depths_many_in depth (more t ts) =
      let both = length-append (lambda_depths (kid_depth depth (kind_of t)) t) (lambda_depths_in depth ts) in
      let first = depths_many (kid_depth depth (kind_of t)) t in
      let rest = depths_many_in depth ts in
      omega (arith, both, first, rest)

-- where no bodies are noted
pub none_noted : IsNotedIn [] []
none_noted = record { each = λ kids id. sym (append-nil kids) }

module _ (source : Source) (f : Nonterminal) (from next : ℕ) (old nodes : List Node) (root : NodeId) (open_ : List OpenBody)
    (r : IsRead source f from old nodes root next open_) where
  pub root_inside : root.0 < length nodes
  root_inside = shown_inside nodes root.0 r.tree r.shows

  module _ (depth limit : ℕ) where
    pub too_deep : (token : ℕ) (found : At) → Some found ≡ deep_node limit depth r.tree → token ≤ length source.terminals
        → ((k : ℕ) → k ≤ length source.terminals → position_at source k ≡ found → position_at source token ≡ found)
        → IsTooDeep source f from depth limit token
    too_deep token found deep inside at =
        let positioned = (text_positioned (length source.terminals) r.text.derives r.inside tt).trees in
        let position = deep_position source (length source.terminals) limit depth r.tree found positioned.0 (sym deep) in
        record {
          next = next;
          tree = r.tree;
          bodies = r.bodies;
          text = r.text;
          deep = some_high limit depth r.tree found (sym deep);
          position = sym deep ∙ ap (λ (a : At). Some a) (sym (at position.token position.within position.is));
          inside = inside;
        }

    pub each_depth : (depths : List ℕ) → Searches (deep_node limit depth r.tree) (lambda_depths depth r.tree) [] depths None
        → length depths ≡ length open_
    each_depth depths h = ap (λ (ds : List ℕ). length ds) h.1 ∙ depths_many depth r.tree ∙ sym r.many

    pub parsed : (depths : List ℕ) (bodies : Vec BodyRange Global)
        → Searches (deep_node limit depth r.tree) (lambda_depths depth r.tree) [] depths None → open_bodies bodies.items ≡ open_
        → map (λ (b : BodyRange). b.depth) bodies.items ≡ depths
        → IsParsed source f from depth limit old nodes (record { root = root; next = next; bodies = bodies })
    parsed depths bodies h opens values = record {
      tree = r.tree;
      bodies = r.bodies;
      text = r.text;
      inside = r.inside;
      shallow = none_low limit depth r.tree (sym h.0);
      shows = r.shows;
      grown = r.grown;
      shown = subst (λ (bs : List OpenBody). BuiltTrees (length old) nodes (root ∷ []) bs) (sym opens) r.shown;
      ranges = ap (λ (bs : List OpenBody). map (body_of nodes) bs) opens ∙ r.ranges;
      depths = values ∙ h.1;
    }
