-- From what readers answer to bodies with their trees, and to units.
use Rattle.std.proofs.Common.{◌≡◌, ℕ, ◌+◌, ◌-◌, ◌<◌, ◌≤◌, List, [], ◌∷◌, ◌++◌, length, map, take, drop, get_or, Option, Some, None, Result, Ok, Err, refl}
use Rattle.std.proofs.Common.{sym, ◌∙◌, ap, subst, arith, append_assoc, append-nil}
use Rattle.std.proofs.lemmas.List.{map-append, take-append-drop}
use Rattle.std.specs.declared.alloc.AllocError.{AllocError}
use Rattle.cpp_ast.proofs.NodeTrees.{extends_trans, extends_refl}
use Rattle.cpp_ast.specs.declared.arena.Node.{Node}
use Rattle.cpp_ast.specs.declared.arena.NodeId.{NodeId}
use Rattle.cpp_ast.specs.declared.units.LamBody.{LamBody}
use Rattle.cpp_ast.specs.Trees.{Tree, Trees}
use Rattle.cpp_syntax.specs.declared.positions.OpenBody.{OpenBody}
use Rattle.cpp_syntax.specs.Source.{Source}
use Rattle.cpp_syntax.specs.Rules.{form, Lookahead, compound_statement}
use Rattle.cpp_syntax.specs.Derivations.{Body, Read, no_read, one_tree, kept_apart}
use Rattle.cpp_syntax.specs.Lookahead.{lookahead}
use Rattle.cpp_syntax.specs.Longest.{LongestMatch, NoDerivation}
use Rattle.cpp_syntax.specs.View.{trees_at, body_of, BuiltTrees}
use Rattle.cpp_syntax.specs.WithBodies.{Filled, no_trees, more_trees, whole, Wholes, no_wholes, more_wholes}
use Rattle.cpp_syntax.proofs.LambdaBodies.{bodies_in}
use Rattle.cpp_syntax.proofs.UnitBodies.{wholes_have, broken_body, ended_body, none_body}
use Rattle.cpp_parse_expr.specs.Parse.{IsFound}
use Rattle.cpp_parse_expr.proofs.ParseAnswers.{one_root, roots_one}
use Rattle.cpp_parse.specs.Bodies.{IsBlock, IsNoBody, AreRead, IsBroken, ReadsBodies, ReadsBody}
use Rattle.cpp_parse_expr.proofs.FirstDeepNode.{first_behind}
use Rattle.cpp_parse.proofs.BodyPositions.{text_inside, compound_tree}
use Rattle.cpp_parse.proofs.JoinedBodies.{none_in, both_in, body_in}

-- The tokens of a body.
module _ (source : Source) (body : OpenBody) (next : ℕ) (old grown : List Node) (roots : List NodeId) (inner : List OpenBody)
    (r : IsFound source (form compound_statement) (body.from - 1) next old grown roots inner) where
  pub block_root : length roots ≡ 1
  block_root = let one = compound_tree r.long.derives in roots_one grown roots one.0 (r.trees ∙ one.1)

  pub is_block : (root : NodeId) → next ≡ body.to + 1 → root ≡ get_or roots 0 root → IsBlock source body old grown root inner
  is_block root ends at =
      let only : roots ≡ root ∷ [] = one_root roots root block_root at in
      record {
        got = r.got;
        long =
            subst (λ (b : ℕ). LongestMatch (lookahead source) kept_apart source (form compound_statement) no_read (body.from - 1) b None r.got)
            ends r.long;
        grown = r.grown;
        shown = subst (λ (is : List NodeId). BuiltTrees (length old) grown is inner) only r.shown;
        trees = ap (λ (is : List NodeId). trees_at grown is) (sym only) ∙ r.trees;
        bodies = r.bodies;
        inside = text_inside (length source.terminals) grown inner r.long.derives r.inside r.bodies;
      }

behind_one : (n : ℕ) → 1 ≤ n → n ≡ n - 1 + 1
behind_one n h = omega (arith, h)

pub no_block_ends : (source : Source) (body : OpenBody) (next token : ℕ) (got : Read) → 1 ≤ body.from
    → LongestMatch (lookahead source) kept_apart source (form compound_statement) no_read (body.from - 1) next None got → (next ≡ body.to + 1 → ⊥)
    → token ≤ length source.terminals → IsNoBody source body token
no_block_ends source body next token got least long other inside = record {
  nothing = λ b tree from to h. ended_body (from ∙ behind_one body.from least) long (λ e. other (sym e ∙ ap (λ (n : ℕ). n + 1) to)) tree h;
  inside = inside;
}

pub no_block : (source : Source) (body : OpenBody) (token : ℕ) → 1 ≤ body.from
    → NoDerivation (lookahead source) kept_apart source (form compound_statement) no_read (body.from - 1) → token ≤ length source.terminals
    → IsNoBody source body token
no_block source body token least nothing inside = record {
  nothing = λ b tree from to h. none_body (from ∙ behind_one body.from least) nothing tree h;
  inside = inside;
}

-- Bodies one behind the other.

wholes_both : {lookahead : Lookahead → ℕ → Type 0} {source : Source} {bs cs : List Body} {fs gs : List Tree} → Wholes lookahead source bs fs
    → Wholes lookahead source cs gs → Wholes lookahead source (bs ++ cs) (fs ++ gs)
wholes_both {lookahead = lookahead} {source = source} {cs = cs} {gs = gs} (no_wholes {fs = fs} e f) y =
    subst (λ (z : List Body). Wholes lookahead source (z ++ cs) (fs ++ gs)) (sym e) (subst (λ (z : List Tree). Wholes lookahead source cs (z ++ gs))
    (sym f) y)
wholes_both {cs = cs} {gs = gs} (more_wholes b f x y g h) z =
    more_wholes b f x (wholes_both y z) (ap (λ (w : List Body). w ++ cs) g) (ap (λ (w : List Tree). w ++ gs) h)

pub read_none : (source : Source) (old : List Node) (before : List LamBody) → AreRead source [] old old before before
read_none source old before = record {
  trees = [];
  wholes = λ nodes. no_wholes refl refl;
  grown = extends_refl old;
  added = [];
  noted = sym (append-nil before);
  later = λ all x h. none_in old all;
}

pub read_both : (source : Source) (bs cs : List OpenBody) (old mid new : List Node) (before then_ now : List LamBody)
    → AreRead source bs old mid before then_ → AreRead source cs mid new then_ now → AreRead source (bs ++ cs) old new before now
read_both source bs cs old mid new before then_ now p q = record {
  trees = p.trees ++ q.trees;
  wholes =
      λ nodes. subst (λ (ds : List Body). Wholes (lookahead source) source ds (p.trees ++ q.trees)) (sym (map-append (body_of nodes) bs cs))
      (wholes_both (p.wholes nodes) (q.wholes nodes));
  grown = extends_trans old mid new p.grown q.grown;
  added = p.added ++ q.added;
  noted = q.noted ∙ ap (λ (bodies : List LamBody). bodies ++ q.added) p.noted ∙ append_assoc before p.added q.added;
  later =
      λ all x h. both_in bs cs old mid new p.added q.added p.trees q.trees all p.grown q.grown (p.later all (extends_trans mid new all q.grown x) h)
      (q.later all x h);
}

-- A body and those in it.

filled_one_is : {fs : List Tree} {t : Tree} {us : Trees} → Filled fs (one_tree t) us → (u : Tree) × (us ≡ one_tree u)
filled_one_is (more_trees {u = u} x (no_trees e) f) = (u, refl)

module _ (source : Source) (body : OpenBody) (old mid : List Node) (root : NodeId) (inner : List OpenBody) (least : 1 ≤ body.from)
    (block : IsBlock source body old mid root inner) where
  pub read_one : (new : List Node) (before then_ now : List LamBody) → then_ ≡ before ++ record { lam = body.lam; body = root } ∷ []
      → AreRead source inner mid new then_ now → AreRead source (body ∷ []) old new before now
  read_one new before then_ now pushed q =
      let here : LamBody = record { lam = body.lam; body = root } in
      let one = compound_tree block.long.derives in
      let wholes : Wholes (lookahead source) source block.got.bodies q.trees = subst (λ (bs : List Body). Wholes (lookahead source) source bs
      q.trees) block.bodies (q.wholes mid) in
      let with_bodies = bodies_in block.long.derives (wholes_have wholes) in
      let last = filled_one_is (subst (λ (ts : Trees). Filled q.trees ts with_bodies.trees) one.1 with_bodies.filled) in
      let filled : Filled q.trees block.got.trees (one_tree last.0) = subst (λ (ts : Trees). Filled q.trees block.got.trees ts) last.1 with_bodies.filled in
      record {
        trees = last.0 ∷ [];
        wholes =
            λ nodes. more_wholes (body_of nodes body) last.0 (whole (body.from - 1) block.got q.trees (behind_one body.from least) block.long wholes
            filled) (no_wholes refl refl) refl refl;
        grown = extends_trans old mid new block.grown q.grown;
        added = here ∷ q.added;
        noted = q.noted ∙ ap (λ (bodies : List LamBody). bodies ++ q.added) pushed ∙ append_assoc before (here ∷ []) q.added;
        later =
            λ all x h. body_in body inner old mid new root q.added q.trees last.0 all block.grown q.grown x h block.shown
            (subst (λ (ts : Trees). Filled q.trees ts (one_tree last.0)) (sym block.trees) filled) (q.later all x h);
      }

  pub broken_one : (token : ℕ) → IsBroken source inner token → IsNoBody source body token
  broken_one token b = record {
    nothing = λ c tree from to h.
        let parts : block.got.bodies ≡ map (body_of mid) b.front ++ body_of mid b.body ∷ map (body_of mid) b.back = sym block.bodies ∙ ap
        (map (body_of mid)) b.are ∙ map-append (body_of mid) b.front (b.body ∷ b.back) in
        broken_body (from ∙ behind_one body.from least) (subst (λ (n : ℕ). LongestMatch (lookahead source) kept_apart source
        (form compound_statement) no_read (body.from - 1) n None block.got) (ap (λ (n : ℕ). n + 1) (sym to)) block.long)
        (map (body_of mid) b.front) (map (body_of mid) b.back) (body_of mid b.body) parts
        (λ t x. b.none.nothing (body_of mid b.body) t refl refl x) tree h;
    inside = b.none.inside;
  }

  pub reads_one : (new : List Node) (before then_ now : List LamBody) (r : Result (Option ℕ) AllocError)
      → then_ ≡ before ++ record { lam = body.lam; body = root } ∷ [] → ReadsBodies source inner mid new then_ now r
      → ReadsBody source body old new before now r
  reads_one new before then_ now (Ok None) e h = read_one new before then_ now e h
  reads_one new before then_ now (Ok (Some token)) e h = broken_one token h
  reads_one new before then_ now (Err error) e h = tt

pub is_broken : (source : Source) (bodies : List OpenBody) (i token : ℕ) (body d : OpenBody) → i < length bodies → body ≡ get_or bodies i d
    → IsNoBody source body token → IsBroken source bodies token
is_broken source bodies i token body d inside at h = record {
  front = take i bodies;
  body = body;
  back = drop (i + 1) bodies;
  are = sym (take-append-drop i bodies) ∙ ap (λ (bs : List OpenBody). take i bodies ++ bs) (first_behind bodies i body d inside at);
  none = h;
}
