-- A unit, of its declarations and the bodies of its lambdas.
use Rattle.std.proofs.Common.{◌≡◌, ℕ, zero, suc, ◌+◌, ◌<◌, ◌≤◌, nat_le, nat_lt, ◌&&◌, Bool, true, false, if◌then◌else◌, List, [], ◌∷◌, ◌++◌, length, map}
use Rattle.std.proofs.Common.{slice_get, option_map, Option, Some, None, refl, sym, ◌∙◌, ap, subst, arith, length-append}
use Rattle.std.proofs.lemmas.List.{map-append}
use Rattle.std.proofs.lemmas.Option.{slice_get-map, slice_get_within}
use Rattle.cpp_lex.specs.Tokens.{Lexeme}
use Rattle.cpp_ast.proofs.NodeTrees.{extends_refl}
use Rattle.cpp_ast.specs.declared.arena.At.{At}
use Rattle.cpp_ast.specs.declared.arena.Node.{Node}
use Rattle.cpp_ast.specs.declared.arena.NodeId.{NodeId}
use Rattle.cpp_ast.specs.declared.kinds.NodeKind.TheVariants.{Absent}
use Rattle.cpp_ast.specs.declared.units.LamBody.{LamBody}
use Rattle.cpp_ast.specs.Orders.{IsOrdered}
use Rattle.cpp_ast.specs.Trees.{Tree, node, Trees, unit_depth}
use Rattle.cpp_ast.specs.Units.{times_in, times_a_kid}
use Rattle.cpp_syntax.specs.declared.positions.OpenBody.{OpenBody}
use Rattle.cpp_syntax.specs.Source.{Source, position_at}
use Rattle.cpp_syntax.specs.Classes.{source_of, class_at, each_below}
use Rattle.cpp_syntax.specs.Rules.{form, translation_unit}
use Rattle.cpp_syntax.specs.Derivations.{Body, no_read, kept_apart}
use Rattle.cpp_syntax.specs.Lookahead.{lookahead, IsUnit}
use Rattle.cpp_syntax.specs.Longest.{LongestMatch}
use Rattle.cpp_syntax.specs.Parsed.{NoneOf}
use Rattle.cpp_syntax.specs.View.{body_of}
use Rattle.cpp_syntax.specs.WithBodies.{Filled, Wholes}
use Rattle.cpp_syntax.proofs.LambdaBodies.{bodies_in, bodies_apart}
use Rattle.cpp_syntax.proofs.UnitBodies.{wholes_have, unit_of, unit_only, no_unit_ends, no_unit_broken}
use Rattle.cpp_parse_expr.specs.Depths.{HoldLower, deep_kid}
use Rattle.cpp_parse_expr.proofs.FirstTooDeep.{none_low, some_high}
use Rattle.cpp_parse_expr.proofs.NodeIds.{held}
use Rattle.cpp_parse_expr.specs.Parse.{IsFound}
use Rattle.cpp_parse_expr.proofs.NodePositions.{IsPositioned, IsPosition, text_positioned, deep_position}
use Rattle.cpp_parse.specs.declared.parse.Whole.{Whole as WholeRecord}
use Rattle.cpp_parse.specs.NotedBodies.{lams_noted, roots_noted, one_from, is_lambda_node, is_lambda_at, AreNoted, AreWithin, IsOnceEach}
use Rattle.cpp_parse.specs.Bodies.{AreRead, IsBroken}
use Rattle.cpp_parse.specs.Steps.{AreDeclarations, HasNoUnit, UnitIn, IsWholeRead}
use Rattle.cpp_parse.specs.Units.{deepest_allowed, IsUnitTooDeep, IsNoUnit}
use Rattle.cpp_parse.proofs.BodyPositions.{text_inside}
use Rattle.cpp_parse.proofs.JoinedBodies.{grown_long, held_both, one_split, lambda_split, lambdas_new, lower_before}
use Rattle.cpp_parse.proofs.TreesWithBodies.{filled_shown}

-- The declarations.
module _ (source : Source) (next : ℕ) (old grown : List Node) (roots : List NodeId) (inner : List OpenBody)
    (r : IsFound source (form translation_unit) 0 next old grown roots inner) where
  pub are_declarations : next ≡ length source.terminals → AreDeclarations source old grown roots inner
  are_declarations ends = record {
    got = r.got;
    whole = subst (λ (b : ℕ). LongestMatch (lookahead source) kept_apart source (form translation_unit) no_read 0 b None r.got) ends r.long;
    grown = r.grown;
    shown = r.shown;
    trees = r.trees;
    bodies = r.bodies;
    inside = text_inside (length source.terminals) grown inner r.long.derives r.inside r.bodies;
  }

  pub ends_before : (token : ℕ) → (next ≡ length source.terminals → ⊥) → token ≤ length source.terminals → HasNoUnit source token
  ends_before token other within = record {
    nothing = no_unit_ends r.long (let inside = r.inside in omega (arith, inside, other));
    inside = within;
  }

-- no declarations at all
pub none_begins : (source : Source) (token : ℕ) → NoneOf source (form translation_unit) 0 → token ≤ length source.terminals → HasNoUnit source token
none_begins source token nothing within = record {
  nothing = λ decls u. let z = bodies_apart u in nothing (length source.terminals) None z.after z.text;
  inside = within;
}

at_most : (own : Bool) (n m : ℕ) → n ≤ (if own then m else 0) → m ≤ 1 → n ≤ (if own then 1 else 0)
at_most true n m h k = omega (arith, h, k)
at_most false n m h k = h

test_one : (b : Bool) → (if b then 1 else 0) ≤ 1
test_one true = omega arith
test_one false = omega arith

pub one_at_most : (from to id : ℕ) → one_from from to id ≤ 1
one_at_most from to id = test_one (nat_le from id && nat_lt id to)

-- With the bodies.
module _ (source : Source) (mid new : List Node) (decls : List NodeId) (inner : List OpenBody) (noted : List LamBody)
    (declared : AreDeclarations source [] mid decls inner) where
  pub broken_unit : (token : ℕ) → IsBroken source inner token → HasNoUnit source token
  broken_unit token b = record {
    nothing =
        let parts : declared.got.bodies ≡ map (body_of mid) b.front ++ body_of mid b.body ∷ map (body_of mid) b.back = sym declared.bodies ∙ ap
        (map (body_of mid)) b.are ∙ map-append (body_of mid) b.front (b.body ∷ b.back) in
        no_unit_broken declared.whole (map (body_of mid) b.front) (map (body_of mid) b.back) (body_of mid b.body) parts
        (λ t x. b.none.nothing (body_of mid b.body) t refl refl x);
    inside = b.none.inside;
  }

  unit_in : (read : AreRead source inner mid new [] noted) → IsOrdered new → (trees : Trees) → Filled read.trees declared.got.trees trees
      → UnitIn new decls noted trees
  unit_in read ordered trees filled =
      let lower : HoldLower 0 new = record { lower = λ id n from e. ordered.lower id n e } in
      let known = read.later new (extends_refl new) lower in
      let long = grown_long mid new read.grown in
      let added : noted ≡ read.added = read.noted in
      let are : AreNoted new read.added = record {
        each = λ id.
            let lams = known.lams id in
            let inside = lambdas_new 0 mid new decls inner id (omega arith) read.grown lower declared.shown in
            let split = lambda_split new 0 (length mid) (length new) id (omega arith) long in
            at_most (is_lambda_at new id) (times_in id (lams_noted read.added)) (one_from 0 (length new) id) (omega (arith, lams, inside, split))
            (one_at_most 0 (length new) id);
      } in
      subst (λ (bodies : List LamBody). UnitIn new decls bodies trees) (sym added) (record {
        noted = are;
        each = λ id.
            let front = declared.shown.apart id in
            let back = known.each id in
            let split = one_split 0 (length mid) (length new) id (omega arith) long in
            let both = held_both id [] mid new declared.grown read.grown in
            omega (arith, front, back, split, both);
        shows =
            filled_shown new mid read.added read.grown (lower_before mid new read.grown lower) are 0 decls inner read.trees trees declared.shown
            (subst (λ (ts : Trees). Filled read.trees ts trees) (sym declared.trees) filled) (known.show read.added are (λ b a. a));
      })

  pub whole_read : (whole : WholeRecord) → whole.nodes ≡ new → whole.decls.items ≡ decls → whole.bodies.items ≡ noted
      → AreRead source inner mid new [] noted → IsOrdered new → IsWholeRead source whole
  whole_read whole nodes_are decls_are bodies_are read ordered =
      let wholes : Wholes (lookahead source) source declared.got.bodies read.trees = subst
      (λ (bs : List Body). Wholes (lookahead source) source bs read.trees) declared.bodies (read.wholes mid) in
      let filled = bodies_in declared.whole.derives (wholes_have wholes) in
      let known = unit_in read ordered filled.trees filled.filled in
      record {
        decls = filled.trees;
        derives = unit_of declared.whole wholes filled.filled;
        only = unit_only declared.whole wholes filled.filled;
        known =
            subst (λ (ns : List Node). UnitIn ns whole.decls.items whole.bodies.items filled.trees) (sym nodes_are) (
            subst (λ (is : List NodeId). UnitIn new is whole.bodies.items filled.trees) (sym decls_are) (
            subst (λ (bs : List LamBody). UnitIn new decls bs filled.trees) (sym bodies_are) known));
      }

-- What a unit's nodes keep.
module _ (nodes : List Node) (decls : List NodeId) (bodies : List LamBody) (trees : Trees) (known : UnitIn nodes decls bodies trees) where
  some_there : (id : ℕ) (o : Option Node) → slice_get nodes id ≡ o → is_lambda_node o ≡ true → id < length nodes
  some_there id (Some n) e h = slice_get_within nodes id n e
  some_there id _ e h = absurd (let f : false ≡ true = h in cc)

  by_test : (own : Bool) (n : ℕ) → n ≤ (if own then 1 else 0) → 1 ≤ n → own ≡ true
  by_test true n h k = refl
  by_test false n h k = absurd (omega (arith, h, k))

  one_within : (from to id : ℕ) → 1 ≤ one_from from to id → id < to
  one_within from to id h = grind (arith, h)

  pub are_within : AreWithin (length nodes) bodies
  are_within = λ k body e.
      let lam_at : slice_get (lams_noted bodies) k ≡ Some body.lam = slice_get-map (λ (b : LamBody). b.lam) bodies k ∙ ap
      (option_map (λ (b : LamBody). b.lam)) e in
      let root_at : slice_get (roots_noted bodies) k ≡ Some body.body = slice_get-map (λ (b : LamBody). b.body) bodies k ∙ ap
      (option_map (λ (b : LamBody). b.body)) e in
      let lam = held (lams_noted bodies) k body.lam.0 lam_at in
      let root = held (roots_noted bodies) k body.body.0 root_at in
      let noted = known.noted.each body.lam.0 in
      let each = known.each body.body.0 in (
        some_there body.lam.0 (slice_get nodes body.lam.0) refl (by_test (is_lambda_at nodes body.lam.0) (times_in body.lam.0 (lams_noted bodies))
            noted lam),
        one_within 0 (length nodes) body.body.0 (omega (arith, root, each)),
      )

  pub are_once : IsOnceEach bodies
  are_once = record { each = λ id. let noted = known.noted.each id in let one = test_one (is_lambda_at nodes id) in omega (arith, noted, one) }

  pub held_once : (id : ℕ) → times_a_kid id nodes + times_in id decls + times_in id (roots_noted bodies) ≤ 1
  held_once id = let each = known.each id in let one = one_at_most 0 (length nodes) id in omega (arith, each, one)

-- The tokens.

each_long : {A : Type 0} (f : ℕ → A) (n : ℕ) → length (each_below f n) ≡ n
each_long f zero = refl
each_long f (suc n) = let rest = each_long f n in let next = length-append (each_below f n) (f n ∷ []) in omega (arith, rest, next)

pub source_long : (number : ℕ) (tokens : List Lexeme) → length (source_of number tokens).terminals ≡ length tokens
source_long number tokens = each_long (class_at tokens) (length tokens)

pub no_unit : (number : ℕ) (tokens : List Lexeme) (source : Source) (token : ℕ) → source ≡ source_of number tokens → HasNoUnit source token
    → IsNoUnit number tokens token
no_unit number tokens source token e h =
    let n = subst (λ (z : Source). HasNoUnit z token) e h in
    record { nothing = n.nothing; inside = (let inside = n.inside in let long = source_long number tokens in omega (arith, inside, long)) }

-- How deep it is, by a node that holds the declarations.

abbrev over : Source → Trees → Tree
over source decls = node Absent (position_at source 0) None decls

pub is_shallow : (source : Source) (decls : Trees) → None ≡ deep_kid deepest_allowed 1 decls → unit_depth decls ≤ deepest_allowed
is_shallow source decls e = none_low deepest_allowed 1 (over source decls) (sym e)

pub too_deep : (number : ℕ) (tokens : List Lexeme) (source : Source) (decls : Trees) (position : At) (token : ℕ) → source ≡ source_of number tokens
    → IsUnit source decls → ((other : Trees) → IsUnit source other → other ≡ decls) → Some position ≡ deep_kid deepest_allowed 1 decls
    → token ≤ length source.terminals
    → ((k : ℕ) → k ≤ length source.terminals → position_at source k ≡ position → position_at source token ≡ position)
    → IsUnitTooDeep number tokens token
too_deep number tokens source decls position token e derives only deep inside at =
    let most = length source.terminals in
    let none : IsPosition source most (position_at source 0) = record { token = 0; within = omega arith; is = refl } in
    let positioned : IsPositioned source most (over source decls) = (none, tt, (text_positioned most derives (omega arith) tt).trees) in
    let is = deep_position source most deepest_allowed 1 (over source decls) position positioned (sym deep) in
    let high : deepest_allowed < unit_depth decls = some_high deepest_allowed 1 (over source decls) position (sym deep) in
    let found : deep_kid deepest_allowed 1 decls ≡ Some (position_at source token) = sym deep ∙ ap (λ (p : At). Some p) (sym (at is.token is.within is.is)) in
    let long = source_long number tokens in
    record {
      decls = decls;
      derives = subst (λ (z : Source). IsUnit z decls) e derives;
      only = subst (λ (z : Source). (other : Trees) → IsUnit z other → other ≡ decls) e only;
      deep = high;
      position = subst (λ (z : Source). deep_kid deepest_allowed 1 decls ≡ Some (position_at z token)) e found;
      inside =
          (let same : length source.terminals ≡ length (source_of number tokens).terminals = ap (λ (z : Source). length z.terminals) e in omega
          (arith, inside, long, same));
    }
