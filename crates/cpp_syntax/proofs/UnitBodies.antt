-- A unit whose lambdas' bodies were read one by one: it is the one unit of its source.
--
-- whole_has x, wholes_have x         : a body that was read so has its tree
-- whole_only x y, wholes_only x y    : and no other
-- broken_body l b n                  : no tree is a body's, of whose own bodies one has none
-- ended_body, none_body              : nor where no text of a compound statement ends with its closing brace
-- unit_of l w f                      : the unit;  unit_only l w f u : no other is one
-- no_unit_ends, no_unit_broken       : there is none
use Rattle.std.proofs.Common.{◌≡◌, ℕ, ◌+◌, ◌<◌, inl, inr, refl, sym as back, ◌∙◌, ap₂, arith, subst, List, [], ◌∷◌, ◌++◌, length, Option, None, true≢false}
use Rattle.cpp_ast.specs.Trees.{Tree, Trees}
use Rattle.cpp_syntax.specs.Source.{Source}
use Rattle.cpp_syntax.specs.Rules.{Nonterminal, compound_statement, translation_unit, Lookahead, form}
use Rattle.cpp_syntax.specs.Derivations.{Body, Read, one_tree, no_read, in_trees, kept_apart, Derives}
use Rattle.cpp_syntax.specs.Lookahead.{lookahead, IsUnit}
use Rattle.cpp_syntax.specs.Longest.{LongestMatch, NoDerivation}
use Rattle.cpp_syntax.specs.WithBodies.{WholeUnit, Filled, HasBody, HaveBodies, no_bodies, more_bodies, Whole, whole, Wholes, no_wholes, more_wholes}
use Rattle.cpp_syntax.proofs.DisjointFirstSets.{either_way}
use Rattle.cpp_syntax.proofs.WithBodies.{filled_same}
use Rattle.cpp_syntax.proofs.LambdaBodies.{bodies_in, BodiesApart, bodies_apart}

one_same : {t u : Tree} → one_tree t ≡ one_tree u → t ≡ u
one_same e = cc

filled_at : {fs gs : List Tree} {ts us vs : Trees} → gs ≡ fs → us ≡ ts → Filled gs us vs → Filled fs ts vs
filled_at {gs = gs} {ts = ts} {vs = vs} e f x = subst (λ (z : List Tree). Filled z ts vs) e (subst (λ (z : Trees). Filled gs z vs) f x)

mutual
  pub whole_has : {lookahead : Lookahead → ℕ → Type 0} {source : Source} {body : Body} {tree : Tree} → Whole lookahead source body tree
      → HasBody lookahead source body tree
  whole_has {lookahead = lookahead} {source = source} {body = body} {tree = tree} (whole start got bodies e x w f) =
      let y = bodies_in x.derives (wholes_have w) in
      record {
        start = start;
        begins = e;
        text = subst (λ (z : Trees). Derives lookahead in_trees source (form compound_statement) no_read start
            (body.to + 1) None (record { trees = z; bodies = [] })) (filled_same y.filled f) y.text;
      }

  pub wholes_have : {lookahead : Lookahead → ℕ → Type 0} {source : Source} {bs : List Body} {fs : List Tree} → Wholes lookahead source bs fs
      → HaveBodies lookahead source bs fs
  wholes_have (no_wholes e f) = no_bodies e f
  wholes_have (more_wholes b f x y e g) = more_bodies b f (whole_has x) (wholes_have y) e g

start_same : {m n : ℕ} (k : ℕ) → k ≡ m + 1 → k ≡ n + 1 → n ≡ m
start_same k e f = omega (arith, e, f)

-- a text with the bodies in its trees, beside the longest one with the bodies apart that ends where it does
beside : {lookahead : Lookahead → ℕ → Type 0} {source : Source} {f : Nonterminal} {a b : ℕ} {ts : Trees} {got : Read}
    → LongestMatch lookahead kept_apart source (form f) no_read a b None got → BodiesApart lookahead source f a b None ts
    → (hs : List Tree) × HaveBodies lookahead source got.bodies hs × Filled hs got.trees ts
beside {lookahead = lookahead} {source = source} {b = b} {ts = ts} {got = got} x y = elim (x.longest b None y.after y.text) [
  | inl h ↦ absurd (let i = h.0 in omega (arith, i))
  | inr h ↦ (
    y.trees,
    subst (λ (z : Read). HaveBodies lookahead source z.bodies y.trees) h.2 y.have,
    subst (λ (z : Read). Filled y.trees z.trees ts)
        h.2 y.filled,
  )
]

apart_of : {lookahead : Lookahead → ℕ → Type 0} {source : Source} {start : ℕ} {body : Body} {tree : Tree} → body.from ≡ start + 1
    → HasBody lookahead source body tree → BodiesApart lookahead source compound_statement start (body.to + 1) None (one_tree tree)
apart_of {lookahead = lookahead} {source = source} {start = start} {body = body} {tree = tree} e y =
    subst (λ (z : ℕ). BodiesApart lookahead source compound_statement z (body.to + 1) None (one_tree tree)) (start_same body.from e y.begins)
    (bodies_apart y.text)

nil_cons : {A : Type 0} {x : A} {xs : List A} → [] ≡ x ∷ xs → ⊥
nil_cons e = cc

cons_same : {A : Type 0} {x y : A} {xs ys : List A} → x ∷ xs ≡ y ∷ ys → (x ≡ y) × (xs ≡ ys)
cons_same e = (cc, cc)

mutual
  pub whole_only : {lookahead : Lookahead → ℕ → Type 0} {source : Source} {body : Body} {tree other : Tree} → Whole lookahead source body tree
      → HasBody lookahead source body other → other ≡ tree
  whole_only (whole start got bodies e x w f) y = let z = beside x (apart_of e y) in one_same (filled_same (filled_at (wholes_only w z.1) refl z.2) f)

  pub wholes_only : {lookahead : Lookahead → ℕ → Type 0} {source : Source} {bs : List Body} {fs gs : List Tree} → Wholes lookahead source bs fs
      → HaveBodies lookahead source bs gs → gs ≡ fs
  wholes_only (no_wholes e f) (no_bodies g h) = h ∙ back f
  wholes_only (no_wholes e f) (more_bodies b t x y g h) = absurd (nil_cons (back e ∙ g))
  wholes_only (more_wholes b t x y g h) (no_bodies e f) = absurd (nil_cons (back e ∙ g))
  wholes_only {lookahead = lookahead} {source = source} (more_wholes {bs = b1} b t x y e f) (more_bodies {fs = f2} c u v w g h) =
      let i = cons_same (back g ∙ e) in
      h ∙ ap₂ (λ (p : Tree) (q : List Tree). p ∷ q) (whole_only x (subst (λ (z : Body). HasBody lookahead source z u) i.0 v))
      (wholes_only y (subst (λ (z : List Body). HaveBodies lookahead source z f2) i.1 w)) ∙ back f

have_each : {lookahead : Lookahead → ℕ → Type 0} {source : Source} {bs : List Body} {fs : List Tree} (cs ds : List Body) (b : Body)
    → bs ≡ cs ++ b ∷ ds → HaveBodies lookahead source bs fs → (t : Tree) × HasBody lookahead source b t
have_each [] ds b e (no_bodies g h) = absurd (nil_cons (back g ∙ e))
have_each (c ∷ cs) ds b e (no_bodies g h) = absurd (nil_cons (back g ∙ e))
have_each {lookahead = lookahead} {source = source} [] ds b e (more_bodies c t x y g h) =
    (t, subst (λ (z : Body). HasBody lookahead source z t) (cons_same (back g ∙ e)).0 x)
have_each {lookahead = lookahead} {source = source} (c ∷ cs) ds b e (more_bodies c' t x y g h) = have_each cs ds b (cons_same (back g ∙ e)).1 y

-- a body of whose own bodies one has no tree
pub broken_body : {lookahead : Lookahead → ℕ → Type 0} {source : Source} {start : ℕ} {body : Body} {got : Read} → body.from ≡ start + 1
    → LongestMatch lookahead kept_apart source (form compound_statement) no_read start (body.to + 1) None got → (cs ds : List Body) (b : Body)
    → got.bodies ≡ cs ++ b ∷ ds → ((t : Tree) → HasBody lookahead source b t → ⊥) → (tree : Tree) → HasBody lookahead source body tree → ⊥
broken_body e x cs ds b f g tree y = let z = beside x (apart_of e y) in let w = have_each cs ds b f z.1 in g w.0 w.1

-- a body of which the longest text ends elsewhere
pub ended_body : {lookahead : Lookahead → ℕ → Type 0} {source : Source} {start c : ℕ} {k : Option ℕ} {body : Body} {got : Read}
    → body.from ≡ start + 1 → LongestMatch lookahead kept_apart source (form compound_statement) no_read start c k got → (body.to + 1 ≡ c → ⊥)
    → (tree : Tree) → HasBody lookahead source body tree → ⊥
ended_body {lookahead = lookahead} {body = body} e x f tree y = let z = apart_of e y in elim (x.longest (body.to + 1) None z.after z.text) [
  | inl h ↦ either_way lookahead (body.to + 1) (λ seen w. true≢false (back (h.1 seen w)))
  | inr h ↦ f h.0
]

pub none_body : {lookahead : Lookahead → ℕ → Type 0} {source : Source} {start : ℕ} {body : Body} → body.from ≡ start + 1
    → NoDerivation lookahead kept_apart source (form compound_statement) no_read start → (tree : Tree) → HasBody lookahead source body tree → ⊥
none_body {body = body} e x tree y = let z = apart_of e y in x (body.to + 1) None z.after z.text

-- The unit.

pub unit_of : {source : Source} {got : Read} {bodies : List Tree} {decls : Trees} → WholeUnit source got
    → Wholes (lookahead source) source got.bodies bodies → Filled bodies got.trees decls → IsUnit source decls
unit_of {source = source} x w f =
    let y = bodies_in x.derives (wholes_have w) in
    subst (λ (z : Trees). IsUnit source z) (filled_same y.filled f) y.text

pub unit_only : {source : Source} {got : Read} {bodies : List Tree} {decls : Trees} → WholeUnit source got
    → Wholes (lookahead source) source got.bodies bodies → Filled bodies got.trees decls → (other : Trees) → IsUnit source other → other ≡ decls
unit_only x w f other u = let z = beside x (bodies_apart u) in filled_same (filled_at (wholes_only w z.1) refl z.2) f

-- the longest text of a unit ends before the last token
pub no_unit_ends : {source : Source} {n : ℕ} {k : Option ℕ} {got : Read}
    → LongestMatch (lookahead source) kept_apart source (form translation_unit) no_read 0 n k got → n < length source.terminals → (decls : Trees)
    → IsUnit source decls → ⊥
no_unit_ends {source = source} x h decls u = let z = bodies_apart u in elim (x.longest (length source.terminals) None z.after z.text) [
  | inl i ↦ let l = i.0 in omega (arith, l, h)
  | inr i ↦ let l = i.0 in omega (arith, l, h)
]

-- one of its bodies has no tree
pub no_unit_broken : {source : Source} {got : Read} → WholeUnit source got → (cs ds : List Body) (b : Body) → got.bodies ≡ cs ++ b ∷ ds
    → ((t : Tree) → HasBody (lookahead source) source b t → ⊥) → (decls : Trees) → IsUnit source decls → ⊥
no_unit_broken x cs ds b f g decls u = let z = beside x (bodies_apart u) in let w = have_each cs ds b f z.1 in g w.0 w.1
