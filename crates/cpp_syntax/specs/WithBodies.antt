-- Trees whose lambdas have their bodies, and the same trees without them.
use Rattle.std.specs.Prelude.{◌≡◌, ℕ, ◌+◌, true, false, List, [], ◌∷◌, ◌++◌, length, Option, None}
use Rattle.cpp_ast.specs.declared.arena.At.{At}
use Rattle.cpp_ast.specs.declared.kinds.NodeKind.{NodeKind}
use Rattle.cpp_ast.specs.Trees.{Tree, node, Trees, none, more}
use Rattle.cpp_syntax.specs.Source.{Source}
use Rattle.cpp_syntax.specs.Rules.{Nonterminal, compound_statement, translation_unit, Lookahead, form}
use Rattle.cpp_syntax.specs.Derivations.{Body, Read, join, one_tree, no_read, in_trees, kept_apart, Derives}
use Rattle.cpp_syntax.specs.Lookahead.{lookahead}
use Rattle.cpp_syntax.specs.Longest.{LongestMatch}
use Rattle.cpp_syntax.specs.View.{is_lambda}

-- With these bodies, in the order in which the lambdas end, a tree without them becomes one that has them: each is the
-- last kid of its lambda.
mutual
  pub data FilledTree : List Tree → Tree → Tree → Type 0 where
    no_body : {fs : List Tree} {kind : NodeKind} {at : At} {token : Option ℕ} {ts us : Trees} → is_lambda kind ≡ false → Filled fs ts us
        → FilledTree fs (node kind at token ts) (node kind at token us)
    a_body : {fs gs : List Tree} (body : Tree) {kind : NodeKind} {at : At} {token : Option ℕ} {ts us vs : Trees} → is_lambda kind ≡ true
        → Filled fs ts us → gs ≡ fs ++ body ∷ [] → vs ≡ join us (one_tree body) → FilledTree gs (node kind at token ts) (node kind at token vs)

  pub data Filled : List Tree → Trees → Trees → Type 0 where
    no_trees : {fs : List Tree} → fs ≡ [] → Filled fs none none
    more_trees : {fs gs hs : List Tree} {t u : Tree} {ts us : Trees} → FilledTree fs t u → Filled gs ts us → hs ≡ fs ++ gs → Filled hs (more t ts) (more u us)

-- A tree is that of a body that was kept apart: what derives from the tokens with their braces, with the bodies in it.
pub record HasBody (lookahead : Lookahead → ℕ → Type 0) (source : Source) (body : Body) (tree : Tree) : Type 0 where
  pub start : ℕ
  pub begins : body.from ≡ start + 1
  pub text : Derives lookahead in_trees source (form compound_statement) no_read start (body.to + 1) None (record { trees = one_tree tree; bodies = [] })

-- trees of some bodies, in their order
pub data HaveBodies (lookahead : Lookahead → ℕ → Type 0) (source : Source) : List Body → List Tree → Type 0 where
  no_bodies : {bs : List Body} {fs : List Tree} → bs ≡ [] → fs ≡ [] → HaveBodies lookahead source bs fs
  more_bodies : {bs cs : List Body} {fs gs : List Tree} (b : Body) (f : Tree) → HasBody lookahead source b f → HaveBodies lookahead source bs fs
      → cs ≡ b ∷ bs → gs ≡ f ∷ fs → HaveBodies lookahead source cs gs

-- Bodies that were read one by one: the longest text from each one's brace ends with its closing brace, and the bodies
-- that it keeps apart were read so too.
mutual
  pub data Whole (lookahead : Lookahead → ℕ → Type 0) (source : Source) : Body → Tree → Type 0 where
    whole : {body : Body} {tree : Tree} (start : ℕ) (got : Read) (bodies : List Tree) → body.from ≡ start + 1
        → LongestMatch lookahead kept_apart source (form compound_statement) no_read start (body.to + 1) None got
        → Wholes lookahead source got.bodies bodies → Filled bodies got.trees (one_tree tree) → Whole lookahead source body tree

  pub data Wholes (lookahead : Lookahead → ℕ → Type 0) (source : Source) : List Body → List Tree → Type 0 where
    no_wholes : {bs : List Body} {fs : List Tree} → bs ≡ [] → fs ≡ [] → Wholes lookahead source bs fs
    more_wholes : {bs cs : List Body} {fs gs : List Tree} (b : Body) (f : Tree) → Whole lookahead source b f → Wholes lookahead source bs fs
        → cs ≡ b ∷ bs → gs ≡ f ∷ fs → Wholes lookahead source cs gs

-- What derives from a form, where the bodies of lambdas are in their trees.
abbrev pub DerivesWithBodies : Source → Nonterminal → ℕ → ℕ → Trees → Type 0
DerivesWithBodies source f a b ts = Derives (lookahead source) in_trees source (form f) no_read a b None (record { trees = ts; bodies = [] })

-- The longest text of a unit, the bodies kept apart, ends behind the last token.
abbrev pub WholeUnit : Source → Read → Type 0
WholeUnit source got = LongestMatch (lookahead source) kept_apart source (form translation_unit) no_read 0 (length source.terminals) None got
