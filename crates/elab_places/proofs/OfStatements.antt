-- The laws of braces and of statements.
use Rattle.std.proofs.Common.{◌≡◌, sym, ap, ◌∙◌, ℕ, [], length, Result, Ok, arith}
use Rattle.elab_rules.specs.cpp_tree.Trees.{Tree}
use Rattle.elab_rules.specs.cpp_tree.WellFormed.{places_of, times}
use Rattle.elab_rules.specs.cpp_tree.declared.faults.ElabFault.{ElabFault}
use Rattle.elab_rules.specs.Braces.{item_of}
use Rattle.elab_rules.specs.Statements.{State, Done, statement_of, statements_of, handlers_of}
use Rattle.elab_places.specs.Places.{AllOwn}
use Rattle.elab_places.specs.Bodies.{ItemsOwn, StatementsOwn, BlocksOwn, HandlersOwn}
use Rattle.elab_places.proofs.Counting.{place, held, Gives}
use Rattle.elab_places.proofs.Steps.{On, held_by}
use Rattle.elab_places.proofs.Owned.{tree_times}
use Rattle.elab_places.proofs.OfExpressions.{tree_owned, trees_owned}
use Rattle.elab_places.proofs.Braces as braces
use Rattle.elab_places.proofs.Declaring.{Ends}
use Rattle.elab_places.proofs.Statements as statements

bare : (p : ℕ) (e : Tree) → places_of e ≡ [] → held (place p) e ≡ 0
bare p e h = sym (tree_times p e) ∙ ap (times p) h

pub items_law : ItemsOwn
items_law s c w object t x m own b e = tree_owned (length w.frame) (length m.work.frame) m.tree (λ p. let i = made p in omega arith)
  where
    made : (p : ℕ) → Gives (place p) 0 w m
    made p = held_by (Gives (place p) 0 w) (item_of s c w object t x) m (braces.item (place p) s c own w object t x (bare p object b)) e

-- trees that end a step
ended : (st : State) (r : Result Done ElabFault) (d : Done) → ((p : ℕ) → On (Ends p st) r) → r ≡ Ok d → AllOwn st.work d.state.work d.trees
ended st r d h e = trees_owned (length st.work.frame) (length d.state.work.frame) d.trees (λ p. (held_by (Ends p st) r d (h p) e).counted)

pub statements_law : StatementsOwn
statements_law lams leaves s st t d own e =
    ended st (statement_of lams s st t) d (λ p. statements.one_statement p lams leaves s st t own) e

pub blocks_law : BlocksOwn
blocks_law lams leaves s st ts d own e = ended st (statements_of lams s st ts) d (λ p. statements.statements p lams leaves s st ts own) e

pub handlers_law : HandlersOwn
handlers_law lams leaves s st hs d own e = ended st (handlers_of lams s st hs) d (λ p. statements.handlers p lams leaves s st hs own) e
