-- Parts of statements, one behind the other.
use Rattle.std.proofs.Common.{◌≡◌, ◌<◌, ◌∷◌, ℕ, true, false, Bool, List, [], length, Option, Some, None, Result, Ok, Err, refl, sym, ap, ◌∙◌, subst}
use Rattle.elab_locals.specs.cpp_lex.Tokens.{Lexeme}
use Rattle.elab_locals.specs.cpp_types.Typ.{Typ}
use Rattle.elab_locals.specs.cpp_types.declared.classes.At.{At}
use Rattle.elab_locals.specs.cpp_ast.Trees as syntax
use Rattle.elab_locals.specs.cpp_tree.declared.faults.ElabFault.{ElabFault}
use Rattle.elab_locals.specs.cpp_tree.declared.kinds.TKind.{TKind}
use Rattle.elab_locals.specs.cpp_tree.declared.kinds.TKind.TheVariants as forms
use Rattle.elab_locals.specs.cpp_tree.declared.arena.TNodeId.{TNodeId}
use Rattle.elab_locals.specs.cpp_tree.Trees.{Tree, Trees, none, one, more, three}
use Rattle.elab_locals.specs.cpp_tree.Arena.{tree_at, trees_at, Grows, Adds}
use Rattle.elab_locals.specs.elab_ctx.Ctx.{ctx_of}
use Rattle.elab_locals.specs.elab_ctx.Steps.{and_then}
use Rattle.elab_locals.specs.elab_ctx.Says.{are_within}
use Rattle.elab_locals.proofs.elab_ctx.Looks.{at_grown}
use Rattle.elab_locals.proofs.elab_init.Listing.{trees_grown}
use Rattle.elab_locals.specs.elab_rules.Statements.{Lambdas, State, Done, done, statement, block, the_tree, condition, for_first, for_test, for_step, outer}
use Rattle.elab_locals.specs.elab_rules.Statements.{handlers_of}
use Rattle.elab_locals.specs.elab_scopes.declared.state.State.{State as StateRec}
use Rattle.elab_locals.specs.elab_scopes.States.{state_of, made, Grown}
use Rattle.elab_locals.specs.elab_scopes.Says.{OneDone, Does, AllDone, behind}
use Rattle.elab_locals.proofs.elab_scopes.Standing.{does_after, grown_trans, grown_by}
use Rattle.elab_locals.proofs.elab_scopes.Behind.{behind_none}
use Rattle.elab_stmt.specs.Parts.{inner_part, loop_part, if_both, if_other, for_body, for_last, for_stepped, for_tested, for_inside, try_handlers}

-- what was made first stays as it is
pub stays : (a b : StateRec) (id : TNodeId) → Grown a b → id.0 < length (made a) → tree_at (made b) id ≡ tree_at (made a) id
stays a b id g h = at_grown (made a) (made b) id g.trees h

pub all_stay : (a b : StateRec) (ids : List TNodeId) → Grown a b → are_within (length (made a)) ids ≡ true → trees_at (made b) ids ≡ trees_at (made a) ids
all_stay a b ids g h = trees_grown (made a) (made b) ids g.trees h

abbrev tree_done : StateRec → TNodeId → Done
tree_done b t = record { trees = one (tree_at (made b) t); state = state_of b }

-- behind the first branch
pub both_made : (lams : Lambdas) (s : List Lexeme) (a b c : StateRec) (at : At) (test chosen : TNodeId) (r : Result TNodeId ElabFault) (x y : syntax.Tree)
    → test.0 < length (made a) → OneDone a b chosen (inner_part lams s (state_of a) at x)
    → Does b c r (if_other lams s (state_of b) at (tree_at (made b) test) (tree_at (made b) chosen) y)
    → Does a c r (if_both lams s (state_of a) at (tree_at (made a) test) x y)
both_made lams s a b c at test chosen r x y h m n = does_after a b c (inner_part lams s (state_of a) at x) (tree_done b chosen)
    (λ (d : Done). if_other lams s d.state at (tree_at (made a) test) (the_tree at d.trees) y) r m.grown m.is
    (subst (λ (z : Tree). Does b c r (if_other lams s (state_of b) at z (tree_at (made b) chosen) y)) (stays a b test m.grown h) n)

-- `for`

pub tested_made : (lams : Lambdas) (s : List Lexeme) (a b c : StateRec) (at : At) (first : List TNodeId) (test : TNodeId) (r : Result TNodeId ElabFault)
    (e n x : syntax.Tree) → are_within (length (made a)) first ≡ true → OneDone a b test (for_test lams s (state_of a) at e)
    → Does b c r (for_stepped lams s (state_of b) at (trees_at (made b) first) (tree_at (made b) test) n x)
    → Does a c r (for_tested lams s (state_of a) at (trees_at (made a) first) e n x)
tested_made lams s a b c at first test r e n x w m h =
    does_after a b c (for_test lams s (state_of a) at e) (tree_done b test)
    (λ (d : Done). for_stepped lams s d.state at (trees_at (made a) first) (the_tree at d.trees) n x) r m.grown m.is
    (subst (λ (z : Trees). Does b c r (for_stepped lams s (state_of b) at z (tree_at (made b) test) n x)) (all_stay a b first m.grown w) h)

pub stepped_made : (lams : Lambdas) (s : List Lexeme) (a b c : StateRec) (at : At) (first : List TNodeId) (test step : TNodeId) (r : Result TNodeId ElabFault)
    (n x : syntax.Tree) → are_within (length (made a)) first ≡ true → test.0 < length (made a) → OneDone a b step (for_step lams s (state_of a) at n)
    → Does b c r (for_last lams s (state_of b) at (trees_at (made b) first) (tree_at (made b) test) (tree_at (made b) step) x)
    → Does a c r (for_stepped lams s (state_of a) at (trees_at (made a) first) (tree_at (made a) test) n x)
stepped_made lams s a b c at first test step r n x w k m h =
    does_after a b c (for_step lams s (state_of a) at n) (tree_done b step)
    (λ (d : Done). for_last lams s d.state at (trees_at (made a) first) (tree_at (made a) test) (the_tree at d.trees) x) r m.grown m.is
    (subst (λ (z : Trees). Does b c r (for_last lams s (state_of b) at z (tree_at (made a) test) (tree_at (made b) step) x)) (all_stay a b first m.grown w)
    (subst (λ (z : Tree). Does b c r (for_last lams s (state_of b) at (trees_at (made b) first) z (tree_at (made b) step) x)) (stays a b test m.grown k) h))

pub inside_made : (lams : Lambdas) (s : List Lexeme) (a b c : StateRec) (at : At) (before first : List TNodeId) (r : Result TNodeId ElabFault)
    (i e n x : syntax.Tree) → before ≡ [] → AllDone a b before first (for_first lams s (state_of a) i)
    → Does b c r (for_tested lams s (state_of b) at (trees_at (made b) first) e n x) → Does a c r (for_inside lams s (state_of a) at i e n x)
inside_made lams s a b c at before first r i e n x q m h =
    let all : for_first lams s (state_of a) i ≡ done (trees_at (made b) first) (state_of b) = sym (behind_none (for_first lams s (state_of a) i))
    ∙ ap (λ (z : List TNodeId). behind (trees_at (made a) z) (for_first lams s (state_of a) i)) (sym q) ∙ m.is in
    does_after a b c (for_first lams s (state_of a) i) (record { trees = trees_at (made b) first; state = state_of b })
    (λ (d : Done). for_tested lams s d.state at d.trees e n x) r m.grown all h

-- a node over several trees, of which the last was made
pub node_last : (a b c : StateRec) (y r : TNodeId) (at : At) (x : Result Done ElabFault) (f : Tree → Tree) (t : Tree) → OneDone a b y x
    → Adds (made b) (made c) r t → t ≡ f (tree_at (made b) y) → state_of c ≡ state_of b
    → OneDone a c r (and_then x (λ (d : Done). done (one (f (the_tree at d.trees))) d.state))
node_last a b c y r at x f t h m e s = record {
  grown = grown_trans a b c h.grown (grown_by b c m.grows (ap (λ (z : State). z.ctx.labels) s));
  within = m.within;
  is = ap (λ (z : Result Done ElabFault). and_then z (λ (d : Done). done (one (f (the_tree at d.trees))) d.state)) h.is
      ∙ ap (λ (z : Tree). done (one z) (state_of b)) (sym e ∙ sym m.is) ∙ ap (λ (z : State). done (one (tree_at (made c) r)) z) (sym s);
}

-- a node over trees that were made in a list
pub node_many : (a b c : StateRec) (before list : List TNodeId) (r : TNodeId) (x : Result Done ElabFault) (f : Trees → Tree) (t : Tree) → before ≡ []
    → AllDone a b before list x → Adds (made b) (made c) r t → t ≡ f (trees_at (made b) list) → state_of c ≡ state_of b
    → OneDone a c r (and_then x (λ (d : Done). done (one (f d.trees)) d.state))
node_many a b c before list r x f t q h m e s =
    let all : x ≡ done (trees_at (made b) list) (state_of b) = sym (behind_none x) ∙ ap (λ (z : List TNodeId). behind (trees_at (made a) z) x) (sym q) ∙ h.is in
    record {
      grown = grown_trans a b c h.grown (grown_by b c m.grows (ap (λ (z : State). z.ctx.labels) s));
      within = m.within;
      is = ap (λ (z : Result Done ElabFault). and_then z (λ (d : Done). done (one (f d.trees)) d.state)) all
          ∙ ap (λ (z : Tree). done (one z) (state_of b)) (sym e ∙ sym m.is) ∙ ap (λ (z : State). done (one (tree_at (made c) r)) z) (sym s);
    }
