-- A step of a statement and what follows it, in a scope or not.
use Rattle.std.proofs.Common.{◌≡◌, ◌<◌, ◌++◌, ◌∷◌, ℕ, Bool, true, List, [], length, Option, Result, Ok, Err, refl, sym, ap, ◌∙◌, subst}
use Rattle.elab_locals.specs.cpp_lex.Tokens.{Lexeme}
use Rattle.elab_locals.specs.cpp_types.Typ.{Typ, typ_of}
use Rattle.elab_locals.specs.cpp_types.declared.classes.At.{At}
use Rattle.elab_locals.specs.cpp_ast.declared.arena.At.{At as SyntaxAt}
use Rattle.elab_locals.specs.cpp_ast.declared.kinds.NodeKind.{NodeKind}
use Rattle.elab_locals.specs.cpp_ast.Trees as syntax
use Rattle.elab_locals.specs.cpp_tree.declared.faults.ElabFault.{ElabFault}
use Rattle.elab_locals.specs.cpp_tree.declared.arena.TNodeId.{TNodeId}
use Rattle.elab_locals.specs.cpp_tree.declared.kinds.TKind.{TKind}
use Rattle.elab_locals.specs.cpp_tree.declared.kinds.TKind.TheVariants as forms
use Rattle.elab_locals.specs.cpp_tree.Trees.{Tree, Trees, none, one, more, three}
use Rattle.elab_locals.specs.cpp_tree.Arena.{tree_at, trees_at, Grows, Adds}
use Rattle.elab_locals.specs.elab_ctx.Ctx.{Ctx, Labels, ctx_of, closed}
use Rattle.elab_locals.specs.elab_ctx.Steps.{and_then, at_of}
use Rattle.elab_locals.specs.elab_ctx.Says.{Faults, are_within}
use Rattle.elab_locals.proofs.elab_ctx.Looks.{grows_trans, grows_refl, at_grown}
use Rattle.elab_locals.proofs.elab_ctx.Making.{faults_in, faults_same}
use Rattle.elab_locals.proofs.elab_init.Listing.{trees_grown, all_within_grown}
use Rattle.elab_locals.specs.elab_rules.Statements.{Lambdas, State, Done, Switched, Caught, done, statement, block, the_tree, outer, in_switch, in_block}
use Rattle.elab_locals.specs.elab_rules.Statements.{handler_node, a_part, statement_of, statements_of, handlers_of, switched, handler_type}
use Rattle.elab_locals.specs.elab_scopes.declared.state.State.{State as StateRec}
use Rattle.elab_locals.specs.elab_scopes.declared.state.Mark.{Mark}
use Rattle.elab_locals.specs.elab_scopes.declared.state.SwitchedOn.{SwitchedOn}
use Rattle.elab_locals.specs.elab_scopes.declared.state.Caught.{Caught as CaughtRec}
use Rattle.elab_locals.specs.elab_scopes.States.{state_of, made, Grown, KeepsLabels, mark_in, left_at}
use Rattle.elab_locals.specs.elab_scopes.Says.{OneDone, Does, AllDone, DoesAll, SwitchedAt, behind}
use Rattle.elab_locals.specs.elab_scopes.Caught.{CaughtAt}
use Rattle.elab_locals.proofs.elab_scopes.Standing.{does_after, does_grown, grown_trans, grown_by, keeps_same}
use Rattle.elab_locals.proofs.elab_scopes.Behind.{behind_none, all_one}
use Rattle.elab_stmt.specs.Parts.{body_of, part_of, one_part, guarded, switch_inside, switch_body, try_handlers, handler_body, handler_inside}
use Rattle.elab_stmt.proofs.Forms.{back, then_then}
use Rattle.elab_stmt.proofs.Chains.{stays, all_stay}
use Rattle.elab_stmt.proofs.Scoped.{scoped, node_over, left_is}

pub faults_then : {A B : Type 0} (f : ElabFault) (x : Result A ElabFault) (g : A → Result B ElabFault) (y : Result B ElabFault) → y ≡ and_then x g → Faults f x
    → Faults f y
faults_then {A} {B} f x g y e h = faults_same f (and_then x g) y e (faults_in (λ (z : Result A ElabFault). and_then z g) f x (λ d. refl) h)

pub all_fail : (a c : StateRec) (before after : List TNodeId) (r : Result (Unit {0}) ElabFault) (f : ElabFault) (x : Result Done ElabFault) → r ≡ Err f
    → Faults f x → DoesAll a c before after r x
all_fail a c before after r f x e h = subst (λ (z : Result (Unit {0}) ElabFault). DoesAll a c before after z x) (sym e) h

pub all_same : (a c : StateRec) (before after : List TNodeId) (r : Result (Unit {0}) ElabFault) (x y : Result Done ElabFault) → y ≡ x
    → DoesAll a c before after r x → DoesAll a c before after r y
all_same a c before after r x y e m = subst (λ (z : Result Done ElabFault). DoesAll a c before after r z) (sym e) m

-- one tree, and what follows it
pub one_then : (a b c : StateRec) (t : TNodeId) (at : At) (r : Result TNodeId ElabFault) (x : Result Done ElabFault) (f : Tree → State → Result Done ElabFault)
    → OneDone a b t x → Does b c r (f (tree_at (made b) t) (state_of b)) → Does a c r (and_then x (λ (d : Done). f (the_tree at d.trees) d.state))
one_then a b c t at r x f m n = does_after a b c x (record { trees = one (tree_at (made b) t); state = state_of b })
    (λ (d : Done). f (the_tree at d.trees) d.state) r m.grown m.is n

-- all that was made in an empty list
pub all_is : (a b : StateRec) (before list : List TNodeId) (x : Result Done ElabFault) → before ≡ [] → AllDone a b before list x
    → x ≡ done (trees_at (made b) list) (state_of b)
all_is a b before list x q m = sym (behind_none x) ∙ ap (λ (z : List TNodeId). behind (trees_at (made a) z) x) (sym q) ∙ m.is

-- ids stay within what was made
pub still_within : (a b : StateRec) (ids : List TNodeId) (r : TNodeId) (x : Result Done ElabFault) → are_within (length (made a)) ids ≡ true → OneDone a b r x
    → are_within (length (made b)) ids ≡ true
still_within a b ids r x w m = all_within_grown (made a) (made b) ids m.grown.trees w

pub one_within : (a b : StateRec) (ids next : List TNodeId) (r : TNodeId) (x : Result Done ElabFault) → are_within (length (made a)) ids ≡ true
    → OneDone a b r x → next ≡ ids ++ r ∷ [] → are_within (length (made b)) next ≡ true
one_within a b ids next r x w m e = (all_one a b ids next r x w m e).within

-- the same of the list that was lent
pub as_lent : (n m : List Tree) (r : TNodeId) (f : Trees → Tree) (ids lent : List TNodeId) → lent ≡ ids → Adds n m r (f (trees_at n lent))
    → Adds n m r (f (trees_at n ids))
as_lent n m r f ids lent e h = subst (λ (z : List TNodeId). Adds n m r (f (trees_at n z))) e h

-- Scopes

state_with : (a b : StateRec) (w : Ctx) → state_of b ≡ record (state_of a) { ctx = ctx_of b.env } → ctx_of b.env ≡ w
    → state_of b ≡ record (state_of a) { ctx = w }
state_with a b w s e = s ∙ ap (λ (z : Ctx). record (state_of a) { ctx = z }) e

pub in_scope : (a b c d : StateRec) (m : Mark) (r : TNodeId) (w : Ctx) (f : State → Result Done ElabFault) → made b ≡ made a
    → state_of b ≡ record (state_of a) { ctx = ctx_of b.env } → ctx_of b.env ≡ w → w.labels ≡ (ctx_of a.env).labels → OneDone b c r (f (state_of b))
    → m ≡ mark_in (ctx_of a.env) → ctx_of d.env ≡ left_at m (ctx_of c.env) → state_of d ≡ record (state_of c) { ctx = ctx_of d.env } → made d ≡ made c
    → OneDone a d r (and_then (f (record (state_of a) { ctx = w })) (back (state_of a)))
in_scope a b c d m r w f g s e l h n k t u = scoped a b c d m r (f (record (state_of a) { ctx = w })) g (ap (λ (z : Ctx). z.labels) e ∙ l)
    (subst (λ (z : State). OneDone b c r (f z)) (state_with a b w s e) h) n k t u

pub scope_fails : (a b : StateRec) (w : Ctx) (f : State → Result Done ElabFault) (e : ElabFault) (g : State → Done → Result Done ElabFault)
    → state_of b ≡ record (state_of a) { ctx = ctx_of b.env } → ctx_of b.env ≡ w → Faults e (f (state_of b))
    → Faults e (and_then (f (record (state_of a) { ctx = w })) (g (state_of a)))
scope_fails a b w f e g s q h = faults_in (λ (z : Result Done ElabFault). and_then z (g (state_of a))) e (f (record (state_of a) { ctx = w })) (λ d. refl)
    (subst (λ (z : State). Faults e (f z)) (state_with a b w s q) h)

-- Nodes over what was made

-- over one that stood there, one that was made, and a last one
pub node_three : (a b c : StateRec) (n : List Tree) (old new other r : TNodeId) (at : At) (x : Result Done ElabFault) (f : Tree → Tree → Tree → Tree) (t : Tree)
    → old.0 < length (made a) → OneDone a b new x → Adds (made b) n other t → Adds n (made c) r (f (tree_at n old) (tree_at n new) (tree_at n other))
    → state_of c ≡ state_of b → OneDone a c r (and_then x (λ (y : Done). done (one (f (tree_at (made a) old) (the_tree at y.trees) t)) y.state))
node_three a b c n old new other r at x f t h m p q s =
    let first : tree_at n old ≡ tree_at (made a) old = at_grown (made a) n old (grows_trans m.grown.trees p.grows) h in
    let second : tree_at n new ≡ tree_at (made b) new = at_grown (made b) n new p.grows m.within in
    record {
      grown = grown_trans a b c m.grown (grown_by b c (grows_trans p.grows q.grows) (ap (λ (z : State). z.ctx.labels) s));
      within = q.within;
      is = ap (λ (z : Result Done ElabFault). and_then z (λ (y : Done). done (one (f (tree_at (made a) old) (the_tree at y.trees) t)) y.state)) m.is
          ∙ ap (λ (z : Tree). done (one (f z (tree_at (made b) new) t)) (state_of b)) (sym first)
          ∙ ap (λ (z : Tree). done (one (f (tree_at n old) z t)) (state_of b)) (sym second)
          ∙ ap (λ (z : Tree). done (one (f (tree_at n old) (tree_at n new) z)) (state_of b)) (sym p.is)
          ∙ ap (λ (z : Tree). done (one z) (state_of b)) (sym q.is) ∙ ap (λ (z : State). done (one (tree_at (made c) r)) z) (sym s);
    }

-- over two that stood there and one that was made
pub node_last_of : (a b c : StateRec) (u v new r : TNodeId) (at : At) (x : Result Done ElabFault) (f : Tree → Tree → Tree → Tree) → u.0 < length (made a)
    → v.0 < length (made a) → OneDone a b new x → Adds (made b) (made c) r (f (tree_at (made b) u) (tree_at (made b) v) (tree_at (made b) new))
    → state_of c ≡ state_of b → OneDone a c r (and_then x
    (λ (y : Done). done (one (f (tree_at (made a) u) (tree_at (made a) v) (the_tree at y.trees))) y.state))
node_last_of a b c u v new r at x f h k m q s = record {
  grown = grown_trans a b c m.grown (grown_by b c q.grows (ap (λ (z : State). z.ctx.labels) s));
  within = q.within;
  is = ap (λ (z : Result Done ElabFault). and_then z (λ (y : Done). done
      (one (f (tree_at (made a) u) (tree_at (made a) v) (the_tree at y.trees))) y.state)) m.is
      ∙ ap (λ (z : Tree). done (one (f z (tree_at (made a) v) (tree_at (made b) new))) (state_of b)) (sym (stays a b u m.grown h))
      ∙ ap (λ (z : Tree). done (one (f (tree_at (made b) u) z (tree_at (made b) new))) (state_of b)) (sym (stays a b v m.grown k))
      ∙ ap (λ (z : Tree). done (one z) (state_of b)) (sym q.is) ∙ ap (λ (z : State). done (one (tree_at (made c) r)) z) (sym s);
}

-- over trees that stood there and one that was made
pub node_after_all : (a b c : StateRec) (ids : List TNodeId) (u v new r : TNodeId) (at : At) (x : Result Done ElabFault) (f : Trees → Tree → Tree → Tree → Tree)
    → are_within (length (made a)) ids ≡ true → u.0 < length (made a) → v.0 < length (made a) → OneDone a b new x
    → Adds (made b) (made c) r (f (trees_at (made b) ids) (tree_at (made b) u) (tree_at (made b) new) (tree_at (made b) v)) → state_of c ≡ state_of b
    → OneDone a c r (and_then x (λ (y : Done). done (one (f (trees_at (made a) ids) (tree_at (made a) u) (the_tree at y.trees) (tree_at (made a) v))) y.state))
node_after_all a b c ids u v new r at x f w h k m q s = record {
  grown = grown_trans a b c m.grown (grown_by b c q.grows (ap (λ (z : State). z.ctx.labels) s));
  within = q.within;
  is = ap (λ (z : Result Done ElabFault). and_then z (λ (y : Done). done
      (one (f (trees_at (made a) ids) (tree_at (made a) u) (the_tree at y.trees) (tree_at (made a) v))) y.state)) m.is
      ∙ ap (λ (z : Trees). done (one (f z (tree_at (made a) u) (tree_at (made b) new) (tree_at (made a) v))) (state_of b)) (sym (all_stay a b ids m.grown w))
      ∙ ap (λ (z : Tree). done (one (f (trees_at (made b) ids) z (tree_at (made b) new) (tree_at (made a) v))) (state_of b)) (sym (stays a b u m.grown h))
      ∙ ap (λ (z : Tree). done (one (f (trees_at (made b) ids) (tree_at (made b) u) (tree_at (made b) new) z)) (state_of b)) (sym (stays a b v m.grown k))
      ∙ ap (λ (z : Tree). done (one z) (state_of b)) (sym q.is) ∙ ap (λ (z : State). done (one (tree_at (made c) r)) z) (sym s);
}

-- over one that stood there and the trees of a list that was made
pub node_before_all : (a b c : StateRec) (before list : List TNodeId) (old r : TNodeId) (x : Result Done ElabFault) (f : Tree → Trees → Tree)
    → old.0 < length (made a) → before ≡ [] → AllDone a b before list x → Adds (made b) (made c) r (f (tree_at (made b) old) (trees_at (made b) list))
    → state_of c ≡ state_of b → OneDone a c r (and_then x (λ (y : Done). done (one (f (tree_at (made a) old) y.trees)) y.state))
node_before_all a b c before list old r x f h e m q s = record {
  grown = grown_trans a b c m.grown (grown_by b c q.grows (ap (λ (z : State). z.ctx.labels) s));
  within = q.within;
  is = ap (λ (z : Result Done ElabFault). and_then z (λ (y : Done). done (one (f (tree_at (made a) old) y.trees)) y.state)) (all_is a b before list x e m)
      ∙ ap (λ (z : Tree). done (one (f z (trees_at (made b) list))) (state_of b)) (sym (stays a b old m.grown h))
      ∙ ap (λ (z : Tree). done (one z) (state_of b)) (sym q.is) ∙ ap (λ (z : State). done (one (tree_at (made c) r)) z) (sym s);
}

-- Bodies and parts

body_is : (lams : Lambdas) (s : List Lexeme) (st : State) (x : syntax.Tree) (kind : NodeKind) (p : SyntaxAt) (at : At) (token : Option ℕ) (us ds : syntax.Trees)
    → x ≡ syntax.node kind p token us → ds ≡ us → at ≡ at_of p
    → body_of lams s st x ≡ and_then (statements_of lams s st ds) (λ (d : Done). done (one (block at d.trees)) d.state)
body_is lams s st x kind p at token us ds e f n = ap (body_of lams s st) e
    ∙ ap (λ (z : syntax.Trees). and_then (statements_of lams s st z) (λ (d : Done). done (one (block (at_of p) d.trees)) d.state)) (sym f)
    ∙ ap (λ (z : At). and_then (statements_of lams s st ds) (λ (d : Done). done (one (block z d.trees)) d.state)) (sym n)

pub body_row : (lams : Lambdas) (s : List Lexeme) (st : State) (x : syntax.Tree) (kind : NodeKind) (p : SyntaxAt) (at : At) (token : Option ℕ)
    (us ds : syntax.Trees) → x ≡ syntax.node kind p token us → ds ≡ us → at ≡ at_of p
    → body_of lams s st x ≡ and_then (statements_of lams s st ds) (λ (d : Done). done (one (block at d.trees)) d.state)
body_row lams s st x kind p at token us ds e f n = body_is lams s st x kind p at token us ds e f n

pub body_fails : (lams : Lambdas) (s : List Lexeme) (st : State) (x : syntax.Tree) (kind : NodeKind) (p : SyntaxAt) (token : Option ℕ) (us ds : syntax.Trees)
    (f : ElabFault) → x ≡ syntax.node kind p token us → ds ≡ us → Faults f (statements_of lams s st ds) → Faults f (body_of lams s st x)
body_fails lams s st x kind p token us ds f e g h = faults_then f (statements_of lams s st ds) (λ (d : Done). done (one (block (at_of p) d.trees)) d.state) _
    (body_is lams s st x kind p (at_of p) token us ds e g refl) h

pub part_row : (lams : Lambdas) (s : List Lexeme) (st : State) (at : At) (x : syntax.Tree)
    → part_of lams s st at x ≡ and_then (statement_of lams s st x) (one_part s at x)
part_row lams s st at x = then_then (statement_of lams s st x) (a_part s x) (λ (y : Done). done (one (the_tree at y.trees)) y.state)

pub part_made : (lams : Lambdas) (s : List Lexeme) (a b c : StateRec) (before list : List TNodeId) (r : TNodeId) (at : At) (x : syntax.Tree) → before ≡ []
    → AllDone a b before list (statement_of lams s (state_of a) x)
    → OneDone b c r (one_part s at x (record { trees = trees_at (made b) list; state = state_of b })) → OneDone a c r (part_of lams s (state_of a) at x)
part_made lams s a b c before list r at x e m n = record {
  grown = grown_trans a b c m.grown n.grown;
  within = n.within;
  is = part_row lams s (state_of a) at x ∙ ap (λ (z : Result Done ElabFault). and_then z (one_part s at x))
      (all_is a b before list (statement_of lams s (state_of a) x) e m) ∙ n.is;
}

-- Blocks of transactions

guarded_then : (x : Result Done ElabFault) (at q : At) (kind : TKind) (st : State)
    → and_then (and_then x (λ (d : Done). done (one (block q d.trees)) d.state)) (λ (d : Done). done (one (statement kind at d.trees)) (outer st d.state))
    ≡ and_then (and_then (and_then x (λ (d : Done). done (one (block q d.trees)) d.state)) (back st))
    (λ (d : Done). done (one (statement kind at (one (the_tree at d.trees)))) d.state)
guarded_then (Ok d) at q kind st = refl
guarded_then (Err e) at q kind st = refl

pub guarded_row : (lams : Lambdas) (s : List Lexeme) (st : State) (at : At) (kind : TKind) (x : syntax.Tree)
    → guarded lams s st at kind x ≡ and_then (and_then (body_of lams s (in_block st) x) (back st))
    (λ (d : Done). done (one (statement kind at (one (the_tree at d.trees)))) d.state)
guarded_row lams s st at kind (syntax.node m q token kids) = guarded_then (statements_of lams s (in_block st) kids) at (at_of q) kind st

-- `switch`

inside_is : (lams : Lambdas) (s : List Lexeme) (st : State) (x : syntax.Tree) (kind : NodeKind) (p : SyntaxAt) (token : Option ℕ) (us ds : syntax.Trees)
    → x ≡ syntax.node kind p token us → ds ≡ us → switch_inside lams s st x ≡ statements_of lams s st ds
inside_is lams s st x kind p token us ds e f = ap (switch_inside lams s st) e ∙ ap (statements_of lams s st) (sym f)

pub switch_made : (lams : Lambdas) (s : List Lexeme) (a b c d e : StateRec) (at : At) (value r : TNodeId) (t : Typ) (before list : List TNodeId) (l : Labels)
    (m : Mark) (x : syntax.Tree) (kind : NodeKind) (p : SyntaxAt) (token : Option ℕ) (us ds : syntax.Trees) → value.0 < length (made a)
    → x ≡ syntax.node kind p token us → ds ≡ us → made b ≡ made a → state_of b ≡ in_switch (state_of a) t → before ≡ []
    → AllDone b c before list (statements_of lams s (state_of b) ds) → m ≡ mark_in (ctx_of a.env) → l ≡ (ctx_of a.env).labels
    → state_of d ≡ record (state_of c) { ctx = record (closed (ctx_of c.env)) { label = m.label; labels = l; breaks = m.breaks; continues = m.continues } }
    → made d ≡ made c → Adds (made d) (made e) r (statement forms.Switch at (more (tree_at (made d) value) (trees_at (made d) list))) → state_of e ≡ state_of d
    → OneDone a e r (switch_body lams s at (record { value = tree_at (made a) value; typ = t; state = state_of a }) x)
switch_made lams s a b c d e at value r t before list l m x kind p token us ds h ex f g st q n k lk sd gd w se =
    let v : Switched = record { value = tree_at (made a) value; typ = t; state = state_of a } in
    let after : Done → Result Done ElabFault = λ y. done (one (statement forms.Switch at (more v.value y.trees))) (outer (state_of a) y.state) in
    let all : statements_of lams s (state_of b) ds ≡ done (trees_at (made c) list) (state_of c) = all_is b c before list _ q n in
    let back_there : state_of d ≡ outer (state_of a) (state_of c) = sd
    ∙ ap (λ (z : Mark). record (state_of c) {
      ctx =
          record (closed (ctx_of c.env)) { label = z.label; labels = l; breaks = z.breaks; continues = z.continues };
    }) k
    ∙ ap (λ (z : Labels). record (state_of c) {
      ctx =
          record (closed (ctx_of c.env)) {
            label = (ctx_of a.env).label;
            labels = z;
            breaks = (ctx_of a.env).breaks;
            continues =
                (ctx_of a.env).continues;
          };
    }) lk in
    let grows : Grows (made a) (made d) = subst (λ (z : List Tree). Grows (made a) z) (sym gd)
    (grows_trans (subst (λ (z : List Tree). Grows (made a) z) (sym g) (grows_refl (made a))) n.grown.trees) in
    let first : tree_at (made d) value ≡ tree_at (made a) value = at_grown (made a) (made d) value grows h in
    let rest : trees_at (made d) list ≡ trees_at (made c) list = ap (λ (z : List Tree). trees_at z list) gd in
    record {
      grown = grown_by a e (grows_trans grows w.grows) (ap (λ (z : State). z.ctx.labels) (se ∙ back_there));
      within = w.within;
      is = ap (λ (z : Result Done ElabFault). and_then z after)
          (inside_is lams s (in_switch (state_of a) t) x kind p token us ds ex f ∙ ap (λ (z : State). statements_of lams s z ds) (sym st) ∙ all)
          ∙ ap (λ (z : State). done (one (statement forms.Switch at (more (tree_at (made a) value) (trees_at (made c) list)))) z) (sym (se ∙ back_there))
          ∙ ap (λ (z : Tree). done (one (statement forms.Switch at (more z (trees_at (made c) list)))) (state_of e)) (sym first)
          ∙ ap (λ (z : Trees). done (one (statement forms.Switch at (more (tree_at (made d) value) z))) (state_of e)) (sym rest)
          ∙ ap (λ (z : Tree). done (one z) (state_of e)) (sym w.is);
    }

pub switch_fails : (lams : Lambdas) (s : List Lexeme) (a b : StateRec) (at : At) (value : Tree) (t : Typ) (x : syntax.Tree) (kind : NodeKind) (p : SyntaxAt)
    (token : Option ℕ) (us ds : syntax.Trees) (f : ElabFault) → x ≡ syntax.node kind p token us → ds ≡ us → state_of b ≡ in_switch (state_of a) t
    → Faults f (statements_of lams s (state_of b) ds) → Faults f (switch_body lams s at (record { value = value; typ = t; state = state_of a }) x)
switch_fails lams s a b at value t x kind p token us ds f e g st h =
    faults_then f (statements_of lams s (state_of b) ds)
    (λ (y : Done). done (one (statement forms.Switch at (more value y.trees))) (outer (state_of a) y.state)) _
    (ap (λ (z : Result Done ElabFault). and_then z (λ (y : Done). done (one (statement forms.Switch at (more value y.trees))) (outer (state_of a) y.state)))
    (inside_is lams s (in_switch (state_of a) t) x kind p token us ds e g ∙ ap (λ (z : State). statements_of lams s z ds) (sym st))) h

pub switched_then : (lams : Lambdas) (s : List Lexeme) (a b c : StateRec) (at : At) (found : SwitchedOn) (value : TNodeId) (t : Typ)
    (r : Result TNodeId ElabFault) (y u : syntax.Tree) → SwitchedAt a b found (switched lams s (state_of a) y) → value ≡ found.value → t ≡ typ_of found.ty
    → Does b c r (switch_body lams s at (record { value = tree_at (made b) value; typ = t; state = state_of b }) u)
    → Does a c r (and_then (switched lams s (state_of a) y) (λ (d : Switched). switch_body lams s at d u))
switched_then lams s a b c at found value t r y u m q n h = does_grown a b c r _ _ m.grown
    (ap (λ (z : Result Switched ElabFault). and_then z (λ (d : Switched). switch_body lams s at d u)) m.is
    ∙ ap (λ (z : TNodeId). switch_body lams s at (record { value = tree_at (made b) z; typ = typ_of found.ty; state = state_of b }) u) (sym q)
    ∙ ap (λ (z : Typ). switch_body lams s at (record { value = tree_at (made b) value; typ = z; state = state_of b }) u) (sym n)) h

-- Handlers

pub caught_then : (lams : Lambdas) (s : List Lexeme) (a b c : StateRec) (at : At) (found : CaughtRec) (r : Result TNodeId ElabFault) (x u : syntax.Tree)
    → CaughtAt a b found (handler_type s (state_of a) at x)
    → Does b c r (handler_body lams s (record {
      state = state_of b;
      typ = typ_of found.ty;
      place = found.place;
      fields = trees_at
          (made b) found.fields.items;
    }) at u) → Does a c r (handler_inside lams s (state_of a) at x u)
caught_then lams s a b c at found r x u m h = does_grown a b c r _ _ m.grown
    (ap (λ (z : Result Caught ElabFault). and_then z (λ (d : Caught). handler_body lams s d at u)) m.is) h

pub handler_made : (lams : Lambdas) (s : List Lexeme) (a b c : StateRec) (at : At) (inside r : TNodeId) (place : Option ℕ) (t : Typ) (fields : List TNodeId)
    (u : syntax.Tree) → are_within (length (made a)) fields ≡ true → OneDone a b inside (body_of lams s (state_of a) u)
    → Adds (made b) (made c) r (handler_node at place t (tree_at (made b) inside) (trees_at (made b) fields)) → state_of c ≡ state_of b
    → OneDone a c r (handler_body lams s (record { state = state_of a; typ = t; place = place; fields = trees_at (made a) fields }) at u)
handler_made lams s a b c at inside r place t fields u w m q st = record {
  grown = grown_trans a b c m.grown (grown_by b c q.grows (ap (λ (z : State). z.ctx.labels) st));
  within = q.within;
  is = ap (λ (z : Result Done ElabFault). and_then z (λ (d : Done). done
      (one (handler_node at place t (the_tree at d.trees) (trees_at (made a) fields))) d.state)) m.is
      ∙ ap (λ (z : Trees). done (one (handler_node at place t (tree_at (made b) inside) z)) (state_of b)) (sym (all_stay a b fields m.grown w))
      ∙ ap (λ (z : Tree). done (one z) (state_of b)) (sym q.is) ∙ ap (λ (z : State). done (one (tree_at (made c) r)) z) (sym st);
}

pub one_same : (a c : StateRec) (r : TNodeId) (x y : Result Done ElabFault) → y ≡ x → OneDone a c r x → OneDone a c r y
one_same a c r x y e m = subst (λ (z : Result Done ElabFault). OneDone a c r z) (sym e) m

pub one_made : (a c : StateRec) (r : TNodeId) (t : Tree) → Adds (made a) (made c) r t → state_of c ≡ state_of a → OneDone a c r (done (one t) (state_of a))
one_made a c r t m e = record {
  grown = grown_by a c m.grows (ap (λ (z : State). z.ctx.labels) e);
  within = m.within;
  is = ap
      (λ (z : Tree). done (one z) (state_of a)) (sym m.is) ∙ ap (λ (z : State). done (one (tree_at (made c) r)) z) (sym e);
}
