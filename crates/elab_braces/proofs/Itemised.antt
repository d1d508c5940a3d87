-- Items in braces, one behind the other.
use Rattle.std.proofs.Common.{◌≡◌, ◌≢◌, ◌<◌, ◌≤◌, ℕ, suc, ◌+◌, Ok, Err, Result, Option, Some, None, option_map, List, ◌∷◌, [], ◌++◌, length, drop, get_or, refl}
use Rattle.std.proofs.Common.{ap, sym, ◌∙◌, subst, add-one}
use Rattle.elab_expr.specs.cpp_types.Typ.{Typ}
use Rattle.elab_expr.specs.cpp_types.declared.classes.At.{At}
use Rattle.elab_expr.specs.cpp_lex.Tokens.{Lexeme}
use Rattle.elab_expr.specs.cpp_ast.declared.arena.NodeId.{NodeId}
use Rattle.elab_expr.specs.cpp_ast.declared.arena.At.{At as SyntaxAt}
use Rattle.elab_expr.specs.cpp_ast.declared.kinds.NodeKind.{NodeKind}
use Rattle.elab_expr.specs.cpp_ast.declared.kinds.NodeKind.TheVariants as k
use Rattle.elab_expr.specs.cpp_ast.Trees as syntax
use Rattle.elab_expr.specs.cpp_tree.declared.faults.ElabFault.{ElabFault}
use Rattle.elab_expr.specs.cpp_tree.declared.faults.ElabFault.TheVariants.{Ill}
use Rattle.elab_expr.specs.cpp_tree.declared.faults.IllRule.TheVariants.{BadInit}
use Rattle.elab_expr.specs.cpp_tree.declared.arena.TNodeId.{TNodeId}
use Rattle.elab_expr.specs.cpp_tree.Trees.{Tree}
use Rattle.elab_expr.specs.cpp_tree.Arena.{tree_at, Adds}
use Rattle.elab_expr.specs.cpp_tree.Typing.{form_in}
use Rattle.elab_expr.specs.elab_ctx.Ctx.{Ctx, Work}
use Rattle.elab_expr.specs.elab_ctx.Steps.{and_then, expect, at_of, Made, MadeAll}
use Rattle.elab_expr.specs.elab_ctx.Says.{Faults, MadeAt, Makes, AllMade, place_in}
use Rattle.elab_expr.proofs.elab_ctx.Looks.{at_grown, grows_trans}
use Rattle.elab_expr.proofs.elab_ctx.Making.{faults_in, faults_same}
use Rattle.elab_expr.specs.elab_rules.Objects.{Part}
use Rattle.elab_expr.specs.elab_rules.Values.{part_at}
use Rattle.elab_expr.specs.elab_rules.Expressions.{expression_of, chosen_operand}
use Rattle.elab_expr.specs.elab_rules.Braces.{item_of, items_of, piece, part_in, tree_place, with_piece, syntax_place, rest_in, item_expression, string_token}
use Rattle.elab_expr.specs.elab_init.Parts.{part_of}
use Rattle.elab_expr.specs.elab_init.declared.parts.ObjectPart.{ObjectPart}
use Rattle.elab_expr.proofs.elab_init.Listing.{drop_step, drop_past}
use Rattle.elab_expr.specs.elab_types.Syntax as nodes
use Rattle.elab_aggregates.proofs.Aggregated.{place_is}
use Rattle.elab_aggregates.proofs.Making.{Making, then_rest, making_step, making_fails, making_last, making_last_fails}
use Rattle.elab_braces.specs.ItemPieces.{item_piece, placed_item, braced}

-- One item

pub item_braced : (s : List Lexeme) (c : Ctx) (w v : Work) (object : Tree) (t : Typ) (x : syntax.Tree) (kind : NodeKind) (p : SyntaxAt) (token : _)
    (kids es : syntax.Trees) (at : At) (old new : List Tree) (r : Result TNodeId ElabFault) → x ≡ syntax.node kind p token kids → kind ≡ k.BracedInitList
    → at ≡ at_of p → es ≡ kids → Makes old new v r (braced s c w object t at es) → Makes old new v r (item_of s c w object t x)
item_braced s c w v object t x kind p token kids es at old new r e f g h m =
    let here : Makes old new v r (braced s c w object t (at_of p) kids) =
    subst (λ (z : syntax.Trees). Makes old new v r (braced s c w object t (at_of p) z)) h
    (subst (λ (z : At). Makes old new v r (braced s c w object t z es)) g m) in
    subst (λ (z : syntax.Tree). Makes old new v r (item_of s c w object t z)) (sym (e ∙ ap (λ (z : NodeKind). syntax.node z p token kids) f)) here

plain_is : (s : List Lexeme) (c : Ctx) (w : Work) (object : Tree) (t : Typ) (kind : NodeKind) (p : SyntaxAt) (token : _) (kids : syntax.Trees)
    → kind ≢ k.BracedInitList → item_of s c w object t (syntax.node kind p token kids)
    ≡ item_expression s c w t (string_token (syntax.node kind p token kids)) (at_of p)
    (and_then (expression_of s c w (syntax.node kind p token kids)) (chosen_operand c))
plain_is s c w object t k.BracedInitList p token kids n = absurd (n refl)
plain_is s c w object t kind p token kids n = refl

pub item_plain : (s : List Lexeme) (c : Ctx) (w v : Work) (object : Tree) (t : Typ) (x : syntax.Tree) (kind : NodeKind) (p : SyntaxAt) (token : _)
    (kids : syntax.Trees) (old new : List Tree) (r : Result TNodeId ElabFault) → x ≡ syntax.node kind p token kids → kind ≢ k.BracedInitList
    → Makes old new v r (item_expression s c w t (string_token x) (syntax_place x) (and_then (expression_of s c w x) (chosen_operand c)))
    → Makes old new v r (item_of s c w object t x)
item_plain s c w v object t x kind p token kids old new r e n m =
    let here : Makes old new v r (item_expression s c w t (string_token (syntax.node kind p token kids)) (at_of p)
    (and_then (expression_of s c w (syntax.node kind p token kids)) (chosen_operand c))) =
    subst (λ (z : syntax.Tree). Makes old new v r
    (item_expression s c w t (string_token z) (syntax_place z) (and_then (expression_of s c w z) (chosen_operand c)))) e m in
    subst (λ (z : syntax.Tree). Makes old new v r (item_of s c w object t z)) (sym e)
    (subst (λ (z : Result Made ElabFault). Makes old new v r z) (sym (plain_is s c w object t kind p token kids n)) here)

-- An item as a part

placed_item_is : (c : Ctx) (w : Work) (offset : ℕ) (t : Typ) (at : At) (e : Tree) → place_in e ≡ at
    → ◌≡◌ {A = Result Made ElabFault} (Ok (record { tree = piece c offset t (tree_place e) e; work = w }))
    (Ok (record { tree = piece c offset t at e; work = w }))
placed_item_is c w offset t at e h = ap (λ (z : At). Ok (record { tree = piece c offset t z e; work = w })) (place_is e ∙ h)

target_is : (s : List Lexeme) (c : Ctx) (w : Work) (object : Tree) (at : At) (p : Part) (u : Typ) (x : syntax.Tree) (old a : List Tree) (target : TNodeId)
    → Adds old a target (part_at p.offset u at object) → u ≡ p.typ
    → placed_item s c w object at p x ≡ and_then (item_of s c w (tree_at a target) p.typ x)
    (λ (m : Made). Ok (record { tree = piece c p.offset p.typ (tree_place m.tree) m.tree; work = m.work }))
target_is s c w object at p u x old a target d e = ap
    (λ (z : Tree). and_then (item_of s c w z p.typ x) (λ (m : Made). Ok (record { tree = piece c p.offset p.typ (tree_place m.tree) m.tree; work = m.work })))
    (sym (d.is ∙ ap (λ (z : Typ). part_at p.offset z at object) e))

pub placed_made : (s : List Lexeme) (c : Ctx) (w v : Work) (object : Tree) (at q : At) (p : Part) (u : Typ) (x : syntax.Tree) (old a b new : List Tree)
    (target init made : TNodeId) → Adds old a target (part_at p.offset u at object) → u ≡ p.typ → MadeAt a b v init (item_of s c w (tree_at a target) p.typ x)
    → Adds b new made (piece c p.offset p.typ q (tree_at b init)) → place_in (tree_at b init) ≡ q → MadeAt old new v made (placed_item s c w object at p x)
placed_made s c w v object at q p u x old a b new target init made d e m k h = record {
  grows = grows_trans d.grows (grows_trans m.grows k.grows);
  within = k.within;
  is = target_is s c w object at p u x old a target d e
      ∙ ap (λ (z : Result Made ElabFault). and_then z
      (λ (y : Made). Ok (record { tree = piece c p.offset p.typ (tree_place y.tree) y.tree; work = y.work }))) m.is
      ∙ placed_item_is c v p.offset p.typ q (tree_at b init) h ∙ ap (λ (z : Tree). Ok (record { tree = z; work = v })) (sym k.is);
}

pub placed_fails : (s : List Lexeme) (c : Ctx) (w : Work) (object : Tree) (at : At) (p : Part) (u : Typ) (x : syntax.Tree) (old a : List Tree)
    (target : TNodeId) (f : ElabFault) → Adds old a target (part_at p.offset u at object) → u ≡ p.typ → Faults f (item_of s c w (tree_at a target) p.typ x)
    → Faults f (placed_item s c w object at p x)
placed_fails s c w object at p u x old a target f d e h =
    faults_same f _ _ (target_is s c w object at p u x old a target d e)
    (faults_in (λ (z : Result Made ElabFault). and_then z
    (λ (y : Made). Ok (record { tree = piece c p.offset p.typ (tree_place y.tree) y.tree; work = y.work }))) f _ (λ g. refl) h)

pub part_makes : (s : List Lexeme) (c : Ctx) (w v : Work) (object : Tree) (t : Typ) (i : ℕ) (at : At) (x : syntax.Tree) (p : Part) (old new : List Tree)
    (r : Result TNodeId ElabFault) → Some p ≡ part_in c t (form_in t) i → Makes old new v r (placed_item s c w object at p x)
    → Makes old new v r (item_piece s c w object t i at x)
part_makes s c w v object t i at x p old new r e m = subst
    (λ (z : Option Part). Makes old new v r (and_then (expect (syntax_place x) BadInit z) (λ (y : Part). placed_item s c w object at y x))) e m

none_is : (v : Option ObjectPart) → ((y : ObjectPart) → v ≢ Some y) → v ≡ None
none_is None n = refl
none_is (Some y) n = absurd (n y refl)

no_part_is : (s : List Lexeme) (c : Ctx) (w : Work) (object : Tree) (t : Typ) (i : ℕ) (at : At) (x : syntax.Tree) (kind : NodeKind) (p : SyntaxAt) (token : _)
    (kids : syntax.Trees) → x ≡ syntax.node kind p token kids → None ≡ part_in c t (form_in t) i
    → item_piece s c w object t i at x ≡ Err (Ill (at_of p) BadInit)
no_part_is s c w object t i at x kind p token kids e h =
    ap (λ (z : Option Part). and_then (expect (syntax_place x) BadInit z) (λ (y : Part). placed_item s c w object at y x)) (sym h)
    ∙ ap (λ (z : syntax.Tree). Err (Ill (syntax_place z) BadInit)) e

pub no_part : (s : List Lexeme) (c : Ctx) (w : Work) (object : Tree) (t : Typ) (i : ℕ) (at : At) (x : syntax.Tree) (kind : NodeKind) (p : SyntaxAt) (token : _)
    (kids : syntax.Trees) (v : Option ObjectPart) (f : ElabFault) (q : At) → x ≡ syntax.node kind p token kids → ((y : ObjectPart) → v ≢ Some y)
    → option_map part_of v ≡ part_in c t (form_in t) i → f ≡ Ill q BadInit → q ≡ at_of p → Faults f (item_piece s c w object t i at x)
no_part s c w object t i at x kind p token kids v f q e n h g k =
    let is : item_piece s c w object t i at x ≡ Err (Ill (at_of p) BadInit) =
    no_part_is s c w object t i at x kind p token kids e (sym (ap (option_map part_of) (none_is v n)) ∙ h) in
    subst (λ (z : ElabFault). Faults z (item_piece s c w object t i at x)) (sym (g ∙ ap (λ (z : At). Ill z BadInit) k)) is

-- The first item, then the rest

placed_then : (s : List Lexeme) (c : Ctx) (w : Work) (object : Tree) (t : Typ) (i : ℕ) (at : At) (ts : syntax.Trees) (p : Part) (m : Result Made ElabFault)
    → and_then m (λ (y : Made). with_piece c p.offset p.typ (tree_place y.tree) y (items_of s c y.work object t (suc i) at ts))
    ≡ and_then (and_then m (λ (y : Made). Ok (record { tree = piece c p.offset p.typ (tree_place y.tree) y.tree; work = y.work })))
    (λ (q : Made). then_rest q.tree (items_of s c q.work object t (suc i) at ts))
placed_then s c w object t i at ts p (Ok y) = refl
placed_then s c w object t i at ts p (Err e) = refl

item_from : (s : List Lexeme) (c : Ctx) (w : Work) (object : Tree) (t : Typ) (i : ℕ) (at : At) (x : syntax.Tree) (ts : syntax.Trees) (o : Result Part ElabFault)
    → and_then o (λ (p : Part). and_then (item_of s c w (part_at p.offset p.typ at object) p.typ x)
    (λ (y : Made). with_piece c p.offset p.typ (tree_place y.tree) y (items_of s c y.work object t (suc i) at ts)))
    ≡ and_then (and_then o (λ (p : Part). placed_item s c w object at p x)) (λ (q : Made). then_rest q.tree (items_of s c q.work object t (suc i) at ts))
item_from s c w object t i at x ts (Ok p) = placed_then s c w object t i at ts p (item_of s c w (part_at p.offset p.typ at object) p.typ x)
item_from s c w object t i at x ts (Err e) = refl

item_then : (s : List Lexeme) (c : Ctx) (w : Work) (object : Tree) (t : Typ) (i : ℕ) (at : At) (x : syntax.Tree) (ts : syntax.Trees)
    → items_of s c w object t i at (syntax.more x ts)
    ≡ and_then (item_piece s c w object t i at x) (λ (q : Made). then_rest q.tree (items_of s c q.work object t (i + 1) at ts))
item_then s c w object t i at x ts = rw (add-one i) (item_from s c w object t i at x ts (expect (syntax_place x) BadInit (part_in c t (form_in t) i)))

next_item : (s : List Lexeme) (c : Ctx) (w : Work) (object : Tree) (t : Typ) (i : ℕ) (at : At) (trees : List syntax.Tree) (ids : List NodeId) (id d : NodeId)
    → i < length ids → id ≡ get_or ids i d → items_of s c w object t i at (nodes.trees_at trees (drop i ids))
    ≡ and_then (item_piece s c w object t i at (nodes.tree_at trees id))
    (λ (q : Made). then_rest q.tree (items_of s c q.work object t (i + 1) at (nodes.trees_at trees (drop (i + 1) ids))))
next_item s c w object t i at trees ids id d h e = ap (λ (z : List NodeId). items_of s c w object t i at (nodes.trees_at trees z))
    (drop_step ids i d h ∙ ap (λ (z : NodeId). z ∷ drop (i + 1) ids) (sym e))
    ∙ item_then s c w object t i at (nodes.tree_at trees id) (nodes.trees_at trees (drop (i + 1) ids))

pub item_made : (s : List Lexeme) (c : Ctx) (w v : Work) (object : TNodeId) (t : Typ) (i : ℕ) (at : At) (trees : List syntax.Tree) (ids : List NodeId)
    (id d : NodeId) (old now new : List Tree) (list next : List TNodeId) (r : TNodeId) (total : Result MadeAll ElabFault)
    → Making old now list (items_of s c w (tree_at old object) t i at (nodes.trees_at trees (drop i ids))) total → object.0 < length old → i < length ids
    → id ≡ get_or ids i d → MadeAt now new v r (item_piece s c w (tree_at now object) t i at (nodes.tree_at trees id)) → next ≡ list ++ r ∷ []
    → Making old new next (items_of s c v (tree_at old object) t (i + 1) at (nodes.trees_at trees (drop (i + 1) ids))) total
item_made s c w v object t i at trees ids id d old now new list next r total a b h e m n =
    making_step old now new v list next r (item_piece s c w (tree_at old object) t i at (nodes.tree_at trees id))
    (λ (z : Work). items_of s c z (tree_at old object) t (i + 1) at (nodes.trees_at trees (drop (i + 1) ids))) _ total a
    (next_item s c w (tree_at old object) t i at trees ids id d h e)
    (subst (λ (z : Tree). MadeAt now new v r (item_piece s c w z t i at (nodes.tree_at trees id))) (at_grown old now object a.grows b) m) n

pub item_fails : (s : List Lexeme) (c : Ctx) (w : Work) (object : TNodeId) (t : Typ) (i : ℕ) (at : At) (trees : List syntax.Tree) (ids : List NodeId)
    (id d : NodeId) (old now : List Tree) (list : List TNodeId) (f : ElabFault) (total : Result MadeAll ElabFault)
    → Making old now list (items_of s c w (tree_at old object) t i at (nodes.trees_at trees (drop i ids))) total → object.0 < length old → i < length ids
    → id ≡ get_or ids i d → Faults f (item_piece s c w (tree_at now object) t i at (nodes.tree_at trees id)) → Faults f total
item_fails s c w object t i at trees ids id d old now list f total a b h e m =
    making_fails old now list f (item_piece s c w (tree_at old object) t i at (nodes.tree_at trees id))
    (λ (q : Made). then_rest q.tree (items_of s c q.work (tree_at old object) t (i + 1) at (nodes.trees_at trees (drop (i + 1) ids)))) _ total a
    (next_item s c w (tree_at old object) t i at trees ids id d h e)
    (subst (λ (z : Tree). Faults f (item_piece s c w z t i at (nodes.tree_at trees id))) (at_grown old now object a.grows b) m)

left_over : (s : List Lexeme) (c : Ctx) (w : Work) (object : Tree) (t : Typ) (i count : ℕ) (at : At) (trees : List syntax.Tree) (ids : List NodeId)
    → length ids ≤ i → i ≡ count → items_of s c w object t i at (nodes.trees_at trees (drop i ids)) ≡ rest_in c w at object t (form_in t) count
left_over s c w object t i count at trees ids h e = ap (λ (z : List NodeId). items_of s c w object t i at (nodes.trees_at trees z)) (drop_past ids i h)
    ∙ ap (rest_in c w at object t (form_in t)) e

pub items_done : (s : List Lexeme) (c : Ctx) (w v : Work) (object : TNodeId) (t : Typ) (i count : ℕ) (at : At) (trees : List syntax.Tree) (ids : List NodeId)
    (old now new : List Tree) (list others next : List TNodeId) (total : Result MadeAll ElabFault)
    → Making old now list (items_of s c w (tree_at old object) t i at (nodes.trees_at trees (drop i ids))) total → object.0 < length old → length ids ≤ i
    → i ≡ count → AllMade now new v others (rest_in c w at (tree_at now object) t (form_in t) count) → next ≡ list ++ others → AllMade old new v next total
items_done s c w v object t i count at trees ids old now new list others next total a b h e m n =
    making_last old now new v list others next (rest_in c w at (tree_at old object) t (form_in t) count) total
    (subst (λ (z : Result MadeAll ElabFault). Making old now list z total) (left_over s c w (tree_at old object) t i count at trees ids h e) a)
    (subst (λ (z : Tree). AllMade now new v others (rest_in c w at z t (form_in t) count)) (at_grown old now object a.grows b) m) n

pub rest_fails : (s : List Lexeme) (c : Ctx) (w : Work) (object : TNodeId) (t : Typ) (i count : ℕ) (at : At) (trees : List syntax.Tree) (ids : List NodeId)
    (old now : List Tree) (list : List TNodeId) (f : ElabFault) (total : Result MadeAll ElabFault)
    → Making old now list (items_of s c w (tree_at old object) t i at (nodes.trees_at trees (drop i ids))) total → object.0 < length old → length ids ≤ i
    → i ≡ count → Faults f (rest_in c w at (tree_at now object) t (form_in t) count) → Faults f total
rest_fails s c w object t i count at trees ids old now list f total a b h e m =
    making_last_fails old now list f (rest_in c w at (tree_at old object) t (form_in t) count) total
    (subst (λ (z : Result MadeAll ElabFault). Making old now list z total) (left_over s c w (tree_at old object) t i count at trees ids h e) a)
    (subst (λ (z : Tree). Faults f (rest_in c w at z t (form_in t) count)) (at_grown old now object a.grows b) m)
