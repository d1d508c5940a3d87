-- Derivations with the bodies of lambdas in their trees, and texts with the bodies kept apart.
--
-- bodies_in x h    : of a text with the bodies apart, and trees for them, the text with the bodies in its trees
-- bodies_apart x   : of a text with the bodies in its trees, the text with the bodies apart, and trees for them
use Rattle.std.proofs.Common.{◌≡◌, ℕ, zero, suc, ◌+◌, inl, inr, Bool, true, false, not, ◌&&◌, ◌||◌, refl, sym as back, ◌∙◌, ap, ap₂, arith, subst, List, []}
use Rattle.std.proofs.Common.{◌∷◌, ◌++◌, Option, Some, None, true≢false, append_assoc, append-nil}
use Rattle.std.proofs.lemmas.Bool.{and_parts, not-true, or_cases}
use Rattle.cpp_ast.specs.declared.arena.At.{At}
use Rattle.cpp_ast.specs.declared.kinds.NodeKind.{NodeKind}
use Rattle.cpp_ast.specs.declared.kinds.NodeKind.TheVariants as kind
use Rattle.cpp_ast.specs.Trees.{Tree, node, Trees}
use Rattle.cpp_syntax.specs.Source.{Source, terminal_at, position_at}
use Rattle.cpp_syntax.specs.Terminals.{open_brace, close_brace}
use Rattle.cpp_syntax.specs.Rules.{whole, by_shape, named, unnamed, either, in_block, qualified, plain, Nonterminal, primary_expression, lambda_expression}
use Rattle.cpp_syntax.specs.Rules.{lambda_introducer, lambda_declarator, functional_type, expression_list, postfix_expression, unary_expression}
use Rattle.cpp_syntax.specs.Rules.{cast_expression, binary_expression, conditional_expression, assignment_expression, expression, type_specifier}
use Rattle.cpp_syntax.specs.Rules.{type_specifier_seq, type_id, declarator, direct_declarator, parameter_declaration, parameter_declaration_clause}
use Rattle.cpp_syntax.specs.Rules.{function_qualifiers, balanced, braced_init_list, initializer, init_declarator, block_declaration, shaped_choice}
use Rattle.cpp_syntax.specs.Rules.{shaped_init_declarator, shaped_declaration, compound_statement, statement, for_init_statement, handler}
use Rattle.cpp_syntax.specs.Rules.{enumerator_definition, declaration_head, simple_declaration, constructor_declarator, destructor_declarator}
use Rattle.cpp_syntax.specs.Rules.{member_initializer, member_declarator, initialized_member, listed_member, member_declaration, declaration, translation_unit}
use Rattle.cpp_syntax.specs.Rules.{Lookahead, Rule, nothing, word, mark, mark_next, mark_name, ◌·◌, ◌∣◌, many, form, node_at, wrap, with_body, where_}
use Rattle.cpp_syntax.specs.Rules.{before_no, if_, unless}
use Rattle.cpp_syntax.specs.Grammar.{production}
use Rattle.cpp_syntax.specs.Derivations.{Body, Read, join, one_tree, no_read, and_then, first_or, token_of_name, positioned, position_of_first, reads_node}
use Rattle.cpp_syntax.specs.Derivations.{with_body_apart, Bodies, in_trees, kept_apart, Derives, is_nothing, is_word, is_mark, is_mark_next, is_mark_name}
use Rattle.cpp_syntax.specs.Derivations.{is_both, is_left, is_right, is_last, is_more, is_form, is_node, is_wrap, is_kept_apart, is_in_tree, is_where}
use Rattle.cpp_syntax.specs.Derivations.{is_before, is_if, is_unless}
use Rattle.cpp_syntax.specs.View.{is_lambda}
use Rattle.cpp_syntax.specs.Balance.{Balanced}
use Rattle.cpp_syntax.proofs.IndependentDerivations.{free}
use Rattle.cpp_syntax.proofs.Balances.{run_text}
use Rattle.cpp_syntax.proofs.BalancedDerivations.{text_balanced}
use Rattle.cpp_syntax.specs.WithBodies.{FilledTree, no_body, a_body, Filled, no_trees, HasBody, HaveBodies, no_bodies, more_bodies}
use Rattle.cpp_syntax.proofs.WithBodies.{filled_join, filled_one, declared_in_same, positioned_same, first_position_same}

nothing_more : {A : Type 0} {x : A} {xs : List A} → [] ≡ x ∷ xs → ⊥
nothing_more e = cc

same_head : {A : Type 0} {x y : A} {xs ys : List A} → x ∷ xs ≡ y ∷ ys → x ≡ y
same_head e = cc

same_rest : {A : Type 0} {x y : A} {xs ys : List A} → x ∷ xs ≡ y ∷ ys → xs ≡ ys
same_rest e = cc

have_none : {lookahead : Lookahead → ℕ → Type 0} {source : Source} {bs : List Body} {hs : List Tree} → HaveBodies lookahead source bs hs → bs ≡ [] → hs ≡ []
have_none (no_bodies e f) g = f
have_none (more_bodies b f x y g h) i = absurd (nothing_more (back i ∙ g))

-- the bodies of a list in two parts
record Parted (lookahead : Lookahead → ℕ → Type 0) (source : Source) (bs cs : List Body) (hs : List Tree) : Type 0 where
  left : List Tree
  right : List Tree
  both : hs ≡ left ++ right
  lefts : HaveBodies lookahead source bs left
  rights : HaveBodies lookahead source cs right

parted : {lookahead : Lookahead → ℕ → Type 0} {source : Source} (bs cs : List Body) {ds : List Body} {hs : List Tree} → ds ≡ bs ++ cs
    → HaveBodies lookahead source ds hs → Parted lookahead source bs cs hs
parted {lookahead = lookahead} {source = source} [] cs {hs = hs} e x =
    record {
      left = [];
      right = hs;
      both = refl;
      lefts = no_bodies refl refl;
      rights = subst (λ (z : List Body). HaveBodies lookahead source z hs) e
          x;
    }
parted (b ∷ bs) cs e (no_bodies f g) = absurd (nothing_more (back f ∙ e))
parted {lookahead = lookahead} {source = source} (b ∷ bs) cs e (more_bodies b' f x y g h) =
    let i = back g ∙ e in
    let z = parted bs cs (same_rest i) y in
    record {
      left = f ∷ z.left;
      right = z.right;
      both = h ∙ ap (λ (w : List Tree). f ∷ w) z.both;
      lefts = more_bodies b f
          (subst (λ (w : Body). HasBody lookahead source w f) (same_head i) x) z.lefts refl refl;
      rights = z.rights;
    }

have_both : {lookahead : Lookahead → ℕ → Type 0} {source : Source} {bs cs : List Body} {fs gs : List Tree} → HaveBodies lookahead source bs fs
    → HaveBodies lookahead source cs gs → HaveBodies lookahead source (bs ++ cs) (fs ++ gs)
have_both {lookahead = lookahead} {source = source} {cs = cs} {gs = gs} (no_bodies {fs = fs} e f) y =
    subst (λ (z : List Body). HaveBodies lookahead source (z ++ cs) (fs ++ gs)) (back e)
    (subst (λ (z : List Tree). HaveBodies lookahead source cs (z ++ gs)) (back f) y)
have_both {cs = cs} {gs = gs} (more_bodies b f x y g h) z =
    more_bodies b f x (have_both y z) (ap (λ (w : List Body). w ++ cs) g) (ap (λ (w : List Tree). w ++ gs) h)

one_body : {lookahead : Lookahead → ℕ → Type 0} {source : Source} (b : Body) (f : Tree) → HasBody lookahead source b f
    → HaveBodies lookahead source (b ∷ []) (f ∷ [])
one_body b f x = more_bodies b f x (no_bodies refl refl) refl refl

-- Nodes of lambdas have bodies, and no others, and such a node has a token.

abbrev is_marked : Rule → Bool
is_marked (mark test) = true
is_marked mark_next = true
is_marked (p · q) = is_marked p || is_marked q
is_marked _ = false

abbrev pub kinds_right : Rule → Bool
kinds_right (p · q) = kinds_right p && kinds_right q
kinds_right (p ∣ q) = kinds_right p && kinds_right q
kinds_right (many p) = kinds_right p
kinds_right (node_at positioning kind p) = not (is_lambda kind) && kinds_right p
kinds_right (wrap kind p) = not (is_lambda kind) && kinds_right p
kinds_right (with_body kind p) = (is_lambda kind && is_marked p) && kinds_right p
kinds_right (where_ test p) = kinds_right p
kinds_right (before_no test p) = kinds_right p
kinds_right (if_ look p) = kinds_right p
kinds_right (unless look p) = kinds_right p
kinds_right nothing = true
kinds_right (word test) = true
kinds_right (mark test) = true
kinds_right mark_next = true
kinds_right mark_name = true
kinds_right (form f) = true

kinds_hold : (f : Nonterminal) → kinds_right (production f) ≡ true
kinds_hold primary_expression = refl
kinds_hold lambda_expression = refl
kinds_hold lambda_introducer = refl
kinds_hold lambda_declarator = refl
kinds_hold functional_type = refl
kinds_hold expression_list = refl
kinds_hold postfix_expression = refl
kinds_hold unary_expression = refl
kinds_hold cast_expression = refl
kinds_hold (binary_expression zero) = refl
kinds_hold (binary_expression (suc n)) = refl
kinds_hold conditional_expression = refl
kinds_hold assignment_expression = refl
kinds_hold expression = refl
kinds_hold (type_specifier whole) = refl
kinds_hold (type_specifier by_shape) = refl
kinds_hold (type_specifier_seq whole) = refl
kinds_hold (type_specifier_seq by_shape) = refl
kinds_hold (type_id whole) = refl
kinds_hold (type_id by_shape) = refl
kinds_hold (declarator whole named) = refl
kinds_hold (declarator whole unnamed) = refl
kinds_hold (declarator whole either) = refl
kinds_hold (declarator whole in_block) = refl
kinds_hold (declarator by_shape named) = refl
kinds_hold (declarator by_shape unnamed) = refl
kinds_hold (declarator by_shape either) = refl
kinds_hold (declarator by_shape in_block) = refl
kinds_hold (direct_declarator whole named) = refl
kinds_hold (direct_declarator whole unnamed) = refl
kinds_hold (direct_declarator whole either) = refl
kinds_hold (direct_declarator whole in_block) = refl
kinds_hold (direct_declarator by_shape named) = refl
kinds_hold (direct_declarator by_shape unnamed) = refl
kinds_hold (direct_declarator by_shape either) = refl
kinds_hold (direct_declarator by_shape in_block) = refl
kinds_hold (parameter_declaration whole) = refl
kinds_hold (parameter_declaration by_shape) = refl
kinds_hold (parameter_declaration_clause whole) = refl
kinds_hold (parameter_declaration_clause by_shape) = refl
kinds_hold function_qualifiers = refl
kinds_hold balanced = refl
kinds_hold braced_init_list = refl
kinds_hold initializer = refl
kinds_hold (init_declarator named) = refl
kinds_hold (init_declarator unnamed) = refl
kinds_hold (init_declarator either) = refl
kinds_hold (init_declarator in_block) = refl
kinds_hold block_declaration = refl
kinds_hold shaped_choice = refl
kinds_hold shaped_init_declarator = refl
kinds_hold shaped_declaration = refl
kinds_hold compound_statement = refl
kinds_hold statement = refl
kinds_hold for_init_statement = refl
kinds_hold handler = refl
kinds_hold enumerator_definition = refl
kinds_hold declaration_head = refl
kinds_hold simple_declaration = refl
kinds_hold (constructor_declarator qualified) = refl
kinds_hold (constructor_declarator plain) = refl
kinds_hold (destructor_declarator qualified) = refl
kinds_hold (destructor_declarator plain) = refl
kinds_hold member_initializer = refl
kinds_hold member_declarator = refl
kinds_hold initialized_member = refl
kinds_hold listed_member = refl
kinds_hold member_declaration = refl
kinds_hold declaration = refl
kinds_hold translation_unit = refl

-- From bodies apart to bodies in the trees.

-- the bodies that a text keeps apart, and the text with trees for them in its trees
record Up (lookahead : Lookahead → ℕ → Type 0) (source : Source) (p : Rule) (r : Read) (a b : ℕ) (k : Option ℕ) (s : Read) : Type 0 where
  kept : List Body
  grown : s.bodies ≡ r.bodies ++ kept
  fill : (fs hs : List Tree) (r' : Read) → Filled fs r.trees r'.trees → r'.bodies ≡ [] → HaveBodies lookahead source kept hs
      → (s' : Read) × Derives lookahead in_trees source p r' a b k s' × Filled (fs ++ hs) s.trees s'.trees × (s'.bodies ≡ [])

filled_by : {fs gs : List Tree} {ts us vs : Trees} → gs ≡ fs → us ≡ ts → Filled fs ts vs → Filled gs us vs
filled_by {fs = fs} {ts = ts} {us = us} {vs = vs} e f x = subst (λ (z : List Tree). Filled z us vs) (back e) (subst (λ (z : Trees). Filled fs z vs) (back f) x)

up_same : {lookahead : Lookahead → ℕ → Type 0} {source : Source} {p : Rule} {r s : Read} {a b : ℕ} {k : Option ℕ} → s ≡ r
    → ((fs : List Tree) (r' : Read) → Filled fs r.trees r'.trees → Derives lookahead in_trees source p r' a b k r') → Up lookahead source p r a b k s
up_same {r = r} e f = record {
  kept = [];
  grown = ap (λ (z : Read). z.bodies) e ∙ back (append-nil r.bodies);
  fill = λ fs hs r' x y z. (r', f fs r' x, filled_by (ap (λ (w : List Tree). fs ++ w) (have_none z refl) ∙ append-nil fs) (ap (λ (w : Read). w.trees) e) x, y);
}

up_both : {lookahead : Lookahead → ℕ → Type 0} {source : Source} {p q o : Rule} {r s t : Read} {a m b : ℕ} {j k l : Option ℕ}
    → Up lookahead source p r a m k s → Up lookahead source q s m b l t
    → ((r' s' t' : Read) → Derives lookahead in_trees source p r' a m k s' → Derives lookahead in_trees source q s' m b l t' → Derives lookahead
    in_trees source o r' a b j t') → Up lookahead source o r a b j t
up_both {r = r} {t = t} x y f = record {
  kept = x.kept ++ y.kept;
  grown = y.grown ∙ ap (λ (z : List Body). z ++ y.kept) x.grown ∙ append_assoc r.bodies x.kept y.kept;
  fill = λ fs hs r' fr br hv.
      let h = parted x.kept y.kept refl hv in
      let u = x.fill fs h.left r' fr br h.lefts in
      let v = y.fill (fs ++ h.left) h.right u.0 u.2 u.3 h.rights in
      (v.0, f r' u.0 v.0 u.1 v.1, filled_by (ap (λ (w : List Tree). fs ++ w) h.both ∙ back (append_assoc fs h.left h.right)) refl v.2, v.3);
}

up_by : {lookahead : Lookahead → ℕ → Type 0} {source : Source} {p q : Rule} {r s : Read} {a b : ℕ} {k : Option ℕ} → Up lookahead source p r a b k s
    → ((r' s' : Read) → Derives lookahead in_trees source p r' a b k s' → Derives lookahead in_trees source q r' a b k s')
    → Up lookahead source q r a b k s
up_by x f = record { kept = x.kept; grown = x.grown; fill = λ fs hs r' fr br hv. let u = x.fill fs hs r' fr br hv in (u.0, f r' u.0 u.1, u.2, u.3) }

no_bodies_then : (r t : Read) → r.bodies ≡ [] → t.bodies ≡ [] → r.bodies ++ t.bodies ≡ []
no_bodies_then r t e f = ap₂ (λ (x y : List Body). x ++ y) e f

-- what a text of its own adds
up_alone : {lookahead : Lookahead → ℕ → Type 0} {source : Source} {p q : Rule} {r s t u : Read} {a b : ℕ} {k l : Option ℕ}
    → Up lookahead source p no_read a b l t → s ≡ and_then r u → u.bodies ≡ t.bodies
    → ((hs : List Tree) (t' : Read) → Derives lookahead in_trees source p no_read a b l t' → Filled hs t.trees t'.trees → t'.bodies ≡ [] →
    (u' : Read) × ((r' : Read) → Derives lookahead in_trees source q r' a b k (and_then r' u')) × Filled hs u.trees u'.trees × (u'.bodies ≡ []))
    → Up lookahead source q r a b k s
up_alone {r = r} {u = u} x e f make = record {
  kept = x.kept;
  grown = ap (λ (z : Read). z.bodies) e ∙ ap (λ (z : List Body). r.bodies ++ z) (f ∙ x.grown);
  fill = λ fs hs r' fr br hv.
      let w = x.fill [] hs no_read (no_trees refl) refl hv in
      let v = make hs w.0 w.1 w.2 w.3 in
      (and_then r' v.0, v.1 r', filled_by refl (ap (λ (z : Read). z.trees) e) (filled_join fr v.2), no_bodies_then r' v.0 br v.3);
}

at_moved : {hs : List Tree} {kind : NodeKind} {at at' : At} {l : Option ℕ} {ts us : Trees} → is_lambda kind ≡ false → at' ≡ at → Filled hs ts us
    → Filled hs (one_tree (node kind at l ts)) (one_tree (node kind at' l us))
at_moved {hs = hs} {kind = kind} {at = at} {l = l} {ts = ts} {us = us} e f x =
    subst (λ (z : At). Filled hs (one_tree (node kind at l ts)) (one_tree (node kind z l us))) (back f) (filled_one (no_body e x))

have_one : {lookahead : Lookahead → ℕ → Type 0} {source : Source} {b : Body} {rs : List Tree} → HaveBodies lookahead source (b ∷ []) rs
    → (f : Tree) × HasBody lookahead source b f × (rs ≡ f ∷ [])
have_one (no_bodies e f) = absurd (nothing_more (back e))
have_one {lookahead = lookahead} {source = source} (more_bodies b f x y g h) = (
  f,
  subst (λ (z : Body). HasBody lookahead source z f) (back (same_head g)) x,
  h ∙ ap (λ (z : List Tree). f ∷ z)
      (have_none y (back (same_rest g))),
)

start_is : {m n : ℕ} → m + 1 ≡ n + 1 → n ≡ m
start_is e = omega (arith, e)

-- a body's text, as it stands behind what was read before
text_at : {lookahead : Lookahead → ℕ → Type 0} {bodies : Bodies} {source : Source} {f : Nonterminal} {start : ℕ} {k : Option ℕ} (b m : ℕ) (got r : Read)
    → start ≡ m → Derives lookahead bodies source (form f) no_read start b k got → Derives lookahead bodies source (form f) r m b k (and_then r got)
text_at {lookahead = lookahead} {bodies = bodies} {source = source} {f = f} {start = start} {k = k} b m got r e x =
    subst (λ (z : ℕ). Derives lookahead bodies source (form f) r z b k (and_then r got)) e
    (let y = free refl x in subst (λ (z : Read). Derives lookahead bodies source (form f) r start b k (and_then r z)) (back y.gained) (y.behind r))

-- a lambda gets its body
body_put : {lookahead : Lookahead → ℕ → Type 0} {source : Source} {kind : NodeKind} {p : Rule} {r s t : Read} {a m b lambda : ℕ} (n : ℕ) {k l : Option ℕ}
    → is_lambda kind ≡ true → Up lookahead source p no_read a m l t → l ≡ Some lambda → b ≡ n + 1 → k ≡ None
    → s ≡ and_then r (with_body_apart kind (position_at source a) lambda (m + 1) n t) → Up lookahead source (with_body kind p) r a b k s
body_put {lookahead = lookahead} {source = source} {kind = kind} {p = p} {r = r} {s = s} {t = t} {a = a} {m = m} {b = b} {lambda = lambda} n {k = k}
    {l = l} e x el eb ek es = record {
      kept = x.kept ++ body ∷ [];
      grown = ap (λ (z : Read). z.bodies) es ∙ ap (λ (z : List Body). r.bodies ++ (z ++ body ∷ [])) x.grown;
      fill = λ fs hs r' fr br hv.
          let h = parted x.kept (body ∷ []) refl hv in
          let w = x.fill [] h.left no_read (no_trees refl) refl h.lefts in
          one fs hs h.left h.right r' w.0 fr br h.both h.rights w.1 w.2 w.3;
    }
  where
    body : Body
    body = record { lambda = lambda; from = m + 1; to = n }

    one : (fs hs ls rs : List Tree) (r' t' : Read) → Filled fs r.trees r'.trees → r'.bodies ≡ [] → hs ≡ ls ++ rs
        → HaveBodies lookahead source (body ∷ []) rs → Derives lookahead in_trees source p no_read a m l t' → Filled ls t.trees t'.trees
        → t'.bodies ≡ []
        → (s' : Read) × Derives lookahead in_trees source (with_body kind p) r' a b k s' × Filled (fs ++ hs) s.trees s'.trees × (s'.bodies ≡ [])
    one fs hs ls rs r' t' fr br eh hv x' ft bt =
        let h = have_one hv in
        let got : Read = record { trees = one_tree h.0; bodies = [] } in
        let full : Read = and_then t' got in
        let y = text_at (n + 1) m got t' (start_is h.1.begins) h.1.text in
        let made : Read = reads_node kind (position_at source a) l full in (
          and_then r' made,
          is_in_tree refl x' (subst (λ (z : ℕ). Derives lookahead in_trees source (form compound_statement) t' m z None full) (back eb) y) ek refl,
          filled_by refl (ap (λ (z : Read). z.trees) es) (filled_join fr (filled_one (subst
              (λ (z : Option ℕ). FilledTree hs (node kind (position_at source a) z t.trees) (node kind (position_at source a) l full.trees)) el
              (a_body h.0 e ft (eh ∙ ap (λ (z : List Tree). ls ++ z) h.2) refl)))),
          no_bodies_then r' made br (no_bodies_then t' got bt refl),
        )

modes_differ : kept_apart ≡ in_trees → ⊥
modes_differ e = cc

-- a text with the bodies apart, with trees for them, is a text with the bodies in its trees
up : {lookahead : Lookahead → ℕ → Type 0} {source : Source} {p : Rule} {r s : Read} {a b : ℕ} {k : Option ℕ} → kinds_right p ≡ true
    → Derives lookahead kept_apart source p r a b k s → Up lookahead source p r a b k s
up i (is_nothing e f g) = up_same g (λ fs r' x. is_nothing e f refl)
up i (is_word t e f g) = up_same g (λ fs r' x. is_word t e f refl)
up i (is_mark t e f g) = up_same g (λ fs r' x. is_mark t e f refl)
up i (is_mark_next e f g) = up_same g (λ fs r' x. is_mark_next e f refl)
up i (is_mark_name e f g) = up_same g (λ fs r' x. is_mark_name e (f ∙ ap token_of_name (back (declared_in_same x))) refl)
up i (is_both {p = p} {q = q} x y e) = let h = and_parts (kinds_right p) (kinds_right q) i in up_both (up h.0 x) (up h.1 y) (λ r' s' t' u v. is_both u v e)
up i (is_left {p = p} {q = q} x) = up_by (up (and_parts (kinds_right p) (kinds_right q) i).0 x) (λ r' s' u. is_left u)
up i (is_right {p = p} {q = q} x) = up_by (up (and_parts (kinds_right p) (kinds_right q) i).1 x) (λ r' s' u. is_right u)
up i (is_last e f g) = up_same g (λ fs r' x. is_last e f refl)
up i (is_more x y e) = up_both (up i x) (up i y) (λ r' s' t' u v. is_more u v e)
up i (is_form {f = f} x e g) = up_alone (up (kinds_hold f) x) g refl (λ hs t' u x' y. (t', λ r'. is_form u e refl, x', y))
up {source = source} i (is_node {positioning = positioning} {kind = kind} {p = p} {a = a} {l = l} x e g) =
    let h = and_parts (not (is_lambda kind)) (kinds_right p) i in
    up_alone (up h.1 x) g refl (λ hs t' u x' y. (
      reads_node kind (positioned positioning source a l t'.trees) l t',
      λ r'. is_node u e refl,
      at_moved
          (not-true (is_lambda kind) h.0) (positioned_same positioning source a l x') x',
      y,
    ))
up {source = source} i (is_wrap {kind = kind} {p = p} {r = r} {a = a} {l = l} x e g) =
    let h = and_parts (not (is_lambda kind)) (kinds_right p) i in
    let u = up h.1 x in
    record {
      kept = u.kept;
      grown = ap (λ (z : Read). z.bodies) g ∙ u.grown;
      fill = λ fs hs r' fr br hv.
          let w = u.fill fs hs r' fr br hv in (
            reads_node kind (position_of_first source a r'.trees) l w.0,
            is_wrap w.1 e refl,
            filled_by refl (ap (λ (z : Read). z.trees) g) (at_moved (not-true (is_lambda kind) h.0) (first_position_same source a fr) w.2),
            w.3,
          );
    }
up i (is_kept_apart {kind = kind} {p = p} {n = n} d x el o y c eb ek es) =
    let h = and_parts (is_lambda kind && is_marked p) (kinds_right p) i in
    body_put n (and_parts (is_lambda kind) (is_marked p) h.0).0 (up h.1 x) el eb ek es
up i (is_in_tree d x y ek es) = absurd (modes_differ d)
up i (is_where x e) = up_by (up i x) (λ r' s' u. is_where u e)
up i (is_before x e) = up_by (up i x) (λ r' s' u. is_before u e)
up i (is_if l x) = up_by (up i x) (λ r' s' u. is_if l u)
up i (is_unless l x) = up_by (up i x) (λ r' s' u. is_unless l u)

-- From bodies in the trees to bodies apart.

-- a text with the bodies in its trees keeps none apart
in_tree_bodies : {lookahead : Lookahead → ℕ → Type 0} {source : Source} {p : Rule} {r s : Read} {a b : ℕ} {k : Option ℕ}
    → Derives lookahead in_trees source p r a b k s → s.bodies ≡ r.bodies
in_tree_bodies (is_nothing e f g) = ap (λ (z : Read). z.bodies) g
in_tree_bodies (is_word t e f g) = ap (λ (z : Read). z.bodies) g
in_tree_bodies (is_mark t e f g) = ap (λ (z : Read). z.bodies) g
in_tree_bodies (is_mark_next e f g) = ap (λ (z : Read). z.bodies) g
in_tree_bodies (is_mark_name e f g) = ap (λ (z : Read). z.bodies) g
in_tree_bodies (is_both x y e) = in_tree_bodies y ∙ in_tree_bodies x
in_tree_bodies (is_left x) = in_tree_bodies x
in_tree_bodies (is_right x) = in_tree_bodies x
in_tree_bodies (is_last e f g) = ap (λ (z : Read). z.bodies) g
in_tree_bodies (is_more x y e) = in_tree_bodies y ∙ in_tree_bodies x
in_tree_bodies (is_form {r = r} x e g) = ap (λ (z : Read). z.bodies) g ∙ ap (λ (z : List Body). r.bodies ++ z) (in_tree_bodies x) ∙ append-nil r.bodies
in_tree_bodies (is_node {r = r} x e g) = ap (λ (z : Read). z.bodies) g ∙ ap (λ (z : List Body). r.bodies ++ z) (in_tree_bodies x) ∙ append-nil r.bodies
in_tree_bodies (is_wrap x e g) = ap (λ (z : Read). z.bodies) g ∙ in_tree_bodies x
in_tree_bodies (is_kept_apart d x el o y c eb ek es) = absurd (modes_differ (back d))
in_tree_bodies (is_in_tree {r = r} d x y ek es) =
    ap (λ (z : Read). z.bodies) es ∙ ap (λ (z : List Body). r.bodies ++ z) (in_tree_bodies y ∙ in_tree_bodies x) ∙ append-nil r.bodies
in_tree_bodies (is_where x e) = in_tree_bodies x
in_tree_bodies (is_before x e) = in_tree_bodies x
in_tree_bodies (is_if l x) = in_tree_bodies x
in_tree_bodies (is_unless l x) = in_tree_bodies x

first_some : (k l : Option ℕ) (n : ℕ) → k ≡ Some n → first_or k l ≡ Some n
first_some k l n e = ap (λ (z : Option ℕ). first_or z l) e

either_some : (k l : Option ℕ) (n : ℕ) → l ≡ Some n → (m : ℕ) × (first_or k l ≡ Some m)
either_some None l n e = (n, e)
either_some (Some m) l n e = (m, refl)

-- a text of such a rule has a token
marked_so : {lookahead : Lookahead → ℕ → Type 0} {bodies : Bodies} {source : Source} {p : Rule} {r s : Read} {a b : ℕ} {k : Option ℕ}
    → is_marked p ≡ true → Derives lookahead bodies source p r a b k s → (n : ℕ) × (k ≡ Some n)
marked_so i (is_mark {a = a} t e f g) = (a, f)
marked_so i (is_mark_next {a = a} e f g) = (a, f)
marked_so i (is_both {p = p} {q = q} {k = k} {l = l} x y e) = elim (or_cases (is_marked p) (is_marked q) i) [
  | inl h ↦ let z = marked_so h x in (z.0, e ∙ first_some k l z.0 z.1)
  | inr h ↦ let z = marked_so h y in let w = either_some k l z.0 z.1 in (w.0, e ∙ w.1)
]
marked_so i (is_nothing e f g) = absurd (true≢false (back i))
marked_so i (is_word t e f g) = absurd (true≢false (back i))
marked_so i (is_mark_name e f g) = absurd (true≢false (back i))
marked_so i (is_left x) = absurd (true≢false (back i))
marked_so i (is_right x) = absurd (true≢false (back i))
marked_so i (is_last e f g) = absurd (true≢false (back i))
marked_so i (is_more x y e) = absurd (true≢false (back i))
marked_so i (is_form x e g) = absurd (true≢false (back i))
marked_so i (is_node x e g) = absurd (true≢false (back i))
marked_so i (is_wrap x e g) = absurd (true≢false (back i))
marked_so i (is_kept_apart d x el o y c eb ek es) = absurd (true≢false (back i))
marked_so i (is_in_tree d x y ek es) = absurd (true≢false (back i))
marked_so i (is_where x e) = absurd (true≢false (back i))
marked_so i (is_before x e) = absurd (true≢false (back i))
marked_so i (is_if l x) = absurd (true≢false (back i))
marked_so i (is_unless l x) = absurd (true≢false (back i))

-- what stands in braces
record Braced (lookahead : Lookahead → ℕ → Type 0) (source : Source) (r : Read) (a b : ℕ) (s : Read) : Type 0 where
  end : ℕ
  tree : Tree
  opened : open_brace (terminal_at source a) ≡ true
  tokens : Balanced source.terminals (a + 1) end
  closed : close_brace (terminal_at source end) ≡ true
  ends : b ≡ end + 1
  text : Derives lookahead in_trees source (form compound_statement) no_read a b None (record { trees = one_tree tree; bodies = [] })
  same : s.trees ≡ join r.trees (one_tree tree)

one_read : {t : Read} {kind : NodeKind} {at : At} {l : Option ℕ} {u : Read} → t ≡ and_then no_read (reads_node kind at l u) → u.bodies ≡ []
    → t ≡ record { trees = one_tree (node kind at l u.trees); bodies = [] }
one_read {kind = kind} {at = at} {l = l} {u = u} e f =
    e ∙ ap (λ (z : List Body). let x : Read = record { trees = one_tree (node kind at l u.trees); bodies = z } in x) f

braced : {lookahead : Lookahead → ℕ → Type 0} {source : Source} {r s : Read} {a b : ℕ} {k : Option ℕ}
    → Derives lookahead in_trees source (form compound_statement) r a b k s → Braced lookahead source r a b s
braced {source = source} {r = r} {a = a} (is_form {t = t2} (is_node {t = t3} {l = l3}
    (is_both (is_word o e1 f1 g1) (is_both {m = n} st (is_mark c e2 f2 g2) h2) h1) e f) g h) =
    let none_left = ap (λ (z : Read). z.bodies) g2 ∙ in_tree_bodies st ∙ ap (λ (z : Read). z.bodies) g1 in
    let one = one_read f none_left in
    record {
      end = n;
      tree = node kind.CompoundStatement (position_at source a) l3 t3.trees;
      opened = o;
      tokens = subst (λ (z : ℕ). Balanced source.terminals z n) e1 (text_balanced st refl);
      closed = c;
      ends = e2;
      text = is_form (is_node (is_both (is_word o e1 f1 g1) (is_both st (is_mark c e2 f2 g2) h2) h1) e f) refl (back one);
      same = ap (λ (z : Read). z.trees) h ∙ ap (λ (z : Read). join r.trees z.trees) one;
    }

-- the text with the bodies apart, those bodies, and trees for them
record Apart_ (lookahead : Lookahead → ℕ → Type 0) (source : Source) (p : Rule) (r : Read) (a b : ℕ) (k : Option ℕ) (fs : List Tree) (us : Trees) : Type 0 where
  after : Read
  kept : List Body
  trees : List Tree
  text : Derives lookahead kept_apart source p r a b k after
  grown : after.bodies ≡ r.bodies ++ kept
  have : HaveBodies lookahead source kept trees
  filled : Filled (fs ++ trees) after.trees us

record Down (lookahead : Lookahead → ℕ → Type 0) (source : Source) (p : Rule) (r' : Read) (a b : ℕ) (k : Option ℕ) (s' : Read) : Type 0 where
  empty : (fs : List Tree) (r : Read) → Filled fs r.trees r'.trees → Apart_ lookahead source p r a b k fs s'.trees

down_same : {lookahead : Lookahead → ℕ → Type 0} {source : Source} {p : Rule} {r' s' : Read} {a b : ℕ} {k : Option ℕ} → s' ≡ r'
    → ((fs : List Tree) (r : Read) → Filled fs r.trees r'.trees → Derives lookahead kept_apart source p r a b k r)
    → Down lookahead source p r' a b k s'
down_same e f = record {
  empty = λ fs r x. record {
    after = r;
    kept = [];
    trees = [];
    text = f fs r x;
    grown = back (append-nil r.bodies);
    have = no_bodies refl refl;
    filled = subst (λ (z : Read). Filled (fs ++ []) r.trees z.trees) (back e) (filled_by (append-nil fs) refl x);
  };
}

down_both : {lookahead : Lookahead → ℕ → Type 0} {source : Source} {p q o : Rule} {r' s' t' : Read} {a m b : ℕ} {j k l : Option ℕ}
    → Down lookahead source p r' a m k s' → Down lookahead source q s' m b l t'
    → ((r s t : Read) → Derives lookahead kept_apart source p r a m k s → Derives lookahead kept_apart source q s m b l t → Derives lookahead
    kept_apart source o r a b j t) → Down lookahead source o r' a b j t'
down_both x y f = record {
  empty = λ fs r fr.
      let u = x.empty fs r fr in
      let v = y.empty (fs ++ u.trees) u.after u.filled in
      record {
        after = v.after;
        kept = u.kept ++ v.kept;
        trees = u.trees ++ v.trees;
        text = f r u.after v.after u.text v.text;
        grown = v.grown ∙ ap (λ (z : List Body). z ++ v.kept) u.grown ∙ append_assoc r.bodies u.kept v.kept;
        have = have_both u.have v.have;
        filled = filled_by (back (append_assoc fs u.trees v.trees)) refl v.filled;
      };
}

down_by : {lookahead : Lookahead → ℕ → Type 0} {source : Source} {p q : Rule} {r' s' : Read} {a b : ℕ} {k : Option ℕ}
    → Down lookahead source p r' a b k s'
    → ((r s : Read) → Derives lookahead kept_apart source p r a b k s → Derives lookahead kept_apart source q r a b k s)
    → Down lookahead source q r' a b k s'
down_by x f =
    record {
      empty = λ fs r fr. let u = x.empty fs r fr in record {
        after = u.after;
        kept = u.kept;
        trees = u.trees;
        text = f r u.after u.text;
        grown
            = u.grown;
        have = u.have;
        filled = u.filled;
      };
    }

-- what a text of its own adds
down_alone : {lookahead : Lookahead → ℕ → Type 0} {source : Source} {p q : Rule} {r' s' t' : Read} {a b : ℕ} {k l : Option ℕ} (u' : Read)
    → Down lookahead source p no_read a b l t' → s'.trees ≡ join r'.trees u'.trees
    → ((hs : List Tree) (t : Read) → Derives lookahead kept_apart source p no_read a b l t → Filled hs t.trees t'.trees → (u : Read) ×
    ((r : Read) → Derives lookahead kept_apart source q r a b k (and_then r u)) × Filled hs u.trees u'.trees × (u.bodies ≡ t.bodies))
    → Down lookahead source q r' a b k s'
down_alone u' x e make = record {
  empty = λ fs r fr.
      let w = x.empty [] no_read (no_trees refl) in
      let v = make w.trees w.after w.text w.filled in
      record {
        after = and_then r v.0;
        kept = w.kept;
        trees = w.trees;
        text = v.1 r;
        grown = ap (λ (z : List Body). r.bodies ++ z) (v.3 ∙ w.grown);
        have = w.have;
        filled = subst (λ (z : Trees). Filled (fs ++ w.trees) (join r.trees v.0.trees) z) (back e) (filled_join fr v.2);
      };
}

-- a lambda gives its body away
body_taken : {lookahead : Lookahead → ℕ → Type 0} {source : Source} {kind : NodeKind} {p : Rule} {r' s' t' u' : Read} {a m b lambda : ℕ} {k l : Option ℕ}
    → is_lambda kind ≡ true → Down lookahead source p no_read a m l t' → l ≡ Some lambda → Braced lookahead source t' m b u' → k ≡ None
    → s'.trees ≡ join r'.trees (one_tree (node kind (position_at source a) l u'.trees)) → Down lookahead source (with_body kind p) r' a b k s'
body_taken {lookahead = lookahead} {source = source} {kind = kind} {u' = u'} {a = a} {m = m} {lambda = lambda} {l = l} e x el y ek es = record {
  empty = λ fs r fr.
      let w = x.empty [] no_read (no_trees refl) in
      let body : Body = record { lambda = lambda; from = m + 1; to = y.end } in
      record {
        after = and_then r (with_body_apart kind (position_at source a) lambda (m + 1) y.end w.after);
        kept = w.kept ++ body ∷ [];
        trees = w.trees ++ y.tree ∷ [];
        text = is_kept_apart refl w.text el y.opened (is_form (run_text y.tokens no_read) refl refl) y.closed y.ends ek refl;
        grown = ap (λ (z : List Body). r.bodies ++ (z ++ body ∷ [])) w.grown;
        have =
            have_both w.have (one_body body y.tree (record {
              start = m;
              begins = refl;
              text = subst
                  (λ (z : ℕ). Derives lookahead in_trees source (form compound_statement) no_read m z None
                  (record { trees = one_tree y.tree; bodies = [] })) y.ends y.text;
            }));
        filled =
            subst (λ (z : Trees). Filled (fs ++ (w.trees ++ y.tree ∷ [])) (join r.trees (one_tree
            (node kind (position_at source a) (Some lambda) w.after.trees))) z) (back es)
            (filled_join fr (filled_one (subst (λ (z : Option ℕ). FilledTree (w.trees ++ y.tree ∷ [])
            (node kind (position_at source a) z w.after.trees) (node kind (position_at source a) l u'.trees)) el
            (a_body y.tree e w.filled refl y.same))));
      };
}

-- a text with the bodies in its trees is one with the bodies apart
down : {lookahead : Lookahead → ℕ → Type 0} {source : Source} {p : Rule} {r' s' : Read} {a b : ℕ} {k : Option ℕ} → kinds_right p ≡ true
    → Derives lookahead in_trees source p r' a b k s' → Down lookahead source p r' a b k s'
down i (is_nothing e f g) = down_same g (λ fs r x. is_nothing e f refl)
down i (is_word t e f g) = down_same g (λ fs r x. is_word t e f refl)
down i (is_mark t e f g) = down_same g (λ fs r x. is_mark t e f refl)
down i (is_mark_next e f g) = down_same g (λ fs r x. is_mark_next e f refl)
down i (is_mark_name e f g) = down_same g (λ fs r x. is_mark_name e (f ∙ ap token_of_name (declared_in_same x)) refl)
down i (is_both {p = p} {q = q} x y e) = let h = and_parts (kinds_right p) (kinds_right q) i in down_both (down h.0 x) (down h.1 y) (λ r s t u v. is_both u v e)
down i (is_left {p = p} {q = q} x) = down_by (down (and_parts (kinds_right p) (kinds_right q) i).0 x) (λ r s u. is_left u)
down i (is_right {p = p} {q = q} x) = down_by (down (and_parts (kinds_right p) (kinds_right q) i).1 x) (λ r s u. is_right u)
down i (is_last e f g) = down_same g (λ fs r x. is_last e f refl)
down i (is_more x y e) = down_both (down i x) (down i y) (λ r s t u v. is_more u v e)
down i (is_form {f = f} {t = t'} x e g) =
    down_alone t' (down (kinds_hold f) x) (ap (λ (z : Read). z.trees) g) (λ hs t u x'. (t, λ r. is_form u e refl, x', refl))
down {source = source} i (is_node {positioning = positioning} {kind = kind} {p = p} {t = t'} {a = a} {l = l} x e g) =
    let h = and_parts (not (is_lambda kind)) (kinds_right p) i in
    down_alone (reads_node kind (positioned positioning source a l t'.trees) l t') (down h.1 x) (ap (λ (z : Read). z.trees) g)
    (λ hs t u x'. (
      reads_node kind (positioned positioning source a l t.trees) l t,
      λ r. is_node u e refl,
      at_moved
          (not-true (is_lambda kind) h.0) (positioned_same positioning source a l x') x',
      refl,
    ))
down {source = source} i (is_wrap {kind = kind} {p = p} {r = r'} {a = a} {l = l} x e g) =
    let h = and_parts (not (is_lambda kind)) (kinds_right p) i in
    let d = down h.1 x in
    record {
      empty = λ fs r fr.
          let w = d.empty fs r fr in
          record {
            after = reads_node kind (position_of_first source a r.trees) l w.after;
            kept = w.kept;
            trees = w.trees;
            text = is_wrap w.text e refl;
            grown = w.grown;
            have = w.have;
            filled =
                subst (λ (z : Read). Filled (fs ++ w.trees) (one_tree (node kind (position_of_first source a r.trees) l w.after.trees)) z.trees)
                (back g) (at_moved (not-true (is_lambda kind) h.0) (first_position_same source a fr) w.filled);
          };
    }
down i (is_kept_apart d x el o y c eb ek es) = absurd (modes_differ (back d))
down i (is_in_tree {kind = kind} {p = p} d x y ek es) =
    let h = and_parts (is_lambda kind && is_marked p) (kinds_right p) i in
    let g = and_parts (is_lambda kind) (is_marked p) h.0 in
    body_taken g.0 (down h.1 x) (marked_so g.1 x).1 (braced y) ek (ap (λ (z : Read). z.trees) es)
down i (is_where x e) = down_by (down i x) (λ r s u. is_where u e)
down i (is_before x e) = down_by (down i x) (λ r s u. is_before u e)
down i (is_if l x) = down_by (down i x) (λ r s u. is_if l u)
down i (is_unless l x) = down_by (down i x) (λ r s u. is_unless l u)

-- Of forms.

-- a text with trees for the bodies that are kept apart, as one with the bodies in its trees
pub record BodiesIn (lookahead : Lookahead → ℕ → Type 0) (source : Source) (f : Nonterminal) (a b : ℕ) (k : Option ℕ) (hs : List Tree) (ts : Trees) :
    Type 0 where
  pub trees : Trees
  pub text : Derives lookahead in_trees source (form f) no_read a b k (record { trees = trees; bodies = [] })
  pub filled : Filled hs ts trees

pub bodies_in : {lookahead : Lookahead → ℕ → Type 0} {source : Source} {f : Nonterminal} {a b : ℕ} {k : Option ℕ} {s : Read} {hs : List Tree}
    → Derives lookahead kept_apart source (form f) no_read a b k s → HaveBodies lookahead source s.bodies hs
    → BodiesIn lookahead source f a b k hs s.trees
bodies_in {lookahead = lookahead} {source = source} {f = f} {a = a} {b = b} {k = k} {hs = hs} x h =
    let u = up refl x in
    let v = u.fill [] hs no_read (no_trees refl) refl (subst (λ (z : List Body). HaveBodies lookahead source z hs) u.grown h) in
    record {
      trees = v.0.trees;
      text = subst (λ (z : List Body). Derives lookahead in_trees source (form f) no_read a b k (record { trees = v.0.trees; bodies = z })) v.3 v.1;
      filled = v.2;
    }

-- a text with the bodies in its trees, as one with the bodies kept apart
pub record BodiesApart (lookahead : Lookahead → ℕ → Type 0) (source : Source) (f : Nonterminal) (a b : ℕ) (k : Option ℕ) (ts : Trees) : Type 0 where
  pub after : Read
  pub trees : List Tree
  pub text : Derives lookahead kept_apart source (form f) no_read a b k after
  pub have : HaveBodies lookahead source after.bodies trees
  pub filled : Filled trees after.trees ts

pub bodies_apart : {lookahead : Lookahead → ℕ → Type 0} {source : Source} {f : Nonterminal} {a b : ℕ} {k : Option ℕ} {s : Read}
    → Derives lookahead in_trees source (form f) no_read a b k s → BodiesApart lookahead source f a b k s.trees
bodies_apart {lookahead = lookahead} {source = source} x =
    let d = down refl x in
    let u = d.empty [] no_read (no_trees refl) in
    record {
      after = u.after;
      trees = u.trees;
      text = u.text;
      have = subst (λ (z : List Body). HaveBodies lookahead source z u.trees) (back u.grown)
          u.have;
      filled = u.filled;
    }
