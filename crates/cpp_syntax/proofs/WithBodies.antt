-- Trees whose lambdas have their bodies, and the same trees without them.
use Rattle.std.proofs.Common.{◌≡◌, ℕ, true, false, ◌||◌, if◌then◌else◌, refl, sym as back, ◌∙◌, ap, ap₂, subst, List, [], ◌∷◌, ◌++◌, Option, is_some}
use Rattle.std.proofs.Common.{true≢false, append_assoc, append-nil}
use Rattle.std.proofs.lemmas.Bool.{cond-false}
use Rattle.cpp_ast.specs.declared.kinds.NodeKind.{NodeKind}
use Rattle.cpp_ast.specs.declared.kinds.NodeKind.TheVariants as kind
use Rattle.cpp_ast.specs.Trees.{Tree, node, Trees, more}
use Rattle.cpp_syntax.specs.Source.{Source}
use Rattle.cpp_syntax.specs.Rules.{Positioning, at_first, at_token, at_name}
use Rattle.cpp_syntax.specs.Derivations.{Name, join, one_tree, leads_to_name, name_by, declared, declared_in, positioned, position_of_first}
use Rattle.cpp_syntax.specs.View.{is_lambda}
use Rattle.cpp_syntax.specs.WithBodies.{FilledTree, no_body, a_body, Filled, no_trees, more_trees}

pub filled_join : {fs gs : List Tree} {ts us vs ws : Trees} → Filled fs ts us → Filled gs vs ws → Filled (fs ++ gs) (join ts vs) (join us ws)
filled_join {gs = gs} {vs = vs} {ws = ws} (no_trees e) y = subst (λ (z : List Tree). Filled (z ++ gs) vs ws) (back e) y
filled_join {gs = gs} (more_trees {fs = f1} {gs = f2} x y e) z = more_trees x (filled_join y z) (ap (λ (w : List Tree). w ++ gs) e ∙ append_assoc f1 f2 gs)

pub filled_one : {fs : List Tree} {t u : Tree} → FilledTree fs t u → Filled fs (one_tree t) (one_tree u)
filled_one {fs = fs} x = more_trees x (no_trees refl) (back (append-nil fs))

-- Names and indices are the same.

lambda_leads : (kind : NodeKind) → is_lambda kind ≡ true → leads_to_name kind ≡ false
lambda_leads kind.Lambda e = refl
lambda_leads _ e = cc

-- a tree and what follows it declare what they do without bodies
first_same : {fs : List Tree} {t u : Tree} (ts us : Trees) → FilledTree fs t u → declared u ≡ declared t → declared_in us ≡ declared_in ts
    → declared_in (more u us) ≡ declared_in (more t ts)
first_same ts us (no_body {kind = k} {token = token} e x) f g = ap₂ (λ (d r : Option Name). if leads_to_name k || is_some (name_by k token) then d else r) f g
first_same ts us (a_body body {kind = k} {token = token} e x h i) f g =
    ap₂ (λ (d r : Option Name). if leads_to_name k || is_some (name_by k token) then d else r) f g

mutual
  declared_same : {fs : List Tree} {t u : Tree} → FilledTree fs t u → declared u ≡ declared t
  declared_same (no_body {kind = k} {token = token} e x) = ap (λ (z : Option Name). if leads_to_name k then z else name_by k token) (declared_in_same x)
  declared_same (a_body body {kind = k} {token = token} {ts = ts} {vs = vs} e x f g) =
      cond-false (leads_to_name k) (declared_in vs) (name_by k token) (lambda_leads k e) ∙ back
      (cond-false (leads_to_name k) (declared_in ts) (name_by k token) (lambda_leads k e))

  pub declared_in_same : {fs : List Tree} {ts us : Trees} → Filled fs ts us → declared_in us ≡ declared_in ts
  declared_in_same (no_trees e) = refl
  declared_in_same (more_trees {ts = ts} {us = us} x y e) = first_same ts us x (declared_same x) (declared_in_same y)

pub positioned_same : {fs : List Tree} {ts us : Trees} (positioning : Positioning) (source : Source) (a : ℕ) (token : Option ℕ) → Filled fs ts us
    → positioned positioning source a token us ≡ positioned positioning source a token ts
positioned_same at_first source a token x = refl
positioned_same at_token source a token x = refl
positioned_same at_name source a token x = let e = declared_in_same x in rw e refl

pub first_position_same : {fs : List Tree} {ts us : Trees} (source : Source) (a : ℕ) → Filled fs ts us
    → position_of_first source a us ≡ position_of_first source a ts
first_position_same source a (no_trees e) = refl
first_position_same source a (more_trees (no_body e x) y f) = refl
first_position_same source a (more_trees (a_body body e x g h) y f) = refl

-- A tree and its bodies make one tree.

cut_head : {A : Type 0} {x y : A} {xs ys : List A} → x ∷ xs ≡ y ∷ ys → (x ≡ y) × (xs ≡ ys)
cut_head e = (cc, cc)

mutual
  filled_tree_same : {fs gs : List Tree} {t u v : Tree} → FilledTree fs t u → FilledTree gs t v → (xs ys : List Tree) → fs ++ xs ≡ gs ++ ys
      → (u ≡ v) × (xs ≡ ys)
  filled_tree_same (no_body {kind = k} {at = at} {token = l} e x) (no_body f y) xs ys g =
      let h = filled_rest_same x y xs ys g in (ap (λ (z : Trees). node k at l z) h.0, h.1)
  filled_tree_same (no_body e x) (a_body b f y g h) xs ys i = absurd (true≢false (back f ∙ e))
  filled_tree_same (a_body b f y g h) (no_body e x) xs ys i = absurd (true≢false (back f ∙ e))
  filled_tree_same (a_body {fs = f1} b {kind = k} {at = at} {token = l} e x g h) (a_body {fs = f2} c f y i j) xs ys w =
      let z = filled_rest_same x y (b ∷ xs) (c ∷ ys) (back (ap (λ (q : List Tree). q ++ xs) g ∙ append_assoc f1 (b ∷ []) xs) ∙ w ∙ ap
      (λ (q : List Tree). q ++ ys) i ∙ append_assoc f2 (c ∷ []) ys) in
      let q = cut_head z.1 in
      (ap (λ (o : Trees). node k at l o) (h ∙ ap₂ (λ (o : Trees) (p : Tree). join o (one_tree p)) z.0 q.0 ∙ back j), q.1)

  filled_rest_same : {fs gs : List Tree} {ts us vs : Trees} → Filled fs ts us → Filled gs ts vs → (xs ys : List Tree) → fs ++ xs ≡ gs ++ ys
      → (us ≡ vs) × (xs ≡ ys)
  filled_rest_same (no_trees e) (no_trees f) xs ys g = (refl, back (ap (λ (z : List Tree). z ++ xs) e) ∙ g ∙ ap (λ (z : List Tree). z ++ ys) f)
  filled_rest_same (more_trees {fs = f1} {gs = g1} x y e) (more_trees {fs = f2} {gs = g2} u v f) xs ys g =
      let h = filled_tree_same x u (g1 ++ xs) (g2 ++ ys) (back (ap (λ (z : List Tree). z ++ xs) e ∙ append_assoc f1 g1 xs) ∙ g ∙ ap
      (λ (z : List Tree). z ++ ys) f ∙ append_assoc f2 g2 ys) in
      let i = filled_rest_same y v xs ys h.1 in
      (ap₂ (λ (o : Tree) (p : Trees). more o p) h.0 i.0, i.1)

pub filled_same : {fs : List Tree} {ts us vs : Trees} → Filled fs ts us → Filled fs ts vs → us ≡ vs
filled_same x y = (filled_rest_same x y [] [] refl).0
