-- Whether a node of a tree lies too deep.
use Rattle.std.proofs.Common.{◌≡◌, ℕ, ◌<◌, ◌≤◌, Bool, if◌then◌else◌, Option, Some, None, refl, sym, ◌∙◌, ap, arith, ◌⊎◌, inl, inr}
use Rattle.std.proofs.lemmas.Bool.{cases_lt, lt-ltb, le-ltb}
use Rattle.std.proofs.lemmas.Option.{none-some}
use Rattle.cpp_ast.specs.declared.arena.At.{At}
use Rattle.cpp_ast.specs.Trees.{Tree, node, Trees, none, more, kind_of, kid_depth, deepest, deepest_kid}
use Rattle.cpp_parse_expr.specs.Depths.{or_else, deep_node, deep_kid}

abbrev by_test : Bool → At → Option At → Option At
by_test deep at kids = if deep then Some at else kids

-- a node lies as deep as its tree at most
mutual
  root_depth : (depth : ℕ) (tree : Tree) → depth ≤ deepest depth tree
  root_depth depth (node kind at token kids) = holder_depth depth kids

  holder_depth : (depth : ℕ) (trees : Trees) → depth ≤ deepest_kid depth trees
  holder_depth depth none = omega arith
  holder_depth depth (more t ts) = let rest = holder_depth depth ts in omega (arith, rest)

neither : (a b : Option At) → or_else a b ≡ None → (a ≡ None) × (b ≡ None)
neither None b e = (refl, e)
neither (Some at) b e = absurd (none-some at (sym e))

-- where none does, the tree is not that deep
mutual
  pub none_low : (limit depth : ℕ) (tree : Tree) → deep_node limit depth tree ≡ None → deepest depth tree ≤ limit
  none_low limit depth (node kind at token kids) e = elim (cases_lt limit depth) [
    | inl deep ↦ absurd (none-some at (sym e ∙ ap (λ (b : Bool). by_test b at (deep_kid limit depth kids)) (lt-ltb limit depth deep)))
    | inr here ↦ none_low_kids limit depth kids here
        (sym (ap (λ (b : Bool). by_test b at (deep_kid limit depth kids)) (le-ltb limit depth here)) ∙ e)
  ]

  none_low_kids : (limit depth : ℕ) (trees : Trees) → depth ≤ limit → deep_kid limit depth trees ≡ None → deepest_kid depth trees ≤ limit
  none_low_kids limit depth none here e = here
  none_low_kids limit depth (more t ts) here e =
      let both = neither (deep_node limit (kid_depth depth (kind_of t)) t) (deep_kid limit depth ts) e in
      let first = none_low limit (kid_depth depth (kind_of t)) t both.0 in
      let rest = none_low_kids limit depth ts here both.1 in
      omega (arith, first, rest)

found_in : (a b : Option At) (position : At) → or_else a b ≡ Some position → (a ≡ Some position) ⊎ (b ≡ Some position)
found_in None b position e = inr e
found_in (Some at) b position e = inl e

-- where one does, it is
mutual
  pub some_high : (limit depth : ℕ) (tree : Tree) (position : At) → deep_node limit depth tree ≡ Some position → limit < deepest depth tree
  some_high limit depth (node kind at token kids) position e = elim (cases_lt limit depth) [
    | inl deep ↦ (let least = root_depth depth (node kind at token kids) in omega (arith, deep, least))
    | inr here ↦ some_high_kid limit depth kids position
        (sym (ap (λ (b : Bool). by_test b at (deep_kid limit depth kids)) (le-ltb limit depth here)) ∙ e)
  ]

  some_high_kid : (limit depth : ℕ) (trees : Trees) (position : At) → deep_kid limit depth trees ≡ Some position → limit < deepest_kid depth trees
  some_high_kid limit depth none position e = absurd (none-some position e)
  some_high_kid limit depth (more t ts) position e =
      elim (found_in (deep_node limit (kid_depth depth (kind_of t)) t) (deep_kid limit depth ts) position e) [
        | inl h ↦ (let high = some_high limit (kid_depth depth (kind_of t)) t position h in omega (arith, high))
        | inr h ↦ (let high = some_high_kid limit depth ts position h in omega (arith, high))
      ]
