-- The scopes around a place of a body.
use Rattle.std.specs.Prelude.{ℕ, ◌≡◌, ◌<◌, List, [], ◌∷◌, length}
use Rattle.low_code.specs.declared.scopes.ScopeKind.{ScopeKind}
use Rattle.low_code.specs.Writer.{Body, scope_in}

-- these are the kinds of the scope with a number and of those around it, up to that of the function
abbrev pub AreAround : Body → ℕ → List ScopeKind → Type 0
AreAround b n [] = ⊥
AreAround b n (k ∷ []) = (n < length b.scopes) × ((scope_in b n).kind ≡ k)
AreAround b n (k ∷ j ∷ chain) = (n < length b.scopes) × ((scope_in b n).kind ≡ k) × AreAround b (scope_in b n).parent (j ∷ chain)
