-- Ways out of blocks, and scopes that are entered again.
use Rattle.std.proofs.Common.{◌≡◌, ◌∙◌, ℕ, zero, suc, List, [], ◌∷◌, ◌++◌, length, ap, sym, cond, true, false, refl, eq-eqb, ne_eqb}
use Rattle.cpp_tree.specs.cpp_types.declared.classes.At.{At}
use Rattle.low_code.specs.declared.scopes.ScopeKind.{ScopeKind}
use Rattle.low_code.specs.declared.scopes.Scope.{Scope}
use Rattle.low_code.specs.Scopes.{is_full}
use Rattle.low_code.specs.Writer.{Body, scope_in, at_scope, entered, outer_edge, behind_one, behind_from, entered_again, entered_all, temporary_in}

-- one more way out
pub behind_next : (k edge last : ℕ) (at : At) (b : Body) → (edge ≡ 0 → ⊥)
    → behind_from (suc k) edge last at b ≡ behind_from k (outer_edge edge b) (length b.scopes) at (behind_one edge last at b)
behind_next k edge last at b h =
    ap (λ v. cond v b (behind_from k (outer_edge edge b) (length b.scopes) at (behind_one edge last at b))) (ne_eqb edge 0 h)

pub behind_step : (k edge last outer number : ℕ) (at : At) (b new : Body) → (edge ≡ 0 → ⊥) → outer ≡ outer_edge edge b → number ≡ length b.scopes
    → new ≡ behind_one edge last at b → behind_from (suc k) edge last at b ≡ behind_from k outer number at new
behind_step k edge last outer number at b new h o n e =
    behind_next k edge last at b h ∙ ap (λ z. behind_from k z (length b.scopes) at (behind_one edge last at b)) (sym o)
    ∙ ap (λ z. behind_from k outer z at (behind_one edge last at b)) (sym n) ∙ ap (λ z. behind_from k outer number at z) (sym e)

-- no block is open further outward
pub behind_done : (k edge last : ℕ) (at : At) (b : Body) → edge ≡ 0 → behind_from k edge last at b ≡ b
behind_done zero edge last at b h = refl
behind_done (suc k) edge last at b h =
    ap (λ v. cond v b (behind_from k (outer_edge edge b) (length b.scopes) at (behind_one edge last at b))) (eq-eqb edge 0 h)

-- the last scope is entered first
pub entered_push : (ss : List Scope) (s : Scope) (b : Body) → entered_all (ss ++ s ∷ []) b ≡ entered_all ss (entered_again s b)
entered_push [] s b = refl
entered_push (x ∷ ss) s b = ap (entered_again x) (entered_push ss s b)

-- the full-expression is around this scope
pub temporary_next : (k n : ℕ) (kind : ScopeKind) (at : At) (b : Body) (s : Scope) → s ≡ scope_in b n → is_full s.kind ≡ false
    → temporary_in (suc k) n kind at b ≡ entered_again s (temporary_in k s.parent kind at b)
temporary_next k n kind at b s e h =
    ap (λ (z : Scope). cond (is_full z.kind) (entered kind at (at_scope n b)) (entered_again z (temporary_in k z.parent kind at b))) (sym e)
    ∙ ap (λ v. cond v (entered kind at (at_scope n b)) (entered_again s (temporary_in k s.parent kind at b))) h

-- this scope is one of the full-expression
pub temporary_here : (k n : ℕ) (kind : ScopeKind) (at : At) (b : Body) (s : Scope) → s ≡ scope_in b n → is_full s.kind ≡ true
    → temporary_in (suc k) n kind at b ≡ entered kind at (at_scope n b)
temporary_here k n kind at b s e h =
    ap (λ (z : Scope). cond (is_full z.kind) (entered kind at (at_scope n b)) (entered_again z (temporary_in k z.parent kind at b))) (sym e)
    ∙ ap (λ v. cond v (entered kind at (at_scope n b)) (entered_again s (temporary_in k s.parent kind at b))) h
