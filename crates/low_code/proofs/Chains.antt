-- The rows of a chain of scopes.
use Rattle.std.proofs.Common.{◌≡◌, ◌∙◌, ℕ, suc, List, ◌++◌, sym, ap}
use Rattle.std.specs.Prelude.{Option, Some, None, unwrap_or}
use Rattle.std.proofs.lemmas.List.{append-nil}
use Rattle.tx_code.specs.declared.body.Row.{Row}
use Rattle.low_code.specs.declared.scopes.Scope.{Scope}
use Rattle.low_code.specs.Writer.{Body, scope_in}
use Rattle.low_code.specs.Rows.{rows_by, last_by, goes_on, chain_rows, chain_last}

module _ (k : ℕ) (b : Body) (from to number : ℕ) (found : Scope) (f : found ≡ scope_in b number) (o : Option ℕ) where
  module _ (old new : List Row) (r : (around : List Row) → new ++ goes_on o around ≡ old ++ rows_by b from to number found.kind around) where
    -- the chain ends at this scope
    pub rows_end : (last : ℕ) → o ≡ Some last → new ≡ old ++ chain_rows (suc k) b from to number
    rows_end last e =
        let around : List Row = chain_rows k b from to (scope_in b number).parent in
        sym (append-nil new) ∙ sym (ap (λ (z : Option ℕ). new ++ goes_on z around) e) ∙ r around
        ∙ ap (λ (z : Scope). old ++ rows_by b from to number z.kind around) f

    -- the chain goes on outward
    pub rows_go : o ≡ None → new ++ chain_rows k b from to found.parent ≡ old ++ chain_rows (suc k) b from to number
    rows_go e =
        let around : List Row = chain_rows k b from to found.parent in
        sym (ap (λ (z : Option ℕ). new ++ goes_on z around) e) ∙ r around
        ∙ ap (λ (z : Scope). old ++ rows_by b from to number z.kind (chain_rows k b from to z.parent)) f

  module _ (r : (around : ℕ) → unwrap_or o around ≡ last_by b number found.kind around) where
    pub last_end : (last : ℕ) → o ≡ Some last → last ≡ chain_last (suc k) b number
    last_end last e =
        let around : ℕ = chain_last k b (scope_in b number).parent in
        sym (ap (λ (z : Option ℕ). unwrap_or z around) e) ∙ r around ∙ ap (λ (z : Scope). last_by b number z.kind around) f

    pub last_go : o ≡ None → chain_last k b found.parent ≡ chain_last (suc k) b number
    last_go e =
        sym (ap (λ (z : Option ℕ). unwrap_or z (chain_last k b found.parent)) e) ∙ r (chain_last k b found.parent)
        ∙ ap (λ (z : Scope). last_by b number z.kind (chain_last k b z.parent)) f
