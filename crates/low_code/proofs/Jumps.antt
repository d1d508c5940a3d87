-- Jumps that are bound one by one.
use Rattle.std.proofs.Common.{◌≡◌, ◌∙◌, sym, ℕ, ◌+◌, List, ap, drop, cond, true, false, refl}
use Rattle.std.specs.Prelude.{Some, slice_get, fold}
use Rattle.low_code.specs.declared.writer.Sort.{Sort}
use Rattle.low_code.specs.declared.writer.Pending.{Pending}
use Rattle.low_code.specs.Writer.{Body, bound, leads_to, bound_there, bound_all}
use Rattle.low_code.proofs.Lists.{drop_at}

pub bound_step : (scope : ℕ) (sort : Sort) (b : Body) (ps : List Pending) (i : ℕ) (p : Pending) → slice_get ps i ≡ Some p
    → fold (bound_there scope sort) b (drop i ps) ≡ fold (bound_there scope sort) (bound_there scope sort b p) (drop (i + 1) ps)
bound_step scope sort b ps i p e = ap (fold (bound_there scope sort) b) (drop_at ps i p e)

-- the jumps that wait stay
pub pending_kept : (scope : ℕ) (sort : Sort) (b : Body) (p : Pending) → (bound_there scope sort b p).pending ≡ b.pending
pending_kept scope sort b p =
    elim (leads_to scope sort p) as (λ v. (cond v (bound (Some p.jump) b) b).pending ≡ b.pending) [ true ↦ refl | false ↦ refl ]

-- one more jump is bound
pub bind_next : (scope : ℕ) (sort : Sort) (b0 b new : Body) (i : ℕ) (p : Pending)
    → (b.pending ≡ b0.pending) × (bound_all scope sort b0 ≡ fold (bound_there scope sort) b (drop i b0.pending))
    → slice_get b.pending i ≡ Some p → new ≡ bound_there scope sort b p
    → (new.pending ≡ b0.pending) × (bound_all scope sort b0 ≡ fold (bound_there scope sort) new (drop (i + 1) b0.pending))
bind_next scope sort b0 b new i p h e n =
    let found : slice_get b0.pending i ≡ Some p = ap (λ z. slice_get z i) (sym h.0) ∙ e in (
      ap (λ (z : Body). z.pending) n ∙ pending_kept scope sort b p ∙ h.0,
      h.1 ∙ bound_step scope sort b b0.pending i p found ∙ ap (λ z. fold (bound_there scope sort) z (drop (i + 1) b0.pending)) (sym n),
    )
