-- The initialiser that a context has for a member.
use Rattle.std.proofs.Common.{◌≡◌, refl, sym, ap, ◌∙◌, ℕ, suc, Bool, true, false, ◌&&◌, List, [], ◌∷◌, Some, slice_get, eqb-true}
use Rattle.std.proofs.lemmas.Bool.{and_parts}
use Rattle.std.specs.Prelude.{if◌then◌else◌, ◌==◌}
use Rattle.elab_rules.specs.elab_ctx.Ctx.{Default}
use Rattle.elab_rules.specs.Braces.{default_at}

-- the initialiser that is kept for a member
pub record DefaultAt (n i : ℕ) (ds : List Default) (d : Default) : Type 0 where
  pub index : ℕ
  pub at : slice_get ds index ≡ Some d
  pub class : d.class ≡ n
  pub member : d.member ≡ i

pub default_found : (n i : ℕ) (ds : List Default) (d : Default) → default_at n i ds ≡ Some d → DefaultAt n i ds d
default_found n i [] d h = absurd cc
default_found n i (x ∷ ds) d h = by (x.class == n && x.member == i) refl h (λ g. default_found n i ds d g)
  where
    later : DefaultAt n i ds d → DefaultAt n i (x ∷ ds) d
    later y = record { index = suc y.index; at = y.at; class = y.class; member = y.member }

    by : (b : Bool) → (x.class == n && x.member == i) ≡ b → (if b then Some x else default_at n i ds) ≡ Some d
        → (default_at n i ds ≡ Some d → DefaultAt n i ds d) → DefaultAt n i (x ∷ ds) d
    by true e g f =
        let a = and_parts (x.class == n) (x.member == i) e in
        let q : x ≡ d = cc in
        record {
          index = 0;
          at = ap Some q;
          class = ap (λ (y : Default). y.class) (sym q) ∙ eqb-true x.class n a.0;
          member = ap (λ (y : Default). y.member) (sym q) ∙ eqb-true x.member i a.1;
        }
    by false e g f = later (f g)
