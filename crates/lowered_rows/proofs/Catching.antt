-- The rows of a `try`.
use Rattle.std.proofs.Common.{◌≡◌, ℕ, Bool, true, false, cond, not, ◌&&◌, ◌||◌, List, [], ◌∷◌, ◌++◌, refl, sym, ap, ◌∙◌, true≢false, eqb-true}
use Rattle.std.specs.Prelude.{nat_eq, nat_lt, nat_le, Option, Some, None}
use Rattle.tx_code.specs.declared.body.Row.{Row}
use Rattle.low_code.specs.declared.writer.Catch.{Catch}
use Rattle.low_code.specs.Rows.{catch_row, catch_rows, catches_all}
use Rattle.lowered_rows.specs.Taking.{Taken, or_around, is_for, caught_by}
use Rattle.lowered_rows.proofs.Finding.{first, first_here}

-- what is not for a type is not for all
not_for_all : (what : ℕ) (same : Bool) → (not (nat_eq what 1) || same) ≡ false → nat_eq what 2 ≡ false
not_for_all what same = by_test (nat_eq what 1) refl where
  by_test : (v : Bool) → nat_eq what 1 ≡ v → (not v || same) ≡ false → nat_eq what 2 ≡ false
  by_test true e h = ap (λ n. nat_eq n 2) (eqb-true what 1 e)
  by_test false e h = absurd (true≢false h)

-- a catch as it takes an exception
abbrev pub caught_at : ℕ → Catch → Taken
caught_at depth caught = record { target = caught.target; what = caught.what; depth = depth }

module _ (from to i ty : ℕ) (c : (nat_le from i && nat_lt i to) ≡ true) where
  module _ (caught : Catch) (depth : ℕ) (rows rest : List Row) (later around : Option Taken) (go : first (rows ++ rest) i ty ≡ or_around later around) where
    tested : (v : Bool) → is_for caught ty ≡ v
        → or_around (cond v (Some (caught_at depth caught)) None) (first (cond (nat_eq caught.what 2) [] rows ++ rest) i ty)
        ≡ or_around (cond v (Some (caught_at depth caught)) later) around
    tested true e = refl
    tested false e = ap (λ v. first (cond v [] rows ++ rest) i ty) (not_for_all caught.what (nat_eq caught.ty ty) e) ∙ go

    -- one more catch, of this `try` or of another one
    one_more : (own : Bool)
        → first (cond own (catch_row from to depth caught ∷ cond (nat_eq caught.what 2) [] rows) rows ++ rest) i ty
        ≡ or_around (cond (own && is_for caught ty) (Some (caught_at depth caught)) later) around
    one_more true =
        first_here (catch_row from to depth caught) (cond (nat_eq caught.what 2) [] rows ++ rest) i ty c ∙ tested (is_for caught ty) refl
    one_more false = go

  -- the rows of a `try` take what its catches take
  pub catches_first : (scope depth : ℕ) (catches : List Catch) (rest : List Row)
      → first (catch_rows from to scope depth catches ++ rest) i ty ≡ or_around (caught_by scope depth ty catches) (first rest i ty)
  catches_first scope depth [] rest = refl
  catches_first scope depth (caught ∷ others) rest =
      one_more caught depth (catch_rows from to scope depth others) rest (caught_by scope depth ty others) (first rest i ty)
      (catches_first scope depth others rest) (nat_eq caught.scope scope)

module _ (caught : Catch) (scope depth ty : ℕ) (all : Bool) (later x y : Option Taken) (go : all ≡ true → or_around later x ≡ or_around later y) where
  sure_type : (v : Bool) → is_for caught ty ≡ v → (nat_eq caught.what 2 || all) ≡ true
      → or_around (cond v (Some (caught_at depth caught)) later) x ≡ or_around (cond v (Some (caught_at depth caught)) later) y
  sure_type true e h = refl
  sure_type false e h = go (sym (ap (λ v. v || all) (not_for_all caught.what (nat_eq caught.ty ty) e)) ∙ h)

  sure_scope : (own : Bool) → ((own && nat_eq caught.what 2) || all) ≡ true
      → or_around (cond (own && is_for caught ty) (Some (caught_at depth caught)) later) x
      ≡ or_around (cond (own && is_for caught ty) (Some (caught_at depth caught)) later) y
  sure_scope true h = sure_type (is_for caught ty) refl h
  sure_scope false h = go h

-- where one catch takes all, what lies around takes nothing
pub catches_sure : (scope depth ty : ℕ) (catches : List Catch) → catches_all scope catches ≡ true → (x y : Option Taken)
    → or_around (caught_by scope depth ty catches) x ≡ or_around (caught_by scope depth ty catches) y
catches_sure scope depth ty [] h x y = absurd (true≢false (sym h))
catches_sure scope depth ty (caught ∷ others) h x y =
    sure_scope caught scope depth ty (catches_all scope others) (caught_by scope depth ty others) x y
    (λ k. catches_sure scope depth ty others k x y) (nat_eq caught.scope scope) h
