-- What a body names, item by item.
use Rattle.std.proofs.lemmas.List.Folds.{list_all-append}
use Rattle.std.proofs.Common.{◌≡◌, refl, ap, ◌∙◌, sym, Bool, true, ◌&&◌, ℕ, List, [], ◌∷◌, ◌++◌}
use Rattle.std.specs.List.{list_all, flat_map}
use Rattle.tx_code.specs.declared.instr.Instr.{Instr}
use Rattle.tx_code.specs.declared.body.Row.{Row}
use Rattle.tx_code.specs.WellFormed.{is_name, named_by, named_by_row}

pub each : {A : Type 0} (p : ℕ → Bool) (f : A → List ℕ) (xs : List A) → list_all p (flat_map f xs) ≡ list_all (λ x. list_all p (f x)) xs
each p f [] = refl
each p f (x ∷ xs) = list_all-append p (f x) (flat_map f xs) ∙ ap (λ b. list_all p (f x) && b) (each p f xs)

pub body_named : (n : ℕ) (code : List Instr) (rows : List Row)
    → list_all (is_name n) (flat_map named_by code ++ flat_map named_by_row rows)
    ≡ (list_all (λ instr. list_all (is_name n) (named_by instr)) code && list_all (λ row. list_all (is_name n) (named_by_row row)) rows)
body_named n code rows = list_all-append (is_name n) (flat_map named_by code) (flat_map named_by_row rows)
    ∙ (ap (λ b. b && list_all (is_name n) (flat_map named_by_row rows)) (each (is_name n) named_by code)
    ∙ ap (λ b. list_all (λ instr. list_all (is_name n) (named_by instr)) code && b) (each (is_name n) named_by_row rows))
