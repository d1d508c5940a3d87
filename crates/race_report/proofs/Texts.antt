-- The text of a report.
use Rattle.std.proofs.Common.{ℕ, ◌≡◌, true, false, refl, ap, sym, ◌∙◌, List, [], ◌∷◌, ◌++◌, append_assoc, codes, decimal}
use Rattle.std.specs.Prelude.{◌||◌}
use Rattle.serde_json.proofs.OnLiterals.{serde_json_on_literals}
use Rattle.serde_json.specs.Data.{Data, array, object, member, no_members}
use Rattle.serde_json.specs.View.{items_of}
use Rattle.serde_json.specs.Written.{compact_text, items_text, has_float, items_have_float}
use Rattle.race_report.specs.Report.{numbers_of, numbers_behind, numbers_text, report_text}

abbrev report_data : List ℕ → Data
report_data words = object (member (codes "races") (array (items_of (numbers_of words))) no_members)

no_floats : (words : List ℕ) → items_have_float (items_of (numbers_of words)) ≡ false
no_floats [] = refl
no_floats (w ∷ ws) = no_floats ws

no_float : (words : List ℕ) → has_float (report_data words) ≡ false
no_float words = ap (λ b. b || false) (no_floats words)

behind : (words : List ℕ) → items_text true (items_of (numbers_of words)) ≡ (numbers_behind words ++ 93 ∷ [])
behind [] = refl
behind (w ∷ ws) = ap (λ s. 44 ∷ (decimal w ++ s)) (behind ws) ∙ ap (λ s. 44 ∷ s) (sym (append_assoc (decimal w) (numbers_behind ws) (93 ∷ [])))

numbers : (words : List ℕ) → items_text false (items_of (numbers_of words)) ≡ (numbers_text words ++ 93 ∷ [])
numbers [] = refl
numbers (w ∷ ws) = ap (λ s. decimal w ++ s) (behind ws) ∙ sym (append_assoc (decimal w) (numbers_behind ws) (93 ∷ []))

text : (words : List ℕ) → (compact_text (report_data words) ++ 10 ∷ []) ≡ report_text words
unfolding serde_json_on_literals
text words =
    ap (λ s. codes "{\"races\":[" ++ ((s ++ 125 ∷ []) ++ 10 ∷ [])) (numbers words)
    ∙ ap (λ s. codes "{\"races\":[" ++ s)
    (ap (λ s. s ++ 10 ∷ []) (append_assoc (numbers_text words) (93 ∷ []) (125 ∷ [])) ∙ append_assoc (numbers_text words) (93 ∷ 125 ∷ []) (10 ∷ []))

-- the text of the value, and a newline
pub report_is : (d : Data) (words s whole : List ℕ) → d ≡ report_data words → (has_float d ≡ false → s ≡ compact_text d) → whole ≡ (s ++ 10 ∷ [])
    → whole ≡ report_text words
report_is d words s whole is f e = e ∙ (ap (λ z. z ++ 10 ∷ []) (f (ap has_float is ∙ no_float words) ∙ ap compact_text is) ∙ text words)
