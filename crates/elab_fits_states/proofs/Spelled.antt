-- Texts that are spelled.
use Rattle.std.proofs.Common.{◌≡◌, refl, sym, ap, ◌∙◌, ℕ, true, not, List, [], ◌∷◌, Some, None}
use Rattle.std.proofs.lemmas.Bool.{and_parts}
use Rattle.elab_rules.specs.cpp_lex.Tokens.{Lexeme}
use Rattle.elab_rules.specs.cpp_ast.Trees as syntax
use Rattle.elab_rules.specs.elab_ctx.Steps.{spelling}
use Rattle.elab_rules.specs.Types.{is_nothing}
use Rattle.elab_fits.proofs.Nodes.{both}
use Rattle.elab_sound_types.specs.Contexts as texts
use Rattle.elab_fits_forms.specs.Types as forms
use Rattle.elab_fits_forms.specs.Expressions.{is_spelled_token, is_spelled, are_spelled}

empty_same : (b : List ℕ) → forms.is_empty b ≡ is_nothing b
empty_same [] = refl
empty_same (x ∷ xs) = refl

module _ (s : List Lexeme) where
  mutual
    pub spelled : (t : syntax.Tree) → is_spelled s t ≡ true → texts.is_spelled s t ≡ true
    spelled (syntax.node kind p (Some n) kids) h = let a = and_parts (is_spelled_token s (Some n)) (are_spelled s kids) h in
        both (ap not (sym (empty_same (spelling s n))) ∙ a.0) (all_spelled kids a.1)
    spelled (syntax.node kind p None kids) h = all_spelled kids (and_parts (is_spelled_token s None) (are_spelled s kids) h).1

    pub all_spelled : (ts : syntax.Trees) → are_spelled s ts ≡ true → texts.are_spelled s ts ≡ true
    all_spelled syntax.none h = refl
    all_spelled (syntax.more t ts) h = let a = and_parts (is_spelled s t) (are_spelled s ts) h in both (spelled t a.0) (all_spelled ts a.1)
