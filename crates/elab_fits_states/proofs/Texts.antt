-- Texts and their kids.
use Rattle.std.proofs.Common.{◌≡◌, ℕ, true, ◌&&◌, List, Option}
use Rattle.std.proofs.lemmas.Bool.{and_parts}
use Rattle.elab_rules.specs.cpp_lex.Tokens.{Lexeme}
use Rattle.elab_rules.specs.cpp_ast.declared.arena.At.{At as SyntaxAt}
use Rattle.elab_rules.specs.cpp_ast.declared.kinds.NodeKind.{NodeKind}
use Rattle.elab_rules.specs.cpp_ast.declared.kinds.NodeKind.TheVariants as k
use Rattle.elab_rules.specs.cpp_ast.Trees as syntax
use Rattle.elab_fits_forms.specs.Expressions.{is_spelled_token, is_spelled, are_spelled}
use Rattle.elab_fits_states.specs.States.{is_handled, has_handlers, have_handlers, IsText, AreTexts}

module _ (s : List Lexeme) where
  pub kids : (kind : NodeKind) (p : SyntaxAt) (token : Option ℕ) (ts : syntax.Trees) → IsText s (syntax.node kind p token ts) → AreTexts s ts
  kids kind p token ts x = record {
    spelled = (and_parts (is_spelled_token s token) (are_spelled s ts) x.spelled).1;
    handled = (and_parts (is_handled kind ts) (have_handlers ts) x.handled).1;
  }

  pub first : (t : syntax.Tree) (ts : syntax.Trees) → AreTexts s (syntax.more t ts) → IsText s t
  first t ts x = record {
    spelled = (and_parts (is_spelled s t) (are_spelled s ts) x.spelled).0;
    handled = (and_parts (has_handlers t) (have_handlers ts) x.handled).0;
  }

  pub rest : (t : syntax.Tree) (ts : syntax.Trees) → AreTexts s (syntax.more t ts) → AreTexts s ts
  rest t ts x = record {
    spelled = (and_parts (is_spelled s t) (are_spelled s ts) x.spelled).1;
    handled = (and_parts (has_handlers t) (have_handlers ts) x.handled).1;
  }

  pub handled : (p : SyntaxAt) (token : Option ℕ) (t : syntax.Tree) → IsText s (syntax.node k.TryBlock p token (syntax.more t syntax.none)) → ⊥
  handled p token t x = no x.handled
    where
      no : is_handled k.TryBlock (syntax.more t syntax.none) && have_handlers (syntax.more t syntax.none) ≡ true → ⊥
      no h = absurd cc
