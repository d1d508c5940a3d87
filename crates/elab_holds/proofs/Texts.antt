-- Classes have names in a text that is spelled.
use Rattle.std.proofs.Common.{◌≡◌, refl, ap, ◌∙◌, ℕ, true, not, List, Some}
use Rattle.std.proofs.lemmas.Bool.{and_parts, and_from}
use Rattle.elab_rules.specs.cpp_lex.Tokens.{Lexeme}
use Rattle.elab_rules.specs.cpp_ast.declared.kinds.NodeKind.TheVariants as k
use Rattle.elab_rules.specs.cpp_ast.Trees as syntax
use Rattle.elab_rules.specs.elab_ctx.Steps.{spelling}
use Rattle.elab_fits_forms.specs.Types.{is_empty}
use Rattle.elab_fits_forms.specs.Expressions.{is_spelled_token, is_spelled, are_spelled}
use Rattle.elab_contexts.specs.Texts.{is_no_name, has_class_names, have_class_names}
use Rattle.elab_holds.specs.Contexts.{TextsHaveNames}
use Rattle.elab_holds.proofs.Sound.{name_same}

spelled : (s : List Lexeme) (t : ℕ) → not (is_empty (spelling s t)) ≡ true → not (is_no_name (spelling s t)) ≡ true
spelled s t h = ap not (name_same (spelling s t)) ∙ h

mutual
  one_named : (s : List Lexeme) (t : syntax.Tree) → is_spelled s t ≡ true → has_class_names s t ≡ true
  one_named s (syntax.node k.ClassDeclaration p (Some t) kids) h = spelled s t (and_parts (is_spelled_token s (Some t)) (are_spelled s kids) h).0
  one_named s (syntax.node k.ClassSpecifier p (Some t) kids) h = spelled s t (and_parts (is_spelled_token s (Some t)) (are_spelled s kids) h).0
  one_named s (syntax.node k.LinkageSpecification p token kids) h = names_law s kids (and_parts (is_spelled_token s token) (are_spelled s kids) h).1
  one_named s (syntax.node k.LinkageBlock p token kids) h = names_law s kids (and_parts (is_spelled_token s token) (are_spelled s kids) h).1
  one_named s t h = refl

  pub names_law : (s : List Lexeme) (ts : syntax.Trees) → are_spelled s ts ≡ true → have_class_names s ts ≡ true
  names_law s syntax.none h = refl
  names_law s (syntax.more t ts) h = let p = and_parts (is_spelled s t) (are_spelled s ts) h in
      and_from (has_class_names s t) (have_class_names s ts) (one_named s t p.0) (names_law s ts p.1)

pub texts_law : TextsHaveNames
texts_law = names_law
