-- What is asked of texts: a class has a name.
use Rattle.std.specs.Prelude.{ℕ, Bool, true, false, not, ◌&&◌, List, [], ◌∷◌, Some}
use Rattle.elab_rules.specs.cpp_lex.Tokens.{Lexeme}
use Rattle.elab_rules.specs.cpp_ast.declared.kinds.NodeKind.TheVariants as k
use Rattle.elab_rules.specs.cpp_ast.Trees as syntax
use Rattle.elab_rules.specs.elab_ctx.Steps.{spelling}

abbrev pub is_no_name : List ℕ → Bool
is_no_name [] = true
is_no_name (b ∷ bs) = false

-- of declarations at file scope: the names of classes are spelled with something, as each token is that was read
abbrev mutual
  pub has_class_names : List Lexeme → syntax.Tree → Bool
  has_class_names s (syntax.node k.ClassDeclaration p (Some t) kids) = not (is_no_name (spelling s t))
  has_class_names s (syntax.node k.ClassSpecifier p (Some t) kids) = not (is_no_name (spelling s t))
  has_class_names s (syntax.node k.LinkageSpecification p token kids) = have_class_names s kids
  has_class_names s (syntax.node k.LinkageBlock p token kids) = have_class_names s kids
  has_class_names s t = true

  pub have_class_names : List Lexeme → syntax.Trees → Bool
  have_class_names s syntax.none = true
  have_class_names s (syntax.more t ts) = has_class_names s t && have_class_names s ts
