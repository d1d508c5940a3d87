-- The parts of texts are texts.
use Rattle.std.proofs.Common.{◌≡◌, refl, ℕ, true, false, not, List, [], ◌∷◌, Option, Some}
use Rattle.std.proofs.lemmas.Bool.{and_parts}
use Rattle.elab_rules.specs.cpp_lex.Tokens.{Lexeme}
use Rattle.elab_rules.specs.cpp_ast.declared.arena.At.{At as SyntaxAt}
use Rattle.elab_rules.specs.cpp_ast.declared.kinds.NodeKind.{NodeKind}
use Rattle.elab_rules.specs.cpp_ast.Trees as syntax
use Rattle.elab_rules.specs.elab_ctx.Steps.{spelling}
use Rattle.elab_rules.specs.Types.{is_nothing}
use Rattle.elab_fits_forms.specs.Types.{is_empty}
use Rattle.elab_fits_forms.specs.Expressions.{is_spelled_token, is_spelled, are_spelled}
use Rattle.elab_fits_states.specs.States.{IsText, AreTexts, is_handled, has_handlers, have_handlers}
use Rattle.elab_rules.specs.cpp_ast.declared.kinds.NodeKind.TheVariants.{ClassSpecifier}
use Rattle.elab_read_texts.specs.Names.{is_class_name, is_node_named, is_named, are_named}
use Rattle.elab_fits_units.specs.Named.{IsNamedText, AreNamedTexts, IsTitle}

pub kids_texts : (s : List Lexeme) (kind : NodeKind) (p : SyntaxAt) (token : Option ℕ) (ts : syntax.Trees) → IsText s (syntax.node kind p token ts) → AreTexts s ts
kids_texts s kind p token ts h = record {
  spelled = (and_parts (is_spelled_token s token) (are_spelled s ts) h.spelled).1;
  handled = (and_parts (is_handled kind ts) (have_handlers ts) h.handled).1;
}

pub first_text : (s : List Lexeme) (t : syntax.Tree) (ts : syntax.Trees) → AreTexts s (syntax.more t ts) → IsText s t
first_text s t ts h = record {
  spelled = (and_parts (is_spelled s t) (are_spelled s ts) h.spelled).0;
  handled = (and_parts (has_handlers t) (have_handlers ts) h.handled).0;
}

pub rest_texts : (s : List Lexeme) (t : syntax.Tree) (ts : syntax.Trees) → AreTexts s (syntax.more t ts) → AreTexts s ts
rest_texts s t ts h = record {
  spelled = (and_parts (is_spelled s t) (are_spelled s ts) h.spelled).1;
  handled = (and_parts (has_handlers t) (have_handlers ts) h.handled).1;
}

named : (xs : List ℕ) → not (is_empty xs) ≡ true → is_nothing xs ≡ false
named [] h = absurd cc
named (x ∷ xs) h = refl

pub spelled_token : (s : List Lexeme) (kind : NodeKind) (p : SyntaxAt) (t : ℕ) (ts : syntax.Trees) → IsText s (syntax.node kind p (Some t) ts)
    → is_nothing (spelling s t) ≡ false
spelled_token s kind p t ts h = named (spelling s t) (and_parts (not (is_empty (spelling s t))) (are_spelled s ts) h.spelled).0

-- with the names that they declare

pub kids_named : (s : List Lexeme) (kind : NodeKind) (p : SyntaxAt) (token : Option ℕ) (ts : syntax.Trees) → IsNamedText s (syntax.node kind p token ts)
    → AreNamedTexts s ts
kids_named s kind p token ts h = record {
  texts = kids_texts s kind p token ts h.text;
  named = (and_parts (is_node_named s kind token ts) (are_named s ts) h.named).1;
}

pub first_named : (s : List Lexeme) (t : syntax.Tree) (ts : syntax.Trees) → AreNamedTexts s (syntax.more t ts) → IsNamedText s t
first_named s t ts h = record { text = first_text s t ts h.texts; named = (and_parts (is_named s t) (are_named s ts) h.named).0 }

pub rest_named : (s : List Lexeme) (t : syntax.Tree) (ts : syntax.Trees) → AreNamedTexts s (syntax.more t ts) → AreNamedTexts s ts
rest_named s t ts h = record { texts = rest_texts s t ts h.texts; named = (and_parts (is_named s t) (are_named s ts) h.named).1 }

pub titled_text : (s : List Lexeme) (p : SyntaxAt) (t : ℕ) (ts : syntax.Trees) → IsNamedText s (syntax.node ClassSpecifier p (Some t) ts) → IsTitle s (spelling s t)
titled_text s p t ts h = (and_parts (is_class_name s (spelling s t)) (are_named s ts) h.named).0
