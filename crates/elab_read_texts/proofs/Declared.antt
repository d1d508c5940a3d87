-- What a declarator declares has the name of a node in it.
use Rattle.std.proofs.Common.{◌≡◌, refl, Bool, true, false, not, ◌&&◌, List, Some}
use Rattle.std.proofs.lemmas.Bool.{and_parts}
use Rattle.elab_rules.specs.cpp_types.Typ.{Typ}
use Rattle.elab_rules.specs.cpp_types.declared.classes.At.{At}
use Rattle.elab_rules.specs.cpp_tree.declared.faults.IllRule.TheVariants.{BadDeclaration}
use Rattle.cpp_lex.specs.Tokens.{Lexeme}
use Rattle.cpp_ast.specs.declared.kinds.NodeKind.TheVariants as k
use Rattle.cpp_ast.specs.Trees as syntax
use Rattle.elab_rules.specs.elab_ctx.Ctx.{Ctx, Work, Closure}
use Rattle.elab_rules.specs.elab_ctx.Steps.{and_then, check}
use Rattle.elab_rules.specs.Types.{Declared, Parameter, Qualifiers, is_name, pointer_to, reference_to, open_array, function_of, with_function, qualifiers_of}
use Rattle.elab_rules.specs.Types.{is_declared_safe}
use Rattle.elab_rules.specs.Expressions.{declared_with, pointed_with, parameters_in_with, expression_with, chosen_operand, bounded}
use Rattle.elab_fits.specs.Standing.{On}
use Rattle.elab_fits.proofs.Steps.{bind, skip}
use Rattle.elab_read_texts.specs.Names.{is_plain_token, declares_plainly, declare_plainly}
use Rattle.elab_read_texts.specs.Overriding.{DeclaratorsNamed}

abbrev Plainly : List Lexeme → Declared → Type 0
Plainly s r = is_plain_token s r.name ≡ true

with_plainly : (s : List Lexeme) (at : At) (b : Bool) (ps : List Parameter) (q : Qualifiers) (d : Declared) → Plainly s d
    → On (Plainly s) (with_function at b ps q d)
with_plainly s at true ps q d h = h
with_plainly s at false ps q d h = skip (Plainly s) (check at BadDeclaration (not q.is_const && not q.is_dynamic)) _ (λ y. h)

-- the first kid of a node
first_kid : (s : List Lexeme) (a : Bool) (d : syntax.Tree) (ts : syntax.Trees) → (a && declare_plainly s (syntax.more d ts)) ≡ true
    → declares_plainly s d ≡ true
first_kid s a d ts h = (and_parts (declares_plainly s d) (declare_plainly s ts) (and_parts a (declare_plainly s (syntax.more d ts)) h).1).0

mutual
  pub declared_plainly : (s : List Lexeme) (c : Ctx) (l : List Closure) (w : Work) (at : At) (t : Typ) (d : syntax.Tree) → declares_plainly s d ≡ true
      → On (Plainly s) (declared_with s c l w at t d)
  declared_plainly s c l w at t (syntax.node k.DeclaratorId p token kids) h = (and_parts (is_plain_token s token) (declare_plainly s kids) h).0
  declared_plainly s c l w at t (syntax.node k.DestructorId p token kids) h = (and_parts (is_plain_token s token) (declare_plainly s kids) h).0
  declared_plainly s c l w at t (syntax.node k.QualifiedDeclaratorId p token kids) h = (and_parts (is_plain_token s token) (declare_plainly s kids) h).0
  declared_plainly s c l w at t (syntax.node k.QualifiedDestructorId p token kids) h = (and_parts (is_plain_token s token) (declare_plainly s kids) h).0
  declared_plainly s c l w at t (syntax.node k.OmittedId p token kids) h = refl
  declared_plainly s c l w at t (syntax.node k.ParenthesizedDeclarator p token (syntax.more d syntax.none)) h =
      declared_plainly s c l w at t d (first_kid s true d syntax.none h)
  declared_plainly s c l w at t (syntax.node k.PointerDeclarator p token kids) h =
      skip (Plainly s) (pointer_to at t) _ (λ u. pointed_plainly s c l w at u kids h)
  declared_plainly s c l w at t (syntax.node k.ReferenceDeclarator p token (syntax.more d syntax.none)) h =
      skip (Plainly s) (reference_to at t) _ (λ u. declared_plainly s c l w at u d (first_kid s true d syntax.none h))
  declared_plainly s c l w at t (syntax.node k.ArrayDeclarator p token (syntax.more d syntax.none)) h =
      skip (Plainly s) (open_array at t) _ (λ u. declared_plainly s c l w at u d (first_kid s true d syntax.none h))
  declared_plainly s c l w at t (syntax.node k.ArrayDeclarator p token (syntax.more d (syntax.more e syntax.none))) h =
      skip (Plainly s) (and_then (expression_with s c l w e) (chosen_operand c)) _
      (λ x. skip (Plainly s) (bounded c w at t x.operand) _
      (λ u. declared_plainly s c l w at u d (first_kid s true d (syntax.more e syntax.none) h)))
  declared_plainly s c l w at t (syntax.node k.FunctionDeclarator p token (syntax.more d (syntax.more ps (syntax.more q syntax.none)))) h =
      skip (Plainly s) (parameters_in_with s c l w ps) _
      (λ xs. skip (Plainly s) (function_of c at t xs (is_declared_safe (qualifiers_of s q))) _
      (λ u. bind (Plainly s) (Plainly s) (declared_with s c l w at u d) _
      (declared_plainly s c l w at u d (first_kid s true d (syntax.more ps (syntax.more q syntax.none)) h))
      (λ r j. with_plainly s at (is_name d) xs (qualifiers_of s q) r j)))
  declared_plainly s c l w at t d h = tt

  pointed_plainly : (s : List Lexeme) (c : Ctx) (l : List Closure) (w : Work) (at : At) (t : Typ) (ts : syntax.Trees) → declare_plainly s ts ≡ true
      → On (Plainly s) (pointed_with s c l w at t ts)
  pointed_plainly s c l w at t (syntax.more (syntax.node k.CvQualifier p (Some n) kids) ts) h =
      pointed_plainly s c l w at _ ts (and_parts (declares_plainly s (syntax.node k.CvQualifier p (Some n) kids)) (declare_plainly s ts) h).1
  pointed_plainly s c l w at t (syntax.more d syntax.none) h =
      declared_plainly s c l w at t d (and_parts (declares_plainly s d) true h).0
  pointed_plainly s c l w at t ts h = tt

pub declarators_named : DeclaratorsNamed
declarators_named s c w at t d h = declared_plainly s c c.closures w at t d h
