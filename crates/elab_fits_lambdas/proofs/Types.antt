-- The state in which the body of a lambda begins has sound types.
use Rattle.std.proofs.Common.{◌≡◌, refl, sym, subst, true, false, List}
use Rattle.std.proofs.lemmas.Bool.{and_parts}
use Rattle.elab_rules.specs.cpp_types.Typ.{Typ, void, func, Signature, signature, none as no_typs}
use Rattle.elab_rules.specs.cpp_types.Class.{Class}
use Rattle.elab_rules.specs.cpp_lex.Tokens.{Lexeme}
use Rattle.elab_rules.specs.cpp_ast.Trees as syntax
use Rattle.elab_rules.specs.cpp_tree.Notation.{plain}
use Rattle.elab_rules.specs.elab_ctx.Ctx.{known}
use Rattle.elab_rules.specs.Types.{types_of}
use Rattle.elab_rules.specs.Statements.{State}
use Rattle.elab_rules.specs.Lambdas as lambdas
use Rattle.elab_rules.specs.Lambdas.{Written, declared_closure}
use Rattle.elab_fits.proofs.Steps.{answered}
use Rattle.elab_sound_types.specs.Types.{result, is_sound, is_sound_signature, are_sound}
use Rattle.elab_sound_types.specs.Contexts.{is_spelled, are_spelled}
use Rattle.elab_sound_types.specs.States.{IsSoundState}
use Rattle.elab_sound_types.proofs.Growth.{sound_more}
use Rattle.elab_sound_types.proofs.Names.{IfThere}
use Rattle.elab_sound_types.proofs.Written.{IsDenoted, AreParameters}
use Rattle.elab_sound_types.proofs.Expressions.{first_spelled, rest_spelled}
use Rattle.elab_sound_types.proofs.Lambdas.{AreCaptures, explicit_captures, default_captures}
use Rattle.elab_sound_types.proofs.Closures.{parameters_more}
use Rattle.elab_sound_types.proofs.Bodies.{IsSoundLambda, IsDeclared, with_lambda, with_nothing, lambda_kept, call_known, entered, lambda_type, result_of}
use Rattle.elab_sound_types.proofs.Bodies.{parameters_among, result_among, kids_of_spelled}
use Rattle.elab_fits_lambdas.specs.Made.{lambda_inside, call_signature, IsWritten, HasParts, three, two, IsLambda}

-- What is written of a lambda

module _ (s : List Lexeme) where
  written_sound : (st : State) (intro parts : syntax.Trees) (body : syntax.Tree) (x : Written) → IsWritten s st intro parts body x → IsSoundState st
      → is_spelled s body ≡ true → IsSoundLambda s st.ctx.classes x
  written_sound st intro parts body x w h i = record {
    captures = answered (AreCaptures cs) _ x.captures (default_captures st.ctx st.work h.context (lambdas.default_in s intro) w.named
        (lambdas.used_in s st.ctx x.params body)
        (answered (AreCaptures cs) _ w.named (explicit_captures st.ctx st.work h.context s (lambdas.default_in s intro) intro) w.explicit)) w.defaults;
    params = answered (AreParameters cs) _ x.params (parameters_among s st.ctx st.work parts h.context) w.params;
    result = answered (IfThere (IsDenoted cs)) _ x.result (result_among s st.ctx st.work parts h.context) w.result;
    spelled = subst (λ (ts : syntax.Trees). are_spelled s ts ≡ true) (sym w.read) (kids_of_spelled s body i);
  }
    where
      cs : List Class
      cs = st.ctx.classes

  body_spelled : (kids intro parts : syntax.Trees) (body : syntax.Tree) → HasParts kids intro parts body → are_spelled s kids ≡ true → is_spelled s body ≡ true
  body_spelled kids intro parts body (three i p e f g) h = first_spelled s body syntax.none (rest_spelled s p (syntax.more body syntax.none)
      (rest_spelled s i (syntax.more p (syntax.more body syntax.none)) (subst (λ (ts : syntax.Trees). are_spelled s ts ≡ true) e h)))
  body_spelled kids intro parts body (two i e f g) h = first_spelled s body syntax.none (rest_spelled s i (syntax.more body syntax.none)
      (subst (λ (ts : syntax.Trees). are_spelled s ts ≡ true) e h))

-- the state on entry
pub record IsSoundEntry (s : List Lexeme) (st : State) (x : Written) (r : Typ) : Type 0 where
  pub state : IsSoundState (lambda_inside st x (known r) r (call_signature x r))
  pub params : AreParameters (declared_closure st x (call_signature x r)).classes x.params
  pub body : are_spelled s x.body ≡ true
  pub result : is_sound (declared_closure st x (call_signature x r)).classes result r ≡ true

pub entry_sound : (s : List Lexeme) (st : State) (kids : syntax.Trees) (y : State) (h : IsLambda s st kids y) → IsSoundState st
    → are_spelled s kids ≡ true → IsSoundEntry s st h.text h.made.result
entry_sound s st kids y h i e = record {
  state = entered s st x (known r) r g i w q refl;
  params = parameters_more st.ctx.classes (with_lambda st x g) (lambda_kept st x g) x.params w.params;
  body = w.spelled;
  result = sound_more (with_nothing st x) (with_lambda st x g) (call_known st x (signature no_typs (plain void) false) g) result r
      (and_parts (are_sound (with_nothing st x) (types_of x.params)) (is_sound (with_nothing st x) result r) q).1;
}
  where
    x : Written
    x = h.text

    r : Typ
    r = h.made.result

    g : Signature
    g = call_signature x r

    w : IsSoundLambda s st.ctx.classes x
    w = written_sound s st h.intro h.parts h.body x h.written i (body_spelled s kids h.intro h.parts h.body h.has e)

    q : is_sound_signature (with_nothing st x) g ≡ true
    q = answered (IsDenoted (with_nothing st x)) (lambdas.lambda_type st.ctx x r) (plain (func g))
        (lambda_type s st x r w (answered (IsDeclared (with_nothing st x)) _ r (result_of s st x x.result i w w.result) h.made.said)) h.made.known.typed
