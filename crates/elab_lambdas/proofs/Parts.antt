-- The parts of a lambda, one behind the other.
use Rattle.std.proofs.Common.{◌≡◌, ◌∙◌, ℕ, Bool, List, Option, Result, Ok, refl, sym, ap, subst}
use Rattle.elab_entry.specs.cpp_lex.Tokens.{Lexeme}
use Rattle.elab_entry.specs.cpp_ast.Trees.{Tree, Trees}
use Rattle.elab_entry.specs.cpp_types.Typ.{Typ}
use Rattle.elab_entry.specs.cpp_types.declared.classes.At.{At}
use Rattle.elab_entry.specs.cpp_tree.declared.faults.ElabFault.{ElabFault}
use Rattle.elab_entry.specs.elab_ctx.Ctx.{Capture}
use Rattle.elab_entry.specs.elab_ctx.declared.env.Work.{Work as WorkRec}
use Rattle.elab_entry.specs.elab_ctx.Steps.{and_then}
use Rattle.elab_entry.specs.elab_ctx.Says.{Faults}
use Rattle.elab_entry.proofs.elab_ctx.Making.{faults_in, faults_same}
use Rattle.elab_entry.specs.elab_rules.Types.{Parameter, Qualifiers, no_qualifiers, qualifiers_from}
use Rattle.elab_entry.specs.elab_rules.Statements.{State}
use Rattle.elab_entry.specs.elab_rules.Lambdas.{Otherwise, Written, explicit_captures, default_in, parameters_among, not_dynamic, result_among}
use Rattle.elab_entry.specs.elab_rules.Lambdas.{default_captures, used_in, has_mutable, kids_of, place_of_tree, closing}
use Rattle.elab_entry.specs.elab_scopes.elab_expr.Unmoved.{Unmoved}
use Rattle.elab_entry.specs.elab_scopes.declared.state.State.{State as StateRec}
use Rattle.elab_entry.specs.elab_scopes.States.{state_of}
use Rattle.elab_entry.specs.elab_scopes.Says.{Changes}
use Rattle.elab_entry.proofs.elab_scopes.Labelling.{unmoved_grown, unmoved_state}
use Rattle.elab_entry.proofs.elab_scopes.Standing.{changes_after}
use Rattle.elab_lambdas.specs.Whole.{lambda_written, lambda_from, lambda_made}

-- what is known of an introducer and of what stands behind it, step by step
abbrev after_result : List Lexeme → State → At → Trees → Trees → Tree → Otherwise → List Capture → List Parameter → Qualifiers → Option Typ
    → Result Written ElabFault
after_result s st at intro parts body d xs ps q r = and_then (default_captures st.ctx d xs (used_in s st.ctx ps body))
    (λ (ys : List Capture). Ok (record {
      at = at;
      captures = ys;
      params = ps;
      qualifiers = q;
      is_mutable = has_mutable parts;
      result = r;
      body = kids_of body;
      body_at = place_of_tree body;
      closed = closing s body;
    }))

abbrev after_words : List Lexeme → State → At → Trees → Trees → Tree → Otherwise → List Capture → List Parameter → Qualifiers → Result Written ElabFault
after_words s st at intro parts body d xs ps q = and_then (result_among s st.ctx st.work parts)
    (λ (r : Option Typ). after_result s st at intro parts body d xs ps q r)

abbrev after_parameters : List Lexeme → State → At → Trees → Trees → Tree → Otherwise → List Capture → List Parameter → Qualifiers → Result Written ElabFault
after_parameters s st at intro parts body d xs ps q = and_then (not_dynamic at q) (λ y. after_words s st at intro parts body d xs ps q)

abbrev after_captures : List Lexeme → State → At → Trees → Trees → Tree → Otherwise → List Capture → Qualifiers → Result Written ElabFault
after_captures s st at intro parts body d xs q = and_then (parameters_among s st.ctx st.work parts)
    (λ (ps : List Parameter). after_parameters s st at intro parts body d xs ps q)

abbrev by_parts : List Lexeme → State → At → Trees → Trees → Tree → Otherwise → Qualifiers → Result Written ElabFault
by_parts s st at intro parts body d q = and_then (explicit_captures s st.ctx d intro) (λ (xs : List Capture). after_captures s st at intro parts body d xs q)

whole_is : (s : List Lexeme) (st : State) (at : At) (intro parts : Trees) (body : Tree) (d : Otherwise) (q : Qualifiers) → d ≡ default_in s intro
    → q ≡ qualifiers_from s no_qualifiers parts → lambda_written s st at intro parts body ≡ by_parts s st at intro parts body d q
whole_is s st at intro parts body d q e h = ap (λ (z : Otherwise). by_parts s st at intro parts body z (qualifiers_from s no_qualifiers parts)) (sym e)
    ∙ ap (λ (z : Qualifiers). by_parts s st at intro parts body d z) (sym h)

captured_is : (s : List Lexeme) (st : State) (at : At) (intro parts : Trees) (body : Tree) (d : Otherwise) (q : Qualifiers) (xs : List Capture)
    → d ≡ default_in s intro → q ≡ qualifiers_from s no_qualifiers parts → explicit_captures s st.ctx d intro ≡ Ok xs
    → lambda_written s st at intro parts body ≡ after_captures s st at intro parts body d xs q
captured_is s st at intro parts body d q xs e h a = whole_is s st at intro parts body d q e h
    ∙ ap (λ (z : Result (List Capture) ElabFault). and_then z (λ (ys : List Capture). after_captures s st at intro parts body d ys q)) a

parametered_is : (s : List Lexeme) (st : State) (at : At) (intro parts : Trees) (body : Tree) (d : Otherwise) (q : Qualifiers) (xs : List Capture)
    (ps : List Parameter) → d ≡ default_in s intro → q ≡ qualifiers_from s no_qualifiers parts → explicit_captures s st.ctx d intro ≡ Ok xs
    → parameters_among s st.ctx st.work parts ≡ Ok ps → lambda_written s st at intro parts body ≡ after_parameters s st at intro parts body d xs ps q
parametered_is s st at intro parts body d q xs ps e h a b = captured_is s st at intro parts body d q xs e h a
    ∙ ap (λ (z : Result (List Parameter) ElabFault). and_then z (λ (ys : List Parameter). after_parameters s st at intro parts body d xs ys q)) b

worded_is : (s : List Lexeme) (st : State) (at : At) (intro parts : Trees) (body : Tree) (d : Otherwise) (q : Qualifiers) (xs : List Capture)
    (ps : List Parameter) (y : Bool) → d ≡ default_in s intro → q ≡ qualifiers_from s no_qualifiers parts → explicit_captures s st.ctx d intro ≡ Ok xs
    → parameters_among s st.ctx st.work parts ≡ Ok ps → not_dynamic at q ≡ Ok y
    → lambda_written s st at intro parts body ≡ after_words s st at intro parts body d xs ps q
worded_is s st at intro parts body d q xs ps y e h a b v = parametered_is s st at intro parts body d q xs ps e h a b
    ∙ ap (λ (z : Result Bool ElabFault). and_then z (λ x. after_words s st at intro parts body d xs ps q)) v

resulted_is : (s : List Lexeme) (st : State) (at : At) (intro parts : Trees) (body : Tree) (d : Otherwise) (q : Qualifiers) (xs : List Capture)
    (ps : List Parameter) (y : Bool) (r : Option Typ) → d ≡ default_in s intro → q ≡ qualifiers_from s no_qualifiers parts
    → explicit_captures s st.ctx d intro ≡ Ok xs → parameters_among s st.ctx st.work parts ≡ Ok ps → not_dynamic at q ≡ Ok y
    → result_among s st.ctx st.work parts ≡ Ok r → lambda_written s st at intro parts body ≡ after_result s st at intro parts body d xs ps q r
resulted_is s st at intro parts body d q xs ps y r e h a b v w = worded_is s st at intro parts body d q xs ps y e h a b v
    ∙ ap (λ (z : Result (Option Typ) ElabFault). and_then z (λ (x : Option Typ). after_result s st at intro parts body d xs ps q x)) w

pub written_is : (s : List Lexeme) (st : State) (at : At) (intro parts : Trees) (body : Tree) (d : Otherwise) (q : Qualifiers) (xs ys : List Capture)
    (ps : List Parameter) (y : Bool) (r : Option Typ) (m : Bool) (n : ℕ) → d ≡ default_in s intro → q ≡ qualifiers_from s no_qualifiers parts
    → explicit_captures s st.ctx d intro ≡ Ok xs → parameters_among s st.ctx st.work parts ≡ Ok ps → not_dynamic at q ≡ Ok y
    → result_among s st.ctx st.work parts ≡ Ok r →
    default_captures st.ctx d xs (used_in s st.ctx ps body) ≡ Ok ys → m ≡ has_mutable parts → n ≡ closing s body
    → lambda_written s st at intro parts body ≡ Ok
    (record {
      at = at;
      captures = ys;
      params = ps;
      qualifiers = q;
      is_mutable = m;
      result = r;
      body = kids_of body;
      body_at = place_of_tree body;
      closed =
          n;
    })
written_is s st at intro parts body d q xs ys ps y r m n e h a b v w z f g =
    resulted_is s st at intro parts body d q xs ps y r e h a b v w
    ∙ ap (λ (u : Result (List Capture) ElabFault). and_then u
    (λ (us : List Capture). Ok (record {
      at = at;
      captures = us;
      params = ps;
      qualifiers = q;
      is_mutable = has_mutable parts;
      result = r;
      body =
          kids_of body;
      body_at = place_of_tree body;
      closed = closing s body;
    }))) z
    ∙ ap (λ (u : Bool). Ok (record {
      at = at;
      captures = ys;
      params = ps;
      qualifiers = q;
      is_mutable = u;
      result = r;
      body = kids_of body;
      body_at =
          place_of_tree body;
      closed = closing s body;
    })) (sym f)
    ∙ ap (λ (u : ℕ). Ok (record {
      at = at;
      captures = ys;
      params = ps;
      qualifiers = q;
      is_mutable = m;
      result = r;
      body = kids_of body;
      body_at =
          place_of_tree body;
      closed = u;
    })) (sym g)

-- A fault of each step

pub captures_refused : (s : List Lexeme) (st : State) (at : At) (intro parts : Trees) (body : Tree) (d : Otherwise) (q : Qualifiers) (x : ElabFault)
    → d ≡ default_in s intro → q ≡ qualifiers_from s no_qualifiers parts → Faults x (explicit_captures s st.ctx d intro)
    → Faults x (lambda_written s st at intro parts body)
captures_refused s st at intro parts body d q x e h m =
    faults_same x (by_parts s st at intro parts body d q) (lambda_written s st at intro parts body) (whole_is s st at intro parts body d q e h)
    (faults_in (λ (z : Result (List Capture) ElabFault). and_then z (λ (xs : List Capture). after_captures s st at intro parts body d xs q)) x
    (explicit_captures s st.ctx d intro) (λ f. refl) m)

pub parameters_refused : (s : List Lexeme) (st : State) (at : At) (intro parts : Trees) (body : Tree) (d : Otherwise) (q : Qualifiers) (xs : List Capture)
    (x : ElabFault) → d ≡ default_in s intro → q ≡ qualifiers_from s no_qualifiers parts → explicit_captures s st.ctx d intro ≡ Ok xs
    → Faults x (parameters_among s st.ctx st.work parts) → Faults x (lambda_written s st at intro parts body)
parameters_refused s st at intro parts body d q xs x e h a m =
    faults_same x (after_captures s st at intro parts body d xs q) (lambda_written s st at intro parts body) (captured_is s st at intro parts body d q xs e h a)
    (faults_in (λ (z : Result (List Parameter) ElabFault). and_then z (λ (ps : List Parameter). after_parameters s st at intro parts body d xs ps q)) x
    (parameters_among s st.ctx st.work parts) (λ f. refl) m)

pub words_refused : (s : List Lexeme) (st : State) (at : At) (intro parts : Trees) (body : Tree) (d : Otherwise) (q : Qualifiers) (xs : List Capture)
    (ps : List Parameter) (x : ElabFault) → d ≡ default_in s intro → q ≡ qualifiers_from s no_qualifiers parts → explicit_captures s st.ctx d intro ≡ Ok xs
    → parameters_among s st.ctx st.work parts ≡ Ok ps → Faults x (not_dynamic at q) → Faults x (lambda_written s st at intro parts body)
words_refused s st at intro parts body d q xs ps x e h a b m =
    faults_same x (after_parameters s st at intro parts body d xs ps q) (lambda_written s st at intro parts body)
    (parametered_is s st at intro parts body d q xs ps e h a b)
    (faults_in (λ (z : Result Bool ElabFault). and_then z (λ y. after_words s st at intro parts body d xs ps q)) x (not_dynamic at q) (λ f. refl) m)

pub result_refused : (s : List Lexeme) (st : State) (at : At) (intro parts : Trees) (body : Tree) (d : Otherwise) (q : Qualifiers) (xs : List Capture)
    (ps : List Parameter) (y : Bool) (x : ElabFault) → d ≡ default_in s intro → q ≡ qualifiers_from s no_qualifiers parts
    → explicit_captures s st.ctx d intro ≡ Ok xs → parameters_among s st.ctx st.work parts ≡ Ok ps → not_dynamic at q ≡ Ok y
    → Faults x (result_among s st.ctx st.work parts) → Faults x (lambda_written s st at intro parts body)
result_refused s st at intro parts body d q xs ps y x e h a b v m =
    faults_same x (after_words s st at intro parts body d xs ps q) (lambda_written s st at intro parts body)
    (worded_is s st at intro parts body d q xs ps y e h a b v)
    (faults_in (λ (z : Result (Option Typ) ElabFault). and_then z (λ (r : Option Typ). after_result s st at intro parts body d xs ps q r)) x
    (result_among s st.ctx st.work parts) (λ f. refl) m)

pub defaults_refused : (s : List Lexeme) (st : State) (at : At) (intro parts : Trees) (body : Tree) (d : Otherwise) (q : Qualifiers) (xs : List Capture)
    (ps : List Parameter) (y : Bool) (r : Option Typ) (x : ElabFault) → d ≡ default_in s intro → q ≡ qualifiers_from s no_qualifiers parts
    → explicit_captures s st.ctx d intro ≡ Ok xs → parameters_among s st.ctx st.work parts ≡ Ok ps → not_dynamic at q ≡ Ok y
    → result_among s st.ctx st.work parts ≡ Ok r → Faults x (default_captures st.ctx d xs (used_in s st.ctx ps body))
    → Faults x (lambda_written s st at intro parts body)
defaults_refused s st at intro parts body d q xs ps y r x e h a b v w m =
    faults_same x (after_result s st at intro parts body d xs ps q r) (lambda_written s st at intro parts body)
    (resulted_is s st at intro parts body d q xs ps y r e h a b v w)
    (faults_in (λ (z : Result (List Capture) ElabFault). and_then z
    (λ (us : List Capture). Ok (record {
      at = at;
      captures = us;
      params = ps;
      qualifiers = q;
      is_mutable = has_mutable parts;
      result = r;
      body =
          kids_of body;
      body_at = place_of_tree body;
      closed = closing s body;
    }))) x (default_captures st.ctx d xs (used_in s st.ctx ps body)) (λ f. refl) m)

-- A lambda by its parts

-- nothing that was made to read it is kept
pub from_is : (s : List Lexeme) (a c : StateRec) (w : WorkRec) (at : At) (intro parts : Trees) (body : Tree) (x : Written)
    (r : Result (Unit {0}) ElabFault) → Unmoved a.work w → lambda_written s (state_of a) at intro parts body ≡ Ok x
    → Changes (record a { work = w }) c r (lambda_made s (state_of (record a { work = w })) x)
    → Changes a c r (lambda_from s (state_of a) at intro parts body)
from_is s a c w at intro parts body x r u e m =
    changes_after a (record a { work = w }) c (lambda_written s (state_of a) at intro parts body) x (λ (y : Written). lambda_made s (state_of a) y) r
    (unmoved_grown a w u) e
    (subst (λ (z : State). Changes (record a { work = w }) c r (lambda_made s z x)) (unmoved_state a w u) m)

pub from_refused : (s : List Lexeme) (st : State) (at : At) (intro parts : Trees) (body : Tree) (x : ElabFault)
    → Faults x (lambda_written s st at intro parts body) → Faults x (lambda_from s st at intro parts body)
from_refused s st at intro parts body x m =
    faults_in (λ (z : Result Written ElabFault). and_then z (λ (y : Written). lambda_made s st y)) x (lambda_written s st at intro parts body) (λ f. refl) m
