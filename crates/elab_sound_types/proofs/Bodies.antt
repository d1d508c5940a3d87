-- The lambdas of an expression keep the types of a context sound: their bodies are statements in which there are no lambdas.
use Rattle.std.proofs.Common.{◌≡◌, refl, subst, ℕ, Bool, true, false, not, ◌||◌, List, [], ◌∷◌, length}
use Rattle.std.proofs.Common.{Option, Some, None, Result, Ok}
use Rattle.std.specs.List.{list_all}
use Rattle.std.proofs.lemmas.Bool.{and_parts}
use Rattle.elab_rules.specs.cpp_types.Typ.{Typ, typ, void, int, enum, null, ptr, ref, array, func, class, closure, tx_ex, Signature, signature, none as no_typs}
use Rattle.elab_rules.specs.cpp_types.Class.{Class, held}
use Rattle.elab_rules.specs.cpp_types.declared.classes.At.{At}
use Rattle.elab_rules.specs.cpp_lex.Tokens.{Lexeme}
use Rattle.elab_rules.specs.cpp_ast.declared.kinds.NodeKind.TheVariants as k
use Rattle.elab_rules.specs.cpp_ast.Trees as syntax
use Rattle.elab_rules.specs.cpp_tree.declared.faults.ElabFault.{ElabFault}
use Rattle.elab_rules.specs.cpp_tree.declared.faults.IllRule.{IllRule}
use Rattle.elab_rules.specs.cpp_tree.declared.faults.IllRule.TheVariants.{Incomplete, Redeclared}
use Rattle.elab_rules.specs.cpp_tree.Notation.{plain}
use Rattle.elab_rules.specs.cpp_tree.Typing.{form_in}
use Rattle.elab_rules.specs.elab_ctx.Ctx.{Ctx, Work, Returns, known, deduced}
use Rattle.elab_rules.specs.elab_ctx.Steps.{and_then, check, at_of, spelling}
use Rattle.elab_rules.specs.Operators.{is_complete}
use Rattle.elab_rules.specs.Sizes.{typ_sized}
use Rattle.elab_rules.specs.Types.{Parameter, is_declared_safe, function_of, qualifiers_from, no_qualifiers}
use Rattle.elab_rules.specs.Expressions.{type_id_of}
use Rattle.elab_rules.specs.Statements
use Rattle.elab_rules.specs.Statements.{State, is_fresh, statements_of}
use Rattle.elab_rules.specs.Functions as functions
use Rattle.elab_rules.specs.Lambdas as lambdas
use Rattle.elab_rules.specs.Lambdas.{Written, inside, lambda_entered, declared_closure, no_lambda}
use Rattle.elab_fits.specs.Standing.{On}
use Rattle.elab_fits.proofs.Steps.{bind, skip}
use Rattle.elab_sound_types.specs.Types.{variable, parameter, denoted, declared, is_lambda, is_sound, is_sound_signature}
use Rattle.elab_sound_types.specs.Contexts.{HasSoundTypes, is_sound_parameter, is_sound_closure, is_spelled, are_spelled}
use Rattle.elab_sound_types.specs.States.{Kept, IsSoundState, IsSoundAfter, is_sound_return, NoLambdasKeep, LambdasKeep}
use Rattle.elab_sound_types.proofs.Sound.{sound_as, parameter_variable}
use Rattle.elab_sound_types.proofs.Growth.{lambda_more, sound_more, signature_more, kept_joined}
use Rattle.elab_sound_types.proofs.Names.{IfThere}
use Rattle.elab_sound_types.proofs.Written as written
use Rattle.elab_sound_types.proofs.Written.{IsDenoted, as_declared, AreParameters}
use Rattle.elab_sound_types.proofs.Expressions.{kids_spelled, first_spelled, rest_spelled}
use Rattle.elab_sound_types.proofs.States.{After, DoneSound, since, nothing, later, renewed, one_more}
use Rattle.elab_sound_types.proofs.Statements.{block}
use Rattle.elab_sound_types.proofs.Lambdas.{AreCaptures, explicit_captures, default_captures}
use Rattle.elab_sound_types.proofs.Closures.{all_and_one, one_kept, last_kept, one_nameless, with_closure, names_more, variables_more, this_more, captured_more}
use Rattle.elab_sound_types.proofs.Closures.{captures_more, closures_more, return_more, parameters_more}
use Rattle.elab_sound_types.proofs.Zeros.{on_ok}

-- In a lambda there is none

refused : (st : State) (o : Option At) → IsSoundState st → On (After false st) (lambdas.refused_at st o)
refused st (Some at) h = tt
refused st None h = nothing false st h

pub none_keeps : NoLambdasKeep
none_keeps s st t x h i e = on_ok (After false st) (no_lambda s st t) x (refused st (lambdas.first_lambda t) h) e

-- Parameters

then_checked : {A B : Type 0} (Q : B → Type 0) (at : At) (rule : IllRule) (b : Bool) (a : A) (g : A → Result B ElabFault) → On Q (g a)
    → On Q (and_then (and_then (check at rule b) (λ (y : Bool). Ok a)) g)
then_checked Q at rule true a g h = h
then_checked Q at rule false a g h = tt

-- a parameter, and those behind it
named_by : (s : List Lexeme) (st : State) (p : Parameter) (ps : List Parameter) (o : Option ℕ) → IsSoundState st
    → is_sound st.ctx.classes variable p.typ ≡ true → AreParameters st.ctx.classes ps
    → ((x : State) → IsSoundState x → AreParameters x.ctx.classes ps → On (After false x) (functions.with_parameters s x ps))
    → On (After false st) (and_then (functions.parameter_named s st p o) (λ (x : State). functions.with_parameters s x ps))
named_by s st p ps (Some m) h i q go = then_checked (After false st) p.at Redeclared (is_fresh st.ctx (spelling s m))
    (functions.with_parameter st (spelling s m) p.typ) (λ (x : State). functions.with_parameters s x ps)
    (since (After false (functions.with_parameter st (spelling s m) p.typ)) (After false st)
    (functions.with_parameters s (functions.with_parameter st (spelling s m) p.typ) ps)
    (go (functions.with_parameter st (spelling s m) p.typ) (renewed st _ _ _ (one_more st _ i h) h) q) (λ x j. record { sound = j.sound; grown = j.grown }))
named_by s st p ps None h i q go = since (After false (functions.unnamed_parameter st p.typ)) (After false st)
    (functions.with_parameters s (functions.unnamed_parameter st p.typ) ps)
    (go (functions.unnamed_parameter st p.typ) (renewed st st.ctx.scopes _ _ (one_more st _ i h) h) q) (λ x j. record { sound = j.sound; grown = j.grown })

pub with_parameters : (s : List Lexeme) (st : State) (ps : List Parameter) → IsSoundState st → AreParameters st.ctx.classes ps
    → On (After false st) (functions.with_parameters s st ps)
with_parameters s st [] h g = nothing false st h
with_parameters s st (p ∷ ps) h g =
    let q = and_parts (is_sound_parameter st.ctx.classes p) (list_all (is_sound_parameter st.ctx.classes) ps) g in
    skip (After false st) (check p.at Incomplete (is_complete st.ctx (held p.typ))) _
    (λ y. named_by s st p ps p.name h (sound_as st.ctx.classes parameter variable p.typ parameter_variable q.0) q.1
    (λ x a b. with_parameters s x ps a b))

-- Bodies

abbrev pub IsDeclared : List Class → Typ → Type 0
IsDeclared cs t = is_sound cs declared t ≡ true

-- a lambda whose parts have sound types
pub record IsSoundLambda (s : List Lexeme) (cs : List Class) (x : Written) : Type 0 where
  pub captures : AreCaptures cs x.captures
  pub params : AreParameters cs x.params
  pub result : IfThere (IsDenoted cs) x.result
  pub spelled : are_spelled s x.body ≡ true

-- the classes with that of a lambda, and the same where its call is not known yet: which classes have names and are complete is the same
abbrev pub with_lambda : State → Written → Signature → List Class
with_lambda st x g = (declared_closure st x g).classes

abbrev pub with_nothing : State → Written → List Class
with_nothing st x = with_lambda st x (signature no_typs (plain void) false)

pub lambda_kept : (st : State) (x : Written) (g : Signature) → Kept st.ctx.classes (with_lambda st x g)
lambda_kept st x g = one_kept st.ctx.classes _

pub call_known : (st : State) (x : Written) (g f : Signature) → Kept (with_lambda st x g) (with_lambda st x f)
call_known st x g f = last_kept st.ctx.classes _ _ refl refl

-- the context behind it
around : (s : List Lexeme) (st : State) (x : Written) (g : Signature) → IsSoundState st → IsSoundLambda s st.ctx.classes x
    → is_sound_signature (with_nothing st x) g ≡ true → HasSoundTypes (declared_closure st x g) st.work
around s st x g h i j = with_closure st.ctx st.work x.captures (lambdas.call_record x.at g x.qualifiers x.is_mutable) x.params x.closed h.context i.captures
    (signature_more (with_nothing st x) (with_lambda st x g) (call_known st x (signature no_typs (plain void) false) g) g j)

pub entered : (s : List Lexeme) (st : State) (x : Written) (rs : Returns) (r : Typ) (g : Signature) → IsSoundState st → IsSoundLambda s st.ctx.classes x
    → is_sound_signature (with_nothing st x) g ≡ true → is_sound_return (with_lambda st x g) rs ≡ true
    → IsSoundState (inside st (lambda_entered st x rs r) (declared_closure st x g))
entered s st x rs r g h i j k = record {
  context = record {
    types = d.types;
    members = d.members;
    functions = d.functions;
    enumerators = d.enumerators;
    variables = d.variables;
    this = one_nameless st.ctx.classes _ refl;
    captures = captured_more st.ctx.classes (with_lambda st x g) (lambda_kept st x g) x.captures i.captures;
    globals = d.globals;
    many = d.many;
    copied = d.copied;
  };
  closures = refl;
  returned = k;
}
  where
    d : HasSoundTypes (declared_closure st x g) st.work
    d = around s st x g h i j

body_sound : (s : List Lexeme) (st : State) (x : Written) (rs : Returns) (r : Typ) (g : Signature) → IsSoundState st → IsSoundLambda s st.ctx.classes x
    → is_sound_signature (with_nothing st x) g ≡ true → is_sound_return (with_lambda st x g) rs ≡ true
    → On (DoneSound false (inside st (lambda_entered st x rs r) (declared_closure st x g)))
    (lambdas.body_statements s (inside st (lambda_entered st x rs r) (declared_closure st x g)) x)
body_sound s st x rs r g h i j k = bind (After false e) (DoneSound false e) (functions.with_parameters s e x.params) _
    (with_parameters s e x.params (entered s st x rs r g h i j k)
    (parameters_more st.ctx.classes (with_lambda st x g) (lambda_kept st x g) x.params i.params))
    (λ y m. since (DoneSound false y) (DoneSound false e) (statements_of no_lambda s y x.body)
    (block false no_lambda s (none_keeps s) y x.body m.sound i.spelled) (λ d o. later false e y d.state m o))
  where
    e : State
    e = inside st (lambda_entered st x rs r) (declared_closure st x g)

-- a state with the class of a lambda more
record Added (st y : State) : Type 0 where
  after : IsSoundAfter true st y
  within : is_lambda y.ctx.classes (length st.ctx.classes) ≡ true

-- behind the body
left_body : (s : List Lexeme) (st : State) (x : Written) (g : Signature) (z : State) → IsSoundState st → IsSoundLambda s st.ctx.classes x
    → is_sound_signature (with_nothing st x) g ≡ true → Kept (with_lambda st x g) z.ctx.classes → IsSoundState z
    → Added st (functions.leaving (record st { ctx = declared_closure st x g }) z)
left_body s st x g z h i j l k = record {
  after = record {
    sound = record {
      context = record {
        types = names_more next now l st.ctx.types d.types;
        members = k.context.members;
        functions = k.context.functions;
        enumerators = d.enumerators;
        variables = variables_more next now l st.ctx.variables d.variables;
        this = this_more next now l st.ctx.this d.this;
        captures = captures_more next now l st.ctx.lambda d.captures;
        globals = k.context.globals;
        many = k.context.many;
        copied = k.context.copied;
      };
      closures = closures_more st.ctx.classes now o st.ctx.closures h.closures;
      returned = return_more st.ctx.classes now o st.ctx.returns h.returned;
    };
    grown = record { kept = o; same = λ b. absurd cc };
  };
  within = lambda_more next now l (length st.ctx.classes) (one_nameless st.ctx.classes _ refl);
}
  where
    next : List Class
    next = with_lambda st x g

    now : List Class
    now = z.ctx.classes

    d : HasSoundTypes (declared_closure st x g) st.work
    d = around s st x g h i j

    o : Kept st.ctx.classes z.ctx.classes
    o = kept_joined st.ctx.classes next now (lambda_kept st x g) l

same_added : (st y : State) (bs : List Statements.Body) → Added st y → Added st (record y { bodies = bs })
same_added st y bs h = record {
  after = record { sound = record { context = h.after.sound.context; closures = h.after.sound.closures; returned = h.after.sound.returned }; grown = h.after.grown };
  within = h.within;
}

-- with its result known

lambda_with : (s : List Lexeme) (st : State) (x : Written) (r : Typ) (g : Signature) → IsSoundState st → IsSoundLambda s st.ctx.classes x
    → is_sound_signature (with_nothing st x) g ≡ true → On (Added st) (lambdas.lambda_with s st x r g)
lambda_with s st x r g h i j = skip (Added st) (check x.at Incomplete (is_complete st.ctx (held r))) _
    (λ y. skip (Added st) (lambdas.closure_sized st x g) _
    (λ u. bind (DoneSound false (inside st (lambda_entered st x (known r) r) (declared_closure st x g))) (Added st)
    (lambdas.body_statements s (inside st (lambda_entered st x (known r) r) (declared_closure st x g)) x) _
    (body_sound s st x (known r) r g h i j refl)
    (λ d k. skip (Added st) (functions.within_frame d.state.ctx x.at d.state.work.frame) _
    (λ z. same_added st (functions.leaving (record st { ctx = declared_closure st x g }) d.state) _
    (left_body s st x g d.state h i j k.grown.kept k.sound)))))

pub signature_sound : (cs : List Class) (t : Typ) → is_sound cs denoted t ≡ true → is_sound_signature cs (lambdas.signature_in (form_in t)) ≡ true
signature_sound cs (typ (func g) c v) h = (and_parts (not (c || v)) (is_sound_signature cs g) h).1
signature_sound cs (typ void c v) h = refl
signature_sound cs (typ (int k) c v) h = refl
signature_sound cs (typ (enum e s) c v) h = refl
signature_sound cs (typ null c v) h = refl
signature_sound cs (typ (ptr t) c v) h = refl
signature_sound cs (typ (ref t) c v) h = refl
signature_sound cs (typ (array t k) c v) h = refl
signature_sound cs (typ (class k) c v) h = refl
signature_sound cs (typ (closure k) c v) h = refl
signature_sound cs (typ (tx_ex t) c v) h = refl

pub lambda_type : (s : List Lexeme) (st : State) (x : Written) (r : Typ) → IsSoundLambda s st.ctx.classes x → IsDeclared (with_nothing st x) r
    → On (IsDenoted (with_nothing st x)) (lambdas.lambda_type st.ctx x r)
lambda_type s st x r i g = bind (IsDenoted cs) (IsDenoted cs) (function_of st.ctx x.at r x.params (is_declared_safe x.qualifiers)) _
    (written.function_of cs st.ctx x.at r x.params (is_declared_safe x.qualifiers) g
    (parameters_more st.ctx.classes cs (lambda_kept st x (signature no_typs (plain void) false)) x.params i.params))
    (λ t h. skip (IsDenoted cs) (typ_sized st.ctx.classes x.at t) _ (λ y. h))
  where
    cs : List Class
    cs = with_nothing st x

lambda_known : (s : List Lexeme) (st : State) (x : Written) (r : Typ) → IsSoundState st → IsSoundLambda s st.ctx.classes x
    → IsDeclared (with_nothing st x) r → On (Added st) (lambdas.lambda_known s st x r)
lambda_known s st x r h i g = bind (IsDenoted (with_nothing st x)) (Added st) (lambdas.lambda_type st.ctx x r) _ (lambda_type s st x r i g)
    (λ t j. lambda_with s st x r (lambdas.signature_in (form_in t)) h i (signature_sound (with_nothing st x) t j))

-- the result that its first `return` gives

result_in : (cs : List Class) (rs : Returns) → is_sound_return cs rs ≡ true → IsDeclared cs (lambdas.result_in rs)
result_in cs (deduced (Some t)) h = h
result_in cs (deduced None) h = refl
result_in cs (known t) h = refl

result_read : (s : List Lexeme) (st : State) (x : Written) (g : Signature) → IsSoundState st → IsSoundLambda s st.ctx.classes x
    → is_sound_signature (with_nothing st x) g ≡ true → On (IsDeclared (with_nothing st x)) (lambdas.result_read s st x g)
result_read s st x g h i j = skip (IsDeclared (with_nothing st x)) (lambdas.closure_sized st x g) _
    (λ u. bind (DoneSound false e) (IsDeclared (with_nothing st x)) (lambdas.body_statements s e x) _ (body_sound s st x (deduced None) (plain void) g h i j refl)
    (λ d k. sound_more (with_lambda st x g) (with_nothing st x) (call_known st x g (signature no_typs (plain void) false)) declared
    (lambdas.result_in d.state.ctx.returns)
    (subst (λ (cs : List Class). IsDeclared cs (lambdas.result_in d.state.ctx.returns)) (k.grown.same refl)
    (result_in d.state.ctx.classes d.state.ctx.returns k.sound.returned))))
  where
    e : State
    e = inside st (lambda_entered st x (deduced None) (plain void)) (declared_closure st x g)

pub result_of : (s : List Lexeme) (st : State) (x : Written) (o : Option Typ) → IsSoundState st → IsSoundLambda s st.ctx.classes x
    → IfThere (IsDenoted st.ctx.classes) o → On (IsDeclared (with_nothing st x)) (lambdas.result_of s st x o)
result_of s st x (Some r) h i j = sound_more st.ctx.classes (with_nothing st x) (lambda_kept st x (signature no_typs (plain void) false)) declared r
    (as_declared st.ctx.classes r j)
result_of s st x None h i j = bind (IsDenoted (with_nothing st x)) (IsDeclared (with_nothing st x)) (lambdas.lambda_type st.ctx x (plain void)) _
    (lambda_type s st x (plain void) i refl)
    (λ t k. result_read s st x (lambdas.signature_in (form_in t)) h i (signature_sound (with_nothing st x) t k))

with_written : (st y : State) (x : Written) → Added st y → IsSoundAfter true st (lambdas.with_written y (length st.ctx.classes) x)
with_written st y x h = record {
  sound = record {
    context = record {
      types = g.types;
      members = g.members;
      functions = g.functions;
      enumerators = g.enumerators;
      variables = g.variables;
      this = g.this;
      captures = g.captures;
      globals = g.globals;
      many = g.many;
      copied = g.copied;
    };
    closures = all_and_one (is_sound_closure y.ctx.classes) y.ctx.closures _ h.after.sound.closures h.within;
    returned = h.after.sound.returned;
  };
  grown = h.after.grown;
}
  where
    g : HasSoundTypes y.ctx y.work
    g = h.after.sound.context

lambda_made : (s : List Lexeme) (st : State) (x : Written) → IsSoundState st → IsSoundLambda s st.ctx.classes x
    → On (After true st) (lambdas.lambda_made s st x)
lambda_made s st x h i = bind (IsDeclared (with_nothing st x)) (After true st) (lambdas.result_of s st x x.result) _
    (result_of s st x x.result h i i.result)
    (λ r j. bind (Added st) (After true st) (lambdas.lambda_known s st x r) _ (lambda_known s st x r h i j) (λ y k. with_written st y x k))

-- Its parts

module _ (s : List Lexeme) where
  pub parameters_among : (c : Ctx) (w : Work) (ts : syntax.Trees) → HasSoundTypes c w → On (AreParameters c.classes) (lambdas.parameters_among s c w ts)
  parameters_among c w (syntax.more (syntax.node k.ParameterDeclarationClause p token kids) ts) h =
      written.parameters_in s c w h c.closures w (syntax.node k.ParameterDeclarationClause p token kids)
  parameters_among c w ts h = refl

  pub result_among : (c : Ctx) (w : Work) (ts : syntax.Trees) → HasSoundTypes c w → On (IfThere (IsDenoted c.classes)) (lambdas.result_among s c w ts)
  result_among c w syntax.none h = tt
  result_among c w (syntax.more (syntax.node k.TrailingReturnType p token (syntax.more t syntax.none)) ts) h =
      bind (IsDenoted c.classes) (IfThere (IsDenoted c.classes)) (type_id_of s c w t) _ (written.type_id s c w h c.closures w t) (λ u i. i)
  result_among c w (syntax.more t ts) h = result_among c w ts h

  pub kids_of_spelled : (t : syntax.Tree) → is_spelled s t ≡ true → are_spelled s (lambdas.kids_of t) ≡ true
  kids_of_spelled (syntax.node kind p token kids) h = kids_spelled s kind p token kids h

  lambda_written : (st : State) (at : At) (intro parts : syntax.Trees) (body : syntax.Tree) → IsSoundState st → is_spelled s body ≡ true
      → On (After true st) (lambdas.lambda_written s st at intro parts body)
  lambda_written st at intro parts body h i = bind (AreCaptures cs) (After true st) (lambdas.explicit_captures s st.ctx (lambdas.default_in s intro) intro) _
      (explicit_captures st.ctx st.work h.context s (lambdas.default_in s intro) intro)
      (λ xs j. bind (AreParameters cs) (After true st) (lambdas.parameters_among s st.ctx st.work parts) _ (parameters_among st.ctx st.work parts h.context)
      (λ ps m. skip (After true st) (lambdas.not_dynamic at (qualifiers_from s no_qualifiers parts)) _
      (λ y. bind (IfThere (IsDenoted cs)) (After true st) (lambdas.result_among s st.ctx st.work parts) _ (result_among st.ctx st.work parts h.context)
      (λ r o. bind (AreCaptures cs) (After true st)
      (lambdas.default_captures st.ctx (lambdas.default_in s intro) xs (lambdas.used_in s st.ctx ps body)) _
      (default_captures st.ctx st.work h.context (lambdas.default_in s intro) xs (lambdas.used_in s st.ctx ps body) j)
      (λ ys q. lambda_made s st (record {
        at = at;
        captures = ys;
        params = ps;
        qualifiers = qualifiers_from s no_qualifiers parts;
        is_mutable = lambdas.has_mutable parts;
        result = r;
        body = lambdas.kids_of body;
        body_at = lambdas.place_of_tree body;
        closed = lambdas.closing s body;
      }) h (record { captures = q; params = m; result = o; spelled = kids_of_spelled body i }))))))
    where
      cs : List Class
      cs = st.ctx.classes

  lambda_of : (st : State) (at : At) (kids : syntax.Trees) → IsSoundState st → are_spelled s kids ≡ true → On (After true st) (lambdas.lambda_of s st at kids)
  lambda_of st at (syntax.more intro (syntax.more parts (syntax.more body syntax.none))) h i =
      lambda_written st at (lambdas.kids_of intro) (lambdas.kids_of parts) body h (first_spelled s body syntax.none
      (rest_spelled s parts (syntax.more body syntax.none) (rest_spelled s intro (syntax.more parts (syntax.more body syntax.none)) i)))
  lambda_of st at (syntax.more intro (syntax.more body syntax.none)) h i =
      lambda_written st at (lambdas.kids_of intro) syntax.none body h (first_spelled s body syntax.none (rest_spelled s intro (syntax.more body syntax.none) i))
  lambda_of st at syntax.none h i = tt
  lambda_of st at (syntax.more a syntax.none) h i = tt
  lambda_of st at (syntax.more a (syntax.more b (syntax.more d (syntax.more e ts)))) h i = tt

  mutual
    lambdas_of : (st : State) (t : syntax.Tree) → IsSoundState st → is_spelled s t ≡ true → On (After true st) (lambdas.lambdas_of s st t)
    lambdas_of st (syntax.node k.Lambda p token kids) h i = lambda_of st (at_of p) kids h (kids_spelled s k.Lambda p token kids i)
    lambdas_of st (syntax.node k.SizeofExpression p token kids) h i = nothing true st h
    lambdas_of st (syntax.node k.SizeofType p token kids) h i = nothing true st h
    lambdas_of st (syntax.node kind p token kids) h i = lambdas_among st kids h (kids_spelled s kind p token kids i)

    lambdas_among : (st : State) (ts : syntax.Trees) → IsSoundState st → are_spelled s ts ≡ true → On (After true st) (lambdas.lambdas_among s st ts)
    lambdas_among st syntax.none h i = nothing true st h
    lambdas_among st (syntax.more t ts) h i = bind (After true st) (After true st) (lambdas.lambdas_of s st t) _ (lambdas_of st t h (first_spelled s t ts i))
        (λ x j. since (After true x) (After true st) (lambdas.lambdas_among s x ts) (lambdas_among x ts j.sound (rest_spelled s t ts i))
        (λ y m. later true st x y j m))

pub lambdas_law : LambdasKeep
lambdas_law s st t x h i e = on_ok (After true st) (lambdas.lambdas_of s st t) x (lambdas_of s st t h i) e
