-- Lambdas: their classes, captures and calls, made before the full-expression that holds them (C++14 5.1.2; the TS, [expr.prim.lambda]).
use Rattle.std.specs.Prelude.{ℕ, Bool, true, false, not, ◌&&◌, ◌||◌, List, [], ◌∷◌, ◌++◌, length, map, Option, Some, None, is_some, Result, Ok, Err}
use Rattle.std.specs.Prelude.{if◌then◌else◌, slice_get, codes, count_by}
use Rattle.std.specs.List.{list_all, list_any}
use Rattle.std.specs.Str.{bytes_eq}
use Rattle.elab_ctx.specs.cpp_types.Typ.{Typ, typ, Form, void, ptr, ref, array, func, closure, Signature, signature, none as no_typs}
use Rattle.elab_ctx.specs.cpp_types.Class.{Member, Function, held}
use Rattle.elab_ctx.specs.cpp_types.Conversion.{referred, volatile_of}
use Rattle.elab_ctx.specs.cpp_types.declared.classes.At.{At}
use Rattle.elab_ctx.specs.cpp_lex.Tokens.{Lexeme}
use Rattle.elab_ctx.specs.cpp_names.Names.{found_in}
use Rattle.elab_ctx.specs.cpp_names.declared.entity.Entity.{Entity}
use Rattle.elab_ctx.specs.cpp_ast.declared.kinds.NodeKind.TheVariants as k
use Rattle.elab_ctx.specs.cpp_ast.Trees as syntax
use Rattle.elab_ctx.specs.cpp_tree.declared.kinds.TKind.TheVariants as forms
use Rattle.elab_ctx.specs.cpp_layout.Layout.{class_extent}
use Rattle.elab_ctx.specs.cpp_tree.declared.program.FuncKind.TheVariants.{ClosureCall}
use Rattle.elab_ctx.specs.cpp_tree.declared.program.Linkage.TheVariants.{Internal}
use Rattle.elab_ctx.specs.cpp_tree.declared.faults.ElabFault.{ElabFault}
use Rattle.elab_ctx.specs.cpp_tree.declared.faults.ElabFault.TheVariants.{Ill, Override}
use Rattle.elab_ctx.specs.cpp_tree.declared.faults.OverrideRule.TheVariants.{DynamicNotVirtual}
use Rattle.elab_ctx.specs.cpp_tree.declared.faults.IllRule.TheVariants.{UnknownName, BadInit, Capture as CaptureRule, Incomplete, NoCopy, OutOfProfile}
use Rattle.elab_ctx.specs.cpp_tree.Notation.{plain}
use Rattle.elab_ctx.specs.cpp_tree.Typing.{form_in}
use Rattle.elab_ctx.specs.declared.env.Label.TheVariants.{Outside}
use Rattle.elab_ctx.specs.Ctx.{Ctx, Work, Func, Variable, This, Returns, known, deduced, absent, trivial, Traits, Capture}
use Rattle.elab_ctx.specs.Steps.{and_then, expect, check, each_of, at_of, spelling}
use Rattle.elab_rules.specs.Objects.{traits_at, followed_by}
use Rattle.elab_rules.specs.Initialising.{no_function}
use Rattle.elab_rules.specs.Operators.{is_complete}
use Rattle.elab_rules.specs.Names.{captured_from, is_local_entity, member_here}
use Rattle.elab_rules.specs.Types.{Parameter, Qualifiers, no_qualifiers, qualifiers_from, is_declared_safe, function_of}
use Rattle.elab_rules.specs.Sizes.{typ_sized, sized}
use Rattle.elab_rules.specs.Expressions.{type_id_of, parameters_in}
use Rattle.elab_rules.specs.Statements.{State, Done, Lambdas, statements_of, statement, no_labels, is_trivial}
use Rattle.elab_rules.specs.Functions.{safety_of, param_of, result_items, with_parameters, end_of, body_made}
use Rattle.elab_rules.specs.Classes.{class_named, is_completed, or_place, copies_member}

-- Where lambdas stand

abbrev mutual
  -- the place of the first lambda in a tree
  pub first_lambda : syntax.Tree → Option At
  first_lambda (syntax.node k.Lambda p token kids) = Some (at_of p)
  first_lambda (syntax.node kind p token kids) = first_of kids

  pub first_of : syntax.Trees → Option At
  first_of syntax.none = None
  first_of (syntax.more t ts) = or_place (first_lambda t) (first_of ts)

abbrev pub refused_at : State → Option At → Result State ElabFault
refused_at st (Some at) = Err (Ill at OutOfProfile)
refused_at st None = Ok st

-- in a lambda there is none (profile)
abbrev pub no_lambda : Lambdas
no_lambda s st t = refused_at st (first_lambda t)

-- What a body names of the enclosing function, in the order of the text

-- a variable, or none for `this`
pub record Used : Type 0 where
  pub variable : Option ℕ
  pub at : At

-- the names that the body has declared so far, and what it has named
pub record Scan : Type 0 where
  pub own : List (List ℕ)
  pub used : List Used

abbrev pub entity_number : Option Entity → ℕ
entity_number (Some e) = e.id
entity_number None = 0

abbrev pub using : Scan → Option ℕ → At → Scan
using x variable at = record x { used = x.used ++ record { variable = variable; at = at } ∷ [] }

-- an enclosing variable, or a member of the class around, which stands for `this->N`
abbrev pub using_name : Ctx → Scan → At → List ℕ → Scan
using_name c x at name = if list_any (λ (n : List ℕ). bytes_eq n name) x.own then x else
    (if is_local_entity (found_in c.scopes name) then using x (Some (entity_number (found_in c.scopes name))) at else (
    if is_some (member_here c name c.class) then using x None at else x))

abbrev pub declaring : List Lexeme → Scan → Option ℕ → Scan
declaring s x (Some t) = record x { own = spelling s t ∷ x.own }
declaring s x None = x

-- behind a block its names are gone
abbrev pub left_scope : Scan → Scan → Scan
left_scope before x = record x { own = before.own }

abbrev pub name_or : Option ℕ → Option ℕ → Option ℕ
name_or (Some a) b = Some a
name_or None b = b

abbrev mutual
  -- the name in a declarator
  pub name_token : syntax.Tree → Option ℕ
  name_token (syntax.node k.DeclaratorId p token kids) = token
  name_token (syntax.node kind p token kids) = name_among kids

  pub name_among : syntax.Trees → Option ℕ
  name_among syntax.none = None
  name_among (syntax.more t ts) = name_or (name_token t) (name_among ts)

abbrev mutual
  pub scanned : List Lexeme → Ctx → Scan → syntax.Tree → Scan
  scanned s c x (syntax.node k.UnqualifiedId p (Some t) kids) = using_name c x (at_of p) (spelling s t)
  scanned s c x (syntax.node k.This p token kids) = using x None (at_of p)
  scanned s c x (syntax.node k.InitDeclarator p token (syntax.more d init)) = scanned_all s c (declaring s (scanned s c x d) token) init
  scanned s c x (syntax.node k.ParameterDeclaration p token kids) = declaring s (scanned_all s c x kids) (name_among kids)
  scanned s c x (syntax.node k.ParameterDeclarationClause p token kids) = left_scope x (scanned_all s c x kids)
  scanned s c x (syntax.node k.CompoundStatement p token kids) = left_scope x (scanned_all s c x kids)
  scanned s c x (syntax.node k.ForStatement p token kids) = left_scope x (scanned_all s c x kids)
  scanned s c x (syntax.node k.Handler p token kids) = left_scope x (scanned_all s c x kids)
  scanned s c x (syntax.node k.IfStatement p token kids) = scanned_apart s c x kids
  scanned s c x (syntax.node k.WhileStatement p token kids) = scanned_apart s c x kids
  scanned s c x (syntax.node k.DoStatement p token kids) = scanned_apart s c x kids
  scanned s c x (syntax.node kind p token kids) = scanned_all s c x kids

  pub scanned_all : List Lexeme → Ctx → Scan → syntax.Trees → Scan
  scanned_all s c x syntax.none = x
  scanned_all s c x (syntax.more t ts) = scanned_all s c (scanned s c x t) ts

  -- each in a scope of its own
  pub scanned_apart : List Lexeme → Ctx → Scan → syntax.Trees → Scan
  scanned_apart s c x syntax.none = x
  scanned_apart s c x (syntax.more t ts) = scanned_apart s c (left_scope x (scanned s c x t)) ts

-- Captures (5.1.2 p8 to p15)

-- the member of a capture: a copy of the object, or a reference to it; a reference to a function stays one
abbrev pub copied_as : Typ → Typ
copied_as (typ (func s) c v) = plain (ref (typ (func s) c v))
copied_as t = t

abbrev pub captured_as : Bool → Typ → Typ
captured_as true t = plain (ref (referred t))
captured_as false t = copied_as (referred t)

abbrev pub variable_type : Ctx → At → ℕ → Result Typ ElabFault
variable_type c at i = and_then (expect at UnknownName (slice_get c.variables i)) (λ (v : Variable). expect at BadInit v.typ)

abbrev pub is_captured : Option ℕ → List Capture → Bool
is_captured variable xs = is_some (captured_from 0 variable xs)

-- a lambda's object is captured by copy only where it is copied byte by byte and needs no destruction (profile)
abbrev pub copies_closure : Ctx → Form → Bool
copies_closure c (closure n) = is_trivial (traits_at c n).copy
copies_closure c f = true

-- each element of an array is copied
abbrev pub copies_elements : Ctx → Typ → Bool
copies_elements c (typ (array e n) d v) = copies_member c e (held e)
copies_elements c t = true

abbrev pub capture_variable : Ctx → List Capture → At → ℕ → Bool → Result (List Capture) ElabFault
capture_variable c xs at i by_ref = and_then (variable_type c at i)
    (λ (t : Typ). and_then (check at OutOfProfile (by_ref || copies_closure c (form_in (referred t))))
    (λ y. and_then (check at Incomplete (by_ref || is_complete c (held (referred t))))
    (λ z. and_then (check at NoCopy (by_ref || copies_elements c (referred t))) (λ x.
    Ok (xs ++ record { variable = Some i; by_ref = by_ref; typ = captured_as by_ref t; at = at } ∷ [])))))

abbrev pub capture_this : Ctx → List Capture → At → Result (List Capture) ElabFault
capture_this c xs at = and_then (expect at CaptureRule c.this)
    (λ (t : This). Ok (xs ++ record { variable = None; by_ref = false; typ = plain (ptr t.typ); at = at } ∷ []))

-- `=` or `&`, or none
pub data Otherwise : Type 0 where
  nothing : Otherwise
  by_copy : Otherwise
  by_reference : Otherwise

abbrev pub default_word : List ℕ → Otherwise
default_word name = if bytes_eq name (codes "&") then by_reference else by_copy

abbrev pub default_in : List Lexeme → syntax.Trees → Otherwise
default_in s (syntax.more (syntax.node k.CaptureDefault p (Some t) kids) ts) = default_word (spelling s t)
default_in s ts = nothing

-- what the default says anyway is not written again (5.1.2 p8)
abbrev pub adds : Otherwise → Bool → Bool
adds by_copy false = false
adds by_reference true = false
adds d by_ref = true

-- a name that is captured is a variable of the enclosing function, and is captured once
abbrev pub named_variable : Ctx → At → List ℕ → Result ℕ ElabFault
named_variable c at name = if is_local_entity (found_in c.scopes name) then Ok (entity_number (found_in c.scopes name)) else (
    if is_some (found_in c.scopes name) || is_some (member_here c name c.class) then Err (Ill at CaptureRule) else Err (Ill at UnknownName))

abbrev pub explicit_variable : Ctx → Otherwise → List Capture → At → List ℕ → Bool → Result (List Capture) ElabFault
explicit_variable c d xs at name by_ref = and_then (named_variable c at name)
    (λ i. and_then (check at CaptureRule (adds d by_ref && not (is_captured (Some i) xs))) (λ y. capture_variable c xs at i by_ref))

abbrev pub explicit_capture : List Lexeme → Ctx → Otherwise → List Capture → syntax.Tree → Result (List Capture) ElabFault
explicit_capture s c d xs (syntax.node k.SimpleCapture p (Some t) kids) = explicit_variable c d xs (at_of p) (spelling s t) false
explicit_capture s c d xs (syntax.node k.ReferenceCapture p (Some t) kids) = explicit_variable c d xs (at_of p) (spelling s t) true
explicit_capture s c d xs (syntax.node k.ThisCapture p token kids) =
    and_then (check (at_of p) CaptureRule (adds d false && not (is_captured None xs))) (λ y. capture_this c xs (at_of p))
explicit_capture s c d xs t = Ok xs

abbrev pub explicit_captures : List Lexeme → Ctx → Otherwise → syntax.Trees → Result (List Capture) ElabFault
explicit_captures s c d ts = each_of (explicit_capture s c d) [] ts

abbrev pub capture_used : Ctx → Bool → List Capture → At → Option ℕ → Result (List Capture) ElabFault
capture_used c by_ref xs at (Some i) = capture_variable c xs at i by_ref
capture_used c by_ref xs at None = if is_some c.this then capture_this c xs at else Ok xs

-- what is named and not yet captured, in the order of its first use
abbrev pub captured_uses : Ctx → Bool → List Capture → List Used → Result (List Capture) ElabFault
captured_uses c by_ref xs [] = Ok xs
captured_uses c by_ref xs (u ∷ us) = and_then (if is_captured u.variable xs then Ok xs else capture_used c by_ref xs u.at u.variable)
    (λ (ys : List Capture). captured_uses c by_ref ys us)

abbrev pub default_captures : Ctx → Otherwise → List Capture → List Used → Result (List Capture) ElabFault
default_captures c nothing xs us = Ok xs
default_captures c by_copy xs us = captured_uses c false xs us
default_captures c by_reference xs us = captured_uses c true xs us

-- The class (5.1.2 p3, p7): its members are the captures, its one function is the call

abbrev pub capture_members : List Capture → List Member
capture_members xs = map (λ (x : Capture). record { name = []; typ = x.typ }) xs

abbrev pub class_of_held : (ℕ → Bool) → Option ℕ → Bool
class_of_held test (Some n) = test n
class_of_held test None = true

abbrev pub all_captured : (ℕ → Bool) → List Capture → Bool
all_captured test xs = list_all (λ (x : Capture). class_of_held test (held x.typ)) xs

-- it is neither made from nothing nor assigned; a copy and a destruction do what is to be done to each capture, in place, and have no function
abbrev pub copied_and_left : Traits → Bool
copied_and_left t = is_trivial t.copy && is_trivial t.destructor

abbrev pub closure_traits : Ctx → List Capture → Traits
closure_traits c xs = record {
  default = absent;
  copy = if all_captured (λ n. copied_and_left (traits_at c n)) xs then trivial else absent;
  copies_const = true;
  destructor = trivial;
  is_assignable = false;
  is_abstract = false;
  is_volatile = list_any (λ (x : Capture). volatile_of x.typ) xs || not (all_captured (λ n. not (traits_at c n).is_volatile) xs);
  is_trivially_copyable = all_captured (λ n. (traits_at c n).is_trivially_copyable) xs && not (list_any (λ (x : Capture). volatile_of x.typ) xs);
}

abbrev pub call_record : At → Signature → Qualifiers → Bool → Function
call_record at sig q is_mutable = record no_function.declared {
  signature = sig;
  is_const = not is_mutable;
  safety = safety_of q;
  no_except = q.no_except;
  at =
      at;
}

abbrev pub call_func : ℕ → Function → List Parameter → Func
call_func n g ps = record no_function { declared = g; kind = ClosureCall; class = Some n; linkage = Internal; is_defined = true; params = map param_of ps }

abbrev pub with_closure : Ctx → List Capture → Function → List Parameter → ℕ → Ctx
with_closure c xs g ps closed = record c {
  classes = c.classes ++ class_named [] None false (capture_members xs) (g ∷ [])
      (Some (count_by is_completed c.classes)) ∷ [];
  traits = c.traits ++ closure_traits c xs ∷ [];
  slots = c.slots ++ [] ∷ [];
  funcs =
      c.funcs ++ record (call_func (length c.classes) g ps) { closed_at = closed } ∷ [];
}

-- What is written of a lambda
pub record Written : Type 0 where
  pub at : At
  pub captures : List Capture
  pub params : List Parameter
  pub qualifiers : Qualifiers
  pub is_mutable : Bool
  pub result : Option Typ
  pub body : syntax.Trees
  pub body_at : At
  -- the byte behind the brace
  pub closed : ℕ

-- into its body: the names of the enclosing function are known, its variables only as captures (5.1.2 p17)
abbrev pub lambda_entered : State → Written → Returns → Typ → State
lambda_entered st x rs r = record {
  ctx = record st.ctx {
    scopes = [] ∷ st.ctx.scopes;
    this = Some
        (record { typ = typ (closure (length st.ctx.classes)) (not x.is_mutable) false; place = length (result_items r) });
    returns = rs;
    breaks = false;
    continues = false;
    label = Outside;
    labels = no_labels (plain void);
    lambda =
        Some (record { class = length st.ctx.classes; outer = length st.ctx.variables; captures = x.captures });
    closures = [];
  };
  work = record st.work { frame = result_items r ++ plain (ptr (typ (closure (length st.ctx.classes)) (not x.is_mutable) false)) ∷ [] };
  bodies = st.bodies;
}

-- with its class and its call, whose type is known
abbrev pub declared_closure : State → Written → Signature → Ctx
declared_closure st x sig = with_closure st.ctx x.captures (call_record x.at sig x.qualifiers x.is_mutable) x.params x.closed

-- the same inside its body
abbrev pub inside : State → State → Ctx → State
inside st e c = record e { ctx = record e.ctx { classes = c.classes; traits = c.traits; slots = c.slots; funcs = c.funcs } }

abbrev pub body_statements : List Lexeme → State → Written → Result Done ElabFault
body_statements s e x = and_then (with_parameters s e x.params) (λ (y : State). statements_of no_lambda s y x.body)

abbrev pub lambda_type : Ctx → Written → Typ → Result Typ ElabFault
lambda_type c x r = and_then (function_of c x.at r x.params (is_declared_safe x.qualifiers)) (λ (t : Typ). and_then (typ_sized c.classes x.at t) (λ y. Ok t))

-- its object is no larger than the greatest one (profile)
abbrev pub closure_sized : State → Written → Signature → Result Bool ElabFault
closure_sized st x sig = sized x.at (class_extent (declared_closure st x sig).classes (length st.ctx.classes)).size

abbrev pub signature_in : Form → Signature
signature_in (func sig) = sig
signature_in f = signature no_typs (plain void) false

-- with its result known: the body once
abbrev pub lambda_with : List Lexeme → State → Written → Typ → Signature → Result State ElabFault
lambda_with s st x r sig = and_then (check x.at Incomplete (is_complete st.ctx (held r)))
    (λ y. and_then (closure_sized st x sig)
    (λ z. and_then (body_statements s (inside st (lambda_entered st x (known r) r) (declared_closure st x sig)) x) (λ (d : Done).
    body_made (record st { ctx = declared_closure st x sig }) x.at (length st.ctx.funcs)
    (statement (forms.Block false) x.body_at (followed_by d.trees (end_of d.state.ctx r x.body_at))) d.state)))

abbrev pub lambda_known : List Lexeme → State → Written → Typ → Result State ElabFault
lambda_known s st x r = and_then (lambda_type st.ctx x r) (λ (t : Typ). lambda_with s st x r (signature_in (form_in t)))

-- the type of the first `return`, or none (5.1.2 p4): the body is read for it alone
abbrev pub result_in : Returns → Typ
result_in (deduced (Some t)) = t
result_in rs = plain void

abbrev pub result_read : List Lexeme → State → Written → Signature → Result Typ ElabFault
result_read s st x sig = and_then (closure_sized st x sig)
    (λ z. and_then (body_statements s (inside st (lambda_entered st x (deduced None) (plain void)) (declared_closure st x sig)) x)
    (λ (d : Done). Ok (result_in d.state.ctx.returns)))

abbrev pub result_deduced : List Lexeme → State → Written → Typ → Result Typ ElabFault
result_deduced s st x t = result_read s st x (signature_in (form_in t))

abbrev pub result_of : List Lexeme → State → Written → Option Typ → Result Typ ElabFault
result_of s st x (Some r) = Ok r
result_of s st x None = and_then (lambda_type st.ctx x (plain void)) (λ (t : Typ). result_deduced s st x t)

abbrev pub with_written : State → ℕ → Written → State
with_written st n x = record st { ctx = record st.ctx { closures = st.ctx.closures ++ record { at = x.at; class = n; captures = x.captures } ∷ [] } }

abbrev pub lambda_made : List Lexeme → State → Written → Result State ElabFault
lambda_made s st x = and_then (result_of s st x x.result)
    (λ (r : Typ). and_then (lambda_known s st x r) (λ (y : State). Ok (with_written y (length st.ctx.classes) x)))

-- Its parts

abbrev pub is_mutable_word : syntax.Tree → Bool
is_mutable_word (syntax.node k.Mutable p token kids) = true
is_mutable_word t = false

abbrev pub has_mutable : syntax.Trees → Bool
has_mutable syntax.none = false
has_mutable (syntax.more t ts) = is_mutable_word t || has_mutable ts

abbrev pub parameters_among : List Lexeme → Ctx → Work → syntax.Trees → Result (List Parameter) ElabFault
parameters_among s c w (syntax.more (syntax.node k.ParameterDeclarationClause p token kids) ts) =
    parameters_in s c w (syntax.node k.ParameterDeclarationClause p token kids)
parameters_among s c w ts = Ok []

abbrev pub an_option : Result Typ ElabFault → Result (Option Typ) ElabFault
an_option r = and_then r (λ (t : Typ). Ok (Some t))

abbrev pub result_among : List Lexeme → Ctx → Work → syntax.Trees → Result (Option Typ) ElabFault
result_among s c w syntax.none = Ok None
result_among s c w (syntax.more (syntax.node k.TrailingReturnType p token (syntax.more t syntax.none)) ts) = an_option (type_id_of s c w t)
result_among s c w (syntax.more t ts) = result_among s c w ts

abbrev pub kids_of : syntax.Tree → syntax.Trees
kids_of (syntax.node kind p token kids) = kids

abbrev pub place_of_tree : syntax.Tree → At
place_of_tree (syntax.node kind p token kids) = at_of p

abbrev pub end_of_token : Option Lexeme → ℕ
end_of_token (Some l) = l.to
end_of_token None = 0

abbrev pub closing : List Lexeme → syntax.Tree → ℕ
closing s (syntax.node kind p (Some t) kids) = end_of_token (slice_get s t)
closing s t = 0

-- what the declarator says, if there is one; a lambda is not virtual
abbrev pub not_dynamic : At → Qualifiers → Result Bool ElabFault
not_dynamic at q = if q.is_dynamic then Err (Override at DynamicNotVirtual) else Ok true

abbrev pub names_if : List Lexeme → Option ℕ → List (List ℕ) → List (List ℕ)
names_if s (Some t) names = spelling s t ∷ names
names_if s None names = names

abbrev pub parameter_names : List Lexeme → List Parameter → List (List ℕ)
parameter_names s [] = []
parameter_names s (p ∷ ps) = names_if s p.name (parameter_names s ps)

abbrev pub used_in : List Lexeme → Ctx → List Parameter → syntax.Tree → List Used
used_in s c ps body = (scanned s c (record { own = parameter_names s ps; used = [] }) body).used

abbrev pub lambda_written : List Lexeme → State → At → syntax.Trees → syntax.Trees → syntax.Tree → Result State ElabFault
lambda_written s st at intro parts body = and_then (explicit_captures s st.ctx (default_in s intro) intro)
    (λ (xs : List Capture). and_then (parameters_among s st.ctx st.work parts)
    (λ (ps : List Parameter). and_then (not_dynamic at (qualifiers_from s no_qualifiers parts)) (λ y.
    and_then (result_among s st.ctx st.work parts) (λ (r : Option Typ). and_then (default_captures st.ctx (default_in s intro) xs (used_in s st.ctx ps body))
    (λ (ys : List Capture).
    lambda_made s st (record {
      at = at;
      captures = ys;
      params = ps;
      qualifiers = qualifiers_from s no_qualifiers parts;
      is_mutable = has_mutable parts;
      result =
          r;
      body = kids_of body;
      body_at = place_of_tree body;
      closed = closing s body;
    }))))))

abbrev pub lambda_of : List Lexeme → State → At → syntax.Trees → Result State ElabFault
lambda_of s st at (syntax.more intro (syntax.more parts (syntax.more body syntax.none))) = lambda_written s st at (kids_of intro) (kids_of parts) body
lambda_of s st at (syntax.more intro (syntax.more body syntax.none)) = lambda_written s st at (kids_of intro) syntax.none body
lambda_of s st at kids = Err (Ill at OutOfProfile)

-- all lambdas of a full-expression, in the order of the text; none in an operand of `sizeof` (profile)
abbrev mutual
  pub lambdas_of : Lambdas
  lambdas_of s st (syntax.node k.Lambda p token kids) = lambda_of s st (at_of p) kids
  lambdas_of s st (syntax.node k.SizeofExpression p token kids) = Ok st
  lambdas_of s st (syntax.node k.SizeofType p token kids) = Ok st
  lambdas_of s st (syntax.node kind p token kids) = lambdas_among s st kids

  pub lambdas_among : List Lexeme → State → syntax.Trees → Result State ElabFault
  lambdas_among s st syntax.none = Ok st
  lambdas_among s st (syntax.more t ts) = and_then (lambdas_of s st t) (λ (x : State). lambdas_among s x ts)
