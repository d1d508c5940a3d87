-- Bodies of members, and initialisers of members, keep the types of the context around them sound.
use Rattle.std.proofs.Common.{◌≡◌, refl, sym, ◌∙◌, subst, ap, ℕ, suc, Bool, true, false, List, [], ◌∷◌, Option, Some, None, Result, Ok, Err}
use Rattle.std.specs.Prelude.{slice_get, slice_set, is_none, not}
use Rattle.elab_rules.specs.cpp_types.Typ.{Typ, void, class}
use Rattle.elab_rules.specs.cpp_types.Class.{Class, Member}
use Rattle.elab_rules.specs.cpp_types.declared.classes.At.{At}
use Rattle.elab_rules.specs.cpp_lex.Tokens.{Lexeme}
use Rattle.elab_rules.specs.cpp_ast.declared.kinds.NodeKind.TheVariants as k
use Rattle.elab_rules.specs.cpp_ast.Trees as syntax
use Rattle.elab_rules.specs.cpp_tree.declared.faults.ElabFault.{ElabFault}
use Rattle.elab_rules.specs.cpp_tree.declared.faults.IllRule.TheVariants.{UnknownName, Redeclared, NoMember, OutOfProfile}
use Rattle.elab_rules.specs.cpp_tree.declared.program.FuncKind.{FuncKind}
use Rattle.elab_rules.specs.cpp_tree.declared.program.FuncKind.TheVariants.{Plain, Constructor, Destructor, ClosureCall}
use Rattle.elab_rules.specs.cpp_tree.Trees.{Tree}
use Rattle.elab_rules.specs.cpp_tree.Notation.{plain}
use Rattle.elab_rules.specs.cpp_tree.Typing.{unqualified}
use Rattle.elab_rules.specs.elab_ctx.Ctx.{Ctx, Work, Default}
use Rattle.elab_rules.specs.elab_ctx.Steps.{and_then, check, expect, each_of, at_of, spelling}
use Rattle.elab_rules.specs.Initialising.{func_at}
use Rattle.elab_rules.specs.Names.{members_in}
use Rattle.elab_rules.specs.Calls.{base_of_class}
use Rattle.elab_rules.specs.Types.{type_named}
use Rattle.elab_rules.specs.Strings.{string_bytes}
use Rattle.elab_rules.specs.Braces.{default_at, string_object, string_token, syntax_place, is_char_array}
use Rattle.elab_rules.specs.Expressions.{operands_of}
use Rattle.elab_rules.specs.Statements.{State, Done, Body, Lambdas, with_work, all_lambdas, default_object, directly_initialised, statements_of, full_operand}
use Rattle.elab_rules.specs.Statements.{copy_initialised}
use Rattle.elab_rules.specs.Functions.{this_at, result_items}
use Rattle.elab_rules.specs.Functions.{Header, entered, leaving, with_parameters, within_frame, body_made, defines_well, with_definition, defined_function}
use Rattle.elab_rules.specs.Classes.{Method, method_of, body_in, last_token, token_end}
use Rattle.elab_rules.specs.Members.{Given, Giving, member_index, member_type, given_part, given_base, is_named_class, is_base_type, given_for}
use Rattle.elab_rules.specs.Members.{for_part, given_by, all_given, default_built, base_built, member_built, members_built, parts_built, in_object}
use Rattle.elab_rules.specs.Members.{with_default_member}
use Rattle.elab_rules.specs.Members.{this_type, constructor_body, destructor_body, body_by_kind, method_body, default_value, default_made, default_for}
use Rattle.elab_rules.specs.Members.{default_of}
use Rattle.elab_rules.specs.Members.{defaults_of, all_defaults, initialiser_in, place_of_header, late_agrees, late_method, late_function, late_of, all_late}
use Rattle.elab_fits.specs.Standing.{On}
use Rattle.elab_fits.proofs.Steps.{bind, skip}
use Rattle.elab_sound_types.specs.Types.{is_class}
use Rattle.elab_sound_types.specs.Contexts.{HasSoundTypes, is_spelled, are_spelled, is_sound_function, is_sound_this, are_sound_closures}
use Rattle.elab_sound_types.specs.States.{IsSoundState, IsSoundAfter, Kept, Grown, KeepsSound, is_sound_object, is_sound_return}
use Rattle.elab_sound_types.proofs.Growth.{grown_same, class_more}
use Rattle.elab_sound_types.proofs.Closures.{names_more, variables_more, this_more, captures_more, closures_more, return_more}
use Rattle.elab_sound_types.proofs.Braces.{copy_kept, direct_kept}
use Rattle.elab_sound_types.proofs.Expressions.{first_spelled, rest_spelled, kids_spelled}
use Rattle.elab_sound_types.proofs.States.{all_but, nothing, later, since}
use Rattle.elab_sound_units.specs.Headers.{IsSoundHeader, IsRead}
use Rattle.elab_sound_units.proofs.Below.{GlobalsStay, MadeBehind, After, DoneAfter, FullAfter, AllTypedIn, full_sound, lambdas_sound, statements_sound}
use Rattle.elab_sound_units.proofs.Below.{function_sound, parameters_sound, operands_sound}
use Rattle.elab_sound_units.proofs.Contexts.{moved, function_at, work_state, functions_state, with_defaults}
use Rattle.elab_sound_units.proofs.Headers.{method_read, SpelledIf, body_spelled}

-- steps over trees, one behind the other
pub each_sound : {R : Type 0} (P : R → Type 0) (s : List Lexeme) (f : R → syntax.Tree → Result R ElabFault) (r : R) (ts : syntax.Trees) → P r
    → are_spelled s ts ≡ true → ((x : R) (t : syntax.Tree) → P x → is_spelled s t ≡ true → On P (f x t)) → On P (each_of f r ts)
each_sound P s f r syntax.none h i g = h
each_sound P s f r (syntax.more t ts) h i g = bind P P (f r t) _ (g r t h (first_spelled s t ts i))
    (λ x j. each_sound P s f x ts j (rest_spelled s t ts i) g)

-- what stands behind a state, behind one before it
pub behind : (a b : State) (r : Result State ElabFault) → After a b → On (After b) r → On (After a) r
behind a b r h g = since (After b) (After a) r g (λ x i. later true a b x h i)

pub each_after : (s : List Lexeme) (f : State → syntax.Tree → Result State ElabFault)
    → ((st : State) (t : syntax.Tree) → IsSoundState st → is_spelled s t ≡ true → On (After st) (f st t)) → (st : State) (ts : syntax.Trees)
    → IsSoundState st → are_spelled s ts ≡ true → On (After st) (each_of f st ts)
each_after s f g st ts h i = each_sound (After st) s f st ts (nothing true st h) i (λ x t j m. behind st x (f x t) j (g x t j.sound m))

-- Into an object, and out of a body

this_sound : (classes : List Class) (before : List Typ) (o : Option Typ) → is_sound_object classes o ≡ true → is_sound_this classes (this_at before o) ≡ true
this_sound classes before (Some t) h = h
this_sound classes before None h = refl

pub entered_sound : (st : State) (r : Typ) (this : Option Typ) (class : Option ℕ) → IsSoundState st → is_sound_object st.ctx.classes this ≡ true
    → IsSoundState (entered st r this class)
entered_sound st r this cls h g = record {
  context = record {
    types = h.context.types;
    members = h.context.members;
    functions = h.context.functions;
    enumerators = h.context.enumerators;
    variables = refl;
    this = this_sound st.ctx.classes (result_items r) this g;
    captures = refl;
    globals = h.context.globals;
    many = h.context.many;
    copied = h.context.copied;
  };
  closures = h.closures;
  returned = refl;
}

pub object_sound : (st : State) (n : ℕ) → IsSoundState st → is_class st.ctx.classes n ≡ true → IsSoundState (in_object st n)
object_sound st n h g = entered_sound st (plain void) (Some (plain (class n))) (Some n) h g

pub left_context : (st z : State) → Kept st.ctx.classes z.ctx.classes → IsSoundState st → IsSoundState z → HasSoundTypes (leaving st z).ctx (leaving st z).work
left_context st z l h g = record {
  types = names_more st.ctx.classes z.ctx.classes l st.ctx.types h.context.types;
  members = g.context.members;
  functions = g.context.functions;
  enumerators = h.context.enumerators;
  variables = variables_more st.ctx.classes z.ctx.classes l st.ctx.variables h.context.variables;
  this = this_more st.ctx.classes z.ctx.classes l st.ctx.this h.context.this;
  captures = captures_more st.ctx.classes z.ctx.classes l st.ctx.lambda h.context.captures;
  globals = g.context.globals;
  many = g.context.many;
  copied = g.context.copied;
}

grown_by : (xs ys : List Class) → Kept xs ys → Grown true xs ys
grown_by xs ys l = record { kept = l; same = λ b. absurd cc }

left_after : (st z : State) (bs : List Body) → Kept st.ctx.classes z.ctx.classes → IsSoundState st → IsSoundState z
    → After st (record (leaving st z) { bodies = bs })
left_after st z bs l h g = record {
  sound = record {
    context = left_context st z l h g;
    closures = closures_more st.ctx.classes z.ctx.classes l st.ctx.closures h.closures;
    returned = return_more st.ctx.classes z.ctx.classes l st.ctx.returns h.returned;
  };
  grown = grown_by st.ctx.classes z.ctx.classes l;
}

default_after : (st : State) (n i : ℕ) (e : Tree) (z : State) → Kept st.ctx.classes z.ctx.classes → IsSoundState st → IsSoundState z
    → After st (with_default_member st n i e z)
default_after st n i e z l h g = record {
  sound = record {
    context = with_defaults (leaving st z).ctx (leaving st z).work _ (left_context st z l h g);
    closures = closures_more st.ctx.classes z.ctx.classes l st.ctx.closures h.closures;
    returned = return_more st.ctx.classes z.ctx.classes l st.ctx.returns h.returned;
  };
  grown = grown_by st.ctx.classes z.ctx.classes l;
}

pub made_after : (st z : State) (at : At) (place : ℕ) (tree : Tree) → Kept st.ctx.classes z.ctx.classes → IsSoundState st → IsSoundState z
    → On (After st) (body_made st at place tree z)
made_after st z at place tree l h g = skip (After st) (within_frame z.ctx at z.work.frame) _ (λ y. left_after st z _ l h g)

-- Parts of an object: the context is the same but for lambdas at hand, and strings alone are added

abbrev pub but_closures : Ctx → Ctx
but_closures c = record c { closures = [] }

pub record OnlyWork (a b : State) : Type 0 where
  pub ctx : but_closures b.ctx ≡ but_closures a.ctx
  pub closures : (cs : List Class) → are_sound_closures cs a.ctx.closures ≡ true → are_sound_closures cs b.ctx.closures ≡ true
  pub globals : GlobalsStay a.work b.work

abbrev pub OnlyDone : State → Done → Type 0
OnlyDone a d = OnlyWork a d.state

pub globals_same : (w : Work) → GlobalsStay w w
globals_same w = record { kept = λ cs h. h }

pub no_work : (a : State) → OnlyWork a a
no_work a = record { ctx = refl; closures = λ cs h. h; globals = globals_same a.work }

pub made_work : (a : State) (w : Work) → GlobalsStay a.work w → OnlyWork a (with_work a w)
made_work a w g = record { ctx = refl; closures = λ cs h. refl; globals = g }

pub work_joined : (a b c : State) → OnlyWork a b → OnlyWork b c → OnlyWork a c
work_joined a b c h g = record {
  ctx = g.ctx ∙ h.ctx;
  closures = λ cs i. g.closures cs (h.closures cs i);
  globals = record { kept = λ cs i. g.globals.kept cs (h.globals.kept cs i) };
}

-- of the lambdas at hand a context says nothing
closed_context : (c : Ctx) (w : Work) → HasSoundTypes c w → HasSoundTypes (but_closures c) w
closed_context c w h = record {
  types = h.types;
  members = h.members;
  functions = h.functions;
  enumerators = h.enumerators;
  variables = h.variables;
  this = h.this;
  captures = h.captures;
  globals = h.globals;
  many = h.many;
  copied = h.copied;
}

open_context : (c : Ctx) (w : Work) → HasSoundTypes (but_closures c) w → HasSoundTypes c w
open_context c w h = record {
  types = h.types;
  members = h.members;
  functions = h.functions;
  enumerators = h.enumerators;
  variables = h.variables;
  this = h.this;
  captures = h.captures;
  globals = h.globals;
  many = h.many;
  copied = h.copied;
}

pub same_classes : (a b : State) → OnlyWork a b → a.ctx.classes ≡ b.ctx.classes
same_classes a b o = sym (ap (λ (c : Ctx). c.classes) o.ctx)

pub work_after : (a b : State) → OnlyWork a b → IsSoundState a → After a b
work_after a b o h = record {
  sound = record {
    context = open_context b.ctx b.work (subst (λ (c : Ctx). HasSoundTypes c b.work) (sym o.ctx)
        (closed_context a.ctx b.work (moved a.ctx a.work b.work h.context o.globals)));
    closures = subst (λ (cs : List Class). are_sound_closures cs b.ctx.closures ≡ true) (same_classes a b o) (o.closures a.ctx.classes h.closures);
    returned = subst (λ (c : Ctx). is_sound_return c.classes c.returns ≡ true) (sym o.ctx) h.returned;
  };
  grown = subst (λ (cs : List Class). Grown true a.ctx.classes cs) (same_classes a b o) (grown_same true a.ctx.classes);
}

built_work : (st : State) (at : At) (t : Typ) (d : Option Default) → On (MadeBehind st.work) (default_built st at t d)
built_work st at t (Some d) = record { kept = λ cs h. h }
built_work st at t None = skip (MadeBehind st.work) (default_object st.ctx t at) _ (λ e. globals_same st.work)

member_work : (st : State) (at : At) (n i : ℕ) (t : Typ) (g : Option Given) → On (OnlyDone st) (member_built st at n i t g)
member_work st at n i t (Some g) = no_work st
member_work st at n i t None = bind (MadeBehind st.work) (OnlyDone st) (default_built st at t (default_at n i st.ctx.defaults)) _
    (built_work st at t (default_at n i st.ctx.defaults)) (λ m h. made_work st m.work h)

members_work : (at : At) (n : ℕ) (gs : List Given) (st : State) (i : ℕ) (ms : List Member) → On (OnlyDone st) (members_built at n gs st i ms)
members_work at n gs st i [] = no_work st
members_work at n gs st i (m ∷ ms) = bind (OnlyDone st) (OnlyDone st) (member_built st at n i m.typ (given_for (Some i) gs)) _
    (member_work st at n i m.typ (given_for (Some i) gs))
    (λ x h. bind (OnlyDone x.state) (OnlyDone st) (members_built at n gs x.state (suc i) ms) _ (members_work at n gs x.state (suc i) ms)
    (λ y g. work_joined st x.state y.state h g))

pub parts_work : (st : State) (at : At) (n : ℕ) (gs : List Given) → On (OnlyDone st) (parts_built st at n gs)
parts_work st at n gs = skip (OnlyDone st) (base_built st at n (base_of_class (slice_get st.ctx.classes n)) (given_for None gs)) _
    (λ b. bind (OnlyDone st) (OnlyDone st) (members_built at n gs st 0 (members_in (slice_get st.ctx.classes n))) _
    (members_work at n gs st 0 (members_in (slice_get st.ctx.classes n))) (λ d h. h))

-- a state in which the class is one still
pub record Within (a : State) (n : ℕ) (st : State) : Type 0 where
  pub after : IsSoundAfter true a st
  pub class : is_class st.ctx.classes n ≡ true

-- a definition changes no signature
pub definition_after : (st : State) (i : ℕ) (h : Header) (text : List ℕ) (closed : ℕ) → IsSoundState st
    → After st (record st { ctx = with_definition st.ctx i h text closed })
definition_after st i h text closed a = functions_state st (slice_set st.ctx.funcs i (defined_function (func_at st.ctx.funcs i) h text closed)) a
    (all_but (is_sound_function st.ctx.classes) st.ctx.funcs i _ (function_at st.ctx.classes st.ctx.funcs i a.context.functions) a.context.functions)

module _ (lams : Lambdas) (s : List Lexeme) (keeps : KeepsSound true s lams) where
  -- What is written for parts

  abbrev pub GivingAfter : State → Giving → Type 0
  GivingAfter a g = IsSoundAfter true a g.state

  part_after : (n : ℕ) (g : Giving) (i : Option ℕ) (at : At) (t : Typ) (es : syntax.Trees) → IsSoundState g.state → are_spelled s es ≡ true
      → On (GivingAfter g.state) (given_part lams s n g i at t es)
  part_after n g i at t es h j = skip (GivingAfter g.state) (check at Redeclared (is_none (given_for i g.given))) _
      (λ y. bind (After g.state) (GivingAfter g.state) (all_lambdas lams s g.state es) _ (lambdas_sound lams s keeps g.state es h j)
      (λ st a. bind (AllTypedIn st.ctx) (GivingAfter g.state) (operands_of s st.ctx st.work es) _ (operands_sound s st es a.sound j)
      (λ xs b. bind (MadeBehind xs.work) (GivingAfter g.state) (directly_initialised (for_part st.ctx n i) xs.work t at xs.operands) _
      (direct_kept (for_part st.ctx n i) xs.work t at xs.operands)
      (λ m d. later true g.state st (with_work st m.work) a (work_state st m.work a.sound (moved st.ctx xs.work m.work b d))))))

  base_after : (n : ℕ) (g : Giving) (at : At) (t : Typ) (es : syntax.Trees) → IsSoundState g.state → are_spelled s es ≡ true
      → On (GivingAfter g.state) (given_base lams s n g at t es)
  base_after n g at t es h j = skip (GivingAfter g.state) (check at OutOfProfile (not (is_named_class n t))) _
      (λ x. skip (GivingAfter g.state) (check at NoMember (is_base_type (base_of_class (slice_get g.state.ctx.classes n)) t)) _
      (λ y. part_after n g None at (unqualified t) es h j))

  by_after : (n : ℕ) (g : Giving) (t : syntax.Tree) → IsSoundState g.state → is_spelled s t ≡ true → On (GivingAfter g.state) (given_by lams s n g t)
  by_after n g (syntax.node k.MemberInitializer p (Some t) es) h j =
      skip (GivingAfter g.state) (expect (at_of p) NoMember (member_index 0 (spelling s t) (members_in (slice_get g.state.ctx.classes n)))) _
      (λ i. part_after n g (Some i) (at_of p) (member_type (slice_get (members_in (slice_get g.state.ctx.classes n)) i)) es h
      (kids_spelled s k.MemberInitializer p (Some t) es j))
  by_after n g (syntax.node k.BaseInitializer p (Some t) es) h j =
      skip (GivingAfter g.state) (expect (at_of p) UnknownName (type_named (spelling s t) g.state.ctx.types)) _
      (λ u. base_after n g (at_of p) u es h (kids_spelled s k.BaseInitializer p (Some t) es j))
  by_after n g t h j = nothing true g.state h

  given_behind : (a : State) (x : Giving) (r : Result Giving ElabFault) → After a x.state → On (GivingAfter x.state) r → On (GivingAfter a) r
  given_behind a x r h g = since (GivingAfter x.state) (GivingAfter a) r g (λ y i. later true a x.state y.state h i)

  pub given_after : (n : ℕ) (g : Giving) (ts : syntax.Trees) → IsSoundState g.state → are_spelled s ts ≡ true
      → On (GivingAfter g.state) (all_given lams s n g ts)
  given_after n g ts h j = each_sound (GivingAfter g.state) s (given_by lams s n) g ts (nothing true g.state h) j
      (λ x t i m. given_behind g.state x (given_by lams s n x t) i (by_after n x t i.sound m))

  -- Bodies

  pub constructor_after : (st : State) (h : Header) (n place : ℕ) (inits : syntax.Trees) (body : syntax.Tree) → IsSoundState st
      → is_class st.ctx.classes n ≡ true → IsSoundHeader st.ctx.classes h → are_spelled s inits ≡ true → is_spelled s body ≡ true
      → On (After st) (constructor_body lams s st h n place inits body)
  constructor_after st h n place inits (syntax.node kind p token kids) a c i j m =
      bind (After (in_object st n)) (After st) (with_parameters s (in_object st n) h.params) _
      (parameters_sound s (in_object st n) h.params (object_sound st n a c) i.params)
      (λ y b. bind (GivingAfter y) (After st) (all_given lams s n (record { state = y; given = [] }) inits) _
      (given_after n (record { state = y; given = [] }) inits b.sound j)
      (λ g d. bind (OnlyDone g.state) (After st) (parts_built g.state h.at n g.given) _ (parts_work g.state h.at n g.given)
      (λ parts e. let f = work_after g.state parts.state e d.sound in
      bind (DoneAfter parts.state) (After st) (statements_of lams s parts.state kids) _
      (statements_sound lams s keeps parts.state kids f.sound (kids_spelled s kind p token kids m))
      (λ z o. let q = later true (in_object st n) y z.state b (later true y g.state z.state d (later true g.state parts.state z.state f o)) in
      made_after st z.state h.at place _ q.grown.kept a q.sound))))

  pub destructor_after : (st : State) (h : Header) (n place : ℕ) (body : syntax.Tree) → IsSoundState st → is_class st.ctx.classes n ≡ true
      → is_spelled s body ≡ true → On (After st) (destructor_body lams s st h n place body)
  destructor_after st h n place (syntax.node kind p token kids) a c m =
      bind (DoneAfter (in_object st n)) (After st) (statements_of lams s (in_object st n) kids) _
      (statements_sound lams s keeps (in_object st n) kids (object_sound st n a c) (kids_spelled s kind p token kids m))
      (λ d i. made_after st d.state h.at place _ i.grown.kept a i.sound)

  kind_after : (st : State) (n place : ℕ) (kind : FuncKind) (m : Method) (body : syntax.Tree) → IsSoundState st → is_class st.ctx.classes n ≡ true
      → IsSoundHeader st.ctx.classes m.header → are_spelled s m.rest ≡ true → is_spelled s body ≡ true
      → On (After st) (body_by_kind lams s st n place kind m body)
  kind_after st n place Constructor m body a c h i j = constructor_after st m.header n place m.rest body a c h i j
  kind_after st n place Destructor m body a c h i j = destructor_after st m.header n place body a c j
  kind_after st n place Plain m body a c h i j =
      function_sound lams s keeps st m.header (Some (this_type n m.header)) place body a h.params c j
  kind_after st n place ClosureCall m body a c h i j =
      function_sound lams s keeps st m.header (Some (this_type n m.header)) place body a h.params c j

  pub method_after : (st : State) (n place : ℕ) (kind : FuncKind) (m : Method) (body : syntax.Tree) → IsSoundState st → is_class st.ctx.classes n ≡ true
      → IsRead s st.ctx.classes n m → is_spelled s body ≡ true → On (After st) (method_body lams s st n place kind m body)
  method_after st n place kind m body a c h j =
      skip (After st) (defines_well m.header) _ (λ y. kind_after st n place kind m body a c h.header.sound h.rest j)

  -- Initialisers of members in the class

  full_copied : (st : State) (t : Typ) (e : syntax.Tree) (at : At) → IsSoundState st → is_spelled s e ≡ true
      → On (DoneAfter st) (default_value lams s st t e false None)
  full_copied st t e at h i = bind (FullAfter st) (DoneAfter st) (full_operand lams s st e) _ (full_sound lams s keeps st e h i)
      (λ f a. bind (MadeBehind f.state.work) (DoneAfter st) (copy_initialised f.state.ctx f.state.work t f.operand) _
      (copy_kept f.state.ctx f.state.work t f.operand)
      (λ m b. later true st f.state (with_work f.state m.work) a
      (work_state f.state m.work a.sound (moved f.state.ctx f.state.work m.work a.sound.context b))))

  value_after : (st : State) (t : Typ) (e : syntax.Tree) (b : Bool) (o : Option ℕ) → IsSoundState st → is_spelled s e ≡ true
      → On (DoneAfter st) (default_value lams s st t e b o)
  value_after st t e true (Some i) h j = skip (DoneAfter st) (string_object st.ctx t (syntax_place e) (string_bytes (spelling s i))) _ (λ x. nothing true st h)
  value_after st t e true None h j = full_copied st t e (syntax_place e) h j
  value_after st t e false o h j = full_copied st t e (syntax_place e) h j

  pub default_made_after : (st : State) (n i : ℕ) (t : Typ) (e : syntax.Tree) → IsSoundState st → is_class st.ctx.classes n ≡ true → is_spelled s e ≡ true
      → On (After st) (default_made lams s st n i t e)
  default_made_after st n i t e h c j =
      bind (DoneAfter (in_object st n)) (After st) (default_value lams s (in_object st n) t e (is_char_array t) (string_token e)) _
      (value_after (in_object st n) t e (is_char_array t) (string_token e) (object_sound st n h c) j)
      (λ d a. default_after st n i _ d.state a.grown.kept h a.sound)

  initialiser_spelled : (ts : syntax.Trees) → are_spelled s ts ≡ true → SpelledIf s (initialiser_in ts)
  initialiser_spelled syntax.none h = tt
  initialiser_spelled (syntax.more (syntax.node k.EqualInitializer p token (syntax.more e syntax.none)) ts) h =
      first_spelled s e syntax.none (kids_spelled s k.EqualInitializer p token (syntax.more e syntax.none)
      (first_spelled s (syntax.node k.EqualInitializer p token (syntax.more e syntax.none)) ts h))
  initialiser_spelled (syntax.more (syntax.node k.PureSpecifier p token (syntax.more e syntax.none)) ts) h =
      first_spelled s e syntax.none (kids_spelled s k.PureSpecifier p token (syntax.more e syntax.none)
      (first_spelled s (syntax.node k.PureSpecifier p token (syntax.more e syntax.none)) ts h))
  initialiser_spelled (syntax.more t ts) h = initialiser_spelled ts (rest_spelled s t ts h)

  for_after : (st : State) (n : ℕ) (i : Option ℕ) (e : Option syntax.Tree) → IsSoundState st → is_class st.ctx.classes n ≡ true → SpelledIf s e
      → On (After st) (default_for lams s st n i e)
  for_after st n (Some i) (Some e) h c j =
      default_made_after st n i (member_type (slice_get (members_in (slice_get st.ctx.classes n)) i)) e h c j
  for_after st n (Some i) None h c j = nothing true st h
  for_after st n None e h c j = nothing true st h

  of_after : (n : ℕ) (st : State) (t : syntax.Tree) → IsSoundState st → is_class st.ctx.classes n ≡ true → is_spelled s t ≡ true
      → On (After st) (default_of lams s n st t)
  of_after n st (syntax.node k.MemberDeclarator p (Some t) kids) h c j =
      for_after st n (member_index 0 (spelling s t) (members_in (slice_get st.ctx.classes n))) (initialiser_in kids) h c
      (initialiser_spelled kids (kids_spelled s k.MemberDeclarator p (Some t) kids j))
  of_after n st t h c j = nothing true st h

  within_start : (st : State) (n : ℕ) → IsSoundState st → is_class st.ctx.classes n ≡ true → Within st n st
  within_start st n h c = record { after = nothing true st h; class = c }

  -- steps in which the class stays one
  each_within : (n : ℕ) (f : State → syntax.Tree → Result State ElabFault)
      → ((st : State) (t : syntax.Tree) → IsSoundState st → is_class st.ctx.classes n ≡ true → is_spelled s t ≡ true → On (After st) (f st t)) → (st : State)
      (ts : syntax.Trees) → IsSoundState st → is_class st.ctx.classes n ≡ true → are_spelled s ts ≡ true → On (After st) (each_of f st ts)
  each_within n f g st ts h c i = since (Within st n) (After st) (each_of f st ts)
      (each_sound (Within st n) s f st ts (within_start st n h c) i (λ x t j m. since (After x) (Within st n) (f x t)
      (g x t j.after.sound j.class m)
      (λ y o. record { after = later true st x y j.after o; class = class_more x.ctx.classes y.ctx.classes o.grown.kept n j.class })))
      (λ x j. j.after)

  those_after : (n : ℕ) (st : State) (t : syntax.Tree) → IsSoundState st → is_class st.ctx.classes n ≡ true → is_spelled s t ≡ true
      → On (After st) (defaults_of lams s n st t)
  those_after n st (syntax.node k.MemberDeclaration p token kids) h c j =
      each_within n (default_of lams s n) (λ x t a b d. of_after n x t a b d) st kids h c (kids_spelled s k.MemberDeclaration p token kids j)
  those_after n st t h c j = nothing true st h

  pub defaults_after : (n : ℕ) (st : State) (ts : syntax.Trees) → IsSoundState st → is_class st.ctx.classes n ≡ true → are_spelled s ts ≡ true
      → On (After st) (all_defaults lams s n st ts)
  defaults_after n st ts h c j = each_within n (defaults_of lams s n) (λ x t a b d. those_after n x t a b d) st ts h c j

  -- Bodies behind the brace

  pub late_method_after : (st : State) (n : ℕ) (kind : FuncKind) (m : Method) (body : Option syntax.Tree) → IsSoundState st → is_class st.ctx.classes n ≡ true
      → IsRead s st.ctx.classes n m → SpelledIf s body → On (After st) (late_method lams s st n kind m body)
  late_method_after st n kind m (Some body) h c r j = skip (After st) (place_of_header st.ctx m.header) _
      (λ place. with_late place (late_agrees m.header (token_end (slice_get s (last_token (Some body)))) (func_at st.ctx.funcs place)))
    where
      with_late : (place : ℕ) (o : Result Bool ElabFault) → On (After st) (and_then (and_then o (λ (y : Bool). Ok (with_definition st.ctx place m.header
          (func_at st.ctx.funcs place).text (func_at st.ctx.funcs place).closed_at)))
          (λ (d : Ctx). method_body lams s (record st { ctx = d }) n place kind m body))
      with_late place (Ok y) = let d : Ctx = with_definition st.ctx place m.header (func_at st.ctx.funcs place).text (func_at st.ctx.funcs place).closed_at in
          let a = definition_after st place m.header (func_at st.ctx.funcs place).text (func_at st.ctx.funcs place).closed_at h in
          behind st (record st { ctx = d }) (method_body lams s (record st { ctx = d }) n place kind m body) a
          (method_after (record st { ctx = d }) n place kind m body a.sound c r j)
      with_late place (Err e) = tt
  late_method_after st n kind m None h c r j = nothing true st h

  late_function_after : (st : State) (n : ℕ) (name : List ℕ) (at : At) (kind : FuncKind) (kids : syntax.Trees) → IsSoundState st
      → is_class st.ctx.classes n ≡ true → are_spelled s kids ≡ true → On (After st) (late_function lams s st n name at kind kids)
  late_function_after st n name at kind kids h c j =
      bind (IsRead s st.ctx.classes n) (After st) (method_of s st n name at kind kids) _ (method_read s st n name at kind kids h j)
      (λ m r. late_method_after st n kind m (body_in kids) h c r (body_spelled s kids j))

  late_after : (n : ℕ) (name : List ℕ) (st : State) (t : syntax.Tree) → IsSoundState st → is_class st.ctx.classes n ≡ true → is_spelled s t ≡ true
      → On (After st) (late_of lams s n name st t)
  late_after n name st (syntax.node k.FunctionDefinition p token kids) h c j =
      late_function_after st n name (at_of p) Plain kids h c (kids_spelled s k.FunctionDefinition p token kids j)
  late_after n name st (syntax.node k.ConstructorDefinition p token kids) h c j =
      late_function_after st n name (at_of p) Constructor kids h c (kids_spelled s k.ConstructorDefinition p token kids j)
  late_after n name st (syntax.node k.DestructorDefinition p token kids) h c j =
      late_function_after st n name (at_of p) Destructor kids h c (kids_spelled s k.DestructorDefinition p token kids j)
  late_after n name st t h c j = nothing true st h

  pub all_late_after : (n : ℕ) (name : List ℕ) (st : State) (ts : syntax.Trees) → IsSoundState st → is_class st.ctx.classes n ≡ true
      → are_spelled s ts ≡ true → On (After st) (all_late lams s n name st ts)
  all_late_after n name st ts h c j = each_within n (late_of lams s n name) (λ x t a b d. late_after n name x t a b d) st ts h c j
