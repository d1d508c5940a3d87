-- In a good state expressions are read with whole operands.
use Rattle.std.proofs.Common.{◌≡◌, refl, subst, ℕ, Bool, true, false, not, ◌&&◌, List, [], ◌∷◌, slice_get, Option, Some, None, is_some}
use Rattle.std.proofs.lemmas.Bool.{and_parts}
use Rattle.elab_rules.specs.cpp_types.Typ.{Typ, typ, Form, int, enum, ptr, ref, func, class, closure, tx_ex, Signature, signature, Typs}
use Rattle.elab_rules.specs.cpp_types.Typ.{none as no_typs, more as and_typ}
use Rattle.elab_rules.specs.cpp_types.Class.{Class, completion_of}
use Rattle.elab_rules.specs.cpp_types.declared.classes.At.{At}
use Rattle.elab_rules.specs.cpp_types.declared.ranks.Cat.{Cat}
use Rattle.elab_rules.specs.cpp_types.declared.ranks.Cat.TheVariants.{Lvalue, Prvalue}
use Rattle.elab_rules.specs.cpp_lex.Tokens.{Lexeme}
use Rattle.elab_rules.specs.cpp_ast.Trees as syntax
use Rattle.elab_rules.specs.cpp_tree.declared.faults.IllRule.TheVariants.{UnknownName, BadInit, Capture as CaptureRule}
use Rattle.elab_rules.specs.cpp_tree.declared.kinds.TKind.TheVariants.{Local}
use Rattle.elab_rules.specs.cpp_tree.Trees.{Tree, node, none, typ_in, cat_of}
use Rattle.elab_rules.specs.cpp_tree.Typing.{form_in, is_class_typ, is_class_prvalue}
use Rattle.elab_rules.specs.cpp_tree.Rows.{Setting}
use Rattle.elab_rules.specs.cpp_tree.Units.{Func as UnitFunc}
use Rattle.elab_rules.specs.cpp_tree.WellFormed.{is_item}
use Rattle.elab_rules.specs.elab_ctx.Ctx.{Ctx, Work, This, Capture, Lambda}
use Rattle.elab_rules.specs.elab_ctx.Steps.{and_then, expect, Operand, Made, Typed, TypedAll}
use Rattle.elab_rules.specs.Values
use Rattle.elab_rules.specs.Initialising.{signature_parameters}
use Rattle.elab_rules.specs.Names
use Rattle.elab_rules.specs.Expressions
use Rattle.elab_rules.specs.Braces
use Rattle.elab_rules.specs.Statements.{State}
use Rattle.elab_fits.specs.Standing.{Reaches}
use Rattle.elab_growth.proofs.Growth.{Behind, expression as expression_grows}
use Rattle.elab_places.proofs.Steps.{On, skip, choose, held_by}
use Rattle.elab_places.proofs.Declaring.{on}
use Rattle.elab_sound_types.specs.Contexts.{HasSoundTypes, is_sound_global}
use Rattle.elab_sound_types.proofs.Braces.{item_kept}
use Rattle.elab_sound_types.proofs.Expressions.{Chosen, operand_sound, expressions_law, operands_law, moved}
use Rattle.elab_sound_types.proofs.Globals as globals
use Rattle.elab_sound_types.proofs.Names.{at_place}
use Rattle.elab_holds.proofs.Sound.{target_sound}
use Rattle.elab_fits_forms.specs.Types.{is_sound, is_sound_form, is_sound_signature, is_result, is_parameter, are_parameters, is_exception_value, is_lambda}
use Rattle.elab_fits_forms.specs.Meaning.{Proper, Means}
use Rattle.elab_fits_forms.specs.Context.{Holds}
use Rattle.elab_fits_forms.specs.Names.{TypedMeans}
use Rattle.elab_fits_forms.specs.Forms.{ProperOperands}
use Rattle.elab_fits_forms.proofs.Proper.{proper_valued}
use Rattle.elab_fits_expressions.specs.Expressions.{TypedStands}
use Rattle.elab_fits_expressions.proofs.Expressions.{of_expression, of_operands, chosen_law}
use Rattle.elab_frame_items.specs.Items.{IsWhole, AllWhole, AreParameters, FunctionsWhole, is_unnamed}
use Rattle.elab_frame_items.specs.Supplies.{IsCallee, Reads}
use Rattle.elab_frame_items.proofs.Expressions.{valued_whole}
use Rattle.elab_whole_states.specs.States.{ReadsItems}
use Rattle.state_growth.specs.Settings.{setting_at}
use Rattle.state_growth.proofs.Settings.{reached_law}
use Rattle.state_growth.proofs.Lists.{behind}
use Rattle.state_growth.proofs.Works.{operand_grows, operands_grow, item_grows}
use Rattle.elab_fits_states.specs.States.{IsText, AreTexts, IsGood}
use Rattle.elab_fits_states.proofs.Good.{holds_of}
use Rattle.elab_fits_states.proofs.Reading.{later}
use Rattle.elab_fits_states.proofs.Spelled.{spelled, all_spelled}
use Rattle.elab_fits_states.proofs.Texts
use Rattle.elab_fits_states.proofs.Variables.{sized_complete}

-- Types

exception_complete : (classes : List Class) (t : Typ) → is_exception_value classes t ≡ true → is_item classes (typ (tx_ex t) false false) ≡ true
exception_complete classes (typ (int k) d y) h = refl
exception_complete classes (typ (enum n e) d y) h = refl
exception_complete classes (typ (class n) false false) h = (and_parts (is_some (completion_of classes n)) (not (is_lambda classes n)) h).0
exception_complete classes (typ (class n) true y) h = absurd cc
exception_complete classes (typ (class n) false true) h = absurd cc
exception_complete classes (typ f d y) h = absurd cc

unnamed_whole : (s : Setting) (c : Ctx) (w : Work) → Holds s c w → (t : Typ) → is_parameter c.classes t ≡ true → is_unnamed (form_in t) ≡ true
    → is_item c.classes t ≡ true
unnamed_whole s c w g (typ (closure n) d v) h i = g.lambdas n h
unnamed_whole s c w g (typ (tx_ex t) d v) h i = exception_complete c.classes t h
unnamed_whole s c w g (typ f d v) h i = absurd cc

parameters_whole : (s : Setting) (c : Ctx) (w : Work) → Holds s c w → (ps : Typs) → are_parameters c.classes ps ≡ true → AreParameters c.classes ps
parameters_whole s c w g no_typs h = tt
parameters_whole s c w g (and_typ p ps) h = let a = and_parts (is_parameter c.classes p) (are_parameters c.classes ps) h in
    (λ i. unnamed_whole s c w g p a.0 i, parameters_whole s c w g ps a.1)

signature_whole : (s : Setting) (c : Ctx) (w : Work) → Holds s c w → (sig : Signature) → is_sound_signature c.classes sig ≡ true
    → AreParameters c.classes (signature_parameters sig)
signature_whole s c w g (signature ps r safe) h = parameters_whole s c w g ps (and_parts (are_parameters c.classes ps) (is_result c.classes r) h).0

pub functions_whole : (s : Setting) (c : Ctx) (w : Work) → Holds s c w → FunctionsWhole c.classes c.funcs
functions_whole s c w g = record { each = λ k f e. signature_whole s c w g f.declared.signature (g.functions k f e).sound }

sound_form : (classes : List Class) (t : Typ) → is_sound classes t ≡ true → is_sound_form classes (form_in t) ≡ true
sound_form classes (typ f d v) h = h

-- Operands

pub proper_whole : (s : Setting) (c : Ctx) (e : Tree) → Proper s c e → IsWhole c.classes e
proper_whole s c e p = record { object = λ z. sized_complete c.classes (typ_in e) (p.whole z).sized }

operands_whole : (s : Setting) (c : Ctx) (os : List Operand) → ProperOperands s c os → AllWhole c.classes os
operands_whole s c [] p = tt
operands_whole s c (o ∷ os) (ProperOperands.more p ps) = (proper_whole s c o.tree p.proper, operands_whole s c os ps)

-- what may be called
abbrev CalledWith : Ctx → At → Tree → Type 0
CalledWith c at e = (sig : Signature) (d v : Bool) → form_in (typ_in (Values.valued at e)) ≡ ptr (typ (func sig) d v)
    → AreParameters c.classes (signature_parameters sig)

callee_means : (s : Setting) (c : Ctx) (w : Work) (at : At) (e : Tree) → Holds s c w → Means s c e → IsWhole c.classes e × CalledWith c at e
callee_means s c w at e g (Means.standing p) = (
  proper_whole s c e p,
  λ sig d v q. signature_whole s c w g sig
      (subst (λ (f : Form). is_sound_form c.classes f ≡ true) q (sound_form c.classes (typ_in (Values.valued at e)) (proper_valued s c at e p).sound)),
)
callee_means s c w at e g (Means.free_functions k p) = (record { object = λ z. absurd cc }, λ sig d v q. absurd cc)
callee_means s c w at e g (Means.methods k p object m o) = (record { object = λ z. absurd cc }, λ sig d v q. absurd cc)
callee_means s c w at e g (Means.getter p t q v object o i) = (record { object = λ z. absurd cc }, λ sig d v q. absurd cc)
callee_means s c w at e g (Means.aborting p) = (record { object = λ z. absurd cc }, λ sig d v q. absurd cc)

-- what a lambda captures: lvalues, and `this`
pub lvalue_whole : (classes : List Class) (e : Tree) → cat_of e ≡ Lvalue → IsWhole classes e
lvalue_whole classes e h = record { object = λ z. no (cat_of e) h z }
  where
    no : (k : Cat) → k ≡ Lvalue → is_class_prvalue (typ_in e) k ≡ true → is_item classes (typ_in e) ≡ true
    no Lvalue q z = absurd cc
    no Prvalue q z = absurd cc

variable_whole : (c : Ctx) (at : At) (place : ℕ) (item t : Typ) → IsWhole c.classes (Names.variable_tree at place item t)
variable_whole c at place item (typ (ref t) d v) = lvalue_whole c.classes (Names.variable_tree at place item (typ (ref t) d v)) refl
variable_whole c at place item (typ f d v) = choose (IsWhole c.classes) (is_class_typ (typ f d v) && Names.is_pointer item) _ _
    (lvalue_whole c.classes (Names.held_by (typ f d v) item at place) refl)
    (lvalue_whole c.classes (node (Local place) (typ f d v) Lvalue at none) refl)

own_whole : (c : Ctx) (w : Work) (at : At) (i : ℕ) → On (IsWhole c.classes) (Names.variable_in c w at i None)
own_whole c w at i = skip (IsWhole c.classes) (expect at UnknownName (slice_get c.variables i)) _
    (λ v. skip (IsWhole c.classes) (expect at BadInit v.typ) _ (λ t. variable_whole c at v.place (Names.item_at w v.place t) t))

capture_whole : (c : Ctx) (at : At) (t : This) (l : Lambda) (i : ℕ) (u : Typ) → IsWhole c.classes (Names.in_capture c at t l i u)
capture_whole c at t l i (typ (ref u) d v) = record { object = λ z. absurd cc }
capture_whole c at t l i (typ f d v) = record { object = λ z. absurd cc }

this_whole : (c : Ctx) (at : At) (o : Option Lambda) → On (IsWhole c.classes) (Names.this_in c at o)
this_whole c at None = skip (IsWhole c.classes) (expect at UnknownName c.this) _ (λ t. record { object = λ z. absurd cc })
this_whole c at (Some l) = skip (IsWhole c.classes) (expect at CaptureRule (Names.captured_from 0 None l.captures)) _
    (λ x. skip (IsWhole c.classes) (expect at UnknownName c.this) _
    (λ t. valued_whole c at (Names.captured_tree c at t l x) (capture_whole c at t l x.index x.capture.typ)))

captured_whole : (c : Ctx) (w : Work) (x : Capture) (o : Option ℕ) → On (IsWhole c.classes) (Expressions.capture_source c w x o)
captured_whole c w x (Some i) = own_whole c w x.at i
captured_whole c w x None = this_whole c x.at c.lambda

-- Contexts in which expressions are read

-- what holds of the work of a state: the context holds with it, and its types are sound
abbrev pub IsRead : UnitFunc → State → Work → Type 0
IsRead f x w = Holds (setting_at f x.ctx w) x.ctx w × HasSoundTypes x.ctx w

-- where items are behind items, and globals are sound
holds_on : (s : Setting) (c : Ctx) (w v : Work) → Behind w v → HasSoundTypes c v → Holds s c w → Holds s c v
holds_on s c w v b t h = record {
  setting = h.setting;
  makers = h.makers;
  variables = λ i x u o e k. let z = h.variables i x u o e k in
      record { declared = z.declared; item = z.item; at = behind w.frame v.frame b.items b.frame x.place z.item z.at; is = z.is };
  this = λ u e. let z = h.this u e in record { object = z.object; sound = z.sound; at = behind w.frame v.frame b.items b.frame u.place _ z.at };
  inside = h.inside;
  lambda = h.lambda;
  captures = h.captures;
  globals = λ i g e. target_sound c.classes g.typ (at_place (is_sound_global c.classes) v.globals i g t.globals e);
  enumerators = h.enumerators;
  functions = h.functions;
  fields = h.fields;
  complete = h.complete;
  types = h.types;
  lambdas = h.lambdas;
  assignable = h.assignable;
  copyable = h.copyable;
}

module _ (f : UnitFunc) (s : List Lexeme) (x : State) (g : IsGood f x) where
  abbrev c : Ctx
  c = x.ctx

  goes_on : (w v : Work) → Behind w v → HasSoundTypes c v → IsRead f x w → IsRead f x v
  goes_on w v b t h = (holds_on (setting_at f c v) c w v b t (later f c w v h.0), t)

  callee : (w : Work) (e : syntax.Tree) → IsRead f x w → IsText s e
      → On (λ (y : Typed). IsCallee c.classes y.operand × IsRead f x y.work) (Expressions.expression_with s c c.closures w e)
  callee w e p t = on (λ (y : Typed). IsCallee c.classes y.operand × IsRead f x y.work) (Expressions.expression_with s c c.closures w e)
      (λ y h. let q = goes_on w y.work (held_by (λ (z : Typed). Behind w z.work) (Expressions.expression_with s c c.closures w e) y (expression_grows s c c.closures w e) h)
      (expressions_law s c c.closures w e y p.1 g.sound.closures (spelled s e t.spelled) h).work p in
      let m = callee_means (setting_at f c y.work) c y.work y.operand.at y.operand.tree q.0
      (held_by (TypedMeans (setting_at f c y.work) c) (Expressions.expression_with s c c.closures w e) y
      (of_expression s (setting_at f c y.work) c c.closures w e (later f c w y.work p.0) g.closures t.spelled) h (reached_law f c y.work)).means in
      (record { whole = m.0; pointer = m.1 }, q))

  operand : (w : Work) (e : syntax.Tree) → IsRead f x w → IsText s e
      → On (λ (y : Typed). IsWhole c.classes y.operand.tree × IsRead f x y.work)
      (and_then (Expressions.expression_with s c c.closures w e) (Expressions.chosen_operand c))
  operand w e p t = let r = and_then (Expressions.expression_with s c c.closures w e) (Expressions.chosen_operand c) in
      on (λ (y : Typed). IsWhole c.classes y.operand.tree × IsRead f x y.work) r
      (λ y h. (
        proper_whole (setting_at f c y.work) c y.operand.tree (held_by (TypedStands (setting_at f c y.work) c) r y
            (chosen_law s (setting_at f c y.work) c c.closures w e (later f c w y.work p.0) g.closures t.spelled) h (reached_law f c y.work)).proper,
        goes_on w y.work (held_by (λ (z : Typed). Behind w z.work) r y (operand_grows s c w e) h)
            (held_by (Chosen c) r y (operand_sound s c c.closures w e p.1 g.sound.closures (spelled s e t.spelled)) h).1 p,
      ))

  operands : (w : Work) (es : syntax.Trees) → IsRead f x w → AreTexts s es
      → On (λ (y : TypedAll). AllWhole c.classes y.operands × IsRead f x y.work) (Expressions.operands_with s c c.closures w es)
  operands w es p t = let r = Expressions.operands_with s c c.closures w es in
      on (λ (y : TypedAll). AllWhole c.classes y.operands × IsRead f x y.work) r
      (λ y h. (
        operands_whole (setting_at f c y.work) c y.operands (held_by (λ (z : TypedAll). Reaches (setting_at f c y.work) z.work
            → ProperOperands (setting_at f c y.work) c z.operands) r y
            (of_operands s (setting_at f c y.work) c c.closures w es (later f c w y.work p.0) g.closures t.spelled) h (reached_law f c y.work)),
        goes_on w y.work (held_by (λ (z : TypedAll). Behind w z.work) r y (operands_grow s c w es) h)
            (operands_law s c c.closures w es y p.1 g.sound.closures (all_spelled s es t.spelled) h).work p,
      ))

  item : (w : Work) (object : Tree) (t : Typ) (e : syntax.Tree) → IsRead f x w → IsText s e
      → On (λ (m : Made). IsRead f x m.work) (Braces.item_of s c w object t e)
  item w object t e p u = let r = Braces.item_of s c w object t e in
      on (λ (m : Made). IsRead f x m.work) r
      (λ m h. goes_on w m.work (held_by (λ (z : Made). Behind w z.work) r m (item_grows s c w object t e) h)
      (moved c w m.work p.1 (held_by (globals.made w) r m (item_kept s c w object t e) h)) p)

  pub reads : Reads (IsRead f) (IsText s) (AreTexts s) s x
  reads = record {
    here = (holds_of f x g, g.sound.context);
    supplies = record {
      kids = Texts.kids s;
      first = Texts.first s;
      rest = Texts.rest s;
      callee = callee;
      operand = operand;
      operands = operands;
      captured = λ w y. captured_whole c w y y.variable;
    };
    functions = functions_whole (setting_at f c x.work) c x.work (holds_of f x g);
  }

  pub reads_items : ReadsItems (IsRead f) (IsText s) (AreTexts s) s x
  reads_items = record { reads = reads; items = record { item = item } }
