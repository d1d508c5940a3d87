-- Lambdas leave all items whole, those of the frames of their bodies too.
use Rattle.std.proofs.Common.{◌≡◌, refl, sym, ap, subst, ℕ, Bool, true, false, List, [], ◌∷◌, length, Option, Some, None, Ok}
use Rattle.std.specs.Prelude.{if◌then◌else◌}
use Rattle.std.specs.List.{list_all}
use Rattle.elab_rules.specs.cpp_types.Typ.{Typ, ptr}
use Rattle.elab_rules.specs.cpp_types.Class.{Class}
use Rattle.elab_rules.specs.cpp_types.declared.classes.At.{At}
use Rattle.elab_rules.specs.cpp_lex.Tokens.{Lexeme}
use Rattle.elab_rules.specs.cpp_ast.declared.arena.At.{At as SyntaxAt}
use Rattle.elab_rules.specs.cpp_ast.declared.kinds.NodeKind.TheVariants as k
use Rattle.elab_rules.specs.cpp_ast.Trees as syntax
use Rattle.elab_rules.specs.cpp_tree.declared.program.FuncKind.TheVariants.{ClosureCall}
use Rattle.elab_rules.specs.cpp_tree.Notation.{plain}
use Rattle.elab_rules.specs.cpp_tree.Typing.{is_class_typ}
use Rattle.elab_rules.specs.cpp_tree.Units.{Func as UnitFunc}
use Rattle.elab_rules.specs.cpp_tree.WellFormed.{is_item}
use Rattle.elab_rules.specs.elab_ctx.Ctx.{Ctx, known}
use Rattle.elab_rules.specs.elab_ctx.Steps.{at_of}
use Rattle.elab_rules.specs.Functions.{result_items, with_parameters}
use Rattle.elab_rules.specs.Lambdas.{lambdas_of, lambdas_among, lambda_of, no_lambda, refused_at, first_lambda, kids_of}
use Rattle.elab_rules.specs.Lambdas.{body_statements, call_func, call_record}
use Rattle.elab_rules.specs.Statements.{State, Done, Body, is_direct_label}
use Rattle.elab_fits.proofs.Steps.{told}
use Rattle.elab_places.proofs.Steps.{On, held_by}
use Rattle.elab_places.proofs.Declaring.{on}
use Rattle.state_growth.specs.Settings.{shown}
use Rattle.state_growth.proofs.Bodies.{classes_added}
use Rattle.elab_fits_states.specs.Bodies.{StandsAlone}
use Rattle.elab_fits_states.specs.States.{IsText, AreTexts, IsGood}
use Rattle.elab_fits_states.proofs.Lambdas.{no_lambdas_keep}
use Rattle.elab_fits_states.proofs.Texts.{kids, first, rest}
use Rattle.elab_fits_lambdas.specs.Made.{lambda_inside, call_signature, HasParts, three, two, IsLambda}
use Rattle.elab_fits_lambdas.specs.Lambdas.{IsCall}
use Rattle.elab_fits_lambdas.proofs.Bodies.{behind, behind_is}
use Rattle.elab_contexts.proofs.Lists.{one_more}
use Rattle.elab_fits_lambdas.proofs.Entered.{settled_with}
use Rattle.elab_fits_lambdas.proofs.Lambdas.{lambdas_are_good}
use Rattle.elab_fits_lambdas.proofs.Made.{lambdas_are_made}
use Rattle.elab_fits_lambdas.proofs.Parameters.{OnlyNames, only_names}
use Rattle.elab_frame_items.specs.Frames.{FramesWhole, IsWholeState}
use Rattle.elab_frame_items.proofs.Braces.{all_more}
use Rattle.elab_frame_items.proofs.Growing.{lambdas_law, lambdas_defaults, defaults_grow, grow_law}
use Rattle.elab_unit_items.proofs.Entering.{parameters_left}
use Rattle.elab_unit_items.proofs.Statements.{KeepsWhole, statements_whole}

-- Where there is none

refused_whole : (a : State) (o : Option At) → IsWholeState a → On IsWholeState (refused_at a o)
refused_whole a (Some p) h = tt
refused_whole a None h = h

pub none_keeps : (f : UnitFunc) (s : List Lexeme) → KeepsWhole f no_lambda s
none_keeps f s a x e g t q h = held_by IsWholeState (refused_at a (first_lambda e)) x (refused_whole a (first_lambda e) h) q

-- Texts

kids_text : (s : List Lexeme) (t : syntax.Tree) → IsText s t → AreTexts s (kids_of t)
kids_text s (syntax.node kind p token ts) h = kids s kind p token ts h

body_text : (s : List Lexeme) (ts intro parts : syntax.Trees) (body : syntax.Tree) → HasParts ts intro parts body → AreTexts s ts → IsText s body
body_text s ts intro parts body (three i p e f g) h = first s body syntax.none (rest s p (syntax.more body syntax.none)
    (rest s i (syntax.more p (syntax.more body syntax.none)) (subst (AreTexts s) e h)))
body_text s ts intro parts body (two i e f g) h = first s body syntax.none (rest s i (syntax.more body syntax.none) (subst (AreTexts s) e h))

-- One lambda

result_whole : (classes : List Class) (r : Typ) (b : Bool) → list_all (is_item classes) (if b then plain (ptr r) ∷ [] else []) ≡ true
result_whole classes r true = refl
result_whole classes r false = refl

module _ (f : UnitFunc) (s : List Lexeme) (st : State) (ts : syntax.Trees) (y : State) (g : IsGood f st) (t : AreTexts s ts)
    (h : IsLambda s st ts y) (w : IsWholeState st) where
  abbrev e : State
  e = lambda_inside st h.text (known h.made.result) h.made.result (call_signature h.text h.made.result)

  begins : IsWholeState e
  begins = record {
    items = all_more (is_item e.ctx.classes) (result_items h.made.result) _ (result_whole e.ctx.classes h.made.result (is_class_typ h.made.result)) refl;
    defaults = defaults_grow st.ctx.classes e.ctx.classes st.ctx.defaults (classes_added st.ctx.classes _) w.defaults;
    bodies = grow_law st.ctx.classes e.ctx.classes st.bodies (classes_added st.ctx.classes _) w.bodies;
  }

  abbrev call : UnitFunc
  call = shown st.ctx.classes (call_func (length st.ctx.classes)
      (call_record h.text.at (call_signature h.text h.made.result) h.text.qualifiers h.text.is_mutable) h.text.params)

  is_call : IsCall call h.text h.made.result
  is_call = record { kind = refl; signature = refl }

  alone : (z : State) → with_parameters s e h.text.params ≡ Ok z → StandsAlone z
  alone z q = let named : OnlyNames e z = held_by (OnlyNames e) (with_parameters s e h.text.params) z (only_names s e h.text.params) q in record {
    label = ap (λ (u : Ctx). is_direct_label u.label) named.ctx;
    breaks = ap (λ (u : Ctx). u.breaks) named.ctx;
    continues = ap (λ (u : Ctx). u.continues) named.ctx;
  }

  body_left : On (λ (d : Done). IsWholeState d.state) (body_statements s e h.text)
  body_left = told (λ (d : Done). IsWholeState d.state) (with_parameters s e h.text.params) _ (λ z q. statements_whole call no_lambda s (no_lambdas_keep call s)
      (none_keeps call s) z h.text.body (settled_with f s st ts y g t h call is_call z q) (parameters_left s e h.text.params z begins q)
      (alone z q)
      (subst (AreTexts s) (sym h.written.read) (kids_text s h.body (body_text s ts h.intro h.parts h.body h.has t))))

  ended : IsWholeState h.made.known.done.state
  ended = held_by (λ (d : Done). IsWholeState d.state) (body_statements s e h.text) h.made.known.done body_left h.made.known.read

  frames_behind : FramesWhole (behind f s st ts y g t h).ctx.classes (behind f s st ts y g t h).bodies
  frames_behind = record {
    each = one_more (λ (b : Body). list_all (is_item h.made.known.done.state.ctx.classes) b.frame ≡ true) h.made.known.done.state.bodies _
        ended.bodies.each ended.items;
  }

  pub frames_left : FramesWhole y.ctx.classes y.bodies
  frames_left = subst (λ (z : State). FramesWhole z.ctx.classes z.bodies) (sym (behind_is f s st ts y g t h)) frames_behind

-- All of an expression

module _ (f : UnitFunc) (s : List Lexeme) (n : f.kind ≡ ClosureCall → ⊥) where
  one_left : (st : State) (p : SyntaxAt) (token : Option ℕ) (ts : syntax.Trees) (y : State) → IsGood f st → IsText s (syntax.node k.Lambda p token ts)
      → IsWholeState st → lambda_of s st (at_of p) ts ≡ Ok y → IsWholeState y
  one_left st p token ts y g t w q = record {
    items = lambdas_law s st (syntax.node k.Lambda p token ts) y w.items q;
    defaults = lambdas_defaults s st (syntax.node k.Lambda p token ts) y w.defaults q;
    bodies = frames_left f s st ts y g (kids s k.Lambda p token ts t)
        (held_by (IsLambda s st ts) (lambda_of s st (at_of p) ts) y (lambdas_are_made s st (at_of p) ts) q) w;
  }

  mutual
    each_left : (st : State) (e : syntax.Tree) → IsGood f st → IsText s e → IsWholeState st → On IsWholeState (lambdas_of s st e)
    each_left st (syntax.node k.Lambda p token ts) g t w =
        on IsWholeState (lambda_of s st (at_of p) ts) (λ y q. one_left st p token ts y g t w q)
    each_left st (syntax.node k.SizeofExpression p token ts) g t w = w
    each_left st (syntax.node k.SizeofType p token ts) g t w = w
    each_left st (syntax.node kind p token ts) g t w = among_left st ts g (kids s kind p token ts t) w

    among_left : (st : State) (ts : syntax.Trees) → IsGood f st → AreTexts s ts → IsWholeState st → On IsWholeState (lambdas_among s st ts)
    among_left st syntax.none g t w = w
    among_left st (syntax.more e ts) g t w = told IsWholeState (lambdas_of s st e) _
        (λ x q. among_left x ts (lambdas_are_good f s n st x e g (first s e ts t) q).good (rest s e ts t)
        (held_by IsWholeState (lambdas_of s st e) x (each_left st e g (first s e ts t) w) q))

  pub all_keep : KeepsWhole f lambdas_of s
  all_keep a x e g t q h = held_by IsWholeState (lambdas_of s a e) x (each_left a e g t h) q
