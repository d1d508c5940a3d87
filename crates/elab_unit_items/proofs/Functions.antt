-- The bodies of functions have whole items.
use Rattle.std.proofs.Common.{◌≡◌, sym, ap, ◌∙◌, subst, ℕ, true, false, List, Option, Some, is_some}
use Rattle.std.specs.List.{list_all}
use Rattle.elab_rules.specs.cpp_types.Typ.{Typ}
use Rattle.elab_rules.specs.cpp_types.Class.{completion_of, held}
use Rattle.elab_rules.specs.cpp_lex.Tokens.{Lexeme}
use Rattle.elab_rules.specs.cpp_ast.Trees as syntax
use Rattle.elab_rules.specs.cpp_tree.declared.kinds.TKind.TheVariants as tree
use Rattle.elab_rules.specs.cpp_tree.declared.faults.IllRule.TheVariants.{Incomplete}
use Rattle.elab_rules.specs.cpp_tree.Units.{Func as UnitFunc}
use Rattle.elab_rules.specs.cpp_tree.Rows.{is_special, result_of}
use Rattle.elab_rules.specs.elab_ctx.Steps.{check, at_of}
use Rattle.elab_rules.specs.Initialising.{signature_result}
use Rattle.elab_rules.specs.Objects.{followed_by}
use Rattle.elab_rules.specs.Operators.{is_complete}
use Rattle.elab_rules.specs.Statements.{State, Done, statement}
use Rattle.elab_rules.specs.Functions.{Header, entered, with_parameters, body_made, function_body, end_of}
use Rattle.elab_rules.specs.Lambdas.{lambdas_of}
use Rattle.elab_fits.proofs.Steps.{told}
use Rattle.elab_places.proofs.Steps.{On, skip}
use Rattle.elab_sound_types.specs.Types.{is_sound, result as a_result}
use Rattle.elab_sound_types.specs.Contexts.{is_sound_parameter}
use Rattle.elab_sound_types.specs.States.{is_sound_object}
use Rattle.state_growth.specs.Settings.{shown}
use Rattle.elab_fits_states.specs.States.{IsText}
use Rattle.elab_fits_units.specs.Below.{Below}
use Rattle.elab_fits_units.specs.Definitions.{IsDefinition}
use Rattle.elab_fits_units.specs.Good.{UnitGood}
use Rattle.elab_fits_units.specs.Steps.{NoCall}
use Rattle.elab_fits_units.proofs.Entering.{begins}
use Rattle.elab_fits_units.proofs.Results.{result_kept, sound_result}
use Rattle.elab_fits_units.proofs.Texts.{kids_texts}
use Rattle.elab_unit_items.specs.Units.{IsWholeUnit}
use Rattle.elab_unit_items.proofs.Ending.{entered_in, made_whole, body_whole}
use Rattle.elab_unit_items.proofs.Entering.{parameters_left}

module _ (s : List Lexeme) (b : Below s) (st : State) (h : Header) (this : Option Typ) (place : ℕ) (def : IsDefinition st.ctx h place) (g : UnitGood st)
    (k : is_special h.kind ≡ false) (free : NoCall h.kind) (ps : list_all (is_sound_parameter st.ctx.classes) h.params ≡ true) (o : is_sound_object st.ctx.classes this ≡ true)
    (c : (n : ℕ) → h.class ≡ Some n → is_some (completion_of st.ctx.classes n) ≡ true) (w : IsWholeUnit st) where
  abbrev f : UnitFunc
  f = shown st.ctx.classes def.func

  abbrev r : Typ
  r = signature_result h.signature

  no_call : NoCall def.func.kind
  no_call e = free (sym def.kind ∙ e)

  result : result_of f ≡ r
  result = result_kept def.func.kind def.func.declared.signature (ap is_special def.kind ∙ k) ∙ def.result

  typed : is_sound st.ctx.classes a_result r ≡ true
  typed = subst (λ (t : Typ). is_sound st.ctx.classes a_result t ≡ true) def.result
      (sound_result st.ctx.classes st.ctx.funcs place def.func g.sound.context.functions def.at)

  pub function_whole : (body : syntax.Tree) → IsText s body → On IsWholeUnit (function_body lambdas_of s st h this place body)
  function_whole (syntax.node kind p token kids) t = skip IsWholeUnit (check h.at Incomplete (is_complete st.ctx (held r))) _
      (λ q. told IsWholeUnit (with_parameters s (entered st r this h.class) h.params) _
      (λ e i. body_whole s b f st e kids
      (λ (d : Done). body_made st h.at place (statement (tree.Block false) (at_of p) (followed_by d.trees (end_of d.state.ctx r (at_of p)))) d.state)
      no_call (begins s b st f r this h.class h.params g result typed o c ps e i)
      (parameters_left s (entered st r this h.class) h.params e (entered_in st r this h.class w) i) (kids_texts s kind p token kids t)
      (λ d l x. made_whole st d.state h.at place _ l w x)))
