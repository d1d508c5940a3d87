-- The body of a lambda fits, and so do those that were made before it.
use Rattle.std.proofs.Common.{◌≡◌, sym, ap, subst, true, List, length}
use Rattle.elab_rules.specs.cpp_types.Typ.{Typ}
use Rattle.elab_rules.specs.cpp_types.Class.{Function, held}
use Rattle.elab_rules.specs.cpp_lex.Tokens.{Lexeme}
use Rattle.elab_rules.specs.cpp_ast.Trees as syntax
use Rattle.elab_rules.specs.cpp_tree.Units.{Func as UnitFunc}
use Rattle.elab_rules.specs.cpp_tree.Rows.{is_constructor, result_of}
use Rattle.elab_rules.specs.elab_ctx.Ctx.{Func, known}
use Rattle.elab_rules.specs.Operators.{is_complete}
use Rattle.elab_rules.specs.Statements.{State, Done, Body}
use Rattle.elab_rules.specs.Lambdas.{call_func, call_record, body_statements, with_written}
use Rattle.elab_fits.proofs.Steps.{answered}
use Rattle.elab_fits_bodies.specs.Functions.{IsBody, IsResult}
use Rattle.elab_fits_bodies.proofs.Ends.{function_fits}
use Rattle.elab_sound_types.proofs.Growth.{kept_joined}
use Rattle.elab_sound_types.proofs.Bodies.{lambda_kept}
use Rattle.state_growth.specs.Settings.{shown, HasDeclared}
use Rattle.state_growth.proofs.Steps.{Ends}
use Rattle.elab_fits_states.specs.States.{AreTexts, setting, IsGood}
use Rattle.elab_fits_states.specs.Made.{MadeFits, AllBodiesFit}
use Rattle.elab_fits_states.proofs.Good.{holds_of}
use Rattle.elab_fits_states.proofs.Lists.{last_item}
use Rattle.elab_fits_lambdas.specs.Made.{lambda_inside, call_signature, lambda_block, lambda_left, IsLambda}
use Rattle.elab_fits_lambdas.specs.Lambdas.{IsCall}
use Rattle.elab_contexts.proofs.Lists.{one_more}
use Rattle.elab_fits_lambdas.proofs.Closures.{body_kept}
use Rattle.elab_fits_lambdas.proofs.Entered.{IsDone, result_same, statements_fit}
use Rattle.elab_fits_lambdas.proofs.Results.{complete_kept, result_fits}

module _ (f : UnitFunc) (s : List Lexeme) (st : State) (ts : syntax.Trees) (y : State) (g : IsGood f st) (t : AreTexts s ts)
    (h : IsLambda s st ts y) where
  abbrev e : State
  e = lambda_inside st h.text (known h.made.result) h.made.result (call_signature h.text h.made.result)

  abbrev end : Done
  end = h.made.known.done

  -- its call, as it was declared and as it stands behind the body
  abbrev declared : Func
  declared = record (call_func (length st.ctx.classes)
      (call_record h.text.at (call_signature h.text h.made.result) h.text.qualifiers h.text.is_mutable) h.text.params) { closed_at = h.text.closed }

  abbrev found : HasDeclared end.state.ctx.funcs (length st.ctx.funcs) declared
  found = (answered (Ends e) (body_statements s e h.text) end (body_kept s e h.text) h.made.known.read).kept.funcs.kept (length st.ctx.funcs) declared
      (last_item st.ctx.funcs declared)

  abbrev call : UnitFunc
  call = shown end.state.ctx.classes found.func

  is_call : IsCall call h.text h.made.result
  is_call = record { kind = found.same.kind; signature = ap (λ (d : Function). d.signature) found.same.declared }

  pub done : IsDone call e end
  done = answered (IsDone call e) (body_statements s e h.text) end (statements_fit f s st ts y g t h call is_call) h.made.known.read

  same : result_of call ≡ h.made.result
  same = result_same f s st ts y g t h call is_call

  complete : is_complete end.state.ctx (held (result_of call)) ≡ true
  complete = subst (λ (u : Typ). is_complete end.state.ctx (held u) ≡ true) (sym same)
      (complete_kept st.ctx end.state.ctx (held h.made.result)
      (kept_joined st.ctx.classes e.ctx.classes end.state.ctx.classes (lambda_kept st h.text (call_signature h.text h.made.result)) done.kept)
      h.made.known.complete)

  is_result : IsResult (setting call end.state) end.state.ctx h.made.result
  is_result = subst (IsResult (setting call end.state) end.state.ctx) same (result_fits call end.state done.settled.good complete)

  is_body : IsBody (setting call end.state) (lambda_block h.text h.made.result end)
  is_body = function_fits (setting call end.state) end.state.ctx h.made.result h.text.body_at end.trees
      (holds_of call end.state done.settled.good).setting is_result (ap is_constructor is_call.kind) done.serve

  -- the state behind the lambda
  abbrev pub behind : State
  behind = with_written (lambda_left st h.text (call_signature h.text h.made.result) (lambda_block h.text h.made.result end) end.state)
      (length st.ctx.classes) h.text

  pub behind_is : y ≡ behind
  behind_is = subst (λ (z : State). y ≡ with_written z (length st.ctx.classes) h.text) h.made.known.is h.made.is

  made_same : (c : Body) → MadeFits end.state c → MadeFits behind c
  made_same c m = record { func = m.func; at = m.at; fits = m.fits }

  pub bodies_behind : AllBodiesFit behind
  bodies_behind = record {
    each = one_more (MadeFits behind) end.state.bodies
        (record { func = length st.ctx.funcs; tree = lambda_block h.text h.made.result end; frame = end.state.work.frame })
        (λ i c q. made_same c (done.settled.good.bodies.each i c q)) (record { func = found.func; at = found.at; fits = is_body.nodes });
  }
