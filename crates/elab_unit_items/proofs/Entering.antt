-- Into bodies: all items are whole at their beginning.
use Rattle.std.proofs.Common.{◌≡◌, sym, subst, List, Ok}
use Rattle.elab_rules.specs.cpp_lex.Tokens.{Lexeme}
use Rattle.elab_rules.specs.elab_ctx.Ctx.{Ctx}
use Rattle.elab_rules.specs.Functions.{with_parameters}
use Rattle.elab_rules.specs.Statements.{State, Body}
use Rattle.elab_rules.specs.Types.{Parameter}
use Rattle.elab_places.proofs.Steps.{held_by}
use Rattle.elab_fits_lambdas.proofs.Parameters.{OnlyNames, only_names}
use Rattle.elab_frame_items.specs.Frames.{FramesWhole, IsWholeState}
use Rattle.elab_frame_items.specs.Items.{DefaultsWhole}
use Rattle.elab_frame_items.proofs.Parameters.{StateWhole, parameters_whole}

-- behind parameters
pub parameters_left : (s : List Lexeme) (st : State) (ps : List Parameter) (z : State) → IsWholeState st → with_parameters s st ps ≡ Ok z → IsWholeState z
parameters_left s st ps z h q = record {
  items = held_by StateWhole (with_parameters s st ps) z (parameters_whole s st ps h.items) q;
  defaults = subst (λ (u : Ctx). DefaultsWhole u.classes u.defaults) (sym named.ctx) h.defaults;
  bodies = subst (λ (u : Ctx). FramesWhole u.classes z.bodies) (sym named.ctx)
      (subst (λ (bs : List Body). FramesWhole st.ctx.classes bs) (sym named.bodies) h.bodies);
}
  where
    named : OnlyNames st z
    named = held_by (OnlyNames st) (with_parameters s st ps) z (only_names s st ps) q
