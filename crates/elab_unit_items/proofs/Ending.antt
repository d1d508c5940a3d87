-- Bodies that begin with whole items end so, and are made with those.
use Rattle.std.proofs.Common.{◌≡◌, sym, subst, ℕ, true, List, Option, Result}
use Rattle.std.specs.List.{list_all}
use Rattle.elab_rules.specs.cpp_types.Typ.{Typ}
use Rattle.elab_rules.specs.cpp_types.declared.classes.At.{At}
use Rattle.elab_rules.specs.cpp_lex.Tokens.{Lexeme}
use Rattle.elab_rules.specs.cpp_ast.Trees as syntax
use Rattle.elab_rules.specs.cpp_tree.declared.faults.ElabFault.{ElabFault}
use Rattle.elab_rules.specs.cpp_tree.Trees.{Tree}
use Rattle.elab_rules.specs.cpp_tree.Units.{Func as UnitFunc}
use Rattle.elab_rules.specs.cpp_tree.WellFormed.{is_item}
use Rattle.elab_rules.specs.elab_ctx.Ctx.{Default}
use Rattle.elab_rules.specs.elab_ctx.Steps.{and_then}
use Rattle.elab_rules.specs.Functions.{entered, within_frame, body_made}
use Rattle.elab_rules.specs.Lambdas.{lambdas_of}
use Rattle.elab_rules.specs.Statements.{State, Done, Body, statements_of}
use Rattle.elab_places.proofs.Steps.{On, bind, skip}
use Rattle.setting_growth.specs.Growth.{ClassesGrow}
use Rattle.elab_fits_states.specs.States.{AreTexts}
use Rattle.elab_fits_states.specs.Bodies.{BodyFits}
use Rattle.elab_contexts.proofs.Lists.{one_more}
use Rattle.elab_fits_units.specs.Below.{Below}
use Rattle.elab_fits_units.specs.Steps.{NoCall}
use Rattle.elab_fits_units.proofs.Bodies.{came}
use Rattle.elab_fits_units.proofs.Entering.{Begins}
use Rattle.elab_fits_units.proofs.Growing.{over_then}
use Rattle.elab_fits_units.proofs.Quiet.{Quiet}
use Rattle.elab_frame_items.specs.Items.{DefaultsWhole}
use Rattle.elab_frame_items.specs.Frames.{FramesWhole, IsWholeState}
use Rattle.elab_frame_items.proofs.Growing.{defaults_grow, grow_law}
use Rattle.elab_frame_items.proofs.Objects.{both}
use Rattle.elab_frame_items.proofs.Parameters.{entered_whole}
use Rattle.elab_unit_items.specs.Units.{IsWholeUnit}
use Rattle.elab_unit_items.proofs.Bodies.{statements_law}

-- where nothing is made
pub quiet_whole : (a z : State) → ClassesGrow a.ctx.classes z.ctx.classes → Quiet a z → IsWholeUnit a → IsWholeUnit z
quiet_whole a z g q h = record {
  defaults = subst (λ (ds : List Default). DefaultsWhole z.ctx.classes ds) (sym q.defaults)
      (defaults_grow a.ctx.classes z.ctx.classes a.ctx.defaults g h.defaults);
  bodies = subst (λ (bs : List Body). FramesWhole z.ctx.classes bs) (sym q.bodies) (grow_law a.ctx.classes z.ctx.classes a.bodies g h.bodies);
}

-- into a function
pub entered_in : (st : State) (r : Typ) (this : Option Typ) (cls : Option ℕ) → IsWholeUnit st → IsWholeState (entered st r this cls)
entered_in st r this cls h = record { items = entered_whole st r this cls; defaults = h.defaults; bodies = h.bodies }

-- a body that is made
pub made_whole : (st d : State) (at : At) (place : ℕ) (tree : Tree) → ClassesGrow st.ctx.classes d.ctx.classes → IsWholeUnit st → IsWholeState d
    → On IsWholeUnit (body_made st at place tree d)
made_whole st d at place tree g h w = skip IsWholeUnit (within_frame d.ctx at d.work.frame) _ (λ z. record {
  defaults = defaults_grow st.ctx.classes d.ctx.classes st.ctx.defaults g h.defaults;
  bodies = record { each = one_more (λ (b : Body). list_all (is_item d.ctx.classes) b.frame ≡ true) d.bodies _ w.bodies.each w.items };
})

-- the statements of a body
pub body_whole : (s : List Lexeme) (b : Below s) (f : UnitFunc) (st e : State) (kids : syntax.Trees) (next : Done → Result State ElabFault) → NoCall f.kind
    → Begins f st e → IsWholeState e → AreTexts s kids
    → ((d : Done) → ClassesGrow st.ctx.classes d.state.ctx.classes → IsWholeState d.state → On IsWholeUnit (next d))
    → On IsWholeUnit (and_then (statements_of lambdas_of s e kids) next)
body_whole s b f st e kids next free z w t k = bind (λ (d : Done). BodyFits f e d × IsWholeState d.state) IsWholeUnit (statements_of lambdas_of s e kids) next
    (both (BodyFits f e) (λ (d : Done). IsWholeState d.state) (statements_of lambdas_of s e kids)
    (b.bodies f e kids free z.settled z.alone t) (statements_law f s e kids free z.settled w z.alone t))
    (λ d i. k d (over_then st e d.state z.over (came e d.state i.0.leads.goes)).kept.classes i.1)
