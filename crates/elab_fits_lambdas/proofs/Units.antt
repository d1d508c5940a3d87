-- The unit with the class and the call of a lambda is as elaboration makes it.
use Rattle.std.proofs.Common.{◌≡◌, refl, ℕ, Bool, true, false, List, nat_le, Ok, Err}
use Rattle.std.specs.Prelude.{if◌then◌else◌}
use Rattle.elab_rules.specs.cpp_types.declared.classes.At.{At}
use Rattle.elab_rules.specs.cpp_layout.declared.extents.TheConstants.{GREATEST_SIZE}
use Rattle.elab_rules.specs.cpp_lex.Tokens.{Lexeme}
use Rattle.elab_rules.specs.cpp_ast.Trees as syntax
use Rattle.elab_rules.specs.cpp_tree.declared.faults.ElabFault.TheVariants.{Limit}
use Rattle.elab_rules.specs.cpp_tree.declared.faults.LimitKind.TheVariants.{Size}
use Rattle.elab_rules.specs.elab_ctx.Ctx.{known}
use Rattle.elab_rules.specs.Sizes.{sized}
use Rattle.elab_rules.specs.Lambdas.{Written, declared_closure, call_record, default_in, used_in}
use Rattle.elab_rules.specs.Statements.{State}
use Rattle.elab_fits.proofs.Steps.{answered}
use Rattle.elab_contexts.specs.Holding.{UnitHolds}
use Rattle.elab_contexts.specs.Steps.{view, ClosureAdded, closure_added}
use Rattle.elab_contexts.proofs.Captures.{AllWhole, explicit_all, default_all}
use Rattle.elab_contexts.proofs.Going.{From, leaves_are, names_still, steps_names}
use Rattle.elab_contexts.proofs.Holding.{shown, taken}
use Rattle.elab_contexts.proofs.Kept.{Holds, each_kept}
use Rattle.elab_contexts.proofs.Walking.{Leaves, kept_by_steps, one_step}
use Rattle.elab_fits_lambdas.specs.Made.{lambda_inside, call_signature, IsWritten, IsLambda}

-- a unit that goes on by steps
unit_gone : (st y : State) → UnitHolds st.ctx → From st y → UnitHolds y.ctx
unit_gone st y h g = shown y.ctx (kept_by_steps Holds each_kept g.walk (taken st.ctx h)) (g.enumerators h.enumerators) (g.types h.types)

pub unit_left : (st y : State) → UnitHolds st.ctx → Leaves st y → UnitHolds y.ctx
unit_left st y h g = unit_gone st y h (leaves_are st y g)

-- the lambda's class has a size
is_sized : (at : At) (n : ℕ) (b : Bool) → sized at n ≡ Ok b → nat_le n GREATEST_SIZE ≡ true
is_sized at n b e = by (nat_le n GREATEST_SIZE) refl e
  where
    by : (c : Bool) → nat_le n GREATEST_SIZE ≡ c → (if c then Ok true else Err (Limit at Size)) ≡ Ok b → nat_le n GREATEST_SIZE ≡ true
    by true q e = q
    by false q e = absurd cc

captures_whole : (s : List Lexeme) (st : State) (intro parts : syntax.Trees) (body : syntax.Tree) (x : Written) → IsWritten s st intro parts body x
    → AllWhole st.ctx x.captures
captures_whole s st intro parts body x w = answered (AllWhole st.ctx) _ x.captures (default_all st.ctx (default_in s intro) w.named
    (used_in s st.ctx x.params body) (answered (AllWhole st.ctx) _ w.named (explicit_all s st.ctx (default_in s intro) intro) w.explicit)) w.defaults

module _ (s : List Lexeme) (st : State) (kids : syntax.Trees) (y : State) (h : IsLambda s st kids y) where
  step : ClosureAdded (view st.ctx) (view (declared_closure st h.text (call_signature h.text h.made.result)))
  step = record {
    ctx = st.ctx;
    captures = h.text.captures;
    declared = call_record h.text.at (call_signature h.text h.made.result) h.text.qualifiers h.text.is_mutable;
    params = h.text.params;
    closed = h.text.closed;
    before = refl;
    whole = captures_whole s st h.intro h.parts h.body h.text h.written;
    is = refl;
    sized = is_sized h.text.at _ h.made.known.size h.made.known.sized;
  }

  abbrev e : State
  e = lambda_inside st h.text (known h.made.result) h.made.result (call_signature h.text h.made.result)

  pub unit_inside : UnitHolds st.ctx → UnitHolds e.ctx
  unit_inside g = unit_gone st e g (record {
    walk = one_step (closure_added step);
    enumerators = λ i. i;
    types = λ i. names_still st.ctx.classes e.ctx.classes st.ctx.types (steps_names (view st.ctx) (view e.ctx) (one_step (closure_added step))) i;
  })
