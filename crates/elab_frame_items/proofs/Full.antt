-- Expressions that are no parts of others, behind their lambdas, add whole items alone.
use Rattle.std.proofs.Common.{◌≡◌, List, Result, Ok, Err}
use Rattle.elab_rules.specs.cpp_lex.Tokens.{Lexeme}
use Rattle.elab_rules.specs.cpp_ast.Trees as syntax
use Rattle.elab_rules.specs.cpp_tree.Trees.{Tree}
use Rattle.elab_rules.specs.cpp_tree.declared.faults.ElabFault.{ElabFault}
use Rattle.elab_rules.specs.elab_ctx.Ctx.{Work}
use Rattle.elab_rules.specs.elab_ctx.Steps.{and_then, Made, TypedAll}
use Rattle.elab_rules.specs.Operators
use Rattle.elab_rules.specs.Expressions.{expression_of, operands_of, chosen_operand}
use Rattle.elab_rules.specs.Statements.{State, Done, Lambdas, Full, full_operand, full_made, all_lambdas}
use Rattle.elab_rules.specs.Lambdas.{lambdas_of}
use Rattle.elab_places.proofs.Steps.{On, bind, skip}
use Rattle.elab_places.proofs.Declaring.{on}
use Rattle.elab_frame_items.specs.Frames.{IsWholeState}
use Rattle.elab_frame_items.specs.Items.{AreWhole, IsWhole}
use Rattle.elab_frame_items.specs.Supplies.{Reads}
use Rattle.elab_frame_items.proofs.Growing.{lambdas_law}
use Rattle.elab_frame_items.proofs.Expressions.{Types, AllTypes, expression, operands, chosen_adds, dropped}
use Rattle.elab_frame_items.proofs.Parameters.{StateWhole}

-- Lambdas

pub lambdas_whole : (s : List Lexeme) (st : State) (t : syntax.Tree) → StateWhole st → On StateWhole (lambdas_of s st t)
lambdas_whole s st t h = on StateWhole (lambdas_of s st t) (λ x e. lambdas_law s st t x h e)

pub all_whole : (s : List Lexeme) (st : State) (es : syntax.Trees) → StateWhole st → On StateWhole (all_lambdas lambdas_of s st es)
all_whole s st syntax.none h = h
all_whole s st (syntax.more e es) h = bind StateWhole StateWhole (lambdas_of s st e) _ (lambdas_whole s st e h) (λ x i. all_whole s x es i)

module _ (P : State → Work → Type 0) (T : syntax.Tree → Type 0) (Ts : syntax.Trees → Type 0) (s : List Lexeme) where
  -- a state in which it is read
  read : (x : State) (e : syntax.Tree) → Reads P T Ts s x → T e → On (Types x.ctx.classes x.work) (and_then (expression_of s x.ctx x.work e) (chosen_operand x.ctx))
  read x e r y = chosen_adds (P x) T Ts s x.ctx r.supplies r.functions x.work (expression_of s x.ctx x.work e)
      (expression (P x) T Ts s x.ctx r.supplies r.functions x.work e r.here y)

  pub operands_whole : (x : State) (es : syntax.Trees) → Reads P T Ts s x → Ts es → StateWhole x
      → On (λ (xs : TypedAll). AreWhole x.ctx.classes xs.work) (operands_of s x.ctx x.work es)
  operands_whole x es r y h = bind_last (operands_of s x.ctx x.work es) (operands (P x) T Ts s x.ctx r.supplies r.functions x.work es r.here y)
    where
      bind_last : (z : Result TypedAll ElabFault) → On (AllTypes x.ctx.classes x.work) z → On (λ (xs : TypedAll). AreWhole x.ctx.classes xs.work) z
      bind_last (Ok xs) g = g.whole h
      bind_last (Err f) g = tt

  abbrev FullWhole : Full → Type 0
  FullWhole f = IsWholeState f.state

  -- where what makes its lambdas leaves whole items
  pub full_whole : (lams : Lambdas) (st : State) (e : syntax.Tree) → ((x : State) → lams s st e ≡ Ok x → Reads P T Ts s x × IsWholeState x) → T e
      → On FullWhole (full_operand lams s st e)
  full_whole lams st e r y = bind (λ (x : State). Reads P T Ts s x × IsWholeState x) FullWhole (lams s st e) _
      (on (λ (x : State). Reads P T Ts s x × IsWholeState x) (lams s st e) r)
      (λ x g. bind (Types x.ctx.classes x.work) FullWhole (and_then (expression_of s x.ctx x.work e) (chosen_operand x.ctx)) _ (read x e g.0 y)
      (λ o i. record { items = i.whole g.1.items; defaults = g.1.defaults; bodies = g.1.bodies }))

-- what is made of it
pub made_whole : (f : Full) (r : Result Made ElabFault) → On (λ (m : Made). AreWhole f.state.ctx.classes m.work) r
    → On (λ (d : Done). StateWhole d.state) (full_made f r)
made_whole f r h = bind (λ (m : Made). AreWhole f.state.ctx.classes m.work) (λ (d : Done). StateWhole d.state) r _ h (λ m g. g)

pub dropped_whole : (f : Full) → IsWhole f.state.ctx.classes f.operand.tree → StateWhole f.state
    → On (λ (d : Done). StateWhole d.state) (full_made f (Ok (Operators.dropped f.state.ctx f.state.work f.operand)))
dropped_whole f w h = (dropped f.state.ctx f.state.work f.operand w).whole h

pub truth_whole : (f : Full) → StateWhole f.state
    → On (λ (d : Done). StateWhole d.state) (full_made f (and_then (Operators.truth f.state.ctx f.state.work f.operand)
    (λ (t : Tree). Ok (record { tree = t; work = f.state.work }))))
truth_whole f h = made_whole f (and_then (Operators.truth f.state.ctx f.state.work f.operand) (λ (t : Tree). Ok (record { tree = t; work = f.state.work })))
    (skip (λ (m : Made). AreWhole f.state.ctx.classes m.work) (Operators.truth f.state.ctx f.state.work f.operand) _ (λ t. h))
