-- Statements of a body keep all items whole.
use Rattle.std.proofs.Common.{◌≡◌, false, List, Ok}
use Rattle.elab_rules.specs.cpp_lex.Tokens.{Lexeme}
use Rattle.elab_rules.specs.cpp_ast.Trees as syntax
use Rattle.elab_rules.specs.cpp_tree.declared.roles.Role.TheVariants.{BlockItem}
use Rattle.elab_rules.specs.cpp_tree.Units.{Func as UnitFunc}
use Rattle.elab_rules.specs.Statements.{State, Done, Lambdas, all_lambdas, statements_of}
use Rattle.elab_fits.proofs.Steps.{told, answered}
use Rattle.elab_places.proofs.Steps.{On, turn}
use Rattle.elab_fits_statements.specs.Anywhere.{AllServe}
use Rattle.elab_fits_statements.specs.Discipline as discipline
use Rattle.elab_fits_statements.proofs.Statements.{body_serves}
use Rattle.elab_fits_states.specs.Bodies.{StandsAlone}
use Rattle.elab_fits_states.specs.Premises.{KeepsGood, GoesWell}
use Rattle.elab_fits_states.specs.States.{IsText, AreTexts, IsGood, IsSettled, setting, words}
use Rattle.elab_fits_states.proofs.Discipline.{a_discipline, all_well}
use Rattle.elab_fits_states.proofs.Good.{comes_still}
use Rattle.elab_fits_states.proofs.Texts
use Rattle.elab_fits_states.proofs.Variables.{sized_complete}
use Rattle.elab_frame_items.specs.Frames.{IsWholeState}
use Rattle.elab_whole_states.specs.States.{with_items, GivesItems}
use Rattle.elab_whole_states.proofs.Items.{items_discipline}
use Rattle.elab_unit_items.proofs.Supplied.{IsRead, proper_whole, reads, reads_items}

-- what makes the lambdas of an expression in a good state leaves all items whole
abbrev pub KeepsWhole : UnitFunc → Lambdas → List Lexeme → Type 0
KeepsWhole f lams s = (a x : State) (e : syntax.Tree) → IsGood f a → IsText s e → lams s a e ≡ Ok x → IsWholeState a → IsWholeState x

module _ (f : UnitFunc) (lams : Lambdas) (s : List Lexeme) (p : KeepsGood f lams s) (k : KeepsWhole f lams s) where
  -- behind several of them
  pub all_left : (a : State) (es : syntax.Trees) → IsGood f a → AreTexts s es → IsWholeState a → On IsWholeState (all_lambdas lams s a es)
  all_left a syntax.none g t h = h
  all_left a (syntax.more e es) g t h = told IsWholeState (lams s a e) _ (λ x q. all_left x es (p a x e g (Texts.first s e es t) q).good
      (Texts.rest s e es t) (k a x e g (Texts.first s e es t) q h))

  gives_items : GivesItems (words f s) lams (IsRead f) s
  gives_items = record {
    left = λ a x e g t q h. k a x e g.good t q h;
    left_all = λ a x es g t q h. answered IsWholeState (all_lambdas lams s a es) x (all_left a es g.good t h) q;
    behind = λ a x e g t q. reads f s x (p a x e g.good t q).good;
    behind_all = λ a x es g t q. reads_items f s x (answered (GoesWell f a) (all_lambdas lams s a es) x (all_well f lams s p a es g.good t) q).good;
    whole = λ a o g r. proper_whole (setting f a) a.ctx o.tree r.proper.proper;
    object = λ a t g o. sized_complete a.ctx.classes t (o.sized a (comes_still a));
  }

  pub statements_whole : (st : State) (ts : syntax.Trees) → IsSettled f st → IsWholeState st → StandsAlone st → AreTexts s ts
      → On (λ (d : Done). IsWholeState d.state) (statements_of lams s st ts)
  statements_whole st ts g h a t =
      turn (λ (x : Done). discipline.Goes (with_items (words f s)) st x.state × AllServe (setting f x.state) false false BlockItem x.trees)
      (λ (x : Done). IsWholeState x.state) (statements_of lams s st ts) (λ x i. i.0.good.1)
      (body_serves (with_items (words f s)) lams s (items_discipline (words f s) lams (IsRead f) s (a_discipline f lams s p) gives_items) st ts (g, h)
      a.label a.breaks a.continues t)
