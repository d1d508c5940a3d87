-- What handlers catch.
use Rattle.std.specs.Prelude.{nat_le, if◌then◌else◌}
use Rattle.std.proofs.Common.{◌≡◌, refl, ap, ◌∙◌, subst, ℕ, Bool, true, false, List, Option, Some, None, Result, Ok, Err}
use Rattle.elab_rules.specs.cpp_lex.Tokens.{Lexeme}
use Rattle.elab_rules.specs.cpp_ast.declared.kinds.NodeKind.TheVariants as k
use Rattle.elab_rules.specs.cpp_ast.Trees as syntax
use Rattle.elab_rules.specs.cpp_types.declared.classes.At.{At}
use Rattle.elab_rules.specs.cpp_tree.declared.faults.ElabFault.{ElabFault}
use Rattle.elab_rules.specs.cpp_tree.declared.faults.IllRule.TheVariants.{OutOfProfile}
use Rattle.elab_rules.specs.cpp_tree.Typing.{form_in}
use Rattle.elab_rules.specs.cpp_tree.Rows.{Setting, referred, is_handler_of, at_place}
use Rattle.elab_rules.specs.cpp_tree.WellFormed.{heads_of}
use Rattle.elab_rules.specs.elab_ctx.Ctx.{Ctx, next_place}
use Rattle.elab_rules.specs.elab_ctx.Steps.{and_then, check, at_of, spelling}
use Rattle.elab_rules.specs.Casts.{within_exception}
use Rattle.elab_rules.specs.Expressions.{declared_by, type_of_specifiers}
use Rattle.elab_rules.specs.Names.{is_const_typ}
use Rattle.elab_rules.specs.Statements.{State, block, handler_node, Lambdas, Caught, caught_form, caught_type, named_handler, handler_type, placed_variable}
use Rattle.elab_fits.specs.Standing.{On}
use Rattle.elab_fits.proofs.Nodes.{both}
use Rattle.elab_fits.proofs.Steps.{told}
use Rattle.elab_fits_statements.specs.Anywhere.{AllServe}
use Rattle.elab_fits_statements.specs.Variables.{HasItem}
use Rattle.elab_fits_statements.specs.Discipline.{Words, Goes, Discipline}
use Rattle.elab_fits_statements.proofs.Fields.{fields_serve}
use Rattle.elab_fits_statements.proofs.States.{goes_still}
use Rattle.elab_rules.specs.cpp_types.Typ.{Typ, typ, Form, int, enum, ref, class, tx_ex}
use Rattle.elab_rules.specs.cpp_types.Class.{Class}
use Rattle.elab_rules.specs.cpp_types.declared.ranks.Cat.TheVariants.{Prvalue}
use Rattle.elab_rules.specs.elab_ctx.tx_events.declared.TheConstants.{EXCEPTION_SIZE}
use Rattle.elab_rules.specs.cpp_tree.declared.faults.ElabFault.TheVariants.{Limit}
use Rattle.elab_rules.specs.cpp_tree.declared.faults.LimitKind.TheVariants.{Exception}
use Rattle.elab_rules.specs.cpp_tree.declared.roles.Role.TheVariants.{Scalar, Catch}
use Rattle.elab_rules.specs.cpp_tree.Trees.{Trees, none, more}
use Rattle.elab_rules.specs.cpp_tree.Parts.{is_value_form, are_scalars}
use Rattle.elab_rules.specs.Objects.{fields, size_of}
use Rattle.elab_fits_statements.proofs.Anywhere.{fitting}
use Rattle.elab_fits_statements.proofs.Forms.{nowhere_open, block_serves, handler_serves}
use Rattle.elab_fits_statements.proofs.Scalars.{scalars_law}
use Rattle.elab_rules.specs.cpp_tree.declared.kinds.TKind.TheVariants as forms

pub record IsHandled (s : Setting) (place : Option ℕ) (t : Typ) (fs : Trees) : Type 0 where
  pub serve : AllServe s false false Scalar fs
  pub right : is_handler_of s.classes s.function.frame place t (heads_of fs) ≡ true

-- what is caught fits in each later state
pub record Catches (w : Words) (a : State) (h : Caught) : Type 0 where
  pub goes : Goes w a h.state
  pub later : (b : State) → w.Good b → w.Leads h.state b → IsHandled (w.at b) h.place h.typ h.fields

behind_step : {A : Type 0} (r : Result A ElabFault) (x : Result Typ ElabFault) (u : Typ) → and_then r (λ k. x) ≡ Ok u → x ≡ Ok u
behind_step (Ok a) x u h = h
behind_step (Err f) x u h = absurd cc

type_told : (t u : Typ) → ◌≡◌ {A = Result Typ ElabFault} (Ok t) (Ok u) → t ≡ u
type_told t u h = cc

ok_told : (A : Type 0) (r : Result Bool ElabFault) (t u : Typ) → and_then r (λ z. Ok t) ≡ Ok u → ((x : Bool) → r ≡ Ok x → t ≡ u → A) → A
ok_told A (Ok x) t u h f = f x refl (type_told t u h)
ok_told A (Err e) t u h f = absurd cc

-- what is caught is what a reference refers to, and a value
caught_referred : (c : Ctx) (at : At) (t u : Typ) → caught_type c at t ≡ Ok u → referred t ≡ u
caught_referred c at (typ (ref t) d v) u h = type_told t u (behind_step (caught_form c at (form_in t)) (Ok t) u
    (behind_step (check at OutOfProfile (is_const_typ t)) (and_then (caught_form c at (form_in t)) (λ z. Ok t)) u h))
caught_referred c at (typ f d v) u h = type_told (typ f d v) u (behind_step (caught_form c at f) (Ok (typ f d v)) u h)

value_caught : (c : Ctx) (at : At) (f : Form) (x : Bool) → caught_form c at f ≡ Ok x → is_value_form f ≡ true
value_caught c at (int j) x h = refl
value_caught c at (enum n y) x h = refl
value_caught c at (class n) x h = refl
value_caught c at (tx_ex t) x h = refl
value_caught c at f x h = absurd cc

caught_value : (c : Ctx) (at : At) (t u : Typ) → caught_type c at t ≡ Ok u → is_value_form (form_in u) ≡ true
caught_value c at (typ (ref t) d v) u h = ok_told _ (caught_form c at (form_in t)) t u
    (behind_step (check at OutOfProfile (is_const_typ t)) (and_then (caught_form c at (form_in t)) (λ z. Ok t)) u h)
    (λ x e q. subst (λ (y : Typ). is_value_form (form_in y) ≡ true) q (value_caught c at (form_in t) x e))
caught_value c at (typ f d v) u h = ok_told _ (caught_form c at f) (typ f d v) u h
    (λ x e q. subst (λ (y : Typ). is_value_form (form_in y) ≡ true) q (value_caught c at f x e))

-- it has room where an exception is kept
small_enough : (c : Ctx) (at : At) (t : Typ) (y : Bool) → within_exception c at t ≡ Ok y → nat_le (size_of c.classes t) EXCEPTION_SIZE ≡ true
small_enough c at t y h = by_size (nat_le (size_of c.classes t) EXCEPTION_SIZE) h
  where
    by_size : (b : Bool) → (if b then Ok true else Err (Limit at Exception)) ≡ Ok y → b ≡ true
    by_size true i = refl
    by_size false i = absurd cc

handled_row : (s : Setting) (place : ℕ) (t u : Typ) (fs : Trees) → referred t ≡ u → HasItem s place u → are_scalars s.classes u (heads_of fs) ≡ true
    → is_handler_of s.classes s.function.frame (Some place) t (heads_of fs) ≡ true
handled_row s place t u fs e i h = both (ap (at_place s.function.frame place) e ∙ i) (ap (λ (x : Typ). are_scalars s.classes x (heads_of fs)) e ∙ h)

module _ (w : Words) (lams : Lambdas) (s : List Lexeme) (d : Discipline w lams s) where
  named_fits : (a : State) (at p : At) (t u : Typ) (o : Option ℕ) → w.Good a → w.Written a t → caught_type a.ctx p t ≡ Ok u
      → On (Catches w a) (named_handler s a at p t u o)
  named_fits a at p t u None g wr h = record { goes = goes_still w lams s d a g; later = λ b i l. record { serve = tt; right = refl } }
  named_fits a at p t u (Some n) g wr h = told (Catches w a) (within_exception a.ctx p u) _ (λ y k.
      let o = d.caught a p t u g wr h in
      let v = placed_variable a (spelling s n) u in
      let x = d.places a (spelling s n) u g o.object in
      let fs = fields a.ctx.classes at u in
      let scalars = scalars_law a.ctx.classes true at u (d.ordered a g) (caught_value a.ctx p t u h) o.sized (small_enough a.ctx p u y k) o.ready in
      let right = handled_row (w.at v) (next_place a.work) t u fs (caught_referred a.ctx p t u h) x.item
      (ap (λ (classes : List Class). are_scalars classes u (heads_of fs)) (d.classes v x.good) ∙ scalars) in
      let handler = handler_serves (w.at v) false false at (Some (next_place a.work)) t (block at none) fs (block_serves (w.at v) false false at none tt).0
      (fields_serve (w.at v) a.ctx.classes at u) right in record {
        goes = record { good = x.good; leads = x.leads; stands = record { label = refl; breaks = refl; continues = refl; typ = refl; past = λ z. z } };
        later = λ b i l. record {
          serve = fields_serve (w.at b) a.ctx.classes at u;
          right = (fitting (w.at b) nowhere_open Catch (forms.Handler (Some (next_place a.work))) t Prvalue (more (block at none) fs)
              (d.still v b x.good l nowhere_open Catch (handler_node at (Some (next_place a.work)) t (block at none) fs)
              (handler.fits nowhere_open (record { breaks = λ z. absurd cc; continues = λ z. absurd cc })))).row;
        };
      })

  pub catches : (a : State) (at : At) (t : syntax.Tree) → w.Good a → w.Text t → On (Catches w a) (handler_type s a at t)
  catches a at (syntax.node k.ParameterDeclaration p token (syntax.more base (syntax.more e syntax.none))) g x =
      let ts = d.kids k.ParameterDeclaration p token (syntax.more base (syntax.more e syntax.none)) x in
      told (Catches w a) (type_of_specifiers s a.ctx a.work base) _ (λ t h.
      told (Catches w a) (declared_by s a.ctx a.work (at_of p) t e) _ (λ r i.
      let wr = d.declares a (at_of p) t e r g (d.first e syntax.none (d.rest base (syntax.more e syntax.none) ts))
      (d.specifiers a base t g (d.first base (syntax.more e syntax.none) ts) h) i in
      told (Catches w a) (caught_type a.ctx (at_of p) r.typ) _ (λ u l. named_fits a at (at_of p) r.typ u r.name g wr l)))
  catches a at t g x = record { goes = goes_still w lams s d a g; later = λ b i l. record { serve = tt; right = refl } }
