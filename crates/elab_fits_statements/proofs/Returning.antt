-- `return`.
use Rattle.std.proofs.Common.{◌≡◌, refl, sym, ap, ◌∙◌, subst, Bool, true, false, not, ◌&&◌, List}
use Rattle.std.specs.Prelude.{if◌then◌else◌}
use Rattle.elab_rules.specs.cpp_lex.Tokens.{Lexeme}
use Rattle.elab_rules.specs.cpp_ast.Trees as syntax
use Rattle.elab_rules.specs.cpp_types.Typ.{Typ, typ, void, ptr}
use Rattle.elab_rules.specs.cpp_types.declared.classes.At.{At}
use Rattle.elab_rules.specs.cpp_types.declared.ranks.Cat.{Cat}
use Rattle.elab_rules.specs.cpp_types.declared.ranks.Cat.TheVariants.{Lvalue, Prvalue}
use Rattle.elab_rules.specs.cpp_tree.declared.faults.IllRule.TheVariants.{BadReturn}
use Rattle.elab_rules.specs.cpp_tree.declared.roles.Role.TheVariants.{Statement}
use Rattle.elab_rules.specs.cpp_tree.Trees.{Tree, none, one, two, typ_in, cat_of}
use Rattle.elab_rules.specs.cpp_tree.Notation.{plain}
use Rattle.elab_rules.specs.cpp_tree.Typing.{is_void, is_class_typ, is_class_prvalue}
use Rattle.elab_rules.specs.cpp_tree.Rows.{Setting, has_value}
use Rattle.elab_rules.specs.cpp_tree.Rows
use Rattle.elab_rules.specs.elab_ctx.Ctx.{Returns, known}
use Rattle.elab_rules.specs.elab_ctx.Steps.{and_then, Made}
use Rattle.elab_rules.specs.Initialising.{class_from, initial}
use Rattle.elab_rules.specs.Operators.{bare_throw}
use Rattle.elab_rules.specs.Statements as statements
use Rattle.elab_rules.specs.Statements.{State, Done, Lambdas, Full, with_work, full, full_operand, return_node, return_nothing, return_by}
use Rattle.elab_rules.specs.Statements.{return_value, returned}
use Rattle.elab_rules.specs.Statements.{class_returned, done}
use Rattle.elab_fits.specs.Standing.{On}
use Rattle.elab_fits.specs.Scalars.{Initialises}
use Rattle.elab_fits.proofs.Nodes.{both}
use Rattle.elab_fits.proofs.Steps.{checked, either, told}
use Rattle.elab_fits.proofs.Comma.{bare_fits}
use Rattle.elab_fits_statements.specs.Anywhere.{Serves, AllServe}
use Rattle.elab_fits_statements.specs.Variables.{HasItem, BuildsWhole}
use Rattle.elab_fits_statements.specs.Discipline.{Words, Goes, HasRead, Discipline}
use Rattle.elab_fits_statements.proofs.Wholes.{whole_value}
use Rattle.elab_fits_statements.proofs.Forms.{value_serves, as_item, block_serves}
use Rattle.elab_fits_statements.proofs.Variables.{end_fits, return_fits, object_returned}
use Rattle.elab_fits_statements.proofs.States.{goes_still, goes_then}

pub record IsReturn (w : Words) (st : State) (d : Done) : Type 0 where
  pub goes : Goes w st d.state
  pub serve : AllServe (w.at d.state) false false Statement d.trees

-- of a function whose result has a type

end_as : (s : Setting) (t : Typ) (at : At) → Rows.result_of s.function ≡ t → has_value t ≡ false → Serves s false false Statement (return_node at none)
end_as s t at e h = end_fits s at (ap has_value e ∙ h)

return_as : (s : Setting) (t : Typ) (at p : At) (e : Tree) → Rows.result_of s.function ≡ t → has_value t ≡ true → Initialises s t e
    → Serves s false false Statement (return_node at (one (full p (statements.result_of t p e))))
return_as s t at p e q h i = subst (λ (u : Typ). has_value u ≡ true → Initialises s u e
    → Serves s false false Statement (return_node at (one (full p (statements.result_of u p e))))) q (return_fits s at p e) h i

object_as : (s : Setting) (t : Typ) (at : At) (f : Full) (m : Made) → Rows.result_of s.function ≡ t → is_class_typ t ≡ true → HasItem s 0 (plain (ptr t))
    → BuildsWhole s t m.tree → Serves s false false Statement (class_returned at t f m)
object_as s t at f m q c h b = subst (λ (u : Typ). is_class_typ u ≡ true → HasItem s 0 (plain (ptr u)) → BuildsWhole s u m.tree
    → Serves s false false Statement (class_returned at u f m)) q (object_returned s at f m) c h b

no_void_value : (t : Typ) → is_void t ≡ true → has_value t ≡ false
no_void_value t h = ap (λ (b : Bool). not b && not (is_class_typ t)) h

no_void_object : (t : Typ) (cat : Cat) → is_void t ≡ true → is_class_prvalue t cat ≡ false
no_void_object t Lvalue h = refl
no_void_object (typ void c v) Prvalue h = refl
no_void_object (typ f c v) Prvalue h = absurd cc

known_told : (t u : Typ) → known t ≡ known u → t ≡ u
known_told t u h = cc

module _ (w : Words) (lams : Lambdas) (s : List Lexeme) (d : Discipline w lams s) where
  -- the function at hand is the same in a later state
  result_still : (a b : State) (t : Typ) → w.Good a → w.Good b → b.ctx.returns ≡ a.ctx.returns → Rows.result_of (w.at a).function ≡ t
      → Rows.result_of (w.at b).function ≡ t
  result_still a b t g h e q = known_told (Rows.result_of (w.at b).function) (Rows.result_of (w.at a).function)
      (sym (d.returns b h) ∙ e ∙ d.returns a g) ∙ q

  nothing_fits : (st : State) (at : At) → w.Good st → On (IsReturn w st) (return_nothing st at st.ctx.returns)
  nothing_fits st at g = subst (λ (x : Returns). On (IsReturn w st) (return_nothing st at x)) (sym (d.returns st g))
      (checked (IsReturn w st) at BadReturn (is_void (Rows.result_of (w.at st).function)) _ (λ h. record {
        goes = goes_still w lams s d st g;
        serve = (end_as (w.at st) (Rows.result_of (w.at st).function) at refl (no_void_value (Rows.result_of (w.at st).function) h), tt);
      }))

  -- a scalar, a reference or an object of a class
  other_fits : (a : State) (at : At) (t : Typ) (f : Full) → is_void t ≡ false → Rows.result_of (w.at f.state).function ≡ t → HasRead w a f
      → On (IsReturn w a) (if is_class_typ t then and_then (class_from f.state.ctx f.state.work t f.operand.at f.operand)
      (λ (m : Made). done (one (class_returned at t f m)) (with_work f.state m.work))
      else and_then (initial f.state.ctx f.state.work t f.operand)
      (λ (m : Made). done (one (return_node at (one (full f.operand.at (statements.result_of t f.operand.at m.tree))))) (with_work f.state m.work)))
  other_fits a at t f n q r = either (IsReturn w a) (is_class_typ t) _ _
      (λ k. told (IsReturn w a) (class_from f.state.ctx f.state.work t f.operand.at f.operand) _ (λ m e.
      let x = d.builds f.state t f.operand m r.goes.good r.operand q k e in
      let y = result_still f.state (with_work f.state m.work) t r.goes.good x.goes.good refl q in record {
        goes = goes_then w lams s d a f.state (with_work f.state m.work) r.goes x.goes;
        serve = (object_as (w.at (with_work f.state m.work)) t at f m y k (d.result (with_work f.state m.work) t x.goes.good y k) x.fits, tt);
      }))
      (λ k. told (IsReturn w a) (initial f.state.ctx f.state.work t f.operand) _ (λ m e.
      let has : has_value t ≡ true = both (ap not n) (ap not k) in
      let x = d.gives f.state t f.operand m r.goes.good r.operand q has e in
      let y = result_still f.state (with_work f.state m.work) t r.goes.good x.goes.good refl q in record {
        goes = goes_then w lams s d a f.state (with_work f.state m.work) r.goes x.goes;
        serve = (return_as (w.at (with_work f.state m.work)) t at f.operand.at m.tree y has x.fits, tt);
      }))

  value_fits : (a : State) (at : At) (t : Typ) (f : Full) → Rows.result_of (w.at f.state).function ≡ t → HasRead w a f
      → On (IsReturn w a) (return_value at t f)
  value_fits a at (typ void c v) f q r = checked (IsReturn w a) at BadReturn (is_void (typ_in f.operand.tree)) _ (λ h.
      let stands = (d.operand f.state f.operand r.operand).stands in
      let x = whole_value (w.at f.state) f.operand.at (bare_throw f.operand.tree) (bare_fits (w.at f.state) f.operand.tree
      (stands.value (no_void_object (typ_in f.operand.tree) (cat_of f.operand.tree) h))) in
      let y = (value_serves (w.at f.state) false false (full f.operand.at (bare_throw f.operand.tree)) x).0 in
      let z = end_as (w.at f.state) (typ void c v) at q refl in record {
        goes = r.goes;
        serve = (
          (block_serves (w.at f.state) false false at (two (full f.operand.at (bare_throw f.operand.tree)) (return_node at none)) (
            as_item (w.at f.state) false false (full f.operand.at (bare_throw f.operand.tree)) y,
            (as_item (w.at f.state) false false (return_node at none) z, tt),
          )).0,
          tt,
        );
      })
  value_fits a at (typ g c v) f q r = other_fits a at (typ g c v) f refl q r

  pub returned_fits : (st : State) (at : At) (ts : syntax.Trees) → w.Good st → w.Texts ts → On (IsReturn w st) (returned lams s st at ts)
  returned_fits st at syntax.none g t = nothing_fits st at g
  returned_fits st at (syntax.more e ts) g t = told (IsReturn w st) (full_operand lams s st e) _ (λ f h.
      let r = d.reads st e f g (d.first e ts t) h in
      subst (λ (x : Returns). On (IsReturn w st) (return_by at x f)) (sym (d.returns f.state r.goes.good))
      (value_fits st at (Rows.result_of (w.at f.state).function) f refl r))
