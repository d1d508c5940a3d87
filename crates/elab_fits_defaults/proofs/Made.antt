-- Behind the initialiser of a member, all initialisers that the context has fit.
use Rattle.std.proofs.Common.{◌≡◌, refl, sym, subst, ℕ, Bool, true, false, List, Option, Some, None, Result, Ok, Err}
use Rattle.elab_rules.specs.cpp_types.Typ.{Typ}
use Rattle.elab_rules.specs.cpp_lex.Tokens.{Lexeme}
use Rattle.elab_rules.specs.cpp_ast.Trees as syntax
use Rattle.elab_rules.specs.cpp_tree.declared.faults.ElabFault.{ElabFault}
use Rattle.elab_rules.specs.cpp_tree.Trees.{Tree, one}
use Rattle.elab_rules.specs.cpp_tree.Units.{Func}
use Rattle.elab_rules.specs.cpp_tree.Rows.{Setting}
use Rattle.elab_rules.specs.elab_ctx.Steps.{and_then, spelling, Made}
use Rattle.elab_rules.specs.Braces.{syntax_place, string_object, string_token, is_char_array}
use Rattle.elab_rules.specs.Strings.{string_bytes}
use Rattle.elab_rules.specs.Members.{in_object, default_value, default_made, first_tree}
use Rattle.elab_rules.specs.Statements.{State, Done, Full, Lambdas, full, full_operand, copy_initialised, with_work}
use Rattle.elab_fits.specs.Standing.{On}
use Rattle.elab_fits.proofs.Steps.{bind, answered as held_by}
use Rattle.elab_fits_expressions.proofs.Behind.{one_more}
use Rattle.elab_fits_braces.specs.Defaults.{IsDefault, AllDefaultsFit}
use Rattle.elab_fits_braces.specs.Moving.{DefaultFits}
use Rattle.elab_movable.specs.Movable.{KeepsThis}
use Rattle.elab_fits_defaults.specs.Kept.{kept, is_member_typ, IsMemberOf, ValuesBuild, DefaultsMade}
use Rattle.elab_fits_defaults.proofs.Kept.{copies_kept, string_fits}

module _ (lams : Lambdas) (keeps : KeepsThis lams) (lexemes : List Lexeme) (s : Setting) (st : State) (n i : ℕ) (t : Typ) (e : syntax.Tree)
    (mt : is_member_typ t ≡ true) (m : IsMemberOf s n i t) (b : ValuesBuild lams lexemes s st n t e) where
  -- what is kept of the answer
  abbrev Fits : Done → Type 0
  Fits d = (g : Func) → DefaultFits (record s { function = g }) t (kept n i (first_tree (syntax_place e) d.trees) d.state.work.frame)

  copied_by : (f : Full) → full_operand lams lexemes (in_object st n) e ≡ Ok f → On Fits (and_then (copy_initialised f.state.ctx f.state.work t f.operand)
      (λ (x : Made). Ok (record { trees = one (full f.operand.at x.tree); state = with_work f.state x.work })))
  copied_by f h = by (copy_initialised f.state.ctx f.state.work t f.operand) refl
    where
      by : (r : Result Made ElabFault) → copy_initialised f.state.ctx f.state.work t f.operand ≡ r
          → On Fits (and_then r (λ (x : Made). Ok (record { trees = one (full f.operand.at x.tree); state = with_work f.state x.work })))
      by (Ok x) k = copies_kept lams keeps lexemes s st n i t e f x h k mt (b.copies f x h k)
      by (Err z) k = tt

  copied : On Fits (and_then (full_operand lams lexemes (in_object st n) e) (λ (f : Full). and_then (copy_initialised f.state.ctx f.state.work t f.operand)
      (λ (x : Made). Ok (record { trees = one (full f.operand.at x.tree); state = with_work f.state x.work }))))
  copied = by (full_operand lams lexemes (in_object st n) e) refl
    where
      by : (r : Result Full ElabFault) → full_operand lams lexemes (in_object st n) e ≡ r
          → On Fits (and_then r (λ (f : Full). and_then (copy_initialised f.state.ctx f.state.work t f.operand)
          (λ (x : Made). Ok (record { trees = one (full f.operand.at x.tree); state = with_work f.state x.work }))))
      by (Ok f) h = copied_by f h
      by (Err z) h = tt

  written : (j : ℕ) → is_char_array t ≡ true → On Fits (and_then (string_object (in_object st n).ctx t (syntax_place e) (string_bytes (spelling lexemes j)))
      (λ (x : Tree). Ok (record { trees = one x; state = in_object st n })))
  written j a = by (string_object (in_object st n).ctx t (syntax_place e) (string_bytes (spelling lexemes j))) refl
    where
      by : (r : Result Tree ElabFault) → string_object (in_object st n).ctx t (syntax_place e) (string_bytes (spelling lexemes j)) ≡ r
          → On Fits (and_then r (λ (x : Tree). Ok (record { trees = one x; state = in_object st n })))
      by (Ok x) h = λ g. string_fits s (in_object st n).ctx st n i t (syntax_place e) (string_bytes (spelling lexemes j)) x h g
          (b.strings (syntax_place e) (string_bytes (spelling lexemes j)) x a h g)
      by (Err z) h = tt

  value_fits : (x : Bool) (o : Option ℕ) → is_char_array t ≡ x → On Fits (default_value lams lexemes (in_object st n) t e x o)
  value_fits true (Some j) a = written j a
  value_fits true None a = copied
  value_fits false o a = copied

  made_fits : AllDefaultsFit s st.ctx.defaults → On (λ (y : State). AllDefaultsFit s y.ctx.defaults) (default_made lams lexemes st n i t e)
  made_fits all = bind Fits (λ (y : State). AllDefaultsFit s y.ctx.defaults)
      (default_value lams lexemes (in_object st n) t e (is_char_array t) (string_token e)) _ (value_fits (is_char_array t) (string_token e) refl)
      (λ d h. record {
        each = λ j d0 g. one_more (IsDefault s) st.ctx.defaults (kept n i (first_tree (syntax_place e) d.trees) d.state.work.frame) j d0
            (λ j0 d1 g0. all.each j0 d1 g0) (record {
              complete = m.complete;
              member = m.member;
              at = m.at;
              fits = λ f. subst (λ (u : Typ). DefaultFits (record s { function = f }) u (kept n i (first_tree (syntax_place e) d.trees) d.state.work.frame)) (sym m.typed) (h f);
            }) g;
      })

pub defaults_made : DefaultsMade
defaults_made lams keeps lexemes s st n i t e y mt m all b h =
    held_by (λ (z : State). AllDefaultsFit s z.ctx.defaults) (default_made lams lexemes st n i t e) y (made_fits lams keeps lexemes s st n i t e mt m b all) h
