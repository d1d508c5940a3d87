-- Labels of `switch`.
use Rattle.std.proofs.Common.{◌≡◌, refl, sym, ap, ap₂, ◌∙◌, subst, ℕ, Bool, true, false, not, ◌&&◌, List, [], ◌∷◌, ◌++◌, Option, Some, None, Result, Ok}
use Rattle.std.specs.Prelude.{◌==◌}
use Rattle.std.specs.List.{list_any}
use Rattle.elab_rules.specs.cpp_lex.Tokens.{Lexeme}
use Rattle.elab_rules.specs.cpp_ast.Trees as syntax
use Rattle.elab_rules.specs.tx_ints.declared.kinds.IntKind.{IntKind}
use Rattle.elab_rules.specs.cpp_types.Typ.{Typ}
use Rattle.elab_rules.specs.cpp_types.declared.classes.At.{At}
use Rattle.elab_rules.specs.cpp_tree.declared.faults.ElabFault.{ElabFault}
use Rattle.elab_rules.specs.cpp_tree.declared.faults.IllRule.TheVariants.{JumpPastInit, NotConstant, Narrowing, BadCase}
use Rattle.elab_rules.specs.cpp_tree.declared.kinds.TKind.TheVariants as forms
use Rattle.elab_rules.specs.cpp_tree.declared.roles.Role.TheVariants.{SwitchItem}
use Rattle.elab_rules.specs.cpp_tree.Trees.{Tree, none, one, typ_in}
use Rattle.elab_rules.specs.cpp_tree.Notation.{plain}
use Rattle.elab_rules.specs.cpp_tree.Typing.{head_of, form_in, kind_in, gives_promoted, is_promoted, is_word_of, word_kind, passes}
use Rattle.elab_rules.specs.cpp_tree.Rows.{is_case_of}
use Rattle.elab_rules.specs.cpp_tree.WellFormed.{skips}
use Rattle.elab_rules.specs.elab_ctx.declared.env.Label.{Label}
use Rattle.elab_rules.specs.elab_ctx.declared.env.Label.TheVariants.{Outside, Direct, Inside, InBlock}
use Rattle.elab_rules.specs.elab_ctx.Ctx.{Labels}
use Rattle.elab_rules.specs.elab_ctx.Steps.{and_then, check, Operand, Made}
use Rattle.elab_rules.specs.Constants.{constant}
use Rattle.elab_rules.specs.Expressions.{expression_of, chosen_operand}
use Rattle.elab_rules.specs.Initialising.{initial}
use Rattle.elab_rules.specs.Operators.{value}
use Rattle.elab_rules.specs.Statements as statements
use Rattle.elab_rules.specs.Statements.{State, Done, Lambdas, statement, with_labels, case_label, default_label, label_here, label_allowed, is_direct_label}
use Rattle.elab_fits.specs.Standing.{On}
use Rattle.elab_fits.specs.Scalars.{Gives}
use Rattle.elab_fits.proofs.Nodes.{both, clash}
use Rattle.elab_fits.proofs.Steps.{checked, expected, told}
use Rattle.elab_fits.proofs.Initials.{initial_gives}
use Rattle.elab_fits_statements.specs.Anywhere.{Serves, AllServe}
use Rattle.elab_fits_statements.specs.Items.{role_if, IsLabelType, HasLabels, Behind, Items}
use Rattle.elab_fits_statements.specs.Discipline.{Words, StandsSomewhere, Discipline}
use Rattle.elab_fits_statements.proofs.Constants.{constants_law}
use Rattle.elab_fits_statements.proofs.Forms.{labels_serve}

-- a label may stand there
record IsHere (l : Label) (past : Bool) : Type 0 where
  direct : is_direct_label l ≡ true
  before : past ≡ false

here : (at : At) (l : Label) (past x : Bool) → and_then (label_allowed at l) (λ y. check at JumpPastInit (not past)) ≡ Ok x → IsHere l past
here at Direct true x h = absurd cc
here at Direct false x h = record { direct = refl; before = refl }
here at Outside past x h = absurd cc
here at Inside past x h = absurd cc
here at InBlock past x h = absurd cc

promoted_told : (A : Type 0) (o : Option IntKind) → gives_promoted o ≡ true → ((k : IntKind) → o ≡ Some k → is_promoted k ≡ true → A) → A
promoted_told A None h f = absurd cc
promoted_told A (Some k) h f = f k refl h

on_told : {A : Type 0} (P : A → Type 0) (x : Result A ElabFault) (a : A) → On P x → x ≡ Ok a → P a
on_told P x a h e = subst (On P) e h

-- a label, where one may stand
pub record IsLabelled (w : Words) (st : State) (x : Done) : Type 0 where
  pub items : Items w st x
  pub direct : is_direct_label st.ctx.label ≡ true

module _ (w : Words) (lams : Lambdas) (s : List Lexeme) (d : Discipline w lams s) where
  -- a label where one may stand
  one_label : (st : State) (e : Tree) (ls : Labels) → w.Good st → IsHere st.ctx.label st.ctx.labels.is_past → ls.typ ≡ st.ctx.labels.typ
      → ls.is_past ≡ st.ctx.labels.is_past → Serves (w.at (with_labels st ls)) st.ctx.breaks st.ctx.continues SwitchItem e
      → is_case_of (kind_in (form_in st.ctx.labels.typ)) (head_of e).kind ≡ true → skips e ≡ false
      → IsLabelled w st (record { trees = one e; state = with_labels st ls })
  one_label st e ls g h t p x c n = record {
    direct = h.direct;
    items = record {
      goes = record {
        good = d.relabels st ls g;
        leads = d.relabels_leads st ls;
        stands = record { label = refl; breaks = refl; continues = refl; typ = t; past = λ a. p ∙ a };
      };
      serve = subst (λ (b : Bool). AllServe (w.at (with_labels st ls)) st.ctx.breaks st.ctx.continues (role_if b) (one e)) (sym h.direct) (x, tt);
      cases = both c refl;
      behind = by_skip;
    };
  }
    where
      by_skip : (b : Bool) → (is_direct_label st.ctx.label ≡ true → b ≡ true → st.ctx.labels.is_past ≡ true)
          → Behind st b (record { trees = one e; state = with_labels st ls })
      by_skip true a = clash _ st.ctx.labels.is_past h.before (a h.direct refl)
      by_skip false a = record { fit = refl; past = λ i k. clash _ (skips e) n k }

  case_word : (st : State) (o : Operand) (m : Made) (word : ℕ) → IsLabelType st.ctx.labels.typ → StandsSomewhere o
      → initial st.ctx st.work st.ctx.labels.typ o ≡ Ok m → constant st.work.globals m.tree ≡ Some word
      → is_case_of (kind_in (form_in st.ctx.labels.typ)) (forms.Case word) ≡ true
  case_word st o m word l x h c = promoted_told _ (kind_in l.form) l.promoted (λ k e p.
      let gives = on_told (λ (m : Made). Gives x.setting l.form m.tree) (initial st.ctx st.work (plain l.form) o) m
      (initial_gives x.setting st.ctx st.work l.form false false o x.operand l.scalar)
      (sym (ap (λ (t : Typ). initial st.ctx st.work t o) l.typed) ∙ h) in
      ap (passes (λ (j : IntKind). is_promoted j && is_word_of j word)) (ap (λ (t : Typ). kind_in (form_in t)) l.typed ∙ e)
      ∙ both p (constants_law x.setting st.work.globals k word m.tree gives.fits (ap₂ word_kind gives.typed gives.category ∙ e) c))

  pub case_stands : (st : State) (at : At) (e : syntax.Tree) → w.Good st → HasLabels st → w.Text e → On (IsLabelled w st) (case_label s st at e)
  case_stands st at e g l t = told (IsLabelled w st) (label_here st at) _ (λ y h.
      let i = here at st.ctx.label st.ctx.labels.is_past y h in
      told (IsLabelled w st) (and_then (expression_of s st.ctx st.work e) (chosen_operand st.ctx)) _ (λ o k.
      told (IsLabelled w st) (initial st.ctx st.work st.ctx.labels.typ o.operand) _ (λ m q.
      expected (IsLabelled w st) o.operand.at NotConstant (constant st.work.globals (value o.operand)) _ (λ v a.
      expected (IsLabelled w st) o.operand.at NotConstant (constant st.work.globals m.tree) _ (λ word b.
      checked (IsLabelled w st) o.operand.at Narrowing
      (statements.case_fits (kind_in (form_in (typ_in (value o.operand)))) (kind_in (form_in st.ctx.labels.typ)) v) _
      (λ x. checked (IsLabelled w st) at BadCase (not (list_any (λ (n : ℕ). n == word) st.ctx.labels.words)) _ (λ z.
      let ls = record st.ctx.labels { words = st.ctx.labels.words ++ word ∷ [] } in
      one_label st (statement (forms.Case word) at none) ls g i refl refl
      (labels_serve (w.at (with_labels st ls)) st.ctx.breaks st.ctx.continues at word).0
      (case_word st o.operand m word (l i.direct) (d.constant st e o g t k) q b) refl)))))))

  pub default_stands : (st : State) (at : At) → w.Good st → On (IsLabelled w st) (default_label st at)
  default_stands st at g = told (IsLabelled w st) (label_here st at) _ (λ y h.
      checked (IsLabelled w st) at BadCase (not st.ctx.labels.has_default) _ (λ z.
      let ls = record st.ctx.labels { has_default = true } in
      one_label st (statement forms.Default at none) ls g (here at st.ctx.label st.ctx.labels.is_past y h) refl refl
      (labels_serve (w.at (with_labels st ls)) st.ctx.breaks st.ctx.continues at 0).1 refl refl))
