-- Declarations in a block.
use Rattle.std.proofs.Common.{◌≡◌, refl, sym, ap, ◌∙◌, subst, ℕ, Bool, true, false, not, List, length, Option, Some, None}
use Rattle.elab_rules.specs.cpp_lex.Tokens.{Lexeme}
use Rattle.elab_rules.specs.cpp_ast.declared.kinds.NodeKind.TheVariants as k
use Rattle.elab_rules.specs.cpp_ast.Trees as syntax
use Rattle.elab_rules.specs.cpp_types.Typ.{Typ}
use Rattle.elab_rules.specs.cpp_types.declared.classes.At.{At}
use Rattle.elab_rules.specs.cpp_tree.declared.faults.IllRule.TheVariants.{BadInit, BadDeclaration, TypeDiffers, Redeclared}
use Rattle.elab_rules.specs.cpp_tree.declared.roles.Role.TheVariants.{Value, BlockItem}
use Rattle.elab_rules.specs.cpp_tree.Trees.{Trees, none}
use Rattle.elab_rules.specs.elab_ctx.Ctx.{Ctx, next_place}
use Rattle.elab_rules.specs.elab_ctx.Steps.{at_of, spelling}
use Rattle.elab_rules.specs.Braces.{item_of, string_token, is_char_array, syntax_place, string_object}
use Rattle.elab_rules.specs.Expressions.{operands_of, declared_by, type_of_specifiers}
use Rattle.elab_rules.specs.Operators.{within_if_sized}
use Rattle.elab_rules.specs.Sizes.{typ_sized}
use Rattle.elab_rules.specs.Strings.{string_bytes}
use Rattle.elab_rules.specs.Types.{has_auto, is_bounded}
use Rattle.elab_rules.specs.Statements.{State, Done, Deduction, Declaring, Lambdas, with_work, full_operand, declared_variable, placed_variable}
use Rattle.elab_rules.specs.Statements.{auto_placed, variable_tree, init_node, default_object, copy_initialised, directly_initialised, all_lambdas}
use Rattle.elab_rules.specs.Statements.{values_place}
use Rattle.elab_rules.specs.Statements.{bound_by_initialiser, by_expression, with_initialiser, deduced_type, replaced, auto_initialised, auto_object}
use Rattle.elab_rules.specs.Statements.{auto_variable}
use Rattle.elab_rules.specs.Statements.{plain_variable, variable_by, variable, name_of, block_declarator, block_declarators, block_declaration}
use Rattle.elab_rules.specs.Statements.{declarable, is_fresh}
use Rattle.elab_rules.specs.Statements.{is_own_name, only_expression, same_deduction, may_be_skipped, is_direct_label, past_declaration, declared_more}
use Rattle.elab_fits.specs.Standing.{On}
use Rattle.elab_fits.proofs.Nodes.{both, or_left, or_right, clash}
use Rattle.elab_fits.proofs.Steps.{bind, checked, expected, told}
use Rattle.elab_fits_statements.specs.Anywhere.{AllServe}
use Rattle.elab_fits_statements.specs.Variables.{HasItem}
use Rattle.elab_fits_statements.specs.Items.{skipped}
use Rattle.elab_fits_statements.specs.Discipline.{Words, Goes, Discipline}
use Rattle.elab_fits_statements.proofs.Variables.{variable_stands, variable_fits}
use Rattle.elab_fits_statements.proofs.Skipping.{skipped_law}
use Rattle.elab_fits_statements.proofs.Items.{one_skips, skipped_followed, all_followed}
use Rattle.elab_fits_statements.proofs.States.{mapped, goes_still, goes_then, fits_still, all_still, builds_still}

-- trees of variables, behind which no label stands that may not jump past them
pub record Declares (w : Words) (st : State) (ts : Trees) (b : State) : Type 0 where
  pub goes : Goes w st b
  pub serve : AllServe (w.at b) false false BlockItem ts
  pub past : (q : Bool) → (is_direct_label st.ctx.label ≡ true → q ≡ true → st.ctx.labels.is_past ≡ true) → is_direct_label st.ctx.label ≡ true
      → skipped q ts ≡ true → b.ctx.labels.is_past ≡ true

-- a variable with its initialiser
record Inits (w : Words) (st : State) (t : Typ) (init : syntax.Trees) (x : Done) : Type 0 where
  goes : Goes w st x.state
  serve : AllServe (w.at x.state) false false BlockItem x.trees
  skip : may_be_skipped x.state.ctx t init ≡ true → (q : Bool) → skipped q x.trees ≡ q

same_syntax : (A : syntax.Tree → Type 0) (e x : syntax.Tree) → Some e ≡ Some x → A e → A x
same_syntax A e x h a = subst A (let i : e ≡ x = cc in i) a

no_auto_skip : (c : Ctx) (t : Typ) (init : syntax.Trees) (e : syntax.Tree) → only_expression init ≡ Some e → may_be_skipped c t init ≡ false
no_auto_skip c t syntax.none e h = absurd cc
no_auto_skip c t (syntax.more x xs) e h = refl

module _ (w : Words) (lams : Lambdas) (s : List Lexeme) (d : Discipline w lams s) where
  only_text : (init : syntax.Trees) (e : syntax.Tree) → w.Texts init → only_expression init ≡ Some e → w.Text e
  only_text (syntax.more (syntax.node k.EqualInitializer p token (syntax.more (syntax.node k.BracedInitList r brace items) syntax.none)) syntax.none) e t h =
      absurd cc
  only_text (syntax.more (syntax.node kind p token (syntax.more x syntax.none)) syntax.none) e t h = same_syntax w.Text x e h
      (d.first x syntax.none (d.kids kind p token (syntax.more x syntax.none) (d.first (syntax.node kind p token (syntax.more x syntax.none)) syntax.none t)))
  only_text init e t h = absurd cc

  -- an initialiser that is one expression
  by_fits : (st v : State) (t : Typ) (at : At) (e : syntax.Tree) (b : Bool) (o : Option ℕ) (init : syntax.Trees)
      → ((c : Ctx) → may_be_skipped c t init ≡ false) → w.Good v → w.Object v t → HasItem (w.at v) (next_place st.work) t → w.Text e
      → is_char_array t ≡ b → On (Inits w v t init) (by_expression lams s st v t at e b o)
  by_fits st v t at e true (Some n) init kept g o i x r = told (Inits w v t init) (string_object v.ctx t (syntax_place e) (string_bytes (spelling s n))) _
      (λ z h. record {
        goes = goes_still w lams s d v g;
        serve = (
          variable_fits (w.at v) v t at (syntax_place e) (variable_tree st t at) z (variable_stands (w.at v) st t at i) refl refl
              (d.strings v t (syntax_place e) (string_bytes (spelling s n)) z g o r h) (d.leaves v v t at g o g (d.stays v)),
          tt,
        );
        skip = λ m q. clash _ (may_be_skipped v.ctx t init) (kept v.ctx) m;
      })
  by_fits st v t at e b o init kept g j i x c = told (Inits w v t init) (full_operand lams s v e) _ (λ f h.
      let r = d.reads v e f g x h in
      let u = d.object_still v f.state t r.goes.leads j in
      told (Inits w v t init) (copy_initialised f.state.ctx f.state.work t f.operand) _ (λ m l.
      let q = d.copies f.state t f.operand m r.goes.good u r.operand l in
      let z = goes_then w lams s d v f.state (with_work f.state m.work) r.goes q.goes in record {
        goes = z;
        serve = (
          variable_fits (w.at (with_work f.state m.work)) f.state t at f.operand.at (variable_tree st t at) m.tree
              (fits_still w lams s d v (with_work f.state m.work) Value (variable_tree st t at) g z.leads (variable_stands (w.at v) st t at i)) refl refl q.fits
              (d.leaves f.state (with_work f.state m.work) t at r.goes.good u q.goes.good q.goes.leads),
          tt,
        );
        skip = λ a b. clash _ (may_be_skipped (with_work f.state m.work).ctx t init) (kept (with_work f.state m.work).ctx) a;
      }))

  with_fits : (st v : State) (t : Typ) (at : At) (init : syntax.Trees) → w.Good v → w.Object v t → HasItem (w.at v) (next_place st.work) t → w.Texts init
      → On (Inits w v t init) (with_initialiser lams s st v t at init)
  with_fits st v t at syntax.none g o i x = told (Inits w v t syntax.none) (default_object v.ctx t at) _ (λ e h. record {
    goes = goes_still w lams s d v g;
    serve = (
      variable_fits (w.at v) v t at at (variable_tree st t at) e (variable_stands (w.at v) st t at i) refl refl (d.defaults v t at e g o h)
          (d.leaves v v t at g o g (d.stays v)),
      tt,
    );
    skip = λ m q. one_skips q (init_node v t at at (variable_tree st t at) e) (skipped_law v t at (variable_tree st t at) e m h);
  })
  with_fits st v t at (syntax.more (syntax.node k.ParenthesizedInitializer p token es) syntax.none) g o i x =
      told (Inits w v t _) (all_lambdas lams s v es) _ (λ y a. told (Inits w v t _) (operands_of s y.ctx y.work es) _
      (λ xs b. told (Inits w v t _) (directly_initialised y.ctx xs.work t at xs.operands) _ (λ m c.
      let q = d.values v y t at at es xs m g o
      (d.kids k.ParenthesizedInitializer p token es (d.first (syntax.node k.ParenthesizedInitializer p token es) syntax.none x)) a b c in record {
        goes = q.goes;
        serve = (
          variable_fits (w.at (with_work y m.work)) y t at (values_place t at xs.operands) (variable_tree st t at) m.tree
              (fits_still w lams s d v (with_work y m.work) Value (variable_tree st t at) g q.goes.leads (variable_stands (w.at v) st t at i)) refl refl
              q.builds
              q.destroys,
          tt,
        );
        skip = λ m q. absurd cc;
      })))
  with_fits st v t at (syntax.more (syntax.node k.EqualInitializer p token
      (syntax.more (syntax.node k.BracedInitList r brace items) syntax.none)) syntax.none) g o i x =
      told (Inits w v t _) (all_lambdas lams s v items) _ (λ y a.
      told (Inits w v t _) (item_of s y.ctx y.work (variable_tree st t at) t (syntax.node k.BracedInitList r brace items)) _ (λ m c.
      let list = d.first (syntax.node k.BracedInitList r brace items) syntax.none (d.kids k.EqualInitializer p token _ (d.first _ syntax.none x)) in
      let q = d.braces v y t at (variable_tree st t at) r brace items m g o (d.kids k.BracedInitList r brace items list)
      (variable_stands (w.at v) st t at i) refl refl a c in record {
        goes = q.goes;
        serve = (
          variable_fits (w.at (with_work y m.work)) y t at (at_of r) (variable_tree st t at) m.tree
              (fits_still w lams s d v (with_work y m.work) Value (variable_tree st t at) g q.goes.leads (variable_stands (w.at v) st t at i)) refl refl
              q.builds
              q.destroys,
          tt,
        );
        skip = λ m q. absurd cc;
      }))
  with_fits st v t at (syntax.more (syntax.node k.EqualInitializer p token (syntax.more e syntax.none)) syntax.none) g o i x =
      by_fits st v t at e (is_char_array t) (string_token e) (syntax.more (syntax.node k.EqualInitializer p token (syntax.more e syntax.none)) syntax.none)
      (λ c. refl) g o i (d.first e syntax.none (d.kids k.EqualInitializer p token (syntax.more e syntax.none)
      (d.first (syntax.node k.EqualInitializer p token (syntax.more e syntax.none)) syntax.none x))) refl
  with_fits st v t at init g o i x = tt

  -- an array without a bound has that of its initialiser
  bound_as_written : (st : State) (t : Typ) (init : syntax.Trees) (x : Done) → Inits w st (bound_by_initialiser s t init) init x → Inits w st t init x
  bound_as_written st t syntax.none x h = h
  bound_as_written st t (syntax.more e es) x h = record { goes = h.goes; serve = h.serve; skip = λ m q. absurd cc }

  behind_place : (a b : State) (t : Typ) (init : syntax.Trees) → Goes w a b → (x : Done) → Inits w b t init x → Inits w a t init x
  behind_place a b t init z x h = record { goes = goes_then w lams s d a b x.state z h.goes; serve = h.serve; skip = h.skip }

  plain_fits : (st : State) (name : List ℕ) (t : Typ) (at : At) (init : syntax.Trees) → w.Good st → w.Written st t → has_auto t ≡ false → w.Texts init
      → On (Inits w st t init) (plain_variable lams s st name (bound_by_initialiser s t init) at init)
  plain_fits st name t at init g wr n x = told (Inits w st t init) (declarable st.ctx at (bound_by_initialiser s t init)) _
      (λ a h. checked (Inits w st t init) at BadDeclaration (is_bounded (bound_by_initialiser s t init)) _
      (λ b. told (Inits w st t init) (typ_sized st.ctx.classes at (bound_by_initialiser s t init)) _ (λ c l.
      told (Inits w st t init) (within_if_sized st.ctx at (bound_by_initialiser s t init)) _ (λ e k.
      let o = d.objects st at t init a c e g wr n h b l k in
      let p = d.places st name (bound_by_initialiser s t init) g o in
      let v = placed_variable st name (bound_by_initialiser s t init) in
      mapped (Inits w v (bound_by_initialiser s t init) init) (Inits w st t init) (with_initialiser lams s st v (bound_by_initialiser s t init) at init)
      (with_fits st v (bound_by_initialiser s t init) at init p.good (d.object_still st v (bound_by_initialiser s t init) p.leads o) p.item x)
      (λ y i. behind_place st v t init
      (record { good = p.good; leads = p.leads; stands = record { label = refl; breaks = refl; continues = refl; typ = refl; past = λ z. z } }) y
      (bound_as_written v t init y i))))))

  -- `auto`
  auto_fits : (st : State) (name : List ℕ) (t : Typ) (at : At) (before : Option Typ) (init : syntax.Trees) (e : syntax.Tree) → w.Good st → w.Written st t
      → has_auto t ≡ true → w.Text e → only_expression init ≡ Some e
      → On (λ (x : Deduction). Inits w st t init x.done)
      (auto_variable lams s (declared_variable st name None) (length st.ctx.variables) t at before e)
  auto_fits st name t at before init e g wr auto x only =
      let v = declared_variable st name None in
      let named = d.names st name g in
      told (λ (x : Deduction). Inits w st t init x.done) (full_operand lams s v e) _ (λ f h.
      let r = d.reads v e f named x h in
      told (λ (x : Deduction). Inits w st t init x.done) (deduced_type at t f.operand) _ (λ u c.
      checked (λ (x : Deduction). Inits w st t init x.done) at TypeDiffers (same_deduction before u) _ (λ y.
      bind (Inits w st t init) (λ (x : Deduction). Inits w st t init x.done)
      (auto_initialised f.state t at (length st.ctx.variables) (replaced u t) f.operand (auto_object f.state t at (replaced u t) f.operand)) _
      (told (Inits w st t init) (copy_initialised f.state.ctx f.state.work (replaced u t) f.operand) _ (λ m l.
      let o = d.deduces f.state at t u f.operand m r.goes.good
      (d.written_still st f.state t (d.goes_on st v f.state (d.names_leads st name) r.goes.leads) wr) auto r.operand c l in
      let q = d.copies f.state (replaced u t) f.operand m r.goes.good o r.operand l in
      let a = with_work f.state m.work in
      let p = d.autos a (length st.ctx.variables) (replaced u t) q.goes.good (d.object_still f.state a (replaced u t) q.goes.leads o) in
      let b = auto_placed a (length st.ctx.variables) (replaced u t) in
      let z : Goes w st v = record {
        good = named;
        leads = d.names_leads st name;
        stands = record
            { label = refl; breaks = refl; continues = refl; typ = refl; past = λ i. i };
      } in
      let i : Goes w a b = record {
        good = p.good;
        leads = p.leads;
        stands = record {
          label = refl;
          breaks = refl;
          continues = refl;
          typ = refl;
          past = λ i.
              i;
        };
      } in
      record {
        goes = goes_then w lams s d st v b z (goes_then w lams s d v f.state b r.goes (goes_then w lams s d f.state a b q.goes i));
        serve = (
          variable_fits (w.at b) f.state (replaced u t) at f.operand.at (variable_tree a (replaced u t) at) m.tree
              (variable_stands (w.at b) a (replaced u t) at p.item) refl refl (builds_still w lams s d a b (replaced u t) m.tree q.goes.good p.leads q.fits)
              (d.leaves f.state b (replaced u t) at r.goes.good o p.good (d.goes_on f.state a b q.goes.leads p.leads)),
          tt,
        );
        skip = λ j k. clash _ (may_be_skipped b.ctx t init) (no_auto_skip b.ctx t init e only) j;
      })) (λ x i. i))))

  variable_fits_by : (st : State) (name : List ℕ) (t : Typ) (at : At) (before : Option Typ) (init : syntax.Trees) (b : Bool) → has_auto t ≡ b → w.Good st
      → w.Written st t → w.Texts init → On (λ (x : Deduction). Inits w st t init x.done) (variable_by lams s st name t at before init b)
  variable_fits_by st name t at before init true h g wr x = expected (λ (x : Deduction). Inits w st t init x.done) at BadInit (only_expression init) _
      (λ e i. auto_fits st name t at before init e g wr h (only_text init e x i) i)
  variable_fits_by st name t at before init false h g wr x = bind (Inits w st t init) (λ (x : Deduction). Inits w st t init x.done)
      (plain_variable lams s st name (bound_by_initialiser s t init) at init) _ (plain_fits st name t at init g wr h x) (λ y i. i)

  -- one declarator more
  more_declared : (st : State) (x : Declaring) (t : Typ) (init : syntax.Trees) (y : Deduction) → Declares w st x.trees x.state → Inits w x.state t init y.done
      → Declares w st (declared_more x t init y).trees (declared_more x t init y).state
  more_declared st x t init y h i = record {
    goes = goes_then w lams s d st y.done.state z (goes_then w lams s d st x.state y.done.state h.goes i.goes) j;
    serve = all_followed (w.at z) false false BlockItem x.trees y.done.trees
        (all_still w lams s d x.state z false false BlockItem x.trees h.goes.good (d.goes_on x.state y.done.state z i.goes.leads j.leads) h.serve)
        (all_still w lams s d y.done.state z false false BlockItem y.done.trees i.goes.good j.leads i.serve);
    past = λ q a dir l. by_skip q a dir (sym (skipped_followed q x.trees y.done.trees) ∙ l) (may_be_skipped y.done.state.ctx t init) refl;
  }
    where
      z : State
      z = past_declaration t init y.done.state

      j : Goes w y.done.state (past_declaration t init y.done.state)
      j = record {
        good = d.relabels y.done.state (past_declaration t init y.done.state).ctx.labels i.goes.good;
        leads = d.relabels_leads y.done.state (past_declaration t init y.done.state).ctx.labels;
        stands = record { label = refl; breaks = refl; continues = refl; typ = refl; past = λ a. or_left _ a };
      }

      by_skip : (q : Bool) → (is_direct_label st.ctx.label ≡ true → q ≡ true → st.ctx.labels.is_past ≡ true) → is_direct_label st.ctx.label ≡ true
          → skipped (skipped q x.trees) y.done.trees ≡ true → (m : Bool) → may_be_skipped y.done.state.ctx t init ≡ m
          → (past_declaration t init y.done.state).ctx.labels.is_past ≡ true
      by_skip q a dir l true m = or_left _ (i.goes.stands.past (h.past q a dir (sym (i.skip m (skipped q x.trees)) ∙ l)))
      by_skip q a dir l false m = or_right y.done.state.ctx.labels.is_past
          (both (ap is_direct_label (i.goes.stands.label ∙ h.goes.stands.label) ∙ dir) (ap not m))

  declarator_fits : (st : State) (t : Typ) (x : Declaring) (e : syntax.Tree) → w.Written st t → w.Text e → Declares w st x.trees x.state
      → On (λ (y : Declaring). Declares w st y.trees y.state) (block_declarator lams s t x e)
  declarator_fits st t x (syntax.node k.InitDeclarator p token (syntax.more e init)) wr a h =
      let ts = d.kids k.InitDeclarator p token (syntax.more e init) a in
      told (λ (y : Declaring). Declares w st y.trees y.state) (declared_by s x.state.ctx x.state.work (at_of p) t e) _ (λ r b.
      let u = d.declares x.state (at_of p) t e r h.goes.good (d.first e init ts) (d.written_still st x.state t h.goes.leads wr) b in
      checked (λ (y : Declaring). Declares w st y.trees y.state) (at_of p) BadDeclaration (is_own_name r) _ (λ z.
      bind (λ (y : Deduction). Inits w x.state r.typ init y.done) (λ (y : Declaring). Declares w st y.trees y.state)
      (variable lams s x.state (name_of s r.name) r.typ (at_of p) x.auto init) _
      (checked (λ (y : Deduction). Inits w x.state r.typ init y.done) (at_of p) Redeclared (is_fresh x.state.ctx (name_of s r.name)) _
      (λ c. variable_fits_by x.state (name_of s r.name) r.typ (at_of p) x.auto init (has_auto r.typ) refl h.goes.good u (d.rest e init ts)))
      (λ y i. more_declared st x r.typ init y h i)))
  declarator_fits st t x e wr a h = tt

  declarators_fit : (st : State) (t : Typ) (x : Declaring) (es : syntax.Trees) → w.Written st t → w.Texts es → Declares w st x.trees x.state
      → On (λ (y : Declaring). Declares w st y.trees y.state) (block_declarators lams s t x es)
  declarators_fit st t x syntax.none wr a h = h
  declarators_fit st t x (syntax.more e es) wr a h = bind (λ (y : Declaring). Declares w st y.trees y.state) (λ (y : Declaring). Declares w st y.trees y.state)
      (block_declarator lams s t x e) _ (declarator_fits st t x e wr (d.first e es a) h) (λ y i. declarators_fit st t y es wr (d.rest e es a) i)

  pub declaration_fits : (st : State) (at : At) (ts : syntax.Trees) → w.Good st → w.Texts ts
      → On (λ (x : Done). Declares w st x.trees x.state) (block_declaration lams s st at ts)
  declaration_fits st at (syntax.more (syntax.node k.Attribute p token kids) ts) g a =
      declaration_fits st at ts g (d.rest (syntax.node k.Attribute p token kids) ts a)
  declaration_fits st at (syntax.more (syntax.node k.TypeSpecifierSeq p token kids) ds) g a =
      told (λ (x : Done). Declares w st x.trees x.state) (type_of_specifiers s st.ctx st.work (syntax.node k.TypeSpecifierSeq p token kids)) _ (λ t h.
      bind (λ (y : Declaring). Declares w st y.trees y.state) (λ (x : Done). Declares w st x.trees x.state)
      (block_declarators lams s t (record { trees = none; state = st; auto = None }) ds) _
      (declarators_fit st t (record { trees = none; state = st; auto = None }) ds
      (d.specifiers st (syntax.node k.TypeSpecifierSeq p token kids) t g (d.first (syntax.node k.TypeSpecifierSeq p token kids) ds a) h)
      (d.rest (syntax.node k.TypeSpecifierSeq p token kids) ds a)
      (record { goes = goes_still w lams s d st g; serve = tt; past = λ q i dir l. i dir l })) (λ y i. i))
  declaration_fits st at ts g a = tt
