-- Initialisers that are kept for members have whole items.
use Rattle.std.proofs.Common.{◌≡◌, refl, subst, ℕ, Bool, true, false, List, [], ◌∷◌, ◌++◌, drop, Option, Some, None, is_some, Ok}
use Rattle.std.specs.List.{list_all}
use Rattle.std.proofs.lemmas.Bool.{and_parts}
use Rattle.std.proofs.lemmas.Option.{same_Some}
use Rattle.elab_rules.specs.cpp_types.Typ.{Typ, class, void}
use Rattle.elab_rules.specs.cpp_types.Class.{Class, completion_of}
use Rattle.elab_rules.specs.cpp_lex.Tokens.{Lexeme}
use Rattle.elab_rules.specs.cpp_ast.Trees as syntax
use Rattle.elab_rules.specs.cpp_tree.declared.program.FuncKind.TheVariants.{Constructor}
use Rattle.elab_rules.specs.cpp_tree.Notation.{plain}
use Rattle.elab_rules.specs.cpp_tree.Trees.{one}
use Rattle.elab_rules.specs.cpp_tree.Units.{Func as UnitFunc}
use Rattle.elab_rules.specs.cpp_tree.WellFormed.{is_item}
use Rattle.elab_rules.specs.elab_ctx.Ctx.{Default}
use Rattle.elab_rules.specs.elab_ctx.Steps.{and_then, Made, spelling}
use Rattle.elab_rules.specs.Braces.{is_char_array, string_object, string_token, syntax_place}
use Rattle.elab_rules.specs.Initialising.{no_function}
use Rattle.elab_rules.specs.Strings.{string_bytes}
use Rattle.elab_rules.specs.Statements.{State, Done, Full, full, with_work, full_operand, copy_initialised}
use Rattle.elab_rules.specs.Members.{in_object, default_value, default_made}
use Rattle.elab_rules.specs.Lambdas.{lambdas_of}
use Rattle.elab_fits.proofs.Steps.{told}
use Rattle.elab_places.proofs.Steps.{On, bind, skip, held_by}
use Rattle.setting_growth.specs.Growth.{ClassesGrow}
use Rattle.state_growth.specs.Settings.{shown}
use Rattle.state_growth.proofs.Steps.{seen, kept_refl}
use Rattle.elab_fits_states.specs.States.{IsText, AreTexts, setting}
use Rattle.elab_fits_lambdas.proofs.Lambdas.{lambdas_are_good}
use Rattle.elab_fits_parts.specs.Parts.{IsHome}
use Rattle.elab_fits_units.specs.Below.{Below}
use Rattle.elab_fits_units.specs.Good.{UnitGood}
use Rattle.elab_fits_units.proofs.Constructors.{constructed}
use Rattle.elab_fits_units.proofs.Entering.{Begins, begins}
use Rattle.elab_frame_items.specs.Frames.{IsWholeState}
use Rattle.elab_frame_items.specs.Items.{DefaultsWhole}
use Rattle.elab_frame_items.proofs.Full.{full_whole}
use Rattle.elab_frame_items.proofs.Growing.{defaults_grow}
use Rattle.elab_frame_items.proofs.Objects.{Mades}
use Rattle.elab_frame_items.proofs.Variables as variables
use Rattle.elab_unit_items.specs.Units.{IsWholeUnit}
use Rattle.elab_unit_items.proofs.Ending.{entered_in}
use Rattle.elab_unit_items.proofs.Lambdas.{all_keep}
use Rattle.elab_unit_items.proofs.Supplied.{IsRead, proper_whole, reads}

one_kept : (classes : List Class) (ds : List Default) (d : Default) → DefaultsWhole classes ds → list_all (is_item classes) d.frame ≡ true
    → DefaultsWhole classes (ds ++ d ∷ [])
one_kept classes [] d h i = (i, tt)
one_kept classes (x ∷ ds) d h i = (h.0, one_kept classes ds d h.1 i)

-- without the first item
behind_first : (test : Typ → Bool) (ts : List Typ) → list_all test ts ≡ true → list_all test (drop 1 ts) ≡ true
behind_first test [] h = refl
behind_first test (t ∷ ts) h = (and_parts (test t) (list_all test ts) h).1

-- a constructor of which nothing else is known
abbrev any_constructor : UnitFunc
any_constructor = record (shown [] no_function) { kind = Constructor }

-- what is elaborated behind a state
record Valued (st : State) (d : Done) : Type 0 where
  whole : IsWholeState d.state
  classes : ClassesGrow st.ctx.classes d.state.ctx.classes

module _ (s : List Lexeme) (b : Below s) (st : State) (n : ℕ) (g : UnitGood st) (home : IsHome st.ctx.classes n) (w : IsWholeUnit st) where
  abbrev x : State
  x = in_object st n

  begun : Begins any_constructor st x
  begun = begins s b st any_constructor (plain void) (Some (plain (class n))) (Some n) [] g refl refl home.named
      (λ m q. subst (λ (i : ℕ). is_some (completion_of st.ctx.classes i) ≡ true) (same_Some n m q) home.complete) refl x refl

  begun_whole : IsWholeState x
  begun_whole = entered_in st (plain void) (Some (plain (class n))) (Some n) w

  -- an expression
  expression_whole : (t : Typ) (e : syntax.Tree) → IsText s e → On (Valued st) (and_then (full_operand lambdas_of s x e)
      (λ (f : Full). and_then (copy_initialised f.state.ctx f.state.work t f.operand)
      (λ (m : Made). Ok (record { trees = one (full f.operand.at m.tree); state = with_work f.state m.work }))))
  expression_whole t e q = told (Valued st) (full_operand lambdas_of s x e) _ (λ o p.
      let r = (b.discipline any_constructor constructed).reads x e o begun.settled q p in
      let whole : IsWholeState o.state = held_by (λ (z : Full). IsWholeState z.state) (full_operand lambdas_of s x e) o
      (full_whole (IsRead any_constructor) (IsText s) (AreTexts s) s lambdas_of x e (λ y z. (
        reads any_constructor s y (lambdas_are_good any_constructor s constructed x y e begun.settled.good q z).good,
        all_keep any_constructor s constructed x y e begun.settled.good q z begun_whole,
      )) q) p in
      bind (Mades o.state.ctx.classes o.state.work) (Valued st) (copy_initialised o.state.ctx o.state.work t o.operand) _
      (variables.copy_initialised o.state.ctx o.state.work t o.operand
      (proper_whole (setting any_constructor o.state) o.state.ctx o.operand.tree r.operand.proper.proper))
      (λ m a. record {
        whole = record { items = a.whole whole.items; defaults = whole.defaults; bodies = whole.bodies };
        classes = r.goes.leads.goes.grows.unit.classes;
      }))

  value_whole : (t : Typ) (e : syntax.Tree) (c : Bool) (o : Option ℕ) → IsText s e → On (Valued st) (default_value lambdas_of s x t e c o)
  value_whole t e true (Some i) q = skip (Valued st) (string_object x.ctx t (syntax_place e) (string_bytes (spelling s i))) _
      (λ y. record { whole = begun_whole; classes = (kept_refl (seen st)).classes })
  value_whole t e true None q = expression_whole t e q
  value_whole t e false o q = expression_whole t e q

  pub default_whole : (i : ℕ) (t : Typ) (e : syntax.Tree) → IsText s e → On IsWholeUnit (default_made lambdas_of s st n i t e)
  default_whole i t e q = bind (Valued st) IsWholeUnit (default_value lambdas_of s x t e (is_char_array t) (string_token e)) _
      (value_whole t e (is_char_array t) (string_token e) q) (λ d v. record {
        defaults = one_kept d.state.ctx.classes st.ctx.defaults _ (defaults_grow st.ctx.classes d.state.ctx.classes st.ctx.defaults v.classes w.defaults)
            (behind_first (is_item d.state.ctx.classes) d.state.work.frame v.whole.items);
        bodies = v.whole.bodies;
      })
