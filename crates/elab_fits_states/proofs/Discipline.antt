-- The states of elaboration in the body of a function are a discipline.
use Rattle.std.proofs.Common.{◌≡◌, refl, sym, subst, ℕ, nat_lt, Bool, true, false, not, List, length, Option, None, is_some, Result, Ok}
use Rattle.std.proofs.lemmas.Bool.{and_parts}
use Rattle.elab_rules.specs.cpp_types.Typ.{Typ, typ, ptr, array}
use Rattle.elab_rules.specs.cpp_types.Class.{Class}
use Rattle.elab_rules.specs.cpp_types.declared.classes.At.{At}
use Rattle.elab_rules.specs.cpp_types.declared.ranks.Cat.TheVariants.{Lvalue}
use Rattle.elab_rules.specs.cpp_lex.Tokens.{Lexeme}
use Rattle.elab_rules.specs.cpp_ast.declared.arena.At.{At as SyntaxAt}
use Rattle.elab_rules.specs.cpp_ast.declared.kinds.NodeKind.TheVariants as kinds
use Rattle.elab_rules.specs.cpp_ast.Trees as syntax
use Rattle.elab_rules.specs.cpp_tree.declared.roles.Position.{Position}
use Rattle.elab_rules.specs.cpp_tree.declared.roles.Role.{Role}
use Rattle.elab_rules.specs.cpp_tree.declared.roles.Role.TheVariants.{Value}
use Rattle.elab_rules.specs.cpp_tree.declared.faults.ElabFault.{ElabFault}
use Rattle.elab_rules.specs.cpp_tree.declared.faults.IllRule.TheVariants.{BadInit}
use Rattle.elab_rules.specs.cpp_tree.Parts.{size_in}
use Rattle.elab_rules.specs.cpp_tree.Trees.{Tree, typ_in, cat_of}
use Rattle.elab_rules.specs.cpp_tree.Notation.{plain}
use Rattle.elab_rules.specs.cpp_tree.Typing.{is_void, is_class_typ}
use Rattle.elab_rules.specs.cpp_tree.Units.{Func as UnitFunc}
use Rattle.elab_rules.specs.cpp_tree.Rows.{Setting, result_of, has_value}
use Rattle.elab_rules.specs.cpp_tree.WellFormed.{fits}
use Rattle.elab_rules.specs.elab_ctx.Ctx.{Ctx, Work, next_place}
use Rattle.elab_rules.specs.elab_ctx.Steps.{check, Operand, Made, TypedAll}
use Rattle.elab_rules.specs.Braces.{item_of, string_object, is_char_array}
use Rattle.elab_rules.specs.Expressions.{operands_of, type_of_specifiers, declared_by}
use Rattle.elab_rules.specs.Initialising.{initial, class_from}
use Rattle.elab_rules.specs.Objects.{destroys}
use Rattle.elab_rules.specs.Operators.{dropped, within_if_sized}
use Rattle.elab_rules.specs.Sizes.{typ_sized}
use Rattle.elab_rules.specs.Types.{Declared, has_auto, is_bounded}
use Rattle.elab_rules.specs.Statements
use Rattle.elab_rules.specs.Statements.{State, Lambdas, throws_object, with_work, all_lambdas, copy_initialised, directly_initialised, default_object, auto_placed, placed_variable}
use Rattle.elab_rules.specs.Statements.{declarable, bound_by_initialiser, deduced_type, replaced}
use Rattle.elab_fits.specs.Standing.{On, FitsAs, BuildsOne, Reaches}
use Rattle.elab_fits.specs.Objects.{DestroysOne}
use Rattle.elab_fits.specs.Scalars.{Initialises}
use Rattle.elab_fits.proofs.Destructions.{destructions_law}
use Rattle.elab_fits.proofs.Steps.{skip, told, answered}
use Rattle.elab_growth.proofs.Growth.{Behind, after}
use Rattle.elab_fits_objects.specs.Contexts.{IsSource}
use Rattle.elab_fits_objects.specs.Making.{Makes}
use Rattle.elab_fits_objects.proofs.Classes.{class_builds}
use Rattle.elab_fits_forms.specs.Types as forms
use Rattle.elab_fits_forms.specs.Types.{is_lambda}
use Rattle.elab_fits_forms.specs.Forms.{ProperOperands}
use Rattle.elab_fits_expressions.proofs.Expressions.{of_operands}
use Rattle.elab_fits_forms.proofs.Dropped.{dropped_value, operand_is}
use Rattle.elab_fits_forms.proofs.Sources.{source_of, sources_of, parameter_is, object_typ_is}
use Rattle.elab_fits_statements.specs.Anywhere.{FitsAnywhere}
use Rattle.elab_fits_statements.specs.Variables.{HasItem, BuildsWhole}
use Rattle.elab_fits_statements.specs.Discipline.{Discipline, Gains, BuildsAll, Places}
use Rattle.elab_fits_statements.specs.Discipline as discipline
use Rattle.elab_fits_statements.proofs.States.{mapped, stands_then, stands_still}
use Rattle.setting_growth.proofs.Trees.{fits_law}
use Rattle.state_growth.specs.Settings.{setting_at}
use Rattle.state_growth.proofs.Settings.{stand_law, reached_law, states_law, works_law}
use Rattle.state_growth.proofs.Judgements.{destroyed_law}
use Rattle.state_growth.proofs.Works.{initial_grows, class_grows, copy_grows, directly_grows, dropped_grows, operands_grow, item_grows}
use Rattle.state_growth.proofs.Lists.{behind}
use Rattle.state_growth.proofs.Steps.{Leaves, goes, stays}
use Rattle.elab_fits_forms.specs.Context.{Holds}
use Rattle.elab_fits_braces.proofs.Strings.{strings_build}
use Rattle.elab_fits_braces.proofs.Staying.{defaults_stay}
use Rattle.elab_fits_items.specs.Items.{Whole}
use Rattle.elab_fits_items.proofs.Braced.{braces_build}
use Rattle.elab_growth.proofs.Kept.{follows}
use Rattle.elab_sound_types.specs.Types.{variable as a_variable, denoted as a_denoted}
use Rattle.elab_sound_types.specs.Contexts.{HasSoundTypes}
use Rattle.elab_sound_types.specs.States.{Kept}
use Rattle.elab_sound_types.proofs.Braces.{copy_kept, direct_kept, item_kept}
use Rattle.elab_sound_types.proofs.Deduced.{IsReplaced, deduced_sound}
use Rattle.elab_sound_types.proofs.Expressions.{operands_law, specifiers_law, declarators_law, moved as sound_moved}
use Rattle.elab_sound_types.proofs.Globals as globals
use Rattle.elab_sound_types.proofs.Growth.{sound_more, kept_same}
use Rattle.elab_sound_types.proofs.Written.{as_declared}
use Rattle.elab_throws_apart.proofs.Expressions.{operands_law as apart_operands}
use Rattle.elab_throws_apart.proofs.Initials.{initialisers_law}
use Rattle.elab_throws_apart.proofs.Objects.{class_apart}
use Rattle.elab_throws_apart.proofs.Trees.{Apart, MadeApart, no_throw_of}
use Rattle.elab_fits_states.specs.States.{AreTexts, IsText, setting, Comes, IsGood, IsSettled, IsRead, IsWritten, IsObjectType, words}
use Rattle.elab_fits_states.specs.Premises.{KeepsGood, GoesWell}
use Rattle.elab_fits_states.proofs.Caught.{can_be_caught}
use Rattle.elab_fits_states.proofs.Good.{holds_of, earlier_of, comes_still, unit_grows, good_worked, good_settled, good_within, good_outer, good_labels, good_named}
use Rattle.elab_fits_states.proofs.Good.{good_placed, good_auto, leads_worked, leads_placed, leads_auto, item_there}
use Rattle.elab_fits_states.proofs.Making
use Rattle.elab_fits_states.proofs.Making.{result_parameter, initial_made, copy_made, direct_made, default_made}
use Rattle.elab_fits_states.proofs.Reading.{comes_on, later, operand_later, has_read, is_constant}
use Rattle.elab_fits_states.proofs.Texts
use Rattle.elab_holds.proofs.Sound.{result_sound as result_is}
use Rattle.elab_fits_states.proofs.Spelled.{all_spelled}
use Rattle.elab_fits_states.proofs.Variables.{Declares, declares, sized, variable_type, variable_by, sized_if, bound_written, members_single, copied_no_array, copied_complete}

-- What a state behind an expression reaches

reached_behind : (f : UnitFunc) (c : Ctx) (w v : Work) → Behind w v → Reaches (setting_at f c v) w
reached_behind f c w v b = record {
  frame = λ i t e. behind w.frame v.frame b.items b.frame i t e;
  globals = λ i g e. record { global = g; at = behind w.globals v.globals b.texts b.globals i g e; is = refl };
}

module _ (f : UnitFunc) (lams : Lambdas) (s : List Lexeme) (p : KeepsGood f lams s) where
  holds : (a : State) → IsGood f a → Holds (setting f a) a.ctx a.work
  holds a g = holds_of f a g

  -- States

  well_still : (a : State) → IsGood f a → GoesWell f a a
  well_still a g = record { good = g; leads = comes_still a; stands = stands_still a }

  well_then : (a b c : State) → GoesWell f a b → GoesWell f b c → GoesWell f a c
  well_then a b c h k = record { good = k.good; leads = comes_on a b c h.leads k.leads; stands = stands_then a b c h.stands k.stands }

  pub all_well : (a : State) (es : syntax.Trees) → IsGood f a → AreTexts s es → On (GoesWell f a) (all_lambdas lams s a es)
  all_well a syntax.none g t = well_still a g
  all_well a (syntax.more e es) g t = told (GoesWell f a) (lams s a e) _ (λ x h. let l = p a x e g (Texts.first s e es t) h in
      mapped (GoesWell f x) (GoesWell f a) (all_lambdas lams s x es) (all_well x es l.good (Texts.rest s e es t)) (λ y k. well_then a x y l k))

  still : (a b : State) → IsSettled f a → Comes a b → (q : Position) (role : Role) (e : Tree) → fits (setting f a) q role e ≡ true → fits (setting f b) q role e ≡ true
  still a b g l q role e h = fits_law (setting f a) (setting f b) (earlier_of f a g.good) (states_law f f a b refl refl l.goes.grows) q role e h

  pub worked : (a : State) (v : Work) → IsGood f a → Behind a.work v → HasSoundTypes a.ctx v → discipline.Goes (words f s) a (with_work a v)
  worked a v g b h = record {
    good = good_worked f a g v b h;
    leads = leads_worked a v b;
    stands = record { label = refl; breaks = refl; continues = refl; typ = refl; past = λ i. i };
  }

  -- what is made keeps the types of globals sound
  sound_made : (a : State) (r : Result Made ElabFault) (m : Made) → IsGood f a → On (globals.made a.work) r → r ≡ Ok m → HasSoundTypes a.ctx m.work
  sound_made a r m g h e = sound_moved a.ctx a.work m.work g.sound.context (answered (globals.made a.work) r m h e)

  -- What is made of an operand

  drops : (a : State) (o : Operand) → IsSettled f a → IsRead f a o
      → Gains (words f s) a (with_work a (dropped a.ctx a.work o).work) (λ (x : Setting). FitsAs x Value (dropped a.ctx a.work o).tree)
  drops a o g x = let m = dropped a.ctx a.work o in record {
    goes = worked a m.work g.good (dropped_grows a.ctx a.work o) (sound_moved a.ctx a.work m.work g.good.sound.context (globals.dropped a.ctx a.work o));
    fits = dropped_value (setting_at f a.ctx m.work) a.ctx a.work a.work o (later f a.ctx a.work m.work (holds a g.good))
        (operand_later f a.ctx a.work m.work o (holds a g.good) (dropped_grows a.ctx a.work o) x.proper) (reached_law f a.ctx m.work);
  }

  -- the operand in the setting behind
  source_later : (a : State) (v : Work) (o : Operand) → IsGood f a → Behind a.work v → IsRead f a o
      → IsSource (setting_at f a.ctx v) a.ctx (is_lambda a.ctx.classes) o
  source_later a v o g b x = source_of (setting_at f a.ctx v) a.ctx o (operand_later f a.ctx a.work v o (holds a g) b x.proper)

  -- the type of the result
  result_sound : (a : State) (t : Typ) → IsGood f a → result_of (setting f a).function ≡ t → forms.is_result a.ctx.classes t ≡ true
  result_sound a t g q = subst (λ (u : Typ). forms.is_result a.ctx.classes u ≡ true) q (result_is a.ctx.classes (result_of f) g.typed)

  gives : (a : State) (t : Typ) (o : Operand) (m : Made) → IsSettled f a → IsRead f a o → result_of (setting f a).function ≡ t → has_value t ≡ true
      → initial a.ctx a.work t o ≡ Ok m → Gains (words f s) a (with_work a m.work) (λ (x : Setting). Initialises x t m.tree)
  gives a t o m g x q v e = let b = answered (λ (y : Made). Behind a.work y.work) (initial a.ctx a.work t o) m (initial_grows a.ctx a.work t o) e in
      let d = and_parts (not (is_void t)) (not (is_class_typ t)) v in let h = holds a g.good in record {
        goes = worked a m.work g.good b (sound_made a (initial a.ctx a.work t o) m g.good (globals.initial a.ctx a.work t o) e);
        fits = answered (λ (y : Made). Reaches (setting_at f a.ctx m.work) y.work → Initialises (setting_at f a.ctx m.work) t y.tree) (initial a.ctx a.work t o) m
            (initial_made (setting_at f a.ctx m.work) a.ctx (is_lambda a.ctx.classes) (stand_law f a.ctx m.work h.setting.ordered) h.makers
            a.work t o (source_later a m.work o g.good b x) (parameter_is (setting f a) a.ctx a.work t h
            (result_parameter a.ctx.classes t (result_sound a t g.good q) (off (is_void t) d.0))) (off (is_class_typ t) d.1)) e
            (reached_law f a.ctx m.work);
      }
    where
      off : (n : Bool) → not n ≡ true → n ≡ false
      off true h = absurd cc
      off false h = refl

  builds : (a : State) (t : Typ) (o : Operand) (m : Made) → IsSettled f a → IsRead f a o → result_of (setting f a).function ≡ t → is_class_typ t ≡ true
      → class_from a.ctx a.work t o.at o ≡ Ok m → Gains (words f s) a (with_work a m.work) (λ (x : Setting). BuildsWhole x t m.tree)
  builds a t o m g x q k e = let r = class_from a.ctx a.work t o.at o in
      let b = answered (λ (y : Made). Behind a.work y.work) r m (class_grows a.ctx a.work t o.at o) e in let h = holds a g.good in record {
        goes = worked a m.work g.good b (sound_made a r m g.good (globals.class_from a.ctx a.work t o.at o) e);
        fits = record {
          one = (answered (λ (y : Made). Reaches (setting_at f a.ctx m.work) y.work → Makes (setting_at f a.ctx m.work) t y.tree) r m
              (class_builds (setting_at f a.ctx m.work) a.ctx (is_lambda a.ctx.classes) a.work t o.at o (stand_law f a.ctx m.work h.setting.ordered)
              h.makers (source_later a m.work o g.good b x) (object_typ_is (setting f a) a.ctx a.work t h
              (Making.result_sound a.ctx.classes t (result_sound a t g.good q)) k)) e
              (reached_law f a.ctx m.work)).one;
          no_throw = no_throw_of m.tree (answered MadeApart r m (class_apart a.ctx a.work t o.at o x.apart) e);
        };
      }

  -- What initialises a variable

  pub sized_here : (a : State) (t : Typ) → IsObjectType f a t → is_some (size_in a.ctx.classes t) ≡ true
  sized_here a t h = h.sized a (comes_still a)

  pub object_here : (a : State) (t : Typ) → IsGood f a → IsObjectType f a t → Declares a.ctx t
  object_here a t g h = declares (setting f a) a.ctx a.work (holds a g) t h.sound (sized_here a t h)

  object_later : (a b : State) (t : Typ) → Comes a b → IsObjectType f a t → IsObjectType f b t
  object_later a b t l h = record {
    sound = sound_more a.ctx.classes b.ctx.classes l.kept a_variable t h.sound;
    sized = λ z k. h.sized z (comes_on a b z l k);
  }

  leaves : (a b : State) (t : Typ) (at : At) → IsSettled f a → IsObjectType f a t → IsSettled f b → Comes a b
      → DestroysOne (setting f b) t (destroys a.ctx at t)
  leaves a b t at g h k l = let o = object_here a t g.good h in destroyed_law t (destroys a.ctx at t) (setting f a) (setting f b)
      (earlier_of f a g.good) (states_law f f a b refl refl l.goes.grows)
      (destructions_law (setting f a) a.ctx at t (holds a g.good).setting (holds a g.good).makers.specials (sized_here a t h) o.ready o.single)

  copies : (a : State) (t : Typ) (o : Operand) (m : Made) → IsSettled f a → IsObjectType f a t → IsRead f a o → copy_initialised a.ctx a.work t o ≡ Ok m
      → Gains (words f s) a (with_work a m.work) (λ (x : Setting). BuildsWhole x t m.tree)
  copies a t o m g h x e = let r = copy_initialised a.ctx a.work t o in
      let b = answered (λ (y : Made). Behind a.work y.work) r m (copy_grows a.ctx a.work t o) e in let y = holds a g.good in record {
        goes = worked a m.work g.good b (sound_made a r m g.good (copy_kept a.ctx a.work t o) e);
        fits = record {
          one = (answered (λ (y : Made). Reaches (setting_at f a.ctx m.work) y.work → Makes (setting_at f a.ctx m.work) t y.tree) r m
              (copy_made (setting_at f a.ctx m.work) a.ctx (is_lambda a.ctx.classes) (stand_law f a.ctx m.work y.setting.ordered) y.makers
              a.work t o (source_later a m.work o g.good b x) (object_here a t g.good h).initialised) e (reached_law f a.ctx m.work)).one;
          no_throw = no_throw_of m.tree (answered MadeApart r m (initialisers_law.copied a.ctx a.work t o x.apart) e);
        };
      }

  defaults : (a : State) (t : Typ) (at : At) (e : Tree) → IsSettled f a → IsObjectType f a t → default_object a.ctx t at ≡ Ok e → BuildsWhole (setting f a) t e
  defaults a t at e g h k = record {
    one = (answered (Makes (setting f a) t) (default_object a.ctx t at) e (default_made (setting f a) a.ctx (is_lambda a.ctx.classes) (holds a g.good).setting
        (holds a g.good).makers t at (object_here a t g.good h).initialised) k).one;
    no_throw = no_throw_of e (answered Apart (default_object a.ctx t at) e (initialisers_law.default a.ctx t at) k);
  }

  string_apart : (c : Ctx) (t : Typ) (at : At) (bytes : List ℕ) → On (λ (e : Tree). throws_object e ≡ false) (string_object c t at bytes)
  string_apart c (typ (array e n) d v) at bytes = skip (λ (e : Tree). throws_object e ≡ false) (check at BadInit (nat_lt (length bytes) n)) _ (λ y. refl)
  string_apart c t at bytes = tt

  strings : (a : State) (t : Typ) (at : At) (bytes : List ℕ) (e : Tree) → IsSettled f a → IsObjectType f a t → is_char_array t ≡ true
      → string_object a.ctx t at bytes ≡ Ok e → BuildsWhole (setting f a) t e
  strings a t at bytes e g h i k = record {
    one = answered (BuildsOne (setting f a) t) (string_object a.ctx t at bytes) e
        (strings_build (setting f a) a.ctx t at bytes (holds a g.good).setting (sized_here a t h) i) k;
    no_throw = answered (λ (y : Tree). throws_object y ≡ false) (string_object a.ctx t at bytes) e (string_apart a.ctx t at bytes) k;
  }

  -- behind the lambdas of an initialiser
  pub all_made : (a x : State) (t : Typ) (q : At) (m : Made) → IsObjectType f a t → GoesWell f a x → discipline.Goes (words f s) x (with_work x m.work)
      → BuildsWhole (setting f (with_work x m.work)) t m.tree → BuildsAll (words f s) a (with_work x m.work) t m.tree (destroys x.ctx q t)
  all_made a x t q m h l k b = let o = object_later a x t l.leads h in let j = object_here x t l.good o in record {
    goes = record {
      good = k.good;
      leads = comes_on a x (with_work x m.work) l.leads k.leads;
      stands = stands_then a x (with_work x m.work) l.stands k.stands;
    };
    builds = b;
    destroys = destroyed_law t (destroys x.ctx q t) (setting f x) (setting f (with_work x m.work)) (earlier_of f x l.good)
        (states_law f f x (with_work x m.work) refl refl k.leads.goes.grows)
        (destructions_law (setting f x) x.ctx q t (holds x l.good).setting (holds x l.good).makers.specials (sized_here x t o) j.ready j.single);
  }

  operands_sound : (x : State) (es : syntax.Trees) (xs : TypedAll) → IsGood f x → AreTexts s es → operands_of s x.ctx x.work es ≡ Ok xs
      → HasSoundTypes x.ctx xs.work
  operands_sound x es xs g ts k = (operands_law s x.ctx x.ctx.closures x.work es xs g.sound.context g.sound.closures (all_spelled s es ts.spelled) k).work

  values : (a x : State) (t : Typ) (at q : At) (es : syntax.Trees) (xs : TypedAll) (m : Made) → IsSettled f a → IsObjectType f a t → AreTexts s es
      → all_lambdas lams s a es ≡ Ok x → operands_of s x.ctx x.work es ≡ Ok xs → directly_initialised x.ctx xs.work t at xs.operands ≡ Ok m
      → BuildsAll (words f s) a (with_work x m.work) t m.tree (destroys x.ctx q t)
  values a x t at q es xs m g h ts e k n = let l = answered (GoesWell f a) (all_lambdas lams s a es) x (all_well a es g.good ts) e in
      let r = directly_initialised x.ctx xs.work t at xs.operands in
      let c = answered (λ (y : TypedAll). Behind x.work y.work) (operands_of s x.ctx x.work es) xs (operands_grow s x.ctx x.work es) k in
      let b = answered (λ (y : Made). Behind xs.work y.work) r m (directly_grows x.ctx xs.work t at xs.operands) n in
      let S = setting_at f x.ctx m.work in let y = holds x l.good in
      all_made a x t q m h l
      (worked x m.work l.good (after c b) (sound_moved x.ctx xs.work m.work (operands_sound x es xs l.good ts k)
      (answered (globals.made xs.work) r m (direct_kept x.ctx xs.work t at xs.operands) n)))
      (record {
        one = (answered (λ (y : Made). Reaches S y.work → Makes S t y.tree) r m
            (direct_made S x.ctx (is_lambda x.ctx.classes) (stand_law f x.ctx m.work y.setting.ordered) y.makers xs.work t at xs.operands
            (sources_of S x.ctx xs.operands (answered (λ (y : TypedAll). Reaches S y.work → ProperOperands S x.ctx y.operands) (operands_of s x.ctx x.work es) xs
            (of_operands s S x.ctx x.ctx.closures x.work es (later f x.ctx x.work m.work y) l.good.closures ts.spelled) k
            (reached_behind f x.ctx xs.work m.work b))) (object_here x t l.good (object_later a x t l.leads h)).initialised) n (reached_law f x.ctx m.work)).one;
        no_throw = no_throw_of m.tree (answered MadeApart r m (initialisers_law.direct x.ctx xs.work t at xs.operands
            (apart_operands s x.ctx x.ctx.closures x.work es xs k)) n);
      })

  braces : (a x : State) (t : Typ) (q : At) (variable : Tree) (r : SyntaxAt) (token : Option ℕ) (es : syntax.Trees) (m : Made) → IsSettled f a
      → IsObjectType f a t → AreTexts s es → FitsAnywhere (setting f a) Value variable → typ_in variable ≡ t → cat_of variable ≡ Lvalue
      → all_lambdas lams s a es ≡ Ok x → item_of s x.ctx x.work variable t (syntax.node kinds.BracedInitList r token es) ≡ Ok m
      → BuildsAll (words f s) a (with_work x m.work) t m.tree (destroys x.ctx q t)
  braces a x t q variable r token es m g h ts v i c e n = let l = answered (GoesWell f a) (all_lambdas lams s a es) x (all_well a es g.good ts) e in
      let z = item_of s x.ctx x.work variable t (syntax.node kinds.BracedInitList r token es) in
      let b = answered (λ (y : Made). Behind x.work y.work) z m (item_grows s x.ctx x.work variable t (syntax.node kinds.BracedInitList r token es)) n in
      let S = setting_at f x.ctx m.work in let j = works_law f x.ctx x.work m.work (follows x.work m.work b) in
      let u = object_later a x t l.leads h in let o = object_here x t l.good u in
      all_made a x t q m h l
      (worked x m.work l.good b (sound_made x z m l.good (item_kept s x.ctx x.work variable t (syntax.node kinds.BracedInitList r token es)) n))
      ((answered (Whole S x.work t) z m (braces_build s S x.ctx x.work variable t r token es (later f x.ctx x.work m.work (holds x l.good))
      (record {
        closures = l.good.closures;
        defaults = defaults_stay (setting f x) S x.ctx.defaults (earlier_of f x l.good) (unit_grows (setting f x) S j) l.good.defaults;
        single = members_single x.ctx x.work l.good.sound.context;
      })
      (record { declared = o.declared; sized = sized_here x t u; ready = o.ready; single = o.single })
      (λ y full. fits_law (setting f x) S (earlier_of f x l.good) j y Value variable (still a x g l.leads y Value variable (v y))) c ts.spelled) n).builds
      (reached_law f x.ctx m.work))

  -- Types

  specifiers : (a : State) (e : syntax.Tree) (t : Typ) → IsSettled f a → IsText s e → type_of_specifiers s a.ctx a.work e ≡ Ok t → IsWritten f a t
  specifiers a e t g x h = specifiers_law s a.ctx a.ctx.closures a.work e t g.good.sound.context h

  declared : (a : State) (at : At) (t : Typ) (d : syntax.Tree) (r : Declared) → IsSettled f a → IsText s d → IsWritten f a t
      → declared_by s a.ctx a.work at t d ≡ Ok r → IsWritten f a r.typ
  declared a at t d r g x w h = (declarators_law s a.ctx a.ctx.closures a.work at t d r g.good.sound.context w h).typ

  objects : (a : State) (at : At) (t : Typ) (init : syntax.Trees) (x y z : Bool) → IsSettled f a → IsWritten f a t → has_auto t ≡ false
      → declarable a.ctx at (bound_by_initialiser s t init) ≡ Ok x → is_bounded (bound_by_initialiser s t init) ≡ true
      → typ_sized a.ctx.classes at (bound_by_initialiser s t init) ≡ Ok y → within_if_sized a.ctx at (bound_by_initialiser s t init) ≡ Ok z
      → IsObjectType f a (bound_by_initialiser s t init)
  objects a at t init x y z g w n d b l k = let u = bound_by_initialiser s t init in
      let i = variable_by a.ctx at u x (bound_written a.ctx.classes s t init w) d b in
      variable_type a u (earlier_of f a g.good) i (sized_if a.ctx at u x z i d k)

  deduces : (a : State) (at : At) (t u : Typ) (o : Operand) (m : Made) → IsSettled f a → IsWritten f a t → has_auto t ≡ true → IsRead f a o
      → deduced_type at t o ≡ Ok u → copy_initialised a.ctx a.work (replaced u t) o ≡ Ok m → IsObjectType f a (replaced u t)
  deduces a at t u o m g w n x h k =
      let i = answered (IsReplaced a.ctx.classes t) (deduced_type at t o) u (deduced_sound a.ctx.classes at t o x.sound (as_declared a.ctx.classes t w)) h in
      variable_type a (replaced u t) (earlier_of f a g.good) i (sized (setting f a) a.ctx a.work (holds a g.good) (replaced u t) i
      (copied_no_array a.ctx a.work (replaced u t) o m k) (copied_complete a.ctx a.work (replaced u t) o m k))

  -- Variables

  places : (a : State) (name : List ℕ) (t : Typ) → IsSettled f a → IsObjectType f a t → Places (words f s) a (placed_variable a name t) (next_place a.work) t
  places a name t g h = record { good = good_placed f a g name t h.sound; leads = leads_placed a name t; item = item_there a t }

  autos : (a : State) (i : ℕ) (t : Typ) → IsSettled f a → IsObjectType f a t → Places (words f s) a (auto_placed a i t) (next_place a.work) t
  autos a i t g h = record { good = good_auto f a g i t h.sound; leads = leads_auto a i t; item = item_there a t }

  result_item : (a : State) (t : Typ) → IsSettled f a → result_of (setting f a).function ≡ t → is_class_typ t ≡ true → HasItem (setting f a) 0 (plain (ptr t))
  result_item a t g q k = subst (λ (u : Typ). HasItem (setting f a) 0 (plain (ptr u))) q (g.good.result (subst (λ (u : Typ). is_class_typ u ≡ true) (sym q) k))

  -- a state that differs in names, labels and variables
  leads_as : (a b : State) → Leaves a b → b.ctx.classes ≡ a.ctx.classes → Comes a b
  leads_as a b l e = record { goes = goes a b l; kept = subst (λ (ks : List Class). Kept a.ctx.classes ks) (sym e) (kept_same a.ctx.classes) }

  pub a_discipline : Discipline (words f s) lams s
  a_discipline = record {
    kids = Texts.kids s;
    first = Texts.first s;
    rest = Texts.rest s;
    handled = Texts.handled s;
    stays = comes_still;
    goes_on = comes_on;
    still = still;
    classes = λ a g. refl;
    ordered = λ a g. (holds a g.good).setting.ordered;
    written_still = λ a b t l h. sound_more a.ctx.classes b.ctx.classes l.kept a_denoted t h;
    object_still = object_later;
    settles = λ a g. good_settled f a g;
    settles_leads = λ a. leads_as a (with_work a a.work) (stays a) refl;
    opens = λ a l ls b c g. good_within f a g l ls b c;
    opens_leads = λ a l ls b c. leads_as a (discipline.within a l ls b c) (stays a) refl;
    closes = λ a b g k l. good_outer f b k a;
    closes_leads = λ a b. leads_as b (Statements.outer a b) (stays b) refl;
    relabels = λ a ls g. good_labels f a g ls;
    relabels_leads = λ a ls. leads_as a (Statements.with_labels a ls) (stays a) refl;
    returns = λ a g. g.good.returns;
    result = result_item;
    reads = has_read f lams s p;
    operand = λ a o x. operand_is (setting f a) a.ctx o x.proper;
    constant = is_constant f lams s p;
    drops = drops;
    gives = gives;
    builds = builds;
    leaves = leaves;
    copies = copies;
    defaults = defaults;
    strings = strings;
    values = values;
    braces = braces;
    specifiers = specifiers;
    declares = declared;
    objects = objects;
    deduces = deduces;
    places = places;
    names = λ a name g. good_named f a g name;
    names_leads = λ a name. leads_as a (Statements.declared_variable a name None) (stays a) refl;
    autos = autos;
    caught = λ a at t u g w e. can_be_caught f s a at t u g w e;
  }
