-- Initialisers of members.
use Rattle.std.proofs.Common.{◌≡◌, refl, sym, ap, ◌∙◌, subst, ℕ, Bool, true, false, List, [], slice_get, Option, Some, None, is_some, Result, Ok, arith}
use Rattle.std.proofs.lemmas.Option.{same_Some}
use Rattle.elab_rules.specs.cpp_types.Typ.{Typ, typ, void, int, enum, null, ptr, ref, array, func, class, closure, tx_ex}
use Rattle.elab_rules.specs.cpp_types.Class.{Class, Member, completion_of}
use Rattle.elab_rules.specs.cpp_types.declared.classes.At.{At}
use Rattle.elab_rules.specs.cpp_lex.Tokens.{Lexeme}
use Rattle.elab_rules.specs.cpp_ast.Trees as syntax
use Rattle.elab_rules.specs.cpp_tree.declared.faults.ElabFault.{ElabFault}
use Rattle.elab_rules.specs.cpp_tree.declared.program.FuncKind.TheVariants.{Constructor}
use Rattle.elab_rules.specs.cpp_tree.Notation.{plain}
use Rattle.elab_rules.specs.cpp_tree.Trees.{Tree, one}
use Rattle.elab_rules.specs.cpp_tree.Units.{Func as UnitFunc}
use Rattle.elab_rules.specs.elab_ctx.Ctx.{Ctx, Work}
use Rattle.elab_rules.specs.elab_ctx.Steps.{and_then, Operand, Made, spelling}
use Rattle.elab_rules.specs.Braces.{is_char_array, string_object, string_token, syntax_place}
use Rattle.elab_rules.specs.Names.{members_in}
use Rattle.elab_rules.specs.Initialising.{no_function}
use Rattle.elab_rules.specs.Strings.{string_bytes}
use Rattle.elab_rules.specs.cpp_tree.Parts.{size_in}
use Rattle.state_growth.specs.Settings.{shown}
use Rattle.elab_rules.specs.Statements.{State, Done, Full, with_work, full, full_operand, copy_initialised}
use Rattle.elab_rules.specs.Members.{in_object, default_value, default_made, first_tree, with_default_member, member_index, member_type}
use Rattle.elab_rules.specs.Lambdas.{lambdas_of}
use Rattle.elab_fits.specs.Standing.{On, BuildsOne, IsSetting}
use Rattle.elab_fits.proofs.Steps.{answered, told}
use Rattle.elab_sound_types.specs.Types.{is_sound, object}
use Rattle.elab_fits_statements.specs.Variables.{BuildsWhole}
use Rattle.elab_fits_braces.specs.Defaults.{AllDefaultsFit}
use Rattle.elab_fits_defaults.specs.Kept.{inside, is_member_typ}
use Rattle.setting_growth.specs.Growth.{Grows, HeldEarlier}
use Rattle.setting_growth.proofs.Settings.{frame_stays}
use Rattle.state_growth.proofs.Judgements.{built_law}
use Rattle.state_growth.proofs.Settings.{funcs_grow}
use Rattle.elab_fits_states.specs.States.{setting, IsText, IsSettled, Comes}
use Rattle.elab_fits_states.specs.Made.{AllBodiesFit}
use Rattle.elab_fits_parts.specs.Parts.{IsHome, ArePartsOf}
use Rattle.elab_fits_units.specs.Below.{Below}
use Rattle.elab_fits_units.specs.Good.{UnitGood, unit_words}
use Rattle.elab_fits_units.specs.Laws.{Leads, Laws}
use Rattle.elab_fits_units.specs.Steps.{Follows}
use Rattle.elab_fits_units.proofs.Bodies.{came}
use Rattle.elab_fits_units.proofs.Constructors.{constructed}
use Rattle.elab_fits_units.proofs.Constructing.{member_found}
use Rattle.elab_fits_units.proofs.Entering.{Begins, begins, over_same}
use Rattle.elab_fits_units.proofs.Growing.{Over, held_earlier, bodies_over}
use Rattle.elab_fits_units.proofs.Headers.{split}
use Rattle.elab_fits_units.proofs.Leaves.{both_on, gone_over}
use Rattle.elab_fits_units.proofs.Results.{holds, any_holds, no_result, complete_over}
use Rattle.elab_fits_units.proofs.Specials.{home_over, class_kept}
use Rattle.elab_fits_units.proofs.Types.{variable_type}

-- Types of members

member_typ : (classes : List Class) (t : Typ) → is_sound classes object t ≡ true → is_member_typ t ≡ true
member_typ classes (typ (array t n) c v) h = refl
member_typ classes (typ (int k) c v) h = refl
member_typ classes (typ (enum n e) c v) h = refl
member_typ classes (typ null c v) h = refl
member_typ classes (typ (ptr t) c v) h = refl
member_typ classes (typ (class n) c v) h = refl
member_typ classes (typ (tx_ex (typ (int k) d w)) c v) h = refl
member_typ classes (typ (tx_ex (typ (enum n e) d w)) c v) h = refl
member_typ classes (typ (tx_ex (typ (class n) d w)) c v) h = refl
member_typ classes (typ (tx_ex (typ f true w)) c v) h = absurd cc
member_typ classes (typ (tx_ex (typ f false true)) c v) h = absurd cc
member_typ classes (typ (tx_ex (typ f false false)) c v) h = absurd cc
member_typ classes (typ void c v) h = absurd cc
member_typ classes (typ (ref t) c v) h = absurd cc
member_typ classes (typ (func s) c v) h = absurd cc
member_typ classes (typ (closure n) c v) h = absurd cc

-- an array is not copied
no_copy : (A : Type 0) (t : Typ) (c : Ctx) (w : Work) (o : Operand) (m : Made) → is_char_array t ≡ true → copy_initialised c w t o ≡ Ok m → A
no_copy A (typ (array t n) q v) c w o m h e = absurd cc
no_copy A (typ f q v) c w o m h e = absurd cc

-- Answers

second : {A B : Type 0} (r : Result A ElabFault) (f : A → Result B ElabFault) (a : A) (z : B) → r ≡ Ok a → and_then r f ≡ Ok z → f a ≡ Ok z
second r f a z e h = subst (λ (x : Result _ ElabFault). and_then x f ≡ Ok z) e h

module _ (s : List Lexeme) (b : Below s) (st : State) (n : ℕ) (t : Typ) (e : syntax.Tree) (g : UnitGood st) (home : IsHome st.ctx.classes n) (text : IsText s e)
    (sound : is_sound st.ctx.classes object t ≡ true) (size : is_some (size_in st.ctx.classes t) ≡ true) where
  abbrev x : State
  x = in_object st n

  -- a constructor, whatever else is known of it
  abbrev own : UnitFunc → UnitFunc
  own f = record f { kind = Constructor }

  starts : (f : UnitFunc) → Begins (own f) st x
  starts f = begins s b st (own f) (plain void) (Some (plain (class n))) (Some n) [] g (no_result Constructor f.declared.signature refl) refl home.named
      (λ m q. subst (λ (i : ℕ). is_some (completion_of st.ctx.classes i) ≡ true) (same_Some n m q) home.complete) refl x refl

  inner_grows : (f h : UnitFunc) (frame : List Typ) (z : State) → Over x z → Grows (inside (setting f x) h frame) (inside (setting f z) h frame)
  inner_grows f h frame z k = record {
    classes = k.kept.classes;
    slots = k.kept.slots;
    funcs = funcs_grow x.ctx.classes z.ctx.classes x.ctx.funcs z.ctx.funcs k.kept.funcs;
    globals = k.kept.globals;
    function = frame_stays (inside (setting f x) h frame).function;
  }

  -- behind the initialiser
  pub record Valued (d : Done) : Type 0 where
    pub over : Over st d.state
    pub held : HeldEarlier d.state.ctx.classes
    pub bodies : AllBodiesFit d.state
    pub copies : (o : Full) (m : Made) → full_operand lambdas_of s x e ≡ Ok o → copy_initialised o.state.ctx o.state.work t o.operand ≡ Ok m → (f h : UnitFunc)
        → BuildsWhole (inside (setting f d.state) h m.work.frame) t m.tree

  pub strings : (d : Done) → Valued d → (at : At) (bytes : List ℕ) (y : Tree) → is_char_array t ≡ true → string_object x.ctx t at bytes ≡ Ok y → (f h : UnitFunc)
      → BuildsOne (inside (setting f d.state) h x.work.frame) t y
  strings d v at bytes y c k f h =
      let i = (holds s b (own h) x (starts h).settled.good).setting in
      let here : IsSetting (inside (setting f x) h x.work.frame) x.ctx = record { classes = i.classes; ordered = i.ordered; slots = i.slots; funcs = i.funcs } in
      built_law t y (inside (setting f x) h x.work.frame) (inside (setting f d.state) h x.work.frame) (held_earlier st.ctx g.unit)
      (inner_grows f h x.work.frame d.state v.over)
      (answered (BuildsOne (inside (setting f x) h x.work.frame) t) (string_object x.ctx t at bytes) y
      (b.strings (inside (setting f x) h x.work.frame) x.ctx t at bytes here size c) k)

  -- an expression
  module _ (o : Full) (m : Made) (p : full_operand lambdas_of s x e ≡ Ok o) (q : copy_initialised o.state.ctx o.state.work t o.operand ≡ Ok m) where
    abbrev z : State
    z = with_work o.state m.work

    abbrev Copied : UnitFunc → Type 0
    Copied f = IsSettled (own f) z × Comes x z × BuildsWhole (setting (own f) z) t m.tree

    copied : (f : UnitFunc) → Copied f
    copied f = let k = b.discipline (own f) constructed in
        let r = k.reads x e o (starts f).settled text p in
        let c = k.copies o.state t o.operand m r.goes.good (k.object_still x o.state t r.goes.leads (variable_type x t (starts f).settled.good.unit sound size)) r.operand q in
        (c.goes.good, k.goes_on x o.state z r.goes.leads c.goes.leads, c.fits)

  any_func : UnitFunc
  any_func = shown [] no_function

  -- what an expression makes
  abbrev behind_operand : Full → Result Done ElabFault
  behind_operand o = and_then (copy_initialised o.state.ctx o.state.work t o.operand)
      (λ (m : Made). Ok (record { trees = one (full o.operand.at m.tree); state = with_work o.state m.work }))

  state_is : (d : Done) (o : Full) (m : Made) → full_operand lambdas_of s x e ≡ Ok o → copy_initialised o.state.ctx o.state.work t o.operand ≡ Ok m
      → and_then (full_operand lambdas_of s x e) behind_operand ≡ Ok d → d.state ≡ with_work o.state m.work
  state_is d o m p q w = let made : Done = record { trees = one (full o.operand.at m.tree); state = with_work o.state m.work } in
      answered (λ (y : Done). y.state ≡ with_work o.state m.work) (Ok made) d refl
      (second (copy_initialised o.state.ctx o.state.work t o.operand)
      (λ (m : Made). Ok (record { trees = one (full o.operand.at m.tree); state = with_work o.state m.work })) m d q
      (second (full_operand lambdas_of s x e) behind_operand o d p w))

  expression_valued : (d : Done) → and_then (full_operand lambdas_of s x e) behind_operand ≡ Ok d → Valued d
  expression_valued d w = let r = split (full_operand lambdas_of s x e) behind_operand d w in
      let o : Full = r.answer in
      let u = split (copy_initialised o.state.ctx o.state.work t o.operand)
      (λ (m : Made). Ok (record { trees = one (full o.operand.at m.tree); state = with_work o.state m.work })) d r.behind in
      let is : d.state ≡ with_work o.state u.answer.work = state_is d o u.answer r.is u.is w in
      let c = copied o u.answer r.is u.is any_func in record {
        over = subst (Over st) (sym is) (came x (with_work o.state u.answer.work) c.1.goes);
        held = subst (λ (y : State). HeldEarlier y.ctx.classes) (sym is) (held_earlier (with_work o.state u.answer.work).ctx c.0.good.unit);
        bodies = subst AllBodiesFit (sym is) c.0.good.bodies;
        copies = λ o2 m2 p q f h. subst (λ (y : State). BuildsWhole (inside (setting f y) h m2.work.frame) t m2.tree) (sym (state_is d o2 m2 p q w)) (copied o2 m2 p q h).2;
      }

  string_valued : (y : Tree) → is_char_array t ≡ true → Valued (record { trees = one y; state = x })
  string_valued y c = record {
    over = over_same st;
    held = held_earlier st.ctx g.unit;
    bodies = (starts any_func).settled.good.bodies;
    copies = λ o m p q f h. no_copy _ t o.state.ctx o.state.work o.operand m c q;
  }

  pub value_valued : (c : Bool) (o : Option ℕ) (d : Done) → is_char_array t ≡ c → default_value lambdas_of s x t e c o ≡ Ok d → Valued d
  value_valued true (Some i) d h w = let r = split (string_object x.ctx t (syntax_place e) (string_bytes (spelling s i)))
      (λ (y : Tree). Ok (record { trees = one y; state = x })) d w in answered Valued (Ok (record { trees = one r.answer; state = x })) d (string_valued r.answer h) r.behind
  value_valued true None d h w = expression_valued d w
  value_valued false o d h w = expression_valued d w

-- a constructor of which nothing else is known
abbrev any_constructor : UnitFunc
any_constructor = record (shown [] no_function) { kind = Constructor }

object_begins : (s : List Lexeme) (b : Below s) (st : State) (n : ℕ) → UnitGood st → IsHome st.ctx.classes n → Begins any_constructor st (in_object st n)
object_begins s b st n g home = begins s b st any_constructor (plain void) (Some (plain (class n))) (Some n) [] g refl refl home.named
    (λ m q. subst (λ (i : ℕ). is_some (completion_of st.ctx.classes i) ≡ true) (same_Some n m q) home.complete) refl (in_object st n) refl

module _ (s : List Lexeme) (b : Below s) (l : Laws s) where
  record AllMade (st y : State) : Type 0 where
    bodies : AllBodiesFit y
    closures : y.ctx.closures ≡ st.ctx.closures
    defaults : (f : UnitFunc) → AllDefaultsFit (setting f y) y.ctx.defaults

  all_made : (st : State) (n i : ℕ) (m : Member) (e : syntax.Tree) → UnitGood st → IsHome st.ctx.classes n → IsText s e
      → slice_get (members_in (slice_get st.ctx.classes n)) i ≡ Some m → On (AllMade st) (default_made lambdas_of s st n i m.typ e)
  all_made st n i m e g h text q =
      let begun = object_begins s b st n g h in
      let parts : ArePartsOf (in_object st n).ctx n = b.parts (in_object st n).ctx (in_object st n).work n begun.settled.good.unit begun.settled.good.sound.context
      (λ k. any_holds s b k (in_object st n) begun.settled.good) h in
      let sound = parts.typed i m q in
      let size = (parts.members i m q).element.sized in
      let t : Typ = m.typ in
      let x : State = in_object st n in
      told (AllMade st) (default_value lambdas_of s x t e (is_char_array t) (string_token e)) _ (λ d w.
      let v = value_valued s b st n t e g h text sound size (is_char_array t) (string_token e) d refl w in
      let y : State = with_default_member st n i (first_tree (syntax_place e) d.trees) d.state in
      let eq : default_made lambdas_of s st n i t e ≡ Ok y =
      ap (λ (r : Result Done ElabFault). and_then r (λ (d : Done). Ok (with_default_member st n i (first_tree (syntax_place e) d.trees) d.state))) w in record {
        bodies = bodies_over d.state y v.held (over_same d.state) refl v.bodies;
        closures = refl;
        defaults = λ f. b.made lambdas_of b.moves s (setting f y) st n i t e y (member_typ st.ctx.classes t sound)
            (record {
              complete = complete_over st d.state n v.over h.complete;
              member = m;
              at = ap (λ (c : Option Class). slice_get (members_in c) i) (class_kept st.ctx.classes d.state.ctx.classes n v.over.kept.classes h) ∙ q;
              typed = refl;
            })
            (b.defaults (setting f st) (setting f y) st.ctx.defaults (held_earlier st.ctx g.unit) (record {
              classes = v.over.kept.classes;
              slots = v.over.kept.slots;
              funcs = funcs_grow st.ctx.classes d.state.ctx.classes st.ctx.funcs d.state.ctx.funcs v.over.kept.funcs;
              globals = v.over.kept.globals;
            }) (g.defaults f))
            (record {
              strings = λ at bytes z c k h2. (strings s b st n t e g h text sound size d v at bytes z c k f h2);
              copies = λ o k p r h2. v.copies o k p r f h2;
            }) eq;
      })

  made_good : (st y : State) → UnitGood st → Leads st y → AllMade st y → UnitGood y
  made_good st y g d m = record {
    unit = d.unit;
    overriders = d.overriders g.overriders;
    sound = d.sound;
    tidy = d.gone.tidy;
    implicits = l.implicits st.ctx y.ctx d.walk g.unit g.implicits;
    none = m.closures ∙ g.none;
    bodies = m.bodies;
    defaults = m.defaults;
  }

  pub defaults_follow : (st : State) (n i : ℕ) (name : List ℕ) (e : syntax.Tree) → UnitGood st → IsHome st.ctx.classes n → IsText s e
      → member_index 0 name (members_in (slice_get st.ctx.classes n)) ≡ Some i
      → On (Follows (unit_words s) st) (default_made lambdas_of s st n i (member_type (slice_get (members_in (slice_get st.ctx.classes n)) i)) e)
  defaults_follow st n i name e g h t q =
      let ms = members_in (slice_get st.ctx.classes n) in
      let r = member_found ms name 0 i q in let z = r.is in
      let u : slice_get ms i ≡ Some r.member = ap (λ (j : ℕ). slice_get ms j) (omega arith) ∙ r.at in
      subst (λ (x : Typ). On (Follows (unit_words s) st) (default_made lambdas_of s st n i x e)) (sym (ap member_type u))
      (both_on (Leads st) (AllMade st) (Follows (unit_words s) st) (default_made lambdas_of s st n i r.member.typ e)
      (l.defaults st n i r.member.typ e g h t) (all_made st n i r.member e g h t u)
      (λ y d m. record { good = made_good st y g d m; homes = λ j k. home_over st y j (gone_over st y d.gone) k }))
