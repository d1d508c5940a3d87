-- Full-expressions, and the variables of a block, own what was added for them.
use Rattle.std.proofs.Common.{◌≡◌, refl, sym, ap, subst, ℕ, ◌+◌, ◌≤◌, Bool, true, false, List, [], ◌∷◌, length, Option}
use Rattle.std.proofs.Common.{Some, None, Result, Ok, Err, arith}
use Rattle.std.specs.Prelude.{if◌then◌else◌}
use Rattle.elab_rules.specs.cpp_types.Typ.{Typ, typ, ref, array}
use Rattle.elab_rules.specs.cpp_types.declared.classes.At.{At}
use Rattle.elab_rules.specs.cpp_lex.Tokens.{Lexeme}
use Rattle.elab_rules.specs.cpp_ast.declared.kinds.NodeKind.TheVariants as k
use Rattle.elab_rules.specs.cpp_ast.Trees as syntax
use Rattle.elab_rules.specs.cpp_tree.declared.faults.ElabFault.{ElabFault}
use Rattle.elab_rules.specs.cpp_tree.declared.faults.IllRule.TheVariants.{Redeclared, BadDeclaration, TypeDiffers, BadInit, OutOfProfile}
use Rattle.elab_rules.specs.cpp_tree.Trees.{Tree, none, kind_of}
use Rattle.elab_rules.specs.cpp_tree.Typing.{is_class_typ}
use Rattle.elab_rules.specs.elab_ctx.Ctx.{Ctx, Work, next_place}
use Rattle.elab_rules.specs.elab_ctx.Steps.{and_then, expect, check, at_of, spelling, Operand, Made, TypedAll}
use Rattle.elab_rules.specs.Objects.{element_of}
use Rattle.elab_rules.specs.Values
use Rattle.elab_rules.specs.Initialising
use Rattle.elab_rules.specs.Operators
use Rattle.elab_rules.specs.Operators.{within_if_sized}
use Rattle.elab_rules.specs.Sizes.{typ_sized}
use Rattle.elab_rules.specs.Strings.{string_bytes}
use Rattle.elab_rules.specs.Types.{Declared, has_auto, is_bounded}
use Rattle.elab_rules.specs.Braces
use Rattle.elab_rules.specs.Braces.{string_token, is_char_array, syntax_place}
use Rattle.elab_rules.specs.Expressions.{expression_of, operands_of, chosen_operand, type_of_specifiers, declared_by}
use Rattle.elab_rules.specs.Statements
use Rattle.elab_rules.specs.Statements.{State, Done, Full, Lambdas, Deduction, Declaring, statement, done, with_work}
use Rattle.elab_places.specs.Bodies.{DefaultsOwn, FrameKept, LeavesFrame}
use Rattle.elab_places.proofs.Counting.{Sought, place, at_place, local_count, held, all_held, operands_held, used, room, item_fits, Gives}
use Rattle.elab_places.proofs.Counting.{HoldsAtMost, same}
use Rattle.elab_places.proofs.Steps.{On, bind, skip, either, choose, turn}
use Rattle.elab_places.proofs.Owned.{declared_none}
use Rattle.elab_places.proofs.Parts as parts
use Rattle.elab_places.proofs.Initials as initials
use Rattle.elab_places.proofs.Operators as operators
use Rattle.elab_places.proofs.Choices as choices
use Rattle.elab_places.proofs.Names as names
use Rattle.elab_places.proofs.Expressions as expressions
use Rattle.elab_places.proofs.Braces as braces

-- what holds of a value that is answered holds of the answer
pub on : {A : Type 0} (P : A → Type 0) (r : Result A ElabFault) → ((a : A) → r ≡ Ok a → P a) → On P r
on P (Ok a) h = h a refl
on P (Err e) h = tt

-- Initialisers

module _ (g : Sought) where
  inner : (x e : Tree) → held g x ≤ held g e → 0 + (held g x + 0) ≤ held g e
  inner x e h = omega arith

  whole_if : (b : Bool) (at : At) (e : Tree) → held g (Statements.whole_if b at e) ≤ held g e
  whole_if true at e = inner (if Statements.throws_object e then Operators.without_value (Values.place_of e) e else e) e
      (choose (HoldsAtMost g (held g e)) (Statements.throws_object e) _ _ (omega arith) (same (held g e)))
  whole_if false at e = same (held g e)

  pub full : (at : At) (e : Tree) → held g (Statements.full at e) ≤ held g e
  full at e = whole_if (Statements.holds_temporary e) at e

  pub default_object : (c : Ctx) (t : Typ) (at : At) → On (names.Bare g) (Statements.default_object c t at)
  default_object c t at = skip (names.Bare g)
      (if Statements.is_const_element t then Statements.const_initialised c at (element_of t) else Ok true) _ (λ y. parts.from_nothing g c t at)

  bound_reference : (c : Ctx) (w : Work) (t : Typ) (o : Operand) → On (Gives g (held g o.tree) w) (Statements.bound_reference c w t o)
  bound_reference c w t o =
      skip (Gives g (held g o.tree) w) (check o.at OutOfProfile (Statements.is_lasting (Initialising.conversion c t o) o)) _ (λ y. initials.scalar_from g c w t o)

  object_or_scalar : (c : Ctx) (w : Work) (t : Typ) (o : Operand)
      → On (Gives g (held g o.tree) w) (if is_class_typ t then Initialising.class_from c w t o.at o else Initialising.scalar_from c w t o)
  object_or_scalar c w t o =
      either (Gives g (held g o.tree) w) (is_class_typ t) _ _ (initials.class_from g c w t o.at o) (initials.scalar_from g c w t o)

  pub copy_initialised : (c : Ctx) (w : Work) (t : Typ) (o : Operand) → On (Gives g (held g o.tree) w) (Statements.copy_initialised c w t o)
  copy_initialised c w (typ (ref t) d v) o = bound_reference c w (typ (ref t) d v) o
  copy_initialised c w (typ (array e n) d v) o = tt
  copy_initialised c w t o = object_or_scalar c w t o

  pub directly_initialised : (c : Ctx) (w : Work) (t : Typ) (at : At) (os : List Operand)
      → On (Gives g (operands_held g os) w) (Statements.directly_initialised c w t at os)
  directly_initialised c w (typ (ref t) d v) at (o ∷ []) =
      initials.wider g (held g o.tree) (held g o.tree + 0) w (Statements.bound_reference c w (typ (ref t) d v) o) (omega arith)
      (bound_reference c w (typ (ref t) d v) o)
  directly_initialised c w t at os = initials.from_values g c w t at os

module _ (p : ℕ) where
  -- what was added for trees: they own it, and the initialisers of members are known as before
  pub record Ends (st : State) (d : Done) : Type 0 where
    pub counted : all_held (place p) d.trees + used (place p) st.work ≤ used (place p) d.state.work
    pub own : DefaultsOwn d.state.ctx.defaults

  pub record Stays (st x : State) : Type 0 where
    pub counted : used (place p) st.work ≤ used (place p) x.work
    pub own : DefaultsOwn x.ctx.defaults

  pub record FullEnds (st : State) (f : Full) : Type 0 where
    pub counted : held (place p) f.operand.tree + used (place p) st.work ≤ used (place p) f.state.work
    pub own : DefaultsOwn f.state.ctx.defaults

  -- a variable's node has its place
  abbrev pub spot : Tree → ℕ
  spot variable = local_count (place p) (kind_of variable) + held (place p) variable

  init_node : (st : State) (t : Typ) (at q : At) (variable e : Tree)
      → held (place p) (Statements.init_node st t at q variable e) ≤ spot variable + held (place p) e
  init_node st t at q variable e = let d = declared_none p in let i = full (place p) q e in let r = parts.destroys (place p) st.ctx at t in omega arith

  module _ (lams : Lambdas) (leaves : LeavesFrame lams) (s : List Lexeme) where
    -- Full-expressions

    lambdas_stay : (st : State) (t : syntax.Tree) → DefaultsOwn st.ctx.defaults → On (Stays st) (lams s st t)
    lambdas_stay st t own = on (Stays st) (lams s st t) (λ x h. stay x (leaves.each s st t x h))
      where
        stay : (x : State) → FrameKept st x → Stays st x
        stay x k = record {
          counted = let i : used (place p) x.work ≡ used (place p) st.work = ap (λ z. room (place p) (length z)) k.frame in omega arith;
          own = subst DefaultsOwn (sym k.defaults) own;
        }

    pub all_lambdas_stay : (st : State) (es : syntax.Trees) → DefaultsOwn st.ctx.defaults → On (Stays st) (Statements.all_lambdas lams s st es)
    all_lambdas_stay st syntax.none own = record { counted = same (used (place p) st.work); own = own }
    all_lambdas_stay st (syntax.more e es) own = bind (Stays st) (Stays st) (lams s st e) _ (lambdas_stay st e own)
        (λ x h. turn (Stays x) (Stays st) (Statements.all_lambdas lams s x es)
        (λ y i. record { counted = let a = h.counted in let b = i.counted in omega arith; own = i.own }) (all_lambdas_stay x es h.own))

    pub full_operand : (st : State) (e : syntax.Tree) → DefaultsOwn st.ctx.defaults → On (FullEnds st) (Statements.full_operand lams s st e)
    full_operand st e own = bind (Stays st) (FullEnds st) (lams s st e) _ (lambdas_stay st e own)
        (λ x h. bind (expressions.GivesTyped (place p) 0 x.work) (FullEnds st) (and_then (expression_of s x.ctx x.work e) (chosen_operand x.ctx)) _
        (expressions.chosen (place p) 0 x.ctx x.work (expression_of s x.ctx x.work e)
        (expressions.expression (place p) s x.ctx x.ctx.closures x.work e))
        (λ o i. record { counted = let a = h.counted in omega arith; own = h.own }))

    pub full_made : (st : State) (f : Full) (r : Result Made ElabFault) → FullEnds st f
        → On (Gives (place p) (held (place p) f.operand.tree) f.state.work) r → On (Ends st) (Statements.full_made f r)
    full_made st f r h i = bind (Gives (place p) (held (place p) f.operand.tree) f.state.work) (Ends st) r _ i
        (λ m j. record { counted = let a = h.counted in let b = full (place p) f.operand.at m.tree in omega arith; own = h.own })

    pub expression_statement : (st : State) (e : syntax.Tree) → DefaultsOwn st.ctx.defaults → On (Ends st) (Statements.expression_statement lams s st e)
    expression_statement st e own = bind (FullEnds st) (Ends st) (Statements.full_operand lams s st e) _ (full_operand st e own)
        (λ f h. full_made st f (Ok (Operators.dropped f.state.ctx f.state.work f.operand)) h
        (choices.dropped (place p) f.state.ctx f.state.work f.operand))

    pub condition : (st : State) (e : syntax.Tree) → DefaultsOwn st.ctx.defaults → On (Ends st) (Statements.condition lams s st e)
    condition st e own = bind (FullEnds st) (Ends st) (Statements.full_operand lams s st e) _ (full_operand st e own)
        (λ f h. full_made st f
        (and_then (Operators.truth f.state.ctx f.state.work f.operand) (λ (t : Tree). Ok (record { tree = t; work = f.state.work }))) h
        (bind (HoldsAtMost (place p) (held (place p) f.operand.tree)) (Gives (place p) (held (place p) f.operand.tree) f.state.work)
        (Operators.truth f.state.ctx f.state.work f.operand) _ (operators.truth (place p) f.state.ctx f.state.work f.operand) (λ t i. omega arith)))

    -- Variables

    -- a state in which the variable's item has been added
    pub record Placed (st v : State) : Type 0 where
      pub fits : at_place (place p) (next_place st.work) + used (place p) st.work ≤ used (place p) v.work
      pub own : DefaultsOwn v.ctx.defaults

    initialised : (st v : State) (t : Typ) (at : At) (f : Full) (r : Result Made ElabFault) → Placed st v → FullEnds v f
        → On (Gives (place p) (held (place p) f.operand.tree) f.state.work) r
        → On (Ends st) (Statements.initialised f.state t at (Statements.variable_tree st t at) f r)
    initialised st v t at f r h i j = bind (Gives (place p) (held (place p) f.operand.tree) f.state.work) (Ends st) r _ j
        (λ m l. record {
          counted = let a = h.fits in let b = i.counted in let d = init_node f.state t at f.operand.at (Statements.variable_tree st t at) m.tree in omega arith;
          own = i.own;
        })

    string_initialised : (st v : State) (t : Typ) (at q : At) (n : ℕ) → Placed st v
        → On (Ends st) (Statements.string_initialised v s t at (Statements.variable_tree st t at) q n)
    string_initialised st v t at q n h = bind (names.Bare (place p)) (Ends st) (Braces.string_object v.ctx t q (string_bytes (spelling s n))) _
        (braces.string_object (place p) v.ctx t q (string_bytes (spelling s n)))
        (λ e i. record { counted = let a = h.fits in let d = init_node v t at q (Statements.variable_tree st t at) e in omega arith; own = h.own })

    by_copy : (st v : State) (t : Typ) (at : At) (e : syntax.Tree) → Placed st v
        → On (Ends st) (and_then (Statements.full_operand lams s v e)
        (λ (f : Full). Statements.initialised f.state t at (Statements.variable_tree st t at) f
        (Statements.copy_initialised f.state.ctx f.state.work t f.operand)))
    by_copy st v t at e h = bind (FullEnds v) (Ends st) (Statements.full_operand lams s v e) _ (full_operand v e h.own)
        (λ f i. initialised st v t at f (Statements.copy_initialised f.state.ctx f.state.work t f.operand) h i
        (copy_initialised (place p) f.state.ctx f.state.work t f.operand))

    by_expression : (st v : State) (t : Typ) (at : At) (e : syntax.Tree) (b : Bool) (o : Option ℕ) → Placed st v
        → On (Ends st) (Statements.by_expression lams s st v t at e b o)
    by_expression st v t at e true (Some n) h = string_initialised st v t at (syntax_place e) n h
    by_expression st v t at e true None h = by_copy st v t at e h
    by_expression st v t at e false o h = by_copy st v t at e h

    values_initialised : (st x : State) (t : Typ) (at q : At) (r : Result TypedAll ElabFault) → Placed st x
        → On (expressions.GivesOperands (place p) 0 x.work) r
        → On (Ends st) (Statements.values_initialised lams s x t at (Statements.variable_tree st t at) q r)
    values_initialised st x t at q r h i = bind (expressions.GivesOperands (place p) 0 x.work) (Ends st) r _ i
        (λ xs j. bind (Gives (place p) (operands_held (place p) xs.operands) xs.work) (Ends st)
        (Statements.directly_initialised x.ctx xs.work t at xs.operands) _ (directly_initialised (place p) x.ctx xs.work t at xs.operands)
        (λ m l. record {
          counted = let a = h.fits in
              let d = init_node x t at (Statements.values_place t at xs.operands) (Statements.variable_tree st t at) m.tree in omega arith;
          own = h.own;
        }))

    placed_later : (st v x : State) → Placed st v → Stays v x → Placed st x
    placed_later st v x h i = record { fits = let a = h.fits in let b = i.counted in omega arith; own = i.own }

    with_initialiser : (st v : State) (t : Typ) (at : At) (kids : syntax.Trees) → Placed st v
        → On (Ends st) (Statements.with_initialiser lams s st v t at kids)
    with_initialiser st v t at syntax.none h = bind (names.Bare (place p)) (Ends st) (Statements.default_object v.ctx t at) _
        (default_object (place p) v.ctx t at)
        (λ e i. record { counted = let a = h.fits in let d = init_node v t at at (Statements.variable_tree st t at) e in omega arith; own = h.own })
    with_initialiser st v t at (syntax.more (syntax.node k.ParenthesizedInitializer q token es) syntax.none) h =
        bind (Stays v) (Ends st) (Statements.all_lambdas lams s v es) _ (all_lambdas_stay v es h.own)
        (λ x i. values_initialised st x t at (at_of q) (operands_of s x.ctx x.work es) (placed_later st v x h i)
        (expressions.operands (place p) s x.ctx x.ctx.closures x.work es))
    with_initialiser st v t at (syntax.more (syntax.node k.EqualInitializer q token
        (syntax.more (syntax.node k.BracedInitList r brace items) syntax.none)) syntax.none) h =
        bind (Stays v) (Ends st) (Statements.all_lambdas lams s v items) _ (all_lambdas_stay v items h.own)
        (λ x i. bind (Gives (place p) 0 x.work) (Ends st)
        (Braces.item_of s x.ctx x.work (Statements.variable_tree st t at) t (syntax.node k.BracedInitList r brace items)) _
        (braces.item (place p) s x.ctx i.own x.work (Statements.variable_tree st t at) t (syntax.node k.BracedInitList r brace items) refl)
        (λ m j. record {
          counted = let a = h.fits in let b = i.counted in let d = init_node x t at (at_of r) (Statements.variable_tree st t at) m.tree in omega arith;
          own = i.own;
        }))
    with_initialiser st v t at (syntax.more (syntax.node k.EqualInitializer q token (syntax.more e syntax.none)) syntax.none) h =
        by_expression st v t at e (is_char_array t) (string_token e) h
    with_initialiser st v t at kids h = tt

    -- `auto`

    auto_initialised : (st : State) (f : Full) (t : Typ) (at : At) (i : ℕ) (u : Typ) (o : Operand) (r : Result Made ElabFault) → FullEnds st f
        → On (Gives (place p) (held (place p) f.operand.tree) f.state.work) r
        → On (Ends st) (Statements.auto_initialised f.state t at i u o r)
    auto_initialised st f t at i u o r h j = bind (Gives (place p) (held (place p) f.operand.tree) f.state.work) (Ends st) r _ j
        (λ m l. record {
          counted = let a = h.counted in let b = item_fits (place p) m.work u in
              let d = init_node f.state u at o.at (Statements.variable_tree (with_work f.state m.work) u at) m.tree in omega arith;
          own = h.own;
        })

    -- a deduction ends where its trees do
    abbrev pub Deduces : State → Deduction → Type 0
    Deduces st x = Ends st x.done

    auto_variable : (st : State) (i : ℕ) (t : Typ) (at : At) (before : Option Typ) (e : syntax.Tree) → DefaultsOwn st.ctx.defaults
        → On (Deduces st) (Statements.auto_variable lams s st i t at before e)
    auto_variable st i t at before e own = bind (FullEnds st) (Deduces st) (Statements.full_operand lams s st e) _ (full_operand st e own)
        (λ f h. skip (Deduces st) (Statements.deduced_type at t f.operand) _
        (λ (u : Typ). skip (Deduces st) (check at TypeDiffers (Statements.same_deduction before u)) _ (λ y.
        bind (Ends st) (Deduces st) (Statements.auto_initialised f.state t at i (Statements.replaced u t) f.operand
        (Statements.auto_object f.state t at (Statements.replaced u t) f.operand)) _
        (auto_initialised st f t at i (Statements.replaced u t) f.operand (Statements.auto_object f.state t at (Statements.replaced u t) f.operand) h
        (copy_initialised (place p) f.state.ctx f.state.work (Statements.replaced u t) f.operand)) (λ d j. j))))

    placed : (st : State) (name : List ℕ) (t : Typ) → DefaultsOwn st.ctx.defaults → Placed st (Statements.placed_variable st name t)
    placed st name t own = record { fits = item_fits (place p) st.work t; own = own }

    plain_variable : (st : State) (name : List ℕ) (t : Typ) (at : At) (init : syntax.Trees) → DefaultsOwn st.ctx.defaults
        → On (Ends st) (Statements.plain_variable lams s st name t at init)
    plain_variable st name t at init own = skip (Ends st) (Statements.declarable st.ctx at t) _
        (λ x. skip (Ends st) (check at BadDeclaration (is_bounded t)) _ (λ z. skip (Ends st) (typ_sized st.ctx.classes at t) _
        (λ y. skip (Ends st) (within_if_sized st.ctx at t) _
        (λ w. with_initialiser st (Statements.placed_variable st name t) t at init (placed st name t own)))))

    variable_by : (st : State) (name : List ℕ) (t : Typ) (at : At) (before : Option Typ) (init : syntax.Trees) (b : Bool) → DefaultsOwn st.ctx.defaults
        → On (Deduces st) (Statements.variable_by lams s st name t at before init b)
    variable_by st name t at before init true own = skip (Deduces st) (expect at BadInit (Statements.only_expression init)) _
        (λ e. deduced (Statements.auto_variable lams s (Statements.declared_variable st name None) (length st.ctx.variables) t at before e)
        (auto_variable (Statements.declared_variable st name None) (length st.ctx.variables) t at before e own))
      where
        deduced : (r : Result Deduction ElabFault) → On (Deduces (Statements.declared_variable st name None)) r → On (Deduces st) r
        deduced (Ok x) h = record { counted = h.counted; own = h.own }
        deduced (Err e) h = tt
    variable_by st name t at before init false own = bind (Ends st) (Deduces st)
        (Statements.plain_variable lams s st name (Statements.bound_by_initialiser s t init) at init) _
        (plain_variable st name (Statements.bound_by_initialiser s t init) at init own) (λ d h. h)

    variable : (st : State) (name : List ℕ) (t : Typ) (at : At) (before : Option Typ) (init : syntax.Trees) → DefaultsOwn st.ctx.defaults
        → On (Deduces st) (Statements.variable lams s st name t at before init)
    variable st name t at before init own = skip (Deduces st) (check at Redeclared (Statements.is_fresh st.ctx name)) _
        (λ y. variable_by st name t at before init (has_auto t) own)

    -- Declarations in a block

    -- declarators, behind others
    pub record Declares (d y : Declaring) : Type 0 where
      pub counted : all_held (place p) y.trees + used (place p) d.state.work ≤ all_held (place p) d.trees + used (place p) y.state.work
      pub own : DefaultsOwn y.state.ctx.defaults

    declarator : (t : Typ) (d : Declaring) (x : syntax.Tree) → DefaultsOwn d.state.ctx.defaults
        → On (Declares d) (Statements.block_declarator lams s t d x)
    declarator t d (syntax.node k.InitDeclarator q token (syntax.more x init)) own =
        skip (Declares d) (declared_by s d.state.ctx d.state.work (at_of q) t x) _
        (λ (r : Declared). skip (Declares d) (check (at_of q) BadDeclaration (Statements.is_own_name r)) _
        (λ z. bind (Deduces d.state) (Declares d) (Statements.variable lams s d.state (Statements.name_of s r.name) r.typ (at_of q) d.auto init) _
        (variable d.state (Statements.name_of s r.name) r.typ (at_of q) d.auto init own)
        (λ y h. record { counted = let a = h.counted in let b = parts.followed (place p) d.trees y.done.trees in omega arith; own = h.own })))
    declarator t d x own = tt

    declarators : (t : Typ) (d : Declaring) (xs : syntax.Trees) → DefaultsOwn d.state.ctx.defaults
        → On (Declares d) (Statements.block_declarators lams s t d xs)
    declarators t d syntax.none own = record { counted = same (all_held (place p) d.trees + used (place p) d.state.work); own = own }
    declarators t d (syntax.more x xs) own = bind (Declares d) (Declares d) (Statements.block_declarator lams s t d x) _ (declarator t d x own)
        (λ y h. turn (Declares y) (Declares d) (Statements.block_declarators lams s t y xs)
        (λ z i. record { counted = let a = h.counted in let b = i.counted in omega arith; own = i.own }) (declarators t y xs h.own))

    pub declaration : (st : State) (at : At) (kids : syntax.Trees) → DefaultsOwn st.ctx.defaults
        → On (Ends st) (Statements.block_declaration lams s st at kids)
    declaration st at (syntax.more (syntax.node k.Attribute q token kids) ts) own = declaration st at ts own
    declaration st at (syntax.more (syntax.node k.TypeSpecifierSeq q token kids) ds) own =
        skip (Ends st) (type_of_specifiers s st.ctx st.work (syntax.node k.TypeSpecifierSeq q token kids)) _ (λ (t : Typ).
        bind (Declares (record { trees = none; state = st; auto = None })) (Ends st)
        (Statements.block_declarators lams s t (record { trees = none; state = st; auto = None }) ds) _
        (declarators t (record { trees = none; state = st; auto = None }) ds own)
        (λ d h. record { counted = let a = h.counted in omega arith; own = h.own }))
    declaration st at ts own = tt
