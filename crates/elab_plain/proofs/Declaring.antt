-- Full-expressions declare nothing, and the variables of a block are told by their places in the frame.
use Rattle.std.proofs.Common.{◌≡◌, refl, ℕ, Bool, true, false, List, length, Option, Some, None, Result, Ok, arith}
use Rattle.elab_rules.specs.cpp_types.Typ.{Typ}
use Rattle.elab_rules.specs.cpp_types.declared.classes.At.{At}
use Rattle.elab_rules.specs.cpp_lex.Tokens.{Lexeme}
use Rattle.elab_rules.specs.cpp_ast.declared.kinds.NodeKind.TheVariants as k
use Rattle.elab_rules.specs.cpp_ast.Trees as syntax
use Rattle.elab_rules.specs.cpp_tree.declared.faults.ElabFault.{ElabFault}
use Rattle.elab_rules.specs.cpp_tree.declared.faults.IllRule.TheVariants.{Redeclared, BadDeclaration, TypeDiffers, BadInit}
use Rattle.elab_rules.specs.cpp_tree.Trees.{Tree, none, kind_of}
use Rattle.elab_rules.specs.elab_ctx.Steps.{and_then, expect, check, at_of, spelling, Operand, Made, TypedAll}
use Rattle.elab_rules.specs.Objects.{destroys}
use Rattle.elab_rules.specs.Operators
use Rattle.elab_rules.specs.Operators.{within_if_sized}
use Rattle.elab_rules.specs.Sizes.{typ_sized}
use Rattle.elab_rules.specs.Strings.{string_bytes}
use Rattle.elab_rules.specs.Types.{Declared, has_auto, is_bounded}
use Rattle.elab_rules.specs.Braces
use Rattle.elab_rules.specs.Braces.{string_token, is_char_array, syntax_place}
use Rattle.elab_rules.specs.Expressions.{expression_of, operands_of, chosen_operand, type_of_specifiers, declared_by}
use Rattle.elab_rules.specs.Statements
use Rattle.elab_rules.specs.Statements.{State, Done, Full, Lambdas, Deduction, Declaring, with_work}
use Rattle.elab_places.specs.Round.{round_of}
use Rattle.elab_places.proofs.Counting.{declaring, held, operands_held, Gives, HoldsAtMost}
use Rattle.elab_places.proofs.Steps.{On, bind, skip}
use Rattle.elab_places.proofs.Owned.{no_room}
use Rattle.elab_places.proofs.Parts as parts
use Rattle.elab_places.proofs.Operators as operators
use Rattle.elab_places.proofs.Choices as choices
use Rattle.elab_places.proofs.Names as names
use Rattle.elab_places.proofs.Expressions as expressions
use Rattle.elab_places.proofs.Braces as braces
use Rattle.elab_places.proofs.Declaring as told
use Rattle.elab_places.proofs.Keeping as keeping
use Rattle.elab_plain.specs.Plain.{RoundPlain}
use Rattle.elab_plain.proofs.Counting.{choice, choosing, all_choosing, of_none, all_of_none, made, followed}

-- in the bodies that are made so far no declaration has a choice as its address
abbrev pub StatePlain : State → Type 0
StatePlain st = RoundPlain (round_of st)

-- so what makes lambdas leaves it
abbrev pub KeepsPlain : Lambdas → Type 0
KeepsPlain lams = (s : List Lexeme) (st : State) (t : syntax.Tree) → StatePlain st → On StatePlain (lams s st t)

pub full_plain : (at : At) (e : Tree) → held declaring e ≡ 0 → choosing (Statements.full at e) ≡ 0
full_plain at e h = of_none (Statements.full at e) (omega (arith, told.full declaring at e))

-- trees that declare plainly
pub record Ends (d : Done) : Type 0 where
  pub counted : all_choosing d.trees ≡ 0
  pub own : StatePlain d.state

-- an operand that declares nothing
pub record FullEnds (f : Full) : Type 0 where
  pub none : held declaring f.operand.tree ≡ 0
  pub own : StatePlain f.state

pub init_node : (st : State) (t : Typ) (at q : At) (variable e : Tree) → choice (kind_of variable) ≡ 0 → choosing variable ≡ 0
    → held declaring e ≡ 0
    → choosing (Statements.init_node st t at q variable e) ≡ 0
init_node st t at q variable e i j h = let a = full_plain q e h in
    let b = all_of_none (destroys st.ctx at t) (parts.destroys declaring st.ctx at t) in omega arith

module _ (lams : Lambdas) (keeps : KeepsPlain lams) (s : List Lexeme) where
  -- Full-expressions

  pub all_lambdas : (st : State) (es : syntax.Trees) → StatePlain st → On StatePlain (Statements.all_lambdas lams s st es)
  all_lambdas st es own = keeping.all_lambdas RoundPlain lams keeps s st es own

  pub full_operand : (st : State) (e : syntax.Tree) → StatePlain st → On FullEnds (Statements.full_operand lams s st e)
  full_operand st e own = bind StatePlain FullEnds (lams s st e) _ (keeps s st e own)
      (λ x h. bind (expressions.GivesTyped declaring 0 x.work) FullEnds (and_then (expression_of s x.ctx x.work e) (chosen_operand x.ctx)) _
      (expressions.chosen declaring 0 x.ctx x.work (expression_of s x.ctx x.work e)
      (expressions.expression declaring s x.ctx x.ctx.closures x.work e))
      (λ o i. record { none = omega (arith, no_room (length o.work.frame)); own = h }))

  full_made : (f : Full) (r : Result Made ElabFault) → FullEnds f
      → On (Gives declaring (held declaring f.operand.tree) f.state.work) r → On Ends (Statements.full_made f r)
  full_made f r h i = bind (Gives declaring (held declaring f.operand.tree) f.state.work) Ends r _ i
      (λ m j. record {
        counted = let a = full_plain f.operand.at m.tree (made (held declaring f.operand.tree) f.state.work m h.none j) in omega arith;
        own = h.own;
      })

  pub expression_statement : (st : State) (e : syntax.Tree) → StatePlain st → On Ends (Statements.expression_statement lams s st e)
  expression_statement st e own = bind FullEnds Ends (Statements.full_operand lams s st e) _ (full_operand st e own)
      (λ f h. full_made f (Ok (Operators.dropped f.state.ctx f.state.work f.operand)) h
      (choices.dropped declaring f.state.ctx f.state.work f.operand))

  pub condition : (st : State) (e : syntax.Tree) → StatePlain st → On Ends (Statements.condition lams s st e)
  condition st e own = bind FullEnds Ends (Statements.full_operand lams s st e) _ (full_operand st e own)
      (λ f h. full_made f
      (and_then (Operators.truth f.state.ctx f.state.work f.operand) (λ (t : Tree). Ok (record { tree = t; work = f.state.work }))) h
      (bind (HoldsAtMost declaring (held declaring f.operand.tree)) (Gives declaring (held declaring f.operand.tree) f.state.work)
      (Operators.truth f.state.ctx f.state.work f.operand) _ (operators.truth declaring f.state.ctx f.state.work f.operand) (λ t i. omega arith)))

  -- Variables

  initialised : (st : State) (t : Typ) (at : At) (f : Full) (r : Result Made ElabFault) → FullEnds f
      → On (Gives declaring (held declaring f.operand.tree) f.state.work) r
      → On Ends (Statements.initialised f.state t at (Statements.variable_tree st t at) f r)
  initialised st t at f r i j = bind (Gives declaring (held declaring f.operand.tree) f.state.work) Ends r _ j
      (λ m l. record {
        counted = let d = init_node f.state t at f.operand.at (Statements.variable_tree st t at) m.tree refl refl
            (made (held declaring f.operand.tree) f.state.work m i.none l) in omega arith;
        own = i.own;
      })

  string_initialised : (st v : State) (t : Typ) (at q : At) (n : ℕ) → StatePlain v
      → On Ends (Statements.string_initialised v s t at (Statements.variable_tree st t at) q n)
  string_initialised st v t at q n h = bind (names.Bare declaring) Ends (Braces.string_object v.ctx t q (string_bytes (spelling s n))) _
      (braces.string_object declaring v.ctx t q (string_bytes (spelling s n)))
      (λ e i. record { counted = let d = init_node v t at q (Statements.variable_tree st t at) e refl refl i in omega arith; own = h })

  by_copy : (st v : State) (t : Typ) (at : At) (e : syntax.Tree) → StatePlain v
      → On Ends (and_then (Statements.full_operand lams s v e)
      (λ (f : Full). Statements.initialised f.state t at (Statements.variable_tree st t at) f
      (Statements.copy_initialised f.state.ctx f.state.work t f.operand)))
  by_copy st v t at e h = bind FullEnds Ends (Statements.full_operand lams s v e) _ (full_operand v e h)
      (λ f i. initialised st t at f (Statements.copy_initialised f.state.ctx f.state.work t f.operand) i
      (told.copy_initialised declaring f.state.ctx f.state.work t f.operand))

  by_expression : (st v : State) (t : Typ) (at : At) (e : syntax.Tree) (b : Bool) (o : Option ℕ) → StatePlain v
      → On Ends (Statements.by_expression lams s st v t at e b o)
  by_expression st v t at e true (Some n) h = string_initialised st v t at (syntax_place e) n h
  by_expression st v t at e true None h = by_copy st v t at e h
  by_expression st v t at e false o h = by_copy st v t at e h

  values_initialised : (st x : State) (t : Typ) (at q : At) (r : Result TypedAll ElabFault) → StatePlain x
      → On (expressions.GivesOperands declaring 0 x.work) r
      → On Ends (Statements.values_initialised lams s x t at (Statements.variable_tree st t at) q r)
  values_initialised st x t at q r h i = bind (expressions.GivesOperands declaring 0 x.work) Ends r _ i
      (λ xs j. bind (Gives declaring (operands_held declaring xs.operands) xs.work) Ends
      (Statements.directly_initialised x.ctx xs.work t at xs.operands) _ (told.directly_initialised declaring x.ctx xs.work t at xs.operands)
      (λ m l. record {
        counted = let d = init_node x t at (Statements.values_place t at xs.operands) (Statements.variable_tree st t at) m.tree refl refl
            (made (operands_held declaring xs.operands) xs.work m (omega (arith, no_room (length xs.work.frame))) l) in omega arith;
        own = h;
      }))

  with_initialiser : (st v : State) (t : Typ) (at : At) (kids : syntax.Trees) → StatePlain v
      → On Ends (Statements.with_initialiser lams s st v t at kids)
  with_initialiser st v t at syntax.none h = bind (names.Bare declaring) Ends (Statements.default_object v.ctx t at) _
      (told.default_object declaring v.ctx t at)
      (λ e i. record { counted = let d = init_node v t at at (Statements.variable_tree st t at) e refl refl i in omega arith; own = h })
  with_initialiser st v t at (syntax.more (syntax.node k.ParenthesizedInitializer q token es) syntax.none) h =
      bind StatePlain Ends (Statements.all_lambdas lams s v es) _ (all_lambdas v es h)
      (λ x i. values_initialised st x t at (at_of q) (operands_of s x.ctx x.work es) i
      (expressions.operands declaring s x.ctx x.ctx.closures x.work es))
  with_initialiser st v t at (syntax.more (syntax.node k.EqualInitializer q token
      (syntax.more (syntax.node k.BracedInitList r brace items) syntax.none)) syntax.none) h =
      bind StatePlain Ends (Statements.all_lambdas lams s v items) _ (all_lambdas v items h)
      (λ x i. bind (Gives declaring 0 x.work) Ends
      (Braces.item_of s x.ctx x.work (Statements.variable_tree st t at) t (syntax.node k.BracedInitList r brace items)) _
      (braces.item declaring s x.ctx i.defaults x.work (Statements.variable_tree st t at) t (syntax.node k.BracedInitList r brace items) refl)
      (λ m j. record {
        counted = let d = init_node x t at (at_of r) (Statements.variable_tree st t at) m.tree refl refl (made 0 x.work m refl j) in omega arith;
        own = i;
      }))
  with_initialiser st v t at (syntax.more (syntax.node k.EqualInitializer q token (syntax.more e syntax.none)) syntax.none) h =
      by_expression st v t at e (is_char_array t) (string_token e) h
  with_initialiser st v t at kids h = tt

  -- `auto`

  auto_initialised : (f : Full) (t : Typ) (at : At) (i : ℕ) (u : Typ) (o : Operand) (r : Result Made ElabFault) → FullEnds f
      → On (Gives declaring (held declaring f.operand.tree) f.state.work) r
      → On Ends (Statements.auto_initialised f.state t at i u o r)
  auto_initialised f t at i u o r h j = bind (Gives declaring (held declaring f.operand.tree) f.state.work) Ends r _ j
      (λ m l. record {
        counted = let d = init_node f.state u at o.at (Statements.variable_tree (with_work f.state m.work) u at) m.tree refl refl
            (made (held declaring f.operand.tree) f.state.work m h.none l) in omega arith;
        own = h.own;
      })

  -- a deduction ends where its trees do
  abbrev Deduces : Deduction → Type 0
  Deduces x = Ends x.done

  auto_variable : (st : State) (i : ℕ) (t : Typ) (at : At) (before : Option Typ) (e : syntax.Tree) → StatePlain st
      → On Deduces (Statements.auto_variable lams s st i t at before e)
  auto_variable st i t at before e own = bind FullEnds Deduces (Statements.full_operand lams s st e) _ (full_operand st e own)
      (λ f h. skip Deduces (Statements.deduced_type at t f.operand) _
      (λ (u : Typ). skip Deduces (check at TypeDiffers (Statements.same_deduction before u)) _ (λ y.
      bind Ends Deduces (Statements.auto_initialised f.state t at i (Statements.replaced u t) f.operand
      (Statements.auto_object f.state t at (Statements.replaced u t) f.operand)) _
      (auto_initialised f t at i (Statements.replaced u t) f.operand (Statements.auto_object f.state t at (Statements.replaced u t) f.operand) h
      (told.copy_initialised declaring f.state.ctx f.state.work (Statements.replaced u t) f.operand)) (λ d j. j))))

  plain_variable : (st : State) (name : List ℕ) (t : Typ) (at : At) (init : syntax.Trees) → StatePlain st
      → On Ends (Statements.plain_variable lams s st name t at init)
  plain_variable st name t at init own = skip Ends (Statements.declarable st.ctx at t) _
      (λ x. skip Ends (check at BadDeclaration (is_bounded t)) _ (λ z. skip Ends (typ_sized st.ctx.classes at t) _
      (λ y. skip Ends (within_if_sized st.ctx at t) _
      (λ w. with_initialiser st (Statements.placed_variable st name t) t at init own))))

  variable_by : (st : State) (name : List ℕ) (t : Typ) (at : At) (before : Option Typ) (init : syntax.Trees) (b : Bool) → StatePlain st
      → On Deduces (Statements.variable_by lams s st name t at before init b)
  variable_by st name t at before init true own = skip Deduces (expect at BadInit (Statements.only_expression init)) _
      (λ e. auto_variable (Statements.declared_variable st name None) (length st.ctx.variables) t at before e own)
  variable_by st name t at before init false own = bind Ends Deduces
      (Statements.plain_variable lams s st name (Statements.bound_by_initialiser s t init) at init) _
      (plain_variable st name (Statements.bound_by_initialiser s t init) at init own) (λ d h. h)

  variable : (st : State) (name : List ℕ) (t : Typ) (at : At) (before : Option Typ) (init : syntax.Trees) → StatePlain st
      → On Deduces (Statements.variable lams s st name t at before init)
  variable st name t at before init own = skip Deduces (check at Redeclared (Statements.is_fresh st.ctx name)) _
      (λ y. variable_by st name t at before init (has_auto t) own)

  -- Declarations in a block

  record Declares (d : Declaring) : Type 0 where
    counted : all_choosing d.trees ≡ 0
    own : StatePlain d.state

  declarator : (t : Typ) (d : Declaring) (x : syntax.Tree) → Declares d → On Declares (Statements.block_declarator lams s t d x)
  declarator t d (syntax.node k.InitDeclarator q token (syntax.more x init)) h =
      skip Declares (declared_by s d.state.ctx d.state.work (at_of q) t x) _
      (λ (r : Declared). skip Declares (check (at_of q) BadDeclaration (Statements.is_own_name r)) _
      (λ z. bind Deduces Declares (Statements.variable lams s d.state (Statements.name_of s r.name) r.typ (at_of q) d.auto init) _
      (variable d.state (Statements.name_of s r.name) r.typ (at_of q) d.auto init h.own)
      (λ y i. record { counted = let a = h.counted in let c = i.counted in let b = followed d.trees y.done.trees in omega arith; own = i.own })))
  declarator t d x h = tt

  declarators : (t : Typ) (d : Declaring) (xs : syntax.Trees) → Declares d → On Declares (Statements.block_declarators lams s t d xs)
  declarators t d syntax.none h = h
  declarators t d (syntax.more x xs) h = bind Declares Declares (Statements.block_declarator lams s t d x) _ (declarator t d x h)
      (λ y i. declarators t y xs i)

  pub declaration : (st : State) (at : At) (kids : syntax.Trees) → StatePlain st → On Ends (Statements.block_declaration lams s st at kids)
  declaration st at (syntax.more (syntax.node k.Attribute q token kids) ts) own = declaration st at ts own
  declaration st at (syntax.more (syntax.node k.TypeSpecifierSeq q token kids) ds) own =
      skip Ends (type_of_specifiers s st.ctx st.work (syntax.node k.TypeSpecifierSeq q token kids)) _ (λ (t : Typ).
      bind Declares Ends (Statements.block_declarators lams s t (record { trees = none; state = st; auto = None }) ds) _
      (declarators t (record { trees = none; state = st; auto = None }) ds (record { counted = refl; own = own }))
      (λ d h. record { counted = h.counted; own = h.own }))
  declaration st at ts own = tt
