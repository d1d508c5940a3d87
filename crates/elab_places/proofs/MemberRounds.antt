-- Bodies of constructors, destructors and implicit members own the places behind the words that their functions are shown with, and those before them do.
use Rattle.std.proofs.Common.{◌≡◌, ap, ℕ, suc, ◌+◌, Bool, List, [], ◌∷◌, length, Option, Some, None, is_none, not, slice_get, arith, true, false, Ok}
use Rattle.elab_rules.specs.cpp_types.Typ.{Typ, class, Typs, none as no_typs, more as and_typ}
use Rattle.elab_rules.specs.cpp_types.Class.{Member}
use Rattle.elab_rules.specs.cpp_types.declared.classes.At.{At}
use Rattle.elab_rules.specs.cpp_lex.Tokens.{Lexeme}
use Rattle.elab_rules.specs.cpp_ast.declared.kinds.NodeKind.TheVariants as k
use Rattle.elab_rules.specs.cpp_ast.Trees as syntax
use Rattle.elab_rules.specs.cpp_tree.declared.program.FuncKind.{FuncKind}
use Rattle.elab_rules.specs.cpp_tree.declared.program.FuncKind.TheVariants.{Destructor}
use Rattle.elab_rules.specs.cpp_tree.declared.faults.IllRule.TheVariants.{Redeclared, NoMember, UnknownName, OutOfProfile}
use Rattle.elab_rules.specs.cpp_tree.Trees.{Tree, none, one}
use Rattle.elab_rules.specs.cpp_tree.Notation.{plain}
use Rattle.elab_rules.specs.cpp_tree.Typing.{unqualified}
use Rattle.elab_rules.specs.elab_ctx.Steps.{and_then, expect, check, at_of, spelling, Made, TypedAll}
use Rattle.elab_rules.specs.Initialising
use Rattle.elab_rules.specs.Names.{members_in}
use Rattle.elab_rules.specs.Calls.{base_of_class}
use Rattle.elab_rules.specs.Types.{type_named}
use Rattle.elab_rules.specs.Strings.{string_bytes}
use Rattle.elab_rules.specs.Braces.{default_at, string_object, string_token, is_char_array, syntax_place}
use Rattle.elab_rules.specs.Expressions.{operands_of}
use Rattle.elab_rules.specs.Statements
use Rattle.elab_rules.specs.Statements.{State, Done, Lambdas, statements_of, with_work}
use Rattle.elab_rules.specs.Functions.{Header, with_parameters}
use Rattle.elab_rules.specs.Lambdas.{lambdas_of}
use Rattle.elab_rules.specs.Members
use Rattle.elab_rules.specs.Members.{Given, Giving, in_object, as_base_of}
use Rattle.elab_rules.specs.Implicit
use Rattle.elab_rules.specs.Implicit.{own_operand, with_source}
use Rattle.elab_places.specs.Functions.{copy_words, implied_words}
use Rattle.elab_places.specs.Bodies.{DefaultsOwn}
use Rattle.elab_places.specs.Round.{Round, round_of, BodiesOwn, AllOwned, ConstructorsKeepBodies, DestructorsKeepBodies, DefaultsKeepBodies, ImpliedKeepBodies}
use Rattle.elab_places.proofs.Counting.{place, used, room}
use Rattle.elab_places.proofs.Steps.{On, bind, skip, turn, held_by}
use Rattle.elab_places.proofs.Declaring.{Ends}
use Rattle.elab_places.proofs.Bodies.{on_all, Enters, parameters, in_body}
use Rattle.elab_places.proofs.Constructors as constructors
use Rattle.elab_places.proofs.Constructors.{Gathers, PartsEnd, given_all, in_object_enters, constructor_held, constructor_counts, destructor_held}
use Rattle.elab_places.proofs.Implied as copied
use Rattle.elab_places.proofs.Keeping as keeping
use Rattle.elab_places.proofs.Lambdas.{lambdas_law}
use Rattle.elab_places.proofs.Rounds.{both, InBody, in_keep, made_keep, lambdas_keep}
use Rattle.elab_places.proofs.Defaults.{default_made}
use Rattle.elab_places.proofs.AtFile.{each_keeps}

module _ (K : Round → Type 0) where
  abbrev Kept : State → Type 0
  Kept st = K (round_of st)

  abbrev EndKept : Done → Type 0
  EndKept d = K (round_of d.state)

  abbrev GivingKept : Giving → Type 0
  GivingKept x = K (round_of x.state)

  -- Initialisers that are written

  module _ (lams : Lambdas) (keeps : (s : List Lexeme) (st : State) (t : syntax.Tree) → K (round_of st) → On (λ (x : State). K (round_of x)) (lams s st t))
      (s : List Lexeme) (n : ℕ) where
    given_part : (x : Giving) (i : Option ℕ) (at : At) (t : Typ) (es : syntax.Trees) → GivingKept x → On GivingKept (Members.given_part lams s n x i at t es)
    given_part x i at t es h = skip GivingKept (check at Redeclared (is_none (Members.given_for i x.given))) _
        (λ y. bind Kept GivingKept (Statements.all_lambdas lams s x.state es) _ (keeping.all_lambdas K lams keeps s x.state es h)
        (λ st j. skip GivingKept (operands_of s st.ctx st.work es) _
        (λ (xs : TypedAll). skip GivingKept (Statements.directly_initialised (Members.for_part st.ctx n i) xs.work t at xs.operands) _ (λ m. j))))

    given_by : (x : Giving) (t : syntax.Tree) → GivingKept x → On GivingKept (Members.given_by lams s n x t)
    given_by x (syntax.node k.MemberInitializer q (Some t) es) h = skip GivingKept
        (expect (at_of q) NoMember (Members.member_index 0 (spelling s t) (members_in (slice_get x.state.ctx.classes n)))) _
        (λ i. given_part x (Some i) (at_of q) (Members.member_type (slice_get (members_in (slice_get x.state.ctx.classes n)) i)) es h)
    given_by x (syntax.node k.BaseInitializer q (Some t) es) h =
        skip GivingKept (expect (at_of q) UnknownName (type_named (spelling s t) x.state.ctx.types)) _
        (λ (u : Typ). skip GivingKept (check (at_of q) OutOfProfile (not (Members.is_named_class n u))) _
        (λ y. skip GivingKept (check (at_of q) NoMember (Members.is_base_type (base_of_class (slice_get x.state.ctx.classes n)) u)) _
        (λ z. given_part x None (at_of q) (unqualified u) es h)))
    given_by x t h = h

    all_given : (x : Giving) (ts : syntax.Trees) → GivingKept x → On GivingKept (Members.all_given lams s n x ts)
    all_given x syntax.none h = h
    all_given x (syntax.more t ts) h = bind GivingKept GivingKept (Members.given_by lams s n x t) _ (given_by x t h) (λ y i. all_given y ts i)

  -- Parts

  member_built : (st : State) (at : At) (n i : ℕ) (t : Typ) (o : Option Given) → Kept st → On EndKept (Members.member_built st at n i t o)
  member_built st at n i t (Some x) h = h
  member_built st at n i t None h = skip EndKept (Members.default_built st at t (default_at n i st.ctx.defaults)) _ (λ m. h)

  members_built : (at : At) (n : ℕ) (gs : List Given) (st : State) (i : ℕ) (ms : List Member) → Kept st → On EndKept (Members.members_built at n gs st i ms)
  members_built at n gs st i [] h = h
  members_built at n gs st i (m ∷ ms) h = bind EndKept EndKept (Members.member_built st at n i m.typ (Members.given_for (Some i) gs)) _
      (member_built st at n i m.typ (Members.given_for (Some i) gs) h)
      (λ x j. bind EndKept EndKept (Members.members_built at n gs x.state (suc i) ms) _ (members_built at n gs x.state (suc i) ms j) (λ y l. l))

  parts_built : (st : State) (at : At) (n : ℕ) (gs : List Given) → Kept st → On EndKept (Members.parts_built st at n gs)
  parts_built st at n gs h =
      skip EndKept (Members.base_built st at n (base_of_class (slice_get st.ctx.classes n)) (Members.given_for None gs)) _
      (λ b. bind EndKept EndKept (Members.members_built at n gs st 0 (members_in (slice_get st.ctx.classes n))) _
      (members_built at n gs st 0 (members_in (slice_get st.ctx.classes n)) h) (λ d i. i))

  -- Copies

  members_copied : (at : At) (n : ℕ) (source : Tree) (b : Bool) (st : State) (i : ℕ) (ms : List Member) → Kept st
      → On EndKept (Implicit.members_copied at n source b st i ms)
  members_copied at n source b st i [] h = h
  members_copied at n source b st i (m ∷ ms) h =
      skip EndKept (Implicit.part_copied st at m.typ (Implicit.part_of_source st.ctx n at source b i m.typ)) _
      (λ x. bind EndKept EndKept (Implicit.members_copied at n source b (with_work st x.work) (suc i) ms) _
      (members_copied at n source b (with_work st x.work) (suc i) ms h) (λ d j. j))

  base_copied : (st : State) (at : At) (n : ℕ) (source : Tree) (b : Option ℕ) → Kept st → On EndKept (Implicit.base_copied st at n source b)
  base_copied st at n source None h = h
  base_copied st at n source (Some b) h = skip EndKept
      (Initialising.class_from (as_base_of st.ctx b) st.work (plain (class b)) at (own_operand at (Initialising.as_source at b source))) _ (λ m. h)

  parts_copied : (st : State) (at : At) (n : ℕ) (source : Tree) (b : Bool) → Kept st → On EndKept (Implicit.parts_copied st at n source b)
  parts_copied st at n source b h = bind EndKept EndKept (Implicit.base_copied st at n source (base_of_class (slice_get st.ctx.classes n))) _
      (base_copied st at n source (base_of_class (slice_get st.ctx.classes n)) h)
      (λ x i. bind EndKept EndKept (Implicit.members_copied at n source b x.state 0 (members_in (slice_get st.ctx.classes n))) _
      (members_copied at n source b x.state 0 (members_in (slice_get st.ctx.classes n)) i) (λ d j. j))

-- Bodies

abbrev Whole : State → Type 0
Whole x = AllOwned (round_of x)

-- into an object, nothing changes round it
inside : (func words : ℕ) (st : State) (n : ℕ) → InBody func words (round_of st) → InBody func words (round_of (in_object st n))
inside func words st n h = record { all = h.all; known = h.known; counted = h.counted }

block_keeps : (s : List Lexeme) (st : State) (h : Header) (n func words : ℕ) (x : Giving) (parts : Done) (t : syntax.Tree) → InBody func words (round_of st)
    → ((p : ℕ) → Gathers p words x) → ((p : ℕ) → PartsEnd p (given_all p x.given) x.state parts) → InBody func words (round_of parts.state)
    → On Whole (Members.constructor_block lambdas_of s st h n func parts t)
block_keeps s st h n func words x parts (syntax.node kind q token kids) o i j l =
    bind (λ (d : Done). ((p : ℕ) → Ends p parts.state d) × InBody func words (round_of d.state)) Whole (statements_of lambdas_of s parts.state kids) _
    (both (λ (d : Done). (p : ℕ) → Ends p parts.state d) (λ (d : Done). InBody func words (round_of d.state)) (statements_of lambdas_of s parts.state kids)
    (in_body lambdas_of lambdas_law s parts.state kids (j 0).own)
    (keeping.statements (InBody func words) lambdas_of (in_keep func words) s parts.state kids l))
    (λ d z. made_keep func words st h.at (Members.constructor_tree (at_of q) parts.trees d.trees) d.state o.all.defaults z.1
    (λ p. constructor_counts p (at_of q) words x parts d (i p) (j p) (z.0 p)))

begins : (p words : ℕ) (e : State) → Enters words e → Gathers p words (record { state = e; given = [] })
begins p words e i = record { counted = let r : used (place p) e.work ≡ room (place p) words = ap (room (place p)) i.frame in omega arith; own = i.own }

constructor_keeps : (s : List Lexeme) (st : State) (h : Header) (n func : ℕ) (inits : syntax.Trees) (t : syntax.Tree)
    → InBody func (1 + length h.params) (round_of st) → On Whole (Members.constructor_body lambdas_of s st h n func inits t)
constructor_keeps s st h n func inits t o =
    bind (λ (e : State). Enters words e × InBody func words (round_of e)) Whole (with_parameters s (in_object st n) h.params) _
    (both (Enters words) (λ (e : State). InBody func words (round_of e)) (with_parameters s (in_object st n) h.params)
    (parameters s (in_object st n) 1 h.params (in_object_enters st n o.all.defaults))
    (keeping.parameters (InBody func words) s (in_object st n) h.params (inside func words st n o)))
    (λ e i. bind (λ (x : Giving). ((p : ℕ) → Gathers p words x) × InBody func words (round_of x.state)) Whole
    (Members.all_given lambdas_of s n (record { state = e; given = [] }) inits) _
    (both (λ (x : Giving). (p : ℕ) → Gathers p words x) (λ (x : Giving). InBody func words (round_of x.state))
    (Members.all_given lambdas_of s n (record { state = e; given = [] }) inits)
    (on_all (λ p x. Gathers p words x) (Members.all_given lambdas_of s n (record { state = e; given = [] }) inits)
    (λ p. constructors.all_given p lambdas_of lambdas_law s n words (record { state = e; given = [] }) inits (begins p words e i.0)))
    (all_given (InBody func words) lambdas_of (in_keep func words) s n (record { state = e; given = [] }) inits i.1))
    (λ x j. bind (λ (d : Done). ((p : ℕ) → PartsEnd p (given_all p x.given) x.state d) × InBody func words (round_of d.state)) Whole
    (Members.parts_built x.state h.at n x.given) _
    (both (λ (d : Done). (p : ℕ) → PartsEnd p (given_all p x.given) x.state d) (λ (d : Done). InBody func words (round_of d.state))
    (Members.parts_built x.state h.at n x.given)
    (on_all (λ p d. PartsEnd p (given_all p x.given) x.state d) (Members.parts_built x.state h.at n x.given)
    (λ p. constructors.parts_built p x.state h.at n x.given (j.0 0).own))
    (parts_built (InBody func words) x.state h.at n x.given j.1))
    (λ d l. block_keeps s st h n func words x d t o j.0 l.0 l.1)))
  where
    words : ℕ
    words = 1 + length h.params

pub constructors_bodies_law : ConstructorsKeepBodies
constructors_bodies_law s st h n func inits t x all l w e = held_by Whole (Members.constructor_body lambdas_of s st h n func inits t) x
    (constructor_keeps s st h n func inits t (record { all = all; known = l; counted = w })) e

destructor_keeps : (s : List Lexeme) (st : State) (h : Header) (n func : ℕ) (t : syntax.Tree) → InBody func 1 (round_of st)
    → On Whole (Members.destructor_body lambdas_of s st h n func t)
destructor_keeps s st h n func (syntax.node kind q token kids) o =
    bind (λ (d : Done). ((p : ℕ) → Ends p (in_object st n) d) × InBody func 1 (round_of d.state)) Whole (statements_of lambdas_of s (in_object st n) kids) _
    (both (λ (d : Done). (p : ℕ) → Ends p (in_object st n) d) (λ (d : Done). InBody func 1 (round_of d.state)) (statements_of lambdas_of s (in_object st n) kids)
    (in_body lambdas_of lambdas_law s (in_object st n) kids o.all.defaults)
    (keeping.statements (InBody func 1) lambdas_of (in_keep func 1) s (in_object st n) kids (inside func 1 st n o)))
    (λ d z. made_keep func 1 st h.at (Members.destructor_tree d.state.ctx h.at (at_of q) n d.trees) d.state o.all.defaults z.1
    (λ p. let i = (z.0 p).counted in let r = destructor_held p d.state.ctx h.at (at_of q) n d.trees in omega arith))

pub destructors_bodies_law : DestructorsKeepBodies
destructors_bodies_law s st h n func t x all l w e = held_by Whole (Members.destructor_body lambdas_of s st h n func t) x
    (destructor_keeps s st h n func t (record { all = all; known = l; counted = w })) e

-- a constructor of these parts
parts_keep : (st : State) (at : At) (func words : ℕ) (e : State) (d : Done) → InBody func words (round_of st) → Enters words e
    → ((p : ℕ) → PartsEnd p 0 e d) → InBody func words (round_of d.state) → On Whole (Implicit.constructor_made st at func d)
parts_keep st at func words e d o h i j = made_keep func words st at (Members.constructor_tree at d.trees none) d.state o.all.defaults j (λ p.
    let a = (i p).counted in let c = constructor_held p at d.trees none in
    let r : used (place p) e.work ≡ room (place p) words = ap (room (place p)) h.frame in omega arith)

constructor_implied : (st : State) (at : At) (func n : ℕ) (ps : Typs) → InBody func (1 + copy_words ps) (round_of st)
    → On Whole (Implicit.constructor_implied st at func n ps)
constructor_implied st at func n (and_typ t ps) o =
    bind (λ (d : Done). ((p : ℕ) → PartsEnd p 0 into d) × InBody func 2 (round_of d.state)) Whole
    (Implicit.parts_copied into at n (Implicit.source_object n t at) (Implicit.source_const t)) _
    (both (λ (d : Done). (p : ℕ) → PartsEnd p 0 into d) (λ (d : Done). InBody func 2 (round_of d.state))
    (Implicit.parts_copied into at n (Implicit.source_object n t at) (Implicit.source_const t))
    (on_all (λ p d. PartsEnd p 0 into d) (Implicit.parts_copied into at n (Implicit.source_object n t at) (Implicit.source_const t))
    (λ p. copied.parts_copied p into at n (Implicit.source_object n t at) (Implicit.source_const t) (copied.source_object p n t at) o.all.defaults))
    (parts_copied (InBody func 2) into at n (Implicit.source_object n t at) (Implicit.source_const t)
    (record { all = o.all; known = o.known; counted = o.counted })))
    (λ d i. parts_keep st at func 2 into d o (copied.source_enters st n t o.all.defaults) i.0 i.1)
  where
    into : State
    into = with_source (in_object st n) t
constructor_implied st at func n no_typs o =
    bind (λ (d : Done). ((p : ℕ) → PartsEnd p 0 (in_object st n) d) × InBody func 1 (round_of d.state)) Whole (Members.parts_built (in_object st n) at n []) _
    (both (λ (d : Done). (p : ℕ) → PartsEnd p 0 (in_object st n) d) (λ (d : Done). InBody func 1 (round_of d.state))
    (Members.parts_built (in_object st n) at n [])
    (on_all (λ p d. PartsEnd p 0 (in_object st n) d) (Members.parts_built (in_object st n) at n [])
    (λ p. constructors.parts_built p (in_object st n) at n [] o.all.defaults))
    (parts_built (InBody func 1) (in_object st n) at n [] (inside func 1 st n o)))
    (λ d i. parts_keep st at func 1 (in_object st n) d o (in_object_enters st n o.all.defaults) i.0 i.1)

implied_keeps : (st : State) (at : At) (func n : ℕ) (kind : FuncKind) (ps : Typs) → InBody func (implied_words kind ps) (round_of st)
    → On Whole (Implicit.body_implied st at func n kind ps)
implied_keeps st at func n Destructor ps o =
    made_keep func 1 st at (Members.destructor_tree st.ctx at at n none) (in_object st n) o.all.defaults (inside func 1 st n o)
    (λ p. let i = destructor_held p st.ctx at at n none in omega arith)
implied_keeps st at func n kind ps o = constructor_implied st at func n ps o

pub implied_bodies_law : ImpliedKeepBodies
implied_bodies_law st at func n kind ps x all l w e =
    held_by Whole (Implicit.body_implied st at func n kind ps) x (implied_keeps st at func n kind ps (record { all = all; known = l; counted = w })) e

-- Initialisers of members: they have no bodies, but the lambdas in them do

whole_value : (s : List Lexeme) (st : State) (t : Typ) (e : syntax.Tree) → Whole st
    → On (keeping.Ends AllOwned) (and_then (Statements.full_operand lambdas_of s st e)
    (λ (f : Statements.Full). and_then (Statements.copy_initialised f.state.ctx f.state.work t f.operand)
    (λ (m : Made). Ok (record { trees = one (Statements.full f.operand.at m.tree); state = with_work f.state m.work }))))
whole_value s st t e h = bind (λ (f : Statements.Full). Whole f.state) (keeping.Ends AllOwned) (Statements.full_operand lambdas_of s st e) _
    (keeping.full_operand AllOwned lambdas_of lambdas_keep s st e h)
    (λ f i. skip (keeping.Ends AllOwned) (Statements.copy_initialised f.state.ctx f.state.work t f.operand) _ (λ m. i))

value_keeps : (s : List Lexeme) (st : State) (t : Typ) (e : syntax.Tree) (b : Bool) (o : Option ℕ) → Whole st
    → On (keeping.Ends AllOwned) (Members.default_value lambdas_of s st t e b o)
value_keeps s st t e true (Some i) h = skip (keeping.Ends AllOwned) (string_object st.ctx t (syntax_place e) (string_bytes (spelling s i))) _ (λ x. h)
value_keeps s st t e true None h = whole_value s st t e h
value_keeps s st t e false o h = whole_value s st t e h

abbrev Bodied : State → Type 0
Bodied x = BodiesOwn x.ctx.funcs x.bodies

one_default : (s : List Lexeme) (st : State) (n i : ℕ) (t : Typ) (e : syntax.Tree) → Whole st → On Whole (Members.default_made lambdas_of s st n i t e)
one_default s st n i t e h = turn (λ (x : State). DefaultsOwn x.ctx.defaults × Bodied x) Whole (Members.default_made lambdas_of s st n i t e)
    (λ x j. record { defaults = j.0; bodies = j.1 })
    (both (λ (x : State). DefaultsOwn x.ctx.defaults) Bodied (Members.default_made lambdas_of s st n i t e)
    (default_made lambdas_of lambdas_law s st n i t e h.defaults)
    (bind (keeping.Ends AllOwned) Bodied (Members.default_value lambdas_of s (in_object st n) t e (is_char_array t) (string_token e)) _
    (value_keeps s (in_object st n) t e (is_char_array t) (string_token e) (record { defaults = h.defaults; bodies = h.bodies }))
    (λ d j. j.bodies)))

default_for : (s : List Lexeme) (st : State) (n : ℕ) (i : Option ℕ) (e : Option syntax.Tree) → Whole st → On Whole (Members.default_for lambdas_of s st n i e)
default_for s st n (Some i) (Some e) h = one_default s st n i (Members.member_type (slice_get (members_in (slice_get st.ctx.classes n)) i)) e h
default_for s st n (Some i) None h = h
default_for s st n None e h = h

default_of : (s : List Lexeme) (n : ℕ) (st : State) (t : syntax.Tree) → Whole st → On Whole (Members.default_of lambdas_of s n st t)
default_of s n st (syntax.node k.MemberDeclarator p (Some t) kids) h =
    default_for s st n (Members.member_index 0 (spelling s t) (members_in (slice_get st.ctx.classes n))) (Members.initialiser_in kids) h
default_of s n st t h = h

defaults_of : (s : List Lexeme) (n : ℕ) (st : State) (t : syntax.Tree) → Whole st → On Whole (Members.defaults_of lambdas_of s n st t)
defaults_of s n st (syntax.node k.MemberDeclaration p token kids) h = each_keeps Whole (Members.default_of lambdas_of s n) (λ x t i. default_of s n x t i) st kids h
defaults_of s n st t h = h

pub defaults_bodies_law : DefaultsKeepBodies
defaults_bodies_law s n st ts x h e = held_by Whole (Members.all_defaults lambdas_of s n st ts) x
    (each_keeps Whole (Members.defaults_of lambdas_of s n) (λ y t i. defaults_of s n y t i) st ts h) e
