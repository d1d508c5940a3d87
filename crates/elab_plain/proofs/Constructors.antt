-- Bodies of constructors and destructors, and the initialisers of members and bases, declare plainly: parts are told by their offset in the object at hand.
use Rattle.std.proofs.Common.{◌≡◌, refl, ℕ, suc, ◌+◌, false, List, [], ◌∷◌, ◌++◌, length, Option, Some, None, is_none, slice_get, arith}
use Rattle.std.specs.Prelude.{not}
use Rattle.elab_rules.specs.cpp_types.Typ.{Typ, class}
use Rattle.elab_rules.specs.cpp_types.Class.{Member}
use Rattle.elab_rules.specs.cpp_types.declared.classes.At.{At}
use Rattle.elab_rules.specs.cpp_lex.Tokens.{Lexeme}
use Rattle.elab_rules.specs.cpp_ast.declared.kinds.NodeKind.TheVariants as k
use Rattle.elab_rules.specs.cpp_ast.Trees as syntax
use Rattle.elab_rules.specs.cpp_tree.declared.kinds.TKind.TheVariants as forms
use Rattle.elab_rules.specs.cpp_tree.declared.faults.IllRule.TheVariants.{Redeclared, NoMember, UnknownName, OutOfProfile}
use Rattle.elab_rules.specs.cpp_tree.Trees.{Tree, Trees, none, more, one, kind_of}
use Rattle.elab_rules.specs.cpp_tree.Notation.{plain}
use Rattle.elab_rules.specs.cpp_tree.Typing.{unqualified}
use Rattle.elab_rules.specs.elab_ctx.Ctx.{Ctx, Default}
use Rattle.elab_rules.specs.elab_ctx.Steps.{expect, check, at_of, spelling, Made}
use Rattle.elab_rules.specs.Objects
use Rattle.elab_rules.specs.Objects.{followed_by}
use Rattle.elab_rules.specs.Names.{this_pointer, members_in, offset_at}
use Rattle.elab_rules.specs.Calls.{pointer_offset, base_of_class}
use Rattle.elab_rules.specs.Types.{type_named}
use Rattle.elab_rules.specs.Braces.{default_at, default_whole}
use Rattle.elab_rules.specs.Expressions.{operands_of}
use Rattle.elab_rules.specs.Statements
use Rattle.elab_rules.specs.Statements.{State, Done, Lambdas, statement, statements_of}
use Rattle.elab_rules.specs.Functions.{Header, with_parameters}
use Rattle.elab_rules.specs.Members
use Rattle.elab_rules.specs.Members.{Given, Giving, in_object, own_this, own_part, own_base}
use Rattle.elab_places.proofs.Counting.{declaring, operands_held, Gives}
use Rattle.elab_places.proofs.Steps.{On, bind, skip, choose}
use Rattle.elab_places.proofs.Owned.{no_room}
use Rattle.elab_places.proofs.Parts as parts
use Rattle.elab_places.proofs.Names as names
use Rattle.elab_places.proofs.Expressions as expressions
use Rattle.elab_places.proofs.Relocated as relocated
use Rattle.elab_places.proofs.Braces.{FoundOwns, default_found}
use Rattle.elab_places.proofs.Declaring as told
use Rattle.elab_places.proofs.Keeping as keeping
use Rattle.elab_plain.specs.Plain.{RoundPlain}
use Rattle.elab_plain.proofs.Counting.{choice, choosing, all_choosing, of_none, all_of_none, made, followed}
use Rattle.elab_plain.proofs.Declaring.{StatePlain, KeepsPlain, Ends, full_plain, all_lambdas}
use Rattle.elab_plain.proofs.Statements.{statements}
use Rattle.elab_plain.proofs.Bodies.{made_plain}

-- What is given for parts

abbrev GivenPlain : List Given → Type 0
GivenPlain [] = Unit {0}
GivenPlain (x ∷ gs) = (choosing x.tree ≡ 0) × GivenPlain gs

abbrev FoundPlain : Option Given → Type 0
FoundPlain (Some x) = choosing x.tree ≡ 0
FoundPlain None = Unit {0}

found : (i : Option ℕ) (gs : List Given) → GivenPlain gs → FoundPlain (Members.given_for i gs)
found i [] h = tt
found i (x ∷ gs) h = choose FoundPlain (Members.same_part i x.member) (Some x) (Members.given_for i gs) h.0 (found i gs h.1)

given_more : (gs : List Given) (x : Given) → GivenPlain gs → choosing x.tree ≡ 0 → GivenPlain (gs ++ x ∷ [])
given_more [] x h i = (i, tt)
given_more (y ∷ gs) x h i = (h.0, given_more gs x h.1 i)

-- Initialisers in the order of the text

record Gathers (x : Giving) : Type 0 where
  given : GivenPlain x.given
  own : StatePlain x.state

module _ (lams : Lambdas) (keeps : KeepsPlain lams) (s : List Lexeme) (n : ℕ) where
  given_values : (x : Giving) (st : State) (i : Option ℕ) (at : At) (t : Typ) (es : syntax.Trees) → Gathers x → StatePlain st
      → On Gathers (Members.given_values lams s n x st i at t es)
  given_values x st i at t es h j = bind (expressions.GivesOperands declaring 0 st.work) Gathers (operands_of s st.ctx st.work es) _
      (expressions.operands declaring s st.ctx st.ctx.closures st.work es)
      (λ xs l. bind (Gives declaring (operands_held declaring xs.operands) xs.work) Gathers
      (Statements.directly_initialised (Members.for_part st.ctx n i) xs.work t at xs.operands) _
      (told.directly_initialised declaring (Members.for_part st.ctx n i) xs.work t at xs.operands)
      (λ m q. record {
        given = given_more x.given (record { member = i; at = at; tree = Statements.full (Statements.values_place t at xs.operands) m.tree }) h.given
            (full_plain (Statements.values_place t at xs.operands) m.tree
            (made (operands_held declaring xs.operands) xs.work m (omega (arith, no_room (length xs.work.frame))) q));
        own = j;
      }))

  given_part : (x : Giving) (i : Option ℕ) (at : At) (t : Typ) (es : syntax.Trees) → Gathers x
      → On Gathers (Members.given_part lams s n x i at t es)
  given_part x i at t es h = skip Gathers (check at Redeclared (is_none (Members.given_for i x.given))) _
      (λ y. bind StatePlain Gathers (Statements.all_lambdas lams s x.state es) _
      (all_lambdas lams keeps s x.state es h.own) (λ st j. given_values x st i at t es h j))

  given_base : (x : Giving) (at : At) (t : Typ) (es : syntax.Trees) → Gathers x → On Gathers (Members.given_base lams s n x at t es)
  given_base x at t es h = skip Gathers (check at OutOfProfile (not (Members.is_named_class n t))) _
      (λ y. skip Gathers (check at NoMember (Members.is_base_type (base_of_class (slice_get x.state.ctx.classes n)) t)) _
      (λ z. given_part x None at (unqualified t) es h))

  given_by : (x : Giving) (t : syntax.Tree) → Gathers x → On Gathers (Members.given_by lams s n x t)
  given_by x (syntax.node k.MemberInitializer q (Some t) es) h = skip Gathers
      (expect (at_of q) NoMember (Members.member_index 0 (spelling s t) (members_in (slice_get x.state.ctx.classes n)))) _
      (λ i. given_part x (Some i) (at_of q) (Members.member_type (slice_get (members_in (slice_get x.state.ctx.classes n)) i)) es h)
  given_by x (syntax.node k.BaseInitializer q (Some t) es) h =
      skip Gathers (expect (at_of q) UnknownName (type_named (spelling s t) x.state.ctx.types)) _ (λ (u : Typ). given_base x (at_of q) u es h)
  given_by x t h = h

  all_given : (x : Giving) (ts : syntax.Trees) → Gathers x → On Gathers (Members.all_given lams s n x ts)
  all_given x syntax.none h = h
  all_given x (syntax.more t ts) h = bind Gathers Gathers (Members.given_by lams s n x t) _ (given_by x t h) (λ y i. all_given y ts i)

-- Parts

-- an object that is told by its address
pub part_init : (c : Ctx) (at q : At) (t : Typ) (object e : Tree) → choice (kind_of object) ≡ 0 → choosing object ≡ 0 → choosing e ≡ 0
    → choosing (Members.part_init c at q t object e) ≡ 0
part_init c at q t object e h i j = let r = all_of_none (Objects.destroys c at t) (parts.destroys declaring c at t) in omega arith

base_built : (st : State) (at : At) (n : ℕ) (b : Option ℕ) (o : Option Given) → FoundPlain o
    → On (λ (ts : Trees). all_choosing ts ≡ 0) (Members.base_built st at n b o)
base_built st at n None o h = refl
base_built st at n (Some b) (Some x) h =
    let i = part_init st.ctx at x.at (plain (class b)) (own_base n x.at b) x.tree refl refl h in omega arith
base_built st at n (Some b) None h = bind (names.Bare declaring) (λ (ts : Trees). all_choosing ts ≡ 0)
    (Statements.default_object (Members.as_base_of st.ctx b) (plain (class b)) at) _
    (told.default_object declaring (Members.as_base_of st.ctx b) (plain (class b)) at)
    (λ e j. let i = part_init st.ctx at at (plain (class b)) (own_base n at b) e refl refl (of_none e j) in omega arith)

pub pointer_stored : (at : At) (n : ℕ) (o : Option ℕ) → all_choosing (Members.pointer_stored at n o) ≡ 0
pointer_stored at n None = refl
pointer_stored at n (Some offset) = refl

abbrev MadePlain : Made → Type 0
MadePlain m = choosing m.tree ≡ 0

default_built : (st : State) (at : At) (t : Typ) (o : Option Default) → FoundOwns o → On MadePlain (Members.default_built st at t o)
default_built st at t (Some d) h = of_none (default_whole st.work (λ q. this_pointer q (own_this d.class)) d).tree
    (made 0 st.work (default_whole st.work (λ q. this_pointer q (own_this d.class)) d) refl
    (relocated.default_whole declaring st.work (λ q. this_pointer q (own_this d.class)) d h (λ q. refl)))
default_built st at t None h = bind (names.Bare declaring) MadePlain (Statements.default_object st.ctx t at) _
    (told.default_object declaring st.ctx t at) (λ e i. of_none e i)

member_built : (st : State) (at : At) (n i : ℕ) (t : Typ) (o : Option Given) → StatePlain st → FoundPlain o
    → On Ends (Members.member_built st at n i t o)
member_built st at n i t (Some x) own f = record {
  counted = let h = part_init st.ctx at x.at t (own_part st.ctx.classes n x.at (offset_at st.ctx.classes n i) t) x.tree refl refl f in omega arith;
  own = own;
}
member_built st at n i t None own f = bind MadePlain Ends (Members.default_built st at t (default_at n i st.ctx.defaults)) _
    (default_built st at t (default_at n i st.ctx.defaults) (default_found n i st.ctx.defaults own.defaults))
    (λ m j. record {
      counted = let h = part_init st.ctx at at t (own_part st.ctx.classes n at (offset_at st.ctx.classes n i) t) m.tree refl refl j in omega arith;
      own = own;
    })

members_built : (at : At) (n : ℕ) (gs : List Given) (st : State) (i : ℕ) (ms : List Member) → GivenPlain gs → StatePlain st
    → On Ends (Members.members_built at n gs st i ms)
members_built at n gs st i [] g own = record { counted = refl; own = own }
members_built at n gs st i (m ∷ ms) g own = bind Ends Ends (Members.member_built st at n i m.typ (Members.given_for (Some i) gs)) _
    (member_built st at n i m.typ (Members.given_for (Some i) gs) own (found (Some i) gs g))
    (λ x h. bind Ends Ends (Members.members_built at n gs x.state (suc i) ms) _ (members_built at n gs x.state (suc i) ms g h.own)
    (λ y j. record { counted = let a = h.counted in let b = j.counted in let d = followed x.trees y.trees in omega arith; own = j.own }))

pub parts_built : (st : State) (at : At) (n : ℕ) (gs : List Given) → GivenPlain gs → StatePlain st → On Ends (Members.parts_built st at n gs)
parts_built st at n gs g own = bind (λ (ts : Trees). all_choosing ts ≡ 0) Ends
    (Members.base_built st at n (base_of_class (slice_get st.ctx.classes n)) (Members.given_for None gs)) _
    (base_built st at n (base_of_class (slice_get st.ctx.classes n)) (Members.given_for None gs) (found None gs g))
    (λ b h. bind Ends Ends (Members.members_built at n gs st 0 (members_in (slice_get st.ctx.classes n))) _
    (members_built at n gs st 0 (members_in (slice_get st.ctx.classes n)) g own)
    (λ d i. record {
      counted = let a = i.counted in
          let e = followed b (followed_by (Members.pointer_stored at n (pointer_offset st.ctx.classes n)) d.trees) in
          let f = followed (Members.pointer_stored at n (pointer_offset st.ctx.classes n)) d.trees in
          let q = pointer_stored at n (pointer_offset st.ctx.classes n) in omega arith;
      own = i.own;
    }))

-- the tree of a constructor
pub constructor_held : (at : At) (ps ts : Trees) → choosing (Members.constructor_tree at ps ts) ≡ all_choosing ps + all_choosing ts
constructor_held at ps ts = let i = followed ps (one (statement (forms.Block false) at ts)) in omega arith

-- Destructors

deferred_if : (at : At) (object : Tree) (ts : Trees) → choosing object ≡ 0 → all_choosing ts ≡ 0
    → all_choosing (Members.deferred_if at object ts) ≡ 0
deferred_if at object none h i = refl
deferred_if at object (more d ds) h i = omega arith

base_deferred : (c : Ctx) (at : At) (n : ℕ) (b : Option ℕ) → all_choosing (Members.base_deferred c at n b) ≡ 0
base_deferred c at n (Some b) = deferred_if at (own_base n at b) (Objects.destroys c at (plain (class b))) refl
    (all_of_none (Objects.destroys c at (plain (class b))) (parts.destroys declaring c at (plain (class b))))
base_deferred c at n None = refl

members_deferred : (c : Ctx) (at : At) (n i : ℕ) (ms : List Member) → all_choosing (Members.members_deferred c at n i ms) ≡ 0
members_deferred c at n i [] = refl
members_deferred c at n i (m ∷ ms) = let d = all_of_none (Objects.destroys c at m.typ) (parts.destroys declaring c at m.typ) in
    let e = deferred_if at (own_part c.classes n at (offset_at c.classes n i) m.typ) (Objects.destroys c at m.typ) refl d in
    let r = members_deferred c at n (suc i) ms in
    let f = followed (Members.deferred_if at (own_part c.classes n at (offset_at c.classes n i) m.typ) (Objects.destroys c at m.typ))
    (Members.members_deferred c at n (suc i) ms) in omega arith

pub destructor_held : (c : Ctx) (at q : At) (n : ℕ) (ts : Trees) → choosing (Members.destructor_tree c at q n ts) ≡ all_choosing ts
destructor_held c at q n ts =
    let a = pointer_stored at n (pointer_offset c.classes n) in let b = base_deferred c at n (base_of_class (slice_get c.classes n)) in
    let d = members_deferred c at n 0 (members_in (slice_get c.classes n)) in
    let u = followed (Members.members_deferred c at n 0 (members_in (slice_get c.classes n))) (one (statement (forms.Block false) q ts)) in
    let v = followed (Members.base_deferred c at n (base_of_class (slice_get c.classes n)))
    (followed_by (Members.members_deferred c at n 0 (members_in (slice_get c.classes n))) (one (statement (forms.Block false) q ts))) in
    let w = followed (Members.pointer_stored at n (pointer_offset c.classes n))
    (followed_by (Members.base_deferred c at n (base_of_class (slice_get c.classes n)))
    (followed_by (Members.members_deferred c at n 0 (members_in (slice_get c.classes n))) (one (statement (forms.Block false) q ts)))) in omega arith

-- Bodies

module _ (lams : Lambdas) (keeps : KeepsPlain lams) (s : List Lexeme) where
  block_made : (st : State) (h : Header) (n func : ℕ) (parts : Done) (t : syntax.Tree) → StatePlain st → Ends parts
      → On StatePlain (Members.constructor_block lams s st h n func parts t)
  block_made st h n func parts (syntax.node kind q token kids) own i =
      bind Ends StatePlain (statements_of lams s parts.state kids) _ (statements lams keeps s parts.state kids i.own)
      (λ d j. made_plain st h.at func (Members.constructor_tree (at_of q) parts.trees d.trees) d.state own.defaults j.own
      (let a = i.counted in let b = j.counted in let e = constructor_held (at_of q) parts.trees d.trees in omega arith))

  pub constructor_plain : (st : State) (h : Header) (n func : ℕ) (inits : syntax.Trees) (t : syntax.Tree) → StatePlain st
      → On StatePlain (Members.constructor_body lams s st h n func inits t)
  constructor_plain st h n func inits t own = bind StatePlain StatePlain (with_parameters s (in_object st n) h.params) _
      (keeping.parameters RoundPlain s (in_object st n) h.params (record { defaults = own.defaults; bodies = own.bodies }))
      (λ e i. bind Gathers StatePlain (Members.all_given lams s n (record { state = e; given = [] }) inits) _
      (all_given lams keeps s n (record { state = e; given = [] }) inits (record { given = tt; own = i }))
      (λ x j. bind Ends StatePlain (Members.parts_built x.state h.at n x.given) _ (parts_built x.state h.at n x.given j.given j.own)
      (λ d l. block_made st h n func d t own l)))

  pub destructor_plain : (st : State) (h : Header) (n func : ℕ) (t : syntax.Tree) → StatePlain st
      → On StatePlain (Members.destructor_body lams s st h n func t)
  destructor_plain st h n func (syntax.node kind q token kids) own =
      bind Ends StatePlain (statements_of lams s (in_object st n) kids) _
      (statements lams keeps s (in_object st n) kids (record { defaults = own.defaults; bodies = own.bodies }))
      (λ d l. made_plain st h.at func (Members.destructor_tree d.state.ctx h.at (at_of q) n d.trees) d.state own.defaults l.own
      (let a = l.counted in let r = destructor_held d.state.ctx h.at (at_of q) n d.trees in omega arith))
