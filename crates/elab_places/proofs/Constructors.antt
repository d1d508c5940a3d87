-- Bodies of constructors and destructors, and the initialisers of members and bases.
use Rattle.std.proofs.Common.{◌≡◌, refl, ap, ℕ, suc, ◌+◌, ◌≤◌, Bool, true, false, leb, List, [], ◌∷◌, ◌++◌, length, Option, Some, None}
use Rattle.std.proofs.Common.{is_none, slice_get, arith, eqb-true, le-leb, leb-true}
use Rattle.std.specs.Prelude.{if◌then◌else◌, not, nat_eq}
use Rattle.elab_rules.specs.cpp_types.Typ.{Typ, class}
use Rattle.elab_rules.specs.cpp_types.Class.{Member}
use Rattle.elab_rules.specs.cpp_types.declared.classes.At.{At}
use Rattle.elab_rules.specs.cpp_lex.Tokens.{Lexeme}
use Rattle.elab_rules.specs.cpp_ast.declared.kinds.NodeKind.TheVariants as k
use Rattle.elab_rules.specs.cpp_ast.Trees as syntax
use Rattle.elab_rules.specs.cpp_tree.declared.kinds.TKind.TheVariants as forms
use Rattle.elab_rules.specs.cpp_tree.declared.faults.IllRule.TheVariants.{Redeclared, NoMember, UnknownName, OutOfProfile}
use Rattle.elab_rules.specs.cpp_tree.Trees.{Tree, Trees, none, more, one, kind_of}
use Rattle.elab_rules.specs.cpp_tree.Notation.{plain}
use Rattle.elab_rules.specs.cpp_tree.Typing.{unqualified}
use Rattle.elab_rules.specs.elab_ctx.Ctx.{Ctx, Default}
use Rattle.elab_rules.specs.elab_ctx.Steps.{expect, check, at_of, spelling}
use Rattle.elab_rules.specs.Objects
use Rattle.elab_rules.specs.Objects.{followed_by}
use Rattle.elab_rules.specs.Names.{this_pointer, members_in, offset_at}
use Rattle.elab_rules.specs.Calls.{pointer_offset, base_of_class}
use Rattle.elab_rules.specs.Types.{type_named}
use Rattle.elab_rules.specs.Braces.{default_at}
use Rattle.elab_rules.specs.Expressions.{operands_of}
use Rattle.elab_rules.specs.Statements
use Rattle.elab_rules.specs.Statements.{State, Done, Lambdas, statement, statements_of, with_work}
use Rattle.elab_rules.specs.Functions.{Header, with_parameters}
use Rattle.elab_rules.specs.Members
use Rattle.elab_rules.specs.Members.{Given, Giving, in_object, own_this, own_part, own_base}
use Rattle.elab_places.specs.Bodies.{DefaultsOwn, LeavesFrame}
use Rattle.elab_places.specs.Functions.{MakesBody, ConstructorBodiesOwn, DestructorBodiesOwn}
use Rattle.elab_places.proofs.Counting.{place, local_count, held, all_held, operands_held, used, room, Gives, same}
use Rattle.elab_places.proofs.Steps.{On, bind, skip, held_by}
use Rattle.elab_places.proofs.Owned.{declared_none}
use Rattle.elab_places.proofs.Parts as parts
use Rattle.elab_places.proofs.Names as names
use Rattle.elab_places.proofs.Expressions as expressions
use Rattle.elab_places.proofs.Relocated as relocated
use Rattle.elab_places.proofs.Braces.{FoundOwns, default_found}
use Rattle.elab_places.proofs.Declaring as declaring
use Rattle.elab_places.proofs.Declaring.{Ends, Stays, full}
use Rattle.elab_places.proofs.Bodies.{on_all, Enters, parameters, in_body, body_is_made}

-- Each initialiser is used for one part: the first that is given for it

abbrev pick : Bool → ℕ → ℕ → ℕ
pick true h f = h
pick false h f = f

abbrev if_so : Bool → ℕ → ℕ
if_so true h = h
if_so false h = 0

-- what is given for members from an index on
abbrev kept_from : ℕ → Option ℕ → ℕ → ℕ
kept_from i (Some j) h = if_so (leb i j) h
kept_from i None h = 0

so_less : (i j h : ℕ) → if_so (leb (suc i) j) h ≤ if_so (leb i j) h
so_less i j h = way (leb (suc i) j) refl
  where
    way : (b : Bool) → leb (suc i) j ≡ b → if_so (leb (suc i) j) h ≤ if_so (leb i j) h
    way true e = let l : suc i ≤ j = leb-true (suc i) j e in let q : if_so (leb i j) h ≡ h = ap (λ (b : Bool). if_so b h) (le-leb i j (omega arith)) in
        let r : if_so (leb (suc i) j) h ≡ h = ap (λ (b : Bool). if_so b h) e in omega arith
    way false e = let r : if_so (leb (suc i) j) h ≡ 0 = ap (λ (b : Bool). if_so b h) e in omega arith

so_most : (b : Bool) (h : ℕ) → if_so b h ≤ h
so_most true h = same h
so_most false h = omega arith

-- an index is no more than itself
so_none : (i j h : ℕ) → i ≡ j → if_so (leb (suc i) j) h ≡ 0
so_none i j h e = way (leb (suc i) j) refl
  where
    way : (b : Bool) → leb (suc i) j ≡ b → if_so (leb (suc i) j) h ≡ 0
    way true d = let l : suc i ≤ j = leb-true (suc i) j d in absurd (omega arith)
    way false d = ap (λ (b : Bool). if_so b h) d

one_first : (i : ℕ) (m : Option ℕ) (h n1 n2 f : ℕ) → f + n1 ≤ n2
    → pick (Members.same_part (Some i) m) h f + (kept_from (suc i) m h + n1) ≤ kept_from i m h + n2
one_first i None h n1 n2 f l = omega arith
one_first i (Some j) h n1 n2 f l = way (nat_eq i j) refl
  where
    way : (b : Bool) → nat_eq i j ≡ b → pick (nat_eq i j) h f + (if_so (leb (suc i) j) h + n1) ≤ if_so (leb i j) h + n2
    way true e = let d : i ≡ j = eqb-true i j e in let q : pick (nat_eq i j) h f ≡ h = ap (λ (b : Bool). pick b h f) e in
        let r = so_none i j h d in let u : if_so (leb i j) h ≡ h = ap (λ (b : Bool). if_so b h) (le-leb i j (omega arith)) in omega arith
    way false e = let q : pick (nat_eq i j) h f ≡ f = ap (λ (b : Bool). pick b h f) e in let r = so_less i j h in omega arith

base_first : (m : Option ℕ) (h n1 n2 f : ℕ) → f + n1 ≤ n2 → pick (Members.same_part None m) h f + (kept_from 0 m h + n1) ≤ h + n2
base_first None h n1 n2 f l = omega arith
base_first (Some j) h n1 n2 f l = let q = so_most (leb 0 j) h in omega arith

module _ (p : ℕ) where
  abbrev pub given_all : List Given → ℕ
  given_all [] = 0
  given_all (x ∷ gs) = held (place p) x.tree + given_all gs

  abbrev given_from : ℕ → List Given → ℕ
  given_from i [] = 0
  given_from i (x ∷ gs) = kept_from i x.member (held (place p) x.tree) + given_from i gs

  abbrev found_held : Option Given → ℕ
  found_held (Some x) = held (place p) x.tree
  found_held None = 0

  picked : (b : Bool) (x : Given) (o : Option Given) → found_held (if b then Some x else o) ≡ pick b (held (place p) x.tree) (found_held o)
  picked true x o = refl
  picked false x o = refl

  first_given : (i : ℕ) (gs : List Given) → found_held (Members.given_for (Some i) gs) + given_from (suc i) gs ≤ given_from i gs
  first_given i [] = omega arith
  first_given i (x ∷ gs) = let q = picked (Members.same_part (Some i) x.member) x (Members.given_for (Some i) gs) in
      let r = one_first i x.member (held (place p) x.tree) (given_from (suc i) gs) (given_from i gs) (found_held (Members.given_for (Some i) gs))
      (first_given i gs) in omega arith

  base_given : (gs : List Given) → found_held (Members.given_for None gs) + given_from 0 gs ≤ given_all gs
  base_given [] = omega arith
  base_given (x ∷ gs) = let q = picked (Members.same_part None x.member) x (Members.given_for None gs) in
      let r = base_first x.member (held (place p) x.tree) (given_from 0 gs) (given_all gs) (found_held (Members.given_for None gs)) (base_given gs) in omega arith

  given_more : (gs : List Given) (x : Given) → given_all (gs ++ x ∷ []) ≡ given_all gs + held (place p) x.tree
  given_more [] x = omega arith
  given_more (y ∷ gs) x = let i = given_more gs x in omega arith

  -- Initialisers in the order of the text

  pub record Gathers (words : ℕ) (x : Giving) : Type 0 where
    pub counted : given_all x.given + room (place p) words ≤ used (place p) x.state.work
    pub own : DefaultsOwn x.state.ctx.defaults

  module _ (lams : Lambdas) (leaves : LeavesFrame lams) (s : List Lexeme) (n words : ℕ) where
    given_values : (x : Giving) (st : State) (i : Option ℕ) (at : At) (t : Typ) (es : syntax.Trees) → Gathers words x → Stays p x.state st
        → On (Gathers words) (Members.given_values lams s n x st i at t es)
    given_values x st i at t es h j = bind (expressions.GivesOperands (place p) 0 st.work) (Gathers words) (operands_of s st.ctx st.work es) _
        (expressions.operands (place p) s st.ctx st.ctx.closures st.work es)
        (λ xs l. bind (Gives (place p) (operands_held (place p) xs.operands) xs.work) (Gathers words)
        (Statements.directly_initialised (Members.for_part st.ctx n i) xs.work t at xs.operands) _
        (declaring.directly_initialised (place p) (Members.for_part st.ctx n i) xs.work t at xs.operands)
        (λ m q. record {
          counted = let a = h.counted in let b = j.counted in let f = full (place p) (Statements.values_place t at xs.operands) m.tree in
              let d = given_more x.given (record { member = i; at = at; tree = Statements.full (Statements.values_place t at xs.operands) m.tree }) in omega arith;
          own = j.own;
        }))

    given_part : (x : Giving) (i : Option ℕ) (at : At) (t : Typ) (es : syntax.Trees) → Gathers words x
        → On (Gathers words) (Members.given_part lams s n x i at t es)
    given_part x i at t es h = skip (Gathers words) (check at Redeclared (is_none (Members.given_for i x.given))) _
        (λ y. bind (Stays p x.state) (Gathers words) (Statements.all_lambdas lams s x.state es) _
        (declaring.all_lambdas_stay p lams leaves s x.state es h.own) (λ st j. given_values x st i at t es h j))

    given_base : (x : Giving) (at : At) (t : Typ) (es : syntax.Trees) → Gathers words x → On (Gathers words) (Members.given_base lams s n x at t es)
    given_base x at t es h = skip (Gathers words) (check at OutOfProfile (not (Members.is_named_class n t))) _
        (λ y. skip (Gathers words) (check at NoMember (Members.is_base_type (base_of_class (slice_get x.state.ctx.classes n)) t)) _
        (λ z. given_part x None at (unqualified t) es h))

    given_by : (x : Giving) (t : syntax.Tree) → Gathers words x → On (Gathers words) (Members.given_by lams s n x t)
    given_by x (syntax.node k.MemberInitializer q (Some t) es) h = skip (Gathers words)
        (expect (at_of q) NoMember (Members.member_index 0 (spelling s t) (members_in (slice_get x.state.ctx.classes n)))) _
        (λ i. given_part x (Some i) (at_of q) (Members.member_type (slice_get (members_in (slice_get x.state.ctx.classes n)) i)) es h)
    given_by x (syntax.node k.BaseInitializer q (Some t) es) h =
        skip (Gathers words) (expect (at_of q) UnknownName (type_named (spelling s t) x.state.ctx.types)) _ (λ (u : Typ). given_base x (at_of q) u es h)
    given_by x t h = h

    pub all_given : (x : Giving) (ts : syntax.Trees) → Gathers words x → On (Gathers words) (Members.all_given lams s n x ts)
    all_given x syntax.none h = h
    all_given x (syntax.more t ts) h = bind (Gathers words) (Gathers words) (Members.given_by lams s n x t) _ (given_by x t h) (λ y i. all_given y ts i)

  -- Parts

  pub record PartsEnd (b : ℕ) (st : State) (d : Done) : Type 0 where
    pub counted : all_held (place p) d.trees + used (place p) st.work ≤ b + used (place p) d.state.work
    pub own : DefaultsOwn d.state.ctx.defaults

  -- an object that is told by its address
  pub part_init : (c : Ctx) (at q : At) (t : Typ) (object e : Tree) → local_count (place p) (kind_of object) ≡ 0 → held (place p) object ≡ 0
      → held (place p) (Members.part_init c at q t object e) ≤ held (place p) e
  part_init c at q t object e h i = let d = declared_none p in let r = parts.destroys (place p) c at t in omega arith

  base_built : (st : State) (at : At) (n : ℕ) (b : Option ℕ) (o : Option Given)
      → On (λ (ts : Trees). all_held (place p) ts ≤ found_held o) (Members.base_built st at n b o)
  base_built st at n None o = omega arith
  base_built st at n (Some b) (Some x) =
      let i = part_init st.ctx at x.at (plain (class b)) (own_base n x.at b) x.tree refl refl in omega arith
  base_built st at n (Some b) None = bind (names.Bare (place p)) (λ (ts : Trees). all_held (place p) ts ≤ 0)
      (Statements.default_object (Members.as_base_of st.ctx b) (plain (class b)) at) _
      (declaring.default_object (place p) (Members.as_base_of st.ctx b) (plain (class b)) at)
      (λ e h. let i = part_init st.ctx at at (plain (class b)) (own_base n at b) e refl refl in omega arith)

  pub pointer_stored : (at : At) (n : ℕ) (o : Option ℕ) → all_held (place p) (Members.pointer_stored at n o) ≡ 0
  pointer_stored at n None = refl
  pointer_stored at n (Some offset) = refl

  default_built : (st : State) (at : At) (t : Typ) (o : Option Default) → FoundOwns o → On (Gives (place p) 0 st.work) (Members.default_built st at t o)
  default_built st at t (Some d) h = relocated.default_whole (place p) st.work (λ q. this_pointer q (own_this d.class)) d h (λ q. refl)
  default_built st at t None h = bind (names.Bare (place p)) (Gives (place p) 0 st.work) (Statements.default_object st.ctx t at) _
      (declaring.default_object (place p) st.ctx t at) (λ e i. omega arith)

  member_built : (st : State) (at : At) (n i : ℕ) (t : Typ) (o : Option Given) → DefaultsOwn st.ctx.defaults
      → On (PartsEnd (found_held o) st) (Members.member_built st at n i t o)
  member_built st at n i t (Some x) own = record {
    counted = let h = part_init st.ctx at x.at t (own_part st.ctx.classes n x.at (offset_at st.ctx.classes n i) t) x.tree refl refl in omega arith;
    own = own;
  }
  member_built st at n i t None own = bind (Gives (place p) 0 st.work) (PartsEnd 0 st) (Members.default_built st at t (default_at n i st.ctx.defaults)) _
      (default_built st at t (default_at n i st.ctx.defaults) (default_found n i st.ctx.defaults own))
      (λ m j. record {
        counted = let h = part_init st.ctx at at t (own_part st.ctx.classes n at (offset_at st.ctx.classes n i) t) m.tree refl refl in omega arith;
        own = own;
      })

  members_built : (at : At) (n : ℕ) (gs : List Given) (st : State) (i : ℕ) (ms : List Member) → DefaultsOwn st.ctx.defaults
      → On (PartsEnd (given_from i gs) st) (Members.members_built at n gs st i ms)
  members_built at n gs st i [] own = record { counted = omega arith; own = own }
  members_built at n gs st i (m ∷ ms) own = bind (PartsEnd (found_held (Members.given_for (Some i) gs)) st) (PartsEnd (given_from i gs) st)
      (Members.member_built st at n i m.typ (Members.given_for (Some i) gs)) _ (member_built st at n i m.typ (Members.given_for (Some i) gs) own)
      (λ x h. bind (PartsEnd (given_from (suc i) gs) x.state) (PartsEnd (given_from i gs) st) (Members.members_built at n gs x.state (suc i) ms) _
      (members_built at n gs x.state (suc i) ms h.own)
      (λ y j. record {
        counted = let a = h.counted in let b = j.counted in let c = first_given i gs in let d = parts.followed (place p) x.trees y.trees in omega arith;
        own = j.own;
      }))

  pub parts_built : (st : State) (at : At) (n : ℕ) (gs : List Given) → DefaultsOwn st.ctx.defaults
      → On (PartsEnd (given_all gs) st) (Members.parts_built st at n gs)
  parts_built st at n gs own = bind (λ (ts : Trees). all_held (place p) ts ≤ found_held (Members.given_for None gs)) (PartsEnd (given_all gs) st)
      (Members.base_built st at n (base_of_class (slice_get st.ctx.classes n)) (Members.given_for None gs)) _
      (base_built st at n (base_of_class (slice_get st.ctx.classes n)) (Members.given_for None gs))
      (λ b h. bind (PartsEnd (given_from 0 gs) st) (PartsEnd (given_all gs) st)
      (Members.members_built at n gs st 0 (members_in (slice_get st.ctx.classes n))) _
      (members_built at n gs st 0 (members_in (slice_get st.ctx.classes n)) own)
      (λ d i. record {
        counted = let a = i.counted in let c = base_given gs in
            let e = parts.followed (place p) b (followed_by (Members.pointer_stored at n (pointer_offset st.ctx.classes n)) d.trees) in
            let f = parts.followed (place p) (Members.pointer_stored at n (pointer_offset st.ctx.classes n)) d.trees in
            let q = pointer_stored at n (pointer_offset st.ctx.classes n) in omega arith;
        own = i.own;
      }))

  -- the tree of a constructor
  pub constructor_held : (at : At) (ps ts : Trees) → held (place p) (Members.constructor_tree at ps ts) ≡ all_held (place p) ps + all_held (place p) ts
  constructor_held at ps ts = let i = parts.followed (place p) ps (one (statement (forms.Block false) at ts)) in omega arith

  -- Destructors

  deferred_if : (at : At) (object : Tree) (ts : Trees) → held (place p) object ≡ 0 → all_held (place p) ts ≡ 0
      → all_held (place p) (Members.deferred_if at object ts) ≡ 0
  deferred_if at object none h i = refl
  deferred_if at object (more d ds) h i = omega arith

  base_deferred : (c : Ctx) (at : At) (n : ℕ) (b : Option ℕ) → all_held (place p) (Members.base_deferred c at n b) ≡ 0
  base_deferred c at n (Some b) = deferred_if at (own_base n at b) (Objects.destroys c at (plain (class b))) refl
      (parts.destroys (place p) c at (plain (class b)))
  base_deferred c at n None = refl

  members_deferred : (c : Ctx) (at : At) (n i : ℕ) (ms : List Member) → all_held (place p) (Members.members_deferred c at n i ms) ≡ 0
  members_deferred c at n i [] = refl
  members_deferred c at n i (m ∷ ms) = let d = parts.destroys (place p) c at m.typ in
      let e = deferred_if at (own_part c.classes n at (offset_at c.classes n i) m.typ) (Objects.destroys c at m.typ) refl d in
      let r = members_deferred c at n (suc i) ms in
      let f = parts.followed (place p) (Members.deferred_if at (own_part c.classes n at (offset_at c.classes n i) m.typ) (Objects.destroys c at m.typ))
      (Members.members_deferred c at n (suc i) ms) in omega arith

  pub destructor_held : (c : Ctx) (at q : At) (n : ℕ) (ts : Trees) → held (place p) (Members.destructor_tree c at q n ts) ≡ all_held (place p) ts
  destructor_held c at q n ts =
      let a = pointer_stored at n (pointer_offset c.classes n) in let b = base_deferred c at n (base_of_class (slice_get c.classes n)) in
      let d = members_deferred c at n 0 (members_in (slice_get c.classes n)) in
      let u = parts.followed (place p) (Members.members_deferred c at n 0 (members_in (slice_get c.classes n))) (one (statement (forms.Block false) q ts)) in
      let v = parts.followed (place p) (Members.base_deferred c at n (base_of_class (slice_get c.classes n)))
      (followed_by (Members.members_deferred c at n 0 (members_in (slice_get c.classes n))) (one (statement (forms.Block false) q ts))) in
      let w = parts.followed (place p) (Members.pointer_stored at n (pointer_offset c.classes n))
      (followed_by (Members.base_deferred c at n (base_of_class (slice_get c.classes n)))
      (followed_by (Members.members_deferred c at n 0 (members_in (slice_get c.classes n))) (one (statement (forms.Block false) q ts)))) in omega arith

-- Bodies

-- into an object
pub in_object_enters : (st : State) (n : ℕ) → DefaultsOwn st.ctx.defaults → Enters 1 (in_object st n)
in_object_enters st n own = record { frame = refl; own = own }

pub constructor_counts : (p : ℕ) (at : At) (words : ℕ) (x : Giving) (parts d : Done) → Gathers p words x → PartsEnd p (given_all p x.given) x.state parts
    → Ends p parts.state d
    → held (place p) (Members.constructor_tree at parts.trees d.trees) + room (place p) words ≤ used (place p) d.state.work
constructor_counts p at words x parts d h i j = let a = h.counted in let b = i.counted in let c = j.counted in
    let e = constructor_held p at parts.trees d.trees in omega arith

block_made : (lams : Lambdas) → LeavesFrame lams → (s : List Lexeme) (st : State) (h : Header) (n func words : ℕ) (x : Giving) (parts : Done) (t : syntax.Tree)
    → ((p : ℕ) → Gathers p words x) → ((p : ℕ) → PartsEnd p (given_all p x.given) x.state parts)
    → On (MakesBody words func st) (Members.constructor_block lams s st h n func parts t)
block_made lams leaves s st h n func words x parts (syntax.node kind q token kids) i j =
    bind (λ (d : Done). (p : ℕ) → Ends p parts.state d) (MakesBody words func st) (statements_of lams s parts.state kids) _
    (in_body lams leaves s parts.state kids (j 0).own)
    (λ d l. body_is_made st h.at func (Members.constructor_tree (at_of q) parts.trees d.trees) d.state words
    (λ p. constructor_counts p (at_of q) words x parts d (i p) (j p) (l p)))

pub constructor_made : (lams : Lambdas) → LeavesFrame lams → (s : List Lexeme) (st : State) (h : Header) (n func : ℕ) (inits : syntax.Trees) (t : syntax.Tree)
    → DefaultsOwn st.ctx.defaults → On (MakesBody (1 + length h.params) func st) (Members.constructor_body lams s st h n func inits t)
constructor_made lams leaves s st h n func inits t own =
    bind (Enters words) (MakesBody words func st) (with_parameters s (in_object st n) h.params) _
    (parameters s (in_object st n) 1 h.params (in_object_enters st n own))
    (λ e i. bind (λ (x : Giving). (p : ℕ) → Gathers p words x) (MakesBody words func st) (Members.all_given lams s n (record { state = e; given = [] }) inits) _
    (on_all (λ p x. Gathers p words x) (Members.all_given lams s n (record { state = e; given = [] }) inits)
    (λ p. all_given p lams leaves s n words (record { state = e; given = [] }) inits (begins p e i)))
    (λ x j. bind (λ (d : Done). (p : ℕ) → PartsEnd p (given_all p x.given) x.state d) (MakesBody words func st)
    (Members.parts_built x.state h.at n x.given) _
    (on_all (λ p d. PartsEnd p (given_all p x.given) x.state d) (Members.parts_built x.state h.at n x.given)
    (λ p. parts_built p x.state h.at n x.given (j 0).own))
    (λ d l. block_made lams leaves s st h n func words x d t j l)))
  where
    words : ℕ
    words = 1 + length h.params

    begins : (p : ℕ) (e : State) → Enters words e → Gathers p words (record { state = e; given = [] })
    begins p e i = record { counted = let r : used (place p) e.work ≡ room (place p) words = ap (room (place p)) i.frame in omega arith; own = i.own }

pub constructor_bodies_law : ConstructorBodiesOwn
constructor_bodies_law lams leaves s st h n func inits t x own e =
    held_by (MakesBody (1 + length h.params) func st) (Members.constructor_body lams s st h n func inits t) x
    (constructor_made lams leaves s st h n func inits t own) e

pub destructor_made : (lams : Lambdas) → LeavesFrame lams → (s : List Lexeme) (st : State) (h : Header) (n func : ℕ) (t : syntax.Tree)
    → DefaultsOwn st.ctx.defaults → On (MakesBody 1 func st) (Members.destructor_body lams s st h n func t)
destructor_made lams leaves s st h n func (syntax.node kind q token kids) own =
    bind (λ (d : Done). (p : ℕ) → Ends p (in_object st n) d) (MakesBody 1 func st) (statements_of lams s (in_object st n) kids) _
    (in_body lams leaves s (in_object st n) kids own)
    (λ d l. body_is_made st h.at func (Members.destructor_tree d.state.ctx h.at (at_of q) n d.trees) d.state 1
    (λ p. let i = (l p).counted in let r = destructor_held p d.state.ctx h.at (at_of q) n d.trees in omega arith))

pub destructor_bodies_law : DestructorBodiesOwn
destructor_bodies_law lams leaves s st h n func t x own e =
    held_by (MakesBody 1 func st) (Members.destructor_body lams s st h n func t) x (destructor_made lams leaves s st h n func t own) e
