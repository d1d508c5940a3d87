-- Bodies of implicit members declare plainly.
use Rattle.std.proofs.Common.{◌≡◌, refl, ℕ, suc, Bool, List, [], ◌∷◌, Option, Some, None, slice_get, arith}
use Rattle.elab_rules.specs.cpp_types.Typ.{Typ, typ, ref, class, Typs, none as no_typs, more as and_typ}
use Rattle.elab_rules.specs.cpp_types.Class.{Member}
use Rattle.elab_rules.specs.cpp_types.declared.classes.At.{At}
use Rattle.elab_rules.specs.cpp_tree.declared.program.FuncKind.{FuncKind}
use Rattle.elab_rules.specs.cpp_tree.declared.program.FuncKind.TheVariants.{Destructor}
use Rattle.elab_rules.specs.cpp_tree.Trees.{Tree, none}
use Rattle.elab_rules.specs.cpp_tree.Notation.{plain}
use Rattle.elab_rules.specs.cpp_tree.Typing.{is_class_typ}
use Rattle.elab_rules.specs.elab_ctx.Ctx.{Ctx}
use Rattle.elab_rules.specs.Objects.{followed_by, is_array}
use Rattle.elab_rules.specs.Values
use Rattle.elab_rules.specs.Initialising
use Rattle.elab_rules.specs.Names.{members_in, offset_at}
use Rattle.elab_rules.specs.Calls.{pointer_offset, base_of_class}
use Rattle.elab_rules.specs.Statements.{State, Done, with_work}
use Rattle.elab_rules.specs.Members
use Rattle.elab_rules.specs.Members.{in_object, own_part, own_base, as_base_of}
use Rattle.elab_rules.specs.Implicit
use Rattle.elab_rules.specs.Implicit.{own_operand, with_source}
use Rattle.elab_places.proofs.Counting.{declaring, held, Gives}
use Rattle.elab_places.proofs.Steps.{On, bind, either}
use Rattle.elab_places.proofs.Parts as parts
use Rattle.elab_places.proofs.Values as values
use Rattle.elab_places.proofs.Initials as initials
use Rattle.elab_plain.proofs.Counting.{of_none, made, followed}
use Rattle.elab_plain.proofs.Declaring.{StatePlain, Ends}
use Rattle.elab_plain.proofs.Bodies.{made_plain}
use Rattle.elab_plain.proofs.Constructors.{part_init, pointer_stored, parts_built, constructor_held, destructor_held}

source_object : (n : ℕ) (t : Typ) (at : At) → held declaring (Implicit.source_object n t at) ≡ 0
source_object n (typ (ref (typ f c v)) d w) at = refl
source_object n (typ f c v) at = refl

part_copied : (st : State) (at : At) (t : Typ) (e : Tree) → held declaring e ≡ 0 → On (Gives declaring 0 st.work) (Implicit.part_copied st at t e)
part_copied st at t e h = either (Gives declaring 0 st.work) (is_array t) _ _
    (let i = parts.closure_part declaring st.ctx at (record { offset = 0; typ = t }) in omega arith)
    (either (Gives declaring 0 st.work) (is_class_typ t) _ _
    (initials.wider declaring (held declaring e) 0 st.work (Initialising.class_from st.ctx st.work t at (own_operand at e)) (omega arith)
    (initials.class_from declaring st.ctx st.work t at (own_operand at e)))
    (let i = parts.stored declaring at t (Values.valued at e) in let r = values.valued declaring at e in omega arith))

part_of_source : (c : Ctx) (n : ℕ) (at : At) (source : Tree) (b : Bool) (i : ℕ) (t : Typ) → held declaring source ≡ 0
    → held declaring (Implicit.part_of_source c n at source b i t) ≡ 0
part_of_source c n at source b i t h = omega arith

members_copied : (at : At) (n : ℕ) (source : Tree) (b : Bool) (st : State) (i : ℕ) (ms : List Member) → held declaring source ≡ 0
    → StatePlain st → On Ends (Implicit.members_copied at n source b st i ms)
members_copied at n source b st i [] h own = record { counted = refl; own = own }
members_copied at n source b st i (m ∷ ms) h own = bind (Gives declaring 0 st.work) Ends
    (Implicit.part_copied st at m.typ (Implicit.part_of_source st.ctx n at source b i m.typ)) _
    (part_copied st at m.typ (Implicit.part_of_source st.ctx n at source b i m.typ) (part_of_source st.ctx n at source b i m.typ h))
    (λ x j. bind Ends Ends (Implicit.members_copied at n source b (with_work st x.work) (suc i) ms) _
    (members_copied at n source b (with_work st x.work) (suc i) ms h own)
    (λ d l. record {
      counted = let a = l.counted in
          let e = part_init st.ctx at at m.typ (own_part st.ctx.classes n at (offset_at st.ctx.classes n i) m.typ) x.tree refl refl
          (of_none x.tree (made 0 st.work x refl j)) in omega arith;
      own = l.own;
    }))

base_copied : (st : State) (at : At) (n : ℕ) (source : Tree) (b : Option ℕ) → held declaring source ≡ 0 → StatePlain st
    → On Ends (Implicit.base_copied st at n source b)
base_copied st at n source None h own = record { counted = refl; own = own }
base_copied st at n source (Some b) h own = bind (Gives declaring (held declaring (Initialising.as_source at b source)) st.work) Ends
    (Initialising.class_from (as_base_of st.ctx b) st.work (plain (class b)) at (own_operand at (Initialising.as_source at b source))) _
    (initials.class_from declaring (as_base_of st.ctx b) st.work (plain (class b)) at (own_operand at (Initialising.as_source at b source)))
    (λ m i. record {
      counted = let r = values.as_source declaring at b source in
          let e = part_init st.ctx at at (plain (class b)) (own_base n at b) m.tree refl refl
          (of_none m.tree (made (held declaring (Initialising.as_source at b source)) st.work m (omega arith) i)) in omega arith;
      own = own;
    })

parts_copied : (st : State) (at : At) (n : ℕ) (source : Tree) (b : Bool) → held declaring source ≡ 0 → StatePlain st
    → On Ends (Implicit.parts_copied st at n source b)
parts_copied st at n source b h own = bind Ends Ends
    (Implicit.base_copied st at n source (base_of_class (slice_get st.ctx.classes n))) _
    (base_copied st at n source (base_of_class (slice_get st.ctx.classes n)) h own)
    (λ x i. bind Ends Ends
    (Implicit.members_copied at n source b x.state 0 (members_in (slice_get st.ctx.classes n))) _
    (members_copied at n source b x.state 0 (members_in (slice_get st.ctx.classes n)) h i.own)
    (λ d j. record {
      counted = let a = i.counted in let c = j.counted in
          let e = followed x.trees (followed_by (Members.pointer_stored at n (pointer_offset st.ctx.classes n)) d.trees) in
          let f = followed (Members.pointer_stored at n (pointer_offset st.ctx.classes n)) d.trees in
          let q = pointer_stored at n (pointer_offset st.ctx.classes n) in omega arith;
      own = j.own;
    }))

-- a constructor of these parts
parts_made : (st : State) (at : At) (func : ℕ) (d : Done) → StatePlain st → Ends d → On StatePlain (Implicit.constructor_made st at func d)
parts_made st at func d own i = made_plain st at func (Members.constructor_tree at d.trees none) d.state own.defaults i.own
    (let a = i.counted in let c = constructor_held at d.trees none in omega arith)

constructor_implied : (st : State) (at : At) (func n : ℕ) (ps : Typs) → StatePlain st → On StatePlain (Implicit.constructor_implied st at func n ps)
constructor_implied st at func n (and_typ t ps) own = bind Ends StatePlain
    (Implicit.parts_copied (with_source (in_object st n) t) at n (Implicit.source_object n t at) (Implicit.source_const t)) _
    (parts_copied (with_source (in_object st n) t) at n (Implicit.source_object n t at) (Implicit.source_const t) (source_object n t at)
    (record { defaults = own.defaults; bodies = own.bodies }))
    (λ d i. parts_made st at func d own i)
constructor_implied st at func n no_typs own = bind Ends StatePlain (Members.parts_built (in_object st n) at n []) _
    (parts_built (in_object st n) at n [] tt (record { defaults = own.defaults; bodies = own.bodies }))
    (λ d i. parts_made st at func d own i)

pub implied_plain : (st : State) (at : At) (func n : ℕ) (kind : FuncKind) (ps : Typs) → StatePlain st
    → On StatePlain (Implicit.body_implied st at func n kind ps)
implied_plain st at func n Destructor ps own =
    made_plain st at func (Members.destructor_tree st.ctx at at n none) (in_object st n) own.defaults (record { defaults = own.defaults; bodies = own.bodies })
    (let i = destructor_held st.ctx at at n none in omega arith)
implied_plain st at func n kind ps own = constructor_implied st at func n ps own
