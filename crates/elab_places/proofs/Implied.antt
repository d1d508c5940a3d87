-- Bodies of implicit members.
use Rattle.std.proofs.Common.{◌≡◌, refl, ap, ℕ, suc, ◌+◌, Bool, List, [], ◌∷◌, Option, Some, None}
use Rattle.std.proofs.Common.{slice_get, arith}
use Rattle.elab_rules.specs.cpp_types.Typ.{Typ, typ, ref, class, Typs, none as no_typs, more as and_typ}
use Rattle.elab_rules.specs.cpp_types.Class.{Member}
use Rattle.elab_rules.specs.cpp_types.declared.classes.At.{At}
use Rattle.elab_rules.specs.cpp_tree.declared.program.FuncKind.{FuncKind}
use Rattle.elab_rules.specs.cpp_tree.declared.program.FuncKind.TheVariants.{Destructor}
use Rattle.elab_rules.specs.cpp_tree.Trees.{Tree, none}
use Rattle.elab_rules.specs.cpp_tree.Notation.{plain}
use Rattle.elab_rules.specs.cpp_tree.Typing.{is_class_typ}
use Rattle.elab_rules.specs.elab_ctx.Ctx.{Ctx}
use Rattle.elab_rules.specs.Objects.{followed_by, is_array}
use Rattle.elab_rules.specs.Values
use Rattle.elab_rules.specs.Initialising
use Rattle.elab_rules.specs.Names.{members_in, offset_at}
use Rattle.elab_rules.specs.Calls.{pointer_offset, base_of_class}
use Rattle.elab_rules.specs.Statements.{State, Done, with_work}
use Rattle.elab_rules.specs.Members
use Rattle.elab_rules.specs.Members.{in_object, own_part, own_base, as_base_of}
use Rattle.elab_rules.specs.Implicit
use Rattle.elab_rules.specs.Implicit.{own_operand, with_source}
use Rattle.elab_places.specs.Bodies.{DefaultsOwn}
use Rattle.elab_places.specs.Functions.{MakesBody, copy_words, implied_words, ImpliedBodiesOwn}
use Rattle.elab_places.proofs.Counting.{place, held, used, room, Gives}
use Rattle.elab_places.proofs.Steps.{On, bind, either, held_by}
use Rattle.elab_places.proofs.Parts as parts
use Rattle.elab_places.proofs.Values as values
use Rattle.elab_places.proofs.Initials as initials
use Rattle.elab_places.proofs.Bodies.{on_all, Enters, body_is_made}
use Rattle.elab_places.proofs.Constructors as constructors
use Rattle.elab_places.proofs.Constructors.{PartsEnd, in_object_enters}

module _ (p : ℕ) where
  pub source_object : (n : ℕ) (t : Typ) (at : At) → held (place p) (Implicit.source_object n t at) ≡ 0
  source_object n (typ (ref (typ f c v)) d w) at = refl
  source_object n (typ f c v) at = refl

  part_copied : (st : State) (at : At) (t : Typ) (e : Tree) → held (place p) e ≡ 0 → On (Gives (place p) 0 st.work) (Implicit.part_copied st at t e)
  part_copied st at t e h = either (Gives (place p) 0 st.work) (is_array t) _ _
      (let i = parts.closure_part (place p) st.ctx at (record { offset = 0; typ = t }) in omega arith)
      (either (Gives (place p) 0 st.work) (is_class_typ t) _ _
      (initials.wider (place p) (held (place p) e) 0 st.work (Initialising.class_from st.ctx st.work t at (own_operand at e)) (omega arith)
      (initials.class_from (place p) st.ctx st.work t at (own_operand at e)))
      (let i = parts.stored (place p) at t (Values.valued at e) in let r = values.valued (place p) at e in omega arith))

  part_of_source : (c : Ctx) (n : ℕ) (at : At) (source : Tree) (b : Bool) (i : ℕ) (t : Typ) → held (place p) source ≡ 0
      → held (place p) (Implicit.part_of_source c n at source b i t) ≡ 0
  part_of_source c n at source b i t h = omega arith

  members_copied : (at : At) (n : ℕ) (source : Tree) (b : Bool) (st : State) (i : ℕ) (ms : List Member) → held (place p) source ≡ 0
      → DefaultsOwn st.ctx.defaults → On (PartsEnd p 0 st) (Implicit.members_copied at n source b st i ms)
  members_copied at n source b st i [] h own = record { counted = omega arith; own = own }
  members_copied at n source b st i (m ∷ ms) h own = bind (Gives (place p) 0 st.work) (PartsEnd p 0 st)
      (Implicit.part_copied st at m.typ (Implicit.part_of_source st.ctx n at source b i m.typ)) _
      (part_copied st at m.typ (Implicit.part_of_source st.ctx n at source b i m.typ) (part_of_source st.ctx n at source b i m.typ h))
      (λ x j. bind (PartsEnd p 0 (with_work st x.work)) (PartsEnd p 0 st) (Implicit.members_copied at n source b (with_work st x.work) (suc i) ms) _
      (members_copied at n source b (with_work st x.work) (suc i) ms h own)
      (λ d l. record {
        counted = let a = l.counted in
            let e = constructors.part_init p st.ctx at at m.typ (own_part st.ctx.classes n at (offset_at st.ctx.classes n i) m.typ) x.tree refl refl in omega arith;
        own = l.own;
      }))

  base_copied : (st : State) (at : At) (n : ℕ) (source : Tree) (b : Option ℕ) → held (place p) source ≡ 0 → DefaultsOwn st.ctx.defaults
      → On (PartsEnd p 0 st) (Implicit.base_copied st at n source b)
  base_copied st at n source None h own = record { counted = omega arith; own = own }
  base_copied st at n source (Some b) h own = bind (Gives (place p) (held (place p) (Initialising.as_source at b source)) st.work) (PartsEnd p 0 st)
      (Initialising.class_from (as_base_of st.ctx b) st.work (plain (class b)) at (own_operand at (Initialising.as_source at b source))) _
      (initials.class_from (place p) (as_base_of st.ctx b) st.work (plain (class b)) at (own_operand at (Initialising.as_source at b source)))
      (λ m i. record {
        counted = let r = values.as_source (place p) at b source in
            let e = constructors.part_init p st.ctx at at (plain (class b)) (own_base n at b) m.tree refl refl in omega arith;
        own = own;
      })

  pub parts_copied : (st : State) (at : At) (n : ℕ) (source : Tree) (b : Bool) → held (place p) source ≡ 0 → DefaultsOwn st.ctx.defaults
      → On (PartsEnd p 0 st) (Implicit.parts_copied st at n source b)
  parts_copied st at n source b h own = bind (PartsEnd p 0 st) (PartsEnd p 0 st)
      (Implicit.base_copied st at n source (base_of_class (slice_get st.ctx.classes n))) _
      (base_copied st at n source (base_of_class (slice_get st.ctx.classes n)) h own)
      (λ x i. bind (PartsEnd p 0 x.state) (PartsEnd p 0 st)
      (Implicit.members_copied at n source b x.state 0 (members_in (slice_get st.ctx.classes n))) _
      (members_copied at n source b x.state 0 (members_in (slice_get st.ctx.classes n)) h i.own)
      (λ d j. record {
        counted = let a = i.counted in let c = j.counted in
            let e = parts.followed (place p) x.trees (followed_by (Members.pointer_stored at n (pointer_offset st.ctx.classes n)) d.trees) in
            let f = parts.followed (place p) (Members.pointer_stored at n (pointer_offset st.ctx.classes n)) d.trees in
            let q = constructors.pointer_stored p at n (pointer_offset st.ctx.classes n) in omega arith;
        own = j.own;
      }))

-- a constructor of these parts
parts_made : (st : State) (at : At) (func words : ℕ) (e : State) (d : Done) → Enters words e → ((p : ℕ) → PartsEnd p 0 e d)
    → On (MakesBody words func st) (Implicit.constructor_made st at func d)
parts_made st at func words e d h i = body_is_made st at func (Members.constructor_tree at d.trees none) d.state words (λ p.
    let a = (i p).counted in let c = constructors.constructor_held p at d.trees none in
    let r : used (place p) e.work ≡ room (place p) words = ap (room (place p)) h.frame in omega arith)

pub source_enters : (st : State) (n : ℕ) (t : Typ) → DefaultsOwn st.ctx.defaults → Enters 2 (with_source (in_object st n) t)
source_enters st n t own = record { frame = refl; own = own }

constructor_implied : (st : State) (at : At) (func n : ℕ) (ps : Typs) → DefaultsOwn st.ctx.defaults
    → On (MakesBody (1 + copy_words ps) func st) (Implicit.constructor_implied st at func n ps)
constructor_implied st at func n (and_typ t ps) own =
    bind (λ (d : Done). (p : ℕ) → PartsEnd p 0 (with_source (in_object st n) t) d) (MakesBody 2 func st)
    (Implicit.parts_copied (with_source (in_object st n) t) at n (Implicit.source_object n t at) (Implicit.source_const t)) _
    (on_all (λ p d. PartsEnd p 0 (with_source (in_object st n) t) d)
    (Implicit.parts_copied (with_source (in_object st n) t) at n (Implicit.source_object n t at) (Implicit.source_const t))
    (λ p. parts_copied p (with_source (in_object st n) t) at n (Implicit.source_object n t at) (Implicit.source_const t) (source_object p n t at) own))
    (λ d i. parts_made st at func 2 (with_source (in_object st n) t) d (source_enters st n t own) i)
constructor_implied st at func n no_typs own =
    bind (λ (d : Done). (p : ℕ) → PartsEnd p 0 (in_object st n) d) (MakesBody 1 func st) (Members.parts_built (in_object st n) at n []) _
    (on_all (λ p d. PartsEnd p 0 (in_object st n) d) (Members.parts_built (in_object st n) at n [])
    (λ p. constructors.parts_built p (in_object st n) at n [] own))
    (λ d i. parts_made st at func 1 (in_object st n) d (in_object_enters st n own) i)

pub implied_made : (st : State) (at : At) (func n : ℕ) (kind : FuncKind) (ps : Typs) → DefaultsOwn st.ctx.defaults
    → On (MakesBody (implied_words kind ps) func st) (Implicit.body_implied st at func n kind ps)
implied_made st at func n Destructor ps own =
    body_is_made st at func (Members.destructor_tree st.ctx at at n none) (in_object st n) 1
    (λ p. let i = constructors.destructor_held p st.ctx at at n none in omega arith)
implied_made st at func n kind ps own = constructor_implied st at func n ps own

pub implied_bodies_law : ImpliedBodiesOwn
implied_bodies_law st at func n kind ps x own e = held_by (MakesBody (implied_words kind ps) func st) (Implicit.body_implied st at func n kind ps) x
    (implied_made st at func n kind ps own) e
