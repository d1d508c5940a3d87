-- What implicit members do leaves the bodies that are done, the functions and the slots.
use Rattle.std.proofs.Common.{◌≡◌, ◌∙◌, ℕ, suc, Bool, List, [], ◌∷◌, Option, Some, None, Result, Ok, Err, refl, sym, ap, slice_get}
use Rattle.cpp_types.specs.Typ.{Typ, class}
use Rattle.cpp_types.specs.Class.{Member}
use Rattle.cpp_types.specs.declared.classes.At.{At}
use Rattle.elab_entry.specs.cpp_tree.declared.faults.ElabFault.{ElabFault}
use Rattle.elab_entry.specs.cpp_tree.declared.program.FuncKind.{FuncKind}
use Rattle.elab_entry.specs.cpp_tree.declared.program.FuncKind.TheVariants.{Plain, Constructor, Destructor, ClosureCall}
use Rattle.elab_entry.specs.cpp_tree.Trees.{Tree, Trees, none, more, one}
use Rattle.elab_entry.specs.cpp_tree.Notation.{plain}
use Rattle.elab_entry.specs.cpp_tree.Units.{SlotFunc}
use Rattle.elab_entry.specs.elab_ctx.Ctx.{Func}
use Rattle.elab_entry.specs.elab_ctx.Steps.{and_then, Made}
use Rattle.elab_entry.specs.elab_rules.Objects.{followed_by}
use Rattle.elab_entry.specs.elab_rules.Names.{members_in, offset_at}
use Rattle.elab_entry.specs.elab_rules.Calls.{pointer_offset, base_of_class}
use Rattle.elab_entry.specs.elab_rules.Braces.{default_at}
use Rattle.elab_entry.specs.elab_rules.Initialising.{class_from, as_source}
use Rattle.elab_entry.specs.elab_rules.Statements.{Body, State, Done, done, with_work}
use Rattle.elab_entry.specs.elab_rules.Members.{Given, as_base_of, own_part, own_base, part_init, given_for, pointer_stored, default_built, base_built}
use Rattle.elab_entry.specs.elab_rules.Members.{member_built, members_built, parts_built, constructor_tree}
use Rattle.elab_entry.specs.elab_rules.Implicit.{source_object, source_const, own_operand, part_copied, part_of_source, part_done, members_copied, base_copied}
use Rattle.elab_entry.specs.elab_rules.Implicit.{parts_copied, with_source}
use Rattle.elab_implicit.specs.Implied.{constructor_parts, constructor_inside, inside_implied}

-- what stands in a state, by which functions are referred to
pub record Standing : Type 0 where
  pub bodies : List Body
  pub funcs : List Func
  pub slots : List (List SlotFunc)

abbrev pub standing : State → Standing
standing st = record { bodies = st.bodies; funcs = st.ctx.funcs; slots = st.ctx.slots }

-- what stands is this
abbrev pub Keeps : Standing → Result Done ElabFault → Type 0
Keeps bs (Ok d) = standing d.state ≡ bs
Keeps bs (Err e) = Unit {0}

made_keeps : (bs : Standing) (x : Result Made ElabFault) (f : Made → Result Done ElabFault) → ((m : Made) → Keeps bs (f m)) → Keeps bs (and_then x f)
made_keeps bs (Ok m) f k = k m
made_keeps bs (Err e) f k = tt

trees_keep : (bs : Standing) (x : Result Trees ElabFault) (f : Trees → Result Done ElabFault) → ((ts : Trees) → Keeps bs (f ts)) → Keeps bs (and_then x f)
trees_keep bs (Ok ts) f k = k ts
trees_keep bs (Err e) f k = tt

done_keeps : (bs : Standing) (x : Result Done ElabFault) (f : Done → Result Done ElabFault) → Keeps bs x → ((d : Done) → standing d.state ≡ bs → Keeps bs (f d))
    → Keeps bs (and_then x f)
done_keeps bs (Ok d) f h k = k d h
done_keeps bs (Err e) f h k = tt

member_keeps : (st : State) (at : At) (n i : ℕ) (t : Typ) (g : Option Given) (bs : Standing) → standing st ≡ bs → Keeps bs (member_built st at n i t g)
member_keeps st at n i t (Some g) bs h = h
member_keeps st at n i t None bs h = made_keeps bs (default_built st at t (default_at n i st.ctx.defaults))
    (λ (m : Made). Ok (record {
      trees = one (part_init st.ctx at at t (own_part st.ctx.classes n at (offset_at st.ctx.classes n i) t) m.tree);
      state =
          with_work st m.work;
    })) (λ m. h)

members_keep : (at : At) (n : ℕ) (gs : List Given) (st : State) (i : ℕ) (ms : List Member) (bs : Standing) → standing st ≡ bs
    → Keeps bs (members_built at n gs st i ms)
members_keep at n gs st i [] bs h = h
members_keep at n gs st i (m ∷ ms) bs h = done_keeps bs (member_built st at n i m.typ (given_for (Some i) gs))
    (λ (x : Done). and_then (members_built at n gs x.state (suc i) ms) (λ (y : Done). Ok (record { trees = followed_by x.trees y.trees; state = y.state })))
    (member_keeps st at n i m.typ (given_for (Some i) gs) bs h)
    (λ x e. done_keeps bs (members_built at n gs x.state (suc i) ms) (λ (y : Done). Ok (record { trees = followed_by x.trees y.trees; state = y.state }))
    (members_keep at n gs x.state (suc i) ms bs e) (λ y f. f))

parts_keep : (st : State) (at : At) (n : ℕ) (gs : List Given) (bs : Standing) → standing st ≡ bs → Keeps bs (parts_built st at n gs)
parts_keep st at n gs bs h = trees_keep bs (base_built st at n (base_of_class (slice_get st.ctx.classes n)) (given_for None gs))
    (λ (b : Trees). and_then (members_built at n gs st 0 (members_in (slice_get st.ctx.classes n)))
    (λ (d : Done). Ok (record { trees = followed_by b (followed_by (pointer_stored at n (pointer_offset st.ctx.classes n)) d.trees); state = d.state })))
    (λ b. done_keeps bs (members_built at n gs st 0 (members_in (slice_get st.ctx.classes n)))
    (λ (d : Done). Ok (record { trees = followed_by b (followed_by (pointer_stored at n (pointer_offset st.ctx.classes n)) d.trees); state = d.state }))
    (members_keep at n gs st 0 (members_in (slice_get st.ctx.classes n)) bs h) (λ d f. f))

copies_keep : (at : At) (n : ℕ) (source : Tree) (c : Bool) (st : State) (i : ℕ) (ms : List Member) (bs : Standing) → standing st ≡ bs
    → Keeps bs (members_copied at n source c st i ms)
copies_keep at n source c st i [] bs h = h
copies_keep at n source c st i (m ∷ ms) bs h = made_keeps bs (part_copied st at m.typ (part_of_source st.ctx n at source c i m.typ))
    (λ (x : Made). and_then (members_copied at n source c (with_work st x.work) (suc i) ms)
    (λ (d : Done). Ok (record {
      trees = more (part_init st.ctx at at m.typ (own_part st.ctx.classes n at (offset_at st.ctx.classes n i) m.typ) x.tree) d.trees;
      state = d.state;
    })))
    (λ x. done_keeps bs (members_copied at n source c (with_work st x.work) (suc i) ms)
    (λ (d : Done). Ok (record {
      trees = more (part_init st.ctx at at m.typ
          (own_part st.ctx.classes n at (offset_at st.ctx.classes n i) m.typ) x.tree) d.trees;
      state = d.state;
    }))
    (copies_keep at n source c (with_work st x.work) (suc i) ms bs h) (λ d f. f))

base_keeps : (st : State) (at : At) (n : ℕ) (source : Tree) (o : Option ℕ) (bs : Standing) → standing st ≡ bs → Keeps bs (base_copied st at n source o)
base_keeps st at n source None bs h = h
base_keeps st at n source (Some b) bs h = made_keeps bs (class_from (as_base_of st.ctx b) st.work (plain (class b)) at
    (own_operand at (as_source at b source))) (λ (m : Made). Ok (part_done st at (plain (class b)) (own_base n at b) m)) (λ m. h)

all_keep : (st : State) (at : At) (n : ℕ) (source : Tree) (c : Bool) (bs : Standing) → standing st ≡ bs → Keeps bs (parts_copied st at n source c)
all_keep st at n source c bs h = done_keeps bs (base_copied st at n source (base_of_class (slice_get st.ctx.classes n)))
    (λ (b : Done). and_then (members_copied at n source c b.state 0 (members_in (slice_get st.ctx.classes n)))
    (λ (d : Done). Ok (record { trees = followed_by b.trees (followed_by (pointer_stored at n (pointer_offset st.ctx.classes n)) d.trees); state = d.state })))
    (base_keeps st at n source (base_of_class (slice_get st.ctx.classes n)) bs h)
    (λ b e. done_keeps bs (members_copied at n source c b.state 0 (members_in (slice_get st.ctx.classes n)))
    (λ (d : Done). Ok (record {
      trees = followed_by b.trees (followed_by (pointer_stored at n (pointer_offset st.ctx.classes n)) d.trees);
      state =
          d.state;
    })) (copies_keep at n source c b.state 0 (members_in (slice_get st.ctx.classes n)) bs e) (λ d f. f))

implicit_keep : (st : State) (at : At) (n : ℕ) (p : Option Typ) (bs : Standing) → standing st ≡ bs → Keeps bs (constructor_parts st at n p)
implicit_keep st at n (Some t) bs h = all_keep (with_source st t) at n (source_object n t at) (source_const t) bs h
implicit_keep st at n None bs h = parts_keep st at n [] bs h

constructor_keeps : (st : State) (at : At) (n : ℕ) (p : Option Typ) (bs : Standing) → standing st ≡ bs → Keeps bs (constructor_inside st at n p)
constructor_keeps st at n p bs h = done_keeps bs (constructor_parts st at n p) (λ (d : Done). done (one (constructor_tree at d.trees none)) d.state)
    (implicit_keep st at n p bs h) (λ d f. f)

inside_keeps : (st : State) (at : At) (n : ℕ) (kind : FuncKind) (p : Option Typ) (bs : Standing) → standing st ≡ bs → Keeps bs (inside_implied st at n kind p)
inside_keeps st at n Destructor p bs h = h
inside_keeps st at n Plain p bs h = constructor_keeps st at n p bs h
inside_keeps st at n Constructor p bs h = constructor_keeps st at n p bs h
inside_keeps st at n ClosureCall p bs h = constructor_keeps st at n p bs h

kept_same : (bs : Standing) (x : Result Done ElabFault) (d : Done) → Keeps bs x → x ≡ Ok d → standing d.state ≡ bs
kept_same bs (Ok c) d h e =
    let is : c ≡ d = cc in
    ap (λ (z : Done). standing z.state) (sym is) ∙ h
kept_same bs (Err f) d h e = absurd cc

pub inside_same : (st after : State) (at : At) (n : ℕ) (kind : FuncKind) (p : Option Typ) (t : Tree) → inside_implied st at n kind p ≡ done (one t) after
    → standing after ≡ standing st
inside_same st after at n kind p t e = kept_same (standing st) (inside_implied st at n kind p) (record { trees = one t; state = after })
    (inside_keeps st at n kind p (standing st) refl) e
