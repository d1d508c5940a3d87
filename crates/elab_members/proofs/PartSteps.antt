-- One part of an object, step by step.
use Rattle.std.proofs.Common.{◌≡◌, ◌∙◌, ℕ, Bool, false, List, Option, Some, None, Result, refl, sym, ap, subst}
use Rattle.elab_entry.specs.cpp_types.Typ.{Typ}
use Rattle.elab_entry.specs.cpp_types.declared.classes.At.{At}
use Rattle.elab_entry.specs.cpp_lex.Tokens.{Lexeme}
use Rattle.elab_entry.specs.cpp_ast.Trees.{Trees}
use Rattle.elab_entry.specs.cpp_tree.declared.faults.ElabFault.{ElabFault}
use Rattle.elab_entry.specs.cpp_tree.declared.arena.TNodeId.{TNodeId}
use Rattle.elab_entry.specs.cpp_tree.Trees.{Tree, one}
use Rattle.elab_entry.specs.cpp_tree.Arena.{tree_at, Adds}
use Rattle.elab_entry.specs.elab_ctx.Ctx.{Ctx, Work, ctx_of, work_of}
use Rattle.elab_entry.specs.elab_ctx.Steps.{and_then, Made, Operand, TypedAll}
use Rattle.elab_entry.specs.elab_ctx.Operands.{operands_in}
use Rattle.elab_entry.specs.elab_ctx.declared.operand.Operand.{Operand as OperandRec}
use Rattle.elab_entry.specs.elab_ctx.Says.{Makes, MadeAt}
use Rattle.elab_entry.proofs.elab_ctx.Looks.{grows_trans}
use Rattle.elab_entry.specs.elab_rules.Expressions.{operands_of}
use Rattle.elab_entry.specs.elab_rows.Typed.{AllTyped}
use Rattle.elab_entry.specs.elab_rules.Statements.{State, done, Lambdas, full, with_work, all_lambdas, directly_initialised, values_place}
use Rattle.elab_entry.specs.elab_rules.Members.{for_base, for_part}
use Rattle.elab_entry.specs.elab_scopes.declared.state.State.{State as StateRec}
use Rattle.elab_entry.specs.elab_scopes.States.{state_of, made}
use Rattle.elab_entry.specs.elab_scopes.Says.{Changed, OneDone, Does}
use Rattle.elab_entry.proofs.elab_scopes.Standing.{grown_by, does_after}
use Rattle.elab_implicit.specs.Written.{was_abstract, with_abstract}
use Rattle.elab_implicit.proofs.GivenParts.{abstract_back}
use Rattle.elab_members.specs.Giving.{made_base, part_made, part_values, part_given}

-- The base while it is made

pub put_back : (c d e : Ctx) (o : Option ℕ) (was : Bool) → d ≡ with_abstract c o false → was ≡ was_abstract c o → e ≡ with_abstract d o was → e ≡ c
put_back c d e (Some n) was f g h = abstract_back c d e n was f g h
put_back c d e None was f g h = h ∙ f

base_allowed : (c : Ctx) (o : Option ℕ) → with_abstract c o false ≡ for_base c o
base_allowed c (Some n) = refl
base_allowed c None = refl

pub part_allowed : (c : Ctx) (n : ℕ) (i : Option ℕ) → with_abstract c (made_base c n i) false ≡ for_part c n i
part_allowed c n (Some i) = refl
part_allowed c n None = base_allowed c _

pub initialised_so : (a b : List Tree) (w : Work) (r : Result TNodeId ElabFault) (c d : Ctx) (n : ℕ) (i o : Option ℕ) (v : Work) (t : Typ) (at : At)
    (os : List Operand) → o ≡ made_base c n i → d ≡ with_abstract c o false → Makes a b w r (directly_initialised d v t at os)
    → Makes a b w r (directly_initialised (for_part c n i) v t at os)
initialised_so a b w r c d n i o v t at os e f m =
    let is : d ≡ for_part c n i = f ∙ ap (λ (z : Option ℕ). with_abstract c z false) e ∙ part_allowed c n i in
    subst (λ (z : Ctx). Makes a b w r (directly_initialised z v t at os)) is m

-- By values that were read

-- a whole over what was made, behind which no lambdas are known
pub wholly_done : (a c : StateRec) (b : List Tree) (w : Work) (id r : TNodeId) (x : Result Made ElabFault) (g : Tree → Tree) → MadeAt (made a) b w id x
    → Adds b (made c) r (g (tree_at b id)) → state_of c ≡ with_work (state_of a) w
    → OneDone a c r (and_then x (λ (m : Made). done (one (g m.tree)) (with_work (state_of a) m.work)))
wholly_done a c b w id r x g m q s = record {
  grown = grown_by a c (grows_trans m.grows q.grows) (ap (λ (z : State). z.ctx.labels) s);
  within = q.within;
  is = ap (λ (z : Result Made ElabFault). and_then z (λ (k : Made). done (one (g k.tree)) (with_work (state_of a) k.work))) m.is
      ∙ ap (λ (z : Tree). done (one z) (with_work (state_of a) w)) (sym q.is) ∙ ap (λ (z : State). done (one (tree_at (made c) r)) z) (sym s);
}

pub part_done : (a c : StateRec) (b : List Tree) (w : Work) (id r : TNodeId) (n : ℕ) (i : Option ℕ) (t : Typ) (at p : At) (os : List Operand)
    → p ≡ values_place t at os → MadeAt (made a) b w id (directly_initialised (for_part (ctx_of a.env) n i) (work_of a.work) t at os)
    → Adds b (made c) r (full p (tree_at b id)) → state_of c ≡ with_work (state_of a) w → OneDone a c r (part_made (state_of a) n i t at os)
part_done a c b w id r n i t at p os e m q s = wholly_done a c b w id r (directly_initialised (for_part (ctx_of a.env) n i) (work_of a.work) t at os)
    (full (values_place t at os)) m (subst (λ (z : At). Adds b (made c) r (full z (tree_at b id))) e q) s

-- By values, behind their lambdas

pub values_done : (s : List Lexeme) (a b c : StateRec) (w : Work) (os those : List OperandRec) (r : Result TNodeId ElabFault) (n : ℕ) (i : Option ℕ) (t : Typ)
    (at : At) (es : Trees) → AllTyped (made a) (made b) w os (operands_of s (ctx_of a.env) (work_of a.work) es) → state_of b ≡ record (state_of a) { work = w }
    → those ≡ os → Does b c r (part_made (state_of b) n i t at (operands_in (made b) those)) → Does a c r (part_values s (state_of a) n i t at es)
values_done s a b c w os those r n i t at es m e f k =
    let v : TypedAll = record { operands = operands_in (made b) os; work = w } in
    let next : Does b c r (part_made (record (state_of a) { work = w }) n i t at (operands_in (made b) os)) =
    subst (λ (z : State). Does b c r (part_made z n i t at (operands_in (made b) os))) e
    (subst (λ (z : List OperandRec). Does b c r (part_made (state_of b) n i t at (operands_in (made b) z))) f k) in
    does_after a b c (operands_of s (ctx_of a.env) (work_of a.work) es) v
    (λ (xs : TypedAll). part_made (record (state_of a) { work = xs.work }) n i t at xs.operands) r
    (grown_by a b m.grows (ap (λ (z : State). z.ctx.labels) e)) m.is next

pub given_behind : (lams : Lambdas) (s : List Lexeme) (a b c : StateRec) (r : Result TNodeId ElabFault) (n : ℕ) (i : Option ℕ) (t : Typ) (at : At) (es : Trees)
    → Changed a b (all_lambdas lams s (state_of a) es) → Does b c r (part_values s (state_of b) n i t at es)
    → Does a c r (part_given lams s (state_of a) n i t at es)
given_behind lams s a b c r n i t at es m k = does_after a b c (all_lambdas lams s (state_of a) es) (state_of b)
    (λ (x : State). part_values s x n i t at es) r m.grown m.is k
