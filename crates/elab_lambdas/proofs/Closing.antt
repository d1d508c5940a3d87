-- The class of a lambda and its call, step by step.
use Rattle.std.proofs.Common.{◌≡◌, ◌∙◌, ℕ, Bool, true, false, length, List, [], ◌∷◌, ◌++◌, Ok, Err, if◌then◌else◌, refl, ap, subst, count_by}
use Rattle.elab_entry.specs.cpp_types.Class.{Class, Function}
use Rattle.elab_entry.specs.cpp_types.Typ.{Signature}
use Rattle.elab_entry.specs.cpp_tree.declared.faults.ElabFault.{ElabFault}
use Rattle.elab_entry.specs.cpp_tree.declared.faults.ElabFault.TheVariants.{Ill, Override, JumpIntoBlock, Limit, Memory}
use Rattle.elab_entry.specs.elab_ctx.Ctx.{Ctx, Func, Traits, Capture}
use Rattle.elab_entry.specs.elab_ctx.Says.{Faults}
use Rattle.elab_entry.specs.elab_rules.Types.{Parameter}
use Rattle.elab_entry.specs.elab_rules.Statements.{State}
use Rattle.elab_entry.specs.elab_rules.Classes.{is_completed, sized_class}
use Rattle.elab_entry.specs.elab_rules.Lambdas.{Written, closure_sized, closure_traits, declared_closure, with_closure}
use Rattle.elab_lambdas.specs.Steps.{closure_class, with_class, with_call}

pub class_is : (c c1 : Ctx) (xs : List Capture) (g h : Function) (number : ℕ) (k : Class) →
    c1 ≡ record c { classes = c.classes ++ k ∷ [] } → k ≡ closure_class xs h number → h ≡ g → number ≡ count_by is_completed c.classes → c1 ≡ with_class c xs g
class_is c c1 xs g h number k e ek eg em =
    e ∙ ap (λ (z : Class). record c { classes = c.classes ++ z ∷ [] }) (ek ∙ ap (λ (z : Function). closure_class xs z number) eg ∙ ap (closure_class xs g) em)

pub closure_is : (c c1 c2 c3 : Ctx) (xs : List Capture) (g : Function) (ps : List Parameter) (n closed : ℕ) (t : Traits) (f : Func) →
    c1 ≡ with_class c xs g → c2 ≡ record c1 { traits = c1.traits ++ t ∷ []; slots = c1.slots ++ [] ∷ [] } → c3 ≡ record c2 { funcs = c2.funcs ++ f ∷ [] }
    → n ≡ length c.classes → t ≡ closure_traits c xs → f ≡ with_call n g ps closed → c3 ≡ with_closure c xs g ps closed
closure_is c c1 c2 c3 xs g ps n closed t f e1 e2 e3 en et ef =
    e3
    ∙ ap (λ (z : Ctx). record z { funcs = z.funcs ++ f ∷ [] }) e2
    ∙ ap (λ (z : Ctx). record z { traits = z.traits ++ t ∷ []; slots = z.slots ++ [] ∷ []; funcs = z.funcs ++ f ∷ [] }) e1
    ∙ ap (λ (z : Traits). record (with_class c xs g) { traits = c.traits ++ z ∷ []; slots = c.slots ++ [] ∷ []; funcs = c.funcs ++ f ∷ [] }) et
    ∙ ap (λ (z : Func). record (with_class c xs g) { traits = c.traits ++ closure_traits c xs ∷ []; slots = c.slots ++ [] ∷ []; funcs = c.funcs ++ z ∷ [] })
    (ef ∙ ap (λ (z : ℕ). with_call z g ps closed) en)

-- The size of its object

then_true : (b : Bool) (c : Ctx) (e : ElabFault) → (if b then Ok c else Err e) ≡ Ok c → (if b then Ok true else Err e) ≡ Ok true
then_true true c e h = refl
then_true false c e h = absurd cc

then_faults : (b : Bool) (c : Ctx) (e f : ElabFault) → Faults f (if b then Ok c else Err e) → Faults f (if b then Ok true else Err e)
then_faults true c e (Ill at rule) h = absurd cc
then_faults true c e (Override at rule) h = absurd cc
then_faults true c e (JumpIntoBlock at) h = absurd cc
then_faults true c e (Limit at which) h = absurd cc
then_faults true c e Memory h = tt
then_faults false c e (Ill at rule) h = let is : e ≡ Ill at rule = cc in ap Err is
then_faults false c e (Override at rule) h = let is : e ≡ Override at rule = cc in ap Err is
then_faults false c e (JumpIntoBlock at) h = let is : e ≡ JumpIntoBlock at = cc in ap Err is
then_faults false c e (Limit at which) h = let is : e ≡ Limit at which = cc in ap Err is
then_faults false c e Memory h = tt

pub closed_sized : (st : State) (x : Written) (sig : Signature) (c : Ctx) (n : ℕ) → c ≡ declared_closure st x sig → n ≡ length st.ctx.classes
    → sized_class x.at n c ≡ Ok c → closure_sized st x sig ≡ Ok true
closed_sized st x sig c n e f h = then_true _ (declared_closure st x sig) _
    (subst (λ (z : Ctx). sized_class x.at (length st.ctx.classes) z ≡ Ok z) e (subst (λ (m : ℕ). sized_class x.at m c ≡ Ok c) f h))

pub closed_large : (st : State) (x : Written) (sig : Signature) (c : Ctx) (n : ℕ) (d : ElabFault) → c ≡ declared_closure st x sig → n ≡ length st.ctx.classes
    → Faults d (sized_class x.at n c) → Faults d (closure_sized st x sig)
closed_large st x sig c n d e f h = then_faults _ (declared_closure st x sig) _ d
    (subst (λ (z : Ctx). Faults d (sized_class x.at (length st.ctx.classes) z)) e (subst (λ (m : ℕ). Faults d (sized_class x.at m c)) f h))
