-- Words of calls, and the values of constructors.
use Rattle.std.proofs.Common.{◌≡◌, ◌≢◌, ◌≤◌, Bool, ℕ, zero, suc, true, false, List, [], ◌∷◌, length, Option, Some, Ok, Err, Result, slice_get, get_or, refl, sym}
use Rattle.std.proofs.Common.{subst, ap, ◌∙◌, arith, Vec, Global}
use Rattle.elab_init.specs.cpp_types.declared.types.Ty.{Ty}
use Rattle.elab_init.specs.cpp_types.Typ.{Typ, typ, tx_ex, typ_of, typs_of}
use Rattle.elab_init.specs.cpp_types.Equal.{form_eq}
use Rattle.elab_init.specs.cpp_types.declared.classes.At.{At}
use Rattle.elab_init.specs.cpp_tree.declared.faults.ElabFault.{ElabFault}
use Rattle.elab_init.specs.cpp_tree.declared.faults.ElabFault.TheVariants.{Ill}
use Rattle.elab_init.specs.cpp_tree.declared.faults.IllRule.TheVariants.{OutOfProfile}
use Rattle.elab_init.specs.cpp_tree.declared.arena.TNodeId.{TNodeId}
use Rattle.elab_init.specs.cpp_tree.Trees.{Tree, typ_in, cat_of}
use Rattle.elab_init.specs.cpp_tree.Arena.{tree_at, Grows}
use Rattle.elab_init.specs.cpp_tree.Typing.{form_in, is_class_typ, is_class_prvalue, unqualified}
use Rattle.elab_init.specs.elab_ctx.Ctx.{Ctx, Work}
use Rattle.elab_init.specs.elab_ctx.Steps.{Operand, Made, MadeAll}
use Rattle.elab_init.specs.elab_ctx.Says.{Faults, MadeAt, Makes, MakesAll, Puts}
use Rattle.elab_init.specs.elab_ctx.Operands.{operand_in}
use Rattle.elab_init.specs.elab_ctx.declared.operand.Operand.{Operand as OperandRec}
use Rattle.elab_init.proofs.elab_ctx.Looks.{grows_trans}
use Rattle.elab_init.specs.elab_rules.Initialising.{reference_word, passed, object_of, class_from, exception_made}
use Rattle.elab_make.specs.Exact.{copied_object}
use Rattle.elab_make.specs.Passing.{passed_object, copying_word}

other_count : (c : Ctx) (w : Work) (ps : List Ty) (o : Operand) → length ps ≢ 1 → reference_word c w (typs_of ps) o ≡ Err (Ill o.at OutOfProfile)
other_count c w [] o n = refl
other_count c w (p ∷ []) o n = absurd (n refl)
other_count c w (p ∷ (q ∷ ps)) o n = refl

pub refused_word : (c : Ctx) (w : Work) (ps : List Ty) (o : Operand) (f : ElabFault) → length ps ≢ 1 → f ≡ Ill o.at OutOfProfile
    → Faults f (reference_word c w (typs_of ps) o)
refused_word c w ps o f n g = subst (λ (z : ElabFault). Faults z (reference_word c w (typs_of ps) o)) (sym g) (other_count c w ps o n)

passed_is : (c : Ctx) (w : Work) (p t : Typ) (o : Operand) → is_class_typ p ≡ true → t ≡ unqualified p → passed c w p o ≡ passed_object c w t o
passed_is c w p t o h e = rw (h, e) refl

pub passed_makes : (old new : List Tree) (v : Work) (r : Result TNodeId ElabFault) (c : Ctx) (w : Work) (p t : Typ) (o : Operand) → is_class_typ p ≡ true
    → t ≡ unqualified p → Makes old new v r (passed_object c w t o) → Makes old new v r (passed c w p o)
passed_makes old new v r c w p t o h e m = subst (λ (z : Result Made ElabFault). Makes old new v r z) (sym (passed_is c w p t o h e)) m

pub no_element : {A : Type 0} (xs : List A) (i : ℕ) (r : Option A) → r ≡ slice_get xs i → ((x : A) → r ≢ Some x) → length xs ≤ i
no_element [] i r e n = omega arith
no_element (x ∷ xs) zero r e n = absurd (n x e)
no_element (x ∷ xs) (suc i) r e n = let less : length xs ≤ i = no_element xs i r e n in omega arith

pub element_at : {A : Type 0} (xs : List A) (i : ℕ) (x : A) → slice_get xs i ≡ Some x → x ≡ get_or xs i x
element_at [] i x h = absurd cc
element_at (y ∷ ys) zero x h = let is : y ≡ x = cc in sym is
element_at (y ∷ ys) (suc i) x h = element_at ys i x h

pub refused_made : (old new : List Tree) (v : Work) (r : Result TNodeId ElabFault) (e : ElabFault) (x : Result Made ElabFault) → r ≡ Err e → Faults e x
    → Makes old new v r x
refused_made old new v r e x h f = subst (λ (z : Result TNodeId ElabFault). Makes old new v z x) (sym h) f

pub refused_all : (old new : List Tree) (v : Work) (r : Result (Vec TNodeId Global) ElabFault) (e : ElabFault) (x : Result MadeAll ElabFault) → r ≡ Err e
    → Faults e x → MakesAll old new v r x
refused_all old new v r e x h f = subst (λ (z : Result (Vec TNodeId Global) ElabFault). MakesAll old new v z x) (sym h) f

word_is : (c : Ctx) (w : Work) (ps : List Ty) (p d : Ty) (o : Operand) → length ps ≡ 1 → p ≡ get_or ps 0 d
    → reference_word c w (typs_of ps) o ≡ copying_word c w (typ_of p) o
word_is c w [] p d o n h = absurd cc
word_is c w (q ∷ []) p d o n h = rw h refl
word_is c w (q ∷ (s ∷ ps)) p d o n h = absurd (omega arith)

pub word_makes : (old new : List Tree) (v : Work) (r : Result (Vec TNodeId Global) ElabFault) (c : Ctx) (w : Work) (ps : List Ty) (p d : Ty) (o : Operand)
    → length ps ≡ 1 → p ≡ get_or ps 0 d → MakesAll old new v r (copying_word c w (typ_of p) o)
    → MakesAll old new v r (reference_word c w (typs_of ps) o)
word_makes old new v r c w ps p d o n h m = subst (λ (z : Result MadeAll ElabFault). MakesAll old new v r z) (sym (word_is c w ps p d o n h)) m

-- an object of a type that is copied from the one that a class prvalue makes

makes_behind : (a b c : List Tree) (w : Work) (r : Result TNodeId ElabFault) (x y : Result Made ElabFault) → Grows a b → y ≡ x → Makes b c w r x
    → Makes a c w r y
makes_behind a b c w (Ok r) x y g e m = record { grows = grows_trans g m.grows; within = m.within; is = e ∙ m.is }
makes_behind a b c w (Err f) x y g e m = subst (λ (z : Result Made ElabFault). Faults f z) (sym e) m

pub copied_makes : (c : Ctx) (w w1 w2 : Work) (t : Typ) (at : At) (o : OperandRec) (id : TNodeId) (r : Result TNodeId ElabFault) (n0 n1 n2 : List Tree)
    → Puts n0 n1 w1 id (object_of c w o.at (tree_at n0 o.id))
    → Makes n1 n2 w2 r (class_from c w1 t at (record { tree = tree_at n1 id; at = o.at; zero = false }))
    → Makes n0 n2 w2 r (copied_object c w t at (operand_in n0 o))
copied_makes c w w1 w2 t at o id r n0 n1 n2 p m =
    let made : Made = object_of c w o.at (tree_at n0 o.id) in
    makes_behind n0 n1 n2 w2 r _ _ p.grows
    (ap (λ (z : Work). class_from c z t at (record { tree = made.tree; at = o.at; zero = false })) (sym p.work_is)
    ∙ ap (λ (z : Tree). class_from c w1 t at (record { tree = z; at = o.at; zero = false })) (sym p.is)) m

-- a `std::tx_exception` that is written with its value
pub exception_makes : (old new : List Tree) (v : Work) (id : TNodeId) (c : Ctx) (w : Work) (t u : Typ) (q r : Bool) (at : At) (o : Operand)
    → form_eq (form_in (typ_in o.tree)) (tx_ex t) ≡ true → is_class_prvalue (typ_in o.tree) (cat_of o.tree) ≡ true → u ≡ typ (tx_ex t) q r
    → Puts old new v id (exception_made c w u at o) → MadeAt old new v id (class_from c w (typ (tx_ex t) q r) at o)
exception_makes old new v id c w t u q r at o f p e m =
    let same : class_from c w (typ (tx_ex t) q r) at o ≡ Ok (exception_made c w (typ (tx_ex t) q r) at o) = rw (f, p) refl in
    record {
      grows = m.grows;
      within = m.within;
      is = same ∙ ap (λ (z : Typ). Ok (exception_made c w z at o)) (sym e)
          ∙ ap (λ (z : Tree). Ok (record { tree = z; work = (exception_made c w u at o).work })) (sym m.is)
          ∙ ap (λ (z : Work). Ok (record { tree = tree_at new id; work = z })) (sym m.work_is);
    }
