-- A class that becomes complete, a function that is defined, a global that gets its cells: what stands in their lists stands there still.
use Rattle.std.proofs.Common.{◌≡◌, refl, sym, ap, ◌∙◌, subst, ℕ, zero, suc, List, [], ◌∷◌, length, slice_get, Option, Some, None, unwrap_or, Result, Ok, Err, arith}
use Rattle.std.specs.Prelude.{slice_set}
use Rattle.std.proofs.lemmas.List.{length-set}
use Rattle.std.proofs.lemmas.Option.{same_Some}
use Rattle.elab_rules.specs.cpp_types.Class.{Class, completion_of}
use Rattle.elab_rules.specs.cpp_tree.Units.{Global, SlotFunc}
use Rattle.elab_rules.specs.cpp_tree.declared.faults.ElabFault.{ElabFault}
use Rattle.elab_rules.specs.elab_ctx.Ctx.{Ctx, Func}
use Rattle.elab_rules.specs.Initialising.{func_at, no_function}
use Rattle.elab_rules.specs.Functions.{Header, defined_function, with_definition}
use Rattle.elab_rules.specs.Statements.{State}
use Rattle.elab_fits.specs.Standing.{On}
use Rattle.setting_growth.specs.Growth.{ClassesGrow, SlotsGrow, GlobalsGrow, HasGlobal, slot_at}
use Rattle.setting_growth.proofs.Settings.{classes_stay, slots_stay, globals_stay}
use Rattle.state_growth.specs.Settings.{SameDeclared, HasDeclared, DeclaredGrow}
use Rattle.state_growth.specs.States.{NumbersGrow}
use Rattle.state_growth.proofs.Numbers.{numbers_stay, numbers_set, numbered_set}
use Rattle.elab_rules.specs.Classes.{is_completed}
use Rattle.std.specs.Prelude.{count_by, ◌<◌}
use Rattle.state_growth.proofs.Steps.{Seen, seen, Tidy, Kept, kept_refl, kept_trans, Leaves, funcs_stay, funcs_go_on}

-- Classes

class_kept : (cs : List Class) (n : ℕ) (x : Class) → completion_of cs n ≡ None → (m k : ℕ) (c : Class) → slice_get cs m ≡ Some c → c.complete ≡ Some k
    → slice_get (slice_set cs n x) m ≡ Some c
class_kept [] n x e m k c h q = absurd cc
class_kept (d ∷ cs) zero x e zero k c h q =
    let f : Some k ≡ None = sym (ap (λ (z : Class). z.complete) (same_Some d c h) ∙ q) ∙ e in absurd cc
class_kept (d ∷ cs) zero x e (suc m) k c h q = h
class_kept (d ∷ cs) (suc n) x e zero k c h q = h
class_kept (d ∷ cs) (suc n) x e (suc m) k c h q = class_kept cs n x e m k c h q

classes_set : (cs : List Class) (n : ℕ) (x : Class) → completion_of cs n ≡ None → ClassesGrow cs (slice_set cs n x)
classes_set cs n x e = record { complete = class_kept cs n x e; many = let l = length-set cs n x in omega arith }

-- Slots

slot_kept : (ss : List (List SlotFunc)) (n : ℕ) (xs : List SlotFunc) → ((i : ℕ) → slot_at ss n i ≡ None) → (m i : ℕ) (x : SlotFunc)
    → slot_at ss m i ≡ Some x → slot_at (slice_set ss n xs) m i ≡ Some x
slot_kept [] n xs e m i x h = absurd cc
slot_kept (s ∷ ss) zero xs e zero i x h = let f : Some x ≡ None = sym h ∙ e i in absurd cc
slot_kept (s ∷ ss) zero xs e (suc m) i x h = h
slot_kept (s ∷ ss) (suc n) xs e zero i x h = h
slot_kept (s ∷ ss) (suc n) xs e (suc m) i x h = slot_kept ss n xs e m i x h

slots_set : (ss : List (List SlotFunc)) (n : ℕ) (xs : List SlotFunc) → ((i : ℕ) → slot_at ss n i ≡ None) → SlotsGrow ss (slice_set ss n xs)
slots_set ss n xs e = record { kept = slot_kept ss n xs e }

empty_still : (cs : List Class) (ss : List (List SlotFunc)) → length ss ≡ length cs → (n k : ℕ) (x : Class) → x.complete ≡ Some k → (xs : List SlotFunc)
    → ((m i : ℕ) → completion_of cs m ≡ None → slot_at ss m i ≡ None) → (m i : ℕ) → completion_of (slice_set cs n x) m ≡ None
    → slot_at (slice_set ss n xs) m i ≡ None
empty_still [] [] l n k x q xs t m i e = refl
empty_still [] (s ∷ ss) l n k x q xs t m i e = absurd (omega arith)
empty_still (c ∷ cs) [] l n k x q xs t m i e = absurd (omega arith)
empty_still (c ∷ cs) (s ∷ ss) l zero k x q xs t zero i e = let f : Some k ≡ None = sym q ∙ e in absurd cc
empty_still (c ∷ cs) (s ∷ ss) l zero k x q xs t (suc m) i e = t (suc m) i e
empty_still (c ∷ cs) (s ∷ ss) l (suc n) k x q xs t zero i e = t zero i e
empty_still (c ∷ cs) (s ∷ ss) l (suc n) k x q xs t (suc m) i e =
    empty_still cs ss (omega arith) n k x q xs (λ j u. t (suc j) u) m i e

-- from a state that is tidy
pub record Since (a b : Seen) : Type 0 where
  pub kept : Kept a b
  pub tidy : Tidy b

abbrev pub From : State → State → Type 0
From a b = Since (seen a) (seen b)

pub begin : (a : State) → Tidy (seen a) → From a a
begin a t = record { kept = kept_refl (seen a); tidy = t }

pub since : (a b c : State) → From a b → Leaves b c → From a c
since a b c g h = record { kept = kept_trans (seen a) (seen b) (seen c) g.kept h.kept; tidy = h.tidy g.tidy }

pub leaves_from : (a b : State) (r : Result State ElabFault) → From a b → On (Leaves b) r → On (From a) r
leaves_from a b (Ok c) g h = since a b c g h
leaves_from a b (Err e) g h = tt

-- a class that is not complete becomes so
completing : (b : Seen) (fs : List Func) (n k : ℕ) (x : Class) (xs : List SlotFunc) → x.complete ≡ Some k → k ≡ count_by is_completed b.classes → Tidy b
    → DeclaredGrow b.funcs fs
    → completion_of b.classes n ≡ None → Since b (record b { classes = slice_set b.classes n x; slots = slice_set b.slots n xs; funcs = fs })
completing b fs n k x xs q l t g e = record {
  kept = record {
    classes = classes_set b.classes n x e;
    numbers = numbers_set b.classes n x k q l e;
    slots = slots_set b.slots n xs (λ i. t.empty n i e);
    funcs = g;
    globals = globals_stay b.globals;
    frame = λ i u h. h;
  };
  tidy = record {
    many = length-set b.slots n xs ∙ t.many ∙ sym (length-set b.classes n x);
    empty = empty_still b.classes b.slots t.many n k x q xs t.empty;
    numbered = numbered_set b.classes n x k q l e t.numbered;
  };
}

pub completed_since : (a b : Seen) (cs : List Class) (ss : List (List SlotFunc)) (fs : List Func) (n k : ℕ) (x : Class) (xs : List SlotFunc)
    → x.complete ≡ Some k → k ≡ count_by is_completed b.classes → Since a b → cs ≡ b.classes → ss ≡ b.slots → DeclaredGrow b.funcs fs → completion_of b.classes n ≡ None
    → Since a (record b { classes = slice_set cs n x; slots = slice_set ss n xs; funcs = fs })
completed_since a b cs ss fs n k x xs q l s e f g i =
    let c : Seen = record b { classes = slice_set b.classes n x; slots = slice_set b.slots n xs; funcs = fs } in
    let h = completing b fs n k x xs q l s.tidy g i in
    subst (λ (z : List Class). Since a (record b { classes = slice_set z n x; slots = slice_set ss n xs; funcs = fs })) (sym e)
    (subst (λ (z : List (List SlotFunc)). Since a (record b { classes = slice_set b.classes n x; slots = slice_set z n xs; funcs = fs })) (sym f)
    (record { kept = kept_trans a b c s.kept h.kept; tidy = h.tidy }))

-- Functions

pub funcs_set : (fs : List Func) (n : ℕ) (g : Func) → ((f : Func) → slice_get fs n ≡ Some f → SameDeclared f g) → DeclaredGrow fs (slice_set fs n g)
funcs_set [] n g s = record { kept = λ i f h. absurd cc }
funcs_set (d ∷ fs) zero g s = record { kept = by }
  where
    by : (i : ℕ) (f : Func) → slice_get (d ∷ fs) i ≡ Some f → HasDeclared (g ∷ fs) i f
    by zero f h = record { func = g; at = refl; same = s f h }
    by (suc i) f h = record { func = f; at = h; same = record { declared = refl; kind = refl; class = refl } }
funcs_set (d ∷ fs) (suc n) g s = record { kept = by (funcs_set fs n g s) }
  where
    by : DeclaredGrow fs (slice_set fs n g) → (i : ℕ) (f : Func) → slice_get (d ∷ fs) i ≡ Some f → HasDeclared (d ∷ slice_set fs n g) i f
    by r zero f h = record { func = f; at = h; same = record { declared = refl; kind = refl; class = refl } }
    by r (suc i) f h = let k = r.kept i f h in record { func = k.func; at = k.at; same = k.same }

-- Globals

pub globals_set : (vs : List Global) (n : ℕ) (g : Global) → ((v : Global) → slice_get vs n ≡ Some v → g.typ ≡ v.typ) → GlobalsGrow vs (slice_set vs n g)
globals_set [] n g s = record { kept = λ i v h. absurd cc }
globals_set (d ∷ vs) zero g s = record { kept = by }
  where
    by : (i : ℕ) (v : Global) → slice_get (d ∷ vs) i ≡ Some v → HasGlobal (g ∷ vs) i v.typ
    by zero v h = record { global = g; at = refl; typ = s v h }
    by (suc i) v h = record { global = v; at = h; typ = refl }
globals_set (d ∷ vs) (suc n) g s = record { kept = by (globals_set vs n g s) }
  where
    by : GlobalsGrow vs (slice_set vs n g) → (i : ℕ) (v : Global) → slice_get (d ∷ vs) i ≡ Some v → HasGlobal (d ∷ slice_set vs n g) i v.typ
    by r zero v h = record { global = v; at = h; typ = refl }
    by r (suc i) v h = let k = r.kept i v h in record { global = k.global; at = k.at; typ = k.typ }

-- Contexts in which functions alone are more, or defined

pub record Further (c d : Ctx) : Type 0 where
  pub classes : d.classes ≡ c.classes
  pub slots : d.slots ≡ c.slots
  pub funcs : DeclaredGrow c.funcs d.funcs

pub no_further : (c : Ctx) → Further c c
no_further c = record { classes = refl; slots = refl; funcs = funcs_stay c.funcs }

pub further_on : (a b c : Ctx) → Further a b → Further b c → Further a c
further_on a b c g h = record { classes = h.classes ∙ g.classes; slots = h.slots ∙ g.slots; funcs = funcs_go_on a.funcs b.funcs c.funcs g.funcs h.funcs }

pub further_leaves : (st : State) (c : Ctx) → Further st.ctx c → Leaves st (record st { ctx = c })
further_leaves st c f = record {
  kept = record {
    classes = subst (λ (z : List Class). ClassesGrow st.ctx.classes z) (sym f.classes) (classes_stay st.ctx.classes);
    numbers = subst (λ (z : List Class). NumbersGrow st.ctx.classes z) (sym f.classes) (numbers_stay st.ctx.classes);
    slots = subst (λ (z : List (List SlotFunc)). SlotsGrow st.ctx.slots z) (sym f.slots) (slots_stay st.ctx.slots);
    funcs = f.funcs;
    globals = globals_stay st.work.globals;
    frame = λ i t h. h;
  };
  tidy = λ t. record {
    many = ap length f.slots ∙ t.many ∙ sym (ap length f.classes);
    empty = λ n i h. ap (λ (ss : List (List SlotFunc)). slot_at ss n i) f.slots
        ∙ t.empty n i (ap (λ (cs : List Class). completion_of cs n) (sym f.classes) ∙ h);
    numbered = λ n k h. subst (λ (cs : List Class). k < count_by is_completed cs) (sym f.classes)
        (t.numbered n k (ap (λ (cs : List Class). completion_of cs n) (sym f.classes) ∙ h));
  };
}

-- A definition

at_func : (fs : List Func) (i : ℕ) (f : Func) → slice_get fs i ≡ Some f → func_at fs i ≡ f
at_func fs i f h = ap (λ (o : Option Func). unwrap_or o no_function) h

same_at : (fs : List Func) (i : ℕ) (g : Func) → SameDeclared (func_at fs i) g → (f : Func) → slice_get fs i ≡ Some f → SameDeclared f g
same_at fs i g s f h = subst (λ (z : Func). SameDeclared z g) (at_func fs i f h) s

pub set_further : (c : Ctx) (i : ℕ) (g : Func) → SameDeclared (func_at c.funcs i) g → Further c (record c { funcs = slice_set c.funcs i g })
set_further c i g s = record { classes = refl; slots = refl; funcs = funcs_set c.funcs i g (same_at c.funcs i g s) }

pub definition_further : (c : Ctx) (i : ℕ) (h : Header) (text : List ℕ) (closed : ℕ) → Further c (with_definition c i h text closed)
definition_further c i h text closed = set_further c i (defined_function (func_at c.funcs i) h text closed)
    (record { declared = refl; kind = refl; class = refl })
