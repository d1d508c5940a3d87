-- Each virtual function of a complete class keeps its slot behind each step.
use Rattle.std.proofs.Common.{◌≡◌, refl, sym, ap, ◌∙◌, subst, ℕ, zero, suc, ◌+◌, Bool, true, false, List, [], ◌∷◌, ◌++◌, length, slice_get, Option, Some, None, is_some, unwrap_or, eqb-true, eq-eqb, arith}
use Rattle.std.specs.Prelude.{slice_set, ◌==◌}
use Rattle.std.proofs.Common.{option_and_then}
use Rattle.std.proofs.lemmas.List.{length-append, length-set}
use Rattle.std.proofs.lemmas.Option.{same_Some}
use Rattle.elab_rules.specs.cpp_types.Class.{Class, Member, Function, completion_of}
use Rattle.elab_rules.specs.cpp_tree.Units.{SlotFunc}
use Rattle.elab_rules.specs.cpp_tree.declared.program.FuncKind.{FuncKind}
use Rattle.elab_rules.specs.cpp_tree.declared.program.FuncKind.TheVariants.{Plain}
use Rattle.elab_rules.specs.elab_ctx.Ctx.{Ctx, Func, Traits}
use Rattle.elab_rules.specs.Initialising.{signature_parameters}
use Rattle.elab_rules.specs.Calls.{slot_from, index_in_class}
use Rattle.elab_rules.specs.Functions.{first_from, same_kind}
use Rattle.elab_rules.specs.Classes.{functions_in, same_virtual, own_functions, base_slots, slot_of, overriding, new_slots}
use Rattle.elab_contexts.specs.Steps.{View, view, SameFunction, IsOpen, is_same_declared}
use Rattle.elab_contexts.specs.Slots.{slots_at, HasOwnSlot, IsAlone, HasSlotsIn}
use Rattle.elab_contexts.proofs.Lists.{one_more_at}
use Rattle.elab_contexts.proofs.Found.{Stay, stay, stay_added, same_function, before_it}
use Rattle.elab_contexts.proofs.Makers.{Closing, IsOldOr, is_old, is_own}
use Rattle.elab_contexts.proofs.Functions.{index_stays, own_at, indexed, Alike, alike_is, alike_says, turned, none_passes}
use Rattle.elab_contexts.proofs.Overriding.{first_slot, Shows, AllSlots, all_appended, overriding_all, new_all, shows_own}
use Rattle.elab_contexts.proofs.Overriding.{IsOnly, own_slot}

abbrev IsDone : List Class → ℕ → Type 0
IsDone cs n = is_some (completion_of cs n) ≡ true

-- What stays

alone_before : (old new : List Func) (n k : ℕ) (f g : Func) → Stay old new → SameFunction f g → IsAlone new n k g → IsAlone old n k f
alone_before old new n k f g s m a j x o e c v p q = let u = s.kept j x e in
    a j u.func o u.at (u.is.class ∙ c) (ap (λ (z : Function). z.is_virtual) u.is.declared ∙ v) (ap (λ (z : Function). same_virtual z o) u.is.declared ∙ p)
    (ap (λ (z : Function). same_virtual z o) m.declared ∙ q)

own_still : (v w : View) (k n : ℕ) (f g : Func) → Stay v.funcs w.funcs → slice_get v.funcs k ≡ Some f → SameFunction f g → g.class ≡ Some n → g.kind ≡ Plain
    → g.declared.is_virtual ≡ true → IsDone v.classes n → slots_at w.slots n ≡ slots_at v.slots n
    → functions_in (slice_get w.classes n) ≡ functions_in (slice_get v.classes n) → HasSlotsIn v → IsAlone w.funcs n k g
    → HasOwnSlot w.classes w.slots n (index_in_class n k w.funcs) g.declared
own_still v w k n f g s e m c p z d t r h a =
    let y = h.own k n f e (sym m.class ∙ c) (sym m.kind ∙ p) (sym (ap (λ (x : Function). x.is_virtual) m.declared) ∙ z) d
    (alone_before v.funcs w.funcs n k f g s m a) in
    let i : index_in_class n k w.funcs ≡ index_in_class n k v.funcs = index_stays n k f v.funcs w.funcs s e in record {
      recorded = ap (λ (fs : List Function). slice_get fs (index_in_class n k w.funcs)) r ∙ ap (λ j. slice_get (functions_in (slice_get v.classes n)) j) i
          ∙ y.recorded ∙ ap (λ (x : Function). Some x) (sym m.declared);
      place = y.place;
      found = ap (λ (xs : List SlotFunc). slot_from 0 n (index_in_class n k w.funcs) xs) t ∙ ap (λ j. slot_from 0 n j (slots_at v.slots n)) i ∙ y.found;
      slot = y.slot;
      at = ap (λ (xs : List SlotFunc). slice_get xs y.place) t ∙ y.at;
      class = y.class;
      name = y.name ∙ ap (λ (x : Function). x.name) (sym m.declared);
      signature = y.signature ∙ ap (λ (x : Function). x.signature) (sym m.declared);
    }

-- Plain functions are distinct

abbrev Distinct : List Func → Type 0
Distinct fs = (j k : ℕ) (f g : Func) → slice_get fs j ≡ Some f → slice_get fs k ≡ Some g → f.kind ≡ Plain → is_same_declared f g ≡ true → j ≡ k

more_by : (A : Type 0) (fs : List Func) (x : Func) (k : ℕ) (y : Func) → (slice_get fs k ≡ Some y → A) → (k ≡ length fs → x ≡ y → A)
    → slice_get (fs ++ x ∷ []) k ≡ Some y → A
more_by A [] x zero y f g e = g refl (same_Some x y e)
more_by A [] x (suc k) y f g e = absurd cc
more_by A (z ∷ fs) x zero y f g e = f e
more_by A (z ∷ fs) x (suc k) y f g e = more_by A fs x k y f (λ i q. g (ap suc i) q) e

no_way : (A : Type 0) (b : Bool) → b ≡ false → b ≡ true → A
no_way A false e h = absurd cc
no_way A true e h = absurd cc

distinct_added : (fs : List Func) (x : Func) → Distinct fs → (x.kind ≡ Plain → (k : ℕ) (g : Func) → slice_get fs k ≡ Some g → is_same_declared x g ≡ false)
    → Distinct (fs ++ x ∷ [])
distinct_added fs x h d j k f g e q p t = more_by (j ≡ k) fs x j f
    (λ i. more_by (j ≡ k) fs x k g (λ l. h j k f g i l p t)
    (λ l z. no_way (j ≡ k) (is_same_declared g f) (subst (λ (y : Func). is_same_declared y f ≡ false) z
    (d (ap (λ (y : Func). y.kind) z ∙ (alike_is f g t).kind ∙ p) j f i)) (alike_says g f (turned g f (alike_is f g t)))) q)
    (λ i z. more_by (j ≡ k) fs x k g
    (λ l. no_way (j ≡ k) (is_same_declared f g) (subst (λ (y : Func). is_same_declared y g ≡ false) z (d (ap (λ (y : Func). y.kind) z ∙ p) k g l)) t)
    (λ l y. i ∙ sym l) q) e

-- A function is declared

incomplete_is : (cs : List Class) (n : ℕ) → IsOpen cs n → completion_of cs n ≡ None
incomplete_is cs n w = ap (λ (o : Option Class). option_and_then (λ (c : Class). c.complete) o) w.at ∙ w.incomplete

open_done : (cs : List Class) (n : ℕ) (A : Type 0) → IsOpen cs n → IsDone cs n → A
open_done cs n A w d = no_way A (is_some (completion_of cs n)) (ap is_some (incomplete_is cs n w)) d

abbrev Owns : View → ℕ → Func → Type 0
Owns v k f = (n : ℕ) → f.class ≡ Some n → f.kind ≡ Plain → f.declared.is_virtual ≡ true → IsDone v.classes n → IsAlone v.funcs n k f
    → HasOwnSlot v.classes v.slots n (index_in_class n k v.funcs) f.declared

pub slots_added : (a : View) (x : Func) → ((n : ℕ) → x.class ≡ Some n → IsOpen a.classes n) → first_from (is_same_declared x) 0 a.funcs ≡ None → HasSlotsIn a
    → HasSlotsIn (record a { funcs = a.funcs ++ x ∷ [] })
slots_added a x o q h =
    let b : View = record a { funcs = a.funcs ++ x ∷ [] } in record {
      many = h.many;
      whole = h.whole;
      own = λ k n f e c p v d l. one_more_at (Owns b) a.funcs x
          (λ j y i m r s t u z. own_still a b j m y y (stay_added a.funcs x) i (same_function y) r s t u refl refl h z)
          (λ m r s t u z. open_done a.classes m _ (o m r) u) k f e n c p v d l;
      distinct = distinct_added a.funcs x h.distinct (λ p k g e. none_passes (is_same_declared x) 0 a.funcs q k g e);
    }

-- A function is defined

record WasThere (fs : List Func) (k : ℕ) (y : Func) : Type 0 where
  func : Func
  at : slice_get fs k ≡ Some func
  same : SameFunction func y

was_there : (fs : List Func) (p : ℕ) (x : Func) → ((f : Func) → slice_get fs p ≡ Some f → SameFunction f x) → (k : ℕ) (y : Func)
    → slice_get (slice_set fs p x) k ≡ Some y → WasThere fs k y
was_there [] p x s k y e = absurd cc
was_there (z ∷ fs) zero x s zero y e = record { func = z; at = refl; same = subst (λ (u : Func). SameFunction z u) (same_Some x y e) (s z refl) }
was_there (z ∷ fs) zero x s (suc k) y e = record { func = y; at = e; same = same_function y }
was_there (z ∷ fs) (suc p) x s zero y e = record { func = y; at = e; same = same_function y }
was_there (z ∷ fs) (suc p) x s (suc k) y e = let u = was_there fs p x s k y e in record { func = u.func; at = u.at; same = u.same }

alike_before : (f g x y : Func) → SameFunction f x → SameFunction g y → Alike y x → Alike g f
alike_before f g x y s t h = record {
  name = sym (ap (λ (z : Function). z.name) t.declared) ∙ h.name ∙ ap (λ (z : Function). z.name) s.declared;
  class = sym t.class ∙ h.class ∙ s.class;
  params = sym (ap (λ (z : Function). signature_parameters z.signature) t.declared) ∙ h.params ∙ ap (λ (z : Function). signature_parameters z.signature) s.declared;
  const = sym (ap (λ (z : Function). z.is_const) t.declared) ∙ h.const ∙ ap (λ (z : Function). z.is_const) s.declared;
  kind = sym t.kind ∙ h.kind ∙ s.kind;
}

pub slots_defined : (a : View) (p : ℕ) (x : Func) → ((f : Func) → slice_get a.funcs p ≡ Some f → SameFunction f x) → Stay a.funcs (slice_set a.funcs p x)
    → HasSlotsIn a → HasSlotsIn (record a { funcs = slice_set a.funcs p x })
slots_defined a p x s t h =
    let b : View = record a { funcs = slice_set a.funcs p x } in record {
      many = h.many;
      whole = h.whole;
      own = λ k n f e c q v d l. let u = was_there a.funcs p x s k f e in own_still a b k n u.func f t u.at u.same c q v d refl refl h l;
      distinct = λ j k f g e q r z. let u = was_there a.funcs p x s j f e in let w = was_there a.funcs p x s k g q in
          h.distinct j k u.func w.func u.at w.at (sym u.same.kind ∙ r)
          (alike_says u.func w.func (alike_before u.func w.func f g u.same w.same (alike_is f g z)));
    }

-- A class is named, and a lambda has its class

slots_more : (ss : List (List SlotFunc)) (n : ℕ) → slots_at (ss ++ [] ∷ []) n ≡ slots_at ss n
slots_more [] zero = refl
slots_more [] (suc n) = refl
slots_more (s ∷ ss) zero = refl
slots_more (s ∷ ss) (suc n) = slots_more ss n

at_more : (cs : List Class) (c : Class) (n : ℕ) (k : Class) → slice_get cs n ≡ Some k → slice_get (cs ++ c ∷ []) n ≡ slice_get cs n
at_more cs c n k e = before_it cs c n k e ∙ sym e

done_at : (cs : List Class) (n : ℕ) (A : Type 0) → IsDone cs n → ((k : Class) → slice_get cs n ≡ Some k → A) → A
done_at cs n A d f = by (slice_get cs n) refl d
  where
    by : (o : Option Class) → slice_get cs n ≡ o → is_some (option_and_then (λ (c : Class). c.complete) o) ≡ true → A
    by None e h = absurd cc
    by (Some k) e h = f k e

done_more : (cs : List Class) (c : Class) (n : ℕ) → IsDone cs n → IsDone (cs ++ c ∷ []) n
done_more [] c n h = absurd cc
done_more (d ∷ cs) c zero h = h
done_more (d ∷ cs) c (suc n) h = done_more cs c n h

was_done : (cs : List Class) (c : Class) (n : ℕ) → c.complete ≡ None → IsDone (cs ++ c ∷ []) n → IsDone cs n
was_done [] c zero z h = no_way (IsDone [] zero) (is_some c.complete) (ap is_some z) h
was_done [] c (suc n) z h = absurd cc
was_done (d ∷ cs) c zero z h = h
was_done (d ∷ cs) c (suc n) z h = was_done cs c n z h

whole_more : (a : View) (c : Class) → HasSlotsIn a → (n i : ℕ) (x : SlotFunc) → slice_get (slots_at (a.slots ++ [] ∷ []) n) i ≡ Some x
    → IsDone (a.classes ++ c ∷ []) x.class
whole_more a c h n i x e = done_more a.classes c x.class
    (h.whole n i x (ap (λ (xs : List SlotFunc). slice_get xs i) (sym (slots_more a.slots n)) ∙ e))

as_many : (a : View) (c : Class) → HasSlotsIn a → length (a.slots ++ [] ∷ []) ≡ length (a.classes ++ c ∷ [])
as_many a c h = length-append a.slots ([] ∷ []) ∙ ap (λ (n : ℕ). n + 1) h.many ∙ sym (length-append a.classes (c ∷ []))

pub slots_named : (a : View) (ts : List Traits) (c : Class) → c.complete ≡ None → HasSlotsIn a
    → HasSlotsIn (record a { classes = a.classes ++ c ∷ []; traits = ts; slots = a.slots ++ [] ∷ [] })
slots_named a ts c z h =
    let b : View = record a { classes = a.classes ++ c ∷ []; traits = ts; slots = a.slots ++ [] ∷ [] } in record {
      many = as_many a c h;
      whole = whole_more a c h;
      own = λ k n f e r p v d l. let y = was_done a.classes c n z d in own_still a b k n f f (stay a.funcs) e (same_function f) r p v y (slots_more a.slots n)
          (done_at a.classes n (functions_in (slice_get (a.classes ++ c ∷ []) n) ≡ functions_in (slice_get a.classes n)) y
          (λ m q. ap functions_in (at_more a.classes c n m q))) h l;
      distinct = h.distinct;
    }

pub slots_closure : (a : View) (ts : List Traits) (c : Class) (x : Func) → same_kind x.kind Plain ≡ false
    → ((k n : ℕ) (f : Func) → slice_get a.funcs k ≡ Some f → f.class ≡ Some n → is_some (slice_get a.classes n) ≡ true) → HasSlotsIn a
    → HasSlotsIn (record { classes = a.classes ++ c ∷ []; traits = ts; slots = a.slots ++ [] ∷ []; funcs = a.funcs ++ x ∷ [] })
slots_closure a ts c x z o h =
    let b : View = record { classes = a.classes ++ c ∷ []; traits = ts; slots = a.slots ++ [] ∷ []; funcs = a.funcs ++ x ∷ [] } in record {
      many = as_many a c h;
      whole = whole_more a c h;
      own = λ k n f e r p v d l. one_more_at (Owns b) a.funcs x
          (λ j y i m r s t u w. old_slot j y i m r s t u w (slice_get a.classes m) refl (o j m y i r))
          (λ m r s t u w. not_plain _ s) k f e n r p v d l;
      distinct = distinct_added a.funcs x h.distinct (λ p. not_plain _ p);
    }
  where
    not_plain : (A : Type 0) → x.kind ≡ Plain → A
    not_plain A p = no_way A (same_kind x.kind Plain) z (ap (λ (k : FuncKind). same_kind k Plain) p)

    old_slot : (j : ℕ) (y : Func) → slice_get a.funcs j ≡ Some y → (m : ℕ) → y.class ≡ Some m → y.kind ≡ Plain → y.declared.is_virtual ≡ true
        → IsDone (a.classes ++ c ∷ []) m → IsAlone (a.funcs ++ x ∷ []) m j y → (q : Option Class) → slice_get a.classes m ≡ q → is_some q ≡ true
        → HasOwnSlot (a.classes ++ c ∷ []) (a.slots ++ [] ∷ []) m (index_in_class m j (a.funcs ++ x ∷ [])) y.declared
    old_slot j y i m r s t u w None g e = absurd cc
    old_slot j y i m r s t u w (Some k) g e =
        let b : View = record { classes = a.classes ++ c ∷ []; traits = ts; slots = a.slots ++ [] ∷ []; funcs = a.funcs ++ x ∷ [] } in
        let n = at_more a.classes c m k g in
        own_still a b j m y y (stay_added a.funcs x) i (same_function y) r s t
        (ap (λ (q : Option Class). is_some (option_and_then (λ (d : Class). d.complete) q)) (sym n) ∙ u) (slots_more a.slots m) (ap functions_in n) h w

-- A class gets its brace

set_at : {A : Type 0} (xs : List A) (n : ℕ) (x y : A) → slice_get xs n ≡ Some y → slice_get (slice_set xs n x) n ≡ Some x
set_at [] n x y e = absurd cc
set_at (z ∷ xs) zero x y e = refl
set_at (z ∷ xs) (suc n) x y e = set_at xs n x y e

set_other : {A : Type 0} (xs : List A) (n m : ℕ) (x : A) → (m ≡ n → ⊥) → slice_get (slice_set xs n x) m ≡ slice_get xs m
set_other [] n m x e = refl
set_other (z ∷ xs) zero zero x e = absurd (e refl)
set_other (z ∷ xs) zero (suc m) x e = refl
set_other (z ∷ xs) (suc n) zero x e = refl
set_other (z ∷ xs) (suc n) (suc m) x e = set_other xs n m x (λ q. e (ap suc q))

not_same : (m n : ℕ) → (m == n) ≡ false → m ≡ n → ⊥
not_same m n h e = no_way ⊥ (m == n) h (eq-eqb m n e)

has_place : (ss : List (List SlotFunc)) (cs : List Class) (n : ℕ) (c : Class) (xs : List SlotFunc) → length ss ≡ length cs → slice_get cs n ≡ Some c
    → slots_at (slice_set ss n xs) n ≡ xs
has_place [] [] n c xs l e = absurd cc
has_place [] (d ∷ cs) n c xs l e = absurd (omega (arith, l))
has_place (s ∷ ss) [] n c xs l e = absurd cc
has_place (s ∷ ss) (d ∷ cs) zero c xs l e = refl
has_place (s ∷ ss) (d ∷ cs) (suc n) c xs l e = has_place ss cs n c xs (omega (arith, l)) e

done_set : (cs : List Class) (n : ℕ) (c : Class) → is_some c.complete ≡ true → (m : ℕ) → IsDone cs m → IsDone (slice_set cs n c) m
done_set [] n c z m h = h
done_set (d ∷ cs) zero c z zero h = z
done_set (d ∷ cs) zero c z (suc m) h = h
done_set (d ∷ cs) (suc n) c z zero h = h
done_set (d ∷ cs) (suc n) c z (suc m) h = done_set cs n c z m h

done_here : (cs : List Class) (n : ℕ) (c d : Class) → is_some c.complete ≡ true → slice_get cs n ≡ Some d → IsDone (slice_set cs n c) n
done_here cs n c d z e = ap (λ (o : Option Class). is_some (option_and_then (λ (k : Class). k.complete) o)) (set_at cs n c d e) ∙ z

abbrev Done : List Class → SlotFunc → Type 0
Done cs x = IsDone cs x.class

base_all : (P : SlotFunc → Type 0) (l : Ctx) (o : Option ℕ) → ((b : ℕ) → AllSlots P (slots_at l.slots b)) → AllSlots P (base_slots l o)
base_all P l None h k x e = absurd cc
base_all P l (Some b) h k x e = h b k x e

-- the functions of the class are alone, as its record has them
only : (fs : List Func) (n k : ℕ) (f : Func) → IsAlone fs n k f → IsOnly (own_functions n fs) (index_in_class n k fs) f.declared
only fs n k f a j g o e v p q = let x = indexed n j g fs e in
    sym x.index ∙ ap (λ i. index_in_class n i fs) (a x.place x.func o x.at x.class (ap (λ (z : Function). z.is_virtual) x.is ∙ v)
    (ap (λ (z : Function). same_virtual z o) x.is ∙ p) q)

abbrev slots_of_class : Ctx → Option ℕ → ℕ → List Function → List SlotFunc
slots_of_class l base n gs = overriding l.classes n gs (base_slots l base) ++ new_slots l base n 0 gs

slot_here : (cs : List Class) (ss : List (List SlotFunc)) (l : Ctx) (base : Option ℕ) (n k : ℕ) (f : Func) (fs : List Func)
    → slice_get fs k ≡ Some f → f.class ≡ Some n → f.declared.is_virtual ≡ true → IsAlone fs n k f
    → functions_in (slice_get cs n) ≡ own_functions n fs → slots_at ss n ≡ slots_of_class l base n (own_functions n fs)
    → ((b : ℕ) → AllSlots (Shows n (own_functions n fs)) (slots_at l.slots b)) → HasOwnSlot cs ss n (index_in_class n k fs) f.declared
slot_here cs ss l base n k f fs e c v a r t w =
    let gs : List Function = own_functions n fs in
    let i : ℕ = index_in_class n k fs in
    let g = own_at n k f fs e c in
    let y = own_slot l base n i f.declared gs g v (only fs n k f a) in
    let z = first_slot n i 0 y.place y.slot (slots_of_class l base n gs) y.at y.is in
    let s = all_appended (Shows n gs) (overriding l.classes n gs (base_slots l base)) (new_slots l base n 0 gs)
    (overriding_all (Shows n gs) l.classes n gs (base_slots l base) (base_all (Shows n gs) l base w) (shows_own n gs))
    (new_all (Shows n gs) l base n gs (shows_own n gs)) z.place z.slot z.at z.is.class in
    let q : s.function ≡ f.declared = same_Some s.function f.declared (sym s.at ∙ ap (slice_get gs) z.is.func ∙ g) in record {
      recorded = ap (λ (xs : List Function). slice_get xs i) r ∙ g;
      place = z.place;
      found = ap (λ (xs : List SlotFunc). slot_from 0 n i xs) t ∙ z.found ∙ ap (λ m. Some m) (omega arith);
      slot = z.slot;
      at = ap (λ (xs : List SlotFunc). slice_get xs z.place) t ∙ z.at;
      class = z.is.class;
      name = s.name ∙ ap (λ (x : Function). x.name) q;
      signature = s.signature ∙ ap (λ (x : Function). x.signature) q;
    }

plain_old : (old : List Func) (n k : ℕ) (f : Func) → IsOldOr old n k f → f.kind ≡ Plain → slice_get old k ≡ Some f
plain_old old n k f (is_old e) p = e
plain_old old n k f (is_own c z y) p = no_way (slice_get old k ≡ Some f) (same_kind f.kind Plain) z (ap (λ (x : FuncKind). same_kind x Plain) p)

pub slots_closed : (c : Ctx) (n : ℕ) (name : List ℕ) (base : Option ℕ) (ms : List Member) (d : Ctx) → Closing c n name base ms d → IsOpen c.classes n
    → HasSlotsIn (view c) → HasSlotsIn (view d)
slots_closed c n name base ms d x w h = record {
  many = ap length x.slots ∙ length-set c.slots n _ ∙ h.many ∙ sym (length-set c.classes n x.class) ∙ sym (ap length x.classes);
  whole = λ m. whole_at m (m == n) refl;
  own = λ k m f e r p v q a. own_at_class k m f e r p v q a (m == n) refl;
  distinct = λ j k f g e q p t. h.distinct j k f g (plain_old c.funcs n j f (x.added j f e) p)
      (plain_old c.funcs n k g (x.added k g q) ((alike_is f g t).kind ∙ p)) p t;
}
  where
    z : is_some x.class.complete ≡ true
    z = ap is_some x.closed.complete

    xs : List SlotFunc
    xs = slots_of_class x.last base n x.class.functions

    here : slots_at d.slots n ≡ xs
    here = ap (λ (ss : List (List SlotFunc)). slots_at ss n) x.slots ∙ has_place c.slots c.classes n w.class xs h.many w.at

    there : (m : ℕ) → (m == n) ≡ false → slots_at d.slots m ≡ slots_at c.slots m
    there m q = ap (λ (ss : List (List SlotFunc)). slots_at ss m) x.slots ∙ ap (λ (o : Option (List SlotFunc)). unwrap_or o []) (set_other c.slots n m xs (not_same m n q))

    class_there : (m : ℕ) → (m == n) ≡ false → slice_get d.classes m ≡ slice_get c.classes m
    class_there m q = ap (λ (cs : List Class). slice_get cs m) x.classes ∙ set_other c.classes n m x.class (not_same m n q)

    old_done : AllSlots (Done d.classes) (base_slots x.last base)
    old_done = base_all (Done d.classes) x.last base (λ b k y e. subst (λ (cs : List Class). IsDone cs y.class) (sym x.classes)
        (done_set c.classes n x.class z y.class (h.whole b k y (ap (λ (ss : List (List SlotFunc)). slice_get (slots_at ss b) k) (sym x.last_slots) ∙ e))))

    own_done : (i : ℕ) (g : Function) → slice_get x.class.functions i ≡ Some g → Done d.classes (slot_of n i g)
    own_done i g e = subst (λ (cs : List Class). IsDone cs n) (sym x.classes) (done_here c.classes n x.class w.class z w.at)

    all_done : AllSlots (Done d.classes) xs
    all_done = all_appended (Done d.classes) (overriding x.last.classes n x.class.functions (base_slots x.last base)) (new_slots x.last base n 0 x.class.functions)
        (overriding_all (Done d.classes) x.last.classes n x.class.functions (base_slots x.last base) old_done own_done)
        (new_all (Done d.classes) x.last base n x.class.functions own_done)

    whole_at : (m : ℕ) (b : Bool) → (m == n) ≡ b → (i : ℕ) (y : SlotFunc) → slice_get (slots_at d.slots m) i ≡ Some y → IsDone d.classes y.class
    whole_at m true q i y e = all_done i y (ap (λ (ys : List SlotFunc). slice_get ys i)
        (sym (subst (λ j. slots_at d.slots j ≡ xs) (sym (eqb-true m n q)) here)) ∙ e)
    whole_at m false q i y e = subst (λ (cs : List Class). IsDone cs y.class) (sym x.classes) (done_set c.classes n x.class z y.class
        (h.whole m i y (ap (λ (ys : List SlotFunc). slice_get ys i) (sym (there m q)) ∙ e)))

    -- a slot of the base has a function of a class that is complete, which this one is not
    no_own : (b : ℕ) → AllSlots (Shows n (own_functions n d.funcs)) (slots_at x.last.slots b)
    no_own b k y e l = open_done c.classes n _ w (subst (λ j. IsDone c.classes j) l
        (h.whole b k y (ap (λ (ss : List (List SlotFunc)). slice_get (slots_at ss b) k) (sym x.last_slots) ∙ e)))

    own_at_class : (k m : ℕ) (f : Func) → slice_get d.funcs k ≡ Some f → f.class ≡ Some m → f.kind ≡ Plain → f.declared.is_virtual ≡ true → IsDone d.classes m
        → IsAlone d.funcs m k f → (b : Bool) → (m == n) ≡ b → HasOwnSlot d.classes d.slots m (index_in_class m k d.funcs) f.declared
    own_at_class k m f e r p v q a false t = own_still (view c) (view d) k m f f x.stays (plain_old c.funcs n k f (x.added k f e) p) (same_function f) r p v
        (ap (λ (o : Option Class). is_some (option_and_then (λ (y : Class). y.complete) o)) (sym (class_there m t)) ∙ q) (there m t)
        (ap functions_in (class_there m t)) h a
    own_at_class k m f e r p v q a true t = subst (λ j. HasOwnSlot d.classes d.slots j (index_in_class j k d.funcs) f.declared) (sym (eqb-true m n t))
        (slot_here d.classes d.slots x.last base n k f d.funcs e (r ∙ ap (λ j. Some j) (eqb-true m n t)) v
        (subst (λ j. IsAlone d.funcs j k f) (eqb-true m n t) a)
        (ap functions_in (ap (λ (cs : List Class). slice_get cs n) x.classes ∙ set_at c.classes n x.class w.class w.at) ∙ x.functions)
        (here ∙ ap (slots_of_class x.last base n) x.functions) no_own)
