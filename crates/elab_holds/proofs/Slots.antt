-- A virtual function has its slot, and objects of its class their pointer.
use Rattle.std.proofs.Common.{◌≡◌, refl, sym, ap, ◌∙◌, subst, ℕ, zero, suc, ◌+◌, ◌-◌, ◌*◌, ◌<◌, Bool, true, false, not, ◌&&◌, ◌||◌, ◌==◌, List, [], ◌∷◌, Option, Some, None, is_some, slice_get}
use Rattle.std.proofs.Common.{unwrap_or, option_and_then, option_map, cond, arith, eq-eqb}
use Rattle.std.specs.Prelude.{if◌then◌else◌}
use Rattle.std.specs.List.{list_any}
use Rattle.std.specs.Str.{bytes_eq}
use Rattle.std.proofs.Math.Nat.{div-eq_of_lt}
use Rattle.std.proofs.lemmas.Bool.{and_parts, and_from}
use Rattle.std.proofs.lemmas.Option.{same_Some}
use Rattle.elab_rules.specs.cpp_types.Typ.{class, func, Signature}
use Rattle.elab_rules.specs.cpp_types.Class.{Class, Function, InOrder, base_of, completion_of}
use Rattle.elab_rules.specs.cpp_types.Conversion.{bases, first_and}
use Rattle.elab_rules.specs.cpp_types.Equal.{name_eq, form_eq, typs_eq, flag_eq}
use Rattle.elab_rules.specs.cpp_types.Trivial.{is_destructor_name}
use Rattle.cpp_types.proofs.Bases.{bases_unroll}
use Rattle.elab_rules.specs.cpp_layout.Layout.{Extent, next_multiple, end_from, base_items, class_extent, is_virtual_function, functions_of, has_virtual}
use Rattle.elab_rules.specs.cpp_layout.Layout.{has_class_pointer}
use Rattle.elab_rules.specs.cpp_tree.declared.program.FuncKind.TheVariants.{Plain}
use Rattle.elab_rules.specs.cpp_tree.Notation.{plain}
use Rattle.elab_rules.specs.cpp_tree.Typing.{passes}
use Rattle.elab_rules.specs.cpp_tree.Units.{SlotFunc}
use Rattle.elab_rules.specs.cpp_tree.Rows.{is_slot_of, has_slot}
use Rattle.elab_rules.specs.cpp_tree.Parts.{size_in, sized_class, pointer_behind, adds_pointer_at, has_pointer_at}
use Rattle.elab_rules.specs.elab_ctx.Ctx.{Ctx, Work, Func}
use Rattle.elab_rules.specs.Calls.{slot_of_function, index_in_class, base_of_class, own_pointer_offset, pointer_along, pointer_offset}
use Rattle.elab_rules.specs.Classes.{functions_in, same_virtual}
use Rattle.elab_rules.specs.Initialising.{signature_parameters}
use Rattle.elab_rules.specs.Functions.{same_kind}
use Rattle.elab_fits.proofs.Equal.{form_refl, flag_same}
use Rattle.elab_fits.proofs.Objects.{sized_from, size_is}
use Rattle.elab_sound_types.specs.Contexts.{HasSoundTypes}
use Rattle.elab_contexts.specs.Holding.{UnitHolds}
use Rattle.elab_contexts.specs.Slots.{HasOwnSlot}
use Rattle.elab_contexts.proofs.Functions.{alike_says, bytes_same, bytes_itself, typs_same, kind_same}
use Rattle.elab_holds.specs.Contexts.{IsApart, AloneByNames, SlotsWhereAlone}
use Rattle.elab_holds.proofs.Order.{order_law}
use Rattle.elab_holds.proofs.Sound.{complete_found}
use Rattle.elab_holds.proofs.Complete.{class_sized, class_at}

no_way : (A : Type 0) (b : Bool) → b ≡ false → b ≡ true → A
no_way A false e h = absurd cc
no_way A true e h = absurd cc

-- Which functions are alone

-- by its name and its parameters, or as a destructor
data Overrides (g o : Function) : Type 0 where
  destroys : is_destructor_name g.name ≡ true → is_destructor_name o.name ≡ true → Overrides g o
  named : g.name ≡ o.name → signature_parameters g.signature ≡ signature_parameters o.signature → g.is_const ≡ o.is_const → Overrides g o

overrides_by : (g o : Function) (b : Bool) → (is_destructor_name g.name && is_destructor_name o.name) ≡ b
    → (b || (bytes_eq g.name o.name && typs_eq (signature_parameters g.signature) (signature_parameters o.signature) && flag_eq g.is_const o.is_const)) ≡ true
    → Overrides g o
overrides_by g o true e h = let p = and_parts (is_destructor_name g.name) (is_destructor_name o.name) e in destroys p.0 p.1
overrides_by g o false e h =
    let n : Bool = bytes_eq g.name o.name in
    let t : Bool = typs_eq (signature_parameters g.signature) (signature_parameters o.signature) in
    let p = and_parts (n && t) (flag_eq g.is_const o.is_const) h in
    let q = and_parts n t p.0 in
    named (bytes_same g.name o.name q.0) (typs_same (signature_parameters g.signature) (signature_parameters o.signature) q.1)
    (flag_same g.is_const o.is_const p.1)

overrides_is : (g o : Function) → same_virtual g o ≡ true → Overrides g o
overrides_is g o h = overrides_by g o (is_destructor_name g.name && is_destructor_name o.name) refl h

-- by names that are apart
apart_by : (c : Ctx) → UnitHolds c → (n j k : ℕ) (f g : Func) (o : Function) → slice_get c.funcs k ≡ Some f → slice_get c.funcs j ≡ Some g
    → f.class ≡ Some n → g.class ≡ Some n → f.kind ≡ Plain → IsApart c.funcs n f → (b : Bool) → same_kind g.kind Plain ≡ b
    → Overrides f.declared o → Overrides g.declared o → j ≡ k
apart_by c u n j k f g o e q d x p m y t (destroys a b) w = no_way (j ≡ k) (is_destructor_name f.declared.name) m.plain a
apart_by c u n j k f g o e q d x p m y t (named a b i) (destroys s z) =
    no_way (j ≡ k) (is_destructor_name f.declared.name) m.plain (ap is_destructor_name a ∙ z)
apart_by c u n j k f g o e q d x p m false t (named a b i) (named h l r) =
    no_way (j ≡ k) (bytes_eq g.declared.name f.declared.name) (m.apart j g q x t)
    (subst (λ (y : List ℕ). bytes_eq g.declared.name y ≡ true) (h ∙ sym a) (bytes_itself g.declared.name))
apart_by c u n j k f g o e q d x p m true t (named a b i) (named h l r) =
    let s = kind_same g.kind Plain t in u.slotted.distinct j k g f q e s (alike_says g f (record {
      name = a ∙ sym h;
      class = d ∙ sym x;
      params = b ∙ sym l;
      const = i ∙ sym r;
      kind = p ∙ sym s;
    }))

pub names_alone : AloneByNames
names_alone c u h k n f e d p v j g o q x w a b = apart_by c u n j k f g o e q d x p (h k n f e d p v) (same_kind g.kind Plain) refl
    (overrides_is f.declared o b) (overrides_is g.declared o a)

-- Its slot

name_itself : (xs : List ℕ) → name_eq xs xs ≡ true
name_itself [] = refl
name_itself (x ∷ xs) = and_from (x == x) (name_eq xs xs) (eq-eqb x x refl) (name_itself xs)

slot_shows : (n : ℕ) (f : Function) (x : SlotFunc) → x.class ≡ n → x.name ≡ f.name → x.signature ≡ f.signature → is_slot_of n f x ≡ true
slot_shows n f x c m s = and_from (x.class == n && name_eq x.name f.name) (form_eq (func x.signature) (func f.signature))
    (and_from (x.class == n) (name_eq x.name f.name) (eq-eqb x.class n c) (subst (λ (y : List ℕ). name_eq x.name y ≡ true) m (name_itself x.name)))
    (subst (λ (y : Signature). form_eq (func x.signature) (func y) ≡ true) s (form_refl (func x.signature)))

slot_in : (f : Function) (n i place : ℕ) (x : SlotFunc) (o : Option (List SlotFunc)) → slice_get (unwrap_or o []) place ≡ Some x → is_slot_of n f x ≡ true
    → i ≡ place → passes (λ (xs : List SlotFunc). passes (is_slot_of n f) (slice_get xs i)) o ≡ true
slot_in f n i place x None e h q = absurd cc
slot_in f n i place x (Some xs) e h q = ap (λ m. passes (is_slot_of n f) (slice_get xs m)) q ∙ ap (passes (is_slot_of n f)) e ∙ h

slot_is : (c : Ctx) (n k : ℕ) (f : Func) → HasOwnSlot c.classes c.slots n (index_in_class n k c.funcs) f.declared
    → has_slot c.slots n (slot_of_function c n k) f.declared ≡ true
slot_is c n k f s = slot_in f.declared n (slot_of_function c n k) s.place s.slot (slice_get c.slots n) s.at (slot_shows n f.declared s.slot s.class s.name s.signature)
    (ap (λ (o : Option ℕ). unwrap_or o 0) s.found)

-- Pointers

any_at : {A : Type 0} (p : A → Bool) (xs : List A) (i : ℕ) (x : A) → slice_get xs i ≡ Some x → p x ≡ true → list_any p xs ≡ true
any_at p [] i x e h = absurd cc
any_at p (y ∷ xs) zero x e h = or_first (p y) (list_any p xs) (ap p (same_Some y x e) ∙ h)
  where
    or_first : (a b : Bool) → a ≡ true → (a || b) ≡ true
    or_first true b q = refl
    or_first false b q = absurd cc
any_at p (y ∷ xs) (suc i) x e h = or_rest (p y) (list_any p xs) (any_at p xs i x e h)
  where
    or_rest : (a b : Bool) → b ≡ true → (a || b) ≡ true
    or_rest true b q = refl
    or_rest false b q = q

first_at_zero : (a : ℕ) → next_multiple 0 a ≡ 0
first_at_zero zero = omega arith
first_at_zero (suc b) =
    let low : 0 + (suc b - 1) < suc b = omega arith in
    ap (λ (z : ℕ). z * suc b) (div-eq_of_lt low) ∙ omega arith

one_item_ends : (e : Extent) → end_from 0 (e ∷ []) ≡ e.size
one_item_ends e = let h = first_at_zero e.align in omega (arith, h)

done_by : (c : Ctx) → UnitHolds c → (n b : ℕ) (k : Class) → slice_get c.classes n ≡ Some k → k.base ≡ Some b → (o : Option ℕ) → k.complete ≡ o
    → is_some o ≡ true → is_some (completion_of c.classes b) ≡ true
done_by c u n b k e q None z l = absurd cc
done_by c u n b k e q (Some i) z l = ap is_some ((u.earlier n k i e z).base b q).complete

done_base : (c : Ctx) → UnitHolds c → (n b : ℕ) (k : Class) → slice_get c.classes n ≡ Some k → k.base ≡ Some b → is_some (completion_of c.classes b) ≡ true
done_base c u n b k e q = done_by c u n b k e q k.complete refl (u.based n b k e q)

-- a class that adds a pointer adds it there
adds_base : (c : Ctx) (w : Work) → UnitHolds c → HasSoundTypes c w → (n : ℕ) (k : Class) (o : Option ℕ) → slice_get c.classes n ≡ Some k → k.base ≡ o
    → passes (λ (offset : ℕ). offset == next_multiple (end_from 0 (base_items (class_extent c.classes) o)) 8) (pointer_behind c.classes o) ≡ true
adds_base c w u h n k None e q = refl
adds_base c w u h n k (Some b) e q =
    let z = sized_from c.classes (plain (class b)) (class_sized c u b (done_base c u n b k e q)) in
    ap (λ (s : Option ℕ). passes (λ (offset : ℕ). offset == next_multiple (end_from 0 (class_extent c.classes b ∷ [])) 8)
    (option_map (λ (size : ℕ). next_multiple size 8) s)) (size_is c.classes (plain (class b)) z)
    ∙ eq-eqb (next_multiple (class_extent c.classes b).size 8) (next_multiple (end_from 0 (class_extent c.classes b ∷ [])) 8)
    (ap (λ (m : ℕ). next_multiple m 8) (sym (one_item_ends (class_extent c.classes b))))

adds_own : (c : Ctx) (w : Work) → UnitHolds c → HasSoundTypes c w → (n : ℕ) → is_some (completion_of c.classes n) ≡ true → has_class_pointer c.classes n ≡ true
    → adds_pointer_at c.classes (own_pointer_offset c.classes n) n ≡ true
adds_own c w u h n d p = class_at (slice_get c.classes n) (adds_pointer_at c.classes (own_pointer_offset c.classes n) n ≡ true) d
    (λ k e z. and_from (has_class_pointer c.classes n) _ p
    (ap (λ (o : Option Class). passes (λ (x : Class). passes (λ (offset : ℕ). offset == own_pointer_offset c.classes n) (pointer_behind c.classes x.base)) o) e
    ∙ ap (λ (o : Option Class). passes (λ (offset : ℕ). offset == next_multiple (end_from 0 (base_items (class_extent c.classes) (base_of_class o))) 8)
    (pointer_behind c.classes k.base)) e ∙ adds_base c w u h n k k.base e refl))

-- along the chain of its bases one has the pointer
record HasIn (cs : List Class) (ns : List ℕ) : Type 0 where
  is : list_any (adds_pointer_at cs (unwrap_or (pointer_along cs ns) 0)) ns ≡ true

or_first : (a b : Bool) → a ≡ true → (a || b) ≡ true
or_first true b q = refl
or_first false b q = absurd cc

or_rest : (a b : Bool) → b ≡ true → (a || b) ≡ true
or_rest true b q = refl
or_rest false b q = q

-- the class itself has it
here : (c : Ctx) (w : Work) → UnitHolds c → HasSoundTypes c w → (n : ℕ) (xs : List ℕ) → is_some (completion_of c.classes n) ≡ true
    → has_class_pointer c.classes n ≡ true → HasIn c.classes (n ∷ xs)
here c w u h n xs d p = record {
  is = ap (λ (b : Bool). list_any (adds_pointer_at c.classes (unwrap_or (if b then Some (own_pointer_offset c.classes n) else pointer_along c.classes xs) 0)) (n ∷ xs)) p
      ∙ or_first (adds_pointer_at c.classes (own_pointer_offset c.classes n) n) _ (adds_own c w u h n d p);
}

-- or one of its bases
behind : (cs : List Class) (n : ℕ) (xs : List ℕ) → has_class_pointer cs n ≡ false → HasIn cs xs → HasIn cs (n ∷ xs)
behind cs n xs p h = record {
  is = ap (λ (b : Bool). list_any (adds_pointer_at cs (unwrap_or (if b then Some (own_pointer_offset cs n) else pointer_along cs xs) 0)) (n ∷ xs)) p
      ∙ or_rest (adds_pointer_at cs (unwrap_or (pointer_along cs xs) 0) n) _ h.is;
}

based_by : (cs : List Class) (n : ℕ) (o : Option Class) → slice_get cs n ≡ o → (b : ℕ) → option_and_then (λ (k : Class). cond (is_some k.complete) k.base None) o ≡ Some b
    → (A : Type 0) → ((k : Class) → slice_get cs n ≡ Some k → k.base ≡ Some b → A) → A
based_by cs n None e b q A f = absurd cc
based_by cs n (Some k) e b q A f = f k e (by (is_some k.complete) q)
  where
    by : (x : Bool) → cond x k.base None ≡ Some b → k.base ≡ Some b
    by true z = z
    by false z = absurd cc

base_done : (c : Ctx) → UnitHolds c → (n b : ℕ) → base_of c.classes n ≡ Some b → is_some (completion_of c.classes b) ≡ true
base_done c u n b q = based_by c.classes n (slice_get c.classes n) refl b q (is_some (completion_of c.classes b) ≡ true) (λ k e z. done_base c u n b k e z)

-- the first base and those behind it
record Unrolled (cs : List Class) (n b : ℕ) (xs : List ℕ) : Type 0 where
  base : base_of cs n ≡ Some b
  rest : bases cs b ≡ xs

unrolled : (cs : List Class) → InOrder cs → (n b : ℕ) (xs : List ℕ) → bases cs n ≡ b ∷ xs → Unrolled cs n b xs
unrolled cs o n b xs e = by (base_of cs n) refl (sym (bases_unroll cs n o) ∙ e)
  where
    by : (z : Option ℕ) → base_of cs n ≡ z → first_and z (bases cs) ≡ b ∷ xs → Unrolled cs n b xs
    by None q r = absurd cc
    by (Some a) q r = let i : a ≡ b = cc in let t : bases cs a ≡ xs = cc in
        record { base = q ∙ ap (λ m. Some m) i; rest = sym (ap (bases cs) i) ∙ t }

in_chain : (c : Ctx) (w : Work) → UnitHolds c → HasSoundTypes c w → (xs : List ℕ) (n : ℕ) → bases c.classes n ≡ xs → is_some (completion_of c.classes n) ≡ true
    → list_any (has_virtual c.classes) (n ∷ xs) ≡ true → HasIn c.classes (n ∷ xs)
in_chain c w u h [] n e d v = here c w u h n [] d (and_from (has_virtual c.classes n) _ (or_none (has_virtual c.classes n) v)
    (ap (λ (ys : List ℕ). not (list_any (has_virtual c.classes) ys)) e))
  where
    or_none : (a : Bool) → (a || false) ≡ true → a ≡ true
    or_none true q = refl
    or_none false q = absurd cc
in_chain c w u h (b ∷ xs) n e d v = by (list_any (has_virtual c.classes) (b ∷ xs)) refl
    (λ q. let r = unrolled c.classes (order_law c w u h) n b xs e in in_chain c w u h xs b r.rest (base_done c u n b r.base) q)
  where
    only_first : (a b : Bool) → b ≡ false → (a || b) ≡ true → a ≡ true
    only_first true b z q = refl
    only_first false true z q = absurd cc
    only_first false false z q = absurd cc

    and_no : (a b : Bool) → b ≡ false → (a && b) ≡ false
    and_no true b z = z
    and_no false b z = refl

    by : (x : Bool) → list_any (has_virtual c.classes) (b ∷ xs) ≡ x → (list_any (has_virtual c.classes) (b ∷ xs) ≡ true → HasIn c.classes (b ∷ xs))
        → HasIn c.classes (n ∷ (b ∷ xs))
    by true q r = behind c.classes n (b ∷ xs) (and_no (has_virtual c.classes n) _ (ap (λ (ys : List ℕ). not (list_any (has_virtual c.classes) ys)) e ∙ ap not q)) (r q)
    by false q r = here c w u h n (b ∷ xs) d (and_from (has_virtual c.classes n) _ (only_first (has_virtual c.classes n) _ q v)
        (ap (λ (ys : List ℕ). not (list_any (has_virtual c.classes) ys)) e ∙ ap not q))

is_there : (cs : List Class) (n : ℕ) (A : Option Class) → slice_get cs n ≡ A → is_some A ≡ true → is_some (size_in cs (plain (class n))) ≡ true
    → is_some (sized_class cs n) ≡ true
is_there cs n o e z s = ap (λ (b : Bool). is_some (cond b (slice_get cs n) None)) s ∙ ap is_some e ∙ z

pointer_is : (c : Ctx) (w : Work) → UnitHolds c → HasSoundTypes c w → (n i : ℕ) (g : Function) → is_some (completion_of c.classes n) ≡ true
    → slice_get (functions_in (slice_get c.classes n)) i ≡ Some g → g.is_virtual ≡ true
    → has_pointer_at c.classes (unwrap_or (pointer_offset c.classes n) 0) n ≡ true
pointer_is c w u h n i g d e v =
    let z = in_chain c w u h (bases c.classes n) n refl d (or_first (has_virtual c.classes n) _ (virtual_by (slice_get c.classes n) e)) in
    and_from (is_some (sized_class c.classes n)) _
    (is_there c.classes n (slice_get c.classes n) refl (complete_found c.classes n d) (class_sized c u n d)) z.is
  where
    virtual_by : (o : Option Class) → slice_get (functions_in o) i ≡ Some g → list_any is_virtual_function (functions_of o) ≡ true
    virtual_by None q = absurd cc
    virtual_by (Some k) q = any_at is_virtual_function k.functions i g q v

pub alone_law : SlotsWhereAlone
alone_law c w u h o k n f e d p v z =
    let s = u.slotted.own k n f e d p v z (o k n f e d p v) in record {
      slot = slot_is c n k f s;
      pointer = pointer_is c w u h n (index_in_class n k c.funcs) f.declared z s.recorded v;
    }
