-- Functions, units and programs whose bodies are folded one by one.
use Rattle.std.proofs.Common.{◌≡◌, ℕ, zero, suc, ◌+◌, ◌<◌, ◌≤◌, Bool, true, List, [], ◌∷◌, ◌++◌, length, drop, take, map, set, slice_get, refl, sym, ◌∙◌, ap}
use Rattle.std.proofs.Common.{subst, arith, append_assoc, append-nil, add-one, Option, Some, None}
use Rattle.std.specs.Prelude.{option_map, Result, Ok, Err, OnOk}
use Rattle.std.proofs.Math.Path.{fun_ext}
use Rattle.std.proofs.lemmas.Bool.{ltb-true, lt-ltb, and_parts}
use Rattle.std.proofs.lemmas.List.{length-set}
use Rattle.cpp_tree.specs.declared.arena.TNode.{TNode}
use Rattle.cpp_tree.specs.declared.arena.TNodeId.{TNodeId}
use Rattle.cpp_tree.specs.declared.program.TFunc.{TFunc}
use Rattle.cpp_tree.specs.declared.program.UnitTree.{UnitTree}
use Rattle.cpp_tree.specs.Trees.{Tree}
use Rattle.cpp_tree.specs.Arena.{tree_at, Grows, Adds}
use Rattle.cpp_tree.specs.cpp_types.declared.classes.ClassRec.{ClassRec}
use Rattle.cpp_tree.specs.cpp_types.Class.{classes_of}
use Rattle.cpp_tree.specs.declared.program.Program.{Program}
use Rattle.cpp_tree.specs.Units.{Func, Unit as TypedUnit, func_of, unit_of, program_of}
use Rattle.tx_unsafe.specs.Volatile.{marked, has_volatile_part}
use Rattle.tree_fold.specs.Folding.{folded}
use Rattle.tree_fold.specs.Programs.{folded_func, folded_unit, folded_program}
use Rattle.tree_fold.specs.Bodies.{is_body_within, AddsBody, are_bodies_within, HaveRootsFrom, FoldedUpTo, ReadableFrom, UnitFolded, units_folded}
use Rattle.cpp_tree.specs.WellFormed.{WellFormed}
use Rattle.tree_fold.proofs.Growing.{both_true, grows_refl, within_grown, at_grown, drop_past}

-- One function

pub body_added : (old new : List Tree) (id : TNodeId) (tree : Tree) → Adds old new id tree → AddsBody old new (Some id) (Some tree)
body_added old new id tree m = record { grows = m.grows; within = lt-ltb id.0 (length new) m.within; is = ap Some m.is }

pub no_body : (trees : List Tree) → AddsBody trees trees None None
no_body trees = record { grows = grows_refl trees; within = refl; is = refl }

pub body_added_at : (v : ℕ → Bool) (from old new : List Tree) (body : Option TNodeId) (root id : TNodeId) → body ≡ Some root
    → Adds old new id (folded v (tree_at from root)) → AddsBody old new (Some id) (option_map (folded v) (option_map (tree_at from) body))
body_added_at v from old new body root id e m = subst (λ (z : Option TNodeId). AddsBody old new (Some id) (option_map (folded v) (option_map (tree_at from) z)))
    (sym e) (body_added old new id (folded v (tree_at from root)) m)

pub no_body_at : (v : ℕ → Bool) (from trees : List Tree) (body : Option TNodeId) → body ≡ None
    → AddsBody trees trees None (option_map (folded v) (option_map (tree_at from) body))
no_body_at v from trees body e = subst (λ (z : Option TNodeId). AddsBody trees trees None (option_map (folded v) (option_map (tree_at from) z))) (sym e)
    (no_body trees)

pub func_folded : (v : ℕ → Bool) (from new old : List Tree) (f : TFunc) (body : Option TNodeId)
    → AddsBody old new body (option_map (folded v) (option_map (tree_at from) f.body)) → func_of new (record f { body = body }) ≡ folded_func v (func_of from f)
func_folded v from new old f body m = ap (λ (z : Option Tree). record (func_of from f) { body = z }) m.is

-- Functions that stay

body_grown : (old new : List Tree) (body : Option TNodeId) → Grows old new → is_body_within (length old) body ≡ true
    → option_map (tree_at new) body ≡ option_map (tree_at old) body
body_grown old new None g h = refl
body_grown old new (Some id) g h = ap Some (at_grown old new id g (ltb-true id.0 (length old) h))

body_within_grown : (old new : List Tree) (body : Option TNodeId) → Grows old new → is_body_within (length old) body ≡ true
    → is_body_within (length new) body ≡ true
body_within_grown old new None g h = refl
body_within_grown old new (Some id) g h = lt-ltb id.0 (length new) (within_grown old new id.0 g (ltb-true id.0 (length old) h))

func_grown : (old new : List Tree) (f : TFunc) → Grows old new → is_body_within (length old) f.body ≡ true → func_of new f ≡ func_of old f
func_grown old new f g h = ap (λ (z : Option Tree). record (func_of old f) { body = z }) (body_grown old new f.body g h)

funcs_grown : (old new : List Tree) (fs : List TFunc) → Grows old new → are_bodies_within (length old) fs ≡ true → map (func_of new) fs ≡ map (func_of old) fs
funcs_grown old new [] g h = refl
funcs_grown old new (f ∷ fs) g h =
    let p = and_parts (is_body_within (length old) f.body) (are_bodies_within (length old) fs) h in
    let here : func_of new f ≡ func_of old f = func_grown old new f g p.0 in
    let others : map (func_of new) fs ≡ map (func_of old) fs = funcs_grown old new fs g p.1 in
    cc

funcs_within_grown : (old new : List Tree) (fs : List TFunc) → Grows old new → are_bodies_within (length old) fs ≡ true
    → are_bodies_within (length new) fs ≡ true
funcs_within_grown old new [] g h = refl
funcs_within_grown old new (f ∷ fs) g h =
    let p = and_parts (is_body_within (length old) f.body) (are_bodies_within (length old) fs) h in
    both_true _ _ (body_within_grown old new f.body g p.0) (funcs_within_grown old new fs g p.1)

within_pushed : (n : ℕ) (fs : List TFunc) (f : TFunc) → are_bodies_within n fs ≡ true → is_body_within n f.body ≡ true
    → are_bodies_within n (fs ++ f ∷ []) ≡ true
within_pushed n [] f h g = both_true _ _ g refl
within_pushed n (e ∷ fs) f h g = let p = and_parts (is_body_within n e.body) (are_bodies_within n fs) h in both_true _ _ p.0 (within_pushed n fs f p.1 g)

map_push : {A B : Type 0} (f : A → B) (xs : List A) (x : A) → map f (xs ++ x ∷ []) ≡ map f xs ++ f x ∷ []
map_push f [] x = refl
map_push f (y ∷ xs) x = ap (λ z. f y ∷ z) (map_push f xs x)

-- Lists in which one element is set

pub found : {A : Type 0} (xs : List A) (i : ℕ) → i < length xs → (x : A) × (slice_get xs i ≡ Some x)
found [] i h = absurd (omega arith)
found (x ∷ xs) zero h = (x, refl)
found (x ∷ xs) (suc i) h = found xs i (omega arith)

pub take_set_next : {A : Type 0} (xs : List A) (i : ℕ) (y : A) → i < length xs → take (suc i) (set xs i y) ≡ take i xs ++ y ∷ []
take_set_next [] i y h = absurd (omega arith)
take_set_next (x ∷ xs) zero y h = refl
take_set_next (x ∷ xs) (suc i) y h = ap (λ z. x ∷ z) (take_set_next xs i y (omega arith))

pub drop_set_next : {A : Type 0} (xs : List A) (i : ℕ) (y : A) → drop (suc i) (set xs i y) ≡ drop (suc i) xs
drop_set_next [] i y = refl
drop_set_next (x ∷ xs) zero y = refl
drop_set_next (x ∷ xs) (suc i) y = drop_set_next xs i y

pub drop_at : {A : Type 0} (xs : List A) (i : ℕ) (x : A) → slice_get xs i ≡ Some x → drop i xs ≡ x ∷ drop (suc i) xs
drop_at [] i x e = absurd cc
drop_at (y ∷ xs) zero x e = let s : y ≡ x = cc in ap (λ z. z ∷ xs) s
drop_at (y ∷ xs) (suc i) x e = drop_at xs i x e

pub get_set_other : {A : Type 0} (xs : List A) (i n : ℕ) (y : A) → i < n → slice_get (set xs i y) n ≡ slice_get xs n
get_set_other [] i n y h = refl
get_set_other (x ∷ xs) zero zero y h = absurd (omega arith)
get_set_other (x ∷ xs) zero (suc n) y h = refl
get_set_other (x ∷ xs) (suc i) zero y h = absurd (omega arith)
get_set_other (x ∷ xs) (suc i) (suc n) y h = get_set_other xs i n y (omega arith)

-- Function by function

pub no_funcs_yet : (v : ℕ → Bool) (from now : List Tree) (funcs : List TFunc) → FoldedUpTo v from now 0 funcs funcs
no_funcs_yet v from now funcs = record { within = refl; are = refl }

pub next_func : (v : ℕ → Bool) (from now next : List Tree) (i : ℕ) (start funcs new : List TFunc) (f : TFunc) (body : Option TNodeId)
    → FoldedUpTo v from now i start funcs → i < length funcs → slice_get funcs i ≡ Some f
    → AddsBody now next body (option_map (folded v) (option_map (tree_at from) f.body)) → new ≡ set funcs i (record f { body = body })
    → FoldedUpTo v from next (suc i) start new
next_func v from now next i start funcs new f body k l s m e =
    let g : TFunc = record f { body = body } in
    let front : take (suc i) new ≡ take i funcs ++ g ∷ [] = ap (take (suc i)) e ∙ take_set_next funcs i g l in
    let back : drop (suc i) new ≡ drop (suc i) funcs = ap (drop (suc i)) e ∙ drop_set_next funcs i g in
    let others = map (folded_func v) (map (func_of from) (drop (suc i) funcs)) in
    let left : map (func_of next) (take (suc i) new) ≡ map (func_of now) (take i funcs) ++ folded_func v (func_of from f) ∷ [] =
    ap (map (func_of next)) front ∙ map_push (func_of next) (take i funcs) g
    ∙ ap (λ (z : List Func). z ++ func_of next g ∷ []) (funcs_grown now next (take i funcs) m.grows k.within)
    ∙ ap (λ (z : Func). map (func_of now) (take i funcs) ++ z ∷ []) (func_folded v from next now f body m) in
    record {
      within = ap (are_bodies_within (length next)) front
          ∙ within_pushed (length next) (take i funcs) g (funcs_within_grown now next (take i funcs) m.grows k.within) m.within;
      are = ap (λ (z : List Func). z ++ map (folded_func v) (map (func_of from) (drop (suc i) new))) left
          ∙ ap (λ (z : List TFunc). (map (func_of now) (take i funcs) ++ folded_func v (func_of from f) ∷ [])
          ++ map (folded_func v) (map (func_of from) z)) back
          ∙ append_assoc (map (func_of now) (take i funcs)) (folded_func v (func_of from f) ∷ []) others
          ∙ sym (ap (λ (z : List TFunc). map (func_of now) (take i funcs) ++ map (folded_func v) (map (func_of from) z)) (drop_at funcs i f s)) ∙ k.are;
    }

pub take_past : {A : Type 0} (xs : List A) (i : ℕ) → length xs ≤ i → take i xs ≡ xs
take_past [] zero h = refl
take_past [] (suc i) h = refl
take_past (x ∷ xs) zero h = absurd (omega arith)
take_past (x ∷ xs) (suc i) h = ap (λ z. x ∷ z) (take_past xs i (omega arith))

pub all_funcs : (v : ℕ → Bool) (from now : List Tree) (i : ℕ) (start funcs : List TFunc) → FoldedUpTo v from now i start funcs → length funcs ≤ i
    → map (func_of now) funcs ≡ map (folded_func v) (map (func_of from) start)
all_funcs v from now i start funcs k h =
    sym (append-nil (map (func_of now) funcs))
    ∙ sym (ap (λ (z : List TFunc). map (func_of now) funcs ++ map (folded_func v) (map (func_of from) z)) (drop_past funcs i h))
    ∙ sym (ap (λ (z : List TFunc). map (func_of now) z ++ map (folded_func v) (map (func_of from) (drop i funcs))) (take_past funcs i h)) ∙ k.are

-- Unit by unit

pub next_unit : (v : ℕ → Bool) (i : ℕ) (units new : List UnitTree) (u : UnitTree) (all : List TypedUnit) → units_folded v i units ≡ all → i < length units
    → slice_get units i ≡ Some u → UnitFolded v i units new u → units_folded v (suc i) new ≡ all
next_unit v i units new u all k l s m =
    let front : take (suc i) new ≡ take i units ++ m.unit ∷ [] = ap (take (suc i)) m.are ∙ take_set_next units i m.unit l in
    let back : drop (suc i) new ≡ drop (suc i) units = ap (drop (suc i)) m.are ∙ drop_set_next units i m.unit in
    let others = map (folded_unit v) (map unit_of (drop (suc i) units)) in
    ap (λ (z : List UnitTree). map unit_of z ++ map (folded_unit v) (map unit_of (drop (suc i) new))) front
    ∙ ap (λ (z : List UnitTree). map unit_of (take i units ++ m.unit ∷ []) ++ map (folded_unit v) (map unit_of z)) back
    ∙ ap (λ (z : List TypedUnit). z ++ others) (map_push unit_of (take i units) m.unit ∙ ap (λ (z : TypedUnit). map unit_of (take i units) ++ z ∷ []) m.is)
    ∙ append_assoc (map unit_of (take i units)) (folded_unit v (unit_of u) ∷ []) others
    ∙ sym (ap (λ (z : List UnitTree). map unit_of (take i units) ++ map (folded_unit v) (map unit_of z)) (drop_at units i u s)) ∙ k

pub all_units : (v : ℕ → Bool) (i : ℕ) (units : List UnitTree) (all : List TypedUnit) → units_folded v i units ≡ all → length units ≤ i
    → map unit_of units ≡ all
all_units v i units all k h =
    sym (append-nil (map unit_of units))
    ∙ sym (ap (λ (z : List UnitTree). map unit_of units ++ map (folded_unit v) (map unit_of z)) (drop_past units i h))
    ∙ sym (ap (λ (z : List UnitTree). map unit_of z ++ map (folded_unit v) (map unit_of (drop i units))) (take_past units i h)) ∙ k

-- At the places of the code

root_within : (from : List TNode) (body : Option TNodeId) → ((root : TNodeId) → body ≡ Some root → root.0 < length from)
    → is_body_within (length from) body ≡ true
root_within from None h = refl
root_within from (Some root) h = lt-ltb root.0 (length from) (h root refl)

pub body_is_within : (from : List TNode) (funcs : List TFunc) (i : ℕ) (f : TFunc) (old : Option TNodeId) → HaveRootsFrom i from funcs
    → slice_get funcs i ≡ Some f → old ≡ f.body → is_body_within (length from) old ≡ true
body_is_within from funcs i f old r s e = ap (is_body_within (length from)) e ∙ root_within from f.body ((r.each i f (omega arith) s).within)

pub next_roots : (from : List TNode) (funcs new : List TFunc) (i : ℕ) (g : TFunc) → HaveRootsFrom i from funcs → new ≡ set funcs i g
    → HaveRootsFrom (i + 1) from new
next_roots from funcs new i g r e = record {
  each = λ n f l s. r.each n f (omega arith)
      (sym (get_set_other funcs i n g (omega arith)) ∙ sym (ap (λ (z : List TFunc). slice_get z n) e) ∙ s);
}

pub set_long : {A : Type 0} (xs new : List A) (i m : ℕ) (y : A) → length xs ≡ m → new ≡ set xs i y → length new ≡ m
set_long xs new i m y l e = ap length e ∙ length-set xs i y ∙ l

pub weaker : {X E : Type 0} (r : Result X E) (P Q : Type 0) → (P → Q) → OnOk r P → OnOk r Q
weaker (Ok x) P Q f p = f p
weaker (Err e) P Q f p = tt

pub both_ok : {X E : Type 0} (r : Result X E) (P Q : Type 0) → OnOk r P → OnOk r Q → OnOk r (P × Q)
both_ok (Ok x) P Q p q = (p, q)
both_ok (Err e) P Q p q = tt

pub next_func_at : (v : ℕ → Bool) (from now next : List Tree) (i : ℕ) (start funcs new : List TFunc) (f : TFunc) (old body : Option TNodeId)
    → FoldedUpTo v from now i start funcs → i < length funcs → slice_get funcs i ≡ Some f → old ≡ f.body
    → AddsBody now next body (option_map (folded v) (option_map (tree_at from) old)) → new ≡ set funcs i (record f { body = body })
    → FoldedUpTo v from next (i + 1) start new
next_func_at v from now next i start funcs new f old body k l s o m e =
    rw (add-one i) (next_func v from now next i start funcs new f body k l s
    (subst (λ (z : Option TNodeId). AddsBody now next body (option_map (folded v) (option_map (tree_at from) z))) o m) e)

pub next_unit_at : (v : ℕ → Bool) (i : ℕ) (units new : List UnitTree) (u : UnitTree) (all : List TypedUnit) → units_folded v i units ≡ all → i < length units
    → slice_get units i ≡ Some u → UnitFolded v i units new u → units_folded v (i + 1) new ≡ all
next_unit_at v i units new u all k l s m = rw (add-one i) (next_unit v i units new u all k l s m)

pub next_readable : (units new : List UnitTree) (i : ℕ) (w : UnitTree) → ReadableFrom i units → new ≡ set units i w → ReadableFrom (i + 1) new
next_readable units new i w r e = record {
  ordered = λ n u l s. r.ordered n u (omega arith) (sym (get_set_other units i n w (omega arith)) ∙ sym (ap (λ (z : List UnitTree). slice_get z n) e) ∙ s);
  roots = λ n u l s. r.roots n u (omega arith) (sym (get_set_other units i n w (omega arith)) ∙ sym (ap (λ (z : List UnitTree). slice_get z n) e) ∙ s);
}

-- a well-formed program can be read
pub readable_first : (p : Program) → WellFormed p → ReadableFrom 0 p.units.items
readable_first p w = record {
  ordered = λ n u l s. (w.units n u s).ordered;
  roots = λ n u l s. record { each = λ i f m g. record { within = λ root e. ((w.units n u s).bodies i f root g e).within } };
}

pub program_is : (p q : Program) (units : List TypedUnit) (marks slice : List Bool) (classes : List ClassRec) → q ≡ p → slice ≡ marks
    → classes ≡ q.classes.items → ((n : ℕ) → marked marks n ≡ has_volatile_part (classes_of classes) n)
    → units ≡ map (folded_unit (marked slice)) (map unit_of q.units.items) → record (program_of q) { units = units } ≡ folded_program (program_of p)
program_is p q units marks slice classes e s c f u =
    let test : marked marks ≡ has_volatile_part (classes_of q.classes.items) =
    fun_ext (λ n. f n ∙ ap (λ (z : List ClassRec). has_volatile_part (classes_of z) n) c) in
    ap (λ (z : List TypedUnit). record (program_of q) { units = z })
    (u ∙ ap (λ (z : List Bool). map (folded_unit (marked z)) (map unit_of q.units.items)) s
    ∙ ap (λ (z : ℕ → Bool). map (folded_unit z) (map unit_of q.units.items)) test)
    ∙ ap (λ (z : Program). folded_program (program_of z)) e
