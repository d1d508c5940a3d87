-- No fault is found exactly where the code is sound.
use Rattle.std.proofs.Common.{Bool, true, false, ◌≡◌, ◌<◌, ℕ, zero, suc, ◌+◌, ◌-◌, List, [], ◌∷◌, length, map, drop, get_or, Option, Some, None, refl, sym, ap}
use Rattle.std.proofs.Common.{◌∙◌, subst, arith}
use Rattle.std.specs.declared.alloc.AllocError.{AllocError}
use Rattle.std.specs.Prelude.{IfSome, IfNone, IfOk, Result, Ok, Err, min, nat_eq, slice_get, if◌then◌else◌}
use Rattle.std.proofs.lemmas.Bool.{ltb-true, eqb-false, ne_eqb}
use Rattle.std.proofs.lemmas.Option.{none-some, same_Some}
use Rattle.tx_code.specs.declared.instr.Instr.{Instr}
use Rattle.tx_code.specs.declared.body.Row.{Row}
use Rattle.tx_code.specs.Objects.{BodyView}
use Rattle.std.proofs.lemmas.List.{drop_more}
use Rattle.tx_code.specs.declared.linked.ImageFunc.{ImageFunc}
use Rattle.tx_code.specs.Images.{ImageFuncView, ImageView, image_func_view}
use Rattle.tx_code.specs.Shapes.{Shape, Table, Among, here, there}
use Rattle.tx_code.specs.Signatures.{takes_of, gives_of}
use Rattle.tx_code.specs.Sound.{Signature, signature, table_of, frame_right, SoundBody, SoundFunc, Sound}
use Rattle.code_verify.specs.declared.faults.Fault.{Fault}
use Rattle.code_verify.specs.declared.faults.Broken.{Broken}
use Rattle.code_walk.specs.Walk.{Slot, slot_at, walked}
use Rattle.code_walk.specs.Bodies.{space}
use Rattle.code_walk.specs.Clean.{Clean}
use Rattle.code_verify.specs.Rules.{index_rule, row_rule}
use Rattle.code_verify.specs.Faults.{fault, earlier, is_before, or_next, at_place, row_fault, first_of_rows, first_of_indexes, first_by, body_fault}
use Rattle.code_verify.specs.Faults.{frame_fault, behind, safe_fault, func_fault, or_below, first_of_funcs, image_fault}
use Rattle.code_walk.proofs.Exact.{clean_is_sound, sound_is_clean}
use Rattle.code_verify.proofs.RuleLaws.{none_clean, clean_index, clean_row}

some_none : {A P : Type 0} (a : A) → Some a ≡ None → P
some_none a h = absurd (none-some a (sym h))

-- ---- choices

if_some : (b : Bool) (f g : Fault) → (if b then Some g else Some f) ≡ None → ⊥
if_some true f g h = none-some g (sym h)
if_some false f g h = none-some f (sym h)

earlier_none : (p q : Option Fault) → earlier p q ≡ None → (p ≡ None) × (q ≡ None)
earlier_none None q h = (refl, h)
earlier_none (Some f) None h = some_none f h
earlier_none (Some f) (Some g) h = absurd (if_some (is_before g f) f g h)

none_earlier : (p q : Option Fault) → p ≡ None → q ≡ None → earlier p q ≡ None
none_earlier p q h k = ap (λ z. earlier z q) h ∙ k

next_none : (p q : Option Fault) → or_next p q ≡ None → (p ≡ None) × (q ≡ None)
next_none None q h = (refl, h)
next_none (Some f) q h = some_none f h

none_next : (p q : Option Fault) → p ≡ None → q ≡ None → or_next p q ≡ None
none_next p q h k = ap (λ z. or_next z q) h ∙ k

place_none : (i : ℕ) (o : Option ℕ) → at_place i o ≡ None → o ≡ None
place_none i None h = refl
place_none i (Some r) h = some_none (fault i r) h

none_behind : (n : ℕ) (o : Option Fault) → behind n o ≡ None → o ≡ None
none_behind n None h = refl
none_behind n (Some f) h = some_none (fault (n + f.index) f.rule) h

-- ---- indexes and rows

module _ (x : Table) (g : Signature) (safe : Bool) (b : BodyView) where
  indexes_none : (ss : List (Slot Shape)) (n : ℕ) (cs : List Instr) → first_of_indexes x g.gives safe b ss n cs ≡ None → (i j : ℕ) (a : Instr) → n + i ≡ j
      → slice_get cs i ≡ Some a → index_rule x g.gives safe b j a (slot_at ss j) ≡ None
  indexes_none ss n [] h i j a e k = absurd (none-some a k)
  indexes_none ss n (c ∷ cs) h zero j a e k =
      let q : n ≡ j = omega (arith, e) in
      let p = place_none n _ (next_none (at_place n (index_rule x g.gives safe b n c (slot_at ss n))) (first_of_indexes x g.gives safe b ss (n + 1) cs) h).0 in
      subst (λ z. index_rule x g.gives safe b z a (slot_at ss z) ≡ None) q
      (subst (λ z. index_rule x g.gives safe b n z (slot_at ss n) ≡ None) (same_Some c a k) p)
  indexes_none ss n (c ∷ cs) h (suc i) j a e k = indexes_none ss (n + 1) cs
      (next_none (at_place n (index_rule x g.gives safe b n c (slot_at ss n))) (first_of_indexes x g.gives safe b ss (n + 1) cs) h).1 i j a (omega (arith, e)) k

  none_indexes : (ss : List (Slot Shape)) (n : ℕ) (cs : List Instr)
      → ((i j : ℕ) (a : Instr) → n + i ≡ j → slice_get cs i ≡ Some a → index_rule x g.gives safe b j a (slot_at ss j) ≡ None)
      → first_of_indexes x g.gives safe b ss n cs ≡ None
  none_indexes ss n [] h = refl
  none_indexes ss n (c ∷ cs) h = none_next _ _ (ap (at_place n) (h 0 n c (omega arith) refl))
      (none_indexes ss (n + 1) cs (λ i j a e k. h (suc i) j a (omega (arith, e)) k))

  rows_none : (ss : List (Slot Shape)) (first : Option Fault) (rs : List Row) → first_of_rows x b ss first rs ≡ None → (first ≡ None)
      × ((r : Row) → Among r rs → row_rule x b ss r ≡ None)
  rows_none ss first [] h = (h, λ r m. elim m [ ])
  rows_none ss first (q ∷ rs) h =
      let p = rows_none ss (earlier first (row_fault x b ss q)) rs h in
      let e = earlier_none first (row_fault x b ss q) p.0 in
      (e.0, λ r m. row_in r m (place_none (min q.from (length b.code - 1)) (row_rule x b ss q) e.1) p.1) where
        row_in : (r : Row) → Among r (q ∷ rs) → row_rule x b ss q ≡ None → ((t : Row) → Among t rs → row_rule x b ss t ≡ None) → row_rule x b ss r ≡ None
        row_in r here e f = e
        row_in r (there m) e f = f r m

  none_rows : (ss : List (Slot Shape)) (first : Option Fault) (rs : List Row) → first ≡ None → ((r : Row) → Among r rs → row_rule x b ss r ≡ None)
      → first_of_rows x b ss first rs ≡ None
  none_rows ss first [] h f = h
  none_rows ss first (q ∷ rs) h f = none_rows ss (earlier first (row_fault x b ss q)) rs
      (none_earlier first (row_fault x b ss q) h (ap (at_place (min q.from (length b.code - 1))) (f q here))) (λ r m. f r (there m))

  by_none : first_by x g safe b (walked (space x g b)) ≡ None → 0 < length b.code → Clean x g safe b
  by_none h some =
      let p = earlier_none _ _ h in
      none_clean x g safe b some (λ i a e. indexes_none (walked (space x g b)) 0 b.code p.0 i i a (omega arith) e)
      (rows_none (walked (space x g b)) None b.rows p.1).1

  if_fault : (c : Bool) (q : Option Fault) → (if c then Some (fault 0 1) else q) ≡ None → (c ≡ false) × (q ≡ None)
  if_fault true q h = some_none (fault 0 1) h
  if_fault false q h = (refl, h)

  pub body_none : body_fault x g safe b ≡ None → SoundBody x g safe b
  body_none h =
      let p = if_fault (nat_eq (length b.code) 0) (first_by x g safe b (walked (space x g b))) h in
      let some : 0 < length b.code = filled (length b.code) p.0 in
      clean_is_sound x g safe b (by_none p.1 some) where
        filled : (n : ℕ) → nat_eq n 0 ≡ false → 0 < n
        filled n e = let d : n ≡ 0 → ⊥ = eqb-false n 0 e in omega (arith, d)

  pub none_body : SoundBody x g safe b → body_fault x g safe b ≡ None
  none_body s =
      let k : Clean x g safe b = sound_is_clean x g safe b s in
      let some : 0 < length b.code = ltb-true 0 (length b.code) k.filled in
      ap (λ z. if z then Some (fault 0 1) else first_by x g safe b (walked (space x g b))) (ne_eqb (length b.code) 0 (λ e. omega (arith, some, e)))
      ∙ none_earlier _ _ (none_indexes (walked (space x g b)) 0 b.code
      (λ i j a e q. let z : i ≡ j = omega (arith, e) in
      subst (λ n. index_rule x g.gives safe b n a (slot_at (walked (space x g b)) n) ≡ None) z (clean_index x g safe b k i a q)))
      (none_rows (walked (space x g b)) None b.rows refl (clean_row x g safe b k))

-- ---- functions

frame_none : (n : ℕ) → frame_fault n ≡ None → frame_right n ≡ true
frame_none n h = by_test (frame_right n) h where
  by_test : (c : Bool) → (if c then None else Some (fault 0 11)) ≡ None → c ≡ true
  by_test true e = refl
  by_test false e = some_none (fault 0 11) e

none_frame : (n : ℕ) → frame_right n ≡ true → frame_fault n ≡ None
none_frame n h = ap (λ c. if c then None else Some (fault 0 11)) h

safe_none : (x : Table) (f : ImageFuncView) (o : Option BodyView) → safe_fault x f o ≡ None → IfSome o (SoundBody x (signature f.ty) true)
safe_none x f None h = tt
safe_none x f (Some b) h = body_none x (signature f.ty) true b (none_behind (length f.plain.code) (body_fault x (signature f.ty) true b) h)

none_safe : (x : Table) (f : ImageFuncView) (o : Option BodyView) → IfSome o (SoundBody x (signature f.ty) true) → safe_fault x f o ≡ None
none_safe x f None h = refl
none_safe x f (Some b) h = ap (behind (length f.plain.code)) (none_body x (signature f.ty) true b h)

pub func_none : (x : Table) (f : ImageFuncView) → func_fault x f ≡ None → SoundFunc x f
func_none x f h =
    let p = next_none _ (safe_fault x f f.safe) h in
    let q = earlier_none (frame_fault f.frame) (body_fault x (signature f.ty) false f.plain) p.0 in
    record { frame = frame_none f.frame q.0; plain = body_none x (signature f.ty) false f.plain q.1; safe = safe_none x f f.safe p.1 }

pub none_func : (x : Table) (f : ImageFuncView) → SoundFunc x f → func_fault x f ≡ None
none_func x f s = none_next _ _ (none_earlier _ _ (none_frame f.frame s.frame) (none_body x (signature f.ty) false f.plain s.plain))
    (none_safe x f f.safe s.safe)

-- ---- images

below_none : (n : ℕ) (p : Option Fault) (q : Option Broken) → or_below n p q ≡ None → (p ≡ None) × (q ≡ None)
below_none n None q h = (refl, h)
below_none n (Some f) q h = some_none (record { func = n; index = f.index; rule = f.rule }) h

funcs_none : (x : Table) (n : ℕ) (fs : List ImageFuncView) → first_of_funcs x n fs ≡ None → (i : ℕ) (f : ImageFuncView) → slice_get fs i ≡ Some f
    → SoundFunc x f
funcs_none x n [] h i f e = absurd (none-some f e)
funcs_none x n (k ∷ ks) h zero f e = subst (SoundFunc x) (same_Some k f e) (func_none x k (below_none n (func_fault x k) (first_of_funcs x (n + 1) ks) h).0)
funcs_none x n (k ∷ ks) h (suc i) f e = funcs_none x (n + 1) ks (below_none n (func_fault x k) (first_of_funcs x (n + 1) ks) h).1 i f e

none_funcs : (x : Table) (n : ℕ) (fs : List ImageFuncView) → ((i : ℕ) (f : ImageFuncView) → slice_get fs i ≡ Some f → SoundFunc x f)
    → first_of_funcs x n fs ≡ None
none_funcs x n [] h = refl
none_funcs x n (k ∷ ks) h = ap (λ p. or_below n p (first_of_funcs x (n + 1) ks)) (none_func x k (h 0 k refl)) ∙ none_funcs x (n + 1) ks (λ i f e. h (suc i) f e)

pub image_none : (i : ImageView) → image_fault i ≡ None → Sound i
image_none i h = funcs_none (table_of i) 0 i.funcs h

pub none_image : (i : ImageView) → Sound i → image_fault i ≡ None
none_image i s = none_funcs (table_of i) 0 i.funcs s

pub judged_sound : (i : ImageView) (r : Result (Option Broken) AllocError) → IfOk r (λ o. o ≡ image_fault i) → IfOk r (λ o. IfNone o (Sound i))
judged_sound i (Ok None) h = image_none i (sym h)
judged_sound i (Ok (Some f)) h = tt
judged_sound i (Err e) h = tt

pub judged_broken : (i : ImageView) (r : Result (Option Broken) AllocError) → IfOk r (λ o. o ≡ image_fault i) → IfOk r (λ o. IfSome o (λ f. Sound i → ⊥))
judged_broken i (Ok None) h = tt
judged_broken i (Ok (Some f)) h = λ s. none-some f (sym (h ∙ none_image i s))
judged_broken i (Err e) h = tt

-- ---- as the code finds them

pub found_is : (x : Table) (g : Signature) (safe : Bool) (b : BodyView) (slots : List (Slot Shape)) (p q r : Option Fault) → (length b.code ≡ 0 → ⊥)
    → slots ≡ walked (space x g b) → r ≡ earlier p q → p ≡ first_of_indexes x g.gives safe b slots 0 b.code → q ≡ first_of_rows x b slots None b.rows
    → r ≡ body_fault x g safe b
found_is x g safe b slots p q r some w e h k =
    e ∙ ap (λ z. earlier z q) h ∙ ap (earlier (first_of_indexes x g.gives safe b slots 0 b.code)) k ∙ ap (first_by x g safe b) w
    ∙ sym (ap (λ z. if z then Some (fault 0 1) else first_by x g safe b (walked (space x g b))) (ne_eqb (length b.code) 0 some))

words_are : (ty : List ℕ) (t v : ℕ) → t ≡ takes_of ty → v ≡ gives_of ty → Path Signature (record { takes = t; gives = v }) (signature ty)
words_are ty t v h k = cc (h, k)

pub safe_is : (x : Table) (f : ImageFuncView) (b : BodyView) (o : Option BodyView) (n t v : ℕ) (p : Option Fault) (r : Result (Option Fault) AllocError)
    → Some b ≡ o → t ≡ takes_of f.ty → v ≡ gives_of f.ty → p ≡ body_fault x (record { takes = t; gives = v }) true b → n ≡ length f.plain.code
    → IfOk r (λ z. z ≡ behind n p) → IfOk r (λ z. z ≡ safe_fault x f o)
safe_is x f b o n t v p (Ok z) e h k q l i =
    i ∙ ap (λ m. behind m p) l ∙ ap (behind (length f.plain.code)) (q ∙ ap (λ g. body_fault x g true b) (words_are f.ty t v h k)) ∙ ap (safe_fault x f) e
safe_is x f b o n t v p (Err z) e h k q l i = tt

pub func_some : (x : Table) (f : ImageFuncView) (t v : ℕ) (p q : Option Fault) (g : Fault) → t ≡ takes_of f.ty → v ≡ gives_of f.ty → p ≡ frame_fault f.frame
    → q ≡ body_fault x (record { takes = t; gives = v }) false f.plain → Some g ≡ earlier p q → Some g ≡ func_fault x f
func_some x f t v p q g h k i j e =
    ap (λ z. or_next z (safe_fault x f f.safe)) (e ∙ ap (λ z. earlier z q) i ∙ ap (earlier (frame_fault f.frame))
    (j ∙ ap (λ w. body_fault x w false f.plain) (words_are f.ty t v h k)))

pub func_next : (x : Table) (f : ImageFuncView) (t v : ℕ) (p q : Option Fault) (r : Result (Option Fault) AllocError) → t ≡ takes_of f.ty → v ≡ gives_of f.ty
    → p ≡ frame_fault f.frame → q ≡ body_fault x (record { takes = t; gives = v }) false f.plain → None ≡ earlier p q → IfOk r (λ z. z ≡ safe_fault x f f.safe)
    → IfOk r (λ z. z ≡ func_fault x f)
func_next x f t v p q (Ok z) h k i j e s =
    s ∙ ap (λ m. or_next m (safe_fault x f f.safe)) (e ∙ ap (λ m. earlier m q) i ∙ ap (earlier (frame_fault f.frame))
    (j ∙ ap (λ w. body_fault x w false f.plain) (words_are f.ty t v h k)))
func_next x f t v p q (Err z) h k i j e s = tt

pub funcs_here : (x : Table) (fs : List ImageFunc) (n : ℕ) (f : ImageFunc) → n < length fs → f ≡ get_or fs n f
    → first_of_funcs x n (map image_func_view (drop n fs))
    ≡ or_below n (func_fault x (image_func_view f)) (first_of_funcs x (n + 1) (map image_func_view (drop (n + 1) fs)))
funcs_here x fs n f h g = ap (λ z. first_of_funcs x n (map image_func_view z)) (drop_more fs n f h ∙ ap (λ z. z ∷ drop (n + 1) fs) (sym g))
