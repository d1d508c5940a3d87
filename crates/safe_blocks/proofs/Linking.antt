-- The linked program of a safe one is tame.
use Rattle.std.proofs.Common.{◌≡◌, ◌∙◌, ℕ, zero, suc, ◌+◌, Bool, true, false, not, ◌||◌, List, [], ◌∷◌, take, Option, Some, None, length, slice_get, option_map}
use Rattle.std.proofs.Common.{ap, sym, subst, arith, refl}
use Rattle.std.specs.Prelude.{option_and_then, unwrap_or}
use Rattle.std.specs.List.{list_all}
use Rattle.std.proofs.lemmas.Bool.{false≢true, and_parts, and_from, or_right}
use Rattle.cpp_tree.specs.cpp_types.Typ.{Typ}
use Rattle.cpp_tree.specs.cpp_types.Class.{Class}
use Rattle.cpp_tree.specs.Trees.{Tree, literal}
use Rattle.cpp_tree.specs.Typing.{passes}
use Rattle.cpp_tree.specs.Units.{Func as UnitFunc, Unit as TypedUnit, SlotFunc, TypedProgram}
use Rattle.src_mean.specs.Linked.{Func}
use Rattle.src_mean.specs.Links.{Def, func_at, kept_funcs, number_in, def_of_func, is_marked, word_places, linked_func}
use Rattle.tx_unsafe.specs.declared.finding.CallSite.{CallSite}
use Rattle.tx_unsafe.specs.Volatile.{has_volatile_part}
use Rattle.tx_unsafe.specs.Unsafe.{own_in, calls_in, body_calls, counted, head_findings, body_findings}
use Rattle.tx_safety.specs.Safe.{is_safe_by, safe, safe_within, unit_end, func_findings, unit_findings, IsSafe, is_safe}
use Rattle.block_marks.specs.Marks.{is_free, is_tame, hides_all, has_safe_body, IsTameFunc, IsTame}
use Rattle.seen_marks.specs.Marks.{is_unmarked}
use Rattle.safe_blocks.specs.UnsafeFree.{safely_linked, LinksSafely, IsUnmarked}
use Rattle.safe_blocks.proofs.Placed.{is_scoped}
use Rattle.safe_blocks.proofs.TameTrees.{nothing_right, calls_safe, tame_tree}
use Rattle.safe_blocks.proofs.SafeFuncs.{AreClosed, func_clean, from_all, from_funcs}

-- a body that is well-formed as far as scopes and marks go
pub record IsScopedFunc (v : ℕ → Bool) (f : UnitFunc) : Type 0 where
  pub scoped : (body : Tree) → f.body ≡ Some body → is_scoped body ≡ true
  pub free : (body : Tree) → f.body ≡ Some body → is_free body ≡ true
  pub unmarked : (body : Tree) → f.body ≡ Some body → (w : Bool) → own_in v w body ≡ [] → is_unmarked (not w) body ≡ true

pub record AreScoped (t : TypedProgram) : Type 0 where
  pub each : (unit n : ℕ) (f : UnitFunc) → func_at t unit n ≡ Some f → IsScopedFunc (has_volatile_part t.classes) f

-- Numbers

linked_safe : (s : ℕ → ℕ → Bool) (cs : List Class) (d : Def) (o : Option UnitFunc) → s d.unit d.place ≡ true
    → has_safe_body (option_map (linked_func s cs d) o) ≡ true
linked_safe s cs d None h = refl
linked_safe s cs d (Some f) h = h

kept_safe : (s : ℕ → ℕ → Bool) (t : TypedProgram) (o : Option Def) → ((d : Def) → o ≡ Some d → s d.unit d.place ≡ true)
    → has_safe_body (option_and_then (λ (d : Def). option_map (linked_func s t.classes d) (func_at t d.unit d.place)) o) ≡ true
kept_safe s t None h = refl
kept_safe s t (Some d) h = linked_safe s t.classes d (func_at t d.unit d.place) (h d refl)

number_safe : (symbol : SlotFunc → Option (List ℕ)) (entry : List ℕ) (t : TypedProgram) → LinksSafely t → (unit n : ℕ) (o : Option UnitFunc)
    → func_at t unit n ≡ o → is_safe t unit n ≡ true → (o ≡ None → is_safe t unit n ≡ false)
    → has_safe_body ((safely_linked symbol entry t).func (unwrap_or (option_map (λ (f : UnitFunc). number_in (def_of_func unit n f) (kept_funcs t)) o) 0))
    ≡ true
number_safe symbol entry t l unit n None e h z = absurd (false≢true (sym (z refl) ∙ h))
number_safe symbol entry t l unit n (Some f) e h z = kept_safe (is_safe t) t (slice_get (kept_funcs t) (number_in (def_of_func unit n f) (kept_funcs t)))
    (λ d g. l.kept unit n f d e h g)

-- what is no function is not safe
none_within : (v : ℕ → Bool) (fs : List UnitFunc) (depth place n : ℕ) → slice_get fs n ≡ None → safe_within depth v fs place n ≡ false
none_within v fs zero place n e = refl
none_within v fs (suc d) place n e = ap (passes (is_safe_by v (safe_within d v fs) place n)) e

none_at_unit : (v : ℕ → Bool) (n : ℕ) (o : Option TypedUnit) → option_and_then (λ (x : TypedUnit). slice_get x.funcs n) o ≡ None
    → passes (λ (u : TypedUnit). safe v u.funcs unit_end n) o ≡ false
none_at_unit v n None e = refl
none_at_unit v n (Some u) e = none_within v u.funcs (length u.funcs) unit_end n e

none_unsafe : (t : TypedProgram) (unit n : ℕ) → func_at t unit n ≡ None → is_safe t unit n ≡ false
unfolding is_safe
none_unsafe t unit n e = none_at_unit (has_volatile_part t.classes) n (slice_get t.units unit) e

calls_tame : (symbol : SlotFunc → Option (List ℕ)) (entry : List ℕ) (t : TypedProgram) → LinksSafely t → (unit n : ℕ) → is_safe t unit n ≡ true
    → has_safe_body ((safely_linked symbol entry t).func ((safely_linked symbol entry t).number unit n)) ≡ true
calls_tame symbol entry t l unit n h = number_safe symbol entry t l unit n (func_at t unit n) refl h (none_unsafe t unit n)

-- Words

words_hidden : (n : ℕ) (offsets : List ℕ) (items : List Typ) → list_all (λ (t : Typ). not (is_marked t)) (take n items) ≡ true
    → hides_all false (word_places n offsets items) ≡ true
words_hidden zero os ts h = refl
words_hidden (suc n) [] ts h = refl
words_hidden (suc n) (o ∷ os) [] h = refl
words_hidden (suc n) (o ∷ os) (t ∷ ts) h =
    let a = and_parts (not (is_marked t)) (list_all (λ (t : Typ). not (is_marked t)) (take n ts)) h in
    and_from _ _ (ap (λ z. z || false) a.0) (words_hidden n os ts a.1)

words_shown : (n : ℕ) (offsets : List ℕ) (items : List Typ) → hides_all true (word_places n offsets items) ≡ true
words_shown zero os ts = refl
words_shown (suc n) [] ts = refl
words_shown (suc n) (o ∷ os) [] = refl
words_shown (suc n) (o ∷ os) (t ∷ ts) = and_from _ _ (or_right (not (is_marked t)) true refl) (words_shown n os ts)

-- Bodies

-- a function of a unit
found_in : (t : TypedProgram) (unit n : ℕ) (f : UnitFunc) (o : Option TypedUnit) → slice_get t.units unit ≡ o
    → option_and_then (λ (x : TypedUnit). slice_get x.funcs n) o ≡ Some f
    → (x : TypedUnit) × (slice_get t.units unit ≡ Some x) × (slice_get x.funcs n ≡ Some f)
found_in t unit n f None s e = absurd cc
found_in t unit n f (Some x) s e = (x, s, e)

found_at : (t : TypedProgram) (unit n : ℕ) (f : UnitFunc) → func_at t unit n ≡ Some f → (x : TypedUnit) × (slice_get t.units unit ≡ Some x)
    × (slice_get x.funcs n ≡ Some f)
found_at t unit n f e = found_in t unit n f (slice_get t.units unit) refl e

safe_of_unit : (t : TypedProgram) (unit m : ℕ) (x : TypedUnit) → slice_get t.units unit ≡ Some x
    → is_safe t unit m ≡ safe (has_volatile_part t.classes) x.funcs unit_end m
unfolding is_safe
safe_of_unit t unit m x e = ap (passes (λ (u : TypedUnit). safe (has_volatile_part t.classes) u.funcs unit_end m)) e

closed_unit : (t : TypedProgram) → IsUnmarked t → (unit : ℕ) (x : TypedUnit) → slice_get t.units unit ≡ Some x → AreClosed x.funcs
closed_unit t u unit x e = record { closed = λ n f g. u.places unit n f (ap (option_and_then (λ (y : TypedUnit). slice_get y.funcs n)) e ∙ g) }

calls_same : (s r : ℕ → Bool) → ((m : ℕ) → s m ≡ r m) → (sites : List CallSite) → list_all (calls_safe s) sites ≡ true → list_all (calls_safe r) sites ≡ true
calls_same s r g [] h = refl
calls_same s r g (x ∷ xs) h = let a = and_parts (s x.func) (list_all (calls_safe s) xs) h in and_from _ _ (sym (g x.func) ∙ a.0) (calls_same s r g xs a.1)

by_test : (t : TypedProgram) (unit : ℕ) (body : Tree) (w : Bool) → is_scoped body ≡ true → own_in (has_volatile_part t.classes) w body ≡ []
    → list_all (calls_safe (is_safe t unit)) (calls_in w body) ≡ true → is_unmarked (not w) body ≡ true
    → is_tame (is_safe t unit) (not w) body ≡ true
by_test t unit body true c o k m = tame_tree (has_volatile_part t.classes) (is_safe t unit) false body o k m c
by_test t unit body false c o k m = tame_tree (has_volatile_part t.classes) (is_safe t unit) true body o k m c

func_tame : (t : TypedProgram) → IsSafe t → IsUnmarked t → (unit n : ℕ) (f : UnitFunc) (body : Tree) → func_at t unit n ≡ Some f → f.body ≡ Some body
    → is_scoped body ≡ true → ((w : Bool) → own_in (has_volatile_part t.classes) w body ≡ [] → is_unmarked (not w) body ≡ true)
    → is_tame (is_safe t unit) (not (is_safe t unit n)) body ≡ true
func_tame t s u unit n f body e b c g =
    let x = found_at t unit n f e in
    let v = has_volatile_part t.classes in
    let fs = (x.0).funcs in
    let findings : func_findings v (safe v fs) n f ≡ [] =
    subst (λ k. func_findings v (safe v fs) k f ≡ []) (let z : 0 + n ≡ n = omega arith in z)
    (from_funcs v (safe v fs) 0 fs n f (from_all (unit_findings v) t.units unit x.0 s x.1) x.2) in
    let clean = func_clean v fs (closed_unit t u unit x.0 x.1) n f (is_safe t unit n) x.2 findings (sym (safe_of_unit t unit n x.0 x.1)) in
    let own : own_in v (is_safe t unit n) body ≡ [] = subst (λ o. body_findings v (is_safe t unit n) o ≡ []) b
    (nothing_right (counted (is_safe t unit n) (head_findings v f)) (body_findings v (is_safe t unit n) f.body) clean.own) in
    by_test t unit body (is_safe t unit n) c own
    (calls_same (safe v fs unit_end) (is_safe t unit) (λ m. sym (safe_of_unit t unit m x.0 x.1)) (calls_in (is_safe t unit n) body)
    (subst (λ o. list_all (calls_safe (safe v fs unit_end)) (body_calls (is_safe t unit n) o) ≡ true) b clean.calls))
    (g (is_safe t unit n) own)

words_tame : (b : Bool) (n : ℕ) (offsets : List ℕ) (items : List Typ) → (b ≡ true → list_all (λ (t : Typ). not (is_marked t)) (take n items) ≡ true)
    → hides_all (not b) (word_places n offsets items) ≡ true
words_tame true n os ts h = words_hidden n os ts (h refl)
words_tame false n os ts h = words_shown n os ts

body_of : (t : TypedProgram) → IsSafe t → IsUnmarked t → AreScoped t → (unit n : ℕ) (f : UnitFunc) → func_at t unit n ≡ Some f → (o : Option Tree) → f.body ≡ o
    → is_tame (is_safe t unit) (not (is_safe t unit n)) (unwrap_or o (literal 0)) ≡ true
body_of t s u a unit n f e None b = refl
body_of t s u a unit n f e (Some body) b = func_tame t s u unit n f body e b ((a.each unit n f e).scoped body b)
    (λ w o. (a.each unit n f e).unmarked body b w o)

free_of : (t : TypedProgram) → AreScoped t → (unit n : ℕ) (f : UnitFunc) → func_at t unit n ≡ Some f → (o : Option Tree) → f.body ≡ o
    → is_free (unwrap_or o (literal 0)) ≡ true
free_of t a unit n f e None b = refl
free_of t a unit n f e (Some body) b = (a.each unit n f e).free body b

linked_tame : (t : TypedProgram) → IsSafe t → IsUnmarked t → AreScoped t → (d : Def) (f : UnitFunc) → func_at t d.unit d.place ≡ Some f
    → IsTameFunc (is_safe t) (linked_func (is_safe t) t.classes d f)
linked_tame t s u a d f e = record {
  body = body_of t s u a d.unit d.place f e f.body refl;
  free = free_of t a d.unit d.place f e f.body refl;
  words = words_tame (is_safe t d.unit d.place) f.words _ f.frame (λ h. u.words d.unit d.place f e h);
}

func_of_def : (t : TypedProgram) → IsSafe t → IsUnmarked t → AreScoped t → (d : Def) (o : Option UnitFunc) (f : Func) → func_at t d.unit d.place ≡ o
    → option_map (linked_func (is_safe t) t.classes d) o ≡ Some f → IsTameFunc (is_safe t) f
func_of_def t s u a d None f e h = absurd cc
func_of_def t s u a d (Some g) f e h =
    let same : linked_func (is_safe t) t.classes d g ≡ f = ap (λ (o : Option Func). unwrap_or o (linked_func (is_safe t) t.classes d g)) h in
    subst (λ (z : Func). IsTameFunc (is_safe t) z) same (linked_tame t s u a d g e)

func_of_number : (t : TypedProgram) → IsSafe t → IsUnmarked t → AreScoped t → (o : Option Def) (f : Func)
    → option_and_then (λ (d : Def). option_map (linked_func (is_safe t) t.classes d) (func_at t d.unit d.place)) o ≡ Some f
    → IsTameFunc (is_safe t) f
func_of_number t s u a None f h = absurd cc
func_of_number t s u a (Some d) f h = func_of_def t s u a d (func_at t d.unit d.place) f refl h

pub program_tame : (symbol : SlotFunc → Option (List ℕ)) (entry : List ℕ) (t : TypedProgram) → IsSafe t → LinksSafely t → IsUnmarked t → AreScoped t
    → IsTame (safely_linked symbol entry t) (is_safe t)
program_tame symbol entry t s l u a = record {
  calls = calls_tame symbol entry t l;
  funcs = λ number f h. func_of_number t s u a (slice_get (kept_funcs t) number) f h;
}
