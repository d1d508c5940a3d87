-- The table of bodies by nodes.
use Rattle.std.proofs.Common.{◌≡◌, ℕ, zero, suc, ◌+◌, ◌<◌, ◌≤◌, nat_eq, Bool, true, false, if◌then◌else◌, cond, List, [], ◌∷◌, ◌++◌, length, take, set}
use Rattle.std.proofs.Common.{replicate, slice_get, Option, Some, None, refl, sym, ◌∙◌, ap, subst, arith, inl, inr, append-nil}
use Rattle.std.specs.List.{sum_by}
use Rattle.std.proofs.lemmas.Bool.{cases_eq}
use Rattle.std.proofs.lemmas.Option.{none-some, get_or_from_slice_get}
use Rattle.std.proofs.lemmas.List.{take_more, map-append}
use Rattle.std.proofs.lemmas.List.Sums.{sum_by-cons, sum_by_push, sum_by-take-le}
use Rattle.cpp_ast.specs.declared.arena.NodeId.{NodeId}
use Rattle.cpp_ast.specs.declared.units.LamBody.{LamBody}
use Rattle.cpp_ast.specs.Trees.{kids_with}
use Rattle.cpp_ast.specs.Units.{times_in}
use Rattle.cpp_parse_expr.specs.Depths.{HaveNodes, IsNotedIn, at_most_one}
use Rattle.cpp_parse.specs.NotedBodies.{lams_noted, IsOnceEach}
use Rattle.cpp_parse.proofs.LambdasOnce.{one_for, one_other}

abbrev pub no_entry : Option NodeId
no_entry = None

pub none_or : (P : Option NodeId → Type 0) → ((x : NodeId) → P (Some x) → ⊥) → (y : Option NodeId) → P y → y ≡ None
none_or P f None h = refl
none_or P f (Some x) h = absurd (f x h)

none_there : (n id : ℕ) → at_most_one (slice_get (replicate n no_entry) id) ≡ []
none_there zero id = refl
none_there (suc n) zero = refl
none_there (suc n) (suc id) = none_there n id

none_held : (n k : ℕ) (body : NodeId) → slice_get (replicate n no_entry) k ≡ Some (Some body) → ⊥
none_held zero k body e = none-some (Some body) e
none_held (suc n) zero body e = let f : Some no_entry ≡ Some (Some body) = e in cc
none_held (suc n) (suc k) body e = none_held n k body e

pub table_empty : (n : ℕ) (noted : List (Option NodeId)) → noted ≡ replicate n no_entry → IsNotedIn [] noted
table_empty n noted e =
    record {
      each = λ kids id. sym (ap (λ (t : List (Option NodeId)). kids ++ at_most_one (slice_get t id)) e ∙ ap (λ (is : List NodeId). kids ++ is)
          (none_there n id) ∙ append-nil kids);
    }

pub nodes_empty : (most n : ℕ) (noted : List (Option NodeId)) → noted ≡ replicate n no_entry → HaveNodes most noted
nodes_empty most n noted e = λ k body f. absurd (none_held n k body (sym (ap (λ (t : List (Option NodeId)). slice_get t k) e) ∙ f))

-- Writes at an index.

set_same : {A : Type 0} (xs : List A) (k : ℕ) (x : A) → k < length xs → slice_get (set xs k x) k ≡ Some x
set_same [] k x h = absurd (omega (arith, h))
set_same (y ∷ xs) zero x h = refl
set_same (y ∷ xs) (suc k) x h = set_same xs k x (omega (arith, h))

set_other : {A : Type 0} (xs : List A) (k i : ℕ) (x : A) → (i ≡ k → ⊥) → slice_get (set xs k x) i ≡ slice_get xs i
set_other [] k i x h = refl
set_other (y ∷ xs) zero zero x h = absurd (h refl)
set_other (y ∷ xs) zero (suc i) x h = refl
set_other (y ∷ xs) (suc k) zero x h = refl
set_other (y ∷ xs) (suc k) (suc i) x h = set_other xs k i x (λ e. h (ap (λ (n : ℕ). suc n) e))

pub nodes_more : (most k : ℕ) (body : NodeId) (noted : List (Option NodeId)) → k < length noted → body.0 < most → HaveNodes most noted
    → HaveNodes most (set noted k (Some body))
nodes_more most k body noted inside low h = λ i other e. elim (cases_eq i k) [
  | inl same ↦
      let f : Some (Some body) ≡ Some (Some other) = sym (set_same noted k (Some body) inside) ∙ sym
      (ap (λ (z : ℕ). slice_get (set noted k (Some body)) z) same) ∙ e in
      let g : body ≡ other = cc in
      subst (λ (z : NodeId). z.0 < most) g low
  | inr apart ↦ h i other (sym (set_other noted k i (Some body) apart) ∙ e)
]

-- What is noted for a node.

pub left_out : (here : Bool) (more kids : List NodeId) (bodies : List LamBody) (id : ℕ) → ◌≡◌ {A = ℕ} (cond here 1 0) 0
    → kids_with (if here then more else kids) bodies id ≡ kids_with kids bodies id
left_out true more kids bodies id e = absurd (omega (arith, e))
left_out false more kids bodies id e = refl

pub kids_without : (bodies : List LamBody) (kids : List NodeId) (id : ℕ) → times_in id (lams_noted bodies) ≡ 0 → kids_with kids bodies id ≡ kids
kids_without [] kids id h = refl
kids_without (b ∷ bodies) kids id h =
    let cons : times_in id (lams_noted (b ∷ bodies)) ≡ one_for id b.lam + times_in id (lams_noted bodies) = sum_by-cons (one_for id) b.lam
    (lams_noted bodies) in
    let not_here : one_for id b.lam ≡ 0 = omega (arith, cons, h) in
    left_out (nat_eq b.lam.0 id) (kids ++ b.body ∷ []) kids bodies id not_here
    ∙ kids_without bodies kids id (omega (arith, cons, h))

kids_with-snoc : (bodies : List LamBody) (b : LamBody) (kids : List NodeId) (id : ℕ)
    → kids_with kids (bodies ++ b ∷ []) id ≡ (if nat_eq b.lam.0 id then kids_with kids bodies id ++ b.body ∷ [] else kids_with kids bodies id)
kids_with-snoc [] b kids id = refl
kids_with-snoc (c ∷ bodies) b kids id = kids_with-snoc bodies b (if nat_eq c.lam.0 id then kids ++ c.body ∷ [] else kids) id

pub chosen : (here : Bool) (more kids : List NodeId) (n : ℕ) → ◌≡◌ {A = ℕ} (cond here 1 0) n → n ≡ 1 → (if here then more else kids) ≡ more
chosen true more kids n e f = refl
chosen false more kids n e f = absurd (omega (arith, e, f))

left : (here : Bool) (more kids : List NodeId) → ◌≡◌ {A = ℕ} (cond here 1 0) 0 → (if here then more else kids) ≡ kids
left true more kids e = absurd (omega (arith, e))
left false more kids e = refl

pub one_same : (id : ℕ) → one_for id (record { 0 = id }) ≡ 1
one_same id = grind arith

-- how often a lambda is among the first bodies
times_so_far : (bodies : List LamBody) (i id : ℕ) (b : LamBody) → i < length bodies → slice_get bodies i ≡ Some b
    → times_in id (lams_noted (take i bodies)) + one_for id b.lam ≤ times_in id (lams_noted bodies)
times_so_far bodies i id b inside at =
    let f : LamBody → ℕ = λ (c : LamBody). one_for id c.lam in
    let all = times_by id bodies in
    let some = times_by id (take (i + 1) bodies) in
    let fewer = times_by id (take i bodies) in
    let more : times_in id (lams_noted (take (i + 1) bodies)) ≡ times_in id (lams_noted (take i bodies)) + one_for id b.lam =
    ap (λ (bs : List LamBody). times_in id (lams_noted bs)) (take_more bodies i b inside ∙ ap (λ (c : LamBody). take i bodies ++ c ∷ [])
    (get_or_from_slice_get bodies i b b at))
    ∙ ap (λ (is : List NodeId). times_in id is) (map-append (λ (c : LamBody). c.lam) (take i bodies) (b ∷ []))
    ∙ sum_by_push (one_for id) (lams_noted (take i bodies)) b.lam in
    let least = sum_by-take-le f bodies (i + 1) in
    omega (arith, all, some, more, least)
  where
    times_by : (id : ℕ) (bs : List LamBody) → times_in id (lams_noted bs) ≡ sum_by (λ (c : LamBody). one_for id c.lam) bs
    times_by id [] = refl
    times_by id (b ∷ bs) =
        sum_by-cons (one_for id) b.lam (lams_noted bs) ∙ ap (λ (n : ℕ). one_for id b.lam + n) (times_by id bs) ∙ sym
        (sum_by-cons (λ (c : LamBody). one_for id c.lam) b bs)

-- one body more
pub table_more : (bodies : List LamBody) (i : ℕ) (b : LamBody) (noted : List (Option NodeId)) → IsOnceEach bodies → i < length bodies
    → slice_get bodies i ≡ Some b → b.lam.0 < length noted → IsNotedIn (take i bodies) noted
    → IsNotedIn (take (i + 1) bodies) (set noted b.lam.0 (Some b.body))
table_more bodies i b noted once inside at within h = record {
  each = λ kids id.
      let more : kids_with kids (take (i + 1) bodies) id ≡ (if nat_eq b.lam.0 id then kids_with kids (take i bodies) id ++ b.body ∷ [] else kids_with
      kids (take i bodies) id) =
      ap (λ (bs : List LamBody). kids_with kids bs id) (take_more bodies i b inside ∙ ap (λ (c : LamBody). take i bodies ++ c ∷ [])
      (get_or_from_slice_get bodies i b b at)) ∙ kids_with-snoc (take i bodies) b kids id in
      elim (cases_eq b.lam.0 id) [
        | inl same ↦
            let one : one_for id b.lam ≡ 1 = subst (λ (z : ℕ). one_for z b.lam ≡ 1) same (one_same b.lam.0) in
            let few = once.each id in
            let so_far = times_so_far bodies i id b inside at in
            let none : kids_with kids (take i bodies) id ≡ kids = kids_without (take i bodies) kids id (omega (arith, one, few, so_far)) in
            more
            ∙ chosen (nat_eq b.lam.0 id) (kids_with kids (take i bodies) id ++ b.body ∷ []) (kids_with kids (take i bodies) id) (one_for id b.lam) refl one
            ∙ ap (λ (is : List NodeId). is ++ b.body ∷ []) none
            ∙ ap (λ (o : Option (Option NodeId)). kids ++ at_most_one o) (sym (ap (λ (z : ℕ). slice_get (set noted b.lam.0 (Some b.body)) z)
            (sym same) ∙ set_same noted b.lam.0 (Some b.body) within))
        | inr other ↦
            more
            ∙ left (nat_eq b.lam.0 id) (kids_with kids (take i bodies) id ++ b.body ∷ []) (kids_with kids (take i bodies) id) (one_other b.lam.0 id other)
            ∙ h.each kids id
            ∙ ap (λ (o : Option (Option NodeId)). kids ++ at_most_one o) (sym (set_other noted b.lam.0 id (Some b.body) (λ e. other (sym e))))
      ];
}
