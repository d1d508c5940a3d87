-- Classes of which nothing is known.
use Rattle.std.proofs.Common.{◌≡◌, ◌∙◌, ◌+◌, ◌≤◌, ◌++◌, ℕ, zero, suc, List, [], ◌∷◌, map, length, replicate, Result, Ok, Err, IfOk, refl, ap, arith}
use Rattle.std.proofs.lemmas.List.{map-append}
use Rattle.elab_entry.specs.cpp_tree.Units.{TypedProgram}
use Rattle.elab_entry.specs.elab_ctx.Ctx.{Traits, traits_of}
use Rattle.elab_entry.specs.elab_ctx.declared.env.Traits.{Traits as TraitsRec}
use Rattle.elab_entry.specs.elab_rules.Objects.{no_traits}
use Rattle.elab_entry.specs.elab_scopes.declared.state.State.{State as StateRec}
use Rattle.elab_entry.specs.elab_scopes.States.{state_of}
use Rattle.elab_units.specs.Begun.{bare, begun_with}

one_more : {A : Type 0} (n : ℕ) (a : A) → replicate n a ++ a ∷ [] ≡ replicate (suc n) a
one_more zero a = refl
one_more (suc n) a = ap (λ z. a ∷ z) (one_more n a)

pub bare_more : (xs ys : List TraitsRec) (x : TraitsRec) (i : ℕ) → map traits_of xs ≡ replicate i no_traits → ys ≡ xs ++ x ∷ [] → traits_of x ≡ no_traits
    → map traits_of ys ≡ replicate (i + 1) no_traits
bare_more xs ys x i h e k =
    let next : suc i ≡ i + 1 = grind arith in
    ap (map traits_of) e ∙ map-append traits_of xs (x ∷ []) ∙ ap (λ (z : List Traits). z ++ traits_of x ∷ []) h
    ∙ ap (λ (z : Traits). replicate i no_traits ++ z ∷ []) k ∙ one_more i no_traits ∙ ap (λ (n : ℕ). replicate n no_traits) next

bare_all : (ts : List TraitsRec) → replicate (length ts) no_traits ≡ bare (map traits_of ts)
bare_all [] = refl
bare_all (t ∷ ts) = ap (λ z. no_traits ∷ z) (bare_all ts)

pub bare_whole : (xs ts : List TraitsRec) (i : ℕ) → map traits_of xs ≡ replicate i no_traits → i ≤ length ts → length ts ≤ i
    → map traits_of xs ≡ bare (map traits_of ts)
bare_whole xs ts i h l m = let e : i ≡ length ts = grind arith in h ∙ ap (λ (n : ℕ). replicate n no_traits) e ∙ bare_all ts

pub begun_bare : {E : Type 0} (source : ℕ) (p q : TypedProgram) (ts us : List Traits) (r : Result StateRec E) → p ≡ q → ts ≡ bare us
    → IfOk r (λ (st : StateRec). state_of st ≡ begun_with source p ts) → IfOk r (λ (st : StateRec). state_of st ≡ begun_with source q (bare us))
begun_bare source p q ts us (Ok st) e f h = h ∙ ap (λ (z : TypedProgram). begun_with source z ts) e ∙ ap (begun_with source q) f
begun_bare source p q ts us (Err d) e f h = h
