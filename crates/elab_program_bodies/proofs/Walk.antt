-- Behind each declaration of a unit all of it holds.
use Rattle.std.proofs.Common.{◌≡◌, refl, ap, ◌∙◌, ℕ, zero, suc, ◌+◌, Bool, true, false, ◌&&◌, List, length, slice_get, arith}
use Rattle.std.proofs.Common.{Option, Some, None, is_some, Result, Ok, unwrap_or}
use Rattle.std.specs.Prelude.{if◌then◌else◌}
use Rattle.std.proofs.lemmas.Bool.{and_parts}
use Rattle.elab_rules.specs.cpp_types.Typ.{Typs}
use Rattle.elab_rules.specs.cpp_types.Class.{Member}
use Rattle.elab_rules.specs.cpp_types.declared.classes.At.{At}
use Rattle.elab_rules.specs.cpp_lex.Tokens.{Lexeme}
use Rattle.elab_rules.specs.cpp_ast.Trees as syntax
use Rattle.elab_rules.specs.cpp_tree.declared.program.FuncKind.{FuncKind}
use Rattle.elab_rules.specs.cpp_tree.declared.program.FuncKind.TheVariants.{Plain, Constructor, Destructor, ClosureCall}
use Rattle.elab_rules.specs.cpp_tree.declared.faults.ElabFault.{ElabFault}
use Rattle.elab_rules.specs.cpp_tree.Rows.{is_special}
use Rattle.elab_rules.specs.cpp_tree.Typing.{is_class_typ}
use Rattle.elab_rules.specs.elab_ctx.Ctx.{Ctx, Func}
use Rattle.elab_rules.specs.Initialising.{func_at, no_function, signature_parameters, signature_result}
use Rattle.elab_rules.specs.Programs.{one_if, words_of}
use Rattle.elab_rules.specs.Statements.{State, Body}
use Rattle.elab_rules.specs.Classes.{Home, completed}
use Rattle.elab_rules.specs.Members.{all_defaults}
use Rattle.elab_rules.specs.Implicit
use Rattle.elab_rules.specs.Implicit.{body_implied, with_implied, is_referred}
use Rattle.elab_rules.specs.Lambdas.{lambdas_of}
use Rattle.elab_rules.specs.Functions.{no_storage}
use Rattle.elab_rules.specs.Units.{declarations_of, unit_from}
use Rattle.elab_bodies.specs.Bodies.{number_of}
use Rattle.elab_bodies.specs.Keeping.{StandsImplicit}
use Rattle.elab_bodies.proofs.Making as making
use Rattle.elab_bodies.proofs.Keeping as keeping
use Rattle.elab_bodies.proofs.Implicits.{completed_holds}
use Rattle.elab_places.specs.Functions.{implied_words}
use Rattle.elab_places.specs.Round.{round_of, BodiesOwn}
use Rattle.elab_places.proofs.Steps.{On, bind}
use Rattle.elab_places.proofs.Declarations as declarations
use Rattle.elab_places.proofs.Declaring.{on}
use Rattle.elab_places.proofs.Rounds.{bodies_more}
use Rattle.elab_places.proofs.MemberRounds.{defaults_bodies_law, implied_bodies_law}
use Rattle.elab_places.proofs.Walks.{Walks, round_with}
use Rattle.elab_places.proofs.DefaultsKept as kept
use Rattle.elab_program_bodies.specs.Known.{IsKnown, OneBody, Stand, HoldsOf, all_wait, Holds, none_waits, HoldsWhole}
use Rattle.elab_program_bodies.proofs.Lists.{at_func, is_within}
use Rattle.elab_program_bodies.proofs.Once.{one_waited, is_below, still_below, next_below, not_below}
use Rattle.elab_program_bodies.proofs.Known.{stand_follows, stand_implied, stand_now, stand_fewer}
use Rattle.elab_program_bodies.proofs.Declaring.{declared_holds, member_holds, late_holds, outside_holds, file_holds}

completed_class : (bodies : List Body) (c : Ctx) (home : Home) (at : At) (ms : List Member) (initialised : List ℕ) → HoldsOf all_wait (round_with bodies c)
    → HoldsOf all_wait (round_with bodies (completed c home at ms initialised))
completed_class bodies c home at ms initialised h = record {
  stand = completed_holds (λ fs. Stand all_wait None fs bodies) (λ fs f i j. stand_implied all_wait fs bodies f i j) c home at ms initialised h.stand;
  owned = record {
    defaults = kept.completed c home at ms initialised h.owned.defaults;
    bodies = completed_holds (λ fs. BodiesOwn fs bodies) (λ fs f i j. bodies_more fs f bodies j) c home at ms initialised h.owned.bodies;
  };
}

defaults_hold : (s : List Lexeme) (n : ℕ) (st : State) (ts : syntax.Trees) → Holds st → On Holds (all_defaults lambdas_of s n st ts)
defaults_hold s n st ts h = on Holds (all_defaults lambdas_of s n st ts) (λ x e. record {
  stand = making.holds (keeping.Holds (Stand all_wait)) (all_defaults lambdas_of s n st ts) x
      (keeping.defaults_fit (Stand all_wait) (stand_follows all_wait) s n st ts h.stand) e;
  owned = defaults_bodies_law s n st ts x h.owned e;
})

-- Implicit members: from the last function back, those below it wait

abbrev Waits : ℕ → State → Type 0
Waits n st = HoldsOf (is_below n) (round_of st)

holds_fewer : (v w : ℕ → Bool) (st : State) → ((k : ℕ) → v k ≡ true → w k ≡ true) → HoldsOf w (round_of st) → HoldsOf v (round_of st)
holds_fewer v w st l h = record { stand = stand_fewer v w st.ctx.funcs st.bodies l h.stand; owned = h.owned }

waits_less : (st : State) (k : ℕ) → Waits (suc k) st → Waits k st
waits_less st k h = holds_fewer (is_below k) (is_below (suc k)) st (still_below k) h

member_words : (f : Func) (n : ℕ) → is_special f.kind ≡ true → IsKnown f → number_of (signature_parameters f.declared.signature) ≡ length f.params
    → f.class ≡ Some n → words_of f ≡ 1 + number_of (signature_parameters f.declared.signature)
member_words f n t k s c = let a : one_if (is_class_typ (signature_result f.declared.signature)) ≡ 0 = ap one_if (k.result t) in
    let b : one_if (is_some f.class) ≡ 1 = ap (λ (o : Option ℕ). one_if (is_some o)) c in omega arith

words_by : (f : Func) (n : ℕ) (kind : FuncKind) → f.kind ≡ kind → is_special kind ≡ true → IsKnown f → f.implicit ≡ true
    → number_of (signature_parameters f.declared.signature) ≡ length f.params → f.class ≡ Some n
    → words_of f ≡ implied_words kind (signature_parameters f.declared.signature)
words_by f n Constructor e t k i s c = member_words f n (ap is_special e ∙ t) k s c ∙ ap (λ (m : ℕ). 1 + m) (k.source i e)
words_by f n Destructor e t k i s c = member_words f n (ap is_special e ∙ t) k s c ∙ ap (λ (ps : Typs). 1 + number_of ps) (k.params e)
words_by f n Plain e t k i s c = absurd cc
words_by f n ClosureCall e t k i s c = absurd cc

implied_holds : (st : State) (k n : ℕ) (f : Func) → Waits (suc k) st → slice_get st.ctx.funcs k ≡ Some f → f.implicit ≡ true → f.class ≡ Some n
    → On (Waits k) (body_implied st f.declared.at k n f.kind (signature_parameters f.declared.signature))
implied_holds st k n f h e i c = on (Waits k) (body_implied st f.declared.at k n f.kind (signature_parameters f.declared.signature)) (λ x q. record {
  stand = making.holds (keeping.Holds (Stand (is_below k))) (body_implied st f.declared.at k n f.kind (signature_parameters f.declared.signature)) x
      (keeping.implied_fits (Stand (is_below k)) (stand_follows (is_below k)) st f.declared.at k n f
      (stand_now (is_below k) (is_below (suc k)) st.ctx.funcs st.bodies k waited h.stand) e stands
      (λ z. h.stand.implicits.source k f e i (omega arith)) c) q;
  owned = implied_bodies_law st f.declared.at k n f.kind (signature_parameters f.declared.signature) x h.owned (is_within st.ctx.funcs k f e)
      (ap words_of (at_func st.ctx.funcs k f e)
      ∙ words_by f n f.kind refl stands.special (h.stand.known.each k f e) i stands.signed.params c) q;
})
  where
    stands : StandsImplicit f
    stands = h.stand.implicits.each k f e i

    waited : OneBody (is_below k) (Some k) st.ctx.funcs st.bodies
    waited = one_waited (is_below k) (is_below (suc k)) st.ctx.funcs st.bodies k (ap (λ (z : Func). z.is_defined) (at_func st.ctx.funcs k f e) ∙ stands.defined)
        (ap (λ (z : Func). z.implicit) (at_func st.ctx.funcs k f e) ∙ i) (next_below k) (not_below k) (still_below k) h.stand.once

of_holds : (st : State) (k : ℕ) (f : Func) → Waits (suc k) st → slice_get st.ctx.funcs k ≡ Some f → f.implicit ≡ true → (o : Option ℕ) → f.class ≡ o
    → On (Waits k) (Implicit.implied_of st k f o)
of_holds st k f h e i None c = waits_less st k h
of_holds st k f h e i (Some n) c = implied_holds st k n f h e i c

-- there is a function where one is implicit
at_holds : (st : State) (k : ℕ) → Waits (suc k) st → (o : Option Func) → slice_get st.ctx.funcs k ≡ o → (unwrap_or o no_function).implicit ≡ true
    → On (Waits k) (Implicit.implied_of st k (unwrap_or o no_function) (unwrap_or o no_function).class)
at_holds st k h (Some f) e i = of_holds st k f h e i f.class refl
at_holds st k h None e i = absurd cc

if_holds : (k : ℕ) (b : Bool) (x : Result State ElabFault) (st : State) → (b ≡ true → On (Waits k) x) → Waits k st → On (Waits k) (if b then x else Ok st)
if_holds k true x st f h = f refl
if_holds k false x st f h = h

one_holds : (st : State) (k : ℕ) → Waits (suc k) st → On (Waits k) (Implicit.implied st k)
one_holds st k h = if_holds k ((func_at st.ctx.funcs k).implicit && is_referred st k) _ st
    (λ e. at_holds st k h (slice_get st.ctx.funcs k) refl (and_parts (func_at st.ctx.funcs k).implicit (is_referred st k) e).0) (waits_less st k h)

below_holds : (st : State) (n : ℕ) → Waits n st → On HoldsWhole (Implicit.implied_below st n)
below_holds st zero h = holds_fewer none_waits (is_below 0) st (λ k e. absurd cc) h
below_holds st (suc n) h = bind (Waits n) HoldsWhole (Implicit.implied st n) _ (one_holds st n h) (λ x i. below_holds x n i)

walks : Walks (HoldsOf all_wait)
walks = record {
  declared = declared_holds;
  defined = file_holds;
  member = member_holds;
  completed = completed_class;
  defaults = defaults_hold;
  late = late_holds;
  outside = outside_holds;
}

-- A unit

pub unit_holds : (s : List Lexeme) (st : State) (ts : syntax.Trees) → Holds st → On HoldsWhole (unit_from s st ts)
unit_holds s st ts h = bind Holds HoldsWhole (declarations_of s no_storage st ts) with_implied
    (declarations.declarations (HoldsOf all_wait) walks s no_storage st ts h)
    (λ x i. below_holds x (length x.ctx.funcs) (holds_fewer (is_below (length x.ctx.funcs)) all_wait x (λ k e. refl) i))
