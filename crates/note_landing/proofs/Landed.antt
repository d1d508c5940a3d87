-- From what was compared to notes that agree.
use Rattle.std.proofs.Common.{ℕ, suc, ◌≡◌, ◌+◌, ◌≤◌, Bool, true, false, refl, ap, sym, ◌∙◌, subst, List, Option, Some, None, arith}
use Rattle.std.specs.Prelude.{slice_get}
use Rattle.cpp_types.specs.declared.types.Ty.{Ty}
use Rattle.cpp_tree.specs.cpp_types.Typ.{Typ, typ_of}
use Rattle.cpp_tree.specs.declared.program.Program as program
use Rattle.src_mean.specs.Linked.{Func, Program}
use Rattle.symbolic_source.specs.Outcomes as outcomes
use Rattle.symbolic_source.specs.Steps.{Answers, advanced, step_of}
use Rattle.symbolic_source.specs.Small.{is_stuck}
use Rattle.symbolic_source.specs.Replacing.{Replacing, in_outcome}
use Rattle.symbolic_source.specs.Terms.{Exception}
use Rattle.symbolic_code.specs.Facts.{Fact, in_facts, AllAmong, settled}
use Rattle.symbolic_code.specs.Places.{Place}
use Rattle.symbolic_terms.specs.declared.terms.Exception as declared
use Rattle.symbolic_terms.specs.declared.outcomes.Outcome.{Outcome}
use Rattle.symbolic_terms.specs.declared.outcomes.Outcome.TheVariants.{Stuck, Goes, Hands, GoesOut, Chooses', Results', Finds', Halts}
use Rattle.symbolic_terms.specs.declared.outcomes.Leading.{Leading}
use Rattle.symbolic_terms.specs.declared.outcomes.Leading.TheVariants.{Does, Calls, Spawns, Rethrows}
use Rattle.symbolic_terms.specs.declared.outcomes.Rest.{Rest}
use Rattle.symbolic_terms.specs.Words.{exception_of, type_in, type_or_void}
use Rattle.symbolic_terms.specs.Meanings.{Meaning}
use Rattle.symbolic_terms.specs.Shown.{outcome_of}
use Rattle.symbolic_terms.specs.Replaced.{exception_or_first}
use Rattle.body_check.specs.Notes as checked
use Rattle.body_check.specs.Notes.{IsThrown, in_place, no_answers, Outward, Edges}
use Rattle.note_landing.specs.declared.notes.Note.{Note}
use Rattle.note_landing.specs.declared.notes.Notes.{Notes}
use Rattle.note_landing.specs.declared.compiled.Compiled.{Compiled}
use Rattle.note_landing.specs.Books.{bounds}
use Rattle.note_landing.specs.Landings.{Makes, Same}
use Rattle.note_landing.specs.Shown.{note_at, thrown_by, FoundBy, AgreesBy}
use Rattle.note_landing.specs.Flights.{IsOut, out}
use Rattle.note_landing.proofs.Shows.{shown_at}

-- exceptions of a table are of types that are thrown
pub table_thrown : (types : ℕ → Typ) (thrown : Typ → Bool) (es : List declared.Exception) → ((n : ℕ) (e : declared.Exception) → slice_get es n ≡ Some e → IsThrown thrown (exception_of types e)) → (n : ℕ) → IsThrown thrown (exception_or_first types (slice_get es n))
table_thrown types thrown es all n = by_case (slice_get es n) refl
  where
    by_case : (o : Option declared.Exception) → slice_get es n ≡ o → IsThrown thrown (exception_or_first types o)
    by_case None e = tt
    by_case (Some x) e = all n x e

-- what is put in a note makes what was computed
pub makes_as : (thrown : Typ → Bool) (note : checked.Note) (known ks : List Fact) (q q2 : Place) (o o2 : outcomes.Outcome) (r : Replacing) → ((n : ℕ) → IsThrown thrown (r.exception n)) → q2 ≡ in_place r note.place → q2 ≡ q
    → o2 ≡ in_outcome r note.outcome → o2 ≡ o → ks ≡ in_facts r note.facts → AllAmong ks known → Makes thrown note known q o r
makes_as thrown note known ks q q2 o o2 r types made_q same_q made_o same_o made_k among = record {
  types = types;
  same_place = sym made_q ∙ same_q;
  same_facts = subst (λ z. AllAmong z known) made_k among;
  same_outcome = sym made_o ∙ same_o;
}

module _ (b : Compiled) (m : Meaning) (ns : Notes) (known : List Fact) (index : ℕ) (q : Place) where
  pub found_as : (o : outcomes.Outcome) (at : ℕ) (note : Note) → slice_get ns.list.items at ≡ Some note → Same (thrown_by b) (note_at b.source m note) known q o index → FoundBy b m ns known index q o note.rank
  found_as o at note e s = record { at = at; note = note_at b.source m note; is = shown_at (note_at b.source m) ns.list.items at note e; same = s; ranked = refl }

  pub agrees_as : (o o2 : outcomes.Outcome) (rank : ℕ) (stuck : Bool) → o2 ≡ settled known o → stuck ≡ is_stuck o → stuck ≡ false → FoundBy b m ns known index q o2 rank → AgreesBy b m ns known index q o rank
  agrees_as o o2 rank stuck e is not_so f = record { found = subst (λ z. FoundBy b m ns known index q z rank) e f; foreseen = sym is ∙ not_so }

-- what is foreseen
module _ (types : ℕ → Typ) (m : Meaning) (p : program.Program) (f : Func) where
  leads : (l : Leading) (r : Rest) → false ≡ is_stuck (outcome_of types m p f (Goes l r))
  leads (Does doing) r = refl
  leads (Calls callee words) r = refl
  leads (Spawns address argument) r = refl
  leads Rethrows r = refl

  pub not_stuck : (o : Outcome) → (o ≡ Stuck → ⊥) → false ≡ is_stuck (outcome_of types m p f o)
  not_stuck Stuck h = absurd (h refl)
  not_stuck (Goes l r) h = leads l r
  not_stuck (Hands w ws) h = refl
  not_stuck (GoesOut exit ws) h = refl
  not_stuck (Chooses' w x zero y other) h = refl
  not_stuck (Results' op kind a b x o) h = refl
  not_stuck (Finds' class slot address x o) h = refl
  not_stuck (Halts end) h = refl

-- an exception of a type that is thrown
pub made_thrown : (types : List Ty) (thrown : Typ → Bool) (n : ℕ) (ty : Ty) (b : Bool) → slice_get types n ≡ Some ty → b ≡ thrown (typ_of ty) → b ≡ true → thrown (type_in types n) ≡ true
made_thrown types thrown n ty b is e told = ap (λ z. thrown (type_or_void z)) is ∙ sym e ∙ told

-- one silent step more, at the beginning
module _ (p : Program) (f : Func) (answers : Answers) where
  pub further : (n m : ℕ) (o o2 r : outcomes.Outcome) → m ≡ n + 1 → o2 ≡ step_of p f answers o → r ≡ advanced p f answers n o2 → r ≡ advanced p f answers m o
  further n m o o2 r i e g =
      let j : m ≡ suc n = omega (arith, i) in
      subst (λ z. r ≡ advanced p f answers z o) (sym j) (subst (λ z. r ≡ advanced p f answers n z) e g)

  pub out_further : (n m : ℕ) (o o2 : outcomes.Outcome) (x : Exception) → m ≡ n + 1 → o2 ≡ step_of p f answers o → IsOut (advanced p f answers n o2) x → IsOut (advanced p f answers m o) x
  out_further n m o o2 x i e g =
      let j : m ≡ suc n = omega (arith, i) in
      subst (λ z. IsOut (advanced p f answers z o) x) (sym j) (subst (λ z. IsOut (advanced p f answers n z) x) e g)

  -- the exception has left the function
  pub outward_as : (notes : List checked.Note) (thrown : Typ → Bool) (n m : ℕ) (o : outcomes.Outcome) (x : Exception) → m ≡ n + 1 → m ≤ 1024 → IsOut (advanced p f answers n o) x → Outward p f bounds notes thrown answers x o
  outward_as notes thrown n m o x i short g = by_case (advanced p f answers n o) refl g
    where
      by_case : (r : outcomes.Outcome) → advanced p f answers n o ≡ r → IsOut r x → Outward p f bounds notes thrown answers x o
      by_case r e (out ws) = record { lag = n; temporaries = ws; is = e; short = subst (λ z. z ≤ 1024) i short }
