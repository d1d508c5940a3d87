-- From what a call was compared with to what the definitions ask of it.
use Rattle.std.proofs.Common.{ℕ, suc, arith, ◌≡◌, ◌+◌, refl, ap, sym, ◌∙◌, subst, Bool, true, false, List, [], ◌∷◌, Option, Some}
use Rattle.cpp_tree.specs.cpp_types.Typ.{Typ}
use Rattle.src_mean.specs.Source.{is_safe}
use Rattle.symbolic_source.specs.Terms.{Term}
use Rattle.symbolic_source.specs.Frames.{Callee, known as known_func}
use Rattle.symbolic_source.specs.Outcomes.{Outcome, calls}
use Rattle.symbolic_code.specs.Facts.{Fact}
use Rattle.symbolic_code.specs.Places.{Place, with_operands}
use Rattle.symbolic_terms.specs.Meanings.{Meaning, words_of}
use Rattle.symbolic_terms.specs.Shown.{callee_of}
use Rattle.symbolic_terms.specs.declared.ids.Terms.{Terms}
use Rattle.symbolic_terms.specs.declared.frames.Callee.{Callee as SourceCallee}
use Rattle.symbolic_terms.specs.declared.outcomes.Rest.{Rest}
use Rattle.symbolic_terms.specs.declared.outcomes.Outcome.{Outcome as SourceOutcome}
use Rattle.symbolic_terms.specs.declared.outcomes.Outcome.TheVariants.{Goes}
use Rattle.symbolic_terms.specs.declared.outcomes.Leading.TheVariants.{Calls}
use Rattle.symbolic_leaving.specs.Source.{units_of}
use Rattle.symbolic_leaving.specs.Shown.{waits_in, left_in}
use Rattle.body_check.specs.Notes.{Note}
use Rattle.body_check.specs.Calls.{BackWith, Behind, taken_off}
use Rattle.image_links.specs.Books.{func_takes, func_gives, func_of}
use Rattle.note_landing.specs.declared.notes.Notes.{Notes}
use Rattle.note_landing.specs.declared.compiled.Compiled.{Compiled}
use Rattle.note_landing.specs.Books.{bounds}
use Rattle.note_landing.specs.Shown.{types_by, linked_by, func_by, image_by, table_by, outcome_by, book_by, held_by}
use Rattle.body_notes.specs.declared.calls.Ends.{Ends}
use Rattle.body_notes.specs.Called.{BackWithBy, BehindBy}
use Rattle.body_notes.specs.Callees.{CallsBy, CallsFoundBy, FoundBy}

module _ (b : Compiled) (m : Meaning) (ns : Notes) (known : List Fact) (index : ℕ) (q : Place) (all : ℕ → Bool → List Note) (types : ℕ → Bool → List Typ) where
  back_as : (gives : Bool) (under : List Term) (rest : Rest) → BackWithBy b m ns gives known (index + 1) (with_operands q under) rest
      → BackWith (linked_by b) bounds (book_by b all types) gives (held_by b m ns) known index q under (waits_in b.source m rest) (left_in b.source m rest)
  back_as true under rest r = record { lands = r.lands; some = r.some; short = r.short }
  back_as false under rest r = record { lands = r.lands; some = r.some; short = r.short }

  pub behind_as : (ends : Ends) (under : List Term) (rest : Rest) → BehindBy b m ns ends known index (with_operands q under) rest
      → Behind (linked_by b) bounds (book_by b all types) ends.gives ends.stops (held_by b m ns) known index q under (waits_in b.source m rest) (left_in b.source m rest)
  behind_as ends under rest r = record { back = back_as ends.gives under rest r.back; thrown = λ e. (r.thrown e).flies; opens = r.opens; caught = r.caught; type = r.type }

  abbrev number : ℕ → ℕ
  number callee = (linked_by b).number (func_by b).unit callee

  pub calls_as : (o : Outcome) (name count callee : ℕ) (words under : List Term) (ends : Ends) (rest : Rest) → (table_by b).function_of name ≡ Some callee
      → o ≡ calls (known_func (number callee)) words (waits_in b.source m rest) (left_in b.source m rest)
      → taken_off count q.operands [] ≡ Some (words, under) → func_takes (linked_by b) (number callee) ≡ count
      → ends.gives ≡ func_gives (image_by b) (number callee) → ends.stops ≡ (func_of (linked_by b) (number callee)).stops
      → BehindBy b m ns ends known index (with_operands q under) rest
      → CallsBy b m ns known index q o name count callee all types
  calls_as o name count callee words under ends rest named is off takes gives stops r = record {
    calling = record {
      callee = callee;
      named = named;
      words = words;
      under = under;
      temporaries = waits_in b.source m rest;
      others = left_in b.source m rest;
      outcome_is = is;
      operands_are = off;
      taken = takes;
      behind = subst (λ z. Behind (linked_by b) bounds (book_by b all types) z (func_of (linked_by b) (number callee)).stops (held_by b m ns) known index q under (waits_in b.source m rest) (left_in b.source m rest)) gives
          (subst (λ z. Behind (linked_by b) bounds (book_by b all types) ends.gives z (held_by b m ns) known index q under (waits_in b.source m rest) (left_in b.source m rest)) stops (behind_as ends under rest r));
    };
    callee_is = refl;
  }

  pub found_as : (o : Outcome) (name count : ℕ) (callee : Callee) (gives : Bool) (address : Term) (words under : List Term) (rest : Rest)
      → o ≡ calls callee words (waits_in b.source m rest) (left_in b.source m rest)
      → taken_off count q.operands [] ≡ Some (words, address ∷ under)
      → FoundBy b m ns known name address callee count gives
      → BehindBy b m ns (record { gives = gives; stops = false }) known index (with_operands q under) rest
      → CallsFoundBy b m ns known index q o name count all types
  found_as o name count callee gives address words under rest is off found r = record {
    address = address;
    callee = callee;
    gives = gives;
    found = found all types;
    words = words;
    under = under;
    temporaries = waits_in b.source m rest;
    others = left_in b.source m rest;
    outcome_is = is;
    operands_are = off;
    behind = behind_as (record { gives = gives; stops = false }) under rest r;
  }

  -- the same, where the function's number, the words and the place have been compared
  pub calls_at : (o : Outcome) (name count callee n takes : ℕ) (words own under : List Term) (ends : Ends) (rest : Rest) (q2 : Place) → n ≡ number callee → o ≡ calls (known_func n) own (waits_in b.source m rest) (left_in b.source m rest) → words ≡ own
      → taken_off count q.operands [] ≡ Some (words, under) → takes ≡ func_takes (linked_by b) n → takes ≡ count → ends.gives ≡ func_gives (image_by b) n → ends.stops ≡ (func_of (linked_by b) n).stops → q2 ≡ with_operands q under
      → BehindBy b m ns ends known index q2 rest → (table_by b).function_of name ≡ Some callee → CallsBy b m ns known index q o name count callee all types
  calls_at o name count callee n takes words own under ends rest q2 i is same off taken so gives stops there r named =
      calls_as o name count callee words under ends rest named
      (is ∙ ap (λ z. calls (known_func z) own (waits_in b.source m rest) (left_in b.source m rest)) i ∙ ap (λ z. calls (known_func (number callee)) z (waits_in b.source m rest) (left_in b.source m rest)) (sym same))
      off
      (ap (λ z. func_takes (linked_by b) z) (sym i) ∙ sym taken ∙ so)
      (gives ∙ ap (λ z. func_gives (image_by b) z) i)
      (stops ∙ ap (λ z. (func_of (linked_by b) z).stops) i)
      (subst (λ z. BehindBy b m ns ends known index z rest) there r)

  pub found_at : (o : Outcome) (name count : ℕ) (callee : Callee) (gives : Bool) (address : Term) (words own under taken : List Term) (ends : Ends) (rest : Rest) (q2 : Place) → o ≡ calls callee own (waits_in b.source m rest) (left_in b.source m rest) → words ≡ own
      → taken_off count q.operands [] ≡ Some (words, taken) → taken ≡ address ∷ under → FoundBy b m ns known name address callee count gives → ends ≡ record { gives = gives; stops = false } → q2 ≡ with_operands q under → BehindBy b m ns ends known index q2 rest
      → CallsFoundBy b m ns known index q o name count all types
  found_at o name count callee gives address words own under taken ends rest q2 is same off above found e there r =
      found_as o name count callee gives address words under rest
      (is ∙ ap (λ z. calls callee z (waits_in b.source m rest) (left_in b.source m rest)) (sym same))
      (off ∙ ap (λ (z : List Term). Some (words, z)) above)
      found
      (subst (λ z. BehindBy b m ns z known index (with_operands q under) rest) e (subst (λ z. BehindBy b m ns ends known index z rest) there r))

-- the function that the source calls is known
pub calls_from : (b : Compiled) (m : Meaning) (o : SourceOutcome) (called : SourceCallee) (own : Terms) (rest : Rest) (n : ℕ) → o ≡ Goes (Calls called own) rest → callee_of (types_by b) m (units_of b.source) called ≡ known_func n
    → outcome_by b m o ≡ calls (known_func n) (words_of m own) (waits_in b.source m rest) (left_in b.source m rest)
calls_from b m o called own rest n is known = ap (λ z. outcome_by b m z) is ∙ ap (λ z. calls z (words_of m own) (waits_in b.source m rest) (left_in b.source m rest)) known

-- a safe body is called
pub safe_as : (b : Compiled) (callee own n : ℕ) (safe : Bool) → own ≡ callee → n ≡ (linked_by b).number (func_by b).unit callee → safe ≡ is_safe ((linked_by b).func n) → safe ≡ true → is_safe ((linked_by b).func ((linked_by b).number (func_by b).unit own)) ≡ true
safe_as b callee own n safe i j e told = ap (λ z. is_safe ((linked_by b).func ((linked_by b).number (func_by b).unit z))) i ∙ ap (λ z. is_safe ((linked_by b).func z)) (sym j) ∙ sym e ∙ told

-- one word more is taken off
pub taken_more : (count m : ℕ) (w : Term) (ws args : List Term) (r : Option (List Term × List Term)) → count ≡ m + 1 → taken_off m ws (w ∷ args) ≡ r → taken_off count (w ∷ ws) args ≡ r
taken_more count m w ws args r e h =
    let i : count ≡ suc m = omega (arith, e) in
    ap (λ z. taken_off z (w ∷ ws) args) i ∙ h
