-- From what was compared to what the definitions ask of an instruction that is no call and no return.
use Rattle.std.proofs.Common.{ℕ, ◌≡◌, ◌+◌, ◌≤◌, ◌⊎◌, ap, sym, ◌∙◌, subst, List, ◌∷◌}
use Rattle.tx_ints.specs.declared.kinds.BinOp.{BinOp}
use Rattle.tx_ints.specs.declared.kinds.IntKind.{IntKind}
use Rattle.symbolic_source.specs.Terms.{Term, Exception, unknown, variable}
use Rattle.symbolic_source.specs.Frames as frames
use Rattle.symbolic_source.specs.Outcomes as outcomes
use Rattle.symbolic_source.specs.Steps.{given, left}
use Rattle.symbolic_source.specs.Replacing.{in_waitings, in_frames}
use Rattle.symbolic_code.specs.Facts.{Fact, not_zero, has_function, in_facts}
use Rattle.symbolic_code.specs.Places.{Place, later}
use Rattle.symbolic_terms.specs.Meanings.{Meaning, word_of}
use Rattle.symbolic_terms.specs.declared.ids.WordId.{WordId}
use Rattle.symbolic_terms.specs.declared.places.Place as places
use Rattle.symbolic_terms.specs.declared.outcomes.Rest.{Rest}
use Rattle.symbolic_leaving.specs.Shown.{waits_in, left_in}
use Rattle.code_follows.specs.declared.next.Next.{Next}
use Rattle.code_follows.specs.declared.next.Next.TheVariants.{Goes}
use Rattle.code_follows.specs.declared.next.Course.{Course}
use Rattle.code_follows.specs.declared.next.Course.TheVariants.{EitherWay, Chosen, UnlessTrap, Finding, Loudly, Starting, Rethrowing}
use Rattle.body_check.specs.Notes.{IsThrown, no_answers, in_place, rising}
use Rattle.note_landing.specs.declared.notes.Notes.{Notes}
use Rattle.note_landing.specs.declared.compiled.Compiled.{Compiled}
use Rattle.note_landing.specs.Shown.{linked_by, func_by, thrown_by, place_by, FliesBy, LandsOnBy, LandsAtOnce}
use Rattle.note_landing.specs.Flights.{BehindBy}
use Rattle.body_notes.specs.declared.fits.Pending.{Pending}
use Rattle.body_notes.specs.Fits.{IsBelow, FitsBy, CourseBy, LoudBy, StartsBy, RisesBy, ThrowsBy, RethrowsBy, left_rising}

-- what the source does where an exception comes from elsewhere
pub risen_as : (b : Compiled) (m : Meaning) (rest : Rest) (e : Exception) (ws : List frames.Waiting) (k : List frames.Frame) (o : outcomes.Outcome) → ws ≡ in_waitings rising (waits_in b.source m rest) → k ≡ in_frames rising (left_in b.source m rest) → e ≡ unknown 0
    → o ≡ left ws (frames.throws e) k → o ≡ left_rising b m rest
risen_as b m rest e ws k o i j r w =
    w ∙ ap (λ z. left z (frames.throws e) k) i ∙ ap (λ z. left (in_waitings rising (waits_in b.source m rest)) (frames.throws z) k) r
    ∙ ap (λ z. left (in_waitings rising (waits_in b.source m rest)) (frames.throws (unknown 0)) z) j

module _ (b : Compiled) (m : Meaning) (ns : Notes) where
  -- the same frames, but for one more
  pub starts_as : (known : List Fact) (index : ℕ) (q : Place) (rest more : Rest) → waits_in b.source m more ≡ waits_in b.source m rest → left_in b.source m more ≡ frames.Replied ∷ left_in b.source m rest → BehindBy b m ns known index q more → StartsBy b m ns known rest index q
  starts_as known index q rest more i j w =
      subst (λ z. LandsAtOnce b m ns (in_facts later known) index q (given (linked_by b) (func_by b) no_answers (in_waitings later (waits_in b.source m rest)) (variable 0) (in_frames later z))) j
      (subst (λ z. LandsAtOnce b m ns (in_facts later known) index q (given (linked_by b) (func_by b) no_answers (in_waitings later z) (variable 0) (in_frames later (left_in b.source m more)))) i w)

  -- where an exception comes from elsewhere
  pub rises_as : (known ks : List Fact) (index : ℕ) (q q2 : Place) (rest : Rest) (o2 : outcomes.Outcome) (e : Exception) (rank : ℕ) → ks ≡ in_facts rising known → q2 ≡ in_place rising q → o2 ≡ left_rising b m rest → e ≡ unknown 0 → FliesBy b m ns ks index q2 e o2 rank → RisesBy b m ns known index q rest rank
  rises_as known ks index q q2 rest o2 e rank i j k l w =
      subst (λ z. FliesBy b m ns z index (in_place rising q) (unknown 0) (left_rising b m rest) rank) i
      (subst (λ z. FliesBy b m ns ks index z (unknown 0) (left_rising b m rest) rank) j
      (subst (λ z. FliesBy b m ns ks index q2 (unknown 0) z rank) k
      (subst (λ z. FliesBy b m ns ks index q2 z o2 rank) l w)))

  module _ (known : List Fact) (g : Pending) where
    -- an exception is thrown
    pub throws_as : (e : Exception) (index : ℕ) (q : Place) (o : outcomes.Outcome) (rank : ℕ) → IsThrown (thrown_by b) e → IsBelow rank g → FliesBy b m ns known index q e o rank → ThrowsBy b m ns known g e index q o
    throws_as e index q o rank thrown below w = (w.flies, thrown, subst (λ z. (1 ≤ g.lead) ⊎ (z + 1 ≤ g.rank)) (sym w.rank_is) below)

    -- or thrown again
    pub rethrows_as : (index : ℕ) (q : Place) (rest : Rest) (rank : ℕ) → IsBelow rank g → RisesBy b m ns known index q rest rank → RethrowsBy b m ns known g rest index q
    rethrows_as index q rest rank below w = (w.flies, subst (λ z. (1 ≤ g.lead) ⊎ (z + 1 ≤ g.rank)) (sym w.rank_is) below)

    module _ (index : ℕ) (q : Place) where
      -- courses
      pub either_as : (w : WordId) (target : ℕ) (o : outcomes.Outcome) (more : List Fact) → more ≡ not_zero (word_of m w) ∷ known → LandsOnBy b m ns known g.lead g.rank target q o → LandsOnBy b m ns more g.lead g.rank index q o
          → CourseBy b m ns known g (EitherWay w target) index q o
      either_as w target o more e first other = (first, subst (λ z. LandsOnBy b m ns z g.lead g.rank index q o) e other)

      pub chosen_as : (w : WordId) (target : ℕ) (o : outcomes.Outcome) (v : Term) (zero other : outcomes.Outcome) (more : List Fact) → o ≡ outcomes.chooses v zero other → more ≡ not_zero (word_of m w) ∷ known
          → LandsOnBy b m ns known g.lead g.rank target q zero → LandsOnBy b m ns more g.lead g.rank index q other → CourseBy b m ns known g (Chosen w target) index q o
      chosen_as w target o v zero other more is e first second =
          subst (λ z. CourseBy b m ns known g (Chosen w target) index q z) (sym is) (first, subst (λ z. LandsOnBy b m ns z g.lead g.rank index q other) e second)

      pub unless_as : (op : BinOp) (kind : IntKind) (left right : WordId) (o : outcomes.Outcome) (op2 : BinOp) (kind2 : IntKind) (v w : Term) (after : outcomes.Outcome) → o ≡ outcomes.results op2 kind2 v w after
          → LandsOnBy b m ns known g.lead g.rank index q after → CourseBy b m ns known g (UnlessTrap op kind left right) index q o
      unless_as op kind left right o op2 kind2 v w after is lands = subst (λ z. CourseBy b m ns known g (UnlessTrap op kind left right) index q z) (sym is) lands

      pub finding_as : (class slot : ℕ) (address : WordId) (o : outcomes.Outcome) (class2 slot2 : ℕ) (v : Term) (after : outcomes.Outcome) (more : List Fact) → o ≡ outcomes.finds class2 slot2 v after → more ≡ has_function class slot (word_of m address) ∷ known
          → LandsOnBy b m ns more g.lead g.rank index q after → CourseBy b m ns known g (Finding class slot address) index q o
      finding_as class slot address o class2 slot2 v after more is e lands =
          subst (λ z. CourseBy b m ns known g (Finding class slot address) index q z) (sym is) (subst (λ z. LandsOnBy b m ns z g.lead g.rank index q after) e lands)

      pub loudly_as : (o : outcomes.Outcome) (doing : outcomes.Doing) (rest : Rest) → o ≡ outcomes.goes doing (waits_in b.source m rest) (left_in b.source m rest) → LoudBy b m ns known doing rest index q → CourseBy b m ns known g Loudly index q o
      loudly_as o doing rest is w = subst (λ z. CourseBy b m ns known g Loudly index q z) (sym is) (w.0, w.1.0, w.1.1)

      pub starting_as : (o : outcomes.Outcome) (address argument : Term) (rest : Rest) → o ≡ outcomes.spawns address argument (waits_in b.source m rest) (left_in b.source m rest) → StartsBy b m ns known rest index q → CourseBy b m ns known g Starting index q o
      starting_as o address argument rest is w = subst (λ z. CourseBy b m ns known g Starting index q z) (sym is) w

      pub rethrowing_as : (o : outcomes.Outcome) (rest : Rest) → o ≡ outcomes.rethrows (waits_in b.source m rest) (left_in b.source m rest) → RethrowsBy b m ns known g rest index q → CourseBy b m ns known g Rethrowing index q o
      rethrowing_as o rest is w = subst (λ z. CourseBy b m ns known g Rethrowing index q z) (sym is) w

      pub course_as : (course own : Course) (o : outcomes.Outcome) → course ≡ own → CourseBy b m ns known g own index q o → CourseBy b m ns known g course index q o
      course_as course own o is w = subst (λ z. CourseBy b m ns known g z index q o) (sym is) w

    -- what comes of the instruction
    pub next_as : (next : Next) (course : Course) (index : ℕ) (place : places.Place) (o : outcomes.Outcome) → next ≡ Goes course index place → CourseBy b m ns known g course index (place_by b m place) o → FitsBy b m ns known g next o
    next_as next course index place o is w = subst (λ z. FitsBy b m ns known g z o) (sym is) w
