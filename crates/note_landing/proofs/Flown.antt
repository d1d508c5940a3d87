-- Exceptions in flight: from what was compared to what the definitions ask for.
use Rattle.std.proofs.Common.{ℕ, ◌≡◌, ◌+◌, ◌≤◌, ap, ap₂, sym, ◌∙◌, subst, List, Option, Some, None, arith}
use Rattle.std.specs.Prelude.{slice_get}
use Rattle.tx_events.specs.Thread.{Open}
use Rattle.tx_code.specs.declared.body.Row.{Row}
use Rattle.tx_code.specs.Meaning.{find}
use Rattle.cpp_types.specs.declared.types.Ty.{Ty}
use Rattle.cpp_tree.specs.cpp_types.Typ.{Typ, typ_of}
use Rattle.cpp_tree.specs.declared.program.Program as program
use Rattle.src_mean.specs.Linked.{Func}
use Rattle.src_frames.specs.declared.frames.Open as blocks
use Rattle.src_frames.specs.Shown.{open_shown}
use Rattle.symbolic_source.specs.Terms.{Term, Exception, unknown, made, variable}
use Rattle.symbolic_source.specs.Frames.{Waiting, Frame, throws}
use Rattle.symbolic_source.specs.Outcomes as outcomes
use Rattle.symbolic_source.specs.Steps.{Answers, given, advanced}
use Rattle.symbolic_source.specs.Replacing.{in_waitings, in_frames}
use Rattle.symbolic_code.specs.Facts.{Fact, in_facts}
use Rattle.symbolic_code.specs.Places.{Place, later}
use Rattle.symbolic_terms.specs.Meanings.{Meaning, thrown_of}
use Rattle.symbolic_terms.specs.declared.ids.ExceptionId.{ExceptionId}
use Rattle.symbolic_terms.specs.declared.terms.Exception as declared
use Rattle.symbolic_terms.specs.declared.terms.Exception.TheVariants.{Unknown, Made}
use Rattle.symbolic_terms.specs.declared.terms.Puts.{Puts}
use Rattle.symbolic_terms.specs.declared.frames.Exit.TheVariants.{Throws}
use Rattle.symbolic_terms.specs.declared.frames.Waitings.{Waitings}
use Rattle.symbolic_terms.specs.declared.outcomes.Doing.{Doing}
use Rattle.symbolic_terms.specs.declared.outcomes.Doing.TheVariants.{LeavesBlock}
use Rattle.symbolic_terms.specs.declared.outcomes.Outcome.{Outcome}
use Rattle.symbolic_terms.specs.declared.outcomes.Outcome.TheVariants.{GoesOut}
use Rattle.symbolic_terms.specs.Words.{puts_of, type_in, type_or_void}
use Rattle.symbolic_terms.specs.Shown.{doing_of}
use Rattle.symbolic_terms.specs.declared.outcomes.Rest.{Rest}
use Rattle.symbolic_leaving.specs.Shown.{waiting_at, frames_at}
use Rattle.body_check.specs.Notes.{Lands, Edges, Outward, no_answers, cut_to}
use Rattle.note_landing.specs.declared.notes.Notes.{Notes}
use Rattle.note_landing.specs.declared.compiled.Compiled.{Compiled}
use Rattle.note_landing.specs.Books.{bounds}
use Rattle.note_landing.specs.Flights.{IsOut, out, behind_edge, given_later}
use Rattle.note_landing.specs.Shown.{linked_by, func_by, types_by, notes_by, thrown_by, numbers_by, rows_by, outcome_by, exception_by, ReachesBy, RowFitsBy, FoundFitsBy, FliesBy}
use Rattle.note_landing.proofs.Flying.{known_flies, any_flies}

-- a block is left with an exception
pub left_as : (types : ℕ → Typ) (m : Meaning) (p : program.Program) (f : Func) (doing : Doing) (own block : blocks.Open) (thrown e : ExceptionId) → doing ≡ LeavesBlock own (Throws thrown) → open_shown own ≡ open_shown block → thrown_of m thrown ≡ thrown_of m e
    → doing_of types m p f doing ≡ outcomes.leaves_block (open_shown block) (throws (thrown_of m e))
left_as types m p f doing own block thrown e is i j = ap (λ z. doing_of types m p f z) is ∙ ap₂ (λ (x : Open) (y : Exception). outcomes.leaves_block x (throws y)) i j

-- an exception has left the function
pub out_as : (b : Compiled) (m : Meaning) (o : Outcome) (thrown e : ExceptionId) (ws : Waitings) → o ≡ GoesOut (Throws thrown) ws → thrown_of m thrown ≡ thrown_of m e → IsOut (outcome_by b m o) (thrown_of m e)
out_as b m o thrown e ws is i = subst (λ z. IsOut (outcome_by b m z) (thrown_of m e)) (sym is) (subst (λ z. IsOut (outcome_by b m (GoesOut (Throws thrown) ws)) z) i (out _))

-- what the source does behind a reply
pub replied_as : (b : Compiled) (m : Meaning) (rest : Rest) (w : Term) (ws : List Waiting) (k : List Frame) (o : outcomes.Outcome) → ws ≡ in_waitings later (waiting_at b.source m rest.temporaries) → k ≡ in_frames later (frames_at b.source m rest.frames) → w ≡ variable 0
    → o ≡ given (linked_by b) (func_by b) no_answers ws w k → o ≡ given_later b m rest
replied_as b m rest w ws k o i j r e =
    e ∙ ap (λ z. given (linked_by b) (func_by b) no_answers z w k) i ∙ ap (λ z. given (linked_by b) (func_by b) no_answers (in_waitings later (waiting_at b.source m rest.temporaries)) z k) r
    ∙ ap (λ z. given (linked_by b) (func_by b) no_answers (in_waitings later (waiting_at b.source m rest.temporaries)) (variable 0) z) j

module _ (b : Compiled) (m : Meaning) (ns : Notes) where
  -- the place is this one
  pub reaches_there : (known : List Fact) (answers : Answers) (rank index : ℕ) (q q2 : Place) (o : outcomes.Outcome) → q2 ≡ q → ReachesBy b m ns known answers rank index q2 o → ReachesBy b m ns known answers rank index q o
  reaches_there known answers rank index q q2 o e r = subst (λ z. ReachesBy b m ns known answers rank index z o) e r

  -- an exception leaves a block
  pub edges_as : (known : List Fact) (answers : Answers) (block : Open) (index : ℕ) (q q2 : Place) (e : Exception) (o o2 : outcomes.Outcome) (doing : outcomes.Doing) (ws : List Waiting) (k : List Frame) (lag n : ℕ)
      → o2 ≡ advanced (linked_by b) (func_by b) answers lag o → o2 ≡ outcomes.goes doing ws k → doing ≡ outcomes.leaves_block block (throws e) → n ≡ 0 + lag → n ≤ 1024 → q2 ≡ behind_edge q e
      → ((l : Lands (linked_by b) (func_by b) bounds (notes_by b m ns) (thrown_by b) (in_facts later known) no_answers index q2 (given (linked_by b) (func_by b) no_answers (in_waitings later ws) (variable 0) (in_frames later k))) × (l.lag ≡ 0))
      → Edges (linked_by b) (func_by b) bounds (notes_by b m ns) (thrown_by b) known answers block index q e o
  edges_as known answers block index q q2 e o o2 doing ws k lag n is goes leaves i short there l =
      let moved = subst (λ z. (l : Lands (linked_by b) (func_by b) bounds (notes_by b m ns) (thrown_by b) (in_facts later known) no_answers index z (given (linked_by b) (func_by b) no_answers (in_waitings later ws) (variable 0) (in_frames later k))) × (l.lag ≡ 0)) there l in
      record {
        lag = lag;
        temporaries = ws;
        others = k;
        is = sym is ∙ goes ∙ ap (λ z. outcomes.goes z ws k) leaves;
        short = omega (arith, i, short);
        lands = moved.0;
        at_once = moved.1;
      }

  module _ (known : List Fact) (answers : Answers) (rank : ℕ) (e : Exception) (o : outcomes.Outcome) where
    -- a row of a sort
    pub row_as : (what n target : ℕ) (q : Place) → what ≡ n → RowFitsBy b m ns known answers rank n target q e o → RowFitsBy b m ns known answers rank what target q e o
    row_as what n target q is r = subst (λ z. RowFitsBy b m ns known answers rank z target q e o) (sym is) r

    -- no row, or one
    pub found_none : (row : Option Row) (q : Place) → row ≡ None → Outward (linked_by b) (func_by b) bounds (notes_by b m ns) (thrown_by b) answers e o → FoundFitsBy b m ns known answers rank row q e o
    found_none row q is w = subst (λ z. FoundFitsBy b m ns known answers rank z q e o) (sym is) w

    pub found_some : (row : Option Row) (r : Row) (q q2 : Place) → row ≡ Some r → q2 ≡ cut_to r.depth q → RowFitsBy b m ns known answers rank r.what r.target q2 e o → FoundFitsBy b m ns known answers rank row q e o
    found_some row r q q2 is cut fits = subst (λ z. FoundFitsBy b m ns known answers rank z q e o) (sym is) (subst (λ z. RowFitsBy b m ns known answers rank r.what r.target z e o) cut fits)

    -- what was found is the row of the type
    pub found_known : (index : ℕ) (q : Place) (types : List Ty) (n : ℕ) (ty : Ty) (number : ℕ) (row : Option Row) → slice_get types n ≡ Some ty → number ≡ numbers_by b (typ_of ty) → row ≡ find (rows_by b) index number
        → FoundFitsBy b m ns known answers rank row q e o → FoundFitsBy b m ns known answers rank (find (rows_by b) index (numbers_by b (type_in types n))) q e o
    found_known index q types n ty number row is i j w =
        subst (λ z. FoundFitsBy b m ns known answers rank (find (rows_by b) index (numbers_by b (type_or_void z))) q e o) (sym is)
        (subst (λ z. FoundFitsBy b m ns known answers rank (find (rows_by b) index z) q e o) i
        (subst (λ z. FoundFitsBy b m ns known answers rank z q e o) j w))

    -- or of any
    pub found_all : (index : ℕ) (q : Place) (row : Option Row) → ((number : ℕ) → find (rows_by b) index number ≡ row) → FoundFitsBy b m ns known answers rank row q e o
        → (number : ℕ) → FoundFitsBy b m ns known answers rank (find (rows_by b) index number) q e o
    found_all index q row is w number = subst (λ z. FoundFitsBy b m ns known answers rank z q e o) (sym (is number)) w

  module _ (known : List Fact) (index : ℕ) (q : Place) (o : outcomes.Outcome) (rank : ℕ) where
    -- an exception of a known type
    pub made_flies : (e : ExceptionId) (x : declared.Exception) (n : ℕ) (puts : Puts) → thrown_of m e ≡ exception_by b x → x ≡ Made n puts → rank ≤ 63 → FoundFitsBy b m ns known no_answers rank (find (rows_by b) index (numbers_by b (types_by b n))) q (thrown_of m e) o → FliesBy b m ns known index q (thrown_of m e) o rank
    made_flies e x n puts there is low w =
        let i : thrown_of m e ≡ made (types_by b n) (puts_of (types_by b) puts) = there ∙ ap (λ z. exception_by b z) is in
        subst (λ z. FliesBy b m ns known index q z o rank) (sym i)
        (known_flies (linked_by b) (func_by b) (notes_by b m ns) (thrown_by b) (numbers_by b) (rows_by b) known index q o rank low (types_by b n) (puts_of (types_by b) puts)
        (subst (λ z. FoundFitsBy b m ns known no_answers rank (find (rows_by b) index (numbers_by b (types_by b n))) q z o) i w))

    -- one of which nothing is known
    pub all_fly : (n : ℕ) (e : Exception) → e ≡ unknown n → rank ≤ 63 → ((number : ℕ) → FoundFitsBy b m ns known no_answers rank (find (rows_by b) index number) q e o) → FliesBy b m ns known index q (unknown n) o rank
    all_fly n e is low w = subst (λ z. FliesBy b m ns known index q z o rank) is (any_flies (linked_by b) (func_by b) (notes_by b m ns) (thrown_by b) (numbers_by b) (rows_by b) known index q o rank low e w)

    pub unknown_flies : (e : ExceptionId) (x : declared.Exception) (n : ℕ) → thrown_of m e ≡ exception_by b x → x ≡ Unknown n → FliesBy b m ns known index q (unknown n) o rank → FliesBy b m ns known index q (thrown_of m e) o rank
    unknown_flies e x n there is w = subst (λ z. FliesBy b m ns known index q z o rank) (sym (there ∙ ap (λ z. exception_by b z) is)) w
