-- A body with notes at its indexes: what the source has left to do there, and where the operands are; and when the notes fit.
use Rattle.std.specs.Prelude.{ℕ, zero, suc, ◌+◌, ◌-◌, ◌≡◌, ◌≤◌, ◌⊎◌, Bool, true, false, List, [], ◌∷◌, length, drop, Option, Some, None, slice_get, nat_le}
use Rattle.tx_events.specs.declared.BlockKind.TheVariants.{NoExcept, Commit, Cancel}
use Rattle.tx_events.specs.Thread.{Open, Atomic, Sync, rest_of}
use Rattle.tx_code.specs.declared.body.Row.{Row}
use Rattle.tx_code.specs.Meaning.{Home, find}
use Rattle.cpp_tree.specs.cpp_types.Typ.{Typ}
use Rattle.src_mean.specs.Exceptions.{catches}
use Rattle.src_mean.specs.Linked.{Func, Program}
use Rattle.cpp_tree.specs.Trees.{Tree, typ_in}
use Rattle.src_mean.specs.Frames.{State}
use Rattle.src_mean.specs.Frames as frames
use Rattle.symbolic_source.specs.Terms.{Values, Term, variable, Exception, unknown, made}
use Rattle.symbolic_source.specs.Frames.{Waiting, Frame, throws, Replied}
use Rattle.symbolic_source.specs.Outcomes.{Doing, silent, reads, leaves_block, Outcome, goes, goes_out, Shows}
use Rattle.symbolic_source.specs.Steps.{Answers, left, given, advanced}
use Rattle.symbolic_source.specs.Small.{AreWords, is_stuck}
use Rattle.symbolic_source.specs.Replacing.{Replacing, seen_by, in_exception, in_puts, in_terms, in_waitings, in_frames, in_outcome}
use Rattle.symbolic_code.specs.Facts.{Fact, not_zero, has_function, AllHold, in_facts, AllAmong, settled}
use Rattle.symbolic_code.specs.Places.{frame_at, Place, Hold, nothing, making, flying, later, with_operands, holding, opened_later}
use Rattle.symbolic_code.specs.Following.{Next, refused, quietly, either_way, unless_trap, loudly, throwing, finding, starting, rethrowing, ends}

-- at an index, of which there may be several, as one for each round of a loop: the place, what is known of its words, what comes of the source, how many silent
-- steps the source takes before the instruction, and a rank that falls
-- where the code goes on and the source does not
pub record Note : Type 0 where
  pub index : ℕ
  pub place : Place
  pub facts : List Fact
  pub outcome : Outcome
  pub lead : ℕ
  pub rank : ℕ

abbrev pub in_caught : Replacing → List Exception → List Exception
in_caught r [] = []
in_caught r (e ∷ es) = in_exception r e ∷ in_caught r es

abbrev pub in_hold : Replacing → Hold → Hold
in_hold r nothing = nothing
in_hold r (making t puts) = making t (in_puts r puts)
in_hold r (flying e) = flying (in_exception r e)

abbrev pub in_place : Replacing → Place → Place
in_place r q = record { operands = in_terms r q.operands; opens = q.opens; caught = in_caught r q.caught; hold = in_hold r q.hold }

-- an event is none of the silent ones, and a read is of a word at most
abbrev pub is_loud : Doing → Bool
is_loud silent = false
is_loud (reads address size volatile) = nat_le size 8
is_loud doing = true

abbrev pub no_answers : Answers
no_answers e handler = None

-- the variables from a number on, so many
abbrev pub variables : ℕ → ℕ → List Term
variables n zero = []
variables n (suc m) = variable n ∷ variables (suc n) m

-- where a handler has been entered
abbrev pub catching : Place → Exception → Place
catching q e = record { operands = q.operands; opens = q.opens; caught = e ∷ q.caught; hold = nothing }

-- the operands cut to a depth
abbrev pub cut_to : ℕ → Place → Place
cut_to d q = with_operands q (drop (length q.operands - d) q.operands)

-- an exception that comes from elsewhere is the first unknown one
abbrev pub rising : Replacing
rising = record { word = λ n. variable n; exception = λ n. unknown (suc n) }

-- the types that an exception can be of
abbrev pub IsOf : Exception → Typ → Type 0
IsOf (unknown n) t = Unit {0}
IsOf (made u puts) t = u ≡ t

-- an exception is of a type that is thrown
abbrev pub IsThrown : (thrown : Typ → Bool) → Exception → Type 0
IsThrown thrown (unknown n) = Unit {0}
IsThrown thrown (made t puts) = thrown t ≡ true

-- what is answered is right of an exception of this type
abbrev pub Answering : Program → Exception → Typ → Answers → Type 0
Answering p e t answers = (n : ℕ) (handler : Tree) (answer : Bool) → answers n handler ≡ Some answer → (e ≡ unknown n)
    × (catches p.classes (typ_in handler) t ≡ answer)

-- how many silent steps the source takes in one move, before the instruction or on a way back to a caller, and how far ranks go
pub record Bounds : Type 0 where
  pub half : ℕ
  pub longest : ℕ
  pub both : half + half ≤ longest
  pub most : ℕ

-- the types that are thrown are told by a test
module _ (p : Program) (f : Func) (b : Bounds) (notes : List Note) (thrown : Typ → Bool) where
  -- a way on leads to a note of an index, after some silent steps of the source, with these answers on unknown exceptions: whatever the words are of which it
  -- is known that the facts hold, with what
  -- the terms stand for in the place of the note's variables the frame is that of the note, the note's facts hold, and the source has come to what the note
  -- foresees
  pub record Lands (known : List Fact) (answers : Answers) (index : ℕ) (q : Place) (o : Outcome) : Type 0 where
    pub at : ℕ
    pub note : Note
    pub is : slice_get notes at ≡ Some note
    pub there : note.index ≡ index
    pub lag : ℕ
    pub terms : Replacing
    pub types : (n : ℕ) → IsThrown thrown (terms.exception n)
    pub same_place : (x : Values) → AreWords x → AllHold p f x known → (numbers : Typ → ℕ) (home : Home)
        → frame_at p f numbers x home index q ≡ frame_at p f numbers (seen_by p f terms x) home index note.place
    pub same_facts : (x : Values) → AreWords x → AllHold p f x known → AllHold p f (seen_by p f terms x) note.facts
    pub same_outcome : (x : Values) → AreWords x → AllHold p f x known → (rest : List frames.Frame) (s : State)
        → Shows p f x rest (advanced p f answers lag o) s → Shows p f (seen_by p f terms x) rest note.outcome s
    pub foreseen : is_stuck (advanced p f answers lag o) ≡ false
    pub low : note.rank ≤ b.most

  -- a test of it: the terms in the place of the note's variables make what was computed, where decisions are made by what is known, and facts that are known
  pub record LandsEqually (known : List Fact) (answers : Answers) (index : ℕ) (q : Place) (o : Outcome) : Type 0 where
    pub at : ℕ
    pub note : Note
    pub is : slice_get notes at ≡ Some note
    pub there : note.index ≡ index
    pub lag : ℕ
    pub terms : Replacing
    pub types : (n : ℕ) → IsThrown thrown (terms.exception n)
    pub same_place : in_place terms note.place ≡ q
    pub same_facts : AllAmong (in_facts terms note.facts) known
    pub same_outcome : in_outcome terms note.outcome ≡ settled known (advanced p f answers lag o)
    pub foreseen : is_stuck (advanced p f answers lag o) ≡ false
    pub low : note.rank ≤ b.most

  -- the same where the source took so many steps before: one of both goes on, or the rank falls
  pub record LandsOn (known : List Fact) (lead rank : ℕ) (index : ℕ) (q : Place) (o : Outcome) : Type 0 where
    pub lands : Lands known no_answers index q o
    pub short : lead + lands.lag ≤ b.longest
    pub goes_on : (1 ≤ lead + lands.lag) ⊎ (lands.note.rank + 1 ≤ rank)

  -- ---- exceptions in flight

  -- a row leads to an index
  pub record Reaches (known : List Fact) (answers : Answers) (rank : ℕ) (index : ℕ) (q : Place) (o : Outcome) : Type 0 where
    pub lands : Lands known answers index q o
    pub some : (1 ≤ lands.lag) ⊎ (lands.note.rank + 1 ≤ rank)
    pub short : lands.lag ≤ b.longest

  -- an exception leaves a block, and the code goes on at an index behind this event
  pub record Edges (known : List Fact) (answers : Answers) (block : Open) (index : ℕ) (q : Place) (e : Exception) (o : Outcome) : Type 0 where
    pub lag : ℕ
    pub temporaries : List Waiting
    pub others : List Frame
    pub is : advanced p f answers lag o ≡ goes (leaves_block block (throws e)) temporaries others
    pub short : lag ≤ b.longest
    pub lands : Lands (in_facts later known) no_answers index (opened_later (holding q (flying e)) (rest_of q.opens))
        (given p f no_answers (in_waitings later temporaries) (variable 0) (in_frames later others))
    pub at_once : lands.lag ≡ 0

  -- the exception leaves the function: one silent step more, and the source is where the caller, or the end of the thread, has it
  pub record Outward (answers : Answers) (e : Exception) (o : Outcome) : Type 0 where
    pub lag : ℕ
    pub temporaries : List Waiting
    pub is : advanced p f answers lag o ≡ goes_out (throws e) temporaries
    pub short : lag + 1 ≤ b.longest

  -- what each sort of row asks
  abbrev pub RowFits : List Fact → Answers → (rank : ℕ) → (what target : ℕ) → Place → Exception → Outcome → Type 0
  RowFits known answers rank zero target q e o = Reaches known answers rank target (holding q (flying e)) o
  RowFits known answers rank (suc zero) target q e o = Reaches known answers rank target (catching q e) o
  RowFits known answers rank (suc (suc zero)) target q e o = Reaches known answers rank target (catching q e) o
  RowFits known answers rank (suc (suc (suc zero))) target q e o = Edges known answers (Atomic NoExcept) target q e o
  RowFits known answers rank (suc (suc (suc (suc zero)))) target q e o = Edges known answers (Atomic Commit) target q e o
  RowFits known answers rank (suc (suc (suc (suc (suc zero))))) target q e o = Edges known answers (Atomic Cancel) target q e o
  RowFits known answers rank (suc (suc (suc (suc (suc (suc zero)))))) target q e o = Edges known answers Sync target q e o
  RowFits known answers rank (suc (suc (suc (suc (suc (suc (suc n))))))) target q e o = ⊥

  abbrev pub FoundFits : List Fact → Answers → (rank : ℕ) → Option Row → Place → Exception → Outcome → Type 0
  FoundFits known answers rank None q e o = Outward answers e o
  FoundFits known answers rank (Some r) q e o = RowFits known answers rank r.what r.target (cut_to r.depth q) e o

  -- for a type: what is answered on an unknown exception of it, and the row that takes it
  pub record TypeFits (numbers : Typ → ℕ) (rows : List Row) (known : List Fact) (rank index : ℕ) (q : Place) (e : Exception) (o : Outcome)
      (t : Typ) : Type 0 where
    pub answers : Answers
    pub right : Answering p e t answers
    pub found : FoundFits known answers rank (find rows index (numbers t)) q e o

  -- an exception in flight at an index, of each type that is thrown and that it can be of, with a rank as a note has
  pub record Flies (numbers : Typ → ℕ) (rows : List Row) (known : List Fact) (index : ℕ) (q : Place) (e : Exception) (o : Outcome) : Type 0 where
    pub rank : ℕ
    pub low : rank ≤ b.most
    pub fits : (t : Typ) → IsOf e t → thrown t ≡ true → TypeFits numbers rows known rank index q e o t

  module _ (numbers : Typ → ℕ) (rows : List Row) where
    abbrev pub Fits : (known : List Fact) → (lead rank : ℕ) → Next → Type 0
    Fits known lead rank refused = ⊥
    Fits known lead rank (quietly index q o) = LandsOn known lead rank index q o
    Fits known lead rank (either_way w first other) = Fits known lead rank first × Fits (not_zero w ∷ known) lead rank other
    Fits known lead rank (unless_trap op kind x y next) = Fits known lead rank next
    Fits known lead rank (finding class slot w next) = Fits (has_function class slot w ∷ known) lead rank next
    Fits known lead rank (loudly doing ws k index q) = (is_loud doing ≡ true)
        × (l : Lands (in_facts later known) no_answers index q (given p f no_answers (in_waitings later ws) (variable 0) (in_frames later k))) × (l.lag ≡ 0)
    Fits known lead rank (starting address argument ws k index q) =
        (l : Lands (in_facts later known) no_answers index q (given p f no_answers (in_waitings later ws) (variable 0) (in_frames later (Replied ∷ k))))
        × (l.lag ≡ 0)
    Fits known lead rank (throwing e index q o) = (t : Flies numbers rows known index q e o) × IsThrown thrown e × ((1 ≤ lead) ⊎ (t.rank + 1 ≤ rank))
    Fits known lead rank (rethrowing ws k index q) = (t : Flies numbers rows (in_facts rising known) index (in_place rising q) (unknown 0)
        (left (in_waitings rising ws) (throws (unknown 0)) (in_frames rising k))) × ((1 ≤ lead) ⊎ (t.rank + 1 ≤ rank))
    Fits known lead rank (ends end) = Unit {0}
