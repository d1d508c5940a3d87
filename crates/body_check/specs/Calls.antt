-- Calls between checked bodies, and returns.
use Rattle.std.specs.Prelude.{ℕ, zero, suc, ◌+◌, ◌==◌, ◌≡◌, ◌≤◌, nat_lt, Bool, true, false, not, ◌||◌, is_some, List, [], ◌∷◌, length, map, Option, Some, None}
use Rattle.std.specs.Prelude.{slice_get}
use Rattle.tx_events.specs.Thread.{Open, no_atomic}
use Rattle.tx_code.specs.declared.instr.Instr.{Instr}
use Rattle.tx_code.specs.declared.instr.Instr.TheVariants.{Call, TCall, CallIndirect, TCallIndirect, Ret}
use Rattle.tx_code.specs.Objects.{BodyView}
use Rattle.tx_code.specs.Meaning.{Names}
use Rattle.tx_code.specs.Renaming.{renamed_row}
use Rattle.cpp_tree.specs.cpp_types.Typ.{Typ, Signature}
use Rattle.src_mean.specs.Linked.{Program}
use Rattle.src_mean.specs.Exceptions.{cancels}
use Rattle.src_mean.specs.Source.{is_safe, empty_stack}
use Rattle.symbolic_source.specs.Terms.{Term, Exception, number, variable, slot_function, unknown}
use Rattle.symbolic_source.specs.Frames.{Waiting, Frame, value, throws, returns, Callee, known as known_func, virtual, pointer, Passes, Then, Gives, handled}
use Rattle.symbolic_source.specs.Frames.{blocks_in}
use Rattle.symbolic_source.specs.Outcomes.{silent, Outcome, goes, hands, goes_out, calls}
use Rattle.symbolic_source.specs.Steps.{left, advanced}
use Rattle.symbolic_source.specs.Small.{is_stuck}
use Rattle.symbolic_source.specs.Replacing.{in_terms, in_waitings, in_frames}
use Rattle.symbolic_code.specs.Facts.{Fact, has_function, in_facts, Among}
use Rattle.symbolic_code.specs.Places.{Place, nothing, later, with_operands, place_later}
use Rattle.symbolic_code.specs.Following.{followed, AreNames}
use Rattle.body_check.specs.Notes.{Note, Bounds, Lands, Fits, Flies, in_place, rising, no_answers, variables, IsThrown}
use Rattle.body_check.specs.Linked.{Held}

-- the bodies by function and by whether it is the safe one; whether a function hands back a word, how many words it takes, and whether it lets no exception
-- out; types' numbers
pub record Book : Type 0 where
  pub held : (func : ℕ) → (safe : Bool) → Held
  pub gives : (func : ℕ) → Bool
  pub takes : (func : ℕ) → ℕ
  pub stops : (func : ℕ) → Bool
  pub numbers : Typ → ℕ
  -- the types of exceptions that are thrown
  pub thrown : Typ → Bool
  -- the functions of a type, or those in a slot of a class, take so many words, and hand back a word or none
  pub takes_as : Signature → (count : ℕ) → (gives : Bool) → Bool
  pub slot_takes : (class slot count : ℕ) → (gives : Bool) → Bool

-- so many words are taken off one by one, so that the first, which lies lowest, comes first; and the words under them
abbrev pub taken_off : ℕ → List Term → List Term → Option (List Term × List Term)
taken_off zero ws args = Some (args, ws)
taken_off (suc n) [] args = None
taken_off (suc n) (w ∷ ws) args = taken_off n ws (w ∷ args)

-- the words of a call that has come, for a function of so many words
abbrev pub bare : ℕ → Place
bare n = record { operands = variables 0 n; opens = []; caught = []; hold = nothing }

-- a frame of a safe body has an open atomic block below it: what calls a safe body is one, or has one open
abbrev pub covers : (safe : Bool) → List Open → Bool
covers safe opens = safe || not (no_atomic opens)

abbrev pub first_of : List Exception → Option Exception
first_of [] = None
first_of (e ∷ es) = Some e

abbrev pub AllThrown : (thrown : Typ → Bool) → List Exception → Type 0
AllThrown thrown [] = Unit {0}
AllThrown thrown (e ∷ es) = IsThrown thrown e

-- a word is what the function hands back
pub data Hands (w : Term) : Outcome → Type 0 where
  by_end : {ws : List Waiting} → Hands w (hands w ws)
  by_return : {ws : List Waiting} → Hands w (goes_out (returns w) ws)

module _ (p : Program) (b : Bounds) (book : Book) where
  -- how the caller goes on behind a call: at least one silent step on
  pub record Back (h : Held) (known : List Fact) (index : ℕ) (q : Place) (o : Outcome) : Type 0 where
    pub lands : Lands p h.func b h.notes book.thrown known no_answers index q o
    pub some : 1 ≤ lands.lag
    pub short : lands.lag ≤ b.half

  abbrev pub BackWith : (gives : Bool) → Held → List Fact → ℕ → Place → List Term → List Waiting → List Frame → Type 0
  BackWith true h known i q under ws k = Back h (in_facts later known) (i + 1) (place_later q (variable 0 ∷ in_terms later under))
      (goes silent (in_waitings later ws) (Gives (variable 0) ∷ in_frames later k))
  BackWith false h known i q under ws k = Back h known (i + 1) (with_operands q under) (goes silent ws (Gives (number 0) ∷ k))

  -- how the caller goes on where an exception comes out of the callee
  abbrev pub ThrownWith : Held → List Fact → ℕ → Place → List Term → List Waiting → List Frame → Type 0
  ThrownWith h known i q under ws k =
      Flies p h.func b h.notes book.thrown book.numbers h.rows (in_facts rising known) i (in_place rising (with_operands q under)) (unknown 0)
      (left (in_waitings rising ws) (throws (unknown 0)) (in_frames rising k))

  -- what a call leaves behind it, where the words of the call have been taken off: the function hands back a word or none, and lets no exception out or may do
  -- so
  pub record Behind (gives stops : Bool) (h : Held) (known : List Fact) (index : ℕ) (q : Place) (under : List Term) (ws : List Waiting)
      (k : List Frame) : Type 0 where
    pub back : BackWith gives h known index q under ws k
    pub thrown : stops ≡ false → ThrownWith h known index q under ws k
    pub opens : q.opens ≡ blocks_in k
    pub caught : first_of q.caught ≡ handled k
    pub type : AllThrown book.thrown q.caught

  -- a call of a function by its name, with so many words
  pub record Calling (h : Held) (known : List Fact) (index : ℕ) (q : Place) (o : Outcome) (name count : ℕ) : Type 0 where
    pub callee : ℕ
    pub named : h.table.function_of name ≡ Some callee
    pub words : List Term
    pub under : List Term
    pub temporaries : List Waiting
    pub others : List Frame
    pub outcome_is : o ≡ calls (known_func (p.number h.func.unit callee)) words temporaries others
    pub operands_are : taken_off count q.operands [] ≡ Some (words, under)
    pub taken : book.takes (p.number h.func.unit callee) ≡ count
    pub behind : Behind (book.gives (p.number h.func.unit callee)) (book.stops (p.number h.func.unit callee)) h known index q under temporaries others

  -- the word that a call by an address finds its function with, where the functions that can be found take so many words, and hand back a word or none
  pub data Found (h : Held) (known : List Fact) (name : ℕ) : Term → Callee → (count : ℕ) → (gives : Bool) → Type 0 where
    by_pointer : {count : ℕ} {gives : Bool} (address : Term) (sig : Signature) → h.table.is_signature name sig ≡ true → book.takes_as sig count gives ≡ true
        → Found h known name address (pointer address sig) count gives
    by_slot : {count : ℕ} {gives : Bool} (class slot : ℕ) (address : Term) → h.table.is_slot name class slot ≡ true
        → book.slot_takes class slot count gives ≡ true → Among (has_function class slot address) known
        → Found h known name (slot_function class slot address) (virtual class slot address) count gives

  pub record CallingFound (h : Held) (known : List Fact) (index : ℕ) (q : Place) (o : Outcome) (name count : ℕ) : Type 0 where
    pub address : Term
    pub callee : Callee
    pub gives : Bool
    pub found : Found h known name address callee count gives
    pub words : List Term
    pub under : List Term
    pub temporaries : List Waiting
    pub others : List Frame
    pub outcome_is : o ≡ calls callee words temporaries others
    pub operands_are : taken_off count q.operands [] ≡ Some (words, address ∷ under)
    pub behind : Behind gives false h known index q under temporaries others

  abbrev pub Returning : (gives : Bool) → Place → Outcome → Type 0
  Returning true q o = (w : Term) × (under : List Term) × (q.operands ≡ w ∷ under) × Hands w o
  Returning false q o = Hands (number 0) o

  -- what each instruction asks
  abbrev pub StepFits : Held → (known : List Fact) → (lead rank index : ℕ) → Instr → Place → Outcome → Type 0
  StepFits h known lead rank index (Call name n) q o = Calling h known index q o name n
  StepFits h known lead rank index (TCall name n) q o = (covers h.safe q.opens ≡ true) × (c : Calling h known index q o name n)
      × (is_safe (p.func (p.number h.func.unit c.callee)) ≡ true)
  StepFits h known lead rank index (CallIndirect name n) q o = CallingFound h known index q o name n
  StepFits h known lead rank index (TCallIndirect name n) q o = (covers h.safe q.opens ≡ true) × CallingFound h known index q o name n
  StepFits h known lead rank index (Ret zero) q o = (book.gives h.number ≡ false) × Returning false q o
  StepFits h known lead rank index (Ret (suc zero)) q o = (book.gives h.number ≡ true) × Returning true q o
  StepFits h known lead rank index (Ret (suc (suc n))) q o = ⊥
  StepFits h known lead rank index a q o = Fits p h.func b h.notes book.thrown book.numbers h.rows known lead rank (followed h.table known index a q o)

  -- a note fits
  pub record NoteFits (h : Held) (note : Note) : Type 0 where
    pub instr : Instr
    pub is : slice_get h.body.code note.index ≡ Some instr
    pub short : note.lead + 1 ≤ b.half
    pub foreseen : is_stuck (advanced p h.func no_answers note.lead note.outcome) ≡ false
    pub fits : StepFits h note.facts note.lead note.rank note.index instr note.place (advanced p h.func no_answers note.lead note.outcome)

  -- the first note: the function is entered, and the source has taken one silent step
  pub record Entry (h : Held) : Type 0 where
    pub note : Note
    pub is : slice_get h.notes 0 ≡ Some note
    pub first : note.index ≡ 0
    pub facts_are : note.facts ≡ []
    pub place_is : note.place ≡ bare (book.takes h.number)
    pub outcome_is : note.outcome ≡ advanced p h.func no_answers 1
        (goes silent [] (Passes (variables 0 (book.takes h.number)) h.func.words ∷ Then value h.func.body ∷ []))
    pub foreseen : is_stuck note.outcome ≡ false
    pub low : note.rank ≤ b.most

  -- a body is checked: each note fits
  pub record Checked (h : Held) : Type 0 where
    pub entry : Entry h
    pub notes : (at : ℕ) (note : Note) → slice_get h.notes at ≡ Some note → NoteFits h note

-- a function is there, takes so many words, and hands back a word or none
pub record Whole (x : Names) (book : Book) (n count : ℕ) (gives : Bool) : Type 0 where
  pub body : BodyView
  pub there : x.body n false ≡ Some body
  pub takes : book.takes n ≡ count
  pub gives_so : book.gives n ≡ gives

-- the linked program and the names of the code: equal numbers, sizes and ends
pub record Links (p : Program) (x : Names) (b : Bounds) (book : Book) : Type 0 where
  pub bodies : (n : ℕ) (safe : Bool) (body : BodyView) → x.body n safe ≡ Some body → (book.held n safe).body ≡ body
  pub funcs : (n : ℕ) (safe : Bool) (body : BodyView) → x.body n safe ≡ Some body → p.func n ≡ Some ((book.held n safe).func)
  pub numbers : (n : ℕ) (safe : Bool) → (book.held n safe).number ≡ n
  pub safes : (n : ℕ) (safe : Bool) → (book.held n safe).safe ≡ safe
  pub frames : (n : ℕ) (safe : Bool) → x.frame n ≡ (book.held n safe).func.size
  pub rows : (n : ℕ) (safe : Bool) (body : BodyView) → x.body n safe ≡ Some body → map (renamed_row (x.numbering n)) body.rows ≡ (book.held n safe).rows
  pub stops : (n : ℕ) (safe : Bool) → x.no_except n ≡ (book.held n safe).func.stops
  pub stops_so : (n : ℕ) (safe : Bool) → (book.held n safe).func.stops ≡ book.stops n
  pub cancels : (t : Typ) → book.thrown t ≡ true → x.cancels (book.numbers t) ≡ cancels t
  pub one_type : (t : Typ) × (book.thrown t ≡ true)
  pub checked : (n : ℕ) (safe : Bool) (body : BodyView) → x.body n safe ≡ Some body → Checked p b book (book.held n safe)
  pub names : (n : ℕ) (safe : Bool) → AreNames p (book.held n safe).func book.numbers x (x.numbering n) (book.held n safe).table
  pub called : (n : ℕ) (safe : Bool) (name callee : ℕ) → (book.held n safe).table.function_of name ≡ Some callee
      → (x.numbering n).func name ≡ p.number (book.held n safe).func.unit callee
  -- what has a name is there
  pub plain_there : (n : ℕ) (safe : Bool) (name callee : ℕ) → (book.held n safe).table.function_of name ≡ Some callee
      → (body : BodyView) × (x.body (p.number (book.held n safe).func.unit callee) false ≡ Some body)
  -- what an address finds is there, and takes its words
  pub pointed : (a n : ℕ) (sig : Signature) (count : ℕ) (gives : Bool) → book.takes_as sig count gives ≡ true → p.pointed a sig ≡ Some n
      → Whole x book n count gives
  pub slotted : (a class slot n count : ℕ) (gives : Bool) → book.slot_takes class slot count gives ≡ true → p.slot a class slot ≡ Some n
      → Whole x book n count gives
  -- a function has a safe body where the source has
  pub safe_bodies : (n : ℕ) → is_safe (p.func n) ≡ is_some (x.body n true)

-- where a thread begins: main hands back a word and takes none, any other function none and one; its frame fits the stack of the thread
pub record Begins (p : Program) (x : Names) (book : Book) (thread n : ℕ) (words : List ℕ) : Type 0 where
  pub body : BodyView
  pub there : x.body n false ≡ Some body
  pub gives : book.gives n ≡ (thread == 0)
  pub takes : book.takes n ≡ length words
  pub starts : x.stack_start thread ≡ (empty_stack thread).end
  pub ends : x.stack_end thread ≡ (empty_stack thread).limit
  pub room : nat_lt (empty_stack thread).limit ((empty_stack thread).end + (book.held n false).func.size) ≡ false
