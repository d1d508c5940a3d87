-- Threads of checked bodies: each frame with what the source has left to do in it.
use Rattle.std.specs.Prelude.{ℕ, ◌==◌, ◌≡◌, Bool, true, false, List, [], ◌∷◌, Some}
use Rattle.tx_code.specs.Objects.{BodyView}
use Rattle.tx_code.specs.Meaning.{Names, Home, Frame, Runs, Unwinds, blocks_in}
use Rattle.tx_events.specs.Thread.{no_atomic}
use Rattle.tx_code.specs.Meaning as code
use Rattle.src_mean.specs.Linked.{Program}
use Rattle.src_mean.specs.Frames.{State}
use Rattle.src_mean.specs.Frames as frames
use Rattle.src_mean.specs.Source.{empty_stack}
use Rattle.symbolic_source.specs.Terms.{Term, Exception, Values, exception_of}
use Rattle.symbolic_source.specs.Frames.{Waiting, below, here_of}
use Rattle.symbolic_source.specs.Frames as symbolic
use Rattle.symbolic_source.specs.Outcomes.{Outcome, Shows}
use Rattle.symbolic_source.specs.Small.{AreWords}
use Rattle.symbolic_code.specs.Facts.{Fact, AllHold}
use Rattle.symbolic_code.specs.Places.{Place, coded, frame_at, with_operands}
use Rattle.body_check.specs.Notes.{Bounds, Flies}
use Rattle.body_check.specs.Linked.{Based, Stands, Stopped, Finished}
use Rattle.body_check.specs.Calls.{Book, Behind}

-- a frame of a thread
abbrev pub home_of : (thread : ℕ) → (func : ℕ) → (safe : Bool) → (base : ℕ) → Home
home_of thread n safe base = record { thread = thread; func = n; safe = safe; base = base }

module _ (p : Program) (names : Names) (b : Bounds) (book : Book) (thread : ℕ) where
  abbrev pub limit : ℕ
  limit = names.stack_end thread

  -- a frame that waits for a function which hands back a word, or none: where it stands, the words under those of the call, and what the
  -- source has left to do behind the call
  pub record Waits (gives stops : Bool) (n : ℕ) (safe : Bool) (base : ℕ) : Type 0 where
    pub body : BodyView
    pub there : names.body n safe ≡ Some body
    pub values : Values
    pub are_words : AreWords values
    pub based : Based book.thrown (home_of thread n safe base) limit values
    pub index : ℕ
    pub place : Place
    pub facts : List Fact
    pub holds : AllHold p (book.held n safe).func values facts
    pub under : List Term
    pub temporaries : List Waiting
    pub others : List symbolic.Frame
    pub behind : Behind p b book gives stops (book.held n safe) facts index place under temporaries others

  -- the frame of the code, and what the source has left to do in it
  abbrev pub waiting_frame : (gives stops : Bool) (n : ℕ) (safe : Bool) (base : ℕ) → Waits gives stops n safe base → Frame
  waiting_frame gives stops n safe base w = frame_at p (book.held n safe).func book.numbers w.values (home_of thread n safe base) w.index
      (with_operands w.place w.under)

  abbrev pub waiting_frames : (gives stops : Bool) (n : ℕ) (safe : Bool) (base : ℕ) → Waits gives stops n safe base → List frames.Frame → List frames.Frame
  waiting_frames gives stops n safe base w rest = frames.Called (here_of p (book.held n safe).func w.values w.temporaries) stops
      ∷ below p (book.held n safe).func w.values w.others rest

  -- a frame of a safe body has an open atomic block below it
  abbrev pub Covered : (safe : Bool) → List Frame → Type 0
  Covered safe fs = safe ≡ true → no_atomic (blocks_in fs) ≡ false

  -- the callers of a function, which hands back a word or none and lets exceptions out or none: nobody below the first function of a thread,
  -- of which main's hands back a word, or one that waits and its callers
  pub data Callers : (gives stops : Bool) → List Frame → List frames.Frame → Type 0 where
    nobody : (main stops : Bool) → (thread == 0) ≡ main → Callers main stops [] (frames.Called (empty_stack thread) stops ∷ frames.Starts main ∷ [])
    waits_for : {gives stops : Bool} {fs : List Frame} {rest : List frames.Frame} (n : ℕ) (safe : Bool) (base : ℕ) (w : Waits gives stops n safe base)
        → Covered safe fs → Callers (book.gives n) (book.held n safe).func.stops fs rest
        → Callers gives stops (waiting_frame gives stops n safe base w ∷ fs) (waiting_frames gives stops n safe base w rest)

  -- a frame that runs
  pub record RunsIn (rank : ℕ) (s : State) (top : Frame) (fs : List Frame) (n : ℕ) (safe : Bool) (base : ℕ) : Type 0 where
    pub body : BodyView
    pub there : names.body n safe ≡ Some body
    pub rest : List frames.Frame
    pub callers : Callers (book.gives n) (book.held n safe).func.stops fs rest
    pub covered : Covered safe fs
    pub stands : Stands p book.numbers book.thrown (book.held n safe) (home_of thread n safe base) limit rest rank s top

  -- a frame in which an exception is in flight
  pub record FliesIn (rank : ℕ) (s : State) (exception : code.Exception) (top : Frame) (fs : List Frame) (n : ℕ) (safe : Bool) (base : ℕ) : Type 0 where
    pub body : BodyView
    pub there : names.body n safe ≡ Some body
    pub rest : List frames.Frame
    pub callers : Callers (book.gives n) (book.held n safe).func.stops fs rest
    pub covered : Covered safe fs
    pub values : Values
    pub are_words : AreWords values
    pub based : Based book.thrown (home_of thread n safe base) limit values
    pub index : ℕ
    pub place : Place
    pub facts : List Fact
    pub holds : AllHold p (book.held n safe).func values facts
    pub form : Exception
    pub type : book.thrown (exception_of p (book.held n safe).func values form).typ ≡ true
    pub outcome : Outcome
    pub frame : top ≡ frame_at p (book.held n safe).func book.numbers values (home_of thread n safe base) index place
    pub is : exception ≡ coded book.numbers (exception_of p (book.held n safe).func values form)
    pub fits : Flies p (book.held n safe).func b (book.held n safe).notes book.thrown book.numbers (book.held n safe).rows facts index place form outcome
    pub ranked : fits.rank ≡ rank
    pub shows : Shows p (book.held n safe).func values rest outcome s

  -- both threads go together, or an exception is in flight in both, or both have stopped
  pub data Together : ℕ → State → code.State → Type 0 where
    running : {rank : ℕ} {s : State} {top : Frame} {fs : List Frame} (n : ℕ) (safe : Bool) (base : ℕ) → RunsIn rank s top fs n safe base
        → Together rank s (Runs top fs)
    flies : {rank : ℕ} {s : State} {e : code.Exception} {top : Frame} {fs : List Frame} (n : ℕ) (safe : Bool) (base : ℕ) → FliesIn rank s e top fs n safe base
        → Together rank s (Unwinds e top fs)
    stopped : {s : State} {c : code.State} → Stopped names s c → Together 0 s c
    finished : {s : State} {c : code.State} → Finished names s c → Together 0 s c
