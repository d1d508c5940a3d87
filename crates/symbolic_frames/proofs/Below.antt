-- Handlers and blocks down the frames.
use Rattle.std.proofs.Common.{ℕ, ◌≡◌, ◌∙◌, List, ◌∷◌, refl, ap}
use Rattle.std.specs.Prelude.{Option, Some, None}
use Rattle.cpp_tree.specs.cpp_types.Typ.{Typ}
use Rattle.cpp_tree.specs.declared.program.Program.{Program}
use Rattle.cpp_tree.specs.tx_events.Thread as threads
use Rattle.src_mean.specs.Linked.{Func}
use Rattle.src_frames.specs.declared.frames.Open.{Open}
use Rattle.src_frames.specs.Shown.{open_shown}
use Rattle.symbolic_source.specs.Frames.{handled, blocks_in}
use Rattle.symbolic_source.specs.Frames as symbolic
use Rattle.symbolic_source.specs.Terms as words
use Rattle.symbolic_terms.specs.Meanings.{Meaning, thrown_of}
use Rattle.symbolic_terms.specs.Shown.{frame_of}
use Rattle.symbolic_terms.specs.declared.ids.ExceptionId.{ExceptionId}
use Rattle.symbolic_terms.specs.declared.frames.Frame.{Frame}
use Rattle.symbolic_terms.specs.declared.frames.Frame.TheVariants.{Run, Address, Then, Gives, Leaves, Value, Call, Object, Statement, Block, Exception as AtException}
use Rattle.symbolic_terms.specs.declared.frames.ValueFrame.TheVariants.{Loads, Loaded, Replied, StoreTo, Converts, Right, Apply, Choose, AssignTo, UpdateAt, UpdateOld, UpdateBy, CopyTo, CopyBy, From}
use Rattle.symbolic_terms.specs.declared.frames.CallFrame.TheVariants.{Words, Object as ObjectOf, Slot, Pointer, Passes}
use Rattle.symbolic_terms.specs.declared.frames.ObjectFrame.TheVariants.{Full, Keeps, Scope, Waits, InitAt, Cleans, Due, Destroys, Parts, Each}
use Rattle.symbolic_terms.specs.declared.frames.StatementFrame.TheVariants.{Items, Test, Body, Step, Picks, Compares, Switches, Returning}
use Rattle.symbolic_terms.specs.declared.frames.BlockFrame.TheVariants.{Opens, Within, Closes}
use Rattle.symbolic_terms.specs.declared.frames.ExceptionFrame.TheVariants.{Throws, Fills, Filled, Tries, Trying, Takes, Taking, Handling}
use Rattle.symbolic_frames.specs.Sorts.{handling_at, open_at}

abbrev first_of : Meaning → Option ExceptionId → Option words.Exception → Option words.Exception
first_of m None o = o
first_of m (Some e) o = Some (thrown_of m e)

abbrev with_open : Option Open → List threads.Open → List threads.Open
with_open None bs = bs
with_open (Some block) bs = open_shown block ∷ bs

-- one frame more
handled_step : (types : ℕ → Typ) (m : Meaning) (p : Program) (f : Func) (g : Frame) (k : List symbolic.Frame) → handled (frame_of types m p f g ∷ k) ≡ first_of m (handling_at g) (handled k)
handled_step types m p f (Run w t) k = refl
handled_step types m p f (Address w) k = refl
handled_step types m p f (Then w t) k = refl
handled_step types m p f (Gives w) k = refl
handled_step types m p f (Leaves w) k = refl
handled_step types m p f (Value (Loads x0 x1)) k = refl
handled_step types m p f (Value (Loaded x0)) k = refl
handled_step types m p f (Value Replied) k = refl
handled_step types m p f (Value (StoreTo x0 x1 x2 x3)) k = refl
handled_step types m p f (Value (Converts x0)) k = refl
handled_step types m p f (Value (Right x0 x1 x2)) k = refl
handled_step types m p f (Value (Apply x0 x1 x2)) k = refl
handled_step types m p f (Value (Choose x0 x1 x2)) k = refl
handled_step types m p f (Value (AssignTo x0 x1 x2)) k = refl
handled_step types m p f (Value (UpdateAt x0 x1)) k = refl
handled_step types m p f (Value (UpdateOld x0 x1 x2)) k = refl
handled_step types m p f (Value (UpdateBy x0 x1 x2)) k = refl
handled_step types m p f (Value (CopyTo x0 x1)) k = refl
handled_step types m p f (Value (CopyBy x0 x1)) k = refl
handled_step types m p f (Value (From x0 x1)) k = refl
handled_step types m p f (Call (Words x0 x1 x2)) k = refl
handled_step types m p f (Call (ObjectOf x0 x1 x2 x3 x4)) k = refl
handled_step types m p f (Call (Slot x0 x1 x2 x3)) k = refl
handled_step types m p f (Call (Pointer x0 x1 x2)) k = refl
handled_step types m p f (Call (Passes x0 x1)) k = refl
handled_step types m p f (Object (Full x0)) k = refl
handled_step types m p f (Object (Keeps x0)) k = refl
handled_step types m p f (Object (Scope x0 x1 x2)) k = refl
handled_step types m p f (Object (Waits x0 x1)) k = refl
handled_step types m p f (Object (InitAt x0 x1)) k = refl
handled_step types m p f (Object (Cleans x0)) k = refl
handled_step types m p f (Object (Due x0)) k = refl
handled_step types m p f (Object (Destroys x0 x1 x2 x3)) k = refl
handled_step types m p f (Object (Parts x0 x1 x2)) k = refl
handled_step types m p f (Object (Each x0 x1 x2 x3 x4 x5)) k = refl
handled_step types m p f (Statement (Items x0)) k = refl
handled_step types m p f (Statement (Test x0)) k = refl
handled_step types m p f (Statement (Body x0)) k = refl
handled_step types m p f (Statement (Step x0)) k = refl
handled_step types m p f (Statement (Picks x0)) k = refl
handled_step types m p f (Statement (Compares x0 x1 x2 x3)) k = refl
handled_step types m p f (Statement Switches) k = refl
handled_step types m p f (Statement Returning) k = refl
handled_step types m p f (Block (Opens x0 x1)) k = refl
handled_step types m p f (Block (Within x0)) k = refl
handled_step types m p f (Block (Closes x0)) k = refl
handled_step types m p f (AtException (Throws x0 x1)) k = refl
handled_step types m p f (AtException (Fills x0 x1 x2 x3)) k = refl
handled_step types m p f (AtException (Filled x0 x1 x2 x3 x4 x5)) k = refl
handled_step types m p f (AtException (Tries x0)) k = refl
handled_step types m p f (AtException (Trying x0 x1 x2)) k = refl
handled_step types m p f (AtException (Takes x0 x1 x2)) k = refl
handled_step types m p f (AtException (Taking x0 x1 x2 x3)) k = refl
handled_step types m p f (AtException (Handling x0)) k = refl

blocks_step : (types : ℕ → Typ) (m : Meaning) (p : Program) (f : Func) (g : Frame) (k : List symbolic.Frame) → blocks_in (frame_of types m p f g ∷ k) ≡ with_open (open_at g) (blocks_in k)
blocks_step types m p f (Run w t) k = refl
blocks_step types m p f (Address w) k = refl
blocks_step types m p f (Then w t) k = refl
blocks_step types m p f (Gives w) k = refl
blocks_step types m p f (Leaves w) k = refl
blocks_step types m p f (Value (Loads x0 x1)) k = refl
blocks_step types m p f (Value (Loaded x0)) k = refl
blocks_step types m p f (Value Replied) k = refl
blocks_step types m p f (Value (StoreTo x0 x1 x2 x3)) k = refl
blocks_step types m p f (Value (Converts x0)) k = refl
blocks_step types m p f (Value (Right x0 x1 x2)) k = refl
blocks_step types m p f (Value (Apply x0 x1 x2)) k = refl
blocks_step types m p f (Value (Choose x0 x1 x2)) k = refl
blocks_step types m p f (Value (AssignTo x0 x1 x2)) k = refl
blocks_step types m p f (Value (UpdateAt x0 x1)) k = refl
blocks_step types m p f (Value (UpdateOld x0 x1 x2)) k = refl
blocks_step types m p f (Value (UpdateBy x0 x1 x2)) k = refl
blocks_step types m p f (Value (CopyTo x0 x1)) k = refl
blocks_step types m p f (Value (CopyBy x0 x1)) k = refl
blocks_step types m p f (Value (From x0 x1)) k = refl
blocks_step types m p f (Call (Words x0 x1 x2)) k = refl
blocks_step types m p f (Call (ObjectOf x0 x1 x2 x3 x4)) k = refl
blocks_step types m p f (Call (Slot x0 x1 x2 x3)) k = refl
blocks_step types m p f (Call (Pointer x0 x1 x2)) k = refl
blocks_step types m p f (Call (Passes x0 x1)) k = refl
blocks_step types m p f (Object (Full x0)) k = refl
blocks_step types m p f (Object (Keeps x0)) k = refl
blocks_step types m p f (Object (Scope x0 x1 x2)) k = refl
blocks_step types m p f (Object (Waits x0 x1)) k = refl
blocks_step types m p f (Object (InitAt x0 x1)) k = refl
blocks_step types m p f (Object (Cleans x0)) k = refl
blocks_step types m p f (Object (Due x0)) k = refl
blocks_step types m p f (Object (Destroys x0 x1 x2 x3)) k = refl
blocks_step types m p f (Object (Parts x0 x1 x2)) k = refl
blocks_step types m p f (Object (Each x0 x1 x2 x3 x4 x5)) k = refl
blocks_step types m p f (Statement (Items x0)) k = refl
blocks_step types m p f (Statement (Test x0)) k = refl
blocks_step types m p f (Statement (Body x0)) k = refl
blocks_step types m p f (Statement (Step x0)) k = refl
blocks_step types m p f (Statement (Picks x0)) k = refl
blocks_step types m p f (Statement (Compares x0 x1 x2 x3)) k = refl
blocks_step types m p f (Statement Switches) k = refl
blocks_step types m p f (Statement Returning) k = refl
blocks_step types m p f (Block (Opens x0 x1)) k = refl
blocks_step types m p f (Block (Within x0)) k = refl
blocks_step types m p f (Block (Closes x0)) k = refl
blocks_step types m p f (AtException (Throws x0 x1)) k = refl
blocks_step types m p f (AtException (Fills x0 x1 x2 x3)) k = refl
blocks_step types m p f (AtException (Filled x0 x1 x2 x3 x4 x5)) k = refl
blocks_step types m p f (AtException (Tries x0)) k = refl
blocks_step types m p f (AtException (Trying x0 x1 x2)) k = refl
blocks_step types m p f (AtException (Takes x0 x1 x2)) k = refl
blocks_step types m p f (AtException (Taking x0 x1 x2 x3)) k = refl
blocks_step types m p f (AtException (Handling x0)) k = refl

module _ (types : ℕ → Typ) (m : Meaning) (p : Program) (f : Func) (g : Frame) (k : List symbolic.Frame) where
  pub handled_here : (e : ExceptionId) → handling_at g ≡ Some e → handled (frame_of types m p f g ∷ k) ≡ Some (thrown_of m e)
  handled_here e h = handled_step types m p f g k ∙ ap (λ (z : Option ExceptionId). first_of m z (handled k)) h

  pub handled_below : handling_at g ≡ None → handled (frame_of types m p f g ∷ k) ≡ handled k
  handled_below h = handled_step types m p f g k ∙ ap (λ (z : Option ExceptionId). first_of m z (handled k)) h

  pub blocks_here : (block : Open) → open_at g ≡ Some block → blocks_in (frame_of types m p f g ∷ k) ≡ open_shown block ∷ blocks_in k
  blocks_here block h = blocks_step types m p f g k ∙ ap (λ (z : Option Open). with_open z (blocks_in k)) h

  pub blocks_below : open_at g ≡ None → blocks_in (frame_of types m p f g ∷ k) ≡ blocks_in k
  blocks_below h = blocks_step types m p f g k ∙ ap (λ (z : Option Open). with_open z (blocks_in k)) h
