-- What a step does.
use Rattle.std.specs.Prelude.{◌≡◌, Bool, true, ℕ, ◌+◌, pos, List, ◌∷◌, drop, take, reverse, length, Option, Some, None, ◌&&◌, nat_le, nat_lt}
use Rattle.tx_ints.specs.Integers.{convert_of}
use Rattle.tx_ints.specs.Words.{word_of}
use Rattle.tx_events.specs.declared.Reply.{Reply}
use Rattle.tx_code.specs.Meaning as meaning
use Rattle.tx_code.specs.Meaning.{State, Runs, Unwinds, Act, at, nested, opening, closing, holding, handled, catching, cut, first_frame, loaded, answered}
use Rattle.vm_frames.specs.Stacks.{put, swapped}
use Rattle.vm_frames.specs.Frames.{exception_of, held_of, open_of, returned, left}
use Rattle.vm_frames.specs.declared.step.Given.{Given}
use Rattle.vm_frames.specs.declared.step.Given.TheVariants.{Nothing, Word, Loaded, Answered}
use Rattle.vm_frames.specs.declared.step.Change.{Change}
use Rattle.vm_frames.specs.declared.step.Change.TheVariants.{Operate, Exchange, Call, CallIndirect, Return, Open, Close, Hold, EndHandler, Fly, Clean, Handle}
use Rattle.vm_frames.specs.declared.step.Change.TheVariants.{Cross, Leave}
use Rattle.vm_frames.specs.declared.step.Step.{Step}
use Rattle.vm_frames.specs.declared.step.Step.TheVariants.{Does, Ends, Lost}

abbrev pub given_word : Given → Reply → Option ℕ
given_word Nothing r = None
given_word (Word w) r = Some w
given_word (Loaded kind) r = Some (word_of (convert_of kind (pos (loaded r))))
given_word Answered r = Some (word_of (answered r))

-- the frames after a change
abbrev pub changed : Change → Reply → meaning.Frame → List meaning.Frame → State
changed (Operate taken given index) r f rest = Runs (at f index (put (given_word given r) (drop taken f.words))) rest
changed (Exchange index) r f rest = Runs (at f index (swapped f.words)) rest
changed (Call c) r f rest = Runs (first_frame (record { thread = f.home.thread; func = c.func; safe = c.safe; base = c.address })
    (reverse (take c.words f.words))) (at f f.index (drop c.words f.words) ∷ rest)
changed (CallIndirect c) r f rest = Runs (first_frame (record { thread = f.home.thread; func = c.func; safe = c.safe; base = c.address })
    (reverse (take c.words f.words))) (at f f.index (drop (c.words + 1) f.words) ∷ rest)
changed (Return given) r f rest = returned given f rest
changed (Open block index) r f rest = Runs (nested f (opening f.nest (open_of block)) index f.words) rest
changed (Close index) r f rest = Runs (nested f (closing f.nest) index f.words) rest
changed (Hold taken held index) r f rest = Runs (nested f (holding f.nest (held_of held)) index (drop taken f.words)) rest
changed (EndHandler index) r f rest = Runs (nested f (handled f.nest) index f.words) rest
changed (Fly e) r f rest = Unwinds (exception_of e) (nested f (holding f.nest meaning.Free) f.index f.words) rest
changed (Clean l) r f rest = Runs (nested f (holding f.nest (meaning.Flying (exception_of l.exception))) l.target (cut l.depth f.words)) rest
changed (Handle l) r f rest = Runs (nested f (catching f.nest (exception_of l.exception)) l.target (cut l.depth f.words)) rest
changed (Cross l) r f rest = Runs (nested f (holding (closing f.nest) (meaning.Flying (exception_of l.exception))) l.target (cut l.depth f.words)) rest
changed (Leave e) r f rest = left (exception_of e) f rest

-- a call finds its operands, and there is an index behind it
abbrev pub fits : Change → meaning.Frame → Bool
fits (Call c) f = nat_le c.words (length f.words) && nat_lt f.index 18446744073709551615
fits (CallIndirect c) f = nat_lt c.words (length f.words) && nat_lt f.index 18446744073709551615
fits change f = true

abbrev pub step_fits : Step → meaning.Frame → Bool
step_fits (Does event change) f = fits change f
step_fits (Ends event) f = true
step_fits Lost f = true

-- a step as the meaning of code has it
abbrev pub act_of : Step → meaning.Frame → List meaning.Frame → Act
act_of (Does event change) f rest = meaning.Does event (λ r. changed change r f rest)
act_of (Ends event) f rest = meaning.Ends event
act_of Lost f rest = meaning.Lost

-- a step is what the meaning of code says
pub record Means (step : Step) (act : Act) (f : meaning.Frame) (rest : List meaning.Frame) : Type 0 where
  pub is : act_of step f rest ≡ act
  pub fits : step_fits step f ≡ true
