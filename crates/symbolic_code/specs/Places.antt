-- A frame of code with terms as operands.
use Rattle.std.specs.Prelude.{ℕ, zero, suc, List, [], ◌∷◌}
use Rattle.tx_events.specs.declared.Reply.{Reply}
use Rattle.tx_events.specs.Thread.{Open}
use Rattle.tx_code.specs.Meaning.{Frame, Home, Free, Building, Flying}
use Rattle.tx_code.specs.Meaning as code
use Rattle.cpp_tree.specs.cpp_types.Typ.{Typ}
use Rattle.src_mean.specs.Linked.{Func, Program}
use Rattle.src_mean.specs.Exceptions as exceptions
use Rattle.src_mean.specs.Source.{reply_word}
use Rattle.symbolic_source.specs.Terms.{Term, variable, Exception, unknown, made, Puts, Values, exception_of}
use Rattle.symbolic_source.specs.Frames.{words_of}
use Rattle.symbolic_source.specs.Replacing.{Replacing, in_exception, in_puts, in_terms}

-- a frame's exception: none, one that is made, or one in flight
pub data Hold : Type 0 where
  nothing : Hold
  making : Typ → Puts → Hold
  flying : Exception → Hold

-- operands, the top first; open blocks and exceptions of entered handlers, the innermost first; and the frame's exception
pub record Place : Type 0 where
  pub operands : List Term
  pub opens : List Open
  pub caught : List Exception
  pub hold : Hold

-- an exception of the source as one of code, where types have these numbers
abbrev pub coded : (Typ → ℕ) → exceptions.Exception → code.Exception
coded numbers e = record { ty = numbers e.typ; bytes = e.bytes }

module _ (p : Program) (f : Func) (numbers : Typ → ℕ) (x : Values) where
  abbrev pub all_coded : List Exception → List code.Exception
  all_coded [] = []
  all_coded (e ∷ es) = coded numbers (exception_of p f x e) ∷ all_coded es

  abbrev pub hold_of : Hold → code.Held
  hold_of nothing = Free
  hold_of (making t puts) = Building (coded numbers (exception_of p f x (made t puts)))
  hold_of (flying e) = Flying (coded numbers (exception_of p f x e))

  abbrev pub nest_of : Place → code.Nest
  nest_of q = record { opens = q.opens; caught = all_coded q.caught; held = hold_of q.hold }

  -- the frame at this index
  abbrev pub frame_at : Home → ℕ → Place → Frame
  frame_at home index q = record { home = home; nest = nest_of q; index = index; words = words_of p f x q.operands }

-- after a reply: its word is variable 0, and each other variable has the next number
abbrev pub word_after : ℕ → (ℕ → ℕ) → ℕ → ℕ
word_after w words zero = w
word_after w words (suc n) = words n

abbrev pub replied : Values → Reply → Values
replied x reply = record { word = word_after (reply_word reply) x.word; exception = x.exception; base = x.base; limit = x.limit }

abbrev pub later : Replacing
later = record { word = λ n. variable (suc n); exception = λ n. unknown n }

abbrev pub all_later : List Exception → List Exception
all_later [] = []
all_later (e ∷ es) = in_exception later e ∷ all_later es

abbrev pub hold_later : Hold → Hold
hold_later nothing = nothing
hold_later (making t puts) = making t (in_puts later puts)
hold_later (flying e) = flying (in_exception later e)

-- the place with these operands
abbrev pub with_operands : Place → List Term → Place
with_operands q ws = record { operands = ws; opens = q.opens; caught = q.caught; hold = q.hold }

-- the place with this exception
abbrev pub holding : Place → Hold → Place
holding q h = record { operands = q.operands; opens = q.opens; caught = q.caught; hold = h }

-- after a reply, with these operands
abbrev pub place_later : Place → List Term → Place
place_later q ws = record { operands = ws; opens = q.opens; caught = all_later q.caught; hold = hold_later q.hold }

-- and with these open blocks
abbrev pub opened_later : Place → List Open → Place
opened_later q opens = record { operands = in_terms later q.operands; opens = opens; caught = all_later q.caught; hold = hold_later q.hold }
