-- Terms in the place of variables.
use Rattle.std.specs.Prelude.{ℕ, ◌+◌, ◌==◌, cond, List, [], ◌∷◌}
use Rattle.src_mean.specs.Linked.{Func, Program}
use Rattle.symbolic_source.specs.Terms.{Term, number, variable, local, slot_function, sum, product, before, low_byte, converted_to, result, field, Exception}
use Rattle.symbolic_source.specs.Terms.{unknown, made, Puts, untouched, put, Values, eval, exception_of, one_less}
use Rattle.symbolic_source.specs.Frames.{Spot, at_word, at_tree, Waiting, Way, value, into, Exit, throws, returns, breaks, continues, Callee, known, virtual}
use Rattle.symbolic_source.specs.Frames.{pointer, builtin, Frame, Run, Address, Then, Gives, Leaves, StoreTo, Apply, Choose, UpdateOld, UpdateBy, CopyBy, From}
use Rattle.symbolic_source.specs.Frames.{Words, Object, Slot, Pointer, Passes, Full, Keeps, Scope, Waits, Cleans, Destroys, Parts, Each, Compares, Fills}
use Rattle.symbolic_source.specs.Frames.{Filled, Trying, Takes, Taking, Handling}
use Rattle.symbolic_source.specs.Outcomes.{Doing, reads, writes, puts_out, joins, spawns_thread, leaves_block, Outcome, stuck, goes, hands, goes_out, chooses}
use Rattle.symbolic_source.specs.Outcomes.{results, finds, calls, spawns, rethrows, halts}

-- what comes in the place of each variable
pub record Replacing : Type 0 where
  pub word : ℕ → Term
  pub exception : ℕ → Exception

-- what the variables stand for then
abbrev pub seen_by : Program → Func → Replacing → Values → Values
seen_by p f r x = record { word = λ n. eval p f x (r.word n); exception = λ n. exception_of p f x (r.exception n); base = x.base; limit = x.limit }

-- sums, products and differences with what has come in the place of variables, as they are written where it is known at once
abbrev pub joined : Term → ℕ → Term
joined (number m) n = number (m + n)
joined (local offset) n = local (offset + n)
joined (sum a (number m)) n = sum a (number (m + n))
joined a n = sum a (number n)

abbrev pub summed : Term → Term → Term
summed a (number n) = joined a n
summed a b = sum a b

abbrev pub multiplied : Term → Term → Term
multiplied (number m) b = cond (m == 0) (number 0) (product (number m) b)
multiplied a b = product a b

abbrev mutual
  pub in_term : Replacing → Term → Term
  in_term r (variable n) = r.word n
  in_term r (slot_function class slot a) = slot_function class slot (in_term r a)
  in_term r (sum a b) = summed (in_term r a) (in_term r b)
  in_term r (product a b) = multiplied (in_term r a) (in_term r b)
  in_term r (before a) = one_less (in_term r a)
  in_term r (low_byte a) = low_byte (in_term r a)
  in_term r (converted_to kind a) = converted_to kind (in_term r a)
  in_term r (result op kind a b) = result op kind (in_term r a) (in_term r b)
  in_term r (field e offset size) = field (in_exception r e) offset size
  in_term r t = t

  pub in_exception : Replacing → Exception → Exception
  in_exception r (unknown n) = r.exception n
  in_exception r (made t puts) = made t (in_puts r puts)

  pub in_puts : Replacing → Puts → Puts
  in_puts r untouched = untouched
  in_puts r (put offset size w puts) = put offset size (in_term r w) (in_puts r puts)

module _ (r : Replacing) where
  abbrev pub in_terms : List Term → List Term
  in_terms [] = []
  in_terms (w ∷ ws) = in_term r w ∷ in_terms ws

  abbrev pub in_spot : Spot → Spot
  in_spot (at_word w) = at_word (in_term r w)
  in_spot (at_tree t) = at_tree t

  abbrev pub in_waiting : Waiting → Waiting
  in_waiting w = record { address = in_spot w.address; destroys = w.destroys }

  abbrev pub in_waitings : List Waiting → List Waiting
  in_waitings [] = []
  in_waitings (w ∷ ws) = in_waiting w ∷ in_waitings ws

  abbrev pub in_way : Way → Way
  in_way value = value
  in_way (into target source) = into (in_term r target) (in_term r source)

  abbrev pub in_exit : Exit → Exit
  in_exit (throws e) = throws (in_exception r e)
  in_exit (returns w) = returns (in_term r w)
  in_exit breaks = breaks
  in_exit continues = continues

  abbrev pub in_callee : Callee → Callee
  in_callee (known n) = known n
  in_callee (virtual class slot address) = virtual class slot (in_term r address)
  in_callee (pointer address sig) = pointer (in_term r address) sig
  in_callee (builtin which) = builtin which

  abbrev pub in_frame : Frame → Frame
  in_frame (Run way t) = Run (in_way way) t
  in_frame (Address w) = Address (in_term r w)
  in_frame (Then way t) = Then (in_way way) t
  in_frame (Gives w) = Gives (in_term r w)
  in_frame (Leaves exit) = Leaves (in_exit exit)
  in_frame (StoreTo address kind volatile answer) = StoreTo (in_term r address) kind volatile (in_term r answer)
  in_frame (Apply op kind left) = Apply op kind (in_term r left)
  in_frame (Choose way chosen other) = Choose (in_way way) chosen other
  in_frame (UpdateOld change address t) = UpdateOld change (in_term r address) t
  in_frame (UpdateBy change address old) = UpdateBy change (in_term r address) (in_term r old)
  in_frame (CopyBy target init) = CopyBy (in_term r target) init
  in_frame (From target init) = From (in_term r target) init
  in_frame (Words callee earlier others) = Words (in_callee callee) (in_terms earlier) others
  in_frame (Object earlier class slot offset words) = Object (in_terms earlier) class slot offset words
  in_frame (Slot earlier class slot words) = Slot (in_terms earlier) class slot words
  in_frame (Pointer earlier sig words) = Pointer (in_terms earlier) sig words
  in_frame (Passes words places) = Passes (in_terms words) places
  in_frame (Full outer) = Full (in_waitings outer)
  in_frame (Keeps address destroys) = Keeps (in_spot address) destroys
  in_frame (Scope owner always ws) = Scope owner always (in_waitings ws)
  in_frame (Waits owner address destroys) = Waits owner (in_spot address) destroys
  in_frame (Cleans ws) = Cleans (in_waitings ws)
  in_frame (Destroys n address stride left) = Destroys n (in_term r address) stride (in_term r left)
  in_frame (Parts parts target source) = Parts parts (in_term r target) (in_term r source)
  in_frame (Each init destroys stride left target source) = Each init destroys stride (in_term r left) (in_term r target) (in_term r source)
  in_frame (Compares w label behind items) = Compares (in_term r w) label behind items
  in_frame (Fills t from fields puts) = Fills t (in_term r from) fields (in_puts r puts)
  in_frame (Filled t from offset kind fields puts) = Filled t (in_term r from) offset kind fields (in_puts r puts)
  in_frame (Trying e handler others) = Trying (in_exception r e) handler others
  in_frame (Takes e base fields) = Takes (in_exception r e) (in_term r base) fields
  in_frame (Taking e base offset kind) = Taking (in_exception r e) (in_term r base) offset kind
  in_frame (Handling e) = Handling (in_exception r e)
  in_frame g = g

  abbrev pub in_frames : List Frame → List Frame
  in_frames [] = []
  in_frames (g ∷ k) = in_frame g ∷ in_frames k

  abbrev pub in_doing : Doing → Doing
  in_doing (reads address size volatile) = reads (in_term r address) size volatile
  in_doing (writes address kind w volatile) = writes (in_term r address) kind (in_term r w) volatile
  in_doing (puts_out byte) = puts_out (in_term r byte)
  in_doing (joins id) = joins (in_term r id)
  in_doing (spawns_thread func argument) = spawns_thread func (in_term r argument)
  in_doing (leaves_block block exit) = leaves_block block (in_exit exit)
  in_doing doing = doing

  abbrev pub in_outcome : Outcome → Outcome
  in_outcome stuck = stuck
  in_outcome (goes doing ws k) = goes (in_doing doing) (in_waitings ws) (in_frames k)
  in_outcome (hands w ws) = hands (in_term r w) (in_waitings ws)
  in_outcome (goes_out exit ws) = goes_out (in_exit exit) (in_waitings ws)
  in_outcome (chooses w zero other) = chooses (in_term r w) (in_outcome zero) (in_outcome other)
  in_outcome (results op kind a b o) = results op kind (in_term r a) (in_term r b) (in_outcome o)
  in_outcome (finds class slot address o) = finds class slot (in_term r address) (in_outcome o)
  in_outcome (calls callee words ws k) = calls (in_callee callee) (in_terms words) (in_waitings ws) (in_frames k)
  in_outcome (spawns address argument ws k) = spawns (in_term r address) (in_term r argument) (in_waitings ws) (in_frames k)
  in_outcome (rethrows ws k) = rethrows (in_waitings ws) (in_frames k)
  in_outcome (halts end) = halts end
