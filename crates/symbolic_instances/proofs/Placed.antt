-- The terms in the place of variables, as what stands in the place of a form.
use Rattle.std.proofs.Common.{ℕ, ◌≡◌, refl, ap, ap₂, List, [], ◌∷◌}
use Rattle.symbolic_source.specs.Terms.{Term, number, Exception, unknown, made, Puts}
use Rattle.symbolic_source.specs.Frames.{Spot, at_word, at_tree, Waiting, Way, value, into, Exit, throws, returns, breaks, continues, Callee, known, virtual}
use Rattle.symbolic_source.specs.Frames.{pointer, builtin, Frame, Run, Address, Then, Gives, Leaves, StoreTo, Apply, Choose, UpdateOld, UpdateBy, CopyBy, From}
use Rattle.symbolic_source.specs.Frames.{Words, Object, Slot, Pointer, Passes, Full, Keeps, Scope, Waits, Cleans, Destroys, Parts, Each, Compares, Fills}
use Rattle.symbolic_source.specs.Frames.{Filled, Trying, Takes, Taking, Handling}
use Rattle.symbolic_source.specs.Replacing.{Replacing, in_term, in_exception, in_puts, in_terms, in_spot, in_waitings, in_way, in_exit, in_callee}
use Rattle.symbolic_source.specs.Replacing.{in_frame, in_frames}
use Rattle.symbolic_source.proofs.Replaced.{term_replaced, puts_replaced}
use Rattle.symbolic_instances.proofs.Forms.{Sides, InTerm, InPuts, InException, exception_in, InTerms, terms_in, InSpot, spot_in, InWaitings, waitings_in, InWay}
use Rattle.symbolic_instances.proofs.Forms.{way_in, InExit, exit_in, InCallee, callee_in, InFrame, frame_in, InFrames, frames_in}

module _ (z : Sides) where
  abbrev r : Replacing
  r = z.replacing

  pub term_kept : (t : Term) (n : ℕ) → t ≡ number n → in_term r t ≡ number n
  term_kept t n e = ap (λ i. in_term r i) e

  abbrev pub term_placed : (t : Term) → InTerm z t
  term_placed t = record { term = in_term z.replacing t; same = term_replaced z.program z.func z.replacing z.values t; fixed = term_kept t }

  abbrev pub puts_placed : (puts : Puts) → InPuts z puts
  puts_placed puts = record { bytes = in_puts z.replacing puts; same = puts_replaced z.program z.func z.replacing z.values puts }

  abbrev pub exception_placed : (e : Exception) → InException z e
  exception_placed (unknown n) = tt
  exception_placed (made t puts) = puts_placed puts

  exception_is : (e : Exception) → exception_in z e (exception_placed e) ≡ in_exception r e
  exception_is (unknown n) = refl
  exception_is (made t puts) = refl

  abbrev pub terms_placed : (ws : List Term) → InTerms z ws
  terms_placed [] = tt
  terms_placed (w ∷ ws) = (term_placed w, terms_placed ws)

  terms_are : (ws : List Term) → terms_in z ws (terms_placed ws) ≡ in_terms r ws
  terms_are [] = refl
  terms_are (w ∷ ws) = ap (λ (i : List Term). in_term r w ∷ i) (terms_are ws)

  abbrev pub spot_placed : (a : Spot) → InSpot z a
  spot_placed (at_word w) = term_placed w
  spot_placed (at_tree t) = tt

  spot_is : (a : Spot) → spot_in z a (spot_placed a) ≡ in_spot r a
  spot_is (at_word w) = refl
  spot_is (at_tree t) = refl

  abbrev pub waitings_placed : (ws : List Waiting) → InWaitings z ws
  waitings_placed [] = tt
  waitings_placed (w ∷ ws) = (spot_placed w.address, waitings_placed ws)

  pub waitings_are : (ws : List Waiting) → waitings_in z ws (waitings_placed ws) ≡ in_waitings r ws
  waitings_are [] = refl
  waitings_are (w ∷ ws) = ap₂ (λ (i : Spot) (j : List Waiting). record { address = i; destroys = w.destroys } ∷ j) (spot_is w.address) (waitings_are ws)

  abbrev pub way_placed : (way : Way) → InWay z way
  way_placed value = tt
  way_placed (into target source) = (term_placed target, term_placed source)

  way_is : (way : Way) → way_in z way (way_placed way) ≡ in_way r way
  way_is value = refl
  way_is (into target source) = refl

  abbrev pub exit_placed : (exit : Exit) → InExit z exit
  exit_placed (throws e) = exception_placed e
  exit_placed (returns w) = term_placed w
  exit_placed breaks = tt
  exit_placed continues = tt

  pub exit_is : (exit : Exit) → exit_in z exit (exit_placed exit) ≡ in_exit r exit
  exit_is (throws e) = ap throws (exception_is e)
  exit_is (returns w) = refl
  exit_is breaks = refl
  exit_is continues = refl

  abbrev pub callee_placed : (callee : Callee) → InCallee z callee
  callee_placed (known n) = tt
  callee_placed (virtual class slot address) = term_placed address
  callee_placed (pointer address sig) = term_placed address
  callee_placed (builtin which) = tt

  callee_is : (callee : Callee) → callee_in z callee (callee_placed callee) ≡ in_callee r callee
  callee_is (known n) = refl
  callee_is (virtual class slot address) = refl
  callee_is (pointer address sig) = refl
  callee_is (builtin which) = refl

  abbrev pub frame_placed : (g : Frame) → InFrame z g
  frame_placed (Run way t) = way_placed way
  frame_placed (Address w) = term_placed w
  frame_placed (Then way t) = way_placed way
  frame_placed (Gives w) = term_placed w
  frame_placed (Leaves exit) = exit_placed exit
  frame_placed (StoreTo address kind volatile answer) = (term_placed address, term_placed answer)
  frame_placed (Apply op kind a) = term_placed a
  frame_placed (Choose way chosen other) = way_placed way
  frame_placed (UpdateOld change address t) = term_placed address
  frame_placed (UpdateBy change address old) = (term_placed address, term_placed old)
  frame_placed (CopyBy target init) = term_placed target
  frame_placed (From target init) = term_placed target
  frame_placed (Words callee earlier others) = (callee_placed callee, terms_placed earlier)
  frame_placed (Object earlier class slot offset words) = terms_placed earlier
  frame_placed (Slot earlier class slot words) = terms_placed earlier
  frame_placed (Pointer earlier sig words) = terms_placed earlier
  frame_placed (Passes words places) = terms_placed words
  frame_placed (Full outer) = waitings_placed outer
  frame_placed (Keeps address destroys) = spot_placed address
  frame_placed (Scope owner always ws) = waitings_placed ws
  frame_placed (Waits owner address destroys) = spot_placed address
  frame_placed (Cleans ws) = waitings_placed ws
  frame_placed (Destroys n address stride count) = (term_placed address, term_placed count)
  frame_placed (Parts parts target source) = (term_placed target, term_placed source)
  frame_placed (Each init destroys stride count target source) = (term_placed count, term_placed target, term_placed source)
  frame_placed (Compares w label behind items) = term_placed w
  frame_placed (Fills t from fields puts) = (term_placed from, puts_placed puts)
  frame_placed (Filled t from offset kind fields puts) = (term_placed from, puts_placed puts)
  frame_placed (Trying e handler others) = exception_placed e
  frame_placed (Takes e base fields) = (exception_placed e, term_placed base)
  frame_placed (Taking e base offset kind) = (exception_placed e, term_placed base)
  frame_placed (Handling e) = exception_placed e
  frame_placed g = tt

  frame_is : (g : Frame) → frame_in z g (frame_placed g) ≡ in_frame r g
  frame_is (Run way t) = ap (λ i. Run i t) (way_is way)
  frame_is (Address w) = refl
  frame_is (Then way t) = ap (λ i. Then i t) (way_is way)
  frame_is (Gives w) = refl
  frame_is (Leaves exit) = ap (λ i. Leaves i) (exit_is exit)
  frame_is (StoreTo address kind volatile answer) = refl
  frame_is (Apply op kind a) = refl
  frame_is (Choose way chosen other) = ap (λ i. Choose i chosen other) (way_is way)
  frame_is (UpdateOld change address t) = refl
  frame_is (UpdateBy change address old) = refl
  frame_is (CopyBy target init) = refl
  frame_is (From target init) = refl
  frame_is (Words callee earlier others) = ap₂ (λ i j. Words i j others) (callee_is callee) (terms_are earlier)
  frame_is (Object earlier class slot offset words) = ap (λ i. Object i class slot offset words) (terms_are earlier)
  frame_is (Slot earlier class slot words) = ap (λ i. Slot i class slot words) (terms_are earlier)
  frame_is (Pointer earlier sig words) = ap (λ i. Pointer i sig words) (terms_are earlier)
  frame_is (Passes words places) = ap (λ i. Passes i places) (terms_are words)
  frame_is (Full outer) = ap (λ i. Full i) (waitings_are outer)
  frame_is (Keeps address destroys) = ap (λ i. Keeps i destroys) (spot_is address)
  frame_is (Scope owner always ws) = ap (λ i. Scope owner always i) (waitings_are ws)
  frame_is (Waits owner address destroys) = ap (λ i. Waits owner i destroys) (spot_is address)
  frame_is (Cleans ws) = ap (λ i. Cleans i) (waitings_are ws)
  frame_is (Destroys n address stride count) = refl
  frame_is (Parts parts target source) = refl
  frame_is (Each init destroys stride count target source) = refl
  frame_is (Compares w label behind items) = refl
  frame_is (Fills t from fields puts) = refl
  frame_is (Filled t from offset kind fields puts) = refl
  frame_is (Trying e handler others) = ap (λ i. Trying i handler others) (exception_is e)
  frame_is (Takes e base fields) = ap (λ i. Takes i (in_term r base) fields) (exception_is e)
  frame_is (Taking e base offset kind) = ap (λ i. Taking i (in_term r base) offset kind) (exception_is e)
  frame_is (Handling e) = ap (λ i. Handling i) (exception_is e)
  frame_is g = refl

  abbrev pub frames_placed : (k : List Frame) → InFrames z k
  frames_placed [] = tt
  frames_placed (g ∷ k) = (frame_placed g, frames_placed k)

  pub frames_are : (k : List Frame) → frames_in z k (frames_placed k) ≡ in_frames r k
  frames_are [] = refl
  frames_are (g ∷ k) = ap₂ (λ (i : Frame) (j : List Frame). i ∷ j) (frame_is g) (frames_are k)
