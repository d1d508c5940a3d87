-- Which state of the folded program stands for a state of the program: the same, with folded trees.
use Rattle.std.proofs.Common.{◌≡◌, ℕ, Bool, true, false, ◌||◌, refl, ap, List, [], ◌∷◌, cond}
use Rattle.std.specs.Prelude.{option_map}
use Rattle.cpp_tree.specs.Trees.{Tree, node, Trees, none, more}
use Rattle.src_mean.specs.Linked.{Func, Program}
use Rattle.src_mean.specs.Exceptions.{Exception}
use Rattle.src_mean.specs.Frames.{Waiting, Here, Exit, throws, returns, breaks, continues, Owner, same_owner, Frame, Run, Then, Right, Choose, AssignTo}
use Rattle.src_mean.specs.Frames.{UpdateAt, UpdateOld, CopyTo, CopyBy, From, Words, Object, Slot, Pointer, Called, Full, Keeps, Scope, Waits, InitAt, Cleans}
use Rattle.src_mean.specs.Frames.{Due, Parts, Each, Items, Test, Body, Step, Picks, Compares, Switches, Opens, Within, Closes, Throws, Fills, Filled, Tries}
use Rattle.src_mean.specs.Frames.{Trying, Takes, Handling, Starts, State, at, blocks_of, handled, puts, puts_some, waiting}
use Rattle.src_mean.specs.Source.{leave, leave_call, try_first, is_throw}
use Rattle.fold_events.proofs.Steady.{steady, all_steady, steady_catches, steady_catch}

abbrev pub waiting_shown : (volatile : ℕ → Bool) → Waiting → Waiting
waiting_shown volatile w = record { address = steady volatile w.address; destroys = all_steady volatile w.destroys }

abbrev pub waitings_shown : (volatile : ℕ → Bool) → List Waiting → List Waiting
waitings_shown volatile [] = []
waitings_shown volatile (w ∷ ws) = waiting_shown volatile w ∷ waitings_shown volatile ws

abbrev pub here_shown : (volatile : ℕ → Bool) → Here → Here
here_shown volatile h = record h { temporaries = waitings_shown volatile h.temporaries }

abbrev pub frame_shown : (volatile : ℕ → Bool) → Frame → Frame
frame_shown volatile (Run way t) = Run way (steady volatile t)
frame_shown volatile (Then way t) = Then way (steady volatile t)
frame_shown volatile (Right op kind t) = Right op kind (steady volatile t)
frame_shown volatile (Choose way chosen other) = Choose way (steady volatile chosen) (steady volatile other)
frame_shown volatile (AssignTo kind marked t) = AssignTo kind marked (steady volatile t)
frame_shown volatile (UpdateAt c t) = UpdateAt c (steady volatile t)
frame_shown volatile (UpdateOld c address t) = UpdateOld c address (steady volatile t)
frame_shown volatile (CopyTo source init) = CopyTo (steady volatile source) (steady volatile init)
frame_shown volatile (CopyBy target init) = CopyBy target (steady volatile init)
frame_shown volatile (From target init) = From target (steady volatile init)
frame_shown volatile (Words callee before others) = Words callee before (all_steady volatile others)
frame_shown volatile (Object before class slot offset words) = Object before class slot offset (all_steady volatile words)
frame_shown volatile (Slot before class slot words) = Slot before class slot (all_steady volatile words)
frame_shown volatile (Pointer before sig words) = Pointer before sig (all_steady volatile words)
frame_shown volatile (Called caller stops) = Called (here_shown volatile caller) stops
frame_shown volatile (Full outer) = Full (waitings_shown volatile outer)
frame_shown volatile (Keeps address destroys) = Keeps (steady volatile address) (all_steady volatile destroys)
frame_shown volatile (Scope owner always ws) = Scope owner always (waitings_shown volatile ws)
frame_shown volatile (Waits owner address destroys) = Waits owner (steady volatile address) (all_steady volatile destroys)
frame_shown volatile (InitAt init destroys) = InitAt (steady volatile init) (all_steady volatile destroys)
frame_shown volatile (Cleans ws) = Cleans (waitings_shown volatile ws)
frame_shown volatile (Due destroys) = Due (all_steady volatile destroys)
frame_shown volatile (Parts parts target source) = Parts (all_steady volatile parts) target source
frame_shown volatile (Each init destroys stride left target source) = Each (steady volatile init) (all_steady volatile destroys) stride left target source
frame_shown volatile (Items items) = Items (all_steady volatile items)
frame_shown volatile (Test test body step) = Test (steady volatile test) (steady volatile body) (steady volatile step)
frame_shown volatile (Body test body step) = Body (steady volatile test) (steady volatile body) (steady volatile step)
frame_shown volatile (Step test body step) = Step (steady volatile test) (steady volatile body) (steady volatile step)
frame_shown volatile (Picks items) = Picks (all_steady volatile items)
frame_shown volatile (Compares w label others items) = Compares w label (all_steady volatile others) (all_steady volatile items)
frame_shown volatile (Opens block body) = Opens block (steady volatile body)
frame_shown volatile (Throws t fields) = Throws t (all_steady volatile fields)
frame_shown volatile (Fills t from fields bytes) = Fills t from (all_steady volatile fields) bytes
frame_shown volatile (Filled t from offset kind fields bytes) = Filled t from offset kind (all_steady volatile fields) bytes
frame_shown volatile (Tries handlers) = Tries (steady_catches volatile handlers)
frame_shown volatile (Trying e handler others) = Trying e (steady_catch volatile handler) (steady_catches volatile others)
frame_shown volatile (Takes e base fields) = Takes e base (all_steady volatile fields)
frame_shown volatile f = f

abbrev pub frames_shown : (volatile : ℕ → Bool) → List Frame → List Frame
frames_shown volatile [] = []
frames_shown volatile (f ∷ k) = frame_shown volatile f ∷ frames_shown volatile k

abbrev pub state_shown : (volatile : ℕ → Bool) → State → State
state_shown volatile s = at s.event (here_shown volatile s.here) (frames_shown volatile s.frames)

abbrev pub func_shown : (volatile : ℕ → Bool) → Func → Func
func_shown volatile f = record f { body = steady volatile f.body }

-- the program whose bodies are folded so
abbrev pub program_shown : (volatile : ℕ → Bool) → Program → Program
program_shown volatile p = record p { func = λ number. option_map (func_shown volatile) (p.func number) }

module _ (v : ℕ → Bool) where
  pub either_shown : (b : Bool) (r s x y : State) → r ≡ state_shown v x → s ≡ state_shown v y → cond b r s ≡ state_shown v (cond b x y)
  either_shown true r s x y e f = e
  either_shown false r s x y e f = f

  -- What looks through all frames

  pub blocks_shown : (k : List Frame) → blocks_of (frames_shown v k) ≡ blocks_of k
  blocks_shown [] = refl
  blocks_shown (Within block ∷ k) = ap (λ z. block ∷ z) (blocks_shown k)
  blocks_shown (Closes block ∷ k) = ap (λ z. block ∷ z) (blocks_shown k)
  blocks_shown (f ∷ k) = blocks_shown k

  pub handled_shown : (k : List Frame) → handled (frames_shown v k) ≡ handled k
  handled_shown [] = refl
  handled_shown (Handling x ∷ k) = refl
  handled_shown (f ∷ k) = handled_shown k

  put_shown : (b : Bool) (o : Owner) (always : Bool) (w : Waiting) (ws : List Waiting) (k l m : List Frame) → l ≡ frames_shown v m
      → cond b (Scope o always (waiting_shown v w ∷ waitings_shown v ws) ∷ frames_shown v k) (Scope o always (waitings_shown v ws) ∷ l)
      ≡ frames_shown v (cond b (Scope o always (w ∷ ws) ∷ k) (Scope o always ws ∷ m))
  put_shown true o always w ws k l m e = refl
  put_shown false o always w ws k l m e = ap (λ z. Scope o always (waitings_shown v ws) ∷ z) e

  puts_shown : (owner : Owner) (w : Waiting) (k : List Frame) → puts owner (waiting_shown v w) (frames_shown v k) ≡ frames_shown v (puts owner w k)
  puts_shown owner w [] = refl
  puts_shown owner w (Scope o always ws ∷ k) = put_shown (same_owner owner o) o always w ws k _ _ (puts_shown owner w k)
  puts_shown owner w (f ∷ k) = ap (λ z. frame_shown v f ∷ z) (puts_shown owner w k)

  pub puts_some_shown : (owner : Owner) (address : Tree) (destroys : Trees) (k : List Frame)
      → puts_some owner (steady v address) (all_steady v destroys) (frames_shown v k) ≡ frames_shown v (puts_some owner address destroys k)
  puts_some_shown owner address none k = refl
  puts_some_shown owner address (more d ds) k = puts_shown owner (record { address = address; destroys = more d ds }) k

  pub waiting_kept : (address : Tree) (destroys : Trees) (ws : List Waiting)
      → waiting (steady v address) (all_steady v destroys) (waitings_shown v ws) ≡ waitings_shown v (waiting address destroys ws)
  waiting_kept address none ws = refl
  waiting_kept address (more d ds) ws = refl

  -- Leaving

  leave_call_shown : (x : Exit) (h caller : Here) (stops : Bool) (k : List Frame)
      → leave_call x (here_shown v h) (here_shown v caller) stops (frames_shown v k) ≡ state_shown v (leave_call x h caller stops k)
  leave_call_shown (throws e) h caller true k = refl
  leave_call_shown (throws e) h caller false k = refl
  leave_call_shown (returns w) h caller stops k = refl
  leave_call_shown breaks h caller stops k = refl
  leave_call_shown continues h caller stops k = refl

  try_first_shown : (h : Here) (e : Exception) (handlers : Trees) (s r : State) (k : List Frame) → r ≡ state_shown v s
      → try_first (here_shown v h) e (steady_catches v handlers) r (frames_shown v k) ≡ state_shown v (try_first h e handlers s k)
  try_first_shown h e none s r k i = i
  try_first_shown h e (more (node kind t cat place kids) others) s r k i = refl

  pub leave_shown : (h : Here) (x : Exit) (k : List Frame) → leave (here_shown v h) x (frames_shown v k) ≡ state_shown v (leave h x k)
  leave_shown h x [] = refl
  leave_shown h x (Scope owner always ws ∷ k) = either_shown (always || is_throw x) _ _ _ _ refl (leave_shown h x k)
  leave_shown h x (Full outer ∷ k) = refl
  leave_shown h x (Within block ∷ k) = refl
  leave_shown h x (Called caller stops ∷ k) = leave_call_shown x h caller stops k
  leave_shown h (throws e) (Tries handlers ∷ k) = try_first_shown h e handlers _ _ k (leave_shown h (throws e) k)
  leave_shown h breaks (Body test body step ∷ k) = refl
  leave_shown h continues (Body test body step ∷ k) = refl
  leave_shown h breaks (Switches ∷ k) = refl
  leave_shown h x (Starts main ∷ k) = refl
  leave_shown h x (f ∷ k) = leave_shown h x k
