-- What can stand in the place of a form, so that it shows what the form shows once the variables stand for what is put there: another
-- term for each of its terms, of the same value, and the same number for a number.
use Rattle.std.proofs.Common.{ℕ, ◌≡◌, ◌+◌, refl, ap, ap₂, ◌∙◌, List, [], ◌∷◌}
use Rattle.cpp_tree.specs.Trees.{literal}
use Rattle.src_mean.specs.Linked.{Func, Program}
use Rattle.src_mean.specs.Frames as frames
use Rattle.symbolic_source.specs.Terms.{Term, number, Exception, unknown, made, Puts, Values, number_found, eval, exception_of, bytes_put}
use Rattle.symbolic_source.specs.Frames.{Spot, at_word, at_tree, Waiting, Way, value, into, Exit, throws, returns, breaks, continues, Callee, known, virtual}
use Rattle.symbolic_source.specs.Frames.{pointer, builtin, Frame, Run, Address, Then, Gives, Leaves, StoreTo, Apply, Choose, UpdateOld, UpdateBy, CopyBy, From}
use Rattle.symbolic_source.specs.Frames.{Words, Object, Slot, Pointer, Passes, Full, Keeps, Scope, Waits, Cleans, Destroys, Parts, Each, Compares, Fills}
use Rattle.symbolic_source.specs.Frames.{Filled, Trying, Takes, Taking, Handling, spot_of, waitings_of, words_of, way_of, exit_of, callee_of, frame_of, below}
use Rattle.symbolic_source.specs.Frames.{here_of}
use Rattle.symbolic_source.specs.Steps.{Answers}
use Rattle.symbolic_source.specs.Small.{AreWords}
use Rattle.symbolic_source.specs.Replacing.{Replacing, seen_by}
use Rattle.symbolic_instances.specs.Instances.{IsKept}

-- what is put in the place of variables, what the variables stand for, and the answers on unknown exceptions with it and without
pub record Sides : Type 0 where
  pub program : Program
  pub func : Func
  pub replacing : Replacing
  pub values : Values
  pub bounded : AreWords values
  pub answers : Answers
  pub others : Answers
  pub kept : IsKept program func replacing answers others
  pub callers : List frames.Frame

module _ (z : Sides) where
  -- what the variables stand for where the terms are seen
  abbrev pub seen : Values
  seen = seen_by z.program z.func z.replacing z.values

  abbrev pub word : Term → ℕ
  word t = eval z.program z.func z.values t

  abbrev pub seen_word : Term → ℕ
  seen_word t = eval z.program z.func seen t

  -- Words and exceptions

  pub record InTerm (t : Term) : Type 0 where
    pub term : Term
    pub same : word term ≡ seen_word t
    pub fixed : (n : ℕ) → t ≡ number n → term ≡ number n

  pub record InPuts (puts : Puts) : Type 0 where
    pub bytes : Puts
    pub same : bytes_put z.program z.func z.values bytes ≡ bytes_put z.program z.func seen puts

  abbrev pub InException : Exception → Type 0
  InException (unknown n) = Unit {0}
  InException (made t puts) = InPuts puts

  abbrev pub exception_in : (e : Exception) → InException e → Exception
  exception_in (unknown n) d = z.replacing.exception n
  exception_in (made t puts) d = made t d.bytes

  pub exception_same : (e : Exception) (d : InException e)
      → exception_of z.program z.func z.values (exception_in e d) ≡ exception_of z.program z.func seen e
  exception_same (unknown n) d = refl
  exception_same (made t puts) d = ap (λ (b : List ℕ). record { typ = t; bytes = b }) d.same

  abbrev pub InTerms : List Term → Type 0
  InTerms [] = Unit {0}
  InTerms (w ∷ ws) = InTerm w × InTerms ws

  abbrev pub terms_in : (ws : List Term) → InTerms ws → List Term
  terms_in [] d = []
  terms_in (w ∷ ws) d = d.0.term ∷ terms_in ws d.1

  pub terms_same : (ws : List Term) (d : InTerms ws) → words_of z.program z.func z.values (terms_in ws d) ≡ words_of z.program z.func seen ws
  terms_same [] d = refl
  terms_same (w ∷ ws) d = ap₂ (λ (u : ℕ) (v : List ℕ). u ∷ v) d.0.same (terms_same ws d.1)

  -- What waits

  abbrev pub InSpot : Spot → Type 0
  InSpot (at_word w) = InTerm w
  InSpot (at_tree t) = Unit {0}

  abbrev pub spot_in : (a : Spot) → InSpot a → Spot
  spot_in (at_word w) d = at_word d.term
  spot_in (at_tree t) d = at_tree t

  pub spot_same : (a : Spot) (d : InSpot a) → spot_of z.program z.func z.values (spot_in a d) ≡ spot_of z.program z.func seen a
  spot_same (at_word w) d = ap literal d.same
  spot_same (at_tree t) d = refl

  abbrev pub InWaiting : Waiting → Type 0
  InWaiting w = InSpot w.address

  abbrev pub waiting_in : (w : Waiting) → InWaiting w → Waiting
  waiting_in w d = record { address = spot_in w.address d; destroys = w.destroys }

  abbrev pub InWaitings : List Waiting → Type 0
  InWaitings [] = Unit {0}
  InWaitings (w ∷ ws) = InWaiting w × InWaitings ws

  abbrev pub waitings_in : (ws : List Waiting) → InWaitings ws → List Waiting
  waitings_in [] d = []
  waitings_in (w ∷ ws) d = waiting_in w d.0 ∷ waitings_in ws d.1

  pub waitings_same : (ws : List Waiting) (d : InWaitings ws)
      → waitings_of z.program z.func z.values (waitings_in ws d) ≡ waitings_of z.program z.func seen ws
  waitings_same [] d = refl
  waitings_same (w ∷ ws) d = ap₂ (λ (u : _) (v : List frames.Waiting). record { address = u; destroys = w.destroys } ∷ v) (spot_same w.address d.0)
      (waitings_same ws d.1)

  pub here_same : (ws : List Waiting) (d : InWaitings ws)
      → here_of z.program z.func z.values (waitings_in ws d) ≡ here_of z.program z.func seen ws
  here_same ws d = ap (λ (t : List frames.Waiting).
      record { frame = z.values.base; end = z.values.base + z.func.size; limit = z.values.limit; unit = z.func.unit; places = z.func.places; temporaries = t })
      (waitings_same ws d)

  -- Ways and calls

  abbrev pub InWay : Way → Type 0
  InWay value = Unit {0}
  InWay (into target source) = InTerm target × InTerm source

  abbrev pub way_in : (way : Way) → InWay way → Way
  way_in value d = value
  way_in (into target source) d = into d.0.term d.1.term

  way_same : (way : Way) (d : InWay way) → way_of z.program z.func z.values (way_in way d) ≡ way_of z.program z.func seen way
  way_same value d = refl
  way_same (into target source) d = ap₂ frames.into d.0.same d.1.same

  abbrev pub InExit : Exit → Type 0
  InExit (throws e) = InException e
  InExit (returns w) = InTerm w
  InExit breaks = Unit {0}
  InExit continues = Unit {0}

  abbrev pub exit_in : (exit : Exit) → InExit exit → Exit
  exit_in (throws e) d = throws (exception_in e d)
  exit_in (returns w) d = returns d.term
  exit_in breaks d = breaks
  exit_in continues d = continues

  pub exit_same : (exit : Exit) (d : InExit exit) → exit_of z.program z.func z.values (exit_in exit d) ≡ exit_of z.program z.func seen exit
  exit_same (throws e) d = ap frames.throws (exception_same e d)
  exit_same (returns w) d = ap frames.returns d.same
  exit_same breaks d = refl
  exit_same continues d = refl

  abbrev pub InCallee : Callee → Type 0
  InCallee (known n) = Unit {0}
  InCallee (virtual class slot address) = InTerm address
  InCallee (pointer address sig) = InTerm address
  InCallee (builtin which) = Unit {0}

  abbrev pub callee_in : (callee : Callee) → InCallee callee → Callee
  callee_in (known n) d = known n
  callee_in (virtual class slot address) d = virtual class slot d.term
  callee_in (pointer address sig) d = pointer d.term sig
  callee_in (builtin which) d = builtin which

  pub callee_same : (callee : Callee) (d : InCallee callee)
      → callee_of z.program z.func z.values (callee_in callee d) ≡ callee_of z.program z.func seen callee
  callee_same (known n) d = refl
  callee_same (virtual class slot address) d = ap (λ i. frames.virtual (number_found (z.program.slot i class slot))) d.same
  callee_same (pointer address sig) d = ap (λ i. frames.pointer i sig) d.same
  callee_same (builtin which) d = refl

  -- Frames

  abbrev pub InFrame : Frame → Type 0
  InFrame (Run way t) = InWay way
  InFrame (Address w) = InTerm w
  InFrame (Then way t) = InWay way
  InFrame (Gives w) = InTerm w
  InFrame (Leaves exit) = InExit exit
  InFrame (StoreTo address kind volatile answer) = InTerm address × InTerm answer
  InFrame (Apply op kind a) = InTerm a
  InFrame (Choose way chosen other) = InWay way
  InFrame (UpdateOld change address t) = InTerm address
  InFrame (UpdateBy change address old) = InTerm address × InTerm old
  InFrame (CopyBy target init) = InTerm target
  InFrame (From target init) = InTerm target
  InFrame (Words callee earlier others) = InCallee callee × InTerms earlier
  InFrame (Object earlier class slot offset words) = InTerms earlier
  InFrame (Slot earlier class slot words) = InTerms earlier
  InFrame (Pointer earlier sig words) = InTerms earlier
  InFrame (Passes words places) = InTerms words
  InFrame (Full outer) = InWaitings outer
  InFrame (Keeps address destroys) = InSpot address
  InFrame (Scope owner always ws) = InWaitings ws
  InFrame (Waits owner address destroys) = InSpot address
  InFrame (Cleans ws) = InWaitings ws
  InFrame (Destroys n address stride count) = InTerm address × InTerm count
  InFrame (Parts parts target source) = InTerm target × InTerm source
  InFrame (Each init destroys stride count target source) = InTerm count × InTerm target × InTerm source
  InFrame (Compares w label behind items) = InTerm w
  InFrame (Fills t from fields puts) = InTerm from × InPuts puts
  InFrame (Filled t from offset kind fields puts) = InTerm from × InPuts puts
  InFrame (Trying e handler others) = InException e
  InFrame (Takes e base fields) = InException e × InTerm base
  InFrame (Taking e base offset kind) = InException e × InTerm base
  InFrame (Handling e) = InException e
  InFrame g = Unit {0}

  abbrev pub frame_in : (g : Frame) → InFrame g → Frame
  frame_in (Run way t) d = Run (way_in way d) t
  frame_in (Address w) d = Address d.term
  frame_in (Then way t) d = Then (way_in way d) t
  frame_in (Gives w) d = Gives d.term
  frame_in (Leaves exit) d = Leaves (exit_in exit d)
  frame_in (StoreTo address kind volatile answer) d = StoreTo d.0.term kind volatile d.1.term
  frame_in (Apply op kind a) d = Apply op kind d.term
  frame_in (Choose way chosen other) d = Choose (way_in way d) chosen other
  frame_in (UpdateOld change address t) d = UpdateOld change d.term t
  frame_in (UpdateBy change address old) d = UpdateBy change d.0.term d.1.term
  frame_in (CopyBy target init) d = CopyBy d.term init
  frame_in (From target init) d = From d.term init
  frame_in (Words callee earlier others) d = Words (callee_in callee d.0) (terms_in earlier d.1) others
  frame_in (Object earlier class slot offset words) d = Object (terms_in earlier d) class slot offset words
  frame_in (Slot earlier class slot words) d = Slot (terms_in earlier d) class slot words
  frame_in (Pointer earlier sig words) d = Pointer (terms_in earlier d) sig words
  frame_in (Passes words places) d = Passes (terms_in words d) places
  frame_in (Full outer) d = Full (waitings_in outer d)
  frame_in (Keeps address destroys) d = Keeps (spot_in address d) destroys
  frame_in (Scope owner always ws) d = Scope owner always (waitings_in ws d)
  frame_in (Waits owner address destroys) d = Waits owner (spot_in address d) destroys
  frame_in (Cleans ws) d = Cleans (waitings_in ws d)
  frame_in (Destroys n address stride count) d = Destroys n d.0.term stride d.1.term
  frame_in (Parts parts target source) d = Parts parts d.0.term d.1.term
  frame_in (Each init destroys stride count target source) d = Each init destroys stride d.0.term d.1.term d.2.term
  frame_in (Compares w label behind items) d = Compares d.term label behind items
  frame_in (Fills t from fields puts) d = Fills t d.0.term fields d.1.bytes
  frame_in (Filled t from offset kind fields puts) d = Filled t d.0.term offset kind fields d.1.bytes
  frame_in (Trying e handler others) d = Trying (exception_in e d) handler others
  frame_in (Takes e base fields) d = Takes (exception_in e d.0) d.1.term fields
  frame_in (Taking e base offset kind) d = Taking (exception_in e d.0) d.1.term offset kind
  frame_in (Handling e) d = Handling (exception_in e d)
  frame_in g d = g

  frame_same : (g : Frame) (d : InFrame g) → frame_of z.program z.func z.values (frame_in g d) ≡ frame_of z.program z.func seen g
  frame_same (Run way t) d = ap (λ i. frames.Run i t) (way_same way d)
  frame_same (Address w) d = ap (λ i. frames.Run frames.value (literal i)) d.same
  frame_same (Then way t) d = ap (λ i. frames.Then i t) (way_same way d)
  frame_same (Gives w) d = ap frames.Gives d.same
  frame_same (Leaves exit) d = ap frames.Leaves (exit_same exit d)
  frame_same (StoreTo address kind volatile answer) d = ap₂ (λ u v. frames.StoreTo u kind volatile v) d.0.same d.1.same
  frame_same (Apply op kind a) d = ap (λ i. frames.Apply op kind i) d.same
  frame_same (Choose way chosen other) d = ap (λ i. frames.Choose i chosen other) (way_same way d)
  frame_same (UpdateOld change address t) d = ap (λ i. frames.UpdateOld change i t) d.same
  frame_same (UpdateBy change address old) d = ap₂ (λ u v. frames.UpdateBy change u v) d.0.same d.1.same
  frame_same (CopyBy target init) d = ap (λ i. frames.CopyBy i init) d.same
  frame_same (From target init) d = ap (λ i. frames.From i init) d.same
  frame_same (Words callee earlier others) d = ap₂ (λ u v. frames.Words u v others) (callee_same callee d.0) (terms_same earlier d.1)
  frame_same (Object earlier class slot offset words) d = ap (λ i. frames.Object i class slot offset words) (terms_same earlier d)
  frame_same (Slot earlier class slot words) d = ap (λ i. frames.Slot i class slot words) (terms_same earlier d)
  frame_same (Pointer earlier sig words) d = ap (λ i. frames.Pointer i sig words) (terms_same earlier d)
  frame_same (Passes words places) d = ap (λ i. frames.Passes i places) (terms_same words d)
  frame_same (Full outer) d = ap frames.Full (waitings_same outer d)
  frame_same (Keeps address destroys) d = ap (λ i. frames.Keeps i destroys) (spot_same address d)
  frame_same (Scope owner always ws) d = ap (λ i. frames.Scope owner always i) (waitings_same ws d)
  frame_same (Waits owner address destroys) d = ap (λ i. frames.Waits owner i destroys) (spot_same address d)
  frame_same (Cleans ws) d = ap frames.Cleans (waitings_same ws d)
  frame_same (Destroys n address stride count) d = ap₂ (λ u v. frames.Destroys n u stride v) d.0.same d.1.same
  frame_same (Parts parts target source) d = ap₂ (λ u v. frames.Parts parts u v) d.0.same d.1.same
  frame_same (Each init destroys stride count target source) d =
      ap (λ i. frames.Each init destroys stride i (word d.1.term) (word d.2.term)) d.0.same
      ∙ ap₂ (λ u v. frames.Each init destroys stride (seen_word count) u v) d.1.same d.2.same
  frame_same (Compares w label behind items) d = ap (λ i. frames.Compares i label behind items) d.same
  frame_same (Fills t from fields puts) d = ap₂ (λ u v. frames.Fills t u fields v) d.0.same d.1.same
  frame_same (Filled t from offset kind fields puts) d = ap₂ (λ u v. frames.Filled t u offset kind fields v) d.0.same d.1.same
  frame_same (Trying e handler others) d = ap (λ i. frames.Trying i handler others) (exception_same e d)
  frame_same (Takes e base fields) d = ap₂ (λ u v. frames.Takes u v fields) (exception_same e d.0) d.1.same
  frame_same (Taking e base offset kind) d = ap₂ (λ u v. frames.Taking u v offset kind) (exception_same e d.0) d.1.same
  frame_same (Handling e) d = ap frames.Handling (exception_same e d)
  frame_same g d = refl

  abbrev pub InFrames : List Frame → Type 0
  InFrames [] = Unit {0}
  InFrames (g ∷ k) = InFrame g × InFrames k

  abbrev pub frames_in : (k : List Frame) → InFrames k → List Frame
  frames_in [] d = []
  frames_in (g ∷ k) d = frame_in g d.0 ∷ frames_in k d.1

  pub frames_same : (k : List Frame) (d : InFrames k) → below z.program z.func z.values (frames_in k d) z.callers ≡ below z.program z.func seen k z.callers
  frames_same [] d = refl
  frames_same (g ∷ k) d = ap₂ (λ u v. u ∷ v) (frame_same g d.0) (frames_same k d.1)
