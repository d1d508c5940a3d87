-- The frames, outcomes, places and facts that data show, at what numbers of types, of words and of exceptions mean, and at a bound program.
use Rattle.std.specs.Prelude.{ℕ, List, [], ◌∷◌, drop}
use Rattle.cpp_tree.specs.cpp_types.Typ.{Typ}
use Rattle.cpp_tree.specs.tx_events.Thread as threads
use Rattle.cpp_tree.specs.declared.program.Program.{Program}
use Rattle.cpp_tree.specs.Trees.{typ_in}
use Rattle.src_mean.specs.Linked.{Func}
use Rattle.src_mean.specs.Source.{called_signature}
use Rattle.src_bind.specs.declared.bound_program.Bound.{Bound}
use Rattle.src_bind.specs.Bounds.{given}
use Rattle.src_frames.specs.Trees.{tree_shown, kids_shown}
use Rattle.src_frames.specs.Shown.{owner_shown, change_shown, open_shown}
use Rattle.symbolic_source.specs.Frames as frames
use Rattle.symbolic_source.specs.Outcomes as outcomes
use Rattle.symbolic_code.specs.Places as code
use Rattle.symbolic_code.specs.Facts as facts
use Rattle.symbolic_terms.specs.Meanings.{Meaning, word_of, thrown_of, given_of, words_of, all_thrown}
use Rattle.symbolic_terms.specs.declared.frames.Spot.{Spot}
use Rattle.symbolic_terms.specs.declared.frames.Spot.TheVariants.{Word, Tree}
use Rattle.symbolic_terms.specs.declared.frames.Waiting.{Waiting}
use Rattle.symbolic_terms.specs.declared.frames.Waitings.{Waitings}
use Rattle.symbolic_terms.specs.declared.frames.Waitings.TheVariants.{Empty as NoneWait, More' as MoreWait}
use Rattle.symbolic_terms.specs.declared.frames.Frames.{Frames}
use Rattle.symbolic_terms.specs.declared.frames.Frames.TheVariants.{Empty as NoFrames, More' as MoreFrames}
use Rattle.symbolic_terms.specs.declared.frames.Way.{Way}
use Rattle.symbolic_terms.specs.declared.frames.Way.TheVariants.{Value as ForValue, Into}
use Rattle.symbolic_terms.specs.declared.frames.Exit.{Exit}
use Rattle.symbolic_terms.specs.declared.frames.Exit.TheVariants.{Throws as Throwing, Returns, Breaks, Continues}
use Rattle.symbolic_terms.specs.declared.frames.Callee.{Callee}
use Rattle.symbolic_terms.specs.declared.frames.Callee.TheVariants.{Known, Virtual, Pointer as ByPointer, Builtin as BuiltIn}
use Rattle.symbolic_terms.specs.declared.frames.Frame.{Frame}
use Rattle.symbolic_terms.specs.declared.frames.Frame.TheVariants.{Run, Address, Then, Gives, Leaves, Value, Call, Object, Statement, Block, Exception as AtException}
use Rattle.symbolic_terms.specs.declared.frames.ValueFrame.{ValueFrame}
use Rattle.symbolic_terms.specs.declared.frames.ValueFrame.TheVariants.{Loads, Loaded, Replied, StoreTo, Converts, Right, Apply, Choose, AssignTo, UpdateAt, UpdateOld, UpdateBy, CopyTo, CopyBy, From}
use Rattle.symbolic_terms.specs.declared.frames.CallFrame.{CallFrame}
use Rattle.symbolic_terms.specs.declared.frames.CallFrame.TheVariants.{Words, Object as ObjectOf, Slot, Pointer, Passes}
use Rattle.symbolic_terms.specs.declared.frames.ObjectFrame.{ObjectFrame}
use Rattle.symbolic_terms.specs.declared.frames.ObjectFrame.TheVariants.{Full, Keeps, Scope, Waits, InitAt, Cleans, Due, Destroys, Parts, Each}
use Rattle.symbolic_terms.specs.declared.frames.StatementFrame.{StatementFrame}
use Rattle.symbolic_terms.specs.declared.frames.StatementFrame.TheVariants.{Items, Test, Body, Step, Picks, Compares, Switches, Returning}
use Rattle.symbolic_terms.specs.declared.frames.BlockFrame.{BlockFrame}
use Rattle.symbolic_terms.specs.declared.frames.BlockFrame.TheVariants.{Opens, Within, Closes}
use Rattle.symbolic_terms.specs.declared.frames.ExceptionFrame.{ExceptionFrame}
use Rattle.symbolic_terms.specs.declared.frames.ExceptionFrame.TheVariants.{Throws, Fills, Filled, Tries, Trying, Takes, Taking, Handling}
use Rattle.symbolic_terms.specs.declared.outcomes.Doing.{Doing}
use Rattle.symbolic_terms.specs.declared.outcomes.Doing.TheVariants.{Silent, Reads, Writes, PutsOut, TakesIn, Joins, BeginsAtomic, BeginsSync, EndsBlock, LeavesBlock}
use Rattle.symbolic_terms.specs.declared.outcomes.Leading.{Leading}
use Rattle.symbolic_terms.specs.declared.outcomes.Leading.TheVariants.{Does, Calls, Spawns, Rethrows}
use Rattle.symbolic_terms.specs.declared.outcomes.Outcome.{Outcome}
use Rattle.symbolic_terms.specs.declared.outcomes.Outcome.TheVariants.{Stuck, Goes, Hands, GoesOut, Chooses', Results', Finds', Halts}
use Rattle.symbolic_terms.specs.declared.places.Hold.{Hold}
use Rattle.symbolic_terms.specs.declared.places.Hold.TheVariants.{Nothing, Making, Flying}
use Rattle.symbolic_terms.specs.declared.places.Place.{Place}
use Rattle.symbolic_terms.specs.declared.places.Opens.{Opens as OpenList}
use Rattle.symbolic_terms.specs.declared.places.Opens.TheVariants.{Empty as NoOpens, More' as MoreOpens}
use Rattle.symbolic_terms.specs.declared.places.Facts.{Facts}
use Rattle.symbolic_terms.specs.declared.places.Facts.TheVariants.{Empty as NoFacts, More' as MoreFacts}
use Rattle.symbolic_terms.specs.declared.places.Fact.{Fact}
use Rattle.symbolic_terms.specs.declared.places.Fact.TheVariants.{NotZero, HasFunction}

-- Frames

abbrev pub block_of : BlockFrame → Program → frames.Frame
block_of (Opens block t) p = frames.Opens (open_shown block) (tree_shown p t)
block_of (Within block) p = frames.Within (open_shown block)
block_of (Closes block) p = frames.Closes (open_shown block)

abbrev pub opens_of : OpenList → List threads.Open
opens_of NoOpens = []
opens_of (MoreOpens block p opens) = open_shown block ∷ opens_of opens

module _ (types : ℕ → Typ) (m : Meaning) where
  abbrev pub way_of : Way → frames.Way
  way_of ForValue = frames.value
  way_of (Into target source) = frames.into (word_of m target) (word_of m source)

  abbrev pub exit_of : Exit → frames.Exit
  exit_of (Throwing e) = frames.throws (thrown_of m e)
  exit_of (Returns w) = frames.returns (word_of m w)
  exit_of Breaks = frames.breaks
  exit_of Continues = frames.continues

  module _ (p : Program) where
    abbrev pub spot_of : Spot → frames.Spot
    spot_of (Word w) = frames.at_word (word_of m w)
    spot_of (Tree t) = frames.at_tree (tree_shown p t)

    abbrev pub waiting_of : Waiting → frames.Waiting
    waiting_of w = record { address = spot_of w.address; destroys = kids_shown p w.destroys }

    abbrev pub all_waiting : Waitings → List frames.Waiting
    all_waiting NoneWait = []
    all_waiting (MoreWait w p ws) = waiting_of w ∷ all_waiting ws

    abbrev pub callee_of : Callee → frames.Callee
    callee_of (Known n) = frames.known n
    callee_of (Virtual class slot address) = frames.virtual class slot (word_of m address)
    callee_of (ByPointer address t) = frames.pointer (word_of m address) (called_signature (typ_in (tree_shown p t)))
    callee_of (BuiltIn b) = frames.builtin b

    abbrev pub value_of : ValueFrame → frames.Frame
    value_of (Loads kind volatile) = frames.Loads kind volatile
    value_of (Loaded kind) = frames.Loaded kind
    value_of Replied = frames.Replied
    value_of (StoreTo address kind volatile answer) = frames.StoreTo (word_of m address) kind volatile (word_of m answer)
    value_of (Converts kind) = frames.Converts kind
    value_of (Right op kind t) = frames.Right op kind (tree_shown p t)
    value_of (Apply op kind left) = frames.Apply op kind (word_of m left)
    value_of (Choose way chosen other) = frames.Choose (way_of way) (tree_shown p chosen) (tree_shown p other)
    value_of (AssignTo kind volatile t) = frames.AssignTo kind volatile (tree_shown p t)
    value_of (UpdateAt c t) = frames.UpdateAt (change_shown c) (tree_shown p t)
    value_of (UpdateOld c address t) = frames.UpdateOld (change_shown c) (word_of m address) (tree_shown p t)
    value_of (UpdateBy c address old) = frames.UpdateBy (change_shown c) (word_of m address) (word_of m old)
    value_of (CopyTo source init) = frames.CopyTo (tree_shown p source) (tree_shown p init)
    value_of (CopyBy target init) = frames.CopyBy (word_of m target) (tree_shown p init)
    value_of (From target init) = frames.From (word_of m target) (tree_shown p init)

    -- where words go into the frame of the function at hand, so many have gone
    abbrev pub call_of : Func → CallFrame → frames.Frame
    call_of f (Words callee before rest) = frames.Words (callee_of callee) (words_of m before) (kids_shown p rest)
    call_of f (ObjectOf before class slot pointer rest) = frames.Object (words_of m before) class slot pointer (kids_shown p rest)
    call_of f (Slot before class slot rest) = frames.Slot (words_of m before) class slot (kids_shown p rest)
    call_of f (Pointer before t rest) = frames.Pointer (words_of m before) (called_signature (typ_in (tree_shown p t))) (kids_shown p rest)
    call_of f (Passes words from) = frames.Passes (words_of m words) (drop from f.words)

    abbrev pub object_of : ObjectFrame → frames.Frame
    object_of (Full outer) = frames.Full (all_waiting outer)
    object_of (Keeps w) = frames.Keeps (spot_of w.address) (kids_shown p w.destroys)
    object_of (Scope owner always waiting) = frames.Scope (owner_shown owner) always (all_waiting waiting)
    object_of (Waits owner w) = frames.Waits (owner_shown owner) (spot_of w.address) (kids_shown p w.destroys)
    object_of (InitAt init destroys) = frames.InitAt (tree_shown p init) (kids_shown p destroys)
    object_of (Cleans waiting) = frames.Cleans (all_waiting waiting)
    object_of (Due kids) = frames.Due (kids_shown p kids)
    object_of (Destroys number address stride left) = frames.Destroys number (word_of m address) stride (word_of m left)
    object_of (Parts kids target source) = frames.Parts (kids_shown p kids) (word_of m target) (word_of m source)
    object_of (Each init destroys stride left target source) = frames.Each (tree_shown p init) (kids_shown p destroys) stride (word_of m left) (word_of m target) (word_of m source)

    abbrev pub statement_of : StatementFrame → frames.Frame
    statement_of (Items kids) = frames.Items (kids_shown p kids)
    statement_of (Test l) = frames.Test (tree_shown p l.test) (tree_shown p l.body) (tree_shown p l.step)
    statement_of (Body l) = frames.Body (tree_shown p l.test) (tree_shown p l.body) (tree_shown p l.step)
    statement_of (Step l) = frames.Step (tree_shown p l.test) (tree_shown p l.body) (tree_shown p l.step)
    statement_of (Picks kids) = frames.Picks (kids_shown p kids)
    statement_of (Compares word label behind items) = frames.Compares (word_of m word) label (kids_shown p behind) (kids_shown p items)
    statement_of Switches = frames.Switches
    statement_of Returning = frames.Returning

    abbrev pub throwing_of : ExceptionFrame → frames.Frame
    throwing_of (Throws typ fields) = frames.Throws (types typ) (kids_shown p fields)
    throwing_of (Fills typ from fields puts) = frames.Fills (types typ) (word_of m from) (kids_shown p fields) (given_of m puts)
    throwing_of (Filled typ from offset kind fields puts) = frames.Filled (types typ) (word_of m from) offset kind (kids_shown p fields) (given_of m puts)
    throwing_of (Tries handlers) = frames.Tries (kids_shown p handlers)
    throwing_of (Trying e handler others) = frames.Trying (thrown_of m e) (tree_shown p handler) (kids_shown p others)
    throwing_of (Takes e base fields) = frames.Takes (thrown_of m e) (word_of m base) (kids_shown p fields)
    throwing_of (Taking e base offset kind) = frames.Taking (thrown_of m e) (word_of m base) offset kind
    throwing_of (Handling e) = frames.Handling (thrown_of m e)

    module _ (f : Func) where
      abbrev pub frame_of : Frame → frames.Frame
      frame_of (Run way t) = frames.Run (way_of way) (tree_shown p t)
      frame_of (Address w) = frames.Address (word_of m w)
      frame_of (Then way t) = frames.Then (way_of way) (tree_shown p t)
      frame_of (Gives w) = frames.Gives (word_of m w)
      frame_of (Leaves x) = frames.Leaves (exit_of x)
      frame_of (Value v) = value_of v
      frame_of (Call c) = call_of f c
      frame_of (Object o) = object_of o
      frame_of (Statement s) = statement_of s
      frame_of (Block b) = block_of b p
      frame_of (AtException e) = throwing_of e

      abbrev pub frames_of : Frames → List frames.Frame
      frames_of NoFrames = []
      frames_of (MoreFrames g p k) = frame_of g ∷ frames_of k

      -- Outcomes

      abbrev pub doing_of : Doing → outcomes.Doing
      doing_of Silent = outcomes.silent
      doing_of (Reads address size volatile) = outcomes.reads (word_of m address) size volatile
      doing_of (Writes address kind word volatile) = outcomes.writes (word_of m address) kind (word_of m word) volatile
      doing_of (PutsOut byte) = outcomes.puts_out (word_of m byte)
      doing_of TakesIn = outcomes.takes_in
      doing_of (Joins id) = outcomes.joins (word_of m id)
      doing_of (BeginsAtomic kind) = outcomes.begins_atomic kind
      doing_of BeginsSync = outcomes.begins_sync
      doing_of (EndsBlock block) = outcomes.ends_block (open_shown block)
      doing_of (LeavesBlock block exit) = outcomes.leaves_block (open_shown block) (exit_of exit)

      -- with this left to do
      abbrev pub leading_of : Leading → List frames.Waiting → List frames.Frame → outcomes.Outcome
      leading_of (Does doing) ws k = outcomes.goes (doing_of doing) ws k
      leading_of (Calls callee words) ws k = outcomes.calls (callee_of callee) (words_of m words) ws k
      leading_of (Spawns address argument) ws k = outcomes.spawns (word_of m address) (word_of m argument) ws k
      leading_of Rethrows ws k = outcomes.rethrows ws k

      abbrev pub outcome_of : Outcome → outcomes.Outcome
      outcome_of Stuck = outcomes.stuck
      outcome_of (Goes leading rest) = leading_of leading (all_waiting rest.temporaries) (frames_of rest.frames)
      outcome_of (Hands w temporaries) = outcomes.hands (word_of m w) (all_waiting temporaries)
      outcome_of (GoesOut exit temporaries) = outcomes.goes_out (exit_of exit) (all_waiting temporaries)
      outcome_of (Chooses' w p zero q other) = outcomes.chooses (word_of m w) (outcome_of zero) (outcome_of other)
      outcome_of (Results' op kind a b q o) = outcomes.results op kind (word_of m a) (word_of m b) (outcome_of o)
      outcome_of (Finds' class slot address q o) = outcomes.finds class slot (word_of m address) (outcome_of o)
      outcome_of (Halts end) = outcomes.halts end

  -- Places

  abbrev pub hold_of : Hold → code.Hold
  hold_of Nothing = code.nothing
  hold_of (Making typ puts) = code.making (types typ) (given_of m puts)
  hold_of (Flying e) = code.flying (thrown_of m e)

  abbrev pub place_of : Place → code.Place
  place_of q = record { operands = words_of m q.operands; opens = opens_of q.opens; caught = all_thrown m q.caught; hold = hold_of q.hold }

  -- Facts

  abbrev pub fact_of : Fact → facts.Fact
  fact_of (NotZero w) = facts.not_zero (word_of m w)
  fact_of (HasFunction class slot address) = facts.has_function class slot (word_of m address)

  abbrev pub facts_of : Facts → List facts.Fact
  facts_of NoFacts = []
  facts_of (MoreFacts k p ks) = fact_of k ∷ facts_of ks

-- the program of a bound program
abbrev pub program_in : Bound → Program
program_in b = (given b).program
