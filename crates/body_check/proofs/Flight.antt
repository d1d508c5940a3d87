-- An exception in flight goes along in both threads, inside a function.
use Rattle.std.proofs.Common.{ℕ, zero, suc, ◌≡◌, ◌+◌, ◌-◌, ◌≤◌, ◌⊎◌, inl, inr, refl, ap, sym, ◌∙◌, subst, List, [], ◌∷◌, Option, Some, None, arith, true, Bool}
use Rattle.std.specs.Prelude.{length, drop}
use Rattle.tx_events.specs.declared.BlockKind.{BlockKind}
use Rattle.tx_events.specs.declared.BlockKind.TheVariants.{NoExcept, Commit, Cancel}
use Rattle.tx_events.specs.declared.Event.{Event}
use Rattle.tx_events.specs.declared.Event.TheVariants.{Raise, EndSync}
use Rattle.tx_events.specs.declared.Reply.{Reply}
use Rattle.tx_events.specs.Thread.{Open, Atomic, Sync, rest_of}
use Rattle.tx_events.specs.Simulation.{Path, here}
use Rattle.lockstep.specs.Moves.{Move, leads}
use Rattle.tx_code.specs.declared.body.Row.{Row}
use Rattle.tx_code.specs.Meaning.{Names, Home, Frame, Runs, Unwinds, Flying, Act, Does, find, cut, row_act, leave_act, unwind_act, rows_in, step_act, thread}
use Rattle.tx_code.specs.Meaning as code
use Rattle.cpp_tree.specs.cpp_types.Typ.{Typ}
use Rattle.src_mean.specs.Linked.{Func, Program}
use Rattle.src_mean.specs.Exceptions.{catches, cancels}
use Rattle.src_mean.specs.Exceptions as exceptions
use Rattle.src_mean.specs.Frames.{State}
use Rattle.src_mean.specs.Frames as frames
use Rattle.src_mean.specs.Source.{source}
use Rattle.cpp_tree.specs.Trees.{typ_in}
use Rattle.symbolic_source.specs.Terms.{Term, Exception, unknown, made, Values, exception_of}
use Rattle.symbolic_source.specs.Frames.{throws, words_of}
use Rattle.symbolic_source.specs.Outcomes.{leaves_block, Outcome, Shows, event_of}
use Rattle.symbolic_source.specs.Steps.{Answers}
use Rattle.symbolic_source.specs.Small.{IsSmall, AreWords, AreRight, is_stuck}
use Rattle.symbolic_source.specs.Replacing.{in_terms}
use Rattle.symbolic_source.proofs.Advance.{advance}
use Rattle.std.specs.Option.{option_map}
use Rattle.symbolic_code.specs.Facts.{Fact, AllHold}
use Rattle.symbolic_code.specs.Places.{Place, flying, coded, frame_at, later, holding, opened_later}
use Rattle.symbolic_code.proofs.Later.{words_later, frame_later}
use Rattle.body_check.specs.Notes.{Bounds, catching, cut_to, IsOf, Answering, Reaches, Edges, Outward, RowFits, FoundFits, TypeFits, Flies}
use Rattle.body_check.specs.Linked.{Held, Based, Stands, Stopped}
use Rattle.body_check.proofs.Landing.{landed, strode, event_meets}

-- operands cut to a depth
module _ (p : Program) (f : Func) (x : Values) where
  words_dropped : (n : ℕ) (ws : List Term) → drop n (words_of p f x ws) ≡ words_of p f x (drop n ws)
  words_dropped zero ws = refl
  words_dropped (suc n) [] = refl
  words_dropped (suc n) (w ∷ ws) = words_dropped n ws

  words_length : (ws : List Term) → length (words_of p f x ws) ≡ length ws
  words_length [] = refl
  words_length (w ∷ ws) = ap suc (words_length ws)

  pub cut_is : (d : ℕ) (ws : List Term) → cut d (words_of p f x ws) ≡ words_of p f x (drop (length ws - d) ws)
  cut_is d ws = ap (λ n. drop (n - d) (words_of p f x ws)) (words_length ws) ∙ words_dropped (length ws - d) ws

-- the type of an exception is one that it can be of
pub own_type : (p : Program) (f : Func) (x : Values) (e : Exception) → IsOf e (exception_of p f x e).typ
own_type p f x (unknown n) = tt
own_type p f x (made t puts) = refl

-- what is answered is right
pub answers_right : (p : Program) (f : Func) (x : Values) (e : Exception) (answers : Answers) → Answering p e (exception_of p f x e).typ answers
    → AreRight p x answers
answers_right p f x e answers right n handler answer i =
    let r = right n handler answer i in
    ap (λ (z : Exception). catches p.classes (typ_in handler) (exception_of p f x z).typ) (sym r.0) ∙ r.1

module _ (p : Program) (names : Names) (numbers : Typ → ℕ) (h : Held) (b : Bounds) (thrown : Typ → Bool) (home : Home) (limit : ℕ) (rest : List frames.Frame)
    (below_frames : List Frame) (small : IsSmall p)
    (Related : ℕ → State → code.State → Type 0)
    (stands : (rank : ℕ) (s : State) (top : Frame) → Stands p numbers thrown h home limit rest rank s top → Related rank s (Runs top below_frames))
    (stops : (s : State) (c : code.State) → Stopped names s c → Related 0 s c)
    (flies : (s : State) (x : Values) → AreWords x → Based thrown home limit x → (known : List Fact) → AllHold p h.func x known
    → (index : ℕ) (q : Place) (e : Exception) (o : Outcome) → (t : Flies p h.func b h.notes thrown numbers h.rows known index q e o)
    → thrown (exception_of p h.func x e).typ ≡ true → Shows p h.func x rest o s
    → Related t.rank s (Unwinds (coded numbers (exception_of p h.func x e)) (frame_at p h.func numbers x home index q) below_frames))
    (current : code.current below_frames ≡ option_map (coded numbers) (frames.handled rest))
    (current_type : (e : exceptions.Exception) → frames.handled rest ≡ Some e → thrown e.typ ≡ true)
    (cancel : (t : Typ) → thrown t ≡ true → names.cancels (numbers t) ≡ cancels t)
    (x : Values) (bounded : AreWords x) (based : Based thrown home limit x) (known : List Fact) (holds : AllHold p h.func x known) (rank index : ℕ) (q : Place)
    (e : Exception) (o : Outcome) (s : State) (shows : Shows p h.func x rest o s) (type : thrown (exception_of p h.func x e).typ ≡ true) where
  abbrev exception : code.Exception
  exception = coded numbers (exception_of p h.func x e)

  abbrev frame : Frame
  frame = frame_at p h.func numbers x home index q

  abbrev flight : code.State
  flight = Unwinds exception frame below_frames

  abbrev Moves : Type 0
  Moves = Move (source p) (thread names) b.most b.longest Related rank s flight

  abbrev words : Place → List ℕ
  words r = words_of p h.func x r.operands

  -- the code goes on at an index
  reaches_move : (answers : Answers) (right : AreRight p x answers) (target : ℕ) (r : Place) → Reaches p h.func b h.notes thrown known answers rank target r o
      → step_act names flight ≡ code.goes (Runs (frame_at p h.func numbers x home target r) below_frames) → Moves
  reaches_move answers right target r fits e =
      let l = landed p names numbers h b thrown home limit rest below_frames small Related stands stops flies current current_type x bounded based known holds
      answers right target r o s fits.lands shows in
      strode p names numbers h b thrown home limit rest below_frames small Related stands stops flies current current_type 0 fits.lands.lag rank
      fits.lands.note.rank s s l.to flight (Runs (frame_at p h.func numbers x home target r) below_frames) here l.path e
      (plain fits.lands.lag fits.short) fits.lands.low l.related (some fits.lands.lag fits.lands.note.rank fits.some)
    where
      plain : (n : ℕ) → n ≤ b.longest → 0 + n ≤ b.longest
      plain n h = omega (arith, h)

      some : (n after : ℕ) → (1 ≤ n) ⊎ (after + 1 ≤ rank) → (1 ≤ 0 + n) ⊎ (after + 1 ≤ rank)
      some n after (inl h) = inl (omega (arith, h))
      some n after (inr h) = inr h

  -- the exception leaves a block
  edge_move : (answers : Answers) (right : AreRight p x answers) (block : Open) (target : ℕ) (r : Place)
      → Edges p h.func b h.notes thrown known answers block target r e o → (event : Event) → event ≡ event_of p h.func x (leaves_block block (throws e))
      → step_act names flight ≡ code.asks event (Runs
      (record {
        home = home;
        nest = record {
          opens = rest_of r.opens;
          caught = (frame_at p h.func numbers x home target r).nest.caught;
          held =
              Flying exception;
        };
        index = target;
        words = words r;
      }) below_frames) → Moves
  edge_move answers right block target r fits event event_is step_is =
      let a = advance p h.func x answers rest small bounded right fits.lag o s shows (ap is_stuck fits.is) in
      let after = Runs (record {
        home = home;
        nest = record {
          opens = rest_of r.opens;
          caught = (frame_at p h.func numbers x home target r).nest.caught;
          held =
              Flying exception;
        };
        index = target;
        words = words r;
      }) below_frames in
      leads fits.short (subst (λ z. Path (source p) z s a.to) a.long a.path)
      (event_meets p names numbers h b thrown home limit rest below_frames small Related stands stops flies current current_type x based known holds a.to flight
      (leaves_block block (throws e)) fits.temporaries fits.others target
      (opened_later (holding r (flying e)) (rest_of r.opens)) bounded refl fits.lands fits.at_once
      (record {
        on = λ reply. after;
        does = step_is ∙ ap (λ z. Does z (λ (reply : Reply). after)) event_is;
        then_at = λ reply answered. frame_later p h.func numbers x reply home below_frames target (holding r (flying e)) (rest_of r.opens) (words r)
            (in_terms later r.operands) (sym (words_later p h.func numbers x reply r.operands));
      })
      (subst (λ z. Shows p h.func x rest z a.to) fits.is a.shows))

  abbrev raised : BlockKind → Event
  raised kind = Raise kind (names.cancels exception.ty)

  raised_is : (kind : BlockKind) → raised kind ≡ Raise kind (cancels (exception_of p h.func x e).typ)
  raised_is kind = ap (λ z. Raise kind z) (cancel (exception_of p h.func x e).typ type)

  -- what a row does
  row_move : (answers : Answers) (right : AreRight p x answers) (what target d : ℕ)
      → RowFits p h.func b h.notes thrown known answers rank what target (cut_to d q) e o
      → step_act names flight ≡ row_act names what target (words (cut_to d q)) exception frame below_frames → Moves
  row_move answers right zero target d fits i = reaches_move answers right target (holding (cut_to d q) (flying e)) fits i
  row_move answers right (suc zero) target d fits i = reaches_move answers right target (catching (cut_to d q) e) fits i
  row_move answers right (suc (suc zero)) target d fits i = reaches_move answers right target (catching (cut_to d q) e) fits i
  row_move answers right (suc (suc (suc zero))) target d fits i =
      edge_move answers right (Atomic NoExcept) target (cut_to d q) fits (raised NoExcept) (raised_is NoExcept) i
  row_move answers right (suc (suc (suc (suc zero)))) target d fits i =
      edge_move answers right (Atomic Commit) target (cut_to d q) fits (raised Commit) (raised_is Commit) i
  row_move answers right (suc (suc (suc (suc (suc zero))))) target d fits i =
      edge_move answers right (Atomic Cancel) target (cut_to d q) fits (raised Cancel) (raised_is Cancel) i
  row_move answers right (suc (suc (suc (suc (suc (suc zero)))))) target d fits i = edge_move answers right Sync target (cut_to d q) fits EndSync refl i
  row_move answers right (suc (suc (suc (suc (suc (suc (suc n))))))) target d fits i = absurd fits

  -- the row that is found, or none
  found_move : (out : (answers : Answers) → AreRight p x answers → Outward p h.func b h.notes thrown answers e o → step_act names flight
      ≡ leave_act names exception frame below_frames → Moves)
      → (answers : Answers) (right : AreRight p x answers) (found : Option Row) → FoundFits p h.func b h.notes thrown known answers rank found q e o
      → step_act names flight ≡ unwind_act names found exception frame below_frames → Moves
  found_move out answers right None fits i = out answers right fits i
  found_move out answers right (Some r) fits i = row_move answers right r.what r.target r.depth fits
      (i ∙ ap (λ z. row_act names r.what r.target z exception frame below_frames) (cut_is p h.func x r.depth q.operands))

  pub flight_move : (out : (answers : Answers) → AreRight p x answers → Outward p h.func b h.notes thrown answers e o → step_act names flight
      ≡ leave_act names exception frame below_frames → Moves)
      → rows_in names home ≡ h.rows → ((t : Typ) → IsOf e t → thrown t ≡ true → TypeFits p h.func b h.notes thrown numbers h.rows known rank index q e o t)
      → Moves
  flight_move out rows fits =
      let t = (exception_of p h.func x e).typ in
      let c = fits t (own_type p h.func x e) type in
      found_move out c.answers (answers_right p h.func x e c.answers c.right) (find h.rows index (numbers t)) c.found
      (ap (λ z. unwind_act names (find z index (numbers t)) exception frame below_frames) rows)
