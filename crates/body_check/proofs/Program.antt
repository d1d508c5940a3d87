-- The threads of a checked program go together, from main on.
use Rattle.std.proofs.Common.{ℕ, zero, suc, ℤ, ◌≡◌, ◌+◌, ◌^◌, ◌<◌, ◌==◌, ◌≤◌, ◌%◌, ◌++◌, ◌||◌, not, Bool, true, false, cond, refl, ap, ap₂, sym, ◌∙◌, subst}
use Rattle.std.proofs.Common.{List, [], ◌∷◌, Option, Some, None, arith}
use Rattle.std.specs.Prelude.{slice_get, length, map, is_some}
use Rattle.std.specs.Option.{option_map}
use Rattle.std.proofs.Math.Nat.{mod-eq_of_lt}
use Rattle.cpp_tree.specs.cpp_layout.Layout.{function_address}
use Rattle.symbolic_source.proofs.Below.{blocks_below}
use Rattle.symbolic_code.specs.Facts.{Fact, has_function, AllHold}
use Rattle.symbolic_code.proofs.Facts.{holds_among}
use Rattle.tx_ints.specs.Words.{word_of}
use Rattle.tx_ints.proofs.WordLaws.{word_below}
use Rattle.std.proofs.lemmas.Bool.{true≢false}
use Rattle.tx_events.specs.declared.Event.TheVariants.{Silent}
use Rattle.tx_events.specs.declared.Reply.{Reply}
use Rattle.tx_events.specs.declared.Reply.TheVariants.{Nothing}
use Rattle.tx_events.specs.Thread.{Thread, Open, Atomic, Sync, no_atomic, is_silent}
use Rattle.tx_events.specs.Same.{Reaches, at_once, silently, answered, steps, SameEvents, StepsWithin}
use Rattle.tx_events.specs.Simulation.{Path, here, step}
use Rattle.tx_events.specs.declared.End.TheVariants.{Trapped}
use Rattle.tx_events.specs.declared.Trap.TheVariants.{StackOverflow, UnsafeCall, BadCall}
use Rattle.std.proofs.Math.Nat.{mul-le-mul_left}
use Rattle.lockstep.specs.Moves.{meets, leads}
use Rattle.lockstep.proofs.Walk.{moves_same, moves_within}
use Rattle.tx_code.specs.declared.instr.Instr.{Instr}
use Rattle.tx_code.specs.declared.instr.Instr.TheVariants.{Call, TCall, CallIndirect, TCallIndirect, Ret}
use Rattle.tx_code.specs.Objects.{BodyView}
use Rattle.tx_code.specs.Meaning.{Names, Home, Frame, Runs, Unwinds, Act, first_frame, leave_act, rows_in, step_act, thread, starts}
use Rattle.tx_code.specs.Meaning as code
use Rattle.tx_code.specs.Renaming.{renamed, renamed_row}
use Rattle.cpp_tree.specs.cpp_types.Typ.{Typ, Signature}
use Rattle.src_mean.specs.Linked.{Program}
use Rattle.src_mean.specs.Frames.{State}
use Rattle.src_mean.specs.Frames as frames
use Rattle.src_mean.specs.Exceptions as exceptions
use Rattle.src_mean.specs.Source.{source, begins as thread_begins, main_state, empty_stack, enter, enter_found, enter_pointed, invoke, is_safe, inside, halt}
use Rattle.symbolic_source.specs.Terms.{Term, Exception, number, Values, number_found, eval, exception_of}
use Rattle.symbolic_source.specs.Frames.{Waiting, Frame as Form, Callee, value, Passes, Then, words_of, callee_of, below, here_of}
use Rattle.symbolic_source.specs.Outcomes.{Outcome, silent, goes, Shows}
use Rattle.symbolic_source.specs.Steps.{Answers, advanced}
use Rattle.symbolic_source.specs.Small.{IsSmall, AreWords, AreRight, Advanced, is_stuck}
use Rattle.symbolic_source.proofs.Advance.{advance}
use Rattle.symbolic_code.specs.Places.{Place, coded, frame_at, with_operands}
use Rattle.symbolic_code.specs.Following.{followed}
use Rattle.body_check.specs.Notes.{Note, Bounds, IsOf, Outward, TypeFits, Flies, Fits, no_answers, variables}
use Rattle.body_check.specs.Linked.{Held, Based, Stands, Stopped}
use Rattle.body_check.specs.Calls.{Book, taken_off, bare, Begins, Hands, covers, Behind, Calling, Found, by_pointer, by_slot, CallingFound, StepFits, Checked}
use Rattle.body_check.specs.Calls.{Whole, Links}
use Rattle.body_check.specs.Threads.{home_of, limit, Callers, nobody, RunsIn, FliesIn, Together, running, flies, stopped, finished}
use Rattle.body_check.proofs.Landing.{none_right, stop_meets, ended_meets}
use Rattle.body_check.proofs.Flight.{flight_move}
use Rattle.body_check.proofs.Calls.{count_of, moved_is, taken_count, word_at, variables_are}
use Rattle.body_check.proofs.AtNote.{step_is, note_move}
use Rattle.body_check.proofs.Threads.{Moves, stands_in, flies_in, callers_blocks, callers_current, call_move, return_word, return_none, out_move, callers_type}

-- where a frame of a safe body has an open atomic block below it

covered_by : (safe : Bool) (opens others : List Open) → (safe ≡ true → no_atomic others ≡ false) → covers safe opens ≡ true
    → no_atomic (opens ++ others) ≡ false
covered_by true [] others h e = h refl
covered_by false [] others h e = absurd (true≢false (sym e))
covered_by safe (Atomic kind ∷ opens) others h e = refl
covered_by safe (Sync ∷ opens) others h e = covered_by safe opens others h e

none_behind : (opens others : List Open) → no_atomic (opens ++ others) ≡ true → no_atomic others ≡ true
none_behind [] others e = e
none_behind (Atomic kind ∷ opens) others e = absurd (true≢false (sym e))
none_behind (Sync ∷ opens) others e = none_behind opens others e

plain_frame : (safe : Bool) (opens others : List Open) → no_atomic (opens ++ others) ≡ true → (safe ≡ true → no_atomic others ≡ false) → safe ≡ false
plain_frame true opens others e h = absurd (true≢false (sym (none_behind opens others e) ∙ h refl))
plain_frame false opens others e h = refl

module _ (p : Program) (names : Names) (b : Bounds) (book : Book) (id : ℕ) (links : Links p names b book) (small : IsSmall p) where
  abbrev numbers : Typ → ℕ
  numbers = book.numbers

  abbrev Makes : ℕ → State → code.State → Type 0
  Makes rank s c = Moves p names b book id links small rank s c

  module _ (n : ℕ) (safe : Bool) (base : ℕ) (fs : List Frame) (rank : ℕ) (s : State) (top : Frame)
      (r : RunsIn p names b book id rank s top fs n safe base) where
    abbrev h : Held
    h = book.held n safe

    abbrev home : Home
    home = home_of id n safe base

    abbrev note : Note
    note = r.stands.note

    abbrev x : Values
    x = r.stands.values

    abbrev frame : Frame
    frame = frame_at p h.func numbers x home note.index note.place

    is_body : names.body n safe ≡ Some h.body
    is_body = r.there ∙ ap Some (sym (links.bodies n safe r.body r.there))

    stands : (rank : ℕ) (s : State) (top : Frame) → Stands p numbers book.thrown h home (limit p names b book id) r.rest rank s top
        → Together p names b book id rank s (Runs top fs)
    stands rank s top z = stands_in p names b book id links small n safe base r.body r.there fs r.rest r.covered r.callers rank s top z

    stops : (s : State) (c : code.State) → Stopped names s c → Together p names b book id 0 s c
    stops s c z = stopped z

    flying_in : (s : State) (x : Values) → AreWords x → Based book.thrown home (limit p names b book id) x → (known : List Fact) → AllHold p h.func x known
        → (index : ℕ) (q : Place) (e : Exception) (o : Outcome) → (t : Flies p h.func b h.notes book.thrown numbers h.rows known index q e o)
        → book.thrown (exception_of p h.func x e).typ ≡ true → Shows p h.func x r.rest o s
        → Together p names b book id t.rank s (Unwinds (coded numbers (exception_of p h.func x e)) (frame_at p h.func numbers x home index q) fs)
    flying_in s x bounded based known holds index q e o fits type shows =
        flies_in p names b book id links small n safe base r.body r.there fs r.rest r.covered r.callers s x bounded based known holds index q e o fits type
        shows

    current : code.current fs ≡ option_map (coded numbers) (frames.handled r.rest)
    current = callers_current p names b book id links small (book.gives n) h.func.stops fs r.rest r.callers

    current_type : (m : exceptions.Exception) → frames.handled r.rest ≡ Some m → book.thrown m.typ ≡ true
    current_type = callers_type p names b book id links small (book.gives n) h.func.stops fs r.rest r.callers

    stepped : (a : Instr) → slice_get h.body.code note.index ≡ Some a → step_act names (Runs frame fs) ≡ code.act names (renamed (names.numbering n) a) frame fs
    stepped a is = step_is p names numbers h b book.thrown home (limit p names b book id) r.rest fs small
        (Together p names b book id) stands stops flying_in current current_type is_body (links.names n safe) x note.index note.place a is

    ahead : is_stuck (advanced p h.func no_answers note.lead note.outcome) ≡ false → Advanced p h.func x no_answers r.rest note.lead note.outcome s
    ahead foreseen = advance p h.func x no_answers r.rest small r.stands.are_words (none_right p x) note.lead note.outcome s r.stands.shows foreseen

    room : note.lead + 1 ≤ b.half → note.lead ≤ b.longest
    room short = let both = b.both in omega (arith, short, both)

    -- a safe body is called where an atomic block is open
    covers_callee : covers h.safe note.place.opens ≡ true → no_atomic (note.place.opens ++ code.blocks_in fs) ≡ false
    covers_callee e = covered_by h.safe note.place.opens (code.blocks_in fs) (λ i. r.covered (sym (links.safes n safe) ∙ i)) e

    abbrev under_frame : List Term → Frame
    under_frame under = frame_at p h.func numbers x home note.index (with_operands note.place under)

    counted : (count : ℕ) (words under : List Term) → taken_off count note.place.operands [] ≡ Some (words, under) → count_of words ≡ count
    counted count words under e = taken_count count note.place.operands [] words under e ∙ none count
      where
        none : (n : ℕ) → n + 0 ≡ n
        none n = omega arith

    -- what holds behind a function that may let exceptions out holds behind any
    may_throw : (gives stops : Bool) (under : List Term) (ws : List Waiting) (k : List Form)
        → Behind p b book gives false h note.facts note.index note.place under ws k → Behind p b book gives stops h note.facts note.index note.place under ws k
    may_throw gives stops under ws k behind = record {
      back = behind.back;
      thrown = λ e. behind.thrown refl;
      opens = behind.opens;
      caught = behind.caught;
      type = behind.type;
    }

    enter_at : (into : Bool) (m : ℕ) (body : BodyView) → names.body m into ≡ Some body → (words under : List Term) (ws : List Waiting) (k : List Form)
        → count_of words ≡ book.takes m → Behind p b book (book.gives m) (book.stops m) h note.facts note.index note.place under ws k
        → (into ≡ true → no_atomic (note.place.opens ++ code.blocks_in fs) ≡ false) → (t : State) → Path (source p) note.lead s t → note.lead + 1 ≤ b.half
        → t ≡ enter (here_of p h.func x ws) (words_of p h.func x words) (p.func m) (below p h.func x k r.rest)
        → step_act names (Runs frame fs) ≡ code.enter_act names m into (words_of p h.func x words) (under_frame under) fs → Makes rank s (Runs frame fs)
    enter_at into m body there words under ws k count behind cover t path short g e =
        call_move p names b book id links small n safe base x r.stands.are_words r.stands.based note.index note.place fs r.rest m into body there r.body r.there
        words under ws k count note.facts r.stands.holds
        (subst (λ z. Behind p b book (book.gives m) z h note.facts note.index note.place under ws k) (sym (links.stops_so m into)) behind) r.covered cover
        r.callers
        note.lead rank s t (Runs frame fs) path short e g

    call_at : (into : Bool) (name count : ℕ) → (into ≡ true → no_atomic (note.place.opens ++ code.blocks_in fs) ≡ false) → note.lead + 1 ≤ b.half
        → (foreseen : is_stuck (advanced p h.func no_answers note.lead note.outcome) ≡ false)
        → (c : Calling p b book h note.facts note.index note.place (advanced p h.func no_answers note.lead note.outcome) name count) → (body : BodyView)
        × (names.body (p.number h.func.unit c.callee) into ≡ Some body)
        → step_act names (Runs frame fs) ≡ code.call_act names ((names.numbering n).func name) into count frame fs → Makes rank s (Runs frame fs)
    call_at into name count cover short foreseen c found e =
        let m = p.number h.func.unit c.callee in
        let v = ahead foreseen in
        enter_at into m found.0 found.1 c.words c.under c.temporaries c.others (counted count c.words c.under c.operands_are ∙ sym c.taken) c.behind cover v.to
        (subst (λ z. Path (source p) z s v.to) v.long v.path) short
        (subst (λ z. Shows p h.func x r.rest z v.to) c.outcome_is v.shows)
        (e ∙ (ap (λ y. code.call_act names y into count frame fs) (links.called n safe name c.callee c.named)
        ∙ (moved_is p h.func x count note.place.operands [] c.words c.under
        (λ args vs. code.entered_act names m into args (code.at frame note.index vs) fs) c.operands_are
        ∙ ap (λ o. code.if_some o code.Lost (λ y. code.enter_act names m into (words_of p h.func x c.words) (under_frame c.under) fs)) found.1)))

    -- a function that was found
    module _ (into : Bool) (m count : ℕ) (gives : Bool) (whole : Whole names book m count gives) (words under : List Term) (ws : List Waiting) (k : List Form)
        (counts : count_of words ≡ count) (behind : Behind p b book gives false h note.facts note.index note.place under ws k)
        (cover : into ≡ true → no_atomic (note.place.opens ++ code.blocks_in fs) ≡ false) (t : State) (path : Path (source p) note.lead s t)
        (short : note.lead + 1 ≤ b.half) where
      abbrev on : List frames.Frame
      on = below p h.func x k r.rest

      abbrev enters : Act
      enters = code.entered_act names m into (words_of p h.func x words) (under_frame under) fs

      abbrev open_blocks : List Open
      open_blocks = note.place.opens ++ code.blocks_in fs

      blocks_are : frames.blocks_of on ≡ open_blocks
      blocks_are = blocks_below p h.func x r.rest k ∙ ap₂ (λ (u v : List Open). u ++ v) (sym behind.opens)
          (sym (callers_blocks p names b book id links small (book.gives n) h.func.stops fs r.rest r.callers))

      found_enters : (body : BodyView) → names.body m into ≡ Some body → t ≡ enter (here_of p h.func x ws) (words_of p h.func x words) (p.func m) on
          → step_act names (Runs frame fs) ≡ enters → Makes rank s (Runs frame fs)
      found_enters body there g e = enter_at into m body there words under ws k (counts ∙ sym whole.takes)
          (may_throw (book.gives m) (book.stops m) under ws k
          (subst (λ z. Behind p b book z false h note.facts note.index note.place under ws k) (sym whole.gives_so) behind)) cover t path short g
          (e ∙ ap (λ o. code.if_some o code.Lost (λ y. code.enter_act names m into (words_of p h.func x words) (under_frame under) fs)) there)

      abbrev finding : Bool → State
      finding z = cond z (enter (here_of p h.func x ws) (words_of p h.func x words) (p.func m) on) (halt (here_of p h.func x ws) (Trapped UnsafeCall) on)

      -- outside of transactions
      plain_enters : (i : Bool) → into ≡ i → no_atomic open_blocks ≡ true → t ≡ finding true → step_act names (Runs frame fs) ≡ enters
          → Makes rank s (Runs frame fs)
      plain_enters true i opens g e = absurd (true≢false (sym opens ∙ cover i))
      plain_enters false i opens g e = found_enters whole.body (ap (λ z. names.body m z) i ∙ whole.there) g e

      -- in one
      safe_enters : (o : Option BodyView) → names.body m true ≡ o → t ≡ finding (is_some o)
          → step_act names (Runs frame fs) ≡ code.if_some o (code.traps UnsafeCall) (λ y. enters) → Makes rank s (Runs frame fs)
      safe_enters None there g e = leads (room short) path
          (stop_meets p names b (Together p names b book id) (λ s c y. stopped y) (Trapped UnsafeCall) t (Runs frame fs)
          (record { here = here_of p h.func x ws; others = on; is = g }) e)
      safe_enters (Some body) there g e = by_into into refl
        where
          by_into : (i : Bool) → into ≡ i → Makes rank s (Runs frame fs)
          by_into true i = found_enters body (ap (λ z. names.body m z) i ∙ there) g e
          by_into false i = found_enters whole.body (ap (λ z. names.body m z) i ∙ whole.there) g e

      by_blocks : (z : Bool) → no_atomic open_blocks ≡ z → t ≡ finding (z || is_safe (p.func m))
          → step_act names (Runs frame fs) ≡ code.checked_act names m (safe || not z) enters → Makes rank s (Runs frame fs)
      by_blocks true opens g e = plain_enters into refl opens g
          (e ∙ ap (λ z. code.checked_act names m (z || false) enters) (plain_frame safe note.place.opens (code.blocks_in fs) opens r.covered))
      by_blocks false opens g e = safe_enters (names.body m true) refl (g ∙ ap (λ z. finding z) (links.safe_bodies m))
          (e ∙ ap (λ z. code.checked_act names m z enters) (always safe))
        where
          always : (z : Bool) → (z || true) ≡ true
          always true = refl
          always false = refl

      found_at : t ≡ enter_found (here_of p h.func x ws) (words_of p h.func x words) (p.func m) on
          → step_act names (Runs frame fs) ≡ code.checked_act names m (code.in_transaction frame fs) enters → Makes rank s (Runs frame fs)
      found_at g e = by_blocks (no_atomic open_blocks) refl (g ∙ ap (λ (z : List Open). finding (no_atomic z || is_safe (p.func m))) blocks_are) e

    abbrev calls_found : Bool → Option ℕ → List Term → List Term → Act
    calls_found into o words under = code.if_some o (code.traps BadCall)
        (λ m. code.checked_act names m (code.in_transaction frame fs) (code.entered_act names m into (words_of p h.func x words) (under_frame under) fs))

    pointer_at : (into : Bool) (count : ℕ) (gives : Bool) (a : ℕ) (sig : Signature) → book.takes_as sig count gives ≡ true
        → (words under : List Term) (ws : List Waiting) (k : List Form) → count_of words ≡ count
        → Behind p b book gives false h note.facts note.index note.place under ws k → (into ≡ true → no_atomic (note.place.opens ++ code.blocks_in fs) ≡ false)
        → (t : State) → Path (source p) note.lead s t → note.lead + 1 ≤ b.half
        → (o : Option ℕ) → p.pointed a sig ≡ o → t ≡ enter_pointed p (here_of p h.func x ws) (words_of p h.func x words) o (below p h.func x k r.rest)
        → step_act names (Runs frame fs) ≡ calls_found into o words under → Makes rank s (Runs frame fs)
    pointer_at into count gives a sig takes words under ws k counts behind cover t path short None is g e =
        leads (room short) path (stop_meets p names b (Together p names b book id) (λ s c y. stopped y) (Trapped BadCall) t (Runs frame fs)
        (record { here = here_of p h.func x ws; others = below p h.func x k r.rest; is = g }) e)
    pointer_at into count gives a sig takes words under ws k counts behind cover t path short (Some m) is g e =
        found_at into m count gives (links.pointed a m sig count gives takes is) words under ws k counts behind cover t path short g e

    found_call : (into : Bool) (name count : ℕ) (address : Term) (callee : Callee) (gives : Bool) → Found p b book h note.facts name address callee count gives
        → (words under : List Term) (ws : List Waiting) (k : List Form) → count_of words ≡ count
        → Behind p b book gives false h note.facts note.index note.place under ws k → (into ≡ true → no_atomic (note.place.opens ++ code.blocks_in fs) ≡ false)
        → (t : State) → Path (source p) note.lead s t → note.lead + 1 ≤ b.half
        → t ≡ invoke p (here_of p h.func x ws) (callee_of p h.func x callee) (words_of p h.func x words) (below p h.func x k r.rest)
        → step_act names (Runs frame fs) ≡ calls_found into (names.called ((names.numbering n).ty name) (eval p h.func x address)) words under
        → Makes rank s (Runs frame fs)
    found_call into name count address callee gives (by_pointer a sig named takes) words under ws k counts behind cover t path short g e =
        pointer_at into count gives (eval p h.func x a) sig takes words under ws k counts behind cover t path short (p.pointed (eval p h.func x a) sig) refl g
        (e ∙ ap (λ z. calls_found into z words under) ((links.names n safe).signatures name sig named (eval p h.func x a)))
    found_call into name count address callee gives (by_slot class slot a named takes among) words under ws k counts behind cover t path short g e =
        let fact = holds_among p h.func x (has_function class slot a) note.facts among r.stands.holds in
        let m = fact.0 in
        found_at into m count gives (links.slotted (eval p h.func x a) class slot m count gives takes fact.1) words under ws k counts behind cover t path short
        (g ∙ ap (λ (z : Option ℕ). enter_found (here_of p h.func x ws) (words_of p h.func x words) (p.func (number_found z))
        (below p h.func x k r.rest)) fact.1)
        (e ∙ ap (λ z. calls_found into z words under)
        (ap (λ (z : Option ℕ). names.called ((names.numbering n).ty name) (function_address (number_found z) % 2 ^ 64)) fact.1
        ∙ (ap (λ z. names.called ((names.numbering n).ty name) z) (mod-eq_of_lt (small.slots (eval p h.func x a) class slot m fact.1))
        ∙ (links.names n safe).methods name class slot (eval p h.func x a) m named fact.1)))

    found_call_at : (into : Bool) (name count : ℕ) → (into ≡ true → no_atomic (note.place.opens ++ code.blocks_in fs) ≡ false) → note.lead + 1 ≤ b.half
        → (foreseen : is_stuck (advanced p h.func no_answers note.lead note.outcome) ≡ false)
        → CallingFound p b book h note.facts note.index note.place (advanced p h.func no_answers note.lead note.outcome) name count
        → step_act names (Runs frame fs) ≡ code.call_indirect_act names ((names.numbering n).ty name) into count frame fs → Makes rank s (Runs frame fs)
    found_call_at into name count cover short foreseen c e =
        let v = ahead foreseen in
        found_call into name count c.address c.callee c.gives c.found c.words c.under c.temporaries c.others
        (counted count c.words (c.address ∷ c.under) c.operands_are) c.behind cover v.to (subst (λ z. Path (source p) z s v.to) v.long v.path) short
        (subst (λ z. Shows p h.func x r.rest z v.to) c.outcome_is v.shows)
        (e ∙ moved_is p h.func x count note.place.operands [] c.words (c.address ∷ c.under)
        (λ args vs. code.one vs (λ a others. code.if_some (names.called ((names.numbering n).ty name) a) (code.traps BadCall)
        (λ m. code.checked_act names m (code.in_transaction frame fs)
        (code.entered_act names m into args (code.at frame note.index others) fs)))) c.operands_are)

    word_at_return : (w : Term) (under : List Term) → note.lead + 1 ≤ b.half
        → (foreseen : is_stuck (advanced p h.func no_answers note.lead note.outcome) ≡ false) → book.gives n ≡ true
        → note.place.operands ≡ w ∷ under → Hands w (advanced p h.func no_answers note.lead note.outcome)
        → step_act names (Runs frame fs) ≡ code.ret_act 1 frame fs → Makes rank s (Runs frame fs)
    word_at_return w under short foreseen gives is hands e =
        let v = ahead foreseen in
        return_word p names b book id links small home note.lead rank h.func x r.stands.are_words w
        (advanced p h.func no_answers note.lead note.outcome) h.func.stops s v.to (Runs frame fs) fs r.rest refl
        (subst (λ z. Callers p names b book id z h.func.stops fs r.rest) gives r.callers) (subst (λ z. Path (source p) z s v.to) v.long v.path) short
        (e ∙ ap (λ (z : List Term). code.one (words_of p h.func x z) (λ a ws. code.back_act home (a ∷ []) fs)) is) hands v.shows

    none_at_return : note.lead + 1 ≤ b.half → (foreseen : is_stuck (advanced p h.func no_answers note.lead note.outcome) ≡ false) → book.gives n ≡ false
        → Hands (number 0) (advanced p h.func no_answers note.lead note.outcome) → step_act names (Runs frame fs) ≡ code.ret_act 0 frame fs
        → Makes rank s (Runs frame fs)
    none_at_return short foreseen gives hands e =
        let v = ahead foreseen in
        return_none p names b book id links small home note.lead rank h.func x (advanced p h.func no_answers note.lead note.outcome) h.func.stops s v.to
        (Runs frame fs) fs r.rest refl
        (subst (λ z. Callers p names b book id z h.func.stops fs r.rest) gives r.callers)
        (subst (λ z. Path (source p) z s v.to) v.long v.path) short e hands v.shows

    numbered : h.number ≡ n
    numbered = links.numbers n safe

    on_top : Makes rank s (Runs frame fs) → Makes rank s (Runs top fs)
    on_top m = subst (λ z. Makes rank s (Runs z fs)) (sym r.stands.frame) m

    plain_move : (a : Instr) → slice_get h.body.code note.index ≡ Some a → note.lead + 1 ≤ b.half
        → is_stuck (advanced p h.func no_answers note.lead note.outcome) ≡ false
        → Fits p h.func b h.notes book.thrown numbers h.rows note.facts note.lead note.rank
        (followed h.table note.facts note.index a note.place (advanced p h.func no_answers note.lead note.outcome)) → Makes rank s (Runs top fs)
    plain_move a is short foreseen fits = note_move p names numbers h b book.thrown home (limit p names b book id) r.rest fs small
        (Together p names b book id) stands stops flying_in current current_type is_body (links.names n safe) rank s top r.stands a is foreseen (room short)
        (subst (λ z. Fits p h.func b h.notes book.thrown numbers h.rows note.facts note.lead z
        (followed h.table note.facts note.index a note.place (advanced p h.func no_answers note.lead note.outcome))) r.stands.ranked fits)

    some_of : (o : Option BodyView) → is_some o ≡ true → (body : BodyView) × (o ≡ Some body)
    some_of None e = absurd cc
    some_of (Some body) e = (body, refl)

    at_instr : (a : Instr) → slice_get h.body.code note.index ≡ Some a → note.lead + 1 ≤ b.half
        → is_stuck (advanced p h.func no_answers note.lead note.outcome) ≡ false
        → StepFits p b book h note.facts note.lead note.rank note.index a note.place (advanced p h.func no_answers note.lead note.outcome)
        → Makes rank s (Runs top fs)
    at_instr (Call name k) is short foreseen fits = on_top
        (call_at false name k (λ i. absurd (true≢false (sym i))) short foreseen fits (links.plain_there n safe name fits.callee fits.named)
        (stepped (Call name k) is))
    at_instr (TCall name k) is short foreseen fits = on_top
        (call_at true name k (λ i. covers_callee fits.0) short foreseen fits.1
        (some_of (names.body (p.number h.func.unit fits.1.callee) true) (sym (links.safe_bodies (p.number h.func.unit fits.1.callee)) ∙ fits.2))
        (stepped (TCall name k) is))
    at_instr (CallIndirect name k) is short foreseen fits =
        on_top (found_call_at false name k (λ i. absurd (true≢false (sym i))) short foreseen fits (stepped (CallIndirect name k) is))
    at_instr (TCallIndirect name k) is short foreseen fits =
        on_top (found_call_at true name k (λ i. covers_callee fits.0) short foreseen fits.1 (stepped (TCallIndirect name k) is))
    at_instr (Ret zero) is short foreseen fits = on_top (none_at_return short foreseen (ap book.gives (sym numbered) ∙ fits.0) fits.1 (stepped (Ret zero) is))
    at_instr (Ret (suc zero)) is short foreseen fits =
        on_top (word_at_return fits.1.0 fits.1.1 short foreseen (ap book.gives (sym numbered) ∙ fits.0) fits.1.2 fits.1.3 (stepped (Ret (suc zero)) is))
    at_instr (Ret (suc (suc k))) is short foreseen fits = absurd fits
    at_instr a is short foreseen fits = plain_move a is short foreseen fits

    running_move : Makes rank s (Runs top fs)
    running_move =
        let fit = (links.checked n safe r.body r.there).notes r.stands.at note r.stands.is in
        at_instr fit.instr fit.is fit.short fit.foreseen fit.fits

  -- an exception is in flight
  module _ (n : ℕ) (safe : Bool) (base : ℕ) (fs : List Frame) (rank : ℕ) (s : State) (e : code.Exception) (top : Frame)
      (r : FliesIn p names b book id rank s e top fs n safe base) where
    abbrev own : Held
    own = book.held n safe

    abbrev own_home : Home
    own_home = home_of id n safe base

    own_stands : (rank : ℕ) (s : State) (top : Frame) → Stands p numbers book.thrown own own_home (limit p names b book id) r.rest rank s top
        → Together p names b book id rank s (Runs top fs)
    own_stands rank s top z = stands_in p names b book id links small n safe base r.body r.there fs r.rest r.covered r.callers rank s top z

    own_stops : (s : State) (c : code.State) → Stopped names s c → Together p names b book id 0 s c
    own_stops s c z = stopped z

    own_flies : (s : State) (x : Values) → AreWords x → Based book.thrown own_home (limit p names b book id) x → (known : List Fact)
        → AllHold p own.func x known → (index : ℕ) (q : Place) (e : Exception) (o : Outcome)
        → (t : Flies p own.func b own.notes book.thrown numbers own.rows known index q e o) → book.thrown (exception_of p own.func x e).typ ≡ true
        → Shows p own.func x r.rest o s
        → Together p names b book id t.rank s (Unwinds (coded numbers (exception_of p own.func x e)) (frame_at p own.func numbers x own_home index q) fs)
    own_flies s x bounded based known holds index q e o fits type shows =
        flies_in p names b book id links small n safe base r.body r.there fs r.rest r.covered r.callers s x bounded based known holds index q e o fits type
        shows

    own_current : code.current fs ≡ option_map (coded numbers) (frames.handled r.rest)
    own_current = callers_current p names b book id links small (book.gives n) own.func.stops fs r.rest r.callers

    own_current_type : (m : exceptions.Exception) → frames.handled r.rest ≡ Some m → book.thrown m.typ ≡ true
    own_current_type = callers_type p names b book id links small (book.gives n) own.func.stops fs r.rest r.callers

    abbrev thrown : exceptions.Exception
    thrown = exception_of p own.func r.values r.form

    abbrev frame_there : Frame
    frame_there = frame_at p own.func numbers r.values own_home r.index r.place

    leaves_function : (answers : Answers) → AreRight p r.values answers → Outward p own.func b own.notes book.thrown answers r.form r.outcome
        → step_act names (Unwinds (coded numbers thrown) frame_there fs) ≡ leave_act names (coded numbers thrown) frame_there fs
        → Makes rank s (Unwinds (coded numbers thrown) frame_there fs)
    leaves_function answers right out i =
        let a = advance p own.func r.values answers r.rest small r.are_words right out.lag r.outcome s r.shows (ap is_stuck out.is) in
        out_move p names b book id links small own_home out.lag rank own.func r.values thrown r.type (here_of p own.func r.values out.temporaries)
        (book.gives n) own.func.stops s a.to (Unwinds (coded numbers thrown) frame_there fs) frame_there fs r.rest refl (links.stops n safe)
        r.callers (subst (λ z. Path (source p) z s a.to) a.long a.path) out.short (subst (λ z. Shows p own.func r.values r.rest z a.to) out.is a.shows) i

    rows_are : rows_in names own_home ≡ own.rows
    rows_are = ap (λ z. map (renamed_row (names.numbering n)) (code.rows_of z)) r.there ∙ links.rows n safe r.body r.there

    flying_move : Makes rank s (Unwinds e top fs)
    flying_move = subst (λ z. Makes rank s (Unwinds z top fs)) (sym r.is) (subst (λ z. Makes rank s (Unwinds (coded numbers thrown) z fs)) (sym r.frame)
        (flight_move p names numbers own b book.thrown own_home (limit p names b book id) r.rest fs small
        (Together p names b book id) own_stands own_stops own_flies own_current own_current_type links.cancels r.values r.are_words r.based r.facts r.holds
        rank r.index r.place r.form r.outcome s r.shows r.type leaves_function rows_are
        (subst (λ z. (t : Typ) → IsOf r.form t → book.thrown t ≡ true → TypeFits p own.func b own.notes book.thrown numbers own.rows r.facts z r.index
        r.place r.form r.outcome t) r.ranked r.fits.fits)))

  pub together_moves : (rank : ℕ) (s : State) (c : code.State) → rank ≤ b.most → Together p names b book id rank s c → Makes rank s c
  together_moves rank s c low (running {top = top} {fs = fs} n safe base r) = running_move n safe base fs rank s top r
  together_moves rank s c low (flies {e = e} {top = top} {fs = fs} n safe base r) = flying_move n safe base fs rank s e top r
  together_moves rank s c low (stopped z) = meets (stop_meets p names b (Together p names b book id) (λ s c y. stopped y) z.end s c
      (record { here = z.here; others = z.others; is = z.first }) z.second)
  together_moves rank s c low (finished z) = meets (ended_meets p names b (Together p names b book id) (λ s c y. finished y) s c z)

-- silent steps before

module _ {S T : Type 0} (a : Thread S) (d : Thread T) where
  clash : {s : S} → a.next s ≡ Silent → is_silent (a.next s) ≡ false → ⊥
  clash e f = true≢false (sym (ap is_silent e) ∙ f)

  further : {s q : S} {replies : List Reply} → a.next s ≡ Silent → (w : Reaches a s replies q) → is_silent (a.next q) ≡ false
      → (v : Reaches a (a.after s Nothing) replies q) × (steps a v + 1 ≡ steps a w)
  further e at_once l = absurd (clash e l)
  further e (silently i w) l = (w, refl)
  further e (answered i y w) l = absurd (clash e i)

  one_before : (s : S) (r : T) → a.next s ≡ Silent → SameEvents a d (a.after s Nothing) r → SameEvents a d s r
  one_before s r e same = record {
    there = λ replies event loud f. same.there replies event loud
        (record { at = f.at; reaches = (further e f.reaches (ap is_silent f.is ∙ loud)).0; is = f.is });
    back = λ replies event loud g.
        let f = same.back replies event loud g in
        record { at = f.at; reaches = silently e f.reaches; is = f.is };
  }

  pub path_before : {n : ℕ} (s t : S) (r : T) → Path a n s t → SameEvents a d t r → SameEvents a d s r
  path_before s t r here same = same
  path_before s t r (step i w) same = one_before s r i (path_before (a.after s Nothing) t r w same)

  one_within : (many more : ℕ) (s : S) (r : T) → a.next s ≡ Silent → StepsWithin a d many more (a.after s Nothing) r → StepsWithin a d many more s r
  one_within many more s r e within = λ replies event loud f g.
      let w = further e f.reaches (ap is_silent f.is ∙ loud) in
      let less = mul-le-mul_left many (one_more (steps a w.0) (steps a f.reaches) w.1) in
      within_both (within replies event loud (record { at = f.at; reaches = w.0; is = f.is }) g) less
    where
      one_more : (n m : ℕ) → n + 1 ≡ m → n ≤ m
      one_more n m i = omega (arith, i)

      within_both : {k n m : ℕ} → k ≤ n + more → n ≤ m → k ≤ m + more
      within_both i j = omega (arith, i, j)

  pub path_within : (many more : ℕ) {n : ℕ} (s t : S) (r : T) → Path a n s t → StepsWithin a d many more t r → StepsWithin a d many more s r
  path_within many more s t r here within = within
  path_within many more s t r (step i w) within = one_within many more s r i (path_within many more (a.after s Nothing) t r w within)

-- a thread

length_is : (ws : List ℕ) → count_of ws ≡ length ws
length_is [] = refl
length_is (w ∷ ws) = ap suc (length_is ws)

module _ (p : Program) (names : Names) (b : Bounds) (book : Book) (id : ℕ) (links : Links p names b book) (small : IsSmall p) (n : ℕ) (words : List ℕ)
    (begins : Begins p names book id n words) (bounded : (i : ℕ) → word_at words i < 2 ^ 64) where
  abbrev g : Held
  g = book.held n false

  abbrev no_exceptions : ℕ → exceptions.Exception
  no_exceptions i = record { typ = links.one_type.0; bytes = [] }

  abbrev values : Values
  values = record { word = λ i. word_at words i; exception = λ i. no_exceptions i; base = (empty_stack id).end; limit = (empty_stack id).limit }

  abbrev called : List frames.Frame
  called = frames.Called (empty_stack id) g.func.stops ∷ frames.Starts (id == 0) ∷ []

  checked : Checked p b book g
  checked = links.checked n false begins.body begins.there

  abbrev first : State
  first = frames.at Silent (inside (empty_stack id) g.func) (frames.Passes words g.func.words ∷ frames.Then frames.value g.func.body ∷ called)

  abbrev entering : State
  entering = enter (empty_stack id) words (p.func n) (frames.Starts (id == 0) ∷ [])

  is_first : entering ≡ first
  is_first = ap (λ z. enter (empty_stack id) words z (frames.Starts (id == 0) ∷ [])) (links.funcs n false begins.body begins.there)
      ∙ ap (λ z. cond z (halt (empty_stack id) (Trapped StackOverflow) (frames.Starts (id == 0) ∷ [])) first) begins.room

  takes : book.takes g.number ≡ count_of words
  takes = ap book.takes (links.numbers n false) ∙ (begins.takes ∙ sym (length_is words))

  abbrev start : ℕ → Outcome
  start i = goes silent [] (Passes (variables 0 i) g.func.words ∷ Then value g.func.body ∷ [])

  foreseen : checked.entry.note.outcome ≡ advanced p g.func no_answers 1 (start (count_of words))
  foreseen = checked.entry.outcome_is ∙ ap (λ z. advanced p g.func no_answers 1
      (goes silent [] (Passes (variables 0 z) g.func.words ∷ Then value g.func.body ∷ []))) takes

  own_words : words_of p g.func values (variables 0 (count_of words)) ≡ words
  own_words = variables_are p g.func values words 0 (λ i. ap (λ z. word_at words z) (none i))
    where
      none : (i : ℕ) → 0 + i ≡ i
      none i = omega arith

  shows_first : Shows p g.func values called (start (count_of words)) first
  shows_first = ap (λ (z : List ℕ). frames.at Silent (inside (empty_stack id) g.func)
      (frames.Passes z g.func.words ∷ frames.Then frames.value g.func.body ∷ called)) (sym own_words)

  begun : Advanced p g.func values no_answers called 1 (start (count_of words)) first
  begun = advance p g.func values no_answers called small bounded (none_right p values) 1 (start (count_of words)) first shows_first
      (ap is_stuck (sym foreseen) ∙ checked.entry.foreseen)

  abbrev first_home : Home
  first_home = home_of id n false (names.stack_start id)

  related : Together p names b book id checked.entry.note.rank begun.to (starts names id n words)
  related = running n false (names.stack_start id) (record {
    body = begins.body;
    there = begins.there;
    rest = called;
    callers = subst (λ z. Callers p names b book id z g.func.stops [] called) (sym begins.gives) (nobody (id == 0) g.func.stops refl);
    covered = λ e. absurd (true≢false (sym e));
    stands = record {
      values = values;
      are_words = bounded;
      based = (begins.starts, sym begins.ends, λ i. links.one_type.1);
      at = 0;
      note = checked.entry.note;
      is = checked.entry.is;
      ranked = refl;
      holds = subst (λ z. AllHold p g.func values z) (sym checked.entry.facts_are) tt;
      frame = ap (λ (z : List ℕ). first_frame first_home z) (sym own_words)
          ∙ ap (λ (z : Place). frame_at p g.func book.numbers values first_home 0 z) (sym (checked.entry.place_is ∙ ap (λ z. bare z) takes))
          ∙ ap (λ z. frame_at p g.func book.numbers values first_home z checked.entry.note.place) (sym checked.entry.first);
      shows = subst (λ z. Shows p g.func values called z begun.to) (sym foreseen) begun.shows;
    };
  })

  pub thread_same : SameEvents (source p) (thread names) entering (starts names id n words)
  thread_same = path_before (source p) (thread names) entering begun.to (starts names id n words)
      (subst (λ z. Path (source p) begun.steps z begun.to) (sym is_first) begun.path)
      (moves_same (source p) (thread names) b.most b.longest (Together p names b book id)
      (together_moves p names b book id links small) checked.entry.note.rank begun.to (starts names id n words) checked.entry.low related)

  pub thread_within : StepsWithin (source p) (thread names) (b.most + 1) b.most entering (starts names id n words)
  thread_within = path_within (source p) (thread names) (b.most + 1) b.most entering begun.to (starts names id n words)
      (subst (λ z. Path (source p) begun.steps z begun.to) (sym is_first) begun.path)
      (moves_within (source p) (thread names) b.most b.longest (Together p names b book id)
      (together_moves p names b book id links small) checked.entry.note.rank begun.to (starts names id n words) checked.entry.low related)

-- main, and another thread

module _ (p : Program) (names : Names) (b : Bounds) (book : Book) (links : Links p names b book) (small : IsSmall p) where
  none_below : (i : ℕ) → word_at [] i < 2 ^ 64
  none_below i = omega arith

  pub main_same : Begins p names book 0 p.main [] → SameEvents (source p) (thread names) (main_state p) (starts names 0 p.main [])
  main_same begins = thread_same p names b book 0 links small p.main [] begins none_below

  pub main_within : Begins p names book 0 p.main [] → StepsWithin (source p) (thread names) (b.most + 1) b.most (main_state p) (starts names 0 p.main [])
  main_within begins = thread_within p names b book 0 links small p.main [] begins none_below

  one_below : (arg : ℤ) (i : ℕ) → word_at (word_of arg ∷ []) i < 2 ^ 64
  one_below arg zero = word_below arg
  one_below arg (suc i) = omega arith

  pub child_same : (id n : ℕ) (arg : ℤ) → (id == 0) ≡ false → Begins p names book id n (word_of arg ∷ [])
      → SameEvents (source p) (thread names) (thread_begins p id n arg) (starts names id n (word_of arg ∷ []))
  child_same id n arg other begins = subst (λ z. SameEvents (source p) (thread names)
      (enter (empty_stack id) (word_of arg ∷ []) (p.func n) (frames.Starts z ∷ [])) (starts names id n (word_of arg ∷ []))) other
      (thread_same p names b book id links small n (word_of arg ∷ []) begins (one_below arg))

  pub child_within : (id n : ℕ) (arg : ℤ) → (id == 0) ≡ false → Begins p names book id n (word_of arg ∷ [])
      → StepsWithin (source p) (thread names) (b.most + 1) b.most (thread_begins p id n arg) (starts names id n (word_of arg ∷ []))
  child_within id n arg other begins = subst (λ z. StepsWithin (source p) (thread names) (b.most + 1) b.most
      (enter (empty_stack id) (word_of arg ∷ []) (p.func n) (frames.Starts z ∷ [])) (starts names id n (word_of arg ∷ []))) other
      (thread_within p names b book id links small n (word_of arg ∷ []) begins (one_below arg))
