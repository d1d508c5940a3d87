-- At a note, both threads make a move.
use Rattle.std.proofs.Common.{ℕ, ◌≡◌, ◌≤◌, false, ap, sym, ◌∙◌, subst, List, Some, true, Bool}
use Rattle.std.specs.Prelude.{slice_get}
use Rattle.std.specs.Option.{option_map}
use Rattle.tx_events.specs.Simulation.{Path}
use Rattle.lockstep.specs.Moves.{Move}
use Rattle.tx_code.specs.declared.instr.Instr.{Instr}
use Rattle.tx_code.specs.Meaning.{Names, Home, Frame, Runs, Unwinds, Act, Lost, act, if_some, fetch, code_of, step_act, thread}
use Rattle.tx_code.specs.Meaning as code
use Rattle.tx_code.specs.Renaming.{renamed}
use Rattle.cpp_tree.specs.cpp_types.Typ.{Typ}
use Rattle.src_mean.specs.Linked.{Program}
use Rattle.src_mean.specs.Exceptions as exceptions
use Rattle.src_mean.specs.Frames.{State}
use Rattle.src_mean.specs.Frames as frames
use Rattle.src_mean.specs.Source.{source}
use Rattle.symbolic_source.specs.Terms.{Exception, Values, exception_of}
use Rattle.symbolic_source.specs.Outcomes.{Outcome, Shows}
use Rattle.symbolic_source.specs.Steps.{advanced}
use Rattle.symbolic_source.specs.Small.{IsSmall, AreWords, is_stuck}
use Rattle.symbolic_source.proofs.Advance.{advance}
use Rattle.symbolic_code.specs.Facts.{Fact, AllHold}
use Rattle.symbolic_code.specs.Places.{Place, coded, frame_at}
use Rattle.symbolic_code.specs.Following.{followed, Follows, AreNames}
use Rattle.symbolic_code.proofs.Followed.{followed_follows}
use Rattle.body_check.specs.Notes.{Bounds, no_answers, Flies, Fits}
use Rattle.body_check.specs.Linked.{Held, Based, Stands, Stopped}
use Rattle.body_check.proofs.Landing.{none_right, follow_move}

module _ (p : Program) (names : Names) (numbers : Typ → ℕ) (h : Held) (b : Bounds) (thrown : Typ → Bool) (home : Home) (limit : ℕ) (rest : List frames.Frame)
    (below_frames : List Frame) (small : IsSmall p)
    (Related : ℕ → State → code.State → Type 0)
    (stands : (rank : ℕ) (s : State) (top : Frame) → Stands p numbers thrown h home limit rest rank s top → Related rank s (Runs top below_frames))
    (stops : (s : State) (c : code.State) → Stopped names s c → Related 0 s c)
    (flies : (s : State) (x : Values) → AreWords x → Based thrown home limit x → (known : List Fact) → AllHold p h.func x known
    → (index : ℕ) (q : Place) (e : Exception) (o : Outcome) → (t : Flies p h.func b h.notes thrown numbers h.rows known index q e o)
    → thrown (exception_of p h.func x e).typ ≡ true → Shows p h.func x rest o s
    → Related t.rank s (Unwinds (coded numbers (exception_of p h.func x e)) (frame_at p h.func numbers x home index q) below_frames))
    (current : code.current below_frames ≡ option_map (coded numbers) (frames.handled rest))
    (current_type : (e : exceptions.Exception) → frames.handled rest ≡ Some e → thrown e.typ ≡ true)
    (is_body : names.body home.func home.safe ≡ Some h.body) (right : AreNames p h.func numbers names (names.numbering home.func) h.table) where
  pub fetched : (i : ℕ) (a : Instr) → slice_get h.body.code i ≡ Some a → fetch names home i ≡ Some (renamed (names.numbering home.func) a)
  fetched i a e = ap (λ z. option_map (renamed (names.numbering home.func)) (slice_get (code_of z) i)) is_body
      ∙ ap (λ z. option_map (renamed (names.numbering home.func)) z) e

  pub step_is : (x : Values) (i : ℕ) (q : Place) (a : Instr) → slice_get h.body.code i ≡ Some a
      → step_act names (Runs (frame_at p h.func numbers x home i q) below_frames)
      ≡ act names (renamed (names.numbering home.func) a) (frame_at p h.func numbers x home i q) below_frames
  step_is x i q a e = ap (λ z. if_some z Lost (λ j. act names j (frame_at p h.func numbers x home i q) below_frames)) (fetched i a e)

  pub note_move : (rank : ℕ) (s : State) (top : Frame) (t : Stands p numbers thrown h home limit rest rank s top) (a : Instr)
      → slice_get h.body.code t.note.index ≡ Some a
      → is_stuck (advanced p h.func no_answers t.note.lead t.note.outcome) ≡ false → t.note.lead ≤ b.longest
      → Fits p h.func b h.notes thrown numbers h.rows t.note.facts t.note.lead rank
      (followed h.table t.note.facts t.note.index a t.note.place (advanced p h.func no_answers t.note.lead t.note.outcome))
      → Move (source p) (thread names) b.most b.longest Related rank s (Runs top below_frames)
  note_move rank s top t a is foreseen short fits =
      let v = advance p h.func t.values no_answers rest small t.are_words (none_right p t.values) t.note.lead t.note.outcome s t.shows foreseen in
      let follows = followed_follows p h.func numbers t.values home rest below_frames small t.are_words t.based.0 names
      (names.numbering home.func) h.table right t.note.facts t.note.index a t.note.place
      (advanced p h.func no_answers t.note.lead t.note.outcome) v.to t.holds v.shows in
      let stepped = ap (λ z. if_some z Lost (λ i. act names i (frame_at p h.func numbers t.values home t.note.index t.note.place) below_frames))
      (fetched t.note.index a is) in
      subst (λ z. Move (source p) (thread names) b.most b.longest Related rank s (Runs z below_frames)) (sym t.frame)
      (follow_move p names numbers h b thrown home limit rest below_frames small Related stands stops flies current current_type t.note.lead rank t.values
      t.are_words t.based t.note.facts t.holds s v.to (Runs (frame_at p h.func numbers t.values home t.note.index t.note.place) below_frames)
      (subst (λ z. Path (source p) z s v.to) v.long v.path) short
      (followed h.table t.note.facts t.note.index a t.note.place (advanced p h.func no_answers t.note.lead t.note.outcome)) fits
      (subst (λ z. Follows p h.func numbers t.values home rest below_frames
      (followed h.table t.note.facts t.note.index a t.note.place (advanced p h.func no_answers t.note.lead t.note.outcome)) z v.to) (sym stepped) follows))
