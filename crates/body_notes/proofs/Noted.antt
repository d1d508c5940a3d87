-- All notes of a body.
use Rattle.std.proofs.Common.{ℕ, suc, ◌≡◌, ◌∙◌, ◌∷◌, ◌+◌, ◌≤◌, true, false, ap, ap₂, subst, sym, List, [], Some, Bor, arith}
use Rattle.std.specs.Prelude.{slice_get}
use Rattle.tx_code.specs.declared.instr.Instr.{Instr}
use Rattle.symbolic_source.specs.Outcomes.{Outcome}
use Rattle.symbolic_source.specs.Frames as frames
use Rattle.symbolic_source.specs.Steps.{advanced, given}
use Rattle.src_frames.specs.declared.trees.TreeAt.{TreeAt}
use Rattle.src_frames.specs.Trees.{tree_shown}
use Rattle.symbolic_source.specs.Small.{is_stuck}
use Rattle.symbolic_code.specs.Facts.{Fact}
use Rattle.symbolic_code.specs.Following.{Table, Next, followed}
use Rattle.symbolic_code.specs.Places.{Place}
use Rattle.symbolic_terms.specs.Meanings.{Meaning}
use Rattle.symbolic_terms.specs.declared.frames.Frames.{Frames}
use Rattle.symbolic_terms.specs.declared.frames.Frames.TheVariants.{Empty, More}
use Rattle.symbolic_terms.specs.declared.frames.Frame.TheVariants.{Then}
use Rattle.symbolic_terms.specs.declared.frames.Way.TheVariants.{Value as ForValue}
use Rattle.symbolic_leaving.specs.Source.{units_of}
use Rattle.symbolic_leaving.specs.Shown.{frames_at}
use Rattle.symbolic_source.specs.Terms.{Term, variable, number}
use Rattle.body_check.specs.Notes.{Fits, no_answers, variables}
use Rattle.body_check.specs.Calls.{NoteFits}
use Rattle.note_landing.specs.declared.notes.Note.{Note}
use Rattle.note_landing.specs.declared.notes.Notes.{Notes}
use Rattle.note_landing.specs.declared.compiled.Compiled.{Compiled}
use Rattle.note_landing.specs.Books.{bounds}
use Rattle.note_landing.specs.Shown.{linked_by, func_by, table_by, notes_by, thrown_by, numbers_by, rows_by, book_by, held_by, note_at, place_by, facts_by, outcome_by}
use Rattle.note_landing.proofs.Shows.{shown_at, shown_from}
use Rattle.body_notes.specs.declared.fits.Pending.{Pending}
use Rattle.body_notes.specs.Checked.{pending_of, is_plain, StepBy, NoteBy, EntryBy, CheckedBy}
use Rattle.body_notes.specs.Entries.{IsEntry, takes_by, entered_at}
use Rattle.body_notes.specs.Named.{AgreeAt}
use Rattle.body_notes.proofs.Plain.{plain_step}
use Rattle.body_notes.proofs.Tables.{followed_so}

module _ (b : Compiled) (m : Meaning) (ns : Notes) where
  pub entry_as : (note : Note) → slice_get ns.list.items 0 ≡ Some note → IsEntry b m note → EntryBy b m ns
  entry_as note e i all types = record {
    note = note_at b.source m note;
    is = shown_at (note_at b.source m) ns.list.items 0 note e;
    first = i.first;
    facts_are = i.facts_are;
    place_is = i.place_is;
    outcome_is = i.outcome_is;
    foreseen = i.foreseen;
    low = i.low;
  }

  pub note_as : (note : Note) (a : Instr) (o : Outcome) → slice_get b.body.now.code.items note.index ≡ Some a → note.lead + 1 ≤ 512
      → o ≡ advanced (linked_by b) (func_by b) no_answers note.lead (outcome_by b m note.outcome) → is_stuck o ≡ false
      → StepBy b m ns (facts_by b m note.facts) (pending_of note) note.index a (place_by b m note.place) o → NoteBy b m ns note
  note_as note a o e short is foreseen fits all types = record {
    instr = a;
    is = e;
    short = short;
    foreseen = subst (λ z. is_stuck z ≡ false) is foreseen;
    fits = subst (λ z. StepBy b m ns (facts_by b m note.facts) (pending_of note) note.index a (place_by b m note.place) z) is fits all types;
  }

  pub plain_as : (t : Table) (known : List Fact) (g : Pending) (index : ℕ) (a : Instr) (q : Place) (o : Outcome) (next : Next) → is_plain a ≡ true → AgreeAt t (table_by b) a → next ≡ followed t known index a q o
      → Fits (linked_by b) (func_by b) bounds (notes_by b m ns) (thrown_by b) (numbers_by b) (rows_by b) known g.lead g.rank next → StepBy b m ns known g index a q o
  plain_as t known g index a q o next e agree is fits all types =
      plain_step (linked_by b) bounds (book_by b all types) (held_by b m ns) known g.lead g.rank index q o a e
      (subst (λ z. Fits (linked_by b) (func_by b) bounds (notes_by b m ns) (thrown_by b) (numbers_by b) (rows_by b) known g.lead g.rank z) (followed_so t (table_by b) known index q o a agree)
      (subst (λ z. Fits (linked_by b) (func_by b) bounds (notes_by b m ns) (thrown_by b) (numbers_by b) (rows_by b) known g.lead g.rank z) is fits))

  pub all_checked : EntryBy b m ns → ((n : ℕ) (note : Note) → slice_get ns.list.items n ≡ Some note → NoteBy b m ns note) → CheckedBy b m ns
  all_checked entry each all types = record {
    entry = entry all types;
    notes = λ at note e. shown_from (note_at b.source m) (λ z. NoteFits (linked_by b) bounds (book_by b all types) (held_by b m ns) z) ns.list.items (λ n x h. each n x h all types) at note e;
  }

  -- the instruction is this one
  pub step_as : (known : List Fact) (g : Pending) (index : ℕ) (a own : Instr) (q : Place) (o : Outcome) → a ≡ own → StepBy b m ns known g index own q o → StepBy b m ns known g index a q o
  step_as known g index a own q o is w = subst (λ z. StepBy b m ns known g index z q o) (sym is) w

-- one variable more
pub variables_more : (from next count n : ℕ) (w : Term) (ws : List Term) → w ≡ variable from → next ≡ from + 1 → count ≡ n + 1 → ws ≡ variables next n → w ∷ ws ≡ variables from count
variables_more from next count n w ws h i j e =
    let a : next ≡ suc from = omega (arith, i) in
    let b : count ≡ suc n = omega (arith, j) in
    ap₂ (λ (x : Term) (xs : List Term). x ∷ xs) h (e ∙ ap (λ z. variables z n) a) ∙ ap (λ z. variables from z) (sym b)

-- one silent step leads to where a function is entered
pub entry_step : (b : Compiled) (m : Meaning) (o : Outcome) (ws : List Term) (n : ℕ) (then : Frames) (none : Bor Frames) (body : TreeAt)
    → o ≡ given (linked_by b) (func_by b) no_answers [] (number 0) (frames.Passes ws (func_by b).words ∷ frames_at b.source m then) → ws ≡ variables 0 n → n ≡ takes_by b
    → then ≡ More (Then ForValue body) none → none.now ≡ Empty → tree_shown (units_of b.source) body ≡ (func_by b).body → o ≡ entered_at b
entry_step b m o ws n then none body is taken count e last tree =
    is ∙ ap (λ z. given (linked_by b) (func_by b) no_answers [] (number 0) (frames.Passes z (func_by b).words ∷ frames_at b.source m then)) (taken ∙ ap (λ z. variables 0 z) count)
    ∙ ap (λ z. given (linked_by b) (func_by b) no_answers [] (number 0) (frames.Passes (variables 0 (takes_by b)) (func_by b).words ∷ frames_at b.source m z)) e
    ∙ ap (λ z. given (linked_by b) (func_by b) no_answers [] (number 0) (frames.Passes (variables 0 (takes_by b)) (func_by b).words ∷ frames.Then frames.value (tree_shown (units_of b.source) body) ∷ frames_at b.source m z)) last
    ∙ ap (λ z. given (linked_by b) (func_by b) no_answers [] (number 0) (frames.Passes (variables 0 (takes_by b)) (func_by b).words ∷ frames.Then frames.value z ∷ [])) tree
