use Rattle.std.proofs.Common.{refl}
use Rattle.tx_memory.specs.View.{layout_of, words_of}
use Rattle.tx_runtime.proofs.SlotLemmas.{relog, log_same, sound_forgot, newest_back, newest_none, newest_noted, newest_least, newest_access, newest_words}
use Rattle.tx_runtime.proofs.LogSavepoints.{log_forgot}
use Rattle.tx_runtime.proofs.thread.ThreadSlot+A+A+Saved.undo_least.Goals as goal

pub undo_newest-requires-clause-words : goal.undo_newest-requires-clause-words
undo_newest-requires-clause-words g c = newest_back (layout_of c.args.memory.now) c.args.self.now c.requires.sound

pub returns-clause-noted : goal.returns-clause-noted
returns-clause-noted g c = newest_noted c.args.self.now.log c.in-Some.word c.requires.mark c.in-Some.ensures.noted

pub returns-clause-least : goal.returns-clause-least
returns-clause-least g c = newest_least c.args.self.now.log c.in-Some.word c.requires.mark c.in-Some.ensures.least

pub returns-clause-access : goal.returns-clause-access
returns-clause-access g c = newest_access (layout_of c.args.memory.now) c.args.self.now c.in-Some.word c.requires.sound c.in-Some.ensures.noted

pub returns-clause-words : goal.returns-clause-words
returns-clause-words g c = newest_words c.args.self.now.log c.in-Some.word (words_of c.args.memory.now) _ c.requires.mark c.in-Some.ensures.words

pub returns-clause-local : goal.returns-clause-local
returns-clause-local g c = λ holders t. relog g.A.Actor.state g.A.Actor.saved_state holders t c.args.self.now _ _
    (log_forgot c.args.self.now.log _ c.in-Some.word c.requires.mark c.in-Some.ensures.notes c.undo_newest.ensures.marks)

pub returns-clause-sound : goal.returns-clause-sound
returns-clause-sound g c = sound_forgot (layout_of c.args.memory.now) c.args.self.now c.undo_newest.new.self c.in-Some.word c.requires.mark c.requires.sound
    c.in-Some.ensures.notes c.undo_newest.ensures.marks

pub returns-in_default-clause-none : goal.returns-in_default-clause-none
returns-in_default-clause-none g c = newest_none c.args.self.now.log c.requires.mark (c.in_default.ensures.none.0 refl)

pub returns-in_default-clause-same : goal.returns-in_default-clause-same
returns-in_default-clause-same g c = λ holders t. relog g.A.Actor.state g.A.Actor.saved_state holders t c.args.self.now c.undo_newest.new.self _
    (log_same c.args.self.now.log c.undo_newest.new.self c.in_default.ensures.same_notes c.undo_newest.ensures.marks)
