use Rattle.tx_memory.specs.View.{layout_of, words_of}
use Rattle.tx_runtime.proofs.SlotLemmas.{relog, sound_forgot_all, oldest_words}
use Rattle.tx_runtime.proofs.LogSavepoints.{log_forgot_all}
use Rattle.tx_runtime.proofs.thread.ThreadSlot+A+A+Saved.undo_word.Goals as goal

pub returns-clause-words : goal.returns-clause-words
returns-clause-words g c = oldest_words (layout_of c.args.memory.now) c.args.self.now c.args.word
    (words_of c.args.memory.now) _ c.requires.sound c.undo_word.ensures.words

pub returns-clause-local : goal.returns-clause-local
returns-clause-local g c = λ holders t. relog g.A.Actor.state g.A.Actor.saved_state holders t c.args.self.now _ _
    (log_forgot_all c.args.self.now.log _ c.args.word c.undo_word.ensures.notes c.undo_word.ensures.marks)

pub returns-clause-sound : goal.returns-clause-sound
returns-clause-sound g c = sound_forgot_all
    (layout_of c.args.memory.now) c.args.self.now c.undo_word.new.self c.args.word c.requires.sound c.undo_word.ensures.notes c.undo_word.ensures.marks
