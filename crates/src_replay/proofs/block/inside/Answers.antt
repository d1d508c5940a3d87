use Rattle.std.proofs.Common.{◌≡◌, sym, subst, true}
use Rattle.std.specs.Prelude.{IfOk}
use Rattle.tx_events.specs.declared.Event.{Event}
use Rattle.tx_memory.specs.View.{layout_of, words_of}
use Rattle.src_replay.specs.Undone.{copies}
use Rattle.src_replay.specs.Inner.{has_size, comes_to, Came}
use Rattle.src_replay.proofs.Undone.{ended_nested}
use Rattle.src_replay.proofs.block.inside.Goals as goal

pub returns-in-Store-clause-came : goal.returns-in-Store-clause-came
returns-in-Store-clause-came c h =
    subst (λ (e : Event). IfOk c.store.result (λ x. Came (words_of c.store.new.memory) (copies c.store.new.nested (words_of c.store.new.memory)) x.step
    (comes_to (layout_of c.args.memory.now) (words_of c.args.memory.now) (copies c.args.nested.now (words_of c.args.memory.now)) e))) (sym c.in-Store.is)
    (c.store.ensures.came c.in-Store.volatile (subst (λ (e : Event). has_size e ≡ true) c.in-Store.is h))

pub returns-in-EndAtomic-clause-nested : goal.returns-in-EndAtomic-clause-nested
returns-in-EndAtomic-clause-nested c = ended_nested (layout_of c.args.memory.now) c.args.nested.now c.end.new.nested
    (c.end.ensures.ended c.requires.open) c.requires.nested
