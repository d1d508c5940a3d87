use Rattle.std.proofs.Common.{◌++◌, ◌∷◌, [], length, ap, ◌∙◌}
use Rattle.tx_memory.specs.View.{layout_of, words_of}
use Rattle.tx_runtime.proofs.RuntimeViews.{first_whole, first_threads, first_waits, first_parts, no_flags}
use Rattle.tx_runtime.proofs.runtime.Runtime.new.Goals as goal

pub invariant_of-engine : goal.invariant_of-engine
invariant_of-engine g c = record {
  whole = first_whole (layout_of c.args.memory) c.args.threads c.in_ok-holders.holders c.push.new.self.items c.new-2.result
      (c.in_ok-push.ensures.items ∙ ap (λ z. z ++ c.new-2.result ∷ []) c.new-slots.ensures.items) c.requires.memory c.requires.some c.requires.limit
      c.in_ok-holders.ensures.limit c.in_ok-holders.ensures.free (c.new-2.ensures.sound (layout_of c.args.memory));
}

pub returns-clause-first : goal.returns-clause-first
returns-clause-first g c =
    let items = c.in_ok-push.ensures.items ∙ ap (λ z. z ++ c.new-2.result ∷ []) c.new-slots.ensures.items in
    first_parts (words_of c.args.memory) _ _ _ _ _ c.args.input.items _ (g.A.Actor.state c.args.main)
    (first_threads g.A.Actor.state g.A.Actor.saved_state c.in_ok-holders.holders c.push.new.self.items c.new-2.result
    (g.A.Actor.state c.args.main) items c.in_ok-holders.ensures.free c.new-2.ensures.state c.new-2.ensures.runs c.new-2.ensures.tx)
    (ap length items)
    (first_waits c.push.new.self.items c.new-2.result items c.new-2.ensures.waits)
    c.new-4.ensures.items c.new-5.ensures.items c.new-3.ensures

pub returns-clause-inside : goal.returns-clause-inside
returns-clause-inside g c t = no_flags c.args.threads t c.in_ok-inside.inside.items (c.in_ok-inside.ensures.items_if_clones_equal (λ y h. h))
