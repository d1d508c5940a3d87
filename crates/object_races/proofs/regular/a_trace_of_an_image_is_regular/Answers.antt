use Rattle.std.proofs.Common.{◌≤◌, arith}
use Rattle.std.specs.Prelude.{nat_le}
use Rattle.std.proofs.lemmas.Bool.{leb-true}
use Rattle.tx_code.specs.Views.{image_view}
use Rattle.tx_events.proofs.WordLemmas.{and_right}
use Rattle.tx_machine.specs.ImageRuns.{layout_of_image, first_words}
use Rattle.vm_thread.specs.Threads.{running, at_main}
use Rattle.regular_traces.proofs.TraceItems as trace
use Rattle.object_races.proofs.regular.a_trace_of_an_image_is_regular.Goals as goal

pub returns : goal.returns
returns c =
    let image = image_view c.args.image.now in
    let size : image.size ≤ 1048576 = leb-true image.size 1048576 (and_right _ (nat_le image.size 1048576) c.an_image_is_whole.ensures.whole) in
    λ input order items h.
    trace.regular running (layout_of_image image) (omega arith) (omega (arith, size)) (first_words image) input (at_main image) order items h
