use Rattle.std.proofs.Common.{◌≡◌, ◌-◌, ◌+◌, ◌<◌, suc, length, Some, refl, sym, ◌∙◌, arith}
use Rattle.std.specs.Prelude.{slice_get}
use Rattle.std.proofs.lemmas.Option.{slice_get_read}
use Rattle.src_frames.specs.Shown.{waiting_shown}
use Rattle.src_frames.proofs.Stacks.{put_there}
use Rattle.src_frames.proofs.Counts.{atomics_set}
use Rattle.src_frames.proofs.Handlers.{handlers_set}
use Rattle.src_frames.proofs.stack.Stack.put_waiting.Goals as goal

pub returns-in_ok-add_waiting : goal.returns-in_ok-add_waiting
returns-in_ok-add_waiting c g =
    let fs = c.args.self.now.list.items in
    let count = c.scope_of-count.result in
    let w = waiting_shown g.program c.args.waiting in
    let one_more : count ≡ suc (count - 1) = omega arith in
    let plus_one : count ≡ (count - 1) + 1 = omega arith in
    let within : count - 1 < length fs = omega (arith, c.scope_of-count.ensures.within) in
    let there : slice_get fs (count - 1) ≡ Some c.in-Some.frame.now =
    slice_get_read fs (length fs) (count - 1) c.in-Some.frame.now refl within c.in-Some.ensures.value in
    put_there g fs (count - 1) count c.in-Some.frame.now one_more within c.in-Some.ensures.value c.args.owner w c.add_waiting.new.frame
    (c.scope_of-count.ensures.found (count - 1) c.in-Some.frame.now plus_one there) (c.in_ok-add_waiting.ensures.added g)
    (c.scope_of-count.ensures.passed g w)

pub invariant_of-self : goal.invariant_of-self
invariant_of-self c =
    let fs = c.args.self.now.list.items in
    let count = c.scope_of-count.result in
    let within : count - 1 < length fs = omega (arith, c.scope_of-count.ensures.within) in
    let put = c.add_waiting.new.frame in
    let frame = c.in-Some.frame.now in
    record {
      counted = c.args.self.now.counted ∙ sym (atomics_set fs (count - 1) put frame within c.in-Some.ensures.value c.add_waiting.ensures.kept);
      entered = c.args.self.now.entered ∙ sym (handlers_set fs (count - 1) put frame within c.in-Some.ensures.value c.add_waiting.ensures.handles);
    }
