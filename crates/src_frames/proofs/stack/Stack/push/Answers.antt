use Rattle.std.proofs.Common.{◌≡◌, ◌∙◌, ◌+◌, ◌++◌, length, sym, ap, arith}
use Rattle.src_frames.specs.Sorts.{weight, atomics_in, place_in, handlers_in}
use Rattle.src_frames.proofs.Counts.{atomics_push, atomics_few, weight_few}
use Rattle.src_frames.proofs.Handlers.{handlers_push}
use Rattle.src_frames.proofs.stack.Stack.push.Goals as goal

pub overflow_add-self : goal.overflow_add-self
overflow_add-self c = omega (
  arith,
  c.args.self.now.counted,
  atomics_few c.args.self.now.list.items,
  c.args.self.now.list.ok,
  weight_few c.args.frame,
  c.weight-more.ensures,
)

pub invariant_of-self-in-Ok : goal.invariant_of-self-in-Ok
invariant_of-self-in-Ok c =
    let old = c.args.self.now.list.items in
    let f = c.args.frame in
    let split : atomics_in c.push.new.self.items ≡ atomics_in old + weight f = ap atomics_in c.in-Ok.ensures.items ∙ atomics_push old f in
    let more : c.args.self.now.atomics + c.weight-more.result ≡ atomics_in c.push.new.self.items =
    omega (arith, c.args.self.now.counted, split, c.weight-more.ensures) in
    let all : c.len.result ≡ length old = omega (arith, c.args.self.now.list.ok) in
    record {
      counted = more;
      entered = c.in_ok-keep_handler.ensures.kept
          ∙ (ap (λ z. z ++ place_in f c.len.result) c.args.self.now.entered
          ∙ (ap (λ z. handlers_in old ++ place_in f z) all
          ∙ (sym (handlers_push old f) ∙ ap handlers_in (sym c.in-Ok.ensures.items))));
    }

pub invariant_of-self-in-Err : goal.invariant_of-self-in-Err
invariant_of-self-in-Err c =
    let same = c.in-Err.ensures.items in
    let hs = c.args.self.now.handlers.items in
    let put : c.keep_handler.new.handlers.items ≡ hs ++ place_in c.in-Err.failed.value c.len.result = c.in_ok-keep_handler.ensures.kept
    ∙ ap (λ z. hs ++ place_in z c.len.result) (sym c.in-Err.ensures.value_returned) in
    record {
      counted = c.args.self.now.counted ∙ ap atomics_in (sym same);
      entered = c.drop_handler.ensures hs c.len.result put ∙ (c.args.self.now.entered ∙ ap handlers_in (sym same));
    }
