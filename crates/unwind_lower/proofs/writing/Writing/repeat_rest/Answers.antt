use Rattle.std.proofs.Common.{◌≡◌, ◌∙◌, ◌-◌, ◌≤◌, List, [], ◌++◌, ◌∷◌, ap, length, drop, arith}
use Rattle.std.specs.Prelude.{reverse}
use Rattle.std.specs.List.{slice_range}
use Rattle.unwind_lower.specs.declared.items.Item.{Item}
use Rattle.unwind_lower.specs.States.{State, state_of}
use Rattle.unwind_lower.specs.Conditions.{repeat_rest, up_to_end}
use Rattle.unwind_lower.proofs.Work.{repeated_work, copied_slice}
use Rattle.unwind_lower.proofs.writing.Writing.repeat_rest.Goals as goal

pub returns : goal.returns
unfolding state_of repeat_rest
returns c =
    let items : List Item = c.args.self.now.work.items in
    let item = c.args.item in
    let rest = c.in_ok-rest.rest in
    let end = c.len-end.result in
    let all : end ≡ length items = omega (arith, c.args.self.now.work.ok) in
    let within : rest ≤ length items = rw (← c.deref.ensures.value) c.in_ok-rest.ensures.within in
    let count : rest ≡ length (up_to_end (reverse items)) = rw (← c.deref.ensures.value) c.in_ok-rest.ensures.count in
    let pushed : List Item = items ++ item ∷ [] in
    let put : c.extend_from_within.new.self.items ≡ pushed ++ drop (length items - rest) items = c.in_ok-extend_from_within.ensures.items
    ∙ (ap (λ (z : List Item). z ++ slice_range z (end - rest) end) c.in_ok-push.ensures.items
    ∙ (ap (λ n. pushed ++ slice_range pushed (n - rest) n) all ∙ ap (λ (z : List Item). pushed ++ z) (copied_slice items item rest within))) in
    let s : State = state_of c.args.self.now in
    ap (λ (z : List Item). record s { work = z }) (repeated_work items c.extend_from_within.new.self.items item rest within count put)
