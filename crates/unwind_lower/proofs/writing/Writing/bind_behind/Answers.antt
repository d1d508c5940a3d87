use Rattle.std.proofs.Common.{◌≡◌, ◌∙◌, ◌-◌, ◌≤◌, List, ◌++◌, ◌∷◌, ap, length, take, drop, arith}
use Rattle.std.specs.Prelude.{reverse}
use Rattle.unwind_lower.specs.declared.items.Item.{Item}
use Rattle.unwind_lower.specs.declared.items.Item.TheVariants.{Bind}
use Rattle.unwind_lower.specs.States.{State, state_of}
use Rattle.unwind_lower.specs.Conditions.{bind_behind, up_to_end}
use Rattle.unwind_lower.proofs.Work.{behind_work}
use Rattle.unwind_lower.proofs.writing.Writing.bind_behind.Goals as goal

pub returns : goal.returns
unfolding state_of bind_behind
returns c =
    let items : List Item = c.args.self.now.work.items in
    let new = Bind c.args.jump in
    let rest = c.in_ok-rest.rest in
    let all : c.len.result ≡ length items = omega (arith, c.args.self.now.work.ok) in
    let within : rest ≤ length items = rw (← c.deref.ensures.value) c.in_ok-rest.ensures.within in
    let count : rest ≡ length (up_to_end (reverse items)) = rw (← c.deref.ensures.value) c.in_ok-rest.ensures.count in
    let put : c.insert.new.self.items ≡ take (length items - rest) items ++ new ∷ drop (length items - rest) items = c.in_ok-insert.ensures.items
    ∙ ap (λ n. take (n - rest) items ++ new ∷ drop (n - rest) items) all in
    let s : State = state_of c.args.self.now in
    ap (λ (z : List Item). record s { work = z }) (behind_work items c.insert.new.self.items new rest within count put)
