use Rattle.std.proofs.Common.{◌≡◌, ◌<◌, ℕ, ◌+◌, length, arith}
use Rattle.cpp_syntax.proofs.TypeWords.{tallied_none, tallied_more, tallied_all, came_inside}
use Rattle.cpp_syntax.proofs.outline.Outline.behind_integer_words.Goals as goal

pub words-init : goal.words-init
words-init c = tallied_none _ _

pub words-preserved : goal.words-preserved
words-preserved c = tallied_more _ _ _ _ _ _ c.terminal.ensures.terminal c.words.invariant c.in-Some.ensures.0 c.in-Some.ensures.1

pub words-smaller : goal.words-smaller
words-smaller c =
    let h : c.words.next < length c.args.self.now.terminals = came_inside c.args.self.now _ _ _ c.terminal.ensures.terminal c.in-Some.ensures.1 in
    omega (arith, h)

pub overflow_add-next : goal.overflow_add-next
overflow_add-next c =
    let h : c.words.next < length c.args.self.now.terminals = came_inside c.args.self.now _ _ _ c.terminal.ensures.terminal c.in-Some.ensures.1 in
    let few = c.terminal.ensures.few in omega (arith, h, few)

pub returns-in_default : goal.returns-in_default
returns-in_default c = tallied_all _ _ _ _ _ c.terminal.ensures.terminal c.words.invariant c.in_default.ensures
