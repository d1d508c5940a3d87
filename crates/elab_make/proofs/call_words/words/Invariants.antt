use Rattle.elab_init.specs.cpp_tree.Arena.{trees_of}
use Rattle.elab_init.specs.elab_ctx.Ctx.{ctx_of, work_of}
use Rattle.elab_make.proofs.Wording.{Wording}
use Rattle.elab_make.proofs.call_words.words.Given as goal

abbrev pub invariant-args-2 : goal.invariant-args-2
invariant-args-2 l = Wording (ctx_of l.env) (work_of l.fn.work) l.params l.os l.i (trees_of l.fn.work.nodes.items) (trees_of l.work.nodes.items)
    (work_of l.work) l.list.items
