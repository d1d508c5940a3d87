use Rattle.std.proofs.Common.{◌≡◌, ◌∙◌, sym, Some, Err, slice_get, rules}
use Rattle.std.proofs.lemmas.Option.{slice_get_within}
use Rattle.elab_init.specs.cpp_types.Typ.{typs_of}
use Rattle.elab_init.specs.cpp_tree.Arena.{trees_of}
use Rattle.elab_init.specs.elab_ctx.Ctx.{ctx_of, work_of}
use Rattle.elab_init.specs.elab_ctx.Operands.{operands_in}
use Rattle.elab_init.specs.elab_ctx.Says.{Faults}
use Rattle.elab_init.specs.elab_rules.Initialising.{words}
use Rattle.elab_make.proofs.Calling.{no_element, element_at, refused_all}
use Rattle.elab_make.proofs.Wording.{wording_more, wording_short, wording_done, wording_fails, word_within}
use Rattle.elab_make.proofs.call_words.words.Goals as goal

pub returns-in_default : goal.returns-in_default
returns-in_default c = wording_short (ctx_of c.args.env.now) (work_of c.args.work.now) c.args.params.now c.args.os.now _ _ _ _ _ c.args-2.invariant
    (no_element c.args.os.now c.args-2.i c.operand_at.result c.operand_at.ensures c.in_default.not-Some)

pub args-2-preserved : goal.args-2-preserved
args-2-preserved c =
    let is : slice_get c.args.os.now c.args-2.i ≡ Some c.in-Some.o = sym c.operand_at.ensures ∙ c.in-Some.is in
    wording_more (ctx_of c.args.env.now) (work_of c.args.work.now) c.args.params.now c.args.os.now c.args-2.i _ _ _ _ _ _ _ c.index-params-i.result _
    c.in-Some.o _ _ c.args-2.invariant c.requires c.args-2-test.true (slice_get_within c.args.os.now c.args-2.i c.in-Some.o is) c.index-params-i.is
    (element_at c.args.os.now c.args-2.i c.in-Some.o is) c.in_ok-word.ensures c.in_ok-keep.ensures

pub returns : goal.returns
returns c = wording_done (ctx_of c.args.env.now) (work_of c.args.work.now) c.args.params.now c.args.os.now _ _ _ _ _ c.args-2.invariant c.args-2-test.false

pub passed-requires : goal.passed-requires
passed-requires c =
    let is : slice_get c.args.os.now c.args-2.i ≡ Some c.in-Some.o = sym c.operand_at.ensures ∙ c.in-Some.is in
    word_within _ _ c.args.os.now c.args-2.i c.in-Some.o c.args-2.invariant.grows c.requires is

pub returns-in_err-word : goal.returns-in_err-word
returns-in_err-word c =
    let is : slice_get c.args.os.now c.args-2.i ≡ Some c.in-Some.o = sym c.operand_at.ensures ∙ c.in-Some.is in
    let known : Faults c.in_err-word.field-0.0 (words (ctx_of c.args.env.now) (work_of c.args.work.now) (typs_of c.args.params.now)
    (operands_in (trees_of c.args.work.now.nodes.items) c.args.os.now)) =
    wording_fails (ctx_of c.args.env.now) (work_of c.args.work.now) c.args.params.now c.args.os.now c.args-2.i _ _ _ _ c.index-params-i.result _ c.in-Some.o
    _ _ c.args-2.invariant c.requires c.args-2-test.true (slice_get_within c.args.os.now c.args-2.i c.in-Some.o is) c.index-params-i.is
    (element_at c.args.os.now c.args-2.i c.in-Some.o is) c.in_err-word.ensures in
    let is_error : c.from_residual.result ≡ Err c.in_err-word.field-0.0 = search rules in
    refused_all _ _ _ _ _ _ is_error known
