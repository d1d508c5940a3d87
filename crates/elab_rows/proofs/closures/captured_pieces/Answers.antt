use Rattle.std.proofs.Common.{◌≡◌, Err, map, rules}
use Rattle.std.proofs.lemmas.Option.{slice_get_within}
use Rattle.elab_casts.specs.elab_ctx.Ctx.{ctx_of, work_of, capture_of}
use Rattle.elab_casts.specs.elab_ctx.Says.{Faults}
use Rattle.elab_casts.specs.elab_init.Parts.{part_of}
use Rattle.elab_casts.proofs.elab_make.Calling.{element_at, refused_all}
use Rattle.elab_casts.specs.elab_rules.Expressions.{captured_pieces}
use Rattle.elab_rows.proofs.Piecing.{piecing_more, piecing_short, piecing_done, piecing_fails, no_more}
use Rattle.elab_rows.proofs.closures.captured_pieces.Goals as goal

pub returns-in_default : goal.returns-in_default
returns-in_default c = piecing_short (ctx_of c.args.env.now) (work_of c.args.work.now) c.args.parts.now c.args.captures.now _ _ _ _ _ c.members.invariant
    (no_more c.args.captures.now c.members.i c.in_default.ensures)

pub members-preserved : goal.members-preserved
members-preserved c = piecing_more (ctx_of c.args.env.now)
    (work_of c.args.work.now) c.args.parts.now c.args.captures.now c.members.i _ _ _ _ _ _ _ c.index-parts-i.result _ c.in-Some.capture.now _ _
    c.members.invariant c.members-test.true (slice_get_within c.args.captures.now c.members.i c.in-Some.capture.now c.in-Some.ensures) c.index-parts-i.is
    (element_at c.args.captures.now c.members.i c.in-Some.capture.now c.in-Some.ensures) c.in_ok-kid.ensures c.in_ok-keep.ensures

pub returns : goal.returns
returns c = piecing_done (ctx_of c.args.env.now)
    (work_of c.args.work.now) c.args.parts.now c.args.captures.now _ _ _ _ _ c.members.invariant c.members-test.false

pub returns-in_err-kid : goal.returns-in_err-kid
returns-in_err-kid c =
    let known : Faults c.in_err-kid.field-0.0 (captured_pieces (ctx_of c.args.env.now) (work_of c.args.work.now) (map part_of c.args.parts.now)
    (map capture_of c.args.captures.now)) = piecing_fails (ctx_of c.args.env.now)
    (work_of c.args.work.now) c.args.parts.now c.args.captures.now c.members.i _ _ _ _ c.index-parts-i.result _ c.in-Some.capture.now _ _
    c.members.invariant c.members-test.true (slice_get_within c.args.captures.now c.members.i c.in-Some.capture.now c.in-Some.ensures) c.index-parts-i.is
    (element_at c.args.captures.now c.members.i c.in-Some.capture.now c.in-Some.ensures) c.in_err-kid.ensures in
    let is_error : c.from_residual.result ≡ Err c.in_err-kid.field-0.0 = search rules in
    refused_all _ _ _ _ _ _ is_error known
