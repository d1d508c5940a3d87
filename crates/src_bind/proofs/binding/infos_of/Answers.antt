use Rattle.std.proofs.Common.{Some}
use Rattle.std.proofs.lemmas.List.{drop_more}
use Rattle.cpp_tree.specs.cpp_types.Class.{classes_of}
use Rattle.cpp_tree.specs.Units.{program_of}
use Rattle.src_bind.specs.declared.infos.FuncInfo.{FuncInfo}
use Rattle.src_bind.specs.Infos.{body_found, is_of_type, type_found, has_body}
use Rattle.src_bind.proofs.Frames.{infos_more}
use Rattle.src_bind.proofs.Stay.{def_at, image_more}
use Rattle.src_bind.proofs.binding.infos_of.Goals as goal

pub info-requires-clause-there : goal.info-requires-clause-there
info-requires-clause-there c = def_at (has_body (program_of c.args.program.now)) c.args.kept.now c.loop-def.def-index _ c.requires.there c.loop-def-test.true

pub info-requires-clause-frame : goal.info-requires-clause-frame
info-requires-clause-frame c = c.requires.can.frames _
    (def_at (has_body (program_of c.args.program.now)) c.args.kept.now c.loop-def.def-index _ c.requires.there c.loop-def-test.true)

pub loop-def-preserved : goal.loop-def-preserved
loop-def-preserved c = (
  infos_more (record { program = c.args.program.now; choices = c.args.choices.now }) c.deref.result.now c.loop-def.infos.items c.push.new.self.items
      c.in_ok-info.field-0 c.args.kept.now c.loop-def.def-index _ _
      (drop_more c.args.kept.now c.loop-def.def-index _ c.loop-def-test.true) c.deref.ensures.value c.in_ok-info.ensures.shown c.in_ok-push.ensures.items
      c.loop-def.invariant.0,
  image_more (λ (i : FuncInfo). Some i.body)
      (body_found c.args.program.now) c.loop-def.infos.items c.push.new.self.items c.in_ok-info.field-0 c.args.kept.now c.loop-def.def-index _ _
      (drop_more c.args.kept.now c.loop-def.def-index _ c.loop-def-test.true) c.in_ok-info.ensures.body c.in_ok-push.ensures.items c.loop-def.invariant.1,
  λ sig. image_more (is_of_type (classes_of c.args.program.now.classes.items) sig)
      (type_found
      (program_of c.args.program.now) sig) c.loop-def.infos.items c.push.new.self.items c.in_ok-info.field-0 c.args.kept.now c.loop-def.def-index _ _
      (drop_more c.args.kept.now c.loop-def.def-index _ c.loop-def-test.true) (c.in_ok-info.ensures.types sig) c.in_ok-push.ensures.items
      (c.loop-def.invariant.2 sig),
)
