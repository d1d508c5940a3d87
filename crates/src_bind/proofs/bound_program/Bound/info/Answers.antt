use Rattle.std.proofs.Common.{◌∙◌, ap, option_map}
use Rattle.src_bind.specs.Infos.{info_of}
use Rattle.src_bind.specs.Bounds.{given}
use Rattle.src_bind.proofs.Looked.{info_is}
use Rattle.src_bind.proofs.bound_program.Bound.info.Goals as goal

pub returns : goal.returns
returns c = ap (option_map (info_of (given c.args.self.now).program)) c.info_at.ensures
    ∙ info_is (given c.args.self.now) _ c.args.self.now.tables c.deref.result.now c.args.number c.deref.ensures.value
