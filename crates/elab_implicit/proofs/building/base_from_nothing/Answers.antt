use Rattle.cpp_types.specs.Typ.{class}
use Rattle.elab_entry.specs.cpp_tree.Notation.{plain}
use Rattle.elab_entry.specs.elab_ctx.Ctx.{ctx_of}
use Rattle.elab_entry.specs.elab_rules.Members.{as_base_of}
use Rattle.elab_implicit.proofs.GivenParts.{abstract_back}
use Rattle.elab_implicit.proofs.PartLists.{nothing_same}
use Rattle.elab_implicit.proofs.building.base_from_nothing.Goals as goal

pub returns-clause-ctx : goal.returns-clause-ctx
returns-clause-ctx c = abstract_back (ctx_of c.args.env.now) _ _ c.args.base _ c.allow_base-was.ensures.ctx c.allow_base-was.ensures.was c.restore_base.ensures

pub returns-clause-made : goal.returns-clause-made
returns-clause-made c = nothing_same _ _ _ (as_base_of (ctx_of c.args.env.now) c.args.base) _
    (plain (class c.args.base)) _ c.args.at c.allow_base-was.ensures.ctx c.class_type.ensures c.default_object-made.ensures
