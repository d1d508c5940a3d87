use Rattle.cpp_types.specs.Typ.{typ_of}
use Rattle.elab_init.specs.elab_ctx.Ctx.{ctx_of, traits_of}
use Rattle.class_records.proofs.Whole.{whole_is}
use Rattle.class_records.proofs.beginning.add_whole.Goals as goal

pub returns : goal.returns
returns c =
    whole_is (ctx_of c.args.env.now) (ctx_of c.add_name.new.env) (ctx_of c.add_class.new.env)
    (ctx_of c.add_rows.new.env) c.args.name.now c.in_ok-named.named.items c.in_ok-copied.copied.items c.args.class (typ_of c.class_type.result)
    (traits_of c.no_traits.result)
    c.in_ok-named.ensures.items c.class_type.ensures c.requires c.in_ok-add_name.ensures c.in_ok-copied.ensures.items c.in_ok-add_class.ensures
    c.no_traits.ensures c.in_ok-add_rows.ensures
