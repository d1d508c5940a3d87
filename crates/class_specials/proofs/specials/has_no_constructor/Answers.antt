use Rattle.std.proofs.Common.{◌≡◌, ◌∙◌, rules, ap, map, is_none}
use Rattle.elab_init.specs.elab_ctx.Ctx.{func_of}
use Rattle.elab_init.specs.elab_rules.Initialising.{is_constructor}
use Rattle.class_specials.proofs.Firsts.{none_first}
use Rattle.class_specials.proofs.specials.has_no_constructor.Goals as goal

pub returns : goal.returns
returns c =
    let nothing : c.is_none.result ≡ is_none c.in_ok-written.field-0 = search rules in
    nothing ∙ ap is_none c.in_ok-written.ensures ∙ none_first (is_constructor c.args.home.now.number) 0 (map func_of c.args.env.now.funcs)
