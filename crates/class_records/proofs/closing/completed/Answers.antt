use Rattle.std.proofs.Common.{List, ap, map, sym, ◌∙◌}
use Rattle.cpp_types.specs.Class.{member_of}
use Rattle.cpp_types.specs.declared.classes.MemberRec.{MemberRec}
use Rattle.elab_init.specs.elab_ctx.Ctx.{ctx_of, special_of}
use Rattle.elab_init.specs.elab_rules.Classes.{takes_const, with_destructor, with_copy, with_default}
use Rattle.class_members.specs.Shown.{home_of}
use Rattle.class_records.proofs.Completion.{completed_is}
use Rattle.class_records.proofs.closing.completed.Goals as goal

pub returns : goal.returns
returns c =
    completed_is (ctx_of c.args.env.now) (ctx_of c.with_destructor.new.env) (ctx_of c.with_copy.new.env) (ctx_of c.with_default.new.env)
    (ctx_of c.finished.new.env) (home_of c.args.home.now) c.args.at (map member_of c.args.members.items) c.args.initialised.now
    c.in_ok-none_written.none_written c.takes_const-copies_const.result c.in_ok-first_copy.first_copy c.in_ok-place.place c.in_ok-copy_place.copy_place
    (special_of c.in_ok-destructor.destructor) (special_of c.in_ok-copy.copy) (special_of c.in_ok-default.default)
    c.in_ok-none_written.ensures c.in_ok-first_copy.ensures
    (c.takes_const-copies_const.ensures ∙ ap (λ (z : List MemberRec). takes_const (ctx_of c.args.env.now) (home_of c.args.home.now)
    (map member_of z) c.in_ok-first_copy.first_copy) c.deref.ensures.value)
    c.in_ok-place.ensures
    (ap (λ (z : List MemberRec). with_destructor (ctx_of c.args.env.now) (home_of c.args.home.now) c.args.at (map member_of z) c.in_ok-place.place)
    (sym c.deref-2.ensures.value) ∙ c.in_ok-destructor.ensures)
    c.in_ok-copy_place.ensures
    (ap (λ (z : List MemberRec). with_copy (ctx_of c.with_destructor.new.env) (home_of c.args.home.now) c.args.at
    (map member_of z) c.in_ok-copy_place.copy_place) (sym c.deref-3.ensures.value) ∙ c.in_ok-copy.ensures)
    (ap (λ (z : List MemberRec). with_default (ctx_of c.with_copy.new.env) (home_of c.args.home.now) c.args.at
    (map member_of z) c.args.initialised.now c.in_ok-none_written.none_written) (sym c.deref-4.ensures.value) ∙ c.in_ok-default.ensures)
    c.in_ok-finished.ensures
