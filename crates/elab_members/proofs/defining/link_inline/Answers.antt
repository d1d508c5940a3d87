use Rattle.std.proofs.Common.{◌≡◌, ◌∙◌, Bool, true, false, not, map, refl, ap}
use Rattle.elab_entry.specs.cpp_tree.declared.program.Linkage.TheVariants.{Inline}
use Rattle.elab_entry.specs.elab_ctx.Ctx.{Func, ctx_of, func_of}
use Rattle.elab_entry.specs.elab_ctx.declared.env.FuncDecl.{FuncDecl}
use Rattle.elab_entry.specs.elab_rules.Initialising.{no_function}
use Rattle.elab_entry.proofs.elab_ctx.Searches.{changed_shown}
use Rattle.class_members.specs.Shown.{storage_of}
use Rattle.elab_members.proofs.OutsideSteps.{not_inline, inline_linked}
use Rattle.elab_members.proofs.defining.link_inline.Goals as goal

is_no : (b : Bool) → not b ≡ true → b ≡ false
is_no true h = absurd cc
is_no false h = refl

is_yes : (b : Bool) → not b ≡ false → b ≡ true
is_yes true h = refl
is_yes false h = absurd cc

pub returns-then-not-storage : goal.returns-then-not-storage
returns-then-not-storage c = not_inline (ctx_of c.args.env.now) c.args.func (storage_of c.args.storage) (is_no c.args.storage.is_inline c.if-not-storage.true)

pub returns : goal.returns
returns c =
    inline_linked (ctx_of c.args.env.now) c.args.func (storage_of c.args.storage) (map func_of c.make_inline.new.self)
    (is_yes c.args.storage.is_inline c.if-not-storage.false)
    (ap (map func_of) c.make_inline.ensures ∙ changed_shown func_of (λ (f : FuncDecl). record f { linkage = Inline })
    (λ (z : Func). record z { linkage = Inline }) c.args.env.now.funcs c.args.func no_function (λ (f : FuncDecl). refl))
