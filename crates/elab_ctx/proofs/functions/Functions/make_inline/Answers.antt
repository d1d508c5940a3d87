use Rattle.std.proofs.Common.{◌∙◌, ap, sym, refl}
use Rattle.cpp_tree.specs.declared.program.Linkage.TheVariants.{Inline}
use Rattle.elab_ctx.specs.declared.env.FuncDecl.{FuncDecl}
use Rattle.elab_ctx.specs.Places.{is_member_of, is_free_of, places_where}
use Rattle.elab_ctx.proofs.PlaceLists.{places_changed}
use Rattle.elab_ctx.proofs.functions.Functions.make_inline.Goals as goal

pub invariant_of-self : goal.invariant_of-self
invariant_of-self c =
    let change : FuncDecl → FuncDecl = λ f. record f { linkage = Inline } in
    let before = c.self.inside.list.items in
    record {
      members = λ n. c.self.invariant.members n ∙ sym
          (ap (places_where (is_member_of n) 0) c.make_inline_at.ensures ∙ places_changed (is_member_of n) change (λ f. refl) 0 c.args.place before);
      named = λ name. c.self.invariant.named name ∙ sym
          (ap (places_where (is_free_of name) 0) c.make_inline_at.ensures ∙ places_changed (is_free_of name) change (λ f. refl) 0 c.args.place before);
    }
