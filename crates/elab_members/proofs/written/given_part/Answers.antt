use Rattle.std.proofs.Common.{◌≡◌, ◌∙◌, List, is_none, true, false, subst, refl, sym, ap, Err, rules}
use Rattle.elab_entry.specs.cpp_types.Typ.{typ_of}
use Rattle.elab_entry.specs.cpp_lex.Tokens.{lexemes_of}
use Rattle.elab_entry.specs.elab_types.Syntax.{syntax_of, trees_at}
use Rattle.elab_implicit.specs.declared.given.Given.{Given as GivenRec}
use Rattle.elab_implicit.specs.Written.{found_for}
use Rattle.elab_entry.specs.cpp_tree.declared.faults.ElabFault.{ElabFault}
use Rattle.elab_entry.specs.elab_ctx.Says.{Faults}
use Rattle.elab_members.specs.Giving.{part_more, giving_in}
use Rattle.elab_members.proofs.GivenSteps.{part_closed, part_refused, part_gathered, gathers_fail}
use Rattle.elab_members.proofs.written.given_part.Goals as goal

pub returns : goal.returns
returns g c =
    let free : is_none (found_for c.args.member c.args.list.now.items) ≡ true =
    sym (c.is_open.ensures ∙ ap (λ (z : List GivenRec). is_none (found_for c.args.member z)) c.deref.ensures.value) ∙ c.if-not-is_open.false in
    part_gathered (g.L.MakeLambdas.lambdas c.args.lams.now)
    (lexemes_of c.args.tokens.now) c.args.st.now _ c.args.class c.args.list.now.items _ c.args.member c.args.at (typ_of c.args.ty.now)
    (trees_at (syntax_of c.args.nodes.now) c.args.ids.now)
    (record {
      member = c.args.member;
      at = c.args.at;
      init =
          c.in_ok-init.init;
    }) free c.requires.there c.in_ok-init.ensures refl refl c.in_ok-keep_given.ensures

pub returns-in_err-init : goal.returns-in_err-init
returns-in_err-init g c =
    let is_error : c.from_residual.result ≡ Err c.in_err-init.field-0.0 = search rules in
    let free : is_none (found_for c.args.member c.args.list.now.items) ≡ true =
    sym (c.is_open.ensures ∙ ap (λ (z : List GivenRec). is_none (found_for c.args.member z)) c.deref.ensures.value) ∙ c.if-not-is_open.false in
    gathers_fail _ _ _ _ _ _ is_error (part_refused (g.L.MakeLambdas.lambdas c.args.lams.now)
    (lexemes_of c.args.tokens.now) c.args.st.now c.args.class c.args.list.now.items c.args.member c.args.at (typ_of c.args.ty.now)
    (trees_at (syntax_of c.args.nodes.now) c.args.ids.now) _ free c.in_err-init.ensures)

pub returns-then-not-is_open : goal.returns-then-not-is_open
returns-then-not-is_open g c =
    let closed : is_none (found_for c.args.member c.args.list.now.items) ≡ false =
    sym (c.is_open.ensures ∙ ap (λ (z : List GivenRec). is_none (found_for c.args.member z)) c.deref.ensures.value) ∙ c.if-not-is_open.true in
    subst (λ (z : ElabFault). Faults z (part_more (g.L.MakeLambdas.lambdas c.args.lams.now) (lexemes_of c.args.tokens.now) c.args.class
    (giving_in c.args.st.now c.args.list.now.items) c.args.member c.args.at (typ_of c.args.ty.now) (trees_at (syntax_of c.args.nodes.now) c.args.ids.now)))
    (sym c.ill.ensures)
    (part_closed (g.L.MakeLambdas.lambdas c.args.lams.now)
    (lexemes_of c.args.tokens.now) c.args.st.now c.args.class c.args.list.now.items c.args.member c.args.at (typ_of c.args.ty.now)
    (trees_at (syntax_of c.args.nodes.now) c.args.ids.now) closed)
