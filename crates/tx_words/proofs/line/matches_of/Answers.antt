use Rattle.std.proofs.Common.{rules, ◌≡◌, ◌∙◌, ap, sym, true, false, map, [], inl, inr, subst, refl, Bool}
use Rattle.std.specs.String.{string_bytes}
use Rattle.clap.specs.Words.{App, fault_of, is_simple, is_simple_and_free, subcommand_of, takes}
use Rattle.clap.specs.Words.{kind_of, HasKind, IsAmong, Kinds}
use Rattle.clap.specs.declared.error.Error.{Error}
use Rattle.clap.specs.declared.error.kind.ErrorKind.TheVariants.{OutOfMemory}
use Rattle.tx_words.proofs.Simple.{simple, simple_and_free}
use Rattle.tx_words.proofs.line.matches_of.Goals as goal

pub returns-in-Ok-clause-some : goal.returns-in-Ok-clause-some
returns-in-Ok-clause-some c =
    let app = c.in_ok-txcc.ensures in (
      sym (ap (λ (a : App). fault_of a (map string_bytes c.args.words.now)) app) ∙ c.in-Ok.ensures.kinds (ap is_simple_and_free app ∙ simple_and_free),
      (c.in-Ok.ensures.matches (ap is_simple app ∙ simple)).1 ∙ ap (λ (a : App). subcommand_of a (map string_bytes c.args.words.now)) app,
    )

not_true : (b : Bool) → (b ≡ true → ⊥) → b ≡ false
not_true true h = absurd (h refl)
not_true false h = refl

no_kind : (ks : Kinds) (e : Error) → HasKind ks e → (kind_of e ≡ OutOfMemory → ⊥) → ks ≡ [] → ⊥
no_kind ks e (inl h) not e0 = not h
no_kind ks e (inr h) not e0 = subst (λ (k : Kinds). IsAmong (kind_of e) k) e0 h

pub returns : goal.returns
returns c =
    let app = c.in_ok-txcc.ensures in
    let not : kind_of c.in-Err.error ≡ OutOfMemory → ⊥ = search rules in
    record {
      none = λ e. not_true _ (λ t. not (c.in-Err.ensures.passes (ap (λ (a : App). takes a (map string_bytes c.args.words.now)) app ∙ t)));
      fault = λ e f. no_kind _ c.in-Err.error (c.in-Err.ensures.kinds (ap is_simple_and_free app ∙ simple_and_free)) not
          (ap (λ (a : App). fault_of a (map string_bytes c.args.words.now)) app ∙ f);
      some = tt;
    }
