use Rattle.std.proofs.Common.{◌∙◌, ◌≡◌, ◌⊎◌, inl, inr, ap, sym, subst, refl, IfSome, Option, Some, None, List, ℕ, Bool, true, false, codes}
use Rattle.std.specs.Option.{option_map_or}
use Rattle.std.specs.Str.{bytes_eq}
use Rattle.clap.specs.Words.{found_of, one_text}
use Rattle.clap.proofs.WalkLemmas.{one_text-rows}
use Rattle.tx_words.proofs.reader.flag.Goals as goal

flagged : (o : Option (List ℕ)) (b : Bool) → (o ≡ None → b ≡ false) → (o ≡ Some (codes "true") → b ≡ true) → (o ≡ Some (codes "false") → b ≡ false)
    → IfSome o (λ t. (t ≡ codes "true") ⊎ (t ≡ codes "false")) → b ≡ option_map_or (λ t. bytes_eq t (codes "true")) o false
flagged None b none on off h = none refl
flagged (Some t) b none on off (inl h) = on (ap Some h) ∙ sym (ap (λ s. bytes_eq s (codes "true")) h)
flagged (Some t) b none on off (inr h) = off (ap Some h) ∙ sym (ap (λ s. bytes_eq s (codes "true")) h)

pub returns : goal.returns
returns c =
    let same = one_text-rows (found_of c.args.matches.now) c.args.id.now in
    rw (← same)
    (flagged
    (one_text (found_of c.args.matches.now) c.args.id.now) c.get_flag.result c.get_flag.ensures.none c.get_flag.ensures.value c.get_flag.ensures.other
    (subst (λ (o : Option (List ℕ)). IfSome o (λ t. (t ≡ codes "true") ⊎ (t ≡ codes "false"))) (sym same) c.requires))
