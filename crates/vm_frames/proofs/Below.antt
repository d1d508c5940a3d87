-- Frames below the innermost one.
use Rattle.std.proofs.Common.{Bool, true, false, ◌≡◌, ◌<◌, ℕ, List, [], ◌∷◌, length, reverse, refl, sym, ap, ◌∙◌, arith}
use Rattle.std.specs.Prelude.{Some, None, nat_eq}
use Rattle.std.proofs.lemmas.List.{length-reverse}
use Rattle.std.proofs.lemmas.Bool.{true≢false, eqb-true}
use Rattle.tx_events.specs.declared.Event.TheVariants.{Silent}
use Rattle.tx_code.specs.Meaning as meaning
use Rattle.vm_frames.specs.declared.parts.Suspended.{Suspended}
use Rattle.vm_frames.specs.declared.parts.Block.{Block}
use Rattle.vm_frames.specs.declared.parts.Exception.{Exception}
use Rattle.vm_frames.specs.declared.step.Step.TheVariants.{Does}
use Rattle.vm_frames.specs.declared.step.Change.TheVariants.{Return}
use Rattle.vm_frames.specs.Frames.{frames_of, is_outermost}
use Rattle.vm_frames.specs.Steps.{Means}

shown_none : (t : ℕ) (ss : List Suspended) (ws : List ℕ) (bs : List Block) (cs : List Exception) → length ss ≡ 0 → is_outermost (frames_of t ss ws bs cs) ≡ true
shown_none t [] ws bs cs h = refl
shown_none t (s ∷ ss) ws bs cs h = absurd (omega arith)

shown_some : (t : ℕ) (ss : List Suspended) (ws : List ℕ) (bs : List Block) (cs : List Exception) → 0 < length ss
    → is_outermost (frames_of t ss ws bs cs) ≡ false
shown_some t [] ws bs cs h = absurd (omega arith)
shown_some t (s ∷ ss) ws bs cs h = refl

pub outermost_shown : (t n : ℕ) (ss : List Suspended) (ws : List ℕ) (bs : List Block) (cs : List Exception) → n ≡ length ss
    → nat_eq n 0 ≡ is_outermost (frames_of t (reverse ss) ws bs cs)
outermost_shown t n [] ws bs cs h = ap (λ z. nat_eq z 0) h
outermost_shown t n (s ∷ ss) ws bs cs h = not_none n (nat_eq n 0) refl (omega arith)
    ∙ sym (shown_some t (reverse (s ∷ ss)) ws bs cs (omega (arith, length-reverse (s ∷ ss)))) where
      not_none : (n : ℕ) (b : Bool) → nat_eq n 0 ≡ b → 0 < n → b ≡ false
      not_none n true e h = let z : n ≡ 0 = eqb-true n 0 e in absurd (omega arith)
      not_none n false e h = refl

-- a frame is handed these words
pub returns : (f : meaning.Frame) (rest : List meaning.Frame) (h : meaning.Home) → is_outermost rest ≡ false
    → Means (Does Silent (Return None)) (meaning.back_act h [] rest) f rest
returns f [] h e = absurd (true≢false e)
returns f (g ∷ rest) h e = record { is = refl; fits = refl }

pub returns_word : (f : meaning.Frame) (rest : List meaning.Frame) (h : meaning.Home) (w : ℕ) → is_outermost rest ≡ false
    → Means (Does Silent (Return (Some w))) (meaning.back_act h (w ∷ []) rest) f rest
returns_word f [] h w e = absurd (true≢false e)
returns_word f (g ∷ rest) h w e = record { is = refl; fits = refl }
