-- Initialisers of members fit still where the unit has grown.
use Rattle.std.proofs.Common.{◌≡◌, refl, sym, ap, ◌∙◌, ℕ, true, Option, Some, None, is_some, slice_get, option_and_then}
use Rattle.elab_rules.specs.cpp_types.Typ.{Typ}
use Rattle.elab_rules.specs.cpp_types.Class.{Class, completion_of}
use Rattle.elab_rules.specs.cpp_tree.Units.{Func}
use Rattle.elab_rules.specs.cpp_tree.Rows.{Setting}
use Rattle.elab_rules.specs.cpp_tree.Trees.{Tree}
use Rattle.elab_rules.specs.cpp_tree.declared.roles.Role.TheVariants.{Initialiser}
use Rattle.elab_rules.specs.elab_ctx.Ctx.{Default}
use Rattle.elab_rules.specs.Names.{members_in}
use Rattle.setting_growth.specs.Growth.{HeldEarlier, Grows}
use Rattle.setting_growth.proofs.Settings.{frame_stays}
use Rattle.setting_growth.proofs.Trees.{fits_law}
use Rattle.elab_fits.specs.Standing.{BuildsOne}
use Rattle.elab_fits_braces.specs.Moving.{DefaultFits, alone}
use Rattle.elab_fits_braces.specs.Defaults.{IsDefault, UnitGrows, DefaultsStay}

module _ (old new : Setting) (o : HeldEarlier old.classes) (g : UnitGrows old new) where
  record Kept (n : ℕ) : Type 0 where
    complete : is_some (completion_of new.classes n) ≡ true
    same : slice_get new.classes n ≡ slice_get old.classes n

  class_kept : (n : ℕ) → is_some (completion_of old.classes n) ≡ true → Kept n
  class_kept n h = by (slice_get old.classes n) refl h
    where
      found : (c : Class) (x : Option ℕ) → slice_get old.classes n ≡ Some c → c.complete ≡ x → is_some x ≡ true → Kept n
      found c (Some k) e f i = let a = g.classes.complete n k c e f in record {
        complete = ap (λ (y : Option Class). is_some (option_and_then (λ (z : Class). z.complete) y)) a ∙ ap is_some f;
        same = a ∙ sym e;
      }
      found c None e f i = absurd cc

      by : (x : Option Class) → slice_get old.classes n ≡ x → is_some (option_and_then (λ (c : Class). c.complete) x) ≡ true → Kept n
      by (Some c) e i = found c c.complete e refl i
      by None e i = absurd cc

  module _ (f : Func) (d : Default) where
    abbrev at_old : Setting
    at_old = alone (record old { function = f }) d

    abbrev at_new : Setting
    at_new = alone (record new { function = f }) d

    grows : Grows at_old at_new
    grows = record { classes = g.classes; slots = g.slots; funcs = g.funcs; globals = g.globals; function = frame_stays at_old.function }

    builds_still : (t : Typ) (e : Tree) → BuildsOne at_old t e → BuildsOne at_new t e
    builds_still t e h = record { fits = λ p full. fits_law at_old at_new o grows p Initialiser e (h.fits p full); builds = h.builds }

    default_still : (t : Typ) → DefaultFits (record old { function = f }) t d → DefaultFits (record new { function = f }) t d
    default_still t h = record { one = builds_still t d.init h.one; part = builds_still t _ h.part; movable = h.movable; pliable = h.pliable; outermost = h.outermost }

  is_still : (d : Default) → IsDefault old d → IsDefault new d
  is_still d h = let k = class_kept d.class h.complete in record {
    complete = k.complete;
    member = h.member;
    at = ap (λ (x : Option Class). slice_get (members_in x) d.member) k.same ∙ h.at;
    fits = λ f. default_still f d h.member.typ (h.fits f);
  }

pub defaults_stay : DefaultsStay
defaults_stay old new ds o g h = record { each = λ i d e. is_still old new o g d (h.each i d e) }
