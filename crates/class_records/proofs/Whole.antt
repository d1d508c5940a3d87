-- A class that no text has named before, step by step.
use Rattle.std.proofs.Common.{◌≡◌, ◌∙◌, ℕ, false, List, [], ◌∷◌, ◌++◌, length, None, ap}
use Rattle.cpp_types.specs.Typ.{Typ, typ, class}
use Rattle.elab_init.specs.elab_ctx.Ctx.{Ctx, Traits}
use Rattle.elab_init.specs.elab_rules.Objects.{no_traits}
use Rattle.elab_init.specs.elab_rules.Globals.{with_type}
use Rattle.elab_init.specs.elab_rules.Classes.{class_named, with_class}

-- what stands behind a class's name
abbrev pub with_rows : Ctx → List ℕ → Traits → Ctx
with_rows c name t = record c { classes = c.classes ++ class_named name None false [] [] None ∷ []; traits = c.traits ++ t ∷ []; slots = c.slots ++ [] ∷ [] }

pub whole_is : (c c1 c2 c3 : Ctx) (name first second : List ℕ) (n : ℕ) (u : Typ) (t : Traits) →
    first ≡ name → u ≡ typ (class n) false false → n ≡ length c.classes → c1 ≡ with_type c first u → second ≡ name →
    c2 ≡ record c1 { classes = c1.classes ++ class_named second None false [] [] None ∷ [] } → t ≡ no_traits
    → c3 ≡ record c2 { traits = c2.traits ++ t ∷ []; slots = c2.slots ++ [] ∷ [] } → c3 ≡ with_class c name
whole_is c c1 c2 c3 name first second n u t ef eu en e1 es e2 et e3 =
    e3
    ∙ ap (λ (z : Ctx). record z { traits = z.traits ++ t ∷ []; slots = z.slots ++ [] ∷ [] }) e2
    ∙ ap (λ (z : Ctx). with_rows z second t) e1
    ∙ ap (λ (z : Typ). with_rows (with_type c first z) second t) (eu ∙ ap (λ (z : ℕ). typ (class z) false false) en)
    ∙ ap (λ (z : List ℕ). with_rows (with_type c z (typ (class (length c.classes)) false false)) second t) ef
    ∙ ap (λ (z : List ℕ). with_rows (with_type c name (typ (class (length c.classes)) false false)) z t) es
    ∙ ap (λ (z : Traits). with_rows (with_type c name (typ (class (length c.classes)) false false)) name z) et
