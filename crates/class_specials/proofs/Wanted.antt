-- The function that is looked for is one of its class.
use Rattle.std.proofs.Common.{◌≡◌, ℕ, Bool, true, List, map}
use Rattle.elab_init.specs.elab_ctx.Ctx.{Func, func_of}
use Rattle.elab_init.specs.elab_ctx.declared.env.FuncDecl.{FuncDecl}
use Rattle.elab_init.specs.elab_ctx.Places.{places_where, first_among, is_member_of}
use Rattle.elab_init.specs.elab_rules.Initialising.{same_number, is_constructor, makes, signature_parameters}
use Rattle.elab_init.specs.elab_rules.Functions.{first_from}
use Rattle.elab_init.specs.elab_rules.Classes.{Home}
use Rattle.elab_init.proofs.elab_rules.Found.{class_first, asks_first}
use Rattle.class_specials.specs.declared.places.Wanted.{Wanted}
use Rattle.class_specials.specs.declared.places.Wanted.TheVariants as wanted
use Rattle.class_specials.specs.Tests.{is_wanted}

maker_asks : (n : ℕ) (f : Func) → is_constructor n f ≡ true → same_number n f.class ≡ true
maker_asks n f h = asks_first (same_number n f.class) (makes f.kind) h

wanted_asks : (what : Wanted) (h : Home) (f : Func) → is_wanted what h f ≡ true → same_number h.number f.class ≡ true
wanted_asks wanted.Destructor h f e = asks_first (same_number h.number f.class) _ e
wanted_asks wanted.CopyOfConst h f e = maker_asks h.number f (asks_first (is_constructor h.number f) _ e)
wanted_asks wanted.Copy h f e = maker_asks h.number f (asks_first (is_constructor h.number f) _ e)
wanted_asks wanted.Default h f e = maker_asks h.number f (asks_first (is_constructor h.number f) _ e)
wanted_asks wanted.Constructor h f e = maker_asks h.number f e

pub wanted_first : (what : Wanted) (h : Home) (fs : List FuncDecl) (places : List ℕ) → places ≡ places_where (is_member_of h.number) 0 fs
    → first_among (λ (f : FuncDecl). is_wanted what h (func_of f)) fs places ≡ first_from (is_wanted what h) 0 (map func_of fs)
wanted_first what h fs places e = class_first h.number (is_wanted what h) (wanted_asks what h) fs places e
