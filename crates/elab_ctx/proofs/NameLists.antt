-- What a map from names to lists of places says of each name, behind a change.
use Rattle.std.proofs.Common.{◌≡◌, ◌∙◌, ◌-◌, ℕ, Bool, true, false, List, [], ◌∷◌, ◌++◌, length, take, cond, if◌then◌else◌, Option, Some, None, is_some, refl}
use Rattle.std.proofs.Common.{sym, ap, subst, Vec, true≢false}
use Rattle.std.proofs.lemmas.Bool.{false_from_ne_true}
use Rattle.std.proofs.lemmas.Slice.Eq.{bytes_eq-Decides}
use Rattle.std.specs.Global.{Global}
use Rattle.std.specs.Str.{bytes_eq}
use Rattle.std.specs.Map.{lookup, set_value}
use Rattle.indexmap.specs.IndexMap.{insert_entry}
use Rattle.elab_ctx.specs.Places.{listed, one_more, one_less}

abbrev pub Entries : Type 0
Entries = List (Vec ℕ Global × Vec ℕ Global)

-- the entry of a name
abbrev pub entry : List ℕ → Entries → Option (Vec ℕ Global)
entry name es = lookup (λ key. bytes_eq name key.items) es

same : (a b : List ℕ) → bytes_eq a b ≡ true → a ≡ b
same a b h = (bytes_eq-Decides a b).0 h

self_same : (a : List ℕ) → bytes_eq a a ≡ true
self_same a = (bytes_eq-Decides a a).1 refl

-- two names with the same key are the same name
apart : (a b c : List ℕ) → bytes_eq a b ≡ false → bytes_eq c b ≡ true → bytes_eq c a ≡ false
apart a b c h e = false_from_ne_true (bytes_eq c a) (λ (k : bytes_eq c a ≡ true). true≢false
    (sym (subst (λ (z : List ℕ). bytes_eq z b ≡ true) (same c a k) e) ∙ h))

-- a name that is new

fresh_here : (name other own : List ℕ) (list : Vec ℕ Global) (place : ℕ) (b : Bool) → own ≡ name → list.items ≡ place ∷ [] → b ≡ bytes_eq other own
    → listed (cond b (Some list) None) ≡ one_more (bytes_eq other name) [] place
fresh_here name other own list place true o is e = is ∙ ap (λ (z : Bool). one_more z [] place) (e ∙ ap (bytes_eq other) o)
fresh_here name other own list place false o is e = ap (λ (z : Bool). one_more z [] place) (e ∙ ap (bytes_eq other) o)

fresh_on : (name other : List ℕ) (e : Vec ℕ Global × Vec ℕ Global) (more rest : Option (Vec ℕ Global)) (place : ℕ) (b : Bool) → bytes_eq name e.0.items ≡ false
    → b ≡ bytes_eq other e.0.items
    → listed more ≡ one_more (bytes_eq other name) (listed rest) place
    → listed (cond b (Some e.1) more) ≡ one_more (bytes_eq other name) (listed (cond b (Some e.1) rest)) place
fresh_on name other e more rest place true absent is h = ap (λ (z : Bool). one_more z e.1.items place) (sym (apart name e.0.items other absent (sym is)))
fresh_on name other e more rest place false absent is h = h

fresh_if : (name other : List ℕ) (key list : Vec ℕ Global) (place : ℕ) (e : Vec ℕ Global × Vec ℕ Global) (es more : Entries) (b : Bool)
    → b ≡ bytes_eq name e.0.items → is_some (cond b (Some e.1) (entry name es)) ≡ false
    → (is_some (entry name es) ≡ false → listed (entry other more) ≡ one_more (bytes_eq other name) (listed (entry other es)) place)
    → listed (entry other (if b then (e.0, list) ∷ es else e ∷ more)) ≡ one_more (bytes_eq other name) (listed (entry other (e ∷ es))) place
fresh_if name other key list place e es more true is absent h = absurd (true≢false absent)
fresh_if name other key list place e es more false is absent h =
    fresh_on name other e (entry other more) (entry other es) place (bytes_eq other e.0.items) (sym is) refl (h absent)

pub fresh : (es : Entries) (name other : List ℕ) (key list : Vec ℕ Global) (place : ℕ) → key.items ≡ name → list.items ≡ place ∷ []
    → is_some (entry name es) ≡ false
    → listed (entry other (insert_entry (λ a b. bytes_eq a.items b.items) es key list)) ≡ one_more (bytes_eq other name) (listed (entry other es)) place
fresh [] name other key list place o is absent = fresh_here name other key.items list place (bytes_eq other key.items) o is refl
fresh (e ∷ es) name other key list place o is absent =
    fresh_if name other key list place e es (insert_entry (λ a b. bytes_eq a.items b.items) es key list) (bytes_eq key.items e.0.items)
    (ap (λ (z : List ℕ). bytes_eq z e.0.items) o)
    (ap (λ (z : List ℕ). is_some (cond (bytes_eq z e.0.items) (Some e.1) (entry name es))) o ∙ absent)
    (λ (h : is_some (entry name es) ≡ false). fresh es name other key list place o is h)

-- a name that is there

put_on : (name other : List ℕ) (e : Vec ℕ Global × Vec ℕ Global) (w : Vec ℕ Global) (more rest : Option (Vec ℕ Global)) (b : Bool)
    → bytes_eq name e.0.items ≡ false → b ≡ bytes_eq other e.0.items
    → more ≡ cond (bytes_eq other name) (Some w) rest → cond b (Some e.1) more ≡ cond (bytes_eq other name) (Some w) (cond b (Some e.1) rest)
put_on name other e w more rest true absent is h = ap (λ (z : Bool). cond z (Some w) (Some e.1)) (sym (apart name e.0.items other absent (sym is)))
put_on name other e w more rest false absent is h = h

put_here : (name other own : List ℕ) (v w : Vec ℕ Global) (rest : Option (Vec ℕ Global)) (b : Bool) → name ≡ own → b ≡ bytes_eq other own
    → cond b (Some w) rest ≡ cond (bytes_eq other name) (Some w) (cond b (Some v) rest)
put_here name other own v w rest true o is = ap (λ (z : Bool). cond z (Some w) (Some v)) (is ∙ ap (bytes_eq other) (sym o))
put_here name other own v w rest false o is = ap (λ (z : Bool). cond z (Some w) rest) (is ∙ ap (bytes_eq other) (sym o))

put_if : (name other : List ℕ) (w : Vec ℕ Global) (e : Vec ℕ Global × Vec ℕ Global) (es more : Entries) (b : Bool) → b ≡ bytes_eq name e.0.items
    → is_some (cond b (Some e.1) (entry name es)) ≡ true
    → (is_some (entry name es) ≡ true → entry other more ≡ cond (bytes_eq other name) (Some w) (entry other es))
    → entry other (cond b ((e.0, w) ∷ es) (e ∷ more)) ≡ cond (bytes_eq other name) (Some w) (entry other (e ∷ es))
put_if name other w e es more true is absent h = put_here name other e.0.items e.1 w (entry other es) (bytes_eq other e.0.items)
    (same name e.0.items (sym is)) refl
put_if name other w e es more false is absent h = put_on name other e w (entry other more) (entry other es) (bytes_eq other e.0.items) (sym is) refl (h absent)

put_is : (es : Entries) (name other : List ℕ) (w : Vec ℕ Global) → is_some (entry name es) ≡ true
    → entry other (set_value (λ key. bytes_eq name key.items) es w) ≡ cond (bytes_eq other name) (Some w) (entry other es)
put_is [] name other w h = absurd (true≢false (sym h))
put_is (e ∷ es) name other w h = put_if name other w e es (set_value (λ key. bytes_eq name key.items) es w) (bytes_eq name e.0.items) refl h
    (λ (k : is_some (entry name es) ≡ true). put_is es name other w k)

grown : (other name : List ℕ) (v w : Vec ℕ Global) (o : Option (Vec ℕ Global)) (place : ℕ) (b : Bool) → w.items ≡ v.items ++ place ∷ []
    → (b ≡ true → o ≡ Some v) → listed (cond b (Some w) o) ≡ one_more b (listed o) place
grown other name v w o place true e h = e ∙ ap (λ (z : Option (Vec ℕ Global)). listed z ++ place ∷ []) (sym (h refl))
grown other name v w o place false e h = refl

-- a list with one more place
pub put_more : (es now : Entries) (name other : List ℕ) (v w : Vec ℕ Global) (place : ℕ) → now ≡ set_value (λ key. bytes_eq name key.items) es w
    → entry name es ≡ Some v → w.items ≡ v.items ++ place ∷ []
    → listed (entry other now) ≡ one_more (bytes_eq other name) (listed (entry other es)) place
put_more es now name other v w place e there is =
    ap (λ (z : Entries). listed (entry other z)) e ∙ ap listed (put_is es name other w (ap is_some there))
    ∙ grown other name v w (entry other es) place (bytes_eq other name) is
    (λ (h : bytes_eq other name ≡ true). ap (λ (z : List ℕ). entry z es) (same other name h) ∙ there)

cut : (other name : List ℕ) (v w : Vec ℕ Global) (o : Option (Vec ℕ Global)) (b : Bool) → w.items ≡ take (length v.items - 1) v.items → (b ≡ true → o ≡ Some v)
    → listed (cond b (Some w) o) ≡ one_less b (listed o)
cut other name v w o true e h = e ∙ ap (λ (z : Option (Vec ℕ Global)). take (length (listed z) - 1) (listed z)) (sym (h refl))
cut other name v w o false e h = refl

-- a list with one place less
pub put_less : (es now : Entries) (name other : List ℕ) (v w : Vec ℕ Global) → now ≡ set_value (λ key. bytes_eq name key.items) es w → entry name es ≡ Some v
    → w.items ≡ take (length v.items - 1) v.items
    → listed (entry other now) ≡ one_less (bytes_eq other name) (listed (entry other es))
put_less es now name other v w e there is =
    ap (λ (z : Entries). listed (entry other z)) e ∙ ap listed (put_is es name other w (ap is_some there))
    ∙ cut other name v w (entry other es) (bytes_eq other name) is
    (λ (h : bytes_eq other name ≡ true). ap (λ (z : List ℕ). entry z es) (same other name h) ∙ there)

-- a list that stays
pub put_same : (es now : Entries) (name other : List ℕ) (v w : Vec ℕ Global) → now ≡ set_value (λ key. bytes_eq name key.items) es w → entry name es ≡ Some v
    → w.items ≡ v.items → listed (entry other now) ≡ listed (entry other es)
put_same es now name other v w e there is =
    ap (λ (z : Entries). listed (entry other z)) e ∙ ap listed (put_is es name other w (ap is_some there))
    ∙ kept (entry other es) (bytes_eq other name) (λ (h : bytes_eq other name ≡ true). ap (λ (z : List ℕ). entry z es) (same other name h) ∙ there)
  where
    kept : (o : Option (Vec ℕ Global)) (b : Bool) → (b ≡ true → o ≡ Some v) → listed (cond b (Some w) o) ≡ listed o
    kept o true h = is ∙ ap listed (sym (h refl))
    kept o false h = refl
