-- Lists of items, of scopes and of kids.
use Rattle.std.proofs.Common.{◌≡◌, ◌∙◌, refl, ap, Bool, true, false, not, ◌&&◌, ◌||◌, cond, ℕ, zero, suc, List, [], ◌∷◌, ◌++◌, slice_set, drop}
use Rattle.cpp_tree.specs.declared.arena.TNodeId.{TNodeId}
use Rattle.low_code.specs.declared.scopes.Scope.{Scope}
use Rattle.low_code.specs.declared.scopes.ScopeKind.{ScopeKind}
use Rattle.low_code.specs.declared.scopes.ScopeKind.TheVariants.{Behind}
use Rattle.low_code.specs.Scopes.{led_to}
use Rattle.unwind_lower.specs.declared.items.Item.{Item}
use Rattle.unwind_lower.specs.declared.items.Item.TheVariants.{Run, Branch, OtherAgain, Close, Bind, Other, BodyDone, StepDone, TestDone, Past}
use Rattle.unwind_lower.specs.Conditions.{is_end, up_to_end, with_behind}
use Rattle.lowered_states.specs.Claims.{Claim, with_claims, claims_in}
use Rattle.lowered_states.specs.Sound.{scope_from}
use Rattle.lowered_apart.specs.Still.{Nodes}
use Rattle.lowered_apart.specs.Waiting.{claims, is_free, AllRun, MayStand, AllStand, IsLeft, AreLeft}

-- ---- truth

pub no_more : {A : Type 0} → false ≡ true → A
no_more e = absurd cc

pub not_both : {A : Type 0} (b : Bool) → b ≡ false → b ≡ true → A
not_both b e f = absurd cc

pub free_before : (ends claims free : Bool) → claims ≡ false → free ≡ true → ends || not claims && free ≡ true
free_before true true free e f = refl
free_before true false free e f = refl
free_before false true free e f = absurd cc
free_before false false free e f = f

-- where an item is free and does not end the full-expression, it claims nothing, and what is behind it is free
pub free_behind : (claims free : Bool) → not claims && free ≡ true → (claims ≡ false) × (free ≡ true)
free_behind true free e = absurd cc
free_behind false free e = (refl, e)

-- ---- items

pub stands_more : (z : Nodes) {a b : Bool} (item : Item) → (a ≡ true → b ≡ true) → MayStand z a item → MayStand z b item
stands_more z (Run id way) f h = (h.0, λ e. f (h.1 e))
stands_more z (Branch id way) f h = λ index. ((h index).0, λ e. f ((h index).1 e))
stands_more z (OtherAgain o) f h = (h.0, λ e. f (h.1 e))
stands_more z item f h = h

pub end_stands : (z : Nodes) (b : Bool) (item : Item) → is_end item ≡ true → MayStand z b item
end_stands z b (Close owner at) e = tt
end_stands z b item e = absurd cc

-- items are free still where they are written twice, and with one behind the end
pub free_again : (items more : List Item) → is_free items ≡ true → is_free (up_to_end items ++ more) ≡ true
unfolding up_to_end
free_again [] more e = absurd cc
free_again (item ∷ items) more e = by (is_end item) refl e (free_again items more)
  where
    by : (v : Bool) → is_end item ≡ v → v || not (claims item) && is_free items ≡ true → (is_free items ≡ true → is_free (up_to_end items ++ more) ≡ true)
        → is_free (cond v (item ∷ []) (item ∷ up_to_end items) ++ more) ≡ true
    by true f h r = ap (λ (v : Bool). v || not (claims item) && is_free more) f
    by false f h r = let k = free_behind (claims item) (is_free items) h in
        free_before (is_end item) (claims item) (is_free (up_to_end items ++ more)) k.0 (r k.1)

pub stand_again : (z : Nodes) (items more : List Item) → AllStand z items → AllStand z more → AllStand z (up_to_end items ++ more)
unfolding up_to_end
stand_again z [] more h k = k
stand_again z (item ∷ items) more h k = by (is_end item) refl (stand_again z items more h.1 k)
  where
    by : (v : Bool) → is_end item ≡ v → AllStand z (up_to_end items ++ more) → AllStand z (cond v (item ∷ []) (item ∷ up_to_end items) ++ more)
    by true f r = (end_stands z _ item f, k)
    by false f r = (stands_more z item (λ e. free_again items more e) h.0, r)

pub free_with : (new : Item) (items : List Item) → is_free items ≡ true → is_free (with_behind new items) ≡ true
unfolding with_behind
free_with new [] e = absurd cc
free_with new (item ∷ items) e = by (is_end item) refl e (free_with new items)
  where
    by : (v : Bool) → is_end item ≡ v → v || not (claims item) && is_free items ≡ true → (is_free items ≡ true → is_free (with_behind new items) ≡ true)
        → is_free (cond v (item ∷ new ∷ items) (item ∷ with_behind new items)) ≡ true
    by true f h r = ap (λ (v : Bool). v || not (claims item) && is_free (new ∷ items)) f
    by false f h r = let k = free_behind (claims item) (is_free items) h in
        free_before (is_end item) (claims item) (is_free (with_behind new items)) k.0 (r k.1)

pub stand_with : (z : Nodes) (new : Item) (items : List Item) → ((free : Bool) → MayStand z free new) → AllStand z items → AllStand z (with_behind new items)
unfolding with_behind
stand_with z new [] n h = (n false, tt)
stand_with z new (item ∷ items) n h = by (is_end item) refl (stand_with z new items n h.1)
  where
    by : (v : Bool) → is_end item ≡ v → AllStand z (with_behind new items) → AllStand z (cond v (item ∷ new ∷ items) (item ∷ with_behind new items))
    by true f r = (end_stands z _ item f, (n (is_free items), h.1))
    by false f r = (stands_more z item (λ e. free_with new items e) h.0, r)

claims_nothing : (item : Item) (cs : List Claim) → claims item ≡ false → with_claims item cs ≡ cs
claims_nothing (Bind jump) cs e = absurd cc
claims_nothing (Other o) cs e = absurd cc
claims_nothing (OtherAgain o) cs e = absurd cc
claims_nothing (BodyDone turn) cs e = absurd cc
claims_nothing (StepDone turn) cs e = absurd cc
claims_nothing (TestDone turn) cs e = absurd cc
claims_nothing (Past scope) cs e = absurd cc
claims_nothing item cs e = refl

end_claims_nothing : (item : Item) → is_end item ≡ true → with_claims item [] ≡ []
end_claims_nothing (Close owner at) e = refl
end_claims_nothing item e = absurd cc

pub free_claims : (items : List Item) → is_free items ≡ true → claims_in (up_to_end items) ≡ []
unfolding up_to_end
free_claims [] e = absurd cc
free_claims (item ∷ items) e = by (is_end item) refl e (free_claims items)
  where
    by : (v : Bool) → is_end item ≡ v → v || not (claims item) && is_free items ≡ true → (is_free items ≡ true → claims_in (up_to_end items) ≡ []) → claims_in (cond v (item ∷ []) (item ∷ up_to_end items)) ≡ []
    by true f h r = end_claims_nothing item f
    by false f h r = let k = free_behind (claims item) (is_free items) h in
        ap (λ (cs : List Claim). with_claims item cs) (r k.1) ∙ claims_nothing item [] k.0

-- ---- kids

pub drops : (z : Nodes) {b : Bool} (first : ℕ) (ids : List TNodeId) → AllRun z b ids → AllRun z b (drop first ids)
drops z zero ids h = h
drops z (suc first) [] h = h
drops z (suc first) (id ∷ ids) h = drops z first ids (λ index. h (suc index))

-- ---- scopes

pub left_push : (z : Nodes) (scopes : List Scope) (scope : Scope) → AreLeft z scopes → IsLeft z scope.kind → AreLeft z (scopes ++ scope ∷ [])
left_push z [] scope h k = (k, tt)
left_push z (x ∷ scopes) scope h k = (h.0, left_push z scopes scope h.1 k)

pub left_set : (z : Nodes) (scopes : List Scope) (number : ℕ) (scope : Scope) → AreLeft z scopes → IsLeft z scope.kind
    → AreLeft z (slice_set scopes number scope)
left_set z [] zero scope h k = tt
left_set z [] (suc number) scope h k = tt
left_set z (x ∷ scopes) zero scope h k = (k, h.1)
left_set z (x ∷ scopes) (suc number) scope h k = (h.0, left_set z scopes number scope h.1 k)

pub left_at : (z : Nodes) (scopes : List Scope) (number : ℕ) → AreLeft z scopes → IsLeft z (scope_from scopes number).kind
left_at z [] zero h = tt
left_at z [] (suc number) h = tt
left_at z (x ∷ scopes) zero h = h.0
left_at z (x ∷ scopes) (suc number) h = left_at z scopes number h.1

pub left_led : (z : Nodes) (outer : ℕ) (kind : ScopeKind) → IsLeft z kind → IsLeft z (led_to outer kind)
left_led z outer (Behind block next other) h = tt
left_led z outer kind h = h
