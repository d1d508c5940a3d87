-- What is put among the objects that wait is destroyed there as well.
use Rattle.std.specs.Prelude.{◌≡◌, ℕ, Bool, true, false, ◌||◌, cond, List, [], ◌∷◌, refl}
use Rattle.std.proofs.Common.{sym, ap, subst, ◌∙◌}
use Rattle.std.proofs.lemmas.Bool.{false≢true, and_parts, and_from}
use Rattle.cpp_tree.specs.tx_events.Thread.{Atomic as AtomicBlock, Sync, no_atomic}
use Rattle.src_mean.specs.Linked.{Program}
use Rattle.src_mean.specs.Frames.{Waiting, Owner, of_block, of_call, of_pieces, Frame, Called, Full, Scope, Within, Closes, Halted, blocks_of, puts, same_owner}
use Rattle.block_marks.specs.Marks.{Round, round_of, has_scope, is_outside, is_good, are_good, may_wait, all_wait}
use Rattle.block_marks.proofs.Trees.{waits_eased}

puts_blocks : (o : Owner) (w : Waiting) (k : List Frame) → blocks_of (puts o w k) ≡ blocks_of k
puts_blocks o w [] = refl
puts_blocks o w (Scope u always ws ∷ k) = elim (same_owner o u) as (λ b. blocks_of (cond b (Scope u always (w ∷ ws) ∷ k) (Scope u always ws ∷ puts o w k))
    ≡ blocks_of k) [ true ↦ refl | false ↦ puts_blocks o w k ]
puts_blocks o w (Within block ∷ k) = ap (λ bs. block ∷ bs) (puts_blocks o w k)
puts_blocks o w (Closes block ∷ k) = ap (λ bs. block ∷ bs) (puts_blocks o w k)
puts_blocks o w (f ∷ k) = puts_blocks o w k

outside_same : (o : Owner) (w : Waiting) (k : List Frame) → is_outside (puts o w k) ≡ is_outside k
outside_same o w k = ap no_atomic (puts_blocks o w k)

scope_same : (v o : Owner) (w : Waiting) (k : List Frame) → has_scope v (puts o w k) ≡ has_scope v k
scope_same v o w [] = refl
scope_same v o w (Scope u always ws ∷ k) = elim (same_owner o u) as (λ b. has_scope v (cond b (Scope u always (w ∷ ws) ∷ k) (Scope u always ws ∷ puts o w k)) ≡
    (same_owner v u || has_scope v k)) [ true ↦ refl | false ↦ ap (λ z. same_owner v u || z) (scope_same v o w k) ]
scope_same v o w (Called caller stops ∷ k) = refl
scope_same v o w (f ∷ k) = scope_same v o w k

abbrev round : (outside calls blocks pieces : Bool) → Round
round a b c d = record { outside = a; calls = b; blocks = c; pieces = d }

same_round : (a b c d e f g h : Bool) → a ≡ e → b ≡ f → c ≡ g → d ≡ h → round a b c d ≡ round e f g h
same_round a b c d e f g h i j k l = ap (λ z. round z b c d) i ∙ ap (λ z. round e z c d) j ∙ ap (λ z. round e f z d) k ∙ ap (λ z. round e f g z) l

round_same : (o : Owner) (w : Waiting) (k : List Frame) → round_of (puts o w k) ≡ round_of k
round_same o w k = same_round _ _ _ _ _ _ _ _ (outside_same o w k) (scope_same of_call o w k) (scope_same of_block o w k) (scope_same of_pieces o w k)

-- into the nearest scope of the owner
pub puts_good : (p : Program) (safe : ℕ → ℕ → Bool) (u : ℕ) (ws : List Waiting) (o : Owner) (w : Waiting) (k : List Frame) → has_scope o k ≡ true
    → may_wait (safe u) (is_outside k) w.address w.destroys ≡ true
    → are_good p safe u ws k ≡ true → are_good p safe u ws (puts o w k) ≡ true
puts_good p safe u ws o w [] h m q = absurd (false≢true h)
puts_good p safe u ws o w (Scope v always xs ∷ k) h m q =
    let a = and_parts (all_wait (safe u) (is_outside k) xs) (are_good p safe u ws k) q in
    elim (same_owner o v) as (λ b. (b || has_scope o k) ≡ true
    → are_good p safe u ws (cond b (Scope v always (w ∷ xs) ∷ k) (Scope v always xs ∷ puts o w k)) ≡ true) [
      | true ↦ λ i. and_from _ _ (and_from _ _ m a.0) a.1
      | false ↦ λ i. and_from _ _ (subst (λ z. all_wait (safe u) z xs ≡ true) (sym (outside_same o w k)) a.0) (puts_good p safe u ws o w k i m a.1)
    ] h
puts_good p safe u ws o w (Called caller stops ∷ k) h m q = absurd (false≢true h)
puts_good p safe u ws o w (Halted end ∷ k) h m q = absurd (false≢true q)
puts_good p safe u ws o w (Full outer ∷ k) h m q =
    let a = and_parts (all_wait (safe u) (is_outside k) ws) (are_good p safe u outer k) q in
    and_from _ _ (subst (λ z. all_wait (safe u) z ws ≡ true) (sym (outside_same o w k)) a.0) (puts_good p safe u outer o w k h m a.1)
puts_good p safe u ws o w (Within (AtomicBlock kind) ∷ k) h m q = puts_good p safe u ws o w k h (waits_eased (safe u) (is_outside k) w.address w.destroys m) q
puts_good p safe u ws o w (Within Sync ∷ k) h m q = puts_good p safe u ws o w k h m q
puts_good p safe u ws o w (Closes (AtomicBlock kind) ∷ k) h m q = puts_good p safe u ws o w k h (waits_eased (safe u) (is_outside k) w.address w.destroys m) q
puts_good p safe u ws o w (Closes Sync ∷ k) h m q = puts_good p safe u ws o w k h m q
puts_good p safe u ws o w (f ∷ k) h m q =
    let a = and_parts (is_good p (safe u) (round_of k) f) (are_good p safe u ws k) q in
    and_from (is_good p (safe u) (round_of (puts o w k)) f) (are_good p safe u ws (puts o w k))
    (subst (λ r. is_good p (safe u) r f ≡ true) (sym (round_same o w k)) a.0) (puts_good p safe u ws o w k h m a.1)

-- among the temporaries
pub keeps_good : (p : Program) (safe : ℕ → ℕ → Bool) (u : ℕ) (ws : List Waiting) (w : Waiting) (k : List Frame)
    → may_wait (safe u) (is_outside k) w.address w.destroys ≡ true
    → are_good p safe u ws k ≡ true → are_good p safe u (w ∷ ws) k ≡ true
keeps_good p safe u ws w [] m q = refl
keeps_good p safe u ws w (Called caller stops ∷ k) m q = q
keeps_good p safe u ws w (Halted end ∷ k) m q = q
keeps_good p safe u ws w (Full outer ∷ k) m q =
    let a = and_parts (all_wait (safe u) (is_outside k) ws) (are_good p safe u outer k) q in
    and_from _ _ (and_from _ _ m a.0) a.1
keeps_good p safe u ws w (Within (AtomicBlock kind) ∷ k) m q = keeps_good p safe u ws w k (waits_eased (safe u) (is_outside k) w.address w.destroys m) q
keeps_good p safe u ws w (Within Sync ∷ k) m q = keeps_good p safe u ws w k m q
keeps_good p safe u ws w (Closes (AtomicBlock kind) ∷ k) m q = keeps_good p safe u ws w k (waits_eased (safe u) (is_outside k) w.address w.destroys m) q
keeps_good p safe u ws w (Closes Sync ∷ k) m q = keeps_good p safe u ws w k m q
keeps_good p safe u ws w (f ∷ k) m q =
    let a = and_parts (is_good p (safe u) (round_of k) f) (are_good p safe u ws k) q in
    and_from (is_good p (safe u) (round_of k) f) (are_good p safe u (w ∷ ws) k) a.0 (keeps_good p safe u ws w k m a.1)
