-- Answers that may be none.
use Rattle.std.proofs.Common.{◌≡◌, Option, Some, None}
use Rattle.std.specs.Option.{MatchOption}

pub none_of : {A : Type 0} (o : Option A) (P : Type 0) (Q : A → Type 0) → o ≡ None → P → MatchOption o P Q
none_of None P Q e p = p
none_of (Some x) P Q e p = absurd cc

pub match_map : {A : Type 0} (o : Option A) (P R : Type 0) (Q S : A → Type 0) → (P → R) → ((x : A) → Q x → S x) → MatchOption o P Q → MatchOption o R S
match_map None P R Q S f g m = f m
match_map (Some x) P R Q S f g m = g x m
