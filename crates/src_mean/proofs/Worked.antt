-- The worked programs, computed.
use Rattle.std.specs.Prelude.{◌≡◌, pos, true, refl}
use Rattle.cpp_tree.specs.tx_ints.Integers.{apply_of, reduced}
use Rattle.cpp_tree.specs.tx_ints.Words.{word_of}
use Rattle.cpp_tree.specs.tx_events.Memory.{word_of as memory_word, read_at, merge}
use Rattle.cpp_tree.specs.tx_events.declared.End.TheVariants.{Exit, Abort, Terminate, Trapped}
use Rattle.cpp_tree.specs.tx_events.declared.Trap.TheVariants.{Overflow}
use Rattle.src_mean.specs.Source.{plus, stored_bytes}
use Rattle.src_mean.specs.Notation.{bodies_fit}
use Rattle.src_mean.specs.Runs.{outcome, ends}
use Rattle.src_mean.specs.Blocks.{return_zero, return_zero_events, thin_path, thin_path_events, thin_path_overflow, thin_path_overflow_events, cancelled_block}
use Rattle.src_mean.specs.Blocks.{cancelled_block_events, inner_cancel, inner_cancel_events, commit_on_throw, commit_on_throw_events, cancel_of_int}
use Rattle.src_mean.specs.Blocks.{cancel_of_int_events}
use Rattle.src_mean.specs.Objects.{destruction, destruction_events, destruction_of_parts, destruction_of_parts_events, virtual_in_constructor}
use Rattle.src_mean.specs.Objects.{virtual_in_constructor_events, lambda_capture, lambda_capture_events, conditional_temporary, conditional_temporary_events}
use Rattle.src_mean.specs.Objects.{argument_object, argument_object_events}
use Rattle.src_mean.specs.Exits.{terminate, terminate_events, terminate_in_noexcept, terminate_in_noexcept_events, rethrow, rethrow_events}
use Rattle.src_mean.specs.Exits.{return_through_scopes, return_through_scopes_events, switch_skips_a_label, switch_skips_a_label_events, third_element_throws}
use Rattle.src_mean.specs.Exits.{third_element_throws_events}

pub return_zero_runs : outcome 2000 return_zero ≡ ends return_zero_events (Exit (pos 0))
unfolding apply_of reduced word_of memory_word read_at merge plus stored_bytes
return_zero_runs = refl

pub thin_path_runs : outcome 2000 thin_path ≡ ends thin_path_events (Exit (pos 0))
unfolding apply_of reduced word_of memory_word read_at merge plus stored_bytes
thin_path_runs = refl

pub thin_path_overflow_runs : outcome 2000 thin_path_overflow ≡ ends thin_path_overflow_events (Trapped Overflow)
unfolding apply_of reduced word_of memory_word read_at merge plus stored_bytes
thin_path_overflow_runs = refl

pub cancelled_block_runs : outcome 2000 cancelled_block ≡ ends cancelled_block_events (Exit (pos 0))
unfolding apply_of reduced word_of memory_word read_at merge plus stored_bytes
cancelled_block_runs = refl

pub inner_cancel_runs : outcome 2000 inner_cancel ≡ ends inner_cancel_events (Exit (pos 0))
unfolding apply_of reduced word_of memory_word read_at merge plus stored_bytes
inner_cancel_runs = refl

pub commit_on_throw_runs : outcome 2000 commit_on_throw ≡ ends commit_on_throw_events (Exit (pos 0))
unfolding apply_of reduced word_of memory_word read_at merge plus stored_bytes
commit_on_throw_runs = refl

pub cancel_of_int_runs : outcome 2000 cancel_of_int ≡ ends cancel_of_int_events Abort
unfolding apply_of reduced word_of memory_word read_at merge plus stored_bytes
cancel_of_int_runs = refl

pub destruction_runs : outcome 2000 destruction ≡ ends destruction_events (Exit (pos 0))
unfolding apply_of reduced word_of memory_word read_at merge plus stored_bytes
destruction_runs = refl

pub destruction_of_parts_runs : outcome 2000 destruction_of_parts ≡ ends destruction_of_parts_events (Exit (pos 0))
unfolding apply_of reduced word_of memory_word read_at merge plus stored_bytes
destruction_of_parts_runs = refl

pub virtual_in_constructor_runs : outcome 2000 virtual_in_constructor ≡ ends virtual_in_constructor_events (Exit (pos 0))
unfolding apply_of reduced word_of memory_word read_at merge plus stored_bytes
virtual_in_constructor_runs = refl

pub lambda_capture_runs : outcome 2000 lambda_capture ≡ ends lambda_capture_events (Exit (pos 0))
unfolding apply_of reduced word_of memory_word read_at merge plus stored_bytes
lambda_capture_runs = refl

pub conditional_temporary_runs : outcome 2000 conditional_temporary ≡ ends conditional_temporary_events (Exit (pos 0))
unfolding apply_of reduced word_of memory_word read_at merge plus stored_bytes
conditional_temporary_runs = refl

pub argument_object_runs : outcome 2000 argument_object ≡ ends argument_object_events (Exit (pos 0))
unfolding apply_of reduced word_of memory_word read_at merge plus stored_bytes
argument_object_runs = refl

pub terminate_runs : outcome 2000 terminate ≡ ends terminate_events Terminate
unfolding apply_of reduced word_of memory_word read_at merge plus stored_bytes
terminate_runs = refl

pub terminate_in_noexcept_runs : outcome 2000 terminate_in_noexcept ≡ ends terminate_in_noexcept_events Terminate
unfolding apply_of reduced word_of memory_word read_at merge plus stored_bytes
terminate_in_noexcept_runs = refl

pub rethrow_runs : outcome 2000 rethrow ≡ ends rethrow_events (Exit (pos 9))
unfolding apply_of reduced word_of memory_word read_at merge plus stored_bytes
rethrow_runs = refl

pub return_through_scopes_runs : outcome 2000 return_through_scopes ≡ ends return_through_scopes_events (Exit (pos 0))
unfolding apply_of reduced word_of memory_word read_at merge plus stored_bytes
return_through_scopes_runs = refl

pub switch_skips_a_label_runs : outcome 2000 switch_skips_a_label ≡ ends switch_skips_a_label_events (Exit (pos 0))
unfolding apply_of reduced word_of memory_word read_at merge plus stored_bytes
switch_skips_a_label_runs = refl

pub third_element_throws_runs : outcome 2000 third_element_throws ≡ ends third_element_throws_events (Exit (pos 0))
unfolding apply_of reduced word_of memory_word read_at merge plus stored_bytes
third_element_throws_runs = refl

pub return_zero_fits : bodies_fit return_zero ≡ true
unfolding reduced word_of
return_zero_fits = refl

pub thin_path_fits : bodies_fit thin_path ≡ true
unfolding reduced word_of
thin_path_fits = refl

pub thin_path_overflow_fits : bodies_fit thin_path_overflow ≡ true
unfolding reduced word_of
thin_path_overflow_fits = refl

pub cancelled_block_fits : bodies_fit cancelled_block ≡ true
unfolding reduced word_of
cancelled_block_fits = refl

pub inner_cancel_fits : bodies_fit inner_cancel ≡ true
unfolding reduced word_of
inner_cancel_fits = refl

pub commit_on_throw_fits : bodies_fit commit_on_throw ≡ true
unfolding reduced word_of
commit_on_throw_fits = refl

pub cancel_of_int_fits : bodies_fit cancel_of_int ≡ true
unfolding reduced word_of
cancel_of_int_fits = refl

pub destruction_fits : bodies_fit destruction ≡ true
unfolding reduced word_of
destruction_fits = refl

pub destruction_of_parts_fits : bodies_fit destruction_of_parts ≡ true
unfolding reduced word_of
destruction_of_parts_fits = refl

pub virtual_in_constructor_fits : bodies_fit virtual_in_constructor ≡ true
unfolding reduced word_of
virtual_in_constructor_fits = refl

pub lambda_capture_fits : bodies_fit lambda_capture ≡ true
unfolding reduced word_of
lambda_capture_fits = refl

pub conditional_temporary_fits : bodies_fit conditional_temporary ≡ true
unfolding reduced word_of
conditional_temporary_fits = refl

pub argument_object_fits : bodies_fit argument_object ≡ true
unfolding reduced word_of
argument_object_fits = refl

pub terminate_fits : bodies_fit terminate ≡ true
unfolding reduced word_of
terminate_fits = refl

pub terminate_in_noexcept_fits : bodies_fit terminate_in_noexcept ≡ true
unfolding reduced word_of
terminate_in_noexcept_fits = refl

pub rethrow_fits : bodies_fit rethrow ≡ true
unfolding reduced word_of
rethrow_fits = refl

pub return_through_scopes_fits : bodies_fit return_through_scopes ≡ true
unfolding reduced word_of
return_through_scopes_fits = refl

pub switch_skips_a_label_fits : bodies_fit switch_skips_a_label ≡ true
unfolding reduced word_of
switch_skips_a_label_fits = refl

pub third_element_throws_fits : bodies_fit third_element_throws ≡ true
unfolding reduced word_of
third_element_throws_fits = refl
