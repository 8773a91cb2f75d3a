-- What crates above may know of the checks: what a search finds, what passing each of them says, and all of them; and which of them answers. Assumes nothing.
pub use Rattle.inputs.proofs.checks.Found.{found_first, found_alike, hit_refuses, none_passes}
pub use Rattle.inputs.proofs.checks.Measures.{channel_bound, side_bound, size_bound, sample_count, cell_count_law, area_fits, volume_fits, Sizes, sizes, sizes_pass, sized, cells}
pub use Rattle.inputs.proofs.checks.Passed.{length_bounds, size_bounds, good_number, good_segment, good_room, good_settings, good_samples, samples_pass, good_outlines, good_end, good_ends, good_segments, Stages, stages, staged, Passed, passed, ready, content_outlined, content_moded}
pub use Rattle.inputs.proofs.checks.Refusals.{below, not_below, content_settings, content_samples, content_outlines, by_sizes_law, by_room, by_content, by_settings, by_samples, by_outlines, room_refuses, room_passes, settings_refuse, settings_pass, samples_refuse, outline_refuses}
