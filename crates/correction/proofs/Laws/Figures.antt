-- The table of figures, by evaluation of the definitions. Assumes nothing.
use mathlib.Core.Path.{◌≡◌, refl}
use lib.Count.{count_trailing_zeros}
use lib.Ieee.{is_nan, lt, le, ne, eq, neg, add, sum, sub, mul, div, round, units, odd, size, span, climb, of_bits, of_fields}
use Rattle.numbers.specs.Scalar.{min_of, max_of, median_of, abs_of, mix_of}
use Rattle.numbers.specs.Rounding.{narrow_of, floor_of}
use Rattle.numbers.specs.SquareRoot.{root_by, root, root_of, sqrt_of}
use Rattle.numbers.specs.EquationSolver.{is_linear, linear_roots, discriminant, upper_root, lower_root, square_roots_by, square_roots, roots_of}
use Rattle.ground.specs.Lists.{tab, any, some, count, first, total, spent, spent_in}
use Rattle.ground.specs.Refuse.{first_failing}
use Rattle.correction.specs.Bitmap.{texel}
use Rattle.inputs.specs.Bounds.{in_bounds}
use Rattle.inputs.specs.Stencil.{stencil_byte, has_corner, is_protected, is_error, protected_count, error_count, corner_count}
use Rattle.detectors.specs.Texel.{texel_middle}
use Rattle.ranges.specs.Config.{side_span, diagonal_span, radius}
use Rattle.inputs.specs.Checks.{bad_channels, bad_side, bad_size, bad_sample_count, bad_cell_count, bad_room, bad_length, settings_place, bad_settings, oversize, samples_place, bad_samples, bad_outlines, end_before, bad_end, ends_place, bad_ends, bad_segment, segments_place, bad_segments, refusal_number, accepted}
use Rattle.ranges.specs.Classifier.{falls_below, rises_above, lies_outside, candidate, within, in_range, range_test}
use Rattle.detectors.specs.Pairs.{guard, inside, mixed_channel, mixed_median, next, difference}
use Rattle.detectors.specs.Linear.{crossing, linear_at, linear_pair, linear_pairs, has_linear_artifact, linear_tests_at, linear_pair_tests, linear_pairs_tests, linear_tests}
use Rattle.detectors.specs.Diagonal.{abc, linear_term, square_term, turning_point, curve, curve_channel, curve_median, middle_difference, quadratic_roots, pair_roots, turns, moved_end, turning_test, root_tests, diagonal_at, diagonal_pair, diagonal_pairs, has_diagonal_artifact, root_test_count, diagonal_tests_at, diagonal_pair_tests, diagonal_pairs_tests, diagonal_tests}
use Rattle.correction.specs.Corners.{split, contours, before, shared, is_corner, lower, beside, around, corner_at, contour_protects, corners_protect}
use Rattle.detectors.specs.Edge.{near, edge_point, edge_at, masked, extreme, pair_protects, protects_lower, protects_upper}
use Rattle.correction.specs.Edges.{as_lower, as_upper, some_lower, some_upper, some_edge, edges_protect}
use Rattle.correction.specs.Errors.{side_artifact, some_side, diagonal_artifact, some_diagonal, some_artifact, has_artifact, side_tests, across_tests, linear_made, diagonal_made, some_made, tests_made}
use Rattle.correction.specs.Pass.{texels, cornered, edge_priority_protects, protects, flags, byte_at, pass_stencil, tests_at, pass_tests, answer, stencil_after}
use Rattle.correction.specs.Figures.{checkered, Figures}

-- the middle texel takes them all
middle : tests_at checkered 1 1 ≡ 84
unfolding count_trailing_zeros is_nan lt le ne eq neg add sum sub mul div round units odd size span climb of_bits of_fields min_of max_of median_of abs_of narrow_of floor_of mix_of root_by root root_of sqrt_of is_linear linear_roots discriminant upper_root lower_root square_roots_by square_roots roots_of tab any some count first total spent spent_in texel texel_middle in_bounds stencil_byte has_corner is_protected is_error side_span diagonal_span radius first_failing bad_channels bad_side bad_size bad_sample_count bad_cell_count bad_room bad_length settings_place bad_settings oversize samples_place bad_samples bad_outlines end_before bad_end ends_place bad_ends bad_segment segments_place bad_segments refusal_number accepted falls_below rises_above lies_outside candidate within in_range range_test guard inside mixed_channel mixed_median next difference crossing linear_at linear_pair linear_pairs has_linear_artifact linear_tests_at linear_pair_tests linear_pairs_tests linear_tests abc linear_term square_term turning_point curve curve_channel curve_median middle_difference quadratic_roots pair_roots turns moved_end turning_test root_tests diagonal_at diagonal_pair diagonal_pairs has_diagonal_artifact root_test_count diagonal_tests_at diagonal_pair_tests diagonal_pairs_tests diagonal_tests split contours before shared is_corner lower beside around corner_at contour_protects corners_protect near edge_point edge_at masked extreme pair_protects protects_lower protects_upper as_lower as_upper some_lower some_upper some_edge edges_protect side_artifact some_side diagonal_artifact some_diagonal some_artifact has_artifact side_tests across_tests linear_made diagonal_made some_made tests_made texels cornered edge_priority_protects protects flags byte_at pass_stencil tests_at pass_tests protected_count error_count corner_count answer stencil_after
middle = refl

-- All figures of the table hold.
pub figures : Figures
unfolding count_trailing_zeros is_nan lt le ne eq neg add sum sub mul div round units odd size span climb of_bits of_fields min_of max_of median_of abs_of narrow_of floor_of mix_of root_by root root_of sqrt_of is_linear linear_roots discriminant upper_root lower_root square_roots_by square_roots roots_of tab any some count first total spent spent_in texel texel_middle in_bounds stencil_byte has_corner is_protected is_error side_span diagonal_span radius first_failing bad_channels bad_side bad_size bad_sample_count bad_cell_count bad_room bad_length settings_place bad_settings oversize samples_place bad_samples bad_outlines end_before bad_end ends_place bad_ends bad_segment segments_place bad_segments refusal_number accepted falls_below rises_above lies_outside candidate within in_range range_test guard inside mixed_channel mixed_median next difference crossing linear_at linear_pair linear_pairs has_linear_artifact linear_tests_at linear_pair_tests linear_pairs_tests linear_tests abc linear_term square_term turning_point curve curve_channel curve_median middle_difference quadratic_roots pair_roots turns moved_end turning_test root_tests diagonal_at diagonal_pair diagonal_pairs has_diagonal_artifact root_test_count diagonal_tests_at diagonal_pair_tests diagonal_pairs_tests diagonal_tests split contours before shared is_corner lower beside around corner_at contour_protects corners_protect near edge_point edge_at masked extreme pair_protects protects_lower protects_upper as_lower as_upper some_lower some_upper some_edge edges_protect side_artifact some_side diagonal_artifact some_diagonal some_artifact has_artifact side_tests across_tests linear_made diagonal_made some_made tests_made texels cornered edge_priority_protects protects flags byte_at pass_stencil tests_at pass_tests protected_count error_count corner_count answer stencil_after
figures =
    record {
      c1 = (refl, refl);
      c2 = (refl, refl);
      c3 = (refl, refl);
      c4 = (refl, refl);
      c5 = (refl, refl);
      c6 = (refl, refl);
      c7 = (refl, refl);
      c8 = (refl, refl, refl, refl);
      c9 = (refl, refl, refl, refl);
      c10 = (refl, refl, refl);
      c11 = refl;
      c12 = ((refl, refl), (refl, refl));
      c13 = (refl, middle);
    }
