-- A texel's median and the channel that it names, as `numbers` has them of three values. Assumes nothing.
--     texel_median_is                           its value is the median of the three
--     texel_median_keeps                        so what holds of all three holds of it
--     texel_median_nan                          it is a NaN only if all three are
--     texel_channel_below                       the channel is 0, 1 or 2
--     texel_channel_carries                     where the median is a number, that channel's value compares equal to it
--     texel_channel_lowest                      and no lower one's does
--     texel_channel_flat                        of three times the same number it is 0
use Rattle.std.proofs.Common.{◌≡◌, ℕ, ◌<◌, false, not, T, List, refl}
use lib.Ieee.{Float, eq, is_nan}
use Rattle.numbers.specs.Scalar.{median_of}
use Rattle.numbers.proofs.Laws.Scalar.{median_keeps}
use Rattle.numbers.proofs.Laws.Channel.{channel_below, channel_carries, channel_lowest, channel_flat, median_nan_only}
use Rattle.detectors.specs.Texel.{channel, texel_middle, texel_median}

pub texel_median_is : (a : List Float) → texel_median a ≡ median_of (channel a 0) (channel a 1) (channel a 2)
unfolding texel_middle
texel_median_is a = refl

pub texel_median_keeps : (P : Float → Type 0) (a : List Float) → P (channel a 0) → P (channel a 1) → P (channel a 2) → P (texel_median a)
unfolding texel_middle
texel_median_keeps P a = median_keeps P (channel a 0) (channel a 1) (channel a 2)

pub texel_median_nan : (a : List Float) → T (is_nan (texel_median a)) → T (is_nan (channel a 0)) × T (is_nan (channel a 1)) × T (is_nan (channel a 2))
unfolding texel_middle
texel_median_nan a h = median_nan_only (channel a 0) (channel a 1) (channel a 2) h

pub texel_channel_below : (a : List Float) → (texel_middle a).channel < 3
unfolding texel_middle
texel_channel_below a = channel_below (channel a 0) (channel a 1) (channel a 2)

pub texel_channel_carries : (a : List Float) → T (not (is_nan (texel_median a))) → T (eq (channel a (texel_middle a).channel) (texel_median a))
unfolding texel_middle
texel_channel_carries a n = channel_carries (channel a) n

pub texel_channel_lowest : (a : List Float) (i : ℕ) → i < (texel_middle a).channel → eq (channel a i) (texel_median a) ≡ false
unfolding texel_middle
texel_channel_lowest a i l = channel_lowest (channel a) i l

pub texel_channel_flat : (a : List Float) (v : Float) → T (not (is_nan v)) → channel a 0 ≡ v → channel a 1 ≡ v → channel a 2 ≡ v → (texel_middle a).channel ≡ 0
unfolding texel_middle
texel_channel_flat a v n e f g = rw (e, f, g) (channel_flat v n)
