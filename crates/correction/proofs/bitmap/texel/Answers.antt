-- `correction::bitmap::texel` meets its contract: the last of the three places is in the list. Assumes nothing.
use mathlib.Core.Path.{◌∙◌}
use Rattle.correction.proofs.bitmap.Centres.{texel_read, texel_held}
use Rattle.correction.proofs.bitmap.texel.Goals as goal

pub place-requires : goal.place-requires
place-requires c = record { fits = c.requires.sampled.fits; x_lt_width = (c.requires.x_lt_width.0, c.requires.x_lt_width.1, c.requires.sampled.few) }

pub samples_at-requires : goal.samples_at-requires
samples_at-requires c =
    texel_held _ _ _ c.requires.x_lt_width.0 c.requires.x_lt_width.1 _ c.requires.sampled c.place.ensures

pub returns : goal.returns
returns c =
    c.samples_at.ensures ∙ texel_read _ _ _ c.requires.x_lt_width.0 c.requires.x_lt_width.1 _ c.requires.sampled c.place.ensures
