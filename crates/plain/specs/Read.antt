-- A bitmap and a texel of it as the inner functions read them. No public function's promise rests on this page. Definitions only.
use Rattle.std.specs.Prelude.{ℕ, List, Float}
use Rattle.correction.specs.Bitmap.{texel}
use Rattle.plain.specs.declared.texels.Texels.{Texels}

-- the first three channels of each texel
abbrev pub read : Texels → ℕ → ℕ → List Float
read t = texel t.samples.now t.bitmap.width t.bitmap.channels
