-- The figures to check against, as one table. Definitions only.
use Rattle.std.specs.Prelude.{◌≡◌, true, false, List, [], ◌∷◌, ◌++◌, ℕ, ◌*◌, Float}
use Rattle.std.specs.Float.{nan, binary32, binary64}
use Rattle.std.specs.Float.Ieee.{of_bits}
use Rattle.ground.specs.Lists.{tab}
use Rattle.ranges.specs.Constants.{epsilon, one_less_epsilon}
use Rattle.numbers.specs.SquareRoot.{sqrt_of}
use Rattle.numbers.specs.EquationSolver.{roots_of}
use Rattle.std.specs.Prelude.{Ok}
use Rattle.ranges.specs.Config.{indiscriminate, edge_priority, edge_only}
use Rattle.inputs.specs.Checks.{Input, accepted}
use Rattle.detectors.specs.Linear.{crossing}
use Rattle.detectors.specs.Pairs.{inside}
use Rattle.correction.specs.Corners.{Segment, is_corner}
use Rattle.correction.specs.Pass.{tests_at, answer, stencil_after}

-- ---- values by their patterns

abbrev pub f32 : ℕ → Float
f32 n = of_bits binary32 n

abbrev pub f64 : ℕ → Float
f64 n = of_bits binary64 n

-- f64.0625, .125, .249 and .25
abbrev pub sixteenth : Float
sixteenth = f64 0x3fb0_0000_0000_0000

abbrev pub eighth : Float
eighth = f64 0x3fc0_0000_0000_0000

abbrev pub under_quarter : Float
under_quarter = f64 0x3fcf_df3b_645a_1cac

abbrev pub quarter : Float
quarter = f64 0x3fd0_0000_0000_0000

-- ---- passes

-- a room of two rows of w, with NaN everywhere
abbrev pub lent : ℕ → List Float
lent w = tab (2 * w) (λ k. nan)

-- three channels, ratio 1, all lengths the same, no outlines
abbrev pub case : ℕ → ℕ → List Float → List ℕ → ℕ → Float → Input
case w h xs st mode length =
    record {
      width = w;
      height = h;
      channels = 3;
      samples = xs;
      stencil = st;
      room = lent w;
      mode = mode;
      settings = record { ratio = f64 0x3ff0_0000_0000_0000; horizontal = length; vertical = length; diagonal = length };
      colours = [];
      coords = [];
      ends = [];
    }

-- 2 × 1 and 2 × 2; the old stencil has 9 everywhere
abbrev pub pair : List Float → ℕ → Float → Input
pair xs mode length = case 2 1 xs (9 ∷ 9 ∷ []) mode length

abbrev pub square : List Float → ℕ → Float → Input
square xs mode length = case 2 2 xs (9 ∷ 9 ∷ 9 ∷ 9 ∷ []) mode length

-- (1, 0, .75) beside (0, 1, .75)
abbrev pub case_p : List Float
case_p = f32 0x3f80_0000 ∷ f32 0 ∷ f32 0x3f40_0000 ∷ f32 0 ∷ f32 0x3f80_0000 ∷ f32 0x3f40_0000 ∷ []

-- (1, .625, .75) beside (.625, 1, .75)
abbrev pub crossed : List Float
crossed = f32 0x3f80_0000 ∷ f32 0x3f20_0000 ∷ f32 0x3f40_0000 ∷ f32 0x3f20_0000 ∷ f32 0x3f80_0000 ∷ f32 0x3f40_0000 ∷ []

-- (.75, .25, .625) beside (.25, .75, .375)
abbrev pub edge : List Float
edge = f32 0x3f40_0000 ∷ f32 0x3e80_0000 ∷ f32 0x3f20_0000 ∷ f32 0x3e80_0000 ∷ f32 0x3f40_0000 ∷ f32 0x3ec0_0000 ∷ []

-- (1, 0, .75) (.5, .5, .75) below (.5, .5, .75) (0, 1, .75)
abbrev pub slanted : List Float
slanted =
    f32 0x3f80_0000 ∷ f32 0 ∷ f32 0x3f40_0000 ∷ f32 0x3f00_0000 ∷ f32 0x3f00_0000 ∷ f32 0x3f40_0000
    ∷ f32 0x3f00_0000 ∷ f32 0x3f00_0000 ∷ f32 0x3f40_0000 ∷ f32 0 ∷ f32 0x3f80_0000 ∷ f32 0x3f40_0000 ∷ []

-- (.5, 1, 1.5) in the middle and in the corners of 3 × 3 texels, and (2.5, .75, -.5) beside them; lengths 16, Indiscriminate
abbrev pub checkered : Input
checkered =
    let a = f32 0x3f00_0000 ∷ f32 0x3f80_0000 ∷ f32 0x3fc0_0000 ∷ [] in
    let b = f32 0x4020_0000 ∷ f32 0x3f40_0000 ∷ f32 0xbf00_0000 ∷ [] in
    case 3 3 (a ++ b ++ a ++ b ++ a ++ b ++ a ++ b ++ a) (9 ∷ 9 ∷ 9 ∷ 9 ∷ 9 ∷ 9 ∷ 9 ∷ 9 ∷ 9 ∷ []) indiscriminate (f64 0x4030_0000_0000_0000)

-- the pass accepts, counts p protected cells, e errors and k corner cells, makes t range tests, and leaves the stencil st
abbrev pub Leaves : Input → ℕ → ℕ → ℕ → ℕ → List ℕ → Type 0
Leaves i p e k t st = (answer i ≡ Ok (record { counts = record { protected = p; error = e; corner = k }; tests = t })) × (stencil_after i ≡ st)

-- ---- outlines

-- a contour of two segments of the given colours
abbrev pub two_colours : ℕ → ℕ → List Segment
two_colours a b = record { colour = a; x = nan; y = nan } ∷ record { colour = b; x = nan; y = nan } ∷ []

-- C5's two texels and two of (0, 0, 0) in a row, with a corner at (2, .5), between the second and the third
abbrev pub beside : ℕ → Input
beside mode =
    record {
      width = 4;
      height = 1;
      channels = 3;
      samples = edge ++ (f32 0 ∷ f32 0 ∷ f32 0 ∷ f32 0 ∷ f32 0 ∷ f32 0 ∷ []);
      stencil = 9 ∷ 9 ∷ 9 ∷ 9 ∷ [];
      room = lent 4;
      mode = mode;
      settings = record { ratio = f64 0x3ff0_0000_0000_0000; horizontal = quarter; vertical = quarter; diagonal = quarter };
      colours = 3 ∷ 6 ∷ [];
      coords = f64 0x4000_0000_0000_0000 ∷ f64 0x3fe0_0000_0000_0000 ∷ f64 0x4022_0000_0000_0000 ∷ f64 0x4022_0000_0000_0000 ∷ [];
      ends = 2 ∷ [];
    }

-- ---- the table

pub record Figures : Type 0 where
  -- case P's texels in EdgeOnly: both still flagged
  pub c1 : Leaves (pair case_p edge_only quarter) 2 2 0 2 (3 ∷ 3 ∷ [])
  -- Indiscriminate, lengths.0625: both flagged
  pub c2 : Leaves (pair crossed indiscriminate sixteenth) 0 2 0 2 (1 ∷ 1 ∷ [])
  -- lengths.125: none
  pub c3 : Leaves (pair crossed indiscriminate eighth) 0 0 0 6 (0 ∷ 0 ∷ [])
  -- lengths.0625, EdgeOnly: none
  pub c4 : Leaves (pair crossed edge_only sixteenth) 2 0 0 6 (2 ∷ 2 ∷ [])
  -- EdgePriority, all lengths .25: both protected
  pub c5 : Leaves (pair edge edge_priority quarter) 2 0 0 6 (2 ∷ 2 ∷ [])
  -- all lengths .249: neither
  pub c6 : Leaves (pair edge edge_priority under_quarter) 0 0 0 6 (0 ∷ 0 ∷ [])
  -- 2 × 2, lengths.25, Indiscriminate: rows `E.` and `.E`
  pub c7 : Leaves (square slanted indiscriminate quarter) 0 2 0 6 (1 ∷ 0 ∷ 0 ∷ 1 ∷ [])
  -- the quotients 1 / 100 of differences 1 and -99, and 99 / 100 of 99 and -1, are the f64 0.01 and 1 - 0.01, and are excluded
  pub c8 : (crossing (f32 0x3f80_0000) (f32 0xc2c6_0000) ≡ epsilon) × (inside epsilon ≡ false) × (crossing (f32 0x42c6_0000) (f32 0xbf80_0000) ≡ one_less_epsilon) × (inside one_less_epsilon ≡ false)
  -- colours 3 and 6 make a corner, 7 and 3 don't
  pub c9 : (is_corner (two_colours 3 6) 0 ≡ true) × (is_corner (two_colours 3 6) 1 ≡ true) × (is_corner (two_colours 7 3) 0 ≡ false) × (is_corner (two_colours 7 3) 1 ≡ false)
  -- roots of (1, -3, 2) are 2, 1; of (1, 2, 1) -1; of (0, 0, 0) none
  pub c10 : (roots_of (f64 0x3ff0_0000_0000_0000) (f64 0xc008_0000_0000_0000) (f64 0x4000_0000_0000_0000) ≡ f64 0x4000_0000_0000_0000 ∷ f64 0x3ff0_0000_0000_0000 ∷ []) × (roots_of (f64 0x3ff0_0000_0000_0000) (f64 0x4000_0000_0000_0000) (f64 0x3ff0_0000_0000_0000) ≡ f64 0xbff0_0000_0000_0000 ∷ []) × (roots_of (f64 0) (f64 0) (f64 0) ≡ [])
  -- root of 2
  pub c11 : sqrt_of (f64 0x4000_0000_0000_0000) ≡ f64 0x3ff6_a09e_667f_3bcd
  -- an edge, both, a corner, neither: rows `PCC.`; in EdgeOnly `PPPP`
  pub c12 : Leaves (beside edge_priority) 3 0 2 6 (2 ∷ 6 ∷ 6 ∷ 0 ∷ []) × Leaves (beside edge_only) 4 0 0 6 (2 ∷ 2 ∷ 2 ∷ 2 ∷ [])
  -- 84 range tests for the middle one of 3 × 3 texels, of an input that is accepted
  pub c13 : (accepted checkered ≡ true) × (tests_at checkered 1 1 ≡ 84)
