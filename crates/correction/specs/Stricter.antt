-- When a second pass is asked to be stricter than a first one, the relation of demand 3; and when it has more outlines. Definitions only.
use Rattle.std.specs.Prelude.{◌≡◌, ◌≤◌, List, [], ◌∷◌, T, Float}
use Rattle.std.specs.Float.Ieee.{le}
use Rattle.ranges.specs.declared.config.Settings.{Settings}
use Rattle.ranges.specs.Config.{disabled, edge_priority}
use Rattle.inputs.specs.Checks.{Input}
use Rattle.correction.specs.Corners.{Segment, contours}

-- The second list has every contour of the first in its order, with or without added ones. Empty contours count for nothing.
pub data Outlines : List (List Segment) → List (List Segment) → Type 0 where
  none : Outlines [] []
  kept : {cs ds : List (List Segment)} (c : List Segment) → Outlines cs ds → Outlines (c ∷ cs) (c ∷ ds)
  added : {cs ds : List (List Segment)} (d : List Segment) → Outlines cs ds → Outlines cs (d ∷ ds)
  skipped : {cs ds : List (List Segment)} → Outlines cs ds → Outlines ([] ∷ cs) ds

-- The ratio and the three lengths are each no smaller, by the floats' own order.
pub record NoSmaller (s s' : Settings) : Type 0 where
  pub ratio : T (le s.ratio s'.ratio)
  pub horizontal : T (le s.horizontal s'.horizontal)
  pub vertical : T (le s.vertical s'.vertical)
  pub diagonal : T (le s.diagonal s'.diagonal)

-- The second input has the same samples as the first, neither is Disabled, and it has a mode at least as strict, every outline of the first and settings no smaller.
pub record Stricter (i j : Input) : Type 0 where
  pub width : i.width ≡ j.width
  pub height : i.height ≡ j.height
  pub channels : i.channels ≡ j.channels
  pub samples : i.samples ≡ j.samples
  pub enabled : i.mode ≡ disabled → ⊥
  pub mode : i.mode ≤ j.mode
  pub outlines : Outlines (contours i.colours i.coords i.ends) (contours j.colours j.coords j.ends)
  pub settings : NoSmaller i.settings j.settings

-- Both inputs are EdgePriority, and the second has every outline of the first: all that decides on the cells that a corner protects.
pub record MoreOutlines (i j : Input) : Type 0 where
  pub first : i.mode ≡ edge_priority
  pub second : j.mode ≡ edge_priority
  pub outlines : Outlines (contours i.colours i.coords i.ends) (contours j.colours j.coords j.ends)

-- an input with another ratio
abbrev pub with_ratio : Input → Float → Input
with_ratio i r =
    record {
      width = i.width;
      height = i.height;
      channels = i.channels;
      samples = i.samples;
      stencil = i.stencil;
      room = i.room;
      mode = i.mode;
      settings = record { ratio = r; horizontal = i.settings.horizontal; vertical = i.settings.vertical; diagonal = i.settings.diagonal };
      colours = i.colours;
      coords = i.coords;
      ends = i.ends;
    }
