-- Windows of a sheet: where their cells and samples lie in it, and what is cut out by one. Definitions only.
use Rattle.std.specs.Prelude.{ℕ, ◌+◌, ◌*◌, ◌/◌, ◌%◌, List, Float}
use Rattle.std.specs.Float.{nan}
use Rattle.ground.specs.Lists.{picked, Pasted}
use Rattle.inputs.specs.declared.sizes.Window.{Window}

-- the number in the sheet of the cell of texel x, y of a window
abbrev pub cell_in : Window → ℕ → ℕ → ℕ
cell_in g x y = g.origin + (y * g.stride + x)

-- the same of cell k, as the window counts its cells
unfoldable pub cell_shown : Window → ℕ → ℕ
cell_shown g k = cell_in g (k % g.width) (k / g.width)

-- the place in the sheet of sample j, as the window counts its samples
unfoldable pub sample_shown : Window → ℕ → ℕ
sample_shown g j = cell_shown g (j / g.channels) * g.channels + j % g.channels

-- the stencil cells and the samples of a window, as a bitmap alone has them
abbrev pub cut_cells : Window → List ℕ → List ℕ
cut_cells g st = picked 0 (g.height * g.width) (cell_shown g) st

abbrev pub cut_samples : Window → List Float → List Float
cut_samples g xs = picked nan (g.height * g.width * g.channels) (sample_shown g) xs

-- the second list is the first with new cells in the window, and the same of samples
abbrev pub CellsPasted : Window → List ℕ → List ℕ → List ℕ → Type 0
CellsPasted g st st' new = Pasted 0 (g.height * g.width) (cell_shown g) st st' new

abbrev pub SamplesPasted : Window → List Float → List Float → List Float → Type 0
SamplesPasted g xs xs' new = Pasted nan (g.height * g.width * g.channels) (sample_shown g) xs xs' new

-- the window that is the whole of a bitmap
abbrev pub whole : ℕ → ℕ → ℕ → Window
whole w h ch = record { width = w; height = h; channels = ch; origin = 0; stride = w }
