-- What the inner functions ask of each other and leave for each other. No public function's promise rests on this page. Definitions only.
use Rattle.std.specs.Prelude.{◌≡◌, ℕ, zero, suc, ◌+◌, ◌-◌, ◌*◌, ◌/◌, ◌%◌, ◌≤◌, ◌<◌, Bool, false, cond, ◌&&◌, ◌||◌, List, [], ◌∷◌, get_or, length, eqb, ltb, ℤ, pos, negsuc, Float}
use Rattle.std.specs.Float.{nan}
use Rattle.ranges.specs.declared.config.Settings.{Settings}
use Rattle.detectors.specs.Texel.{texel_median}
use Rattle.detectors.specs.Orders.{order_code}
use Rattle.detectors.specs.Edge.{protects_lower, protects_upper}
use Rattle.inputs.specs.declared.sizes.Window.{Window}
use Rattle.inputs.specs.declared.stencil.Counts.{Counts}
use Rattle.inputs.specs.Window.{cell_in, cut_cells, cut_samples}
use Rattle.inputs.specs.Checks.{Input, input}
use Rattle.correction.specs.declared.bitmap.Centre.{Centre}
use Rattle.correction.specs.declared.errors.Scan.{Scan}
use Rattle.ground.specs.Lists.{tab, total}
use Rattle.correction.specs.Bitmap.{cell, texel}
use Rattle.inputs.specs.Bounds.{in_bounds}
use Rattle.inputs.specs.Stencil.{stencil_byte, is_protected, set_corner, set_protected, set_error}
use Rattle.correction.specs.Errors.{has_artifact, tests_made}
use Rattle.correction.specs.Pass.{cornered, protects}

-- texel x, y as the centre of its neighbours
abbrev pub centre_of : List Float → ℕ → ℕ → ℕ → ℕ → Centre
centre_of xs w ch x y = record { texel = texel xs w ch x y; median = texel_median (texel xs w ch x y); x = x; y = y }

-- t is such a centre
pub record Centred (xs : List Float) (w h ch : ℕ) (t : Centre) : Type 0 where
  pub column : t.x < w
  pub row : t.y < h
  pub samples : t.texel ≡ texel xs w ch t.x t.y
  pub median : t.median ≡ texel_median t.texel

-- what a corner leaves of a byte: bit 4 beside bit 2
abbrev pub at_corner : ℕ → ℕ
at_corner v = set_corner (set_protected v)

-- cell k is that of column nx and row ny, counted from 1, which are inside
unfoldable pub spot : ℕ → ℕ → ℕ → ℕ → ℕ → Bool
spot w h nx ny k = in_bounds w h nx ny && eqb k (cell w (nx - 1) (ny - 1))

-- A signed column l as one counted from 1, where it is from -1 to n - 1, and elsewhere n + 1: so that neither it nor the next is inside.
unfoldable pub clip : ℤ → ℕ → ℕ
clip (pos l) n = cond (ltb l n) (suc l) (suc n)
clip (negsuc zero) n = 0
clip (negsuc (suc l)) n = suc n

-- the pair of texel a with n protects it, as the lower one or as the other one
unfoldable pub protects_as : Bool → Float → List Float → List Float → Bool
protects_as lower r a n = cond lower (protects_lower r a n) (protects_upper r n a)

-- the same of texel x, y and the neighbour at column nx and row ny, counted from 1
unfoldable pub as_either : Bool → (ℕ → ℕ → List Float) → ℕ → ℕ → Float → ℕ → ℕ → ℕ → ℕ → Bool
as_either lower tex w h r x y nx ny = in_bounds w h nx ny && protects_as lower r (tex x y) (tex (nx - 1) (ny - 1))

-- some pair of texel x, y with one half of its neighbours: that in its row, that in its column and the two across
unfoldable pub some_of : Bool → (ℕ → ℕ → List Float) → ℕ → ℕ → Float → Float → Float → ℕ → ℕ → ℕ → ℕ → ℕ → Bool
some_of lower tex w h rh rv rd x y ahead behind level =
    as_either lower tex w h rh x y ahead (y + 1)
    || (as_either lower tex w h rv x y (x + 1) level
    || (as_either lower tex w h rd x y ahead level || as_either lower tex w h rd x y behind level))

-- the byte of a cell with its error bit set where its texel is flagged
unfoldable pub marked : List Float → ℕ → ℕ → ℕ → Settings → ℕ → ℕ → ℕ → ℕ
marked xs w h ch s v x y = cond (has_artifact (texel xs w ch) w h s (is_protected v) x y) (set_error v) v

-- the stencil after finding
unfoldable pub found : List Float → ℕ → ℕ → ℕ → Settings → List ℕ → List ℕ
found xs w h ch s st = tab (length st) (λ k. marked xs w h ch s (get_or st k 0) (k % w) (k / w))

-- the range tests made for texel x, y, whose cell has the byte v
unfoldable pub made_for : List Float → ℕ → ℕ → ℕ → Settings → ℕ → ℕ → ℕ → ℕ
made_for xs w h ch s v x y = tests_made (texel xs w ch) w h s (is_protected v) x y

-- the range tests made in finding
unfoldable pub made_in : List Float → ℕ → ℕ → ℕ → Settings → List ℕ → ℕ
made_in xs w h ch s st = total (length st) (λ k. made_for xs w h ch s (get_or st k 0) (k % w) (k / w))

-- the cells of a window hold zeros
abbrev pub Cleared : Window → List ℕ → Type 0
Cleared g st = cut_cells g st ≡ tab (g.height * g.width) (λ k. 0)

-- a window as a bitmap alone, with a stencil of zeros and no room, on which nothing that the engine leaves depends
abbrev pub cut_out : Window → List Float → ℕ → Settings → List ℕ → List Float → List ℕ → Input
cut_out g xs mode s colours coords ends = input g.width g.height g.channels (cut_samples g xs) (tab (g.height * g.width) (λ k. 0)) [] mode s colours coords ends

-- the stencil that protection leaves
unfoldable pub shielded_cells : Input → List ℕ
shielded_cells i = tab (i.height * i.width) (λ k. stencil_byte (cornered i (k % i.width) (k / i.width)) (protects i (k % i.width) (k / i.width)) false)

-- the three samples from a place on
abbrev pub samples_at : List Float → ℕ → List Float
samples_at xs at = get_or xs at nan ∷ get_or xs (at + 1) nan ∷ get_or xs (at + 2) nan ∷ []

-- the four texels of a diagonal test: a, and those whose samples stand from three places on
abbrev pub four_at : List Float → List Float → ℕ → ℕ → ℕ → List (List Float)
four_at xs a row column across = a ∷ samples_at xs row ∷ samples_at xs column ∷ samples_at xs across ∷ []

-- the four texels of the diagonal test of texel a at x, y against the one at u, v
abbrev pub four_of : (ℕ → ℕ → List Float) → List Float → ℕ → ℕ → ℕ → ℕ → List (List Float)
four_of tex a x y u v = a ∷ tex u y ∷ tex x v ∷ tex u v ∷ []

-- ---- orders, while errors are found

-- each cell of a window has no more than the three bits
abbrev pub Plain : Window → List ℕ → Type 0
Plain g st = (x y : ℕ) → x < g.width → y < g.height → get_or st (cell_in g x y) 0 < 8

-- each cell of row y of a window has no more than the three bits
abbrev pub PlainRow : Window → List ℕ → ℕ → Type 0
PlainRow g st y = (x : ℕ) → x < g.width → get_or st (cell_in g x y) 0 < 8

-- the order that stands above the three bits in the cell of texel x, y of a window
abbrev pub order_in : Window → List ℕ → ℕ → ℕ → ℕ
order_in g st x y = get_or st (cell_in g x y) 0 / 8

-- in each cell of a window stands the order of its texel
abbrev pub Ordered : Window → List Float → List ℕ → Type 0
Ordered g xs st = (x y : ℕ) → x < g.width → y < g.height → order_in g st x y ≡ order_code (texel (cut_samples g xs) g.width g.channels x y)

-- cells with the orders of their texels above the three bits, and without them
unfoldable pub with_orders : List Float → ℕ → ℕ → List ℕ → List ℕ
with_orders xs w ch st = tab (length st) (λ k. get_or st k 0 + 8 * order_code (texel xs w ch (k % w) (k / w)))

unfoldable pub without_orders : List ℕ → List ℕ
without_orders st = tab (length st) (λ k. get_or st k 0 % 8)

-- cells with the orders of the texels of row y above the three bits
unfoldable pub row_orders : List Float → ℕ → ℕ → ℕ → List ℕ → List ℕ
row_orders xs w ch y st = tab (length st) (λ k. cond (eqb (k / w) y) (get_or st k 0 + 8 * order_code (texel xs w ch (k % w) (k / w))) (get_or st k 0))

-- texel x, y and all around it have one order, which is beyond doubt
pub record Settled (g : Window) (st : List ℕ) (x y : ℕ) : Type 0 where
  pub beyond : 1 ≤ order_in g st x y
  pub around : (u v : ℕ) → u < g.width → v < g.height → u ≤ x + 1 → x ≤ u + 1 → v ≤ y + 1 → y ≤ v + 1 → order_in g st u v ≡ order_in g st x y

-- the column or row after one of n, or itself where it is the last
abbrev pub next_in : ℕ → ℕ → ℕ
next_in x n = cond (ltb (x + 1) n) (x + 1) x

-- the order of the texels of column x in row y and the rows beside it, where it is one; else 0
abbrev pub column_in : Window → List ℕ → ℕ → ℕ → ℕ
column_in g st x y =
    let o = order_in g st x y in
    cond (eqb (order_in g st x (y - 1)) o && eqb (order_in g st x (next_in y g.height)) o) o 0

-- a scan along row y has come to column x, and knows the orders of that column and of the one before; or past the last
pub record Scanned (g : Window) (st : List ℕ) (y : ℕ) (at : Scan) : Type 0 where
  pub few : at.x ≤ g.width
  pub left : at.x < g.width → at.left ≡ column_in g st (at.x - 1) y
  pub here : at.x < g.width → at.here ≡ column_in g st at.x y

-- the cells after finding in row y, and the range tests made in it
unfoldable pub row_found : List Float → ℕ → ℕ → ℕ → Settings → ℕ → List ℕ → List ℕ
row_found xs w h ch s y st = tab (length st) (λ k. cond (eqb (k / w) y) (marked xs w h ch s (get_or st k 0) (k % w) (k / w)) (get_or st k 0))

unfoldable pub row_made : List Float → ℕ → ℕ → ℕ → Settings → ℕ → List ℕ → ℕ
row_made xs w h ch s y st = total w (λ x. made_for xs w h ch s (get_or st (cell w x y) 0) x y)

-- the counts of two parts
abbrev pub together : Counts → Counts → Counts
together a b = record { protected = a.protected + b.protected; error = a.error + b.error; corner = a.corner + b.corner }

-- ---- a row of cells that are painted one after another

-- the first n cells of row y of a window are painted: what stands in each is what `made` allows for its number and its byte, and all else is as it was
pub record RowPainted (made : ℕ → ℕ → ℕ → Type 0) (g : Window) (y n : ℕ) (st st' : List ℕ) : Type 0 where
  pub long : length st' ≡ length st
  pub done : (x : ℕ) → x < n → made (cell_in g x y) (get_or st (cell_in g x y) 0) (get_or st' (cell_in g x y) 0)
  pub rest : (k : ℕ) → ((x : ℕ) → x < n → k ≡ cell_in g x y → ⊥) → get_or st' k 0 ≡ get_or st k 0

-- ---- medians, while edges are protected

-- where the medians of row y start in the room: two rows by turns
abbrev pub row_place : Window → ℕ → ℕ
row_place g y = y % 2 * g.width

-- the room has the medians of row y
abbrev pub Medians : Window → List Float → List Float → ℕ → Type 0
Medians g xs room y = (x : ℕ) → x < g.width → get_or room (row_place g y + x) nan ≡ texel_median (texel (cut_samples g xs) g.width g.channels x y)

-- and those of row y and of the next, where there is one
pub record Rows (g : Window) (xs : List Float) (room : List Float) (y : ℕ) : Type 0 where
  pub own : Medians g xs room y
  pub next : y + 1 < g.height → Medians g xs room (y + 1)
