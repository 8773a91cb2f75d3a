-- What the stages of the pass leave for each other, over plain lists. Assumes nothing.
--     found_staged       finding over a stencil without an error leaves the byte of each cell, with an error or not
--     made_staged        and the tests that it makes are those of texels that are protected so
--     byte_at_says       the byte of a cell says whether a corner protects its texel, whether it is protected and whether it is flagged
--     byte_at_disabled   in mode Disabled it is 0
use mathlib.Core.Path.{◌≡◌, refl, sym, ◌∙◌, ap}
use mathlib.Core.Bool.{Bool, true, false, cond}
use mathlib.Core.List.{List}
use Prim.Native.Nat.{ℕ, ◌/◌, ◌%◌}
use lib.ListN.{length, get_or}
use lib.Dec.{eqb}
use lib.Ieee.{Float}
use Rattle.ranges.specs.declared.config.Settings.{Settings}
use Rattle.ground.specs.Lists.{tab, total}
use Rattle.correction.specs.Bitmap.{texel}
use Rattle.ranges.specs.Config.{disabled, edge_priority, edge_only}
use Rattle.inputs.specs.Stencil.{stencil_byte, has_corner, is_protected, is_error, set_error}
use Rattle.inputs.specs.Checks.{Input}
use Rattle.correction.specs.Errors.{has_artifact, tests_made}
use Rattle.correction.specs.Pass.{cornered, protects, flags, byte_at}
use Rattle.correction.specs.Inner.{marked, found, made_for, made_in}
use Rattle.inputs.proofs.Laws.Stencil.{byte_says, byte_sets, byte_clear}
use Rattle.ground.proofs.Laws.Fill.{tab_length, tab_at, tab_same}
use Rattle.ground.proofs.Laws.Spent.{total_same}

added : (c p e : Bool) → cond e (set_error (stencil_byte c p false)) (stencil_byte c p false) ≡ stencil_byte c p e
added c p true = (byte_sets c p false).2
added c p false = refl

marked_staged : (xs : List Float) (w h ch : ℕ) (s : Settings) (c p : Bool) (x y : ℕ) → marked xs w h ch s (stencil_byte c p false) x y ≡ stencil_byte c p (has_artifact (texel xs w ch) w h s p x y)
unfolding marked
marked_staged xs w h ch s c p x y =
    ap (λ (b : Bool). cond (has_artifact (texel xs w ch) w h s b x y) (set_error (stencil_byte c p false)) (stencil_byte c p false)) (byte_says c p false).1
    ∙ added c p (has_artifact (texel xs w ch) w h s p x y)

pub found_staged : (xs : List Float) (w h ch : ℕ) (s : Settings) (n : ℕ) (c p : ℕ → Bool) (st : List ℕ) → st ≡ tab n (λ k. stencil_byte (c k) (p k) false) → found xs w h ch s st ≡ tab n (λ k. stencil_byte (c k) (p k) (has_artifact (texel xs w ch) w h s (p k) (k % w) (k / w)))
unfolding found
found_staged xs w h ch s n c p st e =
    let q : ℕ → ℕ = λ k. stencil_byte (c k) (p k) false in
    let f : List ℕ → ℕ → ℕ = λ z k. marked xs w h ch s (get_or z k 0) (k % w) (k / w) in
    ap (λ (z : List ℕ). tab (length z) (f z)) e
    ∙ ap (λ (m : ℕ). tab m (f (tab n q))) (tab_length n q)
    ∙ tab_same n (f (tab n q)) (λ k. stencil_byte (c k) (p k) (has_artifact (texel xs w ch) w h s (p k) (k % w) (k / w)))
    (λ k l. ap (λ (v : ℕ). marked xs w h ch s v (k % w) (k / w)) (tab_at n q k 0 l) ∙ marked_staged xs w h ch s (c k) (p k) (k % w) (k / w))

pub made_staged : (xs : List Float) (w h ch : ℕ) (s : Settings) (n : ℕ) (c p : ℕ → Bool) (st : List ℕ) → st ≡ tab n (λ k. stencil_byte (c k) (p k) false) → made_in xs w h ch s st ≡ total n (λ k. tests_made (texel xs w ch) w h s (p k) (k % w) (k / w))
unfolding made_in made_for
made_staged xs w h ch s n c p st e =
    let q : ℕ → ℕ = λ k. stencil_byte (c k) (p k) false in
    let f : List ℕ → ℕ → ℕ = λ z k. tests_made (texel xs w ch) w h s (is_protected (get_or z k 0)) (k % w) (k / w) in
    ap (λ (z : List ℕ). total (length z) (f z)) e
    ∙ ap (λ (m : ℕ). total m (f (tab n q))) (tab_length n q)
    ∙ total_same n (f (tab n q)) (λ k. tests_made (texel xs w ch) w h s (p k) (k % w) (k / w))
    (λ k l. ap (λ (b : Bool). tests_made (texel xs w ch) w h s b (k % w) (k / w)) (ap is_protected (tab_at n q k 0 l) ∙ (byte_says (c k) (p k) false).1))

pub byte_at_says : (i : Input) (k : ℕ) → let x = k % i.width in let y = k / i.width in (has_corner (byte_at i k) ≡ cornered i x y) × (is_protected (byte_at i k) ≡ protects i x y) × (is_error (byte_at i k) ≡ flags i x y)
unfolding byte_at
byte_at_says i k = byte_says _ _ _

pub byte_at_disabled : (i : Input) → i.mode ≡ disabled → (k : ℕ) → byte_at i k ≡ 0
unfolding byte_at cornered protects flags
byte_at_disabled i m k = simp (ap (λ (n : ℕ). eqb n disabled) m, ap (λ (n : ℕ). eqb n edge_priority) m, ap (λ (n : ℕ). eqb n edge_only) m) (sym byte_clear)
