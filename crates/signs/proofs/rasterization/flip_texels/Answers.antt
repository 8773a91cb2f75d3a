-- `signs::rasterization::flip_texels` meets its contract: the texels that turn are flipped in the rows below y, and in row y before column x. Assumes nothing.
use mathlib.Core.Path.{◌≡◌, refl, sym, ◌∙◌, subst}
use mathlib.Core.Bool.{Bool, true, false, cond, ◌&&◌}
use mathlib.Core.List.{List}
use Prim.Native.Nat.{ℕ, ◌+◌, ◌-◌, ◌*◌, ◌<◌, ◌≤◌}
use native.Mathlib.Nat.{le_of_eq}
use native.Mathlib.Omega.{arith}
use lib.Arith.{digits_div, digits_mod}
use lib.Dec.{ltb}
use lib.IntN.{ℤ}
use lib.ListN.{length}
use lib.Ieee.{Float}
use borrow.Author.Tests.{lt-ltb, le-ltb}
use Rattle.inputs.proofs.Laws.Places.{cell_lt, place_lt}
use Rattle.signs.specs.Signs.{turns}
use Rattle.signs.specs.Inner.{turns_at, flipped_at}
use Rattle.signs.proofs.rasterization.Steps.{Flipping, flipping_all, three_next, none_next}
use Rattle.signs.proofs.rasterization.flip_texels.Goals as goal
use Rattle.signs.proofs.rasterization.flip_texels.Goals.{In-loop-x}

-- channel d of texel x, y, whose number is k
of_texel : (w h ch : ℕ) (ms : List ℤ) (x y k d : ℕ) → k ≡ y * w + x → x < w → d < ch → turns_at w h ch ms (k * ch + d) ≡ (ltb d 3 && turns w h ms x y)
unfolding turns_at
of_texel w h ch ms x y k d e l m = rw (digits_mod k m, digits_div k m, e, digits_mod y l, digits_div y l)

module _ (w h ch : ℕ) (ms : List ℤ) (zero : Float) (xs₀ : List Float) where
  -- sample j of texel k
  sample : (x y k j : ℕ) → k ≡ y * w + x → x < w → k * ch ≤ j → j < k * ch + ch → turns_at w h ch ms j ≡ (ltb (j - k * ch) 3 && turns w h ms x y)
  sample x y k j e l a b =
      let q : k * ch + (j - k * ch) ≡ j = omega arith in
      subst (λ (i : ℕ). turns_at w h ch ms i ≡ (ltb (j - k * ch) 3 && turns w h ms x y)) q (of_texel w h ch ms x y k (j - k * ch) e l (omega arith))

  -- a texel by whether it turns
  next : {xs : List Float} (x y k : ℕ) (t : Bool) → t ≡ turns w h ms x y → k ≡ y * w + x → x < w → 3 ≤ ch → k * ch + 2 < length xs
      → Flipping zero (turns_at w h ch ms) xs₀ (k * ch) xs → Flipping zero (turns_at w h ch ms) xs₀ ((k + 1) * ch) (cond t (flipped_at zero xs (k * ch)) xs)
  next x y k true t e l c b f =
      three_next zero (turns_at w h ch ms) xs₀ k ch f c b
      (λ j p q. sample x y k j e l p (omega arith) ∙ rw (lt-ltb (j - k * ch) 3 (omega arith), sym t))
      (λ j p q. sample x y k j e l (omega arith) q ∙ rw (le-ltb (j - k * ch) 3 (omega arith)))
  next x y k false t e l c b f =
      none_next zero (turns_at w h ch ms) xs₀ k ch f
      (λ j p q. sample x y k j e l p q ∙ rw (sym t) (and_false (ltb (j - k * ch) 3)))
    where
      and_false : (b : Bool) → (b && false) ≡ false
      and_false true = refl
      and_false false = refl

-- the last of the three samples of the texel that a turn is about
place : (t : In-loop-x) → let a = t.args in (t.loop-y.y * a.b.width + t.loop-x.x) * a.b.channels + 2 < length t.loop-x.xs
place t =
    let a = t.args in
    let k = t.loop-y.y * a.b.width + t.loop-x.x in
    let cell : k < length a.ms.now = omega (arith, t.requires.mapped.long, cell_lt a.b.width a.b.height t.loop-x.x t.loop-y.y t.loop-x-test.true t.loop-y-test.true) in
    omega (arith, t.loop-x.invariant.len, t.requires.sizes.2, place_lt a.b.channels k (length a.ms.now) t.requires.sizes.0 cell)

pub flip_texel-requires : goal.flip_texel-requires
flip_texel-requires c = place (goal.at.flip_texel-requires c).In-loop-x

pub loop-x-preserved : goal.loop-x-preserved
loop-x-preserved c =
    let a = c.args in
    let b = a.b in
    let x = c.loop-x.x in
    let k = c.loop-y.y * b.width + x in
    let turn = turns_at b.width b.height b.channels a.ms.now in
    let e : k + 1 ≡ c.loop-y.y * b.width + (x + 1) = omega arith in
    subst (λ (n : ℕ). Flipping a.zero turn a.xs.now (n * b.channels) c.flip_texel.new.xs) e
    (subst (λ (xs : List Float). Flipping a.zero turn a.xs.now ((k + 1) * b.channels) xs) (sym c.flip_texel.ensures)
    (next b.width b.height b.channels a.ms.now a.zero a.xs.now x c.loop-y.y k _ c.turns-turn.ensures refl c.loop-x-test.true c.requires.sizes.0 (place (goal.at.loop-x-preserved c).In-loop-x) c.loop-x.invariant))

pub returns : goal.returns
returns c =
    let l = c.loop-y in
    let b = c.args.b in
    let e : l.y ≡ b.height = omega (arith, l.auto.y-end, c.loop-y-test.false) in
    flipping_all c.args.zero _ c.args.xs.now l.invariant
    (subst (λ (n : ℕ). length c.args.xs.now ≤ n * b.width * b.channels) (sym e) (le_of_eq (c.requires.sizes.2 ∙ rw c.requires.mapped.long)))
