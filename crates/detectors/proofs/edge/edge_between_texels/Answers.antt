-- `detectors::edge::edge_between_texels` meets its contract: its tests are the definition's in another order. Assumes nothing.
use Rattle.std.proofs.Common.{◌≡◌, ℕ, Bool, true, false, not, ◌&&◌, ◌||◌, List, sym, refl, ap, ◌∙◌}
use mathlib.Core.Bool.{false≢true}
use lib.Ieee.{Float, binary64, lt, eq, ne}
use Rattle.numbers.specs.Constants.{zero_of, one_of}
use Rattle.ground.specs.Lists.{any}
use Rattle.ground.proofs.Laws.Bools.{or_taken, or_left}
use Rattle.ground.proofs.Laws.Search.{any_three}
use Rattle.detectors.specs.Texel.{channel}
use Rattle.detectors.specs.Pairs.{mixed_channel, mixed_median}
use Rattle.detectors.specs.Edge.{edge_point, edge_at, masked, extreme}
use Rattle.detectors.specs.Inner.{crossed, carried}
use Rattle.detectors.proofs.edge.edge_between_texels.Goals as goal
use Rattle.detectors.proofs.edge.edge_between_texels.Goals.{After-edge_between_texels_channel, After-edge_between_texels_channel-else-edge_between_texels_channel, After-edge_between_texels_channel-else-edge_between_texels_channel-2}

module _ (a b c : List Float) (m : Float) where
  -- a channel that is a candidate and carries the median is extreme, and no other
  told : (i : ℕ) {p v : Bool} → p ≡ ne (channel c i) m && crossed a b i → v ≡ p && carried a b i → v ≡ extreme a b c m i
  unfolding extreme masked edge_at
  told i e h = h ∙ ap (λ (p : Bool). p && carried a b i) e ∙ (let t = edge_point (channel a i) (channel b i) in arrange (ne (channel c i) m) (lt (zero_of binary64) t) (lt t (one_of binary64)) (eq (mixed_median a b t) (mixed_channel a b t i)))
    where
      arrange : (n p q d : Bool) → (n && (p && q)) && d ≡ (p && (q && d)) && n
      arrange true true true true = refl
      arrange true true true false = refl
      arrange true true false d = refl
      arrange true false q d = refl
      arrange false true true true = refl
      arrange false true true false = refl
      arrange false true false d = refl
      arrange false false q d = refl

  -- without a candidate no channel is
  none : {x y z : Bool} → x ≡ ne (channel c 0) m && crossed a b 0 → y ≡ ne (channel c 1) m && crossed a b 1 → z ≡ ne (channel c 2) m && crossed a b 2 → not (x || (y || z)) ≡ true → false ≡ any 3 (extreme a b c m)
  none {x} {y} {z} p q r h =
      go x y z (carried a b 0) (carried a b 1) (carried a b 2) h
      ∙ (λ i. told 0 p refl i || (told 1 q refl i || told 2 r refl i)) ∙ sym (any_three (extreme a b c m))
    where
      go : (x y z u v w : Bool) → not (x || (y || z)) ≡ true → false ≡ (x && u) || ((y && v) || (z && w))
      go true y z u v w h = absurd (false≢true h)
      go false true z u v w h = absurd (false≢true h)
      go false false true u v w h = absurd (false≢true h)
      go false false false u v w h = refl

pub returns-then-not-x-y : goal.returns-then-not-x-y
returns-then-not-x-y c =
    let z = c.before in
    let y = z.before in
    none _ _ _ _ y.before.candidate-x.ensures y.candidate-y.ensures z.candidate-z.ensures c.if-not-x-y.true-raw

-- the first channel, the second and the third are extreme just where the code says so
first : (c : After-edge_between_texels_channel) → let x = c.before.before.before.before in let a = x.before.args in c.edge_between_texels_channel.result ≡ extreme a.a a.b a.c a.m 0
first c = told _ _ _ _ 0 c.before.before.before.before.candidate-x.ensures c.edge_between_texels_channel.ensures

second : (c : After-edge_between_texels_channel-else-edge_between_texels_channel) → let x = c.before.before.before.before.before.before in let a = x.before.args in c.edge_between_texels_channel-else-edge_between_texels_channel.result ≡ extreme a.a a.b a.c a.m 1
second c = told _ _ _ _ 1 c.before.before.before.before.before.candidate-y.ensures c.edge_between_texels_channel-else-edge_between_texels_channel.ensures

third : (c : After-edge_between_texels_channel-else-edge_between_texels_channel-2) → let x = c.before.before.before.before.before.before.before.before in let a = x.before.args in c.edge_between_texels_channel-else-edge_between_texels_channel-2.result ≡ extreme a.a a.b a.c a.m 2
third c = told _ _ _ _ 2 c.before.before.before.before.before.before.candidate-z.ensures c.edge_between_texels_channel-else-edge_between_texels_channel-2.ensures

pub returns-then-edge_between_texels_channel : goal.returns-then-edge_between_texels_channel
returns-then-edge_between_texels_channel c = or_taken _ (first c.before) c.if-edge_between_texels_channel.true ∙ sym (any_three _)

pub returns-then-edge_between_texels_channel-2 : goal.returns-then-edge_between_texels_channel-2
returns-then-edge_between_texels_channel-2 c =
    let e = c.before in
    or_left (first e.before.before) e.before.if-edge_between_texels_channel.false (or_taken _ (second e) c.if-edge_between_texels_channel-2.true) ∙ sym (any_three _)

pub returns-else-edge_between_texels_channel-2 : goal.returns-else-edge_between_texels_channel-2
returns-else-edge_between_texels_channel-2 c =
    let e = c.before.before in
    or_left (first e.before.before) e.before.if-edge_between_texels_channel.false (or_left (second e) c.before.if-edge_between_texels_channel-2.false (third c)) ∙ sym (any_three _)
