-- Columns and rows counted from 1. Assumes nothing.
use mathlib.Core.Path.{◌≡◌}
use mathlib.Core.Bool.{true, ◌&&◌, and-eq-true_iff}
use Prim.Native.Nat.{ℕ, ◌-◌, ◌<◌, ◌≤◌}
use native.Mathlib.Omega.{arith}
use lib.Dec.{ltb, leb}
use borrow.Author.Tests.{ltb-true, leb-true}
use Rattle.inputs.specs.Bounds.{in_bounds}

-- column nx and row ny, counted from 1, are inside
pub record Inside (w h nx ny : ℕ) : Type 0 where
  pub from_left : 0 < nx
  pub to_right : nx ≤ w
  pub from_low : 0 < ny
  pub to_high : ny ≤ h
  pub column : nx - 1 < w
  pub row : ny - 1 < h

pub inside : (w h nx ny : ℕ) → in_bounds w h nx ny ≡ true → Inside w h nx ny
unfolding in_bounds
inside w h nx ny e =
    let p = (and-eq-true_iff (ltb 0 nx) (leb nx w && (ltb 0 ny && leb ny h))).0 e in
    let q = (and-eq-true_iff (leb nx w) (ltb 0 ny && leb ny h)).0 p.1 in
    let r = (and-eq-true_iff (ltb 0 ny) (leb ny h)).0 q.1 in
    let left : 0 < nx = ltb-true 0 nx p.0 in
    let right : nx ≤ w = leb-true nx w q.0 in
    let low : 0 < ny = ltb-true 0 ny r.0 in
    let high : ny ≤ h = leb-true ny h r.1 in
    record { from_left = left; to_right = right; from_low = low; to_high = high; column = omega arith; row = omega arith }
