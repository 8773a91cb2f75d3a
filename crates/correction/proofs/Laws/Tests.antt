-- How many range tests the pass makes. Assumes nothing.
--     linear_made_le, diagonal_made_le   for a texel at most 12 linear and 72 diagonal ones,
--     tests_at_le                        so at most 84
--     flagged_tested                     and at least one where it is flagged
--     test_count_le, test_count_fits     for a bitmap at most 84 times its texels, which fits its type
--     errors_tested                      and at least as many as texels are flagged
--     refused_tests, disabled_tests      none for a refusal and in Disabled
--     promise_tests, promise_errors      the same bounds of a run of the public function, by its promise
use mathlib.Core.Path.{◌≡◌, refl, sym, ◌∙◌, subst}
use mathlib.Core.Bool.{Bool, true, false, cond, not, ◌&&◌, ◌||◌, true≢false}
use mathlib.Core.List.{List, [], ◌∷◌}
use Prim.Native.Nat.{ℕ, ◌+◌, ◌*◌, ◌/◌, ◌%◌, ◌<◌, ◌≤◌}
use native.Mathlib.Nat.{mul-le-mul}
use native.Mathlib.Omega.{arith}
use lib.Dec.{eqb}
use lib.Ieee.{Float}
use contract.Lifetimes.{Lfts}
use borrow.Fn.Kinds.{Dens}
use borrow.Author.Tests.{eq-eqb}
use Rattle.ground.specs.Lists.{total, spent_in}
use Rattle.ground.proofs.Laws.Spent.{guard_small, guard_some, unless_small, next_found, total_zero, total_small}
use Rattle.ranges.specs.declared.config.Settings.{Settings}
use Rattle.ranges.specs.Config.{disabled, side_span, diagonal_span}
use Rattle.detectors.specs.Texel.{texel_median}
use Rattle.detectors.specs.Verdict.{verdict}
use Rattle.detectors.proofs.Laws.Verdict.{verdict_le}
use Rattle.detectors.proofs.Laws.Tests.{linear_tests_le, linear_tests_some, diagonal_tests_le, diagonal_tests_some}
use Rattle.inputs.specs.Checks.{Input, accepted}
use Rattle.inputs.specs.Stencil.{error_count}
use Rattle.inputs.proofs.Laws.Stencil.{error_under}
use Rattle.inputs.proofs.Laws.Checks.{sizes, passed}
use Rattle.inputs.specs.Bounds.{in_bounds}
use Rattle.correction.specs.Errors.{side_artifact, some_side, diagonal_artifact, some_diagonal, some_artifact, has_artifact, side_tests, across_tests, in_order, linear_made, diagonal_made, some_made, tests_made}
use Rattle.correction.specs.Pass.{texels, protects, flags, tests_at, pass_tests, errors_in, tests_in, error_cells, test_count, stencil_after}
use Rattle.correction.proofs.pass.msdf_error_correction.Kinds.{ps}
use Rattle.correction.proofs.pass.msdf_error_correction.Reads as entry
use Rattle.correction.proofs.Laws.Leaves.{number_zero, accepted_leaves, cell_error, stencil_length, given}

-- four in order, of which each takes at most m tests
four_le : (m : ℕ) (v w x y : Bool × ℕ) → v.1 ≤ m → w.1 ≤ m → x.1 ≤ m → y.1 ≤ m → in_order (v ∷ w ∷ x ∷ y ∷ []) ≤ 4 * m
unfolding spent_in
four_le m v w x y p q r s =
    let a : y.1 + cond y.0 0 0 ≤ m = omega (arith, unless_small y.0 0 0 (omega arith)) in
    let b : x.1 + cond x.0 0 (y.1 + cond y.0 0 0) ≤ 2 * m = omega (arith, unless_small x.0 _ m a) in
    let c : w.1 + cond w.0 0 (x.1 + cond x.0 0 (y.1 + cond y.0 0 0)) ≤ 3 * m = omega (arith, unless_small w.0 _ (2 * m) b) in
    omega (arith, unless_small v.0 _ (3 * m) c)

-- and some of which is found, where whatever is found takes a test
four_some : (v w x y : Bool × ℕ) → (v.0 ≡ true → 1 ≤ v.1) → (w.0 ≡ true → 1 ≤ w.1) → (x.0 ≡ true → 1 ≤ x.1) → (y.0 ≡ true → 1 ≤ y.1)
    → (v.0 || (w.0 || (x.0 || y.0))) ≡ true → 1 ≤ in_order (v ∷ w ∷ x ∷ y ∷ [])
unfolding spent_in
four_some v w x y p q r s =
    next_found v.0 _ v.1 _ p (next_found w.0 _ w.1 _ q (next_found x.0 _ x.1 _ r (λ e. omega (arith, s e))))

-- ---- a texel

module _ (tex : ℕ → ℕ → List Float) (w h : ℕ) (span : Float) (protected : Bool) (m : Float) (a : List Float) where
  -- Towards a side neighbour there are at most three tests,
  pub side_tests_le : (nx ny : ℕ) → side_tests tex w h span protected m a nx ny ≤ 3
  unfolding side_tests
  side_tests_le nx ny = guard_small (in_bounds w h nx ny) _ 3 (linear_tests_le span protected m a _)

  -- towards a diagonal one eighteen,
  pub across_tests_le : (x y nx ny : ℕ) → across_tests tex w h span protected m a x y nx ny ≤ 18
  unfolding across_tests
  across_tests_le x y nx ny = guard_small (in_bounds w h nx ny) _ 18 (diagonal_tests_le span protected m _)

  -- and where there is an artifact there is a test.
  pub side_tests_some : (nx ny : ℕ) → side_artifact tex w h span protected m a nx ny ≡ true → 1 ≤ side_tests tex w h span protected m a nx ny
  unfolding side_artifact side_tests
  side_tests_some nx ny = guard_some (in_bounds w h nx ny) _ _ (linear_tests_some span protected m a _)

  pub across_tests_some : (x y nx ny : ℕ) → diagonal_artifact tex w h span protected m a x y nx ny ≡ true → 1 ≤ across_tests tex w h span protected m a x y nx ny
  unfolding diagonal_artifact across_tests
  across_tests_some x y nx ny = guard_some (in_bounds w h nx ny) _ _ (diagonal_tests_some span protected m _)

-- So their verdicts are small.
pub side_few : (tex : ℕ → ℕ → List Float) (w h : ℕ) (span : Float) (protected : Bool) (m : Float) (a : List Float) (nx ny : ℕ) {v : ℕ} → v ≡ verdict (side_artifact tex w h span protected m a nx ny) (side_tests tex w h span protected m a nx ny) → v ≤ 131
side_few tex w h span protected m a nx ny e = omega (arith, e, verdict_le (side_artifact tex w h span protected m a nx ny) (side_tests tex w h span protected m a nx ny), side_tests_le tex w h span protected m a nx ny)

pub across_few : (tex : ℕ → ℕ → List Float) (w h : ℕ) (span : Float) (protected : Bool) (m : Float) (a : List Float) (x y nx ny : ℕ) {v : ℕ} → v ≡ verdict (diagonal_artifact tex w h span protected m a x y nx ny) (across_tests tex w h span protected m a x y nx ny) → v ≤ 146
across_few tex w h span protected m a x y nx ny e = omega (arith, e, verdict_le (diagonal_artifact tex w h span protected m a x y nx ny) (across_tests tex w h span protected m a x y nx ny), across_tests_le tex w h span protected m a x y nx ny)

module _ (tex : ℕ → ℕ → List Float) (w h : ℕ) (protected : Bool) (m : Float) (a : List Float) (x y : ℕ) where
  -- At most 12 tests for a texel are linear,
  pub linear_made_le : (hs vs : Float) → linear_made tex w h hs vs protected m a x y ≤ 12
  unfolding linear_made
  linear_made_le hs vs = four_le 3 _ _ _ _ (side_tests_le tex w h hs protected m a x (y + 1)) (side_tests_le tex w h vs protected m a (x + 1) y) (side_tests_le tex w h hs protected m a (x + 2) (y + 1)) (side_tests_le tex w h vs protected m a (x + 1) (y + 2))

  -- at most 72 diagonal,
  pub diagonal_made_le : (ds : Float) → diagonal_made tex w h ds protected m a x y ≤ 72
  unfolding diagonal_made
  diagonal_made_le ds = let l = across_tests_le tex w h ds protected m a x y in four_le 18 _ _ _ _ (l x y) (l (x + 2) y) (l x (y + 2)) (l (x + 2) (y + 2))

  -- so at most 84 are made.
  pub some_made_le : (s : Settings) → some_made tex w h s protected m a x y ≤ 84
  unfolding some_made
  some_made_le s = omega (arith, linear_made_le (side_span s false) (side_span s true), unless_small (some_side tex w h (side_span s false) (side_span s true) protected m a x y) _ 72 (diagonal_made_le (diagonal_span s)))

  -- A texel with an artifact has at least one.
  some_made_some : (s : Settings) → some_artifact tex w h s protected m a x y ≡ true → 1 ≤ some_made tex w h s protected m a x y
  unfolding some_artifact some_made some_side some_diagonal linear_made diagonal_made
  some_made_some s =
      let l = side_tests_some tex w h (side_span s false) protected m a in
      let u = side_tests_some tex w h (side_span s true) protected m a in
      let d = across_tests_some tex w h (diagonal_span s) protected m a x y in
      next_found _ _ _ _ (four_some _ _ _ _ (l x (y + 1)) (u (x + 1) y) (l (x + 2) (y + 1)) (u (x + 1) (y + 2))) (four_some _ _ _ _ (d x y) (d (x + 2) y) (d x (y + 2)) (d (x + 2) (y + 2)))

pub tests_made_le : (tex : ℕ → ℕ → List Float) (w h : ℕ) (s : Settings) (protected : Bool) (x y : ℕ) → tests_made tex w h s protected x y ≤ 84
unfolding tests_made
tests_made_le tex w h s protected x y = some_made_le tex w h protected (texel_median (tex x y)) (tex x y) x y s

-- At most 84 tests are made for a texel of the pass.
pub tests_at_le : (i : Input) (x y : ℕ) → tests_at i x y ≤ 84
unfolding tests_at
tests_at_le i x y = unless_small (eqb i.mode disabled) _ 84 (tests_made_le (texels i) i.width i.height i.settings (protects i x y) x y)

unless_some : (d v : Bool) (n : ℕ) → (v ≡ true → 1 ≤ n) → (not d && v) ≡ true → 1 ≤ cond d 0 n
unless_some true v n h p = absurd (true≢false (sym p))
unless_some false v n h p = h p

-- At least one is made for a texel that is flagged.
pub flagged_tested : (i : Input) (x y : ℕ) → flags i x y ≡ true → 1 ≤ tests_at i x y
unfolding flags tests_at has_artifact tests_made
flagged_tested i x y = unless_some (eqb i.mode disabled) _ _ (some_made_some (texels i) i.width i.height (protects i x y) (texel_median (texels i x y)) (texels i x y) x y i.settings)

-- ---- a bitmap

-- At most 84 times as many are made as there are texels,
pub test_count_le : (i : Input) → test_count i ≤ i.width * i.height * 84
unfolding test_count pass_tests
test_count_le i = guard_small (accepted i) _ _ (total_small 84 (i.width * i.height) _ (λ k. tests_at_le i (k % i.width) (k / i.width)))

-- none for a refusal,
pub refused_tests : (i : Input) → accepted i ≡ false → test_count i ≡ 0
unfolding test_count
refused_tests i p = rw p

-- and none in Disabled.
pub disabled_tests : (i : Input) → i.mode ≡ disabled → test_count i ≡ 0
unfolding test_count pass_tests tests_at
disabled_tests i e = none (accepted i) _ (total_zero (i.width * i.height) _ (λ k. simp (eq-eqb i.mode disabled e)))
  where
    none : (b : Bool) (n : ℕ) → n ≡ 0 → cond b n 0 ≡ 0
    none true n z = z
    none false n z = refl

-- No bitmap that is accepted has more than 84 · 4,096 · 4,096, which is below 2 ^ 32.
pub test_count_fits : (i : Input) → test_count i ≤ 1409286144
test_count_fits i = by_case (accepted i) refl
  where
    by_case : (b : Bool) → accepted i ≡ b → test_count i ≤ 1409286144
    by_case true p =
        let s = sizes _ _ _ _ _ (passed i (number_zero i p)).sizes in
        let a : i.width * i.height ≤ 4096 * 4096 = mul-le-mul s.wide.1 s.high.1 in
        omega (arith, test_count_le i)
    by_case false p = omega (arith, refused_tests i p)

flags_counted : (i : Input) → accepted i ≡ true → error_count (stencil_after i) ≤ pass_tests i
unfolding pass_tests
flags_counted i p =
    subst (λ (n : ℕ). error_count (stencil_after i) ≤ total n (λ k. tests_at i (k % i.width) (k / i.width))) (stencil_length i p)
    (error_under (stencil_after i) _ (λ k l e. flagged_tested i (k % i.width) (k / i.width) (sym (cell_error i p k (subst (λ (n : ℕ). k < n) (stencil_length i p) l)) ∙ e)))

errors_by_case : (i : Input) (b : Bool) → accepted i ≡ b → error_cells i ≤ test_count i
unfolding error_cells test_count
errors_by_case i true p = rw p (subst (λ (st : List ℕ). error_count st ≤ pass_tests i) (accepted_leaves i p).0 (flags_counted i p))
errors_by_case i false p = rw p (omega arith)

-- At least as many are made as texels are flagged.
pub errors_tested : (i : Input) → error_cells i ≤ test_count i
errors_tested i = errors_by_case i (accepted i) refl

-- ---- a run of the public function, by its promise as it is read from the source: of the arguments a, the answer z and the arguments at exit e

-- Its answer has at most 84 tests a texel,
pub promise_tests : (κs : Lfts 6) (a : Dens κs ps) (z : _) (e : _) → entry.Post κs a z e → tests_in z ≤ (given κs a).width * (given κs a).height * 84
promise_tests κs a z e p = subst (λ (n : ℕ). n ≤ (given κs a).width * (given κs a).height * 84) (sym p.0.tests) (test_count_le (given κs a))

-- and at least as many as errors.
pub promise_errors : (κs : Lfts 6) (a : Dens κs ps) (z : _) (e : _) → entry.Post κs a z e → errors_in z ≤ tests_in z
promise_errors κs a z e p = omega (arith, p.0.errors, p.0.tests, errors_tested (given κs a))
