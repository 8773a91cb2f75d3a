-- `ground::bytes::bytes_at` meets its contract. Assumes nothing.
use Rattle.std.proofs.Common.{rules, ◌≡◌, ℕ, zero, suc, ◌+◌, ◌<◌, List, get_or, subst, ◌∙◌, arith}
use Rattle.std.specs.Array.{IsFromFnResultFrom}
use Rattle.std.specs.Fn.{Called}
use denote.Param.Members.{Mut}
use Rattle.ground.proofs.bytes.bytes_at.Goals as goal

-- a closure that stays as it is and gives h of each number gives a list with h at each place
module _ {F : Type 0} (g : Mut F (ℕ × Unit {0}) ℕ) (f : F) (h : ℕ → ℕ) (pure : (x r : ℕ) (q : F) → Called g f (x, tt) r q → (q ≡ f) × (r ≡ h x)) (ys : List ℕ) where
  abbrev Right : ℕ → Type 0
  Right j = get_or ys j 0 ≡ h j

  each : (n i : ℕ) → IsFromFnResultFrom g f ys i n → (k : ℕ) → k < n → Right (i + k)
  each zero i e k l = absurd (omega (arith, l))
  each (suc n) i e zero l =
      let same : i ≡ i + 0 = omega arith in
      subst Right same (e.2.1 0 ∙ (pure i e.1 e.0 e.3).1)
  each (suc n) i e (suc k) l =
      let same : i + 1 + k ≡ i + suc k = omega arith in
      subst Right same (each n (i + 1) (subst (λ (q : F). IsFromFnResultFrom g q ys (i + 1) n) (pure i e.1 e.0 e.3).0 e.4) k (omega (arith, l)))

pub returns : goal.returns
returns g c k l =
    let same : 0 + k ≡ k = omega arith in
    subst (λ (j : ℕ). get_or c.from_fn.result j 0 ≡ get_or c.args.s.now (c.args.at + j) 0) same
    (each _ _ (λ j. get_or c.args.s.now (c.args.at + j) 0) (λ x r q k. search rules) c.from_fn.result g.row.N 0 c.from_fn.ensures.items.each k l)
