-- The middle one of three, chosen by a smaller and a larger of two that respect an order. Assumes nothing.
use Rattle.std.proofs.Common.{◌≡◌, Bool, true, false, cond, not, T, ◌⊎◌, sym, refl, subst, inl, inr}
use lib.Ieee.{Float, le, is_nan}

abbrev pub NoNan : Float → Type 0
NoNan v = T (not (is_nan v))

abbrev pub AtMost : Float → Float → Type 0
AtMost x y = T (le x y)

-- a choice is one of two
pub either : (b : Bool) (x y : Float) → (cond b y x ≡ x) ⊎ (cond b y x ≡ y)
either true x y = inr refl
either false x y = inl refl

-- R is an order of all that is no NaN; lo and hi take one of two, and of such as are no NaN one that is at most, or at least, each.
pub record Chooses (R : Float → Float → Type 0) (lo hi : Float → Float → Float) : Type 0 where
  pub same : (x : Float) → NoNan x → R x x
  pub trans : (x y z : Float) → R x y → R y z → R x z
  pub lo_either : (x y : Float) → (lo x y ≡ x) ⊎ (lo x y ≡ y)
  pub hi_either : (x y : Float) → (hi x y ≡ x) ⊎ (hi x y ≡ y)
  pub lo_first : (x y : Float) → NoNan x → NoNan y → R (lo x y) x
  pub lo_second : (x y : Float) → NoNan x → NoNan y → R (lo x y) y
  pub hi_first : (x y : Float) → NoNan x → NoNan y → R x (hi x y)
  pub hi_second : (x y : Float) → NoNan x → NoNan y → R y (hi x y)

-- two of three have the property P
abbrev pub TwoOf : (Float → Type 0) → Float → Float → Float → Type 0
TwoOf P a b c = (P a × P b) ⊎ ((P a × P c) ⊎ (P b × P c))

-- two of three and two of three have one in common
common : (P Q : Float → Type 0) (R : Type 0) (a b c : Float) → TwoOf P a b c → TwoOf Q a b c → ((v : Float) → P v → Q v → R) → R
common P Q R a b c (inl x) (inl y) k = k a x.0 y.0
common P Q R a b c (inl x) (inr (inl y)) k = k a x.0 y.0
common P Q R a b c (inl x) (inr (inr y)) k = k b x.1 y.0
common P Q R a b c (inr (inl x)) (inl y) k = k a x.0 y.0
common P Q R a b c (inr (inl x)) (inr (inl y)) k = k a x.0 y.0
common P Q R a b c (inr (inl x)) (inr (inr y)) k = k c x.1 y.1
common P Q R a b c (inr (inr x)) (inl y) k = k b x.0 y.1
common P Q R a b c (inr (inr x)) (inr (inl y)) k = k c x.1 y.1
common P Q R a b c (inr (inr x)) (inr (inr y)) k = k b x.0 y.0

-- what ranks at most two of three ranks at most what two of them rank at most
pub through : (R : Float → Float → Type 0) → ((x y z : Float) → R x y → R y z → R x z) → (a b c v w : Float) → TwoOf (λ (u : Float). R v u) a b c → TwoOf (λ (u : Float). R u w) a b c → R v w
through R trans a b c v w x y = common (λ (u : Float). R v u) (λ (u : Float). R u w) (R v w) a b c x y (λ u h k. trans v u w h k)

swap_two : (P : Float → Type 0) (a b c : Float) → TwoOf P a b c → TwoOf P b a c
swap_two P a b c (inl x) = inl (x.1, x.0)
swap_two P a b c (inr (inl x)) = inr (inr x)
swap_two P a b c (inr (inr x)) = inr (inl x)

turn_two : (P : Float → Type 0) (a b c : Float) → TwoOf P a b c → TwoOf P b c a
turn_two P a b c (inl x) = inr (inl (x.1, x.0))
turn_two P a b c (inr (inl x)) = inr (inr (x.1, x.0))
turn_two P a b c (inr (inr x)) = inl x

pub map_two : (P Q : Float → Type 0) (a b c : Float) → ((v : Float) → P v → Q v) → TwoOf P a b c → TwoOf Q a b c
map_two P Q a b c k (inl x) = inl (k a x.0, k b x.1)
map_two P Q a b c k (inr (inl x)) = inr (inl (k a x.0, k c x.1))
map_two P Q a b c k (inr (inr x)) = inr (inr (k b x.0, k c x.1))

-- what holds of both holds of the one that is taken
keeps : (P : Float → Type 0) (x y v : Float) → (v ≡ x) ⊎ (v ≡ y) → P x → P y → P v
keeps P x y v (inl e) p q = subst P (sym e) p
keeps P x y v (inr e) p q = subst P (sym e) q

abbrev pub middle : (lo hi : Float → Float → Float) → Float → Float → Float → Float
middle lo hi a b c = hi (lo a b) (lo (hi a b) c)

module _ (R : Float → Float → Type 0) (lo hi : Float → Float → Float) (o : Chooses R lo hi) where
  pub two_below : (a b c : Float) → NoNan a → NoNan b → NoNan c → TwoOf (λ (v : Float). R v (middle lo hi a b c)) a b c
  two_below a b c l m n =
      let p = lo a b in
      let g = hi a b in
      let q = lo g c in
      let r = hi p q in
      let pn : NoNan p = keeps NoNan a b p (o.lo_either a b) l m in
      let qn : NoNan q = keeps NoNan g c q (o.lo_either g c) (keeps NoNan a b g (o.hi_either a b) l m) n in
      let pr : R p r = o.hi_first p q pn qn in
      let qr : R q r = o.hi_second p q pn qn in
      elim (o.lo_either g c) [
        | inl e ↦ let gr : R g r = subst (λ (v : Float). R v r) e qr in inl (o.trans a g r (o.hi_first a b l m) gr, o.trans b g r (o.hi_second a b l m) gr)
        | inr e ↦ let cr : R c r = subst (λ (v : Float). R v r) e qr in
            elim (o.lo_either a b) [ inl h ↦ inr (inl (subst (λ (v : Float). R v r) h pr, cr)) | inr h ↦ inr (inr (subst (λ (v : Float). R v r) h pr, cr)) ]
      ]

  pub two_above : (a b c : Float) → NoNan a → NoNan b → NoNan c → TwoOf (λ (v : Float). R (middle lo hi a b c) v) a b c
  two_above a b c l m n =
      let p = lo a b in
      let g = hi a b in
      let q = lo g c in
      let gn : NoNan g = keeps NoNan a b g (o.hi_either a b) l m in
      let qg : R q g = o.lo_first g c gn n in
      let qc : R q c = o.lo_second g c gn n in
      elim (o.hi_either p q) [
        | inl e ↦ inl (subst (λ (w : Float). R w a) (sym e) (o.lo_first a b l m), subst (λ (w : Float). R w b) (sym e) (o.lo_second a b l m))
        | inr e ↦ subst (λ (w : Float). TwoOf (λ (v : Float). R w v) a b c) (sym e)
            (elim (o.hi_either a b) [ inl h ↦ inr (inl (subst (λ (v : Float). R q v) h qg, qc)) | inr h ↦ inr (inr (subst (λ (v : Float). R q v) h qg, qc)) ])
      ]

  pub least : (a b c v : Float) → NoNan a → NoNan b → NoNan c → TwoOf (λ (u : Float). R u v) a b c → R (middle lo hi a b c) v
  least a b c v l m n h = through R o.trans a b c (middle lo hi a b c) v (two_above a b c l m n) h

  pub greatest : (v a b c : Float) → NoNan a → NoNan b → NoNan c → TwoOf (λ (u : Float). R v u) a b c → R v (middle lo hi a b c)
  greatest v a b c l m n h = through R o.trans a b c v (middle lo hi a b c) h (two_below a b c l m n)

  pub swapped : (a b c : Float) → NoNan a → NoNan b → NoNan c → R (middle lo hi a b c) (middle lo hi b a c)
  swapped a b c l m n = let v = middle lo hi b a c in least a b c v l m n (swap_two (λ (u : Float). R u v) b a c (two_below b a c m l n))

  -- the three turned about, from either side
  pub turned : (a b c : Float) → NoNan a → NoNan b → NoNan c → R (middle lo hi a b c) (middle lo hi c a b) × R (middle lo hi c a b) (middle lo hi a b c)
  turned a b c l m n =
      let v = middle lo hi c a b in
      (least a b c v l m n (turn_two (λ (u : Float). R u v) c a b (two_below c a b n l m)), greatest v a b c l m n (turn_two (λ (u : Float). R v u) c a b (two_above c a b n l m)))

  pub twice : (a b : Float) → NoNan a → NoNan b → R (middle lo hi a a b) a × R a (middle lo hi a a b)
  twice a b l m = let k : R a a × R a a = (o.same a l, o.same a l) in (least a a b a l l m (inl k), greatest a a a b l l m (inl k))
