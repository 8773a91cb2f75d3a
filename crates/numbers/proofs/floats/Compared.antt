-- What `compare` and `leb` say of two numbers. Assumes nothing.
use Rattle.std.proofs.Common.{◌≡◌, ℕ, ◌*◌, ◌<◌, ◌≤◌, Bool, true, false, not, T, eqb, leb, ◌⊎◌, sym, refl, ap, subst, inl, inr, mul-lt-mul_of_pos_right, arith, eqb→eq, leb→le}
use Prim.Native.Nat.{compare, Ordering}
use lib.Dec.{is_le, compare_is_eq, nleb→lt, eqb_refl}
use lib.Arith.{lt_of_le-ne}

pub le_or_lt : (a b : ℕ) → (a ≤ b) ⊎ (b < a)
le_or_lt a b = go (leb a b) (leb→le a b) (nleb→lt a b)
  where
    go : (t : Bool) → (T t → a ≤ b) → (T (not t) → b < a) → (a ≤ b) ⊎ (b < a)
    go true h k = inl (h tt)
    go false h k = inr (k tt)

abbrev pub Cmp : Ordering → ℕ → ℕ → Type 0
Cmp Ordering.lt a b = a < b
Cmp Ordering.eq a b = a ≡ b
Cmp Ordering.gt a b = b < a

pub cmp : (a b : ℕ) → Cmp (compare a b) a b
cmp a b = go (compare a b) (leb→le a b) (nleb→lt a b) (eqb→eq a b) (λ (e : a ≡ b). subst (λ (x : ℕ). T (eqb a x)) e (eqb_refl a))
  where
    go : (o : Ordering) → (T (is_le o) → a ≤ b) → (T (not (is_le o)) → b < a) → (T (compare_is_eq o) → a ≡ b) → (a ≡ b → T (compare_is_eq o)) → Cmp o a b
    go Ordering.lt h k e n = lt_of_le-ne (h tt) n
    go Ordering.eq h k e n = e tt
    go Ordering.gt h k e n = k tt

-- two pairs that are in the same order compare alike
compare_same : (a b c d : ℕ) → (a < b → c < d) → (a ≡ b → c ≡ d) → (b < a → d < c) → compare c d ≡ compare a b
compare_same a b c d l e g = go (compare a b) (compare c d) (cmp a b) (cmp c d)
  where
    go : (o p : Ordering) → Cmp o a b → Cmp p c d → p ≡ o
    go Ordering.lt Ordering.lt x y = refl
    go Ordering.lt Ordering.eq x y = absurd (omega (arith, l x))
    go Ordering.lt Ordering.gt x y = absurd (omega (arith, l x))
    go Ordering.eq Ordering.lt x y = absurd (omega (arith, e x))
    go Ordering.eq Ordering.eq x y = refl
    go Ordering.eq Ordering.gt x y = absurd (omega (arith, sym (e x)))
    go Ordering.gt Ordering.lt x y = absurd (omega (arith, g x))
    go Ordering.gt Ordering.eq x y = absurd (omega (arith, g x, sym y))
    go Ordering.gt Ordering.gt x y = refl

pub compare_scale : (a b u : ℕ) → 0 < u → compare (a * u) (b * u) ≡ compare a b
compare_scale a b u U = compare_same a b (a * u) (b * u) (λ h. mul-lt-mul_of_pos_right h U) (λ e. ap (λ (x : ℕ). x * u) e) (λ h. mul-lt-mul_of_pos_right h U)

pub compare_lt : (a b : ℕ) → a < b → compare a b ≡ Ordering.lt
compare_lt a b h = compare_same 0 1 a b (λ l. h) (λ e. absurd (omega arith)) (λ g. absurd (omega arith))

pub compare_gt : (a b : ℕ) → b < a → compare a b ≡ Ordering.gt
compare_gt a b h = compare_same 1 0 a b (λ l. absurd (omega arith)) (λ e. absurd (omega arith)) (λ g. h)
