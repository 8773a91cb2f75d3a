-- Tests and what stands behind them: how code goes through `&&` and `||`, what a known outcome says, and what one test says of another. Assumes nothing.
--     holds, held           a test that holds as a proposition, and the other way round
--     and_taken, and_left   `a && b` as the code goes through it: r is what the first call answered, s what the second did, and e and f are their definitions
--     or_taken, or_left     the same of `a || b`
--     both_hold, both_fail  of `a && b` that holds, and of `a || b` that fails
--     cond_above            of an answer not below k where a test that holds answers less
--     both_ways             two tests of which each holds where the other does
--     guarded               what stands behind a test matters only where the test holds
--     spread                two tests of one kind and two of another, each with each
--     and_implies, or_implies, four_imply, not_implies, cond_implies   where a test holds another does, part by part
use mathlib.Core.Path.{◌≡◌, refl, sym, ◌∙◌, ap}
use mathlib.Core.Bool.{Bool, true, false, not, cond, ◌&&◌, ◌||◌, true≢false}
use Prim.Native.Nat.{ℕ, ◌<◌, ◌≤◌}
use native.Mathlib.Omega.{arith}
use lib.Dec.{T}

pub and_taken : {r s e f : Bool} → r ≡ e → r ≡ true → s ≡ f → s ≡ (e && f)
and_taken {r} {s} {e} {f} p q h = h ∙ ap (λ (x : Bool). x && f) (sym q ∙ p)

pub and_left : {r e : Bool} (f : Bool) → r ≡ e → r ≡ false → r ≡ (e && f)
and_left {r} {e} f p q = q ∙ ap (λ (x : Bool). x && f) (sym q ∙ p)

pub or_taken : {r e : Bool} (f : Bool) → r ≡ e → r ≡ true → r ≡ (e || f)
or_taken {r} {e} f p q = q ∙ ap (λ (x : Bool). x || f) (sym q ∙ p)

pub or_left : {r s e f : Bool} → r ≡ e → r ≡ false → s ≡ f → s ≡ (e || f)
or_left {r} {s} {e} {f} p q h = h ∙ ap (λ (x : Bool). x || f) (sym q ∙ p)

pub both_hold : (a b : Bool) → (a && b) ≡ true → (a ≡ true) × (b ≡ true)
both_hold true b p = (refl, p)
both_hold false b p = absurd (true≢false (sym p))

pub both_fail : (a b : Bool) → (a || b) ≡ false → (a ≡ false) × (b ≡ false)
both_fail true b p = absurd (true≢false p)
both_fail false b p = (refl, p)

pub cond_above : (b : Bool) (x y k : ℕ) → x < k → k ≤ cond b x y → (b ≡ false) × (k ≤ y)
cond_above true x y k l p = absurd (omega arith)
cond_above false x y k l p = (refl, p)

pub both_ways : (a b : Bool) → (a ≡ true → b ≡ true) → (b ≡ true → a ≡ true) → a ≡ b
both_ways true b f g = sym (f refl)
both_ways false true f g = g refl
both_ways false false f g = refl

pub guarded : (e e' f g : Bool) → e ≡ e' → (e ≡ true → f ≡ g) → (e && f) ≡ (e' && g)
guarded true true f g p q = q refl
guarded true false f g p q = absurd (true≢false p)
guarded false true f g p q = absurd (true≢false (sym p))
guarded false false f g p q = refl

pub holds : (b : Bool) → b ≡ true → T b
holds true p = tt
holds false p = absurd (true≢false (sym p))

pub held : (b : Bool) → T b → b ≡ true
held true t = refl
held false t = absurd t

pub and_implies : (a b c d : Bool) → (a ≡ true → c ≡ true) → (a ≡ true → b ≡ true → d ≡ true) → (a && b) ≡ true → (c && d) ≡ true
and_implies true b true d f g p = g refl p
and_implies true b false d f g p = f refl
and_implies false b c d f g p = absurd (true≢false (sym p))

pub or_implies : (a b c d : Bool) → (a ≡ true → c ≡ true) → (b ≡ true → d ≡ true) → (a || b) ≡ true → (c || d) ≡ true
or_implies a b true d f g p = refl
or_implies true b false d f g p = absurd (true≢false (sym (f refl)))
or_implies false b false d f g p = g p

pub four_imply : (a b c d a' b' c' d' : Bool) → (a ≡ true → a' ≡ true) → (b ≡ true → b' ≡ true) → (c ≡ true → c' ≡ true) → (d ≡ true → d' ≡ true) → (a || (b || (c || d))) ≡ true → (a' || (b' || (c' || d'))) ≡ true
four_imply a b c d a' b' c' d' f g h k = or_implies a _ a' _ f (or_implies b _ b' _ g (or_implies c d c' d' h k))

pub not_implies : (a b : Bool) → (a ≡ true → b ≡ true) → not b ≡ true → not a ≡ true
not_implies true true f p = p
not_implies true false f p = f refl
not_implies false b f p = refl

pub cond_implies : (b x y x' y' : Bool) → (b ≡ true → x ≡ true → x' ≡ true) → (b ≡ false → y ≡ true → y' ≡ true) → cond b x y ≡ true → cond b x' y' ≡ true
cond_implies true x y x' y' f g p = f refl p
cond_implies false x y x' y' f g p = g refl p

pub spread : (a b c d : Bool) → ((((a && c) || (b && c)) || (a && d)) || (b && d)) ≡ ((a || b) && (c || d))
spread true b true d = refl
spread true true false true = refl
spread true true false false = refl
spread true false false true = refl
spread true false false false = refl
spread false true true d = refl
spread false true false d = refl
spread false false c d = refl
