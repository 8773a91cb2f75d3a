-- Text that is written piece by piece into a slice. Assumes nothing.
--     sets_last                        the last of a run of stores may come first
--     written_none, -one, -two         nothing, one element, two
--     written_then                     one text after another
--     written_as, written_to           the same text, or the place after it, said otherwise
--     written_length, -room, -fits     the slice keeps its length, so there is room for the rest
--     tab_none, tab_next, tab_all      a loop that writes the elements of a list by index
--     joined_none, -next, -all         a loop that writes pieces
--     front, front_length              what is written at the front is the front of the slice
--     written_front                    the whole slice: the text, and then what stood there
use mathlib.Core.List.{List, [], ◌∷◌, ◌++◌}
use mathlib.Core.Path.{◌≡◌, refl, sym, ap, subst, ◌∙◌}
use Prim.Native.Nat.{ℕ, suc, ◌+◌, ◌≤◌}
use native.Mathlib.Nat.{add-zero}
use native.Mathlib.Numerals.{add-one}
use native.Mathlib.Omega.{arith}
use lib.ListN.{length, set, take, drop, length-append}
use lib.Seq.{sets, length-sets, sets-eq, take_at, set_comm}
use Rattle.ground.specs.Lists.{tab, joined}
use Rattle.ground.specs.Write.{Written}
use Rattle.ground.proofs.Laws.Join.{tab_more, joined_more}

module _ {A : Type 0} where
  -- a run of stores and then another is one run
  sets_append : (out : List A) (at : ℕ) (t u : List A) → sets out at (t ++ u) ≡ sets (sets out at t) (at + length t) u
  sets_append out at [] u = ap (λ (k : ℕ). sets out k u) (sym (add-zero at))
  sets_append out at (a ∷ t) u = sets_append (set out at a) (suc at) t u ∙ ap (λ (k : ℕ). sets (sets (set out at a) (suc at) t) k u) (omega arith)

  pub sets_last : (out : List A) (at : ℕ) (t : List A) (a : A) → sets out at (t ++ (a ∷ [])) ≡ sets (set out (at + length t) a) at t
  sets_last out at [] a = ap (λ (k : ℕ). set out k a) (sym (add-zero at))
  sets_last out at (b ∷ t) a =
      let z : suc at + length t ≡ at + suc (length t) = omega arith in
      sets_last (set out at b) (suc at) t a ∙ ap (λ (l : List A). sets l (suc at) t) (set_comm out at (suc at + length t) b a (λ e. omega arith) ∙ ap (λ (k : ℕ). set (set out k a) at b) z)

  pub written_none : (out : List A) (at : ℕ) → Written out at [] at out
  written_none out at = record { holds = refl; to = sym (add-zero at) }

  pub written_one : (out : List A) (at : ℕ) (a : A) → Written out at (a ∷ []) (at + 1) (set out at a)
  written_one out at a = record { holds = refl; to = refl }

  pub written_two : (out : List A) (at : ℕ) (a b : A) → Written out at (a ∷ b ∷ []) (at + 2) (set (set out at a) (at + 1) b)
  written_two out at a b = record { holds = ap (λ (k : ℕ). set (set out at a) k b) (add-one at); to = refl }

  pub written_then : {out mid after : List A} {at next last : ℕ} {t u : List A} → Written out at t next mid → Written mid next u last after → Written out at (t ++ u) last after
  written_then {out} {mid} {after} {at} {next} {last} {t} {u} p q =
      record {
        holds = q.holds ∙ ap (λ (l : List A). sets l next u) p.holds ∙ ap (λ (k : ℕ). sets (sets out at t) k u) p.to ∙ sym (sets_append out at t u);
        to = q.to ∙ omega (arith, p.to, length-append t u);
      }

  pub written_as : {out after : List A} {at next : ℕ} {t : List A} (u : List A) → t ≡ u → Written out at t next after → Written out at u next after
  written_as {out} {after} {at} {next} u e p = subst (λ (l : List A). Written out at l next after) e p

  pub written_to : {out after : List A} {at next : ℕ} {t : List A} (last : ℕ) → next ≡ last → Written out at t next after → Written out at t last after
  written_to {out} {after} {at} {next} {t} last e p = subst (λ (n : ℕ). Written out at t n after) e p

  pub written_length : {out after : List A} {at next : ℕ} {t : List A} → Written out at t next after → length after ≡ length out
  written_length {out} {after} {at} {next} {t} p = ap length p.holds ∙ length-sets out at t

  -- where the text is no longer than m there is room for the rest
  pub written_room : {out after : List A} {at next : ℕ} {t : List A} (m rest : ℕ) → Written out at t next after → length t ≤ m → at + m + rest ≤ length out → next + rest ≤ length after
  written_room m rest p l h = omega (arith, p.to, written_length p)

  -- the text ends within the slice
  pub written_fits : {out after : List A} {at next : ℕ} {t : List A} → Written out at t next after → next ≤ length out → next ≤ length after
  written_fits p l = omega (arith, written_length p)

  -- ---- loops: before the first turn, after one more, and at the end

  pub tab_none : (out : List A) (at : ℕ) (f : ℕ → A) → Written out at (tab 0 f) at out
  unfolding tab
  tab_none out at f = written_none out at

  pub tab_next : {out mid : List A} {at next : ℕ} (k : ℕ) (f : ℕ → A) (v : A) → Written out at (tab k f) next mid → v ≡ f k → Written out at (tab (k + 1) f) (next + 1) (set mid next v)
  tab_next {out} {mid} {at} {next} k f v p e =
      written_as (tab (k + 1) f) (sym (tab_more k f)) (written_then p (subst (λ (a : A). Written mid next (a ∷ []) (next + 1) (set mid next v)) e (written_one mid next v)))

  pub tab_all : {out mid : List A} {at next k : ℕ} (n : ℕ) (f : ℕ → A) → Written out at (tab k f) next mid → k ≡ n → Written out at (tab n f) next mid
  tab_all {out} {mid} {at} {next} n f p e = subst (λ (m : ℕ). Written out at (tab m f) next mid) e p

  pub joined_none : (out : List A) (at : ℕ) (f : ℕ → List A) → Written out at (joined 0 f) at out
  unfolding joined
  joined_none out at f = written_none out at

  pub joined_next : {out mid after : List A} {at next last : ℕ} (k : ℕ) (f : ℕ → List A) → Written out at (joined k f) next mid → Written mid next (f k) last after → Written out at (joined (k + 1) f) last after
  joined_next k f p q = written_as (joined (k + 1) f) (sym (joined_more k f)) (written_then p q)

  pub joined_all : {out mid : List A} {at next k : ℕ} (n : ℕ) (f : ℕ → List A) → Written out at (joined k f) next mid → k ≡ n → Written out at (joined n f) next mid
  joined_all {out} {mid} {at} {next} n f p e = subst (λ (m : ℕ). Written out at (joined m f) next mid) e p

  -- ---- the text in front

  pub front : {out after : List A} {next : ℕ} {t : List A} → Written out 0 t next after → next ≤ length out → take next after ≡ t
  front {out} {after} {next} {t} p l =
      let z : length t ≡ next = omega (arith, p.to) in
      ap (take next) (p.holds ∙ sets-eq t out 0 (omega arith)) ∙ take_at t (drop (0 + length t) out) next z

  pub front_length : {out after : List A} {next : ℕ} {t : List A} → Written out 0 t next after → next ≤ length out → next ≡ length (take next after)
  front_length p l = sym (ap length (front p l) ∙ omega (arith, p.to))

  pub written_front : {out after : List A} {next : ℕ} {t : List A} → Written out 0 t next after → length t ≤ length out → (next ≡ length t) × (after ≡ t ++ drop next out)
  written_front {out} {after} {next} {t} p l =
      let z : next ≡ length t = omega (arith, p.to) in
      let y : 0 + length t ≡ next = omega arith in
      (z, p.holds ∙ sets-eq t out 0 (omega arith) ∙ ap (λ (k : ℕ). t ++ drop k out) y)
