-- A text that a part of a slice is overwritten with is written there. Assumes nothing.
--     copied     the part from a place on that k elements fill
--     repeated   the list that fills a part with one element
use Rattle.std.proofs.Common.{◌≡◌, ℕ, zero, suc, ◌+◌, ◌≤◌, List, ◌∷◌, ◌++◌, length, take, drop, replicate, sym, refl, ap, ◌∙◌, arith}
use Rattle.std.proofs.lemmas.Slice.{put_mid-paste}
use Rattle.std.proofs.lemmas.List.Edits.{sets-eq}
use lib.Seq.{take_all}
use borrow.Rule.Slice.PartMut.{put_mid}
use Rattle.ground.specs.Lists.{tab}
use Rattle.ground.specs.Write.{Written}

pub copied : {A : Type 0} (out : List A) (at k : ℕ) (t ys : List A) {next : ℕ} → ys ≡ t → k ≡ length t → at + length t ≤ length out → next ≡ at + length t → Written out at t next (put_mid at k out ys)
copied out at k t ys e n l z =
    record {
      holds =
          put_mid-paste at k out ys t (length t) e (sym n) refl
          ∙ ap (λ u. take at out ++ u ++ drop (at + length t) out) (take_all (length t) t (omega arith))
          ∙ sym (sets-eq t out at l);
      to = z;
    }

pub repeated : {A : Type 0} (n : ℕ) (v : A) → replicate n v ≡ tab n (λ k. v)
unfolding tab
repeated zero v = refl
repeated (suc n) v = ap (λ l. v ∷ l) (repeated n v)
