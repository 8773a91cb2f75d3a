-- What is put on a page after what. Assumes nothing.
--     put_then       one text after another
--     put_as         the same text, said otherwise
--     put_room       the page keeps its length, so there is room for the rest
--     lent           what was lent for the page holds the text at the end
--     put_none, put_more, put_all       a loop that puts the elements of a list by index
--     joined_none, joined_more, joined_all   a loop that puts pieces
use Rattle.std.proofs.Common.{◌≡◌, ℕ, ◌+◌, ◌≤◌, List, [], ◌∷◌, ◌++◌, length, sym, refl, ap, subst, ◌∙◌}
use Rattle.ground.specs.Lists.{tab, joined}
use Rattle.ground.specs.Write.{Written}
use Rattle.ground.proofs.Laws.Join.{tab_more, joined_more as pieces}
use Rattle.ground.proofs.Laws.Write.{written_none, written_then, written_as, written_room}
use Rattle.reading.specs.declared.page.Page.{Page}
use Rattle.reading.specs.Inner.{Put}

module _ {A : Type 0} where
  pub put_then : {p q r : Page A} {t u : List A} → Put p t q → Put q u r → Put p (t ++ u) r
  put_then a b = record { same = b.same ∙ a.same; written = written_then a.written b.written }

  pub put_as : {p q : Page A} {t : List A} (u : List A) → t ≡ u → Put p t q → Put p u q
  put_as u e a = record { same = a.same; written = written_as u e a.written }

  pub put_room : {p q : Page A} {t : List A} (m rest : ℕ) → Put p t q → length t ≤ m → p.at + m + rest ≤ length p.out.now → q.at + rest ≤ length q.out.now
  put_room m rest a l h = written_room m rest a.written l h

  pub lent : {p q : Page A} {t x : List A} → Put p t q → (p.out.ghost_name ≡ q.out.ghost_name → x ≡ q.out.now) → Written p.out.now p.at t q.at x
  lent {p} {q} {t} a f = subst (λ (y : List A). Written p.out.now p.at t q.at y) (sym (f (sym a.same))) a.written

  pub nothing : (p : Page A) → Put p [] p
  nothing p = record { same = refl; written = written_none _ _ }

  pub put_none : (p : Page A) (f : ℕ → A) → Put p (tab 0 f) p
  unfolding tab
  put_none p f = nothing p

  pub put_more : {p q r : Page A} (k : ℕ) (f : ℕ → A) {v : A} → Put p (tab k f) q → v ≡ f k → Put q (v ∷ []) r → Put p (tab (k + 1) f) r
  put_more k f a e b = put_as (tab (k + 1) f) (sym (tab_more k f)) (put_then a (put_as _ (ap (λ x. x ∷ []) e) b))

  pub put_all : {p q : Page A} {k : ℕ} (n : ℕ) (f : ℕ → A) → Put p (tab k f) q → k ≡ n → Put p (tab n f) q
  put_all {p} {q} n f a e = subst (λ (m : ℕ). Put p (tab m f) q) e a

  pub joined_none : (p : Page A) (f : ℕ → List A) → Put p (joined 0 f) p
  unfolding joined
  joined_none p f = nothing p

  pub joined_more : {p q r : Page A} (k : ℕ) (f : ℕ → List A) → Put p (joined k f) q → Put q (f k) r → Put p (joined (k + 1) f) r
  joined_more k f a b = put_as (joined (k + 1) f) (sym (pieces k f)) (put_then a b)

  pub joined_all : {p q : Page A} {k : ℕ} (n : ℕ) (f : ℕ → List A) → Put p (joined k f) q → k ≡ n → Put p (joined n f) q
  joined_all {p} {q} n f a e = subst (λ (m : ℕ). Put p (joined m f) q) e a
