-- What checks 5 to 9 of a cell look at: its samples, its mode, its settings and its outlines, no stencil and no room. Assumes nothing.
--     Passing          the cells before c pass theirs
--     passing_none, passing_more   before the first cell, and after one that passes
--     content_found    the cell after them fails: it is the first failure of all cells
--     content_none     all cells pass
--     content_same     the first failure depends neither on the stencil nor on the room
use mathlib.Core.Path.{◌≡◌, refl, sym, ◌∙◌}
use mathlib.Core.Bool.{Bool, true, not}
use mathlib.Core.List.{List}
use Prim.Native.Nat.{ℕ, ◌+◌, ◌<◌, ◌≤◌}
use lib.Dec.{eqb}
use lib.Ieee.{Float}
use borrow.Author.Tests.{lt-ltb, le-ltb, eq-eqb, ne_eqb}
use Rattle.ground.proofs.Laws.Search.{Searched, search_none, search_more, search_found, search_end}
use Rattle.inputs.specs.Checks.{content_refusal, place_of}
use Rattle.correction.specs.Sheet.{Failure}
use Rattle.correction.specs.Sheet.{Sheet, sheet, cells_of, alone, first_bad, content_failure}

-- ---- the cells in order

abbrev failed : ℕ → ℕ → ℕ → Failure
failed n c o = record { number = n; cell = c; place = o }

module _ (s : Sheet) where
  -- cell c fails one of its checks
  abbrev bad : ℕ → Bool
  bad c = not (eqb (content_refusal (alone s c)) 0)

  abbrev pub Passing : ℕ → Type 0
  Passing c = Searched bad (cells_of s) c

  pub passing_none : Passing 0
  passing_none = search_none bad (cells_of s)

  module _ {c : ℕ} (t : Passing c) where
    pub passing_more : {z : ℕ} → c < cells_of s → z ≡ content_refusal (alone s c) → z ≡ 0 → Passing (c + 1)
    passing_more l e h = search_more t l refl (rw (eq-eqb (content_refusal (alone s c)) 0 (sym e ∙ h)))

    pub content_found : {z o : ℕ} → c < cells_of s → (z ≡ content_refusal (alone s c)) × (o ≡ place_of (alone s c) z) → (z ≡ 0 → ⊥) → failed z c o ≡ content_failure s
    unfolding content_failure first_bad
    content_found l a h =
        let q : bad c ≡ true = rw (ne_eqb (content_refusal (alone s c)) 0 (λ k. h (a.0 ∙ k))) in
        rw (← search_found t l refl q, lt-ltb c (cells_of s) l, a.1, a.0)

    pub content_none : cells_of s ≤ c → failed 0 0 0 ≡ content_failure s
    unfolding content_failure first_bad
    content_none l = rw (← search_end t l, le-ltb c (cells_of s) l)

pub content_same : (s : Sheet) (st : List ℕ) (room : List Float) → content_failure (sheet s.width s.height s.channels s.samples st room s.cells s.modes s.settings s.colours s.coords s.ends) ≡ content_failure s
unfolding content_failure first_bad content_refusal place_of alone
content_same s st room = refl
