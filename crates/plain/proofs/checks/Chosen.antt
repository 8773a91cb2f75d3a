-- All checks are made, and the first that fails is chosen: that is the one that answers. Assumes nothing.
--     area_small, volume_small   products of sizes that are at most so large fit
--     sizes_chosen      of checks 1 to 4
--     outlines_chosen   of checks 7 to 9, where check 7 passes
--     all_chosen        of all
--     sizes_told, outlines_told, rest_told, both_told   what a result says that was put together so
use Rattle.std.proofs.Common.{◌≡◌, ℕ, ◌*◌, ◌≤◌, Bool, true, false, cond, not, eqb, ltb, leb, List, length, sym, refl, ap, ◌∙◌, mul-le-mul, ltb-false, ltb-true, eqb-true, le-leb}
use lib.Ieee.{Float}
use borrow.Author.Tests.{lt-ltb, le-ltb}
use Rattle.std.proofs.Common.{◌||◌, ◌+◌, ◌<◌, le_refl, subst, arith}
use Rattle.ground.specs.Lists.{first}
use Rattle.ground.proofs.Laws.Search.{first_le, Kept, kept_none, kept_more, kept_all}
use Rattle.inputs.specs.declared.refusal.ContentRefusal.{ContentRefusal}
use Rattle.plain.specs.Inner.{At}
use Rattle.std.specs.Prelude.{Result, Ok, Err}
use Rattle.std.specs.Result.{result_and}
use Rattle.inputs.specs.declared.refusal.ContentRefusal.TheVariants.{Setting, Sample, End, Segment}
use Rattle.inputs.specs.declared.refusal.Refusal.{Refusal}
use Rattle.inputs.specs.declared.refusal.Refusal.TheVariants.{Channels, Size, SampleCount, CellCount, Room, Content}
use Rattle.inputs.specs.Refusal.{number, number_in, place_in}
use Rattle.inputs.proofs.Laws.Refusal.{number_not_0}
use borrow.Author.Tests.{eqb-false, ne_eqb}
use Rattle.ground.specs.Refuse.{first_failing}
use Rattle.ranges.specs.declared.config.Settings.{Settings}
use Rattle.inputs.specs.Checks.{bad_length, bad_end, end_before, Input, bad_channels, bad_size, bad_sample_count, bad_cell_count, bad_room, settings_place, samples_place, bad_outlines, ends_place, bad_ends, segments_place, bad_segments, size_refusal, outline_refusal, outline_place, refusal_number, refusal_place}
use Rattle.inputs.proofs.Laws.Checks.{channel_bound, size_bound, by_sizes_law, by_room, by_settings, by_samples, by_outlines}

pub area_small : {w h : ℕ} → w ≤ 4096 → h ≤ 4096 → w * h ≤ 16777216
area_small p q = mul-le-mul p q

pub volume_small : {w h ch : ℕ} → w ≤ 4096 → h ≤ 4096 → ch ≤ 4 → w * h * ch ≤ 67108864
volume_small p q r = mul-le-mul (area_small p q) r

-- a size that is no larger stays
stays : {n most r : ℕ} → r ≡ cond (leb n most) n most → n ≤ most → r ≡ n
stays {n} {most} e l = e ∙ simp (le-leb n most l)

pub sizes_chosen : (w h ch n m : ℕ) {w' h' ch' : ℕ} → w' ≡ cond (leb w 4096) w 4096 → h' ≡ cond (leb h 4096) h 4096 → ch' ≡ cond (leb ch 4) ch 4
    → ◌≡◌ {A = ℕ} (cond (bad_channels ch) 1 (cond (bad_size w h) 2 (cond (not (eqb n (w' * h' * ch'))) 3 (cond (not (eqb m (w' * h'))) 4 0)))) (size_refusal w h ch n m)
unfolding size_refusal first_failing bad_sample_count bad_cell_count
sizes_chosen w h ch n m {w'} {h'} {ch'} p q r = go (bad_channels ch) (bad_size w h) refl refl
  where
    go : (a b : Bool) → bad_channels ch ≡ a → bad_size w h ≡ b
        → ◌≡◌ {A = ℕ} (cond a 1 (cond b 2 (cond (not (eqb n (w' * h' * ch'))) 3 (cond (not (eqb m (w' * h'))) 4 0)))) (cond a 1 (cond b 2 (cond (not (eqb n (w * h * ch))) 3 (cond (not (eqb m (w * h))) 4 0))))
    go true b e f = refl
    go false true e f = refl
    go false false e f =
        let s = size_bound w h f in
        rw (stays p s.0.1, stays q s.1.1, stays r (channel_bound ch e).1)

module _ (colours : List ℕ) (coords : List Float) (ends : List ℕ) where
  pub outlines_chosen : {e p : ℕ} {b : Bool} → bad_outlines (length colours) (length coords) ≡ false → e ≡ ends_place ends (length colours) → p ≡ segments_place colours coords → b ≡ bad_ends ends (length colours)
      → (cond b 8 (cond (ltb p (length colours)) 9 0) ≡ outline_refusal colours coords ends) × (cond b e (cond (ltb p (length colours)) p 0) ≡ outline_place colours coords ends (cond b 8 (cond (ltb p (length colours)) 9 0)))
  unfolding outline_refusal outline_place first_failing bad_segments
  outlines_chosen {e} {p} {b} f g h k = (rw (f, sym k, sym h), go b (ltb p (length colours)))
    where
      go : (b c : Bool) → cond b e (cond c p 0) ≡ outline_place colours coords ends (cond b 8 (cond c 9 0))
      go true c = g
      go false true = h
      go false false = refl

module _ (i : Input) {n p q r o : ℕ} {m : Bool} (e : n ≡ size_refusal i.width i.height i.channels (length i.samples) (length i.stencil)) (d : m ≡ bad_room i.width (length i.room))
    (f : p ≡ settings_place i.mode i.settings) (g : q ≡ samples_place i.samples) (h : r ≡ outline_refusal i.colours i.coords i.ends) (k : o ≡ outline_place i.colours i.coords i.ends r) where
  pub all_chosen : (cond (not (eqb n 0)) n (cond m 60 (cond (ltb p 5) 5 (cond (ltb q (length i.samples)) 6 r))) ≡ refusal_number i) × (cond (not (eqb n 0)) 0 (cond m 0 (cond (ltb p 5) p (cond (ltb q (length i.samples)) q o))) ≡ refusal_place i)
  all_chosen = go (eqb n 0) m (ltb p 5) (ltb q (length i.samples)) refl refl refl refl
    where
      go : (a s b c : Bool) → eqb n 0 ≡ a → m ≡ s → ltb p 5 ≡ b → ltb q (length i.samples) ≡ c → (cond (not a) n (cond s 60 (cond b 5 (cond c 6 r))) ≡ refusal_number i) × (cond (not a) 0 (cond s 0 (cond b p (cond c q o))) ≡ refusal_place i)
      go false s b c x w y z = by_sizes_law i e (eqb-false n 0 x)
      go true true b c x w y z = by_room i e (eqb-true n 0 x) (sym d ∙ w)
      go true false true c x w y z = by_settings i e (eqb-true n 0 x) (sym d ∙ w) f (ltb-true p 5 y)
      go true false false true x w y z = by_samples i e (eqb-true n 0 x) (sym d ∙ w) f (ltb-false p 5 y) g (ltb-true q _ z)
      go true false false false x w y z = by_outlines i e (eqb-true n 0 x) (sym d ∙ w) f (ltb-false p 5 y) g (ltb-false q _ z) h k

-- ---- a check's refusal, or what the rest say

pub sizes_told : (a b x y : Bool) {r t u v : Result Unit Refusal} → r ≡ cond a (Err Channels) t → t ≡ cond b (Err Size) u → u ≡ cond x (Err SampleCount) v → v ≡ cond y (Err CellCount) (Ok tt)
    → (number_in r ≡ cond a 1 (cond b 2 (cond x 3 (cond y 4 0)))) × (place_in r ≡ 0)
sizes_told true b x y d e f g = rw d (refl, refl)
sizes_told false true x y d e f g = rw (d, e) (refl, refl)
sizes_told false false true y d e f g = rw (d, e, f) (refl, refl)
sizes_told false false false true d e f g = rw (d, e, f, g) (refl, refl)
sizes_told false false false false d e f g = rw (d, e, f, g) (refl, refl)

pub rest_told : (m b c : Bool) (p q : ℕ) (o : Result Unit Refusal) {l t u : Result Unit Refusal} → l ≡ cond m (Err Room) t → t ≡ cond b (Err (Content (Setting p))) u → u ≡ cond c (Err (Content (Sample q))) o
    → (number_in l ≡ cond m 60 (cond b 5 (cond c 6 (number_in o)))) × (place_in l ≡ cond m 0 (cond b p (cond c q (place_in o))))
rest_told true b c p q o d e f = rw d (refl, refl)
rest_told false true c p q o d e f = rw (d, e) (refl, refl)
rest_told false false true p q o d e f = rw (d, e, f) (refl, refl)
rest_told false false false p q o d e f = rw (d, e, f) (refl, refl)

-- the first of two results that is a refusal
pub both_told : (s l : Result Unit Refusal) → place_in s ≡ 0 → (number_in (result_and s l) ≡ cond (not (eqb (number_in s) 0)) (number_in s) (number_in l)) × (place_in (result_and s l) ≡ cond (not (eqb (number_in s) 0)) 0 (place_in l))
both_told (Ok a) l z = (refl, refl)
both_told (Err r) l z = let e = ne_eqb (number r) 0 (number_not_0 r) in (simp e, simp e z)

ends_le : (ends : List ℕ) (n : ℕ) → ends_place ends n ≤ length ends
unfolding ends_place
ends_le ends n = first_le (bad_end ends n) (length ends)

-- ---- a search from the end: the first bad place from j on refuses

pub record Found (f : ℕ → Bool) (n j : ℕ) (kind : ℕ → ContentRefusal) (rest r : Result Unit Refusal) : Type 0 where
  pub place : ℕ
  pub kept : Kept f n j place
  pub at : At n place kind rest r

pub found_none : (f : ℕ → Bool) (n : ℕ) (kind : ℕ → ContentRefusal) (rest : Result Unit Refusal) → Found f n n kind rest rest
found_none f n kind rest = record { place = n; kept = kept_none f n; at = simp (le-ltb n n (le_refl n)) }

module _ {f : ℕ → Bool} {n j : ℕ} {kind : ℕ → ContentRefusal} {rest r : Result Unit Refusal} (s : Found f n j kind rest r) where
  chosen : (t : Bool) (i : ℕ) {q : Result Unit Refusal} → i < n → q ≡ cond t (Err (Content (kind i))) r → At n (cond t i s.place) kind rest q
  chosen true i l e = e ∙ simp (lt-ltb i n l)
  chosen false i l e = e ∙ s.at

  pub found_more : {i : ℕ} {t : Bool} {q : Result Unit Refusal} → i + 1 ≡ j → t ≡ f i → q ≡ cond t (Err (Content (kind i))) r → Found f n i kind rest q
  found_more {i} {t} {q} e a b = record { place = cond t i s.place; kept = kept_more s.kept e a refl; at = chosen t i (omega (arith, s.kept.low, s.kept.high)) b }

  pub found_all : j ≤ 0 → At n (first n f) kind rest r
  found_all z = subst (λ (p : ℕ). At n p kind rest r) (kept_all s.kept z) s.at

-- the settings, one after the other
module _ (mode : ℕ) (s : Settings) (e : Result Unit Refusal) {d v h r a : Result Unit Refusal} where
  settings_go : (m p q k l : Bool) → a ≡ cond m (Err (Content (Setting 0))) r → r ≡ cond p (Err (Content (Setting 1))) h → h ≡ cond q (Err (Content (Setting 2))) v → v ≡ cond k (Err (Content (Setting 3))) d → d ≡ cond l (Err (Content (Setting 4))) e
      → At 5 (cond m 0 (cond p 1 (cond q 2 (cond k 3 (cond l 4 5))))) Setting e a
  settings_go true p q k l f g i j o = f
  settings_go false true q k l f g i j o = f ∙ g
  settings_go false false true k l f g i j o = f ∙ g ∙ i
  settings_go false false false true l f g i j o = f ∙ g ∙ i ∙ j
  settings_go false false false false true f g i j o = f ∙ g ∙ i ∙ j ∙ o
  settings_go false false false false false f g i j o = f ∙ g ∙ i ∙ j ∙ o

  pub settings_chosen : (p q k l : Bool) → p ≡ bad_length s.ratio → q ≡ bad_length s.horizontal → k ≡ bad_length s.vertical → l ≡ bad_length s.diagonal
      → a ≡ cond (ltb 3 mode) (Err (Content (Setting 0))) r → r ≡ cond p (Err (Content (Setting 1))) h → h ≡ cond q (Err (Content (Setting 2))) v → v ≡ cond k (Err (Content (Setting 3))) d → d ≡ cond l (Err (Content (Setting 4))) e
      → At 5 (settings_place mode s) Setting e a
  unfolding settings_place
  settings_chosen p q k l w x y z f g i j o = rw (← w, ← x, ← y, ← z) (settings_go (ltb 3 mode) p q k l f g i j o)

-- ---- check 8, which refuses behind the last end too, and checks 7 to 9

module _ (ends : List ℕ) (n : ℕ) (o : Result Unit Refusal) {f r : Result Unit Refusal} where
  ends_go : (b : Bool) → f ≡ cond b (Err (Content (End (length ends)))) o → (t : Bool) → ltb (ends_place ends n) (length ends) ≡ t → r ≡ cond t (Err (Content (End (ends_place ends n)))) f → ends_place ends n ≤ length ends
      → (number_in r ≡ cond (t || b) 8 (number_in o)) × (place_in r ≡ cond (t || b) (ends_place ends n) (place_in o))
  ends_go b e true p h l = rw h (refl, refl)
  ends_go true e false p h l = let q : ends_place ends n ≡ length ends = omega (arith, ltb-false _ _ p, l) in rw (h, e) (refl, sym q)
  ends_go false e false p h l = rw (h, e) (refl, refl)

  pub ends_told : (last : ℕ) → last ≡ end_before ends (length ends) → f ≡ cond (not (eqb last n)) (Err (Content (End (length ends)))) o → At (length ends) (ends_place ends n) End f r
      → (number_in r ≡ cond (bad_ends ends n) 8 (number_in o)) × (place_in r ≡ cond (bad_ends ends n) (ends_place ends n) (place_in o))
  unfolding bad_ends
  ends_told last d e h = rw (← d) (ends_go (not (eqb last n)) e _ refl h (ends_le ends n))

module _ (colours : List ℕ) (coords : List Float) (ends : List ℕ) (g r : Result Unit Refusal) where
  contents_told : (b c : Bool) (p : ℕ) → g ≡ cond c (Err (Content (Segment p))) (Ok tt) → number_in r ≡ cond b 8 (number_in g) → place_in r ≡ cond b (ends_place ends (length colours)) (place_in g)
      → (number_in r ≡ cond b 8 (cond c 9 0)) × (place_in r ≡ cond b (ends_place ends (length colours)) (cond c p 0))
  contents_told b true p h e f = (e ∙ rw h, f ∙ rw h)
  contents_told b false p h e f = (e ∙ rw h, f ∙ rw h)

  pub outline_told : bad_outlines (length colours) (length coords) ≡ false → At (length colours) (segments_place colours coords) Segment (Ok tt) g → number_in r ≡ cond (bad_ends ends (length colours)) 8 (number_in g)
      → place_in r ≡ cond (bad_ends ends (length colours)) (ends_place ends (length colours)) (place_in g) → (number_in r ≡ outline_refusal colours coords ends) × (place_in r ≡ outline_place colours coords ends (number_in r))
  outline_told a h e f =
      let t = contents_told (bad_ends ends (length colours)) (ltb (segments_place colours coords) (length colours)) (segments_place colours coords) h e f in
      let k = outlines_chosen colours coords ends {e = ends_place ends (length colours)} {p = segments_place colours coords} {b = bad_ends ends (length colours)} a refl refl refl in
      (t.0 ∙ k.0, t.1 ∙ k.1 ∙ ap (outline_place colours coords ends) (sym t.0))
