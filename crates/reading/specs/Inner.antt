-- What the inner functions ask of each other; no public promise rests on it. Definitions only.
use Rattle.std.specs.Prelude.{◌≡◌, ℕ, ◌+◌, ◌-◌, ◌*◌, ◌≤◌, ◌<◌, Bool, cond, List, length, get_or, Float, Option, Some, None, Result, Ok, Err, MatchResult}
use Rattle.ground.specs.Write.{Written}
use Rattle.inputs.specs.Checks.{Input}
use Rattle.inputs.specs.declared.stencil.Counts.{Counts}
use Rattle.correction.specs.Bitmap.{cell_texel}
use Rattle.inputs.specs.declared.refusal.Refusal.{Refusal}
use Rattle.inputs.specs.Refusal.{number, place}
use Rattle.correction.specs.declared.pass.Corrected.{Corrected}
use Rattle.correction.specs.Pass.{Answer, answer, pass_stencil}
use Rattle.plain.specs.Answer.{Plain, plain_answer}
use Rattle.reading.specs.Grammar.{fine, length_at, start, before, contours_from, contours, row_size, size_breach, field_breach, outline_breach, rows_breach, end_at, width, height, channels}
use Rattle.reading.specs.Case.{colours_of, coords_of, ends_of}
use Rattle.reading.specs.Text.{refused_text, counts_text, counts_plainly, accepted_with}
use Rattle.reading.specs.Answer.{printed, written, printed_plainly, written_plainly}
use Rattle.reading.specs.declared.engines.Judged.{Judged}
use Rattle.reading.specs.declared.reader.Field.{Field}
use Rattle.reading.specs.declared.page.Page.{Page}

-- what a field reader tells of the field at a place: its tag, 0 where there is none, its length where that is there, and where its contents end where they are there
pub record Told (s : List ℕ) (at : ℕ) (f : Field) : Type 0 where
  pub place : f.at ≡ at
  pub tagged : at < length s → f.tag ≡ get_or s at 0
  pub untagged : length s ≤ at → f.tag ≡ 0
  pub sized : at + 3 ≤ length s → f.len ≡ length_at s at
  pub behind : at + 3 + length_at s at ≤ length s → f.next ≡ at + 3 + length_at s at

-- k contours with n segments are read, and the next field is at a place
pub record Reached (s : List ℕ) (at k n : ℕ) : Type 0 where
  pub place : at ≡ start s k
  pub segments : n ≡ before s k
  pub inside : at ≤ length s
  pub few : k ≤ 64
  pub sparse : n ≤ 256
  pub same : contours s ≡ contours_from (64 - k) s k

-- where the contours end, how many there are and how many segments they have
pub record Outlined (s : List ℕ) (at k n : ℕ) : Type 0 where
  pub count : k ≡ contours s
  pub place : at ≡ start s k
  pub segments : n ≡ before s k
  pub inside : at ≤ length s
  pub few : k ≤ 64
  pub sparse : n ≤ 256

-- where everything lies in an input without a breach
pub record Whole (s : List ℕ) (at k n : ℕ) : Type 0 where
  pub short : length s ≤ 65536
  pub headed : 44 ≤ length s
  pub small : width s * height s * channels s ≤ 12288
  pub outlined : Outlined s at k n
  pub rowed : end_at s ≤ length s

-- a check's answer: it passes where the number says that there is no breach, and else its error is the breach
abbrev pub Checked : {A : Type 0} → ℕ → Result A ℕ → Type 0
Checked n r = MatchResult r (λ x. n ≡ fine) (λ b. (b ≡ n) × (b ≡ fine → ⊥))

-- the same, and what is known of what it answers
abbrev pub Found : {A : Type 0} → ℕ → Result A ℕ → (A → Type 0) → Type 0
Found n r known = MatchResult r (λ x. (n ≡ fine) × known x) (λ b. (b ≡ n) × (b ≡ fine → ⊥))

-- the size field is read, and says how long a row is
pub record Measured (s : List ℕ) (row : ℕ) : Type 0 where
  pub short : length s ≤ 65536
  pub sized : size_breach s ≡ fine
  pub wide : row ≡ 4 * row_size s

-- where 03 is due, or what comes after the contours, which so far end at the place
pub record Outlining (s : List ℕ) (at left row rows k n : ℕ) : Type 0 where
  pub measured : Measured s row
  pub all : left ≡ height s
  pub set : field_breach s 8 2 33 ≡ fine
  pub reached : Reached s at k n
  pub place : rows ≡ at

-- where 04 is due while rows are left, and then 00: what is left decides whether the rows have a breach
pub record Rowing (s : List ℕ) (at left row rows k n : ℕ) : Type 0 where
  pub measured : Measured s row
  pub set : field_breach s 8 2 33 ≡ fine
  pub outlined : Outlined s rows k n
  pub unbroken : outline_breach s ≡ fine
  pub same : rows_breach (height s) s rows (row_size s) ≡ rows_breach left s at (row_size s)
  pub ends : at + left * (3 + 4 * row_size s) ≡ end_at s
  pub inside : at ≤ length s

-- the slices that are lent for the case
pub record Lent (xs : List Float) (st cs : List ℕ) (ps : List Float) (es : List ℕ) : Type 0 where
  pub samples : 12288 ≤ length xs
  pub cells : 12288 ≤ length st
  pub colours : 256 ≤ length cs
  pub coords : 512 ≤ length ps
  pub ends : 64 ≤ length es

-- the colours, the coordinates and the ends of k contours with n segments stand in front of what was lent for them
pub record Decoded (s : List ℕ) (k n : ℕ) (cs₀ cs : List ℕ) (ps₀ ps : List Float) (es₀ es : List ℕ) : Type 0 where
  pub colours : Written cs₀ 0 (colours_of s) n cs
  pub coords : Written ps₀ 0 (coords_of s) (2 * n) ps
  pub ends : Written es₀ 0 (ends_of s) k es

-- ---- a page: a lent slice, written from the front on

-- the text is written on the page p, of which q is what became
pub record Put {A : Type 0} (p : Page A) (text : List A) (q : Page A) : Type 0 where
  pub same : q.out.ghost_name ≡ p.out.ghost_name
  pub written : Written p.out.now p.at text q.at q.out.now

-- ---- either engine: the plain one, or the first

-- the counts' line, with the tests where they are counted
unfoldable pub counts_line : Counts → Option ℕ → List ℕ
counts_line c (Some t) = counts_text c t
counts_line c None = counts_plainly c

-- what an engine counts: with the range tests, and without them
abbrev pub with_tests : Corrected → Judged
with_tests c = record { counts = c.counts; tests = Some c.tests }

abbrev pub without_tests : Counts → Judged
without_tests c = record { counts = c; tests = None }

-- an answer of either engine in one form
unfoldable pub of_pass : Answer → Result Judged Refusal
of_pass (Ok c) = Ok (with_tests c)
of_pass (Err r) = Err r

unfoldable pub of_plain : Plain → Result Judged Refusal
of_plain (Ok c) = Ok (without_tests c)
of_plain (Err r) = Err r

-- what the engine answers
unfoldable pub judged : Bool → Input → Result Judged Refusal
judged plainly i = cond plainly (of_plain (plain_answer i)) (of_pass (answer i))

-- its text
unfoldable pub judged_text : Input → Result Judged Refusal → List ℕ
judged_text i (Ok j) = accepted_with i.width i.height i.channels (counts_line j.counts j.tests) (pass_stencil i) (cell_texel i.samples i.channels)
judged_text i (Err r) = refused_text (number r) (place r)

-- all that is printed with it, and what is written into a slice of n bytes
unfoldable pub printed_by : Bool → List ℕ → List ℕ
printed_by plainly s = cond plainly (printed_plainly s) (printed s)

unfoldable pub written_by : Bool → ℕ → List ℕ → List ℕ
written_by plainly n s = cond plainly (written_plainly n s) (written n s)
