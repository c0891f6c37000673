-- What the records of a replay found: kept count of record by record, shown by the listing, and the first that differs.
use Prim.Native.Nat.{ℕ, zero, suc, ◌+◌, ◌≤◌}
use mathlib.Core.Path.{◌≡◌, refl, sym, ap, ◌∙◌}
use mathlib.Core.Bool.{Bool, true, false, not, cond, ◌&&◌}
use mathlib.Core.List.{List, [], ◌∷◌, ◌++◌, append_assoc}
use native.Mathlib.Omega.{arith}
use native.Mathlib.Nat.{add-zero, zero-add}
use lib.Dec.{eqb}
use lib.ListN.{length}
use borrow.Author.Tests.{ne_eqb}
use Rattle.words.specs.Bits.{as_bit}
use Rattle.words.proofs.Tests.{by}
use Rattle.machine.specs.Calls.{read_register}
use Rattle.laws.specs.World.{World}
use Rattle.recording.specs.declared.Record.{Record}
use Rattle.recording.specs.declared.Record.TheVariants.{None, Write, Read, SpRun, DpRun, Tick, Break, Acknowledge, Store, Check, Run}
use Rattle.recording.specs.Fields.{record_size}
use Rattle.recording.specs.Reader.{Reading, found, longest, read_record}
use Rattle.recording.specs.Split.{ReadOn}
use Rattle.recording.specs.Split.ReadOn.{at_end, declines, reads}
use Rattle.recording.proofs.Rewriting.{read_size}
use Rattle.listing.specs.Text.{Text, letter_s, letter_d, letter_r, letter_l, hex}
use Rattle.listing.specs.TakenApart.{count_lines, compared_line, begins, expected_line}
use Rattle.listing.proofs.TakenApart.{Counted, run_counted, found_counted}
use Rattle.playback.specs.declared.Findings.{Findings}
use Rattle.playback.specs.Effects.{load_at, replay_run, sp_line, dp_line, after, line}
use Rattle.playback.specs.Findings.{compares, differs, total, differed, compared, first_from, one, findings, no_findings}
use Rattle.playback.specs.Replay.{after_all, lines}
use Rattle.playback.specs.Promised.{noted}
use Rattle.playback.specs.Theorems.{FirstDiffers}

-- ---- Record by record

-- What these records find, the first of which has the index k and begins at a place, where f was found before them
abbrev pub found_after : Findings → ℕ → ℕ → List Record → World → Findings
found_after f k place rs w =
    record {
      compared = f.compared + compared rs w;
      differed = f.differed + differed rs w;
      index = cond (eqb f.differed 0) (first_from one k rs w) f.index;
      place = cond (eqb f.differed 0) (first_from record_size place rs w) f.place;
    }

-- The first that differs, of those before, this one and the rest
first_of : (d : Bool) (n this rest before : ℕ)
    → cond (eqb (n + as_bit d) 0) rest (cond (d && eqb n 0) this before) ≡ cond (eqb n 0) (cond d this rest) before
first_of true zero this rest before = refl
first_of true (suc n) this rest before = rw (ne_eqb (suc n + 1) 0 (λ z. omega arith), ne_eqb (suc n) 0 (λ z. omega arith))
first_of false n this rest before = rw (add-zero n)

sum_of : (a b c : ℕ) → a + b + c ≡ a + (b + c)
sum_of a b c = omega arith

-- One record is noted, and the rest follow
pub noted_then : (f : Findings) (k place : ℕ) (r : Record) (rs : List Record) (w : World)
    → found_after (noted f (compares r) (differs r w) k place) (k + 1) (place + record_size r) rs (after r w) ≡ found_after f k place (r ∷ rs) w
unfolding noted total first_from
noted_then f k place r rs w =
    let v = after r w in
    λ i. record {
      compared = sum_of f.compared (as_bit (compares r)) (compared rs v) i;
      differed = sum_of f.differed (as_bit (differs r w)) (differed rs v) i;
      index = first_of (differs r w) f.differed k (first_from one (k + 1) rs v) f.index i;
      place = first_of (differs r w) f.differed place (first_from record_size (place + record_size r) rs v) f.place i;
    }

-- No more were compared, and no more differed, than there were records
pub few_noted : (f : Findings) (c d : Bool) (k place n : ℕ) → f.compared ≤ n → f.differed ≤ n
    → ((noted f c d k place).compared ≤ n + 1) × ((noted f c d k place).differed ≤ n + 1)
unfolding noted
few_noted f c d k place n h l = (one_more f.compared c h, one_more f.differed d l)
  where
    one_more : (a : ℕ) (b : Bool) → a ≤ n → a + as_bit b ≤ n + 1
    one_more a true h = omega arith
    one_more a false h = omega arith

-- Where none differed, index and place are 0
pub record Quiet (f : Findings) : Type 0 where
  pub index : f.differed ≡ 0 → f.index ≡ 0
  pub place : f.differed ≡ 0 → f.place ≡ 0

pub quiet_none : Quiet no_findings
quiet_none = record { index = λ z. refl; place = λ z. refl }

quiet_after : (d : Bool) (n this before : ℕ) → (n ≡ 0 → before ≡ 0) → n + as_bit d ≡ 0 → cond (d && eqb n 0) this before ≡ 0
quiet_after true n this before h z = absurd (omega arith)
quiet_after false n this before h z = h (omega arith)

pub quiet_noted : (f : Findings) (c d : Bool) (k place : ℕ) → Quiet f → Quiet (noted f c d k place)
unfolding noted
quiet_noted f c d k place q =
    record {
      index = quiet_after d f.differed k f.index q.index;
      place = quiet_after d f.differed place f.place q.place;
    }

unless_zero : (n x : ℕ) → (n ≡ 0 → x ≡ 0) → cond (eqb n 0) 0 x ≡ x
unless_zero zero x h = sym (h refl)
unless_zero (suc n) x h = rw (ne_eqb (suc n) 0 (λ z. omega arith))

-- No record is left
pub noted_all_lem : (f : Findings) (k place : ℕ) (w : World) → Quiet f → found_after f k place [] w ≡ f
unfolding total first_from
noted_all_lem f k place w q =
    λ i. record {
      compared = add-zero f.compared i;
      differed = add-zero f.differed i;
      index = unless_zero f.differed f.index q.index i;
      place = unless_zero f.differed f.place q.place i;
    }

-- Nothing was found before
pub noted_none : (rs : List Record) (w : World) → found_after no_findings 0 0 rs w ≡ findings rs w
noted_none rs w =
    λ i. record {
      compared = zero-add (compared rs w) i;
      differed = zero-add (differed rs w) i;
      index = first_from one 0 rs w;
      place = first_from record_size 0 rs w;
    }

-- ---- The listing

-- A record that writes no line
no_line : (test : Text → Bool) → Counted test false []
no_line test t = sym (zero-add (count_lines test [] t))

-- Two lines of which neither counts
both_counted : (test : Text → Bool) (x y : Text) → Counted test false x → Counted test false y → Counted test false (x ++ y)
both_counted test x y f g t =
    ap (count_lines test []) (append_assoc x y t) ∙ f (y ++ t) ∙ ap (λ (n : ℕ). 0 + n) (g t ∙ zero-add (count_lines test [] t))

line_compared : (r : Record) (w : World) → Counted compared_line (compares r) (line r w)
unfolding line
line_compared None w = no_line compared_line
line_compared (Write a v) w = no_line compared_line
line_compared (Read a v) w = found_counted compared_line (λ (same : Bool). true) letter_r false a (read_register w.state a).answer.value v refl refl refl
line_compared (SpRun b) w = run_counted compared_line false letter_s (replay_run w b 0).outcome.answer.count refl refl
line_compared (DpRun b) w = run_counted compared_line false letter_d (replay_run w 0 b).words refl refl
line_compared (Tick n) w = no_line compared_line
line_compared Break w = no_line compared_line
line_compared Acknowledge w = no_line compared_line
line_compared (Store a word) w = no_line compared_line
line_compared (Check a word) w = found_counted compared_line (λ (same : Bool). true) letter_l true a (load_at a w.memory) word refl refl refl
line_compared (Run a b) w =
    let r = replay_run w a b in
    both_counted compared_line (sp_line r) (dp_line r) (run_counted compared_line false letter_s r.outcome.answer.count refl refl)
    (run_counted compared_line false letter_d r.words refl refl)

line_expected : (r : Record) (w : World) → Counted expected_line (differs r w) (line r w)
unfolding line hex begins
line_expected None w = no_line expected_line
line_expected (Write a v) w = no_line expected_line
line_expected (Read a v) w = found_counted expected_line not letter_r false a (read_register w.state a).answer.value v refl refl refl
line_expected (SpRun b) w = run_counted expected_line false letter_s (replay_run w b 0).outcome.answer.count refl refl
line_expected (DpRun b) w = run_counted expected_line false letter_d (replay_run w 0 b).words refl refl
line_expected (Tick n) w = no_line expected_line
line_expected Break w = no_line expected_line
line_expected Acknowledge w = no_line expected_line
line_expected (Store a word) w = no_line expected_line
line_expected (Check a word) w = found_counted expected_line not letter_l true a (load_at a w.memory) word refl refl refl
line_expected (Run a b) w =
    let r = replay_run w a b in
    both_counted expected_line (sp_line r) (dp_line r) (run_counted expected_line false letter_s r.outcome.answer.count refl refl)
    (run_counted expected_line false letter_d r.words refl refl)

-- All lines, and what stands after them
lines_counted : (test : Text → Bool) (holds : Record → World → Bool) → ((r : Record) (w : World) → Counted test (holds r w) (line r w))
    → (rs : List Record) (w : World) (t : Text) → count_lines test [] (lines rs w ++ t) ≡ total holds rs w + count_lines test [] t
unfolding lines total
lines_counted test holds one [] w t = sym (zero-add (count_lines test [] t))
lines_counted test holds one (r ∷ rs) w t =
    let v = after r w in
    ap (count_lines test []) (append_assoc (line r w) (lines rs v) t)
    ∙ one r w (lines rs v ++ t)
    ∙ ap (λ (n : ℕ). as_bit (holds r w) + n) (lines_counted test holds one rs v t)
    ∙ sym (sum_of (as_bit (holds r w)) (total holds rs v) (count_lines test [] t))

pub lines_compared : (rs : List Record) (w : World) (t : Text)
    → count_lines compared_line [] (lines rs w ++ t) ≡ compared rs w + count_lines compared_line [] t
lines_compared = lines_counted compared_line (λ (r : Record) (w : World). compares r) line_compared

pub lines_expected : (rs : List Record) (w : World) (t : Text)
    → count_lines expected_line [] (lines rs w ++ t) ≡ differed rs w + count_lines expected_line [] t
lines_expected = lines_counted expected_line differs line_expected

-- ---- The first that differs

-- None does
pub no_first : (size : Record → ℕ) (n : ℕ) (rs : List Record) (w : World) → differed rs w ≡ 0 → first_from size n rs w ≡ 0
unfolding total first_from
no_first size n [] w z = refl
no_first size n (r ∷ rs) w z =
    by (differs r w)
    (λ e. absurd (let s : as_bit true + differed rs (after r w) ≡ 0 = rw e at z in omega arith))
    (λ e. rw e (no_first size (n + size r) rs (after r w) (let s : as_bit false + differed rs (after r w) ≡ 0 = rw e at z in omega arith)))

-- The same from an index and a place on
record FirstFound (s : List ℕ) (w : World) (items : List Record) (last number k i place : ℕ) : Type 0 where
  before : List Record
  item : Record
  rest : List Record
  in_order : items ≡ before ++ (item ∷ rest)
  index : i ≡ k + length before
  none_before : differed before w ≡ 0
  differs : differs item (after_all before w) ≡ true
  reads : ReadOn s place (item ∷ rest) last number

module _ (s : List ℕ) (at p last n : ℕ) (r : Record) (rs : List Record) (w : World) (k : ℕ) where
  -- This one
  found_here : ReadOn s at (r ∷ rs) last n → differs r w ≡ true
      → FirstFound s w (r ∷ rs) last n k (first_from one k (r ∷ rs) w) (first_from record_size at (r ∷ rs) w)
  unfolding total first_from after_all
  found_here x e =
      rw e
      (record {
        before = [];
        item = r;
        rest = rs;
        in_order = refl;
        index = sym (add-zero k);
        none_before = refl;
        differs = e;
        reads = x;
      })

  -- One of the rest
  found_later : p ≡ at + record_size r → differs r w ≡ false
      → FirstFound s (after r w) rs last n (k + 1) (first_from one (k + 1) rs (after r w)) (first_from record_size p rs (after r w))
      → FirstFound s w (r ∷ rs) last n k (first_from one k (r ∷ rs) w) (first_from record_size at (r ∷ rs) w)
  unfolding total first_from after_all
  found_later q e f =
      rw (e, ← q)
      (record {
        before = r ∷ f.before;
        item = f.item;
        rest = f.rest;
        in_order = ap (λ (l : List Record). r ∷ l) f.in_order;
        index = omega (arith, f.index);
        none_before = rw e (omega (arith, f.none_before));
        differs = f.differs;
        reads = f.reads;
      })

-- What was read there takes as many bytes as its record has
read_far : (s : List ℕ) (at p : ℕ) (r : Record) → length s ≤ longest → read_record s at ≡ found r p → p ≡ at + record_size r
read_far s at p r h e =
    ap (λ (x : Reading). x.place) (sym e)
    ∙ read_size s at h (ap (λ (x : Reading). x.number) e)
    ∙ ap (λ (x : Reading). at + record_size x.item) e

some_differs : (r : Record) (rs : List Record) (w : World) (m : ℕ) → differs r w ≡ false → differed (r ∷ rs) w ≡ suc m
    → differed rs (after r w) ≡ suc m
unfolding total
some_differs r rs w m e d = let s : as_bit false + differed rs (after r w) ≡ suc m = rw e at d in omega arith

first_found : {s : List ℕ} {at last n : ℕ} {rs : List Record} (w : World) (k m : ℕ) → length s ≤ longest → ReadOn s at rs last n
    → differed rs w ≡ suc m → FirstFound s w rs last n k (first_from one k rs w) (first_from record_size at rs w)
unfolding total
first_found w k m h at_end d = absurd (omega arith)
first_found w k m h (declines l e) d = absurd (omega arith)
first_found {s} w k m h (reads {at = at} {p = p} {last = last} {n = n} {r = r} {rs = rs} l e x) d =
    by (differs r w)
    (λ t. found_here s at p last n r rs w k (reads l e x) t)
    (λ t. found_later s at p last n r rs w k (read_far s at p r h e) t (first_found (after r w) (k + 1) m h x (some_differs r rs w m t d)))

pub first_differs : (s : List ℕ) (w : World) (rs : List Record) (last n m : ℕ) → length s ≤ longest → ReadOn s 0 rs last n
    → differed rs w ≡ suc m → FirstDiffers s w rs last n (findings rs w).index (findings rs w).place
first_differs s w rs last n m h x d =
    let f = first_found w 0 m h x d in
    record {
      before = f.before;
      item = f.item;
      rest = f.rest;
      in_order = f.in_order;
      index = f.index ∙ zero-add (length f.before);
      none_before = f.none_before;
      differs = f.differs;
      reads = f.reads;
    }
