-- What the reader and the writer make of mirrors of the DP registers.
use Prim.Native.Nat.{ℕ, zero, suc, ◌+◌, ◌-◌, ◌%◌, ◌<◌, ◌≤◌}
use mathlib.Core.Path.{◌≡◌, refl, sym, ap, ◌∙◌}
use mathlib.Core.Bool.{Bool, true, false, cond}
use mathlib.Core.List.{List, [], ◌++◌, map, append_assoc}
use native.Mathlib.Omega.{arith}
use native.Mathlib.Nat.{sub-zero}
use lib.Dec.{ltb}
use lib.ListN.{length, take, drop, length-append, length-drop, take-append-drop}
use lib.Seq.{drop-drop, get_or-drop, drop-append_seam}
use borrow.Author.Tests.{ltb-true, ltb-false}
use Rattle.words.proofs.Tests.{by}
use Rattle.machine.specs.Address.{in_block, first_copy}
use Rattle.machine.specs.Refusals.{check, register_number, if_refused}
use Rattle.machine.proofs.Address.{mirrored}
use Rattle.recording.specs.declared.Record.{Record}
use Rattle.recording.specs.declared.Record.TheVariants.{None, Write, Read, SpRun, DpRun, Tick, Break, Acknowledge, Store, Check, Run}
use Rattle.recording.specs.declared.Fields.{Fields}
use Rattle.recording.specs.Kinds.{Bytes, four, eight, is_kind, accesses, runs_or_ticks, runs_both, size, kind_of, decoded, record_of}
use Rattle.recording.specs.Fields.{low, high, record_by, Fits}
use Rattle.recording.specs.Reader.{address_number, record_number}
use Rattle.recording.specs.Writer.{record_bytes, has_room, before, write_number, answered, write_answer}
use Rattle.recording.specs.Split.{Split, stops, precedes, split_from, split}
use Rattle.recording.specs.Mirrors.{at_first_copy, all_bytes, bytes_at_first_copy, fields_at_first_copy, split_at_first_copy, ReadAtFirstCopy, WrittenAtFirstCopy}
use Rattle.recording.proofs.Accepted.{accepted_kind, accepted_whole, accepted_address}
use Rattle.recording.proofs.Agreeing.{more_kind, more_record, more_number}
use Rattle.recording.proofs.Bytes.{kind_number, bytes_record, bytes_kind, bytes_length, bytes_number, read_bytes}
use Rattle.recording.proofs.Splitting.{split_empty, split_accepted, split_declined, read_fits}
use Rattle.recording.proofs.Rewriting.{decoded_kind}

-- ---- One record

copy_kind : (r : Record) → kind_number (at_first_copy r) ≡ kind_number r
copy_kind None = refl
copy_kind (Write a v) = refl
copy_kind (Read a v) = refl
copy_kind (SpRun b) = refl
copy_kind (DpRun b) = refl
copy_kind (Tick n) = refl
copy_kind Break = refl
copy_kind Acknowledge = refl
copy_kind (Store a w) = refl
copy_kind (Check a w) = refl
copy_kind (Run a b) = refl

pub copy_number : (r : Record) → address_number (at_first_copy r) ≡ address_number r
copy_number None = refl
copy_number (Write a v) = ap register_number (sym (mirrored a))
copy_number (Read a v) = ap register_number (sym (mirrored a))
copy_number (SpRun b) = refl
copy_number (DpRun b) = refl
copy_number (Tick n) = refl
copy_number Break = refl
copy_number Acknowledge = refl
copy_number (Store a w) = refl
copy_number (Check a w) = refl
copy_number (Run a b) = refl

address_fits : (a : ℕ) → a < 0x100000000 → first_copy a < 0x100000000
address_fits a h = go (in_block 0x04100000 0x041FFFFF a)
  where
    go : (b : Bool) → cond b (0x04100000 + a % 0x20) a < 0x100000000
    go true = omega arith
    go false = h

copy_fits : (r : Record) → Fits r → Fits (at_first_copy r)
copy_fits None h = h
copy_fits (Write a v) h = (address_fits a h.0, h.1)
copy_fits (Read a v) h = (address_fits a h.0, h.1)
copy_fits (SpRun b) h = h
copy_fits (DpRun b) h = h
copy_fits (Tick n) h = h
copy_fits Break h = h
copy_fits Acknowledge h = h
copy_fits (Store a w) h = h
copy_fits (Check a w) h = h
copy_fits (Run a b) h = h

-- An accepted record and bytes t after it: with the record at the first copy it is accepted too, and as many bytes follow
module _ (u : List ℕ) (b : Bytes u) (z : record_number u ≡ 0) (t : List ℕ) where
  abbrev copied : Record
  copied = at_first_copy (record_of u)

  copied_kind : kind_number copied ≡ kind_of u
  unfolding record_of
  copied_kind =
      copy_kind (record_of u)
      ∙ decoded_kind (kind_of u) (four u 1) (four u 5) (eight u 5) (accepted_kind u z)

  copied_known : is_kind (kind_number copied) ≡ true
  copied_known = ap is_kind copied_kind ∙ accepted_kind u z

  copied_accepted : record_number (record_bytes copied) ≡ 0
  copied_accepted =
      bytes_number copied copied_known (copy_number (record_of u) ∙ accepted_address u z) (copy_fits (record_of u) (read_fits u b))

  copied_length : length (record_bytes copied) ≡ size (kind_of u)
  copied_length = bytes_length copied copied_known ∙ ap size copied_kind

  copied_first : kind_of (record_bytes copied ++ t) ≡ kind_of u
  copied_first = more_kind (record_bytes copied) t copied_accepted ∙ bytes_kind copied copied_known ∙ copied_kind

  -- The bytes after it
  copied_rest : drop (size (kind_of u)) (record_bytes copied ++ t) ≡ t
  copied_rest = rw (← copied_length) (drop-append_seam (record_bytes copied) t)

  copied_split : (at : ℕ) → split_from at 0 (record_bytes copied ++ t) ≡ precedes copied (split_from (at + size (kind_of u)) 0 t)
  copied_split at =
      split_accepted at (record_bytes copied ++ t) (more_number (record_bytes copied) t copied_accepted)
      ∙ rw (copied_first, copied_rest, more_record (record_bytes copied) t copied_accepted, bytes_record copied (copy_fits (record_of u) (read_fits u b)))

-- ---- A recording

-- The bytes of a recording from the place `at` on, of which x is the splitting, with the records at the first copy
abbrev copied_bytes : ℕ → List ℕ → Split → List ℕ
copied_bytes at u x = all_bytes (map at_first_copy x.items) ++ drop (x.place - at) u

record Copied (at : ℕ) (u : List ℕ) (x : Split) : Type 0 where
  onward : at + length (all_bytes (map at_first_copy x.items)) ≡ x.place
  within : x.place ≤ at + length u
  splitting : split_from at 0 (copied_bytes at u x) ≡ split_at_first_copy x
  -- The records as they are give the bytes that they were read from
  rebuilt : all_bytes x.items ++ drop (x.place - at) u ≡ u

copied_none : (at n : ℕ) (u : List ℕ) → split_from at 0 u ≡ stops at n → Copied at u (stops at n)
copied_none at n u e =
    let z : at - at ≡ 0 = omega arith in
    record { onward = omega arith; within = omega arith; splitting = rw z e; rebuilt = rw z }

copied_more : (at : ℕ) (u : List ℕ) (x : Split) → Bytes u → record_number u ≡ 0 → Copied (at + size (kind_of u)) (drop (size (kind_of u)) u) x
    → Copied at u (precedes (record_of u) x)
copied_more at u x b z c =
    let n = size (kind_of u) in
    let r = record_bytes (at_first_copy (record_of u)) in
    let rs = all_bytes (map at_first_copy x.items) in
    let l : length r ≡ n = copied_length u b z [] in
    let w = accepted_whole u z in
    let on = c.onward in
    let far : n + (x.place - (at + n)) ≡ x.place - at = omega arith in
    let rest : drop (x.place - at) u ≡ drop (x.place - (at + n)) (drop n u)
    = ap (λ (k : ℕ). drop k u) (sym far) ∙ sym (drop-drop (x.place - (at + n)) n u) in
    let t = rs ++ drop (x.place - (at + n)) (drop n u) in
    record {
      onward = omega (arith, length-append r rs, l, on);
      within = omega (arith, c.within, length-drop n u, w);
      splitting =
          ap (λ (d : List ℕ). split_from at 0 ((r ++ rs) ++ d)) rest
          ∙ ap (split_from at 0) (append_assoc r rs (drop (x.place - (at + n)) (drop n u)))
          ∙ copied_split u b z t at
          ∙ ap (precedes (at_first_copy (record_of u))) c.splitting;
      rebuilt =
          append_assoc (record_bytes (record_of u)) (all_bytes x.items) (drop (x.place - at) u)
          ∙ (λ i. read_bytes u b z i ++ (all_bytes x.items ++ rest i))
          ∙ ap (λ (d : List ℕ). take n u ++ d) c.rebuilt
          ∙ take-append-drop n u;
    }

-- By the three cases: no byte, a declined record, and an accepted one, of which the rest is given
copied_here : (at : ℕ) (u : List ℕ) → Bytes u
    → (record_number u ≡ 0 → Copied (at + size (kind_of u)) (drop (size (kind_of u)) u) (split_from (at + size (kind_of u)) 0 (drop (size (kind_of u)) u)))
    → Copied at u (split_from at 0 u)
copied_here at u b rest =
    by (ltb 0 (length u)) (λ l. go (record_number u) refl (ltb-true 0 (length u) l))
    (λ l. let e = split_empty at u (ltb-false 0 (length u) l) in rw e (copied_none at 0 u e))
  where
    go : (n : ℕ) → record_number u ≡ n → 0 < length u → Copied at u (split_from at 0 u)
    go (suc n) z l = let e = split_declined at u n l z in rw e (copied_none at (suc n) u e)
    go zero z l = rw (split_accepted at u z) (copied_more at u _ b z (rest z))

-- With at least as many steps as there are bytes
copied_from : (fuel at : ℕ) (u : List ℕ) → Bytes u → length u ≤ fuel → Copied at u (split_from at 0 u)
copied_from zero at u b h = let e = split_empty at u h in rw e (copied_none at 0 u e)
copied_from (suc fuel) at u b h =
    copied_here at u b
    (λ z.
    let n = size (kind_of u) in
    copied_from fuel (at + n) (drop n u) (λ i. rw (get_or-drop n u i 0) (b (n + i))) (omega (arith, length-drop n u, accepted_whole u z)))

pub read_at_first_copy : (s : List ℕ) → Bytes s → ReadAtFirstCopy s
unfolding bytes_at_first_copy
read_at_first_copy s b =
    let c = copied_from (length s) 0 s b (omega arith) in
    let x = split s in
    record {
      length_kept = omega (
        arith,
        length-append (all_bytes (map at_first_copy x.items)) (drop x.place s),
        length-drop x.place s,
        c.onward,
        c.within,
      );
      splitting =
          ap (λ (k : ℕ). split (all_bytes (map at_first_copy x.items) ++ drop k s)) (sym (sub-zero x.place)) ∙ c.splitting;
      unmirrored = λ e. (λ i. all_bytes (e i) ++ drop (sym (sub-zero x.place) i) s) ∙ c.rebuilt;
    }

-- ---- A record that is to be written

copy_decoded : (k a n m v w : ℕ) → decoded k (cond (runs_or_ticks k) n (cond (runs_both k) m (cond (accesses k) (first_copy a) a))) v w
    ≡ at_first_copy (decoded k (cond (runs_or_ticks k) n (cond (runs_both k) m a)) v w)
unfolding decoded
copy_decoded zero a n m v w = refl
copy_decoded (suc zero) a n m v w = refl
copy_decoded (suc (suc zero)) a n m v w = refl
copy_decoded (suc (suc (suc zero))) a n m v w = refl
copy_decoded (suc (suc (suc (suc zero)))) a n m v w = refl
copy_decoded (suc (suc (suc (suc (suc zero))))) a n m v w = refl
copy_decoded (suc (suc (suc (suc (suc (suc zero)))))) a n m v w = refl
copy_decoded (suc (suc (suc (suc (suc (suc (suc zero))))))) a n m v w = refl
copy_decoded (suc (suc (suc (suc (suc (suc (suc (suc zero)))))))) a n m v w = refl
copy_decoded (suc (suc (suc (suc (suc (suc (suc (suc (suc zero))))))))) a n m v w = refl
copy_decoded (suc (suc (suc (suc (suc (suc (suc (suc (suc (suc zero)))))))))) a n m v w = refl
copy_decoded (suc (suc (suc (suc (suc (suc (suc (suc (suc (suc (suc k))))))))))) a n m v w = refl

copy_item : (f : Fields) → record_by (fields_at_first_copy f) ≡ at_first_copy (record_by f)
unfolding record_by
copy_item f = copy_decoded f.kind f.address (low f) (high f) (low f) f.value

copy_address_lem : (f : Fields) → address_number (record_by (fields_at_first_copy f)) ≡ address_number (record_by f)
copy_address_lem f = ap address_number (copy_item f) ∙ copy_number (record_by f)

copy_write_number : (f : Fields) (at n : ℕ) → write_number (fields_at_first_copy f) at n ≡ write_number f at n
unfolding write_number
copy_write_number f at n =
    ap (λ (i : ℕ). check (is_kind f.kind) 7 (before i (check (has_room at f.kind n) 14 0))) (copy_address_lem f)

pub written_at_first_copy : (f : Fields) → WrittenAtFirstCopy f
unfolding write_answer
written_at_first_copy f = record {
  number = copy_address_lem f;
  answer = λ at d.
      ap (λ (n : ℕ). if_refused n (answered n 0) (answered 0 (at + size f.kind))) (copy_write_number f at (length d));
  item = copy_item f;
}
