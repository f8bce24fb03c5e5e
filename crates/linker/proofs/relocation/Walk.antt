-- The batch walk at an entry that is inside with its segment, each in a row, and past entries wholly outside.
use Rattle.std.proofs.Common.{◌≡◌, ℕ, zero, suc, ◌+◌, ◌-◌, ◌*◌, ◌%◌, ◌^◌, ◌<◌, ◌≤◌, Bool, true, false, List, length, get_or, refl, ap, ◌∙◌, arith, lit<, Some}
use Rattle.window.specs.Memory.{◌⊕◌}
use Rattle.window.specs.Word.{word_in}
use Rattle.window.specs.Trace.{State, said, run_t}
use Rattle.window.specs.Row.{Stands, stands_part, stands_first}
use Rattle.window.specs.Outside.{AllOutside, stride_of, silent_stride, silent_goes, passed-outside, first_read, part_read, part_byte_read}
use Rattle.window.proofs.row.Laws.{byte_there, word-there}
use Rattle.layout.specs.Header.{relocation_entry_size}
use Rattle.layout.specs.Format.{relocation_type, tag_segment, tag_offset}
use Rattle.layout.specs.Segments.{entry_at}
use Rattle.layout.specs.SegmentRow.{segment_row}
use Rattle.layout.specs.Relocation.Relocation.{apply_relocation}
use Rattle.layout.specs.declared.format.RelocationType.{RelocationType}
use Rattle.layout.proofs.Accesses.{tag-past_end, tag-there}
use Rattle.layout.proofs.SegmentRow.{segment_in}
use Rattle.linker_spec.specs.Relocation.{walk}
use Rattle.linker.specs.Relocation.Entry.{relocate_entry, walk_entry}
use Rattle.linker.proofs.relocation.Laws.{relocate_nowhere, relocate-at, entry_walked, entry-idle, walk_on}

-- inside

module _ (at base symbol entry : ℕ) (w t : List ℕ) {i : ℕ} (stands : Stands at (length w) entry 12 i) where
  abbrev s : State
  s = (w, t)

  part : (k n : ℕ) → k + n ≤ 12 → 0 < n → Stands at (length w) (entry ⊕ k) n (i + k)
  part k n l some = stands_part at (length w) entry 12 i k n stands l some

  walked_in
      : {tag kind end addend : ℕ} {v : State} → tag ≡ word_in w i → kind ≡ get_or w (i + 4) 0 → end ≡ get_or w (i + 5) 0
      → addend ≡ word_in w (i + 8) → v ≡ (run_t at (relocate_entry base symbol tag kind addend) s).1
      → (end, v) ≡ run_t at (walk_entry base symbol entry) s
  walked_in et ek ee ea g =
      entry_walked at base symbol entry s
      (ap (λ x. (x, s)) et ∙ word-there at w entry i (stands_first at (length w) entry 12 i 4 stands (lit< tt)) t)
      refl (ap (λ x. (x, s)) ek ∙ byte_there at w (entry ⊕ 4) (i + 4) (part 4 1 (lit< tt) (lit< tt)) t)
      refl (ap (λ x. (x, s)) ee ∙ byte_there at w (entry ⊕ 5) (i + 5) (part 5 1 (lit< tt) (lit< tt)) t)
      refl (ap (λ x. (x, s)) ea ∙ word-there at w (entry ⊕ 8) (i + 8) (part 8 4 (lit< tt) (lit< tt)) t)
      g

  module _ {tag j x end size q : ℕ} (et : tag ≡ word_in w i) (ej : j ≡ tag_segment tag) (row : segment_row at w base j ≡ Some q)
      (ee : end ≡ get_or w (i + 5) 0) (ex : x ≡ tag_offset tag) (es : size ≡ word_in w (q + 4)) where
    pub inside_nowhere : size ≤ x → (end, s) ≡ run_t at (walk_entry base symbol entry) s
    inside_nowhere l =
        walked_in et refl ee refl
        (relocate_nowhere at base symbol tag _ _ s
        (tag-past_end at base tag s ej (segment_in at w base j row t refl es refl refl) _ refl ex l) refl)

    pub inside-at
        : {offset target kind addend : ℕ} {k : RelocationType} {v : State} → x < size → offset ≡ word_in w q → target ≡ offset ⊕ x
        → kind ≡ get_or w (i + 4) 0 → k ≡ relocation_type kind → addend ≡ word_in w (i + 8)
        → v ≡ (run_t at (apply_relocation target k addend symbol target) s).1 → (end, v) ≡ run_t at (walk_entry base symbol entry) s
    inside-at {kind = kind} {addend} l eo e ek k ea h =
        walked_in et ek ee ea
        (relocate-at at base symbol tag kind addend s
        (tag-there at base tag s ej (segment_in at w base j row t eo es refl refl) _ refl ex l e) refl k h)

-- outside

module _ (at base symbol : ℕ) (w t : List ℕ) (kept : said t ≡ true) where
  entry-passed : (x : ℕ) → AllOutside at (length w) x relocation_entry_size → (0, (w, t)) ≡ run_t at (walk_entry base symbol x) (w, t)
  entry-passed x out =
      entry_walked at base symbol x (w, t) (first_read at w t kept x relocation_entry_size out (omega arith))
      refl (part_byte_read at w t kept x relocation_entry_size out 4 (omega arith))
      refl (part_byte_read at w t kept x relocation_entry_size out 5 (omega arith))
      refl (part_read at w t kept x relocation_entry_size out 8 (omega arith))
      (entry-idle at base symbol w t kept)

  -- p of them, k of m entries having been walked before
  passed_over
      : (p k m entry : ℕ) → k + p ≤ m → ((j : ℕ) → j < p → AllOutside at (length w) (entry_at entry j relocation_entry_size) relocation_entry_size)
      → run_t at (walk (m - (k + p)) base symbol (entry_at entry p relocation_entry_size) (k + p)) (w, t)
      ≡ run_t at (walk (m - k) base symbol (entry % 2 ^ 32) k) (w, t)
  passed_over zero k m entry l out =
      let a : k + 0 ≡ k = omega arith in
      let b : entry + 0 * relocation_entry_size ≡ entry = omega arith in
      rw (a, b)
  passed_over (suc p) k m entry l out =
      let a : k + suc p ≡ k + 1 + p = omega arith in
      let b : entry + suc p * relocation_entry_size ≡ entry + relocation_entry_size + p * relocation_entry_size = omega arith in
      let c : entry + 0 * relocation_entry_size ≡ entry = omega arith in
      rw (a, b)
      (passed_over p (k + 1) m (entry + relocation_entry_size) (omega arith)
      (λ j h. let d : entry + relocation_entry_size + j * relocation_entry_size ≡ entry + suc j * relocation_entry_size = omega arith in
      rw d (out (suc j) (omega arith)))
      ∙ walk_on at base symbol (entry % 2 ^ 32) (w, t) m k (omega arith) (entry-passed (entry % 2 ^ 32) (rw c at (out 0 (omega arith)))) refl (omega arith))

module _ (at base symbol entry : ℕ) (s : State) (m k : ℕ) {end : ℕ} {w t : List ℕ} (low : entry < 2 ^ 32) (l : k < m)
    (h : (end, (w, t)) ≡ run_t at (walk_entry base symbol entry) s) (z : end ≡ 0) where
  past
      : (b : Bool) → said t ≡ b → (p : ℕ) → p ≡ silent_stride at (length w) t entry relocation_entry_size (m - k)
      → run_t at (walk (m - (k + p)) base symbol (entry_at entry p relocation_entry_size) (k + p)) (w, t) ≡ run_t at (walk (m - k) base symbol entry k) s
  unfolding silent_stride
  past true y p e =
      let goes = silent_goes at (length w) t entry relocation_entry_size (m - k) e (omega arith) in
      let d : p ≡ stride_of at (length w) entry relocation_entry_size (m - k) = rw y at e in
      let a : k + 1 + (p - 1) ≡ k + p = omega (arith, goes) in
      let b : entry + relocation_entry_size + (p - 1) * relocation_entry_size ≡ entry + p * relocation_entry_size = omega (arith, goes) in
      rw (← a, ← b)
      (passed_over at base symbol w t y (p - 1) (k + 1) m (entry + relocation_entry_size) (omega (arith, goes))
      (λ j g. let c : entry + relocation_entry_size + j * relocation_entry_size ≡ entry + suc j * relocation_entry_size = omega arith in
      rw c (passed-outside at (length w) entry relocation_entry_size 0 (m - k) (suc j) {entry = entry} (omega arith) (omega (arith, d)) (omega arith) (omega (arith, d))))
      ∙ walk_on at base symbol entry s m k l h z refl)
  past false y p e =
      let d : p ≡ 1 = rw y at e in
      rw d (walk_on at base symbol entry s m k l h z (omega arith))

  module _ {p : ℕ} (e : p ≡ silent_stride at (length w) t entry relocation_entry_size (m - k)) where
    pub walk-past
        : {next : ℕ} → next ≡ entry_at entry p relocation_entry_size
        → run_t at (walk (m - (k + p)) base symbol next (k + p)) (w, t) ≡ run_t at (walk (m - k) base symbol entry k) s
    walk-past n = rw n (past (said t) refl p e)

    pub walk_filled : {n : ℕ} → n ≡ k + p → k + p ≡ m → (n, (w, t)) ≡ run_t at (walk (m - k) base symbol entry k) s
    unfolding walk run_t
    walk_filled en f =
        let y : m - (k + p) ≡ 0 = omega arith in
        rw en (rw (y, walk, run_t) at (past (said t) refl p e))
