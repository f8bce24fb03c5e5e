-- An encoding passes the test and is read back: records and names, by induction over the abstract value.
use Rattle.std.specs.Prelude.{◌≡◌, ℕ, ◌+◌, ◌*◌, ◌/◌, Bool, true, false, ◌&&◌, List, [], ◌∷◌, ◌++◌, length, drop, ◌==◌, nat_le, slice_index, slice_index_or, Some}
use Rattle.std.proofs.Math.Path.{refl, ap}
use Rattle.std.proofs.Common.{sym, ◌∙◌, get_or-append-add, eq-eqb, le-leb}
use mathlib.Core.List.{append_assoc, append-nil}
use native.Mathlib.Omega.{arith}
use Rattle.std.proofs.Math.ListN.{length-append}
use Rattle.std.proofs.Math.Seq.{drop-append_seam}
use Rattle.window.specs.Name.{no_zero, is_name}
use Rattle.window.specs.Tests.{both, also}
use Rattle.register.specs.Words.{part}
use Rattle.register.specs.Lists.{part_middle}
use Rattle.register.specs.Module.{Export, Module, named_ok, ascending, proper_module, proper_modules}
use Rattle.register.specs.Encode.{export_words, export_names, module_names, module_words, flag, record_words, record_names}
use Rattle.register.specs.Decode.{export_at, exports_from, exports_in, module_size, read_module, read_modules}
use Rattle.register.specs.Check.{name_ok, exports_end, fixed_ok, export_part, module_end, modules_ok}

pub length-export_words : (q : ℕ) (xs : List Export) → length (export_words q xs) ≡ 3 * length xs
unfolding export_words
length-export_words q [] = refl
length-export_words q (x ∷ xs) = let h = length-export_words (q + length x.name) xs in omega arith

-- a name at its place
name-passes
    : (names name pre post : List ℕ) (q : ℕ) → names ≡ pre ++ (name ++ post) → length pre ≡ q → is_name name ≡ true
    → name_ok names q q (length name) ≡ true
unfolding name_ok is_name
name-passes names name pre post q e l h =
    let a = both (nat_le (length name) 512) (no_zero name) h in
    let p : part names q (length name) ≡ name = rw e (part_middle pre name post q (length name) l refl) in
    let n : length names ≡ length pre + (length name + length post) = rw (e, length-append, length-append) in
    also (eq-eqb q q refl) (also a.0 (also (le-leb (q + length name) (length names) (omega arith)) (rw p a.1)))

-- words of the list ys that stands after 3 k others
at-word : (before ys : List ℕ) (k j : ℕ) → length before ≡ 3 * k → slice_index (before ++ ys) (3 * k + j) ≡ slice_index ys j
at-word before ys k j e = rw (← e) (get_or-append-add before ys j 0)

-- exports in the middle of words, with their names in the middle of names
pub record ExportsBack (ws names : List ℕ) (k q : ℕ) (xs : List Export) : Type 0 where
  pub end : exports_end (length xs) ws names k q ≡ Some (q + length (export_names xs))
  pub back : exports_from (length xs) ws names k ≡ xs

pub exports_complete
    : (xs : List Export) (ws names before behind pre post : List ℕ) (k q : ℕ) → ws ≡ before ++ (export_words q xs ++ behind) → length before ≡ 3 * k
    → names ≡ pre ++ (export_names xs ++ post) → length pre ≡ q → named_ok xs ≡ true → ExportsBack ws names k q xs
unfolding exports_end exports_from export_at export_words export_names named_ok
exports_complete [] ws names before behind pre post k q ew lb en lp h =
    let z : q + 0 ≡ q = omega arith in
    record { end = rw z; back = refl }
exports_complete (x ∷ xs) ws names before behind pre post k q ew lb en lp h =
    step
    (exports_complete xs ws names (before ++ (q ∷ length x.name ∷ x.address ∷ [])) behind (pre ++ x.name) post (k + 1) (q + length x.name)
    (ew ∙ sym (append_assoc before (q ∷ length x.name ∷ x.address ∷ []) (export_words (q + length x.name) xs ++ behind)))
    (length-append before (q ∷ length x.name ∷ x.address ∷ []) ∙ omega arith)
    (en ∙ simp append_assoc)
    (length-append pre x.name ∙ omega arith)
    (both (is_name x.name) (named_ok xs) h).1)
  where
    rest : List ℕ
    rest = q ∷ length x.name ∷ x.address ∷ (export_words (q + length x.name) xs ++ behind)

    word₀ : slice_index_or ws (3 * k) 0 ≡ q
    word₀ = let z : 3 * k + 0 ≡ 3 * k = omega arith in rw ew (ap (λ j. slice_index (before ++ rest) j) (sym z) ∙ at-word before rest k 0 lb)

    word₁ : slice_index_or ws (3 * k + 1) 0 ≡ length x.name
    word₁ = rw ew (at-word before rest k 1 lb)

    word₂ : slice_index_or ws (3 * k + 2) 0 ≡ x.address
    word₂ = rw ew (at-word before rest k 2 lb)

    step : ExportsBack ws names (k + 1) (q + length x.name) xs → ExportsBack ws names k q (x ∷ xs)
    step i =
        let e : names ≡ pre ++ (x.name ++ (export_names xs ++ post)) = en ∙ simp append_assoc in
        let a = both (is_name x.name) (named_ok xs) h in
        let l : length (x.name ++ export_names xs) ≡ length x.name + length (export_names xs) = length-append x.name (export_names xs) in
        let p : part names q (length x.name) ≡ x.name = rw e (part_middle pre x.name (export_names xs ++ post) q (length x.name) lp refl) in
        record {
          end =
              rw (word₀, word₁, name-passes names x.name pre (export_names xs ++ post) q e lp a.0)
              (i.end ∙ ap (λ t. Some t) (omega arith));
          back = rw (i.back, word₀, word₁, word₂, p);
        }

-- a record in front of words, with its names in the middle of names
pub record Written (ws names : List ℕ) (q : ℕ) (m : Module) : Type 0 where
  pub end : module_end ws names q ≡ Some (q + length (module_names m))
  pub back : read_module ws names ≡ m
  pub size : module_size ws ≡ length (module_words q m)

flag-back : (b : Bool) → (flag b == 1) ≡ b
unfolding flag
flag-back true = refl
flag-back false = refl

flag_small : (b : Bool) → nat_le (flag b) 1 ≡ true
unfolding flag
flag_small true = refl
flag_small false = refl

module _ (m : Module) (rest : List ℕ) (q : ℕ) where
  abbrev ws : List ℕ
  ws = module_words q m ++ rest

  abbrev segs : List ℕ
  segs = m.segments

  abbrev ex : List ℕ
  ex = export_words (q + length m.name) m.named

  abbrev idx : List ℕ
  idx = m.indexed

  abbrev first : List ℕ
  first =
      m.base ∷ m.size ∷ flag m.auto ∷ q ∷ length m.name ∷ length segs ∷ length m.named ∷ length idx ∷ []

  segments-part : part ws 8 (length segs) ≡ segs
  unfolding module_words
  segments-part =
      let e : module_words q m ++ rest ≡ first ++ (segs ++ (ex ++ (idx ++ rest))) = simp append_assoc in
      rw e (part_middle first segs (ex ++ (idx ++ rest)) 8 (length segs) refl refl)

  pub exports_part : export_part ws ≡ ex
  unfolding module_words export_part
  exports_part =
      let e : module_words q m ++ rest ≡ (first ++ segs) ++ (ex ++ (idx ++ rest)) = simp append_assoc in
      rw e
      (part_middle (first ++ segs) ex (idx ++ rest) (8 + length segs) (3 * length m.named) (length-append first segs)
      (length-export_words (q + length m.name) m.named))

  indexed_part : part ws (8 + (length segs + 3 * length m.named)) (length idx) ≡ idx
  unfolding module_words
  indexed_part =
      let e : module_words q m ++ rest ≡ (first ++ (segs ++ ex)) ++ (idx ++ rest) = simp append_assoc in
      let l = length-export_words (q + length m.name) m.named in
      rw e
      (part_middle (first ++ (segs ++ ex)) idx rest (8 + (length segs + 3 * length m.named)) (length idx)
      (rw (length-append, length-append, l))
      refl)

  name-word : slice_index_or ws 4 0 ≡ length m.name
  unfolding module_words
  name-word = refl

  pub record_size : module_size ws ≡ length (module_words q m)
  unfolding module_words module_size
  record_size =
      let l = length-export_words (q + length m.name) m.named in
      let a : length (segs ++ (ex ++ idx)) ≡ length segs + (length ex + length idx) = rw (length-append, length-append) in
      omega arith

module _ (m : Module) (rest names pre post : List ℕ) (q : ℕ) (en : names ≡ pre ++ (module_names m ++ post)) (lp : length pre ≡ q)
    (h : proper_module m ≡ true) where
  proper-parts
      : (is_name m.name ≡ true) × (nat_le (length m.segments) 16 ≡ true) × (named_ok m.named ≡ true) × (ascending m.named ≡ true)
  unfolding proper_module
  proper-parts =
      let a = both (is_name m.name) (nat_le (length m.segments) 16 && (named_ok m.named && ascending m.named)) h in
      let b = both (nat_le (length m.segments) 16) (named_ok m.named && ascending m.named) a.1 in
      let c = both (named_ok m.named) (ascending m.named) b.1 in
      (a.0, b.0, c.0, c.1)

  own : names ≡ pre ++ (m.name ++ (export_names m.named ++ post))
  unfolding module_names
  own = en ∙ simp append_assoc

  listed : ExportsBack (ex m rest q) names 0 (q + length m.name) m.named
  listed =
      exports_complete m.named (ex m rest q) names [] [] (pre ++ m.name) post 0 (q + length m.name) (sym (append-nil (ex m rest q))) refl
      (own ∙ simp append_assoc)
      (length-append pre m.name ∙ ap (λ t. t + length m.name) lp)
      proper-parts.2

  count : length (ex m rest q) / 3 ≡ length m.named
  count = let l = length-export_words (q + length m.name) m.named in omega arith

  name-part : part names q (length m.name) ≡ m.name
  name-part = rw own (part_middle pre m.name (export_names m.named ++ post) q (length m.name) lp refl)

  exports_back : exports_in (export_part (ws m rest q)) names ≡ m.named
  unfolding exports_in
  exports_back = rw (exports_part m rest q, count) listed.back

  fixed_passes : fixed_ok (ws m rest q) names q ≡ true
  unfolding fixed_ok module_words
  fixed_passes =
      let n : length (ws m rest q) ≡ length (module_words q m) + length rest = length-append (module_words q m) rest in
      let s = record_size m rest q in
      also (le-leb 8 (length (ws m rest q)) (omega arith))
      (also (le-leb (module_size (ws m rest q)) (length (ws m rest q)) (omega arith))
      (also (flag_small m.auto)
      (also proper-parts.1 (name-passes names m.name pre (export_names m.named ++ post) q own lp proper-parts.0))))

  end_passes : module_end (ws m rest q) names q ≡ Some (q + length (module_names m))
  unfolding module_end module_names
  end_passes =
      let l : length (m.name ++ export_names m.named) ≡ length m.name + length (export_names m.named) =
      length-append m.name (export_names m.named) in
      rw (fixed_passes, exports_back, proper-parts.3, exports_part m rest q, count, name-word m rest q)
      (listed.end ∙ ap (λ t. Some t) (omega arith))

  pub module_complete : Written (module_words q m ++ rest) names q m
  unfolding read_module module_words export_part
  module_complete =
      record {
        end = end_passes;
        back = rw (flag-back m.auto, name-part, segments-part m rest q, exports_back, indexed_part m rest q);
        size = record_size m rest q;
      }

-- all records, to the end of the words and of the names
pub record RecordsBack (ws names : List ℕ) (q : ℕ) (ms : List Module) : Type 0 where
  pub end : modules_ok (length ms) ws names q ≡ true
  pub back : read_modules (length ms) ws names ≡ ms

pub modules_complete
    : (ms : List Module) (names pre : List ℕ) (q : ℕ) → names ≡ pre ++ record_names ms → length pre ≡ q → proper_modules ms ≡ true
    → RecordsBack (record_words q ms) names q ms
unfolding modules_ok read_modules record_words record_names proper_modules
modules_complete [] names pre q en lp h =
    let l : length names ≡ q = rw (en, append-nil) lp in
    record { end = eq-eqb q (length names) (sym l); back = refl }
modules_complete (m ∷ ms) names pre q en lp h =
    let a = both (proper_module m) (proper_modules ms) h in
    let w = module_complete m (record_words (q + length (module_names m)) ms) names pre (record_names ms) q en lp a.0 in
    let i =
    modules_complete ms names (pre ++ module_names m) (q + length (module_names m)) (en ∙ simp append_assoc)
    (length-append pre (module_names m) ∙ ap (λ t. t + length (module_names m)) lp)
    a.1 in
    let d : drop (module_size (module_words q m ++ record_words (q + length (module_names m)) ms))
    (module_words q m ++ record_words (q + length (module_names m)) ms)
    ≡ record_words (q + length (module_names m)) ms =
    rw w.size (drop-append_seam (module_words q m) (record_words (q + length (module_names m)) ms)) in
    record { end = rw (w.end, d) i.end; back = rw (w.back, d, i.back) }
